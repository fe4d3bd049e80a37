use Rattle.std.proofs.Common.{◌≡◌, Bool, true, false, ◌&&◌, Some, None, refl, sym, ◌∙◌, ap, subst}
use Rattle.std.specs.Prelude.{is_none, position, string_bytes}
use Rattle.std.specs.Str.{bytes_eq}
use Rattle.dnsname.specs.Names.{Labels}
use Rattle.history.specs.Homes.{home_fault}
use Rattle.history.specs.States.{State}
use Rattle.history.specs.declared.entry.HomeKind.TheVariants as of_home
use Rattle.scripts.specs.Lines.{Word}
use Rattle.scripts.specs.Scripts.{is_among}
use Rattle.scripts.specs.KeptLines.{words_of}
use Rattle.scripts.specs.HeadHomes.{NamedHomes}
use Rattle.scripts.proofs.lines.HeadTaken.{unknown-word, known-word}
use Rattle.scripts.proofs.lines.NamedLinks.{has-no-row, named-reverse}
use Rattle.scripts.proofs.head_homes.HeadHomes.take_reverse.Goals as goal

-- whether it may stand there
abbrev may_be : Word → Labels → NamedHomes → Bool
may_be w domain named = is_among named.words w && is_none (home_fault named.homes.names (domain, of_home.Reverse))

pub returns-in_default-clause-may : goal.returns-in_default-clause-may
returns-in_default-clause-may c =
    let w = string_bytes c.args.line.word in
    let words = words_of c.self.inside.words.items in
    let none : position (bytes_eq w) words ≡ None = (λ i. position (bytes_eq (sym c.as_bytes.ensures.value i)) (words_of (sym c.deref.ensures.value i))) ∙ sym c.place_among.ensures ∙ c.in_default.is in
    subst (λ (named : NamedHomes). false ≡ may_be w c.args.line.domain named) c.self.view_is (unknown-word words w _ none)

pub add_reverse-requires : goal.add_reverse-requires
add_reverse-requires c =
    let w = string_bytes c.args.line.word in
    let words = words_of c.self.inside.words.items in
    let at : position (bytes_eq w) words ≡ Some c.in-Some.link = (λ i. position (bytes_eq (sym c.as_bytes.ensures.value i)) (words_of (sym c.deref.ensures.value i))) ∙ sym c.place_among.ensures ∙ c.in-Some.is in
    has-no-row (record { homes = c.self.inside.homes; words = words }) w c.in-Some.link c.self.invariant at

pub invariant_of-self : goal.invariant_of-self
invariant_of-self c =
    let words = words_of c.self.inside.words.items in
    named-reverse (record { homes = c.self.inside.homes; words = words }) (record { homes = c.add_reverse.new.self; words = words }) c.self.invariant c.in-Some.link c.args.line.domain (ap (λ (s : State). s.links) c.in-Ok.ensures.ok) refl

pub returns-in-Ok-clause-may : goal.returns-in-Ok-clause-may
returns-in-Ok-clause-may c =
    let w = string_bytes c.args.line.word in
    let words = words_of c.self.inside.words.items in
    let at : position (bytes_eq w) words ≡ Some c.in-Some.link = (λ i. position (bytes_eq (sym c.as_bytes.ensures.value i)) (words_of (sym c.deref.ensures.value i))) ∙ sym c.place_among.ensures ∙ c.in-Some.is in
    subst (λ (named : NamedHomes). true ≡ may_be w c.args.line.domain named) c.self.view_is (known-word words w c.self.inside.homes.names (c.args.line.domain, of_home.Reverse) c.in-Some.link at c.in-Ok.ensures.fault)
