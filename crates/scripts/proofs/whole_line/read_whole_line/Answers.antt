use Rattle.std.proofs.Common.{◌≡◌, [], IfOk, sym, ap, ◌∙◌, subst}
use Rattle.std.specs.Prelude.{Option, option_map}
use Rattle.scripts.specs.Lines.{words_in}
use Rattle.scripts.specs.WholeLines.{WholeLine as Plain, whole_behind, whole_of_words}
use Rattle.scripts.specs.KeptWhole.{whole_said}
use Rattle.scripts.specs.declared.whole_line.WholeKind.{WholeKind}
use Rattle.scripts.specs.declared.whole_line.WholeLine.{WholeLine}
use Rattle.scripts.proofs.whole_line.read_whole_line.Goals as goal

pub returns-in-Some : goal.returns-in-Some
returns-in-Some c =
    let text = c.args.line.now in
    let rest = words_in c.in-Some.rest.now in
    let says = ap (λ (k : WholeKind). whole_behind k text rest) c.whole_kind-in-Some.ensures ∙ sym (ap (whole_of_words text) c.in-Some.ensures.found) in
    record { exact = subst (λ (line : Option Plain). IfOk c.longer_line.result (λ (found : Option WholeLine). option_map {T = WholeLine} {U = Plain} (λ l. whole_said l) found ≡ line)) says c.longer_line.ensures.exact }

pub returns-in-None : goal.returns-in-None
returns-in-None c =
    let text = c.args.line.now in
    let says = ap (λ (k : WholeKind). whole_behind k text []) c.whole_kind.ensures ∙ sym (ap (whole_of_words text) c.in-None.ensures.none) in
    record { exact = subst (λ (line : Option Plain). IfOk c.single_word.result (λ (found : Option WholeLine). option_map {T = WholeLine} {U = Plain} (λ l. whole_said l) found ≡ line)) says c.single_word.ensures.exact }
