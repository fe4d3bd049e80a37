use Rattle.std.proofs.Common.{◌≡◌, List, [], Bool, true, false, ◌∙◌, sym, subst, rules}
use Rattle.rrset.specs.declared.record.Question.{Question}
use Rattle.browsing.specs.declared.browser.Browser.{Browser}
use Rattle.browsing.specs.Browsing.{StandsAs, drops_all}
use Rattle.browsing.proofs.Folding.{NotesAs}
use Rattle.browsing.proofs.Machine.{forgotten}
use Rattle.browsing.proofs.browser.Browser.forget.Goals as goal

pub returns-then-not-settled : goal.returns-then-not-settled
returns-then-not-settled c = λ b s.
    let e : c.args.settled ≡ false = search rules in
    subst (λ (t : Bool). StandsAs c.args.self.now (forgotten t c.args.needed.now b)) (sym e) s

pub returns : goal.returns
returns c = λ b s.
    let needed = c.args.needed.now in
    let asked = c.as_slice.ensures ∙ s.asked in
    let first : NotesAs c.drop_all.new.client c.drop_all.new.kept (drops_all needed c.as_slice.result.now (b.client, c.new-kept.result)) = c.in_ok-drop_all.ensures b.client s.client in
    let second : NotesAs c.drop_all.new.client c.drop_all.new.kept (drops_all needed b.asked (b.client, c.new-kept.result)) =
    subst (λ (qs : List Question). NotesAs c.drop_all.new.client c.drop_all.new.kept (drops_all needed qs (b.client, c.new-kept.result))) asked first in
    let third : NotesAs c.drop_all.new.client c.drop_all.new.kept (drops_all needed b.asked (b.client, [])) =
    subst (λ (qs : List Question). NotesAs c.drop_all.new.client c.drop_all.new.kept (drops_all needed b.asked (b.client, qs))) c.new-kept.ensures second in
    let e : c.args.settled ≡ true = search rules in
    let new : Browser = record c.args.self.now { client = c.drop_all.new.client; asked = c.drop_all.new.kept } in
    subst (λ (t : Bool). StandsAs new (forgotten t needed b)) (sym e) (record { client = third.0; root = s.root; asked = third.1; heard = s.heard; showing = s.showing; stage = s.stage })
