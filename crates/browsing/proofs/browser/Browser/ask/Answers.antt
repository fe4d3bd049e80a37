use Rattle.std.proofs.Common.{List, subst}
use Rattle.rrset.specs.declared.record.Question.{Question}
use Rattle.browsing.specs.Browsing.{asks_all}
use Rattle.browsing.proofs.Folding.{NotesAs}
use Rattle.browsing.proofs.browser.Browser.ask.Goals as goal

pub returns : goal.returns
returns c = λ b s.
    let all = asks_all c.args.needed.now (b.client, b.asked) in
    let notes : NotesAs c.ask_all.new.client c.ask_all.new.asked all = subst (λ (qs : List Question). NotesAs c.ask_all.new.client c.ask_all.new.asked (asks_all c.args.needed.now (b.client, qs))) s.asked (c.in_ok-ask_all.ensures b.client s.client) in
    record { client = c.in_ok-moment.ensures.ok all.0 notes.0; root = s.root; asked = notes.1; heard = s.heard; showing = s.showing; stage = s.stage }
