use Rattle.std.proofs.Common.{◌∙◌, sym, ap}
use Rattle.rrset.specs.declared.record.Question.{Question}
use Rattle.pushclient.specs.Clients.{held}
use Rattle.browsing.specs.Browsing.{refused_in}
use Rattle.browsing.proofs.Telling.{refused_told, told_refused}
use Rattle.browsing.proofs.browser.Browser.refused.Goals as goal

pub returns-in-Asked : goal.returns-in-Asked
returns-in-Asked c = λ b s. sym (ap refused_told c.in-Asked.is) ∙ told_refused c.mirror.result (held b.client c.args.self.now.root) (c.mirror.ensures b.client s.client) ∙ ap (λ (q : Question). refused_in (held b.client q)) s.root

pub returns-in-Off : goal.returns-in-Off
returns-in-Off c = λ b s. sym (ap refused_told c.in-Off.is) ∙ told_refused c.mirror.result (held b.client c.args.self.now.root) (c.mirror.ensures b.client s.client) ∙ ap (λ (q : Question). refused_in (held b.client q)) s.root

pub returns-in-Refused : goal.returns-in-Refused
returns-in-Refused c = λ b s. sym (ap refused_told c.in-Refused.is) ∙ told_refused c.mirror.result (held b.client c.args.self.now.root) (c.mirror.ensures b.client s.client) ∙ ap (λ (q : Question). refused_in (held b.client q)) s.root

pub returns-in-Answered : goal.returns-in-Answered
returns-in-Answered c = λ b s. sym (ap refused_told c.in-Answered.is) ∙ told_refused c.mirror.result (held b.client c.args.self.now.root) (c.mirror.ensures b.client s.client) ∙ ap (λ (q : Question). refused_in (held b.client q)) s.root
