use Rattle.std.proofs.Common.{◌≡◌, ℕ, Bool, ◌∙◌, ap}
use Rattle.std.specs.Prelude.{◌&&◌, nat_le}
use Rattle.rrset.specs.declared.record.Question.{Question}
use Rattle.pushclient.specs.Clients.{held}
use Rattle.browsing.specs.declared.showing.TheConstants as times
use Rattle.browsing.specs.Showing.{later}
use Rattle.browsing.specs.Browsing.{has_answers, is_answered, is_settled}
use Rattle.browsing.proofs.browser.Browser.progress.Goals as goal

pub returns : goal.returns
returns c = λ b s.
    let needed = c.args.needed.now in
    let now = c.args.now in
    let a : c.is_answered-answered.result ≡ has_answers needed b = c.is_answered-answered.ensures b.client s.client ∙ ap (λ (r : Question). is_answered (held b.client) r needed) s.root in
    let t : c.is_settled-settled.result ≡ is_settled needed now b = c.is_settled-settled.ensures
    ∙ ap (λ (x : Bool). x && nat_le (later c.args.self.now.heard times.QUIET) now) a
    ∙ ap (λ (h : ℕ). has_answers needed b && nat_le (later h times.QUIET) now) s.heard in
    λ i. record { answered = a i; settled = t i }
