use Rattle.std.proofs.Common.{◌≡◌, Bool, true, false, ◌∙◌, sym, subst}
use Rattle.browsing.specs.declared.browser.Browser.{Browser}
use Rattle.browsing.specs.Browsing.{is_idle}
use Rattle.browsing.proofs.Machine.{TurnedSo, idles_alike}
use Rattle.browsing.proofs.browser.Browser.turn.Goals as goal

pub returns-then-is_idle : goal.returns-then-is_idle
returns-then-is_idle c = λ b s.
    let e : is_idle c.args.octets.now c.args.now b ≡ true = sym (idles_alike c.args.octets.now c.args.now c.args.self.now b s) ∙ sym c.is_idle.ensures ∙ c.if-is_idle.true in
    let new : Browser = record c.args.self.now { client = c.moment.new.self } in
    subst (λ (t : Bool). TurnedSo t c.new.result new c.args.octets.now c.args.now b) (sym e)
    (c.new.ensures, record { client = c.in_ok-moment.ensures.ok b.client s.client; root = s.root; asked = s.asked; heard = s.heard; showing = s.showing; stage = s.stage })

pub returns : goal.returns
returns c = λ b s.
    let e : is_idle c.args.octets.now c.args.now b ≡ false = sym (idles_alike c.args.octets.now c.args.now c.args.self.now b s) ∙ sym c.is_idle.ensures ∙ c.if-is_idle.false in
    subst (λ (t : Bool). TurnedSo t c.in_ok-told.told c.turn_over.new.self c.args.octets.now c.args.now b) (sym e) (c.in_ok-told.ensures b s)
