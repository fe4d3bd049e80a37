use Rattle.std.proofs.Common.{◌≡◌, ℕ, List, length, ◌∙◌, ap, subst}
use Rattle.browsing.specs.declared.showing.Showing.{Showing}
use Rattle.browsing.specs.declared.showing.Progress.{Progress}
use Rattle.browsing.specs.Showing.{shows}
use Rattle.browsing.specs.Browsing.{StandsAs, progress, stage_after}
use Rattle.browsing.proofs.Machine.{forgotten, shows_as_before}
use Rattle.browsing.proofs.browser.Browser.conclude.Goals as goal

pub returns : goal.returns
returns c = λ b s.
    let needed = c.args.needed.now in
    let now = c.args.now in
    let list = c.args.list in
    let far = c.progress-progress.ensures b s in
    let left = subst (λ (w : Progress). StandsAs c.forget.new.self (forgotten w.settled needed b)) far (c.in_ok-forget.ensures b s) in
    let same : c.forget.new.self.showing ≡ b.showing = left.showing ∙ shows_as_before (progress needed now b).settled needed b in (
      c.in_ok-told.ensures.told ∙ ap (λ (w : Progress). (shows list w now c.forget.new.self.showing).0) far ∙ ap (λ (w : Showing). (shows list (progress needed now b) now w).0) same,
      record {
        client = left.client;
        root = left.root;
        asked = left.asked;
        heard = left.heard;
        stage = c.stage_after-self.ensures ∙ ap (λ (w : Progress). stage_after w c.count-asked.result c.count.result) far
            ∙ ap (λ (n : ℕ). stage_after (progress needed now b) n c.count.result) (c.count-asked.ensures b s)
            ∙ ap (stage_after (progress needed now b) (length b.asked)) (c.count.ensures (forgotten (progress needed now b).settled needed b) left);
        showing = c.in_ok-told.ensures.shown ∙ ap (λ (w : Progress). (shows list w now c.forget.new.self.showing).1) far ∙ ap (λ (w : Showing). (shows list (progress needed now b) now w).1) same;
      },
    )
