use Rattle.std.proofs.Common.{◌≡◌, Ok, sym, subst}
use Rattle.scripts.specs.TextLines.{TakesLines, lines_taken}
use Rattle.configurations.specs.Configurations.{SubscribingDraft, no_subscribing, subscribing_line, subscribing_whole}
use Rattle.configurations.specs.Kept.{EndsSubscribing, ReadsSubscribing, subscribing_drafted}
use Rattle.configurations.specs.declared.subscriber_config.ReadSubscribe.{ReadSubscribe}
use Rattle.configurations.specs.declared.subscriber_config.ReadSubscribe.TheVariants.{Whole, Outside}
use Rattle.configurations.proofs.TakenLines.{outside, ends, misses}
use Rattle.configurations.proofs.subscriber_config.read_subscribe.Goals as goal

pub returns-in-All : goal.returns-in-All
returns-in-All c = ended c.finish.result c.finish.ensures
  where
    all : (made : SubscribingDraft) × (made ≡ subscribing_drafted c.take_lines.new.draft) × (lines_taken subscribing_line no_subscribing c.args.octets.now ≡ Ok (made, c.in-All.behind))
    all = subst (TakesLines (lines_taken subscribing_line no_subscribing c.args.octets.now) (λ (made : SubscribingDraft). made ≡ subscribing_drafted c.take_lines.new.draft)) c.in-All.is (c.in_ok-taken.ensures no_subscribing (sym c.new-draft.ensures))

    ended : (read : ReadSubscribe) → EndsSubscribing (subscribing_drafted c.take_lines.new.draft) c.in-All.behind read → ReadsSubscribing c.args.octets.now read
    ended (Whole configuration) e = ends subscribing_line subscribing_whole no_subscribing c.args.octets.now (subscribing_drafted c.take_lines.new.draft) c.in-All.behind all _ e
    ended (Outside n) e = misses subscribing_line subscribing_whole no_subscribing c.args.octets.now (subscribing_drafted c.take_lines.new.draft) c.in-All.behind all n e.0 e.1

pub returns-in-Outside : goal.returns-in-Outside
returns-in-Outside c =
    let all =
    subst (TakesLines (lines_taken subscribing_line no_subscribing c.args.octets.now) (λ (made : SubscribingDraft). made ≡ subscribing_drafted c.take_lines.new.draft)) c.in-Outside.is (c.in_ok-taken.ensures no_subscribing (sym c.new-draft.ensures)) in
    outside subscribing_line subscribing_whole no_subscribing c.args.octets.now c.in-Outside.number all
