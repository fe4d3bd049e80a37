use Rattle.std.proofs.Common.{◌++◌, ◌∙◌, ap, string_bytes}
use Rattle.subscriber.proofs.NoticeTexts.{notice-more}
use Rattle.subscriber.proofs.wording.notice_lines.Goals as goal

pub notices-preserved : goal.notices-preserved
notices-preserved c =
    notice-more c.args.notices.now c.notices.notice-index c.notice-item.result (string_bytes c.notices.text) (string_bytes c.in_ok-line.line) (string_bytes c.push_str.new.self) _ c.notices-test.true c.notice-item.is c.in_ok-line.ensures
    (c.in_ok-push_str.ensures.bytes ∙ ap (λ l. string_bytes c.notices.text ++ l) c.as_str.ensures.value) c.notices.invariant
