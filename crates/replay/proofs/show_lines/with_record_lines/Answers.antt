use Rattle.std.proofs.Common.{◌++◌, ◌∙◌, ap, string_bytes}
use Rattle.replay.proofs.shows.ShowTexts.{record-more}
use Rattle.replay.proofs.show_lines.with_record_lines.Goals as goal

pub records-preserved : goal.records-preserved
records-preserved c =
    record-more c.args.records.now c.records.entry-index c.entry-item.result (string_bytes c.records.text) (string_bytes c.in_ok-line.line) (string_bytes c.push_str.new.self) _ c.records-test.true c.entry-item.is c.in_ok-line.ensures
    (c.in_ok-push_str.ensures.bytes ∙ ap (λ l. string_bytes c.records.text ++ l) c.as_str.ensures.value) c.records.invariant
