use Rattle.std.proofs.Common.{◌≡◌, Ok, sym, subst}
use Rattle.scripts.specs.TextLines.{TakesLines, lines_taken}
use Rattle.configurations.specs.Configurations.{ServingDraft, no_serving, serving_line, serving_whole}
use Rattle.configurations.specs.Kept.{EndsServing, ReadsServing, serving_drafted, serving_kept}
use Rattle.configurations.specs.declared.server_config.ReadServe.{ReadServe}
use Rattle.configurations.specs.declared.server_config.ReadServe.TheVariants.{Whole, Outside}
use Rattle.configurations.proofs.Starts.{serves}
use Rattle.configurations.proofs.TakenLines.{outside, ends, misses}
use Rattle.configurations.proofs.server_config.read_serve.Goals as goal

pub returns-in-All : goal.returns-in-All
returns-in-All c = ended c.finish.result c.finish.ensures
  where
    all : (made : ServingDraft) × (made ≡ serving_drafted c.take_lines.new.draft) × (lines_taken serving_line no_serving c.args.octets.now ≡ Ok (made, c.in-All.behind))
    all = subst (TakesLines (lines_taken serving_line no_serving c.args.octets.now) (λ (made : ServingDraft). made ≡ serving_drafted c.take_lines.new.draft)) c.in-All.is (c.in_ok-taken.ensures no_serving (sym c.new-draft.ensures))

    ended : (read : ReadServe) → EndsServing (serving_drafted c.take_lines.new.draft) c.in-All.behind read → ReadsServing c.args.octets.now read
    ended (Whole configuration) e =
        let read = ends serving_line serving_whole no_serving c.args.octets.now (serving_drafted c.take_lines.new.draft) c.in-All.behind all (serving_kept configuration) e in
        (read, serves c.args.octets.now (serving_kept configuration) read)
    ended (Outside n) e = misses serving_line serving_whole no_serving c.args.octets.now (serving_drafted c.take_lines.new.draft) c.in-All.behind all n e.0 e.1

pub returns-in-Outside : goal.returns-in-Outside
returns-in-Outside c =
    let all = subst (TakesLines (lines_taken serving_line no_serving c.args.octets.now) (λ (made : ServingDraft). made ≡ serving_drafted c.take_lines.new.draft)) c.in-Outside.is (c.in_ok-taken.ensures no_serving (sym c.new-draft.ensures)) in
    outside serving_line serving_whole no_serving c.args.octets.now c.in-Outside.number all
