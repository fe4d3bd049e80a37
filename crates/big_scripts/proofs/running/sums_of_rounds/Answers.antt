use Rattle.std.proofs.Common.{◌≡◌, [], ◌∷◌, ◌∙◌, ap}
use Rattle.push_base.specs.MemSink.{SinkState}
use Rattle.push_base.specs.Supply.{Supplied}
use Rattle.big_scripts.specs.Scripts.{script_octets}
use Rattle.big_scripts.specs.Sums.{sums_of_text}
use Rattle.big_scripts.proofs.Telling.{small_status, taken_whole}
use Rattle.big_scripts.proofs.running.sums_of_rounds.Goals as goal

pub returns-in-Done-clause-exact : goal.returns-in-Done-clause-exact
returns-in-Done-clause-exact c =
    let items : c.new-source.result.octets.items ≡ script_octets c.args.rounds ∷ [] = ap (λ (s : Supplied). s.items) c.new-source.ensures.octets ∙ c.in_ok-vec.ensures.items ∙ ap (λ s. s ∷ []) c.in_ok-script.ensures in
    let empty : c.in_ok-sink.sink.taken ≡ [] = ap (λ (s : SinkState). s.taken) c.in_ok-sink.ensures in
    c.sums_of.ensures.exact ∙ ap sums_of_text (c.taken.ensures ∙ taken_whole _ _ c.args.rounds _ _ _ c.requires items empty (small_status _ c.in-Done.is) c.replay.ensures.replied)
