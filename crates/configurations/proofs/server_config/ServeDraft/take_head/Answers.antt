use Rattle.std.proofs.Common.{Option, ap, sym, ◌∙◌}
use Rattle.std.specs.Prelude.{option_map}
use Rattle.scripts.specs.Lines.{ScriptLine}
use Rattle.scripts.specs.KeptLines.{said}
use Rattle.scripts.specs.declared.line.Line.{Line}
use Rattle.configurations.proofs.HeadLines.{draft_takes}
use Rattle.configurations.proofs.server_config.ServeDraft.take_head.Goals as goal

pub returns : goal.returns
returns c =
    let read = ap (λ (o : Option Line). option_map {T = Line} {U = ScriptLine} (λ l. said l) o) (sym c.in-Some.is) ∙ c.in_ok-line.ensures.exact in
    let head = sym c.is_head.ensures ∙ c.if-not-is_head.false in
    draft_takes c.args.self.now c.args.text.now c.in-Some.line read head c.take.new.self c.take.result c.take.ensures
