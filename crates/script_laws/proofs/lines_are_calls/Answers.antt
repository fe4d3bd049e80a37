use Rattle.script_laws.proofs.calls.Lines.{lines-are-calls, scripts-are-calls}
use Rattle.script_laws.proofs.calls.Fits.{script-calls-fit}
use Rattle.script_laws.proofs.lines_are_calls.Goals as goal

pub returns : goal.returns
returns c = record { lines = lines-are-calls; scripts = scripts-are-calls; fit = script-calls-fit }
