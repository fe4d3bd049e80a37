-- Each client that a line of a script feeds is a lone one.
--     only-lone      the law
use Rattle.std.proofs.Common.{refl}
use Rattle.scripts.specs.Lines.{feed}
use Rattle.replay.specs.Between.{lines_of, world_then}
use Rattle.replay.specs.FedLines.{fed_between}
use Rattle.script_laws.specs.Whole.{OnlyLoneOnesAreFed}
use Rattle.script_laws.proofs.Reading.{are-lines}
use Rattle.script_laws.proofs.lines.Premises.{LineLaws}
use Rattle.script_laws.proofs.ends.Before.{nothing_shown, stands-before}
use Rattle.script_laws.proofs.sizes.EachLine.{fed-lone}

pub only-lone : LineLaws → OnlyLoneOnesAreFed
only-lone laws script fed read found =
    let line = feed fed.word fed.octets in
    let are = are-lines script (lines_of (fed_between fed)) read in
    let b = stands-before laws (lines_of (fed_between fed)) fed.before fed.behind line are refl in
    fed-lone are.all b.known b.next nothing_shown (world_then (fed_between fed)) line b.walked b.fits fed.word fed.octets fed.seat refl found
