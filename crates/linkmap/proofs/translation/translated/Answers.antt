use Rattle.std.proofs.Common.{◌∙◌, ap}
use Rattle.linkmap.specs.Translation.{names_fit}
use Rattle.linkmap.proofs.Tests.{usable-fit}
use Rattle.linkmap.proofs.translation.translated.Goals as goal

pub renamed_rr-requires : goal.renamed_rr-requires
renamed_rr-requires c = ap (λ name. names_fit name c.args.domain.now c.args.rr.now) c.in_ok-local.ensures ∙ usable-fit c.args.domain.now c.args.rr.now c.requires
