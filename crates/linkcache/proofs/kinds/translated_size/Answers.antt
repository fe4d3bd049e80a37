use Rattle.std.proofs.Common.{◌∙◌, sym}
use Rattle.reversemap.proofs.UsedRecords.{used-local}
use Rattle.linkcache.proofs.kinds.translated_size.Goals as goal

pub translated-requires : goal.translated-requires
translated-requires c = used-local c.args.rules.now.domain c.args.rules.now.reverses c.args.rr.now c.requires (sym c.is_local.ensures ∙ c.if-is_local.true)
