use Rattle.linkcache.proofs.ShownParts.{changes-part}
use Rattle.linkcache.proofs.laws.parts_show_for_themselves.Goals as goal

pub returns : goal.returns
returns c rules p rows later name apart sound sound_later agree = changes-part rules name apart p rows later sound sound_later agree
