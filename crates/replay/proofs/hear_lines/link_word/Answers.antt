use Rattle.std.proofs.Common.{◌∙◌}
use Rattle.replay.proofs.worlds.HearDoing.{link-told}
use Rattle.replay.proofs.hear_lines.link_word.Goals as goal

pub returns : goal.returns
returns c = c.as_str.ensures.value ∙ link-told c.args.links.now c.args.link c.index-links-link.result c.requires c.index-links-link.is
