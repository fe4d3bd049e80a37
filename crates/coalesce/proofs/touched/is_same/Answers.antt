use Rattle.std.proofs.Common.{◌∙◌}
use Rattle.coalesce.specs.Sides.{is_asked}
use Rattle.coalesce.proofs.WhatDiffers.{same_by_keys}
use Rattle.coalesce.proofs.touched.is_same.Goals as goal

pub returns : goal.returns
returns c =
    c.all_unchanged.ensures ∙ same_by_keys (is_asked c.args.touched.now.asking) c.args.touched.now.values.now c.args.touched.now.rows.now c.requires.0 c.requires.1
