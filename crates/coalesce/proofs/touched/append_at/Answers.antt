use Rattle.coalesce.specs.Sides.{is_asked}
use Rattle.coalesce.proofs.WhatDiffers.{came_short}
use Rattle.coalesce.proofs.touched.append_at.Goals as goal

pub append_addition-requires-clause-rdata : goal.append_addition-requires-clause-rdata
append_addition-requires-clause-rdata c =
    came_short (is_asked c.args.touched.now.asking) c.args.touched.now.rows.now c.args.value.now.0 c.args.value.now.1 c.in-Some.shown.now c.requires.side c.in-Some.ensures
