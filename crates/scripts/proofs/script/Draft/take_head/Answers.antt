use Rattle.std.proofs.Common.{IfOk, sym, ◌∙◌, subst}
use Rattle.scripts.specs.declared.line.HeadLine.{HeadLine}
use Rattle.scripts.specs.declared.line.HeadLine.TheVariants as heads
use Rattle.scripts.specs.declared.line.Line.TheVariants as lines
use Rattle.scripts.specs.Drafts.{TakesLine}
use Rattle.scripts.proofs.lines.HeadTaken.{takes_home, grows_zone, grows_link, grows_reverse}
use Rattle.scripts.proofs.script.Draft.take_head.Goals as goal

pub returns-in-Timers : goal.returns-in-Timers
returns-in-Timers c all = subst (λ (line : HeadLine). TakesLine all c.args.self.now (lines.Head line) c.take_timers.new.self c.take_timers.result) (sym c.in-Timers.is) (c.take_timers.ensures all)

pub returns-in-Zone : goal.returns-in-Zone
returns-in-Zone c all =
    let draft = c.args.self.now in
    let homes = c.take_zone.new.self in
    subst (λ (line : HeadLine). IfOk c.take_zone.result (λ taken. TakesLine all draft (lines.Head line) (record draft { homes = homes }) taken)) (sym c.in-Zone.is)
    (takes_home all draft homes (heads.Zone c.in-Zone.zone) c.take_zone.result (sym c.is_in_head.ensures ∙ c.if-not-is_in_head.false) c.take_zone.ensures.may (grows_zone draft homes c.take_zone.result c.in-Zone.zone c.take_zone.ensures.grows))

pub returns-in-Link : goal.returns-in-Link
returns-in-Link c all =
    let draft = c.args.self.now in
    let homes = c.take_link.new.self in
    subst (λ (line : HeadLine). IfOk c.take_link.result (λ taken. TakesLine all draft (lines.Head line) (record draft { homes = homes }) taken)) (sym c.in-Link.is)
    (takes_home all draft homes (heads.Link c.in-Link.link) c.take_link.result (sym c.is_in_head.ensures ∙ c.if-not-is_in_head.false) c.take_link.ensures.may (grows_link draft homes c.take_link.result c.in-Link.link c.take_link.ensures.grows))

pub returns-in-Reverse : goal.returns-in-Reverse
returns-in-Reverse c all =
    let draft = c.args.self.now in
    let homes = c.take_reverse.new.self in
    subst (λ (line : HeadLine). IfOk c.take_reverse.result (λ taken. TakesLine all draft (lines.Head line) (record draft { homes = homes }) taken)) (sym c.in-Reverse.is)
    (takes_home all draft homes (heads.Reverse c.in-Reverse.reverse) c.take_reverse.result (sym c.is_in_head.ensures ∙ c.if-not-is_in_head.false) c.take_reverse.ensures.may (grows_reverse draft homes c.take_reverse.result c.in-Reverse.reverse c.take_reverse.ensures.grows))
