use Rattle.std.proofs.Common.{◌∙◌, ◌+◌, sym, subst}
use Rattle.rrset.specs.KeyedRows.{put_row}
use Rattle.rrset.specs.Records.{same_key}
use Rattle.rrset.specs.Tables.{HasLowerOwner}
use Rattle.rrset.proofs.LowerNames.{key_of-lower}
use Rattle.linkcache.specs.Parts.{laid}
use Rattle.linkcache.specs.Rows.{LinkRows, second}
use Rattle.linkcache.specs.Taking.{IsTaken, IsTakenBy}
use Rattle.linkcache.proofs.KeptSizes.{taken-ended}
use Rattle.linkcache.proofs.heard_rows.put_heard.Goals as goal

pub end_row-requires-clause-lower : goal.end_row-requires-clause-lower
end_row-requires-clause-lower c = subst HasLowerOwner (sym c.in_ok-key.ensures) (key_of-lower c.args.heard.now.rr)

pub returns-then-is_goodbye-clause-taken : goal.returns-then-is_goodbye-clause-taken
returns-then-is_goodbye-clause-taken c =
    let rules = c.args.rules.now in
    let taken = c.args.taken.now in
    subst (λ (l : LinkRows). IsTaken rules l taken.rows taken.sizes.rows) (sym c.in_ok-end_row.ensures)
    (taken-ended rules (λ row. same_key c.in_ok-key.key row.0) (c.args.now + second) (laid c.args.over.now.rows c.args.rows.now.rows) taken.rows taken.sizes.rows c.requires.taken)

pub returns-then-not-may-clause-taken : goal.returns-then-not-may-clause-taken
returns-then-not-may-clause-taken c =
    subst (λ b. IsTakenBy b c.args.rules.now (laid c.args.over.now.rows c.args.rows.now.rows) c.args.heard.now c.may_stand.new.taken.rows c.may_stand.new.taken.sizes.rows) c.if-not-may.true c.in_ok-may.ensures.taken

pub put_over-requires : goal.put_over-requires
put_over-requires c = subst HasLowerOwner (sym c.in_ok-key.ensures) (key_of-lower c.args.heard.now.rr)

pub returns-clause-taken : goal.returns-clause-taken
returns-clause-taken c =
    let rules = c.args.rules.now in
    let rows = c.args.rows.now.rows in
    let work = laid c.args.over.now.rows rows in
    let taken = c.may_stand.new.taken in
    let by = subst (λ b. IsTakenBy b rules work c.args.heard.now taken.rows taken.sizes.rows) c.if-not-may.false c.in_ok-may.ensures.taken in
    let is = c.in_ok-put_over.ensures rows c.requires.order ∙ (λ i. put_row (c.in_ok-key.ensures i) (c.in_ok-heard_at.ensures i) work) in
    subst (λ (l : LinkRows). IsTaken rules l taken.rows taken.sizes.rows) (sym is) (by c.args.now)
