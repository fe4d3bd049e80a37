use Rattle.std.proofs.Common.{◌≡◌, ◌∙◌, ◌+◌, ℕ, length, nat_lt, sym, ap, subst}
use Rattle.std.specs.Prelude.{IfSome}
use Rattle.rrset.specs.KeyedRows.{Rows, put_row, row_at}
use Rattle.rrset.specs.Records.{key_of}
use Rattle.rrset.specs.Tables.{HasLowerOwner, counted}
use Rattle.rrset.specs.declared.record.Key.{Key}
use Rattle.rrset.proofs.LowerNames.{lower-twice}
use Rattle.linkcache.specs.Parts.{laid}
use Rattle.linkcache.specs.Rows.{heard_at, max_rows, size_under}
use Rattle.linkcache.specs.Taking.{IsTaken}
use Rattle.linkcache.proofs.KeptSizes.{few-rows, full-room, taken-kept, taken-new}
use Rattle.linkcache.proofs.Numbers.{room_is}
use Rattle.linkcache.proofs.room.take_room.Goals as goal

pub returns-then-taken-ge-MAX_ROWS-clause-room : goal.returns-then-taken-ge-MAX_ROWS-clause-room
returns-then-taken-ge-MAX_ROWS-clause-room c = full-room c.args.taken.now.rows (laid c.args.over.now.rows c.args.rows.now.rows) _ c.requires.taken.counts c.if-taken-ge-MAX_ROWS.true

pub size_of_owner-requires-clause-kept : goal.size_of_owner-requires-clause-kept
size_of_owner-requires-clause-kept c =
    let owner = c.args.heard.now.rr.owner in
    let work = laid c.args.over.now.rows c.args.rows.now.rows in
    subst (λ (k : Key). IfSome (row_at k c.args.taken.now.sizes.rows) (λ size. size ≡ counted (size_under c.args.rules.now owner work))) (sym c.in_ok-owner.ensures) (c.requires.taken.sized owner)

pub returns-then-not-fits-clause-room : goal.returns-then-not-fits-clause-room
returns-then-not-fits-clause-room c =
    let work = laid c.args.over.now.rows c.args.rows.now.rows in
    sym c.if-not-fits.true ∙ c.fits.ensures
    ∙ room_is (nat_lt (length work + 0) max_rows) c.in_ok-size.size _ c.in_ok-added.added _ (few-rows c.args.taken.now.rows work c.requires.taken.counts c.if-taken-ge-MAX_ROWS.false) c.in_ok-size.ensures c.in_ok-added.ensures

pub returns-then-not-fits-clause-taken : goal.returns-then-not-fits-clause-taken
returns-then-not-fits-clause-taken c =
    let rules = c.args.rules.now in
    let work = laid c.args.over.now.rows c.args.rows.now.rows in
    let taken = c.args.taken.now in
    subst (λ (s : Rows ℕ). IsTaken rules work taken.rows s) (sym (c.in_ok-put.ensures.rows ∙ ap (λ (k : Key). put_row k c.in_ok-size.size taken.sizes.rows) c.in_ok-owner.ensures))
    (taken-kept rules c.args.heard.now.rr.owner c.in_ok-size.size work taken.rows taken.sizes.rows c.in_ok-size.ensures c.requires.taken)

pub returns-clause-room : goal.returns-clause-room
returns-clause-room c =
    let work = laid c.args.over.now.rows c.args.rows.now.rows in
    sym c.if-not-fits.false ∙ c.fits.ensures
    ∙ room_is (nat_lt (length work + 0) max_rows) c.in_ok-size.size _ c.in_ok-added.added _ (few-rows c.args.taken.now.rows work c.requires.taken.counts c.if-taken-ge-MAX_ROWS.false) c.in_ok-size.ensures c.in_ok-added.ensures

pub returns-clause-taken : goal.returns-clause-taken
returns-clause-taken c now =
    let rules = c.args.rules.now in
    let h = c.args.heard.now in
    let work = laid c.args.over.now.rows c.args.rows.now.rows in
    let taken = c.args.taken.now in
    subst (λ (s : Rows ℕ). IsTaken rules (put_row (key_of h.rr) (heard_at now h) work) (taken.rows + 1) s) (sym (c.in_ok-put-2.ensures.rows ∙ ap (λ (k : Key). put_row k c.saturating_add.result taken.sizes.rows) c.in_ok-owner.ensures))
    (taken-new rules now work h c.requires.absent taken.rows taken.sizes.rows c.in_ok-size.size c.in_ok-added.added c.saturating_add.result c.in_ok-size.ensures c.in_ok-added.ensures c.saturating_add.ensures c.requires.taken)

pub put-requires : goal.put-requires
put-requires c = subst HasLowerOwner (sym c.in_ok-owner.ensures) (lower-twice c.args.heard.now.rr.owner)

pub put-requires-2 : goal.put-requires-2
put-requires-2 c = subst HasLowerOwner (sym c.in_ok-owner.ensures) (lower-twice c.args.heard.now.rr.owner)
