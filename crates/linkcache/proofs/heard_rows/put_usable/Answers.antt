use Rattle.std.proofs.Common.{◌∙◌, ◌+◌, T, drop, sym, ap, subst, refl, arith, fold, List}
use Rattle.std.proofs.lemmas.List.{drop_all}
use Rattle.rrset.specs.Tables.{TableState}
use Rattle.rrset.specs.declared.record.HeardRr.{HeardRr}
use Rattle.linkcache.specs.Parts.{laid}
use Rattle.linkcache.specs.Rows.{LinkRows, put_heard, usable_of}
use Rattle.linkcache.specs.Sound.{AreLinkRows}
use Rattle.linkcache.specs.Taking.{IsTaken}
use Rattle.linkcache.specs.declared.room.Taken.{Taken}
use Rattle.linkcache.specs.declared.row.HeardRow.{HeardRow}
use Rattle.linkcache.proofs.HeardSteps.{PutSoFar, put_more, put_skip}
use Rattle.linkcache.proofs.LaidRows.{order-laid}
use Rattle.linkcache.proofs.heard_rows.put_usable.Goals.{then-usable+in_ok-put_heard, else-usable}
use Rattle.linkcache.proofs.heard_rows.put_usable.Goals as goal

pub hearing-init : goal.hearing-init
hearing-init c =
    let rules = c.args.rules.now in
    let rows = c.args.rows.now.rows in (
      record {
        order = order-laid c.args.over.now.rows rows (subst T (sym c.requires.order) tt);
        sound = subst (λ (l : LinkRows). AreLinkRows rules (laid l rows)) (sym c.requires.none) c.requires.rows;
        rest = refl;
      },
      subst (λ (l : LinkRows). IsTaken rules (laid l rows) c.taken_by-taken.result.rows c.taken_by-taken.result.sizes.rows) (sym c.requires.none) (c.taken_by-taken.ensures rules),
    )

pub put_heard-requires-clause-later : goal.put_heard-requires-clause-later
put_heard-requires-clause-later c = c.hearing.invariant.0.sound

pub put_heard-requires-clause-taken : goal.put_heard-requires-clause-taken
put_heard-requires-clause-taken c = c.hearing.invariant.1

pub hearing-preserved : goal.hearing-preserved
hearing-preserved c =
    let rules = c.args.rules.now in
    let rows = c.args.rows.now.rows in
    elim c.if-usable.branch [
      | then-usable+in_ok-put_heard w ↦ (
        put_more rules c.args.now 0 (laid c.args.over.now.rows rows) c.args.hearing.now c.hearing.heard-index c.heard-item.result c.hearing-test.true c.heard-item.is
            (laid c.hearing.over.rows rows) (laid c.if-usable.over.rows rows) (sym c.usable.ensures ∙ w.if-usable.true) c.hearing.invariant.0 (ap (λ (t : TableState _). laid t.rows rows) w.over-is ∙ w.in_ok-put_heard.ensures.rows),
        subst (λ (t : TableState HeardRow). IsTaken rules (laid t.rows rows) c.if-usable.taken.rows c.if-usable.taken.sizes.rows) (sym w.over-is)
            (subst (λ (t : Taken). IsTaken rules (laid w.put_heard.new.over.rows rows) t.rows t.sizes.rows) (sym w.taken-is) w.in_ok-put_heard.ensures.taken),
      )
      | else-usable w ↦ (
        subst (λ (t : TableState _). PutSoFar rules c.args.now 0 (laid c.args.over.now.rows rows) (laid t.rows rows) (drop (c.hearing.heard-index + 1) c.args.hearing.now) c.args.hearing.now) (sym w.over-is)
            (put_skip rules c.args.now 0 (laid c.args.over.now.rows rows) c.args.hearing.now c.hearing.heard-index c.heard-item.result c.hearing-test.true c.heard-item.is
            (laid c.hearing.over.rows rows) (sym c.usable.ensures ∙ w.if-usable.false) c.hearing.invariant.0),
        subst (λ (t : TableState HeardRow). IsTaken rules (laid t.rows rows) c.if-usable.taken.rows c.if-usable.taken.sizes.rows) (sym w.over-is)
            (subst (λ (t : Taken). IsTaken rules (laid c.hearing.over.rows rows) t.rows t.sizes.rows) (sym w.taken-is) c.hearing.invariant.1),
      )
    ]

pub returns : goal.returns
returns c = ap (λ (l : List HeardRr). fold (put_heard c.args.rules.now c.args.now 0) (laid c.hearing.over.rows c.args.rows.now.rows) (usable_of c.args.rules.now l)) (sym (drop_all c.hearing.heard-index c.args.hearing.now (omega (arith, c.hearing-test.false)))) ∙ c.hearing.invariant.0.rest
