use Rattle.std.proofs.Common.{Bool, OnOk, Some, sym, subst}
use Rattle.replay.specs.KeptExchanges.{noted_if, Remembers}
use Rattle.replay.proofs.exchanges.Filling.{remembers-then}
use Rattle.replay.proofs.exchanging.remember.Goals as goal

pub returns-then-notes : goal.returns-then-notes
returns-then-notes c = λ plain stands.
    subst (λ (b : Bool). OnOk c.put_in_front.result (Remembers plain c.args.session (noted_if b c.args.filled.now.items) (noted_if b c.put_in_front.new.filled.items))) (sym c.if-notes.true)
    (remembers-then plain c.args.session c.all_filled.result.now c.args.filled.now.items c.put_in_front.new.filled.items c.put_in_front.result (c.all_filled.ensures plain stands) c.put_in_front.ensures)

pub returns : goal.returns
returns c = λ plain stands.
    subst (λ (b : Bool). Remembers plain c.args.session (noted_if b c.args.filled.now.items) (noted_if b c.args.filled.now.items)) (sym c.if-notes.false) (λ told tells. tt)
