use Rattle.std.proofs.Common.{◌≡◌, ◌+◌, ◌<◌, ◌^◌, ℕ, sym, ap, ◌∙◌, arith, Vec, Global}
use Rattle.std.specs.BTreeMap.{BTreeMap}
use Rattle.recordindex.specs.Endings.{number_or, once_more, room_of}
use Rattle.recordindex.proofs.Changes.{none-changed, room-set, set-changed}
use Rattle.recordindex.proofs.Using.{used-found, used-none}
use Rattle.recordindex.proofs.ending.raise_at.Goals as goal

pub returns-in-Some-clause-entries : goal.returns-in-Some-clause-entries
returns-in-Some-clause-entries c = λ fits.
    let small : c.in-Some.count.now + 1 < 2 ^ 64 = omega (arith, fits, ap number_or c.in-Some.ensures.value) in
    let more : c.saturating_add.result ≡ once_more c.in-Some.count.now = omega (arith, c.saturating_add.ensures, small) in
    (c.get_mut.follows.holds c.saturating_add.result).0
    ∙ set-changed c.args.name.now once_more c.in-Some.count.now c.saturating_add.result more c.args.endings.now.entries (sym c.in-Some.ensures.value)

pub returns-in-None-clause-entries : goal.returns-in-None-clause-entries
returns-in-None-clause-entries c = λ fits.
    ap (λ (m : BTreeMap (Vec ℕ Global) ℕ). m.entries) c.get_mut.follows.holds-at-none
    ∙ none-changed c.args.name.now once_more c.args.endings.now.entries (sym c.in-None.ensures.value)

pub returns-in-Some-clause-was : goal.returns-in-Some-clause-was
returns-in-Some-clause-was c = used-found c.args.name.now c.args.endings.now.entries c.in-Some.count.now c.in-Some.ensures.value

pub returns-in-None-clause-was : goal.returns-in-None-clause-was
returns-in-None-clause-was c = used-none c.args.name.now c.args.endings.now.entries c.in-None.ensures.value

pub returns-in-Some-clause-room : goal.returns-in-Some-clause-room
returns-in-Some-clause-room c =
    ap room_of (c.get_mut.follows.holds c.saturating_add.result).0
    ∙ room-set c.args.name.now c.in-Some.count.now c.saturating_add.result c.args.endings.now.entries (sym c.in-Some.ensures.value)

pub returns-in-None-clause-room : goal.returns-in-None-clause-room
returns-in-None-clause-room c = ap (λ (m : BTreeMap (Vec ℕ Global) ℕ). room_of m.entries) c.get_mut.follows.holds-at-none
