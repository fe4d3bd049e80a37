use Rattle.std.proofs.Common.{◌≡◌, ℕ, true, List, None, refl, sym, ap, subst, ◌∙◌}
use Rattle.std.specs.Prelude.{is_some}
use Rattle.recordindex.specs.Endings.{IsLowerName, Reserves, ending_at, is_among, room_of}
use Rattle.recordindex.proofs.Changes.{among-some}
use Rattle.recordindex.proofs.Keeping.{inserted, place-inserted}
use Rattle.recordindex.proofs.Walks.{reserves-same}
use Rattle.recordindex.proofs.Using.{used-found, used-none}
use Rattle.recordindex.proofs.ending.reserve_at.Goals as goal

pub returns-in-Some-clause-kept : goal.returns-in-Some-clause-kept
returns-in-Some-clause-kept c = reserves-same c.args.endings.now.entries

pub returns-in-Some-clause-room : goal.returns-in-Some-clause-room
returns-in-Some-clause-room c = among-some c.args.name.now c.args.endings.now.entries ∙ ap is_some (sym c.in-Some.ensures.value)

pub returns-in-Some-clause-counted : goal.returns-in-Some-clause-counted
returns-in-Some-clause-counted c = used-found c.args.name.now c.args.endings.now.entries c.in-Some.count.now c.in-Some.ensures.value

pub returns-in_err-octets-clause-kept : goal.returns-in_err-octets-clause-kept
returns-in_err-octets-clause-kept c = reserves-same c.args.endings.now.entries

pub returns-in_err-insert-clause-kept : goal.returns-in_err-insert-clause-kept
returns-in_err-insert-clause-kept c = subst (Reserves c.args.endings.now.entries) (sym c.in_err-insert.ensures.err) (reserves-same c.args.endings.now.entries)

pub returns-clause-kept : goal.returns-clause-kept
returns-clause-kept c =
    let spelled : c.in_ok-octets.octets.items ≡ c.args.name.now = c.in_ok-octets.ensures.items in
    let none : ending_at c.in_ok-octets.octets.items c.args.endings.now.entries ≡ None =
    ap (λ (os : List ℕ). ending_at os c.args.endings.now.entries) spelled ∙ sym c.in-None.ensures.value in
    subst (Reserves c.args.endings.now.entries) (sym c.in_ok-insert.ensures.entries)
    (inserted c.in_ok-octets.octets 0 refl refl c.args.endings.now.entries none (subst IsLowerName (sym spelled) c.requires))

pub returns-clause-room : goal.returns-clause-room
returns-clause-room c =
    let spelled : c.in_ok-octets.octets.items ≡ c.args.name.now = c.in_ok-octets.ensures.items in
    let none : ending_at c.in_ok-octets.octets.items c.args.endings.now.entries ≡ None =
    ap (λ (os : List ℕ). ending_at os c.args.endings.now.entries) spelled ∙ sym c.in-None.ensures.value in
    subst (λ (os : List ℕ). is_among os (room_of c.insert.new.self.entries) ≡ true) spelled
    (subst (λ kept. is_among c.in_ok-octets.octets.items (room_of kept) ≡ true) (sym c.in_ok-insert.ensures.entries) (place-inserted c.in_ok-octets.octets 0 c.args.endings.now.entries none))

pub returns-clause-counted : goal.returns-clause-counted
returns-clause-counted c = used-none c.args.name.now c.args.endings.now.entries c.in-None.ensures.value
