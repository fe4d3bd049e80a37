-- What is told of datagrams that were given.
use Rattle.std.proofs.Common.{◌≡◌, ℕ, ◌≤◌, ◌||◌, Bool, true, false, Some, None, Option, Result, Ok, List, [], ◌∷◌, ◌++◌, length, take, refl, sym, ◌∙◌, ap, subst, arith}
use Rattle.std.specs.Prelude.{min, nat_lt, if◌then◌else◌}
use Rattle.std.proofs.lemmas.List.{append-nil, take_all}
use Rattle.std.proofs.lemmas.Bool.Decides.{nat_tests}
use Rattle.push_base.specs.declared.got.Got.{Got}
use Rattle.push_base.specs.declared.mem_item.MemItem.{MemItem}
use Rattle.push_base.specs.declared.mem_item.MemItem.TheVariants.{Bytes, Quiet}
use Rattle.push_base.specs.Told.{TellsMore}
use Rattle.push_base.specs.Line.{octets_of}
use Rattle.push_base.specs.Datagrams.{DatagramGives}
use Rattle.push_base.specs.Items.{first_octets, got_for}
use Rattle.push_base.specs.DatagramSupply.{DatagramSupplied, datagrams_in, given_told, receiving, after_receiving}

datagrams-append : (xs ys : List MemItem) → datagrams_in (xs ++ ys) ≡ datagrams_in xs ++ datagrams_in ys
datagrams-append [] ys = refl
datagrams-append (Bytes octets ∷ xs) ys = ap (λ l. octets ∷ l) (datagrams-append xs ys)
datagrams-append (Quiet ∷ xs) ys = datagrams-append xs ys

abbrev told : Bool → List MemItem → Option (List (List ℕ))
told lost over = if lost then None else Some (datagrams_in over)

-- a datagram was given, cut or whole
tells_datagram : (over : List MemItem) (octets buf : List ℕ) (room : ℕ) (lost cut : Bool) → nat_lt room (length octets) ≡ cut → take (min (length octets) room) buf ≡ take (min (length octets) room) octets
    → TellsMore (told lost over) (told (lost || cut) (over ++ Bytes octets ∷ [])) (take (min (length octets) room) buf ∷ [])
tells_datagram over octets buf room true cut is same = refl
tells_datagram over octets buf room false true is same = tt
tells_datagram over octets buf room false false is same =
    let all : length octets ≤ min (length octets) room = grind (arith, nat_tests) in
    datagrams-append over (Bytes octets ∷ []) ∙ ap (λ o. datagrams_in over ++ o ∷ []) (sym (same ∙ take_all (min (length octets) room) octets all))

tells_none : (over : List MemItem) (lost : Bool) → told lost (over ++ Quiet ∷ []) ≡ told lost over
tells_none over true = refl
tells_none over false = ap Some (datagrams-append over (Quiet ∷ []) ∙ append-nil (datagrams_in over))

abbrev done : {E : Type 0} → Got → Result Got E
done got = Ok got

given_for : (E : Type 0) (room : ℕ) (items : List MemItem) (s : DatagramSupplied) (buf : List ℕ) → octets_of (got_for room items) buf ≡ octets_of (got_for room items) (first_octets items)
    → DatagramGives {E = E} (given_told s) (given_told (receiving room items s)) (done (got_for room items)) buf
given_for E room [] s buf same = refl
given_for E room (Bytes octets ∷ items) s buf same = tells_datagram s.over octets buf room s.lost (nat_lt room (length octets)) refl same
given_for E room (Quiet ∷ items) s buf same = tells_none s.over s.lost

pub given_by_call : (E : Type 0) (room : ℕ) (was s now : DatagramSupplied) (got : Got) (buf : List ℕ)
    → s ≡ was → now ≡ after_receiving room s → got ≡ got_for room s.left → octets_of got buf ≡ octets_of got (first_octets s.left)
    → DatagramGives {E = E} (given_told was) (given_told now) (done got) buf
given_by_call E room was s now got buf was_is now_is got_is same =
    let gave : DatagramGives {E = E} (given_told s) (given_told (after_receiving room s)) (done (got_for room s.left)) buf =
    given_for E room s.left s buf (subst (λ g. octets_of g buf ≡ octets_of g (first_octets s.left)) got_is same) in
    subst (λ v. DatagramGives {E = E} (given_told v) (given_told now) (done got) buf) was_is
    (subst (λ v. DatagramGives {E = E} (given_told s) (given_told v) (done got) buf) (sym now_is)
    (subst (λ g. DatagramGives {E = E} (given_told s) (given_told (after_receiving room s)) (done g) buf) (sym got_is) gave))
