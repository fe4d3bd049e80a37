-- An owner's ends, one after another, as its octets are walked: what was done at those before, and what is left.
use Rattle.std.proofs.Common.{◌≡◌, ℕ, suc, ◌+◌, ◌≤◌, true, List, [], ◌∷◌, ◌++◌, length, get_or, drop, refl, sym, ap, subst, ◌∙◌, arith}
use Rattle.std.specs.Prelude.{Result, Ok, Err, OnOk}
use Rattle.std.specs.List.{AllByRecursion}
use Rattle.std.proofs.lemmas.List.{length-append, drop_at}
use Rattle.dnsname.specs.Names.{Labels, octets}
use Rattle.dnsname.specs.Names.{IsName, lower}
use Rattle.dnsname.proofs.Octets.{length-octets, octets-cons, octets_injective}
use Rattle.recordindex.specs.Endings.{Agrees, HasRoomAt, HasRoomFor, HasRoomFrom, IsLowLeft, IsLowerName, Kept, Reserves, above_of, ends_of, is_among, is_used, room_of, used_at}
use Rattle.recordindex.proofs.Using.{above-cons, used-places}
use Rattle.recordindex.proofs.Ends.{IsLow, behind-low, ends-low, octets-low}

-- the octets that are left spell the first of the names that are left
pub data Left : List ℕ → List Labels → Type 0 where
  none_left : Left [] []
  some_left : (name : Labels) → Left (octets name) (ends_of name)

-- the first name that is left, and what is left behind it
pub record Ahead (rest : List ℕ) (ends : List Labels) : Type 0 where
  pub name : Labels
  pub more : List Labels
  pub ends_are : ends ≡ name ∷ more
  pub spelled : rest ≡ octets name
  pub behind : Left (drop (get_or rest 0 0 + 1) rest) more
  pub within : get_or rest 0 0 + 1 ≤ length rest

pub ahead : (rest : List ℕ) (ends : List Labels) → Left rest ends → 1 ≤ length rest → Ahead rest ends
ahead rest ends none_left some = absurd (omega arith)
ahead rest ends (some_left []) some = record {
  name = [];
  more = [];
  ends_are = refl;
  spelled = refl;
  behind = none_left;
  within = omega arith;
}
ahead rest ends (some_left (label ∷ name)) some =
    let whole : octets (label ∷ name) ≡ length label ∷ (label ++ octets name) = octets-cons label name in
    let first : get_or (octets (label ∷ name)) 0 0 + 1 ≡ suc (length label) = ap (λ (r : List ℕ). get_or r 0 0 + 1) whole ∙ omega arith in
    let left : drop (get_or (octets (label ∷ name)) 0 0 + 1) (octets (label ∷ name)) ≡ octets name =
    ap (λ (n : ℕ). drop n (octets (label ∷ name))) first ∙ ap (drop (suc (length label))) whole ∙ drop_at label (octets name) (length label) refl in
    record {
      name = label ∷ name;
      more = ends_of name;
      ends_are = refl;
      spelled = refl;
      behind = subst (λ (r : List ℕ). Left r (ends_of name)) (sym left) (some_left name);
      within = omega (arith, ap length whole, length-append label (octets name));
    }

pub nothing-left : (rest : List ℕ) (ends : List Labels) → Left rest ends → length rest ≡ 0 → ends ≡ []
nothing-left rest ends none_left none = refl
nothing-left rest ends (some_left name) none = absurd (omega (arith, length-octets name))

-- ---- a name gets its places

pub record Reserved (start : List ℕ) (was now : Kept) (rest : List ℕ) : Type 0 where
  pub todo : List Labels
  pub left : Left rest todo
  pub low : AllByRecursion IsLow todo
  pub stays : Reserves was now
  pub places : (room : List (List ℕ)) → ((os : List ℕ) → is_among os (room_of now) ≡ true → is_among os room ≡ true)
      → AllByRecursion (λ end. is_among (octets end) room ≡ true) todo → HasRoomFrom start room

pub reserves-same : (kept : Kept) → Reserves kept kept
reserves-same kept = record {
  counts = λ os. refl;
  using = λ os. refl;
  kept = λ os there. there;
  names = λ names. names;
}

pub reserved-first : (was : Kept) (start : List ℕ) → IsLowLeft start → Reserved start was was start
reserved-first was [] is = record {
  todo = [];
  left = none_left;
  low = tt;
  stays = reserves-same was;
  places = λ room grown there name spelled. absurd (omega (arith, ap length spelled, length-octets name));
}
reserved-first was (o ∷ os) is =
    let n = is.name (omega arith) in
    record {
      todo = ends_of n.0;
      left = subst (λ (r : List ℕ). Left r (ends_of n.0)) (sym n.1) (some_left n.0);
      low = ends-low n.0 (n.2, n.3);
      stays = reserves-same was;
      places = λ room grown there name spelled. subst (HasRoomAt room) (octets_injective n.0 name (sym n.1 ∙ spelled)) there;
    }

-- the octets that are left are a name's, in lower case
pub reserved-name : (start : List ℕ) (was now : Kept) (rest : List ℕ) → Reserved start was now rest → 1 ≤ length rest → IsLowerName rest
reserved-name start was now rest r some =
    let a = ahead rest r.todo r.left some in
    let low : AllByRecursion IsLow (a.name ∷ a.more) = subst (AllByRecursion IsLow) a.ends_are r.low in
    subst IsLowerName (sym a.spelled) (octets-low a.name low.0)

pub reserves-twice : (was mid now : Kept) → Reserves was mid → Reserves mid now → Reserves was now
reserves-twice was mid now first last = record {
  counts = λ os. last.counts os ∙ first.counts os;
  using = λ os. last.using os ∙ first.using os;
  kept = λ os there. last.kept os (first.kept os there);
  names = λ names. last.names (first.names names);
}

pub reserved-more : (start : List ℕ) (was mid now : Kept) (rest : List ℕ) → Reserved start was mid rest → 1 ≤ length rest → Reserves mid now → is_among rest (room_of now) ≡ true
    → Reserved start was now (drop (get_or rest 0 0 + 1) rest) × (get_or rest 0 0 + 1 ≤ length rest)
reserved-more start was mid now rest r some step here =
    let a = ahead rest r.todo r.left some in
    let low : AllByRecursion IsLow (a.name ∷ a.more) = subst (AllByRecursion IsLow) a.ends_are r.low in (
      record {
        todo = a.more;
        left = a.behind;
        low = low.1;
        stays = reserves-twice was mid now r.stays step;
        places = λ room grown there.
            let first : is_among (octets a.name) room ≡ true = subst (λ (os : List ℕ). is_among os room ≡ true) a.spelled (grown rest here) in
            r.places room (λ os among. grown os (step.kept os among)) (subst (AllByRecursion (λ end. is_among (octets end) room ≡ true)) (sym a.ends_are) (first, there));
      },
      a.within,
    )

pub reserved-end : (start : List ℕ) (was now : Kept) (rest : List ℕ) → Reserved start was now rest → length rest ≡ 0 → HasRoomFrom start (room_of now)
reserved-end start was now rest r none =
    r.places (room_of now) (λ os among. among) (subst (AllByRecursion (λ end. is_among (octets end) (room_of now) ≡ true)) (sym (nothing-left rest r.todo r.left none)) tt)

begins : (rest : List ℕ) (ends : List Labels) → Left rest ends → 1 ≤ length rest → (name : Labels) × (ends ≡ ends_of name) × (rest ≡ octets name)
begins rest ends none_left some = absurd (omega arith)
begins rest ends (some_left name) some = (name, refl, refl)

-- room that there was for a name is still there
room-stays : (was now : Kept) → Reserves was now → (name : Labels) → HasRoomAt (room_of was) name → HasRoomAt (room_of now) name
room-stays was now step name room = every (ends_of name) room
  where
    every : (ends : List Labels) → AllByRecursion (λ end. is_among (octets end) (room_of was) ≡ true) ends → AllByRecursion (λ end. is_among (octets end) (room_of now) ≡ true) ends
    every [] h = tt
    every (end ∷ ends) h = (step.kept (octets end) h.0, every ends h.1)

pub room-kept : (was now : Kept) → Reserves was now → (name : Labels) → HasRoomFor name (room_of was) → HasRoomFor name (room_of now)
room-kept was now step [] room = tt
room-kept was now step (label ∷ name) room = (room-stays was now step name room.0, tt)

-- where what is left is in use, there are all places already
pub reserved-stop : (start : List ℕ) (was mid now : Kept) (rest : List ℕ) → Reserved start was mid rest → 1 ≤ length rest → Reserves mid now → true ≡ used_at rest mid
    → (names : List Labels) → Agrees names was → HasRoomFrom start (room_of now)
reserved-stop start was mid now rest r some step used names agrees =
    let s = begins rest r.todo r.left some in
    let here : used_at (octets s.0) was ≡ true = sym (ap (λ (os : List ℕ). used_at os was) s.2) ∙ sym (ap is_used (r.stays.counts rest)) ∙ sym used in
    r.places (room_of now) (λ os among. step.kept os among)
    (subst (AllByRecursion (λ end. is_among (octets end) (room_of now) ≡ true)) (sym s.1)
    (room-stays was now (reserves-twice was mid now r.stays step) s.0 (used-places s.0 names was agrees here)))

-- ---- what is behind a name's first label

pub low-left : (name : Labels) → IsName name → lower name ≡ name → IsLowLeft (above_of (octets name))
low-left [] is low = record { name = λ some. absurd (omega (arith, some)) }
low-left (label ∷ name) is low =
    let l = behind-low label name (is, low) in
    record { name = λ some. (name, above-cons label name, l.0, l.1) }

-- where these octets have room, so has the name
pub room-behind : (name : Labels) (room : List (List ℕ)) → HasRoomFrom (above_of (octets name)) room → HasRoomFor name room
room-behind [] room has = tt
room-behind (label ∷ name) room has = (has name (above-cons label name), tt)

pub on_ok : {A E P Q : Type 0} (r : Result A E) → (P → Q) → OnOk r P → OnOk r Q
on_ok (Ok x) f p = f p
on_ok (Err e) f p = tt
