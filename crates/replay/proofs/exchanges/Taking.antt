-- Octets go into a session as far as there is room.
--     take-front      no more of a piece goes in than is told
use Rattle.std.proofs.Common.{◌≡◌, ℕ, ◌≤◌, ◌==◌, Bool, true, false, cond, List, [], ◌∷◌, ◌++◌, min, map, length, take, Option, Some, None, option_map, T, sym, ◌∙◌, ap, subst, refl, arith, take_all, eqb→eq, eq-eqb, ne_eqb}
use Rattle.std.specs.Prelude.{find}
use Rattle.std.specs.List.{AllByRecursion, IsDistinct}
use Rattle.std.proofs.lemmas.List.{length-take, take_min}
use Rattle.std.proofs.lemmas.Map.Keys.{IsDistinct-head, IsDistinct-tail}
use Rattle.pushserver.specs.PlainHubs.{Session, Hub}
use Rattle.pushsession.specs.Sessions.{room_of, with_piece}
use Rattle.pushserver.specs.Hubs.{taken_by, take_octets}
use Rattle.pushserver.specs.KeptHubs.{KeptHub, StandsFor}

abbrev Entry : Type 0
Entry = ℕ × Session

abbrev same_number : Entry → Entry → Bool
same_number d e = d.0 == e.0

abbrev found_in : ℕ → List Entry → Option Session
found_in number es = option_map (λ (e : Entry). e.1) (find (λ (e : Entry). e.0 == number) es)

module _ (number : ℕ) where
  abbrev pub by_one : (Session → Session) → Entry → Entry
  by_one f e = (e.0, cond (e.0 == number) (f e.1) e.1)

  elsewhere : (f g : Session → Session) (d : Entry) (es : List Entry) → AllByRecursion (λ y. same_number d y ≡ false) es → d.0 ≡ number → map (by_one f) es ≡ map (by_one g) es
  elsewhere f g d [] all is = refl
  elsewhere f g d (y ∷ es) all is = (λ i. by (y.0 == number) other i ∷ elsewhere f g d es all.1 is i)
    where
      clash : (b : Bool) → b ≡ true → b ≡ false → ⊥
      clash true t f = absurd cc
      clash false t f = absurd cc

      other : (y.0 == number) ≡ false
      other = ne_eqb y.0 number (λ e. clash (d.0 == y.0) (eq-eqb d.0 y.0 (is ∙ sym e)) all.0)

      paired : Session → Entry
      paired s = (y.0, s)

      by : (b : Bool) → b ≡ false → paired (cond b (f y.1) y.1) ≡ paired (cond b (g y.1) y.1)
      by true e = absurd cc
      by false e = refl

  -- where no number comes twice, a change of one session is one of the session that is found
  pub one-session : (f g : Session → Session) (es : List Entry) → IsDistinct same_number es → ((s : Session) → found_in number es ≡ Some s → f s ≡ g s) → map (by_one f) es ≡ map (by_one g) es
  one-session f g [] apart same = refl
  one-session f g (e ∷ es) apart same = by (one-session f g es (IsDistinct-tail same_number e es apart)) (e.0 == number) refl
    where
      onto : Session → List Entry → List Entry
      onto s later = (e.0, s) ∷ later

      by : (((s : Session) → found_in number es ≡ Some s → f s ≡ g s) → map (by_one f) es ≡ map (by_one g) es) → (b : Bool) → (e.0 == number) ≡ b
          → onto (cond b (f e.1) e.1) (map (by_one f) es) ≡ onto (cond b (g e.1) e.1) (map (by_one g) es)
      by later true q =
          let here = same e.1 (ap (λ b. option_map (λ (x : Entry). x.1) (cond b (Some e) (find (λ (x : Entry). x.0 == number) es))) q) in
          let rest = elsewhere f g e es (IsDistinct-head same_number e es apart) (eqb→eq e.0 number (subst T (sym q) tt)) in
          (λ i. onto (here i) (rest i))
      by later false q =
          let rest = later (λ s h. same s (ap (λ b. option_map (λ (x : Entry). x.1) (cond b (Some e) (find (λ (x : Entry). x.0 == number) es))) q ∙ h)) in
          ap (onto e.1) rest

-- ---- what goes in

smaller : (k n room : ℕ) → k ≡ min (min n room) n → k ≤ room
smaller k n room h = omega arith

turned : (n room : ℕ) → min n room ≡ min room n
turned n room = omega arith

pub front : (room : ℕ) (piece : List ℕ) → take room (take (min (length piece) room) piece) ≡ take room piece
front room piece =
    let k = min (length piece) room in
    take_all room (take k piece) (smaller (length (take k piece)) (length piece) room (length-take k piece))
    ∙ ap (λ n. take n piece) (turned (length piece) room) ∙ take_min room piece

taken_from : List ℕ → Option Session → ℕ
taken_from piece o = elim o as (λ _. ℕ) [ None ↦ 0 | Some session ↦ min (length piece) (room_of session) ]

pub take-front : (k : KeptHub) (hub : Hub) (number : ℕ) (piece : List ℕ) → StandsFor k hub → take_octets hub number (take (taken_by hub number piece) piece) ≡ take_octets hub number piece
take-front k hub number piece stands =
    let n = taken_by hub number piece in
    ap (λ (es : List Entry). record hub { sessions = es }) (one-session number (with_piece (take n piece)) (with_piece piece) hub.sessions stands.sound.numbers
    (λ s found. ap (λ (o : List ℕ). record s { input = s.input ++ o })
    (ap (λ m. take (room_of s) (take m piece)) (ap (λ (o : Option Session). elim o as (λ _. ℕ) [ None ↦ 0 | Some session ↦ min (length piece) (room_of session) ]) found) ∙ front (room_of s) piece)))
