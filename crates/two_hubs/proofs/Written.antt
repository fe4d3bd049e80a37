-- The messages that carries make are octets, and short.
--     apex-short      the name of the second zone has at most 200 octets
--     held-set      the set that a carry takes is what the first hub had at the name, at the point that is shown
--     carries-written
use Rattle.std.proofs.Common.{◌≡◌, ℕ, ◌≤◌, Bool, true, false, not, List, [], ◌∷◌, ◌++◌, length, Option, Some, None, is_none, refl, sym, ap, subst, ◌∙◌, append_assoc}
use Rattle.std.specs.Prelude.{nat_lt, nat_le, filter, position, option_map, if◌then◌else◌}
use Rattle.std.specs.List.{AllByRecursion}
use Rattle.std.proofs.lemmas.Bool.{ltb-false}
use Rattle.push_base.specs.Limits.{max_home_octets}
use Rattle.dnsname.specs.Names.{Labels, IsName, octets, same_name, ends_in}
use Rattle.dnsname.proofs.Decisions.{is_name-Decides}
use Rattle.dsotlv.proofs.Results.{same_found}
use Rattle.rrset.specs.RecordSet.{RecordSet, matching}
use Rattle.rrset.specs.declared.record.Question.{Question}
use Rattle.zoneupdate.proofs.Filters.{and-right}
use Rattle.history.specs.Homes.{NamedHome, home_fault, name_fault, clashes, same_kind, max_zones}
use Rattle.history.specs.States.{after, records_at}
use Rattle.history.specs.declared.entry.HomeFault.{HomeFault}
use Rattle.history.specs.declared.entry.HomeFault.TheVariants.{Many, Long, Clash}
use Rattle.history.specs.declared.entry.HomeKind.TheVariants as of_home
use Rattle.pushserver.specs.Hubs.{newest}
use Rattle.pushserver.specs.PlainHubs.{Note, told}
use Rattle.pushclient.specs.Clients.{Held, off, asked_only, refused_with, set_held, held}
use Rattle.relay.specs.Relay.{unfit_kind, carrying, relayed, IsCarriable}
use Rattle.relay.specs.declared.relay.Relayed.{Relayed}
use Rattle.relay.specs.declared.relay.Relayed.TheVariants.{Apex, Outside, Unfit, Message}
use Rattle.dnswire.specs.Writing.{update_octets}
use Rattle.scripts.specs.Lines.{Word}
use Rattle.scripts.specs.WholeLines.{WholeLine, one, far_zone, far_client, carry, all_at}
use Rattle.scripts.specs.WholeScripts.{Carrier, BothKnown, none_known, apex_in}
use Rattle.replay.specs.World.{World, Seat, seat_of}
use Rattle.replay.specs.TextWords.{by_history, note_in, is_filling, records_told}
use Rattle.replay.specs.HeldPoints.{point_at}
use Rattle.replay.specs.TwoWorlds.{Worlds, start_worlds, worlds_after, set_of_held, held_of, relayed_of, carry_of}
use Rattle.script_laws.specs.Lines.{AreWritten}
use Rattle.script_laws.proofs.lines.Starting.{is_allowed}
use Rattle.two_hubs.specs.Carrying.{MakesWritten, CarriesAreWritten}
use Rattle.two_hubs.specs.HalfLaws.{FollowBoth, IsReadWhole, AreWholeLines}
use Rattle.two_hubs.proofs.Halved.{parts}
use Rattle.two_hubs.proofs.Carriable.{can-be-carried, carrying-written}
use Rattle.two_hubs.proofs.HeldPoints.{held-point, point-within}
use Rattle.two_hubs.proofs.WorldsAlong.{IsStanding, near-stands, apex-stays, apex-named, worlds-behind}

-- ---- the second zone's name

home-short : (homes : List NamedHome) (name : Labels) → is_none (home_fault homes (name, of_home.Zone)) ≡ true → length (octets name) ≤ max_home_octets
home-short homes name none = by (nat_le max_zones (length (filter (λ (h : NamedHome). same_kind h.1 of_home.Zone) homes))) (nat_lt max_home_octets (length (octets name))) refl none
  where
    last : Option HomeFault
    last = elim (name_fault (name, of_home.Zone)) [ Some fault ↦ Some fault | None ↦ option_map (λ i. Clash i) (position (clashes (name, of_home.Zone)) homes) ]

    by : (a b : Bool) → nat_lt max_home_octets (length (octets name)) ≡ b → is_none (if a then Some Many else if b then Some Long else last) ≡ true → length (octets name) ≤ max_home_octets
    by true b is e = absurd cc
    by false true is e = absurd cc
    by false false is e = ltb-false max_home_octets (length (octets name)) is

module _ (all : List Word) (carriers : List Carrier) where
  pub apex-short : (known : BothKnown) (script : List WholeLine) (apex : Labels) → FollowBoth all carriers known script → apex_in script ≡ Some apex → length (octets apex) ≤ max_home_octets
  apex-short known [] apex f is = absurd cc
  apex-short known (one line ∷ script) apex f is = apex-short f.0 script apex f.2 is
  apex-short known (far_zone name serial ∷ script) apex f is =
      let p = parts all carriers known f.0 (far_zone name serial) f.1 in
      let may = (is_allowed _ _ _ p.far).0 in
      subst (λ (n : Labels). length (octets n) ≤ max_home_octets) (same_found name apex is) (home-short known.far.homes name (and-right known.far.in_head (is_none (home_fault known.far.homes (name, of_home.Zone))) may))
  apex-short known (far_client w ∷ script) apex f is = apex-short f.0 script apex f.2 is
  apex-short known (carry w name written ∷ script) apex f is = apex-short f.0 script apex f.2 is

-- ---- the set that is carried

-- what the hub had at the name at a point
pub record IsSetAt (world : World) (w : Word) (name : Labels) (set : RecordSet) : Type 0 where
  pub point : ℕ
  pub shown : point_at world w (all_at name) ≡ Some point
  pub within : point ≤ newest world.hub
  pub is : set ≡ matching (all_at name) (records_at world.hub.start world.hub.history point)

abbrev held_in_seat : World → Labels → Option Seat → Option RecordSet
held_in_seat world name o = elim o as (λ _. Option RecordSet) [ None ↦ None | Some seat ↦ set_of_held by_history world seat (all_at name) (held seat.client (all_at name)) ]

pub held-set : (world : World) → IsStanding world → (w : Word) (name : Labels) (set : RecordSet) → held_of by_history world w name ≡ Some set → IsSetAt world w name set
held-set world standing w name set e = by (seat_of world w) refl e
  where
    q : Question
    q = all_at name

    of_note : (seat : Seat) (note : Note) → note_in world.hub seat ≡ Some note → point_at world w q ≡ Some (told note name) → by_history world.hub seat q [] ≡ set → IsSetAt world w name set
    of_note seat note has shown is = record {
      point = told note name;
      shown = shown;
      within = point-within world standing.0 standing.1 w q (told note name) shown;
      is = sym is ∙ ap (λ (o : Option Note). records_told world.hub o q) has;
    }

    of_set : (seat : Seat) → seat_of world w ≡ Some seat → (id : ℕ) (own : RecordSet) → held seat.client q ≡ set_held id own → (a b : Bool) → seat.is_lone ≡ a → is_filling seat id ≡ b
        → (if a then None else if b then None else Some (by_history world.hub seat q own)) ≡ Some set → IsSetAt world w name set
    of_set seat there id own h true b lone filling f = absurd cc
    of_set seat there id own h false true lone filling f = absurd cc
    of_set seat there id own h false false lone filling f =
        let p = held-point world standing.0 standing.1 w seat q id own there h lone filling in
        of_note seat p.0 p.1 p.2 (same_found (by_history world.hub seat q own) set f)

    of_held : (seat : Seat) → seat_of world w ≡ Some seat → (h : Held) → held seat.client q ≡ h → set_of_held by_history world seat q h ≡ Some set → IsSetAt world w name set
    of_held seat there off h f = absurd cc
    of_held seat there asked_only h f = absurd cc
    of_held seat there (refused_with code) h f = absurd cc
    of_held seat there (set_held id own) h f = of_set seat there id own h seat.is_lone (is_filling seat id) refl refl f

    by : (o : Option Seat) → seat_of world w ≡ o → held_in_seat world name o ≡ Some set → IsSetAt world w name set
    by None is f = absurd cc
    by (Some seat) is f = of_held seat is (held seat.client q) refl f

pub set-carriable : (world : World) → IsStanding world → (w : Word) (name : Labels) (set : RecordSet) → IsName name → IsSetAt world w name set → IsCarriable name set
set-carriable world standing w name set named s = subst (IsCarriable name) (sym s.is) (can-be-carried world.hub standing.1.reached s.point s.within name named)

-- ---- what is relayed

-- it has none of what can't be carried, and is neither at the apex nor outside
pub record IsRelayed (apex name : Labels) (set : RecordSet) (message : List ℕ) : Type 0 where
  pub other : same_name name apex ≡ false
  pub inside : ends_in name apex ≡ true
  pub fit : unfit_kind set ≡ None
  pub is : message ≡ update_octets (carrying apex name set 0)

abbrev octets_of : Relayed → List ℕ
octets_of (Message octets) = octets
octets_of _ = []

pub is-relayed : (apex name : Labels) (set : RecordSet) (message : List ℕ) → relayed apex name set 0 ≡ Message message → IsRelayed apex name set message
is-relayed apex name set message e = by (same_name name apex) (ends_in name apex) (unfit_kind set) refl refl refl e
  where
    by : (a b : Bool) (o : Option ℕ) → same_name name apex ≡ a → ends_in name apex ≡ b → unfit_kind set ≡ o
        → (if a then Apex else if not b then Outside else elim o as (λ _. Relayed) [ Some kind ↦ Unfit kind | None ↦ Message (update_octets (carrying apex name set 0)) ]) ≡ Message message → IsRelayed apex name set message
    by true b o is ends fit f = absurd cc
    by false false o is ends fit f = absurd cc
    by false true (Some kind) is ends fit f = absurd cc
    by false true None is ends fit f = record { other = is; inside = ends; fit = fit; is = sym (ap octets_of f) }

-- a carry that makes a message
pub record Relays (worlds : Worlds) (w : Word) (name : Labels) (message : List ℕ) : Type 0 where
  pub apex : Labels
  pub set : RecordSet
  pub apex_is : worlds.apex ≡ Some apex
  pub held_is : held_of by_history worlds.near w name ≡ Some set
  pub relays : IsRelayed apex name set message

pub relays-so : (worlds : Worlds) (w : Word) (name : Labels) (message : List ℕ) → carry_of by_history worlds w name ≡ Some (Message message) → Relays worlds w name message
relays-so worlds w name message e = by worlds.apex (held_of by_history worlds.near w name) refl refl e
  where
    by : (a : Option Labels) (o : Option RecordSet) → worlds.apex ≡ a → held_of by_history worlds.near w name ≡ o → relayed_of a name o ≡ Some (Message message) → Relays worlds w name message
    by None None is held_is f = absurd cc
    by None (Some set) is held_is f = absurd cc
    by (Some apex) None is held_is f = absurd cc
    by (Some apex) (Some set) is held_is f = record { apex = apex; set = set; apex_is = is; held_is = held_is; relays = is-relayed apex name set message (same_found (relayed apex name set 0) (Message message) f) }

-- ---- each line

module _ (script : List WholeLine) (are : AreWholeLines script) where
  line-written : (before : List WholeLine) (line : WholeLine) (after : List WholeLine) → script ≡ before ++ line ∷ after → IsReadWhole are.all line → MakesWritten (worlds_after by_history before (start_worlds script)) line
  line-written before (one line) after split read = tt
  line-written before (far_zone apex serial) after split read = tt
  line-written before (far_client w) after split read = tt
  line-written before (carry w name written) after split read = λ message made.
      let worlds : Worlds = worlds_after by_history before (start_worlds script) in
      let r = relays-so worlds w name message made in
      let apex_is : apex_in script ≡ Some r.apex = sym (apex-stays before (start_worlds script)) ∙ r.apex_is in
      let standing = near-stands script before (carry w name written ∷ after) are split in
      let set = held-set worlds.near standing w name r.set r.held_is in
      subst AreWritten (sym r.relays.is)
      (carrying-written r.apex name r.set (apex-named are.all script r.apex are.read apex_is) (apex-short are.all are.carriers none_known script r.apex are.follow apex_is)
      (set-carriable worlds.near standing w name r.set ((is_name-Decides name).0 read.within) set))

  lines-written : (before lines : List WholeLine) → script ≡ before ++ lines → AllByRecursion (IsReadWhole are.all) lines → CarriesAreWritten lines (worlds_after by_history before (start_worlds script))
  lines-written before [] split read = tt
  lines-written before (line ∷ lines) split read = (
    line-written before line lines split read.0,
    subst (CarriesAreWritten lines) (worlds-behind before (line ∷ []) (start_worlds script))
        (lines-written (before ++ line ∷ []) lines (split ∙ sym (append_assoc before (line ∷ []) lines)) read.1),
  )

pub carries-written : (script : List WholeLine) → AreWholeLines script → CarriesAreWritten script (start_worlds script)
carries-written script are = lines-written script are [] script refl are.read
