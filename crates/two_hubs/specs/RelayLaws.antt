-- What far clients show: what was carried.
--     tells_held world w question      whether `show` would tell `held`
--     ShowsCarriedIn script      a `held` line of a far client shows the first history at the point of the last carry of the name before its own point, or nothing
--     CarriesRiseIn script      later carries of a name carry no earlier points
--     NeverEarlierIn script      no `held` line shows an earlier state than one before it
--     NewestIsCarriedIn script      right after a settle it shows that of the last one
--     CarriesAnswerIn script      a carry is answered 0, and the second zone has the set, or 5 just where it would have too many records
--     ShowsCarried, CarriesRise, NeverEarlier, NewestIsCarried, CarriesAnswer      of all scripts
use Rattle.std.specs.Prelude.{◌≡◌, ℕ, Bool, true, false, not, ◌&&◌, List, ◌∷◌, ◌++◌, map, length, Some, None, IsTrue, nat_le, if◌then◌else◌}
use Rattle.std.specs.List.Sorted.{IsNonDecreasing}
use Rattle.dnsname.specs.Names.{Labels, same_name}
use Rattle.rrset.specs.Rcodes.{noerror, refused}
use Rattle.rrset.specs.RecordSet.{RecordSet}
use Rattle.rrset.specs.declared.record.Question.{Question}
use Rattle.zoneupdate.specs.Zones.{ZoneState}
use Rattle.zoneupdate.specs.Updates.{max_zone_records}
use Rattle.history.specs.States.{zone_of}
use Rattle.pushserver.specs.Giving.{is_served_at}
use Rattle.pushserver.specs.Hubs as hubs
use Rattle.pushserver.specs.PlainHubs.{Hub}
use Rattle.pushclient.specs.Clients.{held}
use Rattle.relay.specs.Relay.{carried}
use Rattle.relay.specs.Laws.{Carries}
use Rattle.relay.specs.declared.relay.Relayed.TheVariants.{Message}
use Rattle.scripts.specs.Lines.{Word, show}
use Rattle.replay.specs.World.{World, Seat, seat_of}
use Rattle.replay.specs.TextWords.{by_history}
use Rattle.replay.specs.HeldPoints.{point_at, settled_from}
use Rattle.replay.specs.Promises.{held_lines, is_wanted, shows_records}
use Rattle.scripts.specs.WholeLines.{WholeLine, one, carry, is_far_in}
use Rattle.scripts.specs.WholeScripts.{apex_in}
use Rattle.replay.specs.TwoWorlds.{Worlds, start_worlds, held_of, carry_of, lines_do, worlds_after, far_lines_after}
use Rattle.two_hubs.specs.Carrying.{Good, goods_from, goods_in, carried_at, last_carried, matching_at, states_shown, state_number}
use Rattle.two_hubs.specs.HalfLaws.{AreWholeLines}

-- whether `show` would tell `held` of a client's question
abbrev pub tells_held : World → Word → Question → Bool
tells_held world w question = elim (seat_of world w) [ None ↦ false | Some seat ↦ not seat.is_lone && shows_records seat (held seat.client question) ]

-- the line shows a point of the second history, and what the first had of the question at the point that was carried last by then; nothing where none was
pub record ShowsCarriedAt (worlds : Worlds) (goods : List Good) (w : Word) (question : Question) (written : List ℕ) : Type 0 where
  pub point : ℕ
  pub shown : point_at worlds.far w question ≡ Some point
  pub lines : (lines_do by_history (one (show w question written)) worlds).1 ≡ held_lines w question written (matching_at worlds.near.hub question (carried_at goods point))

-- of each `show` of a far client that tells `held`, behind any lines, of a name that isn't the second zone's own
abbrev pub ShowsCarriedIn : List WholeLine → Type 0
ShowsCarriedIn script = (before after : List WholeLine) (w : Word) (question : Question) (written : List ℕ) (apex : Labels) → script ≡ before ++ after
    → apex_in script ≡ Some apex → same_name question.name apex ≡ false
    → let worlds = worlds_after by_history before (start_worlds script) in
    IsTrue (is_far_in worlds.fars w) → IsTrue (tells_held worlds.far w question) → ShowsCarriedAt worlds (goods_from question.name before (start_worlds script)) w question written

abbrev pub CarriesRiseIn : List WholeLine → Type 0
CarriesRiseIn script = (name : Labels) → IsNonDecreasing (map (λ g. g.near_point) (goods_in name script)) × IsNonDecreasing (map (λ g. g.far_point) (goods_in name script))

abbrev pub NeverEarlierIn : List WholeLine → Type 0
NeverEarlierIn script = (w : Word) (question : Question) → IsNonDecreasing (map state_number (states_shown w question script))

-- the lines of the second hub have settled the client, and no carry came since
abbrev pub NewestIsCarriedIn : List WholeLine → Type 0
NewestIsCarriedIn script = (before after : List WholeLine) (w : Word) (seat : Seat) (question : Question) (written : List ℕ) (apex : Labels) → script ≡ before ++ after
    → apex_in script ≡ Some apex → same_name question.name apex ≡ false
    → IsTrue (settled_from w false (far_lines_after by_history before (start_worlds script)) (start_worlds script).far)
    → let worlds = worlds_after by_history before (start_worlds script) in
    IsTrue (is_far_in worlds.fars w) → seat_of worlds.far w ≡ Some seat → IsTrue (is_wanted seat.client question) → IsTrue (is_served_at (hubs.state_now worlds.far.hub) question)
    → (lines_do by_history (one (show w question written)) worlds).1
    ≡ held_lines w question written (matching_at worlds.near.hub question (last_carried (goods_from question.name before (start_worlds script))))

-- the second zone before a carry that makes a message, what is answered, and, where it is taken, the zone behind it
pub record AnswersAt (apex name : Labels) (set : RecordSet) (hub : Hub) (message : List ℕ) : Type 0 where
  pub zone : ZoneState
  pub there : zone_of (hubs.state_now hub) apex ≡ Some zone
  pub answer : (hubs.update hub message).0 ≡ (if nat_le (length (carried zone.rows name set)) max_zone_records then noerror else refused)
  pub later : nat_le (length (carried zone.rows name set)) max_zone_records ≡ true
      → (rows : RecordSet) × (zone_of (hubs.state_now (hubs.update hub message).1) apex ≡ Some (record zone { rows = rows })) × Carries apex name set zone.rows rows

-- of each carry that makes one
abbrev pub CarriesAnswerIn : List WholeLine → Type 0
CarriesAnswerIn script = (before after : List WholeLine) (w : Word) (name : Labels) (written message : List ℕ) (apex : Labels) → script ≡ before ++ carry w name written ∷ after → apex_in script ≡ Some apex
    → let worlds = worlds_after by_history before (start_worlds script) in
    carry_of by_history worlds w name ≡ Some (Message message) → (set : RecordSet) × (held_of by_history worlds.near w name ≡ Some set) × AnswersAt apex name set worlds.far.hub message

-- ---- of all scripts

abbrev pub ShowsCarried : Type 0
ShowsCarried = (script : List WholeLine) → AreWholeLines script → ShowsCarriedIn script

abbrev pub CarriesRise : Type 0
CarriesRise = (script : List WholeLine) → AreWholeLines script → CarriesRiseIn script

abbrev pub NeverEarlier : Type 0
NeverEarlier = (script : List WholeLine) → AreWholeLines script → NeverEarlierIn script

abbrev pub CarriesAnswer : Type 0
CarriesAnswer = (script : List WholeLine) → AreWholeLines script → CarriesAnswerIn script

abbrev pub NewestIsCarried : Type 0
NewestIsCarried = (script : List WholeLine) → AreWholeLines script → NewestIsCarriedIn script
