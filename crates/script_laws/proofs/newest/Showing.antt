-- What `show` tells of a client with which nothing is under way.
--     shows-newest      the records of the newest point
use Rattle.std.proofs.Common.{◌≡◌, Bool, true, false, [], Option, Some, None, refl, sym, ◌∙◌, ap, true≢false}
use Rattle.std.specs.Prelude.{◌&&◌, is_some, codes, if◌then◌else◌}
use Rattle.rrset.specs.Records.{same_question}
use Rattle.rrset.specs.RecordSet.{RecordSet, matching}
use Rattle.dsotlv.specs.Notices.{applied_all}
use Rattle.pushserver.specs.Hubs.{records_now}
use Rattle.pushclient.specs.Clients.{Connection, Wish, RequestState, Held, off, set_held, held_as, held, wish_for, is_connected}
use Rattle.pushclient.proofs.SoundWishes.{find_holds}
use Rattle.flight_laws.proofs.Alike.{matching-alike}
use Rattle.replay.specs.TextWords.{with_records, by_history, is_filling, told_of}
use Rattle.script_laws.specs.Reached.{ReachedSessions, ReachedOnesAreSound}
use Rattle.script_laws.specs.Texts.{QuietOnesShowNewest}
use Rattle.script_laws.proofs.texts.HeldSets.{held_in, held-told}
use Rattle.script_laws.proofs.texts.Shows.{told_by}
use Rattle.script_laws.proofs.newest.Arrival.{IsHeldNow, held-now}

abbrev held_by : Bool → Wish → Held
held_by b wish = if b then held_as wish.standing wish else off

abbrev connected_by : Option Connection → Bool
connected_by c = is_some c

wanted-wish : (o : Option Wish) → elim o as (λ _. Bool) [ None ↦ false | Some w ↦ w.wanted ] ≡ true → (w : Wish) × (o ≡ Some w) × (w.wanted ≡ true)
wanted-wish None e = absurd (true≢false (sym e))
wanted-wish (Some w) e = (w, refl, e)

module _ (sessions : ReachedSessions) (sound : ReachedOnesAreSound) where
  pub shows-newest : QuietOnesShowNewest
  shows-newest world shown seat number question reached is stands quiet wanted served =
      let j = stands.joined in
      let wish = wanted-wish (wish_for seat.client question) wanted in
      let w = wish.0 in
      let now : IsHeldNow world.hub seat w =
      held-now world.hub shown seat number stands.session stands.connection (sound world.hub reached) (sessions world.hub number stands.session reached j.there) j quiet question w wish.1 served in
      let set : RecordSet = applied_all w.notices w.question [] in
      let joined : is_connected seat.client ≡ true = ap connected_by j.connected in
      let held_is : held seat.client question ≡ set_held now.id set =
      ap (held_in (is_connected seat.client)) wish.1 ∙ ap (λ b. held_by (b && is_connected seat.client) w) wish.2 ∙ ap (λ b. held_by b w) joined ∙ ap (λ (s : RequestState). held_as s w) now.standing in
      let alike : same_question w.question question ≡ true = find_holds (λ v. same_question v.question question) seat.client.wishes w wish.1 in
      let told : by_history world.hub seat question set ≡ matching question (records_now world.hub) =
      sym (held-told sessions world.hub shown seat number now.id question set reached is stands held_is now.filled) ∙ now.set ∙ matching-alike w.question question alike (records_now world.hub) in
      ap (λ h. told_of by_history h world.hub seat question) held_is
      ∙ ap (λ b. told_by b (is_filling seat now.id) set (by_history world.hub seat question set)) stands.lone
      ∙ ap (λ b. told_by false b set (by_history world.hub seat question set)) now.filled
      ∙ ap (with_records (codes "held")) told
