-- What a carry that makes a message is answered: 0, and the second zone has the set; or 5, just where it would have too many records.
--     carries-answer
use Rattle.std.proofs.Common.{◌≡◌, ℕ, suc, ◌+◌, ◌≤◌, ◌<◌, ◌==◌, ◌||◌, not, Bool, true, false, cond, ltb, List, [], ◌∷◌, ◌++◌, map, find, length, Some, None, Result, Ok, Err, refl, sym, ap, subst, ◌∙◌, arith}
use Rattle.std.specs.Prelude.{nat_le, flat_map, if◌then◌else◌}
use Rattle.std.specs.List.{AllByRecursion}
use Rattle.std.proofs.lemmas.Bool.{le-leb, lt-leb, le-ltb, lt-ltb}
use Rattle.std.proofs.lemmas.List.{length-append}
use Rattle.push_base.specs.Cases.{fault_as, ◌>>=◌}
use Rattle.push_base.specs.Limits.{max_number, max_home_octets}
use Rattle.dnsname.specs.Names.{Labels, IsName, octets, ends_in, same_name, longest}
use Rattle.dnsname.proofs.Decisions.{is_name-Decides}
use Rattle.rrset.specs.Header.{flags_of, is_response, opcode_of, update_opcode}
use Rattle.rrset.specs.Rcodes.{formerr, noerror, refused}
use Rattle.rrset.specs.RecordSet.{RecordSet}
use Rattle.dnswire.specs.Writing.{message_header, question_octets, record_octets, update_octets}
use Rattle.dnswire.specs.declared.message.Update.{Update}
use Rattle.zoneupdate.specs.Zones.{ZoneState, is_inside}
use Rattle.zoneupdate.specs.Updates.{judged, max_zone_records}
use Rattle.zoneupdate.proofs.Owners.{same_name-itself}
use Rattle.dsotlv.proofs.Results.{same_found}
use Rattle.linkcache.specs.Links.{LinkState}
use Rattle.linkcache.specs.Rows.{names_of}
use Rattle.history.specs.States.{State, home_names, zone_of, with_rows, updated, update_in, verdict, after}
use Rattle.history.specs.declared.entry.Entry.TheVariants as entries
use Rattle.pushserver.specs.Hubs as hubs
use Rattle.pushserver.specs.Hubs.{newest, state_now, can_enter}
use Rattle.pushserver.specs.PlainHubs.{Hub}
use Rattle.pushserver.proofs.hub_steps.Cases.{enters_update, update_as}
use Rattle.pushserver.proofs.told_rows.Histories.{state_at-last}
use Rattle.relay.specs.Relay.{carrying, carried, IsCarriable}
use Rattle.relay.specs.Laws.{HaveOctets, Takes}
use Rattle.relay.proofs.Accepting.{carry-accepted}
use Rattle.relay.proofs.Messages.{carries-read, messages-short}
use Rattle.scripts.specs.WholeLines.{carry}
use Rattle.scripts.specs.WholeScripts.{none_known}
use Rattle.replay.specs.TextWords.{by_history}
use Rattle.replay.specs.TwoWorlds.{Worlds, start_worlds, worlds_after}
use Rattle.two_hubs.specs.HalfLaws.{IsReadWhole}
use Rattle.two_hubs.specs.RelayLaws.{AnswersAt, CarriesAnswer}
use Rattle.two_hubs.proofs.FarStates.{far_zone_with, IsFarState, zone-there}
use Rattle.two_hubs.proofs.FarWalk.{rows-along, few-entries}
use Rattle.two_hubs.proofs.HubOctets.{reached-below}
use Rattle.two_hubs.proofs.WorldsAlong.{near-stands, far-stands, apex-stays, apex-named}
use Rattle.two_hubs.proofs.Written.{apex-short, held-set, set-carriable, IsRelayed, relays-so, carries-written}

each-behind : {X : Type 0} (P : X → Type 0) (xs ys : List X) → AllByRecursion P (xs ++ ys) → AllByRecursion P ys
each-behind P [] ys h = h
each-behind P (x ∷ xs) ys h = each-behind P xs ys h.1

-- ---- the message is an update

update-in : (apex name : Labels) (set : RecordSet) → IsName apex → length (octets apex) ≤ max_home_octets → IsCarriable name set → update_in (update_octets (carrying apex name set 0)) ≡ Ok (carrying apex name set 0)
update-in apex name set named short c i = cond (no_less i || no_more i || no_response i || not (is_update i)) (Err formerr) (fault_as (λ _. formerr) (carries-read apex name set 0 named c (omega arith) i))
  where
    k : Update
    k = carrying apex name set 0

    message : List ℕ
    message = update_octets (carrying apex name set 0)

    header : List ℕ
    header = message_header 0 10240 1 0 (length (carrying apex name set 0).changes)

    long : length message ≡ 12 + length (flat_map question_octets k.zones) + length (flat_map record_octets (k.prereqs ++ k.changes))
    long = length-append (header ++ flat_map question_octets k.zones) (flat_map record_octets (k.prereqs ++ k.changes)) ∙ ap (λ n. n + length (flat_map record_octets (k.prereqs ++ k.changes))) (length-append header (flat_map question_octets k.zones))

    no_less : ltb (length (update_octets (carrying apex name set 0))) 12 ≡ false
    no_less = le-ltb (length message) 12 (least (length message) (length (flat_map question_octets k.zones)) (length (flat_map record_octets (k.prereqs ++ k.changes))) long)
      where
        least : (n a b : ℕ) → n ≡ 12 + a + b → 12 ≤ n
        least n a b is = omega (arith, is)

    no_more : ltb 65535 (length (update_octets (carrying apex name set 0))) ≡ false
    no_more = le-ltb 65535 (length message) (most (length message) (messages-short apex name set 0 short c))
      where
        most : (n : ℕ) → n ≤ 60481 → n ≤ 65535
        most n low = omega (arith, low)

    no_response : is_response (flags_of (update_octets (carrying apex name set 0))) ≡ false
    no_response = refl

    is_update : (opcode_of (flags_of (update_octets (carrying apex name set 0))) == update_opcode) ≡ true
    is_update = refl

-- ---- what is judged

abbrev with_new : State → Labels → Result RecordSet ℕ → Result State ℕ
with_new state apex r = r >>= λ rows. Ok (with_rows state apex rows)

abbrev judged_as : Update → Result State ℕ → Result Update ℕ
judged_as k r = r >>= λ _. Ok k

module _ (apex name : Labels) (set rows : RecordSet) (state : State) (f : IsFarState apex rows state) where
  abbrev k : Update
  k = carrying apex name set 0

  abbrev z : ZoneState
  z = far_zone_with apex rows

  updated-is : updated state k ≡ with_new state apex (judged (home_names state) z k)
  updated-is = ap (λ (r : Result ZoneState ℕ). r >>= λ zone. judged (home_names state) zone k >>= λ new. Ok (with_rows state zone.apex new)) (zone-there apex rows state f k.zones refl)

  verdict-is : update_in (update_octets k) ≡ Ok k → verdict state (update_octets k) ≡ judged_as k (with_new state apex (judged (home_names state) z k))
  verdict-is read = ap (λ (r : Result Update ℕ). r >>= λ update. updated state update >>= λ _. Ok update) read ∙ ap (judged_as k) updated-is

  inside-is : ends_in name apex ≡ true → is_inside (home_names state) apex name ≡ true
  inside-is ends =
      (λ i. is_inside (map (λ (y : ZoneState). y.apex) (f.zones i) ++ flat_map (λ (l : LinkState). names_of l.rules) (f.links i)) apex name)
      ∙ ap (λ (b : Bool). inside_by (cond b (apex ∷ []) [])) ends ∙ same_name-itself apex
    where
      inside_by : List Labels → Bool
      inside_by hs = elim (longest hs) as (λ _. Bool) [ None ↦ false | Some h ↦ same_name h apex ]

  zone-now : zone_of state apex ≡ Some z
  zone-now = ap (λ (zs : List ZoneState). find (λ y. same_name y.apex apex) zs) f.zones ∙ ap (λ (b : Bool). cond b (Some z) None) (same_name-itself apex)

  zone-then : (new : RecordSet) → zone_of (with_rows state apex new) apex ≡ Some (far_zone_with apex new)
  zone-then new =
      ap (λ (zs : List ZoneState). find (λ y. same_name y.apex apex) (map (λ (y : ZoneState). cond (same_name y.apex apex) (record y { rows = new }) y) zs)) f.zones
      ∙ ap (λ (b : Bool). find (λ y. same_name y.apex apex) (cond b (far_zone_with apex new) z ∷ [])) (same_name-itself apex)
      ∙ ap (λ (b : Bool). cond b (Some (far_zone_with apex new)) None) (same_name-itself apex)

-- ---- what is answered

module _ (hub : Hub) (apex name : Labels) (set rows : RecordSet) (f : IsFarState apex rows (state_now hub)) (room : can_enter hub ≡ true) (read : update_in (update_octets (carrying apex name set 0)) ≡ Ok (carrying apex name set 0)) where
  abbrev message_is : List ℕ
  message_is = update_octets (carrying apex name set 0)

  abbrev zone_is : ZoneState
  zone_is = far_zone_with apex rows

  abbrev sum : ℕ
  sum = length (carried rows name set)

  answers-by : (j : Result RecordSet ℕ) → judged (home_names (state_now hub)) zone_is (carrying apex name set 0) ≡ j → Takes apex name set rows j → AnswersAt apex name set hub message_is
  answers-by (Ok new) is takes =
      let u : Update = carrying apex name set 0 in
      let state : State = state_now hub in
      let verdict_is : verdict state message_is ≡ Ok u = verdict-is apex name set rows state f read ∙ ap (λ (r : Result RecordSet ℕ). judged_as u (with_new state apex r)) is in
      let updated_is : updated state u ≡ Ok (with_rows state apex new) = updated-is apex name set rows state f ∙ ap (with_new state apex) is in
      let entered : hubs.update hub message_is ≡ enters_update hub u true = ap (update_as hub) verdict_is ∙ ap (enters_update hub u) room in
      let few : nat_le sum max_zone_records ≡ true = le-leb sum max_zone_records takes.1 in
      let later : state_now (enters_update hub u true).1 ≡ with_rows state apex new =
      state_at-last hub.start hub.history (entries.Update u) ∙ ap (λ (r : Result State ℕ). elim r as (λ _. State) [ Err code ↦ state | Ok next ↦ next ]) updated_is in
      record {
        zone = zone_is;
        there = zone-now apex name set rows state f;
        answer = ap (λ (x : ℕ × Hub). x.0) entered ∙ sym (ap (λ (b : Bool). if b then noerror else refused) few);
        later = λ _. (new, ap (λ (x : ℕ × Hub). zone_of (state_now x.1) apex) entered ∙ ap (λ (s : State). zone_of s apex) later ∙ zone-then apex name set rows state f new, takes.0);
      }
  answers-by (Err code) is takes =
      let u : Update = carrying apex name set 0 in
      let state : State = state_now hub in
      let verdict_is : verdict state message_is ≡ Err code = verdict-is apex name set rows state f read ∙ ap (λ (r : Result RecordSet ℕ). judged_as u (with_new state apex r)) is in
      let many : nat_le sum max_zone_records ≡ false = lt-leb sum max_zone_records takes.1 in
      record {
        zone = zone_is;
        there = zone-now apex name set rows state f;
        answer = ap (λ (v : Result Update ℕ). (update_as hub v).0) verdict_is ∙ takes.0 ∙ sym (ap (λ (b : Bool). if b then noerror else refused) many);
        later = λ fits. (let wrong : true ≡ false = sym fits ∙ many in absurd cc);
      }

pub carries-answer : CarriesAnswer
carries-answer script are before after w name written message apex split is made =
    let worlds : Worlds = worlds_after by_history before (start_worlds script) in
    let m = relays-so worlds w name message made in
    let own : m.apex ≡ apex = same_found m.apex apex (sym m.apex_is ∙ (apex-stays before (start_worlds script) ∙ is)) in
    let relays : IsRelayed apex name m.set message = subst (λ (a : Labels). IsRelayed a name m.set message) own m.relays in
    let near = near-stands script before (carry w name written ∷ after) are split in
    let far = far-stands script before (carry w name written ∷ after) are (carries-written script are) split in
    let named : IsName apex = apex-named are.all script apex are.read is in
    let short = apex-short are.all are.carriers none_known script apex are.follow is in
    let reads = each-behind (IsReadWhole are.all) before (carry w name written ∷ after) (subst (AllByRecursion (IsReadWhole are.all)) split are.read) in
    let c : IsCarriable name m.set = set-carriable worlds.near near w name m.set ((is_name-Decides name).0 reads.0.within) (held-set worlds.near near w name m.set m.held_is) in
    let r = rows-along script are apex is before (carry w name written ∷ after) split in
    let hub : Hub = worlds.far.hub in
    let below = subst (AllByRecursion (λ (y : ZoneState). HaveOctets y.rows)) r.state.zones (reached-below hub far.1.reached (newest hub) (same (newest hub))).zones in
    let takes = carry-accepted (home_names (state_now hub)) (far_zone_with apex r.rows) name m.set 0 r.kept below.0 refl (inside-is apex name m.set r.rows (state_now hub) r.state relays.inside) relays.other c relays.fit in
    let few = few-entries script are apex is before (carry w name written ∷ after) split in
    let room : can_enter hub ≡ true = lt-ltb (newest hub) max_number (small (newest hub) (length before) (length after) (length script) few (ap length split ∙ length-append before (carry w name written ∷ after)) are.few) in (
      m.set,
      m.held_is,
      subst (AnswersAt apex name m.set hub) (sym relays.is)
          (answers-by hub apex name m.set r.rows r.state room (update-in apex name m.set named short c) (judged (home_names (state_now hub)) (far_zone_with apex r.rows) (carrying apex name m.set 0)) refl takes),
    )
  where
    same : (n : ℕ) → n ≤ n
    same n = omega arith

    small : (newest before after all : ℕ) → newest ≤ before → all ≡ before + suc after → all ≤ 16777216 → newest < 18446744073709551615
    small newest before after all low is few = omega (arith, low, is, few)
