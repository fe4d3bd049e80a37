-- The RCODE of an update is one of few.
--     codes_are_small
use Rattle.std.proofs.Common.{ℕ, ◌<◌, Bool, true, false, cond, not, ◌&&◌, ◌||◌, List, [], ◌∷◌, map, length, Option, Some, None, Ok, Err, Result, arith}
use Rattle.std.specs.Prelude.{◌==◌, nat_lt}
use Rattle.std.specs.List.{AllByRecursion}
use Rattle.push_base.specs.Cases.{◌>>=◌, fault_as, first_refusal, first_refused, is_empty}
use Rattle.dnsname.specs.Names.{Labels}
use Rattle.rrset.specs.Header.{flags_of, is_response, opcode_of, update_opcode}
use Rattle.rrset.specs.Kinds.{in_class, any_class, none_class, any_kind, soa_kind, is_meta}
use Rattle.rrset.specs.Rcodes.{noerror, formerr, servfail, refused, nxrrset, notauth, notzone}
use Rattle.rrset.specs.RecordSet.{RecordSet, at_name}
use Rattle.rrset.specs.declared.record.Rr.{Rr}
use Rattle.rrset.specs.declared.record.Question.{Question}
use Rattle.dnswire.specs.Reading.{update_of}
use Rattle.dnswire.specs.declared.message.Update.{Update}
use Rattle.dnswire.specs.declared.message.WireFault.{WireFault}
use Rattle.zoneupdate.specs.Zones.{ZoneState, is_inside, set_at}
use Rattle.zoneupdate.specs.Updates.{with_counted_ttl, prerequisite_refusal, change_refusal, accepted_or, or_later, refused_first, sets_agree, rows_after, is_within_limits, judged}
use Rattle.history.specs.States.{State, home_names, zone_of, with_rows, zone_asked, zone_for, updated, update_in, verdict}
use Rattle.history.specs.declared.entry.Entry.TheVariants as entries
use Rattle.pushserver.specs.PlainHubs.{Hub}
use Rattle.pushserver.specs.Hubs.{state_now, can_enter, entered_keeping, update}

abbrev pub SmallErr : {A : Type 0} → Result A ℕ → Type 0
SmallErr (Ok x) = Unit {0}
SmallErr (Err code) = code < 2048

abbrev pub SmallSome : Option ℕ → Type 0
SmallSome None = Unit {0}
SmallSome (Some code) = code < 2048

pub small-then : {A B : Type 0} (r : Result A ℕ) (next : A → Result B ℕ) → SmallErr r → ((x : A) → SmallErr (next x)) → SmallErr (r >>= next)
small-then (Ok x) next h later = later x
small-then (Err code) next h later = h

pub small-either : {A : Type 0} (b : Bool) (r s : Result A ℕ) → SmallErr r → SmallErr s → SmallErr (cond b r s)
small-either true r s h g = h
small-either false r s h g = g

pub small-accepted : {A : Type 0} (o : Option ℕ) (r : Result A ℕ) → SmallSome o → SmallErr r → SmallErr (accepted_or o r)
small-accepted None r h g = g
small-accepted (Some code) r h g = h

pub small-first : (cases : List (Bool × ℕ)) → AllByRecursion (λ c. c.1 < 2048) cases → SmallSome (first_refusal cases)
small-first [] all = tt
small-first (c ∷ cases) all = by c.0 (small-first cases all.1)
  where
    by : (b : Bool) → SmallSome (first_refusal cases) → SmallSome (cond b (Some c.1) (first_refusal cases))
    by true rest = all.0
    by false rest = rest

pub small-refused : {X : Type 0} (refusal : X → Option ℕ) (xs : List X) → ((x : X) → SmallSome (refusal x)) → SmallSome (first_refused refusal xs)
small-refused refusal [] small = tt
small-refused refusal (x ∷ xs) small = by (refusal x) (small x) (small-refused refusal xs small)
  where
    by : (o : Option ℕ) → SmallSome o → SmallSome (first_refused refusal xs) → SmallSome (elim o as (λ _. Option ℕ) [ Some code ↦ Some code | None ↦ first_refused refusal xs ])
    by None h rest = rest
    by (Some code) h rest = h

pub small-prerequisite : (homes : List Labels) (zone : ZoneState) (rr : Rr) → SmallSome (prerequisite_refusal homes zone rr)
small-prerequisite homes zone rr =
    let named = at_name rr.owner zone.rows in
    let set = set_at rr.owner rr.kind zone.rows in
    small-first (
    (not (rr.ttl == 0), formerr)
    ∷ (not (is_inside homes zone.apex rr.owner), notzone)
    ∷ ((rr.class == any_class || rr.class == none_class) && not (is_empty rr.rdata), 1)
    ∷ (rr.class == any_class && rr.kind == any_kind && is_empty named, 3)
    ∷ (rr.class == any_class && not (rr.kind == any_kind) && is_empty set, 8)
    ∷ (rr.class == none_class && rr.kind == any_kind && not (is_empty named), 6)
    ∷ (rr.class == none_class && not (rr.kind == any_kind) && not (is_empty set), 7)
    ∷ (not (rr.class == in_class || rr.class == any_class || rr.class == none_class), 1)
    ∷ []) (omega arith, (omega arith, (omega arith, (omega arith, (omega arith, (omega arith, (omega arith, (omega arith, tt))))))))

pub small-change : (homes : List Labels) (zone : ZoneState) (rr : Rr) → SmallSome (change_refusal homes zone rr)
small-change homes zone rr =
    small-first (
    (not (is_inside homes zone.apex rr.owner), notzone)
    ∷ (rr.class == in_class && is_meta rr.kind, 1)
    ∷ (rr.class == any_class && (not (rr.ttl == 0) || not (is_empty rr.rdata) || (is_meta rr.kind && not (rr.kind == any_kind))), 1)
    ∷ (rr.class == none_class && (not (rr.ttl == 0) || is_meta rr.kind), 1)
    ∷ (not (rr.class == in_class || rr.class == any_class || rr.class == none_class), 1)
    ∷ []) (omega arith, (omega arith, (omega arith, (omega arith, (omega arith, tt)))))

small-or_later : (o later : Option ℕ) → SmallSome o → SmallSome later → SmallSome (or_later o later)
small-or_later None later h g = g
small-or_later (Some code) later h g = h

small-case : (b : Bool) (code : ℕ) (later : Option ℕ) → code < 2048 → SmallSome later → SmallSome (cond b (Some code) later)
small-case true code later h g = h
small-case false code later h g = g

small-refused_first : (homes : List Labels) (zone : ZoneState) (u : Update) → SmallSome (refused_first homes zone u)
small-refused_first homes zone u =
    let prereqs = map with_counted_ttl u.prereqs in
    let changes = map with_counted_ttl u.changes in
    let prescan : Option ℕ = first_refused (change_refusal homes zone) changes in
    let permission : Option ℕ = cond (not zone.writable) (Some refused) prescan in
    small-or_later (first_refused (prerequisite_refusal homes zone) prereqs) (cond (not (sets_agree prereqs zone.rows)) (Some nxrrset) permission)
    (small-refused (prerequisite_refusal homes zone) prereqs (small-prerequisite homes zone))
    (small-case (not (sets_agree prereqs zone.rows)) nxrrset permission (omega arith)
    (small-case (not zone.writable) refused prescan (omega arith)
    (small-refused (change_refusal homes zone) changes (small-change homes zone))))

pub small-judged : (homes : List Labels) (zone : ZoneState) (u : Update) → SmallErr (judged homes zone u)
small-judged homes zone u =
    let after : RecordSet = rows_after zone (map with_counted_ttl u.changes) in
    small-accepted (refused_first homes zone u) (cond (is_within_limits after) (Ok after) (Err refused)) (small-refused_first homes zone u)
    (small-either (is_within_limits after) (Ok after) (Err refused) tt (omega arith))

pub small-zone_asked : (questions : List Question) → SmallErr (zone_asked questions)
small-zone_asked [] = omega arith
small-zone_asked (q ∷ []) = small-either (q.kind == soa_kind) (cond (q.class == in_class) (Ok q.name) (Err notauth)) (Err formerr) (small-either (q.class == in_class) (Ok q.name) (Err notauth) tt (omega arith)) (omega arith)
small-zone_asked (q ∷ r ∷ rest) = omega arith

pub small-zone_for : (state : State) (questions : List Question) → SmallErr (zone_for state questions)
small-zone_for state questions = small-then (zone_asked questions) (λ apex. elim (zone_of state apex) as (λ _. Result ZoneState ℕ) [ None ↦ Err notauth | Some zone ↦ Ok zone ]) (small-zone_asked questions) (λ apex. by (zone_of state apex))
  where
    by : (o : Option ZoneState) → SmallErr (elim o as (λ _. Result ZoneState ℕ) [ None ↦ Err notauth | Some zone ↦ Ok zone ])
    by None = omega arith
    by (Some zone) = tt

pub small-updated : (state : State) (u : Update) → SmallErr (updated state u)
small-updated state u = small-then (zone_for state u.zones) (λ zone. judged (home_names state) zone u >>= λ rows. Ok (with_rows state zone.apex rows)) (small-zone_for state u.zones)
    (λ zone. small-then (judged (home_names state) zone u) (λ rows. Ok (with_rows state zone.apex rows)) (small-judged (home_names state) zone u) (λ rows. tt))

pub small-update_in : (message : List ℕ) → SmallErr (update_in message)
small-update_in message =
    small-either (nat_lt (length message) 12 || nat_lt 65535 (length message) || is_response (flags_of message) || not (opcode_of (flags_of message) == update_opcode)) (Err formerr) (fault_as (λ _. formerr) (update_of message)) (omega arith) (by (update_of message))
  where
    by : (r : Result Update WireFault) → SmallErr (fault_as {F = ℕ} (λ _. formerr) r)
    by (Ok u) = tt
    by (Err fault) = omega arith

pub small-verdict : (state : State) (message : List ℕ) → SmallErr (verdict state message)
small-verdict state message = small-then (update_in message) (λ u. updated state u >>= λ _. Ok u) (small-update_in message) (λ u. small-then (updated state u) (λ _. Ok u) (small-updated state u) (λ _. tt))

pub codes_are_small : (hub : Hub) (message : List ℕ) → (update hub message).0 < 2048
codes_are_small hub message = by (verdict (state_now hub) message) (small-verdict (state_now hub) message)
  where
    entering : (u : Update) (b : Bool) → (cond {A = ℕ × Hub} b (noerror, entered_keeping (entries.Update u) hub) (servfail, hub)).0 < 2048
    entering u true = omega arith
    entering u false = omega arith

    by : (r : Result Update ℕ) → SmallErr r → (elim r as (λ _. ℕ × Hub) [ Err code ↦ (code, hub) | Ok u ↦ cond (can_enter hub) (noerror, entered_keeping (entries.Update u) hub) (servfail, hub) ]).0 < 2048
    by (Err code) small = small
    by (Ok u) small = entering u (can_enter hub)
