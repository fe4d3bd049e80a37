-- The states of the second hub: one zone, which a carry changes at its name alone.
--     IsFarState apex rows state      one zone that may be written, with these rows, and no link
--     records-are      its records are the rows
--     start-rows      a new zone has nothing at another name
--     moment-state, carry-state      behind a later moment, and behind a carry
--     not-zero      an update that is refused is never answered with 0
use Rattle.std.proofs.Common.{◌≡◌, ℕ, ◌+◌, ◌==◌, ◌&&◌, ◌||◌, not, Bool, true, false, cond, ltb, eqb, List, [], ◌∷◌, ◌++◌, map, fold, find, length, Option, Some, None, Result, Ok, Err, refl, sym, ap, subst, ◌∙◌, arith}
use Rattle.std.specs.Prelude.{if◌then◌else◌}
use Rattle.std.specs.List.{list_all, AllByRecursion}
use Rattle.push_base.specs.Cases.{first_refusal, first_refused, fault_as, is_empty, ◌>>=◌}
use Rattle.dnsname.specs.Names.{Labels, IsName, lower, same_name}
use Rattle.rrset.specs.Header.{flags_of, is_response, opcode_of, update_opcode}
use Rattle.rrset.specs.Kinds.{in_class, any_class, none_class, any_kind, soa_kind, is_meta}
use Rattle.rrset.specs.Rcodes.{formerr, nxdomain, refused, yxdomain, yxrrset, nxrrset, notauth, notzone}
use Rattle.rrset.specs.Records.{key_of, shown_of}
use Rattle.rrset.specs.RecordSet.{RecordSet, is_in_order, shows_its_key, at_name, only, without, union, put_rr}
use Rattle.rrset.specs.declared.record.Rr.{Rr}
use Rattle.rrset.specs.declared.record.Key.{Key}
use Rattle.rrset.specs.declared.record.Question.{Question}
use Rattle.rrset.proofs.InOrder.{InOrder, in_order-put, in_order-without}
use Rattle.rrset.proofs.Selected.{only-put-failed, only-union}
use Rattle.dnswire.specs.Reading.{update_of}
use Rattle.dnswire.specs.Writing.{update_octets}
use Rattle.dnswire.specs.declared.message.Update.{Update}
use Rattle.dnswire.proofs.Entries.{done_then, same_done}
use Rattle.zoneupdate.specs.Zones.{ZoneState, first_soa, first_ns, new_zone, set_at, is_inside}
use Rattle.zoneupdate.specs.Updates.{with_counted_ttl, prerequisite_refusal, change_refusal, changed_by, with_risen_serial, is_within_limits, accepted_or, or_later, refused_first, rows_after, judged}
use Rattle.zoneupdate.proofs.Filters.{and-right, filter_same}
use Rattle.zoneupdate.specs.KeptZones.{IsKept}
use Rattle.zoneupdate.proofs.KeptZone.{changes_of, judged-accepted, zone-judged}
use Rattle.zoneupdate.proofs.OneSoa.{is_soa_at}
use Rattle.zoneupdate.proofs.Owners.{same_name-itself, same_name-back, same_name-on, same_name-for, same_name-for_second, same_name-lower, of_rrset-owner}
use Rattle.zoneupdate.proofs.RecordSets.{IsSet, set-in_order, set-changes}
use Rattle.history.specs.AtHome.{IsAtHome}
use Rattle.history.specs.States.{State, home_names, zone_of, zone_asked, zone_for, with_rows, updated, update_in, verdict, link_at_moment, after, records}
use Rattle.history.specs.declared.entry.Entry.TheVariants as entries
use Rattle.linkcache.specs.Links.{LinkState}
use Rattle.linkcache.specs.Rows.{shown_rows}
use Rattle.history.proofs.UnitedParts.{union-nothing}
use Rattle.pushserver.specs.Rows.{IsTellable}
use Rattle.relay.specs.Relay.{unfit_kind, carrying, carried, IsCarriable}
use Rattle.relay.specs.Laws.{but_soa}
use Rattle.relay.proofs.Accepting.{but_soa-risen}
use Rattle.relay.proofs.Adding.{IsAdded, each-added, nothing-left, rows-carried}
use Rattle.relay.proofs.Messages.{carries-read}
use Rattle.two_hubs.proofs.Growing.{after-links}
use Rattle.two_hubs.proofs.RowOctets.{is_update}

-- ---- such a state

abbrev pub far_zone_with : Labels → RecordSet → ZoneState
far_zone_with apex rows = record { apex = apex; writable = true; rows = rows }

pub record IsFarState (apex : Labels) (rows : RecordSet) (state : State) : Type 0 where
  pub zones : state.zones ≡ far_zone_with apex rows ∷ []
  pub links : state.links ≡ []

pub rows-set : (apex : Labels) (rows : RecordSet) (state : State) → IsFarState apex rows state → IsTellable state → IsSet rows
rows-set apex rows state f tellable = (subst (AllByRecursion (IsAtHome (home_names state))) f.zones tellable.home.zones).0.set

pub records-are : (apex : Labels) (rows : RecordSet) (state : State) → IsFarState apex rows state → IsSet rows → records state ≡ rows
records-are apex rows state f set = (λ i. fold union [] (map (λ (z : ZoneState). z.rows) (f.zones i) ++ map (λ (l : LinkState). shown_rows l.rules l.rows) (f.links i))) ∙ union-nothing rows (set-in_order rows set)

-- ---- parts of a set

pub only-beside : (p t : Key → Bool) → ((key : Key) → p key ≡ true → t key ≡ false) → (rows : RecordSet) → only p (without t rows) ≡ only p rows
only-beside p t apart [] = refl
only-beside p t apart (e ∷ rows) = by (t e.0) (p e.0) refl refl (only-beside p t apart rows)
  where
    by : (a b : Bool) → t e.0 ≡ a → p e.0 ≡ b → only p (without t rows) ≡ only p rows → only p (cond (not (t e.0)) (e ∷ without t rows) (without t rows)) ≡ cond (p e.0) (e ∷ only p rows) (only p rows)
    by true true is one rest = let wrong : true ≡ false = sym is ∙ apart e.0 one in absurd cc
    by true false is one rest = (λ i. only p (cond (not (is i)) (e ∷ without t rows) (without t rows))) ∙ rest ∙ (λ i. cond (sym one i) (e ∷ only p rows) (only p rows))
    by false b is one rest = (λ i. only p (cond (not (is i)) (e ∷ without t rows) (without t rows))) ∙ ap (λ (s : RecordSet). cond (p e.0) (e ∷ s) s) rest

only-all : (p : Key → Bool) (set : RecordSet) → AllByRecursion (λ e. p e.0 ≡ true) set → only p set ≡ set
only-all p [] all = refl
only-all p (e ∷ set) all = (λ i. cond (all.0 i) (e ∷ only p set) (only p set)) ∙ ap (λ (s : RecordSet). e ∷ s) (only-all p set all.1)

only-none : (p : Key → Bool) (set : RecordSet) → AllByRecursion (λ e. p e.0 ≡ false) set → only p set ≡ []
only-none p [] all = refl
only-none p (e ∷ set) all = (λ i. cond (all.0 i) (e ∷ only p set) (only p set)) ∙ only-none p set all.1

pub at-alike : (a b : Labels) → same_name a b ≡ true → (rows : RecordSet) → at_name a rows ≡ at_name b rows
at-alike a b same rows = filter_same (λ e. same_name a e.0.owner) (λ e. same_name b e.0.owner) (λ e. same_name-for a b e.0.owner same) rows

apart-from : (n apex : Labels) → same_name n apex ≡ false → (key : Key) → same_name n key.owner ≡ true → is_soa_at apex key ≡ false
apart-from n apex other key at = by (is_soa_at apex key) refl
  where
    by : (b : Bool) → is_soa_at apex key ≡ b → b ≡ false
    by false is = refl
    by true is =
        let own : same_name apex key.owner ≡ true = of_rrset-owner apex in_class soa_kind key is in
        let wrong : true ≡ false = sym (same_name-on n key.owner apex at (same_name-back apex key.owner own)) ∙ other in
        absurd cc

but-soa-at : (n apex : Labels) → same_name n apex ≡ false → (rows : RecordSet) → at_name n (but_soa apex rows) ≡ at_name n rows
but-soa-at n apex other rows = only-beside (λ key. same_name n key.owner) (is_soa_at apex) (apart-from n apex other) rows

-- ---- the start

-- a record of the apex isn't at another name
put-elsewhere : (n apex : Labels) → same_name n apex ≡ false → (rr : Rr) → rr.owner ≡ apex → (rows : RecordSet) → InOrder rows → at_name n (put_rr rows rr) ≡ at_name n rows
put-elsewhere n apex other rr own rows sorted = only-put-failed (λ key. same_name n key.owner) (key_of rr) (shown_of rr) rows sorted failed
  where
    failed : same_name n (lower rr.owner) ≡ false
    failed = ap (λ (o : Labels). same_name n (lower o)) own ∙ sym (same_name-for_second n apex (lower apex) (same_name-lower apex)) ∙ other

pub start-rows : (n apex : Labels) (serial : ℕ) → same_name n apex ≡ false → at_name n (new_zone apex serial true).rows ≡ []
start-rows n apex serial other =
    put-elsewhere n apex other (first_ns apex) refl (put_rr [] (first_soa apex serial)) (in_order-put (key_of (first_soa apex serial)) (shown_of (first_soa apex serial)) [] tt)
    ∙ put-elsewhere n apex other (first_soa apex serial) refl [] tt

-- ---- a later moment

pub moment-state : (apex : Labels) (rows : RecordSet) (state : State) (t : ℕ) → IsFarState apex rows state → IsFarState apex rows (after state (entries.Moment t))
moment-state apex rows state t f = record { zones = by (ltb state.now t); links = after-links state (entries.Moment t) f.links }
  where
    by : (b : Bool) → (cond b (record state { now = t; links = map (link_at_moment t) state.links }) state).zones ≡ far_zone_with apex rows ∷ []
    by true = f.zones
    by false = f.zones

-- ---- a carry

-- what is at a name behind it
at-carried : (n name : Labels) (rows set : RecordSet) → IsSet rows → IsCarriable name set → (b : Bool) → same_name name n ≡ b → at_name n (carried rows name set) ≡ (if b then set else at_name n rows)
at-carried n name rows set is c b same = whole ∙ by b same
  where
    p : Key → Bool
    p key = same_name n key.owner

    q : Key → Bool
    q key = same_name name key.owner

    added : AllByRecursion (IsAdded name) set
    added = each-added name set c.rows (and-right (is_in_order set) (list_all shows_its_key set) c.is_set)

    whole : at_name n (carried rows name set) ≡ union (only p (without q rows)) (only p set)
    whole = only-union p (without q rows) set (in_order-without q rows (set-in_order rows is))

    all-at : same_name name n ≡ true → (es : RecordSet) → AllByRecursion (IsAdded name) es → AllByRecursion (λ e. p e.0 ≡ true) es
    all-at e [] h = tt
    all-at e (x ∷ es) h = (sym (same_name-for name n x.0.owner e) ∙ h.0.same, all-at e es h.1)

    none-at : same_name name n ≡ false → (es : RecordSet) → AllByRecursion (IsAdded name) es → AllByRecursion (λ e. p e.0 ≡ false) es
    none-at e [] h = tt
    none-at e (x ∷ es) h = (not-at (same_name n x.0.owner) refl, none-at e es h.1)
      where
        not-at : (t : Bool) → same_name n x.0.owner ≡ t → t ≡ false
        not-at false f = refl
        not-at true f = let wrong : true ≡ false = sym (same_name-on name x.0.owner n h.0.same (same_name-back n x.0.owner f)) ∙ e in absurd cc

    beside : same_name name n ≡ false → (key : Key) → p key ≡ true → q key ≡ false
    beside e key at = not-at (same_name name key.owner) refl
      where
        not-at : (t : Bool) → same_name name key.owner ≡ t → t ≡ false
        not-at false f = refl
        not-at true f = let wrong : true ≡ false = sym (same_name-on name key.owner n f (same_name-back n key.owner at)) ∙ e in absurd cc

    by : (t : Bool) → same_name name n ≡ t → union (only p (without q rows)) (only p set) ≡ (if t then set else at_name n rows)
    by true e =
        (λ i. union ((at-alike n name (same_name-back name n e) (without q rows) ∙ nothing-left name rows) i) (only-all p set (all-at e set added) i))
        ∙ union-nothing set (set-in_order set c.is_set)
    by false e = (λ i. union (only-beside p q (beside e) rows i) (only-none p set (none-at e set added) i))

-- the zone that is asked for
abbrev zone_or : Option ZoneState → Result ZoneState ℕ
zone_or None = Err notauth
zone_or (Some zone) = Ok zone

abbrev zone_by : State → Result Labels ℕ → Result ZoneState ℕ
zone_by state r = r >>= λ apex. zone_or (zone_of state apex)

pub zone-there : (apex : Labels) (rows : RecordSet) (state : State) → IsFarState apex rows state → (q : List Question) → zone_asked q ≡ Ok apex → zone_for state q ≡ Ok (far_zone_with apex rows)
zone-there apex rows state f q asked =
    ap (zone_by state) asked
    ∙ ap (λ (zs : List ZoneState). zone_or (find (λ z. same_name z.apex apex) zs)) f.zones
    ∙ ap (λ (b : Bool). zone_or (cond b (Some (far_zone_with apex rows)) None)) (same_name-itself apex)

-- the state behind a carry that is accepted
pub record IsCarriedTo (apex name : Labels) (set rows : RecordSet) (later : State) : Type 0 where
  pub new : RecordSet
  pub state : IsFarState apex new later
  pub at : (n : Labels) → same_name n apex ≡ false → (b : Bool) → same_name name n ≡ b → at_name n new ≡ (if b then set else at_name n rows)
  pub kept : IsKept (far_zone_with apex rows) → IsKept (far_zone_with apex new)

pub carry-state : (apex name : Labels) (set rows : RecordSet) (state : State) (u : Update) → IsFarState apex rows state → IsSet rows → IsName apex → IsCarriable name set → unfit_kind set ≡ None → same_name name apex ≡ false
    → verdict state (update_octets (carrying apex name set 0)) ≡ Ok u → IsCarriedTo apex name set rows (after state (entries.Update u))
carry-state apex name set rows state u f is named c fit other e =
    let k : Update = carrying apex name set 0 in
    let message : List ℕ = update_octets k in
    let z : ZoneState = far_zone_with apex rows in
    let first = done_then {A = Update} (update_in message) _ u e in
    let second = done_then {A = State} (updated state first.0) _ u first.2 in
    let taken : first.0 ≡ u = same_done first.0 u second.2 in
    let read : update_of message ≡ Ok first.0 = (is_update message first.0 first.1).read in
    let is_k : first.0 ≡ k = same_done first.0 k (sym read ∙ carries-read apex name set 0 named c (omega arith)) in
    let step : updated state k ≡ Ok second.0 = ap (updated state) (sym is_k) ∙ second.1 in
    let zone = done_then {A = ZoneState} (zone_for state k.zones) _ second.0 step in
    let same_z : zone.0 ≡ z = same_done zone.0 z (sym zone.1 ∙ zone-there apex rows state f k.zones refl) in
    let made = done_then {A = RecordSet} (judged (home_names state) zone.0 k) _ second.0 zone.2 in
    let judged_is : judged (home_names state) z k ≡ Ok made.0 = ap (λ (y : ZoneState). judged (home_names state) y k) (sym same_z) ∙ made.1 in
    let later_is : with_rows state apex made.0 ≡ second.0 = ap (λ (y : ZoneState). with_rows state y.apex made.0) (sym same_z) ∙ same_done (with_rows state zone.0.apex made.0) second.0 made.2 in
    let accepted = judged-accepted (home_names state) z k made.0 judged_is in
    let changed : fold (changed_by apex) rows (changes_of k) ≡ carried rows name set = rows-carried apex name apex 0 rows set is other c fit in
    let set_new : IsSet (carried rows name set) = subst IsSet changed (set-changes apex (changes_of k) rows is) in
    let new_is : made.0 ≡ with_risen_serial apex rows (carried rows name set) = sym accepted.after ∙ ap (with_risen_serial apex rows) changed in
    let after_is : second.0 ≡ after state (entries.Update u) =
    sym (ap (λ (r : Result State ℕ). elim r as (λ _. State) [ Err code ↦ state | Ok later ↦ later ]) (ap (updated state) (sym taken ∙ is_k) ∙ step)) in
    record {
      new = made.0;
      state = subst (IsFarState apex made.0) (later_is ∙ after_is) (record {
        zones = ap (map (λ (y : ZoneState). cond (same_name y.apex apex) (record y { rows = made.0 }) y)) f.zones ∙ ap (λ (b : Bool). cond b (far_zone_with apex made.0) z ∷ []) (same_name-itself apex);
        links = f.links;
      });
      at = λ n away b same.
          sym (but-soa-at n apex away made.0) ∙ ap (λ (r : RecordSet). at_name n (but_soa apex r)) new_is ∙ ap (at_name n) (but_soa-risen apex rows (carried rows name set) set_new)
          ∙ but-soa-at n apex away (carried rows name set) ∙ at-carried n name rows set is c b same;
      kept = λ old. record { zone = zone-judged (home_names state) z k made.0 old.zone judged_is; limits = accepted.limits; short = old.short };
    }

-- ---- an update that is refused

abbrev IsCode : ℕ → Type 0
IsCode code = (code == 0) ≡ false

abbrev AreCodes : List (Bool × ℕ) → Type 0
AreCodes table = AllByRecursion (λ c. IsCode c.1) table

abbrev some_code : ℕ → Option ℕ
some_code code = Some code

same_code : (a b : ℕ) → some_code a ≡ some_code b → a ≡ b
same_code a b e = cc

first-code : (table : List (Bool × ℕ)) (code : ℕ) → AreCodes table → first_refusal table ≡ Some code → IsCode code
first-code [] code all e = absurd cc
first-code (c ∷ table) code all e = by c.0 e (λ f. first-code table code all.1 f)
  where
    by : (b : Bool) → cond b (Some c.1) (first_refusal table) ≡ Some code → (first_refusal table ≡ Some code → IsCode code) → IsCode code
    by true f others = subst IsCode (same_code c.1 code f) all.0
    by false f others = others f

each-code : (refusal : Rr → Option ℕ) → ((rr : Rr) (code : ℕ) → refusal rr ≡ Some code → IsCode code) → (rrs : List Rr) (code : ℕ) → first_refused refusal rrs ≡ Some code → IsCode code
each-code refusal one [] code e = absurd cc
each-code refusal one (rr ∷ rrs) code e = by (refusal rr) refl e (λ f. each-code refusal one rrs code f)
  where
    by : (o : Option ℕ) → refusal rr ≡ o → ◌≡◌ {A = Option ℕ} (elim o as (λ _. Option ℕ) [ Some found ↦ Some found | None ↦ first_refused refusal rrs ]) (Some code) → (first_refused refusal rrs ≡ Some code → IsCode code) → IsCode code
    by (Some found) is f others = subst IsCode (same_code found code f) (one rr found is)
    by None is f others = others f

five-codes : (a b c d f : Bool) (code : ℕ) → first_refusal ((a, notzone) ∷ (b, formerr) ∷ (c, formerr) ∷ (d, formerr) ∷ (f, formerr) ∷ []) ≡ Some code → IsCode code
five-codes a b c d f code e = first-code ((a, notzone) ∷ (b, formerr) ∷ (c, formerr) ∷ (d, formerr) ∷ (f, formerr) ∷ []) code (refl, (refl, (refl, (refl, (refl, tt))))) e

change-code : (homes : List Labels) (zone : ZoneState) (rr : Rr) (code : ℕ) → change_refusal homes zone rr ≡ Some code → IsCode code
change-code homes zone rr code e =
    five-codes (not (is_inside homes zone.apex rr.owner)) (rr.class == in_class && is_meta rr.kind) (rr.class == any_class && (not (rr.ttl == 0) || not (is_empty rr.rdata) || (is_meta rr.kind && not (rr.kind == any_kind))))
    (rr.class == none_class && (not (rr.ttl == 0) || is_meta rr.kind)) (not (rr.class == in_class || rr.class == any_class || rr.class == none_class)) code e

eight-codes : (a b c d f g h i : Bool) (code : ℕ)
    → first_refusal ((a, formerr) ∷ (b, notzone) ∷ (c, formerr) ∷ (d, nxdomain) ∷ (f, nxrrset) ∷ (g, yxdomain) ∷ (h, yxrrset) ∷ (i, formerr) ∷ []) ≡ Some code → IsCode code
eight-codes a b c d f g h i code e =
    first-code ((a, formerr) ∷ (b, notzone) ∷ (c, formerr) ∷ (d, nxdomain) ∷ (f, nxrrset) ∷ (g, yxdomain) ∷ (h, yxrrset) ∷ (i, formerr) ∷ []) code
    (refl, (refl, (refl, (refl, (refl, (refl, (refl, (refl, tt)))))))) e

prerequisite-code : (homes : List Labels) (zone : ZoneState) (rr : Rr) (code : ℕ) → prerequisite_refusal homes zone rr ≡ Some code → IsCode code
prerequisite-code homes zone rr code e =
    let named = at_name rr.owner zone.rows in
    let set = set_at rr.owner rr.kind zone.rows in
    eight-codes (not (rr.ttl == 0)) (not (is_inside homes zone.apex rr.owner)) ((rr.class == any_class || rr.class == none_class) && not (is_empty rr.rdata)) (rr.class == any_class && rr.kind == any_kind && is_empty named)
    (rr.class == any_class && not (rr.kind == any_kind) && is_empty set) (rr.class == none_class && rr.kind == any_kind && not (is_empty named)) (rr.class == none_class && not (rr.kind == any_kind) && not (is_empty set))
    (not (rr.class == in_class || rr.class == any_class || rr.class == none_class)) code e

refused-code : (p q : Option ℕ) (agree writable : Bool) (code : ℕ) → ((c : ℕ) → p ≡ Some c → IsCode c) → ((c : ℕ) → q ≡ Some c → IsCode c)
    → or_later p (if not agree then Some 8 else if not writable then Some refused else q) ≡ Some code → IsCode code
refused-code (Some c) q agree writable code first second e = subst IsCode (same_code c code e) (first c refl)
refused-code None q false writable code first second e = subst IsCode (same_code 8 code e) refl
refused-code None q true false code first second e = subst IsCode (same_code refused code e) refl
refused-code None q true true code first second e = second code e

abbrev gone_wrong : {A : Type 0} → ℕ → Result A ℕ
gone_wrong code = Err code

same_wrong : {A : Type 0} (a b : ℕ) → gone_wrong {A = A} a ≡ gone_wrong {A = A} b → a ≡ b
same_wrong a b e = cc

judged-code : (homes : List Labels) (zone : ZoneState) (update : Update) (code : ℕ) → judged homes zone update ≡ Err code → IsCode code
judged-code homes zone update code e = by (refused_first homes zone update) refl e
  where
    new : RecordSet
    new = rows_after zone (map with_counted_ttl update.changes)

    by : (o : Option ℕ) → refused_first homes zone update ≡ o → accepted_or o (if is_within_limits new then Ok new else Err refused) ≡ Err code → IsCode code
    by (Some c) is f =
        subst IsCode (same_wrong {A = RecordSet} c code f)
        (refused-code (first_refused (prerequisite_refusal homes zone) (map with_counted_ttl update.prereqs)) (first_refused (change_refusal homes zone) (map with_counted_ttl update.changes)) _ zone.writable c
        (λ d g. each-code (prerequisite_refusal homes zone) (prerequisite-code homes zone) (map with_counted_ttl update.prereqs) d g)
        (λ d g. each-code (change_refusal homes zone) (change-code homes zone) (map with_counted_ttl update.changes) d g) is)
    by None is f = within (is_within_limits new) f
      where
        within : (b : Bool) → (if b then Ok new else Err refused) ≡ Err code → IsCode code
        within true g = absurd cc
        within false g = subst IsCode (same_wrong {A = RecordSet} refused code g) refl

-- a step that goes wrong, or one behind it
wrong-then : {A B : Type 0} (r : Result A ℕ) (next : A → Result B ℕ) (code : ℕ) → ((c : ℕ) → r ≡ gone_wrong c → IsCode c) → ((x : A) → r ≡ Ok x → next x ≡ gone_wrong code → IsCode code)
    → (r >>= next) ≡ gone_wrong code → IsCode code
wrong-then {A} {B} (Err c) next code first second e = subst IsCode (same_wrong {A = B} c code e) (first c refl)
wrong-then (Ok x) next code first second e = second x refl e

asked-code : (q : List Question) (code : ℕ) → zone_asked q ≡ gone_wrong code → IsCode code
asked-code [] code e = subst IsCode (same_wrong {A = Labels} formerr code e) refl
asked-code (q ∷ r ∷ qs) code e = subst IsCode (same_wrong {A = Labels} formerr code e) refl
asked-code (q ∷ []) code e = by (q.kind == soa_kind) (q.class == in_class) e
  where
    by : (a b : Bool) → (if a then (if b then Ok q.name else Err notauth) else Err formerr) ≡ gone_wrong {A = Labels} code → IsCode code
    by false b f = subst IsCode (same_wrong {A = Labels} formerr code f) refl
    by true false f = subst IsCode (same_wrong {A = Labels} notauth code f) refl
    by true true f = absurd cc

zone-code : (o : Option ZoneState) (code : ℕ) → ◌≡◌ {A = Result ZoneState ℕ} (elim o as (λ _. Result ZoneState ℕ) [ None ↦ Err notauth | Some zone ↦ Ok zone ]) (Err code) → IsCode code
zone-code None code e = subst IsCode (same_wrong {A = ZoneState} notauth code e) refl
zone-code (Some zone) code e = absurd cc

updated-code : (state : State) (update : Update) (code : ℕ) → updated state update ≡ gone_wrong code → IsCode code
updated-code state update code e =
    wrong-then (zone_for state update.zones) _ code
    (λ c f. wrong-then (zone_asked update.zones) _ c (λ d g. asked-code update.zones d g) (λ apex is g. zone-code (zone_of state apex) c g) f)
    (λ zone is f. wrong-then (judged (home_names state) zone update) _ code (λ c g. judged-code (home_names state) zone update c g) (λ rows is_rows g. absurd cc) f) e

read-code : (message : List ℕ) (code : ℕ) → update_in message ≡ gone_wrong code → IsCode code
read-code message code e = by (ltb (length message) 12 || ltb 65535 (length message) || is_response (flags_of message) || not (eqb (opcode_of (flags_of message)) update_opcode)) (update_of message) e
  where
    by : {F : Type 0} (b : Bool) (r : Result Update F) → cond b (Err formerr) (fault_as (λ _. formerr) r) ≡ gone_wrong {A = Update} code → IsCode code
    by true r f = subst IsCode (same_wrong {A = Update} formerr code f) refl
    by false (Err fault) f = subst IsCode (same_wrong {A = Update} formerr code f) refl
    by false (Ok u) f = absurd cc

pub not-zero : (state : State) (message : List ℕ) (code : ℕ) → verdict state message ≡ Err code → IsCode code
not-zero state message code e =
    wrong-then (update_in message) _ code (λ c f. read-code message c f)
    (λ u is f. wrong-then (updated state u) _ code (λ c g. updated-code state u c g) (λ later is_later g. absurd cc) f) e
