-- What is made ready for a turn.
--     wants-memory      where memory may be wanted
--     still-want, link-within, reason-there, has-reason      a reason
--     still-doubt, doubt-within, is-doubted      a row
use Rattle.std.proofs.Common.{◌≡◌, ℕ, ◌<◌, Bool, true, false, cond, not, ◌||◌, ◌&&◌, List, [], ◌∷◌, length, map, Option, Some, None, Result, Ok, Err, refl, sym, ap, subst, ◌∙◌}
use Rattle.std.specs.Prelude.{OnErr, find, is_some, option_map, slice_get, ◌==◌}
use Rattle.std.proofs.lemmas.Option.{slice_get_within}
use Rattle.push_base.specs.Cases.{changed_at, is_empty}
use Rattle.rrset.specs.KeyedRows.{row_at}
use Rattle.rrset.specs.declared.record.Key.{Key}
use Rattle.rrset.specs.declared.record.Question.{Question}
use Rattle.rrset.specs.declared.record.Rr.{Rr}
use Rattle.linkcache.specs.Links.{LinkKept, LinkState}
use Rattle.linkcache.specs.Rows.{has_key}
use Rattle.linkcache.specs.declared.row.HeardRow.{HeardRow}
use Rattle.linkcache.proofs.Copies.{among}
use Rattle.linkask.specs.Reasons.{question_on}
use Rattle.linkreasons.specs.AllReasons.{AllReasons, KeepsBounds, askings_of, doubted_more, in_session, with_reason, with_wanted}
use Rattle.linkreasons.specs.Changing.{is_there}
use Rattle.linkreasons.specs.declared.reason.Reason.{Reason}
use Rattle.history.specs.Kept.{HomesKept, state_of}
use Rattle.history.specs.States.{State, home_of, reconfirm_key}
use Rattle.history.specs.declared.entry.Home.{Home}
use Rattle.history.specs.declared.entry.Home.TheVariants as homes
use Rattle.pushsession.specs.Kept.{KeptSession}
use Rattle.pushsession.specs.Reactions.{IsRead, TakesMemory}
use Rattle.pushsession.specs.Requests.{request_of}
use Rattle.pushsession.specs.declared.request.Request.{Request}
use Rattle.pushsession.specs.declared.request.Request.TheVariants as requests
use Rattle.pushsession.specs.declared.session_status.SessionStatus.{SessionStatus}
use Rattle.pushsession.specs.declared.session_status.SessionStatus.TheVariants.{Live}
use Rattle.livesessions.specs.NumberedSessions.{Numbered, session_in}
use Rattle.pushserver.specs.Hubs.{can_enter, session_of, state_now}
use Rattle.pushserver.specs.KeptHubs.{KeptHub}
use Rattle.pushserver.specs.Laws.{MayWantMemory}
use Rattle.hubasking.specs.KeptReasons.{AreKept, MatchesLink, reasons_at, session_reasons}
use Rattle.hubasking.specs.LinkAskings.{confirms, confirms_key}
use Rattle.hubasking.specs.Turns.{AsksLink, HasReason, IsDoubted, IsStill, coming_with, confirming, first_id, heard_moment, reason_with, turn_request}
use Rattle.hubasking.proofs.Clearing.{zip-length}
use Rattle.hubasking.proofs.Sending.{link-at}

takes : (q : Option Request) → IsRead q → TakesMemory q
takes None read = absurd read
takes (Some requests.Itself) read = absurd read
takes (Some requests.Update) read = tt
takes (Some requests.Query) read = tt
takes (Some (requests.Subscribe question)) read = tt
takes (Some (requests.Reconfirm rr)) read = tt

silent : (output : List ℕ) → not (is_empty output) ≡ false → output ≡ []
silent [] is = refl
silent (o ∷ os) is = absurd cc

pub wants-memory : {A E : Type 0} (k : KeptHub) (number : ℕ) (s : KeptSession) (standing : SessionStatus) (output : Bool) (result : Result A E) → session_of k number ≡ Some s → standing ≡ s.standing → standing ≡ Live → output ≡ not (is_empty s.output) → output ≡ false
    → OnErr result (IsRead (request_of s)) → OnErr result (MayWantMemory k number)
wants-memory k number s standing output (Ok x) there stands live has none read = tt
wants-memory k number s standing output (Err e) there stands live has none read = record {
  session = s;
  there = there;
  wants = record { live = sym stands ∙ live; silent = silent s.output (sym has ∙ none); reads = takes (request_of s) read };
}

-- ---- a reason

moved-asks : (k : KeptHub) (kept_homes : HomesKept) (q : Question) (found : Option (ℕ × Question)) → state_of kept_homes ≡ record (state_now k) { now = 0 } → AsksLink q (state_of kept_homes) found → (id : ℕ) → reasons_at id q (state_now k).links (home_of (state_now k) q.name) ≡ reason_with id found
moved-asks k kept_homes q found is asks id = subst (λ (s : State). reasons_at id q s.links (home_of s q.name) ≡ reason_with id found) is (asks id)

pub still-want : (k : KeptHub) (number : ℕ) (before : AllReasons) (q : Question) (kept_homes : HomesKept) → turn_request (session_of k number) ≡ Some (requests.Subscribe (Some q)) → state_of kept_homes ≡ record (state_now k) { now = 0 } → AsksLink q (state_of kept_homes) None → IsStill k number before before
still-want k number before q kept_homes request is asks = record {
  coming = ap (coming_with (state_now k) (first_id (session_of k number))) request ∙ by (first_id (session_of k number));
  confirms = ap (confirms k) request;
  same = refl;
}
  where
    by : (o : Option ℕ) → coming_with (state_now k) o (Some (requests.Subscribe (Some q))) ≡ []
    by None = refl
    by (Some i) = moved-asks k kept_homes q None is asks i

mapped-link : (id i n : ℕ) (x : Question) (qs : List Question) → map {B = Reason} (λ (q : Question). record { id = id; link = i; question = q }) qs ≡ (record { id = id; link = n; question = x }) ∷ [] → i ≡ n
mapped-link id i n x [] same = absurd cc
mapped-link id i n x (q ∷ qs) same = ap (λ (rs : List Reason). first_link rs) same
  where
    first_link : List Reason → ℕ
    first_link [] = n
    first_link (r ∷ rs) = r.link

at-within : (id n : ℕ) (x q : Question) (ls : List LinkState) (h : Option Home) → reasons_at id q ls h ≡ (record { id = id; link = n; question = x }) ∷ [] → n < length ls
at-within id n x q ls None same = absurd cc
at-within id n x q ls (Some (homes.Zone i)) same = absurd cc
at-within id n x q ls (Some (homes.Link i)) same = by (slice_get ls i) refl same
  where
    by : (o : Option LinkState) → slice_get ls i ≡ o → elim o as (λ _. List Reason) [ None ↦ [] | Some l ↦ map (λ (q : Question). record { id = id; link = i; question = q }) (question_on l.rules.domain q) ] ≡ (record { id = id; link = n; question = x }) ∷ [] → n < length ls
    by None at e = absurd cc
    by (Some l) at e = subst (λ (m : ℕ). m < length ls) (mapped-link id i n x (question_on l.rules.domain q) e) (slice_get_within ls i l at)

pub link-within : (k : KeptHub) (r : AllReasons) (q x : Question) (n : ℕ) (kept_homes : HomesKept) → AreKept k r → state_of kept_homes ≡ record (state_now k) { now = 0 } → AsksLink q (state_of kept_homes) (Some (n, x)) → n < length r.links
link-within k r q x n kept_homes kept is asks = subst (λ (m : ℕ). n < m) (zip-length MatchesLink (state_now k).links r.links kept.links) (at-within 0 n x q (state_now k).links (home_of (state_now k) q.name) (moved-asks k kept_homes q (Some (n, x)) is asks 0))

there-in : (state : State) (number : ℕ) (s : KeptSession) (xs : Numbered KeptSession) → session_in number xs ≡ Some s → is_there number (session_reasons state xs) ≡ true
there-in state number s [] at = absurd cc
there-in state number s (x ∷ xs) at = by (x.0 == number) (λ rest. there-in state number s xs rest) at
  where
    by : (b : Bool) → (session_in number xs ≡ Some s → is_there number (session_reasons state xs) ≡ true) → option_map (λ (e : ℕ × KeptSession). e.1) (cond b (Some x) (find (λ (e : ℕ × KeptSession). e.0 == number) xs)) ≡ Some s → (b || is_there number (session_reasons state xs)) ≡ true
    by true rest h = refl
    by false rest h = rest h

pub reason-there : (k : KeptHub) (r : AllReasons) (number : ℕ) (q : Request) → AreKept k r → turn_request (session_of k number) ≡ Some q → is_there number r.sessions ≡ true
reason-there k r number q kept request = subst (λ (s : List (ℕ × List Reason)). is_there number s ≡ true) (sym kept.sessions) (by (session_of k number) refl request)
  where
    by : (o : Option KeptSession) → session_of k number ≡ o → turn_request o ≡ Some q → is_there number (session_reasons (state_now k) k.sessions) ≡ true
    by None at is = absurd cc
    by (Some s) at is = there-in (state_now k) number s k.sessions at

pub has-reason : (k : KeptHub) (number id n : ℕ) (before new : AllReasons) (q x : Question) (kept_homes : HomesKept) → turn_request (session_of k number) ≡ Some (requests.Subscribe (Some q)) → first_id (session_of k number) ≡ Some id → state_of kept_homes ≡ record (state_now k) { now = 0 } → AsksLink q (state_of kept_homes) (Some (n, x))
    → new.sessions ≡ in_session number (with_reason (record { id = id; link = n; question = x })) before.sessions → askings_of new ≡ with_wanted n x (askings_of before) → KeepsBounds before new → HasReason k number before new
has-reason k number id n before new q x kept_homes request first is asks sessions askings bounds = record {
  reason = record { id = id; link = n; question = x };
  coming = (λ i. coming_with (state_now k) (first i) (request i)) ∙ moved-asks k kept_homes q (Some (n, x)) is asks id;
  confirms = ap (confirms k) request;
  sessions = sessions;
  askings = askings;
  bounds = bounds;
}

-- ---- a row

none-comes : (state : State) (i : Option ℕ) (rr : Option Rr) → coming_with state i (Some (requests.Reconfirm rr)) ≡ []
none-comes state None rr = refl
none-comes state (Some i) rr = refl

key-so : (k : KeptHub) (number link : ℕ) (key : Key) (rr : Rr) (found : Option (ℕ × Key)) → turn_request (session_of k number) ≡ Some (requests.Reconfirm (Some rr)) → found ≡ reconfirm_key (state_now k) rr → found ≡ Some (link, key) → confirming k number ≡ confirms_key k (Some (link, key))
key-so k number link key rr found request is at = ap (confirms k) request ∙ ap (confirms_key k) (sym is ∙ at)

no-row : (k : KeptHub) (link : ℕ) (key : Key) (l : LinkState) → slice_get (state_now k).links link ≡ Some l → heard_moment l.rows key ≡ None → confirms_key k (Some (link, key)) ≡ None
no-row k link key l at none = ap (λ (b : Bool). cond (b && can_enter k) (Some (link, key)) None) (ap (λ (o : Option LinkState). meets o) at ∙ among key l.rows ∙ by (row_at key l.rows) none)
  where
    meets : Option LinkState → Bool
    meets o = elim o as (λ _. Bool) [ None ↦ false | Some m ↦ has_key key m.rows ]

    by : (o : Option HeardRow) → option_map (λ (row : HeardRow). row.heard) o ≡ None → is_some o ≡ false
    by None e = refl
    by (Some row) e = absurd cc

pub still-doubt : (k : KeptHub) (number link : ℕ) (key : Key) (rr : Rr) (found : Option (ℕ × Key)) (before : AllReasons) (kept_homes : HomesKept) (cache : LinkKept) → turn_request (session_of k number) ≡ Some (requests.Reconfirm (Some rr)) → found ≡ reconfirm_key (state_now k) rr → found ≡ Some (link, key)
    → state_of kept_homes ≡ record (state_now k) { now = 0 } → slice_get kept_homes.links link ≡ Some cache → heard_moment cache.state.rows key ≡ None → IsStill k number before before
still-doubt k number link key rr found before kept_homes cache request is at homes_are there none = record {
  coming = ap (coming_with (state_now k) (first_id (session_of k number))) request ∙ none-comes (state_now k) (first_id (session_of k number)) (Some rr);
  confirms = key-so k number link key rr found request is at ∙ no-row k link key cache.state (link-at k kept_homes link cache homes_are there) none;
  same = refl;
}

pub doubt-within : (k : KeptHub) (r : AllReasons) (link : ℕ) (kept_homes : HomesKept) (cache : LinkKept) → AreKept k r → state_of kept_homes ≡ record (state_now k) { now = 0 } → slice_get kept_homes.links link ≡ Some cache → link < length r.links
doubt-within k r link kept_homes cache kept homes_are there = subst (λ (m : ℕ). link < m) (zip-length MatchesLink (state_now k).links r.links kept.links) (slice_get_within (state_now k).links link cache.state (link-at k kept_homes link cache homes_are there))

pub is-doubted : (k : KeptHub) (number link heard : ℕ) (key : Key) (rr : Rr) (found : Option (ℕ × Key)) (before new : AllReasons) (kept_homes : HomesKept) (cache : LinkKept) → turn_request (session_of k number) ≡ Some (requests.Reconfirm (Some rr)) → found ≡ reconfirm_key (state_now k) rr → found ≡ Some (link, key)
    → state_of kept_homes ≡ record (state_now k) { now = 0 } → slice_get kept_homes.links link ≡ Some cache → heard_moment cache.state.rows key ≡ Some heard
    → new.sessions ≡ before.sessions → askings_of new ≡ changed_at link (doubted_more key heard) (askings_of before) → KeepsBounds before new → IsDoubted k number link before new
is-doubted k number link heard key rr found before new kept_homes cache request is at homes_are there row sessions askings bounds = record {
  rr = rr;
  request = request;
  key = key;
  found = cache.state;
  at = link-at k kept_homes link cache homes_are there;
  heard = heard;
  there = row;
  coming = ap (coming_with (state_now k) (first_id (session_of k number))) request ∙ none-comes (state_now k) (first_id (session_of k number)) (Some rr);
  confirms = key-so k number link key rr found request is at;
  sessions = sessions;
  askings = askings;
  bounds = bounds;
}
