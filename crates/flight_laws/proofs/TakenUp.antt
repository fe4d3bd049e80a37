-- What a session takes it takes also with fewer subscriptions, and when it is established.
--     taken_up-part, all_taken_up-part      one message; all messages
use Rattle.std.proofs.Common.{◌≡◌, ℕ, ◌<◌, ◌≤◌, Bool, true, false, not, ◌&&◌, ◌||◌, cond, List, [], ◌∷◌, ◌++◌, length, Option, Some, None, unwrap_or, sym, ap, subst, refl, true≢false, arith}
use Rattle.std.specs.Prelude.{filter, IsSome, is_some, nat_le, ◌==◌, if◌then◌else◌}
use Rattle.std.specs.List.{list_any}
use Rattle.std.proofs.lemmas.Bool.{or_from, or_parts, and_from, and_parts, leb-false, lt-leb}
use Rattle.push_base.specs.Limits.{max_questions}
use Rattle.dnsname.specs.Names.{is_name}
use Rattle.rrset.specs.Records.{same_question}
use Rattle.rrset.specs.declared.record.Question.{Question}
use Rattle.rrset.specs.declared.record.Rr.{Rr}
use Rattle.pushclient.specs.Clients.{reconfirm_message}
use Rattle.inflight.specs.Messages.{ClientMessage, subscribes, unsubscribes, reconfirms, requests_keepalive}
use Rattle.inflight.specs.Ends.{is_id, is_question, taken_up, all_taken_up}
use Rattle.flight_laws.specs.Laws.{Active, IsPart, none, kept, left}

pub part-itself : (active : Active) → IsPart active active
part-itself [] = none
part-itself (a ∷ active) = kept (part-itself active)

-- all but the last
pub part-front : (active : Active) (a : ℕ × Question) → IsPart active (active ++ a ∷ [])
part-front [] a = left none
part-front (b ∷ active) a = kept (part-front active a)

pub part-push : {few many : Active} → IsPart few many → (a : ℕ × Question) → IsPart (few ++ a ∷ []) (many ++ a ∷ [])
part-push none a = kept none
part-push (kept p) a = kept (part-push p a)
part-push (left p) a = left (part-push p a)

pub part-filter : (test : ℕ × Question → Bool) {few many : Active} → IsPart few many → IsPart (filter test few) (filter test many)
part-filter test none = none
part-filter test (kept {a = a} p) = by (test a) (part-filter test p)
  where
    by : (b : Bool) {few many : Active} → IsPart few many → IsPart (cond b (a ∷ few) few) (cond b (a ∷ many) many)
    by true p = kept p
    by false p = p
part-filter test (left {a = a} p) = by (test a) (part-filter test p)
  where
    by : (b : Bool) {few many : Active} → IsPart few many → IsPart few (cond b (a ∷ many) many)
    by true p = left p
    by false p = p

pub part-any : (test : ℕ × Question → Bool) {few many : Active} → IsPart few many → list_any test many ≡ false → list_any test few ≡ false
part-any test none e = e
part-any test (kept {a = a} {few = few} {many = many} p) e =
    let parts = or_parts (test a) (list_any test many) e in or_from (test a) (list_any test few) parts.0 (part-any test p parts.1)
part-any test (left {a = a} {few = few} {many = many} p) e = part-any test p (or_parts (test a) (list_any test many) e).1

pub part-length : {few many : Active} → IsPart few many → length few ≤ length many
part-length none = omega arith
part-length (kept p) = let shorter = part-length p in omega arith
part-length (left p) = let shorter = part-length p in omega arith

-- ---- tests

pub three_false : (a b c : Bool) → (a || b || c) ≡ false → (a ≡ false) × (b ≡ false) × (c ≡ false)
three_false true b c e = absurd (true≢false e)
three_false false true c e = absurd (true≢false e)
three_false false false c e = (refl, refl, e)

pub from_three : (a b c : Bool) → a ≡ false → b ≡ false → c ≡ false → (a || b || c) ≡ false
from_three true b c p q r = absurd (true≢false p)
from_three false true c p q r = absurd (true≢false q)
from_three false false c p q r = r

pub unless_refused : {A : Type 0} (refused : Bool) (value later : A) → (if refused then None else Some value) ≡ Some later → (refused ≡ false) × (value ≡ later)
unless_refused true value later e = absurd (true≢false (sym (ap is_some e)))
unless_refused false value later e = (refl, ap (λ o. unwrap_or o value) e)

pub where_allowed : {A : Type 0} (allowed : Bool) (value later : A) → (if allowed then Some value else None) ≡ Some later → (allowed ≡ true) × (value ≡ later)
where_allowed true value later e = (refl, ap (λ o. unwrap_or o value) e)
where_allowed false value later e = absurd (true≢false (sym (ap is_some e)))

pub taken_unless : {A : Type 0} (refused : Bool) (value : A) → refused ≡ false → (if refused then None else Some value) ≡ Some value
taken_unless true value e = absurd (true≢false e)
taken_unless false value e = refl

pub taken_where : {A : Type 0} (allowed : Bool) (value : A) → allowed ≡ true → (if allowed then Some value else None) ≡ Some value
taken_where true value e = refl
taken_where false value e = absurd (true≢false (sym e))

-- ---- one message

-- what is left of a part after the same message
abbrev pub TakesToo : Bool → Active → ClientMessage → Active → Type 0
TakesToo established few m later = (rest : Active) × (taken_up established few m ≡ Some rest) × IsPart rest later

subscribes-part : (before after : Bool) {few many : Active} → IsPart few many → (id : ℕ) (question : Question) (later : Active) → taken_up before many (subscribes id question) ≡ Some later → TakesToo after few (subscribes id question) later
subscribes-part before after {few = few} {many = many} p id question later e =
    let same : ℕ × Question → Bool = λ a. a.0 == id || same_question a.1 question in
    let bad : Bool = not (is_id id && is_question question) in
    let taken = unless_refused (bad || list_any same many || nat_le max_questions (length many)) (many ++ (id, question) ∷ []) later e in
    let parts = three_false bad (list_any same many) (nat_le max_questions (length many)) taken.0 in
    let few_enough : length many < max_questions = leb-false max_questions (length many) parts.2 in
    let shorter : length few ≤ length many = part-length p in
    let fewer : length few < max_questions = omega arith in
    let goes : (bad || list_any same few || nat_le max_questions (length few)) ≡ false = from_three bad (list_any same few) (nat_le max_questions (length few)) parts.0 (part-any same p parts.1) (lt-leb max_questions (length few) fewer) in
    (few ++ (id, question) ∷ [], taken_unless (bad || list_any same few || nat_le max_questions (length few)) (few ++ (id, question) ∷ []) goes, subst (IsPart (few ++ (id, question) ∷ [])) taken.1 (part-push p (id, question)))

unsubscribes-part : (before after : Bool) → (before ≡ true → after ≡ true) → {few many : Active} → IsPart few many → (id : ℕ) (later : Active) → taken_up before many (unsubscribes id) ≡ Some later → TakesToo after few (unsubscribes id) later
unsubscribes-part before after begins {few = few} {many = many} p id later e =
    let stays : ℕ × Question → Bool = λ a. not (a.0 == id) in
    let taken = where_allowed (before && is_id id) (filter stays many) later e in
    let parts = and_parts before (is_id id) taken.0 in
    (filter stays few, taken_where (after && is_id id) (filter stays few) (and_from after (is_id id) (begins parts.0) parts.1), subst (IsPart (filter stays few)) taken.1 (part-filter stays p))

-- three tests, of which the first becomes true
first_begins : (before after b c : Bool) → (before ≡ true → after ≡ true) → (before && b && c) ≡ true → (after && b && c) ≡ true
first_begins before true true true begins e = refl
first_begins true after b c begins e = subst (λ t. (t && b && c) ≡ true) (sym (begins refl)) e
first_begins false after b c begins e = absurd (true≢false (sym e))

reconfirms-part : (before after : Bool) → (before ≡ true → after ≡ true) → {few many : Active} → IsPart few many → (rr : Rr) (later : Active) → taken_up before many (reconfirms rr) ≡ Some later → TakesToo after few (reconfirms rr) later
reconfirms-part before after begins {few = few} {many = many} p rr later e =
    let fits : Bool = nat_le (length (reconfirm_message rr)) 65535 in
    let taken = where_allowed (before && is_name rr.owner && fits) many later e in
    (few, taken_where (after && is_name rr.owner && fits) few (first_begins before after (is_name rr.owner) fits begins taken.0), subst (IsPart few) taken.1 p)

keepalive-part : (before after : Bool) {few many : Active} → IsPart few many → (id : ℕ) (later : Active) → taken_up before many (requests_keepalive id) ≡ Some later → TakesToo after few (requests_keepalive id) later
keepalive-part before after {few = few} {many = many} p id later e =
    let taken = where_allowed (is_id id) many later e in (few, taken_where (is_id id) few taken.0, subst (IsPart few) taken.1 p)

pub taken_up-part : (before after : Bool) → (before ≡ true → after ≡ true) → {few many : Active} → IsPart few many → (m : ClientMessage) (later : Active) → taken_up before many m ≡ Some later → TakesToo after few m later
taken_up-part before after begins p (subscribes id question) later e = subscribes-part before after p id question later e
taken_up-part before after begins p (unsubscribes id) later e = unsubscribes-part before after begins p id later e
taken_up-part before after begins p (reconfirms rr) later e = reconfirms-part before after begins p rr later e
taken_up-part before after begins p (requests_keepalive id) later e = keepalive-part before after p id later e

-- ---- all messages

-- all that go up behind one
abbrev pub goes_on : Bool → List ClientMessage → Option Active → Option Active
goes_on established ms None = None
goes_on established ms (Some later) = all_taken_up established later ms

some-part : (before after : Bool) (few : Active) (m : ClientMessage) (ms : List ClientMessage) (o : Option Active)
    → ((later : Active) → o ≡ Some later → TakesToo after few m later)
    → ((rest later : Active) → IsPart rest later → IsSome (all_taken_up before later ms) → IsSome (all_taken_up after rest ms))
    → IsSome (goes_on before ms o) → IsSome (all_taken_up after few (m ∷ ms))
some-part before after few m ms None takes others h = absurd (true≢false (sym h))
some-part before after few m ms (Some later) takes others h =
    let one = takes later refl in subst (λ o. IsSome (goes_on after ms o)) (sym one.1) (others one.0 later one.2 h)

pub all_taken_up-part : (before after : Bool) → (before ≡ true → after ≡ true) → (few many : Active) → IsPart few many → (ms : List ClientMessage) → IsSome (all_taken_up before many ms) → IsSome (all_taken_up after few ms)
all_taken_up-part before after begins few many p [] h = refl
all_taken_up-part before after begins few many p (m ∷ ms) h =
    some-part before after few m ms (taken_up before many m) (λ later e. taken_up-part before after begins p m later e) (λ rest later q. all_taken_up-part before after begins rest later q ms) h
