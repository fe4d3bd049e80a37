-- How many octets a reply has.
--     query-fits      the reply to a query
--     appended-fits      what is appended as one
use Rattle.std.proofs.Common.{◌≡◌, ℕ, zero, suc, ◌+◌, ◌*◌, ◌≤◌, Bool, true, false, cond, not, ◌||◌, List, [], ◌∷◌, ◌++◌, length, Result, Ok, Err, Ordering, Less, Equal, Greater, refl, sym, ◌∙◌, ap, subst, arith}
use Rattle.std.specs.Prelude.{IfOk, OnOk, is_ok, filter, flat_map, ◌==◌}
use Rattle.std.specs.Ordering.{is_eq}
use Rattle.std.specs.List.{AllByRecursion, list_all}
use Rattle.std.proofs.lemmas.Bool.{eqb-true}
use Rattle.std.proofs.lemmas.List.{length-append}
use Rattle.std.proofs.lemmas.Slice.Eq.{bytes_eq-Decides}
use Rattle.push_base.specs.Cases.{chosen}
use Rattle.dnsname.specs.Names.{Labels, lower, octets, same_name}
use Rattle.dnsname.specs.Reading.{Read, place_of, plain_name_at}
use Rattle.dnsname.proofs.Endings.{length-lower}
use Rattle.rrset.specs.Kinds.{cname_kind, in_class, any_class}
use Rattle.rrset.specs.Rcodes.{notimp, refused}
use Rattle.rrset.specs.Rdata.{Field, field_names, named, shape_fits, with_field}
use Rattle.rrset.specs.Records.{key_of, rr_of, rr_size}
use Rattle.rrset.specs.RecordSet.{RecordSet, at_name, is_in_order, shows_its_key, size_of}
use Rattle.rrset.specs.declared.record.Key.{Key}
use Rattle.rrset.specs.declared.record.Rr.{Rr}
use Rattle.rrset.specs.declared.record.Shown.{Shown}
use Rattle.rrset.specs.declared.record.Question.{Question}
use Rattle.rrset.proofs.KeyOrder.{key_cmp-IsAntisymmetric}
use Rattle.rrset.proofs.Sets.{both_true}
use Rattle.rrset.proofs.Sizes.{size_of-cons}
use Rattle.dnswire.specs.Writing.{message_header, message_octets, question_octets, record_octets}
use Rattle.dnswire.proofs.RecordSizes.{records-size}
use Rattle.dnsquery.specs.Replies.{Known, Answered, CanBeReplied, answers_query, at_step, ends_here, fits_its_kind, is_answerable, is_left_out, is_unserved, max_reply, max_targets, own_flags, plain_flags, refuses_query, reply_to_query, rrs_of, target_of, walk, walk_from}
use Rattle.dnsquery.specs.Steps.{is_alias}
use Rattle.dnsquery.specs.declared.query.Query.{Query}
use Rattle.dnsquery.proofs.ShortNames.{AsksShort, IsShortRead, plain-short}
use Rattle.dnsquery.proofs.Walking.{and-true, is-cname, part_for, step-is, step_by}

-- ---- a CNAME at a name

abbrev fields_by : List ℕ → Read → Result (List Field) ℕ
fields_by rdata read = elim read as (λ _. Result (List Field) ℕ) [ Err fault ↦ Err (place_of fault) | Ok found ↦ with_field (named found.0) (cond (found.1 == length rdata) (Ok []) (Err found.1)) ]

abbrev target_by : Result (List Field) ℕ → Labels
target_by fields = elim (elim fields as (λ _. List Labels) [ Err p ↦ [] | Ok found ↦ flat_map field_names found ]) as (λ _. Labels) [ [] ↦ [] | n ∷ ns ↦ n ]

record IsShortRdata (rdata : List ℕ) (name : Labels) : Type 0 where
  few : length rdata ≤ 255
  target : length (octets name) ≤ 255

-- its rdata is a name, to the end
rdata-by : (rdata : List ℕ) (read : Read) → IfOk read IsShortRead → is_ok (fields_by rdata read) ≡ true → IsShortRdata rdata (target_by (fields_by rdata read))
rdata-by rdata (Err f) short fits = absurd cc
rdata-by rdata (Ok (name, after)) short fits = by (after == length rdata) refl fits
  where
    by : (b : Bool) → (after == length rdata) ≡ b → is_ok (with_field (named name) (cond b (Ok []) (Err after))) ≡ true → IsShortRdata rdata (target_by (with_field (named name) (cond b (Ok []) (Err after))))
    by true is h = record { few = omega (arith, short.end, eqb-true after (length rdata) is); target = short.name }
    by false is h = absurd cc

owner-size : (name owner : Labels) → same_name name owner ≡ true → length (octets owner) ≡ length (octets name)
owner-size name owner same = sym (length-lower owner) ∙ sym (ap length ((bytes_eq-Decides (octets (lower name)) (octets (lower owner))).0 same)) ∙ length-lower name

is-equal : (o : Ordering) → is_eq o ≡ true → o ≡ Equal
is-equal Less h = absurd cc
is-equal Equal h = refl
is-equal Greater h = absurd cc

shown-size : (e : Key × Shown) → shows_its_key e ≡ true → length (octets e.1.owner) ≡ length (octets e.0.owner)
shown-size e shows = sym (length-lower e.1.owner) ∙ ap (λ (key : Key). length (octets key.owner)) (key_cmp-IsAntisymmetric (key_of (rr_of e.0 e.1)) e.0 (is-equal _ shows))

record IsShortAlias (e : Key × Shown) : Type 0 where
  size : rr_size (rr_of e.0 e.1) ≤ 520
  target : length (octets (target_of e)) ≤ 255

record-short : (owner key name rdata size : ℕ) → size ≡ owner + 10 + rdata → owner ≡ key → key ≡ name → name ≤ 255 → rdata ≤ 255 → size ≤ 520
record-short owner key name rdata size is a b c d = omega (arith, is, a, b, c, d)

alias-short : (name : Labels) (e : Key × Shown) → length (octets name) ≤ 255 → same_name name e.0.owner ≡ true → is_alias e.0 ≡ true → fits_its_kind e ≡ true → shows_its_key e ≡ true → IsShortAlias e
alias-short name e short same alias fits shows =
    let kind : e.0.kind ≡ cname_kind = is-cname e.0.kind (in_class == e.0.class || in_class == any_class) alias in
    let shape : shape_fits cname_kind e.1.rdata ≡ true = subst (λ n. shape_fits n e.1.rdata ≡ true) kind (and-true (e.0.class == in_class) (shape_fits e.0.kind e.1.rdata) fits) in
    let rdata : IsShortRdata e.1.rdata (target_of e) = rdata-by e.1.rdata (plain_name_at e.1.rdata 0) (plain-short e.1.rdata) shape in
    record {
      size = record-short (length (octets e.1.owner)) (length (octets e.0.owner)) (length (octets name)) (length e.1.rdata) (rr_size (rr_of e.0 e.1)) refl (shown-size e shows) (owner-size name e.0.owner same) short rdata.few;
      target = rdata.target;
    }

aliases-short : (name : Labels) (records : RecordSet) → length (octets name) ≤ 255 → list_all fits_its_kind records ≡ true → list_all shows_its_key records ≡ true → AllByRecursion IsShortAlias (part_for cname_kind in_class (at_name name records))
aliases-short name [] short fit shows = tt
aliases-short name (e ∷ es) short fit shows = by (same_name name e.0.owner) refl (aliases-short name es short (both_true _ _ fit).1 (both_true _ _ shows).1)
  where
    by-alias : (a : Bool) → same_name name e.0.owner ≡ true → is_alias e.0 ≡ a → AllByRecursion IsShortAlias (part_for cname_kind in_class (at_name name es))
        → AllByRecursion IsShortAlias (cond a (e ∷ part_for cname_kind in_class (at_name name es)) (part_for cname_kind in_class (at_name name es)))
    by-alias true same is rest = (alias-short name e short same is (both_true _ _ fit).0 (both_true _ _ shows).0, rest)
    by-alias false same is rest = rest

    by : (b : Bool) → same_name name e.0.owner ≡ b → AllByRecursion IsShortAlias (part_for cname_kind in_class (at_name name es)) → AllByRecursion IsShortAlias (part_for cname_kind in_class (cond b (e ∷ at_name name es) (at_name name es)))
    by true same rest = by-alias (is_alias e.0) same refl rest
    by false same rest = rest

-- ---- a step

size-filtered : (p : Key × Shown → Bool) (rows : RecordSet) → size_of (filter p rows) ≤ size_of rows
size-filtered p [] = omega arith
size-filtered p (e ∷ es) = by (size-filtered p es) (p e)
  where
    by : size_of (filter p es) ≤ size_of es → (b : Bool) → size_of (cond b (e ∷ filter p es) (filter p es)) ≤ size_of (e ∷ es)
    by h true = let first = size_of-cons e (filter p es) in let all = size_of-cons e es in omega (arith, first, all, h)
    by h false = let all = size_of-cons e es in omega (arith, all, h)

within : (n most room : ℕ) → n ≤ most → most ≤ 60000 → 59480 ≤ room → n ≤ 520 + room
within n most room a b c = omega (arith, a, b, c)

onto : (whole first rest room : ℕ) → whole ≡ first + rest → first ≤ 520 → rest ≤ room → whole ≤ 520 + room
onto whole first rest room is a b = omega (arith, is, a, b)

step-size : (known : Known) (question : Question) (name : Labels) (goes_on : Labels → Answered) (room : ℕ) → CanBeReplied known.records → length (octets name) ≤ 255 → 59480 ≤ room
    → ((target : Labels) → length (octets target) ≤ 255 → size_of (goes_on target).answers ≤ room) → size_of (at_step known question name goes_on).answers ≤ 520 + room
step-size known question name goes_on room can short base goes =
    subst (λ (a : Answered). size_of a.answers ≤ 520 + room) (sym (step-is known question name goes_on))
    (by (part_for question.kind question.class (at_name name known.records)) (part_for cname_kind in_class (at_name name known.records)) (size-filtered _ (at_name name known.records))
    (aliases-short name known.records short can.fit (both_true (is_in_order known.records) (list_all shows_its_key known.records) can.set).1))
  where
    by : (found aliases : RecordSet) → size_of found ≤ size_of (at_name name known.records) → AllByRecursion IsShortAlias aliases → size_of (step_by known name goes_on found aliases).answers ≤ 520 + room
    by (e ∷ es) aliases few all = within (size_of (e ∷ es)) (size_of (at_name name known.records)) room few (can.few name) base
    by [] [] few all = within (size_of []) (size_of (at_name name known.records)) room few (can.few name) base
    by [] (alias ∷ others) few all =
        onto (size_of (alias ∷ (goes_on (target_of alias)).answers)) (rr_size (rr_of alias.0 alias.1)) (size_of (goes_on (target_of alias)).answers) room (size_of-cons alias (goes_on (target_of alias)).answers) all.0.size
        (goes (target_of alias) all.0.target)

-- ---- a walk: a CNAME for each target, and the records of a name

more-room : (n size : ℕ) → size ≤ 520 + (59480 + 520 * n) → size ≤ 59480 + 520 * suc n
more-room n size h = omega (arith, h)

base-room : (n : ℕ) → 59480 ≤ 59480 + 520 * n
base-room n = omega arith

none-size : (room : ℕ) → 0 ≤ room
none-size room = omega arith

walk-size : (known : Known) (question : Question) → CanBeReplied known.records → (n : ℕ) (visited : List Labels) (name : Labels) → length (octets name) ≤ 255 → size_of (walk_from n known question visited name).answers ≤ 520 + (59480 + 520 * n)
walk-size known question can zero visited name short = step-size known question name ends_here (59480 + 520 * zero) can short (base-room zero) (λ target s. none-size (59480 + 520 * zero))
walk-size known question can (suc n) visited name short =
    step-size known question name (λ target. cond (is_left_out known (visited ++ name ∷ []) target) (ends_here target) (walk_from n known question (visited ++ name ∷ []) target)) (59480 + 520 * suc n) can short (base-room (suc n))
    (λ target s. by target (is_left_out known (visited ++ name ∷ []) target) (walk-size known question can n (visited ++ name ∷ []) target s))
  where
    by : (target : Labels) (gone : Bool) → size_of (walk_from n known question (visited ++ name ∷ []) target).answers ≤ 520 + (59480 + 520 * n)
        → size_of (cond gone (ends_here target) (walk_from n known question (visited ++ name ∷ []) target)).answers ≤ 59480 + 520 * suc n
    by target true h = none-size (59480 + 520 * suc n)
    by target false h = more-room n (size_of (walk_from n known question (visited ++ name ∷ []) target).answers) h

-- ---- a message

three : (a b c : List ℕ) → length (a ++ b ++ c) ≡ length a + length b + length c
three a b c = omega (arith, length-append (a ++ b) c, length-append a b)

question-size : (question : Question) → length (question_octets question) ≡ length (octets question.name) + 2 + 2
question-size question = three (octets question.name) _ _

pub message-size : (id flags : ℕ) (question : Question) (rrs : List Rr) → length (message_octets id flags question rrs) ≡ 12 + (length (octets question.name) + 2 + 2) + length (flat_map record_octets rrs)
message-size id flags question rrs =
    three (message_header id flags 1 (length rrs) 0) (question_octets question) (flat_map record_octets rrs)
    ∙ ap (λ n. 12 + n + length (flat_map record_octets rrs)) (question-size question)

fits-by : (whole name rest : ℕ) → whole ≡ 12 + (name + 2 + 2) + rest → name ≤ 255 → rest ≤ 64160 → whole ≤ max_reply
fits-by whole name rest is a b = omega (arith, is, a, b)

refused-fits : (query : Query) (rcode : ℕ) → AsksShort query → length (refuses_query query rcode) ≤ max_reply
refused-fits query rcode short =
    fits-by (length (refuses_query query rcode)) (length (octets query.question.name)) 0 (message-size query.id (plain_flags query.flags rcode) query.question []) short (omega arith)

walked-size : (known : Known) (query : Query) → CanBeReplied known.records → AsksShort query → length (flat_map record_octets (rrs_of (walk known query.question).answers)) ≤ 64160
walked-size known query can short = subst (λ n. n ≤ 64160) (sym (records-size (walk known query.question).answers)) (walk-size known query.question can max_targets [] query.question.name short)

answers-fit : (known : Known) (query : Query) → CanBeReplied known.records → AsksShort query → length (answers_query query (walk known query.question)) ≤ max_reply
answers-fit known query can short =
    let answered = walk known query.question in
    fits-by (length (answers_query query answered)) (length (octets query.question.name)) (length (flat_map record_octets (rrs_of answered.answers)))
    (message-size query.id (own_flags query.flags answered.rcode) query.question (rrs_of answered.answers)) short (walked-size known query can short)

asked-by : (after before header question answers front name : ℕ) → after ≡ front + answers → front ≡ before + header + question → header ≡ 12 → question ≡ name + 2 + 2 → after ≤ before + 271 + answers → name ≤ 255
asked-by after before header question answers front name a b c d e = omega (arith, a, b, c, d, e)

after-by : (after before answers rest : ℕ) → after ≤ before + 271 + answers → answers ≡ rest → rest ≤ 64160 → after ≤ before + max_reply
after-by after before answers rest a b c = omega (arith, a, b, c)

-- a message appended in so many octets asks for a name
pub appended-fits : {T E : Type 0} (known : Known) (query : Query) (result : Result T E) (before after start answers : List ℕ) (id flags count : ℕ) → CanBeReplied known.records
    → start ≡ [] → answers ≡ start ++ flat_map record_octets (rrs_of (walk known query.question).answers)
    → OnOk result (after ≡ before ++ message_header id flags 1 count 0 ++ question_octets query.question ++ answers) → OnOk result (length after ≤ length before + 271 + length answers)
    → OnOk result (length after ≤ length before + max_reply)
appended-fits known query (Err fault) before after start answers id flags count can none is octets-are size = tt
appended-fits known query (Ok x) before after start answers id flags count can none is octets-are size =
    let short : AsksShort query =
    asked-by (length after) (length before) (length (message_header id flags 1 count 0)) (length (question_octets query.question)) (length answers) (length (before ++ message_header id flags 1 count 0 ++ question_octets query.question)) (length (octets query.question.name))
    (ap length octets-are ∙ length-append (before ++ message_header id flags 1 count 0 ++ question_octets query.question) answers) (three before (message_header id flags 1 count 0) (question_octets query.question)) refl (question-size query.question) size in
    after-by (length after) (length before) (length answers) (length (flat_map record_octets (rrs_of (walk known query.question).answers))) size (ap length (is ∙ ap (λ (l : List ℕ). l ++ flat_map record_octets (rrs_of (walk known query.question).answers)) none)) (walked-size known query can short)

pub query-fits : (known : Known) (query : Query) → CanBeReplied known.records → AsksShort query → length (reply_to_query known query) ≤ max_reply
query-fits known query can short =
    by (not (is_answerable known query.question)) (is_unserved query.question.kind) (refuses_query query refused) (refuses_query query notimp) (answers_query query (walk known query.question)) (refused-fits query refused short) (refused-fits query notimp short)
    (answers-fit known query can short)
  where
    by : (a b : Bool) (x y z : List ℕ) → length x ≤ max_reply → length y ≤ max_reply → length z ≤ max_reply → length (chosen ((a, x) ∷ (b, y) ∷ []) z) ≤ max_reply
    by true b x y z p q r = p
    by false true x y z p q r = q
    by false false x y z p q r = r
