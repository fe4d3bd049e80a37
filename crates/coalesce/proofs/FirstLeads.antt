-- What follows an answer to a SUBSCRIBE leads each question of the session to what it matches now, and fits one message.
use Rattle.std.proofs.Common.{◌≡◌, inl, inr, ℕ, ◌≤◌, Bool, true, false, cond, ◌||◌, [], ◌∷◌, length, Option, Some, None, sym, ◌∙◌, ap, refl, arith}
use Rattle.std.specs.Prelude.{filter, nat_le, ◌==◌, IsTrue}
use Rattle.std.specs.List.{list_all, Contains}
use Rattle.std.specs.Option.{option_or}
use Rattle.std.specs.Str.{bytes_eq}
use Rattle.std.proofs.lemmas.Bool.{and_from, and_parts, or_left, or_right, not-true, not-false, leb-true}
use Rattle.std.proofs.lemmas.List.Folds.{list_any_at}
use Rattle.push_base.specs.Limits.{max_octets_at_name}
use Rattle.dnsname.specs.Names.{Labels, octets, lower, same_name}
use Rattle.dnsname.proofs.Decisions.{is_name-Decides, same_name-Decides}
use Rattle.dnsname.proofs.Endings.{length-lower}
use Rattle.dnsname.proofs.Spellings.{IsName-lower}
use Rattle.rrset.specs.Kinds.{in_class}
use Rattle.rrset.specs.Records.{matches}
use Rattle.rrset.specs.RecordSet.{RecordSet, only, matching, at_name, same_rows, shown_at, shows_its_key, size_of}
use Rattle.rrset.specs.declared.record.Key.{Key}
use Rattle.rrset.specs.declared.record.Shown.{Shown}
use Rattle.rrset.specs.declared.record.Question.{Question}
use Rattle.rrset.proofs.InOrder.{InOrder, in_order-only, same_sets}
use Rattle.rrset.proofs.SameRows.{same_rows-same}
use Rattle.rrset.proofs.Sets.{shown_at-only}
use Rattle.subscr.specs.Asked.{Asked, wants}
use Rattle.dsotlv.specs.Notices.{removed_by, applied_all, last_ttl}
use Rattle.dsotlv.specs.declared.message.Notice.TheVariants.{RemoveClass}
use Rattle.dsotlv.specs.Answers.{push_message}
use Rattle.coalesce.specs.Net.{additions, all_anew, max_net_message}
use Rattle.coalesce.specs.Laws.{can_be_sent, is_side, speaks_of}
use Rattle.coalesce.specs.Waiting.{WaitingName, differs, is_changed, is_named, old_side, new_side, records_then}
use Rattle.coalesce.specs.FirstAnswers.{wanted_with, told_first}
use Rattle.coalesce.specs.FirstLaws.{IsAskedWith, FirstFillsTheNew, FirstLeadsTheOthers, FirstAnewLeadsFromAny, FirstAddsNothingKnown, FirstLeavesOtherNames, FirstFitsOneMessage, FirstIsReadBack}
use Rattle.coalesce.proofs.AtKeys.{in_order-applied_all, shown_at-additions}
use Rattle.coalesce.proofs.Filters.{all-filter, own-only}
use Rattle.coalesce.proofs.Leads.{is_of, anew_leads, takes_its_own}
use Rattle.coalesce.proofs.NetSizes.{length-push_message, size_of-additions, size_of-all_anew}
use Rattle.coalesce.proofs.OneName.{is_own, additions_speak}
use Rattle.coalesce.proofs.OtherNames.{all_leave, named-matching}
use Rattle.coalesce.proofs.ReadBack.{AreWritten, additions_written, anew_written, side_can_be_added, written_are_read_back}
use Rattle.coalesce.proofs.Removals.{TakesAll}
use Rattle.coalesce.proofs.SameNames.{same_name-lower}
use Rattle.coalesce.proofs.Sides.{Side, side, side-of, side-only, matching-only, parts_stay_sides}

-- ---- the records of the question

additions_fill : (q : Question) (there : RecordSet) → InOrder there → list_all shows_its_key there ≡ true → applied_all (additions (matching q there)) q [] ≡ matching q there
additions_fill q there h own =
    same_sets _ _ (in_order-applied_all (additions (matching q there)) q [] tt) (in_order-only (matches q) there h)
    (λ k. shown_at-additions q k (matching q there) [] (in_order-only (matches q) there h) (own-only (matches q) there own)
    ∙ ap (λ o. cond (matches q k) (option_or o None) None) (shown_at-only (matches q) k there)
    ∙ by (matches q k) (shown_at k there)
    ∙ sym (shown_at-only (matches q) k there))
  where
    by : (m : Bool) (o : Option Shown) → cond m (option_or (cond m o None) None) None ≡ cond m o None
    by true None = refl
    by true (Some x) = refl
    by false o = refl

additions_known : (q r : Question) (there : RecordSet) → InOrder there → list_all shows_its_key there ≡ true → applied_all (additions (matching q there)) r (matching r there) ≡ matching r there
additions_known q r there h own =
    same_sets _ _ (in_order-applied_all (additions (matching q there)) r (matching r there) (in_order-only (matches r) there h)) (in_order-only (matches r) there h)
    (λ k. shown_at-additions r k (matching q there) (matching r there) (in_order-only (matches q) there h) (own-only (matches q) there own)
    ∙ (λ i. cond (matches r k) (option_or (shown_at-only (matches q) k there i) (shown_at-only (matches r) k there i)) (shown_at-only (matches r) k there i))
    ∙ by (matches r k) (matches q k) (shown_at k there)
    ∙ sym (shown_at-only (matches r) k there))
  where
    by : (m n : Bool) (o : Option Shown) → cond m (option_or (cond n o None) (cond m o None)) (cond m o None) ≡ cond m o None
    by true true None = refl
    by true true (Some x) = refl
    by true false o = refl
    by false n o = refl

-- ---- all anew

same_itself : (name : Labels) → same_name name name ≡ true
same_itself name = (same_name-Decides name name).1 refl

-- the removal at a name takes the records of its spellings
takes_side : (n name : Labels) (old : RecordSet) → same_name n name ≡ true → Side n old → TakesAll (removed_by (RemoveClass (lower name) in_class)) old
takes_side n name old same is = takes_its_own n (lower name) old (same_name-lower n name ∙ same) (side-of n old is)

-- what one of the others matches, the others ask for
wants_of : (asked : Asked) (id : ℕ) (other : Question) → Contains asked (id, other) → (k : Key) → matches other k ≡ true → wants k asked ≡ true
wants_of asked id other (i, within, at) k h = list_any_at (λ e. matches e.1 k) asked i (id, other) within (ap (λ (e : ℕ × Question). matches e.1 k) at ∙ h)

-- what the question or one of the others matches is wanted
is_wanted : (question : Question) (asked : Asked) (other : Question) → IsAskedWith question asked other → (k : Key) → matches other k ≡ true → (matches question k || wants k asked) ≡ true
is_wanted question asked other (inl same) k h = or_left (matches question k) (wants k asked) (sym (ap (λ (q : Question). matches q k) same) ∙ h)
is_wanted question asked other (inr (id, among)) k h = or_right (matches question k) (wants k asked) (wants_of asked id other among k h)

anew_leads_any : (question : Question) (asked : Asked) (there old : RecordSet) (other : Question) → InOrder there → list_all shows_its_key there ≡ true → InOrder old
    → TakesAll (removed_by (RemoveClass (lower question.name) in_class)) old → IsAskedWith question asked other
    → applied_all (all_anew (lower question.name) (wanted_with question (λ key. wants key asked) there)) other (matching other old) ≡ matching other there
anew_leads_any question asked there old other h own g all among =
    anew_leads (lower question.name) other old (wanted_with question (λ key. wants key asked) there) g (in_order-only (λ k. matches question k || wants k asked) there h) (own-only (λ k. matches question k || wants k asked) there own) all
    ∙ matching-only (λ k. matches question k || wants k asked) other (is_wanted question asked other among) there

-- ---- each question

pub first_fills_the_new : FirstFillsTheNew
first_fills_the_new question asked rows waiting one = by (differs asked rows waiting)
  where
    there : RecordSet
    there = at_name question.name rows

    is : Side one.0 there
    is = side one.0 there one.1

    by : (b : Bool) → applied_all (told_first b question (λ key. wants key asked) there) question [] ≡ matching question there
    by true = anew_leads_any question asked there [] question is.order is.own tt (λ k some. cc) (inl refl)
    by false = additions_fill question there is.order is.own

pub first_anew_leads_from_any : FirstAnewLeadsFromAny
first_anew_leads_from_any question asked rows waiting old other one before changed among =
    let there = at_name question.name rows in
    let is = side one.0 there one.1 in
    let was = side question.name old before in
    ap (λ b. applied_all (told_first b question (λ key. wants key asked) there) other (matching other old)) changed
    ∙ anew_leads_any question asked there old other is.order is.own was.order (takes_side question.name question.name old (same_itself question.name) was) among

pub first_adds_nothing_known : FirstAddsNothingKnown
first_adds_nothing_known question asked rows waiting other one same =
    let there = at_name question.name rows in
    let is = side one.0 there one.1 in
    ap (λ b. applied_all (told_first b question (λ key. wants key asked) there) other (matching other there)) same
    ∙ additions_known question other there is.order is.own

-- names that are one have the same records
at_name-same : (a b : Labels) (rows : RecordSet) → same_name a b ≡ true → at_name a rows ≡ at_name b rows
at_name-same a b rows same = ap (λ (l : Labels). only (λ key. bytes_eq (octets l) (octets (lower key.owner))) rows) ((same_name-Decides a b).0 same)

-- what a question was sent of a name that has not changed is what it matches now
sent_is_now : (asked : Asked) (rows : RecordSet) (name : Labels) (w : WaitingName) (id : ℕ) (other : Question) → is_named name w ≡ true → Contains asked (id, other) → is_changed asked rows w ≡ false
    → matching other (records_then rows w) ≡ matching other (at_name name rows)
sent_is_now asked rows name w id other named among same =
    sym (matching-only (λ k. wants k asked) other (wants_of asked id other among) (records_then rows w))
    ∙ ap (matching other) (same_rows-same (old_side asked rows w) (new_side asked rows w) (not-false (same_rows (old_side asked rows w) (new_side asked rows w)) same))
    ∙ matching-only (λ k. wants k asked) other (wants_of asked id other among) (at_name w.name rows)
    ∙ ap (matching other) (at_name-same w.name name rows named)

pub first_leads_the_others : FirstLeadsTheOthers
first_leads_the_others question asked rows None id other one waits among = first_adds_nothing_known question asked rows None other one refl
first_leads_the_others question asked rows (Some w) id other one waits among = by (is_changed asked rows w) refl
  where
    there : RecordSet
    there = at_name question.name rows

    is : Side one.0 there
    is = side one.0 there one.1

    was : Side w.name (records_then rows w)
    was = side w.name (records_then rows w) waits.1

    by : (b : Bool) → is_changed asked rows w ≡ b → applied_all (told_first b question (λ key. wants key asked) there) other (matching other (records_then rows w)) ≡ matching other there
    by true changed = anew_leads_any question asked there (records_then rows w) other is.order is.own was.order (takes_side w.name question.name (records_then rows w) waits.0 was) (inr (id, among))
    by false same =
        ap (applied_all (additions (matching question there)) other) (sent_is_now asked rows question.name w id other waits.0 among same)
        ∙ additions_known question other there is.order is.own

-- ---- other names

all_pass : (p : Key × Shown → Bool) (set : RecordSet) → list_all p (filter p set) ≡ true
all_pass p [] = refl
all_pass p (e ∷ es) = by (p e) refl (all_pass p es)
  where
    by : (b : Bool) → p e ≡ b → list_all p (filter p es) ≡ true → list_all p (cond b (e ∷ filter p es) (filter p es)) ≡ true
    by true is rest = and_from (p e) (list_all p (filter p es)) is rest
    by false is rest = rest

-- records with their keys, of the name and of class IN
own_of : (n name : Labels) (set : RecordSet) → list_all shows_its_key set ≡ true → list_all (is_of n) set ≡ true → list_all (λ (e : Key × Shown). same_name name e.0.owner) set ≡ true → list_all (is_own name) set ≡ true
own_of n name [] own class named = refl
own_of n name (e ∷ es) own class named =
    let keys = and_parts (shows_its_key e) (list_all shows_its_key es) own in
    let classes = and_parts (is_of n e) (list_all (is_of n) es) class in
    let names = and_parts (same_name name e.0.owner) (list_all (λ (f : Key × Shown). same_name name f.0.owner) es) named in
    and_from (is_own name e) (list_all (is_own name) es)
    (and_from (shows_its_key e) (is_of name e) keys.0 (and_from (same_name name e.0.owner) (e.0.class == in_class) names.0 (and_parts (same_name n e.0.owner) (e.0.class == in_class) classes.0).1))
    (own_of n name es keys.1 classes.1 names.1)

pub first_leaves_other_names : FirstLeavesOtherNames
first_leaves_other_names question asked rows waiting other set one apart =
    all_leave other question.name (told_first (differs asked rows waiting) question (λ key. wants key asked) there) (matching other set) (not-true (same_name other.name question.name) apart) (by (differs asked rows waiting)) (named-matching other set)
  where
    there : RecordSet
    there = at_name question.name rows

    is : Side one.0 there
    is = side one.0 there one.1

    own : list_all (is_own question.name) there ≡ true
    own = own_of one.0 question.name there is.own (side-of one.0 there is) (all_pass (λ e. same_name question.name e.0.owner) rows)

    by : (b : Bool) → list_all (speaks_of question.name) (told_first b question (λ key. wants key asked) there) ≡ true
    by true =
        and_from (same_name question.name (lower question.name)) (list_all (speaks_of question.name) (additions (wanted_with question (λ key. wants key asked) there))) (same_name-lower question.name question.name ∙ same_itself question.name)
        (additions_speak question.name (wanted_with question (λ key. wants key asked) there) (all-filter (is_own question.name) (λ e. matches question e.0 || wants e.0 asked) there own))
    by false = additions_speak question.name (matching question there) (all-filter (is_own question.name) (λ e. matches question e.0) there own)

-- ---- the message

part_small : (n : Labels) (p : Key → Bool) (set : RecordSet) → IsTrue (is_side n set) → IsTrue (can_be_sent set) → size_of (only p set) ≤ 60000
part_small n p set one can =
    let parts = and_parts (list_all (λ (e : Key × Shown). nat_le e.1.ttl last_ttl) (only p set)) (nat_le (size_of (only p set)) max_octets_at_name) ((parts_stay_sides n p set one).1 can) in
    leb-true (size_of (only p set)) max_octets_at_name parts.1

pub first_fits_one_message : FirstFitsOneMessage
first_fits_one_message question asked rows waiting named one can = by (differs asked rows waiting)
  where
    there : RecordSet
    there = at_name question.name rows

    by : (b : Bool) → length (push_message (told_first b question (λ key. wants key asked) there)) ≤ max_net_message
    by true =
        let part = wanted_with question (λ key. wants key asked) there in
        let small = part_small one.0 (λ k. matches question k || wants k asked) there one.1 can in
        let name = ((is_name-Decides question.name).0 named).size in
        omega (arith, small, name, length-lower question.name, size_of-all_anew (lower question.name) part, length-push_message (all_anew (lower question.name) part))
    by false =
        let small = part_small one.0 (matches question) there one.1 can in
        omega (arith, small, size_of-additions (matching question there), length-push_message (additions (matching question there)))

pub first_is_read_back : FirstIsReadBack
first_is_read_back question asked rows waiting named one can some = written_are_read_back (told_first (differs asked rows waiting) question (λ key. wants key asked) there) (by (differs asked rows waiting)) some
  where
    there : RecordSet
    there = at_name question.name rows

    is : Side one.0 there
    is = side one.0 there one.1

    by : (b : Bool) → AreWritten (told_first b question (λ key. wants key asked) there)
    by true =
        anew_written one.0 (lower question.name) (wanted_with question (λ key. wants key asked) there) ((is_name-Decides (lower question.name)).1 (IsName-lower question.name ((is_name-Decides question.name).0 named)))
        (side_can_be_added one.0 (wanted_with question (λ key. wants key asked) there) (side-only one.0 (λ k. matches question k || wants k asked) there is) ((parts_stay_sides one.0 (λ k. matches question k || wants k asked) there one.1).1 can))
    by false =
        additions_written one.0 (matching question there)
        (side_can_be_added one.0 (matching question there) (side-only one.0 (matches question) there is) ((parts_stay_sides one.0 (matches question) there one.1).1 can))
