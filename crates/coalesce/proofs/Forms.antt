-- A net in its forms, their sizes, and its frame.
use Rattle.std.proofs.Common.{◌≡◌, ℕ, ◌≢◌, ◌+◌, ◌-◌, ◌^◌, ◌<◌, ◌≤◌, Bool, true, false, cond, T, List, [], ◌∷◌, ◌++◌, length, min, None, Ordering, append_assoc, sym, subst, ap, refl, ◌∙◌, arith}
use Rattle.std.specs.Prelude.{flat_map, nat_lt, nat_le, ◌==◌, IsTrue}
use Rattle.std.specs.Int.{w16, to_be_bytes}
use Rattle.std.specs.Cmp.{tied_itself}
use Rattle.std.specs.FinMap.Entries.{below_all}
use Rattle.std.proofs.lemmas.Cmp.{nat_list_cmp_total}
use Rattle.std.specs.Ordering.{nat_cmp, ordering_then, is_lt}
use Rattle.std.specs.declared.cmp.Ordering.TheVariants.{Less, Equal, Greater}
use Rattle.std.specs.List.{list_all, dedup_from}
use Rattle.std.proofs.lemmas.Bool.{and_parts, leb-true, ltb-true, ltb-false, eqb-true, le-ltb, lt-ltb}
use Rattle.std.proofs.lemmas.List.{length-append}
use Rattle.std.proofs.lemmas.Grind.{flat_map-append}
use Rattle.push_base.specs.Cases.{is_empty}
use Rattle.push_base.specs.Limits.{max_octets_at_name}
use Rattle.dnsname.specs.Names.{Labels, IsName, octets, lower, same_name}
use Rattle.dnsname.proofs.Decisions.{same_name-Decides}
use Rattle.rrset.specs.Records.{key_of, rr_of, octets_cmp, key_cmp}
use Rattle.rrset.specs.RecordSet.{RecordSet, is_in_order, same_rows, size_of, shows_its_key}
use Rattle.rrset.specs.Tables.{counted}
use Rattle.rrset.specs.declared.record.Key.{Key}
use Rattle.rrset.specs.declared.record.Shown.{Shown}
use Rattle.rrset.proofs.Places.{and_left, and_right}
use Rattle.rrset.proofs.LowerNames.{lower-twice}
use Rattle.rrset.proofs.SameRows.{same_key-same}
use Rattle.dsotlv.specs.Answers.{push_message}
use Rattle.dsotlv.specs.Notices.{notice_octets, last_ttl}
use Rattle.dsotlv.specs.declared.message.Notice.{Notice}
use Rattle.coalesce.specs.Laws.{is_sent_so, can_be_sent}
use Rattle.coalesce.specs.Net.{net, net_frame, push_frame, additions, kinds_of, single_changes, all_anew, all_gone, owner_of, size_of_notices, shorter, max_net_message, max_net_size}
use Rattle.coalesce.specs.Sides.{IsOneSide, AreOfOneName}
use Rattle.coalesce.specs.Steps.{removals_behind, additions_to, gone_form, head_of}
use Rattle.coalesce.specs.declared.form.Form.TheVariants.{AllKinds}
use Rattle.coalesce.proofs.NetSizes.{size_of_notices-append, size_of-all_anew, size_of-additions, net-takes, length-push_message, owner_has_name, net_fits_one_message}
use Rattle.coalesce.proofs.Sides.{Side, side, sent}
use Rattle.coalesce.proofs.SameNames.{same_name-swapped, same_name-joined}
use Rattle.coalesce.proofs.Steps.{RiseFrom, removals_behind-is, additions_to-is}

-- ---- kinds rise in the order of keys of one name

same_owner : (name : Labels) (e f : Key × Shown) → shows_its_key e ≡ true → shows_its_key f ≡ true → same_name name e.0.owner ≡ true → same_name name f.0.owner ≡ true → e.0.owner ≡ f.0.owner
same_owner name e f own own' h g =
    low e own ∙ (same_name-Decides e.0.owner f.0.owner).0 (same_name-joined e.0.owner name f.0.owner (same_name-swapped name e.0.owner h) g) ∙ sym (low f own')
  where
    low : (x : Key × Shown) → shows_its_key x ≡ true → x.0.owner ≡ lower x.0.owner
    low x is =
        let key = ap (λ (k : Key). k.owner) (same_key-same (key_of (rr_of x.0 x.1)) x.0 is) in
        sym key ∙ sym (lower-twice x.1.owner) ∙ ap lower key

is_less : (o : Ordering) → T (is_lt o) → o ≡ Less
is_less Less h = refl
is_less Equal h = absurd h
is_less Greater h = absurd h

not_above : (k l : ℕ) (rest : Ordering) → ordering_then (nat_cmp k l) rest ≡ Less → k ≤ l
not_above k l rest h = by (nat_lt k l) (k == l) refl refl (sym h)
  where
    by : (a b : Bool) → nat_lt k l ≡ a → (k == l) ≡ b → Less ≡ ordering_then (cond a Less (cond b Equal Greater)) rest → k ≤ l
    by true b less same is = let low = ltb-true k l less in omega arith
    by false true less same is = let one = eqb-true k l same in omega arith
    by false false less same is = cc

kinds_before : (e f : Key × Shown) → e.0.owner ≡ f.0.owner → key_cmp e.0 f.0 ≡ Less → e.0.kind ≤ f.0.kind
kinds_before e f same is =
    not_above e.0.kind f.0.kind (ordering_then (octets_cmp e.0.rdata f.0.rdata) (nat_cmp e.0.class f.0.class))
    (sym (ap (λ o. ordering_then o (ordering_then (nat_cmp e.0.kind f.0.kind) (ordering_then (octets_cmp e.0.rdata f.0.rdata) (nat_cmp e.0.class f.0.class))))
    (ap (λ (n : Labels). octets_cmp (octets n) (octets f.0.owner)) same ∙ tied_itself nat_list_cmp_total (octets f.0.owner))) ∙ is)

kinds_rise : (name : Labels) (e : Key × Shown) (es : RecordSet) → Side name (e ∷ es) → RiseFrom e.0.kind es
kinds_rise name e [] is = tt
kinds_rise name e (f ∷ fs) is =
    let own = and_parts (shows_its_key e) (list_all shows_its_key (f ∷ fs)) is.own in
    let own' = and_parts (shows_its_key f) (list_all shows_its_key fs) own.1 in
    let all = and_parts (is_sent_so name e) (list_all (is_sent_so name) (f ∷ fs)) is.sent in
    let all' = and_parts (is_sent_so name f) (list_all (is_sent_so name) fs) all.1 in
    let below = is_less _ (and_left (is_lt (key_cmp e.0 f.0)) (below_all key_cmp e.0 fs) (and_left (below_all key_cmp e.0 (f ∷ fs)) (is_in_order (f ∷ fs)) is.order)) in (
      kinds_before e f (same_owner name e f own.0 own'.0 (sent name e all.0).of_name (sent name f all'.0).of_name) below,
      kinds_rise name f fs (record { order = and_right (below_all key_cmp e.0 (f ∷ fs)) (is_in_order (f ∷ fs)) is.order; own = own.1; sent = all.1 }),
    )

pub rise : (rows : RecordSet) → IsOneSide rows → RiseFrom 0 rows
rise [] one = tt
rise (e ∷ es) one = (omega arith, kinds_rise one.0 e es (side one.0 (e ∷ es) one.1))

-- the single changes, record by record
pub single_is : (name : Labels) (old new : RecordSet) → IsOneSide old → single_changes name old new ≡ removals_behind name new None old ++ additions_to old new
single_is name old new one = sym (λ i. removals_behind-is name new old (rise old one) i ++ additions_to-is old new i)

-- ---- the form of a net

-- kinds that differ
pub gone_form-several : (k x : ℕ) (xs : List ℕ) → (x == k) ≡ false → gone_form (dedup_from (λ a b. a == b) k (x ∷ xs)) ≡ AllKinds
gone_form-several k x xs other = ap (λ (b : Bool). gone_form (cond b (dedup_from (λ a b. a == b) k xs) (k ∷ dedup_from (λ a b. a == b) x xs))) other ∙ two x xs
  where
    two : (y : ℕ) (ys : List ℕ) → gone_form (k ∷ dedup_from (λ a b. a == b) y ys) ≡ AllKinds
    two y [] = refl
    two y (z ∷ zs) = by (z == y) (two y zs)
      where
        by : (b : Bool) → gone_form (k ∷ dedup_from (λ a b. a == b) y zs) ≡ AllKinds → gone_form (k ∷ cond b (dedup_from (λ a b. a == b) y zs) (y ∷ dedup_from (λ a b. a == b) z zs)) ≡ AllKinds
        by true rest = rest
        by false rest = refl

-- ---- sizes

counted_sum : (single r a s : ℕ) → s ≡ r + a → single ≡ min (min r (2 ^ 64 - 1) + min a (2 ^ 64 - 1)) (2 ^ 64 - 1) → single ≡ min s (2 ^ 64 - 1)
counted_sum single r a s parts is = omega arith

-- both forms' sizes, as they are counted
pub record AreCounted (name : Labels) (old new : RecordSet) (single anew : ℕ) : Type 0 where
  pub singly : single ≡ counted (size_of_notices (single_changes name old new))
  pub newly : anew ≡ size_of_notices (all_anew name new)
  pub small : size_of_notices (all_anew name new) ≤ max_net_size

-- the octets of the single changes, as they are counted
pub single_counted : (name : Labels) (old new : RecordSet) (removed changed single : ℕ) → IsOneSide old
    → removed ≡ counted (size_of_notices (removals_behind name new None old)) → changed ≡ counted (size_of_notices (additions_to old new)) → single ≡ min (removed + changed) (2 ^ 64 - 1)
    → single ≡ counted (size_of_notices (single_changes name old new))
single_counted name old new removed changed single one removed-is changed-is single-is =
    let split = ap size_of_notices (single_is name old new one) ∙ size_of_notices-append (removals_behind name new None old) (additions_to old new) in
    counted_sum single (size_of_notices (removals_behind name new None old)) (size_of_notices (additions_to old new)) (size_of_notices (single_changes name old new)) split
    (single-is ∙ (λ i. min (removed-is i + changed-is i) (2 ^ 64 - 1)))

-- the octets of all anew
pub record IsAnew (name : Labels) (new : RecordSet) (first : ℕ) : Type 0 where
  pub split : size_of_notices (all_anew name new) ≡ first + size_of_notices (additions new)
  pub small : size_of_notices (all_anew name new) ≤ max_net_size

anew_counted : (name : Labels) (old new : RecordSet) (first : ℕ) → AreOfOneName old new → IsTrue (can_be_sent new) → name ≡ owner_of (old ++ new) → first ≡ length (octets name) + 10 + 0 → IsAnew name new first
anew_counted name old new first (owner, one, two) can named first-is =
    let parts = and_parts (list_all (λ (e : Key × Shown). nat_le e.1.ttl last_ttl) new) (nat_le (size_of new) max_octets_at_name) can in
    let size : size_of new ≤ max_octets_at_name = leb-true (size_of new) max_octets_at_name parts.1 in
    let whole = size_of-all_anew name new in
    let short = (subst IsName (sym named) (owner_has_name owner old new (side owner old one) (side owner new two))).size in
    record { split = omega (arith, whole, first-is, size_of-additions new); small = omega (arith, size, whole, short) }

-- what is there isn't the same, and isn't empty
net-shorter : (old new : RecordSet) → same_rows old new ≡ false → is_empty new ≡ false → net old new ≡ shorter (single_changes (owner_of (old ++ new)) old new) (all_anew (owner_of (old ++ new)) new)
net-shorter old new other some =
    ap (λ (b : Bool). cond b [] (cond (is_empty new) (all_gone (owner_of (old ++ new)) (kinds_of old)) (shorter (single_changes (owner_of (old ++ new)) old new) (all_anew (owner_of (old ++ new)) new)))) other
    ∙ ap (λ (b : Bool). cond b (all_gone (owner_of (old ++ new)) (kinds_of old)) (shorter (single_changes (owner_of (old ++ new)) old new) (all_anew (owner_of (old ++ new)) new))) some

shorter-first : (first second : List Notice) → size_of_notices first ≤ size_of_notices second → shorter first second ≡ first
shorter-first first second h = ap (λ (b : Bool). cond b second first) (le-ltb (size_of_notices second) (size_of_notices first) h)

shorter-second : (first second : List Notice) → size_of_notices second < size_of_notices first → shorter first second ≡ second
shorter-second first second h = ap (λ (b : Bool). cond b second first) (lt-ltb (size_of_notices second) (size_of_notices first) h)

below_counted : (anew single s t : ℕ) → single ≡ min s (2 ^ 64 - 1) → anew ≡ t → anew < single → t < s
below_counted anew single s t singly newly h = omega arith

at_most_counted : (anew single s t : ℕ) → single ≡ min s (2 ^ 64 - 1) → anew ≡ t → t ≤ max_net_size → single ≤ anew → (s ≤ t) × (single ≡ s)
at_most_counted anew single s t singly newly small h = (omega arith, omega arith)

-- both sides aren't the same
pub same_false : (old new left right : RecordSet) → left ≡ old → right ≡ new → same_rows left right ≡ false → same_rows old new ≡ false
same_false old new left right old-is new-is differ = sym (λ i. same_rows (old-is i) (new-is i)) ∙ differ

-- the net in a form, and its size
pub record IsPlanned (old new : RecordSet) (notices : List Notice) (size : ℕ) : Type 0 where
  pub is_net : notices ≡ net old new
  pub is_size : size ≡ size_of_notices (net old new)

anew_planned : (name : Labels) (old new : RecordSet) (single anew : ℕ) → name ≡ owner_of (old ++ new) → same_rows old new ≡ false → is_empty new ≡ false
    → AreCounted name old new single anew → anew < single → IsPlanned old new (all_anew name new) anew
anew_planned name old new single anew named other some counts h =
    let short = shorter-second (single_changes name old new) (all_anew name new) (below_counted anew single (size_of_notices (single_changes name old new)) (size_of_notices (all_anew name new)) counts.singly counts.newly h) in
    let whole : all_anew name new ≡ net old new = sym short ∙ ap (λ n. shorter (single_changes n old new) (all_anew n new)) named ∙ sym (net-shorter old new other some) in
    record { is_net = whole; is_size = counts.newly ∙ ap size_of_notices whole }

single_planned : (name : Labels) (old new : RecordSet) (single anew : ℕ) → name ≡ owner_of (old ++ new) → same_rows old new ≡ false → is_empty new ≡ false
    → AreCounted name old new single anew → single ≤ anew → IsPlanned old new (single_changes name old new) single
single_planned name old new single anew named other some counts h =
    let least = at_most_counted anew single (size_of_notices (single_changes name old new)) (size_of_notices (all_anew name new)) counts.singly counts.newly counts.small h in
    let short = shorter-first (single_changes name old new) (all_anew name new) least.0 in
    let whole : single_changes name old new ≡ net old new = sym short ∙ ap (λ n. shorter (single_changes n old new) (all_anew n new)) named ∙ sym (net-shorter old new other some) in
    record { is_net = whole; is_size = least.1 ∙ ap size_of_notices whole }

-- the octets of the records that are there, where they are at most so many, or else a number above that
pub record IsUpTo (new : RecordSet) (most all : ℕ) : Type 0 where
  pub within : all ≤ most → all ≡ counted (size_of_notices (additions new))
  pub beyond : most < all → most < counted (size_of_notices (additions new))

newly_sum : (single s a t first all anew : ℕ) → single ≡ min s (2 ^ 64 - 1) → t ≡ first + a → t ≤ max_net_size → (all ≤ single → all ≡ min a (2 ^ 64 - 1)) → anew ≡ min (first + all) (2 ^ 64 - 1) → anew < single → anew ≡ t
newly_sum single s a t first all anew single-is split small within anew-is less =
    let low : all ≤ single = omega (arith, single-is, anew-is, less) in
    let is = within low in
    omega (arith, single-is, split, small, is, anew-is, less)

singly_least : (single s a t first all anew : ℕ) → t ≡ first + a → t ≤ max_net_size → (all ≤ single → all ≡ min a (2 ^ 64 - 1)) → (single < all → single < min a (2 ^ 64 - 1)) → anew ≡ min (first + all) (2 ^ 64 - 1) → single ≤ anew → single ≤ t
singly_least single s a t first all anew split small within beyond anew-is least = by (nat_lt single all) refl
  where
    by : (b : Bool) → nat_lt single all ≡ b → single ≤ t
    by true less = let more = beyond (ltb-true single all less) in omega (arith, split, more)
    by false more = let is = within (ltb-false single all more) in omega (arith, split, small, is, anew-is, least)

pub newly_planned : (name : Labels) (old new : RecordSet) (single first all anew : ℕ) → AreOfOneName old new → IsTrue (can_be_sent new) → name ≡ owner_of (old ++ new) → same_rows old new ≡ false → is_empty new ≡ false
    → single ≡ counted (size_of_notices (single_changes name old new)) → first ≡ length (octets name) + 10 + 0 → IsUpTo new single all → anew ≡ min (first + all) (2 ^ 64 - 1)
    → anew < single → IsPlanned old new (all_anew name new) anew
newly_planned name old new single first all anew sides can named other some singly first-is up anew-is less =
    let is = anew_counted name old new first sides can named first-is in
    let newly = newly_sum single (size_of_notices (single_changes name old new)) (size_of_notices (additions new)) (size_of_notices (all_anew name new)) first all anew singly is.split is.small up.within anew-is less in
    anew_planned name old new single anew named other some (record { singly = singly; newly = newly; small = is.small }) less

pub singly_planned : (name : Labels) (old new : RecordSet) (single first all anew : ℕ) → AreOfOneName old new → IsTrue (can_be_sent new) → name ≡ owner_of (old ++ new) → same_rows old new ≡ false → is_empty new ≡ false
    → single ≡ counted (size_of_notices (single_changes name old new)) → first ≡ length (octets name) + 10 + 0 → IsUpTo new single all → anew ≡ min (first + all) (2 ^ 64 - 1)
    → single ≤ anew → IsPlanned old new (single_changes name old new) single
singly_planned name old new single first all anew sides can named other some singly first-is up anew-is least =
    let is = anew_counted name old new first sides can named first-is in
    let low = singly_least single (size_of_notices (single_changes name old new)) (size_of_notices (additions new)) (size_of_notices (all_anew name new)) first all anew is.split is.small up.within up.beyond anew-is least in
    single_planned name old new single (size_of_notices (all_anew name new)) named other some (record { singly = singly; newly = refl; small = is.small }) low

-- ---- the frame of a net

push_frame-none : (ns : List Notice) → size_of_notices ns ≡ 0 → push_frame ns ≡ []
push_frame-none [] h = refl
push_frame-none (n ∷ ns) h = absurd (omega (arith, net-takes n ns))

push_frame-some : (ns : List Notice) → (size_of_notices ns ≡ 0 → ⊥) → push_frame ns ≡ head_of (size_of_notices ns) ++ flat_map notice_octets ns
push_frame-some [] h = absurd (h refl)
push_frame-some (n ∷ ns) h = ap (λ (m : ℕ). to_be_bytes w16 m ++ push_message (n ∷ ns)) (length-push_message (n ∷ ns))

pub net_frame-none : (old new : RecordSet) → size_of_notices (net old new) ≡ 0 → net_frame old new ≡ []
net_frame-none old new h = push_frame-none (net old new) h

pub net_frame-some : (old new : RecordSet) (size : ℕ) → size ≡ size_of_notices (net old new) → size ≢ 0 → net_frame old new ≡ head_of size ++ flat_map notice_octets (net old new)
net_frame-some old new size is some = push_frame-some (net old new) (λ h. some (is ∙ h)) ∙ ap (λ n. head_of n ++ flat_map notice_octets (net old new)) (sym is)

pub length-head : (size : ℕ) (octets : List ℕ) → length (head_of size ++ octets) ≡ 18 + length octets
length-head size octets = omega arith

-- a name's net has room in a message
pub net_small : (old new : RecordSet) → AreOfOneName old new → IsTrue (can_be_sent new) → 16 + size_of_notices (net old new) ≤ max_net_message
net_small old new (name, one, two) can = omega (arith, length-push_message (net old new), net_fits_one_message name old new one two can)

-- ---- single changes are appended in two steps

pub single_room : (name : Labels) (old new : RecordSet) (out : List ℕ) (most : ℕ) → IsOneSide old → length out + size_of_notices (single_changes name old new) ≤ most
    → length out + size_of_notices (removals_behind name new None old) ≤ most
single_room name old new out most one room =
    let split = ap size_of_notices (single_is name old new one) ∙ size_of_notices-append (removals_behind name new None old) (additions_to old new) in
    omega arith

pub single_room_left : (name : Labels) (old new : RecordSet) (out now : List ℕ) (most : ℕ) → IsOneSide old → length out + size_of_notices (single_changes name old new) ≤ most
    → now ≡ out ++ flat_map notice_octets (removals_behind name new None old) → length now + size_of_notices (additions_to old new) ≤ most
single_room_left name old new out now most one room is =
    let split = ap size_of_notices (single_is name old new one) ∙ size_of_notices-append (removals_behind name new None old) (additions_to old new) in
    let size = ap (λ (l : List ℕ). length l) is ∙ length-append out (flat_map notice_octets (removals_behind name new None old)) in
    omega arith

pub single_appended : (name : Labels) (old new : RecordSet) (out now last : List ℕ) → IsOneSide old → now ≡ out ++ flat_map notice_octets (removals_behind name new None old)
    → last ≡ now ++ flat_map notice_octets (additions_to old new) → last ≡ out ++ flat_map notice_octets (single_changes name old new)
single_appended name old new out now last one now-is last-is =
    last-is
    ∙ ap (λ l. l ++ flat_map notice_octets (additions_to old new)) now-is
    ∙ append_assoc out (flat_map notice_octets (removals_behind name new None old)) (flat_map notice_octets (additions_to old new))
    ∙ ap (λ l. out ++ l) (sym (flat_map-append notice_octets (removals_behind name new None old) (additions_to old new)) ∙ ap (flat_map notice_octets) (sym (single_is name old new one)))
