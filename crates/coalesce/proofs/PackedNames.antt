-- A message of a queue leads each question whose name goes to what is there now, and leaves the others.
use Rattle.std.proofs.Common.{◌≡◌, ℕ, ◌+◌, Bool, true, false, cond, not, ◌&&◌, ◌||◌, List, [], ◌∷◌, ◌++◌, map, true≢false, sym, ◌∙◌, ap, subst, refl}
use Rattle.std.specs.Prelude.{nat_le, ◌==◌, IsTrue}
use Rattle.std.specs.List.{list_all, AllByRecursion}
use Rattle.std.proofs.lemmas.Bool.{not-true, not_from_false, and_from, and_parts, or_parts}
use Rattle.std.proofs.lemmas.List.{map-append}
use Rattle.std.proofs.lemmas.List.Sums.{fold-append}
use Rattle.std.proofs.lemmas.List.Folds.{list_all-append, list_any-append}
use Rattle.dnsname.specs.Names.{Labels, same_name}
use Rattle.rrset.specs.RecordSet.{RecordSet, matching}
use Rattle.rrset.specs.declared.record.Question.{Question}
use Rattle.dsotlv.specs.Notices.{applied, applied_all}
use Rattle.dsotlv.specs.declared.message.Notice.{Notice}
use Rattle.coalesce.specs.Net.{net, size_of_notices, max_push, packed_behind, packed, Nets}
use Rattle.coalesce.specs.Laws.{is_side, can_be_sent, all_notices, speaks_of, are_others, is_named_in, are_apart, nets_of, HaveSides, IsAlike, PackedLeads, PackedIsReadBack}
use Rattle.coalesce.proofs.SameNames.{same_name-joined, same_name-swapped}
use Rattle.coalesce.proofs.Sides.{side, net_leads_to_new}
use Rattle.coalesce.proofs.ReadBack.{AreWritten, IsWritten, each-append, written_are_read_back, net_is_written}
use Rattle.coalesce.proofs.Packing.{is_packed_behind, packs_the_front, each-front}
use Rattle.coalesce.proofs.OneName.{net_speaks_of_its_name}
use Rattle.coalesce.proofs.OtherNames.{others_change_nothing, named-matching, all_leave}

-- ---- names that are apart

all_front : {X : Type 0} (p : X → Bool) (xs ys : List X) → list_all p (xs ++ ys) ≡ true → list_all p xs ≡ true
all_front p xs ys h = (and_parts (list_all p xs) (list_all p ys) (sym (list_all-append p xs ys) ∙ h)).0

-- what is said of other names changes nothing
rest_leaves : (q : Question) (size : ℕ) (names : Nets) (set : RecordSet) → are_others q names ≡ true → applied_all (packed_behind size names).0 q (matching q set) ≡ matching q set
rest_leaves q size names set others =
    let p = is_packed_behind size names in
    ap (λ ns. applied_all ns q (matching q set)) p.whole_nets
    ∙ others_change_nothing p.gone q set (all_front _ p.gone p.left (sym (ap (are_others q) p.split) ∙ others))

abbrev names_of : Nets → List Labels
names_of names = map (λ e. e.0) names

-- a name that isn't queued doesn't stay
none_stays : (n : Labels) (size : ℕ) (names : Nets) → is_named_in n (names_of names) ≡ false → is_named_in n (packed_behind size names).1 ≡ false
none_stays n size names none =
    let p = is_packed_behind size names in
    let whole : names_of names ≡ names_of p.gone ++ names_of p.left = ap names_of p.split ∙ map-append (λ (e : Labels × List Notice). e.0) p.gone p.left in
    ap (is_named_in n) p.stay
    ∙ (or_parts (is_named_in n (names_of p.gone)) (is_named_in n (names_of p.left)) (sym (list_any-append (same_name n) (names_of p.gone) (names_of p.left)) ∙ sym (ap (is_named_in n) whole) ∙ none)).1

-- a name that is the same as the first of several that are apart is none of the others
same_as_first : (m n : Labels) (ns : List Labels) → same_name m n ≡ true → is_named_in n ns ≡ false → is_named_in m ns ≡ false
same_as_first m n [] same none = refl
same_as_first m n (k ∷ ks) same none = by (same_as_first m n ks same (or_parts (same_name n k) (is_named_in n ks) none).1) (same_name m k) refl
  where
    by : is_named_in m ks ≡ false → (b : Bool) → same_name m k ≡ b → (b || is_named_in m ks) ≡ false
    by rest true s = absurd (true≢false (sym (same_name-joined n m k (same_name-swapped m n same) s) ∙ (or_parts (same_name n k) (is_named_in n ks) none).0))
    by rest false s = rest

-- ---- nets from what was sent to what is there now

module _ (sent now : Labels → RecordSet) (q : Question) where
  names_of_nets : (names : List Labels) → names_of (nets_of sent now names) ≡ names
  names_of_nets [] = refl
  names_of_nets (n ∷ ns) = ap (λ ms. n ∷ ms) (names_of_nets ns)

  nets_are_others : (names : List Labels) → HaveSides sent now names → is_named_in q.name names ≡ false → are_others q (nets_of sent now names) ≡ true
  nets_are_others [] sides none = refl
  nets_are_others (n ∷ ns) sides none =
      let parts = or_parts (same_name q.name n) (is_named_in q.name ns) none in
      and_from _ _ (and_from _ _ (not_from_false (same_name q.name n) parts.0) (net_speaks_of_its_name n (sent n) (now n) sides.0.0 sides.0.1)) (nets_are_others ns sides.1 parts.1)

  -- the question's records after a message, by whether its name is queued and whether it stays
  abbrev after : Bool → Bool → RecordSet
  after queued stays = matching q (cond (queued && not stays) (now q.name) (sent q.name))

  sent_rest : (size : ℕ) (ns : List Labels) → is_named_in q.name ns ≡ false → is_named_in q.name (packed_behind size (nets_of sent now ns)).1 ≡ false
  sent_rest size ns none = none_stays q.name size (nets_of sent now ns) (ap (is_named_in q.name) (names_of_nets ns) ∙ none)

  module _ (alike_sent : IsAlike sent q) (alike_now : IsAlike now q) where
    -- the net of the question's name leads it to what is there now
    its_net : (n : Labels) → is_side n (sent n) ≡ true → is_side n (now n) ≡ true → same_name q.name n ≡ true → (ns : List Notice) → net (sent n) (now n) ≡ ns
        → applied_all ns q (matching q (sent q.name)) ≡ matching q (now q.name)
    its_net n before behind same ns is =
        ap (λ os. applied_all os q (matching q (sent q.name))) (sym is)
        ∙ ap (λ s. applied_all (net (sent n) (now n)) q (matching q s)) (sym (alike_sent n same))
        ∙ net_leads_to_new n (sent n) (now n) q before behind
        ∙ ap (matching q) (alike_now n same)

    abbrev Leads : ℕ → List Labels → Type 0
    Leads size names = applied_all (packed_behind size (nets_of sent now names)).0 q (matching q (sent q.name)) ≡ after (is_named_in q.name names) (is_named_in q.name (packed_behind size (nets_of sent now names)).1)

    -- the question's name goes first, and the others change nothing
    goes_first : (n : Labels) (ns : List Labels) → HaveSides sent now ns → is_named_in n ns ≡ false → same_name q.name n ≡ true → (size : ℕ) (notices : List Notice) → applied_all notices q (matching q (sent q.name)) ≡ matching q (now q.name)
        → applied_all (notices ++ (packed_behind size (nets_of sent now ns)).0) q (matching q (sent q.name)) ≡ after true (is_named_in q.name (packed_behind size (nets_of sent now ns)).1)
    goes_first n ns sides apart same size notices lead =
        let none = same_as_first q.name n ns same apart in
        fold-append (applied q) (matching q (sent q.name)) notices (packed_behind size (nets_of sent now ns)).0
        ∙ ap (applied_all (packed_behind size (nets_of sent now ns)).0 q) lead
        ∙ rest_leaves q size (nets_of sent now ns) (now q.name) (nets_are_others ns sides none)
        ∙ sym (ap (after true) (sent_rest size ns none))

    stays_sent : (x : Bool) → matching q (sent q.name) ≡ after x x
    stays_sent true = refl
    stays_sent false = refl

    leads_first : (n : Labels) (ns : List Labels) → (is_side n (sent n) ≡ true) × (is_side n (now n) ≡ true) → HaveSides sent now ns → is_named_in n ns ≡ false → (size : ℕ) → ((size : ℕ) → Leads size ns)
        → (notices : List Notice) → net (sent n) (now n) ≡ notices → (b : Bool) → same_name q.name n ≡ b
        → applied_all (packed_behind size ((n, notices) ∷ nets_of sent now ns)).0 q (matching q (sent q.name)) ≡ after (b || is_named_in q.name ns) (is_named_in q.name (packed_behind size ((n, notices) ∷ nets_of sent now ns)).1)
    leads_first n ns its sides apart size rest [] is true same = goes_first n ns sides apart same size [] (its_net n its.0 its.1 same [] is)
    leads_first n ns its sides apart size rest [] is false same = rest size
    leads_first n ns its sides apart size rest (m ∷ ms) is b same = by (size == 0 || nat_le (16 + size + size_of_notices (m ∷ ms)) max_push) b same
      where
        further : List Notice × List Labels
        further = packed_behind (size + size_of_notices (m ∷ ms)) (nets_of sent now ns)

        result : Bool → List Notice × List Labels
        result c = elim c [ true ↦ ((m ∷ ms) ++ further.0, further.1) | false ↦ ([], n ∷ map (λ e. e.0) (nets_of sent now ns)) ]

        by : (c b : Bool) → same_name q.name n ≡ b → applied_all (result c).0 q (matching q (sent q.name)) ≡ after (b || is_named_in q.name ns) (is_named_in q.name (result c).1)
        by true true same = goes_first n ns sides apart same (size + size_of_notices (m ∷ ms)) (m ∷ ms) (its_net n its.0 its.1 same (m ∷ ms) is)
        by true false other =
            fold-append (applied q) (matching q (sent q.name)) (m ∷ ms) further.0
            ∙ ap (applied_all further.0 q) (all_leave q n (m ∷ ms) (matching q (sent q.name)) other (sym (ap (list_all (speaks_of n)) is) ∙ net_speaks_of_its_name n (sent n) (now n) its.0 its.1) (named-matching q (sent q.name)))
            ∙ rest (size + size_of_notices (m ∷ ms))
        by false b same = stays_sent (b || is_named_in q.name ns) ∙ ap (after (b || is_named_in q.name ns)) (λ i. sym same i || is_named_in q.name (sym (names_of_nets ns) i))

    leads : (size : ℕ) (names : List Labels) → HaveSides sent now names → are_apart names ≡ true → Leads size names
    leads size [] sides apart = refl
    leads size (n ∷ ns) sides apart =
        let parts = and_parts (not (is_named_in n ns)) (are_apart ns) apart in
        leads_first n ns sides.0 sides.1 (not-true (is_named_in n ns) parts.0) size (λ more. leads more ns sides.1 parts.1) (net (sent n) (now n)) refl (same_name q.name n) refl

pub packed_leads : PackedLeads
packed_leads sent now names q sides apart alike_sent alike_now = leads sent now q alike_sent alike_now 0 names sides apart

-- ---- reading

nets_are_written : (sent now : Labels → RecordSet) (names : List Labels) → HaveSides sent now names → AllByRecursion (λ n. IsTrue (can_be_sent (now n))) names → AllByRecursion (λ e. AreWritten e.1) (nets_of sent now names)
nets_are_written sent now [] sides can = tt
nets_are_written sent now (n ∷ ns) sides can = (net_is_written n (sent n) (now n) (side n (sent n) sides.0.0) (side n (now n) sides.0.1) can.0, nets_are_written sent now ns sides.1 can.1)

all_are_written : (gone : Nets) → AllByRecursion (λ e. AreWritten e.1) gone → AreWritten (all_notices gone)
all_are_written [] h = tt
all_are_written (e ∷ es) h = each-append IsWritten e.1 (all_notices es) h.0 (all_are_written es h.1)

pub packed_is_read_back : PackedIsReadBack
packed_is_read_back sent now names sides can some =
    let p = packs_the_front (nets_of sent now names) in
    let written = subst (AllByRecursion (λ e. AreWritten e.1)) p.split (nets_are_written sent now names sides can) in
    let gone = all_are_written p.gone (each-front (λ e. AreWritten e.1) p.gone p.left written) in
    written_are_read_back (packed (nets_of sent now names)).0 (subst AreWritten (sym p.whole_nets) gone) some
