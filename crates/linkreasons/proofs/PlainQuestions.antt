-- Questions in lower case, of class IN: those that are one are equal, and there are reasons for no others.
--     plain_are_one      one spelling
--     all_append      two lists
--     on-plain, all-on-plain, keys-plain, reasons_are_plain      what links are asked
use Rattle.std.proofs.Common.{◌≡◌, ℕ, ◌-◌, Bool, true, false, cond, List, [], ◌∷◌, ◌++◌, length, take, map, sym, ap, ◌∙◌}
use Rattle.std.specs.List.{AllByRecursion, flat_map}
use Rattle.std.specs.Char.{to_ascii_lowercase}
use Rattle.std.specs.Ordering.{nat_cmp}
use Rattle.std.specs.FinMap.{nat_cmp-IsAntisymmetric}
use Rattle.std.proofs.lemmas.List.{take-map}
use Rattle.dnsname.specs.Names.{Labels, ends_in, lower, octets, swapped_suffix}
use Rattle.dnsname.proofs.Octets.{octets_injective}
use Rattle.dnsname.proofs.Suffixes.{lower-append}
use Rattle.rrset.specs.Records.{octets_cmp}
use Rattle.rrset.specs.Tables.{HasLowerOwner}
use Rattle.rrset.specs.declared.record.Question.{Question}
use Rattle.rrset.proofs.KeyOrder.{both_equal, same_bytes}
use Rattle.rrset.proofs.LowerNames.{lower-twice}
use Rattle.rrset.proofs.Sets.{is_eq-Equal}
use Rattle.linkmap.specs.Translation.{fits_a_name, local, renamed}
use Rattle.linkask.specs.Asking.{asked_cmp, asked_for}
use Rattle.linkask.specs.Reasons.{Reconfirmed, question_for, question_on}
use Rattle.linkreasons.specs.Laws.{IsPlain, PlainAreOne, ReasonsArePlain}

-- ---- one spelling

pub plain_are_one : PlainAreOne
plain_are_one p q p-is q-is same =
    let both = both_equal (octets_cmp (octets (lower p.name)) (octets (lower q.name))) (nat_cmp p.kind q.kind) (is_eq-Equal (asked_cmp p q) same) in
    let names : lower p.name ≡ lower q.name = octets_injective _ _ (same_bytes (octets (lower p.name)) (octets (lower q.name)) both.0) in
    let kinds : p.kind ≡ q.kind = nat_cmp-IsAntisymmetric p.kind q.kind both.1 in
    p-is ∙ (λ i. asked_for (names i) (kinds i)) ∙ sym q-is

-- ---- reasons

pub all_append : {X : Type 0} (P : X → Type 0) (xs ys : List X) → AllByRecursion P xs → AllByRecursion P ys → AllByRecursion P (xs ++ ys)
all_append P [] ys first second = second
all_append P (x ∷ xs) ys first second = (first.0, all_append P xs ys first.1 second)

pub for-plain : (name : Labels) (kind : ℕ) → lower name ≡ name → IsPlain (asked_for name kind)
for-plain name kind is = ap (λ n. asked_for n kind) (sym is)

renamed-lower : (domain name : Labels) → lower name ≡ name → lower (renamed domain local name) ≡ renamed domain local name
renamed-lower domain name is = by (ends_in name domain)
  where
    n : ℕ
    n = length name - length domain

    by : (b : Bool) → lower (cond b (swapped_suffix name domain local) name) ≡ cond b (swapped_suffix name domain local) name
    by true = lower-append (take n name) local ∙ ap (λ (l : Labels). l ++ local) (sym (take-map (map to_ascii_lowercase) n name) ∙ ap (take n) is)
    by false = is

pub on-plain : (domain : Labels) (question : Question) → AllByRecursion IsPlain (question_on domain question)
on-plain domain question = by (fits_a_name name)
  where
    name : Labels
    name = renamed domain local (lower question.name)

    by : (b : Bool) → AllByRecursion IsPlain (cond b (asked_for name question.kind ∷ []) [])
    by true = (for-plain name question.kind (renamed-lower domain (lower question.name) (lower-twice question.name)), tt)
    by false = tt

pub all-on-plain : (domain : Labels) (questions : List Question) → AllByRecursion IsPlain (flat_map (question_on domain) questions)
all-on-plain domain [] = tt
all-on-plain domain (q ∷ qs) = all_append IsPlain (question_on domain q) (flat_map (question_on domain) qs) (on-plain domain q) (all-on-plain domain qs)

pub keys-plain : (reconfirmed : Reconfirmed) → AllByRecursion (λ r. HasLowerOwner r.0) reconfirmed → AllByRecursion IsPlain (map (λ r. question_for r.0) reconfirmed)
keys-plain [] low = tt
keys-plain (r ∷ rs) low = (for-plain r.0.owner r.0.kind low.0, keys-plain rs low.1)

pub reasons_are_plain : ReasonsArePlain
reasons_are_plain domain questions reconfirmed low =
    all_append IsPlain (flat_map (question_on domain) questions) (map (λ r. question_for r.0) reconfirmed) (all-on-plain domain questions) (keys-plain reconfirmed low)
