-- One step of a walk.
--     matching-part      the records that a question asks for are those of its name that it asks for
--     found-step, none-step, alias-step      the three ways in which a step is made
--     alias-fits, alias-small      the first CNAME of a name
use Rattle.std.proofs.Common.{◌≡◌, ℕ, ◌+◌, ◌<◌, ◌≤◌, ◌^◌, Bool, true, false, cond, ◌&&◌, ◌||◌, List, [], ◌∷◌, ◌++◌, length, Some, None, refl, sym, ◌∙◌, ap, subst, arith}
use Rattle.std.specs.Prelude.{IsTrue, filter, find, flat_map, ◌==◌}
use Rattle.std.specs.List.{list_all}
use Rattle.std.proofs.lemmas.List.{append-nil}
use Rattle.push_base.specs.Limits.{max_octets_at_name}
use Rattle.dnsname.specs.Names.{Labels, same_name}
use Rattle.rrset.specs.Kinds.{cname_kind, any_kind, in_class, any_class}
use Rattle.rrset.specs.Rcodes.{noerror}
use Rattle.rrset.specs.Rdata.{shape_fits}
use Rattle.rrset.specs.Records.{rr_of, rr_size}
use Rattle.rrset.specs.RecordSet.{RecordSet, matching, at_name, size_of}
use Rattle.rrset.specs.declared.record.Key.{Key}
use Rattle.rrset.specs.declared.record.Shown.{Shown}
use Rattle.rrset.specs.declared.record.Question.{Question}
use Rattle.rrset.proofs.Sizes.{size_of-cons}
use Rattle.dnswire.specs.Writing.{record_octets}
use Rattle.dnsquery.specs.Replies.{Known, Answered, at_step, behind, fits_its_kind, nothing_at, rrs_of, target_of}
use Rattle.dnsquery.specs.Steps.{asks_for, is_alias, leads_to}

abbrev pub part_for : ℕ → ℕ → RecordSet → RecordSet
part_for kind class rows = filter (λ (e : Key × Shown). asks_for kind class e.0) rows

pub matching-part : (name : Labels) (kind class : ℕ) (records : RecordSet) → matching (record { name = name; kind = kind; class = class }) records ≡ part_for kind class (at_name name records)
matching-part name kind class [] = refl
matching-part name kind class (e ∷ es) = by (matching-part name kind class es) (same_name name e.0.owner)
  where
    by : matching (record { name = name; kind = kind; class = class }) es ≡ part_for kind class (at_name name es)
        → (b : Bool) → cond ((b && (kind == e.0.kind || kind == any_kind)) && (class == e.0.class || class == any_class)) (e ∷ matching (record { name = name; kind = kind; class = class }) es) (matching (record { name = name; kind = kind; class = class }) es)
        ≡ part_for kind class (cond b (e ∷ at_name name es) (at_name name es))
    by rest true = ap (λ (l : RecordSet). cond (asks_for kind class e.0) (e ∷ l) l) rest
    by rest false = rest

-- ---- a step

abbrev pub step_by : Known → Labels → (Labels → Answered) → RecordSet → RecordSet → Answered
step_by known name goes_on (e ∷ es) aliases = record { rcode = noerror; answers = e ∷ es }
step_by known name goes_on [] [] = nothing_at known name
step_by known name goes_on [] (alias ∷ others) = behind alias (goes_on (target_of alias))

pub step-is : (known : Known) (question : Question) (name : Labels) (goes_on : Labels → Answered)
    → at_step known question name goes_on
    ≡ step_by known name goes_on (part_for question.kind question.class (at_name name known.records)) (part_for cname_kind in_class (at_name name known.records))
step-is known question name goes_on =
    by (matching (record question { name = name }) known.records) (matching (record { name = name; kind = cname_kind; class = in_class }) known.records)
    ∙ (λ i. step_by known name goes_on (matching-part name question.kind question.class known.records i) (matching-part name cname_kind in_class known.records i))
  where
    by : (found aliases : RecordSet)
        → elim found as (λ _. Answered) [
          | e ∷ es ↦ record { rcode = noerror; answers = e ∷ es }
          | [] ↦ elim aliases as (λ _. Answered) [ [] ↦ nothing_at known name | alias ∷ others ↦ behind alias (goes_on (target_of alias)) ]
        ] ≡ step_by known name goes_on found aliases
    by (e ∷ es) aliases = refl
    by [] [] = refl
    by [] (alias ∷ others) = refl

-- ---- lists

no-length : {X : Type 0} (xs : List X) → length xs ≡ 0 → xs ≡ []
no-length [] e = refl
no-length (x ∷ xs) e = absurd (omega (arith, e))

record Begins (X : Type 0) (x : X) (xs : List X) : Type 0 where
  others : List X
  is : xs ≡ x ∷ others

find-some : {X : Type 0} (p : X → Bool) (xs : List X) (x : X) → find p xs ≡ Some x → Begins X x (filter p xs)
find-some p [] x e = absurd cc
find-some {X} p (y ∷ ys) x e = by (find-some p ys x) (p y) e
  where
    by : (find p ys ≡ Some x → Begins X x (filter p ys)) → (b : Bool) → cond b (Some y) (find p ys) ≡ Some x → Begins X x (cond b (y ∷ filter p ys) (filter p ys))
    by rest true h = let same : y ≡ x = cc in record { others = filter p ys; is = ap (λ z. z ∷ filter p ys) same }
    by rest false h = rest h

find-none : {X : Type 0} (p : X → Bool) (xs : List X) → find p xs ≡ None → filter p xs ≡ []
find-none p [] e = refl
find-none {X} p (y ∷ ys) e = by (find-none p ys) (p y) e
  where
    by : (find p ys ≡ None → filter p ys ≡ []) → (b : Bool) → cond b (Some y) (find p ys) ≡ None → cond b (y ∷ filter p ys) (filter p ys) ≡ []
    by rest true h = absurd cc
    by rest false h = rest h

-- ---- the three ways

module _ (known : Known) (question : Question) (name : Labels) (goes_on : Labels → Answered) (rows : RecordSet) (rows-is : rows ≡ at_name name known.records) where
  made : (found aliases : RecordSet) → part_for question.kind question.class rows ≡ found → part_for cname_kind in_class rows ≡ aliases
      → at_step known question name goes_on ≡ step_by known name goes_on found aliases
  made found aliases found-is aliases-is =
      step-is known question name goes_on
      ∙ (λ i. step_by known name goes_on (part_for question.kind question.class (sym rows-is i)) (part_for cname_kind in_class (sym rows-is i)))
      ∙ (λ i. step_by known name goes_on (found-is i) (aliases-is i))

  found-by : (found aliases : RecordSet) → 0 < length found → step_by known name goes_on found aliases ≡ record { rcode = noerror; answers = found }
  found-by [] aliases some = absurd (omega (arith, some))
  found-by (e ∷ es) aliases some = refl

  pub found-step : (count : ℕ) → 0 < count → count ≡ length (part_for question.kind question.class rows)
      → at_step known question name goes_on ≡ leads_to (part_for question.kind question.class rows) noerror None goes_on
  found-step count some is = made (part_for question.kind question.class rows) (part_for cname_kind in_class rows) refl refl ∙ found-by _ (part_for cname_kind in_class rows) (omega (arith, some, is))

  pub none-step : (count rcode : ℕ) → count ≤ 0 → count ≡ length (part_for question.kind question.class rows) → find (λ (e : Key × Shown). is_alias e.0) rows ≡ None
      → rcode ≡ (nothing_at known name).rcode → at_step known question name goes_on ≡ leads_to [] rcode None goes_on
  none-step count rcode few is none rcode-is =
      made [] [] (no-length (part_for question.kind question.class rows) (omega (arith, few, is))) (find-none (λ (e : Key × Shown). is_alias e.0) rows none)
      ∙ ap (λ n. leads_to [] n None goes_on) (sym rcode-is)

  pub alias-step : (count : ℕ) (alias : Key × Shown) (target : Labels) → count ≤ 0 → count ≡ length (part_for question.kind question.class rows)
      → find (λ (e : Key × Shown). is_alias e.0) rows ≡ Some alias → target ≡ target_of alias
      → at_step known question name goes_on ≡ leads_to (alias ∷ []) noerror (Some target) goes_on
  alias-step count alias target few is found target-is =
      let first = find-some (λ (e : Key × Shown). is_alias e.0) rows alias found in
      made [] (alias ∷ first.others) (no-length (part_for question.kind question.class rows) (omega (arith, few, is))) first.is
      ∙ ap (λ (t : Labels). behind alias (goes_on t)) (sym target-is)

-- ---- what is written

pub nothing-written : (before after : List ℕ) (part : RecordSet) (count : ℕ) → count ≤ 0 → count ≡ length part → after ≡ before ++ flat_map record_octets (rrs_of part) → after ≡ before ++ []
nothing-written before after part count few is written = written ∙ ap (λ (l : RecordSet). before ++ flat_map record_octets (rrs_of l)) (no-length part (omega (arith, few, is)))

pub alias-written : (before between after : List ℕ) (alias : Key × Shown) → between ≡ before ++ [] → after ≡ between ++ record_octets (rr_of alias.0 alias.1)
    → after ≡ before ++ flat_map record_octets (rrs_of (alias ∷ []))
alias-written before between after alias first second =
    second ∙ ap (λ (l : List ℕ). l ++ record_octets (rr_of alias.0 alias.1)) (first ∙ append-nil before) ∙ ap (λ (l : List ℕ). before ++ l) (sym (append-nil (record_octets (rr_of alias.0 alias.1))))

-- ---- the first CNAME

found-passes : {X : Type 0} (p q : X → Bool) (xs : List X) (x : X) → IsTrue (list_all q xs) → find p xs ≡ Some x → (p x ≡ true) × (q x ≡ true)
found-passes p q [] x all e = absurd cc
found-passes {X} p q (y ∷ ys) x all e = by (found-passes p q ys x) (p y) refl (q y) refl all e
  where
    by : (IsTrue (list_all q ys) → find p ys ≡ Some x → (p x ≡ true) × (q x ≡ true)) → (b : Bool) → p y ≡ b → (c : Bool) → q y ≡ c → IsTrue (c && list_all q ys) → cond b (Some y) (find p ys) ≡ Some x → (p x ≡ true) × (q x ≡ true)
    by rest b b-is false c-is h k = absurd cc
    by rest true b-is true c-is h k = let same : y ≡ x = cc in (subst (λ z. p z ≡ true) same b-is, subst (λ z. q z ≡ true) same c-is)
    by rest false b-is true c-is h k = rest h k

all-filtered : {X : Type 0} (p q : X → Bool) (xs : List X) → IsTrue (list_all q xs) → IsTrue (list_all q (filter p xs))
all-filtered p q [] all = refl
all-filtered {X} p q (x ∷ xs) all = by (all-filtered p q xs) (p x) (q x) refl all
  where
    by : (IsTrue (list_all q xs) → IsTrue (list_all q (filter p xs))) → (b c : Bool) → q x ≡ c → IsTrue (c && list_all q xs) → IsTrue (list_all q (cond b (x ∷ filter p xs) (filter p xs)))
    by rest b false c-is h = absurd cc
    by rest true true c-is h = ap (λ d. d && list_all q (filter p xs)) c-is ∙ rest h
    by rest false true c-is h = rest h

pub is-cname : (kind : ℕ) (rest : Bool) → ((cname_kind == kind || false) && rest) ≡ true → kind ≡ cname_kind
is-cname kind rest e = by (cname_kind == kind) refl e
  where
    by : (b : Bool) → (cname_kind == kind) ≡ b → ((b || false) && rest) ≡ true → kind ≡ cname_kind
    by true is h = grind (arith, is)
    by false is h = absurd cc

pub and-true : (a b : Bool) → (a && b) ≡ true → b ≡ true
and-true true b h = h
and-true false b h = absurd cc

-- what is known of the first CNAME of a name
pub alias-fits : (known : Known) (name : Labels) (rows : RecordSet) (alias : Key × Shown) → IsTrue (list_all fits_its_kind known.records) → rows ≡ at_name name known.records
    → find (λ (e : Key × Shown). is_alias e.0) rows ≡ Some alias → IsTrue (shape_fits cname_kind alias.1.rdata)
alias-fits known name rows alias fit rows-is found =
    let fit-rows : IsTrue (list_all fits_its_kind rows) = subst (λ (l : RecordSet). IsTrue (list_all fits_its_kind l)) (sym rows-is) (all-filtered (λ (e : Key × Shown). same_name name e.0.owner) fits_its_kind known.records fit) in
    let both = found-passes (λ (e : Key × Shown). is_alias e.0) fits_its_kind rows alias fit-rows found in
    subst (λ n. shape_fits n alias.1.rdata ≡ true) (is-cname alias.0.kind (in_class == alias.0.class || in_class == any_class) both.0) (and-true (alias.0.class == in_class) (shape_fits alias.0.kind alias.1.rdata) both.1)

found-size : (p : Key × Shown → Bool) (rows : RecordSet) (e : Key × Shown) → find p rows ≡ Some e → length e.1.rdata ≤ size_of rows
found-size p [] e h = absurd cc
found-size p (d ∷ ds) e h = by (found-size p ds e) (size_of-cons d ds) (p d) h
  where
    by : (find p ds ≡ Some e → length e.1.rdata ≤ size_of ds) → size_of (d ∷ ds) ≡ rr_size (rr_of d.0 d.1) + size_of ds
        → (b : Bool) → cond b (Some d) (find p ds) ≡ Some e → length e.1.rdata ≤ size_of (d ∷ ds)
    by rest is true h = let same : d ≡ e = cc in subst (λ (x : Key × Shown). length x.1.rdata ≤ size_of (d ∷ ds)) same (omega (arith, is))
    by rest is false h = let small = rest h in omega (arith, small, is)

pub alias-small : (known : Known) (name : Labels) (rows : RecordSet) (alias : Key × Shown) → size_of (at_name name known.records) ≤ max_octets_at_name → rows ≡ at_name name known.records
    → find (λ (e : Key × Shown). is_alias e.0) rows ≡ Some alias → length alias.1.rdata < 2 ^ 16
alias-small known name rows alias few rows-is found =
    let small = found-size (λ (e : Key × Shown). is_alias e.0) rows alias found in
    omega (arith, small, ap size_of rows-is, few)
