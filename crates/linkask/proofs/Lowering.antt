-- Bounds are lowered behind records that are heard: those of two questions for each record.
--     heard-twice      the questions for its name, and its kind or any
--     unbounded-all      nothing but bounds changes
use Rattle.std.proofs.Common.{◌≡◌, ℕ, ◌+◌, ◌*◌, Bool, true, false, cond, not, ◌&&◌, ◌||◌, ◌==◌, List, [], ◌∷◌, map, refl, sym, ◌∙◌, ap, subst, arith}
use Rattle.std.specs.Prelude.{min}
use Rattle.std.specs.Ordering.{nat_cmp, ordering_then, is_eq}
use Rattle.std.specs.Cmp.{nat_cmp_total, tied_itself, unsigned_Decides}
use Rattle.std.specs.FinMap.{nat_cmp-IsAntisymmetric}
use Rattle.std.specs.declared.cmp.Ordering.{Ordering}
use Rattle.std.specs.declared.cmp.Ordering.TheVariants.{Less, Equal, Greater}
use Rattle.std.proofs.lemmas.Slice.Eq.{bytes_eq-Decides}
use Rattle.dnsname.specs.Names.{Labels, octets, lower, same_name}
use Rattle.rrset.specs.Kinds.{any_kind}
use Rattle.rrset.specs.Records.{octets_cmp, same_octets}
use Rattle.rrset.specs.declared.record.Question.{Question}
use Rattle.rrset.specs.declared.record.HeardRr.{HeardRr}
use Rattle.rrset.proofs.Sets.{is_eq-Equal, same_octets-same}
use Rattle.rrset.proofs.SameRows.{same_octets-self}
use Rattle.linkcache.specs.Rows.{ttl_of}
use Rattle.linkask.specs.Asking.{asked_for, same_asked}
use Rattle.linkask.specs.Bounds.{Kept, all_heard, first_refresh, heard_again, is_asked_for, lowered_due, lowered_for, unbounded}
use Rattle.linkask.specs.declared.asks.KeptAsks.{KeptAsks}

-- ---- which questions ask for a record

then-eq : (r s : Ordering) → is_eq (ordering_then r s) ≡ (is_eq r && is_eq s)
then-eq Less s = refl
then-eq Equal s = refl
then-eq Greater s = refl

both-ways : (a b : Bool) → (a ≡ true → b ≡ true) → (b ≡ true → a ≡ true) → a ≡ b
both-ways true b f g = sym (f refl)
both-ways false true f g = g refl
both-ways false false f g = refl

same-names : (name other : Labels) → same_octets (octets (lower name)) (octets (lower other)) ≡ same_name other name
same-names name other =
    let test = bytes_eq-Decides (octets (lower other)) (octets (lower name)) in
    both-ways _ _ (λ h. test.1 (sym (same_octets-same (octets (lower name)) (octets (lower other)) h))) (λ h. ap (same_octets (octets (lower name))) (test.0 h) ∙ same_octets-self (octets (lower name)))

same-kinds : (kind other : ℕ) → is_eq (nat_cmp kind other) ≡ (other == kind)
same-kinds kind other =
    both-ways _ _ (λ h. (unsigned_Decides other kind).1 (sym (nat_cmp-IsAntisymmetric kind other (is_eq-Equal (nat_cmp kind other) h))))
    (λ h. ap (λ n. is_eq (nat_cmp n other)) (sym ((unsigned_Decides other kind).0 h)) ∙ ap is_eq (tied_itself nat_cmp_total other))

pub same-asked : (name : Labels) (kind : ℕ) (question : Question) → same_asked (asked_for name kind) question ≡ (same_name question.name name && question.kind == kind)
same-asked name kind question =
    then-eq (octets_cmp (octets (lower name)) (octets (lower question.name))) (nat_cmp kind question.kind)
    ∙ (λ i. same-names name question.name i && same-kinds kind question.kind i)

-- ---- two questions

module _ (now : ℕ) (h : HeardRr) (some : not (ttl_of h == 0) ≡ true) where
  abbrev one : Question
  one = asked_for h.rr.owner h.rr.kind

  abbrev any : Question
  any = asked_for h.rr.owner any_kind

  abbrev moment : ℕ
  moment = first_refresh now h

  abbrev low : Question × KeptAsks → Question × KeptAsks
  low e = (e.0, record e.1 { due = min e.1.due moment })

  once-more : (m n : ℕ) → min (min m n) n ≡ min m n
  once-more m n = omega arith

  -- by its name, its kind, and any kind
  abbrev by_tests : Question × KeptAsks → Bool → Bool → Question × KeptAsks
  by_tests e a b = let d : Question × KeptAsks = cond a (low e) e in cond b (low d) d

  entry : (e : Question × KeptAsks) (s a b : Bool) → by_tests e (s && a) (s && b) ≡ (e.0, record e.1 { due = cond ((s && (a || b)) && true) (min e.1.due moment) e.1.due })
  entry e false a b = refl
  entry e true true true = ap (λ n. (e.0, record e.1 { due = n })) (once-more e.1.due moment)
  entry e true true false = refl
  entry e true false true = refl
  entry e true false false = refl

  abbrev at_once : Question × KeptAsks → Question × KeptAsks
  at_once e = let d : Question × KeptAsks = cond (same_asked one e.0) (low e) e in cond (same_asked any d.0) (low d) d

  same-question : (e : Question × KeptAsks) (a : Bool) → (cond a (low e) e).0 ≡ e.0
  same-question e true = refl
  same-question e false = refl

  heard-entry : (e : Question × KeptAsks) → at_once e ≡ (e.0, record e.1 { due = lowered_due e.0 e.1.due h moment })
  heard-entry e =
      (λ i. let d : Question × KeptAsks = cond (same_asked one e.0) (low e) e in cond (same_asked any (same-question e (same_asked one e.0) i)) (low d) d)
      ∙ (λ i. by_tests e (same-asked h.rr.owner h.rr.kind e.0 i) (same-asked h.rr.owner any_kind e.0 i))
      ∙ entry e (same_name e.0.name h.rr.owner) (e.0.kind == h.rr.kind) (e.0.kind == any_kind)
      ∙ (λ i. (e.0, record e.1 { due = cond (is_asked_for e.0 h && sym some i) (min e.1.due moment) e.1.due }))

  twice : (kept : Kept) → lowered_for any moment (lowered_for one moment kept) ≡ heard_again now kept h
  twice [] = refl
  twice (e ∷ es) = λ i. heard-entry e i ∷ twice es i

pub heard-twice : (now : ℕ) (h : HeardRr) (kept : Kept) (soon : ℕ) → not (ttl_of h == 0) ≡ true → soon ≡ now + 800 * ttl_of h
    → lowered_for (asked_for h.rr.owner any_kind) soon (lowered_for (asked_for h.rr.owner h.rr.kind) soon kept) ≡ heard_again now kept h
heard-twice now h kept soon some is = ap (λ m. lowered_for (asked_for h.rr.owner any_kind) m (lowered_for (asked_for h.rr.owner h.rr.kind) m kept)) is ∙ twice now h some kept

pub is-some : (h : HeardRr) (ttl : ℕ) → ttl ≡ ttl_of h → (ttl ≡ 0 → ⊥) → not (ttl_of h == 0) ≡ true
is-some h ttl is some = subst (λ n. not (n == 0) ≡ true) is (other ttl some)
  where
    other : (n : ℕ) → (n ≡ 0 → ⊥) → not (n == 0) ≡ true
    other n some = grind (arith, some)

pub is-gone : (h : HeardRr) (ttl : ℕ) → ttl ≡ ttl_of h → ttl ≡ 0 → not (ttl_of h == 0) ≡ false
is-gone h ttl is none = subst (λ n. not (n == 0) ≡ false) (sym none ∙ is) refl

-- a goodbye lowers nothing
pub heard-gone : (now : ℕ) (h : HeardRr) (kept : Kept) → not (ttl_of h == 0) ≡ false → kept ≡ heard_again now kept h
heard-gone now h [] gone = refl
heard-gone now h (e ∷ es) gone = λ i. (e.0, record e.1 { due = by (is_asked_for e.0 h) (not (ttl_of h == 0)) gone i }) ∷ heard-gone now h es gone i
  where
    by : (a b : Bool) → b ≡ false → e.1.due ≡ cond (a && b) (min e.1.due (first_refresh now h)) e.1.due
    by a true g = absurd cc
    by true false g = refl
    by false false g = refl

-- ---- several records

unbounded-heard : (now : ℕ) (h : HeardRr) (kept : Kept) → unbounded (heard_again now kept h) ≡ unbounded kept
unbounded-heard now h [] = refl
unbounded-heard now h (e ∷ es) = ap (λ (l : Kept). (e.0, record e.1 { due = 0 }) ∷ l) (unbounded-heard now h es)

pub unbounded-all : (now : ℕ) (hs : List HeardRr) (kept : Kept) → unbounded (all_heard now hs kept) ≡ unbounded kept
unbounded-all now [] kept = refl
unbounded-all now (h ∷ hs) kept = unbounded-all now hs (heard_again now kept h) ∙ unbounded-heard now h kept
