-- Tests of a record set by the records of one name.
use Rattle.std.proofs.Common.{◌≡◌, ℕ, suc, Bool, true, false, cond, not, ◌&&◌, ◌==◌, List, [], ◌∷◌, length, Option, Some, None, is_some, refl, sym, ap, ◌∙◌, arith}
use Rattle.std.specs.Prelude.{option_and_then}
use Rattle.std.specs.List.{list_any}
use Rattle.std.proofs.lemmas.Bool.Decides.{nat_tests}
use Rattle.push_base.specs.Cases.{is_empty}
use Rattle.dnsname.specs.Names.{Labels, same_name}
use Rattle.rrset.specs.Records.{key_of, same_key}
use Rattle.rrset.specs.RecordSet.{RecordSet, only, at_name, shown_at, is_of_rrset}
use Rattle.rrset.proofs.Sets.{shown_at-only}
use Rattle.rrset.specs.declared.record.Rr.{Rr}
use Rattle.rrset.specs.declared.record.Key.{Key}
use Rattle.rrset.specs.declared.record.Shown.{Shown}
use Rattle.zoneupdate.specs.Zones.{first_shown, serial_of}
use Rattle.zoneupdate.specs.Updates.{as_class_in, is_only}
use Rattle.zoneupdate.specs.Changing.{serial_at, has_other_kinds, has_alias, newer_than, is_newer, is_last}
use Rattle.zoneupdate.proofs.Filters.{filter_same, filter_twice, filter_swap}
use Rattle.zoneupdate.proofs.Owners.{same_name-lower}
use Rattle.zoneupdate.proofs.KindSets.{any-only}

-- a part of a part
pub only-only : (p q r : Key → Bool) → ((k : Key) → (p k && q k) ≡ r k) → (rows : RecordSet) → only q (only p rows) ≡ only r rows
only-only p q r both rows =
    filter_swap (λ e. q e.0) (λ e. p e.0) rows ∙ filter_twice (λ e. p e.0) (λ e. q e.0) rows ∙ filter_same (λ e. p e.0 && q e.0) (λ e. r e.0) (λ e. both e.0) rows

-- some record of a name passes
pub any-at_name : (owner : Labels) (q r : Key → Bool) → ((k : Key) → (same_name owner k.owner && q k) ≡ r k) → (rows : RecordSet) → list_any (λ e. q e.0) (at_name owner rows) ≡ not (is_empty (only r rows))
any-at_name owner q r both rows = any-only q (at_name owner rows) ∙ ap (λ l. not (is_empty l)) (only-only (λ k. same_name owner k.owner) q r both rows)

-- the records of a name and kind are among those of the name
pub of_rrset-at_name : (owner : Labels) (class kind : ℕ) (k : Key) → (same_name owner k.owner && is_of_rrset owner class kind k) ≡ is_of_rrset owner class kind k
of_rrset-at_name owner class kind k = by (same_name owner k.owner)
  where
    by : (b : Bool) → (b && (b && class == k.class && kind == k.kind)) ≡ (b && class == k.class && kind == k.kind)
    by true = refl
    by false = refl

pub set-at_name : (owner : Labels) (class kind : ℕ) (rows : RecordSet) → only (is_of_rrset owner class kind) (at_name owner rows) ≡ only (is_of_rrset owner class kind) rows
set-at_name owner class kind rows = only-only (λ k. same_name owner k.owner) (is_of_rrset owner class kind) (is_of_rrset owner class kind) (of_rrset-at_name owner class kind) rows

-- the name has records of other kinds
pub other_kinds-at_name : (rows : RecordSet) (owner : Labels) (kind : ℕ) → list_any (λ e. not (e.0.kind == kind)) (at_name owner rows) ≡ has_other_kinds rows owner kind
unfolding has_other_kinds
other_kinds-at_name rows owner kind = any-at_name owner (λ k. not (k.kind == kind)) (λ k. same_name owner k.owner && not (k.kind == kind)) (λ k. refl) rows

-- the name is an alias
pub alias-at_name : (rows : RecordSet) (owner : Labels) → list_any (λ e. is_of_rrset owner 1 5 e.0) (at_name owner rows) ≡ has_alias rows owner
unfolding has_alias
alias-at_name rows owner = any-at_name owner (is_of_rrset owner 1 5) (is_of_rrset owner 1 5) (of_rrset-at_name owner 1 5) rows

-- the first SOA of a name
pub newer-at_name : (rows entries : RecordSet) (owner : Labels) (rdata : List ℕ) → entries ≡ at_name owner rows → newer_than rdata (first_shown (only (is_of_rrset owner 1 6) entries)) ≡ is_newer rows owner rdata
unfolding is_newer
newer-at_name rows entries owner rdata e = ap (λ l. newer_than rdata (first_shown l)) (ap (only (is_of_rrset owner 1 6)) e ∙ set-at_name owner 1 6 rows)

abbrev pub serial_shown : Option Shown → Option ℕ
serial_shown o = option_and_then (λ shown. serial_of shown.rdata) o

pub serial-at_name : (rows entries : RecordSet) (owner : Labels) → entries ≡ at_name owner rows → serial_shown (first_shown (only (is_of_rrset owner 1 6) entries)) ≡ serial_at owner rows
serial-at_name rows entries owner e = ap (λ l. serial_shown (first_shown l)) (ap (only (is_of_rrset owner 1 6)) e ∙ set-at_name owner 1 6 rows)

-- ---- the first of a list that is gone through

abbrev pub first_of : (Key → Bool) → RecordSet → Option Shown
first_of p rows = first_shown (only p rows)

-- ---- the only record of a name and kind

-- a set with one record has a key where it shows something of it
one-shown : (key : Key) (set : RecordSet) (rr : Rr) → key_of rr ≡ key → is_only rr set ≡ ((length set == 1) && is_some (shown_at key set))
one-shown key [] rr e = refl
one-shown key (x ∷ []) rr e = ap (λ k. same_key k x.0) e ∙ by (same_key key x.0)
  where
    by : (b : Bool) → b ≡ is_some (cond b (Some x.1) None)
    by true = refl
    by false = refl
one-shown key (x ∷ y ∷ set) rr e =
    let many : (suc (suc (length set)) == 1) ≡ false = grind (arith, nat_tests) in
    sym (ap (λ b. b && is_some (shown_at key (x ∷ y ∷ set))) many)

of_its_rrset : (rr : Rr) → rr.kind ≡ 2 → is_of_rrset rr.owner 1 2 (key_of (as_class_in rr)) ≡ true
of_its_rrset rr e = ap (λ b. b && 1 == 1 && 2 == rr.kind) (same_name-lower rr.owner) ∙ ap (λ n. 2 == n) e

pub last-at_name : (rows entries : RecordSet) (rr : Rr) (key : Key) → rr.kind ≡ 2 → key ≡ key_of (as_class_in rr) → entries ≡ at_name rr.owner rows
    → ((length (only (is_of_rrset rr.owner 1 2) entries) == 1) && is_some (shown_at key rows)) ≡ is_last rows rr
unfolding is_last
last-at_name rows entries rr key kind e there =
    let p = is_of_rrset rr.owner 1 2 in
    let passes : p key ≡ true = ap p e ∙ of_its_rrset rr kind in
    let shown : shown_at key (only p rows) ≡ shown_at key rows = shown_at-only p key rows ∙ ap (λ b. cond b (shown_at key rows) None) passes in
    ap (λ l. (length l == 1) && is_some (shown_at key rows)) (ap (only p) there ∙ set-at_name rr.owner 1 2 rows)
    ∙ ap (λ o. (length (only p rows) == 1) && is_some o) (sym shown)
    ∙ sym (one-shown key (only p rows) (as_class_in rr) (sym e))
