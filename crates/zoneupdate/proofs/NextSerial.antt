-- When the serial rises.
use Rattle.std.proofs.Common.{◌≡◌, Bool, true, false, cond, not, ◌||◌, map, fold, sym, ap, ◌∙◌, refl}
use Rattle.std.specs.List.{list_all}
use Rattle.dnsname.specs.Names.{Labels}
use Rattle.rrset.specs.RecordSet.{RecordSet, put_rr, without, at_name, is_of_rrset, same_rows, shows_its_key, union}
use Rattle.zoneupdate.specs.Zones.{set_at}
use Rattle.zoneupdate.specs.Checking.{is_of_kind}
use Rattle.zoneupdate.specs.Changing.{risen_entry}
use Rattle.zoneupdate.specs.Updates.{risen_soa, with_risen_serial}
use Rattle.zoneupdate.proofs.KindSets.{set_at-named}
use Rattle.zoneupdate.proofs.SomeAndAll.{all-filter, all_itself}
use Rattle.zoneupdate.proofs.RisenEntry.{risen-put_all}

-- the rows with the next serial
abbrev pub risen : Labels → RecordSet → RecordSet
risen apex new = fold put_rr (without (is_of_rrset apex 1 6) new) (map risen_soa (set_at apex 6 new))

pub by_tests : (apex : Labels) (old new : RecordSet) (same stays : Bool) → same_rows old new ≡ same → same_rows (set_at apex 6 old) (set_at apex 6 new) ≡ stays
    → with_risen_serial apex old new ≡ cond (same || not stays) new (risen apex new)
by_tests apex old new same stays e f =
    ap (λ b. cond (b || not (same_rows (set_at apex 6 old) (set_at apex 6 new))) new (risen apex new)) e ∙ ap (λ b. cond (same || not b) new (risen apex new)) f

pub nothing_changed : (apex : Labels) (old new : RecordSet) → same_rows old new ≡ true → new ≡ with_risen_serial apex old new
nothing_changed apex old new e = sym (by_tests apex old new true _ e refl)

pub soa_changed : (apex : Labels) (old new : RecordSet) → same_rows old new ≡ false → same_rows (set_at apex 6 old) (set_at apex 6 new) ≡ false → new ≡ with_risen_serial apex old new
soa_changed apex old new e f = sym (by_tests apex old new false false e f)

pub rises : (apex : Labels) (old new : RecordSet) → same_rows old new ≡ false → same_rows (set_at apex 6 old) (set_at apex 6 new) ≡ true → risen apex new ≡ with_risen_serial apex old new
rises apex old new e f = sym (by_tests apex old new false true e f)

-- ---- what a test of the records of the apex says

pub tested : (a b x y : RecordSet) (r s : Bool) → a ≡ x → b ≡ y → r ≡ same_rows a b → r ≡ s → same_rows x y ≡ s
tested a b x y r s e f is test = sym (ap (λ l. same_rows l y) e) ∙ sym (ap (λ l. same_rows a l) f) ∙ sym is ∙ test

pub same_soas : (apex : Labels) (old new a b : RecordSet) (r s : Bool) → a ≡ old → b ≡ new → r ≡ same_rows (set_at apex 6 a) (set_at apex 6 b) → r ≡ s
    → same_rows (set_at apex 6 old) (set_at apex 6 new) ≡ s
same_soas apex old new a b r s e f is test = tested (set_at apex 6 a) (set_at apex 6 b) (set_at apex 6 old) (set_at apex 6 new) r s (ap (set_at apex 6) e) (ap (set_at apex 6) f) is test

pub put_soas : (apex : Labels) (old new rest entries soas : RecordSet) → list_all shows_its_key new ≡ true → same_rows old new ≡ false → same_rows (set_at apex 6 old) (set_at apex 6 new) ≡ true
    → rest ≡ without (is_of_rrset apex 1 6) new → entries ≡ new → soas ≡ map risen_entry (set_at apex 6 entries) → union rest soas ≡ with_risen_serial apex old new
put_soas apex old new rest entries soas shows e f taken is_new are =
    let kinds : list_all (λ x. is_of_kind 6 x.0) (set_at apex 6 new) ≡ true = ap (list_all (λ x. is_of_kind 6 x.0)) (set_at-named apex 6 new) ∙ all_itself (λ x. is_of_kind 6 x.0) (at_name apex new) in
    (λ i. union (taken i) ((are ∙ ap (λ (l : RecordSet). map risen_entry (set_at apex 6 l)) is_new) i))
    ∙ risen-put_all (set_at apex 6 new) (without (is_of_rrset apex 1 6) new) (all-filter shows_its_key (λ x. is_of_rrset apex 1 6 x.0) new shows) kinds
    ∙ rises apex old new e f
