-- One change by its class.
use Rattle.std.proofs.Common.{◌≡◌, Bool, true, false, ◌==◌, [], ◌∷◌, sym, ap, ◌∙◌, refl}
use Rattle.push_base.specs.Cases.{chosen}
use Rattle.dnsname.specs.Names.{Labels}
use Rattle.rrset.specs.Kinds.{in_class, any_class, none_class}
use Rattle.rrset.specs.RecordSet.{RecordSet}
use Rattle.rrset.specs.declared.record.Rr.{Rr}
use Rattle.zoneupdate.specs.Updates.{changed_by}
use Rattle.zoneupdate.specs.Changing.{has_other_kinds, has_alias, is_newer, is_last, replaced, rows_added, rows_taken, rows_dropped}

-- the rows after one change, by three tests of its class
abbrev pub by_class : Labels → RecordSet → Rr → Bool → Bool → Bool → RecordSet
by_class apex rows rr adds takes drops = chosen ((adds, rows_added rows rr) ∷ (takes, rows_taken apex rows rr) ∷ (drops, rows_dropped apex rows rr) ∷ []) rows

pub changed_by-class : (apex : Labels) (rows : RecordSet) (rr : Rr) → changed_by apex rows rr ≡ by_class apex rows rr (rr.class == in_class) (rr.class == any_class) (rr.class == none_class)
unfolding rows_added rows_taken rows_dropped has_other_kinds has_alias is_newer is_last replaced
changed_by-class apex rows rr = refl

pub adds : (apex : Labels) (rows : RecordSet) (rr : Rr) → (rr.class == in_class) ≡ true → rows_added rows rr ≡ changed_by apex rows rr
adds apex rows rr e = sym (changed_by-class apex rows rr ∙ ap (λ b. by_class apex rows rr b (rr.class == any_class) (rr.class == none_class)) e)

pub takes : (apex : Labels) (rows : RecordSet) (rr : Rr) → (rr.class == in_class) ≡ false → (rr.class == any_class) ≡ true → rows_taken apex rows rr ≡ changed_by apex rows rr
takes apex rows rr e f = sym (changed_by-class apex rows rr ∙ (λ i. by_class apex rows rr (e i) (f i) (rr.class == none_class)))

pub drops : (apex : Labels) (rows : RecordSet) (rr : Rr) → (rr.class == in_class) ≡ false → (rr.class == any_class) ≡ false → (rr.class == none_class) ≡ true → rows_dropped apex rows rr ≡ changed_by apex rows rr
drops apex rows rr e f g = sym (changed_by-class apex rows rr ∙ (λ i. by_class apex rows rr (e i) (f i) (g i)))

-- no change that is made has another class
pub leaves : (apex : Labels) (rows : RecordSet) (rr : Rr) → (rr.class == in_class) ≡ false → (rr.class == any_class) ≡ false → (rr.class == none_class) ≡ false → rows ≡ changed_by apex rows rr
leaves apex rows rr e f g = sym (changed_by-class apex rows rr ∙ (λ i. by_class apex rows rr (e i) (f i) (g i)))
