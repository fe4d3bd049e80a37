-- Records that are used, of whichever kind: one form for both.
--     UsedParts domain rr, used-parts      what is known of each
--     FitsUnder domain rr, used-fits      its class, and that its names fit under the domain
--     used-local, used-reverse      which kind it is, the owner tells
--     used-alone      a link without reverse domains uses its own records alone
--     translated cap domain rr, shown-one      what is shown of a record is its translation with a TTL of at most the cap
--     shown-local, shown-reverse      what each kind is shown as
--     size-one      under a reverse domain it has the size of its translation
--     owners-alike      owners whose translations are one are one
--     shown-names      what is shown lies under the link's domain or a reverse domain
use Rattle.std.proofs.Common.{◌≡◌, ℕ, Bool, true, false, cond, not, ◌&&◌, ◌||◌, List, [], ◌∷◌, length, Option, Some, None, refl, sym, ap, ◌∙◌, arith}
use Rattle.std.specs.Prelude.{min, option_map, ◌==◌}
use Rattle.std.specs.List.{list_any, list_all}
use Rattle.dnsname.specs.Names.{Labels, lower, ends_in}
use Rattle.dnsname.proofs.Decisions.{and_true, ends_in-Decides}
use Rattle.rrset.specs.Kinds.{in_class, nsec_kind, is_meta}
use Rattle.rrset.specs.Records.{rr_size}
use Rattle.rrset.specs.Rdata.{rdata_names}
use Rattle.rrset.specs.declared.record.Rr.{Rr}
use Rattle.linkmap.specs.Translation.{local, renamed, renamed_rr, fits_a_name, names_fit, is_translatable, is_usable, is_link_local, shown_as, lessened}
use Rattle.linkmap.proofs.Suffixes.{renamed-other, renamed_ends, both_renamed, ends-as}
use Rattle.linkmap.proofs.Shown.{not_true}
use Rattle.reversemap.specs.Reverse.{is_under, is_reverse_usable, reverse_shown_as}
use Rattle.reversemap.specs.BothKinds.{AreApart, is_used, capped, shown_of}
use Rattle.reversemap.proofs.KindsApart.{owners-apart}
use Rattle.reversemap.proofs.RdataKeys.{usable-reverse}

-- ---- which kind it is

-- whatever its owner
pub record UsedParts (domain : Labels) (rr : Rr) : Type 0 where
  pub kinds : (rr.class == in_class && not (rr.kind == nsec_kind) && not (is_meta rr.kind)) ≡ true
  pub names : is_translatable local domain rr ≡ true

parts-of : (domain : Labels) (rr : Rr) (owned : Bool) → ((rr.class == in_class && not (rr.kind == nsec_kind) && not (is_meta rr.kind) && owned) && is_translatable local domain rr) ≡ true → UsedParts domain rr
parts-of domain rr owned e =
    let both = and_true (rr.class == in_class && not (rr.kind == nsec_kind) && not (is_meta rr.kind) && owned) (is_translatable local domain rr) e in
    record { kinds = (and_true (rr.class == in_class && not (rr.kind == nsec_kind) && not (is_meta rr.kind)) owned both.0).0; names = both.1 }

pub used-parts : (domain : Labels) (reverses : List Labels) (rr : Rr) → is_used domain reverses rr ≡ true → UsedParts domain rr
used-parts domain reverses rr used = by (is_usable domain rr) refl used
  where
    by : (b : Bool) → is_usable domain rr ≡ b → (b || is_reverse_usable domain reverses rr) ≡ true → UsedParts domain rr
    by true is e = parts-of domain rr (ends_in rr.owner local) is
    by false is e = parts-of domain rr (is_under reverses rr.owner) e

pub record FitsUnder (domain : Labels) (rr : Rr) : Type 0 where
  pub class : (rr.class == in_class) ≡ true
  pub no_meta : is_meta rr.kind ≡ false
  pub none : list_any (λ name. ends_in name domain) (rdata_names rr.kind rr.rdata) ≡ false
  pub fit : list_all (λ name. fits_a_name (renamed local domain name)) (rdata_names rr.kind rr.rdata) ≡ true
  pub owner_fits : fits_a_name (renamed local domain rr.owner) ≡ true

pub used-fits : (domain : Labels) (reverses : List Labels) (rr : Rr) → is_used domain reverses rr ≡ true → FitsUnder domain rr
used-fits domain reverses rr used =
    let parts = used-parts domain reverses rr used in
    let meta = and_true (rr.class == in_class && not (rr.kind == nsec_kind)) (not (is_meta rr.kind)) parts.kinds in
    let fit = and_true (not (list_any (λ name. ends_in name domain) (rdata_names rr.kind rr.rdata))) (names_fit local domain rr) parts.names in
    let names = and_true (fits_a_name (renamed local domain rr.owner)) (list_all (λ name. fits_a_name (renamed local domain name)) (rdata_names rr.kind rr.rdata)) fit.1 in
    record {
      class = (and_true (rr.class == in_class) (not (rr.kind == nsec_kind)) meta.0).0;
      no_meta = not_true (is_meta rr.kind) meta.1;
      none = not_true _ fit.0;
      fit = names.1;
      owner_fits = names.0;
    }

pub used-local : (domain : Labels) (reverses : List Labels) (rr : Rr) → is_used domain reverses rr ≡ true → ends_in rr.owner local ≡ true → is_usable domain rr ≡ true
used-local domain reverses rr used here = let parts = used-parts domain reverses rr used in (λ i. (parts.kinds i && here i) && parts.names i)

pub used-reverse : (domain : Labels) (reverses : List Labels) (rr : Rr) → is_used domain reverses rr ≡ true → ends_in rr.owner local ≡ false → is_reverse_usable domain reverses rr ≡ true
used-reverse domain reverses rr used other = by (is_usable domain rr) refl used
  where
    by : (b : Bool) → is_usable domain rr ≡ b → (b || is_reverse_usable domain reverses rr) ≡ true → is_reverse_usable domain reverses rr ≡ true
    by false is e = e
    by true is e =
        let all = and_true (rr.class == in_class && not (rr.kind == nsec_kind) && not (is_meta rr.kind) && ends_in rr.owner local) (is_translatable local domain rr) is in
        let here = and_true (rr.class == in_class && not (rr.kind == nsec_kind) && not (is_meta rr.kind)) (ends_in rr.owner local) all.0 in
        let wrong : true ≡ false = sym here.1 ∙ other in
        absurd cc

-- a link without reverse domains uses its own records alone
pub used-alone : (domain : Labels) (reverses : List Labels) (rr : Rr) → is_used domain reverses rr ≡ true → length reverses ≡ 0 → ends_in rr.owner local ≡ true
used-alone domain (reverse ∷ reverses) rr used none = absurd (omega (arith, none))
used-alone domain [] rr used none = by (ends_in rr.owner local) refl
  where
    by : (b : Bool) → ends_in rr.owner local ≡ b → b ≡ true
    by true is = refl
    by false is = let under = (usable-reverse domain [] rr (used-reverse domain [] rr used is)).owner in absurd cc

-- ---- what is shown

abbrev pub translated : ℕ → Labels → Rr → Rr
translated cap domain rr = record (renamed_rr local domain rr) { ttl = min cap rr.ttl }

-- the owner under a reverse domain is its own translation
reverse-is : (domain : Labels) (cap : ℕ) (rr : Rr) → ends_in rr.owner local ≡ false → translated cap domain rr ≡ reverse_shown_as domain cap rr
reverse-is domain cap rr other = (λ i. record (reverse_shown_as domain cap rr) { owner = renamed-other local domain rr.owner other i })

pub shown-one : (domain : Labels) (cap : ℕ) (rr shown : Rr) → shown_of domain cap rr ≡ Some shown → translated cap domain rr ≡ shown
shown-one domain cap rr shown e = by (ends_in rr.owner local) (is_link_local rr) refl e
  where
    by : (a b : Bool) → ends_in rr.owner local ≡ a → cond {A = Option Rr} a (option_map (capped cap) (cond {A = Option Rr} b None (Some (renamed_rr local domain rr)))) (Some (reverse_shown_as domain cap rr)) ≡ Some shown
        → translated cap domain rr ≡ shown
    by true true is f = absurd cc
    by true false is f = cc
    by false b is f = reverse-is domain cap rr is ∙ cc

pub shown-local : (domain : Labels) (cap : ℕ) (rr : Rr) → ends_in rr.owner local ≡ true → shown_as domain (lessened cap rr) ≡ shown_of domain cap rr
shown-local domain cap rr here =
    by (is_link_local rr)
    ∙ sym (ap (λ (a : Bool). cond {A = Option Rr} a (option_map (capped cap) (shown_as domain rr)) (Some (reverse_shown_as domain cap rr))) here)
  where
    by : (b : Bool) → cond {A = Option Rr} b None (Some (renamed_rr local domain (lessened cap rr))) ≡ option_map (capped cap) (cond {A = Option Rr} b None (Some (renamed_rr local domain rr)))
    by true = refl
    by false = let turned : min rr.ttl cap ≡ min cap rr.ttl = omega arith in ap (λ (n : ℕ). Some (record (renamed_rr local domain rr) { ttl = n })) turned

pub shown-reverse : (domain : Labels) (cap : ℕ) (rr : Rr) → ends_in rr.owner local ≡ false → Some (reverse_shown_as domain cap rr) ≡ shown_of domain cap rr
shown-reverse domain cap rr other = sym (ap (λ (a : Bool). cond {A = Option Rr} a (option_map (capped cap) (shown_as domain rr)) (Some (reverse_shown_as domain cap rr))) other)

pub size-one : (domain : Labels) (cap : ℕ) (rr : Rr) → ends_in rr.owner local ≡ false → rr_size (reverse_shown_as domain cap rr) ≡ rr_size (renamed_rr local domain rr)
size-one domain cap rr other = sym (ap rr_size (reverse-is domain cap rr other))

-- ---- under which name

-- owners of two kinds have no translation together
mixed : (domain : Labels) (reverses : List Labels) (rr other : Rr) → AreApart domain reverses → is_used domain reverses other ≡ true → ends_in rr.owner local ≡ true → ends_in other.owner local ≡ false
    → lower (renamed local domain rr.owner) ≡ lower (renamed local domain other.owner) → ⊥
mixed domain reverses rr other apart useful here there same =
    let under : ends_in (renamed local domain rr.owner) domain ≡ true = (ends_in-Decides (renamed local domain rr.owner) domain).1 (renamed_ends local domain rr.owner here) in
    let outside = (owners-apart domain reverses other.owner apart (usable-reverse domain reverses other (used-reverse domain reverses other useful there)).owner).1 in
    let wrong : true ≡ false =
    sym under ∙ ends-as (renamed local domain rr.owner) (renamed local domain other.owner) domain same ∙ ap (λ (name : Labels). ends_in name domain) (renamed-other local domain other.owner there) ∙ outside in
    absurd cc

pub owners-alike : (domain : Labels) (reverses : List Labels) (rr other : Rr) → AreApart domain reverses → is_used domain reverses rr ≡ true → is_used domain reverses other ≡ true
    → lower (renamed local domain rr.owner) ≡ lower (renamed local domain other.owner) → lower rr.owner ≡ lower other.owner
owners-alike domain reverses rr other apart used useful same = by (ends_in rr.owner local) (ends_in other.owner local) refl refl
  where
    by : (a b : Bool) → ends_in rr.owner local ≡ a → ends_in other.owner local ≡ b → lower rr.owner ≡ lower other.owner
    by true true p q = both_renamed local domain rr.owner other.owner p q same
    by true false p q = absurd (mixed domain reverses rr other apart useful p q same)
    by false true p q = absurd (mixed domain reverses other rr apart used q p (sym same))
    by false false p q = ap lower (sym (renamed-other local domain rr.owner p)) ∙ same ∙ ap lower (renamed-other local domain other.owner q)

or-right : (a b : Bool) → b ≡ true → (a || b) ≡ true
or-right true b e = refl
or-right false b e = e

pub shown-names : (domain : Labels) (reverses : List Labels) (cap : ℕ) (rr shown : Rr) → is_used domain reverses rr ≡ true → shown_of domain cap rr ≡ Some shown → is_under (domain ∷ reverses) shown.owner ≡ true
shown-names domain reverses cap rr shown used e = ap (λ (x : Rr). is_under (domain ∷ reverses) x.owner) (sym (shown-one domain cap rr shown e)) ∙ by (ends_in rr.owner local) refl
  where
    by : (a : Bool) → ends_in rr.owner local ≡ a → is_under (domain ∷ reverses) (translated cap domain rr).owner ≡ true
    by true is = ap (λ (b : Bool). b || is_under reverses (translated cap domain rr).owner) ((ends_in-Decides (translated cap domain rr).owner domain).1 (renamed_ends local domain rr.owner is))
    by false is =
        ap (is_under (domain ∷ reverses)) (renamed-other local domain rr.owner is)
        ∙ or-right (ends_in rr.owner domain) (is_under reverses rr.owner) (usable-reverse domain reverses rr (used-reverse domain reverses rr used is)).owner
