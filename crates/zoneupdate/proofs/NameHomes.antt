-- The home of a name: names that are one have one home, and zones of other names are not it.
use Rattle.std.proofs.Common.{◌≡◌, Bool, true, false, List, Option, Some, None, refl, sym, ap, ◌∙◌}
use Rattle.dnsname.specs.Names.{Labels, same_name, ends_in, home, longest}
use Rattle.dnsname.proofs.Suffixes.{ends_in-for}
use Rattle.zoneupdate.specs.Zones.{is_inside}
use Rattle.zoneupdate.proofs.Filters.{same_truth, filter_same}
use Rattle.zoneupdate.proofs.Owners.{same_name-back, same_name-on}

pub home-for : (homes : List Labels) (a b : Labels) → same_name a b ≡ true → home homes a ≡ home homes b
home-for homes a b same = ap longest (filter_same (λ h. ends_in a h) (λ h. ends_in b h) (λ h. same_truth (ends_in a h) (ends_in b h) (ends_in-for a b h same) (ends_in-for b a h (same_name-back a b same))) homes)

-- ---- whether a zone is the home

abbrev pub is_home : Labels → Option Labels → Bool
is_home apex None = false
is_home apex (Some h) = same_name h apex

pub is_inside-home : (homes : List Labels) (apex name : Labels) → is_inside homes apex name ≡ is_home apex (home homes name)
is_inside-home homes apex name = by (home homes name)
  where
    by : (o : Option Labels) → elim o [ None ↦ Bool.false | Some h ↦ same_name h apex ] ≡ is_home apex o
    by None = refl
    by (Some h) = refl

pub is_inside-for : (homes : List Labels) (apex a b : Labels) → same_name a b ≡ true → is_inside homes apex a ≡ is_inside homes apex b
is_inside-for homes apex a b same = is_inside-home homes apex a ∙ ap (is_home apex) (home-for homes a b same) ∙ sym (is_inside-home homes apex b)

-- a name lies in one of two homes with other names alone
pub inside-one : (homes : List Labels) (a b name : Labels) → same_name a b ≡ false → is_inside homes a name ≡ true → is_inside homes b name ≡ false
inside-one homes a b name apart e = is_inside-home homes b name ∙ by (home homes name) (sym (is_inside-home homes a name) ∙ e)
  where
    with_both : (h : Labels) (t : Bool) → same_name h a ≡ true → same_name h b ≡ t → t ≡ false
    with_both h false is other = refl
    with_both h true is other = sym (same_name-on a h b (same_name-back h a is) other) ∙ apart

    by : (o : Option Labels) → is_home a o ≡ true → is_home b o ≡ false
    by None is = cc
    by (Some h) is = with_both h (same_name h b) is refl
