-- Rows of one owner: it has as many octets under the domain in each of them.
use Rattle.std.proofs.Common.{◌≡◌, Bool, true, false, cond, [], ◌∷◌, length, refl, sym, ap, ◌∙◌}
use Rattle.std.specs.List.{AllByRecursion, filter}
use Rattle.dnsname.specs.Names.{Labels, octets, lower, same_name}
use Rattle.dnsname.proofs.Decisions.{same_name-Decides}
use Rattle.dnsname.proofs.Endings.{length-lower}
use Rattle.rrset.specs.declared.record.Key.{Key}
use Rattle.rrset.proofs.LowerNames.{lower-twice}
use Rattle.linkmap.specs.Translation.{local, renamed}
use Rattle.linkmap.proofs.Suffixes.{renamed_alike}
use Rattle.linkcache.specs.declared.row.HeardRow.{HeardRow}
use Rattle.linkcache.specs.declared.rules.LinkRules.{LinkRules}
use Rattle.linkcache.specs.Rows.{LinkRows}
use Rattle.linkcache.specs.Sound.{IsLinkRow}

abbrev pub AreOf : Labels → LinkRows → Type 0
AreOf owner rows = AllByRecursion (λ row. same_name owner row.0.owner ≡ true) rows

pub all-of : (owner : Labels) (rows : LinkRows) → AreOf owner (filter (λ row. same_name owner row.0.owner) rows)
all-of owner [] = tt
all-of owner (row ∷ rows) = by (same_name owner row.0.owner) refl (all-of owner rows)
  where
    by : (b : Bool) → same_name owner row.0.owner ≡ b → AreOf owner (filter (λ row. same_name owner row.0.owner) rows) → AreOf owner (cond b (row ∷ filter (λ row. same_name owner row.0.owner) rows) (filter (λ row. same_name owner row.0.owner) rows))
    by true is rest = (is, rest)
    by false is rest = rest

-- names that are one but for case are of one size under the domain
pub owner-octets : (rules : LinkRules) (owner : Labels) (row : Key × HeardRow) → IsLinkRow rules row → same_name owner row.0.owner ≡ true
    → length (octets (renamed local rules.domain owner)) ≡ length (octets (renamed local rules.domain row.1.shown.owner))
owner-octets rules owner row sound is =
    let low : lower owner ≡ lower row.1.shown.owner = (same_name-Decides owner row.0.owner).0 is ∙ ap (λ (k : Key). lower k.owner) (sym sound.key) ∙ lower-twice row.1.shown.owner in
    sym (length-lower (renamed local rules.domain owner))
    ∙ ap (λ (n : Labels). length (octets n)) (renamed_alike local rules.domain owner row.1.shown.owner low)
    ∙ length-lower (renamed local rules.domain row.1.shown.owner)
