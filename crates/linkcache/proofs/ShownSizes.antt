-- What a link shows of a name takes no more octets than an owner may.
use Rattle.std.proofs.Common.{◌≡◌, ℕ, ◌+◌, ◌≤◌, Bool, true, false, cond, [], ◌∷◌, fold, Option, Some, None, refl, sym, ap, ◌∙◌, arith}
use Rattle.std.specs.Prelude.{sum_by}
use Rattle.std.proofs.lemmas.List.Sums.{sum_by-cons}
use Rattle.push_base.specs.Limits.{max_octets_at_name}
use Rattle.dnsname.specs.Names.{Labels, lower, same_name}
use Rattle.dnsname.proofs.Decisions.{same_name-Decides}
use Rattle.rrset.specs.declared.record.Rr.{Rr}
use Rattle.rrset.specs.declared.record.Key.{Key}
use Rattle.rrset.specs.Records.{key_of, shown_of, rr_size}
use Rattle.rrset.specs.RecordSet.{RecordSet, put_rr, size_at}
use Rattle.rrset.proofs.LowerNames.{lower-twice}
use Rattle.rrset.proofs.Sizes.{size_if, size_of-only-put}
use Rattle.rrset.proofs.WithChanges.{both_ways}
use Rattle.linkmap.specs.Translation.{local, renamed}
use Rattle.reversemap.specs.BothKinds.{AreApart, shown_of as shown_by}
use Rattle.reversemap.proofs.UsedRecords.{shown-one, owners-alike}
use Rattle.linkcache.specs.declared.row.HeardRow.{HeardRow}
use Rattle.linkcache.specs.Rows.{LinkRows, rr_of_row, size_under, put_shown, shown_rows}
use Rattle.linkcache.specs.Sound.{IsLinkRow, AreLinkRows}
use Rattle.linkcache.specs.Within.{IsWithin}
use Rattle.linkcache.proofs.OwnerSizes.{row_size, size-cons}
use Rattle.linkcache.specs.declared.rules.LinkRules.{LinkRules}

-- the row's owner under the domain is the name
abbrev is_at : LinkRules → Labels → Key × HeardRow → Bool
is_at rules name row = same_name name (renamed local rules.domain row.1.shown.owner)

-- what a row adds at most to the octets of a name under the domain
abbrev adds : LinkRules → Labels → Key × HeardRow → ℕ
adds rules name row = cond (is_at rules name row) (row_size rules row) 0

-- what a record adds to the octets of a name
abbrev added : Labels → Rr → ℕ
added name rr = cond (same_name name rr.owner) (rr_size rr) 0

same_name-lower : (a b : Labels) → same_name a (lower b) ≡ same_name a b
same_name-lower a b = both_ways (same_name a (lower b)) (same_name a b)
    (λ e. (same_name-Decides a b).1 ((same_name-Decides a (lower b)).0 e ∙ lower-twice b))
    (λ e. (same_name-Decides a (lower b)).1 ((same_name-Decides a b).0 e ∙ sym (lower-twice b)))

one_more : (rules : LinkRules) (name : Labels) (set : RecordSet) (row : Key × HeardRow) → size_at name (put_shown rules set row) ≤ size_at name set + adds rules name row
one_more rules name set row = by (shown_by rules.domain rules.cap (rr_of_row row)) refl
  where
    by : (o : Option Rr) → shown_by rules.domain rules.cap (rr_of_row row) ≡ o → size_at name (elim o [ None ↦ set | Some rr ↦ put_rr set rr ]) ≤ size_at name set + adds rules name row
    by None is = omega arith
    by (Some rr) is =
        let put = size_of-only-put (λ key. same_name name key.owner) (key_of rr) (shown_of rr) set in
        let same : size_if (λ key. same_name name key.owner) (key_of rr) (shown_of rr) ≡ added name rr = ap (λ b. cond b (rr_size rr) 0) (same_name-lower name rr.owner) in
        let one : adds rules name row ≡ added name rr = ap (added name) (shown-one rules.domain rules.cap (rr_of_row row) rr is) in
        omega arith

all-more : (rules : LinkRules) (name : Labels) (rows : LinkRows) (set : RecordSet) → size_at name (fold (put_shown rules) set rows) ≤ size_at name set + sum_by (adds rules name) rows
all-more rules name [] set = omega arith
all-more rules name (row ∷ rows) set =
    let first = one_more rules name set row in
    let rest = all-more rules name rows (put_shown rules set row) in
    let sum = sum_by-cons (adds rules name) row rows in
    omega arith

-- ---- all rows at a name are of one owner

-- a row at the name
record At (rules : LinkRules) (name : Labels) : Type 0 where
  row : Key × HeardRow
  sound : IsLinkRow rules row
  is : is_at rules name row ≡ true

data Search (rules : LinkRules) (name : Labels) (rows : LinkRows) : Type 0 where
  none : sum_by (adds rules name) rows ≡ 0 → Search rules name rows
  some : At rules name → Search rules name rows

search_at : (rules : LinkRules) (name : Labels) (rows : LinkRows) → AreLinkRows rules rows → Search rules name rows
search_at rules name [] sound = none refl
search_at rules name (row ∷ rows) sound = by (is_at rules name row) refl (search_at rules name rows sound.1)
  where
    by : (b : Bool) → is_at rules name row ≡ b → Search rules name rows → Search rules name (row ∷ rows)
    by true is rest = some (record { row = row; sound = sound.0; is = is })
    by false is (none zero) =
        none (sum_by-cons (adds rules name) row rows ∙ (λ i. cond (is i) (row_size rules row) 0 + zero i))
    by false is (some at) = some at

one_owner : (rules : LinkRules) (name : Labels) (a b : Key × HeardRow) → AreApart rules.domain rules.reverses → IsLinkRow rules a → IsLinkRow rules b → is_at rules name a ≡ true → is_at rules name b ≡ true → same_name a.1.shown.owner b.0.owner ≡ true
one_owner rules name a b apart sound other first second =
    let alike : lower (renamed local rules.domain a.1.shown.owner) ≡ lower (renamed local rules.domain b.1.shown.owner) =
    sym ((same_name-Decides name (renamed local rules.domain a.1.shown.owner)).0 first) ∙ (same_name-Decides name (renamed local rules.domain b.1.shown.owner)).0 second in
    let owners = owners-alike rules.domain rules.reverses (rr_of_row a) (rr_of_row b) apart sound.usable other.usable alike in
    (same_name-Decides a.1.shown.owner b.0.owner).1 (owners ∙ sym (lower-twice b.1.shown.owner) ∙ ap (λ (k : Key). lower k.owner) other.key)

bounded : (rules : LinkRules) (name : Labels) → AreApart rules.domain rules.reverses → (at : At rules name) → (rows : LinkRows) → AreLinkRows rules rows → sum_by (adds rules name) rows ≤ size_under rules at.row.1.shown.owner rows
bounded rules name apart at [] sound = omega arith
bounded rules name apart at (row ∷ rows) sound = by (is_at rules name row) refl (bounded rules name apart at rows sound.1)
  where
    owner : Labels
    owner = at.row.1.shown.owner

    by : (b : Bool) → is_at rules name row ≡ b → sum_by (adds rules name) rows ≤ size_under rules owner rows → sum_by (adds rules name) (row ∷ rows) ≤ size_under rules owner (row ∷ rows)
    by true is rest =
        let sum = sum_by-cons (adds rules name) row rows in
        let all = size-cons rules owner row rows in
        let mine : adds rules name row ≡ row_size rules row = ap (λ b. cond b (row_size rules row) 0) is in
        let its : cond (same_name owner row.0.owner) (row_size rules row) 0 ≡ row_size rules row = ap (λ b. cond b (row_size rules row) 0) (one_owner rules name at.row row apart at.sound sound.0 at.is is) in
        omega arith
    by false is rest =
        let sum = sum_by-cons (adds rules name) row rows in
        let all = size-cons rules owner row rows in
        let mine : adds rules name row ≡ 0 = ap (λ b. cond b (row_size rules row) 0) is in
        omega arith

pub shown_fits : (rules : LinkRules) (rows : LinkRows) → AreApart rules.domain rules.reverses → AreLinkRows rules rows → IsWithin rules rows → (name : Labels) → size_at name (shown_rows rules rows) ≤ max_octets_at_name
shown_fits rules rows apart sound within name = by (search_at rules name rows sound)
  where
    by : Search rules name rows → size_at name (shown_rows rules rows) ≤ max_octets_at_name
    by (none zero) = let all = all-more rules name rows [] in omega arith
    by (some at) =
        let all = all-more rules name rows [] in
        let bound = bounded rules name apart at rows sound in
        let fits = within.owners at.row.1.shown.owner in
        omega arith
