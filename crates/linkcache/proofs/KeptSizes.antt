-- How many rows there are, and how many octets of an owner, kept along while records are heard.
use Rattle.std.proofs.Common.{◌≡◌, ℕ, suc, ◌+◌, Bool, true, false, cond, ◌&&◌, ◌≤◌, [], map, length, nat_lt, Option, Some, None, is_some, refl, sym, ap, subst, ◌∙◌, arith}
use Rattle.std.specs.Prelude.{IfSome}
use Rattle.std.proofs.lemmas.Bool.{le-leb}
use Rattle.std.proofs.lemmas.Bool.Decides.{nat_tests}
use Rattle.std.proofs.lemmas.List.{length-map}
use Rattle.dnsname.specs.Names.{Labels, lower, same_name}
use Rattle.dnsname.proofs.Decisions.{same_name-Decides}
use Rattle.rrset.specs.declared.record.Key.{Key}
use Rattle.rrset.specs.declared.record.HeardRr.{HeardRr}
use Rattle.rrset.specs.Records.{key_of, same_key, rr_size}
use Rattle.rrset.specs.KeyedRows.{Rows, put_row, row_at}
use Rattle.rrset.specs.Tables.{counted}
use Rattle.rrset.proofs.LowerNames.{lower-twice}
use Rattle.rrset.proofs.SameRows.{same_key-same, same_key-self}
use Rattle.linkmap.specs.Translation.{local, renamed_rr}
use Rattle.linkmap.proofs.OneSize.{size_as_one}
use Rattle.linkcache.specs.declared.row.HeardRow.{HeardRow}
use Rattle.linkcache.specs.declared.rules.LinkRules.{LinkRules}
use Rattle.linkcache.specs.Rows.{LinkRows, rr_of_row, max_rows, ending_by, has_key, size_under, heard_at}
use Rattle.linkcache.specs.Sound.{AreLinkRows}
use Rattle.linkcache.specs.Taking.{owner_key, IsTaken}
use Rattle.linkcache.proofs.KeyedParts.{Rising, row_at-put}
use Rattle.linkcache.proofs.HeardSteps.{has-found}
use Rattle.linkcache.proofs.LaidSizes.{adds, length-absent}
use Rattle.linkcache.proofs.OwnerSizes.{row_size, size_if, size-alike, size-ending, replaces, found-key, found-row}

none-of : (o : Option HeardRow) → is_some o ≡ false → o ≡ None
none-of None e = refl
none-of (Some row) e = absurd cc

module _ (rules : LinkRules) where
  -- octets of an owner that are kept
  abbrev Kept : LinkRows → Rows ℕ → Labels → Type 0
  Kept work sizes q = IfSome (row_at (owner_key q) sizes) (λ size. size ≡ counted (size_under rules q work))

  -- nothing is kept of the owners yet
  pub none-taken : (work : LinkRows) (count : ℕ) (sizes : Rows ℕ) → count ≡ length work → sizes ≡ [] → IsTaken rules work count sizes
  none-taken work count sizes count-is sizes-are = subst (λ (s : Rows ℕ). IsTaken rules work count s) (sym sizes-are) (record { counts = count-is; sized = λ owner. tt })

  -- rows whose ends alone change
  pub taken-ended : (test : Key × HeardRow → Bool) (moment : ℕ) (work : LinkRows) (count : ℕ) (sizes : Rows ℕ) → IsTaken rules work count sizes → IsTaken rules (map (λ row. cond (test row) (ending_by moment row) row) work) count sizes
  taken-ended test moment work count sizes taken = record {
    counts = taken.counts ∙ sym (length-map work (λ (row : Key × HeardRow). cond (test row) (ending_by moment row) row));
    sized = λ owner. subst (λ n. IfSome (row_at (owner_key owner) sizes) (λ size. size ≡ counted n)) (sym (size-ending rules owner test moment work)) (taken.sized owner);
  }

  -- a record heard again
  pub taken-again : (now : ℕ) (work : LinkRows) (h : HeardRr) (count : ℕ) (sizes : Rows ℕ) → Rising work → AreLinkRows rules work → has_key (key_of h.rr) work ≡ true → IsTaken rules work count sizes
      → IsTaken rules (put_row (key_of h.rr) (heard_at now h) work) count sizes
  taken-again now work h count sizes rising sound there taken =
      let k = key_of h.rr in
      let found = found-row k work there in
      let same = size_as_one rules.domain (rr_of_row (k, heard_at now h)) (rr_of_row (k, found.old)) (sym (found-key rules k found.old work sound found.is)) in
      record {
        counts = let r = replaces rules h.rr.owner k (heard_at now h) found.old work rising found.is same in taken.counts ∙ sym r.count;
        sized = λ owner. let r = replaces rules owner k (heard_at now h) found.old work rising found.is same in subst (λ n. IfSome (row_at (owner_key owner) sizes) (λ size. size ≡ counted n)) (sym r.size) (taken.sized owner);
      }

  -- the octets of one owner are kept
  pub taken-kept : (owner : Labels) (size : ℕ) (work : LinkRows) (count : ℕ) (sizes : Rows ℕ) → size ≡ counted (size_under rules owner work) → IsTaken rules work count sizes → IsTaken rules work count (put_row (owner_key owner) size sizes)
  taken-kept owner size work count sizes size-is taken = record {
    counts = taken.counts;
    sized = λ q. subst (λ (o : Option ℕ). IfSome o (λ size. size ≡ counted (size_under rules q work))) (sym (row_at-put (owner_key q) (owner_key owner) size sizes)) (by q (same_key (owner_key q) (owner_key owner)) refl);
  }
    where
      by : (q : Labels) (t : Bool) → same_key (owner_key q) (owner_key owner) ≡ t → IfSome (cond t (Some size) (row_at (owner_key q) sizes)) (λ size. size ≡ counted (size_under rules q work))
      by q true is = size-is ∙ ap counted (sym (size-alike rules q owner work (ap (λ (k : Key). k.owner) (same_key-same (owner_key q) (owner_key owner) is))))
      by q false is = taken.sized q

  -- the octets that are kept of an owner, if any
  pub size-kept : (owner : Labels) (work : LinkRows) (count : ℕ) (sizes : Rows ℕ) → IsTaken rules work count sizes → Kept work sizes owner
  size-kept owner work count sizes taken = taken.sized owner

  -- a record is put that wasn't there
  module _ (now : ℕ) (work : LinkRows) (h : HeardRr) (absent : has_key (key_of h.rr) work ≡ false) where
    abbrev k : Key
    k = key_of h.rr

    abbrev row : HeardRow
    row = heard_at now h

    none : row_at k work ≡ None
    none = none-of (row_at k work) (has-found k work ∙ absent)

    grows : (q : Labels) → size_under rules q (put_row k row work) ≡ size_under rules q work + size_if rules q (k, row)
    grows q = adds rules q k row work none

    -- another owner stays as it is
    other : (q : Labels) → same_key (owner_key q) (owner_key h.rr.owner) ≡ false → size_if rules q (k, row) ≡ 0
    other q fails = by (same_name q k.owner) refl
      where
        by : (s : Bool) → same_name q k.owner ≡ s → cond s (row_size rules (k, row)) 0 ≡ 0
        by false is = refl
        by true is =
            let low : lower q ≡ lower h.rr.owner = (same_name-Decides q k.owner).0 is ∙ lower-twice h.rr.owner in
            let key : owner_key q ≡ owner_key h.rr.owner = λ i. record { owner = low i; class = 0; kind = 0; rdata = [] } in
            let holds : true ≡ false = sym (same_key-self (owner_key h.rr.owner)) ∙ ap (λ (x : Key). same_key x (owner_key h.rr.owner)) (sym key) ∙ fails in
            absurd cc

    mine : (q : Labels) → lower q ≡ lower h.rr.owner → size_if rules q (k, row) ≡ rr_size (renamed_rr local rules.domain h.rr)
    mine q low = ap (λ b. cond b (row_size rules (k, row)) 0) ((same_name-Decides q k.owner).1 (low ∙ sym (lower-twice h.rr.owner)))

    pub taken-new : (count : ℕ) (sizes : Rows ℕ) (size added all : ℕ) → size ≡ counted (size_under rules h.rr.owner work) → added ≡ rr_size (renamed_rr local rules.domain h.rr) → all ≡ counted (size + added)
        → IsTaken rules work count sizes → IsTaken rules (put_row k row work) (count + 1) (put_row (owner_key h.rr.owner) all sizes)
    taken-new count sizes size added all size-is added-is all-is taken = record {
      counts = let one = length-absent k row work none in let there = taken.counts in omega (arith, one, there);
      sized = λ q. subst (λ (o : Option ℕ). IfSome o (λ s. s ≡ counted (size_under rules q (put_row k row work)))) (sym (row_at-put (owner_key q) (owner_key h.rr.owner) all sizes)) (by q (same_key (owner_key q) (owner_key h.rr.owner)) refl);
    }
      where
        by : (q : Labels) (t : Bool) → same_key (owner_key q) (owner_key h.rr.owner) ≡ t → IfSome (cond t (Some all) (row_at (owner_key q) sizes)) (λ s. s ≡ counted (size_under rules q (put_row k row work)))
        by q true is =
            let low : lower q ≡ lower h.rr.owner = ap (λ (x : Key). x.owner) (same_key-same (owner_key q) (owner_key h.rr.owner) is) in
            let alike = size-alike rules q h.rr.owner work low in
            let more = grows q in
            let one = mine q low in
            omega (arith, size-is, added-is, all-is, alike, more, one)
        by q false is =
            let more = grows q in
            let nothing = other q is in
            let same : size_under rules q work ≡ size_under rules q (put_row k row work) = omega (arith, more, nothing) in
            subst (λ n. IfSome (row_at (owner_key q) sizes) (λ s. s ≡ counted n)) same (taken.sized q)

-- ---- the count of rows, as a test has it

pub full-room : (count : ℕ) (work : LinkRows) (fits : Bool) → count ≡ length work → max_rows ≤ count → false ≡ (nat_lt (length work + 0) max_rows && fits)
full-room count work fits is full = ap (λ b. b && fits) (not-less (length work + 0) (omega (arith, is, full)))
  where
    not-less : (n : ℕ) → max_rows ≤ n → false ≡ nat_lt n max_rows
    not-less n most = grind (arith, nat_tests)

pub few-rows : (count : ℕ) (work : LinkRows) → count ≡ length work → suc count ≤ max_rows → nat_lt (length work + 0) max_rows ≡ true
few-rows count work is few = le-leb (suc (length work + 0)) max_rows (omega (arith, is, few))
