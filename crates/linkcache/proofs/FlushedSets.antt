-- What a record's cache-flush bit does to rows is done once for each RRset.
use Rattle.std.proofs.Common.{◌≡◌, ℕ, ◌+◌, Bool, true, false, cond, ◌&&◌, [], ◌∷◌, nat_lt, min, Option, Some, is_some, refl, sym, ap, ◌∙◌, arith}
use Rattle.std.specs.Prelude.{◌==◌}
use Rattle.std.specs.Str.{bytes_eq}
use Rattle.dnsname.specs.Names.{octets, lower}
use Rattle.rrset.specs.declared.record.Key.{Key}
use Rattle.rrset.specs.declared.record.HeardRr.{HeardRr}
use Rattle.rrset.specs.Records.{same_key}
use Rattle.rrset.specs.KeyedRows.{Rows, put_row, row_at}
use Rattle.rrset.proofs.SameRows.{same_key-same}
use Rattle.linkcache.specs.declared.row.HeardRow.{HeardRow}
use Rattle.linkcache.specs.Rows.{LinkRows, second, ending_by, is_of_set, flushed_by}
use Rattle.linkcache.specs.Flushed.{set_key, AreFlushed}
use Rattle.linkcache.proofs.KeyedParts.{row_at-put}

module _ (now : ℕ) where
  abbrev goes : HeardRr → Key × HeardRow → Bool
  goes h e = is_of_set h.rr e && nat_lt (e.1.heard + second) now

  abbrev sooner : Key × HeardRow → Key × HeardRow
  sooner e = ending_by (now + second) e

  abbrev flush-one : HeardRr → Key × HeardRow → Key × HeardRow
  flush-one h e = cond (goes h e) (sooner e) e

  -- records of one set let the same rows go
  goes-alike : (a b : HeardRr) (e : Key × HeardRow) → set_key b.rr ≡ set_key a.rr → goes b e ≡ goes a e
  goes-alike a b e same = ap (λ (k : Key). ((bytes_eq (octets k.owner) (octets (lower e.0.owner)) && (k.class == e.0.class)) && (k.kind == e.0.kind)) && nat_lt (e.1.heard + second) now) same

  sooner-twice : (e : Key × HeardRow) → sooner (sooner e) ≡ sooner e
  sooner-twice e = let least : min (min e.1.ends (now + second)) (now + second) ≡ min e.1.ends (now + second) = omega arith in λ i. (e.0, record e.1 { ends = least i })

  one-twice : (b : HeardRr) (e : Key × HeardRow) (x : Bool) → goes b e ≡ x → flush-one b (cond x (sooner e) e) ≡ cond x (sooner e) e
  one-twice b e true is = ap (λ t. cond t (sooner (sooner e)) (sooner e)) is ∙ sooner-twice e
  one-twice b e false is = ap (λ t. cond t (sooner e) e) is

  one-turned : (a b : HeardRr) (e : Key × HeardRow) (x y : Bool) → goes a e ≡ x → goes b e ≡ y → flush-one b (cond x (sooner e) e) ≡ flush-one a (cond y (sooner e) e)
  one-turned a b e true true a-is b-is = ap (λ t. cond t (sooner (sooner e)) (sooner e)) (b-is ∙ sym a-is)
  one-turned a b e true false a-is b-is = ap (λ t. cond t (sooner (sooner e)) (sooner e)) b-is ∙ sym (ap (λ t. cond t (sooner e) e) a-is)
  one-turned a b e false true a-is b-is = ap (λ t. cond t (sooner e) e) b-is ∙ sym (ap (λ t. cond t (sooner (sooner e)) (sooner e)) a-is)
  one-turned a b e false false a-is b-is = ap (λ t. cond t (sooner e) e) (b-is ∙ sym a-is)

  flushed-twice : (a b : HeardRr) (rows : LinkRows) → set_key b.rr ≡ set_key a.rr → flushed_by now (flushed_by now rows a) b ≡ flushed_by now rows a
  flushed-twice a b [] same = refl
  flushed-twice a b (e ∷ es) same = λ i. one-twice b e (goes a e) (goes-alike a b e same) i ∷ flushed-twice a b es same i

  flushed-turned : (a b : HeardRr) (rows : LinkRows) → flushed_by now (flushed_by now rows a) b ≡ flushed_by now (flushed_by now rows b) a
  flushed-turned a b [] = refl
  flushed-turned a b (e ∷ es) = λ i. one-turned a b e (goes a e) (goes b e) refl refl i ∷ flushed-turned a b es i

  pub more-flushed : {X : Type 0} (value : X) (sets : Rows X) (rows : LinkRows) (h : HeardRr) → AreFlushed now sets rows → AreFlushed now (put_row (set_key h.rr) value sets) (flushed_by now rows h)
  more-flushed {X} value sets rows h flushed b there = by (same_key (set_key b.rr) (set_key h.rr)) refl (sym (ap (λ (o : Option X). is_some o) (row_at-put (set_key b.rr) (set_key h.rr) value sets)) ∙ there)
    where
      by : (t : Bool) → same_key (set_key b.rr) (set_key h.rr) ≡ t → is_some (cond t (Some value) (row_at (set_key b.rr) sets)) ≡ true → flushed_by now (flushed_by now rows h) b ≡ flushed_by now rows h
      by true is e = flushed-twice h b rows (same_key-same (set_key b.rr) (set_key h.rr) is)
      by false is e = flushed-turned h b rows ∙ ap (λ (l : LinkRows). flushed_by now l h) (flushed b e)
