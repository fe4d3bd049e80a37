-- Tables by name: the number of a block's first name, by which the block of a name is looked for.
use Rattle.std.proofs.Common.{◌≡◌, ℕ, zero, suc, ◌≤◌, ◌<◌, true, false, [], ◌∷◌, length, get_or, set, refl, sym, ap, subst, arith}
use Rattle.std.specs.Ordering.{is_le}
use Rattle.std.specs.Cmp.{nat_cmp_is}
use Rattle.std.specs.List.{insert}
use Rattle.std.specs.declared.cmp.Ordering.TheVariants.{Less, Greater}
use Rattle.dnsname.specs.Names.{Labels}
use Rattle.nametable.specs.FirstOctets.{HasFirst}
use Rattle.nametable.specs.Nodes.{Node, Nodes}
use Rattle.nametable.specs.Blocks.{BeginsAt, begins_by}
use Rattle.nametable.proofs.NumberOrder.{by_first}

module _ {X : Type 0} where
  -- a lesser number is that of a block that begins by the name, a greater one isn't
  pub begins-less : (number first : ℕ) (name : Labels) (ns : Nodes X) → BeginsAt number ns → HasFirst first name → number < first → true ≡ begins_by name ns
  begins-less number first name [] at wanted less = refl
  begins-less number first name (g ∷ ns) at wanted less = sym (ap is_le (by_first number first g.0 name at wanted Less (nat_cmp_is number first Less less)))

  pub begins-greater : (number first : ℕ) (name : Labels) (ns : Nodes X) → BeginsAt number ns → HasFirst first name → first < number → false ≡ begins_by name ns
  begins-greater number first name [] at wanted greater = absurd (omega (arith, at, greater))
  begins-greater number first name (g ∷ ns) at wanted greater = sym (ap is_le (by_first number first g.0 name at wanted Greater (nat_cmp_is number first Greater greater)))

  -- another node of the same name stands at an index
  pub begins-set : (first : ℕ) (ns : Nodes X) (index : ℕ) (d n : Node X) → n.0 ≡ (get_or ns index d).0 → BeginsAt first ns → BeginsAt first (set ns index n)
  begins-set first [] index d n same at = at
  begins-set first (g ∷ ns) zero d n same at = subst (HasFirst first) (sym same) at
  begins-set first (g ∷ ns) (suc index) d n same at = at

  -- a node is put at an index
  pub begins-insert : (first now : ℕ) (ns : Nodes X) (index : ℕ) (n : Node X) → BeginsAt first ns → index ≤ length ns → (index ≡ 0 → HasFirst now n.0) → (0 < index → now ≡ first) → BeginsAt now (insert ns index n)
  begins-insert first now ns zero n at within here behind = here refl
  begins-insert first now [] (suc index) n at within here behind = absurd (omega (arith, within))
  begins-insert first now (g ∷ ns) (suc index) n at within here behind = subst (λ (k : ℕ). HasFirst k g.0) (sym (behind (omega arith))) at
