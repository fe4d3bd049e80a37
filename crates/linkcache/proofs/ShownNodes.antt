-- What the rows of names show, one name after the other, and one block after the other.
use Rattle.std.proofs.Common.{◌≡◌, ℕ, zero, suc, ◌+◌, ◌<◌, ◌++◌, ◌∷◌, [], length, get_or, drop, fold, sym, ap, subst, ◌∙◌, arith}
use Rattle.std.specs.List.{AllByRecursion}
use Rattle.std.proofs.lemmas.List.{drop_more}
use Rattle.std.proofs.lemmas.List.Sums.{fold-append}
use Rattle.rrset.specs.RecordSet.{RecordSet}
use Rattle.rrset.specs.declared.record.Key.{Key}
use Rattle.nametable.specs.Nodes.{Node, Nodes, all_rows}
use Rattle.nametable.specs.Blocks.{Blocks, nodes_in}
use Rattle.nametable.proofs.BlockParts.{all_rows-append}
use Rattle.linkcache.specs.declared.row.HeardRow.{HeardRow}
use Rattle.linkcache.specs.Rows.{LinkRows, put_shown}
use Rattle.linkcache.specs.Sound.{IsLinkRow, AreLinkRows}
use Rattle.linkcache.specs.declared.rules.LinkRules.{LinkRules}

front-part : (P : Key × HeardRow → Type 0) (xs ys : LinkRows) → AllByRecursion P (xs ++ ys) → AllByRecursion P xs
front-part P [] ys h = tt
front-part P (x ∷ xs) ys h = (h.0, front-part P xs ys h.1)

back-part : (P : Key × HeardRow → Type 0) (xs ys : LinkRows) → AllByRecursion P (xs ++ ys) → AllByRecursion P ys
back-part P [] ys h = h
back-part P (x ∷ xs) ys h = back-part P xs ys h.1

-- the rows of each name are rows of the link
pub node-sound : (rules : LinkRules) (ns : Nodes HeardRow) (index : ℕ) (g : Node HeardRow) → AreLinkRows rules (all_rows ns) → index < length ns → g ≡ get_or ns index g → AreLinkRows rules g.1.rows
node-sound rules [] index g h within is = absurd (omega (arith, within))
node-sound rules (n ∷ ns) zero g h within is = subst (λ (m : Node HeardRow). AreLinkRows rules m.1.rows) (sym is) (front-part (IsLinkRow rules) n.1.rows (all_rows ns) h)
node-sound rules (n ∷ ns) (suc index) g h within is = node-sound rules ns index g (back-part (IsLinkRow rules) n.1.rows (all_rows ns) h) (omega (arith, within)) is

pub shown-next : (rules : LinkRules) (set now target : RecordSet) (ns : Nodes HeardRow) (index : ℕ) (g : Node HeardRow) → index < length ns → g ≡ get_or ns index g → now ≡ fold (put_shown rules) set g.1.rows
    → fold (put_shown rules) set (all_rows (drop index ns)) ≡ target → fold (put_shown rules) now (all_rows (drop (index + 1) ns)) ≡ target
shown-next rules set now target ns index g within is now-is so_far =
    ap (λ (l : RecordSet). fold (put_shown rules) l (all_rows (drop (index + 1) ns))) now-is
    ∙ sym (fold-append (put_shown rules) set g.1.rows (all_rows (drop (index + 1) ns)))
    ∙ ap (λ (h : Node HeardRow). fold (put_shown rules) set (h.1.rows ++ all_rows (drop (index + 1) ns))) is
    ∙ ap (λ (l : Nodes HeardRow). fold (put_shown rules) set (all_rows l)) (sym (drop_more ns index g within))
    ∙ so_far

-- ---- one block after the other

pub block-sound : (rules : LinkRules) (bs : Blocks HeardRow) (index : ℕ) (b : Nodes HeardRow) → AreLinkRows rules (all_rows (nodes_in bs)) → index < length bs → b ≡ get_or bs index b → AreLinkRows rules (all_rows b)
block-sound rules [] index b h within is = absurd (omega (arith, within))
block-sound rules (c ∷ bs) zero b h within is =
    subst (λ (d : Nodes HeardRow). AreLinkRows rules (all_rows d)) (sym is) (front-part (IsLinkRow rules) (all_rows c) (all_rows (nodes_in bs)) (subst (AreLinkRows rules) (all_rows-append c (nodes_in bs)) h))
block-sound rules (c ∷ bs) (suc index) b h within is =
    block-sound rules bs index b (back-part (IsLinkRow rules) (all_rows c) (all_rows (nodes_in bs)) (subst (AreLinkRows rules) (all_rows-append c (nodes_in bs)) h)) (omega (arith, within)) is

pub shown-next-block : (rules : LinkRules) (set now target : RecordSet) (bs : Blocks HeardRow) (index : ℕ) (b : Nodes HeardRow) → index < length bs → b ≡ get_or bs index b
    → now ≡ fold (put_shown rules) set (all_rows b) → fold (put_shown rules) set (all_rows (nodes_in (drop index bs))) ≡ target → fold (put_shown rules) now (all_rows (nodes_in (drop (index + 1) bs))) ≡ target
shown-next-block rules set now target bs index b within is now-is so_far =
    let rest = nodes_in (drop (index + 1) bs) in
    ap (λ (l : RecordSet). fold (put_shown rules) l (all_rows rest)) now-is
    ∙ sym (fold-append (put_shown rules) set (all_rows b) (all_rows rest))
    ∙ ap (fold (put_shown rules) set) (sym (all_rows-append b rest))
    ∙ ap (λ (c : Nodes HeardRow). fold (put_shown rules) set (all_rows (c ++ rest))) is
    ∙ ap (λ (l : Blocks HeardRow). fold (put_shown rules) set (all_rows (nodes_in l))) (sym (drop_more bs index b within))
    ∙ so_far
