-- What was read piece by piece.
use Rattle.std.proofs.Common.{◌≡◌, refl, [], ℕ, ◌≤◌, Option, Some, None, IfSome, List, ◌++◌, length, take, drop, sym, ◌∙◌, ap, arith, append_assoc}
use Rattle.std.specs.Io.KnownBytes.{append_known, prepend_known, IsAtEnd}
use Rattle.push_base.proofs.Written.{append_twice}
use Rattle.scripts.specs.Sources.{LostAtMost}
use Rattle.std.proofs.Math.ListN.{drop_of_length-le}
use Rattle.std.proofs.Math.Seq.{drop-append_seam}
use Rattle.std.proofs.lemmas.List.{append-nil, take_all, take_at}

pub prepend_none : (a : Option (List ℕ)) → prepend_known [] a ≡ a
prepend_none None = refl
prepend_none (Some x) = refl

pub prepend_twice : (a : Option (List ℕ)) (xs ys : List ℕ) → prepend_known xs (prepend_known ys a) ≡ prepend_known (xs ++ ys) a
prepend_twice None xs ys = refl
prepend_twice (Some x) xs ys = ap Some (sym (append_assoc xs ys x))

-- a source that is at its end gave all that it had
pub read_all : (a b : Option (List ℕ)) (octets : List ℕ) (most : ℕ) → a ≡ prepend_known octets b → IsAtEnd b → length octets ≤ most → IfSome a (λ xs. octets ≡ take most xs)
read_all None b octets most read end le = tt
read_all (Some x) None octets most read end le = cc read
read_all (Some x) (Some y) octets most read end le =
    let whole : x ≡ octets ++ y = cc read in
    sym (ap (take most) (whole ∙ ap (λ l. octets ++ l) end ∙ append-nil octets) ∙ take_all most octets le)

-- a source that gave as many octets as are read gave the first of them
pub read_most : (a b : Option (List ℕ)) (octets : List ℕ) (most : ℕ) → a ≡ prepend_known octets b → length octets ≡ most → IfSome a (λ xs. octets ≡ take most xs)
read_most None b octets most read is = tt
read_most (Some x) None octets most read is = cc read
read_most (Some x) (Some y) octets most read is =
    let whole : x ≡ octets ++ y = cc read in
    sym (ap (take most) whole ∙ take_at octets y most is)

-- and then nothing, or what is behind these, is left
pub rest_all : (a b : Option (List ℕ)) (octets : List ℕ) (most : ℕ) → a ≡ prepend_known octets b → IsAtEnd b → length octets ≤ most → IfSome a (λ xs. b ≡ Some (drop most xs))
rest_all None b octets most read end le = tt
rest_all (Some x) None octets most read end le = cc read
rest_all (Some x) (Some y) octets most read end le =
    let whole : x ≡ octets ++ y = cc read in
    ap Some (end ∙ sym (ap (drop most) (whole ∙ ap (λ l. octets ++ l) end ∙ append-nil octets) ∙ drop_of_length-le octets le))

pub rest_most : (a b : Option (List ℕ)) (octets : List ℕ) (most : ℕ) → a ≡ prepend_known octets b → length octets ≡ most → IfSome a (λ xs. b ≡ Some (drop most xs))
rest_most None b octets most read is = tt
rest_most (Some x) None octets most read is = cc read
rest_most (Some x) (Some y) octets most read is =
    let whole : x ≡ octets ++ y = cc read in
    ap Some (sym (ap (λ n. drop n x) (sym is) ∙ ap (drop (length octets)) whole ∙ drop-append_seam octets y))

-- no more than these are gone
pub lost_most : (a b : Option (List ℕ)) (octets : List ℕ) (most : ℕ) → a ≡ prepend_known octets b → length octets ≤ most → LostAtMost most a b
lost_most None b octets most read le = tt
lost_most (Some x) b octets most read le = (length octets, le, rest_most (Some x) b octets (length octets) read refl)

pub lost_none : (a : Option (List ℕ)) (most : ℕ) → LostAtMost most a a
lost_none None most = tt
lost_none (Some x) most = (0, omega (arith), refl)

-- a read that gave nothing
pub read_nothing : (a b c : Option (List ℕ)) (octets buf : List ℕ) (n : ℕ) → a ≡ prepend_known octets b → b ≡ prepend_known (take n buf) c → n ≡ 0 → a ≡ prepend_known octets c
read_nothing a b c octets buf n before now none =
    before ∙ ap (prepend_known octets) (now ∙ ap (λ k. prepend_known (take k buf) c) none ∙ prepend_none c)

-- what a read took, after what was read before
pub read_more : (a b c : Option (List ℕ)) (octets more : List ℕ) → a ≡ prepend_known octets b → b ≡ prepend_known more c → a ≡ prepend_known (octets ++ more) c
read_more a b c octets more before now = before ∙ ap (prepend_known octets) now ∙ prepend_twice c octets more

pub gave_more : (a b c : Option (List ℕ)) (octets more : List ℕ) → b ≡ append_known a octets → c ≡ append_known b more → c ≡ append_known a (octets ++ more)
gave_more a b c octets more before now = now ∙ ap (λ o. append_known o more) before ∙ append_twice a octets more
