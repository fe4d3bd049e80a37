-- The octets of a name with another domain.
use Rattle.std.proofs.Common.{◌≡◌, ◌+◌, ◌-◌, Bool, true, cond, ℕ, List, ◌++◌, length, take, drop, sym, ap, ◌∙◌, arith}
use Rattle.std.proofs.lemmas.List.{drop_at, length-append, take-append-drop}
use Rattle.dnsname.specs.Names.{Labels, labels_octets, octets, ends_in, swapped_suffix}
use Rattle.dnsname.proofs.Endings.{length-same, octets-append}
use Rattle.dnsname.proofs.Suffixes.{EndsIn-true, same_length}
use Rattle.linkmap.specs.Translation.{renamed}

-- the new domain's octets stand in place of the old one's
pub renamed-length : (old new name : Labels) → ends_in name old ≡ true → length (octets (renamed old new name)) + length (octets old) ≡ length (octets name) + length (octets new)
renamed-length old new name e =
    let (front, last, parts, same) = EndsIn-true name old e in
    let n = length name - length old in
    let as_many : length last ≡ length old = same_length last old same in
    let long : length name ≡ length front + length last = ap (λ (l : Labels). length l) parts ∙ length-append front last in
    let at : drop n name ≡ last = ap (drop n) parts ∙ drop_at front last n (omega (arith, as_many, long)) in
    let behind : length (octets (drop n name)) ≡ length (octets old) = ap (λ (l : Labels). length (octets l)) at ∙ length-same last old same in
    let kept = take n name in
    let whole : octets name ≡ labels_octets kept ++ octets (drop n name) = ap octets (sym (take-append-drop n name)) ∙ octets-append kept (drop n name) in
    let mine = ap (λ (l : List ℕ). length l) whole ∙ length-append (labels_octets kept) (octets (drop n name)) in
    let swapped : length (octets (swapped_suffix name old new)) ≡ length (labels_octets kept) + length (octets new) = ap (λ (l : List ℕ). length l) (octets-append kept new) ∙ length-append (labels_octets kept) (octets new) in
    let made : length (octets (renamed old new name)) ≡ length (octets (swapped_suffix name old new)) = ap (λ (b : Bool). length (octets (cond b (swapped_suffix name old new) name))) e in
    omega (arith, behind, mine, swapped, made)
