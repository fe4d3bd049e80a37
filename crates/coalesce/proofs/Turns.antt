-- Counting and writing notices one after the other.
--     IsSized size ns whole      so many octets are counted, and those of further notices make the whole
--     append_more, append_room      a turn of writing; there is room for the next notices
use Rattle.std.proofs.Common.{◌≡◌, ℕ, ◌+◌, ◌^◌, ◌<◌, ◌≤◌, List, ◌++◌, length, append_assoc, sym, ap, ◌∙◌, arith}
use Rattle.std.specs.Prelude.{flat_map}
use Rattle.std.proofs.lemmas.List.{length-append}
use Rattle.std.proofs.lemmas.Grind.{flat_map-append}
use Rattle.rrset.specs.Tables.{counted}
use Rattle.dsotlv.specs.Notices.{notice_octets}
use Rattle.dsotlv.specs.declared.message.Notice.{Notice}
use Rattle.coalesce.specs.Net.{size_of_notices}
use Rattle.coalesce.proofs.NetSizes.{size_of_notices-append}

pub record IsSized (size : ℕ) (ns : List Notice) (whole : ℕ) : Type 0 where
  pub fits : size < 2 ^ 64
  pub sum : counted (size + size_of_notices ns) ≡ counted whole

-- ---- writing

pub append_more : (out now : List ℕ) (front back ns : List Notice) (whole : List ℕ) → now ≡ out ++ flat_map notice_octets front → ns ≡ front ++ back
    → out ++ flat_map notice_octets ns ≡ whole → now ++ flat_map notice_octets back ≡ whole
append_more out now front back ns whole now-is split is =
    ap (λ l. l ++ flat_map notice_octets back) now-is
    ∙ append_assoc out (flat_map notice_octets front) (flat_map notice_octets back)
    ∙ ap (λ l. out ++ l) (sym (flat_map-append notice_octets front back) ∙ ap (flat_map notice_octets) (sym split))
    ∙ is

pub append_room : (out start : List ℕ) (front back ns all : List Notice) (most : ℕ) → ns ≡ front ++ back → length start + size_of_notices all ≤ most
    → out ++ flat_map notice_octets ns ≡ start ++ flat_map notice_octets all → length out + size_of_notices front ≤ most
append_room out start front back ns all most split room is =
    let parts : size_of_notices ns ≡ size_of_notices front + size_of_notices back = ap size_of_notices split ∙ size_of_notices-append front back in
    let whole : length out + size_of_notices ns ≡ length start + size_of_notices all = sym (length-append out (flat_map notice_octets ns)) ∙ ap (λ (l : List ℕ). length l) is ∙ length-append start (flat_map notice_octets all) in
    within (length out) (size_of_notices front) (size_of_notices back) (size_of_notices ns) (length start + size_of_notices all) most parts whole room
  where
    within : (o f b n s most : ℕ) → n ≡ f + b → o + n ≡ s → s ≤ most → o + f ≤ most
    within o f b n s most parts whole room = omega arith
