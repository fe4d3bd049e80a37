-- The order of the questions of a link is total, and in a list that is in order each stands once.
use Rattle.std.proofs.Common.{◌≡◌, Bool, true, false, ◌&&◌, T, refl, ◌∙◌, ap}
use Rattle.std.specs.Ordering.{is_lt, is_eq, ordering_reverse}
use Rattle.std.specs.declared.cmp.Ordering.{Ordering}
use Rattle.std.specs.declared.cmp.Ordering.TheVariants.{Less, Equal, Greater}
use Rattle.std.specs.Cmp.{IsTotalOrder, then_total, on_total, nat_cmp_total}
use Rattle.std.specs.Cmp.Lexicographic.{nat_list_cmp_total}
use Rattle.dnsname.specs.Names.{octets, lower}
use Rattle.rrset.specs.declared.record.Question.{Question}
use Rattle.linkask.specs.Asking.{asked_cmp, same_asked}

pub asked_cmp_total : IsTotalOrder asked_cmp
asked_cmp_total = then_total (on_total (λ (q : Question). octets (lower q.name)) nat_list_cmp_total) (on_total (λ (q : Question). q.kind) nat_cmp_total)

pub and-first : (a b : Bool) → T (a && b) → T a
and-first true b h = tt
and-first false b h = h

pub and-second : (a b : Bool) → T (a && b) → T b
and-second true b h = h
and-second false b h = absurd h

lesser : (r : Ordering) → T (is_lt r) → r ≡ Less
lesser Less h = refl
lesser Equal h = absurd h
lesser Greater h = absurd h

-- a lesser question is another, whichever way they are compared
pub other-less : (a b : Question) → T (is_lt (asked_cmp a b)) → same_asked a b ≡ false
other-less a b h = ap is_eq (lesser (asked_cmp a b) h)

pub other-greater : (a b : Question) → T (is_lt (asked_cmp a b)) → same_asked b a ≡ false
other-greater a b h = ap is_eq (asked_cmp_total.antisymm b a ∙ ap ordering_reverse (lesser (asked_cmp a b) h))

reversed-itself : (r : Ordering) → r ≡ ordering_reverse r → is_eq r ≡ true
reversed-itself Less e = absurd cc
reversed-itself Equal e = refl
reversed-itself Greater e = absurd cc

pub same-itself : (a : Question) → same_asked a a ≡ true
same-itself a = reversed-itself (asked_cmp a a) (asked_cmp_total.antisymm a a)
