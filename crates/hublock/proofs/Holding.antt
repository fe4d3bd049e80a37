-- What is under the lock holds behind a call that may have made an entry.
use Rattle.std.proofs.Common.{◌≡◌, ℕ, ◌+◌, ◌-◌, ◌≤◌, inl, inr, true, false, Result, Ok, Err, Bool, sym, ap, ◌∙◌, subst, arith}
use Rattle.history.specs.declared.entry.Totals.{Totals}
use Rattle.pushserver.specs.Counting.{AddsGoing, AddsHearing, MayAddChange}
use Rattle.pushserver.specs.KeptHubs.{KeptHub}
use Rattle.pushserver.specs.declared.given.Heard.{Heard}
use Rattle.pushserver.specs.declared.given.Heard.TheVariants.{Entered, Ignored}
use Rattle.pushserver.specs.declared.fault.HubFault.{HubFault}
use Rattle.hubasking.specs.AskingHubs.{AskingHub}
use Rattle.hublock.specs.Feeds.{IsBelow}
use Rattle.hublock.specs.Inside.{Holds, counted}
use Rattle.hubloops.proofs.Answering.{StandsForOne}

-- no session is made, and no count falls
pub record Adds (old new : KeptHub) : Type 0 where
  pub made : new.numbers_given ≡ old.numbers_given
  pub below : IsBelow old.seen.counts new.seen.counts

below_same : (a b : Totals) → b ≡ a → IsBelow a b
below_same a b e = subst (λ (t : Totals). IsBelow a t) (sym e) (record { changes = omega arith; heard = omega arith; moments = omega arith })

below_heard : (a b : Totals) → b ≡ record a { heard = a.heard + 1 } → IsBelow a b
below_heard a b e = subst (λ (t : Totals). IsBelow a t) (sym e) (record { changes = omega arith; heard = omega arith; moments = omega arith })

below_change : (a b : Totals) → b ≡ record a { changes = a.changes + 1 } → IsBelow a b
below_change a b e = subst (λ (t : Totals). IsBelow a t) (sym e) (record { changes = omega arith; heard = omega arith; moments = omega arith })

pub adds_hearing : (old new : KeptHub) (answer : Result Heard HubFault) → AddsHearing answer old new → Adds old new
adds_hearing old new (Ok Entered) (made, one) = record { made = made; below = below_heard old.seen.counts new.seen.counts one }
adds_hearing old new (Ok (Ignored why)) (made, same) = record { made = made; below = below_same old.seen.counts new.seen.counts same }
adds_hearing old new (Err fault) (made, same) = record { made = made; below = below_same old.seen.counts new.seen.counts same }

pub adds_going : (old new : KeptHub) (answer : Result Bool HubFault) → AddsGoing answer old new → Adds old new
adds_going old new (Ok true) (made, one) = record { made = made; below = below_heard old.seen.counts new.seen.counts one }
adds_going old new (Ok false) (made, same) = record { made = made; below = below_same old.seen.counts new.seen.counts same }
adds_going old new (Err fault) (made, same) = record { made = made; below = below_same old.seen.counts new.seen.counts same }

pub adds_change : (old new : KeptHub) → MayAddChange old new → Adds old new
adds_change old new (made, inl same) = record { made = made; below = below_same old.seen.counts new.seen.counts same }
adds_change old new (made, inr one) = record { made = made; below = below_change old.seen.counts new.seen.counts one }

risen : (book now before after old new : ℕ) → book ≡ old → now ≡ book + (after - before) → before ≡ old → after ≡ new → old ≤ new → now ≡ new
risen book now before after old new a b c d e = omega arith

totals_same : (a b : Totals) → a.changes ≡ b.changes → a.heard ≡ b.heard → a.moments ≡ b.moments → a ≡ b
totals_same a b e f g = λ i. record { changes = e i; heard = f i; moments = g i }

-- the books rose as the journal's counts did
pub holds_behind : (old new : AskingHub) (books now before after : Totals) (seats : ℕ)
    → Holds old books seats → Adds old.hub new.hub → StandsForOne new → before ≡ counted old → after ≡ counted new
    → now.changes ≡ books.changes + (after.changes - before.changes) → now.heard ≡ books.heard + (after.heard - before.heard) → now.moments ≡ books.moments + (after.moments - before.moments)
    → Holds new now seats
holds_behind old new books now before after seats holds adds stands first last changes heard moments = record {
  stands = stands;
  counts = totals_same now (counted new)
      (risen books.changes now.changes before.changes after.changes (counted old).changes (counted new).changes (ap (λ (t : Totals). t.changes) holds.counts) changes (ap (λ (t : Totals). t.changes) first) (ap (λ (t : Totals). t.changes) last) adds.below.changes)
      (risen books.heard now.heard before.heard after.heard (counted old).heard (counted new).heard (ap (λ (t : Totals). t.heard) holds.counts) heard (ap (λ (t : Totals). t.heard) first) (ap (λ (t : Totals). t.heard) last) adds.below.heard)
      (risen books.moments now.moments before.moments after.moments (counted old).moments (counted new).moments (ap (λ (t : Totals). t.moments) holds.counts) moments (ap (λ (t : Totals). t.moments) first) (ap (λ (t : Totals). t.moments) last) adds.below.moments);
  made = holds.made ∙ sym adds.made;
}
