-- How many steps an entry takes.
--     within-reserved, within-noted, within-made      room for its keys, those that note it, and its changes are within what is allowed
--     offered-is      what an entry that is accepted changes
--     update-changes, hear-changes, gone-changes      what an update, a datagram, and a link's going would change
use Rattle.std.proofs.Common.{◌≡◌, ℕ, ◌+◌, Bool, true, false, cond, List, [], length, Result, Ok, Err, refl, sym, ap, ◌∙◌, subst, arith}
use Rattle.push_base.specs.Cases.{◌>>=◌}
use Rattle.push_base.specs.Counted.{CountsUpTo}
use Rattle.rrset.specs.RecordSet.{changes}
use Rattle.rrset.specs.declared.record.Changed.{Changed}
use Rattle.rrset.specs.declared.record.Hearing.{Hearing}
use Rattle.dnswire.specs.Reading.{hearing_of}
use Rattle.dnswire.specs.declared.message.HearFault.{HearFault}
use Rattle.dnswire.specs.declared.message.Update.{Update}
use Rattle.history.specs.Kept.{Past, told_plan}
use Rattle.history.specs.Plans.{Plan, refuse, idle, accept, planned}
use Rattle.history.specs.States.{State, accepts, after, records, update_in, updated}
use Rattle.history.specs.declared.entry.Entry.{Entry}
use Rattle.history.specs.declared.entry.Entry.TheVariants as entries
use Rattle.history.specs.declared.plan.Planned.TheVariants as plans
use Rattle.pushserver.specs.Hubs.{state_now, entry_changes}
use Rattle.pushserver.specs.HubState.{kept_of}
use Rattle.pushserver.specs.declared.hub_state.HubState.{HubState}
use Rattle.pushserver.specs.KeptHubs.{KeptHub}
use Rattle.pushserver.specs.Offering.{changes_by, offered_changes}
use Rattle.livesessions.specs.Watched.{noting_steps}
use Rattle.pushserver.specs.Watched.{allowed, update_changes, hear_changes, gone_changes}
use Rattle.history.proofs.ToldPlans.{changes-told}
use Rattle.pushserver.proofs.EntrySteps.{same_past, with_past}
use Rattle.livesessions.proofs.NotedSessions.{all-within}
use Rattle.pushserver.proofs.Offering.{plan-changes}

module _ (k : KeptHub) (changed : List Changed) where
  pub within-reserved : (old new : ℕ) → new ≡ old + length changed → CountsUpTo (allowed k changed) old new
  within-reserved old new is = let all = all-within changed k.sessions in record { later = omega (arith, is); most = omega (arith, is, all) }

  pub within-noted : (old mid new : ℕ) → mid ≡ old + length changed → CountsUpTo (noting_steps changed k.sessions) mid new → CountsUpTo (allowed k changed) old new
  within-noted old mid new is counts = let all = all-within changed k.sessions in record { later = omega (arith, is, counts.later); most = omega (arith, is, counts.most, all) }

  pub within-made : (old mid late new : ℕ) → mid ≡ old + length changed → CountsUpTo (noting_steps changed k.sessions) mid late → new ≡ late + length changed → CountsUpTo (allowed k changed) old new
  within-made old mid late new is counts made = let all = all-within changed k.sessions in record { later = omega (arith, is, counts.later, made); most = omega (arith, is, counts.most, made, all) }

-- ---- what would change

pub offered-is : (k : KeptHub) (entry : Entry) (changed : List Changed) → plans.Accept changed ≡ told_plan (planned (state_now k) entry) → offered_changes entry k ≡ changed
offered-is k entry changed told = by (planned (state_now k) entry) told
  where
    by : (plan : Plan) → plans.Accept changed ≡ told_plan plan → changes_by plan ≡ changed
    by (refuse code) e = absurd cc
    by idle e = absurd cc
    by (accept new) e = cc

-- the changes of a verdict
abbrev verdict_changes : KeptHub → Result Update ℕ → List Changed
verdict_changes k (Err code) = []
verdict_changes k (Ok u) = entry_changes (entries.Update u) k

abbrev plan_as : KeptHub → Result State ℕ → Plan
plan_as k (Err code) = refuse code
plan_as k (Ok later) = accept (changes (records (state_now k)) (records later))

pub update-changes : (k : KeptHub) (message : List ℕ) (u : Update) → update_in message ≡ Ok u → offered_changes (entries.Update u) k ≡ update_changes k message
update-changes k message u reads =
    by (updated (state_now k) u) refl
    ∙ sym (ap (λ (r : Result Update ℕ). verdict_changes k (r >>= λ v. updated (state_now k) v >>= λ _. Ok v)) reads)
  where
    by : (r : Result State ℕ) → updated (state_now k) u ≡ r → changes_by (plan_as k (updated (state_now k) u)) ≡ verdict_changes k (updated (state_now k) u >>= λ _. Ok u)
    by (Err code) is = ap (λ (r : Result State ℕ). changes_by (plan_as k r)) is ∙ sym (ap (λ (r : Result State ℕ). verdict_changes k (r >>= λ _. Ok u)) is)
    by (Ok later) is =
        ap (λ (r : Result State ℕ). changes_by (plan_as k r)) is
        ∙ changes-told (state_now k) (entries.Update u) (changes (records (state_now k)) (records later)) (sym (ap (λ (r : Result State ℕ). told_plan (plan_as k r)) is))
        ∙ sym (ap (λ (r : Result State ℕ). verdict_changes k (r >>= λ _. Ok u)) is)

abbrev heard_changes : KeptHub → ℕ → Result Hearing HearFault → List Changed
heard_changes k link (Err fault) = []
heard_changes k link (Ok hearing) = cond (accepts (state_now k) (entries.Heard link hearing)) (entry_changes (entries.Heard link hearing) k) []

abbrev test_plan : KeptHub → Entry → Bool → Plan
test_plan k entry accepted = cond accepted (accept (changes (records (state_now k)) (records (after (state_now k) entry)))) idle

-- an entry whose plan goes by whether it is accepted
test-changes : (k : KeptHub) (entry : Entry) → planned (state_now k) entry ≡ test_plan k entry (accepts (state_now k) entry) → offered_changes entry k ≡ cond (accepts (state_now k) entry) (entry_changes entry k) []
test-changes k entry plan = by (accepts (state_now k) entry) refl
  where
    by : (b : Bool) → accepts (state_now k) entry ≡ b → changes_by (planned (state_now k) entry) ≡ cond (accepts (state_now k) entry) (entry_changes entry k) []
    by true is =
        let same : planned (state_now k) entry ≡ test_plan k entry true = plan ∙ ap (test_plan k entry) is in
        ap changes_by same
        ∙ changes-told (state_now k) entry (changes (records (state_now k)) (records (after (state_now k) entry))) (sym (ap told_plan same))
        ∙ sym (ap (λ (b : Bool). cond b (entry_changes entry k) []) is)
    by false is = ap changes_by (plan ∙ ap (test_plan k entry) is) ∙ sym (ap (λ (b : Bool). cond b (entry_changes entry k) []) is)

pub hear-changes : (k : KeptHub) (link : ℕ) (datagram : List ℕ) (hearing : Hearing) → hearing_of datagram ≡ Ok hearing → offered_changes (entries.Heard link hearing) k ≡ hear_changes k link datagram
hear-changes k link datagram hearing reads = test-changes k (entries.Heard link hearing) refl ∙ sym (ap (heard_changes k link) reads)

pub gone-changes : (k : KeptHub) (link : ℕ) → offered_changes (entries.LinkGone link) k ≡ gone_changes k link
gone-changes k link = test-changes k (entries.LinkGone link) refl

-- what an entry takes behind its plan, which is held with the past
pub offer-steps : (keeping : HubState) (past : Past) → past ≡ keeping.points.past → (entry : Entry) (changed : List Changed) → plans.Accept changed ≡ told_plan (planned (state_now (kept_of keeping)) entry) → (old new : ℕ)
    → CountsUpTo (allowed (with_past past (kept_of keeping)) (entry_changes entry (with_past past (kept_of keeping)))) old new → CountsUpTo (allowed (kept_of keeping) (offered_changes entry (kept_of keeping))) old new
offer-steps keeping past same entry changed told old new counts =
    subst (λ (cs : List Changed). CountsUpTo (allowed (kept_of keeping) cs) old new)
    (sym (offered-is (kept_of keeping) entry changed told ∙ plan-changes keeping past same entry changed told ∙ ap (λ (h : KeptHub). entry_changes entry h) (same_past keeping past same)))
    (subst (λ (h : KeptHub). CountsUpTo (allowed h (entry_changes entry h)) old new) (same_past keeping past same) counts)
