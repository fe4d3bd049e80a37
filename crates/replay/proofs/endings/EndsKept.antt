-- Ends are handed back exactly where the whole text of a script was written.
--     left-there, left-none      that there are ends, by what was told
--     left-are, none-are      what they stand for
use Rattle.std.proofs.Common.{◌≡◌, ◌⊎◌, inl, inr, ℕ, List, Option, Some, None, IfSome, sym, subst}
use Rattle.scripts.specs.declared.outcome.Outcome.{Outcome}
use Rattle.scripts.specs.declared.outcome.Outcome.TheVariants.{Done, ReadFault, NoMemory, WriteFault, Outside}
use Rattle.replay.specs.declared.ends.Ends.{Ends}
use Rattle.scripts.specs.Sources.{front_read}
use Rattle.replay.specs.KeptEnds.{AreEnds, EndsWhenDone, ends_with}

-- a text was told, or its write failed
abbrev pub Tells : Outcome → Outcome → Type 0 → Type 0
Tells told outcome cause = (outcome ≡ told) ⊎ ((outcome ≡ WriteFault) × cause)

-- those that are handed back
pub left-there : (told outcome last : Outcome) (ends left : Option Ends) (cause : Type 0) → EndsWhenDone told ends → Tells told outcome cause → last ≡ outcome → left ≡ ends_with outcome ends → EndsWhenDone last left
left-there told outcome last ends left cause there tells last_is left_is =
    subst (λ (o : Outcome). EndsWhenDone o left) (sym last_is) (subst (EndsWhenDone outcome) (sym left_is) (by tells))
  where
    whole : (o : Outcome) (e : Option Ends) → EndsWhenDone o e → EndsWhenDone o (ends_with o e)
    whole Done None h = h
    whole Done (Some e) h = tt
    whole ReadFault e h = tt
    whole NoMemory e h = tt
    whole WriteFault e h = tt
    whole Outside e h = tt

    by : Tells told outcome cause → EndsWhenDone outcome (ends_with outcome ends)
    by (inl is) = subst (λ (o : Outcome). EndsWhenDone o (ends_with o ends)) (sym is) (whole told ends there)
    by (inr cut) = subst (λ (o : Outcome). EndsWhenDone o (ends_with o ends)) (sym cut.0) tt

-- where there are none
pub left-none : (told outcome last : Outcome) (left : Option Ends) (cause : Type 0) → EndsWhenDone told None → Tells told outcome cause → last ≡ outcome → left ≡ None → EndsWhenDone last left
left-none told outcome last left cause none tells last_is left_is =
    subst (λ (o : Outcome). EndsWhenDone o left) (sym last_is) (subst (EndsWhenDone outcome) (sym left_is) (by tells))
  where
    by : Tells told outcome cause → EndsWhenDone outcome None
    by (inl is) = subst (λ (o : Outcome). EndsWhenDone o None) (sym is) none
    by (inr cut) = subst (λ (o : Outcome). EndsWhenDone o None) (sym cut.0) tt

-- ---- what they stand for

abbrev pub StandIn : Option (List ℕ) → Option Ends → Type 0
StandIn source left = IfSome source (λ octets. IfSome left (AreEnds (front_read octets)))

pub none-are : (source : Option (List ℕ)) (left : Option Ends) → left ≡ None → StandIn source left
none-are source left is = subst (StandIn source) (sym is) (by source)
  where
    by : (o : Option (List ℕ)) → StandIn o None
    by None = tt
    by (Some octets) = tt

pub left-are : (source : Option (List ℕ)) (script : List ℕ) (outcome : Outcome) (ends left : Option Ends) → IfSome source (λ octets. script ≡ front_read octets) → IfSome ends (AreEnds script) → left ≡ ends_with outcome ends → StandIn source left
left-are source script outcome ends left read are is = subst (StandIn source) (sym is) (by source read)
  where
    kept : (o : Outcome) → IfSome (ends_with o ends) (AreEnds script)
    kept Done = are
    kept ReadFault = tt
    kept NoMemory = tt
    kept WriteFault = tt
    kept Outside = tt

    by : (o : Option (List ℕ)) → IfSome o (λ octets. script ≡ front_read octets) → StandIn o (ends_with outcome ends)
    by None read = tt
    by (Some octets) read = subst (λ (s : List ℕ). IfSome (ends_with outcome ends) (AreEnds s)) read (kept outcome)
