-- Which hub the jobs of a server share.
--     begins_one, begins_none, begins_told      one went behind a lock, or none
--     gives_up, told_not      a status that tells of no full run
--     shares_nothing, shares_read, shares_so, not-shared      what a run says of that
use Rattle.std.proofs.Common.{◌≡◌, ◌⊎◌, inl, inr, ℕ, Bool, true, false, Option, Some, Result, Ok, Err, List, refl, sym, subst}
use Rattle.push_outside.specs.Outside.{Used}
use Rattle.hubasking.specs.AskingHubs.{AskingHub}
use Rattle.hublock.specs.Registers.{entered}
use Rattle.scripts.specs.Sources.{front_read}
use Rattle.configurations.specs.Configurations.{Serving, serving_of}
use Rattle.commands.specs.Runs.{MayHaveGiven}
use Rattle.commands.specs.Serving.{BeginsBy, IsShared, Shares, first_hub, tells_full_run}
use Rattle.commands.specs.Words.{Request, Serve}

abbrev Hubs : Type 0
Hubs = Option (List AskingHub)

pub begins_one : (full : Bool) (hub : AskingHub) (before now : Hubs) → now ≡ entered before hub → BeginsBy full hub before now
begins_one true hub before now e = e
begins_one false hub before now e = inr e

pub begins_none : (full : Bool) (hub : AskingHub) (before now : Hubs) → full ≡ false → now ≡ before → BeginsBy full hub before now
begins_none full hub before now less e = subst (λ (t : Bool). BeginsBy t hub before now) (sym less) (inl e)

-- what is told is a full run only where there was one
pub begins_told : (told full : Bool) (hub : AskingHub) (before now : Hubs) → (told ≡ true → full ≡ true) → BeginsBy full hub before now → BeginsBy told hub before now
begins_told true full hub before now h begins = subst (λ (t : Bool). BeginsBy t hub before now) (h refl) begins
begins_told false true hub before now h begins = inr begins
begins_told false false hub before now h begins = begins

-- a status that is one of two, neither of which tells a full run
pub gives_up : (A : Type 0) (code : A → ℕ) (first second result : A) (X : Type 0)
    → tells_full_run (code first) ≡ false → tells_full_run (code second) ≡ false → (result ≡ first) ⊎ ((result ≡ second) × X) → tells_full_run (code result) ≡ false
gives_up A code first second result X a b (inl e) = subst (λ (r : A). tells_full_run (code r) ≡ false) (sym e) a
gives_up A code first second result X a b (inr p) = subst (λ (r : A). tells_full_run (code r) ≡ false) (sym p.0) b

pub told_not : (told full : Bool) → told ≡ false → told ≡ true → full ≡ true
told_not told full a b = absurd cc

pub shares_nothing : (read : Result Serving ℕ) (status : ℕ) (before now : Hubs) → tells_full_run status ≡ false → now ≡ before → Shares read status before now
shares_nothing (Ok configuration) status before now less e = begins_none (tells_full_run status) (first_hub configuration.head) before now less e
shares_nothing (Err number) status before now less e = e

pub shares_read : (read known : Result Serving ℕ) (status : ℕ) (before now : Hubs) → read ≡ known → Shares known status before now → Shares read status before now
shares_read read known status before now is shares = subst (λ (r : Result Serving ℕ). Shares r status before now) (sym is) shares

pub shares_so : (request : Option Request) (path : List ℕ) (used used_now : Option (List Used)) (before now : Hubs) (number code : ℕ) (octets : List ℕ) → Some (Serve path) ≡ request → code ≡ number
    → (MayHaveGiven used used_now octets → Shares (serving_of (front_read octets)) number before now) → IsShared request used used_now before now code octets
shares_so request path used used_now before now number code octets is code_is h =
    subst (λ (r : Option Request). IsShared r used used_now before now code octets) is (subst (λ (n : ℕ). IsShared (Some (Serve path)) used used_now before now n octets) (sym code_is) h)

-- where something else is asked for
pub not-shared : (request known : Option Request) (used used_now : Option (List Used)) (before now : Hubs) (code : ℕ) (octets : List ℕ)
    → known ≡ request → IsShared known used used_now before now code octets → IsShared request used used_now before now code octets
not-shared request known used used_now before now code octets is h = subst (λ (r : Option Request). IsShared r used used_now before now code octets) is h
