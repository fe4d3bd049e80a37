-- What was written for a reply.
use Rattle.std.proofs.Common.{◌≡◌, ◌⊎◌, inl, inr, ⊎_elim, ℕ, Option, Some, None, IfSome, List, [], refl, sym, ◌∙◌, ap, subst, codes}
use Rattle.scripts.specs.declared.outcome.Outcome.{Outcome}
use Rattle.scripts.specs.declared.outcome.Outcome.TheVariants.{WriteFault}
use Rattle.scripts.specs.Outcomes.{status_of}
use Rattle.scripts.specs.Reply.{Reply, Tells, In_full, Unread, Starved, Answers}
use Rattle.push_base.specs.Written.{IsFrontOf, Took}
use Rattle.scripts.specs.Words.{line}
use Rattle.scripts.specs.Sources.{front_read}

-- what `tell` ensures
abbrev pub Said : Option (List ℕ) → Option (List ℕ) → Outcome → List ℕ → Outcome → Type 0
Said before now status text result =
    Took before now (λ wrote. ((result ≡ status) × (wrote ≡ text)) ⊎ ((result ≡ WriteFault) × IsFrontOf wrote text))

-- telling a whole text, or failing at it, answers the reply
pub answered : (cause : Type 0) (reply : Reply) (before now : Option (List ℕ)) (status result : Outcome) (text : List ℕ)
    → Tells cause reply (status_of status) text → Said before now status text result → Took before now (Answers cause reply (status_of result))
answered cause reply before now status result text is said = (
  said.0,
  said.1,
  ⊎_elim
      (λ whole. inl (subst (λ s. Tells cause reply (status_of s) said.0) (sym whole.0) (subst (λ w. Tells cause reply (status_of status) w) (sym whole.1) is)))
      (λ cut. inr (ap status_of cut.0, status_of status, text, is, cut.1))
      said.2,
)

pub always : {A : Type 0} (o : Option A) (P : A → Type 0) → ((x : A) → P x) → IfSome o P
always None P h = tt
always (Some x) P h = h x

-- what was read is no script's, and no reply was begun
pub unread_is : (cause : Type 0) (reply : Reply) → cause → Tells cause reply 3 (line (codes "read fault"))
unread_is cause reply came = Unread came refl refl

-- memory ran out before anything was written
pub starved_is : (cause : Type 0) (reply : Reply) → Tells cause reply 4 (line (codes "no memory"))
starved_is cause reply = Starved [] (reply.text, refl) refl refl

-- what a script is answered, where the source tells what it had
abbrev pub Replied : (List ℕ → Reply) → Type 0 → Option (List ℕ) → Option (List ℕ) → Option (List ℕ) → Outcome → Type 0
Replied replies cause left before now result = IfSome left (λ octets. Took before now (Answers cause (replies (front_read octets)) (status_of result)))

-- a whole reply was told
pub replied : (replies : List ℕ → Reply) (cause : Type 0) (left before now : Option (List ℕ)) (script text : List ℕ) (status told result : Outcome)
    → IfSome left (λ octets. script ≡ front_read octets) → record { status = status_of told; text = text } ≡ replies script
    → status ≡ told → Said before now status text result → Replied replies cause left before now result
replied replies cause None before now script text status told result read is status_is said = tt
replied replies cause (Some octets) before now script text status told result read is status_is said =
    let reply = replies (front_read octets) in
    let whole = is ∙ ap replies read in
    answered cause reply before now status result text (In_full (ap status_of status_is ∙ ap (λ (r : Reply). r.status) whole) (ap (λ (r : Reply). r.text) whole)) said

-- so it is of an outcome that is the same
pub replied_as : (replies : List ℕ → Reply) (cause : Type 0) (left before now : Option (List ℕ)) (told result : Outcome) → result ≡ told → Replied replies cause left before now told → Replied replies cause left before now result
replied_as replies cause left before now told result is h = subst (Replied replies cause left before now) (sym is) h

-- a cause that brings another one
pub with_cause : (cause wider : Type 0) (reply : Reply) (status : ℕ) (text : List ℕ) → (cause → wider) → Tells cause reply status text → Tells wider reply status text
with_cause cause wider reply status text brings (In_full s t) = In_full s t
with_cause cause wider reply status text brings (Unread came s t) = Unread (brings came) s t
with_cause cause wider reply status text brings (Starved front is s t) = Starved front is s t

pub answers_with_cause : (cause wider : Type 0) (reply : Reply) (status : ℕ) (wrote : List ℕ) → (cause → wider) → Answers cause reply status wrote → Answers wider reply status wrote
answers_with_cause cause wider reply status wrote brings (inl told) = inl (with_cause cause wider reply status wrote brings told)
answers_with_cause cause wider reply status wrote brings (inr cut) = inr (cut.0, cut.1, cut.2, with_cause cause wider reply cut.1 cut.2 brings cut.3, cut.4)
