-- A call of the client that is kept, as it is known from the call below it.
use Rattle.std.proofs.Common.{◌≡◌, refl, sym, ap, subst, ◌∙◌}
use Rattle.pushclient.specs.Clients.{Client}
use Rattle.pushclient.specs.Rule.{KeptClient, StandsFor, IsClient, BothAnswer}

pub moved : (f : KeptClient → KeptClient) (g : Client → Client) → ((k : KeptClient) (p : Client) → StandsFor k p → StandsFor (f k) (g p)) → (old kept new : KeptClient) → kept ≡ old → new ≡ f kept → (p : Client) → StandsFor old p → StandsFor new (g p)
moved f g law old kept new is made p s = subst (λ k. StandsFor k (g p)) (sym (made ∙ ap f is)) (law old p s)

pub answered : {X : Type 0} (f : KeptClient → X × KeptClient) (g : Client → X × Client) → ((k : KeptClient) (p : Client) → StandsFor k p → BothAnswer (f k) (g p)) → (old kept new : KeptClient) (x : X) → kept ≡ old → x ≡ (f kept).0 → new ≡ (f kept).1 → (p : Client) → StandsFor old p → (x ≡ (g p).0) × StandsFor new (g p).1
answered f g law old kept new x is told made p s =
    let both = law old p s in
    (told ∙ ap (λ k. (f k).0) is ∙ both.0, subst (λ k. StandsFor k (g p).1) (sym (made ∙ ap (λ k. (f k).1) is)) both.1)

pub stayed : (old kept new : KeptClient) → kept ≡ old → new ≡ kept → (p : Client) → StandsFor old p → StandsFor new p
stayed old kept new is same p s = subst (λ k. StandsFor k p) (sym (same ∙ is)) s

pub told : {X : Type 0} (f : KeptClient → X) (g : Client → X) → ((k : KeptClient) (p : Client) → StandsFor k p → f k ≡ g p) → (old kept : KeptClient) (x : X) → kept ≡ old → x ≡ f kept → (p : Client) → StandsFor old p → x ≡ g p
told f g law old kept x is said p s = said ∙ ap f is ∙ law old p s

-- ---- what is kept then stands for a plain client, too

pub keeps : (f : KeptClient → KeptClient) (g : Client → Client) → ((k : KeptClient) (p : Client) → StandsFor k p → StandsFor (f k) (g p)) → (kept new : KeptClient) → new ≡ f kept → IsClient kept → IsClient new
keeps f g law kept new made is = (g is.0, moved f g law kept kept new refl made is.0 is.1)

pub keeps_answered : {X : Type 0} (f : KeptClient → X × KeptClient) (g : Client → X × Client) → ((k : KeptClient) (p : Client) → StandsFor k p → BothAnswer (f k) (g p)) → (kept new : KeptClient) → new ≡ (f kept).1 → IsClient kept → IsClient new
keeps_answered f g law kept new made is = keeps (λ k. (f k).1) (λ p. (g p).1) (λ k p s. (law k p s).1) kept new made is

pub keeps_same : (kept new : KeptClient) → new ≡ kept → IsClient kept → IsClient new
keeps_same kept new same is = (is.0, stayed kept kept new refl same is.0 is.1)
