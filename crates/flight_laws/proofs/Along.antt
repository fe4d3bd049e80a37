-- One message more comes down: what is so along the messages is so along it, too, where it is so of what was active when it was made.
--     along-more      by the messages before it
use Rattle.std.proofs.Common.{◌≡◌, ℕ, Bool, true, false, not, ◌&&◌, ◌||◌, List, [], ◌∷◌, ◌++◌, ap, ◌∙◌, refl}
use Rattle.std.specs.List.{list_any}
use Rattle.pushserver.specs.PlainHubs.{Subscription}
use Rattle.inflight.specs.Messages.{Flying, accepts_id}
use Rattle.inflight.specs.Flight.{is_so_along}
use Rattle.flight_laws.specs.Laws.{SoAlongOneMore}

or-nothing : (b : Bool) → b ≡ (b || false)
or-nothing true = refl
or-nothing false = refl

or-three : (a b c : Bool) → ((a || b) || c) ≡ (a || (b || c))
or-three true b c = refl
or-three false b c = refl

and-three : (a b c : Bool) → (a && (b && c)) ≡ ((a && b) && c)
and-three true b c = refl
and-three false b c = refl

module _ (so : List Subscription → Bool) (id : ℕ) (f : Flying) where
  pub along-more : (holds : Bool) (subscribed : List Subscription) (flying : List Flying)
      → is_so_along so id holds subscribed (flying ++ f ∷ []) ≡ (is_so_along so id holds subscribed flying && (not (holds || list_any (λ g. accepts_id id g.says) (flying ++ f ∷ [])) || so f.subscribed))
  along-more holds subscribed [] = ap (λ b. (not holds || so subscribed) && (not (holds || b) || so f.subscribed)) (or-nothing (accepts_id id f.says))
  along-more holds subscribed (g ∷ flying) =
      ap (λ b. (not holds || so subscribed) && b) (along-more (holds || accepts_id id g.says) g.subscribed flying)
      ∙ ap (λ b. (not holds || so subscribed) && (is_so_along so id (holds || accepts_id id g.says) g.subscribed flying && (not b || so f.subscribed)))
      (or-three holds (accepts_id id g.says) (list_any (λ (h : Flying). accepts_id id h.says) (flying ++ f ∷ [])))
      ∙ and-three (not holds || so subscribed) (is_so_along so id (holds || accepts_id id g.says) g.subscribed flying) (not (holds || (accepts_id id g.says || list_any (λ (h : Flying). accepts_id id h.says) (flying ++ f ∷ []))) || so f.subscribed)

pub so-along-one-more : SoAlongOneMore
so-along-one-more so id holds subscribed flying f = along-more so id f holds subscribed flying
