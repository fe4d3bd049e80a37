-- Calls for one session lead from a hub to a later one.
--     IsLedTo number hub later
--     led-none, led-one, led-both      by no call, by one, by some and others behind them
use Rattle.std.proofs.Common.{◌≡◌, ℕ, List, [], ◌∷◌, ◌++◌, refl, sym, ◌∙◌, ap}
use Rattle.std.proofs.lemmas.List.Sums.{fold-append}
use Rattle.coalesce.proofs.ReadBack.{each-append}
use Rattle.pushserver.specs.PlainHubs.{Hub}
use Rattle.pushserver.specs.Calls.{HubCall, called, after_calls}
use Rattle.script_laws.specs.Reached.{FitsCall, FitCalls, IsFor, AreFor}

pub record IsLedTo (number : ℕ) (hub later : Hub) : Type 0 where
  pub calls : List HubCall
  pub fit : FitCalls calls
  pub own : AreFor number calls
  pub is : later ≡ after_calls calls hub

pub led-none : (number : ℕ) (hub : Hub) → IsLedTo number hub hub
led-none number hub = record { calls = []; fit = tt; own = tt; is = refl }

pub led-one : (number : ℕ) (hub : Hub) (call : HubCall) → FitsCall call → IsFor number call → IsLedTo number hub (called call hub)
led-one number hub call fits own = record { calls = call ∷ []; fit = (fits, tt); own = (own, tt); is = refl }

pub led-both : (number : ℕ) (hub between later : Hub) → IsLedTo number hub between → IsLedTo number between later → IsLedTo number hub later
led-both number hub between later first second = record {
  calls = first.calls ++ second.calls;
  fit = each-append FitsCall first.calls second.calls first.fit second.fit;
  own = each-append (IsFor number) first.calls second.calls first.own second.own;
  is = second.is ∙ ap (λ (h : Hub). after_calls second.calls h) first.is ∙ sym (fold-append (λ (h : Hub) (call : HubCall). called call h) hub first.calls second.calls);
}
