-- What is under way still fits when octets pass: only the place of the cut between two lists moves.
use Rattle.std.proofs.Common.{◌≡◌, ℕ, List, ◌++◌, take, drop, sym, ◌∙◌, ap, subst}
use Rattle.std.proofs.lemmas.List.{append_assoc, take-append-drop}
use Rattle.pushserver.specs.PlainHubs.{Session, Hub}
use Rattle.pushclient.specs.Clients.{Client, Connection}
use Rattle.inflight.specs.Ends.{ends_of, going_up, going_down}
use Rattle.inflight.specs.Flight.{InFlight}

-- a front of the last list goes to the end of the middle one
pub last_moves : (a b c : List ℕ) (k : ℕ) → a ++ (b ++ c) ≡ a ++ (b ++ take k c ++ drop k c)
last_moves a b c k = ap (λ x. a ++ x) (sym (append_assoc b (take k c) (drop k c) ∙ ap (λ x. b ++ x) (take-append-drop k c)))

-- a front of the middle list goes to the end of the first one
pub middle_moves : (a b c : List ℕ) (k : ℕ) → a ++ (b ++ c) ≡ a ++ take k b ++ (drop k b ++ c)
middle_moves a b c k =
    ap (λ x. a ++ (x ++ c)) (sym (take-append-drop k b)) ∙ ap (λ x. a ++ x) (append_assoc (take k b) (drop k b) c) ∙ sym (append_assoc a (take k b) (drop k b ++ c))

module _ (hub : Hub) (told : List (ℕ × ℕ)) (session : Session) (client : Client) (c : Connection) (wire other : List ℕ) (k : ℕ) where
  -- from the client's output onto the upward wire
  pub said : InFlight (ends_of hub told session client c) (going_up session c wire) other
      → InFlight (ends_of hub told session client (record c { output = drop k c.output })) (going_up session (record c { output = drop k c.output }) (wire ++ take k c.output)) other
  said f = subst (λ up. InFlight (ends_of hub told session client c) up other) (last_moves session.input wire c.output k) f

  -- from the upward wire into the session
  pub went_up : InFlight (ends_of hub told session client c) (going_up session c wire) other
      → InFlight (ends_of hub told (record session { input = session.input ++ take k wire }) client c) (going_up (record session { input = session.input ++ take k wire }) c (drop k wire)) other
  went_up f = subst (λ up. InFlight (ends_of hub told session client c) up other) (middle_moves session.input wire c.output k) f

  -- from the session's output onto the downward wire
  pub came_out : InFlight (ends_of hub told session client c) other (going_down session c wire)
      → InFlight (ends_of hub told (record session { output = drop k session.output }) client c) other (going_down (record session { output = drop k session.output }) c (wire ++ take k session.output))
  came_out f = subst (λ down. InFlight (ends_of hub told session client c) other down) (last_moves c.input wire session.output k) f

  -- from the downward wire into the client
  pub came_in : InFlight (ends_of hub told session client c) other (going_down session c wire)
      → InFlight (ends_of hub told session client (record c { input = c.input ++ take k wire })) other (going_down session (record c { input = c.input ++ take k wire }) (drop k wire))
  came_in f = subst (λ down. InFlight (ends_of hub told session client c) other down) (middle_moves c.input wire session.output k) f
