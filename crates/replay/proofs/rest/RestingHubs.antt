-- A session at rest, or one that has ended, in a later hub: what is done in it, what octets it takes, and what a call of give says of it.
--     at-in_session      what is done in the session leaves the rest of the hub
--     taken-by, at-taken      a session at rest takes octets up to its bound
--     over-taken, over-octets, give-over      an ended session takes none and gives none
--     rest-session, rest-at      what it is to be at rest
use Rattle.std.proofs.Common.{◌≡◌, ℕ, ◌-◌, ◌≤◌, min, cond, List, [], ◌++◌, length, Option, Some, None, option_map, refl, ◌∙◌, ap, subst, arith, take_all}
use Rattle.push_base.specs.Limits.{max_input}
use Rattle.push_base.specs.Cases.{is_empty}
use Rattle.dsosession.specs.declared.session.EndReason.{EndReason}
use Rattle.pushsession.specs.declared.session_status.SessionStatus.{SessionStatus}
use Rattle.pushserver.specs.declared.given.Given.TheVariants.{End}
use Rattle.pushserver.specs.PlainHubs.{Session, Hub}
use Rattle.pushserver.specs.Hubs.{in_session, taken_by, take_octets}
use Rattle.pushsession.specs.Sessions.{is_open, room_of, with_piece}
use Rattle.pushserver.specs.Giving.{did, by_standing, give}
use Rattle.livesessions.proofs.SessionLists.{found-in}
use Rattle.pushserver.proofs.hub_steps.Cases.{output_as, give_as}
use Rattle.replay.specs.SessionPieces.{IsAtRest}
use Rattle.replay.proofs.rest.AtRest.{Core, core_of, resting, At, IsOver}

-- ---- what is done in a session

pub at-in_session : (hub : Hub) (number : ℕ) (later : Hub) (s : Session) (f : Session → Session) → At hub number later s → At hub number (in_session number f later) (f s)
at-in_session hub number later s f at = record {
  is = ap (λ (h : Hub). in_session number f h) at.is;
  there = found-in number f later.sessions ∙ ap (λ (o : Option Session). option_map f o) at.there;
}

-- how many octets of a piece go in
abbrev pub taken_by_found : List ℕ → Option Session → ℕ
taken_by_found octets None = 0
taken_by_found octets (Some session) = min (length octets) (room_of session)

-- ---- a session at rest

module _ (hub : Hub) (number : ℕ) (later : Hub) (core : Core) (input : List ℕ) (at : At hub number later (resting core input [])) where
  pub taken-by : (octets : List ℕ) → taken_by later number octets ≡ min (length octets) (69633 - length input)
  taken-by octets = ap (taken_by_found octets) at.there

  pub at-taken : (piece : List ℕ) → length piece ≤ 69633 - length input → At hub number (take_octets later number piece) (resting core (input ++ piece) [])
  at-taken piece fits = subst (λ (octets : List ℕ). At hub number (take_octets later number piece) (resting core (input ++ octets) [])) (take_all (69633 - length input) piece fits)
      (at-in_session hub number later (resting core input []) (with_piece piece) at)

-- ---- a session that has ended

module _ (hub : Hub) (number : ℕ) (later : Hub) (reason : EndReason) (over : IsOver hub number later reason) where
  pub over-taken : (octets : List ℕ) → taken_by later number octets ≡ 0
  over-taken octets =
      ap (taken_by_found octets) over.at.there
      ∙ ap (λ (s : SessionStatus). min (length octets) (cond (is_open s) (max_input - length over.session.input) 0)) over.standing
      ∙ least (length octets)
    where
      least : (n : ℕ) → min n 0 ≡ 0
      least n = omega arith

  pub over-octets : (piece : List ℕ) → IsOver hub number (take_octets later number piece) reason
  over-octets piece = record { session = with_piece piece over.session; at = at-in_session hub number later over.session (with_piece piece) over.at; standing = over.standing; output = over.output }

  pub give-over : (room : ℕ) → give later number room ≡ did (End reason) later
  give-over room =
      ap (give_as later number room) over.at.there
      ∙ ap (λ (o : List ℕ). output_as later number room over.session (is_empty o)) over.output
      ∙ ap (λ (s : SessionStatus). by_standing s number room over.session later) over.standing

-- ---- what it is to be at rest

module _ (hub : Hub) (number : ℕ) (session : Session) (rest : IsAtRest hub number session) where
  pub rest-session : session ≡ resting (core_of session) session.input []
  rest-session = λ i. record {
    subscriptions = session.subscriptions;
    queue = rest.queue i;
    clocks = session.clocks;
    established = session.established;
    standing = rest.standing i;
    input = session.input;
    output = rest.output i;
    made = session.made;
  }

  -- it is in its own hub
  pub rest-at : At hub number hub (resting (core_of session) session.input [])
  rest-at = record { is = refl; there = rest.there ∙ ap (λ (s : Session). Some s) rest-session }
