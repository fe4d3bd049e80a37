-- That the numbers of a hub's sessions stay below that of the next, and that its start stays, whatever is called.
--     IsFrom start hub      the hub began with this state, and its sessions' numbers are below that of the next
--     from-kept      the steps of which calls are made keep it
--     any_sent      what lines send are pieces of any kind
--     from-lines      so do lines
use Rattle.std.proofs.Common.{◌≡◌, ℕ, ◌<◌, List, [], ◌∷◌, map, not, cond}
use Rattle.std.specs.Prelude.{◌==◌}
use Rattle.std.specs.List.{AllByRecursion}
use Rattle.rrset.proofs.Places.{all_filter}
use Rattle.history.specs.States.{State}
use Rattle.pushserver.specs.PlainHubs.{Session, Hub}
use Rattle.pushserver.specs.Hubs.{now, keeps_now, in_session, disconnect}
use Rattle.pushsession.specs.Sessions.{new_session, with_piece, asked_to_stop, without_first}
use Rattle.pushserver.proofs.Walks.{AnyMessage, IsKept}
use Rattle.scripts.specs.Lines.{ScriptLine}
use Rattle.replay.specs.World.{World}
use Rattle.replay.specs.Text.{world_after}
use Rattle.replay.proofs.worlds.KeptByLines.{AnyClient, any-clients, any-ready, keeps-lines}
use Rattle.replay.proofs.worlds.Keeping.{any-parts}
use Rattle.replay.proofs.serving.LastSession.{AreBelow, IsBehind, below-more}
use Rattle.scripts.proofs.lines.SentOctets.{sent_by}

pub record IsFrom (start : State) (hub : Hub) : Type 0 where
  pub begins : hub.start ≡ start
  pub below : IsBehind hub

below-map : (n : ℕ) (f : ℕ × Session → Session) (sessions : List (ℕ × Session)) → AreBelow n sessions → AreBelow n (map (λ e. (e.0, f e)) sessions)
below-map n f [] all = tt
below-map n f (e ∷ es) all = (all.0, below-map n f es all.1)

module _ (start : State) where
  from-map : (hub : Hub) (f : ℕ × Session → Session) → IsFrom start hub → IsFrom start (record hub { sessions = map (λ e. (e.0, f e)) hub.sessions })
  from-map hub f h = record { begins = h.begins; below = below-map hub.numbers_given f hub.sessions h.below }

  from-in_session : (hub : Hub) (number : ℕ) (f : Session → Session) → IsFrom start hub → IsFrom start (in_session number f hub)
  from-in_session hub number f h = from-map hub (λ e. cond (e.0 == number) (f e.1) e.1) h

  from-drops : (hub : Hub) (number : ℕ) → IsFrom start hub → IsFrom start (disconnect hub number)
  from-drops hub number h = record { begins = h.begins; below = all_filter (λ (e : ℕ × Session). e.0 < hub.numbers_given) (λ (e : ℕ × Session). not (e.0 == number)) hub.sessions h.below }

  pub from-kept : IsKept AnyMessage (IsFrom start)
  from-kept = record {
    reads = λ hub number session found there is h. tt;
    takes_up = λ hub number session found there is h. from-in_session hub number (without_first found.1) h;
    changes = λ hub number f step h. from-in_session hub number f h;
    enters = λ hub entry by h. record { begins = h.begins; below = below-map hub.numbers_given _ hub.sessions h.below };
    ends = λ hub point reason h. record { begins = h.begins; below = below-map hub.numbers_given _ hub.sessions h.below };
    takes_in = λ hub number piece any h. from-in_session hub number (with_piece piece) h;
    asks_stop = λ hub number rcode delay h. from-in_session hub number (asked_to_stop rcode delay) h;
    makes = λ hub h. record { begins = h.begins; below = below-more hub.numbers_given hub.sessions (new_session (keeps_now hub) (now hub)) h.below };
    drops = from-drops;
  }

any_pieces : (pieces : List (List ℕ)) → AllByRecursion AnyMessage pieces
any_pieces [] = tt
any_pieces (p ∷ ps) = (tt, any_pieces ps)

pub any_sent : (lines : List ScriptLine) → AllByRecursion (λ line. AllByRecursion AnyMessage (sent_by line)) lines
any_sent [] = tt
any_sent (line ∷ lines) = (any_pieces (sent_by line), any_sent lines)

pub from-lines : (start : State) (lines : List ScriptLine) (world : World) → IsFrom start world.hub → IsFrom start (world_after lines world).hub
from-lines start lines world h = keeps-lines AnyMessage (IsFrom start) (from-kept start) any-parts AnyClient any-clients lines world (any_sent lines) (any-ready world) h
