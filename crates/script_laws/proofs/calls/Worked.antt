-- The promise to who subscribes on a session that is under way has scripts of which it speaks.
use Rattle.std.proofs.Common.{◌≡◌, ℕ, true, List, [], ◌∷◌, ◌++◌, drop, Option, Some, None, codes, refl}
use Rattle.dnsname.specs.Text.{name}
use Rattle.std.specs.Prelude.{is_some}
use Rattle.dsotlv.specs.Messages.{first_message}
use Rattle.pushsession.specs.Sessions.{new_session, without_first}
use Rattle.pushserver.specs.PlainHubs.{Hub, Session}
use Rattle.pushserver.specs.Hubs.{now, keeps_now, session_of, in_session}
use Rattle.pushserver.specs.Giving.{give, reacted, after_reaction}
use Rattle.pushtelling.specs.Runs.{message_up}
use Rattle.pushtelling.proofs.Running.{give_reacts}
use Rattle.pushserver.specs.Calls.{takes, after_calls}
use Rattle.replay.specs.PassedOctets.{enough}
use Rattle.script_laws.specs.Sending.{Asks, calls_asked, AsksAnywhere}
use Rattle.script_laws.specs.WorkedSends.{peer, second_sent, lines_before, world_before}

abbrev script : List ℕ
script =
    codes "zone example.com. 1 open" ++ 10 ∷ (codes "send p 0023000130000000000000000000004000130161076578616d706c6503636f6d0000010001" ++ 10
    ∷ (codes "update 000128000001000000010000076578616d706c6503636f6d00000600010161c00c000100010000003c0004c0000201" ++ 10 ∷ (codes "send p 002100023000000000000000000000400011076578616d706c6503636f6d0000060001" ++ 10 ∷ [])))

abbrev asked : Asks
asked = record {
  before = lines_before;
  word = peer;
  octets = second_sent;
  behind = [];
  number = 0;
  world = world_before;
  front = [];
  message = drop 2 second_sent;
  question = record { name = name (codes "example.com."); kind = 6; class = 1 };
}

abbrev hub_then : Hub
hub_then = after_calls (takes 0 second_sent ∷ []) world_before.hub

abbrev session_then : Session
session_then = elim (session_of hub_then 0) as (λ _. Session) [ None ↦ new_session (keeps_now hub_then) (now hub_then) | Some session ↦ session ]

some-or : (o : Option Session) (other : Session) → is_some o ≡ true → o ≡ Some (elim o as (λ _. Session) [ None ↦ other | Some session ↦ session ])
some-or None other is = absurd cc
some-or (Some session) other is = refl

is-there : session_of hub_then 0 ≡ Some session_then
is-there = some-or (session_of hub_then 0) (new_session (keeps_now hub_then) (now hub_then)) refl

is-up : message_up hub_then 0 ≡ drop 2 second_sent ∷ []
is-up = refl

abbrev reacts : (rest : List ℕ) × (first_message session_then.input ≡ Some (drop 2 second_sent, rest))
    × (give hub_then 0 enough ≡ after_reaction 0 enough (reacted (drop 2 second_sent) 0 (in_session 0 (without_first rest) hub_then)))
reacts = give_reacts hub_then 0 enough session_then (drop 2 second_sent) is-there is-up

asks : AsksAnywhere script asked
asks = record {
  read = refl;
  place = refl;
  turn = record {
    first = takes 0 second_sent ∷ [];
    room = enough;
    last = drop 2 (calls_asked asked);
    calls_are = refl;
    before = refl;
    session = session_then;
    there = is-there;
    live = refl;
    silent = refl;
    rest = reacts.0;
    stands_first = reacts.1;
    reacts = reacts.2;
  };
  acceptable = record { request = refl; accepted = refl };
}
