-- Where memory may be wanted, of what is kept and of the plain hub.
--     may-want      what is kept wants memory only where the plain hub may
use Rattle.std.proofs.Common.{◌≡◌, ℕ, List, Option, Some, None, refl, sym, subst, ◌∙◌}
use Rattle.std.specs.Prelude.{option_map}
use Rattle.dsotlv.specs.Messages.{first_message}
use Rattle.pushsession.specs.Kept.{KeptSession}
use Rattle.pushsession.specs.Reactions.{TakesMemory, request_in}
use Rattle.pushserver.specs.PlainHubs.{Hub, Session}
use Rattle.pushserver.specs.Hubs.{session_of}
use Rattle.pushserver.specs.Laws.{MayWantMemory}
use Rattle.pushserver.specs.KeptHubs.{KeptHub, StandsFor}
use Rattle.pushserver.proofs.hub_steps.Standing.{FoundBoth, both_found, fitting}

-- the plain session is as the kept one that wants memory
pub may-want : (k : KeptHub) (hub : Hub) (number : ℕ) → MayWantMemory k number → StandsFor k hub → MayWantMemory hub number
may-want k hub number wanted stands =
    by (session_of hub number) refl (subst (λ (o : Option KeptSession). FoundBoth hub number o (session_of hub number)) wanted.there (both_found hub number k.sessions hub.sessions (fitting stands)))
  where
    by : (o : Option Session) → session_of hub number ≡ o → FoundBoth hub number (Some wanted.session) o → MayWantMemory hub number
    by None at both = absurd both
    by (Some p) at both = record {
      session = p;
      there = at;
      wants = record {
        live = sym both.stands.standing ∙ wanted.wants.live;
        silent = sym both.stands.output ∙ wanted.wants.silent;
        reads = subst TakesMemory (λ i. option_map (λ (m : List ℕ). request_in m (both.stands.established i)) (option_map (λ (f : List ℕ × List ℕ). f.0) (first_message (both.stands.input i)))) wanted.wants.reads;
      };
    }
