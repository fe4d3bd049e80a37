-- A history that has grown stays so, whatever is called.
--     stays-longer      the law
--     longer-lines      so it does behind lines
use Rattle.std.proofs.Common.{◌<◌, List, [], ◌∷◌, ◌++◌, length, arith, length-append}
use Rattle.history.specs.declared.entry.Entry.{Entry}
use Rattle.pushserver.specs.PlainHubs.{Hub}
use Rattle.pushserver.proofs.Walks.{AnyMessage, IsKept, walks_alone, walks-reacted, walks-after_reaction}
use Rattle.scripts.specs.Lines.{ScriptLine}
use Rattle.replay.specs.World.{World}
use Rattle.replay.specs.Text.{world_after}
use Rattle.replay.proofs.rest.AtRest.{Longer, StaysLonger}
use Rattle.replay.proofs.worlds.KeptByLines.{AnyClient, any-clients, any-ready, keeps-lines}
use Rattle.replay.proofs.worlds.Keeping.{any-parts, keeps-emitted, give-keeps, exchanged-keeps}
use Rattle.replay.proofs.worlds.Numbers.{any_sent}

longer-kept : (hub : Hub) → IsKept AnyMessage (Longer hub)
longer-kept hub = record {
  reads = λ later number session found there is h. tt;
  takes_up = λ later number session found there is h. h;
  changes = λ later number f step h. h;
  enters = λ later entry by h. one_more later.history entry h;
  ends = λ later point reason h. h;
  takes_in = λ later number piece any h. h;
  asks_stop = λ later number rcode delay h. h;
  makes = λ later h. h;
  drops = λ later number h. h;
}
  where
    one_more : (history : List Entry) (entry : Entry) → length hub.history < length history → length hub.history < length (history ++ entry ∷ [])
    one_more history entry h = omega (arith, h, length-append history (entry ∷ []))

pub stays-longer : (hub : Hub) → StaysLonger hub
stays-longer hub =
    let kept = longer-kept hub in
    let walks = walks_alone AnyMessage (Longer hub) kept in
    record {
      reacted = λ later message number h. walks-reacted AnyMessage number (Longer hub) (Longer hub) (walks number) later message tt h;
      after_reaction = λ later number room h. walks-after_reaction AnyMessage number (Longer hub) (Longer hub) (walks number) room later h;
      give = λ later number room h. give-keeps AnyMessage (Longer hub) kept number later room h;
      emitted = λ turns number budget so_far h. keeps-emitted (Longer hub) number (give-keeps AnyMessage (Longer hub) kept number) turns budget so_far h;
      exchanged = λ turns number octets later so_far h. exchanged-keeps AnyMessage (Longer hub) kept any-parts turns number octets later so_far tt h;
    }

pub longer-lines : (hub : Hub) (lines : List ScriptLine) (world : World) → Longer hub world.hub → Longer hub (world_after lines world).hub
longer-lines hub lines world h = keeps-lines AnyMessage (Longer hub) (longer-kept hub) any-parts AnyClient any-clients lines world (any_sent lines) (any-ready world) h
