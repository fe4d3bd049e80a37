-- Further calls lead on from hubs to which calls lead, and the newest point never goes back.
--     calls-append      calls one behind the other
--     reached-go-on, begun-go-on, points-rise
use Rattle.std.proofs.Common.{◌≡◌, ◌≤◌, List, [], ◌∷◌, ◌++◌, length, sym, ◌∙◌, ap, arith, length-append}
use Rattle.std.proofs.lemmas.List.Sums.{fold-append}
use Rattle.coalesce.proofs.ReadBack.{each-append}
use Rattle.history.specs.declared.entry.Entry.{Entry}
use Rattle.pushserver.specs.Calls.{HubCall, called, after_calls}
use Rattle.pushserver.specs.PlainHubs.{Hub, new_hub}
use Rattle.pushserver.proofs.Walks.{AnyMessage, IsKept, bring_any, keeps-calls}
use Rattle.script_laws.specs.Reached.{FitsCall, ReachedOnesGoOn, BegunOnesGoOn, PointsRise}

pub calls-append : (calls more : List HubCall) (hub : Hub) → after_calls (calls ++ more) hub ≡ after_calls more (after_calls calls hub)
calls-append calls more hub = fold-append (λ (h : Hub) (c : HubCall). called c h) hub calls more

pub reached-go-on : ReachedOnesGoOn
reached-go-on hub calls r fit = record {
  start = r.start;
  timers = r.timers;
  calls = r.calls ++ calls;
  homes = r.homes;
  granted = r.granted;
  fit = each-append FitsCall r.calls calls r.fit fit;
  is = ap (λ (h : Hub). after_calls calls h) r.is ∙ sym (calls-append r.calls calls (new_hub r.start r.timers));
}

pub begun-go-on : BegunOnesGoOn
begun-go-on hub number start calls b fit = record {
  first = b.first;
  calls = b.calls ++ calls;
  reached = b.reached;
  fit = each-append FitsCall b.calls calls b.fit fit;
  fresh = b.fresh;
  newest_then = b.newest_then;
  is = ap (λ (h : Hub). after_calls calls h) b.is ∙ sym (calls-append b.calls calls b.first);
}

-- ---- the newest point

abbrev HasRisen : Hub → Hub → Type 0
HasRisen hub later = length hub.history ≤ length later.history

risen-kept : (hub : Hub) → IsKept AnyMessage (HasRisen hub)
risen-kept hub = record {
  reads = λ later number session found there is h. tt;
  takes_up = λ later number session found there is h. h;
  changes = λ later number f step h. h;
  enters = λ later entry by h. one_more later.history entry h;
  ends = λ later point reason h. h;
  takes_in = λ later number piece any h. h;
  asks_stop = λ later number rcode delay h. h;
  makes = λ later h. h;
  drops = λ later number h. h;
}
  where
    one_more : (history : List Entry) (entry : Entry) → length hub.history ≤ length history → length hub.history ≤ length (history ++ entry ∷ [])
    one_more history entry h = omega (arith, h, length-append history (entry ∷ []))

pub points-rise : PointsRise
points-rise hub calls = keeps-calls AnyMessage (HasRisen hub) (risen-kept hub) calls hub (bring_any calls) (omega arith)
