-- A line of timers names an interval that may be granted (RFC 8490, 6.5.2).
use Rattle.std.proofs.Common.{◌≡◌, ℕ, ◌≤◌, true, Option, Some, IfSome, List, subst, arith}
use Rattle.std.specs.Prelude.{nat_le}
use Rattle.std.proofs.lemmas.Bool.Decides.{nat_tests}
use Rattle.dsosession.specs.Timing.{least_keepalive}
use Rattle.scripts.specs.Lines.{Word, timers, ScriptLine, head_line, line_of}
use Rattle.scripts.proofs.lines.Readers.{OnEach, timers_reads, zone_reads, link_reads, reverse_reads, hub_reads, on_link_reads, session_reads, joining_reads, call_reads, way_reads, client_reads, line-reads}

abbrev IsGranted : ScriptLine → Type 0
IsGranted (head_line (timers i k)) = least_keepalive ≤ k
IsGranted _ = Unit {0}

long_enough : (k : ℕ) → nat_le least_keepalive k ≡ true → least_keepalive ≤ k
long_enough k h = grind (arith, nat_tests)

each_granted : (w : Word) (ws : List Word) → OnEach IsGranted w ws
each_granted w ws = record {
  on_head = (timers_reads IsGranted (λ v i is x k at long. long_enough k long) ws, (zone_reads IsGranted (λ v apex is x serial at mode. tt) ws, (link_reads IsGranted (λ v u is x domain at most. tt) ws, (reverse_reads IsGranted (λ v u is x domain at. tt) ws, tt))));
  on_hub = hub_reads IsGranted (λ event. tt) w ws;
  on_link = on_link_reads IsGranted (λ v event. tt) w ws;
  on_session = session_reads IsGranted (λ v event. tt) w ws;
  on_joining = joining_reads IsGranted (λ v is_lone. tt) w ws;
  on_call = call_reads IsGranted (λ v call. tt) w ws;
  on_way = way_reads IsGranted (λ v way. tt) w ws;
  on_client = client_reads IsGranted (λ v event. tt) w ws;
}

pub granted : (text : List ℕ) (i k : ℕ) → line_of text ≡ Some (head_line (timers i k)) → least_keepalive ≤ k
granted text i k e = subst (λ (o : Option ScriptLine). IfSome o IsGranted) e (line-reads IsGranted tt each_granted text)
