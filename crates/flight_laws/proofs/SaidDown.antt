-- Whole messages that the session made go behind those that come down.
--     more-made, more-octets      what was made, and what comes down
--     said-comes-down      as octets
use Rattle.std.proofs.Common.{◌≡◌, ℕ, List, ◌++◌, map, sym, ap, ◌∙◌, subst}
use Rattle.std.proofs.lemmas.List.{map-append, append_assoc}
use Rattle.std.proofs.lemmas.Grind.{flat_map-append}
use Rattle.dsotlv.specs.Messages.{frame}
use Rattle.dsosession.specs.declared.session.Timers.{Timers}
use Rattle.pushserver.specs.PlainHubs.{Made}
use Rattle.pushclient.specs.ServerMessages.{server_octets}
use Rattle.inflight.specs.Messages.{Flying, made_of, flying_octets}
use Rattle.flight_laws.specs.Reacting.{SaidComesDown}

pub more-made : (timers : Timers) (made taken : List Made) (flying said : List Flying) → made ≡ taken ++ map (made_of timers) flying → made ++ map (made_of timers) said ≡ taken ++ map (made_of timers) (flying ++ said)
more-made timers made taken flying said is =
    ap (λ l. l ++ map (made_of timers) said) is ∙ append_assoc taken (map (made_of timers) flying) (map (made_of timers) said) ∙ ap (λ (l : List Made). taken ++ l) (sym (map-append (made_of timers) flying said))

pub more-octets : (timers : Timers) (down : List ℕ) (flying said : List Flying) → down ≡ flying_octets timers flying → down ++ flying_octets timers said ≡ flying_octets timers (flying ++ said)
more-octets timers down flying said is = ap (λ l. l ++ flying_octets timers said) is ∙ sym (flat_map-append (λ (f : Flying). frame (server_octets timers f.says)) flying said)

pub said-comes-down : SaidComesDown
said-comes-down e later taken flying said ups up down made whole same_timers more whole_up fit = record {
  taken = taken;
  flying = flying ++ said;
  ups = ups;
  made = subst (λ (t : Timers). later.made ≡ taken ++ map (made_of t) (flying ++ said)) (sym same_timers) (more ∙ more-made e.timers e.made taken flying said made);
  whole_down = subst (λ (t : Timers). down ++ flying_octets e.timers said ≡ flying_octets t (flying ++ said)) (sym same_timers) (more-octets e.timers down flying said whole);
  whole_up = whole_up;
  fit = fit;
}
