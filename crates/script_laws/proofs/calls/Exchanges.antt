-- What a peer sends to a session that is served is answered, and the session is served then.
--     exchange-so      the exchange
use Rattle.std.proofs.Common.{◌≡◌, ℕ, ◌≤◌, List, [], ◌++◌, length, Some, sym, ◌∙◌, ap, arith, append-nil}
use Rattle.std.specs.Prelude.{flat_map}
use Rattle.std.specs.List.{AllByRecursion}
use Rattle.dsotlv.specs.Laws.{AreOctets}
use Rattle.dsotlv.proofs.StreamLaws.{none_found}
use Rattle.pushserver.specs.PlainHubs.{Hub, Session, frame_of}
use Rattle.pushserver.specs.Hubs.{session_of}
use Rattle.pushserver.specs.Calls.{HubCall, after_calls, BringsOctets}
use Rattle.pushserver.specs.SoundHubs.{IsSoundSession}
use Rattle.pushserver.proofs.hub_steps.Pairs.{all-weaken}
use Rattle.pushtelling.specs.Runs.{handed_out, taken_in, reacted_to}
use Rattle.pushtelling.proofs.Running.{made_goes_out, each_is_reacted_to_once}
use Rattle.replay.specs.PassedOctets.{Exchanged, exchanged, enough}
use Rattle.replay.proofs.worlds.InputOctets.{HoldsOctets, octets-parts}
use Rattle.script_laws.specs.Reached.{FitsCall, FitCalls, IsReached}
use Rattle.replay.specs.LineCalls.{exchange_calls}
use Rattle.script_laws.specs.Sending.{IsServed, ExchangeSo}
use Rattle.script_laws.proofs.hubs.Reaching.{reached-go-on}
use Rattle.script_laws.proofs.hubs.Sessions.{reached-below}
use Rattle.script_laws.proofs.hubs.Sound.{reached-sound}
use Rattle.script_laws.proofs.turns.Giving.{sound-session}
use Rattle.script_laws.proofs.calls.Emitting.{exchanges, all-exchanged}
use Rattle.script_laws.proofs.calls.Messages.{reacted-small, splits-so}
use Rattle.script_laws.proofs.calls.Exchanging.{exchanges-all, done-served}

-- the hub holds octets where it is reached
pub holds-octets : (hub : Hub) → IsReached hub → HoldsOctets hub
holds-octets hub reached = all-weaken (IsSoundSession hub) (λ (e : ℕ × Session). AreOctets e.1.input) (λ e s. s.octets) hub.sessions (reached-sound hub reached).sessions

module _ (hub : Hub) (number : ℕ) (octets : List ℕ) (session : Session) (reached : IsReached hub) (there : session_of hub number ≡ Some session) (served : IsServed session) (good : AreOctets octets) (few : length octets ≤ 65537) where
  abbrev calls : List HubCall
  calls = exchange_calls enough number octets hub

  fit : FitCalls calls
  fit = all-exchanged FitsCall number (λ room. (tt, tt)) AreOctets octets-parts (λ piece good. (good, tt)) enough octets hub good

  brings : AllByRecursion BringsOctets calls
  brings = all-weaken FitsCall BringsOctets (λ call fits. fits.0) calls fit

  pub exchange-so : ExchangeSo number octets hub (exchanged enough number octets hub []) session
  exchange-so =
      let x : Exchanged = exchanged enough number octets hub [] in
      let t = exchanges-all number enough octets hub [] session reached there served good (omega (arith, few)) in
      let is = exchanges enough number octets hub [] in
      let found : session_of (after_calls calls hub) number ≡ Some t.after = ap (λ (h : Hub). session_of h number) (sym is.hub_is) ∙ t.there in
      let low = reached-below hub number session reached there in
      let out = (made_goes_out hub calls number t.after found).0 session low there in
      let old : AreOctets session.input = (sound-session hub number session (reached-sound hub reached) there).1.octets in
      let into = (each_is_reacted_to_once hub calls number t.after brings found).0 session low there old in
      let later : AreOctets t.after.input = (sound-session (after_calls calls hub) number t.after (reached-sound (after_calls calls hub) (reached-go-on hub calls reached fit)) found).1.octets in
      record {
        after = t.after;
        there = t.there;
        silent = t.silent;
        done = t.done;
        more = out.more;
        made = out.made;
        octets_are = is.octets ∙ sym (append-nil (handed_out number calls hub)) ∙ ap (λ (os : List ℕ). handed_out number calls hub ++ os) (sym t.silent) ∙ out.octets ∙ ap (λ (os : List ℕ). os ++ flat_map frame_of out.more) served.silent;
        left = t.left;
        taken = t.taken;
        all_taken = t.all_taken;
        calls = is.hub_is;
        handed = is.octets;
        messages = into;
        each = λ opened.
            let waits = (done-served t.after x.over t.silent t.done).waits opened in
            let all : taken_in number calls hub ≡ octets = sym (append-nil (taken_in number calls hub)) ∙ ap (λ (os : List ℕ). taken_in number calls hub ++ os) (sym (t.all_taken opened)) ∙ t.taken in
            let split = splits-so (reacted_to number calls hub) t.after.input (session.input ++ octets) (reacted-small number calls hub brings (holds-octets hub reached)) later
            (ap (λ (os : List ℕ). session.input ++ os) (sym all) ∙ into) in
            split ∙ (λ i. (reacted_to number calls hub ++ (none_found t.after.input waits i).0, (none_found t.after.input waits i).1)) ∙ ap (λ (ms : List (List ℕ)). (ms, t.after.input)) (append-nil (reacted_to number calls hub));
      }
