-- When `give` has nothing to say, by what its session is.
--     IsQuiet hub session      live, without output, without a whole message, and with no net that has a notice
--     quiet-given, given-quiet      such sessions and no others are answered so
use Rattle.std.proofs.Common.{◌≡◌, ℕ, ◌<◌, Bool, true, false, cond, List, [], ◌∷◌, ◌++◌, length, Option, Some, None, option_map, sym, ◌∙◌, ap, refl, arith}
use Rattle.std.specs.Prelude.{min}
use Rattle.std.specs.List.{list_all}
use Rattle.push_base.specs.Cases.{is_empty}
use Rattle.dnsname.specs.Names.{Labels}
use Rattle.dsotlv.specs.Messages.{frame, first_message}
use Rattle.dsotlv.specs.declared.message.Notice.{Notice}
use Rattle.dsotlv.specs.Answers.{push_message}
use Rattle.coalesce.specs.Net.{packed}
use Rattle.coalesce.proofs.Packing.{packs_nothing_of_nothing}
use Rattle.pushsession.specs.declared.session_status.SessionStatus.{SessionStatus}
use Rattle.pushsession.specs.declared.session_status.SessionStatus.TheVariants.{Live, AskedToStop, Stopped, Ended}
use Rattle.pushserver.specs.declared.given.Given.{Given}
use Rattle.pushserver.specs.declared.given.Given.TheVariants.{Bytes, Worked, Nothing}
use Rattle.pushsession.specs.Sessions.{stopped, without_first}
use Rattle.pushsession.specs.Subscribing.{says_notices, with_next_push}
use Rattle.pushserver.specs.PlainHubs.{Hub, Session, Giving, nets_of, stays_queued}
use Rattle.pushserver.specs.Hubs.{now, keeps_now, tells_now, session_of, in_session}
use Rattle.pushserver.specs.Giving.{copies_or, given_after, after_reaction, after_packing, reacted, by_standing, give}
use Rattle.livesessions.proofs.SessionLists.{found-in}
use Rattle.pushserver.proofs.hub_steps.Cases.{copies_as, found_as, works_as, output_as, give_as}

-- ---- what a message that is taken up gives

copies_or-other : (given : Given) (number room : ℕ) (session : Session) (hub : Hub) → (given ≡ Nothing → ⊥) → (copies_or given number room session hub).given ≡ Nothing → ⊥
copies_or-other given number room session hub other is = by (is_empty session.output) is
  where
    by : (b : Bool) → (copies_as hub number room session given b).given ≡ Nothing → ⊥
    by true is = other is
    by false is = cc

given_after-other : (standing : SessionStatus) → given_after standing ≡ Nothing → ⊥
given_after-other (Ended reason) is = cc
given_after-other (AskedToStop rcode delay) is = cc
given_after-other (Stopped since) is = cc
given_after-other Live is = cc

after_reaction-other : (number room : ℕ) (hub : Hub) → (after_reaction number room hub).given ≡ Nothing → ⊥
after_reaction-other number room hub is = by (session_of hub number) is
  where
    by : (o : Option Session) → (found_as hub number room Worked given_after o).given ≡ Nothing → ⊥
    by None is = cc
    by (Some session) is = copies_or-other (given_after session.standing) number room session hub (given_after-other session.standing) is

-- ---- what packing gives

-- a frame has octets
some_octets : (octets : List ℕ) → 0 < length octets → is_empty octets ≡ false
some_octets [] some = absurd (omega (arith, some))
some_octets (o ∷ os) some = refl

some_framed : (message : List ℕ) → is_empty (frame message) ≡ false
some_framed message = some_octets (frame message) (omega arith)

says-silent : (hub : Hub) (notices : List Notice) (session : Session) → session.output ≡ [] → is_empty (says_notices (keeps_now hub) (now hub) notices session).output ≡ is_empty notices
says-silent hub [] session silent = ap (λ (o : List ℕ). is_empty o) silent
says-silent hub (n ∷ ns) session silent = ap (λ (o : List ℕ). is_empty (o ++ frame (push_message (n ∷ ns)))) silent ∙ some_framed (push_message (n ∷ ns))

-- ---- the session of the call

-- each name that waits with its net
abbrev nets : Hub → Session → List (Labels × List Notice)
nets hub session = nets_of hub.start hub.history session.subscriptions session.queue

abbrev pub are_empty : Hub → Session → Bool
are_empty hub session = list_all (λ e. is_empty e.1) (nets hub session)

abbrev pub IsQuiet : Hub → Session → Type 0
IsQuiet hub session = (session.standing ≡ Live) × (session.output ≡ []) × (first_message session.input ≡ None) × (are_empty hub session ≡ true)

module _ (hub : Hub) (number room : ℕ) (session : Session) (has : session_of hub number ≡ Some session) where
  abbrev packing_names : Session → Session
  packing_names s = with_next_push (keeps_now hub) (tells_now hub) (now hub) s

  abbrev later : Hub
  later = in_session number packing_names hub

  abbrev written : Given
  written = Bytes (min room (length (packing_names session).output))

  packs-silent : session.output ≡ [] → is_empty (packing_names session).output ≡ are_empty hub session
  packs-silent silent =
      says-silent hub (packed (nets hub session)).0 (record session { queue = stays_queued (packed (nets hub session)).1 session.queue }) silent
      ∙ packs_nothing_of_nothing (nets hub session)

  given-of : (b : Bool) → (copies_as later number room (packing_names session) Nothing b).given ≡ cond b Nothing written
  given-of true = refl
  given-of false = refl

  packing : session.output ≡ [] → (after_packing number room later).given ≡ cond (are_empty hub session) Nothing written
  packing silent =
      ap (λ (o : Option Session). (found_as later number room Nothing (λ standing. Nothing) o).given)
      (found-in number packing_names hub.sessions ∙ ap (option_map packing_names) has)
      ∙ given-of (is_empty (packing_names session).output) ∙ ap (λ (b : Bool). cond b Nothing written) (packs-silent silent)

  -- ---- the cases in their order

  give-is : give hub number room ≡ output_as hub number room session (is_empty session.output)
  give-is = ap (give_as hub number room) has

  pub quiet-given : IsQuiet hub session → (give hub number room).given ≡ Nothing
  quiet-given (live, silent, none, empty) =
      ap (λ (g : Giving). g.given) (give-is ∙ ap (λ (o : List ℕ). output_as hub number room session (is_empty o)) silent ∙ ap (λ (s : SessionStatus). by_standing s number room session hub) live ∙ ap (works_as hub number room) none)
      ∙ packing silent ∙ ap (λ (b : Bool). cond b Nothing written) empty

  from_nets : (b : Bool) → are_empty hub session ≡ b → cond b Nothing written ≡ Nothing → are_empty hub session ≡ true
  from_nets true e is = e
  from_nets false e is = cc

  from_message : session.output ≡ [] → session.standing ≡ Live → (o : Option (List ℕ × List ℕ)) → first_message session.input ≡ o → (works_as hub number room o).given ≡ Nothing → IsQuiet hub session
  from_message silent live (Some found) e is = absurd (after_reaction-other number room (reacted found.0 number (in_session number (without_first found.1) hub)) is)
  from_message silent live None e is = (live, silent, e, from_nets (are_empty hub session) refl (sym (packing silent) ∙ is))

  from_standing : session.output ≡ [] → (s : SessionStatus) → session.standing ≡ s → (by_standing s number room session hub).given ≡ Nothing → IsQuiet hub session
  from_standing silent (Ended reason) e is = cc
  from_standing silent (AskedToStop rcode delay) e is = absurd (after_reaction-other number room (in_session number (stopped (keeps_now hub) rcode delay (now hub)) hub) is)
  from_standing silent (Stopped since) e is = cc
  from_standing silent Live e is = from_message silent e (first_message session.input) refl is

  from_output : (o : List ℕ) → session.output ≡ o → (output_as hub number room session (is_empty o)).given ≡ Nothing → IsQuiet hub session
  from_output [] e is = from_standing e session.standing refl is
  from_output (x ∷ xs) e is = cc

  pub given-quiet : (give hub number room).given ≡ Nothing → IsQuiet hub session
  given-quiet is = from_output session.output refl (sym (ap (λ (g : Giving). g.given) give-is) ∙ is)
