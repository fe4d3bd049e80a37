-- What holds of all that a call of `give` may do.
--     give-walk      by its leaves: something was done without octets, or an output of the session is copied that isn't empty
--     gives-written      the octets copied are as many as it tells, and none come with another answer
--     gives-whole      with room for a frame, more room changes nothing
use Rattle.std.proofs.Common.{◌≡◌, ℕ, ◌≤◌, ◌==◌, Bool, true, false, cond, List, [], ◌∷◌, ◌++◌, min, map, length, take, drop, find, Option, Some, None, option_map, sym, ◌∙◌, ap, subst, refl, arith, take_all}
use Rattle.std.proofs.lemmas.List.{length-take}
use Rattle.std.proofs.Math.Seq.{take-append_seam}
use Rattle.std.proofs.Math.ListN.{drop_of_length-le}
use Rattle.std.specs.List.{AllByRecursion}
use Rattle.push_base.specs.Cases.{is_empty}
use Rattle.coalesce.specs.Sides.{frame_octets}
use Rattle.dsotlv.specs.Messages.{first_message}
use Rattle.dsosession.specs.declared.session.EndReason.TheVariants as ends
use Rattle.pushsession.specs.declared.session_status.SessionStatus.{SessionStatus}
use Rattle.pushsession.specs.declared.session_status.SessionStatus.TheVariants.{Live, AskedToStop, Stopped, Ended}
use Rattle.pushserver.specs.declared.given.Given.{Given}
use Rattle.pushserver.specs.declared.given.Given.TheVariants.{Bytes, Worked, Nothing, Ending, End}
use Rattle.pushserver.specs.PlainHubs.{Session, Hub, Giving}
use Rattle.pushserver.specs.Hubs.{now, keeps_now, tells_now, session_of, in_session}
use Rattle.pushsession.specs.Sessions.{without_first, stopped}
use Rattle.pushserver.specs.Giving.{did, copies, copies_or, given_after, after_reaction, after_packing, works, by_standing, reacted, give}
use Rattle.pushsession.specs.Subscribing.{with_next_push}
use Rattle.pushserver.specs.Counting.{octets_of}
use Rattle.pushserver.specs.KeptHubs.{KeptHub, StandsFor}
use Rattle.pushserver.specs.SoundHubs.{IsSoundSession}
use Rattle.pushserver.proofs.hub_steps.Pairs.{all-weaken}
use Rattle.pushserver.specs.Simulation.{GivesStand}
use Rattle.pushserver.proofs.hub_steps.Cases.{copies_as, found_as, works_as, output_as, give_as}
use Rattle.replay.specs.KeptExchanges.{written}

abbrev pub is_bytes : Given → Bool
is_bytes (Bytes n) = true
is_bytes _ = false

module _ (number : ℕ) (P : (ℕ → Giving) → Type 0)
    (done : (given : Given) (hub : Hub) → is_bytes given ≡ false → P (λ room. did given hub))
    (copied : (session : Session) (hub : Hub) → session_of hub number ≡ Some session → is_empty session.output ≡ false → P (λ room. copies number room session hub)) where
  copies_or-walk : (given : Given) (session : Session) (hub : Hub) → is_bytes given ≡ false → session_of hub number ≡ Some session → P (λ room. copies_or given number room session hub)
  copies_or-walk given session hub is found = by (is_empty session.output) refl
    where
      by : (b : Bool) → is_empty session.output ≡ b → P (λ room. copies_as hub number room session given b)
      by true none = done given hub is
      by false some = copied session hub found some

  given_after-is : (s : SessionStatus) → is_bytes (given_after s) ≡ false
  given_after-is Live = refl
  given_after-is (AskedToStop rcode delay) = refl
  given_after-is (Stopped since) = refl
  given_after-is (Ended reason) = refl

  found-walk : (none : Given) (given : SessionStatus → Given) (hub : Hub) → is_bytes none ≡ false → ((s : SessionStatus) → is_bytes (given s) ≡ false) → (o : Option Session) → session_of hub number ≡ o → P (λ room. found_as hub number room none given o)
  found-walk none given hub is are None e = done none hub is
  found-walk none given hub is are (Some session) e = copies_or-walk (given session.standing) session hub (are session.standing) e

  reaction-walk : (hub : Hub) → P (λ room. after_reaction number room hub)
  reaction-walk hub = found-walk Worked given_after hub refl given_after-is (session_of hub number) refl

  packing-walk : (hub : Hub) → P (λ room. after_packing number room hub)
  packing-walk hub = found-walk Nothing (λ standing. Nothing) hub refl (λ standing. refl) (session_of hub number) refl

  works-walk : (session : Session) (hub : Hub) → P (λ room. works number room session hub)
  works-walk session hub = by (first_message session.input)
    where
      by : (o : Option (List ℕ × List ℕ)) → P (λ room. works_as hub number room o)
      by None = packing-walk (in_session number (with_next_push (keeps_now hub) (tells_now hub) (now hub)) hub)
      by (Some found) = reaction-walk (reacted found.0 number (in_session number (without_first found.1) hub))

  standing-walk : (s : SessionStatus) (session : Session) (hub : Hub) → P (λ room. by_standing s number room session hub)
  standing-walk (Ended reason) session hub = done (End reason) hub refl
  standing-walk (Stopped since) session hub = done Ending hub refl
  standing-walk Live session hub = works-walk session hub
  standing-walk (AskedToStop rcode delay) session hub = reaction-walk (in_session number (stopped (keeps_now hub) rcode delay (now hub)) hub)

  pub give-walk : (hub : Hub) → P (λ room. give hub number room)
  give-walk hub = by (session_of hub number) refl
    where
      by_output : (session : Session) → session_of hub number ≡ Some session → (b : Bool) → is_empty session.output ≡ b → P (λ room. output_as hub number room session b)
      by_output session e false some = copied session hub e some
      by_output session e true none = standing-walk session.standing session hub

      by : (o : Option Session) → session_of hub number ≡ o → P (λ room. give_as hub number room o)
      by None e = done (End ends.Gone) hub refl
      by (Some session) e = by_output session e (is_empty session.output) refl

-- ---- the octets copied

-- as many octets were given as it tells
abbrev pub IsCounted : Giving → Type 0
IsCounted g = octets_of g.given ≡ length g.octets

counts_done : (given : Given) (hub : Hub) → is_bytes given ≡ false → IsCounted (did given hub)
counts_done (Bytes n) hub is = absurd cc
counts_done Worked hub is = refl
counts_done Nothing hub is = refl
counts_done Ending hub is = refl
counts_done (End reason) hub is = refl

pub gives-counted : (hub : Hub) (number room : ℕ) → IsCounted (give hub number room)
gives-counted hub number room = give-walk number (λ f. (room : ℕ) → IsCounted (f room)) (λ given h is r. counts_done given h is) (λ session h found some r. sym (length-take r session.output)) hub room

none_are : (xs : List ℕ) → 0 ≡ length xs → [] ≡ xs
none_are [] e = refl
none_are (x ∷ xs) e = absurd (omega (arith, e))

-- what lies in the buffer behind such a call are its octets
pub written-given : (given : Given) (xs buffer : List ℕ) → octets_of given ≡ length xs → written given (xs ++ drop (length xs) buffer) ≡ xs
written-given Worked xs buffer e = none_are xs e
written-given Nothing xs buffer e = none_are xs e
written-given Ending xs buffer e = none_are xs e
written-given (End reason) xs buffer e = none_are xs e
written-given (Bytes n) xs buffer e = (let rest = drop (length xs) buffer in ap (λ m. take m (xs ++ rest)) e ∙ take-append_seam xs rest)

-- ---- room for a frame

abbrev Fits : ℕ × Session → Type 0
Fits e = length e.1.output ≤ frame_octets

abbrev pub AllFit : Hub → Type 0
AllFit hub = AllByRecursion Fits hub.sessions

-- where the sessions fit after a call without room, more room than a frame changes nothing
abbrev pub IsRoomy : (ℕ → Giving) → Type 0
IsRoomy f = AllFit (f 0).hub → (room : ℕ) → frame_octets ≤ room → f room ≡ f frame_octets

roomy_done : (given : Given) (hub : Hub) → is_bytes given ≡ false → IsRoomy (λ room. did given hub)
roomy_done given hub is fit room wide = refl

module _ (number : ℕ) where
  abbrev copied_by : ℕ → ℕ × Session → ℕ × Session
  copied_by room e = (e.0, cond (e.0 == number) (record e.1 { output = drop room e.1.output }) e.1)

  fit_before : (es : List (ℕ × Session)) → AllByRecursion Fits (map (copied_by 0) es) → AllByRecursion Fits es
  fit_before [] h = tt
  fit_before (e ∷ es) h = (by (e.0 == number) h.0, fit_before es h.1)
    where
      by : (b : Bool) → length (cond b (record e.1 { output = drop 0 e.1.output }) e.1).output ≤ frame_octets → length e.1.output ≤ frame_octets
      by true h = h
      by false h = h

  found_fits : (es : List (ℕ × Session)) (s : Session) → option_map (λ (e : ℕ × Session). e.1) (find (λ (e : ℕ × Session). e.0 == number) es) ≡ Some s → AllByRecursion Fits es → length s.output ≤ frame_octets
  found_fits [] s e all = absurd cc
  found_fits (x ∷ es) s e all = by (found_fits es s) (x.0 == number) e
    where
      same : (a b : Session) → Some a ≡ Some b → a ≡ b
      same a b e = cc

      by : (option_map (λ (e : ℕ × Session). e.1) (find (λ (e : ℕ × Session). e.0 == number) es) ≡ Some s → AllByRecursion Fits es → length s.output ≤ frame_octets) → (b : Bool)
          → option_map (λ (e : ℕ × Session). e.1) (cond b (Some x) (find (λ (e : ℕ × Session). e.0 == number) es)) ≡ Some s → length s.output ≤ frame_octets
      by rest true e = subst (λ (t : Session). length t.output ≤ frame_octets) (same x.1 s e) all.0
      by rest false e = rest e all.1

  wider : (n room : ℕ) → n ≤ frame_octets → frame_octets ≤ room → n ≤ room
  wider n room h w = omega arith

  nothing_left : (room : ℕ) → frame_octets ≤ room → (output : List ℕ) → length output ≤ frame_octets → drop room output ≡ drop frame_octets output
  nothing_left room wide output fits = drop_of_length-le output (wider (length output) room fits wide) ∙ sym (drop_of_length-le output fits)

  copied_alike : (room : ℕ) → frame_octets ≤ room → (es : List (ℕ × Session)) → AllByRecursion Fits es → map (copied_by room) es ≡ map (copied_by frame_octets) es
  copied_alike room wide [] all = refl
  copied_alike room wide (e ∷ es) all = (λ i. by (e.0 == number) i ∷ copied_alike room wide es all.1 i)
    where
      left : drop room e.1.output ≡ drop frame_octets e.1.output
      left = nothing_left room wide e.1.output all.0

      shorter : ℕ → Session
      shorter r = record e.1 { output = drop r e.1.output }

      paired : Session → ℕ × Session
      paired s = (e.0, s)

      by : (b : Bool) → paired (cond b (shorter room) e.1) ≡ paired (cond b (shorter frame_octets) e.1)
      by true = ap (λ (o : List ℕ). paired (record e.1 { output = o })) left
      by false = refl

  roomy_copied : (session : Session) (hub : Hub) → session_of hub number ≡ Some session → IsRoomy (λ room. copies number room session hub)
  roomy_copied session hub found fit room wide =
      let all = fit_before hub.sessions fit in
      let fits = found_fits hub.sessions session found all in
      let same = copied_alike room wide hub.sessions all in
      (λ i. record { octets = whole fits i; given = Bytes (least (length session.output) fits i); hub = record hub { sessions = same i } })
    where
      whole : length session.output ≤ frame_octets → take room session.output ≡ take frame_octets session.output
      whole fits = take_all room session.output (wider (length session.output) room fits wide) ∙ sym (take_all frame_octets session.output fits)

      least : (n : ℕ) → n ≤ frame_octets → min room n ≡ min frame_octets n
      least n fits = omega arith

-- a hub that is stood for gives with more room what it gives with room for a frame
pub gives-whole : GivesStand → (k : KeptHub) (hub : Hub) (number room : ℕ) → StandsFor k hub → frame_octets ≤ room → give hub number room ≡ give hub number frame_octets
gives-whole law k hub number room stands wide =
    let g = give hub number 0 in
    let both = law k hub number 0 stands in
    give-walk number IsRoomy roomy_done (λ session h found some. roomy_copied number session h found) hub (all-weaken (IsSoundSession g.hub) Fits (λ e sound. sound.output_fits) g.hub.sessions both.hub.sound.sessions) room wide
