-- What is kept is sound where it stands for a plain hub.
use Rattle.std.proofs.Common.{◌≡◌, ℕ, ◌<◌, true, false, List, [], ◌∷◌, map, length, refl, sym, ap, subst, ◌∙◌, arith}
use Rattle.std.specs.Prelude.{◌==◌}
use Rattle.std.specs.List.{AllByRecursion, AllZip, IsDistinct}
use Rattle.dnsname.specs.Names.{Labels}
use Rattle.coalesce.specs.Waiting.{WaitingName, CanBePacked, IsOlder}
use Rattle.rrset.specs.RecordSet.{RecordSet}
use Rattle.history.specs.AtHome.{AreAtHome}
use Rattle.history.specs.States.{State}
use Rattle.history.specs.declared.entry.Entry.{Entry}
use Rattle.pushsession.specs.Kept.{KeptSession}
use Rattle.pushsession.specs.Sessions.{is_open}
use Rattle.pushserver.specs.PlainHubs.{Hub, Session, Subscription, Queue}
use Rattle.pushserver.specs.HubState.{RisesWaiting, RestsClosed}
use Rattle.livesessions.specs.NumberedSessions.{Numbered, AreApart, AreBelow, WaitBefore}
use Rattle.pushserver.specs.Hubs.{newest}
use Rattle.pushserver.specs.Rows.{AreTold}
use Rattle.subscr.specs.Asked.{Asked}
use Rattle.pushserver.specs.KeptHubs.{KeepsSent, queue_of}
use Rattle.pushserver.specs.HubState.{IsHub, IsSound, kept_of}
use Rattle.pushserver.specs.declared.hub_state.HubState.{HubState}
use Rattle.pushserver.specs.SoundHubs.{ArePast, AreWatched, PointsRise}
use Rattle.pushserver.proofs.session_steps.Parts.{SessionFits}
use Rattle.pushserver.proofs.hub_steps.Standing.{fitting}
use Rattle.pushserver.proofs.told_rows.HubTells.{hubs_tell}

numbers-apart : (hub : Hub) (n m : ℕ) (ks : Numbered KeptSession) (ps : Numbered Session) → n ≡ m → AllZip (SessionFits hub) ks ps → AllByRecursion (λ y. (m == y.0) ≡ false) ps → AllByRecursion (λ y. (n == y.0) ≡ false) ks
numbers-apart hub n m [] ps same zip all = tt
numbers-apart hub n m (k ∷ ks) [] same zip all = absurd zip
numbers-apart hub n m (k ∷ ks) (p ∷ ps) same zip all = ((λ i. same i == zip.0.stands.number i) ∙ all.0, numbers-apart hub n m ks ps same zip.1 all.1)

are_apart : (hub : Hub) (ks : Numbered KeptSession) (ps : Numbered Session) → AllZip (SessionFits hub) ks ps → IsDistinct (λ d e. d.0 == e.0) ps → AreApart ks
unfolding IsDistinct
are_apart hub [] ps zip once = tt
are_apart hub (k ∷ ks) [] zip once = absurd zip
are_apart hub (k ∷ ks) (p ∷ ps) zip once = (numbers-apart hub k.0 p.0 ks ps zip.0.stands.number zip.1 once.0, are_apart hub ks ps zip.1 once.1)

are_below : (hub : Hub) (ks : Numbered KeptSession) (ps : Numbered Session) → AllZip (SessionFits hub) ks ps → AreBelow hub.numbers_given ks
are_below hub [] ps zip = tt
are_below hub (k ∷ ks) [] zip = absurd zip
are_below hub (k ∷ ks) (p ∷ ps) zip = (subst (λ n. n < hub.numbers_given) (sym zip.0.stands.number) zip.0.sound.below, are_below hub ks ps zip.1)

waiting-past : (start : State) (history : List Entry) (asked : Asked) (ws : List WaitingName) → ArePast (length history) (queue_of ws) → AllByRecursion (KeepsSent start history asked) ws → AllByRecursion (IsOlder (length history)) ws
waiting-past start history asked [] all keeps = tt
waiting-past start history asked (w ∷ ws) all keeps = ((all.0, keeps.0.older), waiting-past start history asked ws all.1 keeps.1)

wait_before : (hub : Hub) (ks : Numbered KeptSession) (ps : Numbered Session) → AllZip (SessionFits hub) ks ps → WaitBefore (newest hub) ks
wait_before hub [] ps zip = tt
wait_before hub (k ∷ ks) [] zip = absurd zip
wait_before hub (k ∷ ks) (p ∷ ps) zip = (waiting-past hub.start hub.history k.1.subscriptions.asked k.1.queue (subst (ArePast (newest hub)) (sym zip.0.stands.queue) zip.0.sound.points) zip.0.stands.keeps, wait_before hub ks ps zip.1)

-- points rise of what is kept as of the plain queue
points-kept : (ws : List WaitingName) → map (λ (e : Labels × ℕ). e.1) (queue_of ws) ≡ map (λ (w : WaitingName). w.point) ws
points-kept [] = refl
points-kept (w ∷ ws) = ap (λ l. w.point ∷ l) (points-kept ws)

rises_waiting : (hub : Hub) (ks : Numbered KeptSession) (ps : Numbered Session) → AllZip (SessionFits hub) ks ps → RisesWaiting ks
rises_waiting hub [] ps zip = tt
rises_waiting hub (k ∷ ks) [] zip = absurd zip
rises_waiting hub (k ∷ ks) (p ∷ ps) zip = (subst PointsRise (ap (λ (q : Queue). map (λ (e : Labels × ℕ). e.1) q) (sym zip.0.stands.queue) ∙ points-kept k.1.queue) zip.0.sound.rises, rises_waiting hub ks ps zip.1)

-- a session that asks nothing waits for nothing
nothing-waits : (ws : List WaitingName) → AreWatched [] (queue_of ws) → ws ≡ []
nothing-waits [] watched = refl
nothing-waits (w ∷ ws) watched = let wrong : false ≡ true = watched.0 in absurd cc

rests_closed : (hub : Hub) (ks : Numbered KeptSession) (ps : Numbered Session) → AllZip (SessionFits hub) ks ps → RestsClosed ks
rests_closed hub [] ps zip = tt
rests_closed hub (k ∷ ks) [] zip = absurd zip
rests_closed hub (k ∷ ks) (p ∷ ps) zip = (rests, rests_closed hub ks ps zip.1)
  where
    rests : is_open k.1.standing ≡ false → k.1.queue ≡ []
    rests closed =
        let silent = zip.0.sound.rests (ap is_open (sym zip.0.stands.standing) ∙ closed) in
        nothing-waits k.1.queue (subst (λ (q : Queue). AreWatched [] q) (sym zip.0.stands.queue) (subst (λ (s : List Subscription). AreWatched s p.1.queue) silent zip.0.sound.watched))

pub sound : (keeping : HubState) → IsHub keeping → IsSound keeping
sound keeping is =
    let fits = fitting is.stands in
    let told = hubs_tell (kept_of keeping) is.hub is.stands in
    record {
      apart = are_apart is.hub keeping.sessions is.hub.sessions fits is.stands.sound.numbers;
      index = is.index;
      home = subst AreAtHome (sym is.stands.state) (is.stands.sound.states (newest is.hub) (omega arith)).home;
      below = subst (λ n. AreBelow n keeping.sessions) (sym is.stands.numbers_given) (are_below is.hub keeping.sessions is.hub.sessions fits);
      waiting = subst (λ n. WaitBefore n keeping.sessions) (sym is.stands.newest) (wait_before is.hub keeping.sessions is.hub.sessions fits);
      since = is.stands.since;
      rises = rises_waiting is.hub keeping.sessions is.hub.sessions fits;
      rests = rests_closed is.hub keeping.sessions is.hub.sessions fits;
      told = subst AreTold (sym is.index) told.0;
      watched = is.watched;
      packable = λ number session at. subst (λ (rows : RecordSet). CanBePacked rows session.queue) (sym is.index) (told.1 number session at);
    }
