-- An entry of the hub that is kept is the entry of the plain one.
--     session-entered      the names that the entry touches wait in a session, with old values
--     entered-stands, keeping-stands      the hub after the entry; where those that fall behind by it have ended before
use Rattle.std.proofs.Common.{◌≡◌, ℕ, ◌+◌, ◌<◌, ◌≤◌, true, List, [], ◌∷◌, ◌++◌, filter, Option, sym, ◌∙◌, ap, subst, refl, arith}
use Rattle.std.proofs.lemmas.List.{length-append, length-map, drop-append-le}
use Rattle.std.specs.Prelude.{fold, is_some, option_map, IsSome, IsTrue}
use Rattle.std.specs.List.{AllByRecursion, AllZip}
use Rattle.dnsname.specs.Names.{Labels}
use Rattle.rrset.specs.RecordSet.{changes, shown_at}
use Rattle.rrset.specs.declared.record.Key.{Key}
use Rattle.rrset.proofs.OldValues.{told, first_before, first-filter, first-changes}
use Rattle.rrset.proofs.Places.{all_filter}
use Rattle.subscr.specs.Asked.{Asked, wants}
use Rattle.rrset.specs.declared.record.Changed.{Changed}
use Rattle.rrset.specs.declared.record.Question.{Question}
use Rattle.dsosession.specs.declared.session.EndReason.TheVariants as ends
use Rattle.coalesce.specs.Waiting.{WaitingName, OldValue, values_of}
use Rattle.history.specs.AtHome.{AreAtHome}
use Rattle.history.specs.States.{after, home_of, records}
use Rattle.history.specs.declared.entry.Entry.{Entry}
use Rattle.history.specs.declared.entry.Home.{Home}
use Rattle.history.proofs.LongerHistory.{state_at-append, records_at-append}
use Rattle.history.proofs.Present.{totals-last}
use Rattle.pushsession.specs.Kept.{KeptSession, keeping}
use Rattle.pushsession.specs.Sessions.{touched, noted}
use Rattle.pushsession.specs.Subscribing.{is_served}
use Rattle.zoneupdate.proofs.Filters.{and-left, and-right, and-both}
use Rattle.pushserver.specs.PlainHubs.{Hub, Session, plain_keeps}
use Rattle.livesessions.specs.NumberedSessions.{all_sessions}
use Rattle.pushserver.specs.Hubs.{newest, state_now, records_now, entered, behind_at, ended_behind, ends_behind, entered_keeping, max_sessions}
use Rattle.pushserver.specs.Giving.{is_served_at}
use Rattle.pushserver.specs.Rows.{IsTellable}
use Rattle.pushserver.specs.KeptHubs.{KeptHub, StandsFor, KeepsSent, WaitSince, queue_of}
use Rattle.pushserver.proofs.session_steps.Lists.{each-both, each-map}
use Rattle.pushserver.proofs.session_steps.Names.{AreApart}
use Rattle.pushserver.proofs.session_steps.Nets.{wants-alike}
use Rattle.pushserver.proofs.session_steps.OldValues.{sent-keys, sent-whole}
use Rattle.pushserver.specs.SoundHubs.{HasHome}
use Rattle.pushserver.proofs.session_steps.Parts.{SessionFits, Asks, Waits, reads, writes, of_parts}
use Rattle.pushserver.proofs.WaitingNames.{watched-entered}
use Rattle.pushserver.proofs.told_rows.Histories.{state_at-last, states-more}
use Rattle.pushserver.proofs.told_rows.Told.{tellable-told}
use Rattle.livesessions.proofs.SessionLists.{distinct-map}
use Rattle.pushserver.proofs.hub_steps.Pairs.{zip-map, all-weaken}
use Rattle.livesessions.proofs.SessionLists.{all-map}
use Rattle.pushserver.proofs.hub_steps.Pasts.{past-from}
use Rattle.pushserver.proofs.hub_steps.Falling.{behind-keeps}
use Rattle.pushserver.proofs.session_steps.Since.{ended_where-since}
use Rattle.pushserver.proofs.hub_steps.Standing.{kept_of, Stands, each-stands, fitting, fits-stand, fits-sound, session-moved}
use Rattle.pushserver.proofs.hub_steps.Names.{home-after_entry}
use Rattle.pushserver.proofs.hub_steps.Noted.{CanBeKept, Going, can-be-kept}
use Rattle.pushserver.proofs.hub_steps.Queued.{plain_change, queue-fold, points-fold, rises-fold, names-fold, going-fold}

-- ---- the history with one more

abbrev pub longer : Hub → Entry → Hub
longer hub entry = record hub { history = hub.history ++ entry ∷ [] }

state_now-longer : (hub : Hub) (entry : Entry) → state_now (longer hub entry) ≡ after (state_now hub) entry
state_now-longer hub entry = state_at-last hub.start hub.history entry

-- ---- one session

module _ (hub : Hub) (entry : Entry) where
  abbrev pub changed_by : List Changed
  changed_by = changes (records_now hub) (records_now (longer hub entry))

  abbrev pub kept_noted : KeptSession → KeptSession
  kept_noted session = noted keeping changed_by (newest hub) session

  abbrev pub plain_noted : Session → Session
  plain_noted session = noted (plain_keeps (newest hub)) changed_by (newest hub) session

  home-stays : AreAtHome (state_now hub) → (name : Labels) → IsSome (home_of (state_now hub) name) → IsSome (home_of (state_now (longer hub entry)) name)
  home-stays at_home name h = subst (λ (o : Option Home). IsSome o) (sym (ap (λ s. home_of s name) (state_now-longer hub entry) ∙ home-after_entry (state_now hub) at_home entry name)) h

  served-stays : AreAtHome (state_now hub) → (question : Question) → IsTrue (is_served_at (state_now hub) question) → IsTrue (is_served_at (state_now (longer hub entry)) question)
  served-stays at_home question served =
      let class = is_served question.class in
      let home = is_some (home_of (state_now hub) question.name) in
      and-both class (is_some (home_of (state_now (longer hub entry)) question.name)) (and-left class home served) (home-stays at_home question.name (and-right class home served))

  more : newest (longer hub entry) ≡ newest hub + 1
  more = length-append hub.history (entry ∷ [])

  -- changes that are asked for lead back to the records before
  leads-back : (asked : Asked) (q : Key) → wants q asked ≡ true → first_before q (filter (λ c. wants c.key asked) changed_by) (shown_at q (records_now (longer hub entry))) ≡ shown_at q (records_now hub)
  leads-back asked q wanted = first-filter (λ key. wants key asked) q wanted changed_by (shown_at q (records_now (longer hub entry))) ∙ first-changes q (records_now hub) (records_now (longer hub entry))

  -- old values that tell what was sent go on through the changes that a session asks for
  begins : (asked : Asked) (w : WaitingName) → w.point < newest hub → KeepsSent hub.start hub.history asked w → Going asked hub.start hub.history (records_now (longer hub entry)) (filter (λ c. wants c.key asked) changed_by) w
  begins asked w low k = record {
    rising = k.rising;
    values = k.values;
    older = all-weaken (λ (e : Key × OldValue). e.1.point < newest hub) (λ (e : Key × OldValue). e.1.point < newest hub + 1) (λ e h. omega (arith, h)) w.values k.older;
    within = omega (arith, low);
    leads = λ q wanted at. ap (told q (values_of w.values)) (leads-back asked q wanted) ∙ sent-keys hub.start hub.history asked w k.sent q wanted at;
  }

  -- and tell it behind the entry
  arrives : (asked : Asked) (w : WaitingName) → Going asked hub.start hub.history (records_now (longer hub entry)) [] w → KeepsSent (longer hub entry).start (longer hub entry).history asked w
  arrives asked w g = record {
    rising = g.rising;
    values = g.values;
    older = subst (λ (n : ℕ). AllByRecursion (λ (e : Key × OldValue). e.1.point < n) w.values) (sym more) g.older;
    sent = sent-whole (longer hub entry).start (longer hub entry).history asked w g.values (λ q wanted at. g.leads q wanted at ∙ ap (shown_at q) (sym (records_at-append hub.start hub.history (entry ∷ []) w.point g.within)));
  }

  session-entered : IsTellable (state_now hub) → (k : ℕ × KeptSession) (p : ℕ × Session) → SessionFits hub k p → SessionFits (longer hub entry) (k.0, kept_noted k.1) (p.0, plain_noted p.1)
  session-entered tellable k p s = of_parts (longer hub entry) (k.0, kept_noted k.1) (p.0, plain_noted p.1) s.stands.number s.sound.below asked waiting (watched-entered (newest hub) (newest hub) p.1.subscriptions changed_by p.1.queue s.sound.watched) (reads hub k p s) (writes hub k p s) s.stands.clocks s.stands.established s.stands.standing s.sound.rests
    where
      asked : Asks (state_now (longer hub entry)) k.1.subscriptions p.1.subscriptions
      asked = record {
        asked = s.stands.asked;
        filled = s.stands.filled;
        are_asked = s.sound.asked;
        homes = all-weaken (HasHome (state_now hub)) (HasHome (state_now (longer hub entry))) (λ u served. served-stays tellable.home u.question served) p.1.subscriptions s.sound.homes;
      }

      kept_changes : List Changed
      kept_changes = touched keeping k.1.subscriptions changed_by

      plain_changes : List Changed
      plain_changes = touched (plain_keeps (newest hub)) p.1.subscriptions changed_by

      same_changes : kept_changes ≡ plain_changes
      same_changes = λ i. filter (λ (c : Changed). wants-alike hub k p s c.key i) changed_by

      past : AllByRecursion (λ (w : WaitingName). w.point < newest hub) k.1.queue
      past = each-map (λ (w : WaitingName). (w.name, w.point)) (λ (e : Labels × ℕ). e.1 < newest hub) k.1.queue (subst (AllByRecursion (λ (e : Labels × ℕ). e.1 < newest hub)) (sym s.stands.queue) s.sound.points)

      going : AllByRecursion (Going k.1.subscriptions.asked hub.start hub.history (records_now (longer hub entry)) []) (kept_noted k.1).queue
      going = going-fold k.1.subscriptions.asked hub.start hub.history (records_now (longer hub entry)) kept_changes k.1.queue
          (all_filter CanBeKept (λ c. wants c.key k.1.subscriptions.asked) changed_by (can-be-kept (records_now hub) (records_now (longer hub entry)) (tellable-told (state_now hub) tellable)))
          (subst AreApart (sym s.stands.queue) s.sound.names)
          (each-both (KeepsSent hub.start hub.history k.1.subscriptions.asked) (λ (w : WaitingName). w.point < newest hub) (Going k.1.subscriptions.asked hub.start hub.history (records_now (longer hub entry)) kept_changes) (λ w keeps low. begins k.1.subscriptions.asked w low keeps) k.1.queue s.stands.keeps past)
          (λ q wanted none. leads-back k.1.subscriptions.asked q wanted)

      waiting : Waits (longer hub entry).start (longer hub entry).history k.1.subscriptions.asked (kept_noted k.1).queue (plain_noted p.1).queue
      waiting = record {
        queue =
            queue-fold (newest hub) kept_changes k.1.queue
            ∙ (λ i. fold (plain_change (newest hub)) (s.stands.queue i) (same_changes i));
        keeps = all-weaken (Going k.1.subscriptions.asked hub.start hub.history (records_now (longer hub entry)) []) (KeepsSent (longer hub entry).start (longer hub entry).history k.1.subscriptions.asked) (λ w g. arrives k.1.subscriptions.asked w g) (kept_noted k.1).queue going;
        points = points-fold (λ (e : Labels × ℕ). e.1 < newest (longer hub entry)) (newest hub) (λ n. omega (arith, more)) plain_changes p.1.queue
            (all-weaken (λ (e : Labels × ℕ). e.1 < newest hub) (λ (e : Labels × ℕ). e.1 < newest (longer hub entry)) (λ e low. omega (arith, more, low)) p.1.queue s.sound.points);
        rises = rises-fold (newest hub) plain_changes p.1.queue (all-weaken (λ (e : Labels × ℕ). e.1 < newest hub) (λ (e : Labels × ℕ). e.1 ≤ newest hub) (λ e low. omega (arith, low)) p.1.queue s.sound.points) s.sound.rises;
        names = names-fold (newest hub) plain_changes p.1.queue s.sound.names;
      }

  -- names that begin to wait do so since the newest point
  since-noted : (from : ℕ) → from ≤ newest hub → (e : ℕ × KeptSession) → WaitSince from e → WaitSince from (e.0, kept_noted e.1)
  since-noted from low e since =
      let changed = touched keeping e.1.subscriptions changed_by in
      each-map (λ (w : WaitingName). (w.name, w.point)) (λ (d : Labels × ℕ). from ≤ d.1) (kept_noted e.1).queue
      (subst (AllByRecursion (λ (d : Labels × ℕ). from ≤ d.1)) (sym (queue-fold (newest hub) changed e.1.queue))
      (points-fold (λ (d : Labels × ℕ). from ≤ d.1) (newest hub) (λ n. low) changed (queue_of e.1.queue) (all-map (λ (w : WaitingName). (w.name, w.point)) (λ (d : Labels × ℕ). from ≤ d.1) e.1.queue since)))

-- ---- the hub

-- the kept hub enters what the plain one does
entered-kept : (hub : Hub) (from : ℕ) (ks : List (ℕ × KeptSession)) (entry : Entry) → from ≤ newest hub → kept_of (entered entry hub) from (all_sessions (kept_noted hub entry) ks) ≡ entered entry (kept_of hub from ks)
entered-kept hub from ks entry within = λ i. record {
  start = state_at-append hub.start hub.history (entry ∷ []) from within i;
  timers = hub.timers;
  history = drop-append-le from hub.history (entry ∷ []) within i;
  seen = record { state = state_now-longer hub entry i; newest = more hub entry i; counts = totals-last hub.history entry i; number = from };
  sessions = all_sessions (noted keeping (changes (records_now hub) (records (state_now-longer hub entry i))) (newest hub)) ks;
  numbers_given = hub.numbers_given;
}

pub entered-stands : (hub : Hub) (from : ℕ) (ks : List (ℕ × KeptSession)) (entry : Entry) → IsTellable (after (state_now hub) entry) → Stands hub from ks
    → StandsFor (entered entry (kept_of hub from ks)) (entered entry hub)
entered-stands hub from ks entry last h = subst (λ (k : KeptHub). StandsFor k (entered entry hub)) (entered-kept hub from ks entry h.past.begins) (record {
  sound = record {
    begins = h.sound.begins;
    states = states-more hub.start hub.history entry h.sound.states last;
    sessions = fits-sound (entered entry hub) later (entered entry hub).sessions fit;
    numbers = distinct-map (λ (e : ℕ × Session). plain_noted hub entry e.1) hub.sessions h.sound.numbers;
    few = subst (λ n. n ≤ max_sessions) (sym (length-map hub.sessions (λ (e : ℕ × Session). (e.0, plain_noted hub entry e.1)))) h.sound.few;
  };
  timers = refl;
  numbers_given = refl;
  past = past-from hub.start (hub.history ++ entry ∷ []) from (omega (arith, h.past.begins, length-append hub.history (entry ∷ [])));
  state = refl;
  newest = refl;
  since = all-map (λ (e : ℕ × KeptSession). (e.0, kept_noted hub entry e.1)) (WaitSince from) ks (all-weaken (WaitSince from) (λ e. WaitSince from (e.0, kept_noted hub entry e.1)) (since-noted hub entry from h.past.begins) ks h.since);
  sessions = fits-stand (entered entry hub) later (entered entry hub).sessions fit;
})
  where
    later : List (ℕ × KeptSession)
    later = all_sessions (kept_noted hub entry) ks

    fit : AllZip (SessionFits (entered entry hub)) later (entered entry hub).sessions
    fit = zip-map (SessionFits hub) (SessionFits (entered entry hub)) (λ (e : ℕ × KeptSession). (e.0, kept_noted hub entry e.1)) (λ (e : ℕ × Session). (e.0, plain_noted hub entry e.1))
        (λ k p s. session-moved (longer hub entry) (all_sessions (plain_noted hub entry) hub.sessions) hub.numbers_given (omega arith) (k.0, kept_noted hub entry k.1) (p.0, plain_noted hub entry p.1) (session-entered hub entry (h.sound.states (newest hub) (omega arith)) k p s)) ks hub.sessions (fitting h)

-- ---- those that fall behind end before

pub falling-stands : (hub : Hub) (from : ℕ) (ks : List (ℕ × KeptSession)) (entry : Entry) → Stands hub from ks → Stands (ends_behind entry hub) from (all_sessions (ended_behind (kept_of hub from ks) entry) ks)
falling-stands hub from ks entry h =
    each-stands hub from ks (ended_behind (kept_of hub from ks) entry) (ended_behind hub entry) (ended_where-since (λ session. option_map (λ point. ends.Behind point) (behind_at (kept_of hub from ks) entry session)))
    (behind-keeps hub from ks entry) h

pub keeping-stands : (hub : Hub) (from : ℕ) (ks : List (ℕ × KeptSession)) (entry : Entry) → IsTellable (after (state_now hub) entry) → Stands hub from ks
    → StandsFor (entered_keeping entry (kept_of hub from ks)) (entered_keeping entry hub)
keeping-stands hub from ks entry last h = entered-stands (ends_behind entry hub) from (all_sessions (ended_behind (kept_of hub from ks) entry) ks) entry last (falling-stands hub from ks entry h)
