-- The client drops a question whose answer it waits for.
--     dropped-waits      what is under way fits together as before
use Rattle.std.proofs.Common.{◌≡◌, ◌≤◌, Bool, true, false, cond, List, sym, subst, refl}
use Rattle.rrset.specs.Records.{same_question}
use Rattle.rrset.specs.declared.record.Question.{Question}
use Rattle.pushserver.specs.PlainHubs.{Made}
use Rattle.pushclient.specs.Clients.{Wish}
use Rattle.pushclient.specs.Rule.{dropped_wish}
use Rattle.pushclient.specs.SoundClients.{count_of}
use Rattle.pushclient.proofs.SoundWishes.{all_map}
use Rattle.inflight.specs.Messages.{ClientMessage, Flying, answer_ids}
use Rattle.inflight.specs.Ends.{BothEnds}
use Rattle.inflight.specs.Flight.{Downward, FitsTogether, TookNotices}
use Rattle.flight_laws.specs.Laws.{with_dropped, WaitingOnesAreDropped}
use Rattle.flight_laws.proofs.Mapped.{mapped-client, mapped-fits, mapped-seen, mapped-homeless, mapped-up, unanswered-mapped}

module _ (question : Question) where
  same-question : (w : Wish) → (dropped_wish question w).question ≡ w.question
  same-question w = by (same_question w.question question)
    where
      by : (b : Bool) → (cond b (record w { wanted = false }) w).question ≡ w.question
      by true = refl
      by false = refl

  same-standing : (w : Wish) → (dropped_wish question w).standing ≡ w.standing
  same-standing w = by (same_question w.question question)
    where
      by : (b : Bool) → (cond b (record w { wanted = false }) w).standing ≡ w.standing
      by true = refl
      by false = refl

  took : (taken : List Made) (w : Wish) → TookNotices taken w → TookNotices taken (dropped_wish question w)
  took taken w h = by (same_question w.question question)
    where
      by : (b : Bool) → TookNotices taken (cond b (record w { wanted = false }) w)
      by true = h
      by false = h

  module _ (e : BothEnds) (taken : List Made) (flying : List Flying) (ups : List ClientMessage) where
    dropped-down : Downward e taken flying → Downward (with_dropped question e) taken flying
    dropped-down d = record {
      readable = d.readable;
      fits = mapped-fits (dropped_wish question) same-question same-standing e flying d.fits;
      awaited = λ n. subst (λ ids. count_of n (answer_ids flying) ≤ count_of n ids) (sym (unanswered-mapped (dropped_wish question) same-question same-standing e)) (d.awaited n);
      notices = all_map (TookNotices taken) (TookNotices taken) (dropped_wish question) (λ w h. took taken w h) e.wishes d.notices;
      seen = mapped-seen (dropped_wish question) same-question same-standing e taken flying d.seen;
      told = d.told;
      homeless = mapped-homeless (dropped_wish question) same-question same-standing e d.homeless;
      established = d.established;
      speaks = d.speaks;
      first = d.first;
    }

    pub dropped-fits : FitsTogether e taken flying ups → FitsTogether (with_dropped question e) taken flying ups
    dropped-fits fit = record {
      timers = fit.timers;
      client = mapped-client (dropped_wish question) same-question same-standing e fit.client;
      down = dropped-down fit.down;
      up = λ goes_on. mapped-up (dropped_wish question) same-question same-standing e flying ups (fit.up goes_on);
    }

pub dropped-waits : WaitingOnesAreDropped
dropped-waits e taken flying ups question fit = dropped-fits question e taken flying ups fit
