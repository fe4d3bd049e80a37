-- An established session writes its Retry Delay: its subscriptions go, and it goes on no longer.
--     stops-written      what is under way fits together behind it
use Rattle.std.proofs.Common.{ℕ, ◌<◌, ◌≤◌, ◌^◌, false, ◌||◌, List, [], ◌∷◌, ◌++◌, sym, subst, refl, true≢false, arith}
use Rattle.std.specs.Prelude.{IsTrue}
use Rattle.std.specs.List.{AllByRecursion}
use Rattle.std.proofs.lemmas.Bool.{or_left}
use Rattle.pushserver.specs.PlainHubs.{Made, Note}
use Rattle.pushclient.specs.ServerMessages.{delays}
use Rattle.pushclient.specs.SoundClients.{count_of}
use Rattle.pushclient.proofs.SoundWishes.{all_behind}
use Rattle.inflight.specs.Messages.{ClientMessage, Flying, CanBeRead, is_refusal}
use Rattle.inflight.specs.Ends.{BothEnds, unanswered_ids, fits_request}
use Rattle.inflight.specs.Flight.{IsSoundClient, Downward, FitsTogether, is_active_answer}
use Rattle.flight_laws.specs.Laws.{flies}
use Rattle.flight_laws.specs.Reacting.{with_made, with_stop, StopsAreWritten}
use Rattle.flight_laws.proofs.MoreDown.{seen-more, more-silent, first-still}

module _ (e : BothEnds) (taken : List Made) (flying : List Flying) (ups : List ClientMessage) (rcode delay : ℕ) (note : Note)
    (going : IsTrue e.goes_on) (begun : IsTrue e.established) (coded : rcode < 16) (short : delay < 2 ^ 32) (fit : FitsTogether e taken flying ups) where
  abbrev the_delay : Flying
  the_delay = flies (delays rcode delay) note e.subscriptions

  abbrev stopped : BothEnds
  stopped = with_made the_delay (with_stop e)

  stop-client : IsSoundClient stopped
  stop-client = (let c = fit.client in record { wishes = c.wishes; ids = c.ids; distinct = c.distinct; last = c.last; asked = c.asked; begun = c.begun })

  stop-answers : AllByRecursion (λ g. IsTrue (is_active_answer e g)) (flying ++ the_delay ∷ [])
  stop-answers = all_behind (λ g. IsTrue (is_active_answer e g)) flying the_delay (fit.up going).answers refl

  stop-down : Downward stopped taken (flying ++ the_delay ∷ [])
  stop-down =
      let d = fit.down in
      record {
        readable = all_behind (CanBeRead e.timers) flying the_delay d.readable ((coded, short), omega arith);
        fits = all_behind (λ (g : Flying). IsTrue (fits_request e g.says)) flying the_delay d.fits refl;
        awaited = λ n. subst (λ ids. count_of n ids ≤ count_of n (unanswered_ids e)) (sym (more-silent flying the_delay refl)) (d.awaited n);
        notices = d.notices;
        seen = seen-more e taken flying the_delay fit.client refl d.told (fit.up going).held stop-answers d.seen;
        told = tt;
        homeless = d.homeless;
        established = d.established;
        speaks = all_behind (λ (g : Flying). IsTrue (e.established || is_refusal g.says)) flying the_delay d.speaks (or_left e.established false begun);
        first = first-still e.established e.client_established flying the_delay d.first;
      }

  pub stop-written : FitsTogether stopped taken (flying ++ the_delay ∷ []) ups
  stop-written = record { timers = fit.timers; client = stop-client; down = stop-down; up = λ goes_on. absurd (true≢false (sym goes_on)) }

pub stops-written : StopsAreWritten
stops-written e taken flying ups rcode delay note going begun coded short fit = stop-written e taken flying ups rcode delay note going begun coded short fit
