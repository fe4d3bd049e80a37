-- What a client holds of a session under way is the history.
--     held-is-history
use Rattle.std.proofs.Common.{◌≡◌, ℕ, ◌+◌, true, ◌++◌, length, refl, subst}
use Rattle.std.specs.Prelude.{IsSome, IsTrue}
use Rattle.pushserver.specs.PlainHubs.{size_of_made}
use Rattle.pushserver.proofs.hub_steps.Pairs.{all-weaken}
use Rattle.pushclient.specs.Clients.{Wish, RequestState, answered}
use Rattle.inflight.specs.Ends.{BothEnds, ends_of, told_end, subscribed_at_last}
use Rattle.inflight.specs.Flight.{is_listed, is_seen}
use Rattle.flight_laws.specs.Holding.{FitsHistory, HeldIsHistory}
use Rattle.flight_laws.proofs.Holding.{holds_at_last, holds_along, so-first, listed-known}
use Rattle.flight_laws.proofs.HoldingAll.{holds_all_sent}
use Rattle.flight_laws.proofs.NextMessage.{ends_before_next}

pub held-is-history : HeldIsHistory
held-is-history hub told session client c up_wire down_wire history ends none i =
    let e : BothEnds = ends_of hub told session client c in
    let u : FitsHistory hub session e i.taken i.flying = record { ups = i.ups; fit = i.fit; history = history; made = i.made; subscriptions = refl } in
    record {
      known = all-weaken (λ w. IsTrue (is_seen told i.taken i.flying w)) (λ w. (id : ℕ) → w.standing ≡ answered id → IsSome (told_end told id))
          (λ w seen id is. of_wish w id (subst (λ (s : RequestState). IsTrue (is_seen told i.taken i.flying (record w { standing = s }))) is seen)) client.wishes i.fit.down.seen;
      last = holds_at_last hub session e i.taken i.flying (size_of_made i.taken + length c.input) u ends
          (ends_before_next hub.timers i.taken i.flying c.input (down_wire ++ session.output) i.fit.down.readable i.whole_down none);
      along = λ front back f split. holds_along hub session e i.taken i.flying front back f u split;
      sent_all = λ going. holds_all_sent hub session e i.taken i.flying u going;
    }
  where
    of_wish : (w : Wish) (id : ℕ) → is_seen told i.taken i.flying (record w { standing = answered id }) ≡ true → IsSome (told_end told id)
    of_wish w id seen = listed-known told id w.question (subscribed_at_last i.taken) (so-first (is_listed told id w.question) id (subscribed_at_last i.taken) i.flying seen)
