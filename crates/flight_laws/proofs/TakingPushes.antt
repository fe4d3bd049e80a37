-- The client takes a PUSH: the notices of each subscription that it holds grow by these.
--     pushes-taken      what is under way fits together without it
use Rattle.std.proofs.Common.{◌≡◌, ◌+◌, ◌<◌, ◌≤◌, ◌^◌, Bool, true, false, cond, not, ◌||◌, List, [], ◌∷◌, ◌++◌, map, length, sym, ap, ◌∙◌, subst, refl, true≢false, arith, Ok, Err, Result}
use Rattle.std.specs.Prelude.{flat_map}
use Rattle.std.proofs.lemmas.List.{append-nil}
use Rattle.std.proofs.lemmas.List.Elements.{All-nil, All-cons}
use Rattle.dsotlv.specs.Answers.{push_message}
use Rattle.dsotlv.specs.Laws.{HasSize}
use Rattle.dsotlv.specs.Messages.{tlv_octets, tlvs_of}
use Rattle.dsotlv.specs.Notices.{notices_of, notice_octets}
use Rattle.dsotlv.specs.TlvKinds.{push_tlv}
use Rattle.dsotlv.specs.declared.message.DsoFault.{DsoFault}
use Rattle.dsotlv.specs.declared.message.Notice.{Notice}
use Rattle.dsotlv.specs.declared.message.PushFault.{PushFault}
use Rattle.dsotlv.specs.declared.message.Tlv.{Tlv}
use Rattle.dsotlv.proofs.TlvLaws.{tlvs_there}
use Rattle.coalesce.proofs.NetSizes.{length-push_message}
use Rattle.pushserver.specs.PlainHubs.{Made, Note, Subscription}
use Rattle.pushserver.specs.ToldMessages.{notices_in_tlvs, notices_in, notices_since}
use Rattle.pushtelling.proofs.Quiet.{other_flags}
use Rattle.pushtelling.proofs.Messages.{notices_since-append}
use Rattle.pushclient.specs.Clients.{Wish, RequestState, not_asked, unanswered, refused, answered}
use Rattle.pushclient.specs.ServerMessages.{tells}
use Rattle.pushclient.specs.Steps.{is_answered}
use Rattle.pushclient.specs.SoundClients.{count_of}
use Rattle.pushclient.proofs.SoundWishes.{all_map}
use Rattle.inflight.specs.Messages.{ClientMessage, Flying, made_of, answer_ids, answer_comes_first}
use Rattle.inflight.specs.Ends.{BothEnds}
use Rattle.inflight.specs.Flight.{Downward, Upward, FitsTogether, TookNotices}
use Rattle.flight_laws.specs.Laws.{flies, with_notices, PushesAreTaken}
use Rattle.flight_laws.proofs.Mapped.{mapped-client, mapped-fits, mapped-seen, mapped-homeless, mapped-up, unanswered-mapped}
use Rattle.flight_laws.proofs.Taking.{seen-rest}

-- ---- the message

-- the one TLV of a PUSH
abbrev push_of : List Notice → Tlv
push_of notices = record { kind = push_tlv; octets = flat_map notice_octets notices }

-- what it was made of is read from a PUSH that fits into a frame
pub push-read : (notices : List Notice) → notices_of (flat_map notice_octets notices) ≡ Ok notices → length (push_message notices) < 2 ^ 16 → notices_in (push_message notices) ≡ notices
push-read notices read small =
    ap (λ (r : Result (List Tlv) DsoFault). elim r as (λ _. List Notice) [ Err fault ↦ [] | Ok tlvs ↦ notices_in_tlvs tlvs ]) one
    ∙ ap (λ (r : Result (List Notice) PushFault). elim r as (λ _. List Notice) [ Err fault ↦ [] | Ok found ↦ found ]) read
  where
    whole : length (push_message notices) ≡ 16 + length (flat_map notice_octets notices)
    whole = length-push_message notices

    fits : HasSize (push_of notices)
    fits = (omega arith, omega (arith, whole, small))

    one : tlvs_of (push_message notices) ≡ Ok (push_of notices ∷ [])
    one = tlvs_there (length (push_message notices)) (push_message notices) 12 (push_of notices ∷ []) (All-cons HasSize (push_of notices) [] fits (All-nil HasSize)) (omega (arith, whole)) (omega arith)
        (sym (append-nil (tlv_octets (push_of notices))))

-- ---- the wishes

still-first : (a b : Bool) → (a || false) ≡ true → (a || b) ≡ true
still-first true b h = refl
still-first false b h = absurd (true≢false (sym h))

module _ (notices : List Notice) where
  -- notices go to a wish that is held
  abbrev with_these : Wish → Wish
  with_these w = cond (is_answered w.standing) (record w { notices = w.notices ++ notices }) w

  same-question : (w : Wish) → (with_these w).question ≡ w.question
  same-question w = by (is_answered w.standing)
    where
      by : (b : Bool) → (cond b (record w { notices = w.notices ++ notices }) w).question ≡ w.question
      by true = refl
      by false = refl

  same-standing : (w : Wish) → (with_these w).standing ≡ w.standing
  same-standing w = by (is_answered w.standing)
    where
      by : (b : Bool) → (cond b (record w { notices = w.notices ++ notices }) w).standing ≡ w.standing
      by true = refl
      by false = refl

  module _ (e : BothEnds) (taken : List Made) (fs : List Flying) (ups : List ClientMessage) (note : Note) (subscribed : List Subscription) where
    abbrev the_push : Flying
    the_push = flies (tells notices) note subscribed

    abbrev made : Made
    made = made_of e.timers the_push

    took : notices_in (push_message notices) ≡ notices → (w : Wish) (standing : RequestState) → w.standing ≡ standing → TookNotices taken w → TookNotices (taken ++ made ∷ []) (with_these w)
    took read w not_asked is h = subst (λ s. TookNotices (taken ++ made ∷ []) (cond (is_answered s) (record w { standing = s; notices = w.notices ++ notices }) (record w { standing = s }))) (sym is) tt
    took read w (unanswered id) is h = subst (λ s. TookNotices (taken ++ made ∷ []) (cond (is_answered s) (record w { standing = s; notices = w.notices ++ notices }) (record w { standing = s }))) (sym is) tt
    took read w (refused rcode) is h = subst (λ s. TookNotices (taken ++ made ∷ []) (cond (is_answered s) (record w { standing = s; notices = w.notices ++ notices }) (record w { standing = s }))) (sym is) tt
    took read w (answered id) is h =
        let before : w.notices ≡ notices_since id taken = subst (λ s. TookNotices taken (record w { standing = s })) is h in
        let after : w.notices ++ notices ≡ notices_since id (taken ++ made ∷ []) =
        ap (λ ns. ns ++ notices) before ∙ sym (notices_since-append id taken made (other_flags (push_message notices) id refl) ∙ ap (λ ns. notices_since id taken ++ ns) read) in
        subst (λ s. TookNotices (taken ++ made ∷ []) (cond (is_answered s) (record w { standing = s; notices = w.notices ++ notices }) (record w { standing = s }))) (sym is) after

    push-down : Downward e taken (the_push ∷ fs) → Downward (with_notices notices e) (taken ++ made ∷ []) fs
    push-down d =
        let read = push-read notices d.readable.0.0 d.readable.0.1 in
        record {
          readable = d.readable.1;
          fits = mapped-fits with_these same-question same-standing e fs d.fits.1;
          awaited = λ n. subst (λ ids. count_of n (answer_ids fs) ≤ count_of n ids) (sym (unanswered-mapped with_these same-question same-standing e)) (d.awaited n);
          notices = all_map (TookNotices taken) (TookNotices (taken ++ made ∷ [])) with_these (λ w h. took read w w.standing refl h) e.wishes d.notices;
          seen = mapped-seen with_these same-question same-standing e (taken ++ made ∷ []) fs (seen-rest e.told e.timers taken the_push fs (λ id. refl) e.wishes d.seen);
          told = d.told;
          homeless = mapped-homeless with_these same-question same-standing e d.homeless;
          established = d.established;
          speaks = d.speaks.1;
          first = still-first (not e.established || e.client_established) (answer_comes_first (map (λ (f : Flying). f.says) fs)) d.first;
        }

    behind-push : Upward e (the_push ∷ fs) ups → Upward e fs ups
    behind-push u = record {
      once = u.once;
      requests = u.requests;
      answers = u.answers.1;
      let_go = u.let_go;
      let_go_once = u.let_go_once;
      held = u.held;
      active = u.active;
      accepted = u.accepted;
      no_delay = u.no_delay.1;
    }

    -- the client takes a PUSH (RFC 8765, 6.3.1)
    pub push-taken : FitsTogether e taken (the_push ∷ fs) ups → FitsTogether (with_notices notices e) (taken ++ made ∷ []) fs ups
    push-taken fit = record {
      timers = fit.timers;
      client = mapped-client with_these same-question same-standing e fit.client;
      down = push-down fit.down;
      up = λ goes_on. mapped-up with_these same-question same-standing e fs ups (behind-push (fit.up goes_on));
    }

pub pushes-taken : PushesAreTaken
pushes-taken e taken fs ups notices note subscribed fit = push-taken notices e taken fs ups note subscribed fit
