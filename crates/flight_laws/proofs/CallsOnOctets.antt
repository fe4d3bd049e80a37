-- The client's calls on octets: what is written goes to the end of what goes up.
--     subscribes-go-up, unsubscribes-go-up, reconfirms-go-up, moments-go-up      what is under way fits together behind them
use Rattle.std.proofs.Common.{◌≡◌, ℕ, ◌<◌, Bool, true, false, not, ◌&&◌, List, [], ◌∷◌, ◌++◌, length, Option, Some, None, sym, ap, ◌∙◌, subst, refl, true≢false, append-nil}
use Rattle.std.specs.Prelude.{IsTrue, is_some, nat_le, option_map, ◌==◌, if◌then◌else◌}
use Rattle.std.specs.List.{list_any, IsDistinct}
use Rattle.std.proofs.lemmas.Bool.{and_parts, leb-false}
use Rattle.push_base.specs.Limits.{max_questions}
use Rattle.dnsname.specs.Names.{is_name}
use Rattle.rrset.specs.Records.{same_question}
use Rattle.rrset.specs.declared.record.Question.{Question}
use Rattle.rrset.specs.declared.record.Rr.{Rr}
use Rattle.dsotlv.specs.Messages.{frame}
use Rattle.dsosession.specs.Timing.{Clocks, client_due, is_inactive}
use Rattle.dsosession.specs.declared.session.CloseReason.{CloseReason}
use Rattle.dsosession.specs.declared.session.CloseReason.TheVariants as closes
use Rattle.dsosession.specs.declared.session.Due.{Due}
use Rattle.dsosession.specs.declared.session.Due.TheVariants as dues
use Rattle.pushserver.specs.PlainHubs.{Session, Hub}
use Rattle.pushclient.specs.declared.client.Asked.{Asked}
use Rattle.pushclient.specs.declared.client.Asked.TheVariants as asked
use Rattle.pushclient.specs.Clients.{Client, Connection, Wish, RequestState, not_asked, unanswered, refused, answered, next_id, writes, subscribe_message, unsubscribe_message, reconfirm_message, open_connection, with_connection, asks, subscribe, unsubscribe, reconfirm, drops, wish_for, without_wish}
use Rattle.pushclient.specs.SoundClients.{is_asked}
use Rattle.pushclient.specs.Steps.{is_active, does, at_later, moment}
use Rattle.pushclient.proofs.EveryCut.{is-at}
use Rattle.pushclient.proofs.SoundWishes.{all_found}
use Rattle.inflight.specs.Messages.{ClientMessage, message_octets, subscribes, unsubscribes, reconfirms, requests_keepalive}
use Rattle.inflight.specs.Ends.{BothEnds, ends_of, is_question}
use Rattle.inflight.specs.Flight.{FitsTogether, IsUnderWay}
use Rattle.flight_laws.specs.Taking.{written, GoesUp, asked_by, ended_as, dropped_by, reconfirmed_by, due_at, due_message, due_close, SubscribesGoUp, UnsubscribesGoUp, ReconfirmsGoUp, MomentsGoUp}
use Rattle.flight_laws.proofs.AskingFits.{questions-asked}
use Rattle.flight_laws.proofs.WantedAgain.{wanted-again}
use Rattle.flight_laws.proofs.InUse.{next-is-free}
use Rattle.flight_laws.proofs.Dropping.{dropped-waits}
use Rattle.flight_laws.proofs.Ended.{held-dropped}
use Rattle.flight_laws.proofs.Forgotten.{refused-dropped}
use Rattle.flight_laws.proofs.Writing.{keepalive-fits, reconfirm-fits}
use Rattle.flight_laws.proofs.OnOctets.{grows-up}

module _ (hub : Hub) (told : List (ℕ × ℕ)) (session : Session) (client : Client) (c : Connection) (up_wire down_wire : List ℕ) (there : open_connection client ≡ Some c)
    (before : IsUnderWay hub told session client c up_wire down_wire) where
  abbrev ends : BothEnds
  ends = ends_of hub told session client c

  abbrev Leaves : Client → List ClientMessage → Option CloseReason → Type 0
  Leaves later more reason = GoesUp hub told session client c up_wire down_wire before later more reason

  -- and the connection stays open
  abbrev Behind : Client → List ClientMessage → Type 0
  Behind later more = Leaves later more None

  unclosed : c.closed ≡ None
  unclosed = (is-at client c there).unclosed

  -- the connection is there
  connected : client.connection ≡ Some c
  connected = ap (λ (x : Client). x.connection) (is-at client c there).same

  goes : (later : Client) (d : Connection) (more : List ClientMessage) (reason : Option CloseReason) → later.connection ≡ Some d → d.input ≡ c.input → d.output ≡ c.output ++ written more → d.closed ≡ reason
      → FitsTogether (ends_of hub told session later d) before.taken before.flying (before.ups ++ more) → Leaves later more reason
  goes later d more reason is input output closed fit = record {
    connection = d;
    there = is;
    after = record {
      taken = before.taken;
      flying = before.flying;
      ups = before.ups ++ more;
      made = before.made;
      whole_down = ap (λ x. x ++ (down_wire ++ session.output)) input ∙ before.whole_down;
      whole_up = λ goes_on. grows-up session.input up_wire c.output d.output before.ups more output (before.whole_up goes_on);
      fit = fit;
    };
    taken = refl;
    flying = refl;
    ups = refl;
    output = output;
    closed = closed;
  }

  -- nothing is written
  silent : (later : Client) (d : Connection) (reason : Option CloseReason) → later.connection ≡ Some d → d.input ≡ c.input → d.output ≡ c.output → d.closed ≡ reason
      → FitsTogether (ends_of hub told session later d) before.taken before.flying before.ups → Leaves later [] reason
  silent later d reason is input output closed fit =
      goes later d [] reason is input (output ∙ sym (append-nil c.output)) closed (subst (λ ups. FitsTogether (ends_of hub told session later d) before.taken before.flying ups) (sym (append-nil before.ups)) fit)

  -- one message is
  one-more : (later : Client) (d : Connection) (m : ClientMessage) → later.connection ≡ Some d → d.input ≡ c.input → d.output ≡ c.output ++ frame (message_octets m) → d.closed ≡ None
      → FitsTogether (ends_of hub told session later d) before.taken before.flying (before.ups ++ m ∷ []) → Behind later (m ∷ [])
  one-more later d m is input output closed fit = goes later d (m ∷ []) None is input (output ∙ ap (λ l. c.output ++ l) (sym (append-nil (frame (message_octets m))))) closed fit

  as-it-was : Behind client []
  as-it-was = silent client c None connected refl refl unclosed before.fit

  -- ---- a question is asked

  module _ (question : Question) (fits : IsTrue (is_question question)) (different : IsDistinct (λ s t. s.id == t.id) session.subscriptions) where
    abbrev asks_on : Option Connection → Client
    asks_on o = elim o [
      | None ↦ record client { wishes = client.wishes ++ (record { question = question; wanted = true; standing = not_asked; notices = [] }) ∷ [] }
      | Some d ↦ (let id = next_id client.wishes d in record client {
        wishes = client.wishes ++ (record { question = question; wanted = true; standing = unanswered id; notices = [] }) ∷ [];
        connection = Some (writes false client.now (subscribe_message id question) (record d { last_id = id }));
      })
    ]

    pub asked-behind : wish_for client question ≡ None → length client.wishes < max_questions → Behind (asks client question) (subscribes (next_id client.wishes c) question ∷ [])
    asked-behind none room =
        let id = next_id client.wishes c in
        let free = next-is-free hub told session client c before.fit.client in
        let fit = questions-asked ends before.taken before.flying before.ups id question free.0 free.1 fits none room different before.fit in
        subst (λ later. Behind later (subscribes id question ∷ [])) (sym (ap asks_on there)) (one-more (asks_on (Some c)) _ (subscribes id question) refl refl refl unclosed fit)

    abbrev subscribed_by : Option Wish → Asked × Client
    subscribed_by o = elim o [
      | Some wish ↦ if wish.wanted then (asked.Already, client) else (asked.New, record client { wishes = without_wish question client.wishes ++ (record wish { wanted = true }) ∷ [] })
      | None ↦ if nat_le max_questions (length client.wishes) then (asked.Many, client) else (asked.New, asks client question)
    ]

    abbrev said_by : Option Wish → List ClientMessage
    said_by o = elim o [ Some wish ↦ [] | None ↦ if nat_le max_questions (length client.wishes) then [] else subscribes (next_id client.wishes c) question ∷ [] ]

    subscribed-behind : Behind (subscribe client question).1 (asked_by client c question)
    subscribed-behind = by (wish_for client question) refl
      where
        wanted : (b : Bool) (wish : Wish) → wish_for client question ≡ Some wish
            → (let r : Asked × Client = if b then (asked.Already, client) else (asked.New, record client { wishes = without_wish question client.wishes ++ (record wish { wanted = true }) ∷ [] }) in Behind r.1 [])
        wanted true wish found = as-it-was
        wanted false wish found = silent (record client { wishes = without_wish question client.wishes ++ (record wish { wanted = true }) ∷ [] }) c None connected refl refl unclosed
            (wanted-again ends before.taken before.flying before.ups question wish found before.fit)

        room : (b : Bool) → nat_le max_questions (length client.wishes) ≡ b → wish_for client question ≡ None
            → (let r : Asked × Client = if b then (asked.Many, client) else (asked.New, asks client question) in Behind r.1 (if b then [] else subscribes (next_id client.wishes c) question ∷ []))
        room true is none = as-it-was
        room false is none = asked-behind none (leb-false max_questions (length client.wishes) is)

        by : (o : Option Wish) → wish_for client question ≡ o → Behind (subscribed_by o).1 (said_by o)
        by None none = room (nat_le max_questions (length client.wishes)) refl none
        by (Some wish) found = wanted wish.wanted wish found

  -- ---- a question is dropped

  module _ (question : Question) where
    module _ (wish : Wish) (found : wish_for client question ≡ Some wish) where
      abbrev gone : Client
      gone = record client { wishes = without_wish wish.question client.wishes }

      abbrev ends_on : ℕ → Option Connection → Client
      ends_on id o = elim o [ None ↦ gone | Some d ↦ with_connection (writes false client.now (unsubscribe_message id) d) gone ]

      dropped-as : (s : RequestState) → wish.standing ≡ s → Behind (drops s wish client) (ended_as s)
      dropped-as not_asked is =
          let was_asked = all_found (λ (w : Wish). IsTrue (is_asked w.standing)) (λ w. same_question w.question question) client.wishes wish before.fit.client.asked found in
          absurd (true≢false (sym was_asked ∙ ap is_asked is))
      dropped-as (unanswered id) is = silent _ c None connected refl refl unclosed (dropped-waits ends before.taken before.flying before.ups wish.question before.fit)
      dropped-as (refused rcode) is = silent gone c None connected refl refl unclosed (refused-dropped ends before.taken before.flying before.ups question wish rcode found is before.fit)
      dropped-as (answered id) is = subst (λ later. Behind later (unsubscribes id ∷ [])) (sym (ap (ends_on id) there))
          (one-more (ends_on id (Some c)) _ (unsubscribes id) refl refl refl unclosed (held-dropped ends before.taken before.flying before.ups question wish id found is before.fit))

    dropped-behind : Behind (unsubscribe client question).1 (dropped_by client question)
    dropped-behind = by (wish_for client question) refl
      where
        wanted : (b : Bool) (wish : Wish) → wish_for client question ≡ Some wish
            → (let r : Bool × Client = if b then (true, drops wish.standing wish client) else (false, client) in Behind r.1 (if b then ended_as wish.standing else []))
        wanted true wish found = dropped-as wish found wish.standing refl
        wanted false wish found = as-it-was

        by : (o : Option Wish) → wish_for client question ≡ o
            → (let r : Bool × Client = elim o [ None ↦ (false, client) | Some wish ↦ if wish.wanted then (true, drops wish.standing wish client) else (false, client) ] in
            Behind r.1 (elim o [ None ↦ [] | Some wish ↦ if wish.wanted then ended_as wish.standing else [] ]))
        by None none = as-it-was
        by (Some wish) found = wanted wish.wanted wish found

  -- ---- a record is reconfirmed

  module _ (rr : Rr) (named : IsTrue (is_name rr.owner)) where
    abbrev says_on : Option Connection → Bool × Client
    says_on o = elim o [
      | None ↦ (false, client)
      | Some d ↦ if d.established && nat_le (length (reconfirm_message rr)) 65535 then (true, with_connection (writes false client.now (reconfirm_message rr) d) client) else (false, client)
    ]

    reconfirmed-behind : Behind (reconfirm client rr).1 (reconfirmed_by c rr)
    reconfirmed-behind = subst (λ (r : Bool × Client). Behind r.1 (reconfirmed_by c rr)) (sym (ap says_on there)) (by (c.established && nat_le (length (reconfirm_message rr)) 65535) refl)
      where
        by : (b : Bool) → (c.established && nat_le (length (reconfirm_message rr)) 65535) ≡ b
            → (let r : Bool × Client = if b then (true, with_connection (writes false client.now (reconfirm_message rr) c) client) else (false, client) in Behind r.1 (if b then reconfirms rr ∷ [] else []))
        by true is =
            let parts = and_parts c.established (nat_le (length (reconfirm_message rr)) 65535) is in
            one-more (with_connection (writes false client.now (reconfirm_message rr) c) client) _ (reconfirms rr) refl refl refl unclosed
            (reconfirm-fits ends before.taken before.flying before.ups rr parts.0 named parts.1 before.fit)
        by false is = as-it-was

  -- ---- a moment

  -- where a Keepalive is due none is out
  none-out : (clocks : Clocks) (t : ℕ) (active : Bool) (o : Option ℕ) → client_due clocks t active (is_some o) ≡ dues.Keepalive → o ≡ None
  none-out clocks t active None due = refl
  none-out clocks t active (Some id) due = by (not active && is_inactive clocks t) due
    where
      by : (b : Bool) → (if b then dues.Idle else dues.Nothing) ≡ dues.Keepalive → Some id ≡ None
      by true e = absurd cc
      by false e = absurd cc

  module _ (t : ℕ) where
    abbrev at_then : Client
    at_then = at_later t client

    abbrev due_on : Option Connection → Client
    due_on o = elim o [ None ↦ at_then | Some d ↦ does (client_due d.clocks t (list_any (λ w. is_active w.standing) client.wishes) (is_some d.keepalive_out)) d at_then ]

    moment-behind : Leaves (moment client t) (due_message (due_at client c t) (next_id client.wishes c)) (due_close (due_at client c t))
    moment-behind = subst (λ later. Leaves later (due_message (due_at client c t) (next_id client.wishes c)) (due_close (due_at client c t))) (sym (ap due_on there)) (by (due_at client c t) refl)
      where
        by : (d : Due) → due_at client c t ≡ d → Leaves (does d c at_then) (due_message d (next_id client.wishes c)) (due_close d)
        by dues.Nothing is = silent at_then c None connected refl refl unclosed before.fit
        by dues.Idle is = silent (does dues.Idle c at_then) _ (Some closes.Idle) (ap (option_map (λ (d : Connection). record d { closed = Some closes.Idle })) connected) refl refl refl before.fit
        by dues.Keepalive is =
            let id = next_id client.wishes c in
            let free = next-is-free hub told session client c before.fit.client in
            let none = none-out c.clocks t (list_any (λ w. is_active w.standing) client.wishes) c.keepalive_out is in
            one-more (does dues.Keepalive c at_then) _ (requests_keepalive id) refl refl refl unclosed (keepalive-fits ends before.taken before.flying before.ups id none free.0 free.1 before.fit)

pub subscribes-go-up : SubscribesGoUp
subscribes-go-up hub told session client c up_wire down_wire question fits different there before = subscribed-behind hub told session client c up_wire down_wire there before question fits different

pub unsubscribes-go-up : UnsubscribesGoUp
unsubscribes-go-up hub told session client c up_wire down_wire question there before = dropped-behind hub told session client c up_wire down_wire there before question

pub reconfirms-go-up : ReconfirmsGoUp
reconfirms-go-up hub told session client c up_wire down_wire rr named there before = reconfirmed-behind hub told session client c up_wire down_wire there before rr named

pub moments-go-up : MomentsGoUp
moments-go-up hub told session client c up_wire down_wire t there before = moment-behind hub told session client c up_wire down_wire there before t
