-- Each call but `step` leaves a sound client.
use Rattle.std.proofs.Common.{◌≡◌, ℕ, ◌+◌, ◌-◌, ◌<◌, ◌≤◌, Bool, true, false, cond, not, ◌&&◌, ◌||◌, ◌==◌, List, [], ◌∷◌, ◌++◌, length, map, append_assoc, Option, Some, None, refl, sym, ap, subst, ◌∙◌, arith}
use Rattle.std.specs.Prelude.{if◌then◌else◌, filter, take, drop, fold, option_map, option_to_list, is_some, nat_le}
use Rattle.std.specs.List.{IsDistinct, AllByRecursion, list_any}
use Rattle.std.proofs.lemmas.Bool.{leb-false}
use Rattle.std.proofs.lemmas.List.{length-append, length-map, length-take, map-append}
use Rattle.std.proofs.lemmas.List.Sums.{length-filter, count_by-le-length}
use Rattle.push_base.specs.Limits.{max_questions, max_input}
use Rattle.rrset.specs.Records.{same_question}
use Rattle.rrset.specs.declared.record.Rr.{Rr}
use Rattle.rrset.specs.declared.record.Question.{Question}
use Rattle.rrset.proofs.Distinct.{any_found, distinct_none, distinct_push}
use Rattle.dsosession.specs.Timing.{client_due}
use Rattle.dsosession.specs.declared.session.Due.{Due}
use Rattle.dsosession.specs.declared.session.Due.TheVariants as dues
use Rattle.dsosession.specs.declared.session.CloseReason.{CloseReason}
use Rattle.dsosession.specs.declared.session.CloseReason.TheVariants as closes
use Rattle.rrset.proofs.Places.{all_filter}
use Rattle.pushclient.specs.declared.client.Asked.{Asked}
use Rattle.pushclient.specs.declared.client.Asked.TheVariants as asked
use Rattle.pushclient.specs.Clients.{Client, Connection, Wish, RequestState, not_asked, unanswered, refused, answered, new_client, new_connection, next_id, id_in_use, ids_in_use, writes, subscribe_message, unsubscribe_message, reconfirm_message, open_connection, with_connection, in_connection, asks, unasked, wanted_questions, connected, cut, wish_for, without_wish, subscribe, drops, unsubscribe, reconfirm, take_octets, give_octets}
use Rattle.pushclient.specs.Steps.{is_answered, is_active, sends_keepalive, does, at_later, moment, closes_as}
use Rattle.pushclient.specs.SoundClients.{IsSound, IsSoundOn, StandsSoundly, IsAsked, IsUnasked, IsRightlyDropped, is_waiting, is_asked, question_of, count_of}
use Rattle.pushclient.proofs.FreeIds.{one_more, next_is_id, next_is_free}
use Rattle.pushclient.proofs.SoundWishes.{Apart, apart, found_own, same_as, find_holds, some_is, all_front, all_behind, all_as, all_replaced, all_moved, all_at, own_use, used_behind, used_left, used_replaced, used_moved, in_use_counts, ids_fewer}

pub new_sound : IsSound new_client
new_sound = record { few = omega arith; questions = distinct_none same_question; dropped = tt; stands = tt }

-- ---- the connection alone

-- another connection at another moment
pub moved_sound : (p : Client) (x : Option Connection) (t : ℕ) → IsSound p → StandsSoundly p.wishes x → IsSound (record p { connection = x; now = t })
moved_sound p x t s stands = record { few = s.few; questions = s.questions; dropped = s.dropped; stands = stands }

abbrev pub IsKeptBy : (Connection → Connection) → Type 0
IsKeptBy f = (ws : List Wish) (c : Connection) → IsSoundOn ws c → IsSoundOn ws (f c)

stands_changed : (f : Connection → Connection) → IsKeptBy f → (ws : List Wish) (x : Option Connection) → StandsSoundly ws x → StandsSoundly ws (option_map f x)
stands_changed f keeps ws None h = h
stands_changed f keeps ws (Some c) h = keeps ws c h

pub connection_sound : (f : Connection → Connection) → IsKeptBy f → (p : Client) → IsSound p → IsSound (in_connection f p)
connection_sound f keeps p s = moved_sound p (option_map f p.connection) p.now s (stands_changed f keeps p.wishes p.connection s.stands)

pub closed_sound : (reason : CloseReason) (p : Client) → IsSound p → IsSound (closes_as reason p).1
closed_sound reason = connection_sound (λ c. record c { closed = Some reason }) (λ ws c s. record { last = s.last; ids = s.ids; asked = λ e. absurd cc; begun = s.begun; input = s.input })

pub given_sound : (n : ℕ) (p : Client) → IsSound p → IsSound (give_octets n p)
given_sound n = connection_sound (λ c. record c { output = drop n c.output }) (λ ws c s. record { last = s.last; ids = s.ids; asked = s.asked; begun = s.begun; input = s.input })

-- ---- the open connection

abbrev open_in : Option Connection → Option Connection
open_in x = elim x [ None ↦ None | Some c ↦ cond (is_some c.closed) None (Some c) ]

-- an open connection is the client's, and hasn't closed
pub opened : (ws : List Wish) (x : Option Connection) (c : Connection) → open_in x ≡ Some c → StandsSoundly ws x → IsSoundOn ws c × (c.closed ≡ None)
opened ws None c e h = absurd cc
opened ws (Some d) c e h = by d.closed refl e
  where
    by : (y : Option CloseReason) → d.closed ≡ y → cond (is_some y) None (Some d) ≡ Some c → IsSoundOn ws c × (c.closed ≡ None)
    by (Some reason) is e = absurd cc
    by None is e = subst (λ (z : Connection). IsSoundOn ws z × (z.closed ≡ None)) (some_is d c e) (h, is)

pub written_sound : (p : Client) (c : Connection) (is_keepalive : Bool) (message : List ℕ) → open_connection p ≡ Some c → IsSound p → IsSound (with_connection (writes is_keepalive p.now message c) p)
written_sound p c is_keepalive message e s =
    let h : IsSoundOn p.wishes c = (opened p.wishes p.connection c e s.stands).0 in
    moved_sound p _ p.now s (record { last = h.last; ids = h.ids; asked = h.asked; begun = h.begun; input = h.input })

-- what is taken fits
taken_fits : (piece : List ℕ) (c : Connection) (room : ℕ) → room ≤ max_input - length c.input → length c.input ≤ max_input → length (c.input ++ take room piece) ≤ max_input
taken_fits piece c room fits within = omega (arith, fits, within, length-append c.input (take room piece), length-take room piece)

taken_at : (piece : List ℕ) (p : Client) (x : Option Connection) → IsSound (record p { connection = x }) → IsSound (take_octets piece (record p { connection = x }))
taken_at piece p None s = s
taken_at piece p (Some c) s = let h : IsSoundOn p.wishes c = s.stands in by h c.closed
  where
    by : IsSoundOn p.wishes c → (y : Option CloseReason) → IsSound (record p { connection = Some (record c { input = c.input ++ take (elim (cond (is_some y) None (Some c)) [ None ↦ 0 | Some d ↦ max_input - length d.input ]) piece }) })
    by h (Some reason) = moved_sound (record p { connection = Some c }) _ p.now s (record { last = h.last; ids = h.ids; asked = h.asked; begun = h.begun; input = taken_fits piece c 0 (omega arith) h.input })
    by h None = moved_sound (record p { connection = Some c }) _ p.now s (record { last = h.last; ids = h.ids; asked = h.asked; begun = h.begun; input = taken_fits piece c (max_input - length c.input) (omega arith) h.input })

pub taken_sound : (piece : List ℕ) (p : Client) → IsSound p → IsSound (take_octets piece p)
taken_sound piece p s = taken_at piece p p.connection s

module _ (rr : Rr) (p : Client) where
  abbrev said : Connection → Bool → Bool × Client
  said c t = if t then (true, with_connection (writes false p.now (reconfirm_message rr) c) p) else (false, p)

  pub reconfirm_sound : IsSound p → IsSound (reconfirm p rr).1
  reconfirm_sound s = by (open_connection p) refl
    where
      tested : (c : Connection) → open_connection p ≡ Some c → (t : Bool) → IsSound (said c t).1
      tested c e true = written_sound p c false (reconfirm_message rr) e s
      tested c e false = s

      by : (o : Option Connection) → open_connection p ≡ o → IsSound (elim o as (λ _. Bool × Client) [ None ↦ (false, p) | Some c ↦ said c (c.established && nat_le (length (reconfirm_message rr)) 65535) ]).1
      by None e = s
      by (Some c) e = tested c e (c.established && nat_le (length (reconfirm_message rr)) 65535)

pub moment_sound : (t : ℕ) (p : Client) → IsSound p → IsSound (moment p t)
moment_sound t p s = by (open_connection p) refl
  where
    later : IsSound (at_later t p)
    later = moved_sound p p.connection t s s.stands

    kept_alive : (c : Connection) → open_connection p ≡ Some c → IsSound (sends_keepalive c (at_later t p))
    kept_alive c e =
        let o = opened p.wishes p.connection c e s.stands in
        let h : IsSoundOn p.wishes c = o.0 in
        moved_sound p _ t s (record {
          last = (next_is_id p.wishes c h.last).1;
          ids = one_more (ids_in_use p.wishes c) _ (next_id p.wishes c) h.ids (next_is_id p.wishes c h.last) (next_is_free p.wishes c h.last s.few)
              (λ id. omega (arith, in_use_counts id p.wishes c, in_use_counts id p.wishes (record c { keepalive_out = Some (next_id p.wishes c) }), count_one id (next_id p.wishes c)));
          asked = h.asked;
          begun = h.begun;
          input = h.input;
        })
      where
        count_one : (id n : ℕ) → count_of id (option_to_list (Some n)) ≡ cond (n == id) 1 0
        count_one id n = omega arith

    due : (d : Due) (c : Connection) → open_connection p ≡ Some c → IsSound (does d c (at_later t p))
    due dues.Nothing c e = later
    due dues.Keepalive c e = kept_alive c e
    due dues.Idle c e = closed_sound closes.Idle (at_later t p) later

    by : (o : Option Connection) → open_connection p ≡ o → IsSound (elim o [ None ↦ at_later t p | Some c ↦ does (client_due c.clocks t (list_any (λ w. is_active w.standing) p.wishes) (is_some c.keepalive_out)) c (at_later t p) ])
    by None e = later
    by (Some c) e = due (client_due c.clocks t (list_any (λ w. is_active w.standing) p.wishes) (is_some c.keepalive_out)) c e

-- ---- a wish more

-- where the connection isn't open a new wish isn't asked
unasked_more : (ws : List Wish) (q : Question) (x : Option Connection) → open_in x ≡ None → StandsSoundly ws x → StandsSoundly (ws ++ unasked q ∷ []) x
unasked_more ws q None e h = all_behind IsUnasked ws (unasked q) h refl
unasked_more ws q (Some c) e h = record {
  last = h.last;
  ids = ids_fewer ws (ws ++ unasked q ∷ []) c c h.ids (λ id. omega (arith, used_behind id ws (unasked q))) refl;
  asked = λ open_still. let no : ⊥ = not_closed c.closed refl e open_still in absurd no;
  begun = all_behind (λ w. is_answered w.standing ≡ true → c.established ≡ true) ws (unasked q) h.begun (λ a. absurd cc);
  input = h.input;
}
  where
    not_closed : (y : Option CloseReason) → c.closed ≡ y → cond (is_some y) None (Some c) ≡ None → y ≡ None → ⊥
    not_closed (Some reason) is e none = absurd cc
    not_closed None is e none = absurd cc

-- where it is open the wish is asked with the next ID
asked_more : (ws : List Wish) (q : Question) (c : Connection) (message : List ℕ) (now : ℕ) → IsSoundOn ws c → length ws ≤ 1024
    → IsSoundOn (ws ++ (record { question = q; wanted = true; standing = unanswered (next_id ws c); notices = [] }) ∷ []) (writes false now message (record c { last_id = next_id ws c }))
asked_more ws q c message now h few =
    let w : Wish = record { question = q; wanted = true; standing = unanswered (next_id ws c); notices = [] } in
    let d : Connection = writes false now message (record c { last_id = next_id ws c }) in
    record {
      last = (next_is_id ws c h.last).1;
      ids = one_more (ids_in_use ws c) (ids_in_use (ws ++ w ∷ []) d) (next_id ws c) h.ids (next_is_id ws c h.last) (next_is_free ws c h.last few)
          (λ id. omega (arith, in_use_counts id ws c, in_use_counts id (ws ++ w ∷ []) d, used_behind id ws w));
      asked = λ e. all_behind IsAsked ws w (h.asked e) refl;
      begun = all_behind (λ v. is_answered v.standing ≡ true → c.established ≡ true) ws w h.begun (λ a. absurd cc);
      input = h.input;
    }

module _ (p : Client) (q : Question) where
  abbrev asking : Option Connection → Client
  asking o = elim o [
    | None ↦ record p { wishes = p.wishes ++ unasked q ∷ [] }
    | Some c ↦ (let id = next_id p.wishes c in record p {
      wishes = p.wishes ++ (record { question = q; wanted = true; standing = unanswered id; notices = [] }) ∷ [];
      connection = Some (writes false p.now (subscribe_message id q) (record c { last_id = id }));
    })
  ]

  pub asks_questions : map question_of (asks p q).wishes ≡ map question_of p.wishes ++ q ∷ []
  asks_questions = by (open_connection p)
    where
      by : (o : Option Connection) → map question_of (asking o).wishes ≡ map question_of p.wishes ++ q ∷ []
      by None = map-append question_of p.wishes (unasked q ∷ [])
      by (Some c) = map-append question_of p.wishes (record { question = q; wanted = true; standing = unanswered (next_id p.wishes c); notices = [] } ∷ [])

  pub asks_length : length (asks p q).wishes ≡ length p.wishes + 1
  asks_length = sym (length-map (asks p q).wishes question_of) ∙ ap length asks_questions ∙ length-append (map question_of p.wishes) (q ∷ []) ∙ ap (λ n. n + 1) (length-map p.wishes question_of)

  pub asks_sound : IsSound p → length p.wishes < max_questions → IsDistinct same_question (map question_of p.wishes ++ q ∷ []) → IsSound (asks p q)
  asks_sound s room different = record {
    few = omega (arith, asks_length, room);
    questions = subst (IsDistinct same_question) (sym asks_questions) different;
    dropped = by_dropped (open_connection p);
    stands = by_stands (open_connection p) refl;
  }
    where
      by_dropped : (o : Option Connection) → AllByRecursion IsRightlyDropped (asking o).wishes
      by_dropped None = all_behind IsRightlyDropped p.wishes (unasked q) s.dropped (λ e. absurd cc)
      by_dropped (Some c) = all_behind IsRightlyDropped p.wishes (record { question = q; wanted = true; standing = unanswered (next_id p.wishes c); notices = [] }) s.dropped (λ e. absurd cc)

      by_stands : (o : Option Connection) → open_connection p ≡ o → StandsSoundly (asking o).wishes (asking o).connection
      by_stands None e = unasked_more p.wishes q p.connection e s.stands
      by_stands (Some c) e = asked_more p.wishes q c (subscribe_message (next_id p.wishes c) q) p.now (opened p.wishes p.connection c e s.stands).0 s.few

-- ---- wishes that go

left_stands : (f : Wish → Bool) (ws : List Wish) (x : Option Connection) → StandsSoundly ws x → StandsSoundly (filter f ws) x
left_stands f ws None h = all_filter IsUnasked f ws h
left_stands f ws (Some c) h = record {
  last = h.last;
  ids = ids_fewer ws (filter f ws) c c h.ids (used_left f ws) refl;
  asked = λ e. all_filter IsAsked f ws (h.asked e);
  begun = all_filter (λ w. is_answered w.standing ≡ true → c.established ≡ true) f ws h.begun;
  input = h.input;
}

pub questions_left : (f : Wish → Bool) (ws : List Wish) → IsDistinct same_question (map question_of ws) → IsDistinct same_question (map question_of (filter f ws))
unfolding IsDistinct
questions_left f [] h = tt
questions_left f (w ∷ ws) h = by (f w) (others f ws h.0) (questions_left f ws h.1)
  where
    others : (f : Wish → Bool) (vs : List Wish) → AllByRecursion (λ y. same_question w.question y ≡ false) (map question_of vs) → AllByRecursion (λ y. same_question w.question y ≡ false) (map question_of (filter f vs))
    others f [] all = tt
    others f (v ∷ vs) all = by_one (f v) (others f vs all.1)
      where
        by_one : (b : Bool) → AllByRecursion (λ y. same_question w.question y ≡ false) (map question_of (filter f vs)) → AllByRecursion (λ y. same_question w.question y ≡ false) (map question_of (cond b (v ∷ filter f vs) (filter f vs)))
        by_one true rest = (all.0, rest)
        by_one false rest = rest

    by : (b : Bool) → AllByRecursion (λ y. same_question w.question y ≡ false) (map question_of (filter f ws)) → IsDistinct same_question (map question_of (filter f ws)) → IsDistinct same_question (map question_of (cond b (w ∷ filter f ws) (filter f ws)))
    by true first rest = (first, rest)
    by false first rest = rest

length_left : (f : Wish → Bool) (ws : List Wish) → length (filter f ws) ≤ length ws
length_left f ws = omega (arith, length-filter f ws, count_by-le-length f ws)

pub left_sound : (f : Wish → Bool) (p : Client) → IsSound p → IsSound (record p { wishes = filter f p.wishes })
left_sound f p s = record {
  few = omega (arith, s.few, length_left f p.wishes);
  questions = questions_left f p.wishes s.questions;
  dropped = all_filter IsRightlyDropped f p.wishes s.dropped;
  stands = left_stands f p.wishes p.connection s.stands;
}

-- ---- a wish that stands otherwise

-- a wish without a connection waits for nothing
pub no_wait : (w : Wish) → IsUnasked w → is_waiting w.standing ≡ true → ⊥
no_wait w is waits = let none : is_waiting w.standing ≡ false = ap (λ (v : Wish). is_waiting v.standing) is in absurd cc

waits_asked : (standing : RequestState) → is_waiting standing ≡ true → is_asked standing ≡ true
waits_asked not_asked e = absurd cc
waits_asked (unanswered id) e = refl
waits_asked (refused rcode) e = absurd cc
waits_asked (answered id) e = absurd cc

-- one wish is changed, and the connection with it
pub replaced_sound : (p : Client) (before : List Wish) (w v : Wish) (behind : List Wish) (x : Option Connection) → p.wishes ≡ before ++ w ∷ behind → v.question ≡ w.question → IsRightlyDropped v → StandsSoundly (before ++ v ∷ behind) x → IsSound p → IsSound (record p { wishes = before ++ v ∷ behind; connection = x })
replaced_sound p before w v behind x are one right stands s = record {
  few = omega (arith, s.few, ap length are, length-append before (w ∷ behind), length-append before (v ∷ behind));
  questions = subst (IsDistinct same_question) (ap (map question_of) are ∙ alike) s.questions;
  dropped = all_replaced IsRightlyDropped before w v behind right (subst (AllByRecursion IsRightlyDropped) are s.dropped);
  stands = stands;
}
  where
    alike : map question_of (before ++ w ∷ behind) ≡ map question_of (before ++ v ∷ behind)
    alike = map-append question_of before (w ∷ behind) ∙ ap (λ (q : Question). map question_of before ++ (q ∷ map question_of behind)) (sym one) ∙ sym (map-append question_of before (v ∷ behind))

-- what waits for an answer is dropped, wanted again, or answered
pub replaced_on : (before : List Wish) (w v : Wish) (behind : List Wish) (c : Connection) (established : Bool) → IsSoundOn (before ++ w ∷ behind) c → ((id : ℕ) → own_use id v ≤ own_use id w) → IsAsked v
    → (is_answered v.standing ≡ true → established ≡ true) → (c.established ≡ true → established ≡ true) → IsSoundOn (before ++ v ∷ behind) (record c { established = established })
replaced_on before w v behind c established h less stays begun later = record {
  last = h.last;
  ids = ids_fewer (before ++ w ∷ behind) (before ++ v ∷ behind) c c h.ids (used_replaced before w v behind less) refl;
  asked = λ e. all_replaced IsAsked before w v behind stays (h.asked e);
  begun = all_replaced (λ u. is_answered u.standing ≡ true → established ≡ true) before w v behind begun
      (all_as (λ u. is_answered u.standing ≡ true → c.established ≡ true) (λ u. is_answered u.standing ≡ true → established ≡ true) (λ u f a. later (f a)) (before ++ w ∷ behind) h.begun);
  input = h.input;
}

module _ (p : Client) (s : IsSound p) (q : Question) (w : Wish) (found : wish_for p q ≡ Some w) where
  others : Apart q w p.wishes
  others = apart q w p.wishes s.questions found

  -- what was dropped is wanted again, as the last in order
  pub again_sound : w.wanted ≡ false → IsSound (record p { wishes = without_wish q p.wishes ++ (record w { wanted = true }) ∷ [] })
  again_sound unwanted = record {
    few = omega (arith, s.few, ap length others.is, length-append others.before (w ∷ others.behind), length-append others.before others.behind, length-append (others.before ++ others.behind) (again ∷ []), ap (λ (ws : List Wish). length (ws ++ again ∷ [])) others.left);
    questions = subst (IsDistinct same_question) (sym (map-append question_of (without_wish q p.wishes) (again ∷ [])))
        (distinct_push same_question (map question_of (without_wish q p.wishes)) w.question (questions_left (λ v. not (same_question v.question q)) p.wishes s.questions) (none_left p.wishes));
    dropped = subst (AllByRecursion IsRightlyDropped) last (all_moved IsRightlyDropped others.before w again others.behind (λ e. absurd cc) (subst (AllByRecursion IsRightlyDropped) others.is s.dropped));
    stands = subst (λ (ws : List Wish). StandsSoundly ws p.connection) last (by p.connection (subst (λ (ws : List Wish). StandsSoundly ws p.connection) others.is s.stands));
  }
    where
      again : Wish
      again = record w { wanted = true }

      last : (others.before ++ others.behind) ++ again ∷ [] ≡ without_wish q p.wishes ++ again ∷ []
      last = ap (λ (ws : List Wish). ws ++ again ∷ []) (sym others.left)

      waits : is_waiting w.standing ≡ true
      waits = all_at IsRightlyDropped others.before w others.behind (subst (AllByRecursion IsRightlyDropped) others.is s.dropped) unwanted

      none_left : (ws : List Wish) → list_any (λ x. same_question x w.question) (map question_of (without_wish q ws)) ≡ false
      none_left [] = refl
      none_left (v ∷ ws) = by_one (same_question v.question q) refl (none_left ws)
        where
          by_one : (b : Bool) → same_question v.question q ≡ b → list_any (λ x. same_question x w.question) (map question_of (without_wish q ws)) ≡ false
              → list_any (λ x. same_question x w.question) (map question_of (cond (not b) (v ∷ without_wish q ws) (without_wish q ws))) ≡ false
          by_one true is rest = rest
          by_one false is rest = ap (λ (b : Bool). b || list_any (λ x. same_question x w.question) (map question_of (without_wish q ws)))
              (same_as w.question q v.question (find_holds (λ u. same_question u.question q) p.wishes w found) ∙ is) ∙ rest

      by : (x : Option Connection) → StandsSoundly (others.before ++ w ∷ others.behind) x → StandsSoundly ((others.before ++ others.behind) ++ again ∷ []) x
      by None h = let no : ⊥ = no_wait w (all_at IsUnasked others.before w others.behind h) waits in absurd no
      by (Some c) h = record {
        last = h.last;
        ids = ids_fewer (others.before ++ w ∷ others.behind) ((others.before ++ others.behind) ++ again ∷ []) c c h.ids (used_moved others.before w again others.behind (λ id. omega arith)) refl;
        asked = λ e. all_moved IsAsked others.before w again others.behind (waits_asked w.standing waits) (h.asked e);
        begun = all_moved (λ u. is_answered u.standing ≡ true → c.established ≡ true) others.before w again others.behind
            (all_at (λ u. is_answered u.standing ≡ true → c.established ≡ true) others.before w others.behind h.begun) h.begun;
        input = h.input;
      }

  -- one wish that waits is changed
  changed_sound : (f : Wish → Wish) → is_waiting w.standing ≡ true → (f w).question ≡ w.question → IsRightlyDropped (f w) → (f w).standing ≡ w.standing → IsSound (record p { wishes = map (λ v. cond (same_question v.question q) (f v) v) p.wishes })
  changed_sound f waits one right same = subst (λ (ws : List Wish). IsSound (record p { wishes = ws })) (sym (others.changed f))
      (replaced_sound p others.before w (f w) others.behind p.connection others.is one right (by p.connection (subst (λ (ws : List Wish). StandsSoundly ws p.connection) others.is s.stands)) s)
    where
      by : (x : Option Connection) → StandsSoundly (others.before ++ w ∷ others.behind) x → StandsSoundly (others.before ++ f w ∷ others.behind) x
      by None h = let no : ⊥ = no_wait w (all_at IsUnasked others.before w others.behind h) waits in absurd no
      by (Some c) h = replaced_on others.before w (f w) others.behind c c.established h (λ id. omega (arith, ap (λ (t : RequestState). count_of id (id_in_use t)) same)) (ap is_asked same ∙ waits_asked w.standing waits)
          (λ a. all_at (λ u. is_answered u.standing ≡ true → c.established ≡ true) others.before w others.behind h.begun (ap is_answered (sym same) ∙ a)) (λ e. e)

module _ (p : Client) (s : IsSound p) where
  ended_sound : (id : ℕ) (w : Wish) → IsSound (drops (answered id) w p)
  ended_sound id w = by (open_connection p) refl
    where
      gone : Client
      gone = record p { wishes = without_wish w.question p.wishes }

      gone_sound : IsSound gone
      gone_sound = left_sound (λ v. not (same_question v.question w.question)) p s

      by : (o : Option Connection) → open_connection p ≡ o → IsSound (elim o [ None ↦ gone | Some c ↦ with_connection (writes false p.now (unsubscribe_message id) c) gone ])
      by None e = gone_sound
      by (Some c) e = written_sound gone c false (unsubscribe_message id) e gone_sound

  pub drops_sound : (w : Wish) → wish_for p w.question ≡ Some w → (standing : RequestState) → w.standing ≡ standing → IsSound (drops standing w p)
  drops_sound w found (answered id) is = ended_sound id w
  drops_sound w found (unanswered id) is = let waits : is_waiting w.standing ≡ true = ap is_waiting is in changed_sound p s w.question w found (λ v. record v { wanted = false }) waits refl (λ e. waits) refl
  drops_sound w found (refused rcode) is = left_sound (λ v. not (same_question v.question w.question)) p s
  drops_sound w found not_asked is = left_sound (λ v. not (same_question v.question w.question)) p s

  abbrev unsubscribing : Option Wish → Bool × Client
  unsubscribing o = elim o [ None ↦ (false, p) | Some wish ↦ if wish.wanted then (true, drops wish.standing wish p) else (false, p) ]

  pub unsubscribe_sound : (q : Question) → IsSound (unsubscribe p q).1
  unsubscribe_sound q = by (wish_for p q) refl
    where
      tested : (t : Bool) (w : Wish) → wish_for p q ≡ Some w → (let r : Bool × Client = if t then (true, drops w.standing w p) else (false, p) in IsSound r.1)
      tested true w e = drops_sound w (found_own (λ v. same_question v.question q) p.wishes w s.questions e) w.standing refl
      tested false w e = s

      by : (o : Option Wish) → wish_for p q ≡ o → IsSound (unsubscribing o).1
      by None e = s
      by (Some w) e = tested w.wanted w e

  any_questions : (q : Question) (ws : List Wish) → list_any (λ x. same_question x q) (map question_of ws) ≡ list_any (λ w. same_question w.question q) ws
  any_questions q [] = refl
  any_questions q (w ∷ ws) = ap (λ (b : Bool). same_question w.question q || b) (any_questions q ws)

  abbrev subscribing : Question → Option Wish → Asked × Client
  subscribing q o = elim o [
    | Some wish ↦ if wish.wanted then (asked.Already, p) else (asked.New, record p { wishes = without_wish q p.wishes ++ (record wish { wanted = true }) ∷ [] })
    | None ↦ if nat_le max_questions (length p.wishes) then (asked.Many, p) else (asked.New, asks p q)
  ]

  -- a question that no wish is for comes as the last
  pub apart_more : (q : Question) → wish_for p q ≡ None → IsDistinct same_question (map question_of p.wishes ++ q ∷ [])
  apart_more q none = distinct_push same_question (map question_of p.wishes) q s.questions (any_questions q p.wishes ∙ any_found (λ w. same_question w.question q) p.wishes none)

  pub subscribe_sound : (q : Question) → IsSound (subscribe p q).1
  subscribe_sound q = by (wish_for p q) refl
    where
      tested : (t : Bool) (w : Wish) → wish_for p q ≡ Some w → w.wanted ≡ t → (let r : Asked × Client = if t then (asked.Already, p) else (asked.New, record p { wishes = without_wish q p.wishes ++ (record w { wanted = true }) ∷ [] }) in IsSound r.1)
      tested true w e is = s
      tested false w e is = again_sound p s q w e is

      counted : (t : Bool) → nat_le max_questions (length p.wishes) ≡ t → wish_for p q ≡ None → (let r : Asked × Client = if t then (asked.Many, p) else (asked.New, asks p q) in IsSound r.1)
      counted true is e = s
      counted false is e = asks_sound p q s (leb-false max_questions (length p.wishes) is) (apart_more q e)

      by : (o : Option Wish) → wish_for p q ≡ o → IsSound (subscribing q o).1
      by None e = counted (nat_le max_questions (length p.wishes)) refl e
      by (Some w) e = tested w.wanted w e refl

-- ---- a new connection, and none

pub apart_front : (xs ys : List Question) → IsDistinct same_question (xs ++ ys) → IsDistinct same_question xs
unfolding IsDistinct
apart_front [] ys h = tt
apart_front (x ∷ xs) ys h = (all_front (λ y. same_question x y ≡ false) xs ys h.0, apart_front xs ys h.1)

-- of questions that are asked one after the other the first is
pub one_more_sound : (p : Client) → IsSound p → (q : Question) (qs : List Question) → length p.wishes + length (q ∷ qs) ≤ max_questions → IsDistinct same_question (map question_of p.wishes ++ q ∷ qs)
    → IsSound (asks p q) × (length (asks p q).wishes + length qs ≤ max_questions) × IsDistinct same_question (map question_of (asks p q).wishes ++ qs)
one_more_sound p s q qs room different =
    let grouped : IsDistinct same_question ((map question_of p.wishes ++ q ∷ []) ++ qs) = subst (IsDistinct same_question) (sym (append_assoc (map question_of p.wishes) (q ∷ []) qs)) different in (
      asks_sound p q s (omega (arith, room)) (apart_front (map question_of p.wishes ++ q ∷ []) qs grouped),
      omega (arith, room, asks_length p q),
      subst (λ (l : List Question). IsDistinct same_question (l ++ qs)) (sym (asks_questions p q)) grouped,
    )

all_asked_sound : (qs : List Question) (p : Client) → IsSound p → length p.wishes + length qs ≤ max_questions → IsDistinct same_question (map question_of p.wishes ++ qs) → IsSound (fold asks p qs)
all_asked_sound [] p s room different = s
all_asked_sound (q ∷ qs) p s room different = let more = one_more_sound p s q qs room different in all_asked_sound qs (asks p q) more.0 more.1 more.2

-- a client with a new connection, before anything is asked
abbrev pub fresh_client : ℕ → Client
fresh_client t = record { wishes = []; connection = Some (new_connection t); now = t }

pub fresh_sound : (t : ℕ) → IsSound (fresh_client t)
fresh_sound t = record { few = omega arith; questions = distinct_none same_question; dropped = tt; stands = record { last = omega arith; ids = record { each = tt; once = λ id. omega arith }; asked = λ e. tt; begun = tt; input = omega arith } }

module _ (p : Client) (s : IsSound p) where
  pub few_wanted : length (wanted_questions p) ≤ max_questions
  few_wanted = omega (arith, s.few, length-map (filter (λ w. w.wanted) p.wishes) question_of, length_left (λ w. w.wanted) p.wishes)

  pub connected_sound : (t : ℕ) → IsSound (connected t p)
  connected_sound t = all_asked_sound (wanted_questions p) (fresh_client t) (fresh_sound t) (omega (arith, few_wanted)) (questions_left (λ w. w.wanted) p.wishes s.questions)

  unasked_questions : (qs : List Question) → map question_of (map unasked qs) ≡ qs
  unasked_questions [] = refl
  unasked_questions (q ∷ qs) = ap (λ l. q ∷ l) (unasked_questions qs)

  each_unasked : (P : Wish → Type 0) → ((q : Question) → P (unasked q)) → (qs : List Question) → AllByRecursion P (map unasked qs)
  each_unasked P each [] = tt
  each_unasked P each (q ∷ qs) = (each q, each_unasked P each qs)

  pub cut_sound : IsSound (cut p)
  cut_sound = record {
    few = omega (arith, few_wanted, length-map (wanted_questions p) unasked);
    questions = subst (IsDistinct same_question) (sym (unasked_questions (wanted_questions p))) (questions_left (λ w. w.wanted) p.wishes s.questions);
    dropped = each_unasked IsRightlyDropped (λ q e. absurd cc) (wanted_questions p);
    stands = each_unasked IsUnasked (λ q. refl) (wanted_questions p);
  }
