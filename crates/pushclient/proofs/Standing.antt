-- What each call does to the client that is kept is what it does to the plain one that it stands for.
use Rattle.std.proofs.Common.{◌≡◌, ℕ, append-nil, Bool, true, false, cond, ◌&&◌, ◌||◌, List, [], ◌∷◌, ◌++◌, length, map, Option, Some, None, refl, sym, ap, subst, ◌∙◌}
use Rattle.std.specs.Prelude.{if◌then◌else◌, find, filter, option_map, option_to_list, is_some, nat_le}
use Rattle.std.specs.List.{list_any, flat_map}
use Rattle.rrset.specs.declared.record.Rr.{Rr}
use Rattle.rrset.specs.declared.record.Question.{Question}
use Rattle.dsosession.specs.Timing.{client_due}
use Rattle.dsosession.specs.declared.session.Due.{Due}
use Rattle.dsosession.specs.declared.session.Due.TheVariants as dues
use Rattle.dsosession.specs.declared.session.CloseReason.{CloseReason}
use Rattle.pushclient.specs.Clients.{Client, Connection, Wish, RequestState, free_id, id_after, id_in_use, unanswered, writes, subscribe_message, reconfirm_message, with_connection, asks, reconfirm, take_octets, give_octets, room_of, output_of, closed_as}
use Rattle.pushclient.specs.Rule.{KeptClient, StandsFor, without_told, set_told, is_answered_for}
use Rattle.pushclient.specs.Steps.{is_active, keepalive_message, does, moment}
use Rattle.pushclient.specs.SoundClients.{IsSound}
use Rattle.pushclient.specs.Kept.{asked_on, reconfirmed_on, taken_on, room_on, given_on, output_on, closed_on, done_on, timed_on, kept_ask, kept_reconfirm, kept_take, kept_give, kept_moment}
use Rattle.pushclient.proofs.SoundCalls.{reconfirm_sound, taken_sound, given_sound, moment_sound}

-- ---- lists

pub find_map : {A B : Type 0} (p : B → Bool) (f : A → B) (xs : List A) → find p (map f xs) ≡ option_map f (find (λ x. p (f x)) xs)
find_map p f [] = refl
find_map p f (x ∷ xs) = by (p (f x)) (find_map p f xs)
  where
    by : (b : Bool) → find p (map f xs) ≡ option_map f (find (λ y. p (f y)) xs) → cond b (Some (f x)) (find p (map f xs)) ≡ option_map f (cond b (Some x) (find (λ y. p (f y)) xs))
    by true rest = refl
    by false rest = rest

pub filter_map : {A B : Type 0} (p : B → Bool) (f : A → B) (xs : List A) → filter p (map f xs) ≡ map f (filter (λ x. p (f x)) xs)
filter_map p f [] = refl
filter_map p f (x ∷ xs) = by (p (f x)) (filter_map p f xs)
  where
    by : (b : Bool) → filter p (map f xs) ≡ map f (filter (λ y. p (f y)) xs) → cond b (f x ∷ filter p (map f xs)) (filter p (map f xs)) ≡ map f (cond b (x ∷ filter (λ y. p (f y)) xs) (filter (λ y. p (f y)) xs))
    by true rest = ap (λ l. f x ∷ l) rest
    by false rest = rest

pub find_behind : {A : Type 0} (p : A → Bool) (xs : List A) (y : A) → p y ≡ false → find p (xs ++ y ∷ []) ≡ find p xs
find_behind p [] y h = ap (λ (b : Bool). cond b (Some y) None) h
find_behind p (x ∷ xs) y h = ap (λ (o : Option _). cond (p x) (Some x) o) (find_behind p xs y h)

pub map_behind : {A B : Type 0} (f : A → B) (xs : List A) (y : A) → map f (xs ++ y ∷ []) ≡ map f xs ++ f y ∷ []
map_behind f [] y = refl
map_behind f (x ∷ xs) y = ap (λ l. f x ∷ l) (map_behind f xs y)

-- ---- what of wishes doesn't look at notices

ids_told : (ws : List Wish) → flat_map (λ w. id_in_use w.standing) (map without_told ws) ≡ flat_map (λ w. id_in_use w.standing) ws
ids_told [] = refl
ids_told (w ∷ ws) = ap (λ l. id_in_use w.standing ++ l) (ids_told ws)

asked_told : (ws : List Wish) (q : Question) (now : ℕ) (x : Option Connection) → asked_on (map without_told ws) q now x ≡ asked_on ws q now x
asked_told ws q now None = refl
asked_told ws q now (Some c) = by c.closed
  where
    by : (y : Option CloseReason) → asked_on (map without_told ws) q now (Some (record c { closed = y })) ≡ asked_on ws q now (Some (record c { closed = y }))
    by (Some reason) = refl
    by None = ap (λ (used : List ℕ). let id = free_id 1025 (used ++ option_to_list c.keepalive_out) (id_after c.last_id) in (unanswered id, Some (writes false now (subscribe_message id q) (record c { last_id = id; closed = None })))) (ids_told ws)

-- ---- each call in terms of what it does to the connection

abbrev asked_wish : Question → RequestState → Wish
asked_wish q standing = record { question = q; wanted = true; standing = standing; notices = [] }

asks_at : (p : Client) (q : Question) (x : Option Connection) → asks (record p { connection = x }) q ≡ record p { wishes = p.wishes ++ asked_wish q (asked_on p.wishes q p.now x).0 ∷ []; connection = (asked_on p.wishes q p.now x).1 }
asks_at p q None = refl
asks_at p q (Some c) = by c.closed
  where
    by : (y : Option CloseReason) → let x : Option Connection = Some (record c { closed = y }) in asks (record p { connection = x }) q ≡ record p { wishes = p.wishes ++ asked_wish q (asked_on p.wishes q p.now x).0 ∷ []; connection = (asked_on p.wishes q p.now x).1 }
    by (Some reason) = refl
    by None = refl

unanswered_at : (ws : List Wish) (q : Question) (now : ℕ) (x : Question) (conn : Option Connection) → is_answered_for x (asked_wish q (asked_on ws q now conn).0) ≡ false
unanswered_at ws q now x None = refl
unanswered_at ws q now x (Some c) = by c.closed
  where
    by : (y : Option CloseReason) → is_answered_for x (asked_wish q (asked_on ws q now (Some (record c { closed = y }))).0) ≡ false
    by (Some reason) = refl
    by None = refl

reconfirm_at : (p : Client) (rr : Rr) (x : Option Connection) → ◌≡◌ {A = Bool × Client} (reconfirm (record p { connection = x }) rr) ((reconfirmed_on rr p.now x).0, record p { connection = (reconfirmed_on rr p.now x).1 })
reconfirm_at p rr None = refl
reconfirm_at p rr (Some c) = by c.closed
  where
    tested : (t : Bool) (d : Connection) → ◌≡◌ {A = Bool × Client} (if t then (true, with_connection (writes false p.now (reconfirm_message rr) d) (record p { connection = Some d })) else (false, record p { connection = Some d }))
        (let r : Bool × Option Connection = if t then (true, Some (writes false p.now (reconfirm_message rr) d)) else (false, Some d) in (r.0, record p { connection = r.1 }))
    tested true d = refl
    tested false d = refl

    by : (y : Option CloseReason) → let x : Option Connection = Some (record c { closed = y }) in ◌≡◌ {A = Bool × Client} (reconfirm (record p { connection = x }) rr) ((reconfirmed_on rr p.now x).0, record p { connection = (reconfirmed_on rr p.now x).1 })
    by (Some reason) = refl
    by None = tested (c.established && nat_le (length (reconfirm_message rr)) 65535) (record c { closed = None })

take_at : (p : Client) (piece : List ℕ) (x : Option Connection) → take_octets piece (record p { connection = x }) ≡ record p { connection = taken_on piece x }
take_at p piece None = refl
take_at p piece (Some c) = by c.closed
  where
    by : (y : Option CloseReason) → let x : Option Connection = Some (record c { closed = y }) in take_octets piece (record p { connection = x }) ≡ record p { connection = taken_on piece x }
    by (Some reason) = ap (λ (l : List ℕ). record p { connection = Some (record c { input = l; closed = Some reason }) }) (append-nil c.input)
    by None = refl

room_at : (p : Client) (x : Option Connection) → room_of (record p { connection = x }) ≡ room_on x
room_at p None = refl
room_at p (Some c) = by c.closed
  where
    by : (y : Option CloseReason) → let x : Option Connection = Some (record c { closed = y }) in room_of (record p { connection = x }) ≡ room_on x
    by (Some reason) = refl
    by None = refl

give_at : (p : Client) (n : ℕ) (x : Option Connection) → give_octets n (record p { connection = x }) ≡ record p { connection = given_on n x }
give_at p n None = refl
give_at p n (Some c) = refl

output_at : (p : Client) (x : Option Connection) → output_of (record p { connection = x }) ≡ output_on x
output_at p None = refl
output_at p (Some c) = refl

closed_at : (p : Client) (x : Option Connection) → closed_as (record p { connection = x }) ≡ closed_on x
closed_at p None = refl
closed_at p (Some c) = refl

moment_at : (p : Client) (t : ℕ) (x : Option Connection) → moment (record p { connection = x }) t ≡ record p { now = t; connection = timed_on p.wishes t x }
moment_at p t None = refl
moment_at p t (Some c) = by c.closed
  where
    due : (d : Due) (c : Connection) → does d c (record p { now = t; connection = Some c }) ≡ record p { now = t; connection = Some (done_on d p.wishes t c) }
    due dues.Nothing c = refl
    due dues.Keepalive c = refl
    due dues.Idle c = refl

    by : (y : Option CloseReason) → let x : Option Connection = Some (record c { closed = y }) in moment (record p { connection = x }) t ≡ record p { now = t; connection = timed_on p.wishes t x }
    by (Some reason) = refl
    by None = due (client_due c.clocks t (list_any (λ w. is_active w.standing) p.wishes) (is_some c.keepalive_out)) (record c { closed = None })

active_told : (ws : List Wish) → list_any (λ w. is_active w.standing) (map without_told ws) ≡ list_any (λ w. is_active w.standing) ws
active_told [] = refl
active_told (w ∷ ws) = ap (λ (b : Bool). is_active w.standing || b) (active_told ws)

timed_told : (ws : List Wish) (t : ℕ) (x : Option Connection) → timed_on (map without_told ws) t x ≡ timed_on ws t x
timed_told ws t None = refl
timed_told ws t (Some c) = by c.closed
  where
    due : (d : Due) (c : Connection) → done_on d (map without_told ws) t c ≡ done_on d ws t c
    due dues.Nothing c = refl
    due dues.Keepalive c = ap (λ (used : List ℕ). let id = free_id 1025 (used ++ option_to_list c.keepalive_out) (id_after c.last_id) in writes true t (keepalive_message id) (record c { last_id = id; keepalive_out = Some id })) (ids_told ws)
    due dues.Idle c = refl

    by : (y : Option CloseReason) → let x : Option Connection = Some (record c { closed = y }) in timed_on (map without_told ws) t x ≡ timed_on ws t x
    by (Some reason) = refl
    by None =
        ap (λ (a : Bool). Some (done_on (client_due c.clocks t a (is_some c.keepalive_out)) (map without_told ws) t (record c { closed = None }))) (active_told ws)
        ∙ ap (λ (d : Connection). Some d) (due (client_due c.clocks t (list_any (λ w. is_active w.standing) ws) (is_some c.keepalive_out)) (record c { closed = None }))

-- ---- each call

-- what a call leaves stands for the plain client, as that is sound
abbrev pub StandsIfSound : KeptClient → Client → Type 0
StandsIfSound kept plain = IsSound plain → StandsFor kept plain

module _ (k : KeptClient) (p : Client) (s : StandsFor k p) where
  -- another connection at another moment
  elsewhere : (x y : Option Connection) (t : ℕ) → x ≡ y → StandsIfSound (record k { connection = x; now = t }) (record p { connection = y; now = t })
  elsewhere x y t same sound = record { wishes = s.wishes; connection = same; now = refl; sets = s.sets; sound = sound }

  elsewhere_now : (x y : Option Connection) → x ≡ y → StandsIfSound (record k { connection = x }) (record p { connection = y })
  elsewhere_now x y same sound = record { wishes = s.wishes; connection = same; now = s.now; sets = s.sets; sound = sound }

  on_both : {X : Type 0} (f : ℕ → Option Connection → X) → f k.now k.connection ≡ f p.now p.connection
  on_both f = ap (λ t. f t k.connection) s.now ∙ ap (f p.now) s.connection

  pub reconfirm_stands : (rr : Rr) → ((kept_reconfirm k rr).0 ≡ (reconfirm p rr).0) × StandsFor (kept_reconfirm k rr).1 (reconfirm p rr).1
  reconfirm_stands rr =
      let is = reconfirm_at p rr p.connection in (
        on_both (λ t x. (reconfirmed_on rr t x).0) ∙ sym (ap (λ r. r.0) is),
        subst (StandsIfSound (kept_reconfirm k rr).1) (sym (ap (λ r. r.1) is)) (elsewhere_now _ _ (on_both (λ t x. (reconfirmed_on rr t x).1))) (reconfirm_sound rr p s.sound),
      )

  pub take_stands : (piece : List ℕ) → StandsFor (kept_take piece k) (take_octets piece p)
  take_stands piece = subst (StandsIfSound (kept_take piece k)) (sym (take_at p piece p.connection)) (elsewhere_now _ _ (ap (taken_on piece) s.connection)) (taken_sound piece p s.sound)

  pub room_stands : room_on k.connection ≡ room_of p
  room_stands = ap room_on s.connection ∙ sym (room_at p p.connection)

  pub give_stands : (n : ℕ) → StandsFor (kept_give n k) (give_octets n p)
  give_stands n = subst (StandsIfSound (kept_give n k)) (sym (give_at p n p.connection)) (elsewhere_now _ _ (ap (given_on n) s.connection)) (given_sound n p s.sound)

  pub output_stands : output_on k.connection ≡ output_of p
  output_stands = ap output_on s.connection ∙ sym (output_at p p.connection)

  pub closed_stands : closed_on k.connection ≡ closed_as p
  closed_stands = ap closed_on s.connection ∙ sym (closed_at p p.connection)

  pub moment_stands : (t : ℕ) → StandsFor (kept_moment k t) (moment p t)
  moment_stands t = subst (StandsIfSound (kept_moment k t)) (sym (moment_at p t p.connection))
      (elsewhere _ _ t (ap (λ (ws : List Wish). timed_on ws t k.connection) s.wishes ∙ timed_told p.wishes t k.connection ∙ ap (timed_on p.wishes t) s.connection)) (moment_sound t p s.sound)

  -- a wish more, without an answer
  pub ask_stands : (q : Question) → StandsIfSound (kept_ask q k) (asks p q)
  ask_stands q =
      let same : asked_on k.wishes q k.now k.connection ≡ asked_on p.wishes q p.now p.connection =
      ap (λ (ws : List Wish). asked_on ws q k.now k.connection) s.wishes ∙ asked_told p.wishes q k.now k.connection ∙ on_both (asked_on p.wishes q) in
      let wish = asked_wish q (asked_on p.wishes q p.now p.connection).0 in
      subst (StandsIfSound (kept_ask q k)) (sym (asks_at p q p.connection)) (λ sound. record {
        wishes = ap (λ (r : RequestState × Option Connection). k.wishes ++ asked_wish q r.0 ∷ []) same ∙ ap (λ (ws : List Wish). ws ++ wish ∷ []) s.wishes ∙ sym (map_behind without_told p.wishes wish);
        connection = ap (λ (r : RequestState × Option Connection). r.1) same;
        now = s.now;
        sets = λ x. s.sets x ∙ sym (ap (option_map set_told) (find_behind (is_answered_for x) p.wishes wish (unanswered_at p.wishes q p.now x p.connection)));
        sound = sound;
      })
