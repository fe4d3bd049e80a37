-- What lines tell of a hub's client where octets pass, where a client is at a moment, and where a peer or a lone client gets octets.
--     passes-say      octets pass between a client and its session
--     moments-say      each client at a moment
--     sends-say, feeds-say      octets from a script
use Rattle.std.proofs.Common.{◌≡◌, ℕ, Bool, true, false, cond, not, ◌||◌, List, [], ◌∷◌, ◌++◌, fold, length, Option, Some, None, option_map, refl, sym, ◌∙◌, ap, subst}
use Rattle.std.specs.Prelude.{IsTrue, codes}
use Rattle.std.specs.List.{AllByRecursion}
use Rattle.std.specs.Str.{bytes_eq}
use Rattle.coalesce.proofs.ReadBack.{each-append}
use Rattle.dsotlv.proofs.Results.{same_found}
use Rattle.dsosession.specs.declared.session.EndReason.{EndReason}
use Rattle.dsosession.specs.declared.session.CloseReason.{CloseReason}
use Rattle.dsosession.specs.declared.session.CloseReason.TheVariants as closes
use Rattle.pushsession.specs.declared.session_status.SessionStatus.{SessionStatus}
use Rattle.pushserver.proofs.hub_steps.Pairs.{all-weaken}
use Rattle.pushserver.specs.Hubs as hubs
use Rattle.pushserver.specs.Hubs.{now, connect}
use Rattle.pushclient.specs.Clients.{Connection, is_connected, output_of, give_octets, closed_as}
use Rattle.pushclient.specs.Steps as steps
use Rattle.scripts.specs.Lines.{Word}
use Rattle.scripts.specs.Scripts.{Known, is_among, is_peer}
use Rattle.scripts.specs.declared.line.Way.{Way}
use Rattle.scripts.specs.declared.line.Way.TheVariants as ways
use Rattle.replay.specs.World.{World, Seat, seat_of, session_number}
use Rattle.replay.specs.PassedOctets.{Passed, passed, enough, Exchanged, exchanged, to_client}
use Rattle.scripts.specs.Words.{spaced, octets_text}
use Rattle.replay.specs.Text.{Printed, quietly, printing, end_lines, close_lines, finished, passing_of, way_words, passes, timed, moments, exchanges, sends, feeds_connected, feeds}
use Rattle.replay.specs.Promises.{is_end_by_itself, is_close_by_itself}
use Rattle.scripts.proofs.lines.SameWords.{same_word}
use Rattle.replay.proofs.worlds.Seats.{words_of}
use Rattle.replay.proofs.worlds.SeatWords.{distinct-front}
use Rattle.script_laws.specs.Joined.{ClosedByDelay, SeatStands, ShownToEach, WorldStands}
use Rattle.script_laws.specs.Walk.{Keeps}
use Rattle.script_laws.specs.Lines.{IsWord, KnownFits}
use Rattle.script_laws.proofs.texts.Along.{seat-stands}
use Rattle.script_laws.proofs.lines.Premises.{LineLaws, way-keeps}
use Rattle.script_laws.proofs.lines.Cutting.{stands-with, stands-alone}
use Rattle.replay.proofs.worlds.SeatsFound.{found-word, each-found}
use Rattle.script_laws.proofs.lines.Knowing.{lone_at}
use Rattle.script_laws.proofs.lines.Asking.{no-connection, closed-is}
use Rattle.script_laws.proofs.ends.Words.{TellsByItself, is_other, other-line, ends-say, closes-say}

-- one among words is a word
among-words : (all : List Word) (w : Word) → AllByRecursion IsWord all → is_among all w ≡ true → IsWord w
among-words [] w each h = absurd cc
among-words (v ∷ vs) w each h = by (among-words vs w each.1) (bytes_eq w v) refl h
  where
    by : (is_among vs w ≡ true → IsWord w) → (b : Bool) → bytes_eq w v ≡ b → (b || is_among vs w) ≡ true → IsWord w
    by rest true is h = subst IsWord (sym (same_word w v is)) each.0
    by rest false is h = rest h

-- a Retry Delay is one by itself
by-delay : (standing : SessionStatus) (o : Option CloseReason) (reason : CloseReason) → ClosedByDelay standing o → o ≡ Some reason → IsTrue (is_close_by_itself reason)
by-delay standing None reason so e = absurd cc
by-delay standing (Some (closes.Delay ms rcode)) reason so e = subst (λ (r : CloseReason). IsTrue (is_close_by_itself r)) (same_found (closes.Delay ms rcode) reason e) refl
by-delay standing (Some _) reason so e = absurd so

-- a client without a connection hasn't closed
not-closed : (o : Option Connection) → o ≡ None → (elim o as (λ _. Option CloseReason) [ None ↦ None | Some c ↦ c.closed ]) ≡ None
not-closed None e = refl
not-closed (Some c) e = absurd cc

-- the line of a way tells no end
other-words : (way : Way) (v : Word) (count : ℕ) → IsTrue (is_other (spaced (way_words way v count)))
other-words (ways.Say n) v count = refl
other-words (ways.Up n) v count = refl
other-words (ways.Emit n) v count = refl
other-words (ways.Down n) v count = refl
other-words ways.Settle v count = refl

module _ (laws : LineLaws) (all : List Word) (words : AllByRecursion IsWord all) (known : Known) (shown : ShownToEach) (world : World) (stands : WorldStands shown world) (fits : KnownFits all known world)
    (w : Word) (own : Seat) (found : seat_of world w ≡ Some own) (joins : own.is_lone ≡ false) where
  abbrev pub Say : List (List ℕ) → Type 0
  Say lines = AllByRecursion (TellsByItself own.word) lines

  -- ---- clients that are there

  is-among : (v : Word) (s : Seat) → seat_of world v ≡ Some s → is_among all v ≡ true
  is-among v s there = fits.named v s.is_lone (fits.clients v ∙ ap (option_map (λ (s : Seat). s.is_lone)) there)

  has-word : (v : Word) (s : Seat) → seat_of world v ≡ Some s → IsWord s.word
  has-word v s there = subst IsWord (sym (found-word v world.seats s there)) (among-words all v words (is-among v s there))

  own-word : IsWord own.word
  own-word = has-word w own found

  -- the one with its word is it
  is-own : (v : Word) (s : Seat) → seat_of world v ≡ Some s → s.word ≡ own.word → s ≡ own
  is-own v s there same =
      let is : v ≡ w = sym (found-word v world.seats s there) ∙ same ∙ found-word w world.seats own found in
      same_found s own (sym there ∙ ap (seat_of world) is ∙ found)

  own-stands : SeatStands world.hub (shown own.word) own
  own-stands = seat-stands shown world w own stands found

  own-unconnected : own.session ≡ None → own.client.connection ≡ None
  own-unconnected none = no-connection world.hub (shown own.word) own joins (stands-alone world.hub (shown own.word) own none own-stands)

  -- ---- octets pass

  -- what a passing tells
  record Tells (p : Passed) : Type 0 where
    word : IsWord p.seat.word
    over : (reason : EndReason) → p.over ≡ Some reason → p.seat.word ≡ own.word → IsTrue (is_end_by_itself reason)
    closed : (reason : CloseReason) → closed_as p.seat.client ≡ Some reason → p.seat.word ≡ own.word → IsTrue (is_close_by_itself reason)

  finished-says : (printed : List (List ℕ)) (p : Passed) → IsTrue (is_other (spaced printed)) → Tells p → Say (finished printed p).1
  finished-says printed p other t = (
    other-line own.word (spaced printed) other,
    each-append (TellsByItself own.word) (end_lines p.seat.word p.over) (close_lines p.seat.word (closed_as p.seat.client)) (ends-say p.seat.word own.word t.word own-word p.over t.over)
        (closes-say p.seat.word own.word t.word own-word (closed_as p.seat.client) t.closed),
  )

  none-passes : (v : Word) (s : Seat) → seat_of world v ≡ Some s → s.session ≡ None → Tells (passed world s 0)
  none-passes v s there none = record {
    word = has-word v s there;
    over = λ reason e same. absurd cc;
    closed = λ reason e same.
        let is = is-own v s there same in
        let unclosed : closed_as s.client ≡ None = ap (λ (x : Seat). closed_as x.client) is ∙ not-closed own.client.connection (own-unconnected (sym (ap (λ (x : Seat). x.session) is) ∙ none)) in
        let wrong : None ≡ Some reason = sym unclosed ∙ e in
        absurd cc;
  }

  so-passes : (v : Word) (s : Seat) (number : ℕ) (passing : World → Seat → Passed) → seat_of world v ≡ Some s → s.session ≡ Some number → Keeps passing number → Tells (passing world s)
  so-passes v s number passing there has keeps =
      let here = stands-with world.hub (shown s.word) s number has (seat-stands shown world v s stands there) in
      let so = keeps world (shown s.word) s here.session here.connection stands.reached here.joined in
      let p = passing world s in
      record {
        word = subst IsWord (sym so.word) (has-word v s there);
        over = λ reason e same. so.over reason e;
        closed = λ reason e same. by-delay so.later.standing so.connection.closed reason so.joined.closed (sym (closed-is p.seat.client so.connection so.joined.connected) ∙ e);
      }

  passes-by : (passing : ℕ → World → Seat → Passed) → ((number : ℕ) → Keeps (passing number) number) → (v : Word) (s : Seat) → seat_of world v ≡ Some s → (o : Option ℕ) → s.session ≡ o
      → Tells (elim o as (λ _. Passed) [ None ↦ passed world s 0 | Some number ↦ passing number world s ])
  passes-by passing keeps v s there None none = none-passes v s there none
  passes-by passing keeps v s there (Some number) has = so-passes v s number (passing number) there has (keeps number)

  says-by : (v : Word) (printed : Passed → List (List ℕ)) (passing : ℕ → World → Seat → Passed) → ((p : Passed) → IsTrue (is_other (spaced (printed p)))) → ((number : ℕ) → Keeps (passing number) number)
      → (o : Option Seat) → seat_of world v ≡ o → Say (elim o as (λ _. Printed) [
        | None ↦ quietly world
        | Some seat ↦ (let p : Passed = elim seat.session as (λ _. Passed) [ None ↦ passed world seat 0 | Some number ↦ passing number world seat ] in finished (printed p) p)
      ]).1
  says-by v printed passing other keeps None none = tt
  says-by v printed passing other keeps (Some s) there =
      let p : Passed = elim s.session as (λ _. Passed) [ None ↦ passed world s 0 | Some number ↦ passing number world s ] in
      finished-says (printed p) p (other p) (passes-by passing keeps v s there s.session refl)

  pub passes-say : (way : Way) (v : Word) → Say (passes way v world).1
  passes-say way v = says-by v (λ p. way_words way v p.count) (passing_of way) (λ p. other-words way v p.count) (way-keeps laws way) (seat_of world v) refl

  -- ---- a moment

  own-moment : (t : ℕ) (reason : CloseReason) → closed_as (steps.moment own.client t) ≡ Some reason → IsTrue (is_close_by_itself reason)
  own-moment t reason e = by own.session refl
    where
      by : (o : Option ℕ) → own.session ≡ o → IsTrue (is_close_by_itself reason)
      by None none =
          let stays = laws.wishes.timed t own.client (own-unconnected none) in
          let wrong : None ≡ Some reason = sym (not-closed (steps.moment own.client t).connection stays.0) ∙ e in
          absurd cc
      by (Some number) has =
          let here = stands-with world.hub (shown own.word) own number has own-stands in
          subst (λ (r : CloseReason). IsTrue (is_close_by_itself r)) (sym (laws.moments.closes_so t own.client here.connection reason here.joined.connected here.unclosed e)) refl

  -- what a client tells that comes to a moment
  abbrev TellsAt : ℕ → Seat → Type 0
  TellsAt t s = IsWord s.word × ((reason : CloseReason) → closed_as (steps.moment s.client t) ≡ Some reason → s.word ≡ own.word → IsTrue (is_close_by_itself reason))

  tells-at : (t : ℕ) (s : Seat) → seat_of world s.word ≡ Some s → TellsAt t s
  tells-at t s there = (has-word s.word s there, λ reason e same. own-moment t reason (sym (ap (λ (x : Seat). closed_as (steps.moment x.client t)) (is-own s.word s there same)) ∙ e))

  seats-say : (t : ℕ) (seats : List Seat) (p : Printed) → Say p.1 → AllByRecursion (TellsAt t) seats → Say (fold (timed t) p seats).1
  seats-say t [] p so_far each = so_far
  seats-say t (s ∷ ss) p so_far each =
      let closing = closed_as (steps.moment s.client t) in
      seats-say t ss (timed t p s) (each-append (TellsByItself own.word) p.1 (close_lines s.word closing) so_far (closes-say s.word own.word each.0.0 own-word closing each.0.1)) each.1

  pub moments-say : (t : ℕ) → Say (moments t world).1
  moments-say t =
      let later = hubs.moment world.hub t in
      let there = each-found world.seats (distinct-front (words_of world.seats) _ stands.numbers.words) in
      seats-say (now later) world.seats (record world { hub = later }, []) tt
      (all-weaken (λ (s : Seat). seat_of world s.word ≡ Some s) (TellsAt (now later)) (λ s is. tells-at (now later) s is) world.seats there)

  -- ---- octets from a script

  exchanges-say : (there : World) (v : Word) (number : ℕ) (octets : List ℕ) → IsWord v → (v ≡ own.word → ⊥) → Say (exchanges v number octets there).1
  exchanges-say there v number octets is_word other =
      let x : Exchanged = exchanged enough number octets there.hub [] in
      (other-line own.word (spaced (codes "bytes" ∷ v ∷ octets_text x.octets ∷ [])) refl, ends-say v own.word is_word own-word x.over (λ reason e same. absurd (other same)))

  -- a peer has another word
  no-peer : (v : Word) → is_peer all v ≡ true → v ≡ own.word → ⊥
  no-peer v peer same =
      let named : is_among all v ≡ true = ap (is_among all) (same ∙ found-word w world.seats own found) ∙ is-among w own found in
      let wrong : not true ≡ true = subst (λ (b : Bool). not b ≡ true) named peer in
      absurd cc

  pub sends-say : (v : Word) (octets : List ℕ) → is_peer all v ≡ true → IsWord v → Say (sends v octets world).1
  sends-say v octets peer is_word = by (session_number world v)
    where
      new_place : Option ℕ → Option (ℕ × World)
      new_place o = option_map (λ number. (number, record world { hub = (connect world.hub).1; peers = world.peers ++ (v, number) ∷ [] })) o

      by_place : (o : Option (ℕ × World)) → Say (elim o as (λ _. Printed) [
        | None ↦ printing (codes "noseat" ∷ v ∷ []) world
        | Some place ↦ exchanges v place.0 octets place.1
      ]).1
      by_place None = (other-line own.word (spaced (codes "noseat" ∷ v ∷ [])) refl, tt)
      by_place (Some place) = exchanges-say place.1 v place.0 octets is_word (no-peer v peer)

      by : (o : Option ℕ) → Say (elim (elim o as (λ _. Option (ℕ × World)) [ Some number ↦ Some (number, world) | None ↦ new_place (connect world.hub).0 ]) as (λ _. Printed) [
        | None ↦ printing (codes "noseat" ∷ v ∷ []) world
        | Some place ↦ exchanges v place.0 octets place.1
      ]).1
      by (Some number) = by_place (Some (number, world))
      by None = by_place (new_place (connect world.hub).0)

  feeds-seat : (v : Word) (octets : List ℕ) (s : Seat) → seat_of world v ≡ Some s → s.is_lone ≡ true → Say (feeds_connected octets world s).1
  feeds-seat v octets s there lone =
      let d = to_client octets s.client in
      let p : Passed = passed world (record s { client = give_octets (length (output_of d.client)) d.client }) 0 in
      finished-says (codes "bytes" ∷ s.word ∷ octets_text (output_of d.client) ∷ []) p refl (record {
        word = has-word v s there;
        over = λ reason e same. absurd cc;
        closed = λ reason e same. (let wrong : true ≡ false = sym lone ∙ ap (λ (x : Seat). x.is_lone) (is-own v s there same) ∙ joins in absurd cc);
      })

  pub feeds-say : (v : Word) (octets : List ℕ) → lone_at world v ≡ Some true → Say (feeds v octets world).1
  feeds-say v octets lone = by (seat_of world v) refl
    where
      by_open : (s : Seat) → seat_of world v ≡ Some s → s.is_lone ≡ true → (b : Bool) → Say (cond b (feeds_connected octets world s) (printing (codes "bytes" ∷ v ∷ codes "-" ∷ []) world)).1
      by_open s there is true = feeds-seat v octets s there is
      by_open s there is false = (other-line own.word (spaced (codes "bytes" ∷ v ∷ codes "-" ∷ [])) refl, tt)

      by : (o : Option Seat) → seat_of world v ≡ o → Say (elim o as (λ _. Printed) [
        | None ↦ quietly world
        | Some seat ↦ cond (is_connected seat.client) (feeds_connected octets world seat) (printing (codes "bytes" ∷ v ∷ codes "-" ∷ []) world)
      ]).1
      by None none = tt
      by (Some s) there = by_open s there (same_found s.is_lone true (sym (ap (option_map (λ (s : Seat). s.is_lone)) there) ∙ lone)) (is_connected s.client)
