-- The set that a client is shown to hold, and what becomes of it.
--     shown-lone, shown-by      whether what a client holds is shown as held
--     seen-where      what a test chooses, seen otherwise
--     holds-answered, holds-none      the set of a client at a place
--     fits-is      a set that fits a message has few octets
--     relays-none, relays-nothing, relays-set      what becomes of it
--     carries-nothing, carries-unfit, carries-message      the line of a carry, and the second hub behind it
use Rattle.std.proofs.Common.{◌≡◌, ℕ, ◌<◌, ◌≤◌, Bool, true, false, not, cond, List, [], ◌∷◌, ◌++◌, length, get_or, Option, Some, None, option_map, sym, ◌∙◌, ap, subst, refl, arith, codes, decimal, append_assoc, append-nil}
use Rattle.std.specs.Prelude.{nat_le, position}
use Rattle.std.proofs.lemmas.Bool.Decides.{nat_tests}
use Rattle.std.proofs.lemmas.List.{length-map}
use Rattle.dnsname.specs.Names.{Labels}
use Rattle.rrset.specs.RecordSet.{RecordSet}
use Rattle.rrset.specs.declared.record.Question.{Question}
use Rattle.relay.specs.Relay.{relayed}
use Rattle.relay.specs.declared.relay.Relayed.{Relayed}
use Rattle.relay.specs.declared.relay.Relayed.TheVariants.{Apex, Outside, Unfit, Message}
use Rattle.pushserver.specs.Hubs as hubs
use Rattle.pushclient.specs.Clients.{Client, Held, off, asked_only, refused_with, set_held, held}
use Rattle.pushclient.specs.Rule.{StandsFor}
use Rattle.pushclient.specs.Kept.{IsHeld}
use Rattle.scripts.specs.Lines.{Word}
use Rattle.scripts.specs.Words.{spaced, ended_lines}
use Rattle.scripts.specs.WholeLines.{all_at}
use Rattle.replay.specs.World.{Seat, World, seat_of}
use Rattle.replay.specs.TextWords.{by_notices, is_filling}
use Rattle.replay.specs.Text.{line_does}
use Rattle.replay.specs.Askings.{line_asks}
use Rattle.replay.specs.declared.seats.Seat as program_seats
use Rattle.replay.specs.declared.world.World as program_worlds
use Rattle.replay.specs.declared.two_worlds.Worlds as program
use Rattle.replay.specs.TwoWorlds.{Worlds, set_of_held, held_of, carry_of, line_of_relayed, relayed_of, relayed_words}
use Rattle.replay.specs.KeptWorlds.{IsWorld, KeptSeat, StandsForSeat, seat_kept, seated, parties_of}
use Rattle.replay.specs.KeptSeats.{has_word}
use Rattle.replay.specs.KeptShows.{IsFilling}
use Rattle.replay.specs.KeptTwoWorlds.{AreWorlds, Carries, HasCarried, HoldsSet, IsShownHeld, Relays, UpdatesSo}
use Rattle.replay.proofs.shows.SeatShows.{held-asked}
use Rattle.replay.proofs.worlds.Doing.{one_line}
use Rattle.replay.proofs.worlds.Seats.{IsSeated, is-seated, is-there, seat-there}

-- ---- whether it is shown as held

pub shown-lone : (kept : KeptSeat) (question : Question) → kept.is_lone ≡ true → IsShownHeld kept question false
unfolding IsShownHeld
shown-lone kept question lone seat id stands asked = sym (ap (λ (b : Bool). cond b false (not (is_filling seat id))) (sym stands.is_lone ∙ lone))

pub shown-by : (kept : KeptSeat) (question : Question) (filling : Bool) → kept.is_lone ≡ false → IsFilling kept question filling → IsShownHeld kept question (not filling)
unfolding IsShownHeld IsFilling
shown-by kept question filling hubs fills seat id stands asked = ap not (fills seat id stands asked) ∙ sym (ap (λ (b : Bool). cond b false (not (is_filling seat id))) (sym stands.is_lone ∙ hubs))

-- ---- the set

abbrev held_by : World → Labels → Option Seat → Option RecordSet
held_by world name o = elim o as (λ _. Option RecordSet) [ None ↦ None | Some seat ↦ set_of_held by_notices world seat (all_at name) (held seat.client (all_at name)) ]

both-tests : (lone filling : Bool) (rows : RecordSet) → cond {A = Option RecordSet} (cond lone false (not filling)) (Some rows) None ≡ cond lone None (cond filling None (Some rows))
both-tests true filling rows = refl
both-tests false true rows = refl
both-tests false false rows = refl

-- what a test chooses, seen otherwise
pub seen-where : {A T R : Type 0} (now : A → T) (rows : T → R) (o : Option A) (test : Bool) (set : T) → option_map now o ≡ cond {A = Option T} test (Some set) None → option_map (λ a. rows (now a)) o ≡ cond {A = Option R} test (Some (rows set)) None
seen-where {A = A} {T = T} {R = R} now rows o test set e = twice o ∙ ap (option_map rows) e ∙ by test
  where
    twice : (p : Option A) → option_map (λ a. rows (now a)) p ≡ option_map rows (option_map now p)
    twice None = refl
    twice (Some a) = refl

    by : (b : Bool) → option_map rows (cond {A = Option T} b (Some set) None) ≡ cond {A = Option R} b (Some (rows set)) None
    by true = refl
    by false = refl

module _ (kept : program_worlds.World) (place : ℕ) (s : program_seats.Seat) (question : Question) (within : place < length kept.seats.items) (is : s ≡ get_or kept.seats.items place s) where
  -- the seat that is stood for
  seat-stands : (world : World) (w : Word) (p : IsSeated w (seated kept.seats.items) place world) → StandsForSeat (seat_kept s) p.seat
  seat-stands world w p =
      let there : place < length (seated kept.seats.items) = omega (arith, within, length-map kept.seats.items seat_kept) in
      let here = is-there (seated kept.seats.items) place there in
      subst (λ (k : KeptSeat). StandsForSeat k p.seat) (sym (seat-there kept.seats.items place s here.kept within is here.there)) (p.here here.kept here.there)

  set-by : (rows : RecordSet) (shown : Bool) (found : Option RecordSet) (world : World) (seat : Seat) → StandsForSeat (seat_kept s) seat → IsHeld rows (held seat.client question) → IsShownHeld (seat_kept s) question shown → found ≡ cond shown (Some rows) None
      → found ≡ set_of_held by_notices world seat question (held seat.client question)
  unfolding IsShownHeld
  set-by rows shown found world seat stands holds shows found_is = by (held seat.client question) refl holds
    where
      by : (h : Held) → held seat.client question ≡ h → IsHeld rows h → found ≡ set_of_held by_notices world seat question (held seat.client question)
      by (set_held id set) e same =
          found_is ∙ ap (λ (b : Bool). cond {A = Option RecordSet} b (Some rows) None) (shows seat id stands (held-asked seat.client question id set e))
          ∙ both-tests seat.is_lone (is_filling seat id) rows
          ∙ ap (λ (l : RecordSet). cond {A = Option RecordSet} seat.is_lone None (cond (is_filling seat id) None (Some l))) same
          ∙ sym (ap (set_of_held by_notices world seat question) e)
      by off e same = absurd same
      by asked_only e same = absurd same
      by (refused_with rcode) e same = absurd same

  pub holds-answered : (rows : RecordSet) (shown : Bool) (found : Option RecordSet) → ((plain : Client) → StandsFor (seat_kept s).client plain → IsHeld rows (held plain question)) → IsShownHeld (seat_kept s) question shown → found ≡ cond shown (Some rows) None
      → HoldsSet kept place question found
  unfolding HoldsSet
  holds-answered rows shown found holds shows found_is world w name stands at asks =
      let p : IsSeated w (seated kept.seats.items) place world = is-seated w (seated kept.seats.items) world place stands.seats at in
      let here = seat-stands world w p in
      set-by rows shown found world p.seat here (holds p.seat.client here.client) shows found_is
      ∙ ap (λ (q : Question). set_of_held by_notices world p.seat q (held p.seat.client q)) asks
      ∙ sym (ap (held_by world name) p.found)

  no-set : (world : World) (seat : Seat) (h : Held) → set_of_held by_notices world seat question h ≡ None → held seat.client question ≡ h → None ≡ set_of_held by_notices world seat question (held seat.client question)
  no-set world seat h none e = sym (ap (set_of_held by_notices world seat question) e ∙ none)

  -- it holds none
  pub holds-none : (h : Held) → ((world : World) (seat : Seat) → set_of_held by_notices world seat question h ≡ None) → ((plain : Client) → StandsFor (seat_kept s).client plain → held plain question ≡ h) → HoldsSet kept place question None
  unfolding HoldsSet
  holds-none h none knows world w name stands at asks =
      let p : IsSeated w (seated kept.seats.items) place world = is-seated w (seated kept.seats.items) world place stands.seats at in
      let here = seat-stands world w p in
      no-set world p.seat h (none world p.seat) (knows p.seat.client here.client)
      ∙ ap (λ (q : Question). set_of_held by_notices world p.seat q (held p.seat.client q)) asks
      ∙ sym (ap (held_by world name) p.found)

-- ---- what becomes of it

-- a set that fits a message has few octets
pub fits-is : (size : ℕ) → true ≡ nat_le size 60000 → size ≤ 60000
fits-is size e = grind (arith, nat_tests)

no-zone : (name : Labels) (set : Option RecordSet) → relayed_of None name set ≡ None
no-zone name set = refl

no-relay : (apex : Option Labels) (name : Labels) → relayed_of apex name None ≡ None
no-relay None name = refl
no-relay (Some apex) name = refl

module _ (kept : program.Worlds) (client : ℕ) (question : Question) where
  -- there is no second hub
  pub relays-none : kept.apex ≡ None → Relays kept client question None
  unfolding Relays
  relays-none none worlds w name stands at asks = sym (ap (λ (a : Option Labels). relayed_of a name (held_of by_notices worlds.near w name)) (sym stands.apex ∙ none))

  -- nothing is held
  pub relays-nothing : (found : Option RecordSet) → HoldsSet kept.near client question found → found ≡ None → Relays kept client question None
  unfolding Relays HoldsSet
  relays-nothing found holds none worlds w name stands at asks =
      sym (ap (λ (set : Option RecordSet). relayed_of worlds.apex name set) (sym (holds worlds.near w name stands.near at asks) ∙ none) ∙ no-relay worlds.apex name)

  pub relays-set : (found : Option RecordSet) (apex : Labels) (set : RecordSet) (what : Relayed) → HoldsSet kept.near client question found → found ≡ Some set → kept.apex ≡ Some apex → what ≡ relayed apex question.name set 0
      → Relays kept client question (Some what)
  unfolding Relays HoldsSet
  relays-set found apex set what holds is named made worlds w name stands at asks =
      ap (λ (r : Relayed). Some r) (made ∙ ap (λ (q : Question). relayed apex q.name set 0) asks)
      ∙ sym ((λ i. relayed_of ((sym stands.apex ∙ named) i) name (held_of by_notices worlds.near w name)) ∙ ap (relayed_of (Some apex) name) (sym (holds worlds.near w name stands.near at asks) ∙ is))

-- ---- the line of a carry

-- the words of a line, and its end
carry-line : (w written what : List ℕ) → codes "carry " ++ (w ++ 32 ∷ (written ++ 32 ∷ (what ++ 10 ∷ []))) ≡ ended_lines (spaced (codes "carry" ∷ w ∷ written ∷ what ∷ []) ∷ [])
carry-line w written what =
    ap (λ (t : List ℕ). codes "carry " ++ (w ++ 32 ∷ t)) (sym (append_assoc written (32 ∷ what) (10 ∷ [])))
    ∙ ap (λ (t : List ℕ). codes "carry " ++ t) (sym (append_assoc w (32 ∷ (written ++ 32 ∷ what)) (10 ∷ [])))
    ∙ one_line (codes "carry " ++ (w ++ 32 ∷ (written ++ 32 ∷ what)))

-- what is known of a carry that the second hub doesn't see
abbrev words_by : Relayed → List ℕ → Type 0
words_by Apex words = words ≡ codes "apex"
words_by Outside words = words ≡ codes "outside"
words_by (Unfit kind) words = words ≡ spaced (codes "unfit" ∷ decimal kind ∷ [])
words_by (Message octets) words = ⊥

abbrev silent_by : Option Relayed → List ℕ → Type 0
silent_by None words = words ≡ codes "off"
silent_by (Some what) words = words_by what words

module _ (before : program.Worlds) (client : ℕ) (w : Word) (question : Question) (written : List ℕ) (at : position (has_word w) (seated before.near.seats.items) ≡ Some client) where
  nothing-done : (what : Option Relayed) (words text : List ℕ) (name : Labels) (worlds : Worlds) → silent_by what words → text ≡ ended_lines (spaced (codes "carry" ∷ w ∷ written ∷ words ∷ []) ∷ []) → AreWorlds before worlds
      → what ≡ carry_of by_notices worlds w name → HasCarried w name written before text before worlds
  nothing-done what words text name worlds silent is stands becomes = by what silent becomes
    where
      by : (r : Option Relayed) → silent_by r words → r ≡ carry_of by_notices worlds w name → HasCarried w name written before text before worlds
      by None s e = record {
        printed = is ∙ (λ i. ended_lines (spaced (codes "carry" ∷ w ∷ written ∷ s i ∷ []) ∷ [])) ∙ ap (λ (r : Option Relayed). ended_lines (spaced (codes "carry" ∷ w ∷ written ∷ relayed_words r worlds.far ∷ []) ∷ [])) e;
        far = subst (λ (r : Option Relayed). IsWorld before.far (line_does by_notices (line_of_relayed r) worlds.far).0) e stands.far;
        asks = ap (λ (r : Option Relayed). line_asks (line_of_relayed r) worlds.far before.far.hub.askings) e;
      }
      by (Some Apex) s e = record {
        printed = is ∙ (λ i. ended_lines (spaced (codes "carry" ∷ w ∷ written ∷ s i ∷ []) ∷ [])) ∙ ap (λ (r : Option Relayed). ended_lines (spaced (codes "carry" ∷ w ∷ written ∷ relayed_words r worlds.far ∷ []) ∷ [])) e;
        far = subst (λ (r : Option Relayed). IsWorld before.far (line_does by_notices (line_of_relayed r) worlds.far).0) e stands.far;
        asks = ap (λ (r : Option Relayed). line_asks (line_of_relayed r) worlds.far before.far.hub.askings) e;
      }
      by (Some Outside) s e = record {
        printed = is ∙ (λ i. ended_lines (spaced (codes "carry" ∷ w ∷ written ∷ s i ∷ []) ∷ [])) ∙ ap (λ (r : Option Relayed). ended_lines (spaced (codes "carry" ∷ w ∷ written ∷ relayed_words r worlds.far ∷ []) ∷ [])) e;
        far = subst (λ (r : Option Relayed). IsWorld before.far (line_does by_notices (line_of_relayed r) worlds.far).0) e stands.far;
        asks = ap (λ (r : Option Relayed). line_asks (line_of_relayed r) worlds.far before.far.hub.askings) e;
      }
      by (Some (Unfit kind)) s e = record {
        printed = is ∙ (λ i. ended_lines (spaced (codes "carry" ∷ w ∷ written ∷ s i ∷ []) ∷ [])) ∙ ap (λ (r : Option Relayed). ended_lines (spaced (codes "carry" ∷ w ∷ written ∷ relayed_words r worlds.far ∷ []) ∷ [])) e;
        far = subst (λ (r : Option Relayed). IsWorld before.far (line_does by_notices (line_of_relayed r) worlds.far).0) e stands.far;
        asks = ap (λ (r : Option Relayed). line_asks (line_of_relayed r) worlds.far before.far.hub.askings) e;
      }
      by (Some (Message octets)) s e = absurd s

  -- nothing becomes of it that the second hub would see
  pub carries-nothing : (what : Option Relayed) (words text : List ℕ) → Relays before client question what → silent_by what words → text ≡ codes "carry " ++ (w ++ 32 ∷ (written ++ 32 ∷ (words ++ 10 ∷ []))) → Carries w question written before text before
  unfolding Relays
  carries-nothing what words text relays silent is = record {
    near = refl;
    apex = refl;
    order = refl;
    carries = λ worlds name stands asks. nothing-done what words text name worlds silent (is ∙ carry-line w written words) stands (relays worlds w name stands at asks);
  }

  -- the kind of a record that isn't carried
  pub carries-unfit : (kind : ℕ) (text : List ℕ) → Relays before client question (Some (Unfit kind)) → text ≡ codes "carry " ++ (w ++ 32 ∷ (written ++ (codes " unfit " ++ (decimal kind ++ 10 ∷ [])))) → Carries w question written before text before
  carries-unfit kind text relays is = carries-nothing (Some (Unfit kind)) (spaced (codes "unfit" ∷ decimal kind ∷ [])) text relays refl is

  -- it is an update of the second hub
  pub carries-message : (octets : List ℕ) (after : program.Worlds) (code : ℕ) (text : List ℕ) → Relays before client question (Some (Message octets)) → UpdatesSo octets before.far.hub (parties_of before.far) code after.far.hub (parties_of after.far)
      → text ≡ codes "carry " ++ (w ++ 32 ∷ (written ++ 32 ∷ (decimal code ++ 10 ∷ []))) → after.near ≡ before.near → after.apex ≡ before.apex → after.order ≡ before.order → Carries w question written before text after
  unfolding Relays UpdatesSo
  carries-message octets after code text relays updates is near apex order = record {
    near = near;
    apex = apex;
    order = order;
    carries = λ worlds name stands asks.
        let e = relays worlds w name stands at asks in
        let u = updates worlds.far stands.far in
        record {
          printed = is ∙ carry-line w written (decimal code) ∙ ap (λ (n : ℕ). ended_lines (spaced (codes "carry" ∷ w ∷ written ∷ decimal n ∷ []) ∷ [])) u.code
              ∙ ap (λ (r : Option Relayed). ended_lines (spaced (codes "carry" ∷ w ∷ written ∷ relayed_words r worlds.far ∷ []) ∷ [])) e;
          far = subst (λ (r : Option Relayed). IsWorld after.far (line_does by_notices (line_of_relayed r) worlds.far).0) e u.stands;
          asks = u.asks ∙ ap (λ (r : Option Relayed). line_asks (line_of_relayed r) worlds.far before.far.hub.askings) e;
        };
  }
