-- What a client knows of a question, by what is kept of it.
--     end-told      where a first answer was told to end
--     filling-unasked, filling-untold, filling-told      whether the first answer hasn't arrived whole
--     held-asked      the question of a set that is held is asked
--     shows-lone, shows-filling, shows-held      a set that is held
--     shows-known, shows-set      what is known of the question
--     shows-act      the line
use Rattle.std.proofs.Common.{◌≡◌, ℕ, ◌+◌, ◌<◌, ◌==◌, Bool, true, false, cond, ◌&&◌, List, [], ◌∷◌, min, length, drop, find, get_or, Option, Some, None, option_map, refl, sym, ◌∙◌, ap, subst, arith, codes}
use Rattle.std.specs.Prelude.{nat_lt, position}
use Rattle.std.proofs.lemmas.Bool.Decides.{nat_tests}
use Rattle.std.proofs.lemmas.List.{at_drop_more}
use Rattle.push_base.specs.Limits.{max_number}
use Rattle.rrset.specs.RecordSet.{RecordSet}
use Rattle.rrset.specs.declared.record.Question.{Question}
use Rattle.pushserver.specs.PlainHubs.{Hub}
use Rattle.hubasking.specs.AskingHubs.{AskingHub}
use Rattle.pushclient.specs.Clients.{Client, Wish, RequestState, not_asked, unanswered, refused, answered, Held, off, asked_only, refused_with, set_held, held_as, held, wish_for, is_connected, id_asked, id_of}
use Rattle.pushclient.specs.Rule.{StandsFor}
use Rattle.pushclient.specs.Kept.{IsHeld}
use Rattle.inflight.specs.Ends.{told_end}
use Rattle.scripts.specs.Lines.{Word}
use Rattle.replay.specs.World.{Seat, filled_of}
use Rattle.replay.specs.TextWords.{ShowTold, with_records, by_notices, is_filling, told_of}
use Rattle.replay.specs.Text.{shows}
use Rattle.replay.specs.KeptWorlds.{KeptSeat, Parties, StandsForSeat, HasPrinted, Acts}
use Rattle.replay.specs.KeptSeats.{has_word}
use Rattle.replay.specs.KeptShows.{Showing, showing_text, ShowsSeat, ShowsSet, IsFilling}
use Rattle.replay.proofs.worlds.OneWorld.{shows_by}
use Rattle.replay.proofs.worlds.Seats.{absent, is-seated, IsSeated}

-- ---- ends of first answers

pub end-told : (filled : List (ℕ × ℕ)) (i : ℕ) (t : ℕ × ℕ) (id : ℕ) → i < length filled → t ≡ get_or filled i t → (t.0 == id) ≡ true → told_end (drop i filled) id ≡ told_end filled id → Some t.1 ≡ told_end filled id
end-told filled i t id within is here so_far =
    let rest = drop (i + 1) filled in
    sym (ap (λ (b : Bool). option_map (λ (e : ℕ × ℕ). e.1) (cond b (Some t) (find (λ (e : ℕ × ℕ). e.0 == id) rest))) here)
    ∙ ap (λ (u : ℕ × ℕ). told_end (u ∷ rest) id) is
    ∙ sym (at_drop_more (λ (l : List (ℕ × ℕ)). told_end l id) filled i t within)
    ∙ so_far

one-id : (i j : ℕ) → Some i ≡ Some j → i ≡ j
one-id i j e = cc

-- a question that isn't asked is none of which this is said
pub filling-unasked : (kept : KeptSeat) (question : Question) → ((plain : Client) → StandsFor kept.client plain → None ≡ id_of plain question) → IsFilling kept question true
unfolding IsFilling
filling-unasked kept question none seat id stands asked = (let e : None ≡ Some id = none seat.client stands.client ∙ asked in absurd cc)

abbrev filling_by : ℕ → Option ℕ → Bool
filling_by reached o = elim o as (λ _. Bool) [ None ↦ true | Some n ↦ nat_lt reached n ]

abbrev counted : Option ℕ → Option ℕ
counted o = option_map (λ n. min n max_number) o

module _ (kept : KeptSeat) (question : Question) (number : ℕ) (asks : (plain : Client) → StandsFor kept.client plain → Some number ≡ id_of plain question) where
  same-end : (seat : Seat) (id : ℕ) → StandsForSeat kept seat → id_of seat.client question ≡ Some id → told_end kept.filled number ≡ counted (filled_of seat id)
  same-end seat id stands asked = ap (told_end kept.filled) (one-id number id (asks seat.client stands.client ∙ asked)) ∙ stands.filled id

  pub filling-untold : None ≡ told_end kept.filled number → IsFilling kept question true
  unfolding IsFilling
  filling-untold none seat id stands asked = by (filled_of seat id) (none ∙ same-end seat id stands asked)
    where
      by : (o : Option ℕ) → None ≡ counted o → true ≡ filling_by seat.reached o
      by None e = refl
      by (Some n) e = absurd cc

  below : (r n m : ℕ) → r < m → nat_lt r (min n m) ≡ nat_lt r n
  below r n m few = by (nat_lt r n) refl
    where
      by : (b : Bool) → nat_lt r n ≡ b → nat_lt r (min n m) ≡ b
      by true e = grind (arith, nat_tests)
      by false e = grind (arith, nat_tests)

  pub filling-told : (end : ℕ) → Some end ≡ told_end kept.filled number → IsFilling kept question (nat_lt kept.reached end)
  unfolding IsFilling
  filling-told end told seat id stands asked = by (filled_of seat id) (told ∙ same-end seat id stands asked)
    where
      by : (o : Option ℕ) → Some end ≡ counted o → nat_lt kept.reached end ≡ filling_by seat.reached o
      by None e = absurd cc
      by (Some n) e = ap (nat_lt kept.reached) (one-id end (min n max_number) e) ∙ below kept.reached n max_number stands.few ∙ ap (λ (r : ℕ). nat_lt r n) stands.reached

-- ---- a set that is held

-- it is that of a question that is asked with this ID
abbrev id-held : Held → Option ℕ
id-held (set_held id set) = Some id
id-held _ = None

pub held-asked : (client : Client) (question : Question) (id : ℕ) (set : RecordSet) → held client question ≡ set_held id set → id_of client question ≡ Some id
held-asked client question id set e = by (wish_for client question) e
  where
    by_standing : (s : RequestState) (w : Wish) → held_as s w ≡ set_held id set → id_asked s ≡ Some id
    by_standing not_asked w e = absurd cc
    by_standing (unanswered n) w e = absurd cc
    by_standing (refused n) w e = absurd cc
    by_standing (answered n) w e = ap id-held e

    by_wanted : (w : Wish) (b : Bool) → cond b (held_as w.standing w) off ≡ set_held id set → id_asked w.standing ≡ Some id
    by_wanted w true e = by_standing w.standing w e
    by_wanted w false e = absurd cc

    by : (o : Option Wish) → (elim o as (λ _. Held) [ None ↦ off | Some w ↦ cond (w.wanted && is_connected client) (held_as w.standing w) off ]) ≡ set_held id set
        → (elim o as (λ _. Option ℕ) [ None ↦ None | Some w ↦ id_asked w.standing ]) ≡ Some id
    by None e = absurd cc
    by (Some w) e = by_wanted w (w.wanted && is_connected client) e

-- what is told of it, by whether the client is a lone one, and the first answer hasn't arrived whole
abbrev told_by : RecordSet → Bool → Bool → ShowTold
told_by rows lone filling = cond lone (with_records (codes "answered") rows) (cond filling (codes "filling", []) (with_records (codes "held") rows))

record IsTold (question : Question) (rows : RecordSet) (hub : Hub) (seat : Seat) : Type 0 where
  id : ℕ
  asked : id_of seat.client question ≡ Some id
  told : told_of by_notices (held seat.client question) hub seat question ≡ told_by rows seat.is_lone (is_filling seat id)

set-told : (question : Question) (rows : RecordSet) (hub : Hub) (seat : Seat) → IsHeld rows (held seat.client question) → IsTold question rows hub seat
set-told question rows hub seat is = by (held seat.client question) refl is
  where
    by : (h : Held) → held seat.client question ≡ h → IsHeld rows h → IsTold question rows hub seat
    by (set_held id set) e same = record {
      id = id;
      asked = held-asked seat.client question id set e;
      told = ap (λ (x : Held). told_of by_notices x hub seat question) e ∙ ap (λ (l : RecordSet). told_by l seat.is_lone (is_filling seat id)) (sym same);
    }
    by off e same = absurd same
    by asked_only e same = absurd same
    by (refused_with rcode) e same = absurd same

module _ (kept : KeptSeat) (showing : Showing) (rows : RecordSet) (text : List ℕ) where
  pub shows-lone : kept.is_lone ≡ true → text ≡ showing_text showing (with_records (codes "answered") rows) → ShowsSet kept showing rows text
  unfolding ShowsSet
  shows-lone lone is hub seat stands held =
      let t = set-told showing.question rows hub seat held in
      is ∙ ap (showing_text showing) (sym (t.told ∙ ap (λ (b : Bool). told_by rows b (is_filling seat t.id)) (sym stands.is_lone ∙ lone)))

  shows-by : (filling : Bool) → kept.is_lone ≡ false → IsFilling kept showing.question filling → text ≡ showing_text showing (told_by rows false filling) → ShowsSet kept showing rows text
  unfolding ShowsSet IsFilling
  shows-by filling hubs fills is hub seat stands held =
      let t = set-told showing.question rows hub seat held in
      is ∙ ap (showing_text showing) (sym (t.told ∙ (λ i. told_by rows (sym stands.is_lone i) (sym (fills seat t.id stands t.asked) i)) ∙ ap (λ (b : Bool). told_by rows b filling) hubs))

  pub shows-filling : (filling : Bool) → filling ≡ true → kept.is_lone ≡ false → IsFilling kept showing.question filling → text ≡ showing_text showing (codes "filling", []) → ShowsSet kept showing rows text
  shows-filling filling e hubs fills is = shows-by true hubs (subst (IsFilling kept showing.question) e fills) is

  pub shows-held : (filling : Bool) → filling ≡ false → kept.is_lone ≡ false → IsFilling kept showing.question filling → text ≡ showing_text showing (with_records (codes "held") rows) → ShowsSet kept showing rows text
  shows-held filling e hubs fills is = shows-by false hubs (subst (IsFilling kept showing.question) e fills) is

-- ---- what is known of the question

pub shows-known : (kept : KeptSeat) (showing : Showing) (text : List ℕ) (h : Held) (told : ShowTold) → ((hub : Hub) (seat : Seat) → told_of by_notices h hub seat showing.question ≡ told)
    → ((plain : Client) → StandsFor kept.client plain → held plain showing.question ≡ h) → text ≡ showing_text showing told → ShowsSeat kept showing text
unfolding ShowsSeat
shows-known kept showing text h told tells knows is hub seat stands =
    is ∙ ap (showing_text showing) (sym (ap (λ (x : Held). told_of by_notices x hub seat showing.question) (knows seat.client stands.client) ∙ tells hub seat))

pub shows-set : (kept : KeptSeat) (showing : Showing) (rows : RecordSet) (text : List ℕ) → ((plain : Client) → StandsFor kept.client plain → IsHeld rows (held plain showing.question)) → ShowsSet kept showing rows text → ShowsSeat kept showing text
unfolding ShowsSeat ShowsSet
shows-set kept showing rows text holds law hub seat stands = law hub seat stands (holds seat.client stands.client)

-- ---- the line

pub shows-act : (kept : AskingHub) (known : Parties) (showing : Showing) (place : ℕ) (k : KeptSeat) (told : List ℕ) → position (has_word showing.word) known.seats ≡ Some place → k ≡ get_or known.seats place k → ShowsSeat k showing told
    → Acts (shows by_notices showing.word showing.question showing.written) (λ world. []) kept known told kept known
unfolding Acts ShowsSeat
shows-act kept known showing place k told at there law world s d =
    let p : IsSeated showing.word known.seats place world = is-seated showing.word known.seats world place s.seats at in
    subst (λ (o : Option Seat). HasPrinted kept.askings kept known told (shows_by by_notices showing.word showing.question showing.written world o)) (sym p.found)
    (record { text = law world.hub p.seat (p.here k there); stands = s; asks = refl })
