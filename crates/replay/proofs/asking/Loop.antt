-- The loop that asks a link.
--     Asking      what was asked so far leads to all
--     asking-begins, asking-more, asking-ends      none yet, one more, and all
--     longer      each line adds an octet, at least
use Rattle.std.proofs.Common.{◌≡◌, ◌<◌, ◌≤◌, ℕ, ◌+◌, List, [], ◌∷◌, ◌++◌, length, map, Option, Some, None, refl, sym, ◌∙◌, ap, subst, arith, append_assoc, append-nil, codes, length-append}
use Rattle.std.proofs.lemmas.List.{map-append}
use Rattle.linkask.specs.Laws.{AskedOnce, NotDueAtOnce}
use Rattle.pushserver.specs.Hubs.{state_now}
use Rattle.pushserver.specs.KeptHubs.{KeptHub}
use Rattle.hubasking.specs.AskingHubs.{AskingHub, given_by}
use Rattle.hubasking.specs.LinkAskings.{Askings, ask, asks_all}
use Rattle.scripts.specs.Words.{spaced, ended_lines, octets_text}
use Rattle.replay.specs.Askings.{AreOrdered}
use Rattle.replay.specs.KeptAsks.{out_lines, HasAsked, AsksAll}
use Rattle.replay.proofs.asking.Turns.{asks-none, AsksOne, asks-turn}
use Rattle.replay.proofs.worlds.TimedSeats.{lines-append}

abbrev All : Type 0
All = List (List ℕ) × Askings

-- what was asked so far, and what is left
pub record IsAsking (start : AskingHub) (link : ℕ) (now : AskingHub) (count : ℕ) (told : List ℕ) : Type 0 where
  pub done : List (List ℕ)
  pub number : count ≡ length done
  pub lines : told ≡ ended_lines (out_lines done)
  pub ordered : AreOrdered now.askings
  pub left : done ++ (asks_all (state_now start.hub) now.askings link).0 ≡ (asks_all (state_now start.hub) start.askings link).0
  pub then : (asks_all (state_now start.hub) now.askings link).1 ≡ (asks_all (state_now start.hub) start.askings link).1

unfoldable pub Asking : AskingHub → ℕ → AskingHub → ℕ → List ℕ → Type 0
Asking start link now count told = (now.hub ≡ start.hub) × (AreOrdered start.askings → IsAsking start link now count told)

pub asking-begins : (start : AskingHub) (link : ℕ) (told : List ℕ) → told ≡ [] → Asking start link start 0 told
unfolding Asking
asking-begins start link told none = (refl, λ ordered. record { done = []; number = refl; lines = none; ordered = ordered; left = refl; then = refl })

-- its line
pub line-out : (datagram : List ℕ) → codes "out " ++ (octets_text datagram ++ 10 ∷ []) ≡ ended_lines (out_lines (datagram ∷ []))
line-out datagram = sym (append_assoc (codes "out ") (octets_text datagram) (10 ∷ [])) ∙ sym (append-nil ((codes "out " ++ octets_text datagram) ++ 10 ∷ []))

pub asking-more : AskedOnce → (start now later : AskingHub) (link count : ℕ) (sent line told next : List ℕ) → Asking start link now count told → later.hub ≡ now.hub
    → (Some sent, later.askings) ≡ ask (state_now now.hub) now.askings link → line ≡ codes "out " ++ (octets_text sent ++ 10 ∷ []) → next ≡ told ++ line → Asking start link later (count + 1) next
unfolding Asking
asking-more law start now later link count sent line told next so_far stays asked line_is next_is = (
  stays ∙ so_far.0,
  λ ordered.
      let s = so_far.1 ordered in
      let state = state_now start.hub in
      let is : (Some sent, later.askings) ≡ ask state now.askings link = asked ∙ ap (λ (h : KeptHub). ask (state_now h) now.askings link) so_far.0 in
      let one : AsksOne state now.askings link sent later.askings = asks-turn law state now.askings link s.ordered sent later.askings is in
      record {
        done = s.done ++ sent ∷ [];
        number = ap (λ (n : ℕ). n + 1) s.number ∙ sym (length-append s.done (sent ∷ []));
        lines = next_is ∙ (λ i. s.lines i ++ (line_is ∙ line-out sent) i) ∙ sym (ap (λ (ls : List (List ℕ)). ended_lines ls) (map-append (λ (o : List ℕ). spaced (codes "out" ∷ octets_text o ∷ [])) s.done (sent ∷ [])) ∙ lines-append (out_lines s.done) (out_lines (sent ∷ [])));
        ordered = one.ordered;
        left = append_assoc s.done (sent ∷ []) (asks_all state later.askings link).0 ∙ ap (λ (rest : List (List ℕ)). s.done ++ rest) (sym one.first) ∙ s.left;
        then = one.last ∙ s.then;
      },
)

pub asking-ends : AskedOnce → (start now later : AskingHub) (link count : ℕ) (told : List ℕ) → Asking start link now count told → later.hub ≡ now.hub → (None, later.askings) ≡ ask (state_now now.hub) now.askings link
    → AsksAll start link count told later
unfolding Asking AsksAll
asking-ends law start now later link count told so_far stays asked = (
  stays ∙ so_far.0,
  λ ordered.
      let s = so_far.1 ordered in
      let state = state_now start.hub in
      let is : (None, later.askings) ≡ ask state now.askings link = asked ∙ ap (λ (h : KeptHub). ask (state_now h) now.askings link) so_far.0 in
      let both = asks-none law state now.askings link s.ordered (ap (λ (r : Option (List ℕ) × Askings). r.0) (sym is)) in
      let none : asks_all state now.askings link ≡ ([], now.askings) = both.0 in
      let same : later.askings ≡ now.askings = ap (λ (r : Option (List ℕ) × Askings). r.1) is ∙ both.1 in
      let all : s.done ≡ (asks_all state start.askings link).0 = sym (append-nil s.done) ∙ ap (λ (r : All). s.done ++ r.0) (sym none) ∙ s.left in
      record {
        number = s.number ∙ ap length all;
        lines = s.lines ∙ ap (λ (ds : List (List ℕ)). ended_lines (out_lines ds)) all;
        asks = same ∙ ap (λ (r : All). r.1) (sym none) ∙ s.then;
      },
)

pub longer : (count : ℕ) (told line next sent : List ℕ) → count ≤ length told → line ≡ codes "out " ++ (octets_text sent ++ 10 ∷ []) → next ≡ told ++ line → count + 1 ≤ length next
longer count told line next sent few line_is next_is =
    let size = ap length next_is ∙ length-append told line in
    let one = ap length line_is ∙ length-append (codes "out ") (octets_text sent ++ 10 ∷ []) in
    let last = length-append (octets_text sent) (10 ∷ []) in
    omega (arith, few, size, one, last)
