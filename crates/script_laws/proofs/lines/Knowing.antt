-- Which clients a world has, behind a change.
--     AreSameClients world later      the clients of each word are lone or not as before
--     same-put      where another seat of the word stands in the place of one
--     LeadsTo all shown world later      the later world stands, with the same clients, and peers of words that no client has
use Rattle.std.proofs.Common.{◌≡◌, ℕ, Bool, true, false, List, Option, Some, option_map, refl, sym, ◌∙◌, ap, subst}
use Rattle.std.specs.Prelude.{IsTrue}
use Rattle.std.specs.List.{AllByRecursion}
use Rattle.std.specs.Str.{bytes_eq}
use Rattle.scripts.specs.Lines.{Word}
use Rattle.scripts.specs.Scripts.{is_peer}
use Rattle.replay.specs.World.{World, Seat, seat_of, with_seat}
use Rattle.scripts.proofs.lines.SameWords.{same_word}
use Rattle.replay.proofs.worlds.SeatsFound.{found-word, put-found, put-other}
use Rattle.script_laws.specs.Joined.{ShownToEach, WorldStands}

-- ---- the clients

abbrev pub lone_at : World → Word → Option Bool
lone_at world w = option_map (λ (s : Seat). s.is_lone) (seat_of world w)

abbrev pub AreSameClients : World → World → Type 0
AreSameClients world later = (w : Word) → lone_at later w ≡ lone_at world w

pub same-put : (world : World) (w : Word) (seat x : Seat) → seat_of world w ≡ Some seat → x.word ≡ seat.word → x.is_lone ≡ seat.is_lone → AreSameClients world (with_seat x world)
same-put world w seat x found word lone v = by (bytes_eq x.word v) refl
  where
    by : (b : Bool) → bytes_eq x.word v ≡ b → lone_at (with_seat x world) v ≡ lone_at world v
    by false other = ap (option_map (λ (s : Seat). s.is_lone)) (put-other world x v other)
    by true same =
        let is : w ≡ v = sym (found-word w world.seats seat found) ∙ sym word ∙ same_word x.word v same in
        subst (λ (u : Word). lone_at (with_seat x world) u ≡ lone_at world u) is
        (ap (option_map (λ (s : Seat). s.is_lone)) (put-found world w seat x found word) ∙ ap Some lone ∙ sym (ap (option_map (λ (s : Seat). s.is_lone)) found))

-- ---- from one world to a later one

abbrev pub ArePeers : List Word → List (Word × ℕ) → Type 0
ArePeers all peers = AllByRecursion (λ p. IsTrue (is_peer all p.0)) peers

pub record LeadsTo (all : List Word) (shown : ShownToEach) (world later : World) : Type 0 where
  pub stands : WorldStands shown later
  pub clients : AreSameClients world later
  pub peers : ArePeers all world.peers → ArePeers all later.peers

pub leads-none : (all : List Word) (shown : ShownToEach) (world : World) → WorldStands shown world → LeadsTo all shown world world
leads-none all shown world stands = record { stands = stands; clients = λ w. refl; peers = λ h. h }

pub leads-on : (all : List Word) (shown : ShownToEach) (world middle later : World) → AreSameClients world middle → (ArePeers all world.peers → ArePeers all middle.peers) → LeadsTo all shown middle later → LeadsTo all shown world later
leads-on all shown world middle later same peers h = record { stands = h.stands; clients = λ w. h.clients w ∙ same w; peers = λ p. h.peers (peers p) }
