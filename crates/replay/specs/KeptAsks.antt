-- What a link is asked, as the program tells it.
--     out_lines datagrams      a line for each datagram
--     AsksAll kept link count told later      so many questions were asked, until none was due
use Rattle.std.specs.Prelude.{◌≡◌, ℕ, List, ◌∷◌, [], map, length, codes}
use Rattle.hubasking.specs.AskingHubs.{AskingHub}
use Rattle.hubasking.specs.LinkAskings.{Askings, asks_all}
use Rattle.pushserver.specs.Hubs.{state_now}
use Rattle.scripts.specs.Words.{spaced, ended_lines, octets_text}
use Rattle.replay.specs.Askings.{AreOrdered}

abbrev pub out_lines : List (List ℕ) → List (List ℕ)
out_lines datagrams = map (λ o. spaced (codes "out" ∷ octets_text o ∷ [])) datagrams

-- these datagrams were sent, and links are asked this then
pub record HasAsked (sent : List (List ℕ) × Askings) (count : ℕ) (told : List ℕ) (later : Askings) : Type 0 where
  pub number : count ≡ length sent.0
  pub lines : told ≡ ended_lines (out_lines sent.0)
  pub asks : later ≡ sent.1

-- history and sessions stay; where questions are in order, those that are due were asked
unfoldable pub AsksAll : AskingHub → ℕ → ℕ → List ℕ → AskingHub → Type 0
AsksAll kept link count told later = (later.hub ≡ kept.hub) × (AreOrdered kept.askings → HasAsked (asks_all (state_now kept.hub) kept.askings link) count told later.askings)
