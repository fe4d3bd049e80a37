-- What each call of a hub keeps, calls of `give` one behind another and an exchange keep too.
--     InParts Good      what is good of octets is so of a piece that comes in two pieces
--     keeps-emitted, keeps-exchanged      what `give` keeps, and octets that come in
--     exchanged-keeps      so does what all steps of calls keep
use Rattle.std.proofs.Common.{ℕ, zero, suc, ◌-◌, Bool, true, false, ◌||◌, List, [], ◌++◌, length, take, drop, Some}
use Rattle.std.specs.Prelude.{◌==◌}
use Rattle.pushserver.specs.declared.given.Given.{Given}
use Rattle.pushserver.specs.declared.given.Given.TheVariants.{Bytes, Worked, Nothing, Ending, End}
use Rattle.pushserver.specs.PlainHubs.{Hub, Giving}
use Rattle.pushserver.specs.Hubs.{taken_by, take_octets}
use Rattle.pushserver.specs.Giving.{give}
use Rattle.pushserver.specs.Calls.{gives as giving}
use Rattle.pushserver.proofs.Walks.{AnyMessage, IsKept, keeps-called}
use Rattle.replay.specs.PassedOctets.{Emitted, Exchanged, emitted, exchanged, nothing_emitted, with_giving, enough}

-- a piece that comes in two pieces, or of two
pub record InParts (Good : List ℕ → Type 0) : Type 0 where
  pub front : (n : ℕ) (piece : List ℕ) → Good piece → Good (take n piece)
  pub rest : (n : ℕ) (piece : List ℕ) → Good piece → Good (drop n piece)
  pub nothing : Good []
  pub behind : (first second : List ℕ) → Good first → Good second → Good (first ++ second)

pub any-parts : InParts AnyMessage
any-parts = record { front = λ n piece any. tt; rest = λ n piece any. tt; nothing = tt; behind = λ first second any both. tt }

module _ (P : Hub → Type 0) (number : ℕ) (gives : (hub : Hub) (room : ℕ) → P hub → P (give hub number room).hub) where
  pub keeps-emitted : (turns budget : ℕ) (so_far : Emitted) → P so_far.hub → P (emitted turns number budget so_far).hub
  keeps-emitted zero budget so_far h = h
  keeps-emitted (suc turns) budget so_far h = by (λ n e k. keeps-emitted turns n e k) (budget == 0)
    where
      g : Giving
      g = give so_far.hub number budget

      behind : P g.hub
      behind = gives so_far.hub budget h

      Later : Type 0
      Later = (n : ℕ) (e : Emitted) → P e.hub → P (emitted turns number n e).hub

      by_given : Later → (given : Given) → P (elim given as (λ _. Emitted) [
        | Bytes n ↦ emitted turns number (budget - n) (with_giving g number so_far)
        | Worked ↦ emitted turns number budget (record (with_giving g number so_far) { reacted = true })
        | Nothing ↦ with_giving g number so_far
        | Ending ↦ with_giving g number so_far
        | End reason ↦ record (with_giving g number so_far) { over = Some reason }
      ]).hub
      by_given later (Bytes n) = later (budget - n) (with_giving g number so_far) behind
      by_given later Worked = later budget (record (with_giving g number so_far) { reacted = true }) behind
      by_given later Nothing = behind
      by_given later Ending = behind
      by_given later (End reason) = behind

      by : Later → (b : Bool) → P (elim b as (λ _. Emitted) [
        | true ↦ so_far
        | false ↦ elim g.given as (λ _. Emitted) [
          | Bytes n ↦ emitted turns number (budget - n) (with_giving g number so_far)
          | Worked ↦ emitted turns number budget (record (with_giving g number so_far) { reacted = true })
          | Nothing ↦ with_giving g number so_far
          | Ending ↦ with_giving g number so_far
          | End reason ↦ record (with_giving g number so_far) { over = Some reason }
        ]
      ]).hub
      by later true = h
      by later false = by_given later g.given

  module _ (Good : List ℕ → Type 0) (parts : InParts Good) (takes_in : (hub : Hub) (piece : List ℕ) → Good piece → P hub → P (take_octets hub number piece)) where
    pub keeps-exchanged : (turns : ℕ) (octets : List ℕ) (hub : Hub) (so_far : List ℕ) → Good octets → P hub → P (exchanged turns number octets hub so_far).hub
    keeps-exchanged zero octets hub so_far good h = h
    keeps-exchanged (suc turns) octets hub so_far good h = by (λ os later front p i. keeps-exchanged turns os later front p i) (k == 0 || k == length octets)
      where
        k : ℕ
        k = taken_by hub number octets

        e : Emitted
        e = emitted enough number enough (nothing_emitted (take_octets hub number (take k octets)) [])

        behind : P e.hub
        behind = keeps-emitted enough enough (nothing_emitted (take_octets hub number (take k octets)) []) (takes_in hub (take k octets) (parts.front k octets good) h)

        by : ((os : List ℕ) (later : Hub) (front : List ℕ) → Good os → P later → P (exchanged turns number os later front).hub) → (b : Bool)
            → P (elim b as (λ _. Exchanged) [ true ↦ record { hub = e.hub; octets = so_far ++ e.octets; over = e.over } | false ↦ exchanged turns number (drop k octets) e.hub (so_far ++ e.octets) ]).hub
        by rest true = behind
        by rest false = rest (drop k octets) e.hub (so_far ++ e.octets) (parts.rest k octets good) behind

-- ---- what all steps keep

module _ (Good : List ℕ → Type 0) (P : Hub → Type 0) (kept : IsKept Good P) where
  pub give-keeps : (number : ℕ) (hub : Hub) (room : ℕ) → P hub → P (give hub number room).hub
  give-keeps number hub room h = keeps-called Good P kept (giving number room) hub tt h

  pub exchanged-keeps : InParts Good → (turns number : ℕ) (octets : List ℕ) (hub : Hub) (so_far : List ℕ) → Good octets → P hub → P (exchanged turns number octets hub so_far).hub
  exchanged-keeps parts turns number = keeps-exchanged P number (give-keeps number) Good parts (λ hub piece good h. kept.takes_in hub number piece good h) turns
