-- A line of the head that the homes take or refuse.
--     unknown-word, known-word      whether it may stand there, by where its word stands among those of links
--     takes_home      the draft takes it where they do
--     grows_zone, grows_link, grows_reverse      the head with a further line of its own
use Rattle.std.proofs.Common.{◌≡◌, ℕ, Bool, true, false, ◌&&◌, ◌==◌, Some, None, Result, Ok, Err, List, [], ◌∷◌, ◌++◌, length, refl, sym, ◌∙◌, ap}
use Rattle.std.specs.Prelude.{IfOk, is_none, position, string_bytes}
use Rattle.std.specs.Str.{bytes_eq}
use Rattle.history.specs.Homes.{NamedHome, home_fault}
use Rattle.scripts.specs.Lines.{Word}
use Rattle.scripts.specs.Scripts.{is_among, may_head}
use Rattle.scripts.specs.declared.line.ZoneLine.{ZoneLine}
use Rattle.scripts.specs.declared.line.LinkLine.{LinkLine}
use Rattle.scripts.specs.declared.line.ReverseLine.{ReverseLine}
use Rattle.scripts.specs.declared.line.HeadLine.{HeadLine}
use Rattle.scripts.specs.declared.line.HeadLine.TheVariants as heads
use Rattle.scripts.specs.declared.line.Line.TheVariants as lines
use Rattle.scripts.specs.declared.script.Draft.{Draft}
use Rattle.scripts.specs.HeadHomes.{NamedHomes}
use Rattle.scripts.specs.KeptLines.{head_said}
use Rattle.scripts.specs.Drafts.{HasLink, HasReverse, HasZone, HeadGrowsBy, TakesLine, known_of, taken_of}
use Rattle.scripts.proofs.lines.MoreLines.{some-allowed}
use Rattle.scripts.proofs.lines.Numbers.{any-found, none-any}

-- no link has the word, whatever else
pub unknown-word : (words : List Word) (w : Word) (fits : Bool) → position (bytes_eq w) words ≡ None → false ≡ (is_among words w && fits)
unknown-word words w fits none = ap (λ (b : Bool). b && fits) (sym (none-any (bytes_eq w) words none))

-- a link has it, and the home has no fault
pub known-word : (words : List Word) (w : Word) (homes : List NamedHome) (new : NamedHome) (place : ℕ) → position (bytes_eq w) words ≡ Some place → home_fault homes new ≡ None
    → true ≡ (is_among words w && is_none (home_fault homes new))
known-word words w homes new place at none = λ i. sym (any-found (bytes_eq w) words place at) i && is_none (sym none i)

abbrev with_homes : Draft → NamedHomes → Draft
with_homes draft homes = record draft { homes = homes }

takes-one : (all : List Word) (draft : Draft) (homes : NamedHomes) (line : HeadLine) (taken : Bool) → (length draft.events.items == 0) ≡ true → taken ≡ may_head (known_of (taken_of draft)) (head_said line)
    → (taken ≡ true → HeadGrowsBy (taken_of draft) line (taken_of (with_homes draft homes))) → TakesLine all draft (lines.Head line) (with_homes draft homes) taken
takes-one all draft homes line true first may grows = (some-allowed _ _ ∙ (λ i. first i && sym may i), grows refl)
takes-one all draft homes line false first may grows = some-allowed _ _ ∙ (λ i. first i && sym may i)

pub takes_home : {E : Type 0} (all : List Word) (draft : Draft) (homes : NamedHomes) (line : HeadLine) (result : Result Bool E) → (length draft.events.items == 0) ≡ true
    → IfOk result (λ taken. taken ≡ may_head (known_of (taken_of draft)) (head_said line)) → IfOk result (λ taken. taken ≡ true → HeadGrowsBy (taken_of draft) line (taken_of (with_homes draft homes)))
    → IfOk result (λ taken. TakesLine all draft (lines.Head line) (with_homes draft homes) taken)
takes_home all draft homes line (Err e) first may grows = tt
takes_home all draft homes line (Ok taken) first may grows = takes-one all draft homes line taken first may grows

if_ok : {E : Type 0} (P Q : Bool → Type 0) → ((b : Bool) → P b → Q b) → (result : Result Bool E) → IfOk result P → IfOk result Q
if_ok P Q f (Err e) h = tt
if_ok P Q f (Ok b) h = f b h

-- what was taken with these homes
grown : (draft : Draft) (homes : NamedHomes) (words : List Word) → homes.words ≡ words → taken_of (with_homes draft homes) ≡ record (taken_of draft) { homes = homes.homes; links = words }
grown draft homes words same = ap (λ (ws : List Word). record (taken_of draft) { homes = homes.homes; links = ws }) same

module _ {E : Type 0} (draft : Draft) (homes : NamedHomes) (result : Result Bool E) where
  abbrev Grows : HeadLine → Bool → Type 0
  Grows line taken = taken ≡ true → HeadGrowsBy (taken_of draft) line (taken_of (with_homes draft homes))

  pub grows_zone : (line : ZoneLine) → IfOk result (λ taken. taken ≡ true → HasZone draft.homes.homes line homes.homes × (homes.words ≡ draft.homes.words)) → IfOk result (Grows (heads.Zone line))
  grows_zone line h = if_ok (λ taken. taken ≡ true → HasZone draft.homes.homes line homes.homes × (homes.words ≡ draft.homes.words)) (Grows (heads.Zone line)) (λ b g is. (let has = g is in (has.0, grown draft homes draft.homes.words has.1))) result h

  pub grows_link : (line : LinkLine) → IfOk result (λ taken. taken ≡ true → HasLink draft.homes.homes line homes.homes × (homes.words ≡ draft.homes.words ++ string_bytes line.word ∷ [])) → IfOk result (Grows (heads.Link line))
  grows_link line h =
      if_ok (λ taken. taken ≡ true → HasLink draft.homes.homes line homes.homes × (homes.words ≡ draft.homes.words ++ string_bytes line.word ∷ [])) (Grows (heads.Link line))
      (λ b g is. (let has = g is in (has.0, grown draft homes (draft.homes.words ++ string_bytes line.word ∷ []) has.1))) result h

  pub grows_reverse : (line : ReverseLine) → IfOk result (λ taken. taken ≡ true → HasReverse draft.homes.homes draft.homes.words line homes.homes × (homes.words ≡ draft.homes.words)) → IfOk result (Grows (heads.Reverse line))
  grows_reverse line h =
      if_ok (λ taken. taken ≡ true → HasReverse draft.homes.homes draft.homes.words line homes.homes × (homes.words ≡ draft.homes.words)) (Grows (heads.Reverse line))
      (λ b g is. (let has = g is in (has.0, grown draft homes draft.homes.words has.1))) result h
