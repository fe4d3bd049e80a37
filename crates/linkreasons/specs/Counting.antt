-- How the reasons are counted.
--     IsCounted most questions kept      a link's questions are kept in order, each with the number of the reasons for it, at most so many
--     AreCounted most link sessions links      of the links from one on
--     AreDistinct sessions      no number twice
--     IsAllCounted most all      what always holds
use Rattle.std.specs.Prelude.{◌≡◌, ℕ, ◌+◌, ◌≤◌, false, List, [], ◌∷◌, IsTrue, ⊤}
use Rattle.rrset.specs.declared.record.Question.{Question}
use Rattle.linkask.specs.Asking.{asked_cmp}
use Rattle.linkask.specs.Bounds.{Kept, all_reasons, are_kept}
use Rattle.linkreasons.specs.AllReasons.{AllReasons, ReasonsOfLink, reasons_on}
use Rattle.linkreasons.specs.Changing.{is_there}
use Rattle.linkreasons.specs.Tallies.{IsTally, times}
use Rattle.linkreasons.specs.declared.reason.Reason.{Reason}

pub record IsCounted (most : ℕ) (questions : List Question) (kept : Kept) : Type 0 where
  pub order : IsTrue (are_kept kept)
  pub tally : IsTally asked_cmp questions (all_reasons kept)
  pub room : (question : Question) → times asked_cmp question questions ≤ most

abbrev pub AreCounted : ℕ → ℕ → List (ℕ × List Reason) → List ReasonsOfLink → Type 0
AreCounted most link sessions [] = ⊤
AreCounted most link sessions (l ∷ links) = IsCounted most (reasons_on link sessions l.reconfirmed) l.kept × AreCounted most (link + 1) sessions links

abbrev pub AreDistinct : List (ℕ × List Reason) → Type 0
AreDistinct [] = ⊤
AreDistinct (e ∷ sessions) = (is_there e.0 sessions ≡ false) × AreDistinct sessions

pub record IsAllCounted (most : ℕ) (all : AllReasons) : Type 0 where
  pub links : AreCounted most 0 all.sessions all.links
  pub numbers : AreDistinct all.sessions
