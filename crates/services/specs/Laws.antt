-- Laws of lists of services.
--     AgreeOn questions first second      the same is known of each of these questions
--     NeedsStand      where the same is known of what one list asks for, the lists are one, and so is what they ask for
--     made list change, made_all list changes      the list of somebody who makes a change to it, and several in turn
--     AreApart list      no instance is there twice
--     ToldAgain      who holds the old list and makes the changes to it holds the new one
--     SameIsSilent      from a list to itself nothing is told
use Rattle.std.specs.Prelude.{◌≡◌, not, List, [], ◌∷◌, ◌++◌, map, filter, fold, if◌then◌else◌}
use Rattle.std.specs.List.{AllByRecursion, IsDistinct}
use Rattle.dnsname.specs.Names.{Labels}
use Rattle.rrset.specs.declared.record.Question.{Question}
use Rattle.services.specs.declared.service.Service.{Service}
use Rattle.services.specs.declared.service.Change.{Change}
use Rattle.services.specs.declared.service.Change.TheVariants as change
use Rattle.services.specs.Services.{Known, services, needs, is_for, service_for, changes}

abbrev pub AgreeOn : List Question → Known → Known → Type 0
AgreeOn questions first second = AllByRecursion (λ q. first q ≡ second q) questions

-- So to ask for the needs changes nothing of them but by their answers, and to drop other questions changes nothing.
abbrev pub NeedsStand : Type 0
NeedsStand = (root : Question) (first second : Known) → AgreeOn (needs root (services root first)) first second
    → (services root first ≡ services root second) × (needs root (services root first) ≡ needs root (services root second))

-- ---- changes

-- who went is taken out, who came stands behind the others, and who differs takes the place of its instance
abbrev pub made : List Service → Change → List Service
made list (change.Went s) = filter (λ t. not (is_for s.instance t)) list
made list (change.Came s) = list ++ s ∷ []
made list (change.Differs before s) = map (λ t. if is_for s.instance t then s else t) list

abbrev pub made_all : List Service → List Change → List Service
made_all list told = fold made list told

-- no instance is there twice, but for case
abbrev pub AreApart : List Service → Type 0
AreApart list = IsDistinct (λ s t. is_for s.instance t) list

-- each instance then has the service of the new list, to the letter, or none where that has none
abbrev pub ToldAgain : Type 0
ToldAgain = (old new : List Service) (instance : Labels) → AreApart new
    → service_for instance (made_all old (changes old new)) ≡ service_for instance new

abbrev pub SameIsSilent : Type 0
SameIsSilent = (list : List Service) → AreApart list → changes list list ≡ []
