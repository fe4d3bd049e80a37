-- Links with a word for each, none of which has heard anything.
--     link-there      the link that a word leads to
--     has-no-row      it has heard nothing
--     named-link, named-reverse      they stay so with a further link, and with a further reverse domain of one
use Rattle.std.proofs.Common.{◌≡◌, ℕ, ◌+◌, ◌<◌, List, [], ◌∷◌, ◌++◌, length, Some, length-append, sym, ◌∙◌, ap, subst}
use Rattle.std.specs.Prelude.{All, get_or, position, slice_get}
use Rattle.std.specs.Str.{bytes_eq}
use Rattle.std.proofs.lemmas.Option.{slice_get-get_or}
use Rattle.std.proofs.lemmas.List.Elements.{All-from_recursion, All-push, recursion_from_All}
use Rattle.push_base.specs.Cases.{changed_at}
use Rattle.dnsname.specs.Names.{Labels}
use Rattle.history.specs.Kept.{HasNoRow, state_of}
use Rattle.history.specs.States.{LinkState, with_reverse}
use Rattle.scripts.specs.Lines.{Word}
use Rattle.scripts.specs.HeadHomes.{NamedHomes, AreNamed}
use Rattle.scripts.proofs.lines.ChangedPlaces.{length-changed, changed-each}
use Rattle.scripts.proofs.lines.Numbers.{within-found}

abbrev IsSilent : LinkState → Type 0
IsSilent l = l.rows ≡ []

-- (some link)
no_link : LinkState
no_link = record { rules = record { domain = []; reverses = []; cap = 0 }; rows = [] }

pub link-there : (words : List Word) (links : List LinkState) (w : Word) (place : ℕ) → length words ≡ length links → position (bytes_eq w) words ≡ Some place → (l : LinkState) × (place < length links) × (slice_get links place ≡ Some l)
link-there words links w place each at =
    let within : place < length links = subst (λ (n : ℕ). place < n) each (within-found (bytes_eq w) words place at) in
    (get_or links place no_link, within, slice_get-get_or links place no_link within)

pub has-no-row : (named : NamedHomes) (w : Word) (place : ℕ) → AreNamed named → position (bytes_eq w) named.words ≡ Some place → HasNoRow (slice_get (state_of named.homes).links place)
has-no-row named w place are at =
    let links : List LinkState = (state_of named.homes).links in
    let within : place < length links = (link-there named.words links w place are.each at).1 in
    subst HasNoRow (sym (slice_get-get_or links place no_link within)) (are.silent place no_link within)

module _ (old new : NamedHomes) (are : AreNamed old) where
  pub named-link : (link : LinkState) (w : Word) → link.rows ≡ [] → (state_of new.homes).links ≡ (state_of old.homes).links ++ link ∷ [] → new.words ≡ old.words ++ w ∷ [] → AreNamed new
  named-link link w silent links words =
      let before : List LinkState = (state_of old.homes).links in
      record {
        each = ap length words ∙ length-append old.words (w ∷ []) ∙ ap (λ (n : ℕ). n + 1) are.each ∙ sym (length-append before (link ∷ [])) ∙ ap length (sym links);
        silent = subst (All IsSilent) (sym links) (All-push IsSilent before link are.silent silent);
      }

  pub named-reverse : (place : ℕ) (domain : Labels) → (state_of new.homes).links ≡ changed_at place (with_reverse domain) (state_of old.homes).links → new.words ≡ old.words → AreNamed new
  named-reverse place domain links words =
      let before : List LinkState = (state_of old.homes).links in
      let changed : List LinkState = changed_at place (with_reverse domain) before in
      record {
        each = ap length words ∙ are.each ∙ sym (length-changed place (with_reverse domain) before) ∙ ap length (sym links);
        silent = subst (All IsSilent) (sym links) (All-from_recursion IsSilent changed (changed-each IsSilent (with_reverse domain) (λ l silent. silent) place before (recursion_from_All IsSilent before are.silent)));
      }
