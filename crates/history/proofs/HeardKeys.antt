-- The key that a link would have heard to show a record.
use Rattle.std.proofs.Common.{◌≡◌, ℕ, zero, suc, List, [], ◌∷◌, map, Option, Some, None, Result, Ok, Err, refl, sym, ap, ◌∙◌}
use Rattle.std.specs.Prelude.{slice_get, option_map, option_and_then, IfOk}
use Rattle.rrset.specs.Records.{key_of}
use Rattle.rrset.specs.declared.record.Key.{Key}
use Rattle.rrset.specs.declared.record.Rr.{Rr}
use Rattle.linkcache.specs.Links.{LinkState, LinkKept}
use Rattle.linkcache.specs.Rows.{heard_by}
use Rattle.linkcache.specs.declared.rules.LinkRules.{LinkRules}
use Rattle.history.specs.Kept.{HomesKept, at_moment, state_of}
use Rattle.history.specs.States.{home_of, key_heard, reconfirm_key}
use Rattle.history.specs.declared.entry.Home.{Home}
use Rattle.history.specs.declared.entry.Home.TheVariants as homes

-- the key, with its link
abbrev pub key_from : ℕ → Rr → LinkRules → Option (ℕ × Key)
key_from i rr rules = option_map {U = ℕ × Key} (λ r. (i, key_of r)) (heard_by rules rr)

pub key-from : (i : ℕ) (rr : Rr) (rules : LinkRules) (found : Option Key) → found ≡ option_map key_of (heard_by rules rr) → option_map {U = ℕ × Key} (λ k. (i, k)) found ≡ key_from i rr rules
key-from i rr rules found is = ap (option_map {U = ℕ × Key} (λ k. (i, k))) is ∙ by (heard_by rules rr)
  where
    by : (o : Option Rr) → option_map {U = ℕ × Key} (λ k. (i, k)) (option_map key_of o) ≡ option_map {U = ℕ × Key} (λ r. (i, key_of r)) o
    by None = refl
    by (Some r) = refl

pub key-at : (links : List LinkKept) (i : ℕ) (rr : Rr) (link : LinkKept) (found key : Option Key) → slice_get links i ≡ Some link → found ≡ option_map key_of (heard_by link.state.rules rr) → found ≡ key
    → option_map {U = ℕ × Key} (λ k. (i, k)) key ≡ option_and_then (λ (l : LinkKept). key_from i rr l.state.rules) (slice_get links i)
key-at links i rr link found key at is found_is =
    ap (option_map {U = ℕ × Key} (λ k. (i, k))) (sym found_is) ∙ key-from i rr link.state.rules found is ∙ sym (ap (option_and_then (λ (l : LinkKept). key_from i rr l.state.rules)) at)

key-states : (f : LinkRules → Option (ℕ × Key)) (links : List LinkKept) (i : ℕ) → option_and_then (λ (l : LinkKept). f l.state.rules) (slice_get links i) ≡ option_and_then (λ (l : LinkState). f l.rules) (slice_get (map (λ (l : LinkKept). l.state) links) i)
key-states f [] i = refl
key-states f (l ∷ links) zero = refl
key-states f (l ∷ links) (suc i) = key-states f links i

pub key-found : {E : Type 0} (kept : HomesKept) (links : List LinkKept) (rr : Rr) (i : ℕ) (home : Option Home) (r : Result (Option (ℕ × Key)) E) → links ≡ kept.links → home ≡ home_of (state_of kept) rr.owner → home ≡ Some (homes.Link i)
    → IfOk r (λ found. found ≡ option_and_then (λ (l : LinkKept). key_from i rr l.state.rules) (slice_get links i)) → IfOk r (λ found. (t : ℕ) → found ≡ reconfirm_key (at_moment kept t) rr)
key-found kept links rr i home (Err e) links_is is at found = tt
key-found kept links rr i home (Ok key) links_is is at found = λ t.
    found ∙ ap (λ ls. option_and_then (λ (l : LinkKept). key_from i rr l.state.rules) (slice_get ls i)) links_is ∙ key-states (key_from i rr) kept.links i
    ∙ ap (key_heard (at_moment kept t) rr) (sym at ∙ is)
