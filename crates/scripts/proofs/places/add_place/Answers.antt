use Rattle.std.proofs.Common.{◌≡◌, ◌∷◌, ◌++◌, ℕ, [], None, Some, sym, ap, subst, ◌∙◌}
use Rattle.std.specs.BTreeMap.{UpdatesBy}
use Rattle.scripts.specs.Lines.{Word}
use Rattle.scripts.specs.Places.{ArePlaces, place_in}
use Rattle.scripts.proofs.lines.PlacesKept.{key_cmp, placed_before, placed_behind}
use Rattle.scripts.proofs.places.add_place.Goals as goal

pub returns-in-Some-clause-ok : goal.returns-in-Some-clause-ok
returns-in-Some-clause-ok c words are so_many = placed_before words c.args.places.now c.args.word.now c.in-Some.field-0 are (sym c.place_of.ensures ∙ c.in-Some.is)

pub returns-clause-ok : goal.returns-clause-ok
returns-clause-ok c words are so_many =
    let places = c.args.places.now in
    let later = c.insert.new.self in
    let octets = c.in_ok-octets.octets in
    let none : place_in places octets.items ≡ None = ap (place_in places) c.in_ok-octets.ensures.items ∙ sym c.place_of.ensures ∙ c.in-None.is in
    let updates = subst (λ (n : ℕ). UpdatesBy key_cmp (key_cmp octets) places later (Some n)) so_many c.in_ok-insert.ensures.updates in
    subst (λ (w : Word). ArePlaces (words ++ w ∷ []) later) c.in_ok-octets.ensures.items (placed_behind words places later octets are none updates)
