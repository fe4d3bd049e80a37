use Rattle.std.proofs.Common.{◌≡◌, sym, ap, ◌∙◌}
use Rattle.std.specs.Prelude.{is_some}
use Rattle.std.specs.Str.{bytes_eq}
use Rattle.scripts.proofs.lines.PlacesKept.{any-placed}
use Rattle.scripts.proofs.places.has_place.Goals as goal

pub returns-in-Some : goal.returns-in-Some
returns-in-Some c words are = ap is_some (sym c.in-Some.is ∙ c.place_of.ensures ∙ are c.args.word.now) ∙ any-placed (bytes_eq c.args.word.now) words

pub returns-in-None : goal.returns-in-None
returns-in-None c words are = ap is_some (sym c.in-None.is ∙ c.place_of.ensures ∙ are c.args.word.now) ∙ any-placed (bytes_eq c.args.word.now) words
