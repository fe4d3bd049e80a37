-- The first place of each of several words.
--     place_in places w      the place that is kept for a word
--     ArePlaces words places      it is that of the first that is this word
use Rattle.std.specs.Prelude.{◌≡◌, ℕ, List, Option, Vec, position}
use Rattle.std.specs.declared.alloc.Global.{Global}
use Rattle.std.specs.BTreeMap.{BTreeMap, get_by}
use Rattle.std.specs.Cmp.Lexicographic.{slice_cmp}
use Rattle.std.specs.Ordering.{nat_cmp}
use Rattle.std.specs.Str.{bytes_eq}
use Rattle.scripts.specs.Lines.{Word}

abbrev pub place_in : BTreeMap (Vec ℕ Global) ℕ → Word → Option ℕ
place_in places w = get_by (λ (key : Vec ℕ Global). slice_cmp nat_cmp w key.items) places

abbrev pub ArePlaces : List Word → BTreeMap (Vec ℕ Global) ℕ → Type 0
ArePlaces words places = (w : Word) → place_in places w ≡ position (bytes_eq w) words
