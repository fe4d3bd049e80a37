use Rattle.std.proofs.Common.{subst, sym}
use Rattle.recordindex.specs.Endings.{AreCounted, SuffixesState, names_above}
use Rattle.recordindex.proofs.Keeping.{above-low}
use Rattle.recordindex.proofs.suffixes.Suffixes.below.Goals as goal

pub returns : goal.returns
returns c = λ owners low are.
    c.below_in.ensures (names_above owners) (above-low owners low) (subst (λ (s : SuffixesState). AreCounted owners s) (sym c.self.view_is) are).counts
