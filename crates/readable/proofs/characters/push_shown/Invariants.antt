use Rattle.std.proofs.Common.{◌≡◌, ◌++◌}
use Rattle.readable.specs.Shown.{shown, shown_characters}
use Rattle.readable.proofs.characters.push_shown.Given as goal

-- what was written, and the characters that are left
abbrev pub invariant-characters : goal.invariant-characters
invariant-characters l = l.out.items ++ shown_characters l.left l.fn.dots l.rest ≡ l.fn.out.items ++ shown l.fn.dots l.fn.text

abbrev pub decreases-characters : goal.decreases-characters
decreases-characters l = l.left
