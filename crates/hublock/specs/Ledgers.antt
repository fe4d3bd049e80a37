-- Which ledgers are opened.
--     names_of, AreNamed      the names of ledgers that count nothing yet; they have these names
use Rattle.std.specs.Prelude.{◌≡◌}
use Rattle.hublock.specs.declared.blanks.Blanks.{Blanks}
use Rattle.hublock.specs.Feeds.{LedgerNames}

abbrev pub names_of : Blanks → LedgerNames
names_of blanks = record { changes = blanks.changes.name; heard = blanks.heard.name; moments = blanks.moments.name; made = blanks.made.name }

abbrev pub AreNamed : Blanks → LedgerNames → Type 0
AreNamed blanks names =
    (blanks.changes.name ≡ names.changes) × (blanks.heard.name ≡ names.heard)
    × (blanks.moments.name ≡ names.moments) × (blanks.made.name ≡ names.made)
