-- Words that several programs print.
--     spaced words      words with a space between each two
--     line words, ended_lines lines      a line of text, and lines, each with its line feed
--     close_words reason      why a connection was closed
--     octets_text octets      octets in hexadecimal
use Rattle.std.specs.Prelude.{ℕ, List, [], ◌∷◌, ◌++◌, flat_map, codes, decimal, if◌then◌else◌}
use Rattle.std.specs.List.{join_with_byte}
use Rattle.push_base.specs.Hexadecimal.{hex_text}
use Rattle.push_base.specs.Cases.{is_empty}
use Rattle.dsosession.specs.declared.session.CloseReason.{CloseReason}
use Rattle.dsosession.specs.declared.session.CloseReason.TheVariants as closes

abbrev pub spaced : List (List ℕ) → List ℕ
spaced words = join_with_byte 32 words

-- words as a line of text
abbrev pub line : List ℕ → List ℕ
line words = words ++ 10 ∷ []

-- each line ends with a line feed
abbrev pub ended_lines : List (List ℕ) → List ℕ
ended_lines lines = flat_map (λ l. line l) lines

abbrev pub close_words : CloseReason → List ℕ
close_words closes.Short = codes "short"
close_words closes.Opcode = codes "opcode"
close_words closes.Counts = codes "counts"
close_words closes.Tlvs = codes "tlvs"
close_words closes.Early = codes "early"
close_words closes.Idle = codes "idle"
close_words (closes.Stranger id) = spaced (codes "stranger" ∷ decimal id ∷ [])
close_words (closes.Misuse kind) = spaced (codes "misuse" ∷ decimal kind ∷ [])
close_words (closes.BadData kind) = spaced (codes "data" ∷ decimal kind ∷ [])
close_words (closes.Unknown kind) = spaced (codes "type" ∷ decimal kind ∷ [])
close_words (closes.Interval ms) = spaced (codes "interval" ∷ decimal ms ∷ [])
close_words (closes.Kept rcode) = spaced (codes "kept" ∷ decimal rcode ∷ [])
close_words (closes.Delay ms rcode) = spaced (codes "delay" ∷ decimal ms ∷ decimal rcode ∷ [])

-- octets in hexadecimal, and - for none
abbrev pub octets_text : List ℕ → List ℕ
octets_text octets = if is_empty octets then codes "-" else hex_text octets
