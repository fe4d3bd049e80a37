-- The lines of notices, one behind the other.
use Rattle.std.proofs.Common.{◌≡◌, ℕ, ◌+◌, ◌<◌, List, [], ◌∷◌, ◌++◌, length, drop, get_or, map, sym, ◌∙◌, ap, append_assoc, append-nil}
use Rattle.std.proofs.lemmas.List.{at_drop_more}
use Rattle.dsotlv.specs.declared.message.Notice.{Notice}
use Rattle.scripts.specs.Words.{line, ended_lines}
use Rattle.subscriber.specs.Said.{notice_line}

abbrev pub notices_text : List Notice → List ℕ
notices_text notices = ended_lines (map notice_line notices)

pub notice-more : (notices : List Notice) (i : ℕ) (n : Notice) (text said now whole : List ℕ) → i < length notices → n ≡ get_or notices i n → said ≡ ended_lines (notice_line n ∷ []) → now ≡ text ++ said
    → text ++ notices_text (drop i notices) ≡ whole → now ++ notices_text (drop (i + 1) notices) ≡ whole
notice-more notices i n text said now whole within is said_is now_is so_far =
    let rest = notices_text (drop (i + 1) notices) in
    ap (λ (t : List ℕ). t ++ rest) (now_is ∙ ap (λ (l : List ℕ). text ++ l) (said_is ∙ append-nil (line (notice_line n))))
    ∙ append_assoc text (line (notice_line n)) rest
    ∙ ap (λ (m : Notice). text ++ notices_text (m ∷ drop (i + 1) notices)) is
    ∙ ap (λ (t : List ℕ). text ++ t) (sym (at_drop_more notices_text notices i n within))
    ∙ so_far
