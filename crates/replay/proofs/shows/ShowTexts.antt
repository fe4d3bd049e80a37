-- The lines of a `show`.
--     state-line      a state, and no records
--     set-lines      a state with its records
--     record-line, record-more      the line of a record, and one behind others
use Rattle.std.proofs.Common.{◌≡◌, ℕ, ◌+◌, ◌<◌, List, [], ◌∷◌, ◌++◌, length, drop, get_or, sym, ◌∙◌, ap, append_assoc, append-nil, codes, decimal}
use Rattle.std.proofs.lemmas.List.{at_drop_more}
use Rattle.dnsname.specs.Text.{name_text}
use Rattle.rrset.specs.RecordSet.{RecordSet}
use Rattle.rrset.specs.declared.record.Key.{Key}
use Rattle.rrset.specs.declared.record.Shown.{Shown}
use Rattle.scripts.specs.Words.{octets_text}
use Rattle.replay.specs.TextWords.{record_line, with_records}
use Rattle.replay.specs.KeptShows.{Showing, record_lines, showing_text}
use Rattle.replay.proofs.worlds.Doing.{one_line}

-- words with a space between each two, and the end of the line
abbrev ended : List ℕ → List ℕ
ended l = l ++ 10 ∷ []

abbrev pub six_words : List ℕ → List ℕ → List ℕ → List ℕ → List ℕ → List ℕ → List ℕ
six_words front v w x y z = front ++ (v ++ 32 ∷ (w ++ 32 ∷ (x ++ 32 ∷ (y ++ 32 ∷ (z ++ 10 ∷ [])))))

last_word : (w z : List ℕ) → w ++ 32 ∷ ended z ≡ ended (w ++ 32 ∷ z)
last_word w z = sym (append_assoc w (32 ∷ z) (10 ∷ []))

worded : (front v w x y z : List ℕ) → six_words front v w x y z ≡ ended (front ++ (v ++ 32 ∷ (w ++ 32 ∷ (x ++ 32 ∷ (y ++ 32 ∷ z)))))
worded front v w x y z =
    ap (λ (t : List ℕ). front ++ (v ++ 32 ∷ (w ++ 32 ∷ (x ++ 32 ∷ t)))) (last_word y z)
    ∙ ap (λ (t : List ℕ). front ++ (v ++ 32 ∷ (w ++ 32 ∷ t))) (last_word x (y ++ 32 ∷ z))
    ∙ ap (λ (t : List ℕ). front ++ (v ++ 32 ∷ t)) (last_word w (x ++ 32 ∷ (y ++ 32 ∷ z)))
    ∙ ap (λ (t : List ℕ). front ++ t) (last_word v (w ++ 32 ∷ (x ++ 32 ∷ (y ++ 32 ∷ z))))
    ∙ sym (append_assoc front (v ++ 32 ∷ (w ++ 32 ∷ (x ++ 32 ∷ (y ++ 32 ∷ z)))) (10 ∷ []))

six-words : (front v w x y z : List ℕ) → six_words front v w x y z ≡ ended (front ++ (v ++ 32 ∷ (w ++ 32 ∷ (x ++ 32 ∷ (y ++ 32 ∷ z))))) ++ []
six-words front v w x y z = worded front v w x y z ∙ one_line (front ++ (v ++ 32 ∷ (w ++ 32 ∷ (x ++ 32 ∷ (y ++ 32 ∷ z)))))

-- ---- states

pub state-line : (showing : Showing) (state : List ℕ) → six_words (codes "show ") showing.word showing.written (decimal showing.question.kind) (decimal showing.question.class) state ≡ showing_text showing (state, [])
state-line showing state = six-words (codes "show ") showing.word showing.written (decimal showing.question.kind) (decimal showing.question.class) state

pub set-lines : (showing : Showing) (state : List ℕ) (set : RecordSet) (count : ℕ) (counted text told : List ℕ) → count ≡ length set → counted ≡ state ++ 32 ∷ decimal count → text ≡ showing_text showing (counted, []) → told ≡ text ++ record_lines set
    → told ≡ showing_text showing (with_records state set)
set-lines showing state set count counted text told many counted_is text_is is =
    is
    ∙ (λ i. text_is i ++ record_lines set)
    ∙ (λ i. showing_text showing (counted_is i, []) ++ record_lines set)
    ∙ (λ i. showing_text showing (state ++ 32 ∷ decimal (many i), []) ++ record_lines set)
    ∙ append_assoc (ended front) [] (record_lines set)
  where
    front : List ℕ
    front = codes "show " ++ (showing.word ++ 32 ∷ (showing.written ++ 32 ∷ (decimal showing.question.kind ++ 32 ∷ (decimal showing.question.class ++ 32 ∷ (state ++ 32 ∷ decimal (length set))))))

-- ---- records

pub record-line : (r : Key × Shown) → six_words (codes "rr ") (name_text r.1.owner) (decimal r.1.ttl) (decimal r.0.class) (decimal r.0.kind) (octets_text r.1.rdata) ≡ record_lines (r ∷ [])
record-line r = six-words (codes "rr ") (name_text r.1.owner) (decimal r.1.ttl) (decimal r.0.class) (decimal r.0.kind) (octets_text r.1.rdata)

-- one line more
pub record-more : (records : RecordSet) (i : ℕ) (r : Key × Shown) (text line now whole : List ℕ) → i < length records → r ≡ get_or records i r → line ≡ record_lines (r ∷ []) → now ≡ text ++ line
    → text ++ record_lines (drop i records) ≡ whole → now ++ record_lines (drop (i + 1) records) ≡ whole
record-more records i r text line now whole within is line_is now_is so_far =
    let rest = record_lines (drop (i + 1) records) in
    ap (λ (t : List ℕ). t ++ rest) (now_is ∙ ap (λ (l : List ℕ). text ++ l) (line_is ∙ append-nil (ended (record_line r))))
    ∙ append_assoc text (ended (record_line r)) rest
    ∙ ap (λ (s : Key × Shown). text ++ record_lines (s ∷ drop (i + 1) records)) is
    ∙ ap (λ (t : List ℕ). text ++ t) (sym (at_drop_more record_lines records i r within))
    ∙ so_far
