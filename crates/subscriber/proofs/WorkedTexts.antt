-- The worked texts that have numbers.
--     row, cut, one_message, two_reads      their lines
use Rattle.std.proofs.Common.{◌≡◌, [], ◌∷◌, ◌++◌, None, Some, refl, codes, drop, take}
use Rattle.std.specs.Fmt.{digits}
use Rattle.push_base.specs.Line.{bytes, quiet, end_of_line}
use Rattle.subscriber.specs.Said.{said}
use Rattle.subscriber.specs.Worked.{added_soa, answered, pushed, soa_asked}

pub row : said (soa_asked None 9) (bytes (answered ++ pushed) ∷ end_of_line ∷ []) (0 ∷ []) ≡ codes "answer 1 0" ∷ added_soa ∷ codes "closed eof" ∷ []
unfolding digits
row = refl

pub cut : said (soa_asked None 9) (bytes (take 15 (answered ++ pushed)) ∷ quiet ∷ bytes (drop 15 (answered ++ pushed)) ∷ end_of_line ∷ []) (0 ∷ []) ≡ codes "answer 1 0" ∷ added_soa ∷ codes "closed eof" ∷ []
unfolding digits
cut = refl

pub one_message : said (soa_asked (Some 1) 9) (bytes (answered ++ pushed) ∷ []) (0 ∷ []) ≡ codes "answer 1 0" ∷ codes "ended messages" ∷ []
unfolding digits
one_message = refl

pub two_reads : said (soa_asked None 2) (quiet ∷ bytes answered ∷ []) (0 ∷ []) ≡ codes "answer 1 0" ∷ codes "ended turns" ∷ []
unfolding digits
two_reads = refl
