-- Rdata that is read from a message, part by part.
use Rattle.std.proofs.Common.{◌≡◌, ℕ, ◌+◌, ◌<◌, List, ◌∷◌, ◌++◌, length, get_or, take, drop, map, Result, Ok, Err, refl, sym, ap, ◌∙◌, append_assoc}
use Rattle.std.proofs.lemmas.List.{at_drop_more}
use Rattle.dnsname.specs.Reading.{name_up_to}
use Rattle.rrset.specs.Rdata.{Field, fields_from, with_field, field_octets}
use Rattle.rrset.specs.Parts.{NameReader, part_of, field_at}
use Rattle.rrset.specs.ReadParts.{GivesRdata, read_at, octets_read, all_read, read_from, onto}
use Rattle.rrset.specs.declared.rdata_reader.RdataFault.{RdataFault}
use Rattle.rrset.specs.declared.rdata_reader.RdataFault.TheVariants.{Shape, NoMemory}
use Rattle.rrset.specs.declared.shape.ShapePart.{ShapePart}
use Rattle.rrset.proofs.Shapes.{fields-first, onto_field}

abbrev pub behind : List ℕ → Result (List ℕ) ℕ → Result (List ℕ) ℕ
behind front (Ok octets) = Ok (front ++ octets)
behind front (Err p) = Err p

pub behind-append : (a b : List ℕ) (r : Result (List ℕ) ℕ) → behind (a ++ b) r ≡ behind a (behind b r)
behind-append a b (Ok octets) = ap (λ (x : List ℕ). Ok x) (append_assoc a b octets)
behind-append a b (Err p) = refl

abbrev reader : List ℕ → ℕ → NameReader
reader message end = λ _. name_up_to end message

abbrev read_piece : List ℕ → ℕ → Result (List ℕ × ℕ) ℕ
read_piece piece after = Ok (piece, after)

pub read-more : (part : ShapePart) (parts : List ShapePart) (message : List ℕ) (end p after : ℕ) (piece : List ℕ) → read_at part message end p ≡ read_piece piece after
    → read_from (part ∷ parts) message end p ≡ behind piece (read_from parts message end after)
read-more part parts message end p after piece e = ap all_read (fields-first (reader message end) part (map part_of parts) (take end message) p) ∙ by_field (field_at (reader message end) part (take end message) p) e
  where
    first : (field : Field) (r : Result (List Field) ℕ) → all_read (with_field field r) ≡ behind (field_octets field) (all_read r)
    first field (Ok fields) = refl
    first field (Err q) = refl

    by_field : (f : Result (Field × ℕ) ℕ) → octets_read f ≡ read_piece piece after → all_read (onto_field (reader message end) (map part_of parts) (take end message) f) ≡ behind piece (all_read (fields_from (reader message end) (map part_of parts) (take end message) after))
    by_field (Ok field) e =
        let both : (field_octets field.0, field.1) ≡ (piece, after) = cc in
        first field.0 (fields_from (reader message end) (map part_of parts) (take end message) field.1) ∙ ap (λ (x : List ℕ × ℕ). behind x.0 (all_read (fields_from (reader message end) (map part_of parts) (take end message) x.1))) both
    by_field (Err q) e = absurd cc

pub read-fault : (part : ShapePart) (parts : List ShapePart) (message : List ℕ) (end p q : ℕ) → read_at part message end p ≡ Err q → read_from (part ∷ parts) message end p ≡ Err q
read-fault part parts message end p q e = ap all_read (fields-first (reader message end) part (map part_of parts) (take end message) p) ∙ by_field (field_at (reader message end) part (take end message) p) e
  where
    by_field : (f : Result (Field × ℕ) ℕ) → octets_read f ≡ Err q → all_read (onto_field (reader message end) (map part_of parts) (take end message) f) ≡ Err q
    by_field (Ok field) e = absurd cc
    by_field (Err r) e = let same : r ≡ q = cc in ap (λ (x : ℕ). Err x) same

-- ---- a list of parts that is gone through

pub read_turn : (parts : List ShapePart) (d : ShapePart) (message : List ℕ) (end i p after : ℕ) (out now : List ℕ) (whole : Result (List ℕ) ℕ) → i < length parts
    → onto out (read_at (get_or parts i d) message end p) ≡ read_piece now after → behind out (read_from (drop i parts) message end p) ≡ whole
    → behind now (read_from (drop (i + 1) parts) message end after) ≡ whole
read_turn parts d message end i p after out now whole h e so_far = by_piece (read_at (get_or parts i d) message end p) refl e
  where
    by_piece : (piece : Result (List ℕ × ℕ) ℕ) → read_at (get_or parts i d) message end p ≡ piece → onto out piece ≡ read_piece now after → behind now (read_from (drop (i + 1) parts) message end after) ≡ whole
    by_piece (Err q) at e = absurd cc
    by_piece (Ok (piece, next)) at e =
        let both : (now, after) ≡ (out ++ piece, next) = cc in
        ap (λ (x : List ℕ × ℕ). behind x.0 (read_from (drop (i + 1) parts) message end x.1)) both
        ∙ behind-append out piece (read_from (drop (i + 1) parts) message end next)
        ∙ ap (behind out) (sym (at_drop_more (λ ps. read_from ps message end p) parts i d h ∙ read-more (get_or parts i d) (drop (i + 1) parts) message end p next piece at))
        ∙ so_far

read_stop_at : (parts : List ShapePart) (d : ShapePart) (message : List ℕ) (end i p q : ℕ) (out : List ℕ) (whole : Result (List ℕ) ℕ) → i < length parts
    → onto out (read_at (get_or parts i d) message end p) ≡ Err q → behind out (read_from (drop i parts) message end p) ≡ whole → whole ≡ Err q
read_stop_at parts d message end i p q out whole h e so_far = by_piece (read_at (get_or parts i d) message end p) refl e
  where
    by_piece : (piece : Result (List ℕ × ℕ) ℕ) → read_at (get_or parts i d) message end p ≡ piece → onto out piece ≡ Err q → whole ≡ Err q
    by_piece (Ok piece) at e = absurd cc
    by_piece (Err r) at e =
        let same : r ≡ q = cc in
        sym so_far ∙ ap (behind out) (at_drop_more (λ ps. read_from ps message end p) parts i d h ∙ read-fault (get_or parts i d) (drop (i + 1) parts) message end p r at) ∙ ap (λ (x : ℕ). Err x) same

pub read_stop : (parts : List ShapePart) (d : ShapePart) (message : List ℕ) (end i p : ℕ) (fault : RdataFault) (out : List ℕ) (whole : Result (List ℕ) ℕ) → i < length parts
    → GivesRdata {X = List ℕ × ℕ} (Err fault) (onto out (read_at (get_or parts i d) message end p)) → behind out (read_from (drop i parts) message end p) ≡ whole → GivesRdata {X = List ℕ} (Err fault) whole
read_stop parts d message end i p (Shape q) out whole h e so_far = read_stop_at parts d message end i p q out whole h e so_far
read_stop parts d message end i p NoMemory out whole h e so_far = tt
