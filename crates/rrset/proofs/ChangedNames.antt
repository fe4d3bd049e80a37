-- Rdata with changed names, part by part.
use Rattle.std.proofs.Common.{◌≡◌, ℕ, ◌+◌, ◌<◌, List, ◌∷◌, ◌++◌, length, get_or, drop, map, Option, Some, None, Result, Ok, Err, refl, sym, ap, ◌∙◌, append_assoc}
use Rattle.std.proofs.lemmas.List.{at_drop_more}
use Rattle.dnsname.specs.Names.{Labels}
use Rattle.dnsname.specs.Reading.{plain_name_at}
use Rattle.rrset.specs.Rdata.{Field, fields_from, with_field}
use Rattle.rrset.specs.Parts.{part_of, field_at, with_octets, appended, changed_at, changed_of, changed_field, changed_fields, changed_from}
use Rattle.rrset.specs.declared.shape.ShapePart.{ShapePart}
use Rattle.rrset.proofs.Shapes.{fields-first, onto_field}

abbrev pub prefixed : List ℕ → Option (List ℕ) → Option (List ℕ)
prefixed front None = None
prefixed front (Some octets) = Some (front ++ octets)

pub prefixed-append : (a b : List ℕ) (o : Option (List ℕ)) → prefixed (a ++ b) o ≡ prefixed a (prefixed b o)
prefixed-append a b None = refl
prefixed-append a b (Some octets) = ap Some (append_assoc a b octets)

pub changed-more : (f : Labels → Labels) (part : ShapePart) (parts : List ShapePart) (rdata : List ℕ) (p after : ℕ) (piece : List ℕ) → changed_at f part rdata p ≡ Some (piece, after)
    → changed_from f (part ∷ parts) rdata p ≡ prefixed piece (changed_from f parts rdata after)
changed-more f part parts rdata p after piece e = ap (changed_fields f) (fields-first plain_name_at part (map part_of parts) rdata p) ∙ by_field (field_at plain_name_at part rdata p) e
  where
    onto : (field : Field) (r : Result (List Field) ℕ) → changed_fields f (with_field field r) ≡ prefixed (changed_field f field) (changed_fields f r)
    onto field (Ok fields) = refl
    onto field (Err q) = refl

    by_field : (found : Result (Field × ℕ) ℕ) → changed_of f found ≡ Some (piece, after) → changed_fields f (onto_field plain_name_at (map part_of parts) rdata found) ≡ prefixed piece (changed_from f parts rdata after)
    by_field (Ok field) e =
        let both : (changed_field f field.0, field.1) ≡ (piece, after) = cc in
        onto field.0 (fields_from plain_name_at (map part_of parts) rdata field.1) ∙ ap (λ (x : List ℕ × ℕ). prefixed x.0 (changed_from f parts rdata x.1)) both
    by_field (Err q) e = absurd cc

pub changed-fault : (f : Labels → Labels) (part : ShapePart) (parts : List ShapePart) (rdata : List ℕ) (p : ℕ) → changed_at f part rdata p ≡ None → changed_from f (part ∷ parts) rdata p ≡ None
changed-fault f part parts rdata p e = ap (changed_fields f) (fields-first plain_name_at part (map part_of parts) rdata p) ∙ by_field (field_at plain_name_at part rdata p) e
  where
    by_field : (found : Result (Field × ℕ) ℕ) → changed_of f found ≡ None → changed_fields f (onto_field plain_name_at (map part_of parts) rdata found) ≡ None
    by_field (Ok field) e = absurd cc
    by_field (Err q) e = refl

-- ---- a list of parts that is gone through

pub changed_turn : (f : Labels → Labels) (parts : List ShapePart) (d : ShapePart) (rdata : List ℕ) (i p after : ℕ) (o : Option ℕ) (out now : List ℕ) (whole : Option (List ℕ)) → i < length parts
    → with_octets now o ≡ appended out (changed_at f (get_or parts i d) rdata p) → o ≡ Some after → prefixed out (changed_from f (drop i parts) rdata p) ≡ whole
    → prefixed now (changed_from f (drop (i + 1) parts) rdata after) ≡ whole
changed_turn f parts d rdata i p after o out now whole h e is so_far = by_piece (changed_at f (get_or parts i d) rdata p) refl (ap (with_octets now) (sym is) ∙ e)
  where
    by_piece : (piece : Option (List ℕ × ℕ)) → changed_at f (get_or parts i d) rdata p ≡ piece → with_octets now (Some after) ≡ appended out piece → prefixed now (changed_from f (drop (i + 1) parts) rdata after) ≡ whole
    by_piece None at e = absurd cc
    by_piece (Some (piece, next)) at e =
        let both : (now, after) ≡ (out ++ piece, next) = cc in
        ap (λ (x : List ℕ × ℕ). prefixed x.0 (changed_from f (drop (i + 1) parts) rdata x.1)) both
        ∙ prefixed-append out piece (changed_from f (drop (i + 1) parts) rdata next)
        ∙ ap (prefixed out) (sym (at_drop_more (λ ps. changed_from f ps rdata p) parts i d h ∙ changed-more f (get_or parts i d) (drop (i + 1) parts) rdata p next piece at))
        ∙ so_far

pub changed_stop : (f : Labels → Labels) (parts : List ShapePart) (d : ShapePart) (rdata : List ℕ) (i p : ℕ) (o : Option ℕ) (out now : List ℕ) (whole : Option (List ℕ)) → i < length parts
    → with_octets now o ≡ appended out (changed_at f (get_or parts i d) rdata p) → o ≡ None → prefixed out (changed_from f (drop i parts) rdata p) ≡ whole → None ≡ whole
changed_stop f parts d rdata i p o out now whole h e is so_far = by_piece (changed_at f (get_or parts i d) rdata p) refl (ap (with_octets now) (sym is) ∙ e)
  where
    by_piece : (piece : Option (List ℕ × ℕ)) → changed_at f (get_or parts i d) rdata p ≡ piece → with_octets now None ≡ appended out piece → None ≡ whole
    by_piece None at e = ap (prefixed out) (sym (at_drop_more (λ ps. changed_from f ps rdata p) parts i d h ∙ changed-fault f (get_or parts i d) (drop (i + 1) parts) rdata p at)) ∙ so_far
    by_piece (Some (piece, next)) at e = absurd cc
