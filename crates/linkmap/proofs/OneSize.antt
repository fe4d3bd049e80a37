-- Records with one key have one size under the domain.
use Rattle.std.proofs.Common.{◌≡◌, ℕ, ◌+◌, List, [], ◌∷◌, length, Result, Ok, Err, refl, sym, ap, subst, ◌∙◌}
use Rattle.std.specs.Prelude.{flat_map}
use Rattle.std.proofs.lemmas.List.{length-append}
use Rattle.dnsname.specs.Names.{Labels, octets, lower}
use Rattle.dnsname.proofs.Endings.{length-lower}
use Rattle.rrset.specs.Records.{key_of, rr_size}
use Rattle.rrset.specs.Rdata.{Field, raw, named, field_octets, field_with, rdata_fields, with_names, lowered_rdata}
use Rattle.rrset.specs.declared.record.Rr.{Rr}
use Rattle.rrset.specs.declared.record.Key.{Key}
use Rattle.linkmap.specs.Translation.{local, renamed, renamed_rr}
use Rattle.linkmap.proofs.Suffixes.{renamed_alike}
use Rattle.linkmap.proofs.Changed.{with_names-Ok, with_names-Err, same_changed}
use Rattle.linkmap.proofs.Shown.{apart, heads, tails, raw_of, name_of}
use Rattle.linkmap.proofs.OneKey.{Alike, low, unread}

one_length : (a b : Labels) → lower a ≡ lower b → length (octets a) ≡ length (octets b)
one_length a b e = sym (length-lower a) ∙ ap (λ n. length (octets n)) e ∙ length-lower b

abbrev changed : (Labels → Labels) → List Field → List ℕ
changed f fields = flat_map (λ field. field_octets (field_with f field)) fields

-- fields that are one but for case are of one size where their names are changed alike
one_size : (f : Labels → Labels) → ((a b : Labels) → lower a ≡ lower b → lower (f a) ≡ lower (f b)) → (fields others : List Field) → Alike fields others → length (changed f fields) ≡ length (changed f others)
one_size f alike [] [] e = refl
one_size f alike [] (other ∷ others) e = absurd cc
one_size f alike (field ∷ fields) [] e = absurd cc
one_size f alike (raw bytes ∷ fields) (raw more ∷ others) e =
    let same : bytes ≡ more = ap (raw_of bytes) (heads _ _ _ _ e) in
    let rest = one_size f alike fields others (tails _ _ _ _ e) in
    length-append bytes (changed f fields) ∙ (λ i. length (same i) + rest i) ∙ sym (length-append more (changed f others))
one_size f alike (raw bytes ∷ fields) (named name ∷ others) e = absurd (apart bytes (lower name) (heads _ _ _ _ e))
one_size f alike (named name ∷ fields) (raw bytes ∷ others) e = absurd (apart bytes (lower name) (sym (heads _ _ _ _ e)))
one_size f alike (named name ∷ fields) (named other ∷ others) e =
    let same = one_length (f name) (f other) (alike name other (ap (name_of (lower name)) (heads _ _ _ _ e))) in
    let rest = one_size f alike fields others (tails _ _ _ _ e) in
    length-append (octets (f name)) (changed f fields) ∙ (λ i. same i + rest i) ∙ sym (length-append (octets (f other)) (changed f others))

rdata_size : (domain : Labels) (kind : ℕ) (rdata other : List ℕ) → lowered_rdata kind rdata ≡ lowered_rdata kind other → length (with_names (renamed local domain) kind rdata) ≡ length (with_names (renamed local domain) kind other)
rdata_size domain kind rdata other same = by (rdata_fields kind rdata) (rdata_fields kind other) refl refl
  where
    by : (r q : Result (List Field) ℕ) → rdata_fields kind rdata ≡ r → rdata_fields kind other ≡ q → length (with_names (renamed local domain) kind rdata) ≡ length (with_names (renamed local domain) kind other)
    by (Ok fields) (Ok others) e o =
        ap (λ (l : List ℕ). length l) (with_names-Ok (renamed local domain) kind rdata fields e)
        ∙ one_size (renamed local domain) (λ a b h. renamed_alike local domain a b h) fields others (same_changed lower lower kind rdata other fields others e o (low kind rdata fields e) (low kind other others o) same)
        ∙ sym (ap (λ (l : List ℕ). length l) (with_names-Ok (renamed local domain) kind other others o))
    by (Ok fields) (Err p) e o = absurd (unread kind rdata other fields p same e o)
    by (Err p) (Ok others) e o = absurd (unread kind other rdata others p (sym same) o e)
    by (Err p) (Err q) e o =
        let text : rdata ≡ other = sym (with_names-Err lower kind rdata p e) ∙ same ∙ with_names-Err lower kind other q o in
        ap (λ (l : List ℕ). length l) (with_names-Err (renamed local domain) kind rdata p e ∙ text ∙ sym (with_names-Err (renamed local domain) kind other q o))

pub size_as_one : (domain : Labels) (rr other : Rr) → key_of rr ≡ key_of other → rr_size (renamed_rr local domain rr) ≡ rr_size (renamed_rr local domain other)
size_as_one domain rr other same =
    by other.kind (ap (λ (k : Key). k.kind) same) (ap (λ (k : Key). k.rdata) same)
  where
    owners : length (octets (renamed local domain rr.owner)) ≡ length (octets (renamed local domain other.owner))
    owners = one_length (renamed local domain rr.owner) (renamed local domain other.owner) (renamed_alike local domain rr.owner other.owner (ap (λ (k : Key). k.owner) same))

    texts : (kind : ℕ) → rr.kind ≡ kind → lowered_rdata rr.kind rr.rdata ≡ lowered_rdata kind other.rdata → length (with_names (renamed local domain) rr.kind rr.rdata) ≡ length (with_names (renamed local domain) kind other.rdata)
    texts kind is = subst (λ (k : ℕ). lowered_rdata rr.kind rr.rdata ≡ lowered_rdata k other.rdata → length (with_names (renamed local domain) rr.kind rr.rdata) ≡ length (with_names (renamed local domain) k other.rdata)) is (rdata_size domain rr.kind rr.rdata other.rdata)

    by : (kind : ℕ) → rr.kind ≡ kind → lowered_rdata rr.kind rr.rdata ≡ lowered_rdata kind other.rdata → rr_size (renamed_rr local domain rr) ≡ rr_size (renamed_rr local domain (record other { kind = kind }))
    by kind is text = let rest = texts kind is text in (λ i. owners i + 10 + rest i)
