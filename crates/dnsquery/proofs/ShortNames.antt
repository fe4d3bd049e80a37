-- Names that are read have at most 255 octets, whatever the octets of the message.
--     plain-short      a name without pointers, and the place after it
--     asked-short      the name that a query asks for
use Rattle.std.proofs.Common.{◌≡◌, ℕ, zero, suc, ◌+◌, ◌-◌, ◌≤◌, Bool, true, false, cond, min, List, [], ◌∷◌, length, drop, Option, Some, None, Result, Ok, Err, refl, arith}
use Rattle.std.specs.Prelude.{IfOk, nat_lt, slice_get, slice_range, ◌==◌}
use Rattle.std.specs.Int.{w16}
use Rattle.std.specs.List.{AllByRecursion}
use Rattle.std.proofs.lemmas.Bool.{ltb-false}
use Rattle.std.proofs.lemmas.List.{length-append, length-take}
use Rattle.std.proofs.lemmas.Result.{IfOk-weaker}
use Rattle.push_base.specs.Cases.{◌>>=◌, fault_as}
use Rattle.dnsname.specs.Names.{Labels, label_octets, labels_octets, max_name, octets}
use Rattle.dnsname.specs.Reading.{Read, labels_from, name_at, on_part, part_of, plain_labels_from, plain_name_at, target_before, with_end, with_labels}
use Rattle.dnsname.specs.declared.name.NameFault.{NameFault}
use Rattle.dnsname.specs.declared.name.NameFault.TheVariants.{Pointer}
use Rattle.rrset.specs.Header.{header_octets, two_octets}
use Rattle.rrset.specs.declared.record.Question.{Question}
use Rattle.dnswire.specs.Reading.{number_at, query_shape, question_at, record_at, sections_of, several}
use Rattle.dnswire.specs.declared.section.Sections.{Sections}
use Rattle.dnswire.specs.declared.message.WireFault.TheVariants.{Name, Trailing}
use Rattle.dnsquery.specs.Queries.{entries_asked, has_query_counts, query_in, query_of}
use Rattle.dnsquery.specs.declared.query.Query.{Query}
use Rattle.dnsquery.specs.declared.query.QueryFault.TheVariants.{Counts, Wire}

-- ---- names

-- behind so many octets of the name
abbrev Fits : ℕ → Labels × ℕ → Type 0
Fits size read = size + length (labels_octets read.0) ≤ 254

abbrev FitsPlain : ℕ → ℕ → Labels × ℕ → Type 0
FitsPlain place size read = (size + length (labels_octets read.0) ≤ 254) × (read.1 + size ≤ place + 255)

none-fits : (size : ℕ) → size ≤ 254 → size + length (labels_octets []) ≤ 254
none-fits size small = omega (arith, small)

label-fits : (size n : ℕ) (label : List ℕ) (name : Labels) → length label ≤ n → size + (1 + n) + length (labels_octets name) ≤ 254 → size + length (labels_octets (label ∷ name)) ≤ 254
label-fits size n label name short fits = omega (arith, short, fits, length-append (label_octets label) (labels_octets name))

range-short : (xs : List ℕ) (at n : ℕ) → length (slice_range xs at (at + n)) ≤ n
range-short xs at n =
    let long : length (slice_range xs at (at + n)) ≡ min (at + n - at) (length (drop at xs)) = length-take (at + n - at) (drop at xs) in
    omega (arith, long)

-- what holds of each case of part_of; a label comes only where it leaves room for the root's octet
by-tests : {X : Type 0} (P : X → Type 0) (root short long cut low : Bool) (r l c n p q : X) → P r → P l → P c → (long ≡ false → P n) → P p → P q → P (cond root r (cond short (cond long l (cond cut c n)) (cond low p q)))
by-tests P true short long cut low r l c n p q hr hl hc hn hp hq = hr
by-tests P false true true cut low r l c n p q hr hl hc hn hp hq = hl
by-tests P false true false true low r l c n p q hr hl hc hn hp hq = hc
by-tests P false true false false low r l c n p q hr hl hc hn hp hq = hn refl
by-tests P false false long cut true r l c n p q hr hl hc hn hp hq = hp
by-tests P false false long cut false r l c n p q hr hl hc hn hp hq = hq

with_label : (P Q : Labels × ℕ → Type 0) (label : List ℕ) (read : Read) → ((name : Labels) (after : ℕ) → Q (name, after) → P (label ∷ name, after)) → IfOk read Q → IfOk (with_labels (label ∷ []) read) P
with_label P Q label (Ok (name, after)) on holds = on name after holds
with_label P Q label (Err f) on holds = tt

with_end-fits : (size end : ℕ) (read : Read) → IfOk read (Fits size) → IfOk (with_end end read) (Fits size)
with_end-fits size end (Ok (name, after)) fits = fits
with_end-fits size end (Err f) fits = tt

labels-fit : (message : List ℕ) (fuel : ℕ) (piece : List ℕ) (begin place size : ℕ) → size ≤ 254 → IfOk (labels_from fuel message piece begin place size) (Fits size)
labels-fit message zero piece begin place size small = tt
labels-fit message (suc fuel) piece begin place size small =
    by (slice_get piece place) (target_before begin piece place)
    (λ n room. with_label (Fits size) (Fits (size + (1 + n))) (slice_range piece (place + 1) (place + 1 + n)) (labels_from fuel message piece begin (place + (1 + n)) (size + (1 + n)))
    (λ name after fits. label-fits size n (slice_range piece (place + 1) (place + 1 + n)) name (range-short piece (place + 1) n) fits)
    (labels-fit message fuel piece begin (place + (1 + n)) (size + (1 + n)) (omega (arith, room))))
    (λ target. with_end-fits size (place + 2) (labels_from fuel message message target target size) (labels-fit message fuel message target target size small))
  where
    label : ℕ → Read
    label n = with_labels (slice_range piece (place + 1) (place + 1 + n) ∷ []) (labels_from fuel message piece begin (place + (1 + n)) (size + (1 + n)))

    pointer : ℕ → Read
    pointer target = with_end (place + 2) (labels_from fuel message message target target size)

    by : (octet : Option ℕ) (target : Result ℕ NameFault) → ((n : ℕ) → size + n + 2 ≤ 255 → IfOk (label n) (Fits size)) → ((t : ℕ) → IfOk (pointer t) (Fits size))
        → IfOk (on_part (part_of piece place size octet) target (Ok ([], place + 1)) label pointer) (Fits size)
    by None target label-holds pointer-holds = tt
    by (Some n) (Ok t) label-holds pointer-holds =
        by-tests (λ found. IfOk (on_part found (Ok t) (Ok ([], place + 1)) label pointer) (Fits size)) (n == 0) (nat_lt n 64) (nat_lt max_name (size + n + 2)) (nat_lt (length piece) (place + 1 + n)) (nat_lt n 192) _ _ _ _ _ _
        (none-fits size small) tt tt (λ fits. label-holds n (ltb-false max_name (size + n + 2) fits)) tt (pointer-holds t)
    by (Some n) (Err f) label-holds pointer-holds =
        by-tests (λ found. IfOk (on_part found (Err f) (Ok ([], place + 1)) label pointer) (Fits size)) (n == 0) (nat_lt n 64) (nat_lt max_name (size + n + 2)) (nat_lt (length piece) (place + 1 + n)) (nat_lt n 192) _ _ _ _ _ _
        (none-fits size small) tt tt (λ fits. label-holds n (ltb-false max_name (size + n + 2) fits)) tt tt

root-fits : (name : Labels) → 0 + length (labels_octets name) ≤ 254 → length (octets name) ≤ 255
root-fits name fits = omega (arith, fits, length-append (labels_octets name) (0 ∷ []))

name-short : (message : List ℕ) (at : ℕ) → IfOk (name_at message at) (λ read. length (octets read.0) ≤ 255)
name-short message at = IfOk-weaker (name_at message at) (Fits 0) (λ (read : Labels × ℕ). length (octets read.0) ≤ 255) (λ read fits. root-fits read.0 fits) (labels-fit message (at + 128) message at at 0 (omega arith))

-- ---- without pointers

root-ends : (place size : ℕ) → size ≤ 254 → place + 1 + size ≤ place + 255
root-ends place size small = omega (arith, small)

label-ends : (place size after n : ℕ) → after + (size + (1 + n)) ≤ place + (1 + n) + 255 → after + size ≤ place + 255
label-ends place size after n ends = omega (arith, ends)

plain-fit : (bytes : List ℕ) (fuel place size : ℕ) → size ≤ 254 → IfOk (plain_labels_from fuel bytes place size) (FitsPlain place size)
plain-fit bytes zero place size small = tt
plain-fit bytes (suc fuel) place size small =
    by (slice_get bytes place)
    (λ n room. with_label (FitsPlain place size) (FitsPlain (place + (1 + n)) (size + (1 + n))) (slice_range bytes (place + 1) (place + 1 + n)) (plain_labels_from fuel bytes (place + (1 + n)) (size + (1 + n)))
    (λ name after fits. (label-fits size n (slice_range bytes (place + 1) (place + 1 + n)) name (range-short bytes (place + 1) n) fits.0, label-ends place size after n fits.1))
    (plain-fit bytes fuel (place + (1 + n)) (size + (1 + n)) (omega (arith, room))))
  where
    label : ℕ → Read
    label n = with_labels (slice_range bytes (place + 1) (place + 1 + n) ∷ []) (plain_labels_from fuel bytes (place + (1 + n)) (size + (1 + n)))

    pointer : ℕ → Read
    pointer target = Err (Pointer place)

    by : (octet : Option ℕ) → ((n : ℕ) → size + n + 2 ≤ 255 → IfOk (label n) (FitsPlain place size)) → IfOk (on_part (part_of bytes place size octet) (Err (Pointer place)) (Ok ([], place + 1)) label pointer) (FitsPlain place size)
    by None label-holds = tt
    by (Some n) label-holds =
        by-tests (λ found. IfOk (on_part found (Err (Pointer place)) (Ok ([], place + 1)) label pointer) (FitsPlain place size)) (n == 0) (nat_lt n 64) (nat_lt max_name (size + n + 2)) (nat_lt (length bytes) (place + 1 + n)) (nat_lt n 192) _ _ _ _ _ _
        (none-fits size small, root-ends place size small) tt tt (λ fits. label-holds n (ltb-false max_name (size + n + 2) fits)) tt tt

pub record IsShortRead (read : Labels × ℕ) : Type 0 where
  pub name : length (octets read.0) ≤ 255
  pub end : read.1 ≤ 255

short-read : (read : Labels × ℕ) → FitsPlain 0 0 read → IsShortRead read
short-read read fits = record { name = root-fits read.0 fits.0; end = omega (arith, fits.1) }

pub plain-short : (bytes : List ℕ) → IfOk (plain_name_at bytes 0) IsShortRead
plain-short bytes = IfOk-weaker (plain_name_at bytes 0) (FitsPlain 0 0) IsShortRead short-read (plain-fit bytes (length bytes + 1) 0 0 (omega arith))

-- ---- steps

then-holds : {A B E : Type 0} (P : A → Type 0) (Q : B → Type 0) (r : Result A E) (next : A → Result B E) → IfOk r P → ((x : A) → P x → IfOk (next x) Q) → IfOk (r >>= next) Q
then-holds P Q (Ok x) next holds on = on x holds
then-holds P Q (Err f) next holds on = tt

then-any : {A B E : Type 0} (Q : B → Type 0) (r : Result A E) (next : A → Result B E) → ((x : A) → IfOk (next x) Q) → IfOk (r >>= next) Q
then-any Q (Ok x) next on = on x
then-any Q (Err f) next on = tt

as-holds : {A E F : Type 0} (P : A → Type 0) (f : E → F) (r : Result A E) → IfOk r P → IfOk (fault_as f r) P
as-holds P f (Ok x) holds = holds
as-holds P f (Err g) holds = tt

if-holds : {A E : Type 0} (P : A → Type 0) (b : Bool) (r : Result A E) (fault : E) → IfOk r P → IfOk (cond b r (Err fault)) P
if-holds P true r fault holds = holds
if-holds P false r fault holds = tt

-- ---- queries

abbrev IsShort : Question → Type 0
IsShort question = length (octets question.name) ≤ 255

question-short : (message : List ℕ) (at : ℕ) → IfOk (question_at message at) (λ read. IsShort read.0)
question-short message at =
    then-holds (λ (read : Labels × ℕ). length (octets read.0) ≤ 255) (λ (read : Question × ℕ). IsShort read.0) (fault_as Name (name_at message at)) _
    (as-holds (λ (read : Labels × ℕ). length (octets read.0) ≤ 255) Name (name_at message at) (name-short message at))
    (λ name short. then-any (λ (read : Question × ℕ). IsShort read.0) (number_at w16 message name.1) _ (λ kind. then-any (λ (read : Question × ℕ). IsShort read.0) (number_at w16 message kind.1) _ (λ class. short)))

questions-short : (message : List ℕ) (count at : ℕ) → IfOk (several question_at count message at) (λ read. AllByRecursion IsShort read.0)
questions-short message zero at = tt
questions-short message (suc count) at =
    then-holds (λ (read : Question × ℕ). IsShort read.0) (λ (read : List Question × ℕ). AllByRecursion IsShort read.0) (question_at message at) _ (question-short message at)
    (λ first one. then-holds (λ (read : List Question × ℕ). AllByRecursion IsShort read.0) (λ (read : List Question × ℕ). AllByRecursion IsShort read.0) (several question_at count message first.1) _ (questions-short message count first.1)
    (λ others all. (one, all)))

abbrev HaveShort : Sections → Type 0
HaveShort sections = AllByRecursion IsShort sections.questions

sections-short : (message : List ℕ) → IfOk (sections_of query_shape message) HaveShort
sections-short message =
    then-holds (λ (read : List Question × ℕ). AllByRecursion IsShort read.0) HaveShort (several question_at (two_octets message 4) message header_octets) _ (questions-short message (two_octets message 4) header_octets)
    (λ questions all. then-any HaveShort (several (record_at query_shape) (two_octets message 6) message questions.1) _
    (λ answers. then-any HaveShort (several (record_at query_shape) (two_octets message 8) message answers.1) _
    (λ authority. then-any HaveShort (several (record_at query_shape) (two_octets message 10) message authority.1) _ (λ additional. all))))

abbrev pub AsksShort : Query → Type 0
AsksShort query = length (octets query.question.name) ≤ 255

query_in-short : (message : List ℕ) (questions : List Question) → AllByRecursion IsShort questions → IfOk (query_in message questions) AsksShort
query_in-short message [] all = tt
query_in-short message (question ∷ others) all = all.0

entries-short : (message : List ℕ) → IfOk (entries_asked message) AsksShort
entries-short message =
    then-holds HaveShort AsksShort (sections_of query_shape message) _ (sections-short message)
    (λ sections all. if-holds AsksShort (sections.end == length message) (query_in message sections.questions) (Trailing sections.end) (query_in-short message sections.questions all))

pub asked-short : (message : List ℕ) → IfOk (query_of message) AsksShort
asked-short message = if-holds AsksShort (has_query_counts message) (fault_as Wire (entries_asked message)) Counts (as-holds AsksShort Wire (entries_asked message) (entries-short message))
