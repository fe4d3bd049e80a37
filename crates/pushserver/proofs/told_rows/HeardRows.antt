-- What a hearing that is read brings, and that the links' rows stay so.
--     IsHeardRr h      what holds of each record that is heard
--     hearing_read      the records of a hearing that is read
--     AreHeard links      each link's rows are as datagrams bring them
--     Brought Good rrs      what an entry brings was in a datagram, or is nothing
--     links-after, links-moment      they stay so after an entry that concerns one of them, and at a later moment
--     link-shows      what such a link shows can be told
use Rattle.std.proofs.Common.{◌≡◌, ℕ, zero, suc, ◌+◌, ◌^◌, ◌<◌, ◌≤◌, Bool, true, not, ◌&&◌, ltb, leb, List, [], ◌∷◌, ◌++◌, map, length, Ok, refl, sym, subst, arith}
use Rattle.std.specs.Prelude.{slice_range, IsTrue, MatchBool, ◌==◌}
use Rattle.std.specs.List.{list_all, AllByRecursion}
use Rattle.std.proofs.lemmas.Bool.{lt-ltb, ltb-true, le-leb, leb-true}
use Rattle.std.proofs.lemmas.List.Elements.{recursion_from_All}
use Rattle.push_base.specs.Cases.{changed_at}
use Rattle.dnsname.specs.Names.{Labels, is_name, ends_in}
use Rattle.dnsname.proofs.Decisions.{is_name-Decides}
use Rattle.rrset.specs.Kinds.{in_class}
use Rattle.rrset.specs.Rdata.{shape, shape_fits}
use Rattle.rrset.specs.Records.{key_of}
use Rattle.rrset.specs.RecordSet.{RecordSet}
use Rattle.rrset.specs.Spelling.{SpellsShape}
use Rattle.rrset.specs.declared.record.Rr.{Rr}
use Rattle.rrset.specs.declared.record.Key.{Key}
use Rattle.rrset.specs.declared.record.Shown.{Shown}
use Rattle.rrset.specs.declared.record.HeardRr.{HeardRr}
use Rattle.rrset.specs.declared.record.Hearing.{Hearing}
use Rattle.rrset.proofs.Places.{all_filter}
use Rattle.dnswire.specs.Reading.{heard_shape, heard_rr, hearing_of}
use Rattle.dnswire.specs.Spelling.{SpellsRecord, SpellsSeveral}
use Rattle.dnswire.proofs.Messages.{hearing-found}
use Rattle.dsotlv.specs.Laws.{AreOctets}
use Rattle.dsotlv.specs.Notices.{last_ttl}
use Rattle.dsotlv.proofs.Numbers.{two_below}
use Rattle.zoneupdate.proofs.Filters.{and-left, and-right, and-both}
use Rattle.reversemap.specs.BothKinds.{is_used}
use Rattle.reversemap.proofs.UsedRecords.{used-fits}
use Rattle.linkcache.specs.declared.rules.LinkRules.{LinkRules}
use Rattle.linkcache.specs.declared.row.HeardRow.{HeardRow}
use Rattle.linkcache.specs.Links.{LinkState, IsLink}
use Rattle.linkcache.specs.Rows.{LinkRows, heard_at, usable_of, at_moment, shown_rows}
use Rattle.linkcache.proofs.SoundSteps.{KeepsEnds, Brings, usable-of, kept-moment}
use Rattle.linkcache.proofs.WholeRows.{IsWholeRow, IsShownWhole, all-shown}
use Rattle.history.specs.Entries.{brought, rows_after}
use Rattle.history.specs.States.{link_after, link_at_moment}
use Rattle.history.specs.declared.entry.Entry.{Entry}
use Rattle.history.proofs.OneLink.{kept-after}
use Rattle.pushserver.specs.Rows.{is_tellable, is_heard_so}
use Rattle.pushserver.proofs.told_rows.Shaped.{spelled-fits, spelled-short}
use Rattle.pushserver.proofs.told_rows.Fitting.{is_fit-from, not_any, counted, tellable-from}

-- ---- a record that is heard

pub record IsHeardRr (h : HeardRr) : Type 0 where
  pub owner : is_name h.rr.owner ≡ true
  pub kind : ltb h.rr.kind (2 ^ 16) ≡ true
  pub rdata : (h.rr.class == in_class) ≡ true → (shape_fits h.rr.kind h.rr.rdata ≡ true) × (length h.rr.rdata < 2 ^ 16)

module _ (datagram : List ℕ) (below : AreOctets datagram) (short : length datagram < 2 ^ 16) where
  rdata_heard : (kind at after : ℕ) (rdata : List ℕ) → after ≤ length datagram → SpellsShape (shape kind) datagram at after rdata → (shape_fits kind rdata ≡ true) × (length rdata < 2 ^ 16)
  rdata_heard kind at after rdata within spelled = (spelled-fits kind datagram at after rdata within spelled, spelled-short kind datagram at after rdata within short spelled)

  record_heard : (at : ℕ) (rr : Rr) (after : ℕ) → SpellsRecord heard_shape datagram at rr after → IsHeardRr (heard_rr rr)
  record_heard at rr after s = record {
    owner = (is_name-Decides rr.owner).1 s.owner.is_name;
    kind = lt-ltb rr.kind (2 ^ 16) (subst (λ (n : ℕ). n < 2 ^ 16) (sym s.kind.2) (two_below datagram s.owner_end below));
    rdata = λ is. rdata_heard rr.kind (s.owner_end + 10) after rr.rdata s.whole.1
        (subst (λ (b : Bool). MatchBool b (SpellsShape (shape rr.kind) datagram (s.owner_end + 10) after rr.rdata) (rr.rdata ≡ slice_range datagram (s.owner_end + 10) after)) is s.rdata);
  }

  abbrev AreHeardRrs : List Rr → Type 0
  AreHeardRrs rrs = AllByRecursion (λ rr. IsHeardRr (heard_rr rr)) rrs

  records_heard : (rrs : List Rr) (at after : ℕ) → SpellsSeveral (SpellsRecord heard_shape) datagram at rrs after → AreHeardRrs rrs
  records_heard [] at after s = tt
  records_heard (rr ∷ rrs) at after (next, first, others) = (record_heard at rr next first, records_heard rrs next after others)

  both-heard : (front back : List Rr) → AreHeardRrs front → AreHeardRrs back → AllByRecursion IsHeardRr (map heard_rr (front ++ back))
  both-heard [] [] h k = tt
  both-heard [] (rr ∷ back) h k = (k.0, both-heard [] back h k.1)
  both-heard (rr ∷ front) back h k = (h.0, both-heard front back h.1 k)

hearing_read : (datagram : List ℕ) (hearing : Hearing) → AreOctets datagram → hearing_of datagram ≡ Ok hearing → AllByRecursion IsHeardRr hearing.rrs
hearing_read datagram hearing below e =
    let found = hearing-found datagram hearing (recursion_from_All (λ o. o < 256) datagram below) e in
    let most = found.header.1 in
    let short : length datagram < 2 ^ 16 = omega (arith, most) in
    let spelled = found.spelled in
    subst (AllByRecursion IsHeardRr) (sym found.used)
    (both-heard datagram below short found.sections.answers found.sections.additional
    (records_heard datagram below short found.sections.answers spelled.questions_end spelled.answers_end spelled.answers.1)
    (records_heard datagram below short found.sections.additional spelled.authority_end found.sections.end spelled.additional.1))

-- ---- a row

record HeardSo (row : Key × HeardRow) : Type 0 where
  pub owner : is_name row.1.shown.owner ≡ true
  pub kind : ltb row.0.kind (2 ^ 16) ≡ true
  pub shape : shape_fits row.0.kind row.1.shown.rdata ≡ true
  pub short : ltb (length row.1.shown.rdata) (2 ^ 16) ≡ true
  pub ttl : leb row.1.shown.ttl last_ttl ≡ true

heard_so : (row : Key × HeardRow) → is_heard_so row ≡ true → HeardSo row
heard_so row h =
    let owner = is_name row.1.shown.owner in
    let kind = ltb row.0.kind (2 ^ 16) in
    let shape = shape_fits row.0.kind row.1.shown.rdata in
    let short = ltb (length row.1.shown.rdata) (2 ^ 16) in
    let ttl = leb row.1.shown.ttl last_ttl in
    let four = and-left (owner && kind && shape && short) ttl h in
    let three = and-left (owner && kind && shape) short four in
    let two = and-left (owner && kind) shape three in
    record {
      owner = and-left owner kind two;
      kind = and-right owner kind two;
      shape = and-right (owner && kind) shape three;
      short = and-right (owner && kind && shape) short four;
      ttl = and-right (owner && kind && shape && short) ttl h;
    }

heard_so-from : (row : Key × HeardRow) → HeardSo row → is_heard_so row ≡ true
heard_so-from row is = and-both _ _ (and-both _ _ (and-both _ _ (and-both _ _ is.owner is.kind) is.shape) is.short) is.ttl

abbrev IsHeardSo : Key × HeardRow → Type 0
IsHeardSo row = is_heard_so row ≡ true

ends-alike : KeepsEnds IsHeardSo
ends-alike row moment h = h

each-row : (rows : LinkRows) → list_all is_heard_so rows ≡ true → AllByRecursion IsHeardSo rows
each-row [] h = tt
each-row (row ∷ rows) h = (and-left (is_heard_so row) (list_all is_heard_so rows) h, each-row rows (and-right (is_heard_so row) (list_all is_heard_so rows) h))

all-rows : (rows : LinkRows) → AllByRecursion IsHeardSo rows → list_all is_heard_so rows ≡ true
all-rows [] h = refl
all-rows (row ∷ rows) h = and-both (is_heard_so row) (list_all is_heard_so rows) h.0 (all-rows rows h.1)

-- ---- what a hearing brings

row-brought : (rules : LinkRules) (now : ℕ) (h : HeardRr) → is_used rules.domain rules.reverses h.rr ≡ true → IsHeardRr h → IsHeardSo (key_of h.rr, heard_at now h)
row-brought rules now h used is =
    let rdata = is.rdata (used-fits rules.domain rules.reverses h.rr used).class in
    heard_so-from (key_of h.rr, heard_at now h) (record { owner = is.owner; kind = is.kind; shape = rdata.0; short = lt-ltb _ _ rdata.1; ttl = counted h.rr.ttl })

all-brought : (rules : LinkRules) (now : ℕ) (hs : List HeardRr) → AllByRecursion (λ h. is_used rules.domain rules.reverses h.rr ≡ true) hs → AllByRecursion IsHeardRr hs → Brings IsHeardSo now hs
all-brought rules now [] used are = tt
all-brought rules now (h ∷ hs) used are = (row-brought rules now h used.0 are.0, all-brought rules now hs used.1 are.1)

-- ---- what an entry brings to a link

-- it was in a good message, or it is nothing
pub data Brought (Good : List ℕ → Type 0) : List HeardRr → Type 0 where
  brings_nothing : Brought Good []
  brings_read : (datagram : List ℕ) (hearing : Hearing) → Good datagram → hearing_of datagram ≡ Ok hearing → Brought Good hearing.rrs

are_read : (rrs : List HeardRr) → Brought AreOctets rrs → AllByRecursion IsHeardRr rrs
are_read rrs brings_nothing = tt
are_read rrs (brings_read datagram hearing below read) = hearing_read datagram hearing below read

rows-so : (entry : Entry) (now : ℕ) (l : LinkState) → Brought AreOctets (brought entry) → list_all is_heard_so l.rows ≡ true → list_all is_heard_so (rows_after entry now l) ≡ true
rows-so entry now l brings h =
    let usable : List HeardRr = usable_of l.rules (brought entry) in
    all-rows (rows_after entry now l)
    (kept-after IsHeardSo ends-alike entry now l
    (all-brought l.rules now usable (usable-of l.rules (brought entry)) (all_filter IsHeardRr (λ h. is_used l.rules.domain l.rules.reverses h.rr) (brought entry) (are_read (brought entry) brings)))
    (each-row l.rows h))

-- ---- all links

abbrev pub AreHeard : List LinkState → Type 0
AreHeard links = AllByRecursion (λ l. IsTrue (list_all is_heard_so l.rows)) links

changed-heard : (f : LinkState → LinkState) → ((l : LinkState) → list_all is_heard_so l.rows ≡ true → list_all is_heard_so (f l).rows ≡ true) → (i : ℕ) (links : List LinkState) → AreHeard links → AreHeard (changed_at i f links)
changed-heard f keeps zero [] h = tt
changed-heard f keeps (suc i) [] h = tt
changed-heard f keeps zero (l ∷ links) h = (keeps l h.0, h.1)
changed-heard f keeps (suc i) (l ∷ links) h = (h.0, changed-heard f keeps i links h.1)

pub links-after : (entry : Entry) (now link : ℕ) (links : List LinkState) → Brought AreOctets (brought entry) → AreHeard links → AreHeard (changed_at link (link_after entry now) links)
links-after entry now link links brings h = changed-heard (link_after entry now) (λ l k. rows-so entry now l brings k) link links h

pub links-moment : (t : ℕ) (links : List LinkState) → AreHeard links → AreHeard (map (link_at_moment t) links)
links-moment t [] h = tt
links-moment t (l ∷ links) h = (all-rows (at_moment l.rows t) (kept-moment IsHeardSo ends-alike t l.rows (each-row l.rows h.0)), links-moment t links h.1)

-- ---- what a link shows

whole_row : (row : Key × HeardRow) → IsHeardSo row → IsWholeRow last_ttl row
whole_row row h =
    let is = heard_so row h in
    record {
      owner = (is_name-Decides row.1.shown.owner).0 is.owner;
      kind = ltb-true _ _ is.kind;
      shape = is.shape;
      short = ltb-true _ _ is.short;
      ttl = leb-true _ _ is.ttl;
    }

whole_rows : (rows : LinkRows) → AllByRecursion IsHeardSo rows → AllByRecursion (IsWholeRow last_ttl) rows
whole_rows [] h = tt
whole_rows (row ∷ rows) h = (whole_row row h.0, whole_rows rows h.1)

shown-told : (e : Key × Shown) → IsShownWhole last_ttl e → is_tellable e ≡ true
shown-told e is =
    tellable-from e (is_fit-from e (record {
      owner = (is_name-Decides e.1.owner).1 is.owner;
      class = is.class;
      width = lt-ltb _ _ is.kind;
      kind = not_any e.0.kind is.no_meta;
      shape = is.shape;
      ttl = le-leb _ _ is.ttl;
    })) (lt-ltb _ _ is.short)

shown-all : (set : RecordSet) → AllByRecursion (IsShownWhole last_ttl) set → list_all is_tellable set ≡ true
shown-all [] h = refl
shown-all (e ∷ set) h = and-both (is_tellable e) (list_all is_tellable set) (shown-told e h.0) (shown-all set h.1)

pub link-shows : (link : LinkState) → IsLink link → list_all is_heard_so link.rows ≡ true → list_all is_tellable (shown_rows link.rules link.rows) ≡ true
link-shows link is h = shown-all (shown_rows link.rules link.rows) (all-shown last_ttl link.rules is.name link.rows is.sound (whole_rows link.rows (each-row link.rows h)))
