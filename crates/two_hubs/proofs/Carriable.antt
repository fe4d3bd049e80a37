-- What a hub has at a name can be carried, and the message that carries it is octets, and short.
--     at-name-is      all that is asked for at a name is what is at it
--     reached-told      what a hub had at a point can be told
--     can-be-carried      and carried
--     carrying-written      the message
use Rattle.std.proofs.Common.{◌≡◌, ℕ, ◌^◌, ◌<◌, ◌≤◌, Bool, true, false, cond, not, ◌&&◌, ◌||◌, ◌==◌, ltb, leb, List, [], ◌∷◌, ◌++◌, map, length, refl, sym, ap, subst, ◌∙◌, arith}
use Rattle.std.specs.Prelude.{flat_map}
use Rattle.std.specs.Int.{w16, w32, to_be_bytes}
use Rattle.std.specs.List.{list_all, AllByRecursion}
use Rattle.std.proofs.lemmas.Bool.{eqb-true, leb-true, ltb-true}
use Rattle.std.proofs.lemmas.List.Elements.{All-from_recursion}
use Rattle.push_base.specs.Limits.{max_home_octets, max_octets_at_name}
use Rattle.dnsname.specs.Names.{Labels, IsName, is_name, lower, octets, same_name}
use Rattle.dnsname.proofs.Decisions.{is_name-Decides, same_name-Decides}
use Rattle.rrset.specs.Kinds.{in_class, any_kind}
use Rattle.rrset.specs.Rdata.{shape_fits}
use Rattle.rrset.specs.Records.{rr_of, matches}
use Rattle.rrset.specs.RecordSet.{RecordSet, is_record_set, is_in_order, shows_its_key, at_name, matching, size_of}
use Rattle.rrset.specs.declared.record.Rr.{Rr}
use Rattle.rrset.specs.declared.record.Key.{Key}
use Rattle.rrset.specs.declared.record.Shown.{Shown}
use Rattle.rrset.specs.declared.record.Question.{Question}
use Rattle.rrset.proofs.LowerNames.{lower-twice}
use Rattle.dnswire.specs.Writing.{message_header, question_octets, record_octets, update_octets}
use Rattle.dsotlv.specs.Notices.{last_ttl}
use Rattle.coalesce.specs.Laws.{is_sent_so, is_side, can_be_sent}
use Rattle.zoneupdate.proofs.Filters.{and-left, and-right}
use Rattle.zoneupdate.proofs.RecordSets.{shown_owner}
use Rattle.linkcache.specs.Links.{LinkState, IsLink}
use Rattle.history.specs.States.{State, state_at, records, records_at}
use Rattle.pushserver.specs.Hubs.{newest}
use Rattle.pushserver.specs.PlainHubs.{Hub}
use Rattle.pushserver.specs.Rows.{AreTold, IsTellable}
use Rattle.pushserver.proofs.hub_steps.Pairs.{all-weaken}
use Rattle.pushserver.proofs.told_rows.Told.{tellable-told}
use Rattle.relay.specs.Relay.{deletion, carrying, IsCarriedRow, IsCarriable}
use Rattle.relay.specs.Laws.{HaveOctets}
use Rattle.relay.proofs.Messages.{messages-short}
use Rattle.scripts.specs.WholeLines.{all_at}
use Rattle.script_laws.specs.Lines.{AreWritten}
use Rattle.script_laws.specs.Reached.{IsReached}
use Rattle.script_laws.proofs.hubs.Sound.{reached-sound}
use Rattle.two_hubs.proofs.RdataOctets.{Below, below-both, number-below, name-below}
use Rattle.two_hubs.proofs.RowOctets.{only-below, records-below}
use Rattle.two_hubs.proofs.HubOctets.{reached-below}

-- ---- what is at a name

-- the parts of a record as it is sent
record Sent (name : Labels) (e : Key × Shown) : Type 0 where
  pub at : same_name name e.0.owner ≡ true
  pub owner : is_name e.1.owner ≡ true
  pub class : (e.0.class == in_class) ≡ true
  pub width : ltb e.0.kind (2 ^ 16) ≡ true
  pub shape : shape_fits e.0.kind e.1.rdata ≡ true

sent : (name : Labels) (e : Key × Shown) → is_sent_so name e ≡ true → Sent name e
sent name e h =
    let at = same_name name e.0.owner in
    let owner = is_name e.1.owner in
    let class = e.0.class == in_class in
    let width = ltb e.0.kind (2 ^ 16) in
    let kind = not (e.0.kind == any_kind) in
    let shape = shape_fits e.0.kind e.1.rdata in
    let short = ltb (length e.1.rdata) (2 ^ 16) in
    let six = and-left (at && owner && class && width && kind && shape) short h in
    let five = and-left (at && owner && class && width && kind) shape six in
    let four = and-left (at && owner && class && width) kind five in
    let three = and-left (at && owner && class) width four in
    let two = and-left (at && owner) class three in
    record {
      at = and-left at owner two;
      owner = and-right at owner two;
      class = and-right (at && owner) class three;
      width = and-right (at && owner && class) width four;
      shape = and-right (at && owner && class && width && kind) shape six;
    }

true_and : (b : Bool) → (b && true) ≡ b
true_and true = refl
true_and false = refl

or_true : (b : Bool) → (b || true) ≡ true
or_true true = refl
or_true false = refl

-- kind ANY asks for each kind
any-kind : (name : Labels) (key : Key) → matches (all_at name) key ≡ (same_name name key.owner && (in_class == key.class || false))
any-kind name key = ap (λ (b : Bool). same_name name key.owner && b && (in_class == key.class || false)) (or_true (255 == key.kind)) ∙ ap (λ (b : Bool). b && (in_class == key.class || false)) (true_and (same_name name key.owner))

in-class : (class : ℕ) → (class == in_class) ≡ true → (in_class == class || false) ≡ true
in-class class is = ap (λ (c : ℕ). in_class == c || false) (eqb-true class in_class is)

pub at-name-is : (name : Labels) (rows : RecordSet) → list_all (is_sent_so name) (at_name name rows) ≡ true → matching (all_at name) rows ≡ at_name name rows
at-name-is name [] are = refl
at-name-is name (e ∷ rows) are = by (same_name name e.0.owner) refl are (λ h. at-name-is name rows h)
  where
    by : (b : Bool) → same_name name e.0.owner ≡ b → list_all (is_sent_so name) (cond b (e ∷ at_name name rows) (at_name name rows)) ≡ true
        → (list_all (is_sent_so name) (at_name name rows) ≡ true → matching (all_at name) rows ≡ at_name name rows)
        → cond (matches (all_at name) e.0) (e ∷ matching (all_at name) rows) (matching (all_at name) rows) ≡ cond (same_name name e.0.owner) (e ∷ at_name name rows) (at_name name rows)
    by true is h rest =
        let first = sent name e (and-left (is_sent_so name e) (list_all (is_sent_so name) (at_name name rows)) h) in
        let asked : matches (all_at name) e.0 ≡ true = any-kind name e.0 ∙ ap (λ (b : Bool). b && (in_class == e.0.class || false)) is ∙ in-class e.0.class first.class in
        (λ i. cond (asked i) (e ∷ matching (all_at name) rows) (matching (all_at name) rows))
        ∙ ap (λ (s : RecordSet). e ∷ s) (rest (and-right (is_sent_so name e) (list_all (is_sent_so name) (at_name name rows)) h))
        ∙ (λ i. cond (sym is i) (e ∷ at_name name rows) (at_name name rows))
    by false is h rest =
        let asked : matches (all_at name) e.0 ≡ false = any-kind name e.0 ∙ ap (λ (b : Bool). b && (in_class == e.0.class || false)) is in
        (λ i. cond (asked i) (e ∷ matching (all_at name) rows) (matching (all_at name) rows)) ∙ rest h
        ∙ (λ i. cond (sym is i) (e ∷ at_name name rows) (at_name name rows))

-- ---- what a hub has at a point

link-names : (links : List LinkState) → AllByRecursion IsLink links → AllByRecursion (λ (l : LinkState). IsName l.rules.domain) links
link-names links are = all-weaken IsLink (λ (l : LinkState). IsName l.rules.domain) (λ l is. is.name) links are

module _ (hub : Hub) (reached : IsReached hub) (point : ℕ) (within : point ≤ newest hub) where
  abbrev state : State
  state = state_at hub.start hub.history point

  tellable : IsTellable state
  tellable = (reached-sound hub reached).states point within

  pub reached-told : AreTold (records state)
  reached-told = tellable-told state tellable

  pub reached-octets : HaveOctets (records state)
  reached-octets = records-below state (link-names state.links tellable.home.links) (reached-below hub reached point within)

-- ---- which can be carried

carried-row : (name : Labels) (e : Key × Shown) → is_sent_so name e ≡ true → shows_its_key e ≡ true → leb e.1.ttl last_ttl ≡ true → Below e.1.rdata → IsCarriedRow name e
carried-row name e is shows ttl below =
    let s = sent name e is in
    let own : lower e.1.owner ≡ e.0.owner = shown_owner e shows in
    let same : lower name ≡ lower e.0.owner = (same_name-Decides name e.0.owner).0 s.at in
    record {
      owner = sym (same ∙ ap lower (sym own) ∙ lower-twice e.1.owner ∙ own);
      is_name = (is_name-Decides e.1.owner).0 s.owner;
      class = eqb-true e.0.class in_class s.class;
      kind = ltb-true e.0.kind (2 ^ 16) s.width;
      octets = below;
      fits = s.shape;
      ttl = less e.1.ttl (leb-true e.1.ttl last_ttl ttl);
    }
  where
    less : (n : ℕ) → n ≤ 2147483647 → n < 2147483648
    less n h = omega (arith, h)

carried-rows : (name : Labels) (set : RecordSet) → list_all (is_sent_so name) set ≡ true → list_all shows_its_key set ≡ true → list_all (λ e. leb e.1.ttl last_ttl) set ≡ true → HaveOctets set → AllByRecursion (IsCarriedRow name) set
carried-rows name [] are show ttls below = tt
carried-rows name (e ∷ set) are show ttls below = (
  carried-row name e (and-left (is_sent_so name e) (list_all (is_sent_so name) set) are) (and-left (shows_its_key e) (list_all shows_its_key set) show) (and-left (leb e.1.ttl last_ttl) (list_all (λ e. leb e.1.ttl last_ttl) set) ttls) below.0,
  carried-rows name set (and-right (is_sent_so name e) (list_all (is_sent_so name) set) are) (and-right (shows_its_key e) (list_all shows_its_key set) show) (and-right (leb e.1.ttl last_ttl) (list_all (λ e. leb e.1.ttl last_ttl) set) ttls) below.1,
)

told-carriable : (name : Labels) (set : RecordSet) → IsName name → is_side name set ≡ true → can_be_sent set ≡ true → HaveOctets set → IsCarriable name set
told-carriable name set named side can below =
    let is_set = and-left (is_record_set set) (list_all (is_sent_so name) set) side in
    record {
      is_name = named;
      is_set = is_set;
      rows = carried-rows name set (and-right (is_record_set set) (list_all (is_sent_so name) set) side) (and-right (is_in_order set) (list_all shows_its_key set) is_set) (and-left (list_all (λ e. leb e.1.ttl last_ttl) set) (leb (size_of set) max_octets_at_name) can) below;
      size = leb-true (size_of set) max_octets_at_name (and-right (list_all (λ e. leb e.1.ttl last_ttl) set) (leb (size_of set) max_octets_at_name) can);
    }

module _ (hub : Hub) (reached : IsReached hub) (point : ℕ) (within : point ≤ newest hub) (name : Labels) where
  abbrev rows : RecordSet
  rows = records_at hub.start hub.history point

  pub asked-is : matching (all_at name) rows ≡ at_name name rows
  asked-is = at-name-is name rows (and-right (is_record_set (at_name name rows)) (list_all (is_sent_so name) (at_name name rows)) (reached-told hub reached point within name).0)

  pub can-be-carried : IsName name → IsCarriable name (matching (all_at name) rows)
  can-be-carried named =
      let told = reached-told hub reached point within name in
      subst (IsCarriable name) (sym asked-is) (told-carriable name (at_name name rows) named told.0 told.1 (only-below (λ key. same_name name key.owner) rows (reached-octets hub reached point within)))

-- ---- the message

question-below : (q : Question) → IsName q.name → Below (question_octets q)
question-below q is = below-both (octets q.name ++ to_be_bytes w16 q.kind) (to_be_bytes w16 q.class) (below-both (octets q.name) (to_be_bytes w16 q.kind) (name-below q.name is.labels) (number-below w16 q.kind)) (number-below w16 q.class)

written-record : (rr : Rr) → IsName rr.owner → Below rr.rdata → Below (record_octets rr)
written-record rr is below =
    below-both (octets rr.owner ++ to_be_bytes w16 rr.kind ++ to_be_bytes w16 rr.class ++ to_be_bytes w32 rr.ttl ++ to_be_bytes w16 (length rr.rdata)) rr.rdata
    (below-both (octets rr.owner ++ to_be_bytes w16 rr.kind ++ to_be_bytes w16 rr.class ++ to_be_bytes w32 rr.ttl) (to_be_bytes w16 (length rr.rdata))
    (below-both (octets rr.owner ++ to_be_bytes w16 rr.kind ++ to_be_bytes w16 rr.class) (to_be_bytes w32 rr.ttl)
    (below-both (octets rr.owner ++ to_be_bytes w16 rr.kind) (to_be_bytes w16 rr.class)
    (below-both (octets rr.owner) (to_be_bytes w16 rr.kind) (name-below rr.owner is.labels) (number-below w16 rr.kind)) (number-below w16 rr.class)) (number-below w32 rr.ttl)) (number-below w16 (length rr.rdata))) below

rows-written : (name : Labels) (set : RecordSet) → AllByRecursion (IsCarriedRow name) set → Below (flat_map record_octets (map (λ e. rr_of e.0 e.1) set))
rows-written name [] are = tt
rows-written name (e ∷ set) are = below-both (record_octets (rr_of e.0 e.1)) _ (written-record (rr_of e.0 e.1) are.0.is_name are.0.octets) (rows-written name set are.1)

header-below : (id flags questions answers authority : ℕ) → Below (message_header id flags questions answers authority)
header-below id flags questions answers authority =
    below-both (to_be_bytes w16 id ++ to_be_bytes w16 flags ++ to_be_bytes w16 questions ++ to_be_bytes w16 answers ++ to_be_bytes w16 authority) (to_be_bytes w16 0)
    (below-both (to_be_bytes w16 id ++ to_be_bytes w16 flags ++ to_be_bytes w16 questions ++ to_be_bytes w16 answers) (to_be_bytes w16 authority)
    (below-both (to_be_bytes w16 id ++ to_be_bytes w16 flags ++ to_be_bytes w16 questions) (to_be_bytes w16 answers)
    (below-both (to_be_bytes w16 id ++ to_be_bytes w16 flags) (to_be_bytes w16 questions)
    (below-both (to_be_bytes w16 id) (to_be_bytes w16 flags) (number-below w16 id) (number-below w16 flags)) (number-below w16 questions)) (number-below w16 answers)) (number-below w16 authority)) (number-below w16 0)

pub carrying-written : (zone name : Labels) (set : RecordSet) → IsName zone → length (octets zone) ≤ max_home_octets → IsCarriable name set → AreWritten (update_octets (carrying zone name set 0))
carrying-written zone name set is short c = (
  All-from_recursion (λ o. o < 256) (update_octets (carrying zone name set 0)) below,
  fits (length (update_octets (carrying zone name set 0))) (messages-short zone name set 0 short c),
)
  where
    fits : (n : ℕ) → n ≤ 60481 → n ≤ 65537
    fits n h = omega (arith, h)

    entry : Question
    entry = record { name = zone; kind = 6; class = 1 }

    records_are : List ℕ
    records_are = flat_map record_octets (deletion name ∷ map (λ e. rr_of e.0 e.1) set)

    header : List ℕ
    header = message_header 0 10240 1 0 (length (deletion name ∷ map (λ e. rr_of e.0 e.1) set))

    below : Below (update_octets (carrying zone name set 0))
    below =
        below-both (header ++ flat_map question_octets (entry ∷ [])) records_are
        (below-both header (flat_map question_octets (entry ∷ [])) (header-below 0 10240 1 0 _) (below-both (question_octets entry) [] (question-below entry is) tt))
        (below-both (record_octets (deletion name)) _ (written-record (deletion name) c.is_name tt) (rows-written name set c.rows))
