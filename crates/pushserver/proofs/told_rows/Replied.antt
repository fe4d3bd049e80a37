-- What can be told to subscribers can be replied, so the reply to a query fits a frame.
--     told-replied      records in key order that can be told
--     hub_replied      the records now of a hub
--     reply_short      a reply of it has no more octets than a frame has room for
use Rattle.std.proofs.Common.{◌≡◌, ℕ, ◌≤◌, Bool, true, false, cond, List, [], ◌∷◌, length, refl, arith}
use Rattle.std.specs.Prelude.{◌^◌, ◌&&◌, not, nat_le, nat_lt, ◌==◌}
use Rattle.std.specs.List.{list_all}
use Rattle.std.proofs.lemmas.Bool.{leb-true}
use Rattle.push_base.specs.Limits.{max_octets_at_name}
use Rattle.dnsname.specs.Names.{Labels, is_name, same_name}
use Rattle.rrset.specs.Kinds.{in_class, any_kind}
use Rattle.rrset.specs.Rdata.{shape_fits}
use Rattle.rrset.specs.RecordSet.{RecordSet, is_in_order, is_record_set, shows_its_key, at_name, size_of}
use Rattle.rrset.specs.declared.record.Key.{Key}
use Rattle.rrset.specs.declared.record.Shown.{Shown}
use Rattle.dnsquery.specs.Replies.{CanBeReplied, fits_its_kind, max_reply, reply_to}
use Rattle.dnsquery.proofs.ReplyLaws.{replies_fit}
use Rattle.dsotlv.specs.Notices.{last_ttl}
use Rattle.coalesce.specs.Laws.{is_sent_so}
use Rattle.zoneupdate.proofs.Filters.{and-left, and-right, and-both}
use Rattle.zoneupdate.proofs.Owners.{same_name-itself}
use Rattle.history.proofs.ShownAtHome.{set-records}
use Rattle.pushserver.specs.PlainHubs.{Hub}
use Rattle.pushserver.specs.Hubs.{newest, state_now, records_now}
use Rattle.pushserver.specs.Giving.{known_at}
use Rattle.pushserver.specs.Rows.{AreTold}
use Rattle.pushserver.proofs.told_rows.HubTells.{StatesTell, hub_told}

-- ---- what passes at each name passes everywhere

all-at_names : (f : Key × Shown → Bool) (rows : RecordSet) → ((name : Labels) → list_all f (at_name name rows) ≡ true) → list_all f rows ≡ true
all-at_names f [] at = refl
all-at_names f (e ∷ rows) at = and-both (f e) (list_all f rows) (first (same_name e.0.owner e.0.owner) (same_name-itself e.0.owner) (at e.0.owner)) (all-at_names f rows (λ name. rest name (same_name name e.0.owner) (at name)))
  where
    first : (b : Bool) → b ≡ true → list_all f (cond b (e ∷ at_name e.0.owner rows) (at_name e.0.owner rows)) ≡ true → f e ≡ true
    first true is all = and-left (f e) (list_all f (at_name e.0.owner rows)) all
    first false is all = absurd cc

    rest : (name : Labels) (b : Bool) → list_all f (cond b (e ∷ at_name name rows) (at_name name rows)) ≡ true → list_all f (at_name name rows) ≡ true
    rest name true all = and-right (f e) (list_all f (at_name name rows)) all
    rest name false all = all

all-follow : (f g : Key × Shown → Bool) → ((e : Key × Shown) → f e ≡ true → g e ≡ true) → (rows : RecordSet) → list_all f rows ≡ true → list_all g rows ≡ true
all-follow f g follows [] all = refl
all-follow f g follows (e ∷ rows) all = and-both (g e) (list_all g rows) (follows e (and-left (f e) (list_all f rows) all)) (all-follow f g follows rows (and-right (f e) (list_all f rows) all))

sent-fits : (name : Labels) (e : Key × Shown) → is_sent_so name e ≡ true → fits_its_kind e ≡ true
sent-fits name e h =
    let own = same_name name e.0.owner in
    let owner = is_name e.1.owner in
    let class = e.0.class == in_class in
    let width = nat_lt e.0.kind (2 ^ 16) in
    let kind = not (e.0.kind == any_kind) in
    let shape = shape_fits e.0.kind e.1.rdata in
    let short = nat_lt (length e.1.rdata) (2 ^ 16) in
    let six = and-left (own && owner && class && width && kind && shape) short h in
    let five = and-left (own && owner && class && width && kind) shape six in
    let four = and-left (own && owner && class && width) kind five in
    let three = and-left (own && owner && class) width four in
    and-both class shape (and-right (own && owner) class three) (and-right (own && owner && class && width && kind) shape six)

-- ---- records that can be told

pub told-replied : (rows : RecordSet) → is_in_order rows ≡ true → AreTold rows → CanBeReplied rows
told-replied rows order told = record {
  set = and-both (is_in_order rows) (list_all shows_its_key rows) order (all-at_names shows_its_key rows (λ name. shows (at_name name rows) (side name)));
  fit = all-at_names fits_its_kind rows (λ name. all-follow (is_sent_so name) fits_its_kind (sent-fits name) (at_name name rows) (and-right (is_record_set (at_name name rows)) (list_all (is_sent_so name) (at_name name rows)) (told name).0));
  few = λ name. leb-true (size_of (at_name name rows)) max_octets_at_name (and-right (list_all (λ e. nat_le e.1.ttl last_ttl) (at_name name rows)) (nat_le (size_of (at_name name rows)) max_octets_at_name) (told name).1);
}
  where
    side : (name : Labels) → is_record_set (at_name name rows) ≡ true
    side name = and-left (is_record_set (at_name name rows)) (list_all (is_sent_so name) (at_name name rows)) (told name).0

    shows : (there : RecordSet) → is_record_set there ≡ true → list_all shows_its_key there ≡ true
    shows there set = and-right (is_in_order there) (list_all shows_its_key there) set

-- ---- a hub's

pub hub_replied : (hub : Hub) → StatesTell hub → CanBeReplied (records_now hub)
hub_replied hub states =
    let set = set-records (state_now hub) (states (newest hub) (omega arith)).home in
    told-replied (records_now hub) (and-left (is_in_order (records_now hub)) (list_all shows_its_key (records_now hub)) set) (hub_told hub states)

short : (n : ℕ) → n ≤ max_reply → n ≤ 65535
short n most = let low : n ≤ 64431 = most in omega (arith, low)

pub reply_short : (hub : Hub) (message : List ℕ) → StatesTell hub → length (reply_to (known_at (state_now hub)) message) ≤ 65535
reply_short hub message states = short (length (reply_to (known_at (state_now hub)) message)) (replies_fit (known_at (state_now hub)) message (hub_replied hub states))
