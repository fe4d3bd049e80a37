-- Sets as nets are made of, their parts, and the net of what several questions ask for.
use Rattle.std.proofs.Common.{◌≡◌, ◌<◌, ◌≤◌, ◌^◌, Bool, true, false, cond, ◌&&◌, List, [], ◌∷◌, length, sym, ◌∙◌, ap, refl, arith}
use Rattle.std.specs.Prelude.{filter, ◌==◌, nat_le, IsTrue}
use Rattle.std.specs.List.{list_all, Contains}
use Rattle.std.proofs.lemmas.Bool.{and_from, and_parts, eqb-true, ltb-true, leb-true, le-leb, not-true}
use Rattle.std.proofs.lemmas.List.Folds.{list_any_at}
use Rattle.push_base.specs.Limits.{max_octets_at_name}
use Rattle.dnsname.specs.Names.{Labels, is_name, same_name}
use Rattle.rrset.specs.Kinds.{in_class, any_kind}
use Rattle.rrset.specs.Rdata.{shape_fits}
use Rattle.rrset.specs.Records.{matches}
use Rattle.rrset.specs.RecordSet.{RecordSet, only, matching, is_in_order, shows_its_key, size_of}
use Rattle.rrset.specs.declared.record.Key.{Key}
use Rattle.rrset.specs.declared.record.Shown.{Shown}
use Rattle.rrset.specs.declared.record.Question.{Question}
use Rattle.rrset.proofs.InOrder.{InOrder, in_order-only}
use Rattle.rrset.proofs.Sizes.{size_of-only}
use Rattle.dsotlv.specs.Notices.{applied_all, last_ttl}
use Rattle.coalesce.specs.Net.{net}
use Rattle.coalesce.specs.Laws.{is_sent_so, is_side, can_be_sent, is_wanted, wanted_of, NetLeadsToNew, NetLeadsEachQuestion, PartsStaySides}
use Rattle.coalesce.proofs.Filters.{truth, holds, all-filter, all_weaker, own-only}
use Rattle.coalesce.proofs.Leads.{is_of, net_leads}

-- ---- what the tests say

pub record Sent (name : Labels) (e : Key × Shown) : Type 0 where
  pub of_name : same_name name e.0.owner ≡ true
  pub owner : is_name e.1.owner ≡ true
  pub class : e.0.class ≡ in_class
  pub kind_fits : e.0.kind < 2 ^ 16
  pub kind : (e.0.kind == any_kind) ≡ false
  pub shape : shape_fits e.0.kind e.1.rdata ≡ true
  pub size : length e.1.rdata < 2 ^ 16

pub sent : (name : Labels) (e : Key × Shown) → is_sent_so name e ≡ true → Sent name e
sent name e h =
    let size = and_parts _ _ h in
    let shape = and_parts _ _ size.0 in
    let kind = and_parts _ _ shape.0 in
    let fits = and_parts _ _ kind.0 in
    let class = and_parts _ _ fits.0 in
    let names = and_parts (same_name name e.0.owner) (is_name e.1.owner) class.0 in
    record {
      of_name = names.0;
      owner = names.1;
      class = eqb-true e.0.class in_class class.1;
      kind_fits = ltb-true e.0.kind (2 ^ 16) fits.1;
      kind = not-true (e.0.kind == any_kind) kind.1;
      shape = shape.1;
      size = ltb-true (length e.1.rdata) (2 ^ 16) size.1;
    }

pub record Side (name : Labels) (set : RecordSet) : Type 0 where
  pub order : InOrder set
  pub own : list_all shows_its_key set ≡ true
  pub sent : list_all (is_sent_so name) set ≡ true

pub side : (name : Labels) (set : RecordSet) → IsTrue (is_side name set) → Side name set
side name set h =
    let parts = and_parts (is_in_order set && list_all shows_its_key set) (list_all (is_sent_so name) set) h in
    let set_is = and_parts (is_in_order set) (list_all shows_its_key set) parts.0 in
    record { order = holds _ set_is.0; own = set_is.1; sent = parts.1 }

pub sent-of : (name : Labels) (e : Key × Shown) → is_sent_so name e ≡ true → is_of name e ≡ true
sent-of name e h =
    let size = and_parts _ _ h in
    let shape = and_parts _ _ size.0 in
    let kind = and_parts _ _ shape.0 in
    let fits = and_parts _ _ kind.0 in
    let class = and_parts (same_name name e.0.owner && is_name e.1.owner) (e.0.class == in_class) fits.0 in
    and_from _ _ (and_parts _ _ class.0).0 class.1

pub side-of : (name : Labels) (set : RecordSet) → Side name set → list_all (is_of name) set ≡ true
side-of name set is = all_weaker (is_sent_so name) (is_of name) (sent-of name) set is.sent

-- ---- parts

pub side-only : (name : Labels) (p : Key → Bool) (set : RecordSet) → Side name set → Side name (only p set)
side-only name p set is = record { order = in_order-only p set is.order; own = own-only p set is.own; sent = all-filter (is_sent_so name) (λ e. p e.0) set is.sent }

pub is_side-from : (name : Labels) (set : RecordSet) → Side name set → is_side name set ≡ true
is_side-from name set is = and_from _ _ (and_from _ _ (truth _ is.order) is.own) is.sent

pub parts_stay_sides : PartsStaySides
parts_stay_sides name p set h = (is_side-from name (only p set) (side-only name p set (side name set h)), stays)
  where
    stays : IsTrue (can_be_sent set) → IsTrue (can_be_sent (only p set))
    stays can =
        let parts = and_parts (list_all (λ (e : Key × Shown). nat_le e.1.ttl last_ttl) set) (nat_le (size_of set) max_octets_at_name) can in
        let size : size_of set ≤ max_octets_at_name = leb-true (size_of set) max_octets_at_name parts.1 in
        let less = size_of-only p set in
        and_from _ _ (all-filter (λ (e : Key × Shown). nat_le e.1.ttl last_ttl) (λ e. p e.0) set parts.0) (le-leb (size_of (only p set)) max_octets_at_name (omega arith))

-- ---- nets

pub net_leads_to_new : NetLeadsToNew
net_leads_to_new name old new q h g =
    let before = side name old h in
    let after = side name new g in
    net_leads name q old new before.order after.order before.own after.own (side-of name old before)

-- a part that keeps all that the question matches has the same matching records
pub matching-only : (p : Key → Bool) (q : Question) → ((k : Key) → matches q k ≡ true → p k ≡ true) → (set : RecordSet) → matching q (only p set) ≡ matching q set
matching-only p q wider [] = refl
matching-only p q wider (e ∷ es) = by (matching-only p q wider es) (p e.0) (matches q e.0) refl (wider e.0)
  where
    by : matching q (only p es) ≡ matching q es → (a b : Bool) → matches q e.0 ≡ b → (b ≡ true → a ≡ true) → filter (λ f. matches q f.0) (cond a (e ∷ only p es) (only p es)) ≡ cond b (e ∷ matching q es) (matching q es)
    by rest true b s wide = ap (λ c. cond c (e ∷ matching q (only p es)) (matching q (only p es))) s ∙ ap (λ r. cond b (e ∷ r) r) rest
    by rest false true s wide = let no : false ≡ true = wide refl in cc
    by rest false false s wide = rest

-- what one of several questions asks for is wanted
pub matches-wanted : (questions : List Question) (q : Question) → Contains questions q → (k : Key) → matches q k ≡ true → is_wanted questions k ≡ true
matches-wanted questions q (i, within, at) k h = list_any_at (λ r. matches r k) questions i q within (ap (λ r. matches r k) at ∙ h)

-- a question matches as much of what several ask for, of which it is one
pub matching-wanted : (questions : List Question) (q : Question) → Contains questions q → (set : RecordSet) → matching q (wanted_of questions set) ≡ matching q set
matching-wanted questions q among set = matching-only (is_wanted questions) q (matches-wanted questions q among) set

pub net_leads_each_question : NetLeadsEachQuestion
net_leads_each_question name old new questions q h g among =
    let before = side-only name (is_wanted questions) old (side name old h) in
    let after = side-only name (is_wanted questions) new (side name new g) in
    sym (ap (applied_all (net (wanted_of questions old) (wanted_of questions new)) q) (matching-wanted questions q among old))
    ∙ net_leads name q (wanted_of questions old) (wanted_of questions new) before.order after.order before.own after.own (side-of name (wanted_of questions old) before)
    ∙ matching-wanted questions q among new
