-- A net is empty exactly where both sets show the same, and so a waiting name has something to tell exactly where its
-- records differ.
use Rattle.std.proofs.Common.{◌≡◌, Bool, true, false, cond, not, List, [], ◌∷◌, ◌++◌, Some, sym, ◌∙◌, ap, refl}
use Rattle.std.specs.Prelude.{◌==◌, find, IsTrue}
use Rattle.std.specs.List.{list_all}
use Rattle.std.proofs.lemmas.Bool.{and_from, and_parts, or_right}
use Rattle.push_base.specs.Cases.{is_empty}
use Rattle.dnsname.specs.Names.{Labels, same_name}
use Rattle.rrset.specs.Kinds.{in_class, any_kind, any_class}
use Rattle.rrset.specs.Records.{matches}
use Rattle.rrset.specs.RecordSet.{RecordSet, at_name, matching, same_rows}
use Rattle.rrset.specs.declared.record.Key.{Key}
use Rattle.rrset.specs.declared.record.Shown.{Shown}
use Rattle.rrset.specs.declared.record.Question.{Question}
use Rattle.rrset.proofs.SameRows.{same_rows-self}
use Rattle.subscr.specs.Asked.{Asked, wants}
use Rattle.dsotlv.specs.Notices.{applied_all}
use Rattle.dsotlv.specs.declared.message.Notice.{Notice}
use Rattle.coalesce.specs.Laws.{is_side, NothingToTell}
use Rattle.coalesce.specs.Net.{all_anew, all_gone, kinds_of, net, owner_of, shorter, single_changes}
use Rattle.coalesce.specs.Waiting.{WaitingName, CanBePacked, IsPackable, asked_net, differs, is_changed, is_named, new_side, old_side, records_then, tells}
use Rattle.coalesce.proofs.Leads.{is_of, is_empty-nothing}
use Rattle.coalesce.proofs.Sides.{net_leads_to_new, parts_stay_sides, side, side-of}

-- ---- the question that asks for all records of a name

abbrev all_of : Labels → Question
all_of name = record { name = name; kind = any_kind; class = any_class }

asks : (name : Labels) (e : Key × Shown) → is_of name e ≡ true → matches (all_of name) e.0 ≡ true
asks name e h = and_from _ _ (and_from _ _ (and_parts (same_name name e.0.owner) (e.0.class == in_class) h).0 (or_right _ _ refl)) (or_right _ _ refl)

matching-all : (name : Labels) (set : RecordSet) → list_all (is_of name) set ≡ true → matching (all_of name) set ≡ set
matching-all name [] h = refl
matching-all name (e ∷ es) h =
    let parts = and_parts (is_of name e) (list_all (is_of name) es) h in
    by (matches (all_of name) e.0) (asks name e parts.0) (matching-all name es parts.1)
  where
    by : (b : Bool) → b ≡ true → matching (all_of name) es ≡ es → cond b (e ∷ matching (all_of name) es) (matching (all_of name) es) ≡ e ∷ es
    by true is rest = ap (λ l. e ∷ l) rest
    by false is rest = cc

-- ---- the net

-- where nothing is told, the old set is the new one, since nothing leads to it
told_nothing : (name : Labels) (old new : RecordSet) → IsTrue (is_side name old) → IsTrue (is_side name new) → net old new ≡ [] → same_rows old new ≡ true
told_nothing name old new h g none =
    let before = matching-all name old (side-of name old (side name old h)) in
    let after = matching-all name new (side-of name new (side name new g)) in
    let moved : matching (all_of name) old ≡ matching (all_of name) new =
    ap (λ (ns : List Notice). applied_all ns (all_of name) (matching (all_of name) old)) (sym none) ∙ net_leads_to_new name old new (all_of name) h g in
    let same : new ≡ old = sym (sym before ∙ moved ∙ after) in
    ap (same_rows old) same ∙ same_rows-self old

pub nothing_to_tell : NothingToTell
nothing_to_tell name old new h g = by (same_rows old new) refl (is_empty (net old new)) refl
  where
    silent : (b : Bool) → b ≡ true → (notices : List Notice) → is_empty (cond b [] notices) ≡ true
    silent true is notices = refl
    silent false is notices = cc

    by : (a : Bool) → same_rows old new ≡ a → (b : Bool) → is_empty (net old new) ≡ b → b ≡ a
    by true same true is = refl
    by true same false is = sym is ∙ silent (same_rows old new) same (cond (is_empty new) (all_gone (owner_of (old ++ new)) (kinds_of old)) (shorter (single_changes (owner_of (old ++ new)) old new) (all_anew (owner_of (old ++ new)) new)))
    by false other true is = sym (told_nothing name old new h g (is_empty-nothing (net old new) is)) ∙ other
    by false other false is = refl

-- ---- names that wait

changed_tells : (asked : Asked) (rows : RecordSet) (w : WaitingName) → IsPackable rows w → is_changed asked rows w ≡ not (is_empty (asked_net asked rows w))
changed_tells asked rows w ((name, old, new), can) =
    sym (ap not (nothing_to_tell name (old_side asked rows w) (new_side asked rows w) (parts_stay_sides name (λ key. wants key asked) (records_then rows w) old).0 (parts_stay_sides name (λ key. wants key asked) (at_name w.name rows) new).0))

pub differs_tells : (asked : Asked) (rows : RecordSet) (name : Labels) (queue : List WaitingName) → CanBePacked rows queue
    → differs asked rows (find (is_named name) queue) ≡ tells asked rows (find (is_named name) queue)
differs_tells asked rows name [] can = refl
differs_tells asked rows name (w ∷ queue) can = by (is_named name w) (differs_tells asked rows name queue can.1)
  where
    by : (b : Bool) → differs asked rows (find (is_named name) queue) ≡ tells asked rows (find (is_named name) queue)
        → differs asked rows (cond b (Some w) (find (is_named name) queue)) ≡ tells asked rows (cond b (Some w) (find (is_named name) queue))
    by true rest = changed_tells asked rows w can.0
    by false rest = rest
