use Rattle.std.proofs.Common.{◌≡◌, sym, ap, subst, ◌∙◌}
use Rattle.std.specs.Prelude.{Some, None}
use Rattle.std.specs.Map.{lookup, set_value}
use Rattle.indexmap.specs.IndexMap.{insert_entry}
use Rattle.dnsname.specs.Names.{Labels, same_name}
use Rattle.rrset.specs.declared.record.Key.{Key}
use Rattle.coalesce.specs.Waiting.{OldValues, names_waiting}
use Rattle.coalesce.proofs.Entries.{note-there, note-new, same-there, on_ok, on_err}
use Rattle.coalesce.proofs.queue.keep.Goals as goal

pub returns-in-Some-clause-ok : goal.returns-in-Some-clause-ok
returns-in-Some-clause-ok c =
    let owner : c.key.result.now.owner ≡ c.args.old.now.0.owner = ap (λ (k : Key). k.owner) c.key.ensures in
    let found : lookup (same_name c.args.old.now.0.owner) c.args.names.now.entries ≡ Some c.in-Some.waiting.now =
    subst (λ (n : Labels). lookup (same_name n) c.args.names.now.entries ≡ Some c.in-Some.waiting.now) owner (sym c.in-Some.ensures.value) in
    on_ok c.keep.result (λ kept.
    ap names_waiting ((c.get_mut.follows.holds c.keep.new.self).0 ∙ (λ i. set_value (same_name (owner i)) c.args.names.now.entries (kept i)))
    ∙ note-there c.args.old.now c.args.names.now.entries c.in-Some.waiting.now found) c.keep.ensures.ok

pub returns-in-Some-clause-err : goal.returns-in-Some-clause-err
returns-in-Some-clause-err c = on_err c.keep.result (λ kept.
    (c.get_mut.follows.holds c.keep.new.self).0 ∙ ap (λ (w : OldValues). set_value (same_name c.key.result.now.owner) c.args.names.now.entries w) kept
    ∙ same-there (same_name c.key.result.now.owner) c.args.names.now.entries c.in-Some.waiting.now (sym c.in-Some.ensures.value)) c.keep.ensures.err

pub returns-in_ok-insert-in-None-clause-ok : goal.returns-in_ok-insert-in-None-clause-ok
returns-in_ok-insert-in-None-clause-ok c =
    let owner : c.key.result.now.owner ≡ c.args.old.now.0.owner = ap (λ (k : Key). k.owner) c.key.ensures in
    let none : lookup (same_name c.args.old.now.0.owner) c.args.names.now.entries ≡ None =
    subst (λ (n : Labels). lookup (same_name n) c.args.names.now.entries ≡ None) owner (sym c.in-None.ensures.value) in
    let name : c.in_ok-name-in-None.name ≡ c.args.old.now.0.owner = c.in_ok-name-in-None.ensures ∙ ap (λ (k : Key). k.owner) c.key-in-None.ensures in
    ap names_waiting (c.in_ok-insert-in-None.ensures.entries
    ∙ (λ i. insert_entry same_name (c.get_mut.follows.holds-at-none i).entries (name i) (c.in_ok-waiting-in-None.ensures i)))
    ∙ note-new c.args.old.now c.args.names.now.entries none
