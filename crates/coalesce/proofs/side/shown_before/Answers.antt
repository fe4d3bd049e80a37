use Rattle.std.proofs.Common.{◌≡◌, ◌∙◌, ap, sym, subst}
use Rattle.std.specs.Prelude.{Option, Some, None, MatchOption, option_map}
use Rattle.rrset.specs.RecordSet.{shown_at}
use Rattle.rrset.specs.declared.record.Shown.{Shown}
use Rattle.coalesce.specs.Waiting.{OldValue}
use Rattle.coalesce.proofs.OldAt.{shown_by, shown_before-is}
use Rattle.coalesce.proofs.side.shown_before.Goals as goal

pub returns-in-Some : goal.returns-in-Some
returns-in-Some c =
    subst (λ (o : Option Shown). MatchOption c.shown.result (o ≡ None) (λ s. o ≡ Some s.now))
    (sym (shown_before-is c.args.key.now c.args.old.now c.args.rows.now c.requires.old
    ∙ ap (λ (o : Option OldValue). shown_by (option_map (λ v. v.before) o) (shown_at c.args.key.now c.args.rows.now)) c.in-Some.ensures))
    c.shown.ensures

pub returns-in-None : goal.returns-in-None
returns-in-None c =
    subst (λ (o : Option Shown). MatchOption c.shown_in.result (o ≡ None) (λ s. o ≡ Some s.now))
    (sym (shown_before-is c.args.key.now c.args.old.now c.args.rows.now c.requires.old
    ∙ ap (λ (o : Option OldValue). shown_by (option_map (λ v. v.before) o) (shown_at c.args.key.now c.args.rows.now)) c.in-None.ensures))
    c.shown_in.ensures
