use Rattle.std.proofs.Common.{◌∙◌, T, fold, sym, ap, subst}
use Rattle.dnsname.specs.Names.{same_name}
use Rattle.rrset.specs.Tables.{HasLowerOwner, HaveLowerOwners}
use Rattle.rrset.proofs.Places.{all_filter}
use Rattle.linkcache.specs.Parts.{laid, with_flushed}
use Rattle.linkcache.specs.Rows.{LinkRows}
use Rattle.linkcache.proofs.FlushedOver.{flushed-laid}
use Rattle.linkcache.proofs.heard_rows.flush.Goals as goal

pub flush_rows-requires-clause-lower : goal.flush_rows-requires-clause-lower
flush_rows-requires-clause-lower c =
    subst (λ (l : LinkRows). HaveLowerOwners l) (sym c.at.ensures) (all_filter (λ e. HasLowerOwner e.0) (λ e. same_name c.args.heard.now.rr.owner e.0.owner) c.args.rows.now.rows c.requires.lower)

pub returns : goal.returns
returns c =
    let rows = c.args.rows.now.rows in
    ap (λ (l : LinkRows). laid l rows) (c.in_ok-flush_rows.ensures ∙ (λ i. fold (with_flushed c.args.now c.args.heard.now) (c.in_ok-over.ensures i) (c.at.ensures i)))
    ∙ flushed-laid c.args.now c.args.heard.now c.args.over.rows rows (subst T (sym c.requires.order) tt)
