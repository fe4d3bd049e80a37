use Rattle.std.proofs.Common.{◌≡◌, ℕ, Option, subst}
use Rattle.std.specs.Prelude.{IfSome}
use Rattle.rrset.specs.Tables.{counted}
use Rattle.linkcache.specs.Parts.{laid}
use Rattle.linkcache.specs.Rows.{size_under}
use Rattle.linkcache.proofs.room.size_of_owner.Goals as goal

pub returns-in-Some : goal.returns-in-Some
returns-in-Some c = subst (λ (o : Option ℕ). IfSome o (λ size. size ≡ counted (size_under c.args.rules.now c.args.owner.now (laid c.args.over.now.rows c.args.rows.now.rows)))) c.in-Some.ensures c.requires.kept
