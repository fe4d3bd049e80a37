use Rattle.std.proofs.Common.{IfOk, sym, subst}
use Rattle.scripts.specs.declared.line.Line.{Line}
use Rattle.scripts.specs.Drafts.{TakesLine}
use Rattle.scripts.proofs.script.Draft.take_among.Goals as goal

pub returns-in-Head : goal.returns-in-Head
returns-in-Head c =
    let all = c.args.clients.now in
    subst (λ (line : Line). IfOk c.take_head.result (λ taken. TakesLine all c.args.self.now line c.take_head.new.self taken)) (sym c.in-Head.is) (c.take_head.ensures all)

pub returns-in-Joining : goal.returns-in-Joining
returns-in-Joining c =
    let all = c.args.clients.now in
    subst (λ (line : Line). IfOk c.take_client.result (λ taken. TakesLine all c.args.self.now line c.take_client.new.self taken)) (sym c.in-Joining.is) (c.take_client.ensures all)
