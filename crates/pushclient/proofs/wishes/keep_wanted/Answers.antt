use Rattle.std.proofs.Common.{rules, of_calls}
use Rattle.std.proofs.lemmas.Fn.{filter_same}
use Rattle.pushclient.specs.Clients.{Wish}
use Rattle.pushclient.proofs.wishes.keep_wanted.Goals as goal

pub returns : goal.returns
returns c = filter_same _ (λ (w : Wish). w.wanted) _ (λ x b f k. search (rules, of_calls)) c.args.wishes.now.items c.retain.new.self.items c.retain.ensures.filtered
