use Rattle.std.proofs.Common.{◌≡◌, drop}
use Rattle.pushclient.specs.Clients.{Client, held}
use Rattle.pushclient.specs.Rule.{StandsFor}
use Rattle.browsing.specs.Browsing.{are_awaited}
use Rattle.browsing.proofs.asking.are_awaited.Given as goal

abbrev pub invariant-questions : goal.invariant-questions
invariant-questions l = (plain : Client) → StandsFor l.fn.client plain → are_awaited (held plain) (drop l.question-index l.fn.needed) ≡ are_awaited (held plain) l.fn.needed
