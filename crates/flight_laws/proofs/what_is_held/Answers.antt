use Rattle.flight_laws.proofs.Holding.{holds_at_last, holds_along}
use Rattle.flight_laws.proofs.HoldingAll.{holds_all_sent}
use Rattle.flight_laws.proofs.NextMessage.{ends_before_next}
use Rattle.flight_laws.proofs.what_is_held.Goals as goal

pub returns : goal.returns
returns c = record { reached = ends_before_next; last = holds_at_last; along = holds_along; sent = holds_all_sent }
