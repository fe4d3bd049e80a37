use Rattle.two_hubs.proofs.Showing.{shows-carried, newest-is-carried, never-earlier}
use Rattle.two_hubs.proofs.shows_are_carried.Goals as goal

pub returns : goal.returns
returns c = record { carried = shows-carried; newest = newest-is-carried; earlier = never-earlier }
