-- What is left to happen, as the program holds it.
--     left_of left      the clients of each hub, and the events that are still to happen at it
use Rattle.replay.specs.KeptTwoWorlds.{AreLeft}
use Rattle.replay.specs.declared.script_text.Left.{Left}

abbrev pub left_of : Left → AreLeft
left_of left = record { near_clients = left.near_clients.now; near = left.near.now; far_clients = left.far_clients.now; far = left.far.now }
