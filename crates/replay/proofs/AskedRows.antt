-- Worked scripts of what links are asked, by computation.
use Rattle.std.proofs.Common.{◌≡◌, [], ◌∷◌, codes, refl}
use Rattle.std.specs.Fmt.{digits}
use Rattle.replay.proofs.Rows.{Gives}

pub asked_on_its_link : Gives (codes "zone example.com. 1 open" ∷ codes "timers 15000 4294967295" ∷ codes "link lan lan.example.com." ∷ codes "send p 0027000130000000000000000000004000170168036c616e076578616d706c6503636f6d0000010001" ∷ codes "send p 00180002300000000000000000000001000800003a98ffffffff" ∷ codes "asks lan" ∷ codes "asks lan" ∷ codes "at 999" ∷ codes "asks lan" ∷ codes "at 1000" ∷ codes "asks lan" ∷ codes "at 1500" ∷ codes "hear lan 0000840000000001000000000168056c6f63616c0000010001000000780004c0000201" ∷ codes "at 2999" ∷ codes "asks lan" ∷ codes "at 3000" ∷ codes "asks lan" ∷ []) (codes "bytes p 000c0001b0000000000000000000" ∷ codes "bytes p 00180002b00000000000000000000001000800003a98ffffffff" ∷ codes "asks lan 1" ∷ codes "out 0000000000010000000000000168056c6f63616c0000010001" ∷ codes "asks lan 0" ∷ codes "asks lan 0" ∷ codes "asks lan 1" ∷ codes "out 0000000000010000000000000168056c6f63616c0000010001" ∷ codes "heard" ∷ codes "asks lan 0" ∷ codes "asks lan 1" ∷ codes "out 0000000000010001000000000168056c6f63616c00000100010168056c6f63616c0000010001000000760004c0000201" ∷ [])
unfolding digits
asked_on_its_link = refl

pub asked_with_growing_gaps : Gives (codes "zone example.com. 1 open" ∷ codes "timers 15000 4294967295" ∷ codes "link lan lan.example.com." ∷ codes "send p 0027000130000000000000000000004000170168036c616e076578616d706c6503636f6d0000010001" ∷ codes "send p 00180002300000000000000000000001000800003a98ffffffff" ∷ codes "asks lan" ∷ codes "asks lan" ∷ codes "at 999" ∷ codes "asks lan" ∷ codes "at 1000" ∷ codes "asks lan" ∷ codes "at 1500" ∷ codes "hear lan 0000840000000001000000000168056c6f63616c0000010001000000780004c0000201" ∷ codes "at 2999" ∷ codes "asks lan" ∷ codes "at 3000" ∷ codes "asks lan" ∷ codes "at 7000" ∷ codes "asks lan" ∷ codes "at 15000" ∷ codes "asks lan" ∷ codes "at 31000" ∷ codes "asks lan" ∷ codes "at 63000" ∷ codes "asks lan" ∷ codes "at 97499" ∷ codes "asks lan" ∷ codes "at 97500" ∷ codes "asks lan" ∷ []) (codes "bytes p 000c0001b0000000000000000000" ∷ codes "bytes p 00180002b00000000000000000000001000800003a98ffffffff" ∷ codes "asks lan 1" ∷ codes "out 0000000000010000000000000168056c6f63616c0000010001" ∷ codes "asks lan 0" ∷ codes "asks lan 0" ∷ codes "asks lan 1" ∷ codes "out 0000000000010000000000000168056c6f63616c0000010001" ∷ codes "heard" ∷ codes "asks lan 0" ∷ codes "asks lan 1" ∷ codes "out 0000000000010001000000000168056c6f63616c00000100010168056c6f63616c0000010001000000760004c0000201" ∷ codes "asks lan 1" ∷ codes "out 0000000000010001000000000168056c6f63616c00000100010168056c6f63616c0000010001000000720004c0000201" ∷ codes "asks lan 1" ∷ codes "out 0000000000010001000000000168056c6f63616c00000100010168056c6f63616c00000100010000006a0004c0000201" ∷ codes "asks lan 1" ∷ codes "out 0000000000010001000000000168056c6f63616c00000100010168056c6f63616c00000100010000005a0004c0000201" ∷ codes "asks lan 1" ∷ codes "out 0000000000010000000000000168056c6f63616c0000010001" ∷ codes "asks lan 0" ∷ codes "asks lan 1" ∷ codes "out 0000000000010000000000000168056c6f63616c0000010001" ∷ [])
unfolding digits
asked_with_growing_gaps = refl
