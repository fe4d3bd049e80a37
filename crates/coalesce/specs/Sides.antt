-- What nets are counted and written of.
--     frame_octets      the octets that a frame has room for
--     is_asked      a key is among those that are asked for
--     IsOneSide, AreOfOneName      the records of one name; both sides of one name
use Rattle.std.specs.Prelude.{ℕ, Bool, true, IsTrue}
use Rattle.dnsname.specs.Names.{Labels}
use Rattle.rrset.specs.Records.{matches}
use Rattle.rrset.specs.RecordSet.{RecordSet}
use Rattle.rrset.specs.declared.record.Key.{Key}
use Rattle.dsotlv.specs.Messages.{max_frame}
use Rattle.subscr.specs.Asked.{wants, asks_with}
use Rattle.coalesce.specs.Laws.{is_side}
use Rattle.coalesce.specs.declared.asking.Asking.{Asking}
use Rattle.coalesce.specs.declared.asking.Asking.TheVariants as asking

-- those of the longest frame (RFC 7766, 8)
abbrev pub frame_octets : ℕ
frame_octets = max_frame

abbrev pub IsOneSide : RecordSet → Type 0
IsOneSide rows = (name : Labels) × IsTrue (is_side name rows)

abbrev pub AreOfOneName : RecordSet → RecordSet → Type 0
AreOfOneName old new = (name : Labels) × IsTrue (is_side name old) × IsTrue (is_side name new)

-- the key is asked for: each one, or by questions, or by one question, or by one question or others
abbrev pub is_asked : Asking → Key → Bool
is_asked asking.All key = true
is_asked (asking.Questions asked) key = wants key asked.now
is_asked (asking.One question) key = matches question.now key
is_asked (asking.OneOr question asked) key = asks_with question.now (λ k. wants k asked.now) key
