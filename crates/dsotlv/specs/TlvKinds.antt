-- Kinds of TLVs (RFC 8490, 10.3; RFC 8765, 8), and the sizes of their data where these are fixed. Each number stands in `kinds` or
-- `data_sizes` alone.
use Rattle.std.specs.Prelude.{ℕ}
use Rattle.dsotlv.specs.declared.kinds.TheConstants as kinds
use Rattle.dsotlv.specs.declared.data_sizes.TheConstants as sizes

abbrev pub keepalive_tlv : ℕ
keepalive_tlv = kinds.KEEPALIVE

abbrev pub retry_delay_tlv : ℕ
retry_delay_tlv = kinds.RETRY_DELAY

abbrev pub padding_tlv : ℕ
padding_tlv = kinds.PADDING

abbrev pub subscribe_tlv : ℕ
subscribe_tlv = kinds.SUBSCRIBE

abbrev pub push_tlv : ℕ
push_tlv = kinds.PUSH

abbrev pub unsubscribe_tlv : ℕ
unsubscribe_tlv = kinds.UNSUBSCRIBE

abbrev pub reconfirm_tlv : ℕ
reconfirm_tlv = kinds.RECONFIRM

-- two timers (RFC 8490, 7.1); a delay (RFC 8490, 7.2); an ID (RFC 8765, 6.4.1)
abbrev pub keepalive_size : ℕ
keepalive_size = sizes.KEEPALIVE

abbrev pub retry_delay_size : ℕ
retry_delay_size = sizes.RETRY_DELAY

abbrev pub unsubscribe_size : ℕ
unsubscribe_size = sizes.UNSUBSCRIBE
