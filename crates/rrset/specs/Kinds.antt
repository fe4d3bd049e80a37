-- Kinds (the TYPE of a record) and classes, by their numbers (RFC 1035, 3.2.2 and 3.2.4; RFC 3596; RFC 2782; RFC 6891). Each number stands in
-- `kinds` or `classes` alone.
use Rattle.std.specs.Prelude.{ℕ, Bool, ◌||◌, ◌&&◌, ◌==◌, nat_le}
use Rattle.rrset.specs.declared.kinds.TheConstants as kinds
use Rattle.rrset.specs.declared.classes.TheConstants as classes

abbrev pub a_kind : ℕ
a_kind = kinds.A

abbrev pub ns_kind : ℕ
ns_kind = kinds.NS

abbrev pub cname_kind : ℕ
cname_kind = kinds.CNAME

abbrev pub soa_kind : ℕ
soa_kind = kinds.SOA

abbrev pub ptr_kind : ℕ
ptr_kind = kinds.PTR

abbrev pub mx_kind : ℕ
mx_kind = kinds.MX

abbrev pub txt_kind : ℕ
txt_kind = kinds.TXT

abbrev pub aaaa_kind : ℕ
aaaa_kind = kinds.AAAA

abbrev pub srv_kind : ℕ
srv_kind = kinds.SRV

abbrev pub opt_kind : ℕ
opt_kind = kinds.OPT

-- RFC 4034, 4
abbrev pub nsec_kind : ℕ
nsec_kind = kinds.NSEC

-- RFC 1035, 3.2.3
abbrev pub any_kind : ℕ
any_kind = kinds.ANY

abbrev pub in_class : ℕ
in_class = classes.IN

-- RFC 2136, 1.3
abbrev pub none_class : ℕ
none_class = classes.NONE

-- RFC 1035, 3.2.5
abbrev pub any_class : ℕ
any_class = classes.ANY

-- Meta kinds, which no zone and no link holds: 0, OPT, and 249 to 255. The list is this project's own (RFC 6895, 3.1).
abbrev pub is_meta : ℕ → Bool
is_meta kind = kind == 0 || kind == opt_kind || (nat_le kinds.FIRST_META kind && nat_le kind any_kind)
