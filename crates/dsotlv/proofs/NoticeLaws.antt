-- What is written for a notice is spelled.
use Rattle.std.proofs.Common.{ℕ, ◌<◌, ◌^◌, List, [], refl, subst, arith}
use Rattle.rrset.specs.declared.record.Rr.{Rr}
use Rattle.rrset.specs.Kinds.{any_kind, any_class}
use Rattle.dsotlv.specs.Notices.{push_record, remove_many_ttl}
use Rattle.dsotlv.specs.Spelling.{SpellsPushRecord}
use Rattle.dsotlv.specs.Spelling as spelling
use Rattle.dsotlv.specs.Laws.{WritesWhatIsSpelled}

abbrev record_octets : Rr → List ℕ
record_octets rr = push_record rr.owner rr.kind rr.class rr.ttl rr.rdata

as_written : (text : List ℕ) (rr : Rr) → SpellsPushRecord text rr → SpellsPushRecord (record_octets rr) rr
as_written text rr spelled = record { owner = spelled.owner; kind = spelled.kind; class = spelled.class; ttl = spelled.ttl; rdata = spelled.rdata; whole = refl }

-- a record whose other fields are those that are written
bare : (text : List ℕ) (rr : Rr) (kind class ttl : ℕ) → SpellsPushRecord text rr → kind < 2 ^ 16 → class < 2 ^ 16 → ttl < 2 ^ 32
    → SpellsPushRecord (push_record rr.owner kind class ttl []) (record { owner = rr.owner; class = class; kind = kind; ttl = ttl; rdata = [] })
bare text rr kind class ttl spelled kind_fits class_fits ttl_fits = record { owner = spelled.owner; kind = kind_fits; class = class_fits; ttl = ttl_fits; rdata = omega arith; whole = refl }

pub writes_what_is_spelled : WritesWhatIsSpelled
writes_what_is_spelled text notice (spelling.SpellsNotice.add rr spelled low one) = spelling.SpellsNotice.add rr (as_written text rr spelled) low one
writes_what_is_spelled text notice (spelling.SpellsNotice.remove_one rr spelled ttl one) =
    spelling.SpellsNotice.remove_one rr (subst (λ (t : ℕ). SpellsPushRecord (push_record rr.owner rr.kind rr.class t rr.rdata) rr) ttl (as_written text rr spelled)) ttl one
writes_what_is_spelled text notice (spelling.SpellsNotice.remove_set rr spelled ttl none kept) =
    spelling.SpellsNotice.remove_set (record rr { ttl = remove_many_ttl; rdata = [] }) (bare text rr rr.kind rr.class remove_many_ttl spelled spelled.kind spelled.class (omega arith)) refl refl kept
writes_what_is_spelled text notice (spelling.SpellsNotice.remove_class rr spelled ttl none kind kept) =
    spelling.SpellsNotice.remove_class (record rr { ttl = remove_many_ttl; rdata = []; kind = any_kind }) (bare text rr any_kind rr.class remove_many_ttl spelled (omega arith) spelled.class (omega arith)) refl refl refl kept
writes_what_is_spelled text notice (spelling.SpellsNotice.remove_all rr spelled ttl none class) =
    spelling.SpellsNotice.remove_all (record rr { ttl = remove_many_ttl; rdata = []; kind = 0; class = any_class }) (bare text rr 0 any_class remove_many_ttl spelled (omega arith) (omega arith) (omega arith)) refl refl refl
writes_what_is_spelled text notice (spelling.SpellsNotice.odd rr spelled high low) =
    spelling.SpellsNotice.odd (record rr { kind = 0; class = 0; rdata = [] }) (bare text rr 0 0 rr.ttl spelled (omega arith) (omega arith) spelled.ttl) high low
