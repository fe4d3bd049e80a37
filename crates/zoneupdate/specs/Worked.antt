-- Words for worked rows: one prerequisite or change for a fresh zone `example.com.`.
use Rattle.std.specs.Prelude.{ℕ, Bool, true, List, [], ◌∷◌, map, Option, Some, None, Result, Ok, Err, codes, unwrap_or}
use Rattle.push_base.specs.Cases.{◌>>=◌}
use Rattle.push_base.specs.Hexadecimal.{hex}
use Rattle.dnsname.specs.Text.{name}
use Rattle.rrset.specs.RecordSet.{RecordSet}
use Rattle.rrset.specs.declared.record.Rr.{Rr}
use Rattle.zoneupdate.specs.Zones.{ZoneState, new_zone, serial_of_zone, set_at, is_zone}
use Rattle.zoneupdate.specs.Updates.{judged}

abbrev pub example : ℕ → ZoneState
example serial = new_zone (name (codes "example.com.")) serial true

abbrev pub judged_rr : ZoneState → List Rr → List Rr → Result RecordSet ℕ
judged_rr zone prereqs changes = judged (zone.apex ∷ []) zone (record { id = 1; zones = []; prereqs = prereqs; changes = changes })

abbrev pub refusal : {X : Type 0} → Result X ℕ → Option ℕ
refusal (Err code) = Some code
refusal (Ok x) = None

abbrev pub rr : List ℕ → ℕ → ℕ → ℕ → List ℕ → Rr
rr owner ttl class kind rdata = record { owner = name owner; class = class; kind = kind; ttl = ttl; rdata = rdata }

abbrev pub prerequisite_row : List ℕ → ℕ → ℕ → ℕ → List ℕ → Option ℕ
prerequisite_row owner ttl class kind rdata = refusal (judged_rr (example 1) (rr owner ttl class kind rdata ∷ []) [])

abbrev pub kinds_after : RecordSet → List ℕ
kinds_after rows = map (λ e. e.0.kind) rows

abbrev pub serial_after : ZoneState → RecordSet → ℕ
serial_after zone rows = unwrap_or (serial_of_zone (record zone { rows = rows })) 0

-- the serial and the kinds of the rows afterwards
abbrev pub change_row : ℕ → List ℕ → ℕ → ℕ → ℕ → List ℕ → Result (ℕ × List ℕ) ℕ
change_row serial owner ttl class kind rdata = judged_rr (example serial) [] (rr owner ttl class kind rdata ∷ []) >>= λ rows. Ok (serial_after (example serial) rows, kinds_after rows)

-- a record of `a.example.com.`
abbrev pub at_a : ℕ → ℕ → ℕ → List ℕ → Rr
at_a ttl class kind rdata = rr (codes "a.example.com.") ttl class kind rdata

-- the serial and the kinds of the rows after several changes of one update
abbrev pub changes_row : List Rr → Result (ℕ × List ℕ) ℕ
changes_row changes = judged_rr (example 1) [] changes >>= λ rows. Ok (serial_after (example 1) rows, kinds_after rows)

-- whether the rows afterwards are a zone's
abbrev pub is_zone_after : ℕ → List ℕ → ℕ → ℕ → ℕ → List ℕ → Result Bool ℕ
is_zone_after serial owner ttl class kind rdata = judged_rr (example serial) [] (rr owner ttl class kind rdata ∷ []) >>= λ rows. Ok (is_zone (record (example serial) { rows = rows }))

abbrev pub address : ℕ → Rr
address ttl = rr (codes "a.example.com.") ttl 1 1 (hex (codes "c0000201"))

-- an address, and then the same with another TTL: the serial and the TTLs of the set afterwards
abbrev pub added_twice : Result (ℕ × List ℕ) ℕ
added_twice = judged_rr (example 1) [] (address 60 ∷ []) >>= λ once.
    judged_rr (record (example 1) { rows = once }) [] (address 120 ∷ []) >>= λ rows.
    Ok (serial_after (example 1) rows, map (λ e. e.1.ttl) (set_at (name (codes "a.example.com.")) 1 rows))
