-- Rdata that is read from a message part by part.
--     GivesRdata      what a call gives, unless memory runs out
--     read_at, read_from      the octets of a part, and the place after it; all octets from a place up to the end
--     grown, onto      octets that have grown, with a place
use Rattle.std.specs.Prelude.{◌≡◌, ℕ, List, ◌++◌, map, take, Result, Ok, Err, flat_map}
use Rattle.dnsname.specs.Reading.{name_up_to}
use Rattle.rrset.specs.Rdata.{Field, field_octets, fields_from}
use Rattle.rrset.specs.Parts.{part_of, field_at}
use Rattle.rrset.specs.declared.shape.ShapePart.{ShapePart}
use Rattle.rrset.specs.declared.rdata_reader.RdataFault.{RdataFault}
use Rattle.rrset.specs.declared.rdata_reader.RdataFault.TheVariants.{Shape, NoMemory}

-- a call gives what reading gives, unless memory ran out
abbrev pub GivesRdata : {X : Type 0} → Result X RdataFault → Result X ℕ → Type 0
GivesRdata (Ok x) read = read ≡ Ok x
GivesRdata (Err (Shape p)) read = read ≡ Err p
GivesRdata (Err NoMemory) read = Unit {0}

abbrev pub octets_read : Result (Field × ℕ) ℕ → Result (List ℕ × ℕ) ℕ
octets_read (Ok field) = Ok (field_octets field.0, field.1)
octets_read (Err p) = Err p

abbrev pub read_at : ShapePart → List ℕ → ℕ → ℕ → Result (List ℕ × ℕ) ℕ
read_at part message end p = octets_read (field_at (λ _. name_up_to end message) part (take end message) p)

abbrev pub all_read : Result (List Field) ℕ → Result (List ℕ) ℕ
all_read (Ok fields) = Ok (flat_map field_octets fields)
all_read (Err p) = Err p

abbrev pub read_from : List ShapePart → List ℕ → ℕ → ℕ → Result (List ℕ) ℕ
read_from parts message end p = all_read (fields_from (λ _. name_up_to end message) (map part_of parts) (take end message) p)

abbrev pub grown : List ℕ → Result ℕ RdataFault → Result (List ℕ × ℕ) RdataFault
grown octets (Ok place) = Ok (octets, place)
grown octets (Err fault) = Err fault

abbrev pub onto : List ℕ → Result (List ℕ × ℕ) ℕ → Result (List ℕ × ℕ) ℕ
onto front (Ok piece) = Ok (front ++ piece.0, piece.1)
onto front (Err p) = Err p
