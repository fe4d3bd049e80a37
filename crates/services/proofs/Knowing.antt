-- What a client tells of a question is what it is known to hold.
use Rattle.std.proofs.Common.{◌≡◌, [], sym, ap}
use Rattle.rrset.specs.RecordSet.{RecordSet}
use Rattle.pushclient.specs.Clients.{Held, off, asked_only, refused_with, set_held}
use Rattle.pushclient.specs.Kept.{HoldsAs}
use Rattle.pushclient.specs.declared.client.Held.{Held as Told}
use Rattle.pushclient.specs.declared.client.Held.TheVariants as tolds
use Rattle.services.specs.Services.{rows_held}

abbrev pub rows_told : Told → RecordSet
rows_told tolds.Off = []
rows_told tolds.Asked = []
rows_told (tolds.Refused rcode) = []
rows_told (tolds.Answered set) = set.now.rows

pub told_rows : (told : Told) (h : Held) → HoldsAs told h → rows_told told ≡ rows_held h
told_rows tolds.Off h holds = sym (ap rows_held holds)
told_rows tolds.Asked h holds = sym (ap rows_held holds)
told_rows (tolds.Refused rcode) h holds = sym (ap rows_held holds)
told_rows (tolds.Answered set) (set_held id rows) holds = holds
told_rows (tolds.Answered set) off holds = absurd holds
told_rows (tolds.Answered set) asked_only holds = absurd holds
told_rows (tolds.Answered set) (refused_with rcode) holds = absurd holds
