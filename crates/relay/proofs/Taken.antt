-- A zone takes the message of a set.
--     taken      by the update that it is read as
use Rattle.std.proofs.Common.{◌≡◌, ℕ, ◌<◌, ◌^◌, true, false, List, None, Result, Ok, sym, ap, subst, ◌∙◌}
use Rattle.dnsname.specs.Names.{Labels, IsName, same_name}
use Rattle.rrset.specs.RecordSet.{RecordSet}
use Rattle.dnswire.specs.Reading.{update_of}
use Rattle.dnswire.specs.Writing.{update_octets}
use Rattle.dnswire.specs.declared.message.Update.{Update}
use Rattle.zoneupdate.specs.Zones.{is_inside}
use Rattle.zoneupdate.specs.Updates.{judged}
use Rattle.relay.specs.Relay.{carrying, unfit_kind}
use Rattle.relay.specs.declared.relay.Relayed.TheVariants.{Message}
use Rattle.relay.specs.Laws.{IsTaken, Takes}
use Rattle.relay.proofs.Accepting.{carry-accepted}
use Rattle.relay.proofs.Messages.{carries-read}

same_read : {E : Type 0} (a b : Update) → ◌≡◌ {A = Result Update E} (Ok a) (Ok b) → a ≡ b
same_read a b e = cc

pub taken : (apex name : Labels) (set : RecordSet) (id : ℕ) (message : List ℕ) → id < 2 ^ 16 → same_name name apex ≡ false → unfit_kind set ≡ None → message ≡ update_octets (carrying apex name set id) → IsTaken apex name set (Message message)
taken apex name set id message small other fit is homes zone update named apex_is kept below writable inside can read =
    let same : update ≡ carrying apex name set id = same_read update (carrying apex name set id) (sym read ∙ ap update_of is ∙ carries-read apex name set id named can small) in
    let accepted = carry-accepted homes zone name set id kept below writable (subst (λ (a : Labels). is_inside homes a name ≡ true) (sym apex_is) inside) (subst (λ (a : Labels). same_name name a ≡ false) (sym apex_is) other) can fit in
    subst (λ (u : Update). Takes apex name set zone.rows (judged homes zone u)) (sym same)
    (subst (λ (a : Labels). Takes a name set zone.rows (judged homes zone (carrying a name set id))) apex_is accepted)
