use Rattle.std.proofs.Common.{◌≡◌, ◌∙◌, ◌+◌, ◌++◌, take, drop, sym, ap, arith, Some}
use Rattle.std.proofs.lemmas.Result.{IfOk-weaker}
use Rattle.zoneupdate.proofs.SerialPlace.{with_serial-place, by_place, joined_parts}
use Rattle.zoneupdate.proofs.serial.with_serial.Goals as goal

pub returns : goal.returns
returns c =
    let rdata = c.args.rdata.now in
    IfOk-weaker c.shared.result _ _ (λ octets is.
    let bytes : octets ≡ by_place c.args.serial rdata (Some c.args.place) =
    is ∙ c.in_ok-octets.ensures ∙ joined_parts c.to_be_bytes.result rdata c.args.place
    ∙ ap (λ s. take c.args.place rdata ++ s ++ drop (c.args.place + 4) rdata) c.to_be_bytes.ensures in
    bytes ∙ sym (with_serial-place c.args.serial rdata (λ i h. omega (arith, c.type_inv.rdata i)) ∙ ap (by_place c.args.serial rdata) c.requires)
    ) c.shared.ensures
