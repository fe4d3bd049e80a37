use Rattle.std.proofs.Common.{◌≡◌, ◌∙◌, List, length, sym, ap}
use Rattle.std.proofs.lemmas.Bool.{eqb-true}
use Rattle.dnsname.specs.Names.{Labels}
use Rattle.reversemap.proofs.UsedRecords.{used-alone}
use Rattle.linkcache.proofs.kinds.is_local.Goals as goal

pub returns-then-is_empty : goal.returns-then-is_empty
returns-then-is_empty c =
    let none : length c.args.rules.now.reverses ≡ 0 = ap (λ (l : List Labels). length l) (sym c.as_slice.ensures) ∙ eqb-true (length c.as_slice.result.now) 0 (sym c.is_empty.ensures ∙ c.if-is_empty.true) in
    c.if-is_empty.true ∙ sym (used-alone c.args.rules.now.domain c.args.rules.now.reverses c.args.rr.now c.requires none)
