-- IDs that are not in use.
use Rattle.std.proofs.Common.{◌≡◌, ℕ, suc, ◌+◌, ◌-◌, ◌<◌, Bool, true, false, List, sym, ap, ◌∙◌, arith}
use Rattle.std.specs.List.{list_any}
use Rattle.std.specs.Prelude.{◌==◌}
use Rattle.pushclient.specs.Clients.{free_id, id_after}

-- an ID in use is followed by the next
pub more : (turns i whole : ℕ) (used : List ℕ) (id next : ℕ) → i < turns → list_any (λ u. u == id) used ≡ true → next ≡ id_after id → free_id (turns - i) used id ≡ whole → free_id (turns - (i + 1)) used next ≡ whole
more turns i whole used id next within has is so_far =
    let less : turns - i ≡ suc (turns - (i + 1)) = omega (arith, within) in
    ap (free_id (turns - (i + 1)) used) is
    ∙ sym (ap (λ (b : Bool). elim b [ false ↦ id | true ↦ free_id (turns - (i + 1)) used (id_after id) ]) has)
    ∙ sym (ap (λ n. free_id n used id) less) ∙ so_far

pub bound : (turns : ℕ) (used : List ℕ) (start begins id : ℕ) → id ≡ free_id turns used start → start ≡ begins → id ≡ free_id turns used begins
bound turns used start begins id is at = is ∙ ap (free_id turns used) at
