use Rattle.std.proofs.Common.{◌≡◌, ◌++◌, List, ℕ, IfOk, Option, option_map, string_bytes, sym, ap, subst, ◌∙◌}
use Rattle.std.specs.declared.alloc.Global.{Global}
use Rattle.std.specs.declared.string.String.{String}
use Rattle.scripts.specs.Lines.{Word}
use Rattle.scripts.proofs.lines.Joined.{front_found, front_none}
use Rattle.scripts.proofs.wholes.Named.{made-behind, made-else}
use Rattle.scripts.proofs.named.made_in.Goals as goal

pub returns-in-Some : goal.returns-in-Some
returns-in-Some c =
    let line = c.args.line.now in
    let word = c.in-Some.word.now in
    let whole = front_found line c.as_slice.result.now word c.in-Some.ensures.cases.0 c.in-Some.ensures.cases.1 ∙ ap (λ (front : List ℕ). front ++ word) c.as_slice.ensures in
    subst (λ (o : Option Word). IfOk c.plain_word.result (λ (found : Option (String Global)). option_map {T = String Global} {U = Word} (λ w. string_bytes w) found ≡ o)) (made-behind line word whole) c.plain_word.ensures

pub returns-in-None : goal.returns-in-None
returns-in-None c =
    let line = c.args.line.now in
    let other = made-else line (λ w e. front_none line c.as_slice.result.now c.in-None.ensures.cases w (e ∙ ap (λ (front : List ℕ). front ++ w) (sym c.as_slice.ensures))) in
    subst (λ (o : Option Word). IfOk c.client_in.result (λ (found : Option (String Global)). option_map {T = String Global} {U = Word} (λ w. string_bytes w) found ≡ o)) other c.client_in.ensures
