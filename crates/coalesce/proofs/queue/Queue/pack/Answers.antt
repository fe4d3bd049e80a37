use Rattle.std.proofs.Common.{◌≡◌, ℕ, ◌-◌, List, length, drop, ap, sym, ◌∙◌, arith}
use Rattle.coalesce.specs.Waiting.{WaitingName, names_waiting, packed_of, left_in}
use Rattle.coalesce.proofs.Entries.{Entry, names-dropped, count-waiting}
use Rattle.coalesce.proofs.queue.Queue.pack.Goals as goal

pub returns-clause-left : goal.returns-clause-left
returns-clause-left g c =
    let asked = c.args.questions.now in
    let rows = c.args.index.now.rows in
    let entries = c.self.inside.names.entries in
    let count : c.front_of-front.result.names ≡ length (names_waiting entries) - length (packed_of asked rows (names_waiting entries)).1 =
    c.front_of-front.ensures.names
    ∙ ap (λ (l : List Entry). length l - length (packed_of asked rows (names_waiting l)).1) c.as_slice.ensures.entries
    ∙ ap (λ (n : ℕ). n - length (packed_of asked rows (names_waiting entries)).1) (sym (count-waiting entries)) in
    ap names_waiting c.drop_front.ensures
    ∙ names-dropped c.front_of-front.result.names entries
    ∙ ap (λ (n : ℕ). drop n (names_waiting entries)) count
    ∙ ap (left_in asked rows) c.self.view_is

pub pack_lone-requires-clause-lone : goal.pack_lone-requires-clause-lone
pack_lone-requires-clause-lone g c =
    let one = ap (λ (q : List WaitingName). length q) (sym c.self.view_is) ∙ count-waiting c.self.inside.names.entries in
    omega (arith, one, c.len-count.ensures.len, c.if-count-eq1.true)
