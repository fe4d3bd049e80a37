use Rattle.std.proofs.Common.{◌≡◌, ◌≢◌, ℕ, Bool, true, false, ◌∙◌, refl, sym, ap, map}
use Rattle.std.specs.Prelude.{◌==◌}
use Rattle.std.specs.List.{dedup_from}
use Rattle.std.proofs.lemmas.Bool.{eqb-true}
use Rattle.rrset.specs.RecordSet.{RecordSet}
use Rattle.coalesce.specs.Steps.{gone_form}
use Rattle.coalesce.proofs.Forms.{gone_form-several}
use Rattle.coalesce.proofs.form.gone.Goals as goal

eqb-other : (a b : ℕ) → a ≢ b → (a == b) ≡ false
eqb-other a b other = by (a == b) refl
  where
    by : (t : Bool) → (a == b) ≡ t → t ≡ false
    by true e = absurd (other (eqb-true a b e))
    by false e = refl

pub returns-then-key-first : goal.returns-then-key-first
returns-then-key-first c =
    sym (gone_form-several c.in-Some.field-0.now.0.kind c.in-Some-next.field-0.now.0.kind (map (λ e. e.0.kind) c.next-in-records.new.self)
    (eqb-other c.in-Some-next.field-0.now.0.kind c.in-Some.field-0.now.0.kind c.if-key-first.true))
    ∙ ap (λ (l : RecordSet). gone_form (dedup_from (λ a b. a == b) c.in-Some.field-0.now.0.kind (map (λ e. e.0.kind) l))) (sym c.in-Some-next.ensures.rest)
    ∙ c.records.invariant
