-- A link that goes away: all rows go, and there are some where there are moments at which they end.
use Rattle.std.proofs.Common.{◌≡◌, ℕ, true, false, cond, not, [], ◌∷◌, Some, None, option_map, refl, sym, ap, subst, ◌∙◌, arith}
use Rattle.std.specs.Prelude.{is_none}
use Rattle.std.specs.List.{find}
use Rattle.push_base.specs.Cases.{is_empty}
use Rattle.clockqueue.specs.Deadlines.{Deadlines, is_of, first_moment}
use Rattle.rrset.specs.declared.record.Key.{Key}
use Rattle.rrset.specs.Records.{key_cmp}
use Rattle.rrset.specs.KeyedRows.{only_rows, row_at}
use Rattle.rrset.proofs.SameRows.{same_key-self}
use Rattle.linkcache.specs.declared.rules.LinkRules.{LinkRules}
use Rattle.linkcache.specs.Rows.{LinkRows}
use Rattle.linkcache.specs.Within.{IsWithin}
use Rattle.linkcache.specs.Parts.{fails}
use Rattle.linkcache.specs.Ends.{AreEnds}
use Rattle.linkcache.specs.Links.{IsLink}
use Rattle.linkcache.specs.Plans.{LinkPlan, HaveLowerKeys, with_row_changes, Leads, IsPlanBetween, IsGonePlan}
use Rattle.linkcache.proofs.Moves.{leads}
use Rattle.linkcache.proofs.RowEnds.{ends_of}
use Rattle.linkcache.proofs.LeadingPlans.{rises}

all-pass : (es : LinkRows) → es ≡ only_rows (λ key. true) es
all-pass [] = refl
all-pass (e ∷ es) = ap (λ (l : LinkRows). e ∷ l) (all-pass es)

none-fails : (es : LinkRows) → only_rows (fails (λ key. true)) es ≡ []
none-fails [] = refl
none-fails (e ∷ es) = none-fails es

pub none-within : (rules : LinkRules) → IsWithin rules []
none-within rules = record { few = omega arith; owners = λ owner. omega arith }

-- where there are moments there are rows, and where there are none there is none
pub some-row : (ds : Deadlines Key) (rows : LinkRows) → AreEnds ds rows → is_none (first_moment ds) ≡ false → not (is_empty rows) ≡ true
some-row [] rows are some = absurd cc
some-row (d ∷ ds) [] are some =
    let nowhere : Some d.0 ≡ None = sym (ap (λ b. option_map (λ (x : ℕ × Key). x.0) (cond b (Some d) (find (is_of key_cmp d.1) ds))) (same_key-self d.1)) ∙ are d.1 in
    absurd cc
some-row (d ∷ ds) (e ∷ es) are some = refl

pub no-row : (ds : Deadlines Key) (rows : LinkRows) → AreEnds ds rows → is_none (first_moment ds) ≡ true → rows ≡ []
no-row (d ∷ ds) rows are none = absurd cc
no-row [] [] are none = refl
no-row [] (e ∷ es) are none =
    let nowhere : None ≡ Some e.1.ends = are e.0 ∙ ap (λ b. ends_of (cond b (Some e.1) (row_at e.0 es))) (same_key-self e.0) in
    absurd cc

module _ (rules : LinkRules) (rows : LinkRows) (plan : LinkPlan) (ds : Deadlines Key) (ends : AreEnds ds rows) where
  pub nothing-gone : is_none (first_moment ds) ≡ true → plan.usable ≡ false → plan.rows ≡ [] → plan.changed ≡ [] → IsGonePlan rules rows plan
  nothing-gone none usable same unchanged = record {
    usable = usable ∙ ap (λ (l : LinkRows). not (is_empty l)) (sym (no-row ds rows ends none));
    leads = subst (λ (l : LinkRows). Leads rules l plan []) (sym (no-row ds rows ends none)) (record {
      keys = subst HaveLowerKeys (sym same) tt;
      reached = ap (λ cs. with_row_changes cs []) same;
      shown = unchanged;
      sound = tt;
      within = none-within rules;
    });
  }

  pub gone-leads : IsLink (record { rules = rules; rows = rows }) → (part work : LinkRows) → is_none (first_moment ds) ≡ false → part ≡ rows → work ≡ [] → plan.usable ≡ true → IsPlanBetween rules part work plan → IsGonePlan rules rows plan
  gone-leads link part work some part-is work-is usable between = record {
    usable = usable ∙ sym (some-row ds rows ends some);
    leads = leads rules link.name link.apart (λ key. true) rows [] part work plan (rises rules rows link) tt link.sound tt (none-within rules)
        (none-fails rows) (part-is ∙ all-pass rows) work-is between;
  }
