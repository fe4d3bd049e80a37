-- Plans of each kind lead where they should.
use Rattle.std.proofs.Common.{◌≡◌, ℕ, ◌+◌, Bool, true, false, not, T, List, [], ◌∷◌, nat_lt, Option, Some, None, is_some, Result, Ok, Err, refl, sym, ap, subst, ◌∙◌}
use Rattle.std.specs.Result.{IfOk}
use Rattle.push_base.specs.Cases.{is_empty}
use Rattle.clockqueue.specs.Deadlines.{Deadlines, AreDeadlines, first_moment}
use Rattle.rrset.specs.declared.record.Key.{Key}
use Rattle.rrset.specs.declared.record.HeardRr.{HeardRr}
use Rattle.rrset.specs.Records.{key_cmp}
use Rattle.rrset.specs.Tables.{HasLowerOwner, HaveLowerOwners}
use Rattle.rrset.specs.KeyedRows.{is_rising, only_rows, row_at}
use Rattle.rrset.proofs.LowerNames.{key_of-lower}
use Rattle.rrset.proofs.Places.{all_filter}
use Rattle.rrset.proofs.SameRows.{changes-self}
use Rattle.linkcache.specs.declared.plan.RowChange.{RowChange}
use Rattle.linkcache.specs.declared.row.HeardRow.{HeardRow}
use Rattle.linkcache.specs.Rows.{LinkRows, rr_of_row, usable_of, has_key, heard_beside, heard, at_moment, reconfirmed, reconfirmation, shown_rows}
use Rattle.linkcache.specs.Sound.{IsLinkRow, AreLinkRows}
use Rattle.linkcache.specs.Within.{IsWithin}
use Rattle.linkcache.specs.Ends.{AreEnds, has_come, is_due}
use Rattle.linkcache.specs.Links.{IsLink}
use Rattle.linkcache.specs.Plans.{LinkPlan, HaveLowerKeys, with_row_changes, Leads, IsPlanBetween, IsPlanOf, IsHeardPlan, IsMomentPlan, IsReconfirmPlan}
use Rattle.linkcache.proofs.KeyedParts.{Rising, rising-filter}
use Rattle.linkcache.proofs.SoundSteps.{sound-moment}
use Rattle.linkcache.proofs.Moves.{leads, rising-changes}
use Rattle.linkcache.proofs.Copies.{found-lower}
use Rattle.linkcache.proofs.DueRows.{due-goes, none-come}
use Rattle.linkcache.proofs.EndedRows.{end_none}
use Rattle.linkcache.proofs.HeardSteps.{has-found}
use Rattle.linkcache.proofs.OwnerSizes.{within-moment}
use Rattle.linkcache.specs.declared.rules.LinkRules.{LinkRules}

is_true : (b : Bool) → T b → b ≡ true
is_true true h = refl
is_true false h = absurd h

pub rises : (rules : LinkRules) (rows : LinkRows) → IsLink (record { rules = rules; rows = rows }) → Rising rows
rises rules rows link = subst T (sym link.order) tt

-- the keys of a link's rows are in lower case
pub rows-lower : (rules : LinkRules) (rows : LinkRows) → AreLinkRows rules rows → HaveLowerOwners rows
rows-lower rules [] sound = tt
rows-lower rules (e ∷ es) sound = (subst HasLowerOwner sound.0.key (key_of-lower (rr_of_row e)), rows-lower rules es sound.1)

-- ---- parts

pub part-sound : (rules : LinkRules) (p : Key → Bool) (rows part : LinkRows) → AreLinkRows rules rows → part ≡ only_rows p rows → AreLinkRows rules part
part-sound rules p rows part sound is = subst (AreLinkRows rules) (sym is) (all_filter (IsLinkRow rules) (λ e. p e.0) rows sound)

-- ---- one key

module _ (rules : LinkRules) (rows : LinkRows) (link : IsLink (record { rules = rules; rows = rows })) where
  pub key-lower : (key : Key) → has_key key rows ≡ true → HasLowerOwner key
  key-lower key there = by (row_at key rows) refl (has-found key rows ∙ there)
    where
      by : (o : Option HeardRow) → row_at key rows ≡ o → is_some o ≡ true → HasLowerOwner key
      by None is e = absurd cc
      by (Some row) is e = found-lower key row rows (rows-lower rules rows link.sound) is

-- ---- nothing to change

module _ (rules : LinkRules) (rows : LinkRows) (link : IsLink (record { rules = rules; rows = rows })) (plan : LinkPlan) where
  stays : plan.rows ≡ [] → plan.changed ≡ [] → (later : LinkRows) → later ≡ rows → Leads rules rows plan later
  stays none unchanged later is = subst (Leads rules rows plan) (sym is) (record {
    keys = subst HaveLowerKeys (sym none) tt;
    reached = ap (λ cs. with_row_changes cs rows) none;
    shown = unchanged ∙ sym (changes-self (shown_rows rules rows));
    sound = link.sound;
    within = link.within;
  })

  empty-none : {A : Type 0} (xs : List A) → not (is_empty xs) ≡ false → xs ≡ []
  empty-none [] e = refl
  empty-none (x ∷ xs) e = absurd cc

  pub nothing-heard : (now : ℕ) (hearing : List HeardRr) → not (is_empty (usable_of rules hearing)) ≡ false → plan.usable ≡ false → plan.rows ≡ [] → plan.changed ≡ [] → IsHeardPlan rules rows now hearing plan
  nothing-heard now hearing empty usable none unchanged = record {
    usable = usable ∙ sym empty;
    leads = stays none unchanged (heard rules rows now hearing) (ap (λ (us : List HeardRr). heard_beside 0 rules rows now us) (empty-none (usable_of rules hearing) empty));
  }

  pub nothing-due : (now : ℕ) (ds : Deadlines Key) → AreDeadlines key_cmp ds → AreEnds ds rows → has_come now (first_moment ds) ≡ false → plan.usable ≡ false → plan.rows ≡ [] → plan.changed ≡ [] → IsMomentPlan rules rows now plan
  nothing-due now ds are ends none-due usable none unchanged = record {
    usable = usable;
    leads = stays none unchanged (at_moment rows now) (none-come now ds rows are (rises rules rows link) ends none-due);
  }

  none-found : (key : Key) → has_key key rows ≡ false → row_at key rows ≡ None
  none-found key e = by (row_at key rows) (has-found key rows ∙ e)
    where
      by : (o : Option HeardRow) → is_some o ≡ false → o ≡ None
      by None e = refl
      by (Some row) e = absurd cc

  pub nothing-reconfirmed : (key : Key) (now : ℕ) → has_key key rows ≡ false → plan.usable ≡ false → plan.rows ≡ [] → plan.changed ≡ [] → IsReconfirmPlan rules rows key now plan
  nothing-reconfirmed key now absent usable none unchanged = record {
    usable = usable;
    leads = stays none unchanged (reconfirmed rows key now) (sym (end_none key (now + reconfirmation) rows link.order (none-found key absent)));
  }

  -- ---- a hearing

  pub heard-leads : (now : ℕ) (hearing : List HeardRr) (later : LinkRows) → later ≡ heard rules rows now hearing → not (is_empty (usable_of rules hearing)) ≡ true → plan.usable ≡ true → Leads rules rows plan later → IsHeardPlan rules rows now hearing plan
  heard-leads now hearing later is some usable led = record { usable = usable ∙ sym some; leads = subst (Leads rules rows plan) is led }

  -- ---- a moment

  pub moment-leads : (now : ℕ) (ds : Deadlines Key) (part work : LinkRows) → AreDeadlines key_cmp ds → AreEnds ds rows → part ≡ only_rows (is_due now ds) rows → work ≡ [] → plan.usable ≡ false → IsPlanBetween rules part work plan
      → IsMomentPlan rules rows now plan
  moment-leads now ds part work are ends part-is work-is usable between = let goes = due-goes now ds rows are (rises rules rows link) ends in record {
    usable = usable;
    leads = leads rules link.name link.apart (is_due now ds) rows (at_moment rows now) part work plan (rises rules rows link) later-rises link.sound (sound-moment rules now rows link.sound) (within-moment rules now rows link.within) goes.1 part-is (work-is ∙ sym goes.0) between;
  }
    where
      later-rises : Rising (at_moment rows now)
      later-rises = rising-filter (λ e. nat_lt now e.1.ends) rows (rises rules rows link)

  -- ---- a reconfirmation

  pub reconfirm-leads : (key : Key) (now : ℕ) (later : LinkRows) → later ≡ reconfirmed rows key now → plan.usable ≡ false → Leads rules rows plan later → IsReconfirmPlan rules rows key now plan
  reconfirm-leads key now later is usable led = record { usable = usable; leads = subst (Leads rules rows plan) is led }

-- what is made of a plan holds of the plan that a call gives, if it gives one
pub if_both : {A E : Type 0} (P Q R : A → Type 0) (r : Result A E) → IfOk r P → IfOk r Q → ((a : A) → P a → Q a → R a) → IfOk r R
if_both P Q R (Ok a) p q makes = makes a p q
if_both P Q R (Err e) p q makes = tt

-- ---- a plan that is made

pub applied : (rules : LinkRules) (rows later : LinkRows) (cs : List RowChange) (plan : LinkPlan) → IsLink (record { rules = rules; rows = rows }) → later ≡ with_row_changes cs rows → cs ≡ plan.rows → IsPlanOf rules rows plan
    → IsLink (record { rules = rules; rows = later })
applied rules rows later cs plan link later-is cs-is planned = record {
  name = link.name;
  reverses = link.reverses;
  apart = link.apart;
  order = ap is_rising later-is ∙ is_true (is_rising (with_row_changes cs rows)) (rising-changes cs rows (rises rules rows link));
  sound = subst (AreLinkRows rules) (sym (later-is ∙ ap (λ (l : List RowChange). with_row_changes l rows) cs-is ∙ planned.1.reached)) planned.1.sound;
  within = subst (IsWithin rules) (sym (later-is ∙ ap (λ (l : List RowChange). with_row_changes l rows) cs-is ∙ planned.1.reached)) planned.1.within;
}
