-- What is asked of one link, where another thing is asked of it.
--     there-then, twice-changed, itself-changed      the link at a place
--     changed-ordered      what is asked otherwise stays in order
--     ordered-there, ordered-changed      so does what links are asked
use Rattle.std.proofs.Common.{◌≡◌, ℕ, zero, suc, Bool, true, false, cond, ◌&&◌, List, [], ◌∷◌, map, Option, Some, None, refl, sym, ◌∙◌, ap, subst}
use Rattle.std.specs.Prelude.{slice_get, IsTrue}
use Rattle.std.specs.FinMap.Entries.{below_all}
use Rattle.std.specs.Ordering.{is_lt}
use Rattle.push_base.specs.Cases.{changed_at}
use Rattle.rrset.specs.declared.record.Question.{Question}
use Rattle.linkask.specs.Asking.{Asks, Wanted, are_in_order, asked_cmp}
use Rattle.linkask.specs.Reasons.{LinkAsking}
use Rattle.hubasking.specs.LinkAskings.{Askings}
use Rattle.replay.specs.Askings.{AreOrdered}

-- a link that is asked this
abbrev pub wanting : Wanted → LinkAsking → LinkAsking
wanting w a = record a { wanted = w }

pub there-then : (link : ℕ) (w : Wanted) (a : LinkAsking) (askings : Askings) → slice_get askings link ≡ Some a → slice_get (changed_at link (wanting w) askings) link ≡ Some (wanting w a)
there-then link w a [] is = absurd cc
there-then zero w a (b ∷ askings) is = ap (λ (o : Option LinkAsking). elim o as (λ _. Option LinkAsking) [ None ↦ None | Some x ↦ Some (wanting w x) ]) is
there-then (suc link) w a (b ∷ askings) is = there-then link w a askings is

pub twice-changed : (link : ℕ) (v w : Wanted) (askings : Askings) → changed_at link (wanting w) (changed_at link (wanting v) askings) ≡ changed_at link (wanting w) askings
twice-changed link v w [] = refl
twice-changed zero v w (a ∷ askings) = refl
twice-changed (suc link) v w (a ∷ askings) = ap (λ (rest : Askings). a ∷ rest) (twice-changed link v w askings)

pub itself-changed : (link : ℕ) (a : LinkAsking) (askings : Askings) → slice_get askings link ≡ Some a → changed_at link (wanting a.wanted) askings ≡ askings
itself-changed link a [] is = absurd cc
itself-changed zero a (b ∷ askings) is = (let same : b ≡ a = cc in ap (λ (x : LinkAsking). wanting x.wanted b ∷ askings) (sym same))
itself-changed (suc link) a (b ∷ askings) is = ap (λ (rest : Askings). b ∷ rest) (itself-changed link a askings is)

-- ---- order

-- other values at some keys change no order
module _ (test : Question × Asks → Bool) (value : Question × Asks → Asks) where
  abbrev changing : Question × Asks → Question × Asks
  changing e = cond (test e) (e.0, value e) e

  key-stays : (b : Bool) (e : Question × Asks) → (cond b (e.0, value e) e).0 ≡ e.0
  key-stays true e = refl
  key-stays false e = refl

  below-stays : (q : Question) (all : Wanted) → below_all asked_cmp q (map changing all) ≡ below_all asked_cmp q all
  below-stays q [] = refl
  below-stays q (e ∷ all) = λ i. is_lt (asked_cmp q (key-stays (test e) e i)) && below-stays q all i

  pub changed-ordered : (all : Wanted) → are_in_order (map changing all) ≡ are_in_order all
  changed-ordered [] = refl
  changed-ordered (e ∷ all) = λ i. (ap (λ (q : Question). below_all asked_cmp q (map changing all)) (key-stays (test e) e) ∙ below-stays e.0 all) i && changed-ordered all i

pub ordered-there : (link : ℕ) (a : LinkAsking) (askings : Askings) → AreOrdered askings → slice_get askings link ≡ Some a → IsTrue (are_in_order a.wanted)
ordered-there link a [] all is = absurd cc
ordered-there zero a (b ∷ askings) all is = (let same : b ≡ a = cc in subst (λ (x : LinkAsking). IsTrue (are_in_order x.wanted)) same all.0)
ordered-there (suc link) a (b ∷ askings) all is = ordered-there link a askings all.1 is

pub ordered-changed : (link : ℕ) (w : Wanted) (askings : Askings) → IsTrue (are_in_order w) → AreOrdered askings → AreOrdered (changed_at link (wanting w) askings)
ordered-changed link w [] is all = tt
ordered-changed zero w (a ∷ askings) is all = (is, all.1)
ordered-changed (suc link) w (a ∷ askings) is all = (all.0, ordered-changed link w askings is all.1)
