-- What a question has passed that the tests of a SUBSCRIBE accept (RFC 8765, 6.2).
--     Passed, passed      its tests, and that they follow from the verdict
--     passed_own      the same of the question that was asked
use Rattle.std.proofs.Common.{◌≡◌, ℕ, Bool, true, false, cond, not, ◌&&◌, Option, Some, None, refl, ap, subst}
use Rattle.std.specs.Prelude.{nat_le}
use Rattle.push_base.specs.Limits.{max_questions}
use Rattle.rrset.specs.Rcodes.{notauth, refused}
use Rattle.rrset.specs.declared.record.Question.{Question}
use Rattle.dsosession.specs.declared.session.EndReason.TheVariants as ends
use Rattle.pushsession.specs.Sessions.{Keeps}
use Rattle.pushsession.specs.Subscribing as subscribing
use Rattle.pushsession.specs.Subscribing.{Verdict, is_served, verdict_on}

-- what an accepted question has passed
pub record Passed {A Q M : Type 0} (keeps : Keeps A Q M) (id : ℕ) (question : Question) (has_home : Bool) (subscriptions : A) : Type 0 where
  pub new_id : keeps.has_id id subscriptions ≡ false
  pub new_question : keeps.id_of question subscriptions ≡ None
  pub class : is_served question.class ≡ true
  pub home : has_home ≡ true
  pub room : nat_le max_questions (keeps.count subscriptions) ≡ false

module _ {A Q M : Type 0} (keeps : Keeps A Q M) (id : ℕ) (has_home : Bool) (subscriptions : A) where
  pub passed : (given : Option Question) (question : Question) → verdict_on keeps id given has_home subscriptions ≡ subscribing.Accept question → (given ≡ Some question) × Passed keeps id question has_home subscriptions
  passed None question e = absurd cc
  passed (Some q) question e = by (keeps.has_id id subscriptions) refl (keeps.id_of q subscriptions) refl (is_served q.class) refl has_home refl (nat_le max_questions (keeps.count subscriptions)) refl e
    where
      by : (used : Bool) → keeps.has_id id subscriptions ≡ used → (active : Option ℕ) → keeps.id_of q subscriptions ≡ active → (served : Bool) → is_served q.class ≡ served
          → (home : Bool) → has_home ≡ home → (full : Bool) → nat_le max_questions (keeps.count subscriptions) ≡ full
          → cond used (subscribing.Abort (ends.IdInUse id)) (elim active as (λ _. Verdict) [
            | Some other ↦ subscribing.Abort (ends.Twice other)
            | None ↦ cond (not (served && home)) (subscribing.Refuse notauth) (cond full (subscribing.Refuse refused) (subscribing.Accept q))
          ]) ≡ subscribing.Accept question → (Some q ≡ Some question) × Passed keeps id question has_home subscriptions
      by true u active a served s home h full f e = absurd cc
      by false u (Some other) a served s home h full f e = absurd cc
      by false u None a false s home h full f e = absurd cc
      by false u None a true s false h full f e = absurd cc
      by false u None a true s true h true f e = absurd cc
      by false u None a true s true h false f e =
          let same : q ≡ question = cc in
          (ap (λ q. Some q) same, subst (λ q. Passed keeps id q has_home subscriptions) same (record { new_id = u; new_question = a; class = s; home = h; room = f }))

  pub passed_own : (question : Question) → verdict_on keeps id (Some question) has_home subscriptions ≡ subscribing.Accept question → Passed keeps id question has_home subscriptions
  passed_own question accepted = (passed (Some question) question accepted).1
