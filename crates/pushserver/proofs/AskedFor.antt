-- What a question matches of what its session asks for.
--     IsAsked subscriptions question      the subscriptions ask for what it matches
--     matching-sent      what it matches of the records that count as sent of its name
use Rattle.std.proofs.Common.{◌≡◌, Bool, true, false, ◌||◌, List, [], ◌∷◌, ◌∙◌, ap, refl}
use Rattle.std.specs.List.{AllByRecursion}
use Rattle.dnsname.specs.Names.{same_name}
use Rattle.rrset.specs.Records.{matches}
use Rattle.rrset.specs.RecordSet.{RecordSet, at_name, matching}
use Rattle.rrset.specs.declared.record.Key.{Key}
use Rattle.rrset.specs.declared.record.Question.{Question}
use Rattle.rrset.proofs.Sets.{both_true}
use Rattle.coalesce.proofs.Sides.{matching-only}
use Rattle.history.proofs.Present.{matching-at_name}
use Rattle.pushserver.specs.PlainHubs.{Subscription, asks_for, wanted}
use Rattle.pushserver.proofs.hub_steps.Pairs.{all-weaken}

abbrev pub IsAsked : List Subscription → Question → Type 0
IsAsked subscriptions question = (key : Key) → matches question key ≡ true → asks_for subscriptions key ≡ true

one_more : (first : Subscription) (others : List Subscription) (question : Question) → IsAsked others question → IsAsked (first ∷ others) question
one_more first others question asked key is = by (matches first.question key) (asked key is)
  where
    by : (b : Bool) → asks_for others key ≡ true → (b || asks_for others key) ≡ true
    by true is = refl
    by false is = is

-- each of them asks for what it matches
pub all_asked : (subscriptions : List Subscription) → AllByRecursion (λ s. IsAsked subscriptions s.question) subscriptions
all_asked [] = tt
all_asked (s ∷ ss) = (
  λ key is. ap (λ (b : Bool). b || asks_for ss key) is,
  all-weaken (λ (t : Subscription). IsAsked ss t.question) (λ (t : Subscription). IsAsked (s ∷ ss) t.question) (λ t asked. one_more s ss t.question asked) ss (all_asked ss),
)

-- what a question matches has its name
pub matches-name : (question : Question) (key : Key) → matches question key ≡ true → same_name question.name key.owner ≡ true
matches-name question key is = (both_true _ _ (both_true _ _ is).0).0

pub matching-sent : (subscriptions : List Subscription) (question : Question) (set : RecordSet) → IsAsked subscriptions question
    → matching question (wanted subscriptions (at_name question.name set)) ≡ matching question set
matching-sent subscriptions question set asked = matching-only (λ key. asks_for subscriptions key) question asked (at_name question.name set) ∙ matching-at_name question set
