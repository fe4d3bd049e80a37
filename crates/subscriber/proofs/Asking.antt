-- Questions are asked one after the other.
--     IsAsking all left kept      so far
use Rattle.std.proofs.Common.{◌≡◌, List, [], ◌∷◌, sym, ◌∙◌, ap, subst}
use Rattle.std.specs.Prelude.{fold}
use Rattle.rrset.specs.declared.record.Question.{Question}
use Rattle.pushclient.specs.Clients.{Client, new_client, subscribe}
use Rattle.pushclient.specs.Rule.{KeptClient, StandsFor}
use Rattle.subscriber.specs.Said.{asking}

abbrev pub asks_on : List Question → Client → Client
asks_on questions client = fold (λ c q. (subscribe c q).1) client questions

-- what is left leads to the client that has asked all
pub record IsAsking (all left : List Question) (kept : KeptClient) : Type 0 where
  pub client : Client
  pub stands : StandsFor kept client
  pub same : asks_on left client ≡ asking all

pub asking-begins : (all left : List Question) (kept : KeptClient) → left ≡ all → StandsFor kept new_client → IsAsking all left kept
asking-begins all left kept is stands = record { client = new_client; stands = stands; same = ap (λ (l : List Question). asks_on l new_client) is }

pub asking-more : (all left : List Question) (kept later : KeptClient) (q : Question) (rest : List Question) → left ≡ q ∷ rest → ((plain : Client) → StandsFor kept plain → StandsFor later (subscribe plain q).1) → IsAsking all left kept → IsAsking all rest later
asking-more all left kept later q rest is asks a = record { client = (subscribe a.client q).1; stands = asks a.client a.stands; same = sym (ap (λ (l : List Question). asks_on l a.client) is) ∙ a.same }

pub asking-done : (all left : List Question) (kept : KeptClient) → left ≡ [] → IsAsking all left kept → StandsFor kept (asking all)
asking-done all left kept none a = subst (StandsFor kept) (sym (ap (λ (l : List Question). asks_on l a.client) none) ∙ a.same) a.stands
