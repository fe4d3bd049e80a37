-- A question is asked, or a dropped one is wanted again: the kept client's call and the plain one's.
use Rattle.std.proofs.Common.{◌≡◌, ℕ, suc, Bool, true, false, cond, not, ◌&&◌, List, [], ◌∷◌, ◌++◌, length, map, Option, Some, None, refl, sym, ap, subst, ◌∙◌}
use Rattle.std.specs.Prelude.{if◌then◌else◌, find, option_map, nat_le}
use Rattle.std.specs.List.{IsDistinct, AllByRecursion}
use Rattle.push_base.specs.Limits.{max_questions}
use Rattle.std.proofs.lemmas.Bool.{leb-false}
use Rattle.dnsname.proofs.Decisions.{and_true}
use Rattle.rrset.specs.Records.{same_question}
use Rattle.rrset.specs.declared.record.Question.{Question}
use Rattle.pushclient.specs.declared.client.Asked.{Asked}
use Rattle.pushclient.specs.declared.client.Asked.TheVariants as asked
use Rattle.pushclient.specs.Clients.{Client, Wish, RequestState, not_asked, unanswered, refused, answered, asks, subscribe, wish_for, without_wish}
use Rattle.pushclient.specs.Rule.{KeptClient, StandsFor, BothAnswer, without_told, set_told, is_answered_for}
use Rattle.pushclient.specs.Steps.{is_answered}
use Rattle.pushclient.specs.Kept.{kept_ask, kept_ask_first, kept_subscribe}
use Rattle.pushclient.specs.SoundClients.{IsRightlyDropped, is_waiting, question_of}
use Rattle.pushclient.proofs.SoundWishes.{all_found, same_as, not_back, not_both, some_is}
use Rattle.pushclient.proofs.SoundCalls.{again_sound, asks_sound, apart_more}
use Rattle.pushclient.proofs.Standing.{filter_map, find_behind, map_behind, ask_stands}
use Rattle.pushclient.proofs.Dropping.{off_and, find_left, find_gone, found_told}

length_told : (ws : List Wish) → length (map without_told ws) ≡ length ws
length_told [] = refl
length_told (w ∷ ws) = ap (λ n. suc n) (length_told ws)

-- no other wish is for the question
none_same : (x u : Question) (ws : List Wish) → same_question u x ≡ true → AllByRecursion (λ y. same_question u y ≡ false) (map question_of ws) → find (is_answered_for x) ws ≡ None
none_same x u [] h all = refl
none_same x u (w ∷ ws) h all =
    let other : same_question w.question x ≡ false = sym (same_as u x w.question h) ∙ not_back u w.question all.0 in
    ap (λ (b : Bool). cond (is_answered w.standing && b) (Some w) (find (is_answered_for x) ws)) other
    ∙ ap (λ (b : Bool). cond b (Some w) (find (is_answered_for x) ws)) (off_and (is_answered w.standing))
    ∙ none_same x u ws h all.1

pub none_answered_for : (q x : Question) (w : Wish) (ws : List Wish) → same_question q x ≡ true → IsDistinct same_question (map question_of ws) → find (λ v. same_question v.question q) ws ≡ Some w → is_answered w.standing ≡ false → find (is_answered_for x) ws ≡ None
unfolding IsDistinct
none_answered_for q x w [] same apart found h = refl
none_answered_for q x w (v ∷ ws) same apart found h = by (same_question v.question q) refl found (λ e. none_answered_for q x w ws same apart.1 e h)
  where
    by : (b : Bool) → same_question v.question q ≡ b → cond b (Some v) (find (λ v. same_question v.question q) ws) ≡ Some w → (find (λ v. same_question v.question q) ws ≡ Some w → find (is_answered_for x) ws ≡ None)
        → cond (is_answered v.standing && same_question v.question x) (Some v) (find (is_answered_for x) ws) ≡ None
    by true is e rest =
        let unanswered_is : is_answered v.standing ≡ false = ap (λ (z : Wish). is_answered z.standing) (some_is v w e) ∙ h in
        ap (λ (b : Bool). cond (b && same_question v.question x) (Some v) (find (is_answered_for x) ws)) unanswered_is
        ∙ none_same x v.question ws (sym (same_as q x v.question same) ∙ is) apart.0
    by false is e rest =
        ap (λ (b : Bool). cond (is_answered v.standing && b) (Some v) (find (is_answered_for x) ws)) (sym (same_as q x v.question same) ∙ is)
        ∙ ap (λ (b : Bool). cond b (Some v) (find (is_answered_for x) ws)) (off_and (is_answered v.standing))
        ∙ rest e

waits_unanswered : (standing : RequestState) → is_waiting standing ≡ true → is_answered standing ≡ false
waits_unanswered not_asked e = refl
waits_unanswered (unanswered id) e = refl
waits_unanswered (refused rcode) e = refl
waits_unanswered (answered id) e = absurd cc

module _ (k : KeptClient) (p : Client) (s : StandsFor k p) (q : Question) where
  -- the sets stay where a wish without an answer goes
  pub left_there : (w : Wish) → wish_for p q ≡ Some w → is_answered w.standing ≡ false → (x : Question) → find (is_answered_for x) (without_wish q p.wishes) ≡ find (is_answered_for x) p.wishes
  left_there w found h x = by (same_question q x) refl
    where
      by : (t : Bool) → same_question q x ≡ t → find (is_answered_for x) (without_wish q p.wishes) ≡ find (is_answered_for x) p.wishes
      by true is =
          find_gone (is_answered_for x) (λ v. not (same_question v.question q)) (λ v e. ap not (same_as q x v.question is ∙ (and_true (is_answered v.standing) (same_question v.question x) e).1)) p.wishes
          ∙ sym (none_answered_for q x w p.wishes is s.sound.questions found h)
      by false is = find_left (is_answered_for x) (λ v. not (same_question v.question q)) (λ v e. ap not (not_both q x v.question is (and_true (is_answered v.standing) (same_question v.question x) e).1)) p.wishes

  abbrev again : Wish → Wish
  again w = record w { wanted = true }

  again_stands : (w : Wish) → wish_for p q ≡ Some w → w.wanted ≡ false
      → StandsFor (record k { wishes = without_wish q k.wishes ++ again (without_told w) ∷ [] }) (record p { wishes = without_wish q p.wishes ++ again w ∷ [] })
  again_stands w found unwanted =
      let h = waits_unanswered w.standing (all_found IsRightlyDropped (λ v. same_question v.question q) p.wishes w s.sound.dropped found unwanted) in
      record {
        wishes = ap (λ (ws : List Wish). without_wish q ws ++ again (without_told w) ∷ []) s.wishes
            ∙ ap (λ (ws : List Wish). ws ++ again (without_told w) ∷ []) (filter_map (λ v. not (same_question v.question q)) without_told p.wishes)
            ∙ sym (map_behind without_told (without_wish q p.wishes) (again w));
        connection = s.connection;
        now = s.now;
        sets = λ x. s.sets x ∙ sym (ap (option_map set_told) (find_behind (is_answered_for x) (without_wish q p.wishes) (again w) (ap (λ (b : Bool). b && same_question w.question x) h) ∙ left_there w found h x));
        sound = again_sound p s.sound q w found unwanted;
      }

  first_stands : wish_for p q ≡ None → BothAnswer (kept_ask_first q k) (if nat_le max_questions (length p.wishes) then (asked.Many, p) else (asked.New, asks p q))
  first_stands none = subst (λ (n : ℕ). BothAnswer {X = Asked} (if nat_le max_questions n then (asked.Many, k) else (asked.New, kept_ask q k)) (if nat_le max_questions (length p.wishes) then (asked.Many, p) else (asked.New, asks p q)))
      (sym (ap length s.wishes ∙ length_told p.wishes)) (tested (nat_le max_questions (length p.wishes)) refl)
    where
      tested : (t : Bool) → nat_le max_questions (length p.wishes) ≡ t → BothAnswer {X = Asked} (if t then (asked.Many, k) else (asked.New, kept_ask q k)) (if t then (asked.Many, p) else (asked.New, asks p q))
      tested true is = (refl, s)
      tested false is = (refl, ask_stands k p s q (asks_sound p q s.sound (leb-false max_questions (length p.wishes) is) (apart_more p s.sound q none)))

  abbrev subscribed_kept : Option Wish → Asked × KeptClient
  subscribed_kept o = elim o [
    | Some wish ↦ if wish.wanted then (asked.Already, k) else (asked.New, record k { wishes = without_wish q k.wishes ++ (record wish { wanted = true }) ∷ [] })
    | None ↦ kept_ask_first q k
  ]

  abbrev subscribed_plain : Option Wish → Asked × Client
  subscribed_plain o = elim o [
    | Some wish ↦ if wish.wanted then (asked.Already, p) else (asked.New, record p { wishes = without_wish q p.wishes ++ (record wish { wanted = true }) ∷ [] })
    | None ↦ if nat_le max_questions (length p.wishes) then (asked.Many, p) else (asked.New, asks p q)
  ]

  pub subscribe_stands : BothAnswer (kept_subscribe k q) (subscribe p q)
  subscribe_stands = subst (λ (o : Option Wish). BothAnswer (subscribed_kept o) (subscribed_plain (wish_for p q))) (sym (found_told k p s q)) (by (wish_for p q) refl)
    where
      tested : (t : Bool) (w : Wish) → wish_for p q ≡ Some w → w.wanted ≡ t
          → BothAnswer {X = Asked} (if t then (asked.Already, k) else (asked.New, record k { wishes = without_wish q k.wishes ++ again (without_told w) ∷ [] })) (if t then (asked.Already, p) else (asked.New, record p { wishes = without_wish q p.wishes ++ again w ∷ [] }))
      tested true w e is = (refl, s)
      tested false w e is = (refl, again_stands w e is)

      by : (u : Option Wish) → wish_for p q ≡ u → BothAnswer (subscribed_kept (option_map without_told u)) (subscribed_plain u)
      by None e = first_stands e
      by (Some w) e = tested w.wanted w e refl
