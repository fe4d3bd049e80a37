-- Sets where a wish is answered and where a PUSH is taken.
use Rattle.std.proofs.Common.{◌≡◌, ℕ, Bool, true, false, cond, ◌&&◌, List, [], ◌∷◌, ◌++◌, map, Option, Some, None, refl, sym, ap, ◌∙◌}
use Rattle.std.specs.Prelude.{if◌then◌else◌, find, option_map}
use Rattle.std.proofs.lemmas.List.Sums.{fold-append}
use Rattle.rrset.specs.Records.{same_question}
use Rattle.rrset.specs.RecordSet.{RecordSet}
use Rattle.rrset.specs.declared.record.Question.{Question}
use Rattle.dsotlv.specs.declared.message.Notice.{Notice}
use Rattle.dsotlv.specs.Notices.{applied, applied_all}
use Rattle.mirror.specs.Held.{Held as Sets, is_of, begun, applied_to}
use Rattle.pushclient.specs.Clients.{Wish, RequestState, not_asked, unanswered, refused, answered}
use Rattle.pushclient.specs.Rule.{set_told, is_answered_for, stood_wish}
use Rattle.pushclient.specs.Steps.{is_answered, is_unanswered}
use Rattle.pushclient.proofs.Standing.{find_map}
use Rattle.pushclient.proofs.SoundWishes.{same_as, not_both, find_holds}
use Rattle.pushclient.proofs.Dropping.{off_and}

-- ---- lists

find_same : {A : Type 0} (p q : A → Bool) → ((x : A) → p x ≡ q x) → (xs : List A) → find p xs ≡ find q xs
find_same p q same [] = refl
find_same p q same (x ∷ xs) = ap (λ (b : Bool). cond b (Some x) (find p xs)) (same x) ∙ ap (λ (o : Option _). cond (q x) (Some x) o) (find_same p q same xs)

find_never : {A : Type 0} (p : A → Bool) → ((x : A) → p x ≡ false) → (xs : List A) → find p xs ≡ None
find_never p never [] = refl
find_never p never (x ∷ xs) = ap (λ (b : Bool). cond b (Some x) (find p xs)) (never x) ∙ find_never p never xs

-- ---- questions

-- two that are one are apart from the same third
apart_too : (q x y : Question) → same_question y q ≡ true → same_question q x ≡ false → same_question y x ≡ false
apart_too q x y one other = by (same_question y x) refl
  where
    by : (t : Bool) → same_question y x ≡ t → t ≡ false
    by true e = let none : same_question y q ≡ false = not_both q x y other e in absurd cc
    by false e = refl

pub not_answered : (id : ℕ) (standing : RequestState) → is_unanswered id standing ≡ true → is_answered standing ≡ false
not_answered id (answered other) e = absurd cc
not_answered id (unanswered other) e = refl
not_answered id (refused rcode) e = refl
not_answered id not_asked e = refl

-- ---- the wish for a question stands otherwise

-- a wish for another question is passed over
passed : (x : Question) (w : Wish) (o : Option Wish) → same_question w.question x ≡ false → cond (is_answered_for x w) (Some w) o ≡ o
passed x w o h = ap (λ (b : Bool). cond (is_answered w.standing && b) (Some w) o) h ∙ ap (λ (b : Bool). cond b (Some w) o) (off_and (is_answered w.standing))

pub stood_others : (q x : Question) (standing : RequestState) (ws : List Wish) → same_question q x ≡ false → find (is_answered_for x) (map (stood_wish q standing) ws) ≡ find (is_answered_for x) ws
stood_others q x standing [] other = refl
stood_others q x standing (w ∷ ws) other = by (same_question w.question q) refl (stood_others q x standing ws other)
  where
    by : (b : Bool) → same_question w.question q ≡ b → find (is_answered_for x) (map (stood_wish q standing) ws) ≡ find (is_answered_for x) ws
        → find (is_answered_for x) (cond b (record w { standing = standing; notices = [] }) w ∷ map (stood_wish q standing) ws) ≡ find (is_answered_for x) (w ∷ ws)
    by true is rest =
        let apart : same_question w.question x ≡ false = apart_too q x w.question is other in
        passed x (record w { standing = standing; notices = [] }) (find (is_answered_for x) (map (stood_wish q standing) ws)) apart ∙ rest ∙ sym (passed x w (find (is_answered_for x) ws) apart)
    by false is rest = ap (λ (o : Option Wish). cond (is_answered_for x w) (Some w) o) rest

pub none_stood : (q x : Question) (standing : RequestState) (ws : List Wish) → same_question q x ≡ true → is_answered standing ≡ false → find (is_answered_for x) (map (stood_wish q standing) ws) ≡ None
none_stood q x standing ws same h =
    find_map (is_answered_for x) (stood_wish q standing) ws ∙ ap (option_map (stood_wish q standing)) (find_never (λ w. is_answered_for x (stood_wish q standing w)) (λ w. by w (same_question w.question q) refl) ws)
  where
    by : (w : Wish) (b : Bool) → same_question w.question q ≡ b → is_answered_for x (cond b (record w { standing = standing; notices = [] }) w) ≡ false
    by w true is = ap (λ (b : Bool). b && same_question w.question x) h
    by w false is = ap (λ (b : Bool). is_answered w.standing && b) (sym (same_as q x w.question same) ∙ is) ∙ off_and (is_answered w.standing)

pub answered_there : (q x : Question) (id : ℕ) (ws : List Wish) (w : Wish) → same_question q x ≡ true → find (λ v. same_question v.question q) ws ≡ Some w
    → find (is_answered_for x) (map (stood_wish q (answered id)) ws) ≡ Some (record w { standing = answered id; notices = [] })
answered_there q x id ws w same found =
    find_map (is_answered_for x) (stood_wish q (answered id)) ws
    ∙ ap (option_map (stood_wish q (answered id))) (find_same (λ v. is_answered_for x (stood_wish q (answered id) v)) (λ v. same_question v.question q) (λ v. by v (same_question v.question q) refl) ws ∙ found)
    ∙ ap (λ (b : Bool). Some (cond b (record w { standing = answered id; notices = [] }) w)) (find_holds (λ v. same_question v.question q) ws w found)
  where
    by : (v : Wish) (b : Bool) → same_question v.question q ≡ b → is_answered_for x (cond b (record v { standing = answered id; notices = [] }) v) ≡ b
    by v true is = sym (same_as q x v.question same) ∙ is
    by v false is = ap (λ (b : Bool). is_answered v.standing && b) (sym (same_as q x v.question same) ∙ is) ∙ off_and (is_answered v.standing)

-- ---- a set begins

pub begun_others : (q x : Question) (sets : Sets) → same_question q x ≡ false → find (is_of x) (begun q sets) ≡ find (is_of x) sets
begun_others q x [] other = ap (λ (b : Bool). cond b (Some (q, [])) None) other
begun_others q x (e ∷ sets) other = by (is_of q e) refl (begun_others q x sets other)
  where
    by : (b : Bool) → same_question e.0 q ≡ b → find (is_of x) (begun q sets) ≡ find (is_of x) sets → find (is_of x) (if b then (e.0, []) ∷ sets else e ∷ begun q sets) ≡ find (is_of x) (e ∷ sets)
    by true is rest =
        let apart : same_question e.0 x ≡ false = apart_too q x e.0 is other in
        ap (λ (b : Bool). cond b (Some (e.0, [])) (find (is_of x) sets)) apart ∙ sym (ap (λ (b : Bool). cond b (Some e) (find (is_of x) sets)) apart)
    by false is rest = ap (λ (o : Option (Question × RecordSet)). cond (is_of x e) (Some e) o) rest

-- a question that isn't there begins behind the others
pub begun_empty : (q x : Question) (sets : Sets) → same_question q x ≡ true → find (is_of x) sets ≡ None → find (is_of x) (begun q sets) ≡ Some (q, [])
begun_empty q x [] same none = ap (λ (b : Bool). cond b (Some (q, [])) None) same
begun_empty q x (e ∷ sets) same none = by (is_of x e) refl none (begun_empty q x sets same)
  where
    by : (b : Bool) → same_question e.0 x ≡ b → cond b (Some e) (find (is_of x) sets) ≡ None → (find (is_of x) sets ≡ None → find (is_of x) (begun q sets) ≡ Some (q, [])) → find (is_of x) (begun q (e ∷ sets)) ≡ Some (q, [])
    by true is none rest = absurd cc
    by false is none rest =
        let apart : same_question e.0 q ≡ false = same_as q x e.0 same ∙ is in
        ap (λ (b : Bool). find (is_of x) (if b then (e.0, []) ∷ sets else e ∷ begun q sets)) apart
        ∙ ap (λ (b : Bool). cond b (Some e) (find (is_of x) (begun q sets))) is ∙ rest none

-- ---- a PUSH is taken

abbrev pub told_more : List Notice → Wish → Wish
told_more notices w = cond (is_answered w.standing) (record w { notices = w.notices ++ notices }) w

abbrev set_after : List Notice → Question × RecordSet → Question × RecordSet
set_after notices e = (e.0, applied_all notices e.0 e.1)

told_sets : (x : Question) (notices : List Notice) (ws : List Wish) → option_map set_told (find (is_answered_for x) (map (told_more notices) ws)) ≡ option_map (set_after notices) (option_map set_told (find (is_answered_for x) ws))
told_sets x notices [] = refl
told_sets x notices (w ∷ ws) = by (is_answered w.standing) refl (told_sets x notices ws)
  where
    found : (t : Bool) → option_map set_told (find (is_answered_for x) (map (told_more notices) ws)) ≡ option_map (set_after notices) (option_map set_told (find (is_answered_for x) ws))
        → option_map set_told (cond t (Some (record w { notices = w.notices ++ notices })) (find (is_answered_for x) (map (told_more notices) ws))) ≡ option_map (set_after notices) (option_map set_told (cond t (Some w) (find (is_answered_for x) ws)))
    found true rest = ap (λ (set : RecordSet). Some (w.question, set)) (fold-append (applied w.question) [] w.notices notices)
    found false rest = rest

    by : (a : Bool) → is_answered w.standing ≡ a → option_map set_told (find (is_answered_for x) (map (told_more notices) ws)) ≡ option_map (set_after notices) (option_map set_told (find (is_answered_for x) ws))
        → option_map set_told (find (is_answered_for x) (cond a (record w { notices = w.notices ++ notices }) w ∷ map (told_more notices) ws)) ≡ option_map (set_after notices) (option_map set_told (find (is_answered_for x) (w ∷ ws)))
    by true is rest = found (is_answered_for x w) rest
    by false is rest =
        ap (λ (a : Bool). option_map set_told (cond (a && same_question w.question x) (Some w) (find (is_answered_for x) (map (told_more notices) ws)))) is
        ∙ rest
        ∙ sym (ap (λ (a : Bool). option_map (set_after notices) (option_map set_told (cond (a && same_question w.question x) (Some w) (find (is_answered_for x) ws)))) is)

-- each set is what all notices since the answer lead to
pub sets_told : (notices : List Notice) (sets : Sets) (ws : List Wish) → ((x : Question) → find (is_of x) sets ≡ option_map set_told (find (is_answered_for x) ws))
    → (x : Question) → find (is_of x) (applied_to notices sets) ≡ option_map set_told (find (is_answered_for x) (map (told_more notices) ws))
sets_told notices sets ws are x = find_map (is_of x) (set_after notices) sets ∙ ap (option_map (set_after notices)) (are x) ∙ sym (told_sets x notices ws)
