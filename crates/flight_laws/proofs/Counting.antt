-- How often IDs stand in lists.
use Rattle.std.proofs.Common.{◌≡◌, ℕ, ◌+◌, Bool, cond, List, [], ◌∷◌, ◌++◌, ap, ◌∙◌, arith}
use Rattle.std.specs.Prelude.{flat_map, ◌==◌, option_to_list}
use Rattle.std.proofs.lemmas.List.Sums.{sum_by-append}
use Rattle.inflight.specs.Ends.{BothEnds, unanswered_id, answered_id, unanswered_ids, used_ids}
use Rattle.pushclient.specs.SoundClients.{count_of}

pub count-append : (n : ℕ) (ns ms : List ℕ) → count_of n (ns ++ ms) ≡ count_of n ns + count_of n ms
count-append n ns ms = sum_by-append (λ m. cond (m == n) 1 0) ns ms

pub count-one : (n id : ℕ) (b : Bool) → (id == n) ≡ b → count_of n (id ∷ []) ≡ cond b 1 0
count-one n id b e = ap (λ (t : Bool). 0 + cond {A = ℕ} t 1 0) e ∙ zero_more (cond b 1 0)
  where
    zero_more : (m : ℕ) → 0 + m ≡ m
    zero_more m = omega arith

pub count-behind : (n id : ℕ) (ns : List ℕ) → count_of n (ns ++ id ∷ []) ≡ count_of n ns + count_of n (id ∷ [])
count-behind n id ns = count-append n ns (id ∷ [])

-- the IDs of wishes that wait, and of those that are held
abbrev pub waiting_ids : BothEnds → List ℕ
waiting_ids e = flat_map (λ w. unanswered_id w.standing) e.wishes

abbrev pub held_ids : BothEnds → List ℕ
held_ids e = flat_map (λ w. answered_id w.standing) e.wishes

pub count-unanswered : (n : ℕ) (e : BothEnds) → count_of n (unanswered_ids e) ≡ count_of n (waiting_ids e) + count_of n (option_to_list e.keepalive_out)
count-unanswered n e = count-append n (waiting_ids e) (option_to_list e.keepalive_out)

pub count-used : (n : ℕ) (e : BothEnds) → count_of n (used_ids e) ≡ count_of n (unanswered_ids e) + count_of n (held_ids e)
count-used n e = count-append n (unanswered_ids e) (held_ids e)
