-- What is kept, where one place changes: what is there, what is counted, and the places.
use Rattle.std.proofs.Common.{◌≡◌, ℕ, suc, ◌+◌, ◌≤◌, Bool, true, false, cond, List, [], ◌∷◌, length, Option, Some, None, refl, sym, ap, ◌∙◌, arith, Vec, Global}
use Rattle.std.specs.Prelude.{is_some, ◌||◌}
use Rattle.std.specs.Map.{set_value}
use Rattle.std.specs.Option.{option_map}
use Rattle.recordindex.specs.Endings.{Kept, changed_at, counted_at, ending_at, is_among, number_or, once_less, once_more, room_of, same_octets}
use Rattle.recordindex.proofs.OctetTests.{cond-same, same-apart, same-is}

-- ---- what is there

pub found-changed : (os key : List ℕ) (change : ℕ → ℕ) (kept : Kept)
    → ending_at os (changed_at key change kept) ≡ cond (same_octets os key) (option_map change (ending_at os kept)) (ending_at os kept)
found-changed os key change [] = cond-same (same_octets os key) None
found-changed os key change (e ∷ es) = by (same_octets key e.0.items) (same_octets os e.0.items) refl refl (found-changed os key change es)
  where
    first : (c : Bool) (o : Option ℕ) → cond c (Some (change e.1)) o ≡ cond c (option_map change (cond c (Some e.1) o)) (cond c (Some e.1) o)
    first true o = refl
    first false o = refl

    by : (b c : Bool) → same_octets key e.0.items ≡ b → same_octets os e.0.items ≡ c
        → ending_at os (changed_at key change es) ≡ cond (same_octets os key) (option_map change (ending_at os es)) (ending_at os es)
        → ending_at os (cond b ((e.0, change e.1) ∷ es) (e ∷ changed_at key change es)) ≡ cond (same_octets os key) (option_map change (cond c (Some e.1) (ending_at os es))) (cond c (Some e.1) (ending_at os es))
    by true c b-is c-is others =
        ap (λ (t : Bool). cond t (Some (change e.1)) (ending_at os es)) c-is
        ∙ first c (ending_at os es)
        ∙ ap (λ (t : Bool). cond t (option_map change (cond c (Some e.1) (ending_at os es))) (cond c (Some e.1) (ending_at os es))) (sym (ap (same_octets os) (same-is key e.0.items b-is) ∙ c-is))
    by false true b-is c-is others =
        ap (λ (t : Bool). cond t (Some e.1) (ending_at os (changed_at key change es))) c-is
        ∙ ap (λ (t : Bool). cond t (option_map change (Some e.1)) (Some e.1)) (sym (same-apart os key e.0.items b-is c-is))
    by false false b-is c-is others = ap (λ (t : Bool). cond t (Some e.1) (ending_at os (changed_at key change es))) c-is ∙ others

pub set-changed : (os : List ℕ) (change : ℕ → ℕ) (was now : ℕ) → now ≡ change was → (kept : Kept) → ending_at os kept ≡ Some was
    → set_value (λ (key : Vec ℕ Global). same_octets os key.items) kept now ≡ changed_at os change kept
set-changed os change was now is [] there = refl
set-changed os change was now is (e ∷ es) there = by (same_octets os e.0.items) there (set-changed os change was now is es)
  where
    by : (b : Bool) → cond b (Some e.1) (ending_at os es) ≡ Some was → (ending_at os es ≡ Some was → set_value (λ (key : Vec ℕ Global). same_octets os key.items) es now ≡ changed_at os change es)
        → cond b ((e.0, now) ∷ es) (e ∷ set_value (λ (key : Vec ℕ Global). same_octets os key.items) es now) ≡ cond b ((e.0, change e.1) ∷ es) (e ∷ changed_at os change es)
    by true found others =
        let same : was ≡ e.1 = cc in
        ap (λ (w : ℕ). (e.0, w) ∷ es) (is ∙ ap change same)
    by false found others = ap (λ (r : Kept). e ∷ r) (others found)

pub none-changed : (os : List ℕ) (change : ℕ → ℕ) (kept : Kept) → ending_at os kept ≡ None → kept ≡ changed_at os change kept
none-changed os change [] none = refl
none-changed os change (e ∷ es) none = by (same_octets os e.0.items) none (none-changed os change es)
  where
    by : (b : Bool) → cond b (Some e.1) (ending_at os es) ≡ None → (ending_at os es ≡ None → es ≡ changed_at os change es) → e ∷ es ≡ cond b ((e.0, change e.1) ∷ es) (e ∷ changed_at os change es)
    by true none others = absurd cc
    by false none others = ap (λ (r : Kept). e ∷ r) (others none)

-- ---- what is counted

raised : (o : Option ℕ) → is_some o ≡ true → number_or (option_map once_more o) ≡ 1 + number_or o
raised None there = absurd cc
raised (Some e) there = omega arith

pub counted-more : (os key : List ℕ) (kept : Kept) → is_some (ending_at key kept) ≡ true → counted_at os (changed_at key once_more kept) ≡ cond (same_octets os key) 1 0 + counted_at os kept
counted-more os key kept there = ap (λ (o : Option ℕ). number_or o) (found-changed os key once_more kept) ∙ by (same_octets os key) refl
  where
    by : (d : Bool) → same_octets os key ≡ d → number_or (cond d (option_map once_more (ending_at os kept)) (ending_at os kept)) ≡ cond d 1 0 + counted_at os kept
    by true is = raised (ending_at os kept) (ap (λ (o : List ℕ). is_some (ending_at o kept)) (same-is os key is) ∙ there)
    by false is = omega arith

lowered : (o : Option ℕ) → 1 ≤ number_or o → 1 + number_or (option_map once_less o) ≡ number_or o
lowered None some = absurd (omega arith)
lowered (Some e) some = omega arith

pub counted-less : (os key : List ℕ) (kept : Kept) → 1 ≤ counted_at key kept → cond (same_octets os key) 1 0 + counted_at os (changed_at key once_less kept) ≡ counted_at os kept
counted-less os key kept some = ap (λ (o : Option ℕ). cond (same_octets os key) 1 0 + number_or o) (found-changed os key once_less kept) ∙ by (same_octets os key) refl
  where
    by : (d : Bool) → same_octets os key ≡ d → cond d 1 0 + number_or (cond d (option_map once_less (ending_at os kept)) (ending_at os kept)) ≡ counted_at os kept
    by true is =
        let here : 1 ≤ counted_at os kept = omega (arith, ap (λ (o : List ℕ). counted_at o kept) (same-is os key is)) in
        lowered (ending_at os kept) here
    by false is = omega arith

-- ---- the places

pub room-changed : (key : List ℕ) (change : ℕ → ℕ) (kept : Kept) → room_of (changed_at key change kept) ≡ room_of kept
room-changed key change [] = refl
room-changed key change (e ∷ es) = by (same_octets key e.0.items) (room-changed key change es)
  where
    by : (b : Bool) → room_of (changed_at key change es) ≡ room_of es → room_of (cond b ((e.0, change e.1) ∷ es) (e ∷ changed_at key change es)) ≡ room_of (e ∷ es)
    by true others = refl
    by false others = ap (λ (room : List (List ℕ)). e.0.items ∷ room) others

-- another value leaves the places
pub room-set : (os : List ℕ) (was now : ℕ) (kept : Kept) → ending_at os kept ≡ Some was → room_of (set_value (λ (key : Vec ℕ Global). same_octets os key.items) kept now) ≡ room_of kept
room-set os was now kept there = ap room_of (set-changed os (λ _. now) was now refl kept there) ∙ room-changed os (λ _. now) kept

pub length-room : (kept : Kept) → length (room_of kept) ≡ length kept
length-room [] = refl
length-room (e ∷ es) = ap suc (length-room es)

-- octets have a place where something is kept
pub among-some : (os : List ℕ) (kept : Kept) → is_among os (room_of kept) ≡ is_some (ending_at os kept)
among-some os [] = refl
among-some os (e ∷ es) = by (same_octets os e.0.items) (among-some os es)
  where
    by : (b : Bool) → is_among os (room_of es) ≡ is_some (ending_at os es) → (b || is_among os (room_of es)) ≡ is_some (cond b (Some e.1) (ending_at os es))
    by true others = refl
    by false others = others
