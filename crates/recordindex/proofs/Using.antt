-- Names in use, which are counted at the name behind their first label: what a change at one place does to that.
use Rattle.std.proofs.Common.{◌≡◌, ℕ, suc, ◌+◌, ◌<◌, ◌≤◌, ◌^◌, Bool, true, false, cond, List, [], ◌∷◌, ◌++◌, length, get_or, drop, nat_lt, Option, Some, None, refl, sym, ap, subst, ◌∙◌, arith}
use Rattle.std.specs.Prelude.{is_some}
use Rattle.std.specs.List.{AllByRecursion}
use Rattle.std.specs.Option.{option_map}
use Rattle.std.proofs.lemmas.Bool.{ltb-true, ltb-false}
use Rattle.std.proofs.lemmas.List.{length-append, drop_at}
use Rattle.dnsname.specs.Names.{Labels, octets}
use Rattle.dnsname.proofs.Octets.{length-octets, octets-cons, octets_injective}
use Rattle.recordindex.specs.Endings.{Agrees, Exceeds, HasRoomAt, HasRoomFor, HasRoomFrom, IsLeft, Kept, Lacks, above_of, changed_at, counted_at, ending_at, ends_of, is_among, is_used, number_or, once_less, once_more, room_of, same_octets, times, used_at, using, weight}
use Rattle.recordindex.proofs.OctetTests.{same-is, same-refl}
use Rattle.recordindex.proofs.Changes.{among-some, counted-less, counted-more, found-changed, length-room, room-changed}

-- ---- one change

pub none-more : (n : ℕ) → 0 + n ≡ n
none-more n = omega arith

both-moved : (a b c d n : ℕ) → c ≡ a → d ≡ b → (a + n) + d ≡ (b + n) + c
both-moved a b c d n first last = omega (arith, first, last)

in-front : (w u v x y : ℕ) → u + x ≡ v + y → (w + u) + x ≡ (w + v) + y
in-front w u v x y is = omega (arith, is)

using-moved : (os key : List ℕ) (change : ℕ → ℕ) (kept : Kept)
    → using os (changed_at key change kept) + weight (used_at key kept) (same_octets os (above_of key))
    ≡ using os kept + weight (is_used (number_or (option_map change (ending_at key kept)))) (same_octets os (above_of key))
using-moved os key change [] = refl
using-moved os key change (e ∷ es) = by (same_octets key e.0.items) refl (using-moved os key change es)
  where
    by : (b : Bool) → same_octets key e.0.items ≡ b
        → using os (changed_at key change es) + weight (used_at key es) (same_octets os (above_of key))
        ≡ using os es + weight (is_used (number_or (option_map change (ending_at key es)))) (same_octets os (above_of key))
        → using os (cond b ((e.0, change e.1) ∷ es) (e ∷ changed_at key change es)) + weight (is_used (number_or (cond b (Some e.1) (ending_at key es)))) (same_octets os (above_of key))
        ≡ using os (e ∷ es) + weight (is_used (number_or (option_map change (cond b (Some e.1) (ending_at key es))))) (same_octets os (above_of key))
    by true b-is others =
        let key-is : key ≡ e.0.items = same-is key e.0.items b-is in
        both-moved (weight (is_used (change e.1)) (same_octets os (above_of e.0.items))) (weight (is_used e.1) (same_octets os (above_of e.0.items)))
        (weight (is_used (change e.1)) (same_octets os (above_of key))) (weight (is_used e.1) (same_octets os (above_of key))) (using os es)
        (ap (λ (o : List ℕ). weight (is_used (change e.1)) (same_octets os (above_of o))) key-is)
        (ap (λ (o : List ℕ). weight (is_used e.1) (same_octets os (above_of o))) key-is)
    by false b-is others =
        in-front (weight (is_used e.1) (same_octets os (above_of e.0.items))) (using os (changed_at key change es)) (using os es)
        (weight (used_at key es) (same_octets os (above_of key)))
        (weight (is_used (number_or (option_map change (ending_at key es)))) (same_octets os (above_of key))) others

pub used-after : (key : List ℕ) (change : ℕ → ℕ) (kept : Kept) → used_at key (changed_at key change kept) ≡ is_used (number_or (option_map change (ending_at key kept)))
used-after key change kept =
    ap (λ (o : Option ℕ). is_used (number_or o)) (found-changed key key change kept)
    ∙ ap (λ (t : Bool). is_used (number_or (cond t (option_map change (ending_at key kept)) (ending_at key kept)))) (same-refl key)

-- before and behind a change the place is in use or not
pub using-turned : (os key : List ℕ) (change : ℕ → ℕ) (kept : Kept) (was is : Bool) → used_at key kept ≡ was → used_at key (changed_at key change kept) ≡ is
    → using os (changed_at key change kept) + weight was (same_octets os (above_of key)) ≡ using os kept + weight is (same_octets os (above_of key))
using-turned os key change kept was is was-is is-is =
    ap (λ (t : Bool). using os (changed_at key change kept) + weight t (same_octets os (above_of key))) (sym was-is)
    ∙ using-moved os key change kept
    ∙ ap (λ (t : Bool). using os kept + weight t (same_octets os (above_of key))) (sym (used-after key change kept) ∙ is-is)

pub using-few : (os : List ℕ) (kept : Kept) → using os kept ≤ length kept
using-few os [] = omega arith
using-few os (e ∷ es) = by (is_used e.1) (same_octets os (above_of e.0.items)) (using-few os es)
  where
    by : (a b : Bool) → using os es ≤ length es → weight a b + using os es ≤ suc (length es)
    by true true few = omega (arith, few)
    by true false few = omega (arith, few)
    by false b few = omega (arith, few)

-- ---- in use

pub some-used : (n : ℕ) → 1 ≤ n → nat_lt 0 n ≡ true
some-used n some = by (nat_lt 0 n) refl
  where
    by : (t : Bool) → nat_lt 0 n ≡ t → t ≡ true
    by true is = refl
    by false is = absurd (omega (arith, some, ltb-false 0 n is))

pub used-some : (n : ℕ) → nat_lt 0 n ≡ true → 1 ≤ n
used-some n is = omega (arith, ltb-true 0 n is)

-- one more makes a place be in use
pub used-more : (key : List ℕ) (kept : Kept) → is_some (ending_at key kept) ≡ true → used_at key (changed_at key once_more kept) ≡ true
used-more key kept there = used-after key once_more kept ∙ by (ending_at key kept) there
  where
    by : (o : Option ℕ) → is_some o ≡ true → is_used (number_or (option_map once_more o)) ≡ true
    by None there = absurd cc
    by (Some e) there = some-used (e + 1) (omega arith)

pub used-counted : (key : List ℕ) (kept : Kept) → 1 ≤ counted_at key kept → used_at key kept ≡ true
used-counted key kept some = some-used (counted_at key kept) some

pub times-few : (os : List ℕ) (names : List Labels) → times os names ≤ length names
times-few os [] = omega arith
times-few os (name ∷ names) = by (same_octets os (octets name)) (times-few os names)
  where
    by : (t : Bool) → times os names ≤ length names → cond t 1 0 + times os names ≤ suc (length names)
    by true few = omega (arith, few)
    by false few = omega (arith, few)

-- ---- what is left of a name

pub left-name : (name : Labels) → IsLeft (octets name)
left-name name = record { name = λ some. (name, refl) }

pub above-cons : (label : List ℕ) (name : Labels) → above_of (octets (label ∷ name)) ≡ octets name
above-cons label name =
    let whole : octets (label ∷ name) ≡ length label ∷ (label ++ octets name) = octets-cons label name in
    let first : get_or (octets (label ∷ name)) 0 0 + 1 ≡ suc (length label) = ap (λ (r : List ℕ). get_or r 0 0 + 1) whole ∙ omega arith in
    ap (λ (n : ℕ). drop n (octets (label ∷ name))) first ∙ ap (drop (suc (length label))) whole ∙ drop_at label (octets name) (length label) refl

none-left : IsLeft []
none-left = record { name = λ some. absurd (omega (arith, some)) }

pub left-above-name : (name : Labels) → IsLeft (above_of (octets name))
left-above-name [] = none-left
left-above-name (label ∷ name) = subst IsLeft (sym (above-cons label name)) (left-name name)

pub within-name : (name : Labels) → get_or (octets name) 0 0 + 1 ≤ length (octets name)
within-name [] = omega arith
within-name (label ∷ name) =
    let whole : octets (label ∷ name) ≡ length label ∷ (label ++ octets name) = octets-cons label name in
    let first : get_or (octets (label ∷ name)) 0 0 + 1 ≡ suc (length label) = ap (λ (r : List ℕ). get_or r 0 0 + 1) whole ∙ omega arith in
    omega (arith, first, ap length whole, length-append label (octets name))

pub left-above : (os : List ℕ) → IsLeft os → 1 ≤ length os → IsLeft (above_of os)
left-above os left some = let n = left.name some in subst (λ (o : List ℕ). IsLeft (above_of o)) (sym n.1) (left-above-name n.0)

pub left-within : (os : List ℕ) → IsLeft os → 1 ≤ length os → get_or os 0 0 + 1 ≤ length os
left-within os left some = let n = left.name some in subst (λ (o : List ℕ). get_or o 0 0 + 1 ≤ length o) (sym n.1) (within-name n.0)

pub room-above-name : (name : Labels) (room : List (List ℕ)) → HasRoomAt room name → HasRoomFrom (above_of (octets name)) room
room-above-name [] room has other is = absurd (omega (arith, ap length is, length-octets other))
room-above-name (label ∷ name) room has other is =
    subst (HasRoomAt room) (octets_injective name other (sym (above-cons label name) ∙ is)) has.1

pub room-above-owner : (name : Labels) (room : List (List ℕ)) → HasRoomFor name room → HasRoomFrom (above_of (octets name)) room
room-above-owner [] room has other is = absurd (omega (arith, ap length is, length-octets other))
room-above-owner (label ∷ name) room has other is =
    subst (HasRoomAt room) (octets_injective name other (sym (above-cons label name) ∙ is)) has.0

pub room-above : (os : List ℕ) (room : List (List ℕ)) → IsLeft os → 1 ≤ length os → HasRoomFrom os room → HasRoomFrom (above_of os) room
room-above os room left some has =
    let n = left.name some in
    subst (λ (o : List ℕ). HasRoomFrom (above_of o) room) (sym n.1) (room-above-name n.0 room (has n.0 n.1))

place-first : (name : Labels) (kept : Kept) → HasRoomAt (room_of kept) name → is_some (ending_at (octets name) kept) ≡ true
place-first [] kept room = sym (among-some (octets []) kept) ∙ room.0
place-first (label ∷ name) kept room = sym (among-some (octets (label ∷ name)) kept) ∙ room.0

-- octets that are some aren't none
pub none-same : (os rest : List ℕ) → 1 ≤ length os → length rest ≡ 0 → same_octets os rest ≡ false
none-same os rest some none = by (same_octets os rest) refl
  where
    by : (t : Bool) → same_octets os rest ≡ t → t ≡ false
    by false is = refl
    by true is = absurd (omega (arith, some, none, ap length (same-is os rest is)))

-- ---- a name comes into use

pub record Raising (start : List ℕ) (was now : Kept) (rest : List ℕ) : Type 0 where
  pub left : IsLeft rest
  pub has : HasRoomFrom rest (room_of was)
  pub few : length now < 2 ^ 63
  pub counts : (names : List Labels) → length names ≤ 2 ^ 63 → Lacks start names was → Lacks rest names now
  pub room : room_of now ≡ room_of was

itself : (rest : List ℕ) → cond {A = ℕ} (same_octets rest rest) 1 0 ≡ 1
itself rest = ap (λ (t : Bool). cond {A = ℕ} t 1 0) (same-refl rest)

raising-fits : (names : List Labels) (now : Kept) (rest : List ℕ) → length names ≤ 2 ^ 63 → length now < 2 ^ 63 → Lacks rest names now → 1 ≤ length rest → counted_at rest now + 1 < 2 ^ 64
raising-fits names now rest most few lacks some = omega (arith, lacks rest some, itself rest, using-few rest now, times-few rest names, most, few)

raising-place : (start : List ℕ) (was now : Kept) (rest : List ℕ) → Raising start was now rest → 1 ≤ length rest → is_some (ending_at rest now) ≡ true
raising-place start was now rest r some =
    let n = r.left.name some in
    subst (λ (o : List ℕ). is_some (ending_at o now) ≡ true) (sym n.1)
    (place-first n.0 now (subst (λ (room : List (List ℕ)). HasRoomAt room n.0) (sym r.room) (r.has n.0 n.1)))

moved-on : (x y c d t u v : ℕ) → d ≡ x + c → x + c ≡ t + u → v + 0 ≡ u + y → y + d ≡ t + v
moved-on x y c d t u v more lacks turned = omega (arith, more, lacks, turned)

stopped : (x y c d t u v : ℕ) → d ≡ x + c → x + c ≡ t + u → v + y ≡ u + y → d ≡ t + v
stopped x y c d t u v more lacks turned = omega (arith, more, lacks, turned)

pub raising-more : (start : List ℕ) (was now next : Kept) (rest : List ℕ) → Raising start was now rest → 1 ≤ length rest → used_at rest now ≡ false
    → (counted_at rest now + 1 < 2 ^ 64 → next ≡ changed_at rest once_more now) → room_of next ≡ room_of now → Raising start was next (above_of rest)
raising-more start was now next rest r some unused entries rooms =
    let there = raising-place start was now rest r some in
    record {
      left = left-above rest r.left some;
      has = room-above rest (room_of was) r.left some r.has;
      few = omega (arith, sym (length-room next) ∙ ap length rooms ∙ length-room now, r.few);
      counts = λ names few lacks.
          let here = r.counts names few lacks in
          let more : Lacks (above_of rest) names (changed_at rest once_more now) = λ os any.
          moved-on (cond (same_octets os rest) 1 0) (cond (same_octets os (above_of rest)) 1 0) (counted_at os now) (counted_at os (changed_at rest once_more now)) (times os names) (using os now) (using os (changed_at rest once_more now))
          (counted-more os rest now there) (here os any) (using-turned os rest once_more now false true unused (used-more rest now there)) in
          subst (Lacks (above_of rest) names) (sym (entries (raising-fits names now rest few r.few here some))) more;
      room = rooms ∙ r.room;
    }

pub raising-stop : (start : List ℕ) (was now next : Kept) (rest : List ℕ) → Raising start was now rest → 1 ≤ length rest → used_at rest now ≡ true
    → (counted_at rest now + 1 < 2 ^ 64 → next ≡ changed_at rest once_more now) → (names : List Labels) → length names ≤ 2 ^ 63 → Lacks start names was → Agrees names next
raising-stop start was now next rest r some used entries names few lacks =
    let there = raising-place start was now rest r some in
    let here = r.counts names few lacks in
    let more : Agrees names (changed_at rest once_more now) = λ os any.
    stopped (cond (same_octets os rest) 1 0) (cond (same_octets os (above_of rest)) 1 0) (counted_at os now) (counted_at os (changed_at rest once_more now)) (times os names) (using os now) (using os (changed_at rest once_more now))
    (counted-more os rest now there) (here os any) (using-turned os rest once_more now true true used (used-more rest now there)) in
    subst (Agrees names) (sym (entries (raising-fits names now rest few r.few here some))) more

pub raising-end : (start : List ℕ) (was now : Kept) (rest : List ℕ) → Raising start was now rest → length rest ≡ 0
    → (names : List Labels) → length names ≤ 2 ^ 63 → Lacks start names was → Agrees names now
raising-end start was now rest r none names few lacks os some = omega (arith, r.counts names few lacks os some, ap (λ (t : Bool). cond {A = ℕ} t 1 0) (none-same os rest some none))

-- ---- a name comes out of use

pub record Lowering (start : List ℕ) (was now : Kept) (rest : List ℕ) : Type 0 where
  pub left : IsLeft rest
  pub counts : (names : List Labels) → Exceeds start names was → Exceeds rest names now
  pub room : room_of now ≡ room_of was

lowering-some : (names : List Labels) (now : Kept) (rest : List ℕ) → Exceeds rest names now → 1 ≤ length rest → 1 ≤ counted_at rest now
lowering-some names now rest exceeds some = omega (arith, exceeds rest some, itself rest)

moved-down : (x y c d t u v : ℕ) → x + d ≡ c → c ≡ x + (t + u) → v + y ≡ u + 0 → d ≡ y + (t + v)
moved-down x y c d t u v less exceeds turned = omega (arith, less, exceeds, turned)

stayed : (x y c d t u v : ℕ) → x + d ≡ c → c ≡ x + (t + u) → v + y ≡ u + y → d ≡ t + v
stayed x y c d t u v less exceeds turned = omega (arith, less, exceeds, turned)

pub lowering-more : (start : List ℕ) (was now : Kept) (rest : List ℕ) → Lowering start was now rest → 1 ≤ length rest → used_at rest (changed_at rest once_less now) ≡ false
    → Lowering start was (changed_at rest once_less now) (above_of rest)
lowering-more start was now rest r some unused = record {
  left = left-above rest r.left some;
  counts = λ names exceeds os any.
      let here = r.counts names exceeds in
      let there = lowering-some names now rest here some in
      moved-down (cond (same_octets os rest) 1 0) (cond (same_octets os (above_of rest)) 1 0) (counted_at os now) (counted_at os (changed_at rest once_less now)) (times os names) (using os now) (using os (changed_at rest once_less now))
      (counted-less os rest now there) (here os any) (using-turned os rest once_less now true false (used-counted rest now there) unused);
  room = room-changed rest once_less now ∙ r.room;
}

pub lowering-stop : (start : List ℕ) (was now : Kept) (rest : List ℕ) → Lowering start was now rest → 1 ≤ length rest → used_at rest (changed_at rest once_less now) ≡ true
    → (names : List Labels) → Exceeds start names was → Agrees names (changed_at rest once_less now)
lowering-stop start was now rest r some used names exceeds os any =
    let here = r.counts names exceeds in
    let there = lowering-some names now rest here some in
    stayed (cond (same_octets os rest) 1 0) (cond (same_octets os (above_of rest)) 1 0) (counted_at os now) (counted_at os (changed_at rest once_less now)) (times os names) (using os now) (using os (changed_at rest once_less now))
    (counted-less os rest now there) (here os any) (using-turned os rest once_less now true true (used-counted rest now there) used)

pub lowering-end : (start : List ℕ) (was now : Kept) (rest : List ℕ) → Lowering start was now rest → length rest ≡ 0
    → (names : List Labels) → Exceeds start names was → Agrees names now
lowering-end start was now rest r none names exceeds os some = omega (arith, r.counts names exceeds os some, ap (λ (t : Bool). cond {A = ℕ} t 1 0) (none-same os rest some none))

-- ---- each end of a name in use is in use

using-some : (os key : List ℕ) (kept : Kept) → used_at key kept ≡ true → same_octets os (above_of key) ≡ true → 1 ≤ using os kept
using-some os key [] used here = absurd cc
using-some os key (e ∷ es) used here = by (same_octets key e.0.items) refl used (λ later. using-some os key es later here)
  where
    first : (w : ℕ) (n : ℕ) → w ≡ 1 → 1 ≤ w + n
    first w n is = omega (arith, is)

    behind : (w : ℕ) (n : ℕ) → 1 ≤ n → 1 ≤ w + n
    behind w n some = omega (arith, some)

    by : (b : Bool) → same_octets key e.0.items ≡ b → is_used (number_or (cond b (Some e.1) (ending_at key es))) ≡ true → (used_at key es ≡ true → 1 ≤ using os es)
        → 1 ≤ weight (is_used e.1) (same_octets os (above_of e.0.items)) + using os es
    by true b-is used others =
        let one : weight (is_used e.1) (same_octets os (above_of e.0.items)) ≡ 1 =
        ap (λ (t : Bool). weight t (same_octets os (above_of e.0.items))) used
        ∙ ap (λ (o : List ℕ). cond {A = ℕ} (same_octets os (above_of o)) 1 0) (sym (same-is key e.0.items b-is))
        ∙ ap (λ (t : Bool). cond {A = ℕ} t 1 0) here in
        first (weight (is_used e.1) (same_octets os (above_of e.0.items))) (using os es) one
    by false b-is used others = behind (weight (is_used e.1) (same_octets os (above_of e.0.items))) (using os es) (others used)

pub parent-used : (label : List ℕ) (name : Labels) (names : List Labels) (kept : Kept) → Agrees names kept → used_at (octets (label ∷ name)) kept ≡ true → used_at (octets name) kept ≡ true
parent-used label name names kept agrees used =
    let here : same_octets (octets name) (above_of (octets (label ∷ name))) ≡ true = ap (same_octets (octets name)) (above-cons label name) ∙ same-refl (octets name) in
    let some : 1 ≤ using (octets name) kept = using-some (octets name) (octets (label ∷ name)) kept used here in
    used-counted (octets name) kept (omega (arith, some, agrees (octets name) (omega (arith, length-octets name))))

pub ends-used : (name : Labels) (names : List Labels) (kept : Kept) → Agrees names kept → used_at (octets name) kept ≡ true → AllByRecursion (λ end. used_at (octets end) kept ≡ true) (ends_of name)
ends-used [] names kept agrees used = (used, tt)
ends-used (label ∷ name) names kept agrees used = (used, ends-used name names kept agrees (parent-used label name names kept agrees used))

used-there : (o : Option ℕ) → is_used (number_or o) ≡ true → is_some o ≡ true
used-there None used = absurd cc
used-there (Some e) used = refl

-- a name in use has its places
pub used-places : (name : Labels) (names : List Labels) (kept : Kept) → Agrees names kept → used_at (octets name) kept ≡ true → HasRoomAt (room_of kept) name
used-places name names kept agrees used = every (ends_of name) (ends-used name names kept agrees used)
  where
    every : (ends : List Labels) → AllByRecursion (λ end. used_at (octets end) kept ≡ true) ends → AllByRecursion (λ end. is_among (octets end) (room_of kept) ≡ true) ends
    every [] h = tt
    every (end ∷ ends) h = (among-some (octets end) kept ∙ used-there (ending_at (octets end) kept) h.0, every ends h.1)

-- ---- what a call says of one place

pub used-found : (key : List ℕ) (kept : Kept) (e : ℕ) → Some e ≡ ending_at key kept → is_used e ≡ used_at key kept
used-found key kept e there = ap (λ (o : Option ℕ). is_used (number_or o)) there

pub used-none : (key : List ℕ) (kept : Kept) → None ≡ ending_at key kept → false ≡ used_at key kept
used-none key kept none = ap (λ (o : Option ℕ). is_used (number_or o)) none

pub used-changed : (key : List ℕ) (change : ℕ → ℕ) (old new : Kept) (e : ℕ) → Some e ≡ ending_at key old → new ≡ changed_at key change old → is_used (change e) ≡ used_at key new
used-changed key change old new e there new-is =
    ap (λ (o : Option ℕ). is_used (number_or (option_map change o))) there
    ∙ sym (used-after key change old)
    ∙ ap (used_at key) (sym new-is)
