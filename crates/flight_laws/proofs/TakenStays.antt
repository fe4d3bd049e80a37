-- Which messages were taken follows from what was made and how many octets come down, since no frame is empty.
--     taken-is-counted, taken-stays
use Rattle.std.proofs.Common.{◌≡◌, ℕ, ◌+◌, List, [], ◌∷◌, ◌++◌, map, length, sym, ap, ◌∙◌, refl, arith}
use Rattle.std.proofs.lemmas.List.{append_assoc, length-append}
use Rattle.std.proofs.lemmas.List.Sums.{sum_by-append}
use Rattle.dsosession.specs.declared.session.Timers.{Timers}
use Rattle.dsotlv.specs.Messages.{frame}
use Rattle.pushclient.specs.ServerMessages.{server_octets}
use Rattle.pushserver.specs.PlainHubs.{Made, frame_of, size_of_made}
use Rattle.inflight.specs.Messages.{Flying, made_of, flying_octets}
use Rattle.flight_laws.specs.GoesOn.{TakenIsCounted, TakenStays}
use Rattle.flight_laws.proofs.Holding.{size-first}

size-both : (xs ys : List Made) → size_of_made (xs ++ ys) ≡ size_of_made xs + size_of_made ys
size-both xs ys = sum_by-append (λ (m : Made). length (frame_of m)) xs ys

-- what comes down has the octets of what was made
size-flying : (timers : Timers) (flying : List Flying) → size_of_made (map (made_of timers) flying) ≡ length (flying_octets timers flying)
size-flying timers [] = refl
size-flying timers (f ∷ fs) =
    let first = size-first (made_of timers f) (map (made_of timers) fs) in
    let others = size-flying timers fs in
    let both = length-append (frame (server_octets timers f.says)) (flying_octets timers fs) in
    first ∙ ap (λ n. length (frame (server_octets timers f.says)) + n) others ∙ sym both

-- two fronts of the same octets are one
same-front : (xs ys ms ns : List Made) → xs ++ ms ≡ ys ++ ns → size_of_made xs ≡ size_of_made ys → xs ≡ ys
same-front [] [] ms ns whole size = refl
same-front [] (y ∷ ys) ms ns whole size = let none : size_of_made [] ≡ 0 = refl in absurd (omega (arith, none, size, size-first y ys))
same-front (x ∷ xs) [] ms ns whole size = let none : size_of_made [] ≡ 0 = refl in absurd (omega (arith, none, size, size-first x xs))
same-front (x ∷ xs) (y ∷ ys) ms ns whole size =
    let one : x ≡ y = cc in
    let others : xs ++ ms ≡ ys ++ ns = cc in
    let less : size_of_made xs ≡ size_of_made ys = cancelled (length (frame_of x)) (length (frame_of y)) (size_of_made xs) (size_of_made ys) (ap (λ m. length (frame_of m)) one) (sym (size-first x xs) ∙ size ∙ size-first y ys) in
    (λ i. one i ∷ same-front xs ys ms ns others less i)
  where
    cancelled : (a b c d : ℕ) → a ≡ b → a + c ≡ b + d → c ≡ d
    cancelled a b c d first all = omega (arith, first, all)

pub taken-is-counted : TakenIsCounted
taken-is-counted e up down i =
    ap (λ n. size_of_made i.taken + n) (ap length i.whole_down ∙ sym (size-flying e.timers i.flying))
    ∙ sym (size-both i.taken (map (made_of e.timers) i.flying))
    ∙ sym (ap size_of_made i.made)

pub taken-stays : TakenStays
taken-stays e later up down up_later down_later more made octets i j =
    let flown = map (made_of e.timers) i.flying in
    let whole : j.taken ++ map (made_of later.timers) j.flying ≡ i.taken ++ (flown ++ more) = sym j.made ∙ made ∙ ap (λ ms. ms ++ more) i.made ∙ append_assoc i.taken flown more in
    let counted : size_of_made j.taken ≡ size_of_made i.taken = cancelled (size_of_made j.taken) (size_of_made i.taken) (length down) (length down_later) (size_of_made e.made) (size_of_made later.made) (size_of_made more)
    (taken-is-counted e up down i) (taken-is-counted later up_later down_later j) octets (ap size_of_made made ∙ size-both e.made more) in
    same-front j.taken i.taken (map (made_of later.timers) j.flying) (flown ++ more) whole counted
  where
    cancelled : (now before down later made all more : ℕ) → before + down ≡ made → now + later ≡ all → later ≡ down + more → all ≡ made + more → now ≡ before
    cancelled now before down later made all more first second octets both = omega (arith, first, second, octets, both)
