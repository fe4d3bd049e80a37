-- What a world over client and server takes from the telling.
--     tells-taken      what the messages up to one of them lead to
--     rise-after      a note gives no name a later point than one behind it
use Rattle.std.proofs.Common.{◌≡◌, List, [], ◌∷◌, ◌++◌, sym, ◌∙◌, subst}
use Rattle.std.specs.List.{AllByRecursion}
use Rattle.std.proofs.Math.Nat.{le_trans}
use Rattle.std.proofs.lemmas.List.{append-nil, append_assoc}
use Rattle.pushserver.specs.PlainHubs.{Hub, Session, Made, Note}
use Rattle.pushserver.specs.ToldMessages.{TellsHistory, EachIsRight, IsRightAfter, IsNoEarlier, NotesRise}
use Rattle.pushserver.proofs.hub_steps.Pairs.{all-weaken}

-- each message is right after those before it
right-at : (hub : Hub) (before xs : List Made) (m : Made) (ys : List Made) → EachIsRight hub before (xs ++ m ∷ ys) → IsRightAfter hub (before ++ xs) m
right-at hub before [] m ys each = subst (λ b. IsRightAfter hub b m) (sym (append-nil before)) each.0
right-at hub before (x ∷ xs) m ys each = subst (λ b. IsRightAfter hub b m) (append_assoc before (x ∷ []) xs) (right-at hub (before ++ x ∷ []) xs m ys each.1)

-- Where a client has taken all up to a message and others are under way, what it took leads each subscription of then, whose first answer it has, to the records at this message's note.
pub tells-taken : (hub : Hub) (session : Session) (xs : List Made) (m : Made) (flying : List Made) → TellsHistory hub session → session.made ≡ (xs ++ m ∷ []) ++ flying → IsRightAfter hub xs m
tells-taken hub session xs m flying h made = right-at hub [] xs m flying (subst (λ ms. EachIsRight hub [] ms) (made ∙ append_assoc xs (m ∷ []) flying) h.each)

pub rise-after : (n : Note) (notes : List Note) → NotesRise (n ∷ notes) → AllByRecursion (IsNoEarlier n) notes
rise-after n [] rise = tt
rise-after n (m ∷ ms) rise = (rise.0, all-weaken (IsNoEarlier m) (IsNoEarlier n) (λ k later name. le_trans (rise.0 name) (later name)) ms (rise-after m ms rise.1))
