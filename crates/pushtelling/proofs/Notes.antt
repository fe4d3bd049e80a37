-- Points of notes that never fall.
use Rattle.std.proofs.Common.{◌≡◌, ℕ, ◌≤◌, Bool, true, false, cond, List, [], ◌∷◌, ◌++◌, map, Option, Some, None, sym, ◌∙◌, ap, subst, refl, arith}
use Rattle.std.specs.Prelude.{fold, filter, find, option_map, unwrap_or}
use Rattle.std.specs.List.{list_any, AllByRecursion}
use Rattle.std.specs.Option.{option_or}
use Rattle.std.proofs.Math.Nat.{le_trans}
use Rattle.std.proofs.lemmas.List.{append_assoc, map-append}
use Rattle.dnsname.specs.Names.{Labels, same_name}
use Rattle.rrset.specs.declared.record.Changed.{Changed}
use Rattle.pushserver.specs.PlainHubs.{Made, Note, Queue, told, point_in}
use Rattle.pushserver.specs.ToldMessages.{IsNoEarlier, NotesRise}
use Rattle.pushserver.proofs.Queues.{changes-names, point_in-queued}
use Rattle.pushserver.proofs.hub_steps.Queued.{plain_change}

-- the last note may be a later one
pub NotesRise-later : (notes : List Note) (n m : Note) → NotesRise (notes ++ n ∷ []) → IsNoEarlier n m → NotesRise (notes ++ m ∷ [])
NotesRise-later [] n m rise later = tt
NotesRise-later (x ∷ []) n m rise later = (λ name. le_trans (rise.0 name) (later name), tt)
NotesRise-later (x ∷ y ∷ ys) n m rise later = (rise.0, NotesRise-later (y ∷ ys) n m rise.1 later)

-- a later note may follow
pub NotesRise-push : (notes : List Note) (n m : Note) → NotesRise (notes ++ n ∷ []) → IsNoEarlier n m → NotesRise (notes ++ n ∷ m ∷ [])
NotesRise-push [] n m rise later = (later, tt)
NotesRise-push (x ∷ []) n m rise later = (rise.0, (later, tt))
NotesRise-push (x ∷ y ∷ ys) n m rise later = (rise.0, NotesRise-push (y ∷ ys) n m rise.1 later)

-- all are no later than the last
pub NotesRise-below : (notes : List Note) (n : Note) → NotesRise (notes ++ n ∷ []) → AllByRecursion (λ x. IsNoEarlier x n) notes
NotesRise-below [] n rise = tt
NotesRise-below (x ∷ []) n rise = (rise.0, tt)
NotesRise-below (x ∷ y ∷ ys) n rise = (λ name. le_trans (rise.0 name) ((NotesRise-below (y ∷ ys) n rise.1).0 name), NotesRise-below (y ∷ ys) n rise.1)

-- the notes of messages, of which one more has the note now, and then a later one
pub notes-says : (made : List Made) (m : Made) (n : Note) → NotesRise (map (λ x. x.note) made ++ m.note ∷ []) → IsNoEarlier m.note n → NotesRise (map (λ x. x.note) (made ++ m ∷ []) ++ n ∷ [])
notes-says made m n rise later =
    subst NotesRise (sym (ap (λ ns. ns ++ n ∷ []) (map-append (λ (x : Made). x.note) made (m ∷ [])) ∙ append_assoc (map (λ (x : Made). x.note) made) (m.note ∷ []) (n ∷ [])))
    (NotesRise-push (map (λ x. x.note) made) m.note n rise later)

-- ---- points of a queue

-- what is told of a name is no later than the newest point
pub told-below : (newest : ℕ) (queue : Queue) → AllByRecursion (λ e. e.1 ≤ newest) queue → (name : Labels) → told (record { queue = queue; newest = newest }) name ≤ newest
told-below newest [] low name = omega arith
told-below newest (e ∷ es) low name = by (same_name name e.0) low.0 (told-below newest es low.1 name)
  where
    by : (b : Bool) → e.1 ≤ newest → told (record { queue = es; newest = newest }) name ≤ newest → unwrap_or (option_map (λ (q : Labels × ℕ). q.1) (cond b (Some e) (find (λ (q : Labels × ℕ). same_name name q.0) es))) newest ≤ newest
    by true first rest = first
    by false first rest = rest

-- an entry lowers no point
pub told-entered : (newest later : ℕ) (queue : Queue) (changed : List Changed) → newest ≤ later
    → IsNoEarlier (record { queue = queue; newest = newest }) (record { queue = fold (plain_change newest) queue changed; newest = later })
told-entered newest later queue changed higher name =
    subst (λ o. unwrap_or (point_in queue name) newest ≤ unwrap_or o later)
    (sym (ap (λ (q : Queue). point_in q name) (changes-names newest changed queue) ∙ point_in-queued newest queue names name))
    (by (point_in queue name) (list_any (λ m. same_name name m) names))
  where
    names : List Labels
    names = map (λ (c : Changed). c.key.owner) changed

    by : (o : Option ℕ) (b : Bool) → unwrap_or o newest ≤ unwrap_or (option_or o (cond b (Some newest) None)) later
    by (Some p) b = omega arith
    by None true = omega arith
    by None false = higher

-- ---- what is left of a queue by a test that answers alike for the same names

abbrev pub AnswersAlike : (Labels → Bool) → Type 0
AnswersAlike test = (a b : Labels) → same_name a b ≡ true → test a ≡ test b

abbrev pub left_by : (Labels → Bool) → Queue → Queue
left_by test queue = filter (λ e. test e.0) queue

pub point_in-left : (test : Labels → Bool) → AnswersAlike test → (queue : Queue) (name : Labels) → point_in (left_by test queue) name ≡ cond (test name) (point_in queue name) None
point_in-left test alike [] name = by (test name) None
  where
    by : (b : Bool) (o : Option ℕ) → o ≡ cond b o o
    by true o = refl
    by false o = refl
point_in-left test alike (e ∷ es) name = by (test e.0) refl (same_name name e.0) refl (point_in-left test alike es name)
  where
    by : (t : Bool) → test e.0 ≡ t → (s : Bool) → same_name name e.0 ≡ s → point_in (left_by test es) name ≡ cond (test name) (point_in es name) None
        → point_in (cond t (e ∷ left_by test es) (left_by test es)) name ≡ cond (test name) (option_map (λ (q : Labels × ℕ). q.1) (cond s (Some e) (find (λ (q : Labels × ℕ). same_name name q.0) es))) None
    by true t true s h = ap (λ b. option_map (λ (q : Labels × ℕ). q.1) (cond b (Some e) (find (λ (q : Labels × ℕ). same_name name q.0) (left_by test es)))) s ∙ sym (ap (λ b. cond b (Some e.1) None) (alike name e.0 s ∙ t))
    by true t false s h = ap (λ b. option_map (λ (q : Labels × ℕ). q.1) (cond b (Some e) (find (λ (q : Labels × ℕ). same_name name q.0) (left_by test es)))) s ∙ h
    by false t true s h = h ∙ ap (λ b. cond b (point_in es name) None) (alike name e.0 s ∙ t) ∙ sym (ap (λ b. cond b (Some e.1) None) (alike name e.0 s ∙ t))
    by false t false s h = h

-- names that leave are told up to the newest point
pub told-left : (test : Labels → Bool) → AnswersAlike test → (newest : ℕ) (queue : Queue) → AllByRecursion (λ e. e.1 ≤ newest) queue
    → IsNoEarlier (record { queue = queue; newest = newest }) (record { queue = left_by test queue; newest = newest })
told-left test alike newest queue low name =
    subst (λ o. unwrap_or (point_in queue name) newest ≤ unwrap_or o newest) (sym (point_in-left test alike queue name)) (by (test name))
  where
    by : (b : Bool) → unwrap_or (point_in queue name) newest ≤ unwrap_or (cond b (point_in queue name) None) newest
    by true = omega arith
    by false = told-below newest queue low name
