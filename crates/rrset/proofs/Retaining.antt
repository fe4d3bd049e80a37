-- The rows that a test of keys keeps, whose calls are made in turn.
use Rattle.std.proofs.Common.{◌≡◌, Bool, true, false, cond, List, [], ◌∷◌, length, Bor, ap, ◌∙◌, refl, arith}
use Rattle.std.specs.Fn.{CalledAt, ComputesKey}
use Rattle.std.specs.List.{items_where_true}
use Rattle.std.specs.List.Retain.{ReturnsInTurn, IsFiltered}
use denote.Param.Members.{Mut}
use Rattle.rrset.specs.KeyedRows.{Rows, only_rows}
use Rattle.rrset.specs.declared.record.Key.{Key}

-- the answer of a call, and that the next ones are the function's too
answered : {F : Type 0} (g : Mut F (Bor Key × Unit {0}) Bool) (p : Key → Bool) (f f' : F) (key : Key) (b : Bool) → ComputesKey g p f → CalledAt g f key b f' → (b ≡ p key) × ComputesKey g p f'
answered g p f f' key b h call = (
  (h.at ((call.shown, tt) ∷ []) b f' call.called).0 ∙ ap p call.shows,
  record { at = λ calls. (h.at ((call.shown, tt) ∷ calls) b f' call.called).1 },
)

-- a closure with a state that holds the test, and calls it at each key
module _ {F S X : Type 0} (g : Mut F (Bor Key × Unit {0}) Bool) (p : Key → Bool) (T : S → Key × X → Bool → S → Type 0) (inner : S → F)
    (calls : (s : S) (e : Key × X) (b : Bool) (t : S) → T s e b t → CalledAt g (inner s) e.0 b (inner t)) where
  kept : (bs : List Bool) (rows : Rows X) (s t : S) → length bs ≡ length rows → ReturnsInTurn T s bs rows t → ComputesKey g p (inner s) → items_where_true bs rows ≡ only_rows p rows
  kept [] [] s t same told h = refl
  kept [] (e ∷ rows) s t same told h = absurd (omega arith)
  kept (b ∷ bs) [] s t same told h = absurd told
  kept (b ∷ bs) (e ∷ rows) s t same told h =
      let one = answered g p (inner s) (inner told.0) e.0 b h (calls s e b told.0 told.1) in
      by b one.0 (kept bs rows told.0 t (omega arith) told.2 one.1)
    where
      by : (b : Bool) → b ≡ p e.0 → items_where_true bs rows ≡ only_rows p rows → items_where_true (b ∷ bs) (e ∷ rows) ≡ only_rows p (e ∷ rows)
      by true is rest = ap (λ l. e ∷ l) rest ∙ ap (λ (b : Bool). cond b (e ∷ only_rows p rows) (only_rows p rows)) is
      by false is rest = rest ∙ ap (λ (b : Bool). cond b (e ∷ only_rows p rows) (only_rows p rows)) is

  pub kept_by_calls : (rows new : Rows X) (s : S) → IsFiltered T s rows new → ComputesKey g p (inner s) → new ≡ only_rows p rows
  kept_by_calls rows new s told h = told.4 ∙ kept told.0 rows s told.1 told.2 told.3 h
