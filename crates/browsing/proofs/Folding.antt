-- Questions are asked, or dropped, one after the other, and noted.
--     Folding f start started whole rest kept noted      so far
use Rattle.std.proofs.Common.{◌≡◌, List, [], ◌∷◌, refl, sym, ◌∙◌, ap, subst}
use Rattle.std.specs.Prelude.{fold}
use Rattle.rrset.specs.declared.record.Question.{Question}
use Rattle.pushclient.specs.Clients.{Client}
use Rattle.pushclient.specs.Rule.{KeptClient, StandsFor}

abbrev pub Noting : Type 0
Noting = Client × List Question

-- what is kept stands for the client, and the notes are the same
abbrev pub NotesAs : KeptClient → List Question → Noting → Type 0
NotesAs kept noted e = StandsFor kept e.0 × (noted ≡ e.1)

-- what is left leads to the whole
pub record IsFolding (f : Noting → Question → Noting) (start : Noting) (whole rest : List Question) (kept : KeptClient) (noted : List Question) : Type 0 where
  pub mid : Noting
  pub notes : NotesAs kept noted mid
  pub same : fold f mid rest ≡ fold f start whole

unfoldable pub Folding : (Noting → Question → Noting) → KeptClient → List Question → List Question → List Question → KeptClient → List Question → Type 0
Folding f start started whole rest kept noted = (plain : Client) → StandsFor start plain → IsFolding f (plain, started) whole rest kept noted

-- one question
abbrev pub FoldsOne : (Noting → Question → Noting) → KeptClient → List Question → Question → KeptClient → List Question → Type 0
FoldsOne f kept noted q later noted_later = (plain : Client) → StandsFor kept plain → NotesAs later noted_later (f (plain, noted) q)

pub folding-begins : (f : Noting → Question → Noting) (start : KeptClient) (started whole : List Question) → Folding f start started whole whole start started
unfolding Folding
folding-begins f start started whole plain s = record { mid = (plain, started); notes = (s, refl); same = refl }

pub folding-more : (f : Noting → Question → Noting) (start : KeptClient) (started whole left : List Question) (kept : KeptClient) (noted : List Question) (q : Question) (rest : List Question) (later : KeptClient) (noted_later : List Question)
    → left ≡ q ∷ rest → FoldsOne f kept noted q later noted_later → Folding f start started whole left kept noted → Folding f start started whole rest later noted_later
unfolding Folding
folding-more f start started whole left kept noted q rest later noted_later is one so_far plain s =
    let r = so_far plain s in
    record {
      mid = f r.mid q;
      notes = subst (λ (n : List Question). NotesAs later noted_later (f (r.mid.0, n) q)) r.notes.1 (one r.mid.0 r.notes.0);
      same = sym (ap (λ (l : List Question). fold f r.mid l) is) ∙ r.same;
    }

pub folding-done : (f : Noting → Question → Noting) (start : KeptClient) (started whole left : List Question) (kept : KeptClient) (noted : List Question)
    → left ≡ [] → Folding f start started whole left kept noted → (plain : Client) → StandsFor start plain → NotesAs kept noted (fold f (plain, started) whole)
unfolding Folding
folding-done f start started whole left kept noted none so_far plain s =
    let r = so_far plain s in
    subst (NotesAs kept noted) (sym (ap (λ (l : List Question). fold f r.mid l) none) ∙ r.same) r.notes
