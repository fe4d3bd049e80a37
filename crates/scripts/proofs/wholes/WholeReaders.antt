-- What holds of all that is read of a line of a script that may have a second hub.
--     OnEachWhole P      P of what each kind of line says
--     whole-reads      so P holds of a line that was read
use Rattle.std.proofs.Common.{◌≡◌, ℕ, List, [], ◌∷◌, Option, Some, None, refl, subst}
use Rattle.std.specs.Prelude.{option_map}
use Rattle.push_base.specs.Optional.{◌>>=◌}
use Rattle.dnsname.specs.Names.{Labels}
use Rattle.dnsname.specs.Text.{name_of_text}
use Rattle.dsotlv.proofs.Results.{same_found}
use Rattle.scripts.specs.Lines.{Word, ScriptLine, number32, word, words_in, line_of}
use Rattle.scripts.specs.declared.whole_line.WholeKind.{WholeKind}
use Rattle.scripts.specs.declared.whole_line.WholeKind.TheVariants as kinds
use Rattle.scripts.specs.WholeLines.{WholeLine, one, far_zone, far_client, carry, far_line, far_client_line, carry_line, whole_kind, whole_behind, whole_of_words, whole_line_of}

pub record OnEachWhole (P : WholeLine → Type 0) : Type 0 where
  pub on_zone : (n : Word) (apex : Labels) → name_of_text n ≡ Some apex → (s : Word) (serial : ℕ) → number32 s ≡ Some serial → P (far_zone apex serial)
  pub on_client : (w c : Word) → word w ≡ Some c → P (far_client c)
  pub on_carry : (w c : Word) → word w ≡ Some c → (n : Word) (name : Labels) → name_of_text n ≡ Some name → P (carry c name n)
  pub on_one : (text : List ℕ) (line : ScriptLine) → line_of text ≡ Some line → P (one line)

-- P of what an option gives, if it gives something
abbrev Gives : (WholeLine → Type 0) → Option WholeLine → Type 0
Gives P o = (line : WholeLine) → o ≡ Some line → P line

none : (P : WholeLine → Type 0) → Gives P None
none P line e = absurd cc

made : {A : Type 0} (P : WholeLine → Type 0) (f : A → WholeLine) (o : Option A) → ((a : A) → o ≡ Some a → P (f a)) → Gives P (option_map f o)
made P f None h line e = absurd cc
made P f (Some a) h line e = subst P (same_found (f a) line e) (h a refl)

bound : {A : Type 0} (P : WholeLine → Type 0) (o : Option A) (f : A → Option WholeLine) → ((a : A) → o ≡ Some a → Gives P (f a)) → Gives P (o >>= f)
bound P None f h = none P
bound P (Some a) f h = h a refl

module _ (P : WholeLine → Type 0) (each : OnEachWhole P) where
  zones : (ws : List Word) → Gives P (far_line ws)
  zones [] = none P
  zones (n ∷ []) = none P
  zones (n ∷ s ∷ []) = bound P (name_of_text n) (λ apex. option_map (λ serial. far_zone apex serial) (number32 s)) (λ apex is. made P (λ serial. far_zone apex serial) (number32 s) (λ serial at. each.on_zone n apex is s serial at))
  zones (n ∷ s ∷ w ∷ ws) = none P

  clients : (ws : List Word) → Gives P (far_client_line ws)
  clients [] = none P
  clients (w ∷ []) = made P (λ c. far_client c) (word w) (λ c is. each.on_client w c is)
  clients (w ∷ v ∷ ws) = none P

  carries : (ws : List Word) → Gives P (carry_line ws)
  carries [] = none P
  carries (w ∷ []) = none P
  carries (w ∷ n ∷ []) = bound P (word w) (λ c. option_map (λ name. carry c name n) (name_of_text n)) (λ c is. made P (λ name. carry c name n) (name_of_text n) (λ name at. each.on_carry w c is n name at))
  carries (w ∷ n ∷ v ∷ ws) = none P

  kind_reads : (kind : WholeKind) (text : List ℕ) (ws : List Word) → Gives P (whole_behind kind text ws)
  kind_reads kinds.FarZone text ws = zones ws
  kind_reads kinds.FarClient text ws = clients ws
  kind_reads kinds.Carry text ws = carries ws
  kind_reads kinds.One text ws = made P (λ l. one l) (line_of text) (λ l is. each.on_one text l is)

  words_read : (text : List ℕ) (ws : List Word) → Gives P (whole_of_words text ws)
  words_read text [] = none P
  words_read text (w ∷ ws) = kind_reads (whole_kind w) text ws

  pub whole-reads : (text : List ℕ) (line : WholeLine) → whole_line_of text ≡ Some line → P line
  whole-reads text = words_read text (words_in text)
