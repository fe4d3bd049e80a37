-- What the lines of a text name, gathered line by line.
--     named-more, named-outside, named-none      of the lines that are left: a further one, one that is outside, and none
--     made-behind, made-else      the client that a line makes: by the text behind `farclient`, or as in a script of one hub
--     carried-behind, carried-none      the client that a line lets carry a name, by the text behind `carry`
use Rattle.std.proofs.Common.{◌≡◌, ℕ, ◌<◌, ◌⊎◌, Bool, true, false, ◌&&◌, Option, Some, None, List, [], ◌∷◌, ◌++◌, length, refl, sym, ◌∙◌, ap, arith, append_assoc, inl, inr}
use Rattle.std.specs.Prelude.{option_map, option_to_list, filter_map, codes}
use Rattle.std.specs.List.{cons_option, join_with_byte}
use Rattle.std.proofs.lemmas.List.{append-nil}
use Rattle.std.proofs.lemmas.List.Splits.{join_with_byte-slice_split}
use Rattle.push_base.specs.Cases.{chosen, is_empty}
use Rattle.push_base.specs.Optional.{◌>>=◌}
use Rattle.dnsname.specs.Names.{Labels}
use Rattle.dnsname.specs.Text.{name_of_text}
use Rattle.scripts.specs.Lines.{Word, ScriptLine, word, words_in, line_of, number32}
use Rattle.scripts.specs.Scripts.{lines_in, client_word}
use Rattle.scripts.specs.Drafts.{client_in}
use Rattle.scripts.specs.WholeLines.{WholeLine, one, far_zone, far_client, carry, far_line, far_client_line, carry_line, whole_kind, whole_behind, whole_of_words, whole_line_of}
use Rattle.scripts.specs.WholeScripts.{but_last, texts_left, named_in, made_by, carried_by}
use Rattle.scripts.specs.KeptWhole.{made_in, carrier_in}
use Rattle.scripts.specs.declared.whole_line.WholeKind.{WholeKind}
use Rattle.scripts.specs.declared.whole_line.WholeKind.TheVariants as kinds
use Rattle.scripts.proofs.lines.ClientLines.{onto_line_some, line_parts, word_whole, word_octets, word_is}
use Rattle.scripts.proofs.lines.SameWords.{same_word}

-- ---- the texts that are left

texts-behind : (text : List ℕ) (texts : List (List ℕ)) → 0 < length texts → but_last (text ∷ texts) ≡ text ∷ but_last texts
texts-behind text [] some = absurd (omega arith)
texts-behind text (t ∷ ts) some = refl

texts-more : (too_long : Bool) (rest line after : List ℕ) → lines_in rest ≡ line ∷ lines_in after → (too_long && is_empty after) ≡ false → texts_left too_long (lines_in rest) ≡ line ∷ texts_left too_long (lines_in after)
texts-more false rest line after e inside = e
texts-more true rest line [] e inside = absurd cc
texts-more true rest line (x ∷ xs) e inside = ap but_last e ∙ texts-behind line (lines_in (x ∷ xs)) (onto_line_some x (lines_in xs))

texts-outside : (too_long : Bool) (rest line after : List ℕ) → lines_in rest ≡ line ∷ lines_in after → (too_long && is_empty after) ≡ true → texts_left too_long (lines_in rest) ≡ []
texts-outside false rest line after e outside = absurd cc
texts-outside true rest line [] e outside = ap but_last e
texts-outside true rest line (x ∷ xs) e outside = absurd cc

texts-none : (too_long : Bool) (rest : List ℕ) → length rest ≡ 0 → texts_left too_long (lines_in rest) ≡ []
texts-none false [] e = refl
texts-none true [] e = refl
texts-none too_long (x ∷ xs) e = absurd (omega arith)

-- ---- what they name

module _ {X : Type 0} (names : WholeLine → Option X) where
  abbrev named_by : List ℕ → Option X
  named_by text = whole_line_of text >>= names

  named-first : (o : Option X) (xs : List X) → cons_option o xs ≡ option_to_list o ++ xs
  named-first None xs = refl
  named-first (Some x) xs = refl

  pub named-more : (too_long : Bool) (rest line after : List ℕ) (so_far then whole : List X) → lines_in rest ≡ line ∷ lines_in after → (too_long && is_empty after) ≡ false → then ≡ so_far ++ option_to_list (named_by line)
      → so_far ++ named_in names too_long (lines_in rest) ≡ whole → then ++ named_in names too_long (lines_in after) ≡ whole
  named-more too_long rest line after so_far then whole e inside added so =
      let left = named_in names too_long (lines_in after) in
      let here : named_in names too_long (lines_in rest) ≡ option_to_list (named_by line) ++ left = ap (filter_map named_by) (texts-more too_long rest line after e inside) ∙ named-first (named_by line) left in
      ap (λ (xs : List X). xs ++ left) added ∙ append_assoc so_far (option_to_list (named_by line)) left ∙ ap (λ (xs : List X). so_far ++ xs) (sym here) ∙ so

  pub named-outside : (too_long : Bool) (rest line after : List ℕ) (so_far whole : List X) → lines_in rest ≡ line ∷ lines_in after → (too_long && is_empty after) ≡ true → so_far ++ named_in names too_long (lines_in rest) ≡ whole → so_far ≡ whole
  named-outside too_long rest line after so_far whole e outside so =
      sym (append-nil so_far) ∙ ap (λ (ts : List (List ℕ)). so_far ++ filter_map named_by ts) (sym (texts-outside too_long rest line after e outside)) ∙ so

  pub named-none : (too_long : Bool) (rest : List ℕ) (so_far whole : List X) → length rest ≡ 0 → so_far ++ named_in names too_long (lines_in rest) ≡ whole → so_far ≡ whole
  named-none too_long rest so_far whole none so = sym (append-nil so_far) ∙ ap (λ (ts : List (List ℕ)). so_far ++ filter_map named_by ts) (sym (texts-none too_long rest none)) ∙ so

-- ---- a client of the second hub

abbrev made_behind : List Word → Option Word
made_behind ws = far_client_line ws >>= made_by

made_of : (o : Option Word) → (option_map (λ c. far_client c) o >>= made_by) ≡ o
made_of None = refl
made_of (Some v) = refl

-- one word behind the first, and it is that
made-word : (ws : List Word) (v : Word) → made_behind ws ≡ Some v → ws ≡ v ∷ []
made-word [] v e = absurd cc
made-word (x ∷ []) v e = ap (λ (w : Word). w ∷ []) (word_is x v (sym (made_of (word x)) ∙ e))
made-word (x ∷ y ∷ ws) v e = absurd cc

-- what stands behind the first word of such a line
made-text : (w : Word) → word w ≡ made_behind (words_in w)
made-text w = by (word w) refl
  where
    by : (o : Option Word) → word w ≡ o → o ≡ made_behind (words_in w)
    by (Some v) e =
        let same : w ≡ v = word_is w v e in
        let is_word : word w ≡ Some w = e ∙ ap (λ (x : Word). Some x) (sym same) in
        sym e ∙ sym (made_of (word w)) ∙ ap made_behind (sym (word_whole w (word_octets w is_word)))
    by None e = none (made_behind (words_in w)) refl
      where
        none : (r : Option Word) → made_behind (words_in w) ≡ r → None ≡ r
        none None f = refl
        none (Some v) f =
            let single : words_in w ≡ v ∷ [] = made-word (words_in w) v f in
            let same : w ≡ v = sym (join_with_byte-slice_split 32 w) ∙ ap (join_with_byte 32) single in
            let wrong : Some v ≡ None = sym f ∙ ap made_behind (single ∙ ap (λ (x : Word). x ∷ []) (sym same)) ∙ made_of (word w) ∙ e in
            absurd cc

pub made-behind : (line w : List ℕ) → line ≡ codes "farclient " ++ w → word w ≡ made_in line
made-behind line w e = made-text w ∙ sym (ap made_in e)

-- ---- any other line

one-made : (o : Option ScriptLine) → (option_map (λ l. one l) o >>= made_by) ≡ (o >>= client_word)
one-made None = refl
one-made (Some line) = refl

one-carried : (o : Option ScriptLine) → (option_map (λ l. one l) o >>= carried_by) ≡ None
one-carried None = refl
one-carried (Some line) = refl

-- what neither a zone nor a carry, or neither a zone nor a client, names
module _ {X : Type 0} (names : WholeLine → Option X) where
  zone-names : ((apex : Labels) (serial : ℕ) → names (far_zone apex serial) ≡ None) → (ws : List Word) → (far_line ws >>= names) ≡ None
  zone-names none [] = refl
  zone-names none (n ∷ []) = refl
  zone-names none (n ∷ s ∷ []) = by (name_of_text n) (number32 s)
    where
      by : (a : Option Labels) (b : Option ℕ) → ((a >>= λ apex. option_map (λ serial. far_zone apex serial) b) >>= names) ≡ None
      by None b = refl
      by (Some apex) None = refl
      by (Some apex) (Some serial) = none apex serial
  zone-names none (n ∷ s ∷ x ∷ ws) = refl

  carry-names : ((w : Word) (name : Labels) (written : List ℕ) → names (carry w name written) ≡ None) → (ws : List Word) → (carry_line ws >>= names) ≡ None
  carry-names none [] = refl
  carry-names none (w ∷ []) = refl
  carry-names none (w ∷ n ∷ []) = by (word w) (name_of_text n)
    where
      by : (a : Option Word) (b : Option Labels) → ((a >>= λ c. option_map (λ name. carry c name n) b) >>= names) ≡ None
      by None b = refl
      by (Some c) None = refl
      by (Some c) (Some name) = none c name n
  carry-names none (w ∷ n ∷ x ∷ ws) = refl

  client-names : ((w : Word) → names (far_client w) ≡ None) → (ws : List Word) → (far_client_line ws >>= names) ≡ None
  client-names none [] = refl
  client-names none (w ∷ []) = by (word w)
    where
      by : (a : Option Word) → (option_map (λ c. far_client c) a >>= names) ≡ None
      by None = refl
      by (Some c) = none c
  client-names none (w ∷ x ∷ ws) = refl

-- the first word of a line of a kind
pub kind-client : (a b c : Bool) → chosen ((a, kinds.FarZone) ∷ (b, kinds.FarClient) ∷ (c, kinds.Carry) ∷ []) kinds.One ≡ kinds.FarClient → b ≡ true
kind-client true b c e = absurd cc
kind-client false true c e = refl
kind-client false false true e = absurd cc
kind-client false false false e = absurd cc

pub kind-carry : (a b c : Bool) → chosen ((a, kinds.FarZone) ∷ (b, kinds.FarClient) ∷ (c, kinds.Carry) ∷ []) kinds.One ≡ kinds.Carry → c ≡ true
kind-carry true b c e = absurd cc
kind-carry false true c e = absurd cc
kind-carry false false true e = refl
kind-carry false false false e = absurd cc

whole : (line : List ℕ) (ws : List Word) → words_in line ≡ ws → line ≡ join_with_byte 32 ws
whole line ws e = sym (join_with_byte-slice_split 32 line) ∙ ap (join_with_byte 32) e

module _ (line : List ℕ) (no_far : (w : Word) → line ≡ codes "farclient " ++ w → ⊥) where
  -- a line that makes a client of a script of one hub
  made-first : (v : Word) → (words_in line ≡ codes "client" ∷ v ∷ []) ⊎ (words_in line ≡ codes "lone" ∷ v ∷ []) → client_in line ≡ made_in line
  made-first v (inl e) = sym (ap (λ (ws : List Word). whole_of_words line ws >>= made_by) e ∙ one-made (line_of line))
  made-first v (inr e) = sym (ap (λ (ws : List Word). whole_of_words line ws >>= made_by) e ∙ one-made (line_of line))

  -- one that makes none
  made-kind : (w : Word) (ws : List Word) → words_in line ≡ w ∷ ws → client_in line ≡ None → (kind : WholeKind) → whole_kind w ≡ kind → (whole_behind kind line ws >>= made_by) ≡ None
  made-kind w ws e none kinds.FarZone k = zone-names made_by (λ apex serial. refl) ws
  made-kind w ws e none kinds.Carry k = carry-names made_by (λ c name written. refl) ws
  made-kind w ws e none kinds.One k = one-made (line_of line) ∙ none
  made-kind w ws e none kinds.FarClient k = by (made_behind ws) refl
    where
      by : (r : Option Word) → made_behind ws ≡ r → r ≡ None
      by None f = refl
      by (Some v) f =
          let first : w ≡ codes "farclient" = same_word w (codes "farclient") (kind-client _ _ _ k) in
          let words : w ∷ ws ≡ codes "farclient" ∷ v ∷ [] = (λ i. first i ∷ made-word ws v f i) in
          absurd (no_far v (whole line (codes "farclient" ∷ v ∷ []) (e ∙ words)))

  made-none : (ws : List Word) → words_in line ≡ ws → client_in line ≡ None → made_in line ≡ None
  made-none [] e none = ap (λ (vs : List Word). whole_of_words line vs >>= made_by) e
  made-none (w ∷ ws) e none = ap (λ (vs : List Word). whole_of_words line vs >>= made_by) e ∙ made-kind w ws e none (whole_kind w) refl

  pub made-else : client_in line ≡ made_in line
  made-else = by (client_in line) refl
    where
      by : (o : Option Word) → client_in line ≡ o → client_in line ≡ made_in line
      by None none = none ∙ sym (made-none (words_in line) refl none)
      by (Some v) some = made-first v (line_parts line v some)

-- ---- a client that carries

pub carried-behind : (line rest : List ℕ) → line ≡ codes "carry " ++ rest → (carry_line (words_in rest) >>= carried_by) ≡ carrier_in line
carried-behind line rest e = sym (ap carrier_in e)

module _ (line : List ℕ) (no_carry : (rest : Word) → line ≡ codes "carry " ++ rest → ⊥) where
  carried-kind : (w : Word) (ws : List Word) → words_in line ≡ w ∷ ws → (kind : WholeKind) → whole_kind w ≡ kind → (whole_behind kind line ws >>= carried_by) ≡ None
  carried-kind w ws e kinds.FarZone k = zone-names carried_by (λ apex serial. refl) ws
  carried-kind w ws e kinds.FarClient k = client-names carried_by (λ c. refl) ws
  carried-kind w ws e kinds.One k = one-carried (line_of line)
  carried-kind w [] e kinds.Carry k = refl
  carried-kind w (x ∷ ws) e kinds.Carry k =
      let first : w ≡ codes "carry" = same_word w (codes "carry") (kind-carry _ _ _ k) in
      absurd (no_carry (join_with_byte 32 (x ∷ ws)) (whole line (codes "carry" ∷ x ∷ ws) (e ∙ ap (λ (v : Word). v ∷ x ∷ ws) first)))

  pub carried-none : None ≡ carrier_in line
  carried-none = by (words_in line) refl
    where
      by : (ws : List Word) → words_in line ≡ ws → None ≡ carrier_in line
      by [] e = sym (ap (λ (vs : List Word). whole_of_words line vs >>= carried_by) e)
      by (w ∷ ws) e = sym (ap (λ (vs : List Word). whole_of_words line vs >>= carried_by) e ∙ carried-kind w ws e (whole_kind w) refl)
