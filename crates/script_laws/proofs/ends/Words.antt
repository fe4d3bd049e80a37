-- Which end and which close of a client a line of a script's text tells.
--     TellsByItself w line      of the client of this word none but those that come by themselves
--     other-line      a line that begins with another word
--     ends-say, closes-say      the lines on an end and on a close
--     tells-no-other      what lines tell
use Rattle.std.proofs.Common.{◌≡◌, ℕ, Bool, true, false, cond, not, ◌||◌, List, [], ◌∷◌, ◌++◌, length, take, drop, Option, Some, None, refl, sym, ◌∙◌, ap}
use Rattle.std.specs.Prelude.{IsTrue, codes}
use Rattle.std.specs.List.{AllByRecursion, list_all, list_any}
use Rattle.std.specs.Str.{bytes_eq}
use Rattle.dnsname.proofs.Decisions.{and_true}
use Rattle.dsosession.specs.declared.session.EndReason.{EndReason}
use Rattle.dsosession.specs.declared.session.EndReason.TheVariants as ends
use Rattle.dsosession.specs.declared.session.CloseReason.{CloseReason}
use Rattle.dsosession.specs.declared.session.CloseReason.TheVariants as closes
use Rattle.pushserver.proofs.hub_steps.Pairs.{all-weaken}
use Rattle.scripts.specs.Lines.{Word, is_word_octet}
use Rattle.scripts.specs.Scripts.{is_among}
use Rattle.scripts.specs.Words.{spaced, close_words}
use Rattle.replay.specs.TextWords.{end_words}
use Rattle.replay.specs.Text.{end_lines, close_lines}
use Rattle.replay.specs.Promises.{is_end_by_itself, is_close_by_itself}
use Rattle.scripts.proofs.lines.SameWords.{same_word}
use Rattle.script_laws.specs.Lines.{IsWord}

abbrev pub end_line : Word → EndReason → List ℕ
end_line w reason = spaced (codes "end" ∷ w ∷ end_words reason ∷ [])

abbrev pub close_line : Word → CloseReason → List ℕ
close_line w reason = spaced (codes "closed" ∷ w ∷ close_words reason ∷ [])

pub record TellsByItself (w : Word) (line : List ℕ) : Type 0 where
  pub end : (reason : EndReason) → line ≡ end_line w reason → IsTrue (is_end_by_itself reason)
  pub close : (reason : CloseReason) → line ≡ close_line w reason → IsTrue (is_close_by_itself reason)

-- ---- a line by its first word

abbrev begins : List ℕ → List ℕ → Bool
begins word line = bytes_eq word (take (length word) line)

-- it tells neither
abbrev pub is_other : List ℕ → Bool
is_other line = not (begins (codes "end") line || begins (codes "closed") line)

pub other-line : (w : Word) (line : List ℕ) → IsTrue (is_other line) → TellsByItself w line
other-line w line h = record {
  end = λ reason e. (let wrong : false ≡ true = ap is_other (sym e) ∙ h in absurd cc);
  close = λ reason e. (let wrong : false ≡ true = ap is_other (sym e) ∙ h in absurd cc);
}

-- ---- a line by its second word

-- up to the first octet that no word has, and from there on
abbrev word_front : List ℕ → List ℕ
word_front [] = []
word_front (c ∷ cs) = cond (is_word_octet c) (c ∷ word_front cs) []

abbrev word_back : List ℕ → List ℕ
word_back [] = []
word_back (c ∷ cs) = cond (is_word_octet c) (word_back cs) (c ∷ cs)

front-is : (w rest : List ℕ) → IsWord w → word_front (w ++ 32 ∷ rest) ≡ w
front-is [] rest h = refl
front-is (c ∷ w) rest h =
    let both = and_true (is_word_octet c) (list_all is_word_octet w) h in
    ap (λ (b : Bool). cond b (c ∷ word_front (w ++ 32 ∷ rest)) []) both.0 ∙ ap (λ (cs : List ℕ). c ∷ cs) (front-is w rest both.1)

back-is : (w rest : List ℕ) → IsWord w → word_back (w ++ 32 ∷ rest) ≡ 32 ∷ rest
back-is [] rest h = refl
back-is (c ∷ w) rest h =
    let both = and_true (is_word_octet c) (list_all is_word_octet w) h in
    ap (λ (b : Bool). cond b (word_back (w ++ 32 ∷ rest)) (c ∷ (w ++ 32 ∷ rest))) both.0 ∙ back-is w rest both.1

same-parts : (v w x y : List ℕ) → IsWord v → IsWord w → v ++ 32 ∷ x ≡ w ++ 32 ∷ y → (v ≡ w) × (x ≡ y)
same-parts v w x y is_v is_w e = (
  sym (front-is v x is_v) ∙ ap word_front e ∙ front-is w y is_w,
  ap (drop 1) (sym (back-is v x is_v) ∙ ap word_back e ∙ back-is w y is_w),
)

-- ---- a line by its reason

abbrev ends_by_itself : List ℕ → Bool
ends_by_itself words = begins (codes "silent") words || begins (codes "idle") words || begins (codes "stopped") words || begins (codes "behind") words

end-words : (reason : EndReason) → ends_by_itself (end_words reason) ≡ is_end_by_itself reason
end-words ends.Short = refl
end-words ends.Answer = refl
end-words ends.Counts = refl
end-words ends.Tlvs = refl
end-words ends.Early = refl
end-words (ends.Misuse kind) = refl
end-words (ends.BadData kind) = refl
end-words (ends.Unknown kind) = refl
end-words (ends.IdInUse id) = refl
end-words (ends.Twice id) = refl
end-words ends.Silent = refl
end-words ends.Idle = refl
end-words ends.Stopped = refl
end-words (ends.Behind point) = refl
end-words ends.Gone = refl

abbrev closes_by_itself : List ℕ → Bool
closes_by_itself words = begins (codes "idle") words || begins (codes "delay") words

close-words : (reason : CloseReason) → closes_by_itself (close_words reason) ≡ is_close_by_itself reason
close-words closes.Short = refl
close-words closes.Opcode = refl
close-words closes.Counts = refl
close-words closes.Tlvs = refl
close-words closes.Early = refl
close-words closes.Idle = refl
close-words (closes.Stranger id) = refl
close-words (closes.Misuse kind) = refl
close-words (closes.BadData kind) = refl
close-words (closes.Unknown kind) = refl
close-words (closes.Interval ms) = refl
close-words (closes.Kept rcode) = refl
close-words (closes.Delay ms rcode) = refl

-- ---- the lines on an end and on a close

module _ (v w : Word) (is_v : IsWord v) (is_w : IsWord w) where
  end-line : (told : EndReason) → (v ≡ w → IsTrue (is_end_by_itself told)) → TellsByItself w (end_line v told)
  end-line told h = record {
    end = λ reason e.
        let parts = same-parts v w (end_words told) (end_words reason) is_v is_w (ap (drop 4) e) in
        sym (end-words reason) ∙ ap ends_by_itself (sym parts.1) ∙ end-words told ∙ h parts.0;
    close = λ reason e. (let wrong : true ≡ false = ap (begins (codes "end")) e in absurd cc);
  }

  close-line : (told : CloseReason) → (v ≡ w → IsTrue (is_close_by_itself told)) → TellsByItself w (close_line v told)
  close-line told h = record {
    end = λ reason e. (let wrong : true ≡ false = ap (begins (codes "closed")) e in absurd cc);
    close = λ reason e.
        let parts = same-parts v w (close_words told) (close_words reason) is_v is_w (ap (drop 7) e) in
        sym (close-words reason) ∙ ap closes_by_itself (sym parts.1) ∙ close-words told ∙ h parts.0;
  }

  pub ends-say : (over : Option EndReason) → ((reason : EndReason) → over ≡ Some reason → v ≡ w → IsTrue (is_end_by_itself reason)) → AllByRecursion (TellsByItself w) (end_lines v over)
  ends-say None h = tt
  ends-say (Some reason) h = (end-line reason (h reason refl), tt)

  pub closes-say : (closing : Option CloseReason) → ((reason : CloseReason) → closing ≡ Some reason → v ≡ w → IsTrue (is_close_by_itself reason)) → AllByRecursion (TellsByItself w) (close_lines v closing)
  closes-say None h = tt
  closes-say (Some reason) h = (close-line reason (h reason refl), tt)

-- ---- what lines tell

any-line : (P : Type 0) (line : List ℕ) (lines : List (List ℕ)) → AllByRecursion (λ l. l ≡ line → P) lines → list_any (bytes_eq line) lines ≡ true → P
any-line P line [] all h = absurd cc
any-line P line (l ∷ ls) all h = by (any-line P line ls all.1) (bytes_eq line l) refl h
  where
    by : (list_any (bytes_eq line) ls ≡ true → P) → (b : Bool) → bytes_eq line l ≡ b → (b || list_any (bytes_eq line) ls) ≡ true → P
    by rest true is h = all.0 (sym (same_word line l is))
    by rest false is h = rest h

pub record TellNoOther (w : Word) (lines : List (List ℕ)) : Type 0 where
  pub end : (reason : EndReason) → IsTrue (is_among lines (end_line w reason)) → IsTrue (is_end_by_itself reason)
  pub close : (reason : CloseReason) → IsTrue (is_among lines (close_line w reason)) → IsTrue (is_close_by_itself reason)

pub tells-no-other : (w : Word) (lines : List (List ℕ)) → AllByRecursion (TellsByItself w) lines → TellNoOther w lines
tells-no-other w lines all = record {
  end = λ reason.
      any-line (IsTrue (is_end_by_itself reason)) (end_line w reason) lines
      (all-weaken (TellsByItself w) (λ l. l ≡ end_line w reason → IsTrue (is_end_by_itself reason)) (λ l t. t.end reason) lines all);
  close = λ reason.
      any-line (IsTrue (is_close_by_itself reason)) (close_line w reason) lines
      (all-weaken (TellsByItself w) (λ l. l ≡ close_line w reason → IsTrue (is_close_by_itself reason)) (λ l t. t.close reason) lines all);
}
