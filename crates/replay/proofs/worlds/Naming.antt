-- Peers and their words.
--     passed, found      a peer with another word, and one with the word
--     named-filter      peers that go
use Rattle.std.proofs.Common.{◌≡◌, ℕ, ◌+◌, ◌<◌, Bool, true, false, not, cond, List, [], ◌∷◌, ◌++◌, filter, length, drop, get_or, Option, Some, option_map, sym, ◌∙◌, ap, refl, string_bytes}
use Rattle.std.specs.Prelude.{find}
use Rattle.std.specs.Str.{bytes_eq}
use Rattle.std.proofs.lemmas.List.{at_drop_more, map-append}
use Rattle.scripts.specs.Lines.{Word}
use Rattle.replay.specs.declared.world.Peer.{Peer}
use Rattle.replay.specs.World.{number_in, without}
use Rattle.replay.specs.KeptWorlds.{Named, named}

abbrev pub from : Word → List Peer → Option ℕ
from w peers = number_in (named peers) w

abbrev by_word : Word → Peer → List Peer → Bool → Option ℕ
by_word w p rest b = option_map (λ (e : Word × ℕ). e.1) (cond b (Some (string_bytes p.word, p.session)) (find (λ (e : Word × ℕ). bytes_eq e.0 w) (named rest)))

at_peer : (peers : List Peer) (i : ℕ) (p : Peer) (w : Word) → i < length peers → p ≡ get_or peers i p → from w (drop i peers) ≡ by_word w p (drop (i + 1) peers) (bytes_eq (string_bytes p.word) w)
at_peer peers i p w within is = at_drop_more (from w) peers i p within ∙ ap (λ (q : Peer). from w (q ∷ drop (i + 1) peers)) (sym is)

pub passed : (peers : List Peer) (i : ℕ) (p : Peer) (w : Word) (whole : Option ℕ) → i < length peers → p ≡ get_or peers i p → bytes_eq (string_bytes p.word) w ≡ false
    → from w (drop i peers) ≡ whole → from w (drop (i + 1) peers) ≡ whole
passed peers i p w whole within is other so_far = sym (at_peer peers i p w within is ∙ ap (by_word w p (drop (i + 1) peers)) other) ∙ so_far

pub found : (peers : List Peer) (i : ℕ) (p : Peer) (w : Word) (whole : Option ℕ) → i < length peers → p ≡ get_or peers i p → bytes_eq (string_bytes p.word) w ≡ true
    → from w (drop i peers) ≡ whole → Some p.session ≡ whole
found peers i p w whole within is same so_far = sym (at_peer peers i p w within is ∙ ap (by_word w p (drop (i + 1) peers)) same) ∙ so_far

pub named-filter : (w : Word) (peers : List Peer) → named (filter (λ (p : Peer). not (bytes_eq (string_bytes p.word) w)) peers) ≡ without w (named peers)
named-filter w [] = refl
named-filter w (p ∷ peers) = by (not (bytes_eq (string_bytes p.word) w)) (named-filter w peers)
  where
    pair : Word × ℕ
    pair = (string_bytes p.word, p.session)

    by : (b : Bool) → named (filter (λ (p : Peer). not (bytes_eq (string_bytes p.word) w)) peers) ≡ without w (named peers)
        → named (cond b (p ∷ filter (λ (p : Peer). not (bytes_eq (string_bytes p.word) w)) peers) (filter (λ (p : Peer). not (bytes_eq (string_bytes p.word) w)) peers))
        ≡ cond b (pair ∷ without w (named peers)) (without w (named peers))
    by true h = ap (λ (ns : Named). pair ∷ ns) h
    by false h = h

pub named-push : (peers later : List Peer) (p : Peer) (w : Word) (n : ℕ) → later ≡ peers ++ p ∷ [] → string_bytes p.word ≡ w → p.session ≡ n → named later ≡ named peers ++ (w, n) ∷ []
named-push peers later p w n is word number = ap named is ∙ map-append (λ (q : Peer). (string_bytes q.word, q.session)) peers (p ∷ []) ∙ (λ i. named peers ++ (word i, number i) ∷ [])
