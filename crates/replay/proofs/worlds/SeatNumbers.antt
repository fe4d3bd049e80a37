-- The seat of a client, by its number.
--     seat-at, seat-within, no-seat      where the client of a word stands, and that none does
--     known-at, few-known      the client of a number, as it is known
use Rattle.std.proofs.Common.{◌≡◌, ℕ, zero, suc, ◌<◌, Bool, true, false, List, [], ◌∷◌, length, get_or, arith, string_bytes, Option, Some, None, refl, sym, ◌∙◌, ap, subst}
use Rattle.std.specs.Prelude.{position}
use Rattle.std.specs.Str.{bytes_eq}
use Rattle.std.proofs.lemmas.List.{length-map}
use Rattle.history.proofs.Positions.{position-map}
use Rattle.scripts.specs.Lines.{Word}
use Rattle.scripts.proofs.lines.SameWords.{same_word, word_itself, other_way}
use Rattle.scripts.proofs.lines.Numbers.{within-found}
use Rattle.scripts.specs.declared.clients.KnownClient.{KnownClient}
use Rattle.scripts.specs.Events.{client_at, known_clients}
use Rattle.replay.specs.declared.seats.Seat as program
use Rattle.replay.specs.KeptWorlds.{KeptSeat, seat_kept, seated, words_seated}
use Rattle.replay.specs.KeptSeats.{has_word}

-- it is the same from either side
either-way : (v w : Word) → bytes_eq v w ≡ bytes_eq w v
either-way v w = by (bytes_eq v w) refl
  where
    by : (b : Bool) → bytes_eq v w ≡ b → b ≡ bytes_eq w v
    by true h = sym (ap (bytes_eq w) (same_word v w h) ∙ word_itself w)
    by false h = sym (other_way v w h)

module _ (seats : List program.Seat) (w : Word) where
  by-words : (o : Option ℕ) → position (bytes_eq w) (words_seated (seated seats)) ≡ o → position (has_word w) (seated seats) ≡ o
  by-words o at =
      ap (λ (p : KeptSeat → Bool). position p (seated seats)) (λ i k. either-way k.word w i)
      ∙ sym (position-map (λ (k : KeptSeat). k.word) (bytes_eq w) (seated seats))
      ∙ at

  pub seat-at : (number : ℕ) → position (bytes_eq w) (words_seated (seated seats)) ≡ Some number → position (has_word w) (seated seats) ≡ Some number
  seat-at number at = by-words (Some number) at

  pub no-seat : position (bytes_eq w) (words_seated (seated seats)) ≡ None → position (has_word w) (seated seats) ≡ None
  no-seat none = by-words None none

  pub seat-within : (number : ℕ) → position (bytes_eq w) (words_seated (seated seats)) ≡ Some number → number < length seats
  seat-within number at = subst (λ (n : ℕ). number < n) (length-map seats seat_kept) (within-found (has_word w) (seated seats) number (by-words (Some number) at))

-- ---- the clients of a script

-- each is known by its word and by whether it is a lone one
pub known-at : (clients : List KnownClient) (number : ℕ) (client : KnownClient) → number < length clients → client ≡ get_or clients number client → client_at (known_clients clients) number ≡ (string_bytes client.word, client.is_lone)
known-at [] number client within is = absurd (omega (arith, within))
known-at (c ∷ cs) zero client within is = λ i. (string_bytes (sym is i).word, (sym is i).is_lone)
known-at (c ∷ cs) (suc number) client within is = known-at cs number client (omega (arith, within)) is

pub few-known : (clients : List KnownClient) (number : ℕ) → number < length (known_clients clients) → number < length clients
few-known clients number within = subst (λ (n : ℕ). number < n) (length-map clients (λ (c : KnownClient). (string_bytes c.word, c.is_lone))) within
