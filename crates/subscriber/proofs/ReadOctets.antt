-- What a read gave goes into the client that waits, which has room for it.
--     hears-bytes, hears-quiet, hears-end      what is said to each read
--     are_octets      numbers of one octet each
use Rattle.std.proofs.Common.{◌≡◌, ℕ, suc, ◌≤◌, ◌<◌, get_or, Bool, true, false, Option, List, [], ◌∷◌, ◌++◌, length, take, refl, sym, ◌∙◌, ap, subst, arith, append-nil}
use Rattle.std.specs.Prelude.{codes}
use Rattle.std.proofs.lemmas.List.{take_all}
use Rattle.std.proofs.lemmas.List.Elements.{All-nil, All-cons}
use Rattle.push_base.specs.Line.{bytes, quiet, end_of_line}
use Rattle.dsotlv.specs.Laws.{AreOctets}
use Rattle.pushclient.specs.Clients.{Client, Connection, Wish, room_of, take_octets}
use Rattle.pushclient.specs.Pieces.{with_input}
use Rattle.pushclient.specs.Rule.{KeptClient, StandsFor}
use Rattle.pushclient.proofs.EveryCut.{IsAt, is-at}
use Rattle.pushclient.proofs.PieceSteps.{room-while-waiting}
use Rattle.pushclient.proofs.Reactions.{at, with_octets}
use Rattle.pushclient.proofs.Streams.{octets-both}
use Rattle.scripts.specs.Words.{ended_lines}
use Rattle.subscriber.specs.Said.{Saying, text_of}
use Rattle.subscriber.specs.Standing.{StandsAs, Waits, Reacts, Hears}
use Rattle.subscriber.proofs.Steps.{said-more}

-- octets into a client that waits
module _ (s : Saying) (kept between : KeptClient) (messages : Option ℕ) (octets : List ℕ) (w : Waits s kept messages) (small : length octets ≤ 4096) (below : AreOctets octets)
    (takes : (plain : Client) → StandsFor kept plain → StandsFor between (take_octets octets plain)) where
  abbrev c : Connection
  c = w.stands.connection

  abbrev ws : List Wish
  ws = s.client.wishes

  abbrev now : ℕ
  now = s.client.now

  is : IsAt s.client c
  is = is-at s.client c w.stands.there

  abbrev filled : Client
  filled = at ws now (with_octets s.left c)

  here : with_input s.left s.client ≡ filled
  here = ap (λ (x : Client). with_input s.left x) is.same

  room : 4097 ≤ room_of filled
  room = room-while-waiting ws now (with_octets s.left c) is.unclosed w.none w.stands.octets

  taken : take (room_of filled) octets ≡ octets
  taken = take_all (room_of filled) octets (omega (arith, small, room))

  pub stands-filled : StandsAs s (s.left ++ octets) between messages
  stands-filled = record {
    connection = c;
    there = w.stands.there;
    bare = w.stands.bare;
    stands = subst (StandsFor between)
        (ap (take_octets octets) here ∙ ap (λ (l : List ℕ). at ws now (with_octets (s.left ++ l) c)) taken ∙ sym (ap (λ (x : Client). with_input (s.left ++ octets) x) is.same))
        (takes (with_input s.left s.client) w.stands.stands);
    octets = octets-both s.left octets w.stands.octets below;
    going = w.stands.going;
    messages_left = w.stands.messages_left;
  }

pub hears-bytes : (kept between later : KeptClient) (messages messages_now : Option ℕ) (octets text : List ℕ) (over : Bool) → length octets ≤ 4096 → AreOctets octets
    → ((plain : Client) → StandsFor kept plain → StandsFor between (take_octets octets plain)) → Reacts between messages later messages_now text over → Hears kept messages (bytes octets) later messages_now text over
unfolding Reacts Hears
hears-bytes kept between later messages messages_now octets text over small below takes reacts s w = reacts s (s.left ++ octets) (stands-filled s kept between messages octets w small below takes)

pub hears-quiet : (kept : KeptClient) (messages : Option ℕ) (text : List ℕ) → text ≡ [] → Hears kept messages quiet kept messages text false
unfolding Hears
hears-quiet kept messages text none s w = record { says = ap (λ (t : List ℕ). text_of s ++ t) none ∙ append-nil (text_of s); ends = sym w.stands.going; waits = λ still. w }

pub hears-end : (kept : KeptClient) (messages : Option ℕ) (text : List ℕ) → text ≡ ended_lines (codes "closed eof" ∷ []) → Hears kept messages end_of_line kept messages text true
unfolding Hears
hears-end kept messages text is s w = record {
  says = said-more s.lines (codes "closed eof" ∷ []) (text_of s) text (text_of s ++ text) refl is refl;
  ends = refl;
  waits = λ still. absurd (both still);
}
  where
    both : true ≡ false → ⊥
    both h = absurd cc

pub are_octets : (xs : List ℕ) → ((i : ℕ) → i < length xs → get_or xs i 0 < 256) → AreOctets xs
are_octets [] below = All-nil (λ o. o < 256)
are_octets (x ∷ xs) below = All-cons (λ o. o < 256) x xs (below 0 (omega arith)) (are_octets xs (λ i h. below (suc i) (omega (arith, h))))
