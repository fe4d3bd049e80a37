-- What a script prints of octets that a lone client is fed, and how it leaves the client.
--     feeds-as-messages      the law
use Rattle.std.proofs.Common.{◌≡◌, ℕ, List, [], ◌∷◌, ◌++◌, Option, Some, None, codes, refl, sym, ◌∙◌, ap, append-nil}
use Rattle.dsosession.specs.declared.session.CloseReason.{CloseReason}
use Rattle.pushclient.specs.Clients.{Client, cut, output_of, closed_as}
use Rattle.pushclient.specs.Pieces.{with_input, input_of}
use Rattle.replay.specs.World.{Seat, World, seat_of, with_seat, with_client, cut_seat, new_seat, hub_without, is_over, world_cut_if}
use Rattle.replay.specs.PassedOctets.{reached_by, fed_client}
use Rattle.pushclient.specs.HandedOut.{without_output}
use Rattle.scripts.specs.Words.{spaced, octets_text}
use Rattle.replay.specs.Text.{Printed, close_lines, feeds, finished}
use Rattle.replay.specs.FedLines.{Fed, fed_between, FeedsLone, messages_fed, reacted_to, fed_lines, left_fed, FeedsAsMessages}
use Rattle.replay.specs.Between.{world_then, world_behind}
use Rattle.replay.proofs.worlds.BetweenLines.{between-replied}
use Rattle.replay.proofs.worlds.FedSeats.{fed as fed_passed, fed_words, feeds_as, feeds_by}
use Rattle.replay.proofs.worlds.SeatsFound.{found-word, put-found}
use Rattle.replay.proofs.feeding.FedClients.{IsFed, fed-as}
use Rattle.replay.proofs.feeding.LoneSeats.{FewOctets, wait-found, all-wait, few-fed}

module _ (script : List ℕ) (fed : Fed) (s : FeedsLone script fed) where
  abbrev world : World
  world = world_then (fed_between fed)

  abbrev seat : Seat
  seat = fed.seat

  abbrev reached : Client
  reached = reached_by fed.octets seat.client

  few : FewOctets fed.octets
  few = few-fed script fed.before fed.word fed.octets fed.behind s.read

  f : IsFed (input_of seat.client ++ fed.octets) seat.client reached
  f = fed-as fed.octets seat.client few.0 few.1 (wait-found fed.word world seat s.there (all-wait script fed.before fed.word fed.octets fed.behind s.read) s.lone).1 s.connects

  -- ---- the line

  does : feeds fed.word fed.octets world ≡ finished (fed_words fed.octets seat) (fed_passed fed.octets world seat)
  does = ap (feeds_by fed.word fed.octets world) s.there ∙ ap (feeds_as fed.word fed.octets world seat) s.connects

  word : seat.word ≡ fed.word
  word = found-word fed.word world.seats seat s.there

  outputs : output_of reached ≡ output_of (reacted_to fed).client
  outputs = ap (λ (x : Client). output_of x) f.reached ∙ sym (ap (λ (x : Client). output_of x) f.said)

  -- it has closed, or not
  closing : closed_as (fed_client fed.octets seat.client) ≡ f.connection.closed
  closing = ap (λ (x : Client). closed_as (without_output x)) f.reached

  closing-said : closed_as (reacted_to fed).client ≡ f.connection.closed
  closing-said = ap (λ (x : Client). closed_as x) f.said

  lines : (feeds fed.word fed.octets world).1 ≡ fed_lines fed
  lines = ap (λ (p : Printed). p.1) does
      ∙ λ i. spaced (codes "bytes" ∷ word i ∷ octets_text (outputs i) ∷ []) ∷ close_lines (word i) ((closing ∙ sym closing-said) i)

  -- ---- the client

  abbrev later : Seat
  later = with_client (fed_client fed.octets) seat

  there : seat_of (with_seat later world) fed.word ≡ Some later
  there = put-found world fed.word seat later s.there refl

  abbrev as_seat : Client → Seat
  as_seat x = record seat { client = x }

  left : (o : Option CloseReason) → f.connection.closed ≡ o → seat_of (world_cut_if (is_over None o) later (with_seat later world)) fed.word ≡ Some (left_fed fed o)
  left None unclosed =
      let rest : f.input ≡ (messages_fed fed).1 = (f.waits unclosed).0 in
      there ∙ ap (λ (x : Client). Some (as_seat x))
      (ap (λ (x : Client). without_output x) f.reached ∙ (λ i. with_input (rest i) (without_output (sym f.said i))))
  left (Some reason) closed =
      put-found (record (with_seat later world) { hub = hub_without later.session world.hub }) fed.word later (cut_seat later) there refl
      ∙ ap (λ (x : Client). Some (record (new_seat seat.word seat.is_lone) { client = x })) (ap (λ (x : Client). cut (without_output x)) f.reached ∙ sym (ap (λ (x : Client). cut x) f.said))

  stands : seat_of (world_behind (fed_between fed)) fed.word ≡ Some (left_fed fed (closed_as (reacted_to fed).client))
  stands =
      ap (λ (p : Printed). seat_of p.0 fed.word) does
      ∙ ap (λ (o : Option CloseReason). seat_of (world_cut_if (is_over None o) later (with_seat later world)) fed.word) closing
      ∙ left f.connection.closed refl
      ∙ ap (λ (o : Option CloseReason). Some (left_fed fed o)) (sym closing-said)

pub feeds-as-messages : FeedsAsMessages
feeds-as-messages script fed s = (λ records. between-replied records script (fed_between fed) (fed_lines fed) s.read (append-nil _ ∙ lines script fed s), stands script fed s)
