-- All that a client has to send is handed out, piece by piece.
use Rattle.std.proofs.Common.{◌≡◌, ℕ, ◌+◌, ◌≤◌, List, [], ◌∷◌, ◌++◌, length, take, drop, min, Option, Some, None, sym, ◌∙◌, ap, subst, refl, arith, append_assoc, append-nil, length-append}
use Rattle.std.proofs.lemmas.List.{length-take, take_min, take-append-drop, drop-drop}
use Rattle.std.proofs.Math.Seq.{take-append_seam, drop-nil}
use Rattle.pushclient.specs.Clients.{Client, Connection, output_of, give_octets}
use Rattle.pushclient.specs.Rule.{KeptClient, StandsFor}
use Rattle.pushclient.specs.HandedOut.{IsHandedOut, HandsOut}

-- the pieces so far, and what is left to send
pub record IsHandingOut (plain : Client) (kept : KeptClient) (octets : List ℕ) : Type 0 where
  pub client : Client
  pub stands : StandsFor kept client
  pub all : octets ++ output_of client ≡ output_of plain
  pub same : (n m : ℕ) → m ≡ length octets + n → give_octets n client ≡ give_octets m plain

unfoldable pub HandingOut : KeptClient → KeptClient → List ℕ → Type 0
HandingOut start kept octets = (plain : Client) → StandsFor start plain → IsHandingOut plain kept octets

pub handing-begins : (start : KeptClient) (octets : List ℕ) → octets ≡ [] → HandingOut start start octets
unfolding HandingOut
handing-begins start octets none plain stands = subst (IsHandingOut plain start) (sym none) (record { client = plain; stands = stands; all = refl; same = λ n m is. ap (λ (k : ℕ). give_octets k plain) (alike n m is) })
  where
    alike : (n m : ℕ) → m ≡ 0 + n → n ≡ m
    alike n m is = omega arith

-- ---- one piece

abbrev client_at : Client → Option Connection → Client
client_at client o = record client { connection = o }

output-given : (n : ℕ) (client : Client) → output_of (give_octets n client) ≡ drop n (output_of client)
output-given n client = by client.connection
  where
    by : (o : Option Connection) → output_of (give_octets n (client_at client o)) ≡ drop n (output_of (client_at client o))
    by None = sym (drop-nil n)
    by (Some c) = refl

given-more : (m n : ℕ) (client : Client) → give_octets m (give_octets n client) ≡ give_octets (n + m) client
given-more m n client = by client.connection
  where
    by : (o : Option Connection) → give_octets m (give_octets n (client_at client o)) ≡ give_octets (n + m) (client_at client o)
    by None = refl
    by (Some c) = ap (λ (l : List ℕ). client_at client (Some (record c { output = l }))) (drop-drop m n c.output)

-- what one call tells of a client, over a buffer of so many octets
pub record IsPiece (client : Client) (size count : ℕ) (buffer : List ℕ) (behind : List ℕ) (later : KeptClient) : Type 0 where
  pub counts : count ≡ min size (length (output_of client))
  pub copied : behind ≡ take size (output_of client) ++ drop (length (output_of client)) buffer
  pub stands : StandsFor later (give_octets (min size (length (output_of client))) client)

module _ (plain : Client) (kept later : KeptClient) (octets buffer behind : List ℕ) (size count : ℕ) (r : IsHandingOut plain kept octets) (piece : IsPiece r.client size count buffer behind later) where
  abbrev output : List ℕ
  output = output_of r.client

  stands-count : StandsFor later (give_octets count r.client)
  stands-count = subst (λ (n : ℕ). StandsFor later (give_octets n r.client)) (sym piece.counts) piece.stands

  piece-is : take count behind ≡ take count output
  piece-is =
      let front : List ℕ = take size output in
      let long : count ≡ length front = piece.counts ∙ sym (length-take size output) in
      ap (λ (l : List ℕ). take count l) piece.copied ∙ ap (λ (n : ℕ). take n (front ++ drop (length output) buffer)) long ∙ take-append_seam front (drop (length output) buffer)
      ∙ sym (take_min size output) ∙ ap (λ (n : ℕ). take n output) (sym piece.counts)

  within : count ≤ length output
  within = omega (arith, piece.counts)

  pub piece-more : (now : List ℕ) → now ≡ octets ++ take count behind → IsHandingOut plain later now
  piece-more now is =
      let grown : now ≡ octets ++ take count output = is ∙ ap (λ (l : List ℕ). octets ++ l) piece-is in
      let size : length now ≡ length octets + count = omega (arith, ap (λ (l : List ℕ). length l) grown, length-append octets (take count output), length-take count output, within) in
      record {
        client = give_octets count r.client;
        stands = stands-count;
        all = (λ i. grown i ++ output-given count r.client i) ∙ append_assoc octets (take count output) (drop count output) ∙ ap (λ (l : List ℕ). octets ++ l) (take-append-drop count output) ∙ r.all;
        same = λ n m e. given-more n count r.client ∙ r.same (count + n) m (omega (arith, e, size));
      }

  no_more : (xs : List ℕ) → length xs ≡ 0 → xs ≡ []
  no_more [] e = refl
  no_more (x ∷ xs) e = absurd (omega (arith, e))

  pub piece-last : 1 ≤ size → count ≡ 0 → IsHandedOut plain octets later
  piece-last wide none =
      let empty : output ≡ [] = no_more output (omega (arith, wide, none, piece.counts)) in
      let all : octets ≡ output_of plain = sym (append-nil octets) ∙ ap (λ (l : List ℕ). octets ++ l) (sym empty) ∙ r.all in
      record { all = all; stands = subst (StandsFor later) (r.same count (length (output_of plain)) (omega (arith, none, ap (λ (l : List ℕ). length l) all))) stands-count }

-- ---- the same of all clients that are stood for

abbrev pub GivesPiece : KeptClient → ℕ → List ℕ → ℕ → List ℕ → KeptClient → Type 0
GivesPiece kept size buffer count behind later = (plain : Client) → StandsFor kept plain → IsPiece plain size count buffer behind later

pub hands-last : (start kept later : KeptClient) (octets buffer behind : List ℕ) (size count : ℕ) → HandingOut start kept octets → GivesPiece kept size buffer count behind later → 1 ≤ size → count ≡ 0 → HandsOut start octets later
unfolding HandingOut HandsOut
hands-last start kept later octets buffer behind size count h gives wide none plain stands =
    let r = h plain stands in
    piece-last plain kept later octets buffer behind size count r (gives r.client r.stands) wide none

pub handing-more : (start kept later : KeptClient) (octets buffer behind now : List ℕ) (size count : ℕ) → HandingOut start kept octets → GivesPiece kept size buffer count behind later → now ≡ octets ++ take count behind → HandingOut start later now
unfolding HandingOut
handing-more start kept later octets buffer behind now size count h gives is plain stands =
    let r = h plain stands in
    piece-more plain kept later octets buffer behind size count r (gives r.client r.stands) now is
