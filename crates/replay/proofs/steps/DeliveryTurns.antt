-- Octets into a client, round by round.
use Rattle.std.proofs.Common.{◌≡◌, ℕ, suc, ◌+◌, ◌-◌, ◌≤◌, ◌<◌, ◌==◌, ◌||◌, Bool, true, false, List, [], ◌∷◌, ◌++◌, length, take, drop, min, sym, ◌∙◌, ap, subst, refl, arith, eq-eqb, ne_eqb, length-drop}
use Rattle.push_base.specs.Cases.{is_empty}
use Rattle.pushclient.specs.Clients as clients
use Rattle.pushclient.specs.Clients.{Client, room_of, in_connection, Connection}
use Rattle.pushclient.specs.Rule.{KeptClient, StandsFor}
use Rattle.replay.specs.PassedOctets.{Delivered, delivered, to_client, stepped, enough}
use Rattle.replay.specs.KeptSteps.{Steps, IsDelivered, Delivers}
use Rattle.replay.proofs.ClientPieces.{later_of, delivered_by, one-delivered}
use Rattle.replay.proofs.exchanges.Taking.{front}

-- the rounds so far lead to the whole
pub record IsDelivering (whole : Delivered) (octets : List ℕ) (turns : ℕ) (kept : KeptClient) (rest : List ℕ) : Type 0 where
  pub so_far : Delivered
  pub stands : StandsFor kept so_far.client
  pub counted : so_far.count + length rest ≡ length octets
  pub same : whole ≡ delivered turns rest so_far

unfoldable pub Delivering : KeptClient → List ℕ → ℕ → KeptClient → List ℕ → Type 0
Delivering start octets turns kept rest = (plain : Client) → StandsFor start plain → IsDelivering (to_client octets plain) octets turns kept rest

pub delivering-begins : (start : KeptClient) (octets : List ℕ) → Delivering start octets enough start octets
unfolding Delivering
delivering-begins start octets plain stands = record { so_far = record { client = plain; count = 0; left = octets }; stands = stands; counted = none (length octets); same = refl }
  where
    none : (n : ℕ) → 0 + n ≡ n
    none n = omega arith

abbrev pub Takes : KeptClient → List ℕ → ℕ → KeptClient → Type 0
Takes kept piece count later = (plain : Client) → StandsFor kept plain → (count ≡ min (length piece) (room_of plain)) × StandsFor later (clients.take_octets piece plain)

-- ---- one round

-- whether all went in is whether none are left
empty-length : (xs : List ℕ) → is_empty xs ≡ true → length xs ≡ 0
empty-length [] e = refl
empty-length (x ∷ xs) e = absurd cc

some-length : (xs : List ℕ) → is_empty xs ≡ false → 0 < length xs
some-length [] e = absurd cc
some-length (x ∷ xs) e = omega arith

all-in : (k : ℕ) (xs : List ℕ) → k ≤ length xs → (k == length xs) ≡ is_empty (drop k xs)
all-in k xs within = by (is_empty (drop k xs)) refl
  where
    by : (b : Bool) → is_empty (drop k xs) ≡ b → (k == length xs) ≡ b
    by true e = eq-eqb k (length xs) (omega (arith, within, empty-length (drop k xs) e, length-drop k xs))
    by false e = ne_eqb k (length xs) (omega (arith, some-length (drop k xs) e, length-drop k xs))

module _ (whole : Delivered) (octets rest : List ℕ) (left count : ℕ) (kept between later : KeptClient)
    (r : IsDelivering whole octets (suc left) kept rest) (takes : Takes kept rest count between) (stepped_on : (plain : Client) → StandsFor between plain → StandsFor later (stepped enough plain)) where
  abbrev room : ℕ
  room = room_of r.so_far.client

  taken : (count ≡ min (length rest) room) × StandsFor between (clients.take_octets rest r.so_far.client)
  taken = takes r.so_far.client r.stands

  abbrev after : Delivered
  after = later_of rest r.so_far count

  -- no more than what goes in is taken
  same-taken : clients.take_octets (take count rest) r.so_far.client ≡ clients.take_octets rest r.so_far.client
  same-taken = ap (λ (l : List ℕ). in_connection (λ (c : Connection). record c { input = c.input ++ l }) r.so_far.client) (ap (λ (k : ℕ). take room (take k rest)) taken.0 ∙ front room rest)

  stands-after : StandsFor later after.client
  stands-after = subst (λ (c : Client). StandsFor later (stepped enough c)) (sym same-taken) (stepped_on (clients.take_octets rest r.so_far.client) taken.1)

  within : count ≤ length rest
  within = omega (arith, taken.0)

  left-over : length (drop count rest) + count ≡ length rest
  left-over = omega (arith, within, length-drop count rest)

  turned : (stops : Bool) → (count == 0 || is_empty (drop count rest)) ≡ stops → whole ≡ delivered_by left rest r.so_far count stops
  turned stops e = r.same ∙ one-delivered left rest r.so_far count stops (sym taken.0) (ap (λ (b : Bool). count == 0 || b) (all-in count rest within) ∙ e)

  pub round-last : (count == 0 || is_empty (drop count rest)) ≡ true → (behind : List ℕ) → behind ≡ drop count rest → IsDelivered whole later (length octets - length behind)
  round-last e behind is =
      let same : whole ≡ after = turned true e in
      let size : length behind ≡ length (drop count rest) = ap length is in
      let counts : length octets - length behind ≡ after.count = omega (arith, size, left-over, r.counted) in
      record { counts = counts ∙ ap (λ (d : Delivered). d.count) (sym same); stands = subst (λ (d : Delivered). StandsFor later d.client) (sym same) stands-after }

  pub round-more : (count == 0 || is_empty (drop count rest)) ≡ false → (behind : List ℕ) → behind ≡ drop count rest → IsDelivering whole octets left later behind
  round-more e behind is = subst (IsDelivering whole octets left later) (sym is) (record {
    so_far = after;
    stands = stands-after;
    counted = omega (arith, left-over, r.counted);
    same = turned false e;
  })

pub rounds-used_up : (whole : Delivered) (octets rest : List ℕ) (kept : KeptClient) → IsDelivering whole octets 0 kept rest → IsDelivered whole kept (length octets - length rest)
rounds-used_up whole octets rest kept r =
    let counts : length octets - length rest ≡ r.so_far.count = omega (arith, r.counted) in
    record { counts = counts ∙ ap (λ (d : Delivered). d.count) (sym r.same); stands = subst (λ (d : Delivered). StandsFor kept d.client) (sym r.same) r.stands }

-- ---- the same of all clients that are stood for

module _ (start kept between later : KeptClient) (octets rest behind : List ℕ) (left count : ℕ) (d : Delivering start octets (suc left) kept rest) (takes : Takes kept rest count between) (steps : Steps between later) (is : behind ≡ drop count rest) where
  pub delivers-last : (count == 0 || is_empty behind) ≡ true → Delivers start octets later (length octets - length behind)
  unfolding Delivering Steps Delivers
  delivers-last e plain stands =
      round-last (to_client octets plain) octets rest left count kept between later (d plain stands) takes steps (ap (λ (l : List ℕ). count == 0 || is_empty l) (sym is) ∙ e) behind is

  pub delivering-more : (count == 0 || is_empty behind) ≡ false → Delivering start octets left later behind
  unfolding Delivering Steps
  delivering-more e plain stands =
      round-more (to_client octets plain) octets rest left count kept between later (d plain stands) takes steps (ap (λ (l : List ℕ). count == 0 || is_empty l) (sym is) ∙ e) behind is

pub delivers-used_up : (start kept : KeptClient) (octets rest : List ℕ) (left : ℕ) → left ≡ 0 → Delivering start octets left kept rest → Delivers start octets kept (length octets - length rest)
unfolding Delivering Delivers
delivers-used_up start kept octets rest left none d plain stands =
    rounds-used_up (to_client octets plain) octets rest kept (subst (λ (n : ℕ). IsDelivering (to_client octets plain) octets n kept rest) none (d plain stands))
