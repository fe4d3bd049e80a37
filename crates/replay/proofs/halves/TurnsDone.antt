-- What a turn makes of both worlds is what its line does.
--     comes      there is an event for the next turn
--     plays      behind a turn the script is played from the next line on
use Rattle.std.proofs.Common.{◌≡◌, ℕ, Bool, true, false, List, [], ◌∷◌, ◌++◌, Option, Some, None, sym, ◌∙◌, ap, subst, refl, append-nil}
use Rattle.dnsname.specs.Names.{Labels}
use Rattle.rrset.specs.declared.record.Question.{Question}
use Rattle.relay.specs.declared.relay.Relayed.{Relayed}
use Rattle.relay.specs.declared.relay.Relayed.TheVariants.{Apex, Outside, Unfit, Message}
use Rattle.hubasking.specs.LinkAskings.{Askings}
use Rattle.scripts.specs.Lines.{Word, ScriptLine, silent, joining, hub_event, client_event}
use Rattle.scripts.specs.Scripts.{is_head, AreDistinct}
use Rattle.scripts.specs.Words.{ended_lines}
use Rattle.scripts.specs.Events.{known_clients, client_at, event_said}
use Rattle.scripts.specs.KeptWhole.{turns_from}
use Rattle.scripts.specs.WholeLines.{WholeLine, one, far_zone, far_client, carry, near_of, far_of, names_far, is_of_both, is_far_in, fars_behind, all_at}
use Rattle.scripts.specs.WholeScripts.{near_lines_from, far_heads_from}
use Rattle.scripts.specs.declared.clients.KnownClient.{KnownClient}
use Rattle.scripts.specs.declared.event.Event.{Event}
use Rattle.scripts.specs.declared.event.Event.TheVariants as events
use Rattle.scripts.specs.declared.line.HubEvent.{HubEvent}
use Rattle.scripts.specs.declared.line.HubEvent.TheVariants as hub_events
use Rattle.scripts.specs.declared.line.ClientEvent.{ClientEvent}
use Rattle.scripts.specs.declared.line.ClientEvent.TheVariants as client_events
use Rattle.scripts.specs.declared.whole_script.Turn.{Turn}
use Rattle.scripts.specs.declared.whole_script.Turn.TheVariants as of_turn
use Rattle.replay.specs.World.{World}
use Rattle.replay.specs.TextWords.{by_notices}
use Rattle.replay.specs.Text.{Printed, line_does}
use Rattle.replay.specs.Askings.{AreOrdered, asked_lines, line_asks}
use Rattle.replay.specs.TwoWorlds.{Worlds, near_line_at, far_line_at, line_of_relayed, carry_of, printed_of, order_behind, order_behind_one, lines_do}
use Rattle.replay.specs.declared.two_worlds.Worlds as program
use Rattle.replay.specs.declared.world.World as program_worlds
use Rattle.replay.specs.KeptWorlds.{IsWorld, Runs, RunsLine, HasPrinted, words_in}
use Rattle.replay.specs.KeptTwoWorlds.{AreLeft, AreWorlds, Carries, CarriesShown, FirstIs, HasSameClients, IsNamedIn, RunsAt, RunsBoth, RunsCarry, RunsFar, RunsMoment, RunsNear, Takes, TurnComes, TurnRuns, is_at, is_show, said_in, order_with}
use Rattle.replay.specs.KeptPlays.{IsHalf, IsPlayed, Last}
use Rattle.replay.proofs.asking.Ordered.{line-ordered}
use Rattle.replay.proofs.worlds.Happening.{does-nothing, asks-nothing, Told}
use Rattle.replay.proofs.worlds.OneWorld.{shows-leave}
use Rattle.replay.proofs.halves.TurnClasses.{Class, for_near, for_far, for_both, client_far, carries, near-as, near-not, far-as, far-not, order-near, order-far, order-joins, order-kept, printed-near, printed-far, asked-far}
use Rattle.replay.proofs.halves.HalfLines.{half-quiet, half-stays, half-distinct, half-after, IsNext, next, named-in, said-here}
use Rattle.replay.proofs.halves.Played.{HasDone, IsReady, step}

-- ---- what an event is

at-said : (links : List Word) (clients : List (Word × Bool)) (event : Event) (t : ℕ) → event_said links clients event ≡ hub_event (hub_events.At t) → is_at event ≡ true
at-said links clients (events.Hub (hub_events.At n)) t e = refl
at-said links clients (events.Hub (hub_events.Update m)) t e = absurd cc
at-said links clients (events.Hub hub_events.Point) t e = absurd cc
at-said links clients (events.Joining number) t e = absurd cc
at-said links clients (events.Link number event) t e = absurd cc
at-said links clients (events.Call number call) t e = absurd cc
at-said links clients (events.Passing number way) t e = absurd cc
at-said links clients (events.Client number event) t e = absurd cc
at-said links clients (events.Session party event) t e = absurd cc

abbrev moment_in : ScriptLine → ℕ
moment_in (hub_event (hub_events.At t)) = t
moment_in _ = 0

both-runs : (links : List Word) (clients : List (Word × Bool)) (event : Event) (t : ℕ) (before after : program.Worlds) (text : List ℕ) → event_said links clients event ≡ hub_event (hub_events.At t) → RunsBoth event before text after → RunsMoment t before text after
both-runs links clients (events.Hub (hub_events.At n)) t before after text e r = subst (λ (m : ℕ). RunsMoment m before text after) (ap moment_in e) r
both-runs links clients (events.Hub (hub_events.Update m)) t before after text e r = absurd r
both-runs links clients (events.Hub hub_events.Point) t before after text e r = absurd r
both-runs links clients (events.Joining number) t before after text e r = absurd r
both-runs links clients (events.Link number event) t before after text e r = absurd r
both-runs links clients (events.Call number call) t before after text e r = absurd r
both-runs links clients (events.Passing number way) t before after text e r = absurd r
both-runs links clients (events.Client number event) t before after text e r = absurd r
both-runs links clients (events.Session party event) t before after text e r = absurd r

show-said : (links : List Word) (clients : List (Word × Bool)) (event : Event) (w : Word) (question : Question) (written : List ℕ) → event_said links clients event ≡ client_event w (client_events.Show question written) → is_show event ≡ true
show-said links clients (events.Client number (client_events.Show q t)) w question written e = refl
show-said links clients (events.Client number client_events.Open) w question written e = absurd cc
show-said links clients (events.Client number (client_events.Feed octets)) w question written e = absurd cc
show-said links clients (events.Hub event) w question written e = absurd cc
show-said links clients (events.Joining number) w question written e = absurd cc
show-said links clients (events.Link number event) w question written e = absurd cc
show-said links clients (events.Call number call) w question written e = absurd cc
show-said links clients (events.Passing number way) w question written e = absurd cc
show-said links clients (events.Session party event) w question written e = absurd cc

abbrev Shown : Type 0
Shown = Word × ClientEvent

abbrev shown_in : ScriptLine → Shown
shown_in (client_event w event) = (w, event)
shown_in _ = ([], client_events.Open)

carry-runs : (links : List Word) (clients : List KnownClient) (event : Event) (w : Word) (question : Question) (written : List ℕ) (before after : program.Worlds) (text : List ℕ)
    → event_said links (known_clients clients) event ≡ client_event w (client_events.Show question written) → RunsCarry clients event before text after → Carries w question written before text after
carry-runs links clients (events.Client number event) w question written before after text e r = subst (λ (s : Shown). CarriesShown s.0 s.1 before text after) (ap shown_in e) r
carry-runs links clients (events.Hub event) w question written before after text e r = absurd r
carry-runs links clients (events.Joining number) w question written before after text e r = absurd r
carry-runs links clients (events.Link number event) w question written before after text e r = absurd r
carry-runs links clients (events.Call number call) w question written before after text e r = absurd r
carry-runs links clients (events.Passing number way) w question written before after text e r = absurd r
carry-runs links clients (events.Session party event) w question written before after text e r = absurd r

-- ---- one half

module _ (links : List Word) (clients : List KnownClient) where
  first : (P : Event → Type 0) (world : World) (l : ScriptLine) (ls : List ScriptLine) (happened : List Event) (n : IsNext links clients l ls world happened) → P n.event → FirstIs P happened
  first P world l ls happened n p = subst (FirstIs P) (sym n.are) p

  -- the event that was taken, and the half behind it
  record HasTaken (P : Event → Type 0) (world : World) (l : ScriptLine) (ls : List ScriptLine) (taken : List Event) : Type 0 where
    event : Event
    said : event_said links (known_clients clients) event ≡ l
    holds : P event
    half : IsHalf links clients (line_does by_notices l world).0 ls taken

  half-taken : (P : Event → Type 0) (world : World) (l : ScriptLine) (ls : List ScriptLine) (happened taken : List Event) → is_head l ≡ false → IsHalf links clients world (l ∷ ls) happened → Takes P happened taken → HasTaken P world l ls taken
  half-taken P world l ls happened taken happens h takes =
      let n = next links clients world l ls happened happens h in
      let both : P n.event × (taken ≡ n.rest) = subst (λ (es : List Event). Takes P es taken) n.are takes in
      record {
        event = n.event;
        said = n.said;
        holds = both.0;
        half = subst (IsHalf links clients (line_does by_notices l world).0 ls) (sym both.1)
            (half-after links clients world (line_does by_notices l world).0 l ls n.event n.rest n.said n.others refl (subst (IsHalf links clients world (l ∷ ls)) n.are h));
      }

  half-passed : (world : World) (l : ScriptLine) (ls : List ScriptLine) (happened taken : List Event) → is_head l ≡ true → taken ≡ happened → IsHalf links clients world (l ∷ ls) happened → IsHalf links clients (line_does by_notices l world).0 ls taken
  half-passed world l ls happened taken quiet same h =
      subst (IsHalf links clients (line_does by_notices l world).0 ls) (sym same)
      (subst (λ (v : World). IsHalf links clients v ls happened) (sym (ap (λ (p : Printed). p.0) (does-nothing world l quiet))) (half-quiet links clients world l ls happened quiet h))

-- ---- an event of one hub

no-lines : (world : World) (l : ScriptLine) → is_head l ≡ true → (line_does by_notices l world).1 ≡ []
no-lines world l quiet = ap (λ (p : Printed). p.1) (does-nothing world l quiet)

-- the other world stays
stays : (kept later : program_worlds.World) (world : World) (l : ScriptLine) → later ≡ kept → is_head l ≡ true → IsWorld kept world → IsWorld later (line_does by_notices l world).0
stays kept later world l same quiet stands =
    subst (λ (k : program_worlds.World). IsWorld k (line_does by_notices l world).0) (sym same) (subst (IsWorld kept) (sym (ap (λ (p : Printed). p.0) (does-nothing world l quiet))) stands)

module _ (worlds : Worlds) (before after : program.Worlds) (text : List ℕ) (stands : AreWorlds before worlds) (near_ordered : AreOrdered before.near.hub.askings) (far_ordered : AreOrdered before.far.hub.askings) where
  abbrev is_far : Word → Bool
  is_far = is_far_in worlds.fars

  near-done : (links : List Word) (clients : List KnownClient) (event : Event) (l : ScriptLine) → is_head l ≡ false → names_far is_far l ≡ false → is_of_both l ≡ false
      → worlds.near.links ≡ links → AreDistinct (words_in worlds.near) → event_said links (known_clients clients) event ≡ near_of is_far (one l) → RunsNear clients event before text after → HasDone (one l) worlds before after text
  unfolding Runs
  near-done links clients event l happens near alone same distinct said r =
      let line : ScriptLine = near_line_at worlds (one l) in
      let other : ScriptLine = far_line_at by_notices worlds (one l) in
      let quiet : is_head other ≡ true = ap is_head (far-not is_far l near alone) in
      let here : said_in before.near clients event ≡ line = said-here links clients before.near worlds.near event stands.near same ∙ said in
      let runs = subst (λ (m : ScriptLine). RunsLine by_notices m before.near text after.near) here r.runs in
      let p = runs worlds.near stands.near distinct near_ordered in
      let first = line_does by_notices line worlds.near in
      let second = line_does by_notices other worlds.far in
      let asked = asked_lines line worlds.near before.near.hub.askings in
      let printed : printed_of by_notices (one l) worlds first.1 second.1 ≡ first.1 = printed-near worlds (first.1 ++ second.1) l alone ∙ ap (λ (ls : List (List ℕ)). first.1 ++ ls) (no-lines worlds.far other quiet) ∙ append-nil first.1 in
      record {
        stands = record {
          near = p.stands;
          far = stays before.far after.far worlds.far other r.far quiet stands.far;
          apex = r.apex ∙ stands.apex;
          order = r.order ∙ ap (λ (o : List Bool). order_with false o event) stands.order ∙ order-near links (known_clients clients) worlds.order event ∙ ap (order_behind_one worlds.order) (said ∙ near-as is_far l near);
        };
        printed = p.text ∙ ap (λ (ls : List (List ℕ)). ended_lines (ls ++ asked)) (sym printed);
        asks = p.asks;
        ordered = subst (λ (k : program_worlds.World). AreOrdered k.hub.askings) (sym r.far) far_ordered;
      }

  -- a line of the second hub, which is that to it
  far-done : (links : List Word) (clients : List KnownClient) (event : Event) (line : WholeLine) → is_head (near_line_at worlds line) ≡ true → worlds.far.links ≡ links → AreDistinct (words_in worlds.far)
      → event_said links (known_clients clients) event ≡ far_line_at by_notices worlds line
      → ((printed : List (List ℕ)) → printed ≡ [] → printed_of by_notices line worlds printed (line_does by_notices (far_line_at by_notices worlds line) worlds.far).1 ≡ (line_does by_notices (far_line_at by_notices worlds line) worlds.far).1)
      → asked_lines (far_line_at by_notices worlds line) worlds.far before.far.hub.askings ≡ [] → order_with true worlds.order event ≡ order_behind worlds.order line → RunsFar clients event before text after
      → HasDone line worlds before after text
  unfolding Runs
  far-done links clients event line quiet same distinct said prints asks_none order_is r =
      let first : ScriptLine = near_line_at worlds line in
      let other : ScriptLine = far_line_at by_notices worlds line in
      let here : said_in before.far clients event ≡ other = said-here links clients before.far worlds.far event stands.far same ∙ said in
      let runs = subst (λ (m : ScriptLine). RunsLine by_notices m before.far text after.far) here r.runs in
      let p = runs worlds.far stands.far distinct far_ordered in
      let second = line_does by_notices other worlds.far in
      let told = asks-nothing worlds.near before.near.hub.askings first quiet in
      let printed = prints (line_does by_notices first worlds.near).1 (no-lines worlds.near first quiet) in
      record {
        stands = record {
          near = stays before.near after.near worlds.near first r.near quiet stands.near;
          far = p.stands;
          apex = r.apex ∙ stands.apex;
          order = r.order ∙ ap (λ (o : List Bool). order_with true o event) stands.order ∙ order_is;
        };
        printed = p.text ∙ ap (λ (ls : List (List ℕ)). ended_lines (second.1 ++ ls)) asks_none ∙ sym (λ i. ended_lines (printed i ++ (told i).0));
        asks = ap (λ (k : program_worlds.World). k.hub.askings) r.near ∙ sym (ap (λ (t : Told). t.1) told);
        ordered = subst AreOrdered (sym p.asks) (line-ordered other worlds.far before.far.hub.askings far_ordered);
      }

  both-done : (t : ℕ) → AreDistinct (words_in worlds.near) → AreDistinct (words_in worlds.far) → RunsMoment t before text after → HasDone (one (hub_event (hub_events.At t))) worlds before after text
  both-done t near far r =
      let m = r.moves worlds stands near far in
      record {
        stands = record { near = m.near; far = m.far; apex = r.apex ∙ stands.apex; order = ap (λ o. o.items) r.order ∙ stands.order };
        printed = m.printed ∙ ap (λ (ls : List (List ℕ)). ended_lines ls) (sym (append-nil _));
        asks = m.near_asks;
        ordered = subst AreOrdered (sym m.far_asks) (line-ordered (hub_event (hub_events.At t)) worlds.far before.far.hub.askings far_ordered);
      }

  carry-done : (w : Word) (name : Labels) (written : List ℕ) → Carries w (all_at name) written before text after → HasDone (carry w name written) worlds before after text
  carry-done w name written r =
      let c = r.carries worlds name stands refl in
      record {
        stands = record {
          near = subst (λ (k : program_worlds.World). IsWorld k (line_does by_notices (near_line_at worlds (carry w name written)) worlds.near).0) (sym r.near)
              (subst (IsWorld before.near) (sym (shows-leave by_notices w (all_at name) written worlds.near)) stands.near);
          far = c.far;
          apex = r.apex ∙ stands.apex;
          order = ap (λ o. o.items) r.order ∙ stands.order;
        };
        printed = c.printed;
        asks = ap (λ (k : program_worlds.World). k.hub.askings) r.near;
        ordered = subst AreOrdered (sym c.asks) (line-ordered (line_of_relayed (carry_of by_notices worlds w name)) worlds.far before.far.hub.askings far_ordered);
      }

-- an update keeps the words
abbrev SameWords : World → World → Type 0
SameWords world later = (words_in later ≡ words_in world) × (later.links ≡ world.links)

relayed-words : (world : World) (what : Option Relayed) → SameWords world (line_does by_notices (line_of_relayed what) world).0
relayed-words world None = (refl, refl)
relayed-words world (Some Apex) = (refl, refl)
relayed-words world (Some Outside) = (refl, refl)
relayed-words world (Some (Unfit kind)) = (refl, refl)
relayed-words world (Some (Message octets)) = (refl, refl)

-- ---- a turn

module _ (near_links far_links : List Word) where
  -- what its line makes, and what is left of the halves
  pub record IsStepped (line : WholeLine) (worlds : Worlds) (before after : program.Worlds) (left later : AreLeft) (ls ms : List ScriptLine) (text : List ℕ) : Type 0 where
    pub done : HasDone line worlds before after text
    pub near : IsHalf near_links left.near_clients (lines_do by_notices line worlds).0.near ls later.near
    pub far : IsHalf far_links left.far_clients (lines_do by_notices line worlds).0.far ms later.far

  module _ (worlds : Worlds) (before : program.Worlds) (left : AreLeft) (ls ms : List ScriptLine) (stands : AreWorlds before worlds) where
    abbrev NearHalf : WholeLine → Type 0
    NearHalf line = IsHalf near_links left.near_clients worlds.near (near_of (is_far_in worlds.fars) line ∷ ls) left.near

    abbrev FarHalf : WholeLine → Type 0
    FarHalf line = IsHalf far_links left.far_clients worlds.far (far_of (is_far_in worlds.fars) line ∷ ms) left.far

    near-comes : (line : WholeLine) → is_head (near_of (is_far_in worlds.fars) line) ≡ false → NearHalf line → FirstIs (λ (event : Event). IsNamedIn before.near left.near_clients event) left.near
    near-comes line happens near =
        let n = next near_links left.near_clients worlds.near (near_of (is_far_in worlds.fars) line) ls left.near happens near in
        first near_links left.near_clients (λ (event : Event). IsNamedIn before.near left.near_clients event) worlds.near (near_of (is_far_in worlds.fars) line) ls left.near n
        (named-in near_links left.near_clients before.near worlds.near n.event stands.near near.links_are n.named)

    far-comes : (line : WholeLine) → is_head (far_of (is_far_in worlds.fars) line) ≡ false → FarHalf line → FirstIs (λ (event : Event). IsNamedIn before.far left.far_clients event) left.far
    far-comes line happens far =
        let n = next far_links left.far_clients worlds.far (far_of (is_far_in worlds.fars) line) ms left.far happens far in
        first far_links left.far_clients (λ (event : Event). IsNamedIn before.far left.far_clients event) worlds.far (far_of (is_far_in worlds.fars) line) ms left.far n
        (named-in far_links left.far_clients before.far worlds.far n.event stands.far far.links_are n.named)

    both-comes : (t : ℕ) → NearHalf (one (hub_event (hub_events.At t))) → FarHalf (one (hub_event (hub_events.At t))) → TurnComes of_turn.Both before left
    both-comes t near far =
        let n = next near_links left.near_clients worlds.near (hub_event (hub_events.At t)) ls left.near refl near in
        let m = next far_links left.far_clients worlds.far (hub_event (hub_events.At t)) ms left.far refl far in (
          first near_links left.near_clients (λ (event : Event). is_at event ≡ true) worlds.near (hub_event (hub_events.At t)) ls left.near n (at-said near_links (known_clients left.near_clients) n.event t n.said),
          first far_links left.far_clients (λ (event : Event). Unit {0}) worlds.far (hub_event (hub_events.At t)) ms left.far m tt,
        )

    carry-comes : (w : Word) (name : Labels) (written : List ℕ) → NearHalf (carry w name written) → TurnComes of_turn.Carry before left
    carry-comes w name written near =
        let line : ScriptLine = near_of (is_far_in worlds.fars) (carry w name written) in
        let n = next near_links left.near_clients worlds.near line ls left.near refl near in
        first near_links left.near_clients (λ (event : Event). IsNamedIn before.near left.near_clients event × (is_show event ≡ true)) worlds.near line ls left.near n
        (named-in near_links left.near_clients before.near worlds.near n.event stands.near near.links_are n.named, show-said near_links (known_clients left.near_clients) n.event w (all_at name) written n.said)

    pub comes-by : (line : WholeLine) (turn : Turn) → Class (is_far_in worlds.fars) line (turn ∷ []) → NearHalf line → FarHalf line → TurnComes turn before left
    comes-by (one l) turn (for_near h f b) near far = near-comes (one l) (ap is_head (near-as (is_far_in worlds.fars) l f) ∙ h) near
    comes-by (one l) turn (for_far h f) near far = far-comes (one l) (ap is_head (far-as (is_far_in worlds.fars) l f) ∙ h) far
    comes-by (one (hub_event (hub_events.At t))) turn for_both near far = both-comes t near far
    comes-by (far_client w) turn client_far near far = far-comes (far_client w) refl far
    comes-by (carry w name written) turn carries near far = carry-comes w name written near
    comes-by (far_zone apex serial) turn c near far = elim c [ ]

    -- ---- what it makes

    module _ (after : program.Worlds) (later : AreLeft) (text : List ℕ) (near_ordered : AreOrdered before.near.hub.askings) (far_ordered : AreOrdered before.far.hub.askings) where
      abbrev Stepped : WholeLine → Type 0
      Stepped line = IsStepped line worlds before after left later ls ms text

      near-words : (line : WholeLine) → NearHalf line → AreDistinct (words_in worlds.near)
      near-words line near = half-distinct near_links left.near_clients worlds.near (near_of (is_far_in worlds.fars) line ∷ ls) left.near near

      far-words : (line : WholeLine) → FarHalf line → AreDistinct (words_in worlds.far)
      far-words line far = half-distinct far_links left.far_clients worlds.far (far_of (is_far_in worlds.fars) line ∷ ms) left.far far

      near-steps : (l : ScriptLine) → is_head l ≡ false → names_far (is_far_in worlds.fars) l ≡ false → is_of_both l ≡ false → NearHalf (one l) → FarHalf (one l) → TurnRuns of_turn.Near before left text after later → Stepped (one l)
      near-steps l h f b near far runs =
          let line : ScriptLine = near_of (is_far_in worlds.fars) (one l) in
          let other : ScriptLine = far_of (is_far_in worlds.fars) (one l) in
          let t = half-taken near_links left.near_clients (λ (event : Event). RunsNear left.near_clients event before text after) worlds.near line ls left.near later.near (ap is_head (near-as (is_far_in worlds.fars) l f) ∙ h) near runs.0 in
          record {
            done = near-done worlds before after text stands near_ordered far_ordered near_links left.near_clients t.event l h f b near.links_are (near-words (one l) near) t.said t.holds;
            near = t.half;
            far = half-passed far_links left.far_clients worlds.far other ms left.far later.far (ap is_head (far-not (is_far_in worlds.fars) l f b)) runs.1 far;
          }

      far-steps : (l : ScriptLine) → is_head l ≡ false → names_far (is_far_in worlds.fars) l ≡ true → NearHalf (one l) → FarHalf (one l) → TurnRuns of_turn.Far before left text after later → Stepped (one l)
      far-steps l h f near far runs =
          let line : ScriptLine = near_of (is_far_in worlds.fars) (one l) in
          let other : ScriptLine = far_of (is_far_in worlds.fars) (one l) in
          let quiet : is_head line ≡ true = ap is_head (near-not (is_far_in worlds.fars) l f) in
          let same : other ≡ l = far-as (is_far_in worlds.fars) l f in
          let second = line_does by_notices other worlds.far in
          let t = half-taken far_links left.far_clients (λ (event : Event). RunsFar left.far_clients event before text after) worlds.far other ms left.far later.far (ap is_head same ∙ h) far runs.0 in
          record {
            done = far-done worlds before after text stands near_ordered far_ordered far_links left.far_clients t.event (one l) quiet far.links_are (far-words (one l) far) t.said
                (λ printed none. printed-far worlds (printed ++ second.1) (is_far_in worlds.fars) l f ∙ ap (λ (p : List (List ℕ)). p ++ second.1) none)
                (ap (λ (m : ScriptLine). asked_lines m worlds.far before.far.hub.askings) same ∙ asked-far (is_far_in worlds.fars) l worlds.far before.far.hub.askings f)
                (order-far (is_far_in worlds.fars) far_links (known_clients left.far_clients) worlds.order t.event (ap (names_far (is_far_in worlds.fars)) (t.said ∙ same) ∙ f) ∙ sym (order-kept (is_far_in worlds.fars) worlds.order l f))
                t.holds;
            near = half-passed near_links left.near_clients worlds.near line ls left.near later.near quiet runs.1 near;
            far = t.half;
          }

      client-steps : (w : Word) → NearHalf (far_client w) → FarHalf (far_client w) → TurnRuns of_turn.Far before left text after later → Stepped (far_client w)
      client-steps w near far runs =
          let t = half-taken far_links left.far_clients (λ (event : Event). RunsFar left.far_clients event before text after) worlds.far (joining w false) ms left.far later.far refl far runs.0 in
          record {
            done = far-done worlds before after text stands near_ordered far_ordered far_links left.far_clients t.event (far_client w) refl far.links_are (far-words (far_client w) far) t.said
                (λ printed none. refl) refl (order-joins far_links (known_clients left.far_clients) worlds.order t.event w false t.said) t.holds;
            near = half-passed near_links left.near_clients worlds.near silent ls left.near later.near refl runs.1 near;
            far = t.half;
          }

      both-steps : (t : ℕ) → NearHalf (one (hub_event (hub_events.At t))) → FarHalf (one (hub_event (hub_events.At t))) → TurnRuns of_turn.Both before left text after later → Stepped (one (hub_event (hub_events.At t)))
      both-steps t near far runs =
          let line : ScriptLine = hub_event (hub_events.At t) in
          let n = half-taken near_links left.near_clients (λ (event : Event). RunsBoth event before text after) worlds.near line ls left.near later.near refl near runs.0 in
          let f = half-taken far_links left.far_clients (λ (event : Event). Unit {0}) worlds.far line ms left.far later.far refl far runs.1 in
          record {
            done = both-done worlds before after text stands near_ordered far_ordered t (near-words (one line) near) (far-words (one line) far) (both-runs near_links (known_clients left.near_clients) n.event t before after text n.said n.holds);
            near = n.half;
            far = f.half;
          }

      carry-steps : (w : Word) (name : Labels) (written : List ℕ) → NearHalf (carry w name written) → FarHalf (carry w name written) → TurnRuns of_turn.Carry before left text after later → Stepped (carry w name written)
      carry-steps w name written near far runs =
          let line : ScriptLine = near_of (is_far_in worlds.fars) (carry w name written) in
          let n = half-taken near_links left.near_clients (λ (event : Event). RunsCarry left.near_clients event before text after) worlds.near line ls left.near later.near refl near runs.0 in
          let same = relayed-words worlds.far (carry_of by_notices worlds w name) in
          record {
            done = carry-done worlds before after text stands near_ordered far_ordered w name written (carry-runs near_links left.near_clients n.event w (all_at name) written before after text n.said n.holds);
            near = n.half;
            far = subst (IsHalf far_links left.far_clients (lines_do by_notices (carry w name written) worlds).0.far ms) (sym runs.1)
                (half-stays far_links left.far_clients worlds.far (lines_do by_notices (carry w name written) worlds).0.far ms left.far same.0 same.1 (half-quiet far_links left.far_clients worlds.far silent ms left.far refl far));
          }

      pub steps-by : (line : WholeLine) (turn : Turn) → Class (is_far_in worlds.fars) line (turn ∷ []) → NearHalf line → FarHalf line → TurnRuns turn before left text after later → Stepped line
      steps-by (one l) turn (for_near h f b) near far runs = near-steps l h f b near far runs
      steps-by (one l) turn (for_far h f) near far runs = far-steps l h f near far runs
      steps-by (one (hub_event (hub_events.At t))) turn for_both near far runs = both-steps t near far runs
      steps-by (far_client w) turn client_far near far runs = client-steps w near far runs
      steps-by (carry w name written) turn carries near far runs = carry-steps w name written near far runs
      steps-by (far_zone apex serial) turn c near far runs = elim c [ ]

  -- ---- of a script

  pub comes : (kept : program.Worlds) (left : AreLeft) (turn : Turn) (turns : List Turn) (text whole : List ℕ) (last : Last) → IsReady near_links far_links kept left turn turns text whole last → TurnComes turn kept left
  comes kept left turn turns text whole last r =
      let p = r.played in
      let worlds = p.worlds in
      comes-by worlds kept left (near_lines_from (fars_behind worlds.fars r.line) r.lines) (far_heads_from (fars_behind worlds.fars r.line) r.lines) p.stands r.line turn r.of p.near_half p.far_half

  pub plays : (before after : program.Worlds) (left later : AreLeft) (turn : Turn) (turns : List Turn) (text now written whole : List ℕ) (last : Last) (r : IsReady near_links far_links before left turn turns text whole last)
      → HasSameClients left later → TurnRuns turn before left written after later → now ≡ text ++ written → IsPlayed near_links far_links r.lines after later turns now whole last
  plays before after left later turn turns text now written whole last r same runs is =
      let p = r.played in
      let worlds = p.worlds in
      let ls : List ScriptLine = near_lines_from (fars_behind worlds.fars r.line) r.lines in
      let ms : List ScriptLine = far_heads_from (fars_behind worlds.fars r.line) r.lines in
      let s = steps-by worlds before left ls ms p.stands after later written p.near_ordered p.far_ordered r.line turn r.of p.near_half p.far_half runs in
      step near_links far_links r.line r.lines before after left later turn turns text now written whole last p r.others s.done is
      (subst (λ (cs : List KnownClient). IsHalf near_links cs (lines_do by_notices r.line worlds).0.near ls later.near) (sym same.near) s.near)
      (subst (λ (cs : List KnownClient). IsHalf far_links cs (lines_do by_notices r.line worlds).0.far ms later.far) (sym same.far) s.far)
