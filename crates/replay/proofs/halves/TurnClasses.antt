-- The lines of a script that may have a second hub, by the turn that each has.
--     Class is_far line turns, class is_far line      a line's class, by its turns
--     near-quiet, near-happens, far-quiet, far-happens      what it is to each hub says nothing, or something
--     order-near, order-far, order-joins      the order of clients behind an event
--     printed-near, printed-far      what a line prints that is for one hub
use Rattle.std.proofs.Common.{◌≡◌, ℕ, Bool, true, false, cond, not, ◌||◌, List, [], ◌∷◌, ◌++◌, ap, refl, sym, ◌∙◌}
use Rattle.dnsname.specs.Names.{Labels}
use Rattle.hubasking.specs.LinkAskings.{Askings}
use Rattle.scripts.specs.Lines.{Word, HeadLine, ScriptLine, silent, head_line, joining, hub_event, link_event, client_call, client_passing, client_event, session_event}
use Rattle.scripts.specs.Scripts.{is_head}
use Rattle.scripts.specs.Events.{event_said}
use Rattle.scripts.specs.KeptWhole.{turns_of_one, turns_here}
use Rattle.scripts.specs.WholeLines.{WholeLine, one, far_zone, far_client, carry, near_of, far_of, names_far, is_of_both, is_timers}
use Rattle.scripts.specs.declared.event.Event.{Event}
use Rattle.scripts.specs.declared.event.Event.TheVariants as events
use Rattle.scripts.specs.declared.line.HubEvent.{HubEvent}
use Rattle.scripts.specs.declared.line.HubEvent.TheVariants as hub_events
use Rattle.scripts.specs.declared.whole_script.Turn.{Turn}
use Rattle.scripts.specs.declared.whole_script.Turn.TheVariants as of_turn
use Rattle.replay.specs.World.{World}
use Rattle.replay.specs.Askings.{asked_lines}
use Rattle.replay.specs.TwoWorlds.{Worlds, order_behind_one, printed_of_one}
use Rattle.replay.specs.KeptTwoWorlds.{order_with}

-- ---- classes

pub data Class (is_far : Word → Bool) : WholeLine → List Turn → Type 0 where
  says_nothing : {l : ScriptLine} → is_head l ≡ true → Class is_far (one l) []
  zone_far : {apex : Labels} {serial : ℕ} → Class is_far (far_zone apex serial) []
  for_near : {l : ScriptLine} → is_head l ≡ false → names_far is_far l ≡ false → is_of_both l ≡ false → Class is_far (one l) (of_turn.Near ∷ [])
  for_far : {l : ScriptLine} → is_head l ≡ false → names_far is_far l ≡ true → Class is_far (one l) (of_turn.Far ∷ [])
  for_both : {t : ℕ} → Class is_far (one (hub_event (hub_events.At t))) (of_turn.Both ∷ [])
  client_far : {w : Word} → Class is_far (far_client w) (of_turn.Far ∷ [])
  carries : {w : Word} {name : Labels} {written : List ℕ} → Class is_far (carry w name written) (of_turn.Carry ∷ [])

abbrev turns_by : Bool → Bool → Bool → List Turn
turns_by head far both = cond head [] (cond far (of_turn.Far ∷ []) (cond both (of_turn.Both ∷ []) (of_turn.Near ∷ [])))

-- a line of both that happens is a moment
both-moment : (is_far : Word → Bool) (l : ScriptLine) → is_head l ≡ false → is_of_both l ≡ true → Class is_far (one l) (of_turn.Both ∷ [])
both-moment is_far (hub_event (hub_events.At t)) h b = for_both
both-moment is_far (hub_event (hub_events.Update m)) h b = absurd cc
both-moment is_far (hub_event hub_events.Point) h b = absurd cc
both-moment is_far (head_line line) h b = absurd cc
both-moment is_far silent h b = absurd cc
both-moment is_far (joining w lone) h b = absurd cc
both-moment is_far (link_event w event) h b = absurd cc
both-moment is_far (client_call w call) h b = absurd cc
both-moment is_far (client_passing w way) h b = absurd cc
both-moment is_far (client_event w event) h b = absurd cc
both-moment is_far (session_event w event) h b = absurd cc

class-one : (is_far : Word → Bool) (l : ScriptLine) (head far both : Bool) → is_head l ≡ head → names_far is_far l ≡ far → is_of_both l ≡ both → Class is_far (one l) (turns_by head far both)
class-one is_far l true far both h f b = says_nothing h
class-one is_far l false true both h f b = for_far h f
class-one is_far l false false true h f b = both-moment is_far l h b
class-one is_far l false false false h f b = for_near h f b

pub class : (is_far : Word → Bool) (line : WholeLine) → Class is_far line (turns_here is_far line)
class is_far (one l) = class-one is_far l (is_head l) (names_far is_far l) (is_of_both l) refl refl refl
class is_far (far_zone apex serial) = zone_far
class is_far (far_client w) = client_far
class is_far (carry w name written) = carries

-- ---- what the line is to each hub

pub near-as : (is_far : Word → Bool) (l : ScriptLine) → names_far is_far l ≡ false → near_of is_far (one l) ≡ l
near-as is_far l f = ap (λ (b : Bool). cond {A = ScriptLine} b silent l) f

pub near-not : (is_far : Word → Bool) (l : ScriptLine) → names_far is_far l ≡ true → near_of is_far (one l) ≡ silent
near-not is_far l f = ap (λ (b : Bool). cond {A = ScriptLine} b silent l) f

pub far-as : (is_far : Word → Bool) (l : ScriptLine) → names_far is_far l ≡ true → far_of is_far (one l) ≡ l
far-as is_far l f = ap (λ (b : Bool). cond {A = ScriptLine} (b || is_of_both l) l silent) f

pub far-not : (is_far : Word → Bool) (l : ScriptLine) → names_far is_far l ≡ false → is_of_both l ≡ false → far_of is_far (one l) ≡ silent
far-not is_far l f b = ap (λ (c : Bool). cond {A = ScriptLine} (c || is_of_both l) l silent) f ∙ ap (λ (c : Bool). cond {A = ScriptLine} c l silent) b

-- a line that says nothing says nothing to either
quiet-or : (b : Bool) (l : ScriptLine) → is_head l ≡ true → is_head (cond {A = ScriptLine} b silent l) ≡ true
quiet-or true l h = refl
quiet-or false l h = h

quiet-and : (b : Bool) (l : ScriptLine) → is_head l ≡ true → is_head (cond {A = ScriptLine} b l silent) ≡ true
quiet-and true l h = h
quiet-and false l h = refl

pub near-quiet : (is_far : Word → Bool) (line : WholeLine) → Class is_far line [] → is_head (near_of is_far line) ≡ true
near-quiet is_far (one l) (says_nothing h) = quiet-or (names_far is_far l) l h
near-quiet is_far (far_zone apex serial) zone_far = refl
near-quiet is_far (far_client w) c = elim c [ ]
near-quiet is_far (carry w name written) c = elim c [ ]

pub far-quiet : (is_far : Word → Bool) (line : WholeLine) → Class is_far line [] → is_head (far_of is_far line) ≡ true
far-quiet is_far (one l) (says_nothing h) = quiet-and (names_far is_far l || is_of_both l) l h
far-quiet is_far (far_zone apex serial) zone_far = refl
far-quiet is_far (far_client w) c = elim c [ ]
far-quiet is_far (carry w name written) c = elim c [ ]

-- ---- the order of clients

pub order-near : (links : List Word) (clients : List (Word × Bool)) (order : List Bool) (event : Event) → order_with false order event ≡ order_behind_one order (event_said links clients event)
order-near links clients order (events.Joining number) = refl
order-near links clients order (events.Hub event) = refl
order-near links clients order (events.Link number event) = refl
order-near links clients order (events.Call number call) = refl
order-near links clients order (events.Passing number way) = refl
order-near links clients order (events.Client number event) = refl
order-near links clients order (events.Session party event) = refl

pub order-far : (is_far : Word → Bool) (links : List Word) (clients : List (Word × Bool)) (order : List Bool) (event : Event) → names_far is_far (event_said links clients event) ≡ true → order_with true order event ≡ order
order-far is_far links clients order (events.Joining number) f = absurd cc
order-far is_far links clients order (events.Hub event) f = refl
order-far is_far links clients order (events.Link number event) f = refl
order-far is_far links clients order (events.Call number call) f = refl
order-far is_far links clients order (events.Passing number way) f = refl
order-far is_far links clients order (events.Client number event) f = refl
order-far is_far links clients order (events.Session party event) f = refl

pub order-joins : (links : List Word) (clients : List (Word × Bool)) (order : List Bool) (event : Event) (w : Word) (lone : Bool) → event_said links clients event ≡ joining w lone → order_with true order event ≡ order ++ true ∷ []
order-joins links clients order (events.Joining number) w lone e = refl
order-joins links clients order (events.Hub event) w lone e = absurd cc
order-joins links clients order (events.Link number event) w lone e = absurd cc
order-joins links clients order (events.Call number call) w lone e = absurd cc
order-joins links clients order (events.Passing number way) w lone e = absurd cc
order-joins links clients order (events.Client number event) w lone e = absurd cc
order-joins links clients order (events.Session party event) w lone e = absurd cc

pub order-kept : (is_far : Word → Bool) (order : List Bool) (l : ScriptLine) → names_far is_far l ≡ true → order_behind_one order l ≡ order
order-kept is_far order (joining w lone) f = absurd cc
order-kept is_far order silent f = refl
order-kept is_far order (head_line line) f = refl
order-kept is_far order (hub_event event) f = refl
order-kept is_far order (link_event w event) f = refl
order-kept is_far order (client_call w call) f = refl
order-kept is_far order (client_passing w way) f = refl
order-kept is_far order (client_event w event) f = refl
order-kept is_far order (session_event w event) f = refl

pub order-quiet : (order : List Bool) (l : ScriptLine) → is_head l ≡ true → order_behind_one order l ≡ order
order-quiet order silent h = refl
order-quiet order (head_line line) h = refl
order-quiet order _ h = absurd cc

-- ---- what is printed

module _ (worlds : Worlds) (printed : List (List ℕ)) where
  pub printed-near : (l : ScriptLine) → is_of_both l ≡ false → printed_of_one l worlds printed ≡ printed
  printed-near (hub_event (hub_events.At t)) b = absurd cc
  printed-near (hub_event (hub_events.Update m)) b = refl
  printed-near (hub_event hub_events.Point) b = refl
  printed-near silent b = refl
  printed-near (head_line line) b = refl
  printed-near (joining w lone) b = refl
  printed-near (link_event w event) b = refl
  printed-near (client_call w call) b = refl
  printed-near (client_passing w way) b = refl
  printed-near (client_event w event) b = refl
  printed-near (session_event w event) b = refl

  pub printed-far : (is_far : Word → Bool) (l : ScriptLine) → names_far is_far l ≡ true → printed_of_one l worlds printed ≡ printed
  printed-far is_far (hub_event event) f = absurd cc
  printed-far is_far silent f = refl
  printed-far is_far (head_line line) f = refl
  printed-far is_far (joining w lone) f = refl
  printed-far is_far (link_event w event) f = refl
  printed-far is_far (client_call w call) f = refl
  printed-far is_far (client_passing w way) f = refl
  printed-far is_far (client_event w event) f = refl
  printed-far is_far (session_event w event) f = refl

  pub printed-quiet : (l : ScriptLine) → is_head l ≡ true → printed_of_one l worlds printed ≡ printed
  printed-quiet silent h = refl
  printed-quiet (head_line line) h = refl
  printed-quiet _ h = absurd cc

-- a line of a far client tells nothing of links
pub asked-far : (is_far : Word → Bool) (l : ScriptLine) (world : World) (askings : Askings) → names_far is_far l ≡ true → asked_lines l world askings ≡ []
asked-far is_far (link_event w event) world askings f = absurd cc
asked-far is_far silent world askings f = refl
asked-far is_far (head_line line) world askings f = refl
asked-far is_far (joining w lone) world askings f = refl
asked-far is_far (hub_event event) world askings f = refl
asked-far is_far (client_call w call) world askings f = refl
asked-far is_far (client_passing w way) world askings f = refl
asked-far is_far (client_event w event) world askings f = refl
asked-far is_far (session_event w event) world askings f = refl
