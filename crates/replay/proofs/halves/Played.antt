-- A script of two hubs while it runs: lines that are left, what is to happen at each hub, and the turns that are left.
--     pass      a line that says nothing is passed
--     IsReady, ready      the line of the next turn
--     HasDone, step      what a line that has a turn makes of it
--     ended      no turn is left: the text is written
use Rattle.std.proofs.Common.{◌≡◌, ℕ, Bool, true, false, List, [], ◌∷◌, ◌++◌, sym, ◌∙◌, ap, subst, refl, append_assoc, append-nil}
use Rattle.hubasking.specs.LinkAskings.{Askings}
use Rattle.scripts.specs.Lines.{Word, ScriptLine}
use Rattle.scripts.specs.Scripts.{is_head}
use Rattle.scripts.specs.Words.{ended_lines}
use Rattle.scripts.specs.KeptWhole.{turns_from, turns_here}
use Rattle.scripts.specs.WholeLines.{WholeLine, one, far_zone, far_client, carry, near_of, far_of, fars_behind, is_far_in}
use Rattle.scripts.specs.WholeScripts.{near_lines_from, far_heads_from}
use Rattle.scripts.specs.declared.clients.KnownClient.{KnownClient}
use Rattle.scripts.specs.declared.event.Event.{Event}
use Rattle.scripts.specs.declared.whole_script.Turn.{Turn}
use Rattle.replay.specs.World.{World}
use Rattle.replay.specs.TextWords.{by_history, by_notices}
use Rattle.replay.specs.Text.{Printed, line_does}
use Rattle.replay.specs.Askings.{AreOrdered, asked_lines, line_asks, lines_asks}
use Rattle.replay.specs.TwoWorlds.{Worlds, near_line_at, far_line_at, order_behind, printed_of, lines_do, worlds_after}
use Rattle.replay.specs.WholeTexts.{whole_printed}
use Rattle.replay.specs.declared.two_worlds.Worlds as program
use Rattle.replay.specs.KeptTwoWorlds.{AreLeft, AreWorlds}
use Rattle.replay.specs.KeptPlays.{IsHalf, IsPlayed, Last, last_from, whole_from}
use Rattle.replay.proofs.asking.Ordered.{line-ordered}
use Rattle.replay.proofs.worlds.Happening.{does-nothing, asks-nothing, Told}
use Rattle.replay.proofs.worlds.OneWorld.{one-world}
use Rattle.replay.proofs.worlds.TimedSeats.{lines-append}
use Rattle.replay.proofs.halves.TurnClasses.{Class, class, says_nothing, zone_far, for_near, for_far, for_both, client_far, carries, near-quiet, far-quiet, order-quiet, printed-quiet}
use Rattle.replay.proofs.halves.HalfLines.{half-quiet}

-- ---- lines that say nothing

fars-quiet : (fars : List Word) (line : WholeLine) → Class (is_far_in fars) line [] → fars_behind fars line ≡ fars
fars-quiet fars (one l) c = refl
fars-quiet fars (far_zone apex serial) c = refl
fars-quiet fars (far_client w) c = elim c [ ]
fars-quiet fars (carry w name written) c = elim c [ ]

order-stays : (is_far : Word → Bool) (order : List Bool) (line : WholeLine) → Class is_far line [] → order_behind order line ≡ order
order-stays is_far order (one l) (says_nothing h) = order-quiet order l h
order-stays is_far order (far_zone apex serial) c = refl
order-stays is_far order (far_client w) c = elim c [ ]
order-stays is_far order (carry w name written) c = elim c [ ]

printed-none : (is_far : Word → Bool) (line : WholeLine) (worlds : Worlds) (near far : List (List ℕ)) → Class is_far line [] → near ≡ [] → far ≡ [] → printed_of by_notices line worlds near far ≡ []
printed-none is_far (one l) worlds near far (says_nothing h) n f = printed-quiet worlds (near ++ far) l h ∙ (λ i. n i ++ f i)
printed-none is_far (far_zone apex serial) worlds near far c n f = refl
printed-none is_far (far_client w) worlds near far c n f = elim c [ ]
printed-none is_far (carry w name written) worlds near far c n f = elim c [ ]

far-line-quiet : (worlds : Worlds) (line : WholeLine) → Class (is_far_in worlds.fars) line [] → is_head (far_line_at by_notices worlds line) ≡ true
far-line-quiet worlds (one l) c = far-quiet (is_far_in worlds.fars) (one l) c
far-line-quiet worlds (far_zone apex serial) c = refl
far-line-quiet worlds (far_client w) c = elim c [ ]
far-line-quiet worlds (carry w name written) c = elim c [ ]

does-none : (worlds : Worlds) (line : WholeLine) → Class (is_far_in worlds.fars) line [] → lines_do by_notices line worlds ≡ (worlds, [])
does-none worlds line c =
    let near = does-nothing worlds.near (near_line_at worlds line) (near-quiet (is_far_in worlds.fars) line c) in
    let far = does-nothing worlds.far (far_line_at by_notices worlds line) (far-line-quiet worlds line c) in
    let printed : printed_of by_notices line worlds (line_does by_notices (near_line_at worlds line) worlds.near).1 (line_does by_notices (far_line_at by_notices worlds line) worlds.far).1 ≡ [] =
    printed-none (is_far_in worlds.fars) line worlds _ _ c (ap (λ (p : Printed). p.1) near) (ap (λ (p : Printed). p.1) far) in
    λ i. (record worlds { fars = fars-quiet worlds.fars line c i; near = (near i).0; far = (far i).0; order = order-stays (is_far_in worlds.fars) worlds.order line c i }, printed i)

-- ---- steps

abbrev first_of : Turn → List Turn → Turn
first_of t [] = t
first_of t (u ∷ us) = u

abbrev rest_of : List Turn → List Turn
rest_of [] = []
rest_of (u ∷ us) = us

-- no line has two turns
one-turn : (is_far : Word → Bool) (line : WholeLine) (turns : List Turn) → Class is_far line turns → rest_of turns ≡ []
one-turn is_far line _ (says_nothing h) = refl
one-turn is_far line _ zone_far = refl
one-turn is_far line _ (for_near h f b) = refl
one-turn is_far line _ (for_far h f) = refl
one-turn is_far line _ for_both = refl
one-turn is_far line _ client_far = refl
one-turn is_far line _ carries = refl

-- what a line makes of the worlds, and what it prints
pub record HasDone (line : WholeLine) (worlds : Worlds) (before after : program.Worlds) (text : List ℕ) : Type 0 where
  pub stands : AreWorlds after (lines_do by_notices line worlds).0
  pub printed : text ≡ ended_lines ((lines_do by_notices line worlds).1 ++ asked_lines (near_line_at worlds line) worlds.near before.near.hub.askings)
  pub asks : after.near.hub.askings ≡ line_asks (near_line_at worlds line) worlds.near before.near.hub.askings
  pub ordered : AreOrdered after.far.hub.askings

-- no turn is left
pub record HasEnded (kept : program.Worlds) (text whole : List ℕ) (last : Last) : Type 0 where
  pub text_is : text ≡ whole
  pub worlds : AreWorlds kept last.0
  pub asks : kept.near.hub.askings ≡ last.1

module _ (near_links far_links : List Word) where
  abbrev Played : List WholeLine → program.Worlds → AreLeft → List Turn → List ℕ → List ℕ → Last → Type 0
  Played lines kept left turns text whole last = IsPlayed near_links far_links lines kept left turns text whole last

  pub pass : (line : WholeLine) (lines : List WholeLine) (kept : program.Worlds) (left : AreLeft) (turns : List Turn) (text whole : List ℕ) (last : Last) (p : Played (line ∷ lines) kept left turns text whole last)
      → Class (is_far_in p.worlds.fars) line [] → turns_here (is_far_in p.worlds.fars) line ≡ [] → Played lines kept left turns text whole last
  pass line lines kept left turns text whole last p c none =
      let worlds = p.worlds in
      let askings = kept.near.hub.askings in
      let fars = fars-quiet worlds.fars line c in
      let near : ScriptLine = near_line_at worlds line in
      let nothing : is_head near ≡ true = near-quiet (is_far_in worlds.fars) line c in
      let does = does-none worlds line c in
      let told = asks-nothing worlds.near askings near nothing in
      let stays : (line_does by_history near worlds.near).0 ≡ worlds.near = sym (one-world by_notices near worlds.near) ∙ ap (λ (q : Printed). q.0) (does-nothing worlds.near near nothing) in
      record {
        worlds = worlds;
        stands = p.stands;
        near_half = subst (λ (fs : List Word). IsHalf near_links left.near_clients worlds.near (near_lines_from fs lines) left.near) fars
            (half-quiet near_links left.near_clients worlds.near near (near_lines_from (fars_behind worlds.fars line) lines) left.near nothing p.near_half);
        far_half = subst (λ (fs : List Word). IsHalf far_links left.far_clients worlds.far (far_heads_from fs lines) left.far) fars
            (half-quiet far_links left.far_clients worlds.far (far_of (is_far_in worlds.fars) line) (far_heads_from (fars_behind worlds.fars line) lines) left.far (far-quiet (is_far_in worlds.fars) line c) p.far_half);
        come = sym (λ i. none i ++ turns_from (fars i) lines) ∙ p.come;
        near_ordered = p.near_ordered;
        far_ordered = p.far_ordered;
        said = sym (ap (λ (ls : List (List ℕ)). text ++ ended_lines ls) (λ i. (does i).1 ++ ((told i).0 ++ whole_printed by_notices lines (does i).0 (told i).1))) ∙ p.said;
        leads = sym (λ i. (worlds_after by_notices lines (does i).0, lines_asks (near_lines_from (fars i) lines) (stays i) (told i).1)) ∙ p.leads;
      }

  -- a line that has a turn
  pub step : (line : WholeLine) (lines : List WholeLine) (before after : program.Worlds) (left later : AreLeft) (turn : Turn) (turns : List Turn) (text now written whole : List ℕ) (last : Last)
      (p : Played (line ∷ lines) before left (turn ∷ turns) text whole last) → turns_from (fars_behind p.worlds.fars line) lines ≡ turns → HasDone line p.worlds before after written → now ≡ text ++ written
      → IsHalf near_links later.near_clients (lines_do by_notices line p.worlds).0.near (near_lines_from (fars_behind p.worlds.fars line) lines) later.near
      → IsHalf far_links later.far_clients (lines_do by_notices line p.worlds).0.far (far_heads_from (fars_behind p.worlds.fars line) lines) later.far
      → Played lines after later turns now whole last
  step line lines before after left later turn turns text now written whole last p come done is near far =
      let worlds = p.worlds in
      let askings = before.near.hub.askings in
      let both = lines_do by_notices line worlds in
      let asked = asked_lines (near_line_at worlds line) worlds.near askings in
      let then = line_asks (near_line_at worlds line) worlds.near askings in
      record {
        worlds = both.0;
        stands = done.stands;
        near_half = near;
        far_half = far;
        come = come;
        near_ordered = subst AreOrdered (sym done.asks) (line-ordered (near_line_at worlds line) worlds.near askings p.near_ordered);
        far_ordered = done.ordered;
        said = ap (λ (t : List ℕ). t ++ whole_from both.0 after.near.hub.askings lines) (is ∙ ap (λ (l : List ℕ). text ++ l) done.printed)
            ∙ ap (λ (a : Askings). (text ++ ended_lines (both.1 ++ asked)) ++ whole_from both.0 a lines) done.asks
            ∙ append_assoc text (ended_lines (both.1 ++ asked)) (whole_from both.0 then lines)
            ∙ ap (λ (t : List ℕ). text ++ t) (sym (lines-append (both.1 ++ asked) (whole_printed by_notices lines both.0 then)))
            ∙ ap (λ (ls : List (List ℕ)). text ++ ended_lines ls) (append_assoc both.1 asked (whole_printed by_notices lines both.0 then))
            ∙ p.said;
        leads =
            (λ i. (worlds_after by_notices lines both.0, lines_asks (near_lines_from (fars_behind worlds.fars line) lines) (one-world by_notices (near_line_at worlds line) worlds.near i) (done.asks i)))
            ∙ p.leads;
      }

  -- ---- the line of the next turn

  pub record IsReady (kept : program.Worlds) (left : AreLeft) (turn : Turn) (turns : List Turn) (text whole : List ℕ) (last : Last) : Type 0 where
    pub line : WholeLine
    pub lines : List WholeLine
    pub played : Played (line ∷ lines) kept left (turn ∷ turns) text whole last
    pub of : Class (is_far_in played.worlds.fars) line (turn ∷ [])
    pub others : turns_from (fars_behind played.worlds.fars line) lines ≡ turns

  pub ready : (lines : List WholeLine) (kept : program.Worlds) (left : AreLeft) (turn : Turn) (turns : List Turn) (text whole : List ℕ) (last : Last) → Played lines kept left (turn ∷ turns) text whole last
      → IsReady kept left turn turns text whole last
  ready [] kept left turn turns text whole last p = absurd (let e : [] ≡ turn ∷ turns = p.come in cc)
  ready (line ∷ lines) kept left turn turns text whole last p =
      by (turns_here (is_far_in p.worlds.fars) line) refl (class (is_far_in p.worlds.fars) line) (λ c none. ready lines kept left turn turns text whole last (pass line lines kept left (turn ∷ turns) text whole last p c none))
    where
      by : (hs : List Turn) → turns_here (is_far_in p.worlds.fars) line ≡ hs → Class (is_far_in p.worlds.fars) line hs
          → (Class (is_far_in p.worlds.fars) line [] → turns_here (is_far_in p.worlds.fars) line ≡ [] → IsReady kept left turn turns text whole last) → IsReady kept left turn turns text whole last
      by [] e c more = more c e
      by (t ∷ us) e c more =
          let come : (t ∷ us) ++ turns_from (fars_behind p.worlds.fars line) lines ≡ turn ∷ turns = ap (λ (hs : List Turn). hs ++ turns_from (fars_behind p.worlds.fars line) lines) (sym e) ∙ p.come in
          let same : t ≡ turn = ap (first_of t) come in
          let alone : us ≡ [] = one-turn (is_far_in p.worlds.fars) line (t ∷ us) c in
          record {
            line = line;
            lines = lines;
            played = p;
            of = subst (Class (is_far_in p.worlds.fars) line) (λ i. same i ∷ alone i) c;
            others = sym (ap (λ (hs : List Turn). hs ++ turns_from (fars_behind p.worlds.fars line) lines) alone) ∙ ap rest_of come;
          }

  -- ---- no turn is left

  pub ended : (lines : List WholeLine) (kept : program.Worlds) (left : AreLeft) (text whole : List ℕ) (last : Last) → Played lines kept left [] text whole last → HasEnded kept text whole last
  ended [] kept left text whole last p = record {
    text_is = sym (append-nil text) ∙ p.said;
    worlds = subst (AreWorlds kept) (ap (λ (l : Last). l.0) p.leads) p.stands;
    asks = ap (λ (l : Last). l.1) p.leads;
  }
  ended (line ∷ lines) kept left text whole last p =
      by (turns_here (is_far_in p.worlds.fars) line) refl (class (is_far_in p.worlds.fars) line) (λ c none. ended lines kept left text whole last (pass line lines kept left [] text whole last p c none))
    where
      by : (hs : List Turn) → turns_here (is_far_in p.worlds.fars) line ≡ hs → Class (is_far_in p.worlds.fars) line hs
          → (Class (is_far_in p.worlds.fars) line [] → turns_here (is_far_in p.worlds.fars) line ≡ [] → HasEnded kept text whole last) → HasEnded kept text whole last
      by [] e c more = more c e
      by (t ∷ us) e c more =
          let come : (t ∷ us) ++ turns_from (fars_behind p.worlds.fars line) lines ≡ [] = ap (λ (hs : List Turn). hs ++ turns_from (fars_behind p.worlds.fars line) lines) (sym e) ∙ p.come in
          absurd cc
