use Rattle.std.proofs.Common.{◌≡◌, refl, string_bytes}
use Rattle.replay.specs.Askings.{lines_asks, start_askings}
use Rattle.scripts.specs.WholeScripts.{near_lines}
use Rattle.replay.specs.World.{start_world}
use Rattle.replay.specs.TextWords.{by_notices}
use Rattle.replay.specs.TwoWorlds.{start_worlds, worlds_after}
use Rattle.replay.specs.WholeTexts.{whole_text_by}
use Rattle.replay.specs.KeptTwoWorlds.{AreWorlds}
use Rattle.replay.specs.KeptStages.{AreStaged, HasPlayed}
use Rattle.replay.specs.declared.script_text.Played.{Played}
use Rattle.replay.proofs.halves.Starting.{if-made, is-staged}
use Rattle.replay.proofs.script_text.script_text.Goals as goal

pub staged-requires : goal.staged-requires
staged-requires c = c.requires.1.near.start

pub staged-requires-2 : goal.staged-requires-2
staged-requires-2 c = c.requires.1.far.start

pub run_staged-requires : goal.run_staged-requires
run_staged-requires c = (
  c.args.script,
  c.requires.0,
  c.requires.1,
  record {
    near_staged = is-staged c.args.script.near c.staged.result c.in-Ok.near c.in-Ok.ensures.0 c.staged.ensures.world c.staged.ensures.asks c.staged.ensures.clients c.staged.ensures.events;
    far_staged = is-staged c.args.script.far c.staged-2.result c.in-Ok.far c.in-Ok.ensures.1 c.staged-2.ensures.world c.staged-2.ensures.asks c.staged-2.ensures.clients c.staged-2.ensures.events;
    apex_is = refl;
    turns_are = c.deref.ensures.value;
  },
)

pub returns-in-Ok-clause-text : goal.returns-in-Ok-clause-text
returns-in-Ok-clause-text c = λ lines tells.
    let are : AreStaged c.args.script c.in-Ok.near c.in-Ok.far c.args.script.apex c.deref.result.now = record {
      near_staged = is-staged c.args.script.near c.staged.result c.in-Ok.near c.in-Ok.ensures.0 c.staged.ensures.world c.staged.ensures.asks c.staged.ensures.clients c.staged.ensures.events;
      far_staged = is-staged c.args.script.far c.staged-2.result c.in-Ok.far c.in-Ok.ensures.1 c.staged-2.ensures.world c.staged-2.ensures.asks c.staged-2.ensures.clients c.staged-2.ensures.events;
      apex_is = refl;
      turns_are = c.deref.ensures.value;
    } in
    if-made (λ (p : Played). HasPlayed lines p) (λ (p : Played). string_bytes p.text ≡ whole_text_by by_notices lines) (λ p h. h.text) c.run_staged.result (c.run_staged.ensures c.args.script lines tells are)

pub returns-in-Ok-clause-worlds : goal.returns-in-Ok-clause-worlds
returns-in-Ok-clause-worlds c = λ lines tells.
    let are : AreStaged c.args.script c.in-Ok.near c.in-Ok.far c.args.script.apex c.deref.result.now = record {
      near_staged = is-staged c.args.script.near c.staged.result c.in-Ok.near c.in-Ok.ensures.0 c.staged.ensures.world c.staged.ensures.asks c.staged.ensures.clients c.staged.ensures.events;
      far_staged = is-staged c.args.script.far c.staged-2.result c.in-Ok.far c.in-Ok.ensures.1 c.staged-2.ensures.world c.staged-2.ensures.asks c.staged-2.ensures.clients c.staged-2.ensures.events;
      apex_is = refl;
      turns_are = c.deref.ensures.value;
    } in
    if-made (λ (p : Played). HasPlayed lines p) (λ (p : Played). AreWorlds p.worlds (worlds_after by_notices lines (start_worlds lines))) (λ p h. h.worlds) c.run_staged.result (c.run_staged.ensures c.args.script lines tells are)

pub returns-in-Ok-clause-asks : goal.returns-in-Ok-clause-asks
returns-in-Ok-clause-asks c = λ lines tells.
    let are : AreStaged c.args.script c.in-Ok.near c.in-Ok.far c.args.script.apex c.deref.result.now = record {
      near_staged = is-staged c.args.script.near c.staged.result c.in-Ok.near c.in-Ok.ensures.0 c.staged.ensures.world c.staged.ensures.asks c.staged.ensures.clients c.staged.ensures.events;
      far_staged = is-staged c.args.script.far c.staged-2.result c.in-Ok.far c.in-Ok.ensures.1 c.staged-2.ensures.world c.staged-2.ensures.asks c.staged-2.ensures.clients c.staged-2.ensures.events;
      apex_is = refl;
      turns_are = c.deref.ensures.value;
    } in
    if-made (λ (p : Played). HasPlayed lines p) (λ (p : Played). p.worlds.near.hub.askings ≡ lines_asks (near_lines lines) (start_world (near_lines lines)) (start_askings (near_lines lines))) (λ p h. h.asks) c.run_staged.result (c.run_staged.ensures c.args.script lines tells are)
