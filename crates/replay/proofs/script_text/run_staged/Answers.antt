use Rattle.std.proofs.Common.{◌≡◌, [], ap, refl, ◌∙◌}
use Rattle.scripts.specs.declared.whole_script.WholeScript.{WholeScript}
use Rattle.replay.specs.KeptTurns.{left_of}
use Rattle.replay.specs.KeptStages.{AreStaged}
use Rattle.replay.proofs.halves.Starting.{plays-begin, text-played}
use Rattle.replay.proofs.script_text.run_staged.Goals as goal

pub turns_text-text-requires : goal.turns_text-text-requires
turns_text-text-requires c =
    let staged = c.requires.3 in (
      c.requires.0,
      c.requires.1,
      c.requires.2,
      plays-begin c.requires.0 _ _ c.args.turns.now []
          (λ i. record {
            near_clients = (c.deref.ensures.value ∙ ap (λ v. v.items) staged.near_staged.clients) i;
            near = (c.deref-2.ensures.value ∙ ap (λ v. v.items) staged.near_staged.events) i;
            far_clients = (c.deref-3.ensures.value ∙ ap (λ v. v.items) staged.far_staged.clients) i;
            far = (c.deref-4.ensures.value ∙ ap (λ v. v.items) staged.far_staged.events) i;
          })
          staged.turns_are refl staged.near_staged.world staged.far_staged.world staged.near_staged.asks staged.far_staged.asks staged.apex_is c.new.ensures.items,
    )

pub returns : goal.returns
returns c = λ script lines tells staged.
    text-played script _ _ c.turns_text-text.result c.with_text.result
    (c.turns_text-text.ensures script
    (plays-begin script _ _ c.args.turns.now []
    (λ i. record {
      near_clients = (c.deref.ensures.value ∙ ap (λ v. v.items) staged.near_staged.clients) i;
      near = (c.deref-2.ensures.value ∙ ap (λ v. v.items) staged.near_staged.events) i;
      far_clients = (c.deref-3.ensures.value ∙ ap (λ v. v.items) staged.far_staged.clients) i;
      far = (c.deref-4.ensures.value ∙ ap (λ v. v.items) staged.far_staged.events) i;
    })
    staged.turns_are refl staged.near_staged.world staged.far_staged.world staged.near_staged.asks staged.far_staged.asks staged.apex_is c.new.ensures.items))
    c.with_text.ensures lines tells
