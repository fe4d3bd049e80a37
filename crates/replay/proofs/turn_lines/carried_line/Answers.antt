use Rattle.std.proofs.Common.{◌≡◌, ◌++◌, ◌∷◌, [], ◌∙◌, ℕ, List, Option, Some, None, ap, codes, decimal, refl, subst}
use Rattle.relay.specs.declared.relay.Relayed.{Relayed}
use Rattle.relay.specs.declared.relay.Relayed.TheVariants.{Apex, Outside, Unfit, Message}
use Rattle.replay.specs.KeptWorlds.{parties_of}
use Rattle.replay.specs.KeptTwoWorlds.{Carries, Relays, UpdatesSo}
use Rattle.replay.proofs.worlds.Doing.{if_each}
use Rattle.replay.proofs.halves.HeldSets.{carries-nothing, carries-unfit, carries-message}
use Rattle.replay.proofs.turn_lines.carried_line.Goals as goal

abbrev line_of : List ℕ → List ℕ → List ℕ → List ℕ
line_of w written what = codes "carry " ++ (w ++ 32 ∷ (written ++ 32 ∷ (what ++ 10 ∷ [])))

pub returns-in-None : goal.returns-in-None
returns-in-None c =
    let worlds = c.args.worlds.now in
    let w = c.args.word.now in
    let q = c.args.question.now in
    let written = c.args.written.now in
    let relays : Relays worlds c.args.client q None = subst (λ (o : Option Relayed). Relays worlds c.args.client q o) c.in-None.is c.in_ok-relayed.ensures in
    if_each (λ (text : List ℕ). text ≡ line_of w written (codes "off")) (λ (text : List ℕ). Carries w q written worlds text worlds) c.carry_text.result
    (λ text is. carries-nothing worlds c.args.client w q written c.requires.at None (codes "off") text relays refl is) c.carry_text.ensures

pub returns-in-Some-Apex : goal.returns-in-Some-Apex
returns-in-Some-Apex c =
    let worlds = c.args.worlds.now in
    let w = c.args.word.now in
    let q = c.args.question.now in
    let written = c.args.written.now in
    let relays : Relays worlds c.args.client q (Some Apex) = subst (λ (o : Option Relayed). Relays worlds c.args.client q o) (c.in-Some-Apex.is ∙ ap (λ (r : Relayed). Some r) c.in-Some-Apex.field-0-is) c.in_ok-relayed.ensures in
    if_each (λ (text : List ℕ). text ≡ line_of w written (codes "apex")) (λ (text : List ℕ). Carries w q written worlds text worlds) c.carry_text-in-Some-Apex.result
    (λ text is. carries-nothing worlds c.args.client w q written c.requires.at (Some Apex) (codes "apex") text relays refl is) c.carry_text-in-Some-Apex.ensures

pub returns-in-Some-Outside : goal.returns-in-Some-Outside
returns-in-Some-Outside c =
    let worlds = c.args.worlds.now in
    let w = c.args.word.now in
    let q = c.args.question.now in
    let written = c.args.written.now in
    let relays : Relays worlds c.args.client q (Some Outside) = subst (λ (o : Option Relayed). Relays worlds c.args.client q o) (c.in-Some-Outside.is ∙ ap (λ (r : Relayed). Some r) c.in-Some-Outside.field-0-is) c.in_ok-relayed.ensures in
    if_each (λ (text : List ℕ). text ≡ line_of w written (codes "outside")) (λ (text : List ℕ). Carries w q written worlds text worlds) c.carry_text-in-Some-Outside.result
    (λ text is. carries-nothing worlds c.args.client w q written c.requires.at (Some Outside) (codes "outside") text relays refl is) c.carry_text-in-Some-Outside.ensures

pub returns-in-Some-Unfit : goal.returns-in-Some-Unfit
returns-in-Some-Unfit c =
    let worlds = c.args.worlds.now in
    let w = c.args.word.now in
    let q = c.args.question.now in
    let written = c.args.written.now in
    let kind = c.in-Some-Unfit.kind in
    let relays : Relays worlds c.args.client q (Some (Unfit kind)) = subst (λ (o : Option Relayed). Relays worlds c.args.client q o) (c.in-Some-Unfit.is ∙ ap (λ (r : Relayed). Some r) c.in-Some-Unfit.field-0-is) c.in_ok-relayed.ensures in
    if_each (λ (text : List ℕ). text ≡ codes "carry " ++ (w ++ 32 ∷ (written ++ (codes " unfit " ++ (decimal kind ++ 10 ∷ []))))) (λ (text : List ℕ). Carries w q written worlds text worlds) c.unfit_text.result
    (λ text is. carries-unfit worlds c.args.client w q written c.requires.at kind text relays is) c.unfit_text.ensures

pub returns-in_ok-code-in-Some-Message : goal.returns-in_ok-code-in-Some-Message
returns-in_ok-code-in-Some-Message c =
    let worlds = c.args.worlds.now in
    let w = c.args.word.now in
    let q = c.args.question.now in
    let written = c.args.written.now in
    let octets = c.in-Some-Message.message in
    let code = c.in_ok-code-in-Some-Message.code in
    let later = c.update_code.new.world in
    let relays : Relays worlds c.args.client q (Some (Message octets)) = subst (λ (o : Option Relayed). Relays worlds c.args.client q o) (c.in-Some-Message.is ∙ ap (λ (r : Relayed). Some r) c.in-Some-Message.field-0-is) c.in_ok-relayed.ensures in
    let updates : UpdatesSo octets worlds.far.hub (parties_of worlds.far) code later.hub (parties_of later) =
    subst (λ (o : List ℕ). UpdatesSo o worlds.far.hub (parties_of worlds.far) code later.hub (parties_of later)) c.as_slice.ensures c.in_ok-code-in-Some-Message.ensures in
    if_each (λ (text : List ℕ). text ≡ line_of w written (decimal code)) (λ (text : List ℕ). Carries w q written worlds text (record worlds { far = later })) c.carried_text.result
    (λ text is. carries-message worlds c.args.client w q written c.requires.at octets (record worlds { far = later }) code text relays updates is refl refl refl) c.carried_text.ensures
