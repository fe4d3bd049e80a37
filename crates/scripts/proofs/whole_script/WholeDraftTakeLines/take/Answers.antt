use Rattle.std.proofs.Common.{Option, sym, ap, ◌∙◌}
use Rattle.std.specs.Prelude.{option_map}
use Rattle.scripts.specs.WholeLines.{WholeLine as Plain}
use Rattle.scripts.specs.KeptWhole.{whole_said}
use Rattle.scripts.specs.declared.whole_line.WholeLine.{WholeLine}
use Rattle.scripts.proofs.wholes.Taken.{read, unread}
use Rattle.scripts.proofs.whole_script.WholeDraftTakeLines.take.Goals as goal

pub returns-in_default : goal.returns-in_default
returns-in_default c so_far held = unread so_far c.args.text.now (ap (λ (o : Option WholeLine). option_map {T = WholeLine} {U = Plain} (λ l. whole_said l) o) (sym c.in_default.is) ∙ c.in_ok-line.ensures.exact)

pub returns : goal.returns
returns c =
    let is = ap (λ (o : Option WholeLine). option_map {T = WholeLine} {U = Plain} (λ l. whole_said l) o) (sym c.in-Some.is) ∙ c.in_ok-line.ensures.exact in
    read c.args.self.now c.take_whole.new.self c.args.text.now (whole_said c.in-Some.line) c.take_whole.result is c.take_whole.ensures
