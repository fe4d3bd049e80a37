use Rattle.std.proofs.Common.{List, sym, ap, ◌∙◌}
use Rattle.std.specs.Prelude.{option_map, slice_get}
use Rattle.scripts.specs.declared.clients.KnownClient.{KnownClient}
use Rattle.scripts.proofs.lines.PlacesKept.{lone_nowhere, lone_there}
use Rattle.scripts.proofs.client_list.Clients.lone.Goals as goal

pub returns-in-Some : goal.returns-in-Some
returns-in-Some c =
    c.lone_at.ensures
    ∙ ap (λ (clients : List KnownClient). option_map (λ (k : KnownClient). k.is_lone) (slice_get clients c.in-Some.place)) (c.deref.ensures.value ∙ c.self.view_is)
    ∙ lone_there c.args.self.now c.args.word.now c.in-Some.place (sym c.place.ensures ∙ c.in-Some.is)

pub returns-in-None : goal.returns-in-None
returns-in-None c = lone_nowhere c.args.self.now c.args.word.now (sym c.place.ensures ∙ c.in-None.is)
