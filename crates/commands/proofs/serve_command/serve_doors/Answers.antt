use Rattle.std.proofs.Common.{Bool, length, map, string_bytes, refl, sym, subst}
use Rattle.configurations.specs.declared.server_config.FedLink.{FedLink}
use Rattle.serving.specs.Serving.{Accepts, is_full_run}
use Rattle.commands.proofs.Serving.{accepted_none, hears_through}
use Rattle.commands.proofs.Sharing.{begins_none, begins_one}
use Rattle.commands.specs.Serving.{GivesLinksBack}
use Rattle.commands.proofs.Returning.{links_all, opened_many}
use Rattle.commands.proofs.serve_command.serve_doors.Goals as goal

pub returns-in-Ok-clause-heard : goal.returns-in-Ok-clause-heard
returns-in-Ok-clause-heard g c =
    hears_through (is_full_run c.serve_setup.result) (map (λ (f : FedLink). string_bytes f.address) c.args.feeds.now) (g.O.Outside.told c.args.outside.now) (g.O.Outside.told c.open_links.new.outside) (g.O.Outside.told c.clock-clock.new.self) (g.O.Outside.told c.serve_setup.new.outside)
    c.clock-clock.ensures.told c.serve_setup.ensures.told c.in-Ok.ensures.heard

pub returns-in-Err-clause-accepted : goal.returns-in-Err-clause-accepted
returns-in-Err-clause-accepted g c =
    subst (λ (t : Bool). Accepts t c.args.sessions (g.O.Doors.Doors.accepted c.args.doors.now) (g.O.Doors.Doors.accepted c.args.doors.now)) (sym c.end_of.ensures.less)
    (accepted_none c.args.sessions (g.O.Doors.Doors.accepted c.args.doors.now))

pub returns-in-Ok-clause-shared : goal.returns-in-Ok-clause-shared
returns-in-Ok-clause-shared g c = begins_one (is_full_run c.serve_setup.result) c.args.hub (g.W.Register.hubs c.args.register.now) (g.W.Register.hubs c.serve_setup.new.register) c.serve_setup.ensures.registered

pub returns-in-Err-clause-shared : goal.returns-in-Err-clause-shared
returns-in-Err-clause-shared g c = begins_none (is_full_run c.end_of.result) c.args.hub (g.W.Register.hubs c.args.register.now) (g.W.Register.hubs c.args.register.now) c.end_of.ensures.less refl

pub returns-in-Ok-clause-back : goal.returns-in-Ok-clause-back
returns-in-Ok-clause-back g c =
    links_all (is_full_run c.serve_setup.result) (map (λ (f : FedLink). string_bytes f.address) c.args.feeds.now) (length c.in-Ok.links.items) (g.O.Outside.told c.args.outside.now) (g.O.Outside.told c.open_links.new.outside) (g.O.Outside.told c.clock-clock.new.self) (g.O.Outside.told c.serve_setup.new.outside)
    c.in-Ok.ensures.heard c.in-Ok.ensures.same c.clock-clock.ensures.told c.serve_setup.ensures.told (opened_many c.in-Ok.links.items c.args.feeds.now c.in-Ok.ensures.numbers) c.serve_setup.ensures.back

pub returns-in-Err-clause-back : goal.returns-in-Err-clause-back
returns-in-Err-clause-back g c =
    subst (λ (t : Bool). GivesLinksBack t (map (λ (f : FedLink). string_bytes f.address) c.args.feeds.now) (g.O.Outside.told c.args.outside.now) (g.O.Outside.told c.open_links.new.outside)) (sym c.end_of.ensures.less) c.in-Err.ensures.back
