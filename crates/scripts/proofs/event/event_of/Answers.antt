use Rattle.std.proofs.Common.{sym, subst}
use Rattle.scripts.specs.declared.line.EventLine.{EventLine}
use Rattle.scripts.specs.KeptLines.{words_of}
use Rattle.scripts.specs.Events.{known_clients}
use Rattle.scripts.specs.Drafts.{Numbered}
use Rattle.scripts.proofs.event.event_of.Goals as goal

pub returns-in-Link : goal.returns-in-Link
returns-in-Link c =
    let all = c.args.all.now in
    let links = words_of c.args.links.now in
    let clients = known_clients c.args.clients.now in
    subst (λ (line : EventLine). Numbered all links clients line c.on_link.result) (sym c.in-Link.is) (c.on_link.ensures all clients)

pub returns-in-Call : goal.returns-in-Call
returns-in-Call c =
    let all = c.args.all.now in
    let links = words_of c.args.links.now in
    let clients = known_clients c.args.clients.now in
    subst (λ (line : EventLine). Numbered all links clients line c.call_of.result) (sym c.in-Call.is) (c.call_of.ensures all links)

pub returns-in-Passing : goal.returns-in-Passing
returns-in-Passing c =
    let all = c.args.all.now in
    let links = words_of c.args.links.now in
    let clients = known_clients c.args.clients.now in
    subst (λ (line : EventLine). Numbered all links clients line c.passing_of.result) (sym c.in-Passing.is) (c.passing_of.ensures all links)

pub returns-in-Client : goal.returns-in-Client
returns-in-Client c =
    let all = c.args.all.now in
    let links = words_of c.args.links.now in
    let clients = known_clients c.args.clients.now in
    subst (λ (line : EventLine). Numbered all links clients line c.to_client.result) (sym c.in-Client.is) (c.to_client.ensures all links)

pub returns-in-Session : goal.returns-in-Session
returns-in-Session c =
    let all = c.args.all.now in
    let links = words_of c.args.links.now in
    let clients = known_clients c.args.clients.now in
    subst (λ (line : EventLine). Numbered all links clients line c.to_session.result) (sym c.in-Session.is) (c.to_session.ensures links)
