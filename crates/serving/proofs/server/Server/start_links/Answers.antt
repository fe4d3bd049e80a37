use Rattle.std.proofs.Common.{◌≡◌, ◌+◌, length, vec_len, ap, arith}
use Rattle.std.proofs.lemmas.Result.{err_from_is_err_and}
use Rattle.serving.specs.declared.setup.Fed.{Fed}
use Rattle.serving.specs.Jobs.{link_jobs}
use Rattle.serving.specs.Servers.{ServerState}
use Rattle.serving.specs.Serving.{numbers_of}
use Rattle.serving.proofs.Finishing.{none_mapped}
use Rattle.serving.proofs.Handing.{over_err}
use Rattle.serving.proofs.Opening.{links_all, links_back, links_begun, links_count, links_count_err, links_ended, links_fault, links_more, over_tested, returns_err}
use Rattle.serving.proofs.server.Server.start_links.Goals as goal

pub links-init : goal.links-init
links-init g c =
    let empty : length c.args.self.now.links ≡ 0 = ap (λ (s : ServerState). length s.links) c.requires.new in
    record {
      so_far = links_begun c.args.self.now.turns (numbers_of c.args.links.now.items) (g.O.Starter.Starter.started c.args.starter.now) c.args.self.now c.requires.new;
      count = omega (arith, empty);
      room = omega (arith, c.args.links.now.ok);
      later = omega arith;
    }

pub links-preserved : goal.links-preserved
links-preserved g c =
    let more : length c.start_link.new.self.links ≡ length c.links.self.links + 1 =
    links_count _ _ (numbers_of c.links.links.items) (numbers_of c.start_link.new.links.items) (g.O.Starter.Starter.started c.links.starter) (g.O.Starter.Starter.started c.start_link.new.starter) c.links.self c.start_link.new.self _ c.in_ok-start_link.ensures.started in
    record {
      so_far = links_more _ _ c.args.self.now.turns (numbers_of c.args.links.now.items) (numbers_of c.links.links.items) (numbers_of c.start_link.new.links.items)
          (g.O.Starter.Starter.started c.args.starter.now) (g.O.Starter.Starter.started c.links.starter) (g.O.Starter.Starter.started c.start_link.new.starter) c.links.self c.start_link.new.self _
          c.links.invariant.so_far c.in_ok-start_link.ensures.started;
      count = omega (arith, more, c.in_ok-start_link.ensures.len, c.links.invariant.count);
      room = omega (arith, c.start_link.ensures.room, c.links.invariant.room);
      later = omega (arith, c.start_link.ensures.later, c.links.invariant.later);
    }

pub returns-in_err-start_link-clause-started : goal.returns-in_err-start_link-clause-started
returns-in_err-start_link-clause-started g c =
    let p = err_from_is_err_and c.from_residual.result c.from_residual.ensures.1 in
    over_err (link_jobs c.args.self.now.turns (numbers_of c.args.links.now.items)) (g.O.Starter.Starter.started c.args.starter.now) (g.O.Starter.Starter.started c.start_link.new.starter) c.from_residual.result p.0 p.1
    (links_fault _ _ c.args.self.now.turns (numbers_of c.args.links.now.items) (numbers_of c.links.links.items) (numbers_of c.start_link.new.links.items)
    (g.O.Starter.Starter.started c.args.starter.now) (g.O.Starter.Starter.started c.links.starter) (g.O.Starter.Starter.started c.start_link.new.starter) c.links.self c.start_link.new.self _ c.links.invariant.so_far c.in_err-start_link.ensures.started)

pub returns-in_err-start_link-clause-links : goal.returns-in_err-start_link-clause-links
returns-in_err-start_link-clause-links g c =
    let p = err_from_is_err_and c.from_residual.result c.from_residual.ensures.1 in
    returns_err (numbers_of c.args.links.now.items) _ c.from_residual.result p.0 p.1
    (links_back _ _ c.args.self.now.turns (numbers_of c.args.links.now.items) (numbers_of c.links.links.items) (numbers_of c.start_link.new.links.items)
    (g.O.Starter.Starter.started c.args.starter.now) (g.O.Starter.Starter.started c.links.starter) (g.O.Starter.Starter.started c.start_link.new.starter) c.links.self c.start_link.new.self _ c.links.invariant.so_far c.in_err-start_link.ensures.started)

pub returns-in_err-start_link-clause-room : goal.returns-in_err-start_link-clause-room
returns-in_err-start_link-clause-room g c =
    let same : length c.start_link.new.self.links ≡ length c.links.self.links =
    links_count_err _ _ (numbers_of c.links.links.items) (numbers_of c.start_link.new.links.items) (g.O.Starter.Starter.started c.links.starter) (g.O.Starter.Starter.started c.start_link.new.starter) c.links.self c.start_link.new.self _ c.in_err-start_link.ensures.started in
    omega (arith, same, c.start_link.ensures.fewer, c.start_link.ensures.room, c.links.invariant.count, c.links.invariant.room)

pub returns-clause-started : goal.returns-clause-started
returns-clause-started g c =
    let none : length c.links.links.items ≡ 0 = over_tested (vec_len c.links.links) (length c.links.links.items) c.links.links.ok.0 c.links-test.ensures in
    links_ended c.args.self.now.turns (numbers_of c.args.links.now.items) (numbers_of c.links.links.items) (g.O.Starter.Starter.started c.args.starter.now) (g.O.Starter.Starter.started c.links.starter) c.links.self c.links.invariant.so_far
    (none_mapped (λ (f : Fed g.row.O-Links.Denot). f.link) c.links.links.items none)

pub returns-clause-all : goal.returns-clause-all
returns-clause-all g c =
    let none : length c.links.links.items ≡ 0 = over_tested (vec_len c.links.links) (length c.links.links.items) c.links.links.ok.0 c.links-test.ensures in
    links_all c.args.self.now.turns (numbers_of c.args.links.now.items) (numbers_of c.links.links.items) (g.O.Starter.Starter.started c.args.starter.now) (g.O.Starter.Starter.started c.links.starter) c.links.self c.links.invariant.so_far
    (none_mapped (λ (f : Fed g.row.O-Links.Denot). f.link) c.links.links.items none)
