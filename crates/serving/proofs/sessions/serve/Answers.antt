use Rattle.std.proofs.Common.{◌≡◌, ◌⊎◌, ℕ, ◌+◌, Bool, inl, List, length, sym, ap, subst}
use Rattle.std.specs.Prelude.{IsErrOf, OnOk, is_ok}
use Rattle.push_base.specs.Causes.{Rose}
use Rattle.serving.specs.declared.serve_end.Fault.TheVariants as faults
use Rattle.serving.specs.Jobs.{jobs_of}
use Rattle.serving.specs.Servers.{ServerState}
use Rattle.serving.specs.Serving.{Accepts, Returns, Starts, StartsAll, numbers_of}
use Rattle.serving.proofs.Finishing.{by_end, counts_from, ends_map, finishes, goes_on_by}
use Rattle.serving.proofs.Handing.{front_none, starts_less}
use Rattle.serving.proofs.Opening.{accepts_less, accepts_not}
use Rattle.serving.proofs.sessions.serve.Goals as goal

pub returns-in-Err-clause-started : goal.returns-in-Err-clause-started
returns-in-Err-clause-started g c = front_none (jobs_of c.args.setup.turns (numbers_of c.args.setup.links.items) c.args.setup.sessions) (g.O.Starter.Starter.started c.args.starter.now)

pub returns-clause-started : goal.returns-clause-started
returns-clause-started g c =
    let turns : c.new-server.result.turns ≡ c.args.setup.turns = ap (λ (s : ServerState). s.turns) c.new-server.ensures in
    by_end (λ (t : Bool). Starts t c.args.setup.turns (numbers_of c.args.setup.links.items) c.args.setup.sessions (g.O.Starter.Starter.started c.args.starter.now) (g.O.Starter.Starter.started c.open-opened.new.starter))
    (starts_less c.args.setup.turns (numbers_of c.args.setup.links.items) c.args.setup.sessions (g.O.Starter.Starter.started c.args.starter.now) (g.O.Starter.Starter.started c.open-opened.new.starter))
    c.open-opened.result c.close.result.end c.close.ensures.end
    (subst (λ (n : ℕ). Starts (is_ok c.open-opened.result) n (numbers_of c.args.setup.links.items) c.args.setup.sessions (g.O.Starter.Starter.started c.args.starter.now) (g.O.Starter.Starter.started c.open-opened.new.starter)) turns c.open-opened.ensures.started)

pub returns-clause-accepted : goal.returns-clause-accepted
returns-clause-accepted g c =
    by_end (λ (t : Bool). Accepts t c.args.setup.sessions (g.O.Doors.Doors.accepted c.args.doors.now) (g.O.Doors.Doors.accepted c.open-opened.new.doors))
    (accepts_less c.args.setup.sessions (g.O.Doors.Doors.accepted c.args.doors.now) (g.O.Doors.Doors.accepted c.open-opened.new.doors))
    c.open-opened.result c.close.result.end c.close.ensures.end c.open-opened.ensures.accepted

pub returns-clause-goes_on : goal.returns-clause-goes_on
returns-clause-goes_on g c =
    let turns : c.new-server.result.turns ≡ c.args.setup.turns = ap (λ (s : ServerState). s.turns) c.new-server.ensures in
    goes_on_by (λ (t : Bool). Starts t c.args.setup.turns (numbers_of c.args.setup.links.items) c.args.setup.sessions (g.O.Starter.Starter.started c.args.starter.now) (g.O.Starter.Starter.started c.open-opened.new.starter)
    × Accepts t c.args.setup.sessions (g.O.Doors.Doors.accepted c.args.doors.now) (g.O.Doors.Doors.accepted c.open-opened.new.doors))
    _ c.open-opened.result c.close.result.end c.close.ensures.end c.open-opened.ensures.cause (
      subst (λ (n : ℕ). Starts (is_ok c.open-opened.result) n (numbers_of c.args.setup.links.items) c.args.setup.sessions (g.O.Starter.Starter.started c.args.starter.now) (g.O.Starter.Starter.started c.open-opened.new.starter)) turns c.open-opened.ensures.started,
      c.open-opened.ensures.accepted,
    )

pub returns-clause-outside : goal.returns-clause-outside
returns-clause-outside g c = λ is. counts_from c.open-opened.ensures.cause (c.close.ensures.outside is)

pub returns-clause-links : goal.returns-clause-links
returns-clause-links g c =
    by_end (λ (t : Bool). Returns t (numbers_of c.args.setup.links.items) (numbers_of c.close.result.links.items)) (λ is. inl is)
    c.open-opened.result c.close.result.end c.close.ensures.end
    (subst (λ (ns : List ℕ). Returns (is_ok c.open-opened.result) (numbers_of c.args.setup.links.items) ns) (sym c.close.ensures.links) c.open-opened.ensures.links)

pub returns-in-Err-clause-accepted : goal.returns-in-Err-clause-accepted
returns-in-Err-clause-accepted g c = accepts_not c.args.setup.sessions (g.O.Doors.Doors.accepted c.args.doors.now)

pub returns-clause-ended : goal.returns-clause-ended
returns-clause-ended g c =
    ends_map c.close.result.end c.close.result.ends.items (IsErrOf c.open-opened.result faults.Outside)
    (Rose (g.O.Starter.Starter.faults c.args.starter.now) (g.O.Starter.Starter.faults c.open-opened.new.starter) ⊎ Rose (g.O.Doors.Doors.faults c.args.doors.now) (g.O.Doors.Doors.faults c.open-opened.new.doors))
    c.open-opened.ensures.cause c.close.ensures.ended

pub returns-clause-finished : goal.returns-clause-finished
returns-clause-finished g c =
    let turns : c.new-server.result.turns ≡ c.args.setup.turns = ap (λ (s : ServerState). s.turns) c.new-server.ensures in
    finishes c.open-opened.result c.close.result.end c.args.setup.turns (numbers_of c.args.setup.links.items) c.args.setup.sessions (g.O.Starter.Starter.started c.args.starter.now) (g.O.Starter.Starter.started c.open-opened.new.starter)
    (length c.close.result.ends.items) (length c.open-opened.new.self.links + c.open-opened.new.self.jobs) c.close.ensures.end c.close.ensures.finished
    (subst (λ (n : ℕ). OnOk c.open-opened.result (StartsAll n (numbers_of c.args.setup.links.items) c.args.setup.sessions (g.O.Starter.Starter.started c.args.starter.now) (g.O.Starter.Starter.started c.open-opened.new.starter) (length c.open-opened.new.self.links + c.open-opened.new.self.jobs)))
    turns c.open-opened.ensures.all)
