use Rattle.std.proofs.Common.{◌≡◌, ◌-◌, ◌+◌, ℕ, List, [], ◌∷◌, ◌++◌, inl, inr, map, drop, vec_len, ap, ◌∙◌, subst}
use Rattle.std.proofs.lemmas.List.{map-append}
use Rattle.std.proofs.lemmas.Result.{err_from_is_err_and}
use Rattle.push_base.specs.declared.role.Role.TheVariants as roles
use Rattle.hubloops.specs.Jobs.{role_in}
use Rattle.serving.specs.declared.setup.Fed.{Fed}
use Rattle.serving.specs.Servers.{ServerState}
use Rattle.serving.specs.Serving.{numbers_of}
use Rattle.serving.proofs.Handing.{front_none, front_as, tells_as}
use Rattle.serving.proofs.Opening.{first_done, first_fault}
use Rattle.serving.proofs.server.Server.start_link.Goals as goal

pub returns-in_err-shared-clause-started : goal.returns-in_err-shared-clause-started
returns-in_err-shared-clause-started g c =
    let p = err_from_is_err_and c.from_residual.result c.from_residual.ensures.1 in
    let is : numbers_of c.args.links.now.items ≡ c.first_link-link.result ∷ numbers_of (drop 1 c.args.links.now.items) =
    subst (λ (s : List (Fed g.row.O-Links.Denot)). numbers_of s ≡ c.first_link-link.result ∷ numbers_of (drop 1 s)) c.as_slice.ensures.value c.first_link-link.ensures in
    first_fault (numbers_of c.args.links.now.items) c.first_link-link.result (numbers_of (drop 1 c.args.links.now.items)) (numbers_of c.args.links.now.items) (g.O.Starter.Starter.started c.args.starter.now) (g.O.Starter.Starter.started c.args.starter.now) c.args.self.now c.hold.new.self c.from_residual.result p.0 p.1 is (inr is)
    (front_none ((roles.Link c.first_link-link.result, c.args.self.now.turns) ∷ []) (g.O.Starter.Starter.started c.args.starter.now))
    c.hold.ensures.links

pub returns-in_err-reserve-clause-started : goal.returns-in_err-reserve-clause-started
returns-in_err-reserve-clause-started g c =
    let p = err_from_is_err_and c.from_residual-in_err-reserve.result c.from_residual-in_err-reserve.ensures.1 in
    let is : numbers_of c.args.links.now.items ≡ c.first_link-link.result ∷ numbers_of (drop 1 c.args.links.now.items) =
    subst (λ (s : List (Fed g.row.O-Links.Denot)). numbers_of s ≡ c.first_link-link.result ∷ numbers_of (drop 1 s)) c.as_slice.ensures.value c.first_link-link.ensures in
    let kept : map (λ h. h.link) c.reserve.new.self.items ≡ c.args.self.now.links =
    ap (λ hs. map (λ h. h.link) hs) c.reserve.ensures.items ∙ (ap (λ (s : ServerState). s.links) c.self.view_is ∙ ap (λ (s : ServerState). s.links) c.in_ok-shared.ensures.state) in
    first_fault (numbers_of c.args.links.now.items) c.first_link-link.result (numbers_of (drop 1 c.args.links.now.items)) (numbers_of c.args.links.now.items) (g.O.Starter.Starter.started c.args.starter.now) (g.O.Starter.Starter.started c.args.starter.now) c.args.self.now (record { parts = c.self.inside.feed.parts.changes - vec_len c.self.inside.ends; made = c.self.inside.seats.made; links = map (λ h. h.link) c.reserve.new.self.items; jobs = vec_len c.self.inside.jobs + vec_len c.self.inside.ends; turns = c.self.inside.turns }) c.from_residual-in_err-reserve.result p.0 p.1 is (inr is)
    (front_none ((roles.Link c.first_link-link.result, c.args.self.now.turns) ∷ []) (g.O.Starter.Starter.started c.args.starter.now))
    kept

pub returns-in_err-job-clause-started : goal.returns-in_err-job-clause-started
returns-in_err-job-clause-started g c =
    let p = err_from_is_err_and c.from_residual-in_err-job.result c.from_residual-in_err-job.ensures.1 in
    let is : numbers_of c.args.links.now.items ≡ c.first_link-link.result ∷ numbers_of (drop 1 c.args.links.now.items) =
    subst (λ (s : List (Fed g.row.O-Links.Denot)). numbers_of s ≡ c.first_link-link.result ∷ numbers_of (drop 1 s)) c.as_slice.ensures.value c.first_link-link.ensures in
    let kept : map (λ h. h.link) c.reserve.new.self.items ≡ c.args.self.now.links =
    ap (λ hs. map (λ h. h.link) hs) c.reserve.ensures.items ∙ (ap (λ (s : ServerState). s.links) c.self.view_is ∙ ap (λ (s : ServerState). s.links) c.in_ok-shared.ensures.state) in
    let turns : c.self.inside.turns ≡ c.args.self.now.turns = ap (λ (s : ServerState). s.turns) c.self.view_is ∙ ap (λ (s : ServerState). s.turns) c.in_ok-shared.ensures.state in
    first_fault (numbers_of c.args.links.now.items) c.first_link-link.result (numbers_of (drop 1 c.args.links.now.items)) (numbers_of c.remove-datagrams.new.self.items) (g.O.Starter.Starter.started c.args.starter.now) (g.O.Starter.Starter.started c.hand.new.starter) c.args.self.now (record { parts = c.self.inside.feed.parts.changes - vec_len c.self.inside.ends; made = c.self.inside.seats.made; links = map (λ h. h.link) c.reserve.new.self.items; jobs = vec_len c.self.inside.jobs + vec_len c.self.inside.ends; turns = c.self.inside.turns }) c.from_residual-in_err-job.result p.0 p.1 is
    (inl (ap (λ (s : List (Fed g.row.O-Links.Denot)). numbers_of s) c.remove-datagrams.ensures.items))
    (front_as (g.O.Starter.Starter.started c.args.starter.now) (g.O.Starter.Starter.started c.hand.new.starter) (role_in c.new-job.result.job.work) (roles.Link c.first_link-link.result) c.new-job.result.job.turns c.args.self.now.turns c.new-job.ensures.0 (c.new-job.ensures.1 ∙ turns) c.in_err-job.ensures.started)
    kept

pub returns-clause-started : goal.returns-clause-started
returns-clause-started g c =
    let link : ℕ = c.first_link-link.result in
    let is : numbers_of c.args.links.now.items ≡ link ∷ numbers_of (drop 1 c.args.links.now.items) =
    subst (λ (s : List (Fed g.row.O-Links.Denot)). numbers_of s ≡ link ∷ numbers_of (drop 1 s)) c.as_slice.ensures.value c.first_link-link.ensures in
    let turns : c.self.inside.turns ≡ c.args.self.now.turns = ap (λ (s : ServerState). s.turns) c.self.view_is ∙ ap (λ (s : ServerState). s.turns) c.in_ok-shared.ensures.state in
    let linked : map (λ h. h.link) c.push_reserved.new.self.items ≡ map (λ h. h.link) c.self.inside.hearings.items ++ link ∷ [] =
    rw (c.push_reserved.ensures.items, c.reserve.ensures.items) (map-append (λ h. h.link) c.self.inside.hearings.items _) in
    let led : ServerState → ServerState = λ s. record s { links = s.links ++ link ∷ [] } in
    first_done _ (numbers_of c.args.links.now.items) link (numbers_of (drop 1 c.args.links.now.items)) (numbers_of c.remove-datagrams.new.self.items) (g.O.Starter.Starter.started c.args.starter.now) (g.O.Starter.Starter.started c.hand.new.starter) c.args.self.now (record { parts = c.self.inside.feed.parts.changes - vec_len c.self.inside.ends; made = c.self.inside.seats.made; links = map (λ h. h.link) c.push_reserved.new.self.items; jobs = vec_len c.self.inside.jobs + vec_len c.self.inside.ends; turns = c.self.inside.turns }) is (ap (λ (s : List (Fed g.row.O-Links.Denot)). numbers_of s) c.remove-datagrams.ensures.items)
    (tells_as (g.O.Starter.Starter.started c.args.starter.now) (g.O.Starter.Starter.started c.hand.new.starter) (role_in c.new-job.result.job.work) (roles.Link link) c.new-job.result.job.turns c.args.self.now.turns c.new-job.ensures.0 (c.new-job.ensures.1 ∙ turns) c.in_ok-job.ensures.started)
    (ap (λ (ls : List ℕ). record { parts = c.self.inside.feed.parts.changes - vec_len c.self.inside.ends; made = c.self.inside.seats.made; links = ls; jobs = vec_len c.self.inside.jobs + vec_len c.self.inside.ends; turns = c.self.inside.turns }) linked
    ∙ (ap led c.self.view_is ∙ ap led c.in_ok-shared.ensures.state))
    c.in_ok-shared.ensures.enough
