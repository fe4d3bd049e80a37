use Rattle.std.proofs.Common.{◌≡◌, ℕ, ◌+◌, ◌-◌, Bool, List, length, map, vec_len, true, sym, ap, ◌∙◌, subst, arith}
use Rattle.std.specs.Prelude.{OnOk, IsErrOf, false}
use Rattle.std.specs.declared.option.Option.{Option}
use Rattle.std.specs.List.{list_any}
use Rattle.std.proofs.lemmas.List.{length-map}
use Rattle.hublock.specs.Feeds.{each, parts_each}
use Rattle.hubloops.specs.declared.loop_end.LoopEnd.{LoopEnd}
use Rattle.serving.specs.declared.serve_end.Cause.{Cause}
use Rattle.serving.specs.declared.serve_end.Fault.TheVariants as faults
use Rattle.serving.specs.declared.serve_end.ServeEnd.{ServeEnd}
use Rattle.serving.specs.Ends.{CountsEnds, EndsAs, EndsFor, IsRegistered, cause_of, end_for, is_link_fault}
use Rattle.serving.specs.Servers.{IsWhole, ServerState}
use Rattle.serving.specs.Serving.{has_fault}
use Rattle.serving.proofs.Finishing.{all_joined, count_behind, counts_as, counts_ends, ends_as, ends_for, failed_behind, on_opened, outside_of, well_opened, whole_of, whole_over}
use Rattle.serving.proofs.closing.close.Goals as goal

pub end_of-end-requires : goal.end_of-end-requires
end_of-end-requires g c = λ none.
    let whole : OnOk c.args.opened (c.finish_jobs-feed.result.parts ≡ each parts_each) =
    on_opened c.args.opened (IsWhole c.args.server) (c.finish_jobs-feed.result.parts ≡ each parts_each)
    (λ started. all_joined c.server.inside.feed.parts c.finish_links-feed.result.parts c.finish_jobs-feed.result.parts c.server.inside.feed.parts.changes (vec_len c.server.inside.hearings) (vec_len c.server.inside.jobs)
    c.server.invariant.0 c.finish_links-feed.ensures.parts c.finish_jobs-feed.ensures.parts
    (whole_over c.server.inside.feed.parts.changes (vec_len c.server.inside.ends) (vec_len c.server.inside.hearings) (vec_len c.server.inside.jobs) parts_each (omega (arith, c.server.invariant.2))
    (whole_of (λ h. h.link) c.server.inside.hearings.items (c.server.inside.feed.parts.changes - vec_len c.server.inside.ends) (vec_len c.server.inside.jobs + vec_len c.server.inside.ends) (vec_len c.server.inside.hearings) c.server.inside.hearings.ok.0 (subst (λ (s : ServerState). IsWhole s) (sym c.server.view_is) started))))
    c.requires.whole in
    well_opened c.args.opened c.finish_jobs-feed.new.noted.starved c.as_slice-loops.result.now (c.finish_jobs-feed.result.parts ≡ each parts_each) whole (sym c.cause_of-cause.ensures ∙ none)

pub returns-clause-end : goal.returns-clause-end
returns-clause-end g c =
    let is : c.end_of-end.result ≡ end_for (cause_of c.args.opened c.finish_jobs-feed.new.noted.starved c.as_slice-loops.result.now) c.finish_jobs-feed.result.sums =
    c.end_of-end.ensures.end ∙ ap (λ (k : Option Cause). end_for k c.finish_jobs-feed.result.sums) c.cause_of-cause.ensures in
    subst (λ (e : ServeEnd). EndsAs c.args.opened e) (sym is) (ends_as c.args.opened c.finish_jobs-feed.new.noted.starved c.as_slice-loops.result.now c.finish_jobs-feed.result.sums)

pub returns-clause-counts : goal.returns-clause-counts
returns-clause-counts g c =
    let is : c.end_of-end.result ≡ end_for (cause_of c.args.opened c.finish_jobs-feed.new.noted.starved c.as_slice-loops.result.now) c.finish_jobs-feed.result.sums =
    c.end_of-end.ensures.end ∙ ap (λ (k : Option Cause). end_for k c.finish_jobs-feed.result.sums) c.cause_of-cause.ensures in
    let whole : OnOk c.args.opened (c.finish_jobs-feed.result.parts ≡ each parts_each) =
    on_opened c.args.opened (IsWhole c.args.server) (c.finish_jobs-feed.result.parts ≡ each parts_each)
    (λ started. all_joined c.server.inside.feed.parts c.finish_links-feed.result.parts c.finish_jobs-feed.result.parts c.server.inside.feed.parts.changes (vec_len c.server.inside.hearings) (vec_len c.server.inside.jobs)
    c.server.invariant.0 c.finish_links-feed.ensures.parts c.finish_jobs-feed.ensures.parts
    (whole_over c.server.inside.feed.parts.changes (vec_len c.server.inside.ends) (vec_len c.server.inside.hearings) (vec_len c.server.inside.jobs) parts_each (omega (arith, c.server.invariant.2))
    (whole_of (λ h. h.link) c.server.inside.hearings.items (c.server.inside.feed.parts.changes - vec_len c.server.inside.ends) (vec_len c.server.inside.jobs + vec_len c.server.inside.ends) (vec_len c.server.inside.hearings) c.server.inside.hearings.ok.0 (subst (λ (s : ServerState). IsWhole s) (sym c.server.view_is) started))))
    c.requires.whole in
    counts_as c.args.opened c.finish_jobs-feed.new.noted.starved c.as_slice-loops.result.now (each parts_each) c.finish_jobs-feed.result c.end_of-end.new.feed c.end_of-end.result c.end_of-end.ensures.same is whole

pub returns-clause-ended : goal.returns-clause-ended
returns-clause-ended g c =
    let is : c.end_of-end.result ≡ end_for (cause_of c.args.opened c.finish_jobs-feed.new.noted.starved c.as_slice-loops.result.now) c.finish_jobs-feed.result.sums =
    c.end_of-end.ensures.end ∙ ap (λ (k : Option Cause). end_for k c.finish_jobs-feed.result.sums) c.cause_of-cause.ensures in
    subst (λ (told : List LoopEnd). EndsFor c.end_of-end.result told (IsErrOf c.args.opened faults.Outside)) c.as_slice-loops.ensures.value
    (subst (λ (e : ServeEnd). EndsFor e c.as_slice-loops.result.now (IsErrOf c.args.opened faults.Outside)) (sym is)
    (ends_for c.args.opened c.finish_jobs-feed.new.noted.starved c.as_slice-loops.result.now c.finish_jobs-feed.result.sums))

pub returns-clause-finished : goal.returns-clause-finished
returns-clause-finished g c =
    let is : c.end_of-end.result ≡ end_for (cause_of c.args.opened c.finish_jobs-feed.new.noted.starved c.as_slice-loops.result.now) c.finish_jobs-feed.result.sums =
    c.end_of-end.ensures.end ∙ ap (λ (k : Option Cause). end_for k c.finish_jobs-feed.result.sums) c.cause_of-cause.ensures in
    let linked : length c.args.server.links ≡ vec_len c.server.inside.hearings =
    ap (λ (s : ServerState). length s.links) (sym c.server.view_is) ∙ (length-map c.server.inside.hearings.items (λ h. h.link) ∙ sym c.server.inside.hearings.ok.0) in
    let others : c.args.server.jobs ≡ vec_len c.server.inside.jobs + vec_len c.server.inside.ends = ap (λ (s : ServerState). s.jobs) (sym c.server.view_is) in
    subst (λ (e : ServeEnd). CountsEnds e (length c.finish_jobs-feed.new.noted.ends.items) (length c.args.server.links + c.args.server.jobs)) (sym is)
    (counts_ends c.args.opened c.finish_jobs-feed.new.noted.starved c.as_slice-loops.result.now c.finish_jobs-feed.result.sums (length c.finish_jobs-feed.new.noted.ends.items) (length c.args.server.links + c.args.server.jobs)
    (λ fresh.
    let behind = c.note_over.ensures (c.finish_jobs-feed.ensures.starved fresh) in
    let first : length c.finish_links-feed.new.noted.ends.items ≡ vec_len c.server.inside.hearings = c.finish_links-feed.ensures.count behind.0 in
    let second : length c.note_over.new.noted.ends.items ≡ length c.finish_links-feed.new.noted.ends.items + length c.server.inside.ends.items =
    count_behind c.finish_links-feed.new.noted.ends.items c.note_over.new.noted.ends.items c.server.inside.ends.items behind.1 in
    let over : vec_len c.server.inside.ends ≡ length c.server.inside.ends.items = c.server.inside.ends.ok.0 in
    omega (arith, linked, others, first, second, over, c.finish_jobs-feed.ensures.count fresh)))

pub returns-clause-outside : goal.returns-clause-outside
returns-clause-outside g c = λ failed.
    let is : c.end_of-end.result ≡ end_for (cause_of c.args.opened c.finish_jobs-feed.new.noted.starved c.as_slice-loops.result.now) c.finish_jobs-feed.result.sums =
    c.end_of-end.ensures.end ∙ ap (λ (k : Option Cause). end_for k c.finish_jobs-feed.result.sums) c.cause_of-cause.ensures in
    outside_of c.args.opened c.finish_jobs-feed.new.noted.starved c.as_slice-loops.result.now c.finish_jobs-feed.result.sums (has_fault g.O.Links.Datagrams.faults c.finish_links-feed.new.links.items ≡ true)
    (λ fresh link.
    let behind = c.note_over.ensures (c.finish_jobs-feed.ensures.starved fresh) in
    let here : list_any is_link_fault c.finish_links-feed.new.noted.ends.items ≡ true =
    sym (failed_behind c.finish_links-feed.new.noted.ends.items c.note_over.new.noted.ends.items c.server.inside.ends.items behind.1 c.server.invariant.3) ∙ (sym (c.finish_jobs-feed.ensures.failed fresh) ∙ (sym (ap (λ (told : List LoopEnd). list_any is_link_fault told) c.as_slice-loops.ensures.value) ∙ link)) in
    c.finish_links-feed.ensures.failed behind.0 here)
    (sym is ∙ failed)

pub returns-clause-told : goal.returns-clause-told
returns-clause-told g c =
    subst (λ (loops : List LoopEnd). IsRegistered c.end_of-end.result loops (g.W.Register.endings c.args.register.now) (g.W.Register.endings c.end_of-end.new.register)) c.as_slice-loops.ensures.value c.end_of-end.ensures.told
