use Rattle.std.proofs.Common.{[], ◌∷◌, refl, sym, ◌∙◌, ap, subst, arith}
use Rattle.std.specs.Prelude.{IsTrue}
use Rattle.rrset.specs.Kinds.{cname_kind}
use Rattle.rrset.specs.Rdata.{shape_fits}
use Rattle.dnsquery.specs.Replies.{target_in}
use Rattle.dnsquery.proofs.Walking.{alias-fits, alias-small, alias-step, alias-written, found-step, none-step, nothing-written, part_for}
use Rattle.dnsquery.proofs.walk.turn_at.Goals as goal

pub returns-then-count-gt0 : goal.returns-then-count-gt0
returns-then-count-gt0 g c = record {
  part = part_for c.args.question.now.kind c.args.question.now.class c.at-rows.result.now;
  written = c.in_ok-count.ensures.octets;
  count = c.in_ok-count.ensures.count;
  few = c.in_ok-count.ensures.few;
  leads = λ goes_on. found-step (g.R.Lookup.known c.args.records.now) c.args.question.now c.args.name.now goes_on c.at-rows.result.now c.at-rows.ensures c.in_ok-count.count c.if-count-gt0.true c.in_ok-count.ensures.count;
}

pub returns-in_default : goal.returns-in_default
returns-in_default g c = record {
  part = [];
  written = nothing-written c.args.out.now.items c.push_matching.new.out.items (part_for c.args.question.now.kind c.args.question.now.class c.at-rows.result.now) c.in_ok-count.count c.if-count-gt0.false c.in_ok-count.ensures.count c.in_ok-count.ensures.octets;
  count = refl;
  few = omega arith;
  leads = λ goes_on. none-step (g.R.Lookup.known c.args.records.now) c.args.question.now c.args.name.now goes_on c.at-rows.result.now c.at-rows.ensures c.in_ok-count.count c.rcode_at.result c.if-count-gt0.false c.in_ok-count.ensures.count c.in_default.ensures c.rcode_at.ensures;
}

pub write_shown-requires : goal.write_shown-requires
write_shown-requires g c = alias-small (g.R.Lookup.known c.args.records.now) c.args.name.now c.at-rows.result.now c.in-Some.field-0.now (c.requires.few c.args.name.now) c.at-rows.ensures c.in-Some.ensures

pub target_in-requires : goal.target_in-requires
target_in-requires g c =
    subst (λ rdata. IsTrue (shape_fits cname_kind rdata)) (sym c.as_slice.ensures)
    (alias-fits (g.R.Lookup.known c.args.records.now) c.args.name.now c.at-rows.result.now c.in-Some.field-0.now c.requires.fit c.at-rows.ensures c.in-Some.ensures)

pub returns : goal.returns
returns g c = record {
  part = c.in-Some.field-0.now ∷ [];
  written =
      alias-written c.args.out.now.items c.push_matching.new.out.items c.write_shown.new.out.items c.in-Some.field-0.now
      (nothing-written c.args.out.now.items c.push_matching.new.out.items (part_for c.args.question.now.kind c.args.question.now.class c.at-rows.result.now) c.in_ok-count.count c.if-count-gt0.false c.in_ok-count.ensures.count c.in_ok-count.ensures.octets)
      c.in_ok-write_shown.ensures.octets;
  count = refl;
  few = omega arith;
  leads = λ goes_on. alias-step (g.R.Lookup.known c.args.records.now) c.args.question.now c.args.name.now goes_on c.at-rows.result.now c.at-rows.ensures c.in_ok-count.count c.in-Some.field-0.now c.in_ok-target.target c.if-count-gt0.false c.in_ok-count.ensures.count c.in-Some.ensures (c.in_ok-target.ensures.name ∙ ap target_in c.as_slice.ensures);
}
