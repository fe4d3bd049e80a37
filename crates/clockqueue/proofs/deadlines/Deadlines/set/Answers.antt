use Rattle.std.proofs.Common.{◌≡◌, ◌∙◌, ap, subst}
use Rattle.clockqueue.proofs.Keyed.{gone, without_twice, kept_back}
use Rattle.clockqueue.specs.Deadlines.{moment_of, with_deadline}
use Rattle.std.specs.Result.{OnOk}
use Rattle.clockqueue.proofs.deadlines.Deadlines.set.Goals as goal

pub add-requires : goal.add-requires
add-requires g c = ap (λ l. moment_of g.K.Ord.cmp c.args.key l) c.drop_key.ensures.deadlines ∙ gone g.met.K.Ord.total c.args.key c.args.self.now.deadlines

pub returns-clause-deadlines : goal.returns-clause-deadlines
returns-clause-deadlines g c =
    let now : with_deadline g.K.Ord.cmp c.args.key c.args.moment c.drop_key.new.self.deadlines ≡ with_deadline g.K.Ord.cmp c.args.key c.args.moment c.args.self.now.deadlines =
    ap (λ l. with_deadline g.K.Ord.cmp c.args.key c.args.moment l) c.drop_key.ensures.deadlines ∙ without_twice g.met.K.Ord.total c.args.key c.args.moment c.args.self.now.deadlines in
    subst (λ l. OnOk c.add.result (c.add.new.self.deadlines ≡ l)) now c.add.ensures.deadlines

pub returns-clause-none : goal.returns-clause-none
returns-clause-none g c =
    kept_back g.met.K.Ord.total c.args.key c.args.self.now.deadlines c.drop_key.new.self.deadlines c.add.new.self.deadlines c.drop_key.result c.args.self.now.spare c.drop_key.new.self.spare c.add.result
    c.drop_key.ensures.there c.drop_key.ensures.deadlines c.drop_key.ensures.room c.add.ensures.succeeds c.add.ensures.none
