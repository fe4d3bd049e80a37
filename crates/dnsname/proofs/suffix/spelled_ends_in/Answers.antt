use Rattle.std.proofs.Common.{Decides, ◌≤◌, length, refl, arith}
use Rattle.std.proofs.lemmas.Bool.Decides.{same_from_decides}
use Rattle.dnsname.specs.Names.{ends_in, EndsIn}
use Rattle.dnsname.specs.Octets.{labels_of}
use Rattle.dnsname.proofs.Decisions.{ends_in-Decides}
use Rattle.dnsname.proofs.Endings.{spells_view, spelled_some, seeks_first, seeks_more, seeks_end}
use Rattle.dnsname.proofs.suffix.spelled_ends_in.Goals as goal

pub labels-init : goal.labels-init
labels-init c = seeks_first _ _ _ (spells_view _ _ c.requires.name refl)

pub split_at-requires : goal.split_at-requires
split_at-requires c =
    let suffix = spells_view _ _ c.requires.suffix refl in
    let some : 1 ≤ length c.args.suffix.now = spelled_some _ _ suffix in
    (seeks_more _ _ _ c.labels.invariant some (omega arith)).1

pub labels-preserved : goal.labels-preserved
labels-preserved c =
    let suffix = spells_view _ _ c.requires.suffix refl in
    let some : 1 ≤ length c.args.suffix.now = spelled_some _ _ suffix in
    rw c.split_at.ensures.back (seeks_more _ _ _ c.labels.invariant some (omega arith)).0

pub returns : goal.returns
returns c =
    let suffix = spells_view _ _ c.requires.suffix refl in
    let ends = seeks_end _ _ _ _ suffix c.labels.invariant (omega arith) in
    let test = c.same_but_for_case.ensures in
    let is : Decides c.same_but_for_case.result (EndsIn (labels_of c.args.name.now) (labels_of c.args.suffix.now)) = (λ t. ends.0 (test.0 t), λ e. test.1 (ends.1 e)) in
    same_from_decides _ (ends_in (labels_of c.args.name.now) (labels_of c.args.suffix.now)) is (ends_in-Decides (labels_of c.args.name.now) (labels_of c.args.suffix.now))
