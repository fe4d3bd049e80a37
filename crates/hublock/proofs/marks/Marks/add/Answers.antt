use Rattle.std.proofs.Common.{rules, ◌≡◌, ◌<◌, true, false, List, [], ◌∷◌, ◌++◌, length, filter, sym, ap, ◌∙◌, subst, arith}
use Rattle.std.specs.Prelude.{ℕ, ◌==◌}
use Rattle.rrset.proofs.Distinct.{distinct_filter}
use Rattle.pushserver.specs.Hubs.{max_sessions}
use Rattle.hublock.specs.Inside.{AreMarks, has_mark, is_live}
use Rattle.hublock.proofs.Marking.{marks_apart, marks_fit}
use Rattle.hublock.proofs.marks.Marks.add.Goals as goal

pub push_reserved-requires : goal.push_reserved-requires
push_reserved-requires c =
    let over : List ℕ = c.self.inside.sessions.items in
    let live : is_live c.args.hub.now c.args.session ≡ true = search (rules, c.live.ensures.kept, c.if-not-live.false) in
    let fresh : has_mark c.args.session (filter (is_live c.args.hub.now) over) ≡ false = search (rules, c.contains.ensures.value, c.if-not-contains.true, c.deref.ensures.value, c.keep_live.ensures.live) in
    let fit : length (filter (is_live c.args.hub.now) over) < max_sessions = marks_fit c.args.hub.now over c.args.session live c.requires c.self.invariant.0 fresh in
    let here : length c.keep_live.new.sessions.items < max_sessions = subst (λ (l : List ℕ). length l < max_sessions) (sym c.keep_live.ensures.live) fit in
    omega (arith, here, c.keep_live.ensures.room, c.self.invariant.1)

pub invariant_of-self : goal.invariant_of-self
invariant_of-self c =
    let over : List ℕ = c.self.inside.sessions.items in
    let live : is_live c.args.hub.now c.args.session ≡ true = search (rules, c.live.ensures.kept, c.if-not-live.false) in
    let fresh : has_mark c.args.session (filter (is_live c.args.hub.now) over) ≡ false = search (rules, c.contains.ensures.value, c.if-not-contains.true, c.deref.ensures.value, c.keep_live.ensures.live) in (
      subst (λ (l : List ℕ). AreMarks l) (sym (c.push_reserved.ensures.items ∙ ap (λ (l : List ℕ). l ++ c.args.session ∷ []) c.keep_live.ensures.live)) (marks_apart c.args.hub.now over c.args.session live c.self.invariant.0 fresh),
      omega (arith, c.push_reserved.ensures.capacity, c.keep_live.ensures.room, c.self.invariant.1),
    )

pub invariant_of-self-else-not-contains : goal.invariant_of-self-else-not-contains
invariant_of-self-else-not-contains c = (
  subst (λ (l : List ℕ). AreMarks l) (sym c.keep_live.ensures.live) (distinct_filter ◌==◌ (is_live c.args.hub.now) c.self.inside.sessions.items c.self.invariant.0),
  omega (arith, c.keep_live.ensures.room, c.self.invariant.1),
)
