-- An entry more, and the oldest in the start.
use Rattle.std.proofs.Common.{◌≡◌, ℕ, ◌<◌, ◌≤◌, true, ◌+◌, ◌-◌, List, [], ◌∷◌, ◌++◌, length, drop, sum_by, refl, sym, ap, subst, ◌∙◌, arith}
use Rattle.push_base.specs.Limits.{max_number}
use Rattle.std.specs.Prelude.{IfSome}
use Rattle.history.specs.Forgetting.{IsAhead}
use Rattle.history.specs.HeldPlans.{IsSoundPast}
use Rattle.history.specs.Kept.{Past, at_moment, forgotten, longer, point_of, state_now}
use Rattle.history.specs.States.{entry_size, journal_has_room, state_at}
use Rattle.history.proofs.AheadOfStarts.{ahead-appended}
use Rattle.history.proofs.Pasts.{made-past, octets-left, size-is, sound-appended}
use Rattle.history.proofs.past.Past.append.Goals as goal

pub invariant_of-self-2 : goal.invariant_of-self-2
invariant_of-self-2 c =
    let kept = c.self.inside in
    let past : Past = record { start = at_moment kept.start kept.moment; number = kept.number; history = kept.entries.items; counts = kept.counts } in
    let back = sym c.self.view_is in
    let count = c.in_ok-count.count in
    let size = size-is (drop (c.args.keep - c.args.self.now.number) c.args.self.now.history) c.size-size.result (entry_size c.args.entry) c.size-size.ensures c.requires.room in
    let most : past.number + c.going_bounds-over.result.1 ≡ c.args.keep = subst (λ (p : Past). p.number + c.going_bounds-over.result.1 ≡ c.args.keep) back c.going_bounds-over.ensures.most in
    let last : c.args.keep ≤ point_of past = subst (λ (p : Past). c.args.keep ≤ point_of p) back c.requires.within in
    let within : count ≤ length past.history = omega (arith, most, last, c.in_ok-count.ensures.most) in
    let fits : journal_has_room (drop count past.history) (entry_size c.args.entry) ≡ true =
    ap (journal_has_room (drop count past.history)) (sym size) ∙ subst (λ (p : Past). journal_has_room (drop count p.history) c.size-size.result ≡ true) back (c.going_bounds-over.ensures.fits count c.in_ok-count.ensures.least) in
    let start = c.become_later-self-inside.ensures (state_at past.start past.history count) c.in_ok-count.ensures.later in
    let items = c.in_ok-gone.ensures.items in
    let octets = octets-left past.history (past.history ++ c.args.entry ∷ []) c.args.entry kept.octets c.size-size.result c.in_ok-gone.gone (sum_by entry_size c.put_last.new.entries.items) c.self.invariant.0.size size refl c.in_ok-gone.ensures.octets in
    let newest : at_moment c.args.homes.now c.args.moment ≡ state_now past = subst (λ (p : Past). at_moment c.args.homes.now c.args.moment ≡ state_now p) back c.requires.homes in
    let taken : IfSome c.take.result (IsAhead past.start past.history) = subst (λ o. IfSome o (IsAhead past.start past.history)) (sym c.take.ensures.value) c.going.ensures.ahead in
    let sum : count + (c.len.result - count) ≡ length past.history = omega (arith, within, c.len.ensures, kept.entries.ok.0) in
    let still = c.ahead_later.ensures past.start past.history taken sum newest in
    let made = made-past past c.args.entry count (at_moment c.become_later-self-inside.new.start c.become_later-self-inside.result) c.put_last.new.entries.items c.and_one-counts.result within start items c.and_one-counts.ensures in (
      subst (λ (p : Past). IsSoundPast p (kept.octets + c.size-size.result - c.in_ok-gone.gone)) (sym made)
          (sound-appended past kept.octets (kept.octets + c.size-size.result - c.in_ok-gone.gone) count c.args.entry c.self.invariant.0 c.requires.timely (subst (λ (p : Past). point_of p < max_number) back c.requires.last) within fits
          (octets ∙ ap (sum_by entry_size) items)),
      ahead-appended past.start (at_moment c.become_later-self-inside.new.start c.become_later-self-inside.result) past.history (past.history ++ c.args.entry ∷ []) c.put_last.new.entries.items count c.args.entry c.ahead_later.result still within start refl items,
    )

pub returns-clause-appended : goal.returns-clause-appended
returns-clause-appended c =
    let kept = c.self.inside in
    let past : Past = record { start = at_moment kept.start kept.moment; number = kept.number; history = kept.entries.items; counts = kept.counts } in
    let back = sym c.self.view_is in
    let count = c.in_ok-count.count in
    let size = size-is (drop (c.args.keep - c.args.self.now.number) c.args.self.now.history) c.size-size.result (entry_size c.args.entry) c.size-size.ensures c.requires.room in
    let most : past.number + c.going_bounds-over.result.1 ≡ c.args.keep = subst (λ (p : Past). p.number + c.going_bounds-over.result.1 ≡ c.args.keep) back c.going_bounds-over.ensures.most in
    let last : c.args.keep ≤ point_of past = subst (λ (p : Past). c.args.keep ≤ point_of p) back c.requires.within in
    let within : count ≤ length past.history = omega (arith, most, last, c.in_ok-count.ensures.most) in
    let start = c.become_later-self-inside.ensures (state_at past.start past.history count) c.in_ok-count.ensures.later in
    let items = c.in_ok-gone.ensures.items in
    let made = made-past past c.args.entry count (at_moment c.become_later-self-inside.new.start c.become_later-self-inside.result) c.put_last.new.entries.items c.and_one-counts.result within start items c.and_one-counts.ensures in
    record {
      count = count;
      within = omega (arith, c.going_bounds-over.ensures.most, c.in_ok-count.ensures.most);
      is = made ∙ ap (λ (p : Past). forgotten count (longer c.args.entry p)) c.self.view_is;
      fits = ap (journal_has_room (drop count c.args.self.now.history)) (sym size) ∙ c.going_bounds-over.ensures.fits count c.in_ok-count.ensures.least;
    }
