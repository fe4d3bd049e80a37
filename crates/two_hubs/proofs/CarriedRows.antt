-- What the second hub has at a name at each of its points: what the first had at the point that was carried last by then.
--     RowsAre apex near start history goods      so it is of these histories
--     near-grows, moment-comes, carry-comes      it stays so where the first history grows, and behind a later moment and a carry
--     carried-all      at a point behind all carries the last one counts
use Rattle.std.proofs.Common.{◌≡◌, ℕ, ◌+◌, ◌≤◌, ◌<◌, Bool, true, false, cond, leb, List, [], ◌∷◌, ◌++◌, map, filter, length, Option, Some, None, Ok, refl, sym, ap, subst, ◌∙◌, arith, append-nil}
use Rattle.std.specs.Prelude.{nat_le, if◌then◌else◌}
use Rattle.std.specs.List.{AllByRecursion}
use Rattle.std.proofs.lemmas.Bool.{leb-true, leb-false, le-leb, lt-leb}
use Rattle.std.proofs.lemmas.List.{length-append}
use Rattle.coalesce.proofs.ReadBack.{each-append}
use Rattle.dnsname.specs.Names.{Labels, IsName, same_name}
use Rattle.dsotlv.proofs.Results.{same_found}
use Rattle.rrset.specs.RecordSet.{RecordSet, at_name}
use Rattle.rrset.proofs.Places.{all_filter}
use Rattle.dnswire.specs.Writing.{update_octets}
use Rattle.dnswire.specs.declared.message.Update.{Update}
use Rattle.zoneupdate.specs.KeptZones.{IsKept}
use Rattle.zoneupdate.proofs.RecordSets.{IsSet}
use Rattle.history.specs.States.{State, verdict, after, state_at, records, records_at}
use Rattle.history.specs.declared.entry.Entry.{Entry}
use Rattle.history.specs.declared.entry.Entry.TheVariants as entries
use Rattle.history.proofs.LongerHistory.{state_at-append}
use Rattle.pushserver.specs.Hubs.{newest}
use Rattle.pushserver.specs.PlainHubs.{Hub}
use Rattle.pushserver.specs.Rows.{IsTellable}
use Rattle.pushserver.proofs.told_rows.Histories.{state_at-last}
use Rattle.relay.specs.Relay.{unfit_kind, carrying, IsCarriable}
use Rattle.replay.specs.World.{last_of}
use Rattle.script_laws.proofs.texts.Arrived.{last-behind}
use Rattle.two_hubs.specs.Carrying.{Good, carried_at, last_carried}
use Rattle.two_hubs.proofs.FarStates.{far_zone_with, IsFarState, IsCarriedTo, records-are, rows-set, moment-state, carry-state, at-alike}
use Rattle.two_hubs.proofs.Growing.{Grew, records-stay}

-- ---- goods

abbrev is_by : ℕ → Good → Bool
is_by point g = nat_le g.far_point point

abbrev near_point_of : Good → ℕ
near_point_of g = g.near_point

filter-behind : (p : Good → Bool) (xs : List Good) (g : Good) → filter p (xs ++ g ∷ []) ≡ filter p xs ++ cond (p g) (g ∷ []) []
filter-behind p [] g = refl
filter-behind p (x ∷ xs) g = by (p x) (filter-behind p xs g)
  where
    by : (b : Bool) → filter p (xs ++ g ∷ []) ≡ filter p xs ++ cond (p g) (g ∷ []) [] → cond b (x ∷ filter p (xs ++ g ∷ [])) (filter p (xs ++ g ∷ [])) ≡ cond b (x ∷ filter p xs) (filter p xs) ++ cond (p g) (g ∷ []) []
    by true rest = ap (λ (l : List Good). x ∷ l) rest
    by false rest = rest

map-behind : (xs : List Good) (g : Good) → map near_point_of (xs ++ g ∷ []) ≡ map near_point_of xs ++ g.near_point ∷ []
map-behind [] g = refl
map-behind (x ∷ xs) g = ap (λ (l : List ℕ). x.near_point ∷ l) (map-behind xs g)

-- one that lies behind a point isn't seen there
pub carried-early : (goods : List Good) (g : Good) (point : ℕ) → point < g.far_point → carried_at (goods ++ g ∷ []) point ≡ carried_at goods point
carried-early goods g point late =
    ap (λ (l : List Good). last_of (map near_point_of l)) (filter-behind (is_by point) goods g ∙ ap (λ (b : Bool). filter (is_by point) goods ++ cond b (g ∷ []) []) (lt-leb g.far_point point late) ∙ append-nil (filter (is_by point) goods))

-- the last one is, where it lies at or before it
carried-last : (goods : List Good) (g : Good) (point : ℕ) → g.far_point ≤ point → carried_at (goods ++ g ∷ []) point ≡ Some g.near_point
carried-last goods g point within =
    ap (λ (l : List Good). last_of (map near_point_of l)) (filter-behind (is_by point) goods g ∙ ap (λ (b : Bool). filter (is_by point) goods ++ cond b (g ∷ []) []) (le-leb g.far_point point within))
    ∙ ap last_of (map-behind (filter (is_by point) goods) g) ∙ last-behind (map near_point_of (filter (is_by point) goods)) g.near_point

filter-all : (point : ℕ) (goods : List Good) → AllByRecursion (λ (g : Good). g.far_point ≤ point) goods → filter (is_by point) goods ≡ goods
filter-all point [] all = refl
filter-all point (g ∷ goods) all = ap (λ (b : Bool). cond b (g ∷ filter (is_by point) goods) (filter (is_by point) goods)) (le-leb g.far_point point all.0) ∙ ap (λ (l : List Good). g ∷ l) (filter-all point goods all.1)

pub carried-all : (goods : List Good) (point : ℕ) → AllByRecursion (λ (g : Good). g.far_point ≤ point) goods → carried_at goods point ≡ last_carried goods
carried-all goods point all = ap (λ (l : List Good). last_of (map near_point_of l)) (filter-all point goods all)

pub goods-weaker : (low most : ℕ) (goods : List Good) → low ≤ most → AllByRecursion (λ (g : Good). g.far_point ≤ low) goods → AllByRecursion (λ (g : Good). g.far_point ≤ most) goods
goods-weaker low most [] less all = tt
goods-weaker low most (g ∷ goods) less all = (both g.far_point low most all.0 less, goods-weaker low most goods less all.1)
  where
    both : (a b c : ℕ) → a ≤ b → b ≤ c → a ≤ c
    both a b c first second = omega (arith, first, second)

near-weaker : (low most : ℕ) (goods : List Good) → low ≤ most → AllByRecursion (λ (g : Good). g.near_point ≤ low) goods → AllByRecursion (λ (g : Good). g.near_point ≤ most) goods
near-weaker low most [] less all = tt
near-weaker low most (g ∷ goods) less all = (both g.near_point low most all.0 less, near-weaker low most goods less all.1)
  where
    both : (a b c : ℕ) → a ≤ b → b ≤ c → a ≤ c
    both a b c first second = omega (arith, first, second)

last-near : (P : ℕ → Type 0) (goods : List Good) (p : ℕ) → AllByRecursion (λ (g : Good). P g.near_point) goods → last_carried goods ≡ Some p → P p
last-near P [] p all is = absurd cc
last-near P (g ∷ []) p all is = subst P (same_found g.near_point p is) all.0
last-near P (g ∷ h ∷ goods) p all is = last-near P (h ∷ goods) p all.1 is

carried-within : (most : ℕ) (goods : List Good) (point p : ℕ) → AllByRecursion (λ (g : Good). g.near_point ≤ most) goods → carried_at goods point ≡ Some p → p ≤ most
carried-within most goods point p all is = last-near (λ n. n ≤ most) (filter (is_by point) goods) p (all_filter (λ (g : Good). g.near_point ≤ most) (is_by point) goods all) is

-- ---- the rows at a name

abbrev pub carried_rows : Hub → Labels → Option ℕ → RecordSet
carried_rows near n None = []
carried_rows near n (Some point) = at_name n (records_at near.start near.history point)

pub record RowsAre (apex : Labels) (near : Hub) (start : State) (history : List Entry) (goods : Labels → List Good) : Type 0 where
  pub rows : RecordSet
  pub state : IsFarState apex rows (state_at start history (length history))
  pub kept : IsKept (far_zone_with apex rows)
  pub shows : (n : Labels) → same_name n apex ≡ false → (point : ℕ) → point ≤ length history → at_name n (records_at start history point) ≡ carried_rows near n (carried_at (goods n) point)
  pub far_points : (n : Labels) → AllByRecursion (λ (g : Good). g.far_point ≤ length history) (goods n)
  pub near_points : (n : Labels) → AllByRecursion (λ (g : Good). g.near_point ≤ newest near) (goods n)

-- ---- the first history grows

pub near-grows : (apex : Labels) (near later : Hub) (start : State) (history : List Entry) (goods : Labels → List Good) → Grew near later → newest near ≤ newest later → RowsAre apex near start history goods → RowsAre apex later start history goods
near-grows apex near later start history goods grew rise r = record {
  rows = r.rows;
  state = r.state;
  kept = r.kept;
  shows = λ n away point within. r.shows n away point within ∙ stays n point (carried_at (goods n) point) refl;
  far_points = r.far_points;
  near_points = λ n. near-weaker (newest near) (newest later) (goods n) rise (r.near_points n);
}
  where
    stays : (n : Labels) (point : ℕ) (o : Option ℕ) → carried_at (goods n) point ≡ o → carried_rows near n o ≡ carried_rows later n o
    stays n point None is = refl
    stays n point (Some p) is = sym (ap (at_name n) (records-stay near later p grew (carried-within (newest near) (goods n) point p (r.near_points n) is)))

-- ---- an entry comes

module _ (apex : Labels) (near : Hub) (start : State) (history : List Entry) (goods : Labels → List Good) (r : RowsAre apex near start history goods) (tellable : IsTellable (state_at start history (length history))) where
  abbrev now : State
  now = state_at start history (length history)

  rows-are-set : IsSet r.rows
  rows-are-set = rows-set apex r.rows now r.state tellable

  -- the records of the newest point
  at-now : (n : Labels) → same_name n apex ≡ false → at_name n r.rows ≡ carried_rows near n (carried_at (goods n) (length history))
  at-now n away = ap (at_name n) (sym (records-are apex r.rows now r.state rows-are-set)) ∙ r.shows n away (length history) (same (length history))
    where
      same : (k : ℕ) → k ≤ k
      same k = omega arith

  module _ (entry : Entry) where
    abbrev more : List Entry
    more = history ++ entry ∷ []

    long : length more ≡ length history + 1
    long = length-append history (entry ∷ [])

    -- of each point it is enough to show it of the new one
    each-point : (P : ℕ → RecordSet → Type 0) → ((point : ℕ) → point ≤ length history → P point (records_at start history point)) → P (length more) (records (after now entry))
        → (point : ℕ) → point ≤ length more → P point (records_at start more point)
    each-point P old new point within = by (leb point (length history)) refl
      where
        by : (b : Bool) → leb point (length history) ≡ b → P point (records_at start more point)
        by true is =
            let early = leb-true point (length history) is in
            subst (P point) (sym (ap records (state_at-append start history (entry ∷ []) point early))) (old point early)
        by false is =
            let late = leb-false point (length history) is in
            let last : point ≡ length more = omega (arith, late, within, long) in
            subst (λ (k : ℕ). P k (records_at start more k)) (sym last) (subst (P (length more)) (sym (ap records (state_at-last start history entry))) new)

    late-goods : (n : Labels) → AllByRecursion (λ (g : Good). g.far_point ≤ length more) (goods n)
    late-goods n = goods-weaker (length history) (length more) (goods n) (less (length history) (length more) long) (r.far_points n)
      where
        less : (a b : ℕ) → b ≡ a + 1 → a ≤ b
        less a b is = omega (arith, is)

    -- at a name to which nothing was carried
    stays-carried : (n : Labels) → carried_at (goods n) (length history) ≡ carried_at (goods n) (length more)
    stays-carried n = carried-all (goods n) (length history) (r.far_points n) ∙ sym (carried-all (goods n) (length more) (late-goods n))

  pub moment-comes : (t : ℕ) → IsTellable (after now (entries.Moment t)) → RowsAre apex near start (history ++ entries.Moment t ∷ []) goods
  moment-comes t told =
      let entry : Entry = entries.Moment t in
      let behind = moment-state apex r.rows now t r.state in
      let set : IsSet r.rows = rows-are-set in
      record {
        rows = r.rows;
        state = subst (IsFarState apex r.rows) (sym (state_at-last start history entry)) behind;
        kept = r.kept;
        shows = λ n away. each-point entry (λ point rows. at_name n rows ≡ carried_rows near n (carried_at (goods n) point)) (r.shows n away)
            (ap (at_name n) (records-are apex r.rows (after now entry) behind set) ∙ at-now n away ∙ ap (carried_rows near n) (stays-carried entry n));
        far_points = late-goods entry;
        near_points = r.near_points;
      }

  -- ---- a carry

  module _ (name : Labels) (set : RecordSet) (point : ℕ) (u : Update) where
    abbrev good : Good
    good = record { far_point = length history + 1; near_point = point }

    abbrev then_goods : Labels → List Good
    then_goods n = goods n ++ (if same_name name n then good ∷ [] else [])

    pub carry-comes : IsName apex → IsCarriable name set → unfit_kind set ≡ None → same_name name apex ≡ false → verdict now (update_octets (carrying apex name set 0)) ≡ Ok u
        → IsTellable (after now (entries.Update u)) → point ≤ newest near → set ≡ at_name name (records_at near.start near.history point) → RowsAre apex near start (history ++ entries.Update u ∷ []) then_goods
    carry-comes named c fit other taken told within is = record {
      rows = to.new;
      state = subst (IsFarState apex to.new) (sym (state_at-last start history entry)) to.state;
      kept = to.kept r.kept;
      shows = λ n away. shows-then n away (same_name name n) refl;
      far_points = λ n. far-then n (same_name name n);
      near_points = λ n. near-then n (same_name name n);
    }
      where
        entry : Entry
        entry = entries.Update u

        to : IsCarriedTo apex name set r.rows (after now entry)
        to = carry-state apex name set r.rows now u r.state rows-are-set named c fit other taken

        far-then : (n : Labels) (b : Bool) → AllByRecursion (λ (g : Good). g.far_point ≤ length (more entry)) (goods n ++ (if b then good ∷ [] else []))
        far-then n true = each-append (λ (g : Good). g.far_point ≤ length (more entry)) (goods n) (good ∷ []) (late-goods entry n) (same (length history + 1) (length (more entry)) (long entry), tt)
          where
            same : (a b : ℕ) → b ≡ a → a ≤ b
            same a b e = omega (arith, e)
        far-then n false = subst (AllByRecursion (λ (g : Good). g.far_point ≤ length (more entry))) (sym (append-nil (goods n))) (late-goods entry n)

        near-then : (n : Labels) (b : Bool) → AllByRecursion (λ (g : Good). g.near_point ≤ newest near) (goods n ++ (if b then good ∷ [] else []))
        near-then n true = each-append (λ (g : Good). g.near_point ≤ newest near) (goods n) (good ∷ []) (r.near_points n) (within, tt)
        near-then n false = subst (AllByRecursion (λ (g : Good). g.near_point ≤ newest near)) (sym (append-nil (goods n))) (r.near_points n)

        rows-are-new : IsSet to.new
        rows-are-new = rows-set apex to.new (after now entry) to.state told

        shows-then : (n : Labels) → same_name n apex ≡ false → (b : Bool) → same_name name n ≡ b → (p : ℕ) → p ≤ length (more entry) → at_name n (records_at start (more entry) p) ≡ carried_rows near n (carried_at (goods n ++ (if same_name name n then good ∷ [] else [])) p)
        shows-then n away b same = each-point entry (λ p rows. at_name n rows ≡ carried_rows near n (carried_at (goods n ++ (if same_name name n then good ∷ [] else [])) p)) old new
          where
            before : (t : Bool) (p : ℕ) → p ≤ length history → carried_at (goods n) p ≡ carried_at (goods n ++ (if t then good ∷ [] else [])) p
            before true p low = sym (carried-early (goods n) good p (less p (length history) low))
              where
                less : (a b : ℕ) → a ≤ b → a < b + 1
                less a b h = omega (arith, h)
            before false p low = ap (λ (gs : List Good). carried_at gs p) (sym (append-nil (goods n)))

            old : (p : ℕ) → p ≤ length history → at_name n (records_at start history p) ≡ carried_rows near n (carried_at (goods n ++ (if same_name name n then good ∷ [] else [])) p)
            old p low = r.shows n away p low ∙ ap (carried_rows near n) (before (same_name name n) p low)

            at-last : (t : Bool) → same_name name n ≡ t → (if t then set else at_name n r.rows) ≡ carried_rows near n (carried_at (goods n ++ (if t then good ∷ [] else [])) (length (more entry)))
            at-last true e =
                is ∙ at-alike name n e (records_at near.start near.history point)
                ∙ ap (carried_rows near n) (sym (carried-last (goods n) good (length (more entry)) (same_low (length history + 1) (length (more entry)) (long entry))))
              where
                same_low : (a b : ℕ) → b ≡ a → a ≤ b
                same_low a b f = omega (arith, f)
            at-last false e = at-now n away ∙ ap (carried_rows near n) (stays-carried entry n ∙ ap (λ (gs : List Good). carried_at gs (length (more entry))) (sym (append-nil (goods n))))

            new : at_name n (records (after now entry)) ≡ carried_rows near n (carried_at (goods n ++ (if same_name name n then good ∷ [] else [])) (length (more entry)))
            new =
                ap (at_name n) (records-are apex to.new (after now entry) to.state rows-are-new) ∙ to.at n away b same ∙ at-last b same
                ∙ (λ i. carried_rows near n (carried_at (goods n ++ (if sym same i then good ∷ [] else [])) (length (more entry))))
