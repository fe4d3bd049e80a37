-- What `held` lines of far clients show: what was carried.
--     shows-carried, newest-is-carried, never-earlier
use Rattle.std.proofs.Common.{◌≡◌, ℕ, ◌+◌, ◌≤◌, ◌<◌, ◌&&◌, ◌||◌, ◌==◌, not, Bool, true, false, cond, List, [], ◌∷◌, ◌++◌, map, filter, Option, Some, None, codes, refl, sym, ◌∙◌, ap, subst, append_assoc, append-nil, arith}
use Rattle.std.specs.Prelude.{IsTrue, option_to_list, nat_le, if◌then◌else◌}
use Rattle.std.specs.List.{AllByRecursion}
use Rattle.std.specs.List.Sorted.{IsNonDecreasing}
use Rattle.std.proofs.lemmas.Bool.{le-leb, leb-true}
use Rattle.dnsname.specs.Names.{Labels, same_name}
use Rattle.rrset.specs.RecordSet.{RecordSet, at_name, matching}
use Rattle.rrset.specs.Records.{matches}
use Rattle.rrset.specs.declared.record.Key.{Key}
use Rattle.rrset.specs.declared.record.Question.{Question}
use Rattle.rrset.proofs.Places.{all_filter}
use Rattle.zoneupdate.proofs.ChangedParts.{only-within}
use Rattle.zoneupdate.proofs.Filters.{and-left, and-right}
use Rattle.history.specs.States.{records_at}
use Rattle.pushserver.specs.Hubs.{newest}
use Rattle.pushserver.specs.PlainHubs.{Hub, Note, told}
use Rattle.pushserver.specs.ToldMessages.{records_noted}
use Rattle.pushclient.specs.Clients.{Held, off, asked_only, refused_with, set_held, held}
use Rattle.scripts.specs.Lines.{Word, ScriptLine, silent, show}
use Rattle.scripts.specs.WholeLines.{WholeLine, one, is_far_in}
use Rattle.replay.specs.World.{World, Seat, seat_of, start_world}
use Rattle.replay.specs.TextWords.{with_records, by_history, note_in, is_filling, records_told, told_of}
use Rattle.replay.specs.Text.{line_does, world_after}
use Rattle.replay.specs.HeldPoints.{is_show_of, point_at, held_points_from, settled_from}
use Rattle.replay.specs.Promises.{ShowsNewest, held_lines, shows_records}
use Rattle.replay.specs.TwoWorlds.{Worlds, start_worlds, lines_do, worlds_after, far_line_at, far_lines_after}
use Rattle.script_laws.proofs.Scripts.{lines-keep, never-go-back}
use Rattle.script_laws.proofs.texts.Along.{told_line, shows_of}
use Rattle.script_laws.proofs.texts.Shows.{told_by}
use Rattle.two_hubs.specs.Carrying.{Good, goods_of, goods_from, goods_in, carried_at, last_carried, matching_at, states_from, state_number}
use Rattle.two_hubs.specs.HalfLaws.{AreWholeLines}
use Rattle.two_hubs.specs.RelayLaws.{tells_held, ShowsCarried, NeverEarlier, NewestIsCarried}
use Rattle.two_hubs.proofs.CarriedRows.{carried_rows, carried-early, carried-all}
use Rattle.two_hubs.proofs.FarHalf.{far-lines}
use Rattle.two_hubs.proofs.FarStarts.{far-starts}
use Rattle.two_hubs.proofs.FarWalk.{rows-along}
use Rattle.two_hubs.proofs.Halved.{halves}
use Rattle.two_hubs.proofs.HeldPoints.{point-within, held-point}
use Rattle.two_hubs.proofs.Rising.{Rises, rises-from, rises-to, far_of_good, far-rises, carries-rise}
use Rattle.two_hubs.proofs.WorldsAlong.{IsStanding, worlds-behind, far-behind, far-stands}
use Rattle.two_hubs.proofs.Written.{carries-written}

-- ---- records of a name

matching-at : (q : Question) (rows : RecordSet) → matching q (at_name q.name rows) ≡ matching q rows
matching-at q rows = only-within (λ key. same_name q.name key.owner) (matches q) within rows
  where
    within : (key : Key) → matches q key ≡ true → same_name q.name key.owner ≡ true
    within key is = and-left (same_name q.name key.owner) _ (and-left (same_name q.name key.owner && (q.kind == key.kind || q.kind == 255)) (q.class == key.class || q.class == 255) is)

rows-matched : (near : Hub) (q : Question) (rows : RecordSet) (o : Option ℕ) → at_name q.name rows ≡ carried_rows near q.name o → matching q rows ≡ matching_at near q o
rows-matched near q rows None is = sym (matching-at q rows) ∙ ap (matching q) is
rows-matched near q rows (Some point) is = sym (matching-at q rows) ∙ ap (matching q) is ∙ matching-at q (records_at near.start near.history point)

-- ---- a line that tells `held`

record Tells (world : World) (w : Word) (question : Question) : Type 0 where
  pub seat : Seat
  pub there : seat_of world w ≡ Some seat
  pub id : ℕ
  pub set : RecordSet
  pub held_is : held seat.client question ≡ set_held id set
  pub lone : seat.is_lone ≡ false
  pub filling : is_filling seat id ≡ false

is-not : (b : Bool) → not b ≡ true → b ≡ false
is-not true h = absurd cc
is-not false h = refl

abbrev told_in : World → Question → Option Seat → Bool
told_in world question o = elim o as (λ _. Bool) [ None ↦ false | Some seat ↦ not seat.is_lone && shows_records seat (held seat.client question) ]

tells-so : (world : World) (w : Word) (question : Question) → tells_held world w question ≡ true → Tells world w question
tells-so world w question e = by (seat_of world w) refl e
  where
    of_held : (seat : Seat) → seat_of world w ≡ Some seat → seat.is_lone ≡ false → (h : Held) → held seat.client question ≡ h → shows_records seat h ≡ true → Tells world w question
    of_held seat there lone off is f = absurd cc
    of_held seat there lone asked_only is f = absurd cc
    of_held seat there lone (refused_with code) is f = absurd cc
    of_held seat there lone (set_held id set) is f =
        let whole : not (is_filling seat id) ≡ true = sym (ap (λ (b : Bool). if b then true else not (is_filling seat id)) lone) ∙ f in
        record { seat = seat; there = there; id = id; set = set; held_is = is; lone = lone; filling = is-not (is_filling seat id) whole }

    by : (o : Option Seat) → seat_of world w ≡ o → told_in world question o ≡ true → Tells world w question
    by None is f = absurd cc
    by (Some seat) is f = of_held seat is (is-not seat.is_lone (and-left (not seat.is_lone) (shows_records seat (held seat.client question)) f)) (held seat.client question) refl (and-right (not seat.is_lone) (shows_records seat (held seat.client question)) f)

shows-line : (world : World) (w : Word) (question : Question) (written : List ℕ) (t : Tells world w question) (note : Note) → note_in world.hub t.seat ≡ Some note
    → (line_does by_history (show w question written) world).1 ≡ held_lines w question written (records_noted world.hub note question)
shows-line world w question written t note has =
    ap (λ (o : Option Seat). (shows_of by_history w question written world o).1) t.there
    ∙ ap (λ s. (told_line w question written world s).1)
    (ap (λ h. told_of by_history h world.hub t.seat question) t.held_is
    ∙ (λ i. told_by (t.lone i) (t.filling i) t.set (by_history world.hub t.seat question t.set))
    ∙ ap (λ (o : Option Note). with_records (codes "held") (records_told world.hub o question)) has)

-- of a far client the whole script prints what the second half does
printed-far : (worlds : Worlds) (w : Word) (question : Question) (written : List ℕ) → is_far_in worlds.fars w ≡ true → (lines_do by_history (one (show w question written)) worlds).1 ≡ (line_does by_history (show w question written) worlds.far).1
printed-far worlds w question written far i =
    (line_does by_history (cond (far i) silent (show w question written)) worlds.near).1 ++ (line_does by_history (cond (far i || false) (show w question written) silent) worlds.far).1

pub shows-carried : ShowsCarried
shows-carried script are before after w question written apex split is away is_far tells =
    let worlds : Worlds = worlds_after by_history before (start_worlds script) in
    let far : IsStanding worlds.far = far-stands script before after are (carries-written script are) split in
    let t = tells-so worlds.far w question tells in
    let p = held-point worlds.far far.0 far.1 w t.seat question t.id t.set t.there t.held_is t.lone t.filling in
    let point : ℕ = told p.0 question.name in
    let rows = rows-along script are apex is before after split in
    record {
      point = point;
      shown = p.2;
      lines = printed-far worlds w question written is_far ∙ shows-line worlds.far w question written t p.0 p.1
          ∙ ap (held_lines w question written)
          (rows-matched worlds.near.hub question (records_at worlds.far.hub.start worlds.far.hub.history point) (carried_at (goods_from question.name before (start_worlds script)) point)
          (rows.shows question.name away point (point-within worlds.far far.0 far.1 w question point p.2)));
    }

-- ---- right after a settle

pub newest-is-carried : NewestIsCarried
newest-is-carried script are before after w seat question written apex split is away settled is_far there wanted served =
    let begins : Worlds = start_worlds script in
    let worlds : Worlds = worlds_after by_history before begins in
    let lines : List ScriptLine = far_lines_after by_history script begins in
    let front : List ScriptLine = far_lines_after by_history before begins in
    let back : List ScriptLine = far_lines_after by_history after worlds in
    let both : lines ≡ front ++ back = ap (λ (ls : List WholeLine). far_lines_after by_history ls begins) split ∙ far-behind before after begins in
    let start : start_world lines ≡ begins.far = far-starts by_history script in
    let kept = (lines-keep lines (far-lines script are (carries-written script are)) w).1 front back both (subst (λ (x : World). IsTrue (settled_from w false front x)) (sym start) settled) in
    let newest_is : ShowsNewest worlds.far w = subst (λ (x : World). ShowsNewest x w) (ap (world_after front) start ∙ sym (halves before begins).1) kept in
    let rows = rows-along script are apex is before after split in
    let goods : List Good = goods_from question.name before begins in
    printed-far worlds w question written is_far ∙ newest_is seat question written there wanted served
    ∙ ap (held_lines w question written)
    (rows-matched worlds.near.hub question (records_at worlds.far.hub.start worlds.far.hub.history (newest worlds.far.hub)) (carried_at goods (newest worlds.far.hub)) (rows.shows question.name away (newest worlds.far.hub) (same (newest worlds.far.hub)))
    ∙ ap (matching_at worlds.near.hub question) (carried-all goods (newest worlds.far.hub) (rows.far_points question.name)))
  where
    same : (n : ℕ) → n ≤ n
    same n = omega arith

-- ---- no earlier state

abbrev near_of : Good → ℕ
near_of g = g.near_point

-- of some of the goods
all-some : (P : ℕ → Type 0) (t : Good → Bool) (goods : List Good) → AllByRecursion P (map near_of goods) → AllByRecursion P (map near_of (filter t goods))
all-some P t [] all = tt
all-some P t (g ∷ goods) all = by (t g) (all-some P t goods all.1)
  where
    by : (b : Bool) → AllByRecursion P (map near_of (filter t goods)) → AllByRecursion P (map near_of (cond b (g ∷ filter t goods) (filter t goods)))
    by true rest = (all.0, rest)
    by false rest = rest

rises-some : (t : Good → Bool) (goods : List Good) → Rises (map near_of goods) → Rises (map near_of (filter t goods))
rises-some t [] r = tt
rises-some t (g ∷ goods) r = by (t g) (rises-some t goods r.1)
  where
    by : (b : Bool) → Rises (map near_of (filter t goods)) → Rises (map near_of (cond b (g ∷ filter t goods) (filter t goods)))
    by true rest = (all-some (λ y. g.near_point ≤ y) t goods r.0, rest)
    by false rest = rest

-- where they rise, none is greater than the last
below-last : (goods : List Good) → Rises (map near_of goods) → AllByRecursion (λ (g : Good). g.near_point + 1 ≤ state_number (last_carried goods)) goods
below-last [] r = tt
below-last (g ∷ []) r = (omega arith, tt)
below-last (g ∷ h ∷ goods) r =
    let rest = below-last (h ∷ goods) r.1 in
    (both g.near_point h.near_point (state_number (last_carried (h ∷ goods))) r.0.0 rest.0, rest)
  where
    both : (a b c : ℕ) → a ≤ b → b + 1 ≤ c → a + 1 ≤ c
    both a b c first second = omega (arith, first, second)

number-below : (most : ℕ) (goods : List Good) → AllByRecursion (λ (g : Good). g.near_point + 1 ≤ most) goods → state_number (last_carried goods) ≤ most
number-below most [] all = omega arith
number-below most (g ∷ []) all = all.0
number-below most (g ∷ h ∷ goods) all = number-below most (h ∷ goods) all.1

abbrev is_by : ℕ → Good → Bool
is_by point g = nat_le g.far_point point

-- those by an earlier point are among those by a later one
filters-on : (x y : ℕ) → x ≤ y → (goods : List Good) → filter (is_by x) (filter (is_by y) goods) ≡ filter (is_by x) goods
filters-on x y less [] = refl
filters-on x y less (g ∷ goods) = by (is_by y g) (is_by x g) refl refl (filters-on x y less goods)
  where
    wrong : nat_le g.far_point x ≡ true → nat_le g.far_point y ≡ true
    wrong now = le-leb g.far_point y (on g.far_point x y (leb-true g.far_point x now) less)
      where
        on : (a b c : ℕ) → a ≤ b → b ≤ c → a ≤ c
        on a b c first second = omega (arith, first, second)

    by : (b a : Bool) → is_by y g ≡ b → is_by x g ≡ a → filter (is_by x) (filter (is_by y) goods) ≡ filter (is_by x) goods
        → filter (is_by x) (cond (is_by y g) (g ∷ filter (is_by y) goods) (filter (is_by y) goods)) ≡ cond (is_by x g) (g ∷ filter (is_by x) goods) (filter (is_by x) goods)
    by true a later now rest = (λ i. filter (is_by x) (cond (later i) (g ∷ filter (is_by y) goods) (filter (is_by y) goods))) ∙ ap (λ (l : List Good). cond (is_by x g) (g ∷ l) l) rest
    by false true later now rest = let no : true ≡ false = sym (wrong now) ∙ later in absurd cc
    by false false later now rest = (λ i. filter (is_by x) (cond (later i) (g ∷ filter (is_by y) goods) (filter (is_by y) goods))) ∙ rest ∙ (λ i. cond (sym now i) (g ∷ filter (is_by x) goods) (filter (is_by x) goods))

no-earlier : (goods : List Good) → Rises (map near_of goods) → (x y : ℕ) → x ≤ y → state_number (carried_at goods x) ≤ state_number (carried_at goods y)
no-earlier goods r x y less =
    let later : List Good = filter (is_by y) goods in
    let all = below-last later (rises-some (is_by y) goods r) in
    subst (λ (gs : List Good). state_number (last_carried gs) ≤ state_number (last_carried later)) (filters-on x y less goods)
    (number-below (state_number (last_carried later)) (filter (is_by x) later) (all_filter (λ (g : Good). g.near_point + 1 ≤ state_number (last_carried later)) (is_by x) later all))

rises-mapped : (f : ℕ → Option ℕ) → ((x y : ℕ) → x ≤ y → state_number (f x) ≤ state_number (f y)) → (xs : List ℕ) → Rises xs → Rises (map state_number (map f xs))
rises-mapped f on [] r = tt
rises-mapped f on (x ∷ xs) r = (each xs r.0, rises-mapped f on xs r.1)
  where
    each : (ys : List ℕ) → AllByRecursion (λ y. x ≤ y) ys → AllByRecursion (λ y. state_number (f x) ≤ y) (map state_number (map f ys))
    each [] all = tt
    each (y ∷ ys) all = (on x y all.0, each ys all.1)

-- carries that come later aren't seen
carried-before : (goods more : List Good) (point : ℕ) → AllByRecursion (λ p. point < p) (map far_of_good more) → carried_at (goods ++ more) point ≡ carried_at goods point
carried-before goods [] point all = ap (λ (gs : List Good). carried_at gs point) (append-nil goods)
carried-before goods (g ∷ more) point all =
    ap (λ (gs : List Good). carried_at gs point) (sym (append_assoc goods (g ∷ []) more))
    ∙ carried-before (goods ++ g ∷ []) more point all.1 ∙ carried-early goods g point all.0

goods-split : (name : Labels) (before after : List WholeLine) (worlds : Worlds) → goods_from name (before ++ after) worlds ≡ goods_from name before worlds ++ goods_from name after (worlds_after by_history before worlds)
goods-split name [] after worlds = refl
goods-split name (line ∷ before) after worlds =
    ap (λ (gs : List Good). goods_of name worlds line ++ gs) (goods-split name before after (lines_do by_history line worlds).0)
    ∙ sym (append_assoc (goods_of name worlds line) (goods_from name before (lines_do by_history line worlds).0) (goods_from name after (worlds_after by_history before (lines_do by_history line worlds).0)))

map-both : (f : ℕ → Option ℕ) (xs ys : List ℕ) → map f (xs ++ ys) ≡ map f xs ++ map f ys
map-both f [] ys = refl
map-both f (x ∷ xs) ys = ap (λ (l : List (Option ℕ)). f x ∷ l) (map-both f xs ys)

module _ (script : List WholeLine) (are : AreWholeLines script) (w : Word) (question : Question) where
  abbrev begins : Worlds
  begins = start_worlds script

  abbrev behind : List WholeLine → Worlds
  behind before = worlds_after by_history before begins

  abbrev all_goods : List Good
  all_goods = goods_from question.name script begins

  abbrev goods_by : List WholeLine → List Good
  goods_by before = goods_from question.name before begins

  module _ (before lines : List WholeLine) (split : script ≡ before ++ lines) where
    split-goods : all_goods ≡ goods_by before ++ goods_from question.name lines (behind before)
    split-goods = ap (λ (ls : List WholeLine). goods_from question.name ls begins) split ∙ goods-split question.name before lines begins

    late : (point : ℕ) → point ≤ newest (behind before).far.hub → (goods : List ℕ) → AllByRecursion (λ p. newest (behind before).far.hub + 1 ≤ p) goods → AllByRecursion (λ p. point < p) goods
    late point within [] all = tt
    late point within (p ∷ goods) all = (less point (newest (behind before).far.hub) p within all.0, late point within goods all.1)
      where
        less : (a b c : ℕ) → a ≤ b → b + 1 ≤ c → a < c
        less a b c first second = omega (arith, first, second)

    seen-so : (point : ℕ) → point ≤ newest (behind before).far.hub → carried_at (goods_by before) point ≡ carried_at all_goods point
    seen-so point within =
        sym (ap (λ (gs : List Good). carried_at gs point) split-goods
        ∙ carried-before (goods_by before) (goods_from question.name lines (behind before)) point
        (late point within (map far_of_good (goods_from question.name lines (behind before))) (far-rises question.name lines (behind before)).1))

    here : (b : Bool) → (if b then map (carried_at (goods_by before)) (option_to_list (point_at (behind before).far w question)) else [])
        ≡ map (carried_at all_goods) (if b then option_to_list (point_at (behind before).far w question) else [])
    here false = refl
    here true = by (point_at (behind before).far w question) refl
      where
        by : (o : Option ℕ) → point_at (behind before).far w question ≡ o → map (carried_at (goods_by before)) (option_to_list o) ≡ map (carried_at all_goods) (option_to_list o)
        by None is = refl
        by (Some point) is =
            let far : IsStanding (behind before).far = far-stands script before lines are (carries-written script are) split in
            ap (λ (x : Option ℕ). x ∷ []) (seen-so point (point-within (behind before).far far.0 far.1 w question point is))

  states-are : (before lines : List WholeLine) → script ≡ before ++ lines
      → states_from w question (goods_by before) lines (behind before) ≡ map (carried_at all_goods) (held_points_from w question (far_lines_after by_history lines (behind before)) (behind before).far)
  states-are before [] split = refl
  states-are before (line ∷ lines) split =
      let worlds : Worlds = behind before in
      let next : Worlds = (lines_do by_history line worlds).0 in
      let shown : Bool = is_show_of w question (far_line_at by_history worlds line) in
      let more : goods_by (before ++ line ∷ []) ≡ goods_by before ++ goods_of question.name worlds line =
      goods-split question.name before (line ∷ []) begins ∙ ap (λ (gs : List Good). goods_by before ++ gs) (append-nil (goods_of question.name worlds line)) in
      let rest = states-are (before ++ line ∷ []) lines (split ∙ sym (append_assoc before (line ∷ []) lines)) in
      let rest_here : states_from w question (goods_by before ++ goods_of question.name worlds line) lines next ≡ map (carried_at all_goods) (held_points_from w question (far_lines_after by_history lines next) next.far) =
      subst (λ (x : List Good × Worlds). states_from w question x.0 lines x.1 ≡ map (carried_at all_goods) (held_points_from w question (far_lines_after by_history lines x.1) x.1.far))
      (λ i. (more i, worlds-behind before (line ∷ []) begins i)) rest in
      (λ i. here before (line ∷ lines) split shown i ++ rest_here i)
      ∙ sym (map-both (carried_at all_goods) (if shown then option_to_list (point_at worlds.far w question) else []) (held_points_from w question (far_lines_after by_history lines next) next.far))

pub never-earlier : NeverEarlier
never-earlier script are w question =
    let begins : Worlds = start_worlds script in
    let lines : List ScriptLine = far_lines_after by_history script begins in
    let points : List ℕ = held_points_from w question lines begins.far in
    let goods : List Good = goods_in question.name script in
    let never : IsNonDecreasing points = subst (λ (x : World). IsNonDecreasing (held_points_from w question lines x)) (far-starts by_history script) (never-go-back lines w question (far-lines script are (carries-written script are))) in
    let rise : Rises (map near_of goods) = rises-from (map near_of goods) (carries-rise script are question.name).0 in
    subst (λ (xs : List (Option ℕ)). IsNonDecreasing (map state_number xs)) (sym (states-are script are w question [] script refl))
    (rises-to (map state_number (map (carried_at goods) points)) (rises-mapped (carried_at goods) (no-earlier goods rise) points (rises-from points never)))
