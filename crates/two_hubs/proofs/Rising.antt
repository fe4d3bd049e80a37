-- Later carries of a name carry no earlier points.
--     carries-rise      points of the first history, as one client carries a name, which is never shown an earlier one; points of the second, as points rise
use Rattle.std.proofs.Common.{◌≡◌, ◌⊎◌, inl, inr, ℕ, zero, suc, ◌+◌, ◌≤◌, ◌<◌, Bool, true, false, cond, not, ◌&&◌, ◌||◌, ◌==◌, List, [], ◌∷◌, ◌++◌, length, get_or, map, Option, Some, None, refl, sym, ap, subst, ◌∙◌, arith}
use Rattle.std.specs.Prelude.{option_map, option_to_list, find, unwrap_or, if◌then◌else◌}
use Rattle.std.specs.List.{list_any, AllByRecursion}
use Rattle.std.specs.List.Sorted.{IsNonDecreasing}
use Rattle.std.specs.Str.{bytes_eq}
use Rattle.dnsname.specs.Names.{Labels, same_name}
use Rattle.rrset.specs.Records.{same_question}
use Rattle.rrset.specs.declared.record.Question.{Question}
use Rattle.pushserver.specs.PlainHubs.{Note, told}
use Rattle.pushserver.specs.Hubs.{newest}
use Rattle.pushclient.specs.Clients.{Client, Wish, Held, off, asked_only, refused_with, set_held, held, held_as, is_connected}
use Rattle.zoneupdate.proofs.Filters.{and-left, and-right, and-both}
use Rattle.zoneupdate.proofs.Owners.{same_name-back, same_name-on, same_name-for, same_name-for_second}
use Rattle.scripts.specs.Lines.{Word}
use Rattle.scripts.proofs.lines.SameWords.{same_word}
use Rattle.replay.specs.World.{World, Seat, seat_of}
use Rattle.replay.specs.TextWords.{by_history, note_in, is_filling}
use Rattle.replay.specs.HeldPoints.{is_show_of, point_of_note, point_of_held, point_at, held_points_from}
use Rattle.replay.specs.LineCalls.{line_calls}
use Rattle.script_laws.proofs.calls.Lines.{lines-are-calls}
use Rattle.script_laws.proofs.hubs.Reaching.{points-rise}
use Rattle.script_laws.proofs.Scripts.{lines-keep}
use Rattle.scripts.specs.WholeLines.{WholeLine, one, far_zone, far_client, carry, near_of, is_far_in, all_at}
use Rattle.scripts.specs.WholeScripts.{Carrier, BothKnown, none_known, carries_alone, may_follow_both, near_lines, near_lines_from}
use Rattle.replay.specs.TwoWorlds.{Worlds, start_worlds, lines_do, carry_of, line_of_relayed, far_line_at}
use Rattle.two_hubs.specs.Carrying.{Good, is_taken, good_with, goods_of, goods_from}
use Rattle.two_hubs.specs.HalfLaws.{FollowBoth, IsCarriedAmong}
use Rattle.two_hubs.specs.RelayLaws.{CarriesRise}
use Rattle.two_hubs.proofs.Halved.{parts, near-lines}

-- ---- numbers that don't fall

abbrev pub Rises : List ℕ → Type 0
Rises [] = Unit {0}
Rises (x ∷ xs) = AllByRecursion (λ y. x ≤ y) xs × Rises xs

at-each : (P : ℕ → Type 0) (xs : List ℕ) (i d : ℕ) → AllByRecursion P xs → i < length xs → P (get_or xs i d)
at-each P [] i d all less = absurd (omega (arith, less))
at-each P (x ∷ xs) zero d all less = all.0
at-each P (x ∷ xs) (suc i) d all less = at-each P xs i d all.1 (omega (arith, less))

each-at : (P : ℕ → Type 0) (xs : List ℕ) (d : ℕ) → ((i : ℕ) → i < length xs → P (get_or xs i d)) → AllByRecursion P xs
each-at P [] d at = tt
each-at P (x ∷ xs) d at = (at 0 (omega arith), each-at P xs d (λ i less. at (suc i) (omega (arith, less))))

pub rises-from : (xs : List ℕ) → IsNonDecreasing xs → Rises xs
rises-from [] up = tt
rises-from (x ∷ xs) up = (each-at (λ y. x ≤ y) xs 0 (λ i less. up 0 (suc i) 0 (omega arith) (omega (arith, less))), rises-from xs (λ i j d le less. up (suc i) (suc j) d (omega (arith, le)) (omega (arith, less))))

pub rises-to : (xs : List ℕ) → Rises xs → IsNonDecreasing xs
rises-to [] r i j d le less = absurd (omega (arith, less))
rises-to (x ∷ xs) r zero zero d le less = omega arith
rises-to (x ∷ xs) r zero (suc j) d le less = at-each (λ y. x ≤ y) xs j d r.0 (omega (arith, less))
rises-to (x ∷ xs) r (suc i) zero d le less = absurd (omega (arith, le))
rises-to (x ∷ xs) r (suc i) (suc j) d le less = rises-to xs r.1 i j d (omega (arith, le)) (omega (arith, less))

-- some of a list, in its order
abbrev Among : List ℕ → List ℕ → Type 0
Among xs [] = xs ≡ []
Among xs (y ∷ ys) = Among xs ys ⊎ ((rest : List ℕ) × (xs ≡ y ∷ rest) × Among rest ys)

among-none : (ys : List ℕ) → Among [] ys
among-none [] = refl
among-none (y ∷ ys) = inl (among-none ys)

among-all : (P : ℕ → Type 0) (xs ys : List ℕ) → Among xs ys → AllByRecursion P ys → AllByRecursion P xs
among-all P xs [] is all = subst (AllByRecursion P) (sym is) tt
among-all P xs (y ∷ ys) (inl h) all = among-all P xs ys h all.1
among-all P xs (y ∷ ys) (inr h) all = subst (AllByRecursion P) (sym h.1) (all.0, among-all P h.0 ys h.2 all.1)

among-rises : (xs ys : List ℕ) → Among xs ys → Rises ys → Rises xs
among-rises xs [] is r = subst Rises (sym is) tt
among-rises xs (y ∷ ys) (inl h) r = among-rises xs ys h r.1
among-rises xs (y ∷ ys) (inr h) r = subst Rises (sym h.1) (among-all (λ z. y ≤ z) h.0 ys h.2 r.0, among-rises h.0 ys h.2 r.1)

-- at most one, and then others
among-first : (o : Option ℕ) (xs ys : List ℕ) → Among xs ys → Among (option_to_list o ++ xs) (option_to_list o ++ ys)
among-first None xs ys h = h
among-first (Some p) xs ys h = inr (xs, refl, h)

among-behind : (zs xs ys : List ℕ) → Among xs ys → Among xs (zs ++ ys)
among-behind [] xs ys h = h
among-behind (z ∷ zs) xs ys h = inl (among-behind zs xs ys h)

-- ---- one client carries a name

abbrev IsBy : Word → Labels → WholeLine → Type 0
IsBy w name (carry v other written) = same_name other name ≡ true → bytes_eq w v ≡ true
IsBy w name _ = Unit {0}

-- one of the carries, and another of its name that is carried alone
one-carrier : (carriers : List Carrier) (w v : Word) (name other : Labels) → list_any (λ c. bytes_eq c.0 w && same_name c.1 name) carriers ≡ true → same_name name other ≡ true → carries_alone carriers v other ≡ true → bytes_eq w v ≡ true
one-carrier [] w v name other some same alone = absurd cc
one-carrier (c ∷ carriers) w v name other some same alone = by (bytes_eq c.0 w && same_name c.1 name) refl some (λ more. one-carrier carriers w v name other more same (and-right (not (same_name c.1 other) || bytes_eq c.0 v) (carries_alone carriers v other) alone))
  where
    here : (bytes_eq c.0 w && same_name c.1 name) ≡ true → bytes_eq w v ≡ true
    here is =
        let there : same_name c.1 other ≡ true = same_name-on c.1 name other (and-right (bytes_eq c.0 w) (same_name c.1 name) is) same in
        let is_w : c.0 ≡ w = same_word c.0 w (and-left (bytes_eq c.0 w) (same_name c.1 name) is) in
        let either : (not (same_name c.1 other) || bytes_eq c.0 v) ≡ true = and-left (not (same_name c.1 other) || bytes_eq c.0 v) (carries_alone carriers v other) alone in
        ap (λ (x : Word). bytes_eq x v) (sym is_w) ∙ sym (ap (λ (b : Bool). not b || bytes_eq c.0 v) there) ∙ either

    by : (b : Bool) → (bytes_eq c.0 w && same_name c.1 name) ≡ b → (b || list_any (λ d. bytes_eq d.0 w && same_name d.1 name) carriers) ≡ true → (list_any (λ d. bytes_eq d.0 w && same_name d.1 name) carriers ≡ true → bytes_eq w v ≡ true) → bytes_eq w v ≡ true
    by true is h more = here is
    by false is h more = more h

all-by : (all : List Word) (carriers : List Carrier) (w : Word) (name : Labels) → list_any (λ c. bytes_eq c.0 w && same_name c.1 name) carriers ≡ true → (known : BothKnown) (lines : List WholeLine) → FollowBoth all carriers known lines → AllByRecursion (IsBy w name) lines
all-by all carriers w name some known [] f = tt
all-by all carriers w name some known (line ∷ lines) f = (one-by line (parts all carriers known f.0 line f.1).may, all-by all carriers w name some f.0 lines f.2)
  where
    one-by : (l : WholeLine) → may_follow_both carriers known l ≡ true → IsBy w name l
    one-by (one l) may = tt
    one-by (far_zone apex serial) may = tt
    one-by (far_client v) may = tt
    one-by (carry v other written) may = λ same. one-carrier carriers w v name other some (same_name-back other name same) (and-right _ (carries_alone carriers v other) may)

-- the client of the first carry of a name
abbrev first_carrier : Labels → List WholeLine → Option Word
first_carrier name [] = None
first_carrier name (carry v other written ∷ lines) = if same_name other name then Some v else first_carrier name lines
first_carrier name (_ ∷ lines) = first_carrier name lines

-- ---- what a name's question shows

find-same : {X : Type 0} (p q : X → Bool) → ((x : X) → p x ≡ q x) → (xs : List X) → find p xs ≡ find q xs
find-same p q same [] = refl
find-same {X} p q same (x ∷ xs) = (λ i. cond (same x i) (Some x) (find-same p q same xs i))

all_at-same : (a b : Labels) → same_name a b ≡ true → (q : Question) → same_question q (all_at a) ≡ same_question q (all_at b)
all_at-same a b same q = ap (λ (t : Bool). t && q.kind == 255 && q.class == 1) (same_name-for_second q.name a b same)

held-same : (client : Client) (a b : Labels) → same_name a b ≡ true → held client (all_at a) ≡ held client (all_at b)
held-same client a b same = ap (λ (o : Option Wish). elim o [ None ↦ off | Some wish ↦ if wish.wanted && is_connected client then held_as wish.standing wish else off ]) (find-same (λ w. same_question w.question (all_at a)) (λ w. same_question w.question (all_at b)) (λ w. all_at-same a b same w.question) client.wishes)

told-same : (note : Note) (a b : Labels) → same_name a b ≡ true → told note a ≡ told note b
told-same note a b same = ap (λ o. unwrap_or (option_map (λ (e : Labels × ℕ). e.1) o) note.newest) (find-same (λ (e : Labels × ℕ). same_name a e.0) (λ e. same_name b e.0) (λ e. same_name-for a b e.0 same) note.queue)

point-same : (world : World) (w : Word) (a b : Labels) → same_name a b ≡ true → point_at world w (all_at a) ≡ point_at world w (all_at b)
point-same world w a b same = by (seat_of world w)
  where
    noted : (o : Option Note) → point_of_note (all_at a) o ≡ point_of_note (all_at b) o
    noted None = refl
    noted (Some note) = ap (λ (n : ℕ). Some n) (told-same note a b same)

    shown : (seat : Seat) (h : Held) → point_of_held h world seat (all_at a) ≡ point_of_held h world seat (all_at b)
    shown seat off = refl
    shown seat asked_only = refl
    shown seat (refused_with code) = refl
    shown seat (set_held id set) = ap (λ (o : Option ℕ). if seat.is_lone || is_filling seat id then None else o) (noted (note_in world.hub seat))

    point_in_seat : Labels → Option Seat → Option ℕ
    point_in_seat n o = elim o [ None ↦ None | Some seat ↦ point_of_held (held seat.client (all_at n)) world seat (all_at n) ]

    by : (o : Option Seat) → point_in_seat a o ≡ point_in_seat b o
    by None = refl
    by (Some seat) = shown seat (held seat.client (all_at a)) ∙ ap (λ h. point_of_held h world seat (all_at b)) (held-same seat.client a b same)

-- ---- the first history

abbrev pub near_of_good : Good → ℕ
near_of_good g = g.near_point

pub goods-behind : (f : Good → ℕ) (xs ys : List Good) → map f (xs ++ ys) ≡ map f xs ++ map f ys
goods-behind f [] ys = refl
goods-behind f (x ∷ xs) ys = ap (λ l. f x ∷ l) (goods-behind f xs ys)

good-points : (worlds : Worlds) (o : Option ℕ) → map near_of_good (good_with worlds o) ≡ option_to_list o
good-points worlds None = refl
good-points worlds (Some p) = refl

near-among : (w : Word) (name : Labels) (lines : List WholeLine) (worlds : Worlds) → AllByRecursion (IsBy w name) lines
    → Among (map near_of_good (goods_from name lines worlds)) (held_points_from w (all_at name) (near_lines_from worlds.fars lines) worlds.near)
near-among w name [] worlds all = refl
near-among w name (line ∷ lines) worlds all =
    subst (λ xs. Among xs (here line ++ behind)) (sym (goods-behind near_of_good (goods_of name worlds line) (goods_from name lines next))) (by line all.0 (near-among w name lines next all.1))
  where
    next : Worlds
    next = (lines_do by_history line worlds).0

    others : List ℕ
    others = map near_of_good (goods_from name lines next)

    behind : List ℕ
    behind = held_points_from w (all_at name) (near_lines_from next.fars lines) next.near

    here : WholeLine → List ℕ
    here l = if is_show_of w (all_at name) (near_of (is_far_in worlds.fars) l) then option_to_list (point_at worlds.near w (all_at name)) else []

    by : (l : WholeLine) → IsBy w name l → Among others behind → Among (map near_of_good (goods_of name worlds l) ++ others) (here l ++ behind)
    by (one l) is rest = among-behind (here (one l)) others behind rest
    by (far_zone apex serial) is rest = among-behind (here (far_zone apex serial)) others behind rest
    by (far_client v) is rest = among-behind (here (far_client v)) others behind rest
    by (carry v other written) is rest = test (same_name other name) (is_taken worlds (line_of_relayed (carry_of by_history worlds v other))) refl
      where
        shows : same_name other name ≡ true → here (carry v other written) ≡ option_to_list (point_at worlds.near v (all_at other))
        shows same =
            let word : w ≡ v = same_word w v (is same) in
            let asks : same_question (all_at name) (all_at other) ≡ true = ap (λ (t : Bool). t && true && true) (same_name-back other name same) in
            ap (λ (b : Bool). if b then option_to_list (point_at worlds.near w (all_at name)) else []) (and-both (bytes_eq w v) (same_question (all_at name) (all_at other)) (is same) asks)
            ∙ ap option_to_list (point-same worlds.near w name other (same_name-back other name same) ∙ ap (λ (x : Word). point_at worlds.near x (all_at other)) word)

        test : (a b : Bool) → same_name other name ≡ a → Among (map near_of_good (if a && b then good_with worlds (point_at worlds.near v (all_at other)) else []) ++ others) (here (carry v other written) ++ behind)
        test false b e = among-behind (here (carry v other written)) others behind rest
        test true false e = among-behind (here (carry v other written)) others behind rest
        test true true e =
            let point = point_at worlds.near v (all_at other) in
            subst (λ xs. Among (xs ++ others) (here (carry v other written) ++ behind)) (sym (good-points worlds point))
            (subst (λ ys. Among (option_to_list point ++ others) (ys ++ behind)) (sym (shows e)) (among-first point others behind rest))

-- ---- the second history

abbrev pub far_of_good : Good → ℕ
far_of_good g = g.far_point

pub far-rises : (name : Labels) (lines : List WholeLine) (worlds : Worlds) → Rises (map far_of_good (goods_from name lines worlds)) × AllByRecursion (λ p. newest worlds.far.hub + 1 ≤ p) (map far_of_good (goods_from name lines worlds))
far-rises name [] worlds = (tt, tt)
far-rises name (line ∷ lines) worlds = by (goods_of name worlds line) (one-point line) (far-rises name lines next)
  where
    next : Worlds
    next = (lines_do by_history line worlds).0

    rise : newest worlds.far.hub ≤ newest next.far.hub
    rise =
        let far = far_line_at by_history worlds line in
        subst (λ hub. newest worlds.far.hub ≤ newest hub) (sym (lines-are-calls far worlds.far)) (points-rise worlds.far.hub (line_calls far worlds.far))

    others : List ℕ
    others = map far_of_good (goods_from name lines next)

    IsHere : List Good → Type 0
    IsHere goods = (goods ≡ []) ⊎ ((p : ℕ) × (goods ≡ (record { far_point = newest worlds.far.hub + 1; near_point = p }) ∷ []))

    one-point : (l : WholeLine) → IsHere (goods_of name worlds l)
    one-point (one l) = inl refl
    one-point (far_zone apex serial) = inl refl
    one-point (far_client v) = inl refl
    one-point (carry v other written) = test (same_name other name && is_taken worlds (line_of_relayed (carry_of by_history worlds v other))) (point_at worlds.near v (all_at other))
      where
        test : (b : Bool) (o : Option ℕ) → IsHere (if b then good_with worlds o else [])
        test false o = inl refl
        test true None = inl refl
        test true (Some p) = inr (p, refl)

    higher : (xs : List ℕ) → AllByRecursion (λ p. newest next.far.hub + 1 ≤ p) xs → AllByRecursion (λ p. newest worlds.far.hub + 1 ≤ p) xs
    higher [] all = tt
    higher (x ∷ xs) all = (omega (arith, all.0, rise), higher xs all.1)

    Both : List Good → Type 0
    Both goods = Rises (map far_of_good (goods ++ goods_from name lines next)) × AllByRecursion (λ p. newest worlds.far.hub + 1 ≤ p) (map far_of_good (goods ++ goods_from name lines next))

    by : (goods : List Good) → IsHere goods → Rises others × AllByRecursion (λ p. newest next.far.hub + 1 ≤ p) others → Both goods
    by goods (inl none) rest = subst Both (sym none) (rest.0, higher others rest.1)
    by goods (inr is) rest = subst Both (sym is.1) ((higher others rest.1, rest.0), (omega arith, higher others rest.1))

-- ---- both

none-by : (w : Word) (name : Labels) (lines : List WholeLine) → first_carrier name lines ≡ None → AllByRecursion (IsBy w name) lines
none-by w name [] none = tt
none-by w name (one l ∷ lines) none = (tt, none-by w name lines none)
none-by w name (far_zone apex serial ∷ lines) none = (tt, none-by w name lines none)
none-by w name (far_client v ∷ lines) none = (tt, none-by w name lines none)
none-by w name (carry v other written ∷ lines) none = by (same_name other name) refl none (λ e. none-by w name lines e)
  where
    by : (b : Bool) → same_name other name ≡ b → (if b then Some v else first_carrier name lines) ≡ None → (first_carrier name lines ≡ None → AllByRecursion (IsBy w name) lines) → (same_name other name ≡ true → bytes_eq w v ≡ true) × AllByRecursion (IsBy w name) lines
    by true is e rest = absurd cc
    by false is e rest = ((λ same. let wrong : true ≡ false = sym same ∙ is in absurd cc), rest e)

any-same : {X : Type 0} (p q : X → Bool) → ((x : X) → p x ≡ q x) → (xs : List X) → list_any p xs ≡ list_any q xs
any-same p q same [] = refl
any-same p q same (x ∷ xs) = (λ i. same x i || any-same p q same xs i)

first-among : (carriers : List Carrier) (w : Word) (name : Labels) (lines : List WholeLine) → AllByRecursion (IsCarriedAmong carriers) lines → first_carrier name lines ≡ Some w → list_any (λ c. bytes_eq c.0 w && same_name c.1 name) carriers ≡ true
first-among carriers w name [] all is = absurd cc
first-among carriers w name (one l ∷ lines) all is = first-among carriers w name lines all.1 is
first-among carriers w name (far_zone apex serial ∷ lines) all is = first-among carriers w name lines all.1 is
first-among carriers w name (far_client v ∷ lines) all is = first-among carriers w name lines all.1 is
first-among carriers w name (carry v other written ∷ lines) all is = by (same_name other name) refl is (λ e. first-among carriers w name lines all.1 e)
  where
    by : (b : Bool) → same_name other name ≡ b → (if b then Some v else first_carrier name lines) ≡ Some w → (first_carrier name lines ≡ Some w → list_any (λ c. bytes_eq c.0 w && same_name c.1 name) carriers ≡ true) → list_any (λ c. bytes_eq c.0 w && same_name c.1 name) carriers ≡ true
    by false same e rest = rest e
    by true same e rest =
        let word : v ≡ w = cc in
        any-same (λ (c : Carrier). bytes_eq c.0 w && same_name c.1 name) (λ c. bytes_eq c.0 v && same_name c.1 other) (λ c i. bytes_eq c.0 (sym word i) && sym (same_name-for_second c.1 other name same) i) carriers ∙ all.0

pub carries-rise : CarriesRise
carries-rise script are name = (by (first_carrier name script) refl, rises-to (map far_of_good (goods_from name script worlds)) (far-rises name script worlds).0)
  where
    worlds : Worlds
    worlds = start_worlds script

    by-client : (w : Word) → AllByRecursion (IsBy w name) script → IsNonDecreasing (map near_of_good (goods_from name script worlds))
    by-client w all =
        let never = (lines-keep (near_lines script) (near-lines script are) w).0 (all_at name) in
        rises-to _ (among-rises _ _ (near-among w name script worlds all) (rises-from (held_points_from w (all_at name) (near_lines script) worlds.near) never))

    by : (o : Option Word) → first_carrier name script ≡ o → IsNonDecreasing (map near_of_good (goods_from name script worlds))
    by None is = by-client [] (none-by [] name script is)
    by (Some w) is = by-client w (all-by are.all are.carriers w name (first-among are.carriers w name script are.carried is) none_known script are.follow)
