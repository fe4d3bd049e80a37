-- Calls of `give` until so many octets came or it answers that there is no more, turn by turn.
use Rattle.std.specs.Prelude.{nat_le}
use Rattle.std.proofs.lemmas.Bool.{leb-true, leb-false}
use Rattle.std.proofs.Common.{T, eqb→eq, ◌≡◌, ◌⊎◌, inl, inr, ℕ, suc, ◌+◌, ◌-◌, ◌^◌, ◌≤◌, ◌<◌, ◌==◌, Bool, true, false, ◌||◌, List, [], ◌∷◌, ◌++◌, length, drop, min, Option, Some, None, sym, ◌∙◌, ap, subst, refl, arith, append_assoc, append-nil, length-append, ne_eqb}
use Rattle.push_base.specs.Limits.{max_number}
use Rattle.coalesce.specs.Sides.{frame_octets}
use Rattle.dsosession.specs.declared.session.EndReason.{EndReason}
use Rattle.pushserver.specs.declared.given.Given.{Given}
use Rattle.pushserver.specs.declared.given.Given.TheVariants.{Bytes, Worked, Nothing, Ending, End}
use Rattle.pushserver.specs.PlainHubs.{Hub, Giving}
use Rattle.pushserver.specs.Giving.{give}
use Rattle.pushserver.specs.Counting.{octets_of}
use Rattle.pushserver.specs.Calls.{HubCall, gives}
use Rattle.pushserver.specs.Hubs.{session_of}
use Rattle.hubasking.specs.AskingHubs.{AskingHub}
use Rattle.hubasking.specs.LinkAskings.{Askings, plain_questions, confirms_by_turn, behind, asking_after}
use Rattle.pushserver.specs.Simulation.{GivesStand}
use Rattle.replay.specs.PassedOctets.{Emitted, emitted, nothing_emitted, with_giving, enough}
use Rattle.replay.specs.declared.exchanging.Turn.TheVariants.{More, Last}
use Rattle.replay.specs.Askings.{calls_asks}
use Rattle.replay.specs.LineCalls.{emit_calls}
use Rattle.replay.specs.KeptAskings.{StandsFor}
use Rattle.replay.specs.KeptExchanges.{written, turn_of, has_worked, Remembers, IsGiven, Gives, IsEmitted, Allows, Emits, TellsNoted}
use Rattle.replay.proofs.turns.Turns.{emitted-turn, turn}
use Rattle.replay.proofs.exchanges.Walks.{gives-counted, gives-whole, written-given}

-- What calls of give made so far leads to the whole; so many octets are left of those that are allowed, or fewer as no vector has as many.
pub record IsTurning (most limit : ℕ) (whole : Emitted) (asked : Askings) (number turns left : ℕ) (before : List ℕ) (kept : AskingHub) (octets : List ℕ) (told : Option (List (ℕ × ℕ))) (reacted : Bool) : Type 0 where
  pub so_far : Emitted
  pub budget : ℕ
  pub stands : StandsFor kept so_far.hub
  pub written : octets ≡ before ++ so_far.octets
  pub ends : TellsNoted told so_far.filled
  pub reacts : reacted ≡ so_far.reacted
  pub unended : so_far.over ≡ None
  pub counted : left + length so_far.octets ≡ most
  pub allowed : budget + length so_far.octets ≡ limit
  pub same : whole ≡ emitted turns number budget so_far
  pub asks : calls_asks (emit_calls turns number budget so_far.hub) so_far.hub kept.askings ≡ asked

unfoldable pub Turning : ℕ → AskingHub → ℕ → ℕ → ℕ → List ℕ → Option (List (ℕ × ℕ)) → AskingHub → List ℕ → Option (List (ℕ × ℕ)) → Bool → Type 0
Turning most start number turns left before told_before kept octets told reacted = (limit : ℕ) (hub : Hub) (plain : List (ℕ × ℕ)) → Allows most limit → StandsFor start hub → TellsNoted told_before plain
    → IsTurning most limit (emitted enough number limit (nothing_emitted hub plain)) (calls_asks (emit_calls enough number limit hub) hub start.askings) number turns left before kept octets told reacted

begins : (most : ℕ) (start : AskingHub) (number : ℕ) (before : List ℕ) (told : Option (List (ℕ × ℕ))) → Turning most start number enough most before told start before told false
unfolding Turning
begins most start number before told limit hub plain allows stands ends = record {
  so_far = nothing_emitted hub plain;
  budget = limit;
  stands = stands;
  written = sym (append-nil before);
  ends = ends;
  reacts = refl;
  unended = refl;
  counted = omega arith;
  allowed = omega arith;
  same = refl;
  asks = refl;
}

-- a call with as much room as there is, and no more than octets may come
abbrev pub room_in : ℕ → ℕ → ℕ
room_in left size = min left size

or_true : (b : Bool) → (b || true) ≡ true
or_true true = refl
or_true false = refl

or_false : (b : Bool) → (b || false) ≡ b
or_false true = refl
or_false false = refl

module _ (law : GivesStand) (most limit : ℕ) (allows : Allows most limit) (whole : Emitted) (asked : Askings) (number turns left : ℕ) (before : List ℕ) (kept : AskingHub) (octets : List ℕ) (told : Option (List (ℕ × ℕ))) (reacted : Bool)
    (t : IsTurning most limit whole asked number (suc turns) left before kept octets told reacted) (short : length octets < 2 ^ 63) where
  size : length octets ≡ length before + length t.so_far.octets
  size = ap length t.written ∙ length-append before t.so_far.octets

  -- as many are left, or very many
  left_or_many : (t.budget ≡ left) ⊎ (frame_octets ≤ left × frame_octets ≤ t.budget)
  left_or_many = by allows.1
    where
      same_left : (b l o m v : ℕ) → l + o ≡ m → b + o ≡ v → m ≡ v → b ≡ l
      same_left b l o m v c a e = omega arith

      many : (b l o m v n f : ℕ) → l + o ≡ m → b + o ≡ v → m ≤ v → m ≡ 18446744073709551615 → n < 9223372036854775808 → n ≡ f + o → (65537 ≤ l) × (65537 ≤ b)
      many b l o m v n f c a le e h s = (omega (arith, c, e, h, s), omega (arith, c, a, le, e, h, s))

      by : (most ≡ limit) ⊎ (most ≡ max_number) → (t.budget ≡ left) ⊎ (frame_octets ≤ left × frame_octets ≤ t.budget)
      by (inl e) = inl (same_left t.budget left (length t.so_far.octets) most limit t.counted t.allowed e)
      by (inr e) = inr (many t.budget left (length t.so_far.octets) most limit (length octets) (length before) t.counted t.allowed allows.0 e short size)

  -- nothing is left: no octet may come
  pub none_left : left ≡ 0 → t.budget ≡ 0
  none_left e = by left_or_many
    where
      by : (t.budget ≡ left) ⊎ (frame_octets ≤ left × frame_octets ≤ t.budget) → t.budget ≡ 0
      by (inl is) = is ∙ e
      by (inr wide) = absurd (omega (arith, wide.0, e))

  pub used_up_budget : left ≡ 0 → IsEmitted whole asked before kept octets told (record { reacted = reacted; over = None })
  used_up_budget e =
      let is : whole ≡ t.so_far = t.same ∙ ap (λ b. emitted (suc turns) number b t.so_far) (none_left e) in
      record {
        end_told = sym t.unended ∙ sym (ap (λ x. x.over) is);
        reacts = t.reacts ∙ sym (ap (λ x. x.reacted) is);
        written = t.written ∙ sym (ap (λ x. before ++ x.octets) is);
        ends = subst (λ (x : Emitted). TellsNoted told x.filled) (sym is) t.ends;
        stands = subst (λ (x : Emitted). StandsFor kept x.hub) (sym is) t.stands;
        asks = sym (ap (λ (b : ℕ). calls_asks (emit_calls (suc turns) number b t.so_far.hub) t.so_far.hub kept.askings) (none_left e)) ∙ t.asks;
      }

  module _ (size_of_buffer : ℕ) (roomy : frame_octets ≤ size_of_buffer) (some : left ≡ 0 → ⊥) (later : AskingHub) (now : List ℕ) (told_later : Option (List (ℕ × ℕ))) (given : Given)
      (made : (hub : Hub) → StandsFor kept hub → IsGiven (give hub number (room_in left size_of_buffer)) (asking_after plain_questions (gives number (room_in left size_of_buffer)) hub kept.askings) number octets told later now told_later given) where
    some_budget : (t.budget == 0) ≡ false
    some_budget = ne_eqb t.budget 0 (λ e. by e left_or_many)
      where
        by : t.budget ≡ 0 → (t.budget ≡ left) ⊎ (frame_octets ≤ left × frame_octets ≤ t.budget) → ⊥
        by e (inl is) = some (sym is ∙ e)
        by e (inr wide) = omega (arith, wide.1, e)

    -- more room than a frame changes nothing
    same_giving : give t.so_far.hub number t.budget ≡ give t.so_far.hub number (room_in left size_of_buffer)
    same_giving = by left_or_many
      where
        wide : (room : ℕ) → frame_octets ≤ room → give t.so_far.hub number room ≡ give t.so_far.hub number frame_octets
        wide room h = gives-whole law kept.hub t.so_far.hub number room t.stands h

        narrow : (l n : ℕ) → l < frame_octets → frame_octets ≤ n → l ≡ min l n
        narrow l n h r = omega arith

        both_wide : (l n : ℕ) → frame_octets ≤ l → frame_octets ≤ n → frame_octets ≤ min l n
        both_wide l n h r = omega arith

        room_wide : frame_octets ≤ left → give t.so_far.hub number frame_octets ≡ give t.so_far.hub number (room_in left size_of_buffer)
        room_wide h = sym (wide (room_in left size_of_buffer) (both_wide left size_of_buffer h roomy))

        by_size : t.budget ≡ left → (b : Bool) → nat_le frame_octets left ≡ b → give t.so_far.hub number t.budget ≡ give t.so_far.hub number (room_in left size_of_buffer)
        by_size e false less = ap (give t.so_far.hub number) (e ∙ narrow left size_of_buffer (leb-false frame_octets left less) roomy)
        by_size e true more = ap (give t.so_far.hub number) e ∙ wide left (leb-true frame_octets left more) ∙ room_wide (leb-true frame_octets left more)

        by : (t.budget ≡ left) ⊎ (frame_octets ≤ left × frame_octets ≤ t.budget) → give t.so_far.hub number t.budget ≡ give t.so_far.hub number (room_in left size_of_buffer)
        by (inl e) = by_size e (nat_le frame_octets left) refl
        by (inr both) = wide t.budget both.1 ∙ room_wide both.0

    abbrev g : Giving
    g = give t.so_far.hub number (room_in left size_of_buffer)

    abbrev done : IsGiven g (asking_after plain_questions (gives number (room_in left size_of_buffer)) t.so_far.hub kept.askings) number octets told later now told_later given
    done = made t.so_far.hub t.stands

    abbrev then : Emitted
    then = with_giving g number t.so_far

    now_is : now ≡ before ++ then.octets
    now_is = done.written ∙ ap (λ o. o ++ g.octets) t.written ∙ append_assoc before t.so_far.octets g.octets

    ends_then : TellsNoted told_later then.filled
    ends_then = done.ends t.so_far.filled t.ends

    turned : whole ≡ turn (λ n. emitted turns number (t.budget - n) then) (emitted turns number t.budget (record then { reacted = true })) then g.given
    turned = t.same ∙ emitted-turn turns number t.budget t.so_far some_budget g same_giving

    -- what is asked behind the call, and behind those that follow
    abbrev asks_then : Giving → Askings
    asks_then x = behind plain_questions (confirms_by_turn t.so_far.hub (session_of t.so_far.hub number)) x.hub kept.askings

    abbrev calls_then : Giving → Given → List HubCall
    calls_then x w = elim w as (λ _. List HubCall) [
      | Bytes n ↦ emit_calls turns number (t.budget - n) x.hub
      | Worked ↦ emit_calls turns number t.budget x.hub
      | Nothing ↦ []
      | Ending ↦ []
      | End reason ↦ []
    ]

    abbrev asks_by : Giving → Given → Askings
    asks_by x w = calls_asks (calls_then x w) x.hub (asks_then x)

    asks_turned : asks_by g g.given ≡ asked
    asks_turned =
        let first : Giving = give t.so_far.hub number t.budget in
        let one : calls_asks (emit_calls (suc turns) number t.budget t.so_far.hub) t.so_far.hub kept.askings ≡ asks_by first first.given =
        ap (λ (b : Bool). calls_asks (elim b as (λ _. List HubCall) [ true ↦ [] | false ↦ gives number t.budget ∷ calls_then first first.given ]) t.so_far.hub kept.askings) some_budget in
        sym (one ∙ ap (λ (x : Giving). asks_by x x.given) same_giving) ∙ t.asks

    counted : octets_of g.given ≡ length g.octets
    counted = gives-counted t.so_far.hub number (room_in left size_of_buffer)

    size_then : length then.octets ≡ length t.so_far.octets + length g.octets
    size_then = length-append t.so_far.octets g.octets

    abbrev by_given : Given → Emitted
    by_given w = turn (λ n. emitted turns number (t.budget - n) then) (emitted turns number t.budget (record then { reacted = true })) then w

    fewer : (n b o k m v : ℕ) → n ≡ k → n ≤ b → m ≡ o + k → b + o ≡ v → b - n + m ≡ v
    fewer n b o k m v e le f a = omega arith

    same_sum : (b o k m v : ℕ) → 0 ≡ k → m ≡ o + k → b + o ≡ v → b + m ≡ v
    same_sum b o k m v e f a = omega arith

    -- no more octets came than there was room for
    within : octets_of given ≤ room_in left size_of_buffer → (n : ℕ) → g.given ≡ Bytes n → n ≤ left
    within h n e = least n left size_of_buffer (subst (λ (w : Given). octets_of w ≤ room_in left size_of_buffer) (done.answers ∙ e) h)
      where
        least : (n l m : ℕ) → n ≤ min l m → n ≤ l
        least n l m h = omega arith

    within_budget : octets_of given ≤ room_in left size_of_buffer → (n : ℕ) → g.given ≡ Bytes n → n ≤ t.budget
    within_budget h n e = below n left t.budget (length t.so_far.octets) most limit (within h n e) t.counted t.allowed allows.0
      where
        below : (n l b o m v : ℕ) → n ≤ l → l + o ≡ m → b + o ≡ v → m ≤ v → n ≤ b
        below n l b o m v h c a le = omega arith

    goes_on : octets_of given ≤ room_in left size_of_buffer → (w : Given) → g.given ≡ w → turn_of w ≡ More → IsTurning most limit whole asked number turns (left - octets_of w) before later now told_later (reacted || has_worked w)
    goes_on h (Bytes n) e is = record {
      so_far = then;
      budget = t.budget - n;
      stands = done.stands;
      written = now_is;
      ends = ends_then;
      reacts = or_false reacted ∙ t.reacts;
      unended = t.unended;
      counted = fewer n left (length t.so_far.octets) (length g.octets) (length then.octets) most (sym (ap octets_of e) ∙ counted) (within h n e) size_then t.counted;
      allowed = fewer n t.budget (length t.so_far.octets) (length g.octets) (length then.octets) limit (sym (ap octets_of e) ∙ counted) (within_budget h n e) size_then t.allowed;
      same = turned ∙ ap by_given e;
      asks = ap (λ (a : Askings). calls_asks (emit_calls turns number (t.budget - n) g.hub) g.hub a) done.asks ∙ sym (ap (asks_by g) e) ∙ asks_turned;
    }
    goes_on h Worked e is = record {
      so_far = record then { reacted = true };
      budget = t.budget;
      stands = done.stands;
      written = now_is;
      ends = ends_then;
      reacts = or_true reacted;
      unended = t.unended;
      counted = fewer 0 left (length t.so_far.octets) (length g.octets) (length then.octets) most (sym (ap octets_of e) ∙ counted) (omega arith) size_then t.counted;
      allowed = same_sum t.budget (length t.so_far.octets) (length g.octets) (length then.octets) limit (sym (ap octets_of e) ∙ counted) size_then t.allowed;
      same = turned ∙ ap by_given e;
      asks = ap (λ (a : Askings). calls_asks (emit_calls turns number t.budget g.hub) g.hub a) done.asks ∙ sym (ap (asks_by g) e) ∙ asks_turned;
    }
    goes_on h Nothing e is = absurd cc
    goes_on h Ending e is = absurd cc
    goes_on h (End reason) e is = absurd cc

    pub more : octets_of given ≤ room_in left size_of_buffer → turn_of given ≡ More → IsTurning most limit whole asked number turns (left - octets_of given) before later now told_later (reacted || has_worked given)
    more h is = subst (λ (w : Given). IsTurning most limit whole asked number turns (left - octets_of w) before later now told_later (reacted || has_worked w)) (sym done.answers) (goes_on h g.given refl (ap turn_of (sym done.answers) ∙ is))

    same_over : (a b : Option EndReason) → Last a ≡ Last b → a ≡ b
    same_over a b e = cc

    ended : (over : Option EndReason) (x : Emitted) → whole ≡ x → x.hub ≡ g.hub → x.octets ≡ then.octets → x.filled ≡ then.filled → x.reacted ≡ t.so_far.reacted → over ≡ x.over → asks_then g ≡ asked
        → IsEmitted whole asked before later now told_later (record { reacted = reacted || false; over = over })
    ended over x is hub octets filled reacts end asks = record {
      end_told = end ∙ sym (ap (λ (y : Emitted). y.over) is);
      reacts = or_false reacted ∙ t.reacts ∙ sym reacts ∙ sym (ap (λ (y : Emitted). y.reacted) is);
      written = now_is ∙ ap (λ (o : List ℕ). before ++ o) (sym octets) ∙ sym (ap (λ (y : Emitted). before ++ y.octets) is);
      ends = subst (TellsNoted told_later) (sym filled ∙ sym (ap (λ (y : Emitted). y.filled) is)) ends_then;
      stands = subst (StandsFor later) (sym hub ∙ sym (ap (λ (y : Emitted). y.hub) is)) done.stands;
      asks = done.asks ∙ asks;
    }

    is_over : (over : Option EndReason) (w : Given) → g.given ≡ w → turn_of w ≡ Last over → IsEmitted whole asked before later now told_later (record { reacted = reacted || has_worked w; over = over })
    is_over over (Bytes n) e is = absurd cc
    is_over over Worked e is = absurd cc
    is_over over Nothing e is = ended over then (turned ∙ ap by_given e) refl refl refl refl (sym (same_over None over is) ∙ sym t.unended) (sym (ap (asks_by g) e) ∙ asks_turned)
    is_over over Ending e is = ended over then (turned ∙ ap by_given e) refl refl refl refl (sym (same_over None over is) ∙ sym t.unended) (sym (ap (asks_by g) e) ∙ asks_turned)
    is_over over (End reason) e is = ended over (record then { over = Some reason }) (turned ∙ ap by_given e) refl refl refl refl (sym (same_over (Some reason) over is)) (sym (ap (asks_by g) e) ∙ asks_turned)

    pub last : (over : Option EndReason) → turn_of given ≡ Last over → IsEmitted whole asked before later now told_later (record { reacted = reacted || has_worked given; over = over })
    last over is = subst (λ (w : Given). IsEmitted whole asked before later now told_later (record { reacted = reacted || has_worked w; over = over })) (sym done.answers) (is_over over g.given refl (ap turn_of (sym done.answers) ∙ is))

-- all turns are made
pub used_up : (most limit : ℕ) (whole : Emitted) (asked : Askings) (number left : ℕ) (before : List ℕ) (kept : AskingHub) (octets : List ℕ) (told : Option (List (ℕ × ℕ))) (reacted : Bool) → IsTurning most limit whole asked number 0 left before kept octets told reacted
    → IsEmitted whole asked before kept octets told (record { reacted = reacted; over = None })
used_up most limit whole asked number left before kept octets told reacted t = record {
  end_told = sym t.unended ∙ sym (ap (λ x. x.over) t.same);
  reacts = t.reacts ∙ sym (ap (λ x. x.reacted) t.same);
  written = t.written ∙ sym (ap (λ x. before ++ x.octets) t.same);
  ends = subst (λ (x : Emitted). TellsNoted told x.filled) (sym t.same) t.ends;
  stands = subst (λ (x : Emitted). StandsFor kept x.hub) (sym t.same) t.stands;
  asks = t.asks;
}

-- ---- the same of all hubs that are stood for

pub gives-once : (kept later : AskingHub) (number : ℕ) (before octets buffer after : List ℕ) (told told_later : Option (List (ℕ × ℕ))) (given : Given)
    → ((hub : Hub) → StandsFor kept hub → (given ≡ (give hub number (length buffer)).given)
    × (after ≡ (give hub number (length buffer)).octets ++ drop (length (give hub number (length buffer)).octets) buffer) × StandsFor later (give hub number (length buffer)).hub)
    → ((hub : Hub) → StandsFor kept hub → later.askings ≡ asking_after plain_questions (gives number (length buffer)) hub kept.askings)
    → octets ≡ before ++ written given after → ((hub : Hub) → StandsFor later hub → Remembers hub number told told_later) → Gives (length buffer) kept number before told later octets told_later given
unfolding Gives
gives-once kept later number before octets buffer after told told_later given made asks octets_are remembers hub stands =
    let m = made hub stands in
    let g = give hub number (length buffer) in
    record {
      answers = m.0;
      written = octets_are ∙ ap (λ o. before ++ o) ((λ i. written (m.0 i) (m.1 i)) ∙ written-given g.given g.octets buffer (gives-counted hub number (length buffer)));
      ends = remembers g.hub m.2;
      stands = m.2;
      asks = asks hub stands;
    }

pub turning-begins : (most : ℕ) (start : AskingHub) (number : ℕ) (before : List ℕ) (told : Option (List (ℕ × ℕ))) → Turning most start number enough most before told start before told false
turning-begins = begins

pub emits-used_up_budget : GivesStand → (most : ℕ) (start kept : AskingHub) (number turns left : ℕ) (before octets : List ℕ) (told_before told : Option (List (ℕ × ℕ))) (reacted : Bool)
    → Turning most start number (suc turns) left before told_before kept octets told reacted → length octets < 2 ^ 63 → left ≡ 0 → Emits most start number before told_before kept octets told (record { reacted = reacted; over = None })
unfolding Turning Emits
emits-used_up_budget law most start kept number turns left before octets told_before told reacted t short none limit hub plain allows stands ends =
    used_up_budget law most limit allows (emitted enough number limit (nothing_emitted hub plain)) (calls_asks (emit_calls enough number limit hub) hub start.askings) number turns left before kept octets told reacted (t limit hub plain allows stands ends) short none

pub emits-last : GivesStand → (most : ℕ) (start kept later : AskingHub) (number turns left : ℕ) (before octets now : List ℕ) (told_before told told_later : Option (List (ℕ × ℕ))) (reacted : Bool) (size : ℕ) (given : Given) (over : Option EndReason)
    → Turning most start number (suc turns) left before told_before kept octets told reacted → length octets < 2 ^ 63 → frame_octets ≤ size → (left ≡ 0 → ⊥) → Gives (room_in left size) kept number octets told later now told_later given → turn_of given ≡ Last over
    → Emits most start number before told_before later now told_later (record { reacted = reacted || has_worked given; over = over })
unfolding Turning Gives Emits
emits-last law most start kept later number turns left before octets now told_before told told_later reacted size given over t short wide some made is limit hub plain allows stands ends =
    last law most limit allows (emitted enough number limit (nothing_emitted hub plain)) (calls_asks (emit_calls enough number limit hub) hub start.askings) number turns left before kept octets told reacted (t limit hub plain allows stands ends) short size wide some later now told_later given made over is

pub turning-more : GivesStand → (most : ℕ) (start kept later : AskingHub) (number turns left : ℕ) (before octets now : List ℕ) (told_before told told_later : Option (List (ℕ × ℕ))) (reacted : Bool) (size : ℕ) (given : Given)
    → Turning most start number (suc turns) left before told_before kept octets told reacted → length octets < 2 ^ 63 → frame_octets ≤ size → (left ≡ 0 → ⊥) → Gives (room_in left size) kept number octets told later now told_later given
    → octets_of given ≤ room_in left size → turn_of given ≡ More → Turning most start number turns (left - octets_of given) before told_before later now told_later (reacted || has_worked given)
unfolding Turning Gives
turning-more law most start kept later number turns left before octets now told_before told told_later reacted size given t short wide some made bound is limit hub plain allows stands ends =
    more law most limit allows (emitted enough number limit (nothing_emitted hub plain)) (calls_asks (emit_calls enough number limit hub) hub start.askings) number turns left before kept octets told reacted (t limit hub plain allows stands ends) short size wide some later now told_later given made bound is

pub emits-used_up : (most : ℕ) (start kept : AskingHub) (number left turns : ℕ) (before octets : List ℕ) (told_before told : Option (List (ℕ × ℕ))) (reacted : Bool) → turns ≡ 0 → Turning most start number turns left before told_before kept octets told reacted
    → Emits most start number before told_before kept octets told (record { reacted = reacted; over = None })
unfolding Turning Emits
emits-used_up most start kept number left turns before octets told_before told reacted none t limit hub plain allows stands ends =
    let whole = emitted enough number limit (nothing_emitted hub plain) in
    let asked = calls_asks (emit_calls enough number limit hub) hub start.askings in
    used_up most limit whole asked number left before kept octets told reacted (subst (λ (n : ℕ). IsTurning most limit whole asked number n left before kept octets told reacted) none (t limit hub plain allows stands ends))

-- one turn less
pub stepped : (n : ℕ) → (n ≡ 0 → ⊥) → n ≡ suc (n - 1)
stepped n h = omega (arith, h)

pub is_zero : (n : ℕ) → (n == 0) ≡ true → n ≡ 0
is_zero n h = eqb→eq n 0 (subst T (sym h) tt)

pub not_zero : (n : ℕ) → (n == 0) ≡ false → n ≡ 0 → ⊥
not_zero n h e = (let wrong : true ≡ false = sym (ap (λ (m : ℕ). m == 0) e) ∙ h in absurd cc)

pub narrower : (budget size : ℕ) → min (min budget size) size ≡ room_in budget size
narrower budget size = omega arith
