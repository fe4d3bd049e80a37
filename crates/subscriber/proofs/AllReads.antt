-- Reads, one after the other, until an ending is said.
--     Following      so far
--     following-begins, following-more      its turns
--     follows-ended, follows-unread, follows-stopped, follows-spent, follows-unspoken      its exits
use Rattle.std.proofs.Common.{◌≡◌, ◌⊎◌, inl, inr, ℕ, suc, ne_eqb, ◌+◌, ◌-◌, ◌<◌, Bool, true, false, Option, Some, None, Result, Ok, Err, List, [], ◌∷◌, ◌++◌, length, refl, sym, ◌∙◌, ap, subst, arith, append_assoc, append-nil, length-append}
use Rattle.std.specs.Prelude.{codes, fold, OnOk, OnErr, IsErrOf}
use Rattle.std.specs.Io.KnownBytes.{append_known}
use Rattle.std.proofs.lemmas.List.Sums.{fold-append}
use Rattle.push_base.specs.Line.{Read}
use Rattle.push_base.specs.Told.{TellsMore}
use Rattle.pushclient.specs.Rule.{KeptClient}
use Rattle.push_base.specs.Written.{Took, IsFrontOf}
use Rattle.scripts.specs.Words.{ended_lines}
use Rattle.subscriber.specs.declared.fault.Fault.{Fault}
use Rattle.subscriber.specs.declared.fault.Fault.TheVariants as faults
use Rattle.subscriber.specs.Said.{Saying, text_of, ends_with, is_used_up, takes_read, at_moment, ends_without_turns, spends_turn, turn, paired}
use Rattle.subscriber.specs.Standing.{Waits}
use Rattle.subscriber.specs.Turning.{EndsInRead, StopsWithin, AsksBehind, TookAll, Turned, Stopped, Unheard, AtSome, Heard, HeardOn, TurnsAs, Turns, said_after, IsOpenBefore, IsDone, IsUnread, EndsAs, Followed, Follows}
use Rattle.subscriber.proofs.Steps.{said-more}
use Rattle.subscriber.proofs.MessageTurns.{ends-at}
use Rattle.subscriber.proofs.Growing.{left_by, going-before, grows-spent, turns-heard}
use Rattle.subscriber.proofs.OneTurn.{is_write, took-nothing, took-text, took-part, all-is-front, front-wider, took-both, took-all-then}

-- ---- what is told

pub tells-none : {A : Type 0} (o : Option (List A)) → TellsMore o o []
tells-none None = refl
tells-none (Some xs) = sym (append-nil xs)

pub tells-more : {A : Type 0} (a b c : Option (List A)) (xs ys : List A) → TellsMore a b xs → TellsMore b c ys → TellsMore a c (xs ++ ys)
tells-more None None None xs ys f g = refl
tells-more None None (Some c) xs ys f g = absurd (no g)
  where
    no : {A : Type 0} {c : List A} → Some c ≡ None → ⊥
    no h = absurd cc
tells-more None (Some b) c xs ys f g = absurd (no f)
  where
    no : {A : Type 0} {b : List A} → Some b ≡ None → ⊥
    no h = absurd cc
tells-more (Some a) None None xs ys f g = tt
tells-more (Some a) None (Some c) xs ys f g = absurd (no g)
  where
    no : {A : Type 0} {c : List A} → Some c ≡ None → ⊥
    no h = absurd cc
tells-more (Some a) (Some b) None xs ys f g = tt
tells-more (Some a) (Some b) (Some c) xs ys f g = g ∙ ap (λ l. l ++ ys) f ∙ append_assoc a xs ys

-- ---- reads and their moments

abbrev last_of : ℕ → List ℕ → ℕ
last_of t [] = t
last_of t (u ∷ us) = last_of u us

paired-more : (t : ℕ) (reads : List Read) (moments : List ℕ) (r : Read) (u : ℕ) → length reads ≡ length moments → paired t (reads ++ r ∷ []) (moments ++ u ∷ []) ≡ paired t reads moments ++ (r, u) ∷ []
paired-more t [] [] r u same = refl
paired-more t [] (m ∷ ms) r u same = absurd (omega (arith, same))
paired-more t (x ∷ xs) [] r u same = absurd (omega (arith, same))
paired-more t (x ∷ xs) (m ∷ ms) r u same = ap (λ (l : List (Read × ℕ)). (x, m) ∷ l) (paired-more m xs ms r u (omega (arith, same)))

paired-last : (t : ℕ) (reads : List Read) (moments : List ℕ) (r : Read) → length reads ≡ length moments → paired t (reads ++ r ∷ []) moments ≡ paired t reads moments ++ (r, last_of t moments) ∷ []
paired-last t [] [] r same = refl
paired-last t [] (m ∷ ms) r same = absurd (omega (arith, same))
paired-last t (x ∷ xs) [] r same = absurd (omega (arith, same))
paired-last t (x ∷ xs) (m ∷ ms) r same = ap (λ (l : List (Read × ℕ)). (x, m) ∷ l) (paired-last m xs ms r (omega (arith, same)))

paired-unread : (t : ℕ) (reads : List Read) (moments : List ℕ) (u : ℕ) → length reads ≡ length moments → paired t reads (moments ++ u ∷ []) ≡ paired t reads moments
paired-unread t [] [] u same = refl
paired-unread t [] (m ∷ ms) u same = absurd (omega (arith, same))
paired-unread t (x ∷ xs) [] u same = absurd (omega (arith, same))
paired-unread t (x ∷ xs) (m ∷ ms) u same = ap (λ (l : List (Read × ℕ)). (x, m) ∷ l) (paired-unread m xs ms u (omega (arith, same)))

-- the last of a list, and those before it
pub snoc-none : {A : Type 0} (xs : List A) (x : A) → [] ≡ xs ++ x ∷ [] → ⊥
snoc-none xs x e = absurd (omega (arith, ap length e, length-append xs (x ∷ [])))

snoc-front : {A : Type 0} (xs ys : List A) (x y : A) → xs ++ x ∷ [] ≡ ys ++ y ∷ [] → xs ≡ ys
snoc-front [] [] x y e = refl
snoc-front [] (b ∷ ys) x y e = absurd (omega (arith, ap length e, length-append ys (y ∷ [])))
snoc-front (a ∷ xs) [] x y e = absurd (omega (arith, ap length e, length-append xs (x ∷ [])))
snoc-front (a ∷ xs) (b ∷ ys) x y e = (let tails : xs ++ x ∷ [] ≡ ys ++ y ∷ [] = cc in let heads : a ≡ b = cc in (λ i. heads i ∷ snoc-front xs ys x y tails i))

snoc-last : {A : Type 0} (xs ys : List A) (x y : A) → xs ++ x ∷ [] ≡ ys ++ y ∷ [] → x ≡ y
snoc-last [] [] x y e = cc
snoc-last [] (b ∷ ys) x y e = absurd (omega (arith, ap length e, length-append ys (y ∷ [])))
snoc-last (a ∷ xs) [] x y e = absurd (omega (arith, ap length e, length-append xs (x ∷ [])))
snoc-last (a ∷ xs) (b ∷ ys) x y e = (let tails : xs ++ x ∷ [] ≡ ys ++ y ∷ [] = cc in snoc-last xs ys x y tails)

-- ---- how often the clock is asked

-- behind a read in which no ending was said
not-in-read : (says : List Read → Saying) (front : List Read) (r : Read) (s : Saying) → says front ≡ s → (takes_read r s).over ≡ false → EndsInRead says (front ++ r ∷ []) → ⊥
not-in-read says front r s is going (before, last, e, over) = absurd (both (sym going ∙ ap (λ (x : Saying). (takes_read r x).over) (sym is) ∙ (λ i. (takes_read (snoc-last front before r last e i) (says (snoc-front front before r last e i))).over) ∙ over))
  where
    both : false ≡ true → ⊥
    both h = absurd cc

one-more : {A : Type 0} (xs : List A) (x : A) (n : ℕ) → n ≡ length xs → n + 1 ≡ length (xs ++ x ∷ [])
one-more xs x n is = omega (arith, is, length-append xs (x ∷ []))

ends-as : (says same : List Read → Saying) {read : List Read} → ((front : List Read) → says front ≡ same front) → EndsInRead says read → EndsInRead same read
ends-as says same is (front, last, e, over) = (front, last, e, ap (λ (x : Saying). (takes_read last x).over) (sym (is front)) ∙ over)

-- what else may stop it, and what is said in another way
pub asks-with : (says same : List Read → Saying) (read : List Read) (count : ℕ) (stopped wider : Type 0) → ((front : List Read) → says front ≡ same front) → (stopped → wider) → AsksBehind says read count stopped → AsksBehind same read count wider
asks-with says same read count stopped wider is brings (inl (each, unended)) = inl (each, λ h. unended (ends-as same says (λ front. sym (is front)) h))
asks-with says same read count stopped wider is brings (inr (but_last, inl ended)) = inr (but_last, inl (ends-as says same is ended))
asks-with says same read count stopped wider is brings (inr (but_last, inr stop)) = inr (but_last, inr (brings stop))

-- ---- turns

unused : (n : ℕ) → 0 < n → is_used_up (Some n) ≡ false
unused n some = ne_eqb n 0 (omega (arith, some))

pub turns-left : (s : Saying) → s.over ≡ false → 0 < s.turns_left → ends_without_turns s ≡ s
turns-left s going some = ap (left_by s) going ∙ ends-at (Some s.turns_left) (codes "ended turns") s false (unused s.turns_left some)

pub turns-over : (s : Saying) → s.over ≡ true → ends_without_turns s ≡ s
turns-over s over = ap (left_by s) over

turns-spent : (s : Saying) → s.over ≡ false → s.turns_left ≡ 0 → ends_without_turns s ≡ ends_with (codes "ended turns") s
turns-spent s going none = ap (left_by s) going ∙ ends-at (Some s.turns_left) (codes "ended turns") s true (ap (λ (n : ℕ). is_used_up (Some n)) none)

abbrev pub turn_by : Saying → Read × ℕ → Bool → Saying
turn_by s e true = s
turn_by s e false = spends_turn (at_moment e.1 (takes_read e.0 s))

-- ---- so far

-- the reads so far lead to what was said so far
pub record IsFollowing (s : Saying) (t turns : ℕ) (kept : KeptClient) (messages : Option ℕ) (given given_now : Option (List Read)) (clock clock_now printed printed_now sent_to sent_to_now : Option (List ℕ)) : Type 0 where
  pub so_far : Saying
  pub read : List Read
  pub asked : List ℕ
  pub together : length read ≡ length asked
  pub is : said_after s t read asked ≡ ends_without_turns so_far
  pub waits : Waits so_far kept messages
  pub left : so_far.turns_left ≡ turns
  pub reads : TellsMore given given_now read
  pub moments : TellsMore clock clock_now asked
  pub open_before : IsOpenBefore s t read asked
  pub unended : EndsInRead (λ front. said_after s t front asked) read → ⊥
  pub out : TookAll printed printed_now (text_of s) (text_of so_far)
  pub wire : TookAll sent_to sent_to_now s.wire so_far.wire

unfoldable pub Following : ℕ → KeptClient → Option ℕ → ℕ → KeptClient → Option ℕ → Option (List Read) → Option (List Read) → Option (List ℕ) → Option (List ℕ) → Option (List ℕ) → Option (List ℕ) → Option (List ℕ) → Option (List ℕ) → Type 0
Following turns start messages left kept messages_now reads reads_now moments moments_now out out_now wire wire_now =
    (s : Saying) (t : ℕ) → Waits s start messages → s.turns_left ≡ turns → IsFollowing s t left kept messages_now reads reads_now moments moments_now out out_now wire wire_now

pub following-begins : (turns : ℕ) (start : KeptClient) (messages : Option ℕ) (reads : Option (List Read)) (moments out wire : Option (List ℕ)) → Following turns start messages turns start messages reads reads moments moments out out wire wire
unfolding Following
following-begins turns start messages reads moments out wire s t w is = record {
  so_far = s;
  read = [];
  asked = [];
  together = refl;
  is = refl;
  waits = w;
  left = is;
  reads = tells-none reads;
  moments = tells-none moments;
  open_before = λ front last e. absurd (snoc-none front last e);
  unended = λ h. snoc-none h.0 h.1 h.2;
  out = took-nothing out (text_of s);
  wire = took-nothing wire s.wire;
}

-- ---- one read more

module _ (s : Saying) (t left : ℕ) (kept : KeptClient) (messages : Option ℕ) (reads reads_now : Option (List Read)) (moments moments_now out out_now wire wire_now : Option (List ℕ))
    (f : IsFollowing s t left kept messages reads reads_now moments moments_now out out_now wire wire_now) where
  going : f.so_far.over ≡ false
  going = f.waits.stands.going

  module _ (some : 0 < left) where
    -- no ending was said
    open-here : said_after s t f.read f.asked ≡ f.so_far
    open-here = f.is ∙ turns-left f.so_far going (omega (arith, some, f.left))

    -- the reads, the moments, and the one that came last
    record Further (r : Read) (moments_then : Option (List ℕ)) (stopped : Type 0) (P : Saying → Type 0) : Type 0 where
      pub asked : List ℕ
      pub moment : ℕ
      pub told : TellsMore moments moments_then asked
      pub often : AsksBehind (λ front. said_after s t front asked) (f.read ++ r ∷ []) (length asked) stopped
      pub is : said_after s t (f.read ++ r ∷ []) asked ≡ spends_turn (at_moment moment (takes_read r f.so_far))
      pub open_before : IsOpenBefore s t (f.read ++ r ∷ []) asked
      pub holds : P (at_moment moment (takes_read r f.so_far))

    further : (r : Read) (moments_then : Option (List ℕ)) (stopped : Type 0) (P : Saying → Type 0) (asked : List ℕ) (u : ℕ) → TellsMore moments moments_then asked
        → paired t (f.read ++ r ∷ []) asked ≡ paired t f.read f.asked ++ (r, u) ∷ [] → paired t f.read asked ≡ paired t f.read f.asked → AsksBehind (λ front. said_after s t front asked) (f.read ++ r ∷ []) (length asked) stopped
        → P (at_moment u (takes_read r f.so_far)) → Further r moments_then stopped P
    further r moments_then stopped P asked u told pairs front often holds = record {
      asked = asked;
      moment = u;
      told = told;
      often = often;
      is = ap (fold turn (ends_without_turns s)) pairs ∙ fold-append turn (ends_without_turns s) (paired t f.read f.asked) ((r, u) ∷ []) ∙ ap (λ (x : Saying). turn x (r, u)) open-here ∙ ap (turn_by f.so_far (r, u)) going;
      open_before = λ before last e.
          ap (λ (l : List Read). (said_after s t l asked).over) (sym (snoc-front f.read before r last e)) ∙ ap (λ (l : List (Read × ℕ)). (fold turn (ends_without_turns s) l).over) front ∙ ap (λ (x : Saying). x.over) open-here ∙ going;
      holds = holds;
    }

    -- what was said before the read, with a further moment
    with-moment : (u : ℕ) → said_after s t f.read (f.asked ++ u ∷ []) ≡ f.so_far
    with-moment u = ap (fold turn (ends_without_turns s)) (paired-unread t f.read f.asked u f.together) ∙ open-here

    unended-on : (r : Read) (u : ℕ) → (takes_read r f.so_far).over ≡ false → EndsInRead (λ front. said_after s t front (f.asked ++ u ∷ [])) (f.read ++ r ∷ []) → ⊥
    unended-on r u still = not-in-read (λ front. said_after s t front (f.asked ++ u ∷ [])) f.read r f.so_far (with-moment u) still

    together-on : (r : Read) (u : ℕ) → length (f.asked ++ u ∷ []) ≡ length (f.read ++ r ∷ [])
    together-on r u = omega (arith, f.together, length-append f.read (r ∷ []), length-append f.asked (u ∷ []))

    further-on : (r : Read) (moments_then : Option (List ℕ)) (stopped : Type 0) (P : Saying → Type 0) (u : ℕ) → TellsMore moments_now moments_then (u ∷ []) → (takes_read r f.so_far).over ≡ false
        → P (at_moment u (takes_read r f.so_far)) → Further r moments_then stopped P
    further-on r moments_then stopped P u told still holds =
        further r moments_then stopped P (f.asked ++ u ∷ []) u (tells-more moments moments_now moments_then f.asked (u ∷ []) f.moments told) (paired-more t f.read f.asked r u f.together) (paired-unread t f.read f.asked u f.together)
        (inl (together-on r u, unended-on r u still)) holds

    -- an ending that was said in the read, or what stopped it there
    often-but-last : (r : Read) (stopped : Type 0) → ((takes_read r f.so_far).over ≡ true) ⊎ stopped → AsksBehind (λ front. said_after s t front f.asked) (f.read ++ r ∷ []) (length f.asked) stopped
    often-but-last r stopped (inl over) = inr (one-more f.read r (length f.asked) (sym f.together), inl (f.read, r, refl, ap (λ (x : Saying). (takes_read r x).over) open-here ∙ over))
    often-but-last r stopped (inr stop) = inr (one-more f.read r (length f.asked) (sym f.together), inr stop)

    further-some : (r : Read) (moments_then : Option (List ℕ)) (stopped : Type 0) (P : Saying → Type 0) → AtSome (takes_read r f.so_far).over stopped moments_now moments_then (λ u. P (at_moment u (takes_read r f.so_far)))
        → Further r moments_then stopped P
    further-some r moments_then stopped P (inl same) =
        further r moments_then stopped P f.asked (last_of t f.asked) (subst (λ (o : Option (List ℕ)). TellsMore moments o f.asked) (sym same.0) f.moments) (paired-last t f.read f.asked r f.together) refl
        (often-but-last r stopped same.1) (same.2 (last_of t f.asked))
    further-some r moments_then stopped P (inr one) = further-on r moments_then stopped P one.1 one.2 one.0 one.3

    module _ (later : KeptClient) (messages_then : Option ℕ) (reads_then : Option (List Read)) (moments_then out_then wire_then : Option (List ℕ)) where
      reads-told : (r : Read) → TellsMore reads_now reads_then (r ∷ []) → TellsMore reads reads_then (f.read ++ r ∷ [])
      reads-told r told = tells-more reads reads_now reads_then f.read (r ∷ []) f.reads told

      -- an ending
      pub is-ended : {A : Type 0} (done : A) → Heard ⊥ reads_now reads_then moments_now moments_then f.so_far (λ end. Turned f.so_far end later messages_then out_now out_then wire_now wire_then true)
          → Followed {A = A} s t reads reads_then moments moments_then out out_then wire wire_then (Ok done)
      is-ended done h =
          let g = further-some h.0 moments_then ⊥ (λ end. Turned f.so_far end later messages_then out_now out_then wire_now wire_then true) h.2 in
          let e = at_moment g.moment (takes_read h.0 f.so_far) in
          let spent : Saying = record e { turns_left = e.turns_left - 1 } in
          let end : said_after s t (f.read ++ h.0 ∷ []) g.asked ≡ spent = g.is ∙ turns-over spent (sym g.holds.over) in
          record {
            read = f.read ++ h.0 ∷ [];
            asked = g.asked;
            reads = reads-told h.0 h.1;
            moments = g.told;
            open_before = g.open_before;
            often = g.often;
            ends = subst (λ (x : Saying). IsDone (text_of s) s.wire x out out_then wire wire_then) (sym end) (record {
              over = sym g.holds.over;
              out = took-both out out_now out_then (text_of s) (text_of f.so_far) (text_of e) f.out g.holds.out;
              wire = took-both wire wire_now wire_then s.wire f.so_far.wire e.wire f.wire g.holds.wire;
            });
          }

      -- want of memory, or a failed write
      stops : (r : Read) (stopped : Type 0) (g : Further r moments_then stopped (λ end. Stopped (text_of f.so_far) f.so_far.wire end out_now out_then wire_now wire_then))
          → Stopped (text_of s) s.wire (said_after s t (f.read ++ r ∷ []) g.asked) out out_then wire wire_then
      stops r stopped g =
          let e = at_moment g.moment (takes_read r f.so_far) in
          let w = grows-spent e in
          let x = spends_turn e in
          subst (λ (y : Saying). Stopped (text_of s) s.wire y out out_then wire wire_then) (sym g.is) (record {
            out = front-wider out out_then (text_of s) (text_of e) (text_of x) (took-all-then out out_now out_then (text_of s) (text_of f.so_far) (text_of e) f.out g.holds.out) w.text;
            wire = front-wider wire wire_then s.wire e.wire x.wire (took-all-then wire wire_now wire_then s.wire f.so_far.wire e.wire f.wire g.holds.wire) w.wire;
          })

      stopped-at : {A : Type 0} (result : Result A Fault) → Heard (StopsWithin result) reads_now reads_then moments_now moments_then f.so_far (λ end. Stopped (text_of f.so_far) f.so_far.wire end out_now out_then wire_now wire_then)
          → ((x : Saying) → Stopped (text_of s) s.wire x out out_then wire wire_then → EndsAs (text_of s) s.wire x out out_then wire wire_then result)
          → Followed s t reads reads_then moments moments_then out out_then wire wire_then result
      stopped-at result h ends =
          let g = further-some h.0 moments_then (StopsWithin result) (λ end. Stopped (text_of f.so_far) f.so_far.wire end out_now out_then wire_now wire_then) h.2 in
          record {
            read = f.read ++ h.0 ∷ [];
            asked = g.asked;
            reads = reads-told h.0 h.1;
            moments = g.told;
            open_before = g.open_before;
            often = g.often;
            ends = ends (said_after s t (f.read ++ h.0 ∷ []) g.asked) (stops h.0 (StopsWithin result) g);
          }

      -- a read that failed
      unread-at : {A : Type 0} → Unheard reads_now reads_then moments_now moments_then out_now out_then wire_now wire_then → Followed {A = A} s t reads reads_then moments moments_then out out_then wire wire_then (Err faults.Read)
      unread-at u = record {
        read = f.read;
        asked = f.asked;
        reads = subst (TellsMore reads reads_then) (append-nil f.read) (tells-more reads reads_now reads_then f.read [] f.reads u.reads);
        moments = subst (λ (o : Option (List ℕ)). TellsMore moments o f.asked) (sym u.moments) f.moments;
        open_before = f.open_before;
        often = inl (sym f.together, f.unended);
        ends = subst (λ (x : Saying). IsUnread (text_of s) s.wire x out out_then wire wire_then) (sym open-here) (record {
          going = going;
          out = subst (λ (o : Option (List ℕ)). TookAll out o (text_of s) (text_of f.so_far)) (sym u.out) f.out;
          wire = subst (λ (o : Option (List ℕ)). TookAll wire o s.wire f.so_far.wire) (sym u.wire) f.wire;
        });
      }

      pub is-stopped : {A : Type 0} (fault : Fault) → TurnsAs f.so_far later messages_then reads_now reads_then moments_now moments_then out_now out_then wire_now wire_then (Err fault)
          → Followed {A = A} s t reads reads_then moments moments_then out out_then wire wire_then (Err fault)
      is-stopped faults.Read h = unread-at h
      is-stopped faults.Write h = stopped-at (Err faults.Write) h (λ x y. y)
      is-stopped faults.NoMemory h = stopped-at (Err faults.NoMemory) h (λ x y. y)

      -- no ending
      pub is-going : (fewer : ℕ) → left ≡ suc fewer → HeardOn reads_now reads_then moments_now moments_then f.so_far (λ end. Turned f.so_far end later messages_then out_now out_then wire_now wire_then false)
          → IsFollowing s t fewer later messages_then reads reads_then moments moments_then out out_then wire wire_then
      unfolding further-on further
      is-going fewer less h =
          let e = at_moment h.2 (takes_read h.0 f.so_far) in
          let still = going-before h.2 (takes_read h.0 f.so_far) (sym h.4.over) in
          let g = further-on h.0 moments_then ⊥ (λ end. Turned f.so_far end later messages_then out_now out_then wire_now wire_then false) h.2 h.3 still h.4 in
          let w = h.4.waits (sym h.4.over) in
          record {
            so_far = record e { turns_left = e.turns_left - 1 };
            read = f.read ++ h.0 ∷ [];
            asked = f.asked ++ h.2 ∷ [];
            together = sym (together-on h.0 h.2);
            is = g.is;
            waits = record {
              stands = record { connection = w.stands.connection; there = w.stands.there; bare = w.stands.bare; stands = w.stands.stands; octets = w.stands.octets; going = w.stands.going; messages_left = w.stands.messages_left };
              none = w.none;
            };
            left = omega (arith, less, f.left, turns-heard h.0 h.2 f.so_far);
            reads = reads-told h.0 h.1;
            moments = g.told;
            open_before = g.open_before;
            unended = unended-on h.0 h.2 still;
            out = took-both out out_now out_then (text_of s) (text_of f.so_far) (text_of e) f.out h.4.out;
            wire = took-both wire wire_now wire_then s.wire f.so_far.wire e.wire f.wire h.4.wire;
          }

  -- no turn is left
  module _ (none : left ≡ 0) (text : List ℕ) (text_is : text ≡ ended_lines (codes "ended turns" ∷ [])) (out_then : Option (List ℕ)) where
    ended-here : said_after s t f.read f.asked ≡ ends_with (codes "ended turns") f.so_far
    ended-here = f.is ∙ turns-spent f.so_far going (f.left ∙ none)

    behind : text_of f.so_far ++ text ≡ text_of (ends_with (codes "ended turns") f.so_far)
    behind = said-more f.so_far.lines (codes "ended turns" ∷ []) (text_of f.so_far) text (text_of f.so_far ++ text) refl text_is refl

    pub is-spent : {A : Type 0} (done : A) → out_then ≡ append_known out_now text → Followed {A = A} s t reads reads_now moments moments_now out out_then wire wire_now (Ok done)
    is-spent done said = record {
      read = f.read;
      asked = f.asked;
      reads = f.reads;
      moments = f.moments;
      open_before = f.open_before;
      often = inl (sym f.together, f.unended);
      ends = subst (λ (x : Saying). IsDone (text_of s) s.wire x out out_then wire wire_now) (sym ended-here) (record {
        over = refl;
        out = took-both out out_now out_then (text_of s) (text_of f.so_far) (text_of (ends_with (codes "ended turns") f.so_far)) f.out (took-text out_now out_then (text_of f.so_far) text (text_of (ends_with (codes "ended turns") f.so_far)) said behind);
        wire = f.wire;
      });
    }

    pub is-unspoken : {A : Type 0} → Took out_now out_then (λ wrote. IsFrontOf wrote text) → Followed {A = A} s t reads reads_now moments moments_now out out_then wire wire_now (Err faults.Write)
    is-unspoken took = record {
      read = f.read;
      asked = f.asked;
      reads = f.reads;
      moments = f.moments;
      open_before = f.open_before;
      often = inl (sym f.together, f.unended);
      ends = subst (λ (x : Saying). Stopped (text_of s) s.wire x out out_then wire wire_now) (sym ended-here) (record {
        out = took-all-then out out_now out_then (text_of s) (text_of f.so_far) (text_of (ends_with (codes "ended turns") f.so_far)) f.out (took-part out_now out_then (text_of f.so_far) text (text_of (ends_with (codes "ended turns") f.so_far)) took behind);
        wire = all-is-front wire wire_now s.wire f.so_far.wire f.wire;
      });
    }

-- ---- the same of all that may have been said

pub no_read : faults.Read ≡ faults.Write → ⊥
no_read e = absurd cc

pub no_memory : faults.NoMemory ≡ faults.Write → ⊥
no_memory e = absurd cc

module _ (turns : ℕ) (start : KeptClient) (messages : Option ℕ) (left : ℕ) (kept : KeptClient) (messages_now : Option ℕ) (reads reads_now : Option (List Read)) (moments moments_now out out_now wire wire_now : Option (List ℕ))
    (so : Following turns start messages left kept messages_now reads reads_now moments moments_now out out_now wire wire_now) where
  module _ (some : 0 < left) (later : KeptClient) (messages_then : Option ℕ) (reads_then : Option (List Read)) (moments_then out_then wire_then : Option (List ℕ)) where
    pub follows-ended : {A : Type 0} (done : A) → Turns kept messages_now later messages_then reads_now reads_then moments_now moments_then out_now out_then wire_now wire_then (Ok true)
        → Follows {A = A} turns start messages reads reads_then moments moments_then out out_then wire wire_then (Ok done)
    unfolding Following Turns Follows
    follows-ended done turned s t w is =
        let f = so s t w is in
        is-ended s t left kept messages_now reads reads_now moments moments_now out out_now wire wire_now f some later messages_then reads_then moments_then out_then wire_then done (turned f.so_far f.waits)

    pub follows-stopped : (A : Type 0) (fault : Fault) → Turns kept messages_now later messages_then reads_now reads_then moments_now moments_then out_now out_then wire_now wire_then (Err fault)
        → Follows {A = A} turns start messages reads reads_then moments moments_then out out_then wire wire_then (Err fault)
    unfolding Following Turns Follows
    follows-stopped A fault turned s t w is =
        let f = so s t w is in
        is-stopped s t left kept messages_now reads reads_now moments moments_now out out_now wire wire_now f some later messages_then reads_then moments_then out_then wire_then fault (turned f.so_far f.waits)

    pub following-more : (fewer : ℕ) → left ≡ suc fewer → Turns kept messages_now later messages_then reads_now reads_then moments_now moments_then out_now out_then wire_now wire_then (Ok false)
        → Following turns start messages fewer later messages_then reads reads_then moments moments_then out out_then wire wire_then
    unfolding Following Turns
    following-more fewer less turned s t w is =
        let f = so s t w is in
        is-going s t left kept messages_now reads reads_now moments moments_now out out_now wire wire_now f some later messages_then reads_then moments_then out_then wire_then fewer less (turned f.so_far f.waits)

  module _ (none : left ≡ 0) (text : List ℕ) (text_is : text ≡ ended_lines (codes "ended turns" ∷ [])) (out_then : Option (List ℕ)) where
    pub follows-spent : {A : Type 0} (done : A) → out_then ≡ append_known out_now text → Follows {A = A} turns start messages reads reads_now moments moments_now out out_then wire wire_now (Ok done)
    unfolding Following Follows
    follows-spent done said s t w is = is-spent s t left kept messages_now reads reads_now moments moments_now out out_now wire wire_now (so s t w is) none text text_is out_then done said

    pub follows-unspoken : (A : Type 0) → Took out_now out_then (λ wrote. IsFrontOf wrote text) → Follows {A = A} turns start messages reads reads_now moments moments_now out out_then wire wire_now (Err faults.Write)
    unfolding Following Follows
    follows-unspoken A took s t w is = is-unspoken s t left kept messages_now reads reads_now moments moments_now out out_now wire wire_now (so s t w is) none text text_is out_then took

    -- as the write of that ended
    pub follows-told : {A : Type 0} (result : Result A Fault) → OnOk result (out_then ≡ append_known out_now text) → OnErr result (Took out_now out_then (λ wrote. IsFrontOf wrote text)) → OnErr result (IsErrOf result faults.Write)
        → Follows {A = A} turns start messages reads reads_now moments moments_now out out_then wire wire_now result
    follows-told (Ok done) whole front fault = follows-spent done whole
    follows-told {A} (Err faults.Write) whole front fault = follows-unspoken A front
    follows-told (Err faults.Read) whole front fault = absurd (no_read (is_write faults.Read fault))
    follows-told (Err faults.NoMemory) whole front fault = absurd (no_memory (is_write faults.NoMemory fault))
