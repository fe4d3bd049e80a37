-- A subscriber from its connection to its end.
--     converses-starved, converses-unsent, converses-counted, converses-unspoken, converses-followed      how it ends
--     subscribed-done, subscribed-unread, subscribed-starved, subscribed-unwritten      with what a fault says
use Rattle.std.proofs.Common.{◌≡◌, ◌⊎◌, inl, inr, ℕ, true, false, Option, Result, Ok, Err, List, [], ◌∷◌, ◌++◌, length, refl, sym, ◌∙◌, ap, subst}
use Rattle.std.specs.Prelude.{⊤, codes, fold, OnOk, OnErr, IsErrOf}
use Rattle.std.specs.Io.KnownBytes.{append_known}
use Rattle.push_base.specs.Line.{Read}
use Rattle.push_base.specs.Told.{TellsMore}
use Rattle.pushclient.specs.Rule.{KeptClient}
use Rattle.push_base.specs.Written.{Took, IsFrontOf}
use Rattle.scripts.specs.Words.{line, ended_lines}
use Rattle.scripts.specs.declared.outcome.Outcome.{Outcome}
use Rattle.scripts.specs.declared.outcome.Outcome.TheVariants as outcomes
use Rattle.push_base.proofs.Written.{append_twice}
use Rattle.configurations.specs.Configurations.{Subscribing}
use Rattle.subscriber.specs.declared.fault.Fault.{Fault}
use Rattle.subscriber.specs.declared.fault.Fault.TheVariants as faults
use Rattle.subscriber.specs.Said.{Saying, text_of, ends_with, is_used_up, counted, writes_out, ends_without_turns, turn, connected_at, begun, paired, saying}
use Rattle.subscriber.specs.Standing.{Begins}
use Rattle.subscriber.specs.Turning.{StopsWithin, said_after, Grows, TookAll, Stopped, IsDone, EndsAs, Follows}
use Rattle.subscriber.specs.Subscribed.{Conversed, TellsSaying, Whole, Unread, Starved, AnswersSaying, AsksClock, MayStopWithin, IsSent, Subscribed}
use Rattle.subscriber.proofs.MessageTurns.{ends-at}
use Rattle.subscriber.proofs.Growing.{front-refl, front-behind, grows-trans, grows-ends_at, grows-without_turns}
use Rattle.subscriber.proofs.OneTurn.{is_write, took-none, took-part, all-is-front, front-wider, took-both, took-all-then}
use Rattle.subscriber.proofs.AllReads.{asks-with, no_read, no_memory, tells-none, tells-more, snoc-none, turns-over}

-- ---- before the first read

module _ (configuration : Subscribing) (t : ℕ) where
  -- what is asked goes out
  abbrev asked_out : Saying
  asked_out = writes_out (connected_at configuration t)

  grown : Grows asked_out (begun configuration t)
  grown = grows-trans asked_out (counted asked_out) (begun configuration t) (grows-ends_at configuration.messages (codes "ended messages") asked_out) (grows-without_turns (counted asked_out))

  module _ (reads : Option (List Read)) (moments moments_now : Option (List ℕ)) (told : TellsMore moments moments_now (t ∷ [])) (out wire : Option (List ℕ)) where
    -- no read was made
    unread : {A : Type 0} (out_now wire_now : Option (List ℕ)) (result : Result A Fault) → EndsAs [] [] (begun configuration t) out out_now wire wire_now result → Conversed configuration reads reads moments moments_now out out_now wire wire_now result
    unread out_now wire_now result ends = record {
      read = [];
      asked = t ∷ [];
      reads = tells-none reads;
      moments = told;
      open_before = λ front last e. absurd (snoc-none front last e);
      often = inl (refl, λ h. snoc-none h.0 h.1 h.2);
      ends = ends;
    }

    pub converses-starved : {A : Type 0} → Conversed {A = A} configuration reads reads moments moments_now out out wire wire (Err faults.NoMemory)
    converses-starved = unread out wire (Err faults.NoMemory) (record {
      out = took-none out [] (text_of (begun configuration t)) (text_of (begun configuration t), refl);
      wire = took-none wire [] (begun configuration t).wire ((begun configuration t).wire, refl);
    })

    module _ (kept : KeptClient) (octets : List ℕ) (b : Begins configuration t kept octets) (wire_now : Option (List ℕ)) where
      sent-is : octets ≡ asked_out.wire
      unfolding Begins
      sent-is = b.wire

      pub converses-unsent : {A : Type 0} → Took wire wire_now (λ wrote. IsFrontOf wrote octets) → Conversed {A = A} configuration reads reads moments moments_now out out wire wire_now (Err faults.Write)
      converses-unsent took = unread out wire_now (Err faults.Write) (record {
        out = took-none out [] (text_of (begun configuration t)) (text_of (begun configuration t), refl);
        wire = front-wider wire wire_now [] asked_out.wire (begun configuration t).wire (took-part wire wire_now [] octets asked_out.wire took sent-is) grown.wire;
      })

      module _ (sent : wire_now ≡ append_known wire octets) where
        wire-all : TookAll wire wire_now [] asked_out.wire
        wire-all = (octets, sent, sent-is)

        module _ (used : is_used_up configuration.messages ≡ true) (text : List ℕ) (text_is : text ≡ ended_lines (codes "ended messages" ∷ [])) (out_now : Option (List ℕ)) where
          end-is : begun configuration t ≡ ends_with (codes "ended messages") asked_out
          end-is =
              ap ends_without_turns (ends-at configuration.messages (codes "ended messages") asked_out true used)
              ∙ turns-over (ends_with (codes "ended messages") asked_out) refl

          pub converses-counted : {A : Type 0} (done : A) → out_now ≡ append_known out text → Conversed {A = A} configuration reads reads moments moments_now out out_now wire wire_now (Ok done)
          converses-counted done said = unread out_now wire_now (Ok done) (subst (λ (x : Saying). IsDone [] [] x out out_now wire wire_now) (sym end-is) (record { over = refl; out = (text, said, text_is); wire = wire-all }))

          pub converses-unspoken : {A : Type 0} → Took out out_now (λ wrote. IsFrontOf wrote text) → Conversed {A = A} configuration reads reads moments moments_now out out_now wire wire_now (Err faults.Write)
          converses-unspoken took = unread out_now wire_now (Err faults.Write) (subst (λ (x : Saying). Stopped [] [] x out out_now wire wire_now) (sym end-is) (record {
            out = took-part out out_now [] text (text_of (ends_with (codes "ended messages") asked_out)) took text_is;
            wire = all-is-front wire wire_now [] asked_out.wire wire-all;
          }))

          -- as the write of that ended
          pub converses-told : {A : Type 0} (result : Result A Fault) → OnOk result (out_now ≡ append_known out text) → OnErr result (Took out out_now (λ wrote. IsFrontOf wrote text)) → OnErr result (IsErrOf result faults.Write)
              → Conversed {A = A} configuration reads reads moments moments_now out out_now wire wire_now result
          converses-told (Ok done) whole front fault = converses-counted done whole
          converses-told (Err faults.Write) whole front fault = converses-unspoken front
          converses-told (Err faults.Read) whole front fault = absurd (no_read (is_write faults.Read fault))
          converses-told (Err faults.NoMemory) whole front fault = absurd (no_memory (is_write faults.NoMemory fault))

        -- ---- the reads

        behind : {A : Type 0} (end : Saying) (out_now wire_then : Option (List ℕ)) (result : Result A Fault) → EndsAs [] asked_out.wire end out out_now wire_now wire_then result → EndsAs [] [] end out out_now wire wire_then result
        behind end out_now wire_then (Ok done) e = record { over = e.over; out = e.out; wire = took-both wire wire_now wire_then [] asked_out.wire end.wire wire-all e.wire }
        behind end out_now wire_then (Err faults.Read) e = record { going = e.going; out = e.out; wire = took-both wire wire_now wire_then [] asked_out.wire end.wire wire-all e.wire }
        behind end out_now wire_then (Err faults.Write) e = record { out = e.out; wire = took-all-then wire wire_now wire_then [] asked_out.wire end.wire wire-all e.wire }
        behind end out_now wire_then (Err faults.NoMemory) e = record { out = e.out; wire = took-all-then wire wire_now wire_then [] asked_out.wire end.wire wire-all e.wire }

        pub converses-followed : {A : Type 0} (reads_now : Option (List Read)) (moments_then out_now wire_then : Option (List ℕ)) (result : Result A Fault) → is_used_up configuration.messages ≡ false
            → Follows configuration.turns kept configuration.messages reads reads_now moments_now moments_then out out_now wire_now wire_then result → Conversed configuration reads reads_now moments moments_then out out_now wire wire_then result
        unfolding Begins Follows
        converses-followed reads_now moments_then out_now wire_then result unused follows =
            let f = follows asked_out t b.waits refl in
            let same : asked_out ≡ counted asked_out = sym (ends-at configuration.messages (codes "ended messages") asked_out false unused) in
            let is = λ (front : List Read). ap (λ (x : Saying). fold turn (ends_without_turns x) (paired t front f.asked)) same in
            record {
              read = f.read;
              asked = t ∷ f.asked;
              reads = f.reads;
              moments = tells-more moments moments_now moments_then (t ∷ []) f.asked told f.moments;
              open_before = λ front last e. ap (λ (x : Saying). x.over) (sym (is front)) ∙ f.open_before front last e;
              often = asks-with (λ front. said_after asked_out t front f.asked) (λ front. saying configuration front (t ∷ f.asked)) f.read (length f.asked) (StopsWithin result) (StopsWithin result) is (λ stop. stop) f.often;
              ends = behind (saying configuration f.read (t ∷ f.asked)) out_now wire_then result (subst (λ (x : Saying). EndsAs [] asked_out.wire x out out_now wire_now wire_then result) (is f.read) f.ends);
            }

-- ---- what a fault says

-- what `tell` ensures
abbrev pub Said : Option (List ℕ) → Option (List ℕ) → Outcome → List ℕ → Outcome → Type 0
Said before now outcome text result = Took before now (λ wrote. ((result ≡ outcome) × (wrote ≡ text)) ⊎ ((result ≡ outcomes.WriteFault) × IsFrontOf wrote text))

module _ (cause : Type 0) (configuration : Subscribing) (reads reads_now : Option (List Read)) (moments moments_now out out_now wire wire_now : Option (List ℕ)) where
  pub subscribed-done : {A : Type 0} (done : A) → Conversed configuration reads reads_now moments moments_now out out_now wire wire_now (Ok done) → Subscribed cause configuration reads reads_now moments moments_now out out_now wire wire_now outcomes.Done
  subscribed-done done c = record {
    read = c.read;
    asked = c.asked;
    reads = c.reads;
    moments = c.moments;
    open_before = c.open_before;
    often = c.often;
    out = (c.ends.out.0, c.ends.out.1, inl (Whole c.ends.over refl c.ends.out.2));
    wire = (c.ends.wire.0, c.ends.wire.1, c.ends.wire.2);
  }

  pub subscribed-unwritten : {A : Type 0} → Conversed {A = A} configuration reads reads_now moments moments_now out out_now wire wire_now (Err faults.Write) → Subscribed cause configuration reads reads_now moments moments_now out out_now wire wire_now outcomes.WriteFault
  subscribed-unwritten c = record {
    read = c.read;
    asked = c.asked;
    reads = c.reads;
    moments = c.moments;
    open_before = c.open_before;
    often = c.often;
    out = (c.ends.out.0, c.ends.out.1, inr (refl, inl c.ends.out.2));
    wire = (c.ends.wire.0, c.ends.wire.1, c.ends.wire.2);
  }

  -- a text behind what was said
  module _ (s : Saying) (outcome result : Outcome) (text : List ℕ) (out_then : Option (List ℕ)) (said : Said out_now out_then outcome text result) where
    told-behind : (wrote whole : List ℕ) → out_now ≡ append_known out wrote → wrote ++ text ≡ whole → TellsSaying cause s outcome whole → Took out out_then (AnswersSaying cause s result)
    told-behind wrote whole is all tells = (
      wrote ++ said.0,
      said.1 ∙ ap (λ (o : Option (List ℕ)). append_known o said.0) is ∙ append_twice out wrote said.0,
      by said.2,
    )
      where
        by : ((result ≡ outcome) × (said.0 ≡ text)) ⊎ ((result ≡ outcomes.WriteFault) × IsFrontOf said.0 text) → AnswersSaying cause s result (wrote ++ said.0)
        by (inl full) = inl (subst (λ (o : Outcome). TellsSaying cause s o (wrote ++ said.0)) (sym full.0) (subst (TellsSaying cause s outcome) (sym (ap (λ (l : List ℕ). wrote ++ l) full.1 ∙ all)) tells))
        by (inr cut) = inr (cut.0, inr (outcome, whole, tells, front-behind wrote said.0 text whole cut.1 all))

    sent-front : (wrote : List ℕ) → IsSent s outcome wrote → IsFrontOf wrote s.wire → IsSent s result wrote
    sent-front wrote sent front = by said.2
      where
        by : ((result ≡ outcome) × (said.0 ≡ text)) ⊎ ((result ≡ outcomes.WriteFault) × IsFrontOf said.0 text) → IsSent s result wrote
        by (inl full) = subst (λ (o : Outcome). IsSent s o wrote) (sym full.0) sent
        by (inr cut) = subst (λ (o : Outcome). IsSent s o wrote) (sym cut.0) front

    often-then : (read : List Read) (asked : List ℕ) → AsksClock configuration read asked (MayStopWithin outcome) → AsksClock configuration read asked (MayStopWithin result)
    often-then read asked often = by said.2
      where
        widened : (moments : List ℕ) → AsksClock configuration read moments (MayStopWithin outcome) → AsksClock configuration read moments ⊤
        widened [] none = none
        widened (t ∷ moments) often = asks-with (λ front. saying configuration front (t ∷ moments)) (λ front. saying configuration front (t ∷ moments)) read (length moments) (MayStopWithin outcome) ⊤ (λ front. refl) (λ any. tt) often

        by : ((result ≡ outcome) × (said.0 ≡ text)) ⊎ ((result ≡ outcomes.WriteFault) × IsFrontOf said.0 text) → AsksClock configuration read asked (MayStopWithin result)
        by (inl full) = subst (λ (o : Outcome). AsksClock configuration read asked (MayStopWithin o)) (sym full.0) often
        by (inr cut) = subst (λ (o : Outcome). AsksClock configuration read asked (MayStopWithin o)) (sym cut.0) (widened asked often)

  module _ (result : Outcome) (text : List ℕ) (out_then : Option (List ℕ)) where
    pub subscribed-unread : {A : Type 0} → cause → text ≡ line (codes "read fault") → Conversed {A = A} configuration reads reads_now moments moments_now out out_now wire wire_now (Err faults.Read) → Said out_now out_then outcomes.ReadFault text result
        → Subscribed cause configuration reads reads_now moments moments_now out out_then wire wire_now result
    subscribed-unread why text_is c said =
        let s = saying configuration c.read c.asked in
        let sent : IsFrontOf c.ends.wire.0 s.wire = subst (λ (l : List ℕ). IsFrontOf l s.wire) (sym c.ends.wire.2) (front-refl s.wire) in
        record {
          read = c.read;
          asked = c.asked;
          reads = c.reads;
          moments = c.moments;
          open_before = c.open_before;
          often = often-then s outcomes.ReadFault result text out_then said c.read c.asked c.often;
          out = told-behind s outcomes.ReadFault result text out_then said c.ends.out.0 (c.ends.out.0 ++ text) c.ends.out.1 refl (Unread why c.ends.going refl (λ i. c.ends.out.2 i ++ text_is i));
          wire = (c.ends.wire.0, c.ends.wire.1, sent-front s outcomes.ReadFault result text out_then said c.ends.wire.0 sent sent);
        }

    pub subscribed-starved : {A : Type 0} → text ≡ line (codes "no memory") → Conversed {A = A} configuration reads reads_now moments moments_now out out_now wire wire_now (Err faults.NoMemory) → Said out_now out_then outcomes.NoMemory text result
        → Subscribed cause configuration reads reads_now moments moments_now out out_then wire wire_now result
    subscribed-starved text_is c said =
        let s = saying configuration c.read c.asked in
        record {
          read = c.read;
          asked = c.asked;
          reads = c.reads;
          moments = c.moments;
          open_before = c.open_before;
          often = often-then s outcomes.NoMemory result text out_then said c.read c.asked c.often;
          out = told-behind s outcomes.NoMemory result text out_then said c.ends.out.0 (c.ends.out.0 ++ text) c.ends.out.1 refl (Starved c.ends.out.0 c.ends.out.2 refl (ap (λ (l : List ℕ). c.ends.out.0 ++ l) text_is));
          wire = (c.ends.wire.0, c.ends.wire.1, sent-front s outcomes.NoMemory result text out_then said c.ends.wire.0 c.ends.wire.2 c.ends.wire.2);
        }
