-- One read, and what follows it.
--     turns-unheard, turns-starved, turns-unsaid, turns-over, turns-starved-later, turns-unsent, turns-unsaid-later, turns-passed      its exits
use Rattle.std.proofs.Common.{◌≡◌, inl, inr, ℕ, Bool, true, false, Option, Some, None, Result, Ok, Err, List, [], ◌∷◌, ◌++◌, refl, sym, ◌∙◌, ap, subst, append_assoc, append-nil}
use Rattle.std.specs.Prelude.{IsErrOf}
use Rattle.std.specs.Io.KnownBytes.{append_known}
use Rattle.push_base.specs.Line.{Read}
use Rattle.push_base.specs.Told.{TellsMore}
use Rattle.pushclient.specs.Rule.{KeptClient}
use Rattle.push_base.specs.Written.{IsFrontOf, Took}
use Rattle.push_base.proofs.Written.{append_twice}
use Rattle.subscriber.specs.declared.fault.Fault.{Fault}
use Rattle.subscriber.specs.declared.fault.Fault.TheVariants as faults
use Rattle.subscriber.specs.Said.{Saying, text_of, takes_read, at_moment}
use Rattle.subscriber.specs.Standing.{Waits, Hears, Passes}
use Rattle.subscriber.specs.Turning.{TookAll, TookFront, Turned, Turns, TurnsAs}
use Rattle.subscriber.proofs.Growing.{front-refl, front-trans, front-behind, wire-read, grows-read, grows-moment, moment-over}

-- ---- a failed write

abbrev fault_of : {T : Type 0} → Result T Fault → Fault
fault_of (Ok done) = faults.Write
fault_of (Err fault) = fault

pub is_write : {T : Type 0} (fault : Fault) → IsErrOf {T = T} (Err fault) faults.Write → fault ≡ faults.Write
is_write fault e = ap fault_of e

-- ---- what an output took

append-none : (o : Option (List ℕ)) → o ≡ append_known o []
append-none None = refl
append-none (Some xs) = ap (λ (l : List ℕ). Some l) (sym (append-nil xs))

pub took-none : (o : Option (List ℕ)) (had whole : List ℕ) → IsFrontOf had whole → TookFront o o had whole
took-none o had whole f = ([], append-none o, subst (λ (l : List ℕ). IsFrontOf l whole) (sym (append-nil had)) f)

pub took-nothing : (o : Option (List ℕ)) (had : List ℕ) → TookAll o o had had
took-nothing o had = ([], append-none o, append-nil had)

-- all of a text behind what there was, and a front of it
pub took-text : (o now : Option (List ℕ)) (had text whole : List ℕ) → now ≡ append_known o text → had ++ text ≡ whole → TookAll o now had whole
took-text o now had text whole is all = (text, is, all)

pub took-part : (o now : Option (List ℕ)) (had text whole : List ℕ) → Took o now (λ wrote. IsFrontOf wrote text) → had ++ text ≡ whole → TookFront o now had whole
took-part o now had text whole took all = (took.0, took.1, front-behind had took.0 text whole took.2 all)

pub all-is-front : (o now : Option (List ℕ)) (had whole : List ℕ) → TookAll o now had whole → TookFront o now had whole
all-is-front o now had whole took = (took.0, took.1, subst (λ (l : List ℕ). IsFrontOf l whole) (sym took.2) (front-refl whole))

pub front-wider : (o now : Option (List ℕ)) (had whole wider : List ℕ) → TookFront o now had whole → IsFrontOf whole wider → TookFront o now had wider
front-wider o now had whole wider took f = (took.0, took.1, front-trans (had ++ took.0) whole wider took.2 f)

-- one text behind another
pub took-both : (o between now : Option (List ℕ)) (had middle whole : List ℕ) → TookAll o between had middle → TookAll between now middle whole → TookAll o now had whole
took-both o between now had middle whole first second = (
  first.0 ++ second.0,
  second.1 ∙ ap (λ (x : Option (List ℕ)). append_known x second.0) first.1 ∙ append_twice o first.0 second.0,
  sym (append_assoc had first.0 second.0) ∙ ap (λ (l : List ℕ). l ++ second.0) first.2 ∙ second.2,
)

pub took-all-then : (o between now : Option (List ℕ)) (had middle whole : List ℕ) → TookAll o between had middle → TookFront between now middle whole → TookFront o now had whole
took-all-then o between now had middle whole first second = (
  first.0 ++ second.0,
  second.1 ∙ ap (λ (x : Option (List ℕ)). append_known x second.0) first.1 ∙ append_twice o first.0 second.0,
  subst (λ (l : List ℕ). IsFrontOf l whole) (ap (λ (l : List ℕ). l ++ second.0) (sym first.2) ∙ append_assoc had first.0 second.0) second.2,
)

-- ---- before the clock is asked

module _ (kept later : KeptClient) (messages messages_now : Option ℕ) (reads reads_now : Option (List Read)) (moments wire out : Option (List ℕ)) where
  pub turns-unheard : TellsMore reads reads_now [] → Turns kept messages later messages_now reads reads_now moments moments out out wire wire (Err faults.Read)
  unfolding Turns
  turns-unheard told s w = record { reads = told; moments = refl; out = refl; wire = refl }

  pub turns-starved : (read : Read) → TellsMore reads reads_now (read ∷ []) → Turns kept messages later messages_now reads reads_now moments moments out out wire wire (Err faults.NoMemory)
  unfolding Turns
  turns-starved read told s w =
      let x = takes_read read s in
      let g = grows-read read s in (
        read,
        told,
        inl (
          refl,
          inr tt,
          λ t. (let h = grows-moment t x in record {
            out = took-none out (text_of s) (text_of (at_moment t x)) (front-trans (text_of s) (text_of x) (text_of (at_moment t x)) g.text h.text);
            wire = took-none wire s.wire (at_moment t x).wire (front-trans s.wire x.wire (at_moment t x).wire g.wire h.wire);
          }),
        ),
      )

  module _ (out_now : Option (List ℕ)) (read : Read) (text : List ℕ) (over : Bool) (told : TellsMore reads reads_now (read ∷ [])) (hears : Hears kept messages read later messages_now text over) where
    pub turns-unsaid : Took out out_now (λ wrote. IsFrontOf wrote text) → Turns kept messages later messages_now reads reads_now moments moments out out_now wire wire (Err faults.Write)
    unfolding Turns Hears
    turns-unsaid took s w =
        let x = takes_read read s in
        let g = grows-read read s in
        let h = hears s w in (
          read,
          told,
          inl (
            refl,
            inr tt,
            λ t. (let m = grows-moment t x in record {
              out = front-wider out out_now (text_of s) (text_of x) (text_of (at_moment t x)) (took-part out out_now (text_of s) text (text_of x) took h.says) m.text;
              wire = took-none wire s.wire (at_moment t x).wire (front-trans s.wire x.wire (at_moment t x).wire g.wire m.wire);
            }),
          ),
        )

-- ---- once the read was said

module _ (kept between : KeptClient) (messages messages_now : Option ℕ) (reads reads_now : Option (List Read)) (moments wire out out_between : Option (List ℕ)) (read : Read) (text : List ℕ)
    (told : TellsMore reads reads_now (read ∷ [])) (said : out_between ≡ append_known out text) where
  pub turns-over : (over : Bool) → over ≡ true → Hears kept messages read between messages_now text over → Turns kept messages between messages_now reads reads_now moments moments out out_between wire wire (Ok true)
  unfolding Turns Hears
  turns-over over is hears s w =
      let x = takes_read read s in
      let h = hears s w in (
        read,
        told,
        inl (
          refl,
          inl (sym h.ends ∙ is),
          λ t. subst (λ (e : Saying). Turned s e between messages_now out out_between wire wire true) (sym (moment-over t x (sym h.ends ∙ is))) (record {
            out = took-text out out_between (text_of s) text (text_of x) said h.says;
            wire = subst (TookAll wire wire s.wire) (sym (wire-read read s)) (took-nothing wire s.wire);
            over = sym is ∙ h.ends;
            waits = h.waits;
          }),
        ),
      )

  module _ (over : Bool) (going : over ≡ false) (hears : Hears kept messages read between messages_now text over) (moments_now : Option (List ℕ)) (t : ℕ) (asked : TellsMore moments moments_now (t ∷ [])) where
    -- no ending was said in the read
    unended : (s : Saying) → Waits s kept messages → (takes_read read s).over ≡ false
    unfolding Hears
    unended s w = sym (hears s w).ends ∙ going

    -- the client waits before its moment
    waiting : (s : Saying) → Waits s kept messages → Waits (takes_read read s) between messages_now
    unfolding Hears
    waiting s w = (hears s w).waits (unended s w)

    before : (s : Saying) → Waits s kept messages → TookAll out out_between (text_of s) (text_of (takes_read read s))
    unfolding Hears
    before s w = took-text out out_between (text_of s) text (text_of (takes_read read s)) said (hears s w).says

    wire-before : (s : Saying) → TookAll wire wire s.wire (takes_read read s).wire
    wire-before s = subst (TookAll wire wire s.wire) (sym (wire-read read s)) (took-nothing wire s.wire)

    pub turns-starved-later : (later : KeptClient) → Turns kept messages later messages_now reads reads_now moments moments_now out out_between wire wire (Err faults.NoMemory)
    unfolding Turns
    turns-starved-later later s w =
        let x = takes_read read s in
        let e = at_moment t x in
        let m = grows-moment t x in (
          read,
          told,
          inr (
            unended s w,
            t,
            asked,
            record {
              out = front-wider out out_between (text_of s) (text_of x) (text_of e) (all-is-front out out_between (text_of s) (text_of x) (before s w)) m.text;
              wire = front-wider wire wire s.wire x.wire e.wire (all-is-front wire wire s.wire x.wire (wire-before s)) m.wire;
            },
          ),
        )

    module _ (later : KeptClient) (wire_now : Option (List ℕ)) (octets text_then : List ℕ) (over_then : Bool) (passes : Passes between messages_now t later octets text_then over_then) where
      pub turns-unsent : Took wire wire_now (λ wrote. IsFrontOf wrote octets) → Turns kept messages later messages_now reads reads_now moments moments_now out out_between wire wire_now (Err faults.Write)
      unfolding Turns Passes
      turns-unsent took s w =
          let x = takes_read read s in
          let e = at_moment t x in
          let p = passes x (waiting s w) in
          let m = grows-moment t x in (
            read,
            told,
            inr (
              unended s w,
              t,
              asked,
              record {
                out = front-wider out out_between (text_of s) (text_of x) (text_of e) (all-is-front out out_between (text_of s) (text_of x) (before s w)) m.text;
                wire = took-all-then wire wire wire_now s.wire x.wire e.wire (wire-before s) (took-part wire wire_now x.wire octets e.wire took p.wire);
              },
            ),
          )

      module _ (out_now : Option (List ℕ)) (sent : wire_now ≡ append_known wire octets) where
        wire-then : (s : Saying) → Waits s kept messages → TookAll wire wire_now s.wire (at_moment t (takes_read read s)).wire
        unfolding Passes
        wire-then s w =
            let x = takes_read read s in
            let e = at_moment t x in
            took-both wire wire wire_now s.wire x.wire e.wire (wire-before s) (took-text wire wire_now x.wire octets e.wire sent (passes x (waiting s w)).wire)

        pub turns-unsaid-later : Took out_between out_now (λ wrote. IsFrontOf wrote text_then) → Turns kept messages later messages_now reads reads_now moments moments_now out out_now wire wire_now (Err faults.Write)
        unfolding Turns Passes
        turns-unsaid-later took s w =
            let x = takes_read read s in
            let e = at_moment t x in
            let p = passes x (waiting s w) in (
              read,
              told,
              inr (
                unended s w,
                t,
                asked,
                record {
                  out = took-all-then out out_between out_now (text_of s) (text_of x) (text_of e) (before s w) (took-part out_between out_now (text_of x) text_then (text_of e) took p.said.says);
                  wire = all-is-front wire wire_now s.wire e.wire (wire-then s w);
                },
              ),
            )

        turned : (s : Saying) → Waits s kept messages → out_now ≡ append_known out_between text_then → Turned s (at_moment t (takes_read read s)) later messages_now out out_now wire wire_now over_then
        unfolding Passes
        turned s w said_then =
            let x = takes_read read s in
            let e = at_moment t x in
            let p = passes x (waiting s w) in
            record {
              out = took-both out out_between out_now (text_of s) (text_of x) (text_of e) (before s w) (took-text out_between out_now (text_of x) text_then (text_of e) said_then p.said.says);
              wire = wire-then s w;
              over = p.said.ends;
              waits = p.said.waits;
            }

        pub turns-passed : out_now ≡ append_known out_between text_then → Turns kept messages later messages_now reads reads_now moments moments_now out out_now wire wire_now (Ok over_then)
        unfolding Turns
        turns-passed said_then s w = by over_then (turned s w said_then)
          where
            by : (result : Bool) → Turned s (at_moment t (takes_read read s)) later messages_now out out_now wire wire_now result → TurnsAs s later messages_now reads reads_now moments moments_now out out_now wire wire_now (Ok result)
            by true h = (read, told, inr (unended s w, t, asked, h))
            by false h = (read, told, t, asked, h)
