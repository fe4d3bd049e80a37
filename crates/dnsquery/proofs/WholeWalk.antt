-- A walk, turn by turn.
--     WalkSoFar      what was written, and what is left of the walk
--     walk-begins, walk-ends, walk-full, walk-back, walk-on      its first turn; it ends; no target is left; it goes to none; it goes on
use Rattle.std.proofs.Common.{◌≡◌, ℕ, zero, suc, ◌+◌, ◌-◌, ◌*◌, ◌<◌, ◌≤◌, Bool, true, false, cond, List, [], ◌∷◌, ◌++◌, length, Option, Some, None, refl, sym, ◌∙◌, ap, arith}
use Rattle.std.specs.Prelude.{flat_map}
use Rattle.std.proofs.lemmas.List.{append-nil, append_assoc, length-append}
use Rattle.dnsname.specs.Names.{Labels}
use Rattle.rrset.specs.Rcodes.{noerror}
use Rattle.rrset.specs.Records.{rr_of}
use Rattle.rrset.specs.RecordSet.{RecordSet}
use Rattle.rrset.specs.declared.record.Question.{Question}
use Rattle.dnswire.specs.Writing.{record_octets}
use Rattle.dnsquery.specs.Replies.{Known, Answered, at_step, ends_here, is_left_out, rrs_of, walk_from}
use Rattle.dnsquery.specs.Steps.{IsStep, IsWalked, joined, leads_to}
use Rattle.dnsquery.specs.declared.walk.Turn.{Turn}

abbrev pub octets_of : RecordSet → List ℕ
octets_of part = flat_map record_octets (rrs_of part)

pub octets-append : (a b : RecordSet) → octets_of (a ++ b) ≡ octets_of a ++ octets_of b
octets-append [] b = refl
octets-append (x ∷ xs) b = ap (λ (l : List ℕ). record_octets (rr_of x.0 x.1) ++ l) (octets-append xs b) ∙ sym (append_assoc (record_octets (rr_of x.0 x.1)) (octets_of xs) (octets_of b))

module _ (known : Known) (question : Question) (most : ℕ) where
  -- where the walk goes on, with so many targets to go to
  abbrev goes : ℕ → List Labels → Labels → Labels → Answered
  goes zero visited name target = ends_here target
  goes (suc more) visited name target = cond (is_left_out known (visited ++ name ∷ []) target) (ends_here target) (walk_from more known question (visited ++ name ∷ []) target)

  from-is : (more : ℕ) (visited : List Labels) (name : Labels) → walk_from more known question visited name ≡ at_step known question name (goes more visited name)
  from-is zero visited name = refl
  from-is (suc more) visited name = refl

  abbrev pub left_of : List Labels → Labels → Answered
  left_of visited name = walk_from (most - length visited) known question visited name

  module _ (whole : Answered) (before : List ℕ) where
    pub record WalkSoFar (out : List ℕ) (visited : List Labels) (name : Labels) (count : ℕ) : Type 0 where
      pub most-is : most ≤ 8
      pub few : length visited ≤ most
      pub small : count ≤ 5454 * length visited
      pub octets : out ++ octets_of (left_of visited name).answers ≡ before ++ octets_of whole.answers
      pub counted : count + length (left_of visited name).answers ≡ length whole.answers
      pub is_rcode : (left_of visited name).rcode ≡ whole.rcode

    pub walk-begins : (name : Labels) → most ≤ 8 → whole ≡ left_of [] name → WalkSoFar before [] name 0
    walk-begins name most-is is = record {
      most-is = most-is;
      few = omega arith;
      small = omega arith;
      octets = ap (λ (a : Answered). before ++ octets_of a.answers) (sym is);
      counted = let same = ap (λ (a : Answered). length a.answers) (sym is) in omega (arith, same);
      is_rcode = ap (λ (a : Answered). a.rcode) (sym is);
    }

    -- the walk's last records
    ends : (out after : List ℕ) (visited : List Labels) (name : Labels) (count : ℕ) (part : RecordSet) (more rcode : ℕ) → WalkSoFar out visited name count
        → after ≡ out ++ octets_of part → more ≡ length part → more ≤ 5454 → left_of visited name ≡ record { rcode = rcode; answers = part } → IsWalked whole before after (count + more) rcode
    ends out after visited name count part more rcode s written more-is small is = record {
      octets = written ∙ ap (λ (a : Answered). out ++ octets_of a.answers) (sym is) ∙ s.octets;
      counted = ap (λ n. count + n) more-is ∙ ap (λ (a : Answered). count + length a.answers) (sym is) ∙ s.counted;
      is_rcode = ap (λ (a : Answered). a.rcode) (sym is) ∙ s.is_rcode;
      small = omega (arith, s.small, s.few, s.most-is, small);
    }

    left-by : (visited : List Labels) (name : Labels) (out after : List ℕ) (turn : Turn) (target : Option Labels) (s : IsStep known question name out after turn) → turn.target ≡ target
        → left_of visited name ≡ leads_to s.part turn.rcode target (goes (most - length visited) visited name)
    left-by visited name out after turn target s is =
        from-is (most - length visited) visited name ∙ s.leads (goes (most - length visited) visited name) ∙ ap (λ t. leads_to s.part turn.rcode t (goes (most - length visited) visited name)) is

    -- without a target
    pub walk-ends : (out after : List ℕ) (visited : List Labels) (name : Labels) (count : ℕ) (turn : Turn) → WalkSoFar out visited name count
        → IsStep known question name out after turn → turn.target ≡ None → IsWalked whole before after (count + turn.count) turn.rcode
    walk-ends out after visited name count turn s step none =
        ends out after visited name count step.part turn.count turn.rcode s step.written step.count step.few (left-by visited name out after turn None step none)

    -- with a target to which it doesn't go
    stops : (part : RecordSet) → joined part (record { rcode = noerror; answers = [] }) ≡ record { rcode = noerror; answers = part }
    stops part = ap (λ (l : RecordSet). record { rcode = noerror; answers = l }) (append-nil part)

    left-none : (visited : List Labels) → length visited ≡ most → most - length visited ≡ 0
    left-none visited e = omega (arith, e)

    pub walk-full : (out after : List ℕ) (visited : List Labels) (name : Labels) (count : ℕ) (turn : Turn) (target : Labels) → WalkSoFar out visited name count
        → IsStep known question name out after turn → turn.target ≡ Some target → length visited ≡ most → IsWalked whole before after (count + turn.count) noerror
    walk-full out after visited name count turn target s step some full =
        ends out after visited name count step.part turn.count noerror s step.written step.count step.few
        (left-by visited name out after turn (Some target) step some
        ∙ ap (λ n. joined step.part (goes n visited name target)) (left-none visited full) ∙ stops step.part)

    left-more : (visited : List Labels) (name : Labels) → length visited < most → most - length visited ≡ suc (most - length (visited ++ name ∷ []))
    left-more visited name h = let long = length-append visited (name ∷ []) in omega (arith, h, long)

    goes-by : (visited : List Labels) (name target : Labels) (part : RecordSet) (gone : Bool) → length visited < most → is_left_out known (visited ++ name ∷ []) target ≡ gone
        → joined part (goes (most - length visited) visited name target) ≡ joined part (cond gone (ends_here target) (left_of (visited ++ name ∷ []) target))
    goes-by visited name target part gone h is =
        ap (λ n. joined part (goes n visited name target)) (left-more visited name h)
        ∙ ap (λ b. joined part (cond b (ends_here target) (left_of (visited ++ name ∷ []) target))) is

    pub walk-back : (out after : List ℕ) (visited : List Labels) (name : Labels) (count : ℕ) (turn : Turn) (target : Labels) → WalkSoFar out visited name count
        → IsStep known question name out after turn → turn.target ≡ Some target → length visited < most → is_left_out known (visited ++ name ∷ []) target ≡ true
        → IsWalked whole before after (count + turn.count) noerror
    walk-back out after visited name count turn target s step some more gone =
        ends out after visited name count step.part turn.count noerror s step.written step.count step.few
        (left-by visited name out after turn (Some target) step some ∙ goes-by visited name target step.part true more gone ∙ stops step.part)

    pub walk-on : (out after : List ℕ) (visited : List Labels) (name : Labels) (count : ℕ) (turn : Turn) (target : Labels) → WalkSoFar out visited name count
        → IsStep known question name out after turn → turn.target ≡ Some target → length visited < most → is_left_out known (visited ++ name ∷ []) target ≡ false
        → WalkSoFar after (visited ++ name ∷ []) target (count + turn.count)
    walk-on out after visited name count turn target s step some more gone =
        let later = visited ++ name ∷ [] in
        let next = left_of later target in
        let left : left_of visited name ≡ joined step.part next = left-by visited name out after turn (Some target) step some ∙ goes-by visited name target step.part false more gone in
        let long = length-append visited (name ∷ []) in
        record {
          most-is = s.most-is;
          few = omega (arith, more, long);
          small = omega (arith, s.small, step.few, long);
          octets =
              ap (λ (l : List ℕ). l ++ octets_of next.answers) step.written
              ∙ append_assoc out (octets_of step.part) (octets_of next.answers)
              ∙ ap (λ (l : List ℕ). out ++ l) (sym (octets-append step.part next.answers))
              ∙ ap (λ (a : Answered). out ++ octets_of a.answers) (sym left)
              ∙ s.octets;
          counted =
              let both = length-append step.part next.answers in
              let same : length (left_of visited name).answers ≡ length (step.part ++ next.answers) = ap (λ (a : Answered). length a.answers) left in
              omega (arith, both, same, step.count, s.counted);
          is_rcode = ap (λ (a : Answered). a.rcode) (sym left) ∙ s.is_rcode;
        }
