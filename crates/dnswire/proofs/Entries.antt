-- Questions and records that are read are those that are spelled.
use Rattle.std.proofs.Common.{◌≡◌, ℕ, ◌+◌, ◌<◌, ◌≤◌, Bool, true, false, cond, ltb, Option, Some, None, List, length, take, Result, Ok, Err, refl, sym, ap, subst, ◌∙◌, arith}
use Rattle.std.specs.Prelude.{slice_range, flat_map, MatchBool}
use Rattle.std.specs.Int.{Width, w16, w32, byte_len, from_be_bytes}
use Rattle.std.specs.List.{AllByRecursion}
use Rattle.std.proofs.lemmas.Bool.{ltb-false, le-ltb}
use Rattle.push_base.specs.Cases.{◌>>=◌, fault_as}
use Rattle.dnsname.specs.Names.{Labels}
use Rattle.dnsname.specs.Reading.{name_at, name_up_to}
use Rattle.dnsname.specs.Spelling.{SpellsNameAt}
use Rattle.dnsname.proofs.PointerReading.{name_in-name}
use Rattle.dnsname.proofs.FoundNames.{below_at, name_in-found}
use Rattle.rrset.specs.Rdata.{Part, field_octets, fields_from, shape, rdata_at}
use Rattle.rrset.specs.declared.record.Rr.{Rr}
use Rattle.rrset.specs.declared.record.Question.{Question}
use Rattle.rrset.specs.Spelling.{SpellsShape}
use Rattle.dnswire.specs.Spelling.{SpellsNumber, SpellsQuestion, SpellsRecord}
use Rattle.dnswire.specs.Reading.{number_at, question_at, rdata_of, record_at}
use Rattle.dnswire.specs.declared.message.WireFault.{WireFault}
use Rattle.dnswire.specs.declared.message.WireFault.TheVariants.{Short, Name, Rdata}
use Rattle.dnswire.proofs.Fields.{name_read, fields-spelled, fields-found}

-- ---- steps

abbrev pub done : {A E : Type 0} → A → Result A E
done x = Ok x

pub then_done : {A B E : Type 0} (r : Result A E) (next : A → Result B E) (x : A) (y : B) → r ≡ done x → next x ≡ done y → (r >>= next) ≡ done y
then_done r next x y e f = ap (λ r. r >>= next) e ∙ f

pub done_then : {A B E : Type 0} (r : Result A E) (next : A → Result B E) (y : B) → (r >>= next) ≡ done y → (x : A) × (r ≡ done x) × (next x ≡ done y)
done_then (Ok x) next y e = (x, refl, e)
done_then (Err f) next y e = absurd cc

pub done_as : {A E F : Type 0} (f : E → F) (r : Result A E) (x : A) → fault_as f r ≡ done x → r ≡ done x
done_as f (Ok y) x e = let same : y ≡ x = cc in ap (λ y. Ok y) same
done_as f (Err g) x e = absurd cc

pub same_done : {A E : Type 0} (x y : A) → done {E = E} x ≡ done y → x ≡ y
same_done x y e = cc

-- ---- numbers

pub number-spelled : (w : Width) (message : List ℕ) (at n after : ℕ) → SpellsNumber w message at n after → number_at w message at ≡ done (n, after)
number-spelled w message at n after (ends, within, is) =
    let whole : ltb (length message) (at + byte_len w) ≡ false = le-ltb _ _ (omega (arith, ends, within)) in
    ap (λ (b : Bool). cond {A = Result (ℕ × ℕ) WireFault} b (Err (Short (length message))) (Ok (from_be_bytes w (slice_range message at (at + byte_len w)), at + byte_len w))) whole
    ∙ ap (λ (e : ℕ). done (from_be_bytes w (slice_range message at e), e)) (sym ends)
    ∙ ap (λ (k : ℕ). done (k, after)) (sym is)

pub number-found : (w : Width) (message : List ℕ) (at : ℕ) (found : ℕ × ℕ) → number_at w message at ≡ done found → SpellsNumber w message at found.0 found.1
number-found w message at found e = by_test (ltb (length message) (at + byte_len w)) refl e
  where
    by_test : (b : Bool) → ltb (length message) (at + byte_len w) ≡ b
        → cond {A = Result (ℕ × ℕ) WireFault} b (Err (Short (length message))) (Ok (from_be_bytes w (slice_range message at (at + byte_len w)), at + byte_len w)) ≡ done found
        → SpellsNumber w message at found.0 found.1
    by_test true t e = absurd cc
    by_test false t e =
        let same : (from_be_bytes w (slice_range message at (at + byte_len w)), at + byte_len w) ≡ found = cc in
        subst (λ (x : ℕ × ℕ). SpellsNumber w message at x.0 x.1) same (refl, ltb-false _ _ t, refl)

number-moved : (w : Width) (message : List ℕ) (at at' n after after' : ℕ) → SpellsNumber w message at n after → at ≡ at' → after ≡ after' → SpellsNumber w message at' n after'
number-moved w message at at' n after after' s e f = subst (λ (k : ℕ). SpellsNumber w message k n after') e (subst (λ (k : ℕ). SpellsNumber w message at n k) f s)

-- ---- questions

name-done : (message : List ℕ) (at after : ℕ) (name : Labels) → SpellsNameAt message at name after → fault_as Name (name_at message at) ≡ done (name, after)
name-done message at after name is = let read : name_at message at ≡ name_read name after = name_in-name _ _ _ _ _ is in ap (fault_as Name) read

name-found : (message : List ℕ) (at : ℕ) (found : Labels × ℕ) → AllByRecursion (λ o. o < 256) message → fault_as Name (name_at message at) ≡ done found → SpellsNameAt message at found.0 found.1
name-found message at found below e = name_in-found message message at found.1 found.0 (below_at message below) (below_at message below) (done_as Name (name_at message at) found e)

pub question-spelled : (message : List ℕ) (at : ℕ) (question : Question) (after : ℕ) → SpellsQuestion message at question after → question_at message at ≡ done (question, after)
question-spelled message at question after s =
    then_done _ _ (question.name, s.name_end) _ (name-done message at s.name_end question.name s.name)
    (then_done _ _ (question.kind, s.name_end + 2) _ (number-spelled w16 message s.name_end question.kind (s.name_end + 2) s.kind)
    (then_done _ _ (question.class, after) _ (number-spelled w16 message (s.name_end + 2) question.class after s.class) refl))

pub question-found : (message : List ℕ) → AllByRecursion (λ o. o < 256) message → (at : ℕ) (found : Question × ℕ) → question_at message at ≡ done found → SpellsQuestion message at found.0 found.1
question-found message below at found e =
    let name = done_then _ _ _ e in
    let kind = done_then _ _ _ name.2 in
    let class = done_then _ _ _ kind.2 in
    let kind-is = number-found w16 message name.0.1 kind.0 kind.1 in
    let class-is = number-found w16 message kind.0.1 class.0 class.1 in
    let same = same_done _ found class.2 in
    subst (λ (x : Question × ℕ). SpellsQuestion message at x.0 x.1) same (record {
      name_end = name.0.1;
      name = name-found message at name.0 below name.1;
      kind = number-moved w16 message _ _ kind.0.0 kind.0.1 (name.0.1 + 2) kind-is refl kind-is.0;
      class = number-moved w16 message kind.0.1 (name.0.1 + 2) class.0.0 class.0.1 class.0.1 class-is kind-is.0 refl;
    })

-- ---- rdata

shaped-spelled : (message : List ℕ) (at end : ℕ) (rdata : List ℕ) (parts : Option (List Part)) → end ≤ length message → SpellsShape parts message at end rdata
    → elim parts [ None ↦ done (slice_range message at end) | Some parts ↦ fields_from (λ _. name_up_to end message) parts (take end message) at >>= λ fields. Ok (flat_map field_octets fields) ] ≡ done {E = ℕ} rdata
shaped-spelled message at end rdata None h is = ap (λ (x : List ℕ). done x) (sym is)
shaped-spelled message at end rdata (Some parts) h (fields, spelled, is) =
    then_done _ (λ fields. Ok (flat_map field_octets fields)) fields rdata (fields-spelled message end h parts at fields spelled) (ap (λ (x : List ℕ). done x) (sym is))

shaped-found : (message : List ℕ) (at end : ℕ) (rdata : List ℕ) (parts : Option (List Part)) → AllByRecursion (λ o. o < 256) message → at ≤ end → end ≤ length message
    → elim parts [ None ↦ done (slice_range message at end) | Some parts ↦ fields_from (λ _. name_up_to end message) parts (take end message) at >>= λ fields. Ok (flat_map field_octets fields) ] ≡ done {E = ℕ} rdata
    → SpellsShape parts message at end rdata
shaped-found message at end rdata None below begins h e = sym (same_done _ _ e)
shaped-found message at end rdata (Some parts) below begins h e =
    let all = done_then _ _ rdata e in
    (all.0, fields-found message end h below parts at all.0 begins all.1, sym (same_done _ _ all.2))

by_shape-spelled : (b : Bool) (kind : ℕ) (message : List ℕ) (at end : ℕ) (rdata : List ℕ) → end ≤ length message → MatchBool b (SpellsShape (shape kind) message at end rdata) (rdata ≡ slice_range message at end)
    → cond {A = Result (List ℕ) WireFault} b (fault_as Rdata (rdata_at kind message at end)) (Ok (slice_range message at end)) ≡ done rdata
by_shape-spelled true kind message at end rdata h s = ap (fault_as Rdata) (shaped-spelled message at end rdata (shape kind) h s)
by_shape-spelled false kind message at end rdata h s = ap (λ (x : List ℕ). done x) (sym s)

by_shape-found : (b : Bool) (kind : ℕ) (message : List ℕ) (at end : ℕ) (rdata : List ℕ) → AllByRecursion (λ o. o < 256) message → at ≤ end → end ≤ length message
    → cond {A = Result (List ℕ) WireFault} b (fault_as Rdata (rdata_at kind message at end)) (Ok (slice_range message at end)) ≡ done rdata
    → MatchBool b (SpellsShape (shape kind) message at end rdata) (rdata ≡ slice_range message at end)
by_shape-found true kind message at end rdata below begins h e = shaped-found message at end rdata (shape kind) below begins h (done_as Rdata (rdata_at kind message at end) rdata e)
by_shape-found false kind message at end rdata below begins h e = sym (same_done _ _ e)

rdata-spelled : (b : Bool) (kind : ℕ) (message : List ℕ) (at n after : ℕ) (rdata : List ℕ) → after ≡ at + n → after ≤ length message → MatchBool b (SpellsShape (shape kind) message at after rdata) (rdata ≡ slice_range message at after)
    → rdata_of b kind message at n ≡ done (rdata, after)
rdata-spelled b kind message at n after rdata ends within s =
    let here : at + n ≤ length message = omega (arith, ends, within) in
    let whole : ltb (length message) (at + n) ≡ false = le-ltb _ _ here in
    let s' = subst (λ (e : ℕ). MatchBool b (SpellsShape (shape kind) message at e rdata) (rdata ≡ slice_range message at e)) ends s in
    let read : (cond {A = Result (List ℕ) WireFault} b (fault_as Rdata (rdata_at kind message at (at + n))) (Ok (slice_range message at (at + n))) >>= λ rdata. Ok (rdata, at + n)) ≡ done (rdata, after) =
    then_done _ _ rdata _ (by_shape-spelled b kind message at (at + n) rdata here s') (ap (λ (e : ℕ). done (rdata, e)) (sym ends)) in
    ap (λ (t : Bool). cond {A = Result (List ℕ × ℕ) WireFault} t (Err (Short (length message))) (cond {A = Result (List ℕ) WireFault} b (fault_as Rdata (rdata_at kind message at (at + n))) (Ok (slice_range message at (at + n))) >>= λ rdata. Ok (rdata, at + n))) whole
    ∙ read

-- rdata of so many octets that is read
record RdataFound (b : Bool) (kind : ℕ) (message : List ℕ) (at n : ℕ) (found : List ℕ × ℕ) : Type 0 where
  pub ends : found.1 ≡ at + n
  pub within : found.1 ≤ length message
  pub spelled : MatchBool b (SpellsShape (shape kind) message at found.1 found.0) (found.0 ≡ slice_range message at found.1)

rdata-found : (b : Bool) (kind : ℕ) (message : List ℕ) (at n : ℕ) (found : List ℕ × ℕ) → AllByRecursion (λ o. o < 256) message → rdata_of b kind message at n ≡ done found → RdataFound b kind message at n found
rdata-found b kind message at n found below e = by_test (ltb (length message) (at + n)) refl e
  where
    by_test : (t : Bool) → ltb (length message) (at + n) ≡ t
        → cond {A = Result (List ℕ × ℕ) WireFault} t (Err (Short (length message))) (cond {A = Result (List ℕ) WireFault} b (fault_as Rdata (rdata_at kind message at (at + n))) (Ok (slice_range message at (at + n))) >>= λ rdata. Ok (rdata, at + n)) ≡ done found
        → RdataFound b kind message at n found
    by_test true t e = absurd cc
    by_test false t e =
        let starts : at ≤ at + n = omega arith in
        let here = ltb-false _ _ t in
        let r = done_then {A = List ℕ} _ _ found e in
        let same = same_done _ found r.2 in
        subst (RdataFound b kind message at n) same (record { ends = refl; within = here; spelled = by_shape-found b kind message at (at + n) r.0 below starts here r.1 })

-- ---- records

pub record-spelled : (test : ℕ → ℕ → Bool) (message : List ℕ) (at : ℕ) (rr : Rr) (after : ℕ) → SpellsRecord test message at rr after → record_at test message at ≡ done (rr, after)
record-spelled test message at rr after s =
    let p = s.owner_end in
    then_done _ _ (rr.owner, p) _ (name-done message at p rr.owner s.owner)
    (then_done _ _ (rr.kind, p + 2) _ (number-spelled w16 message p rr.kind (p + 2) s.kind)
    (then_done _ _ (rr.class, p + 4) _ (number-spelled w16 message (p + 2) rr.class (p + 4) s.class)
    (then_done _ _ (rr.ttl, p + 8) _ (number-spelled w32 message (p + 4) rr.ttl (p + 8) s.ttl)
    (then_done _ _ (s.size, p + 10) _ (number-spelled w16 message (p + 8) s.size (p + 10) s.length_field)
    (then_done _ _ (rr.rdata, after) _ (rdata-spelled (test rr.class s.size) rr.kind message (p + 10) s.size after rr.rdata s.whole.0 s.whole.1 s.rdata) refl)))))

pub record-found : (test : ℕ → ℕ → Bool) (message : List ℕ) → AllByRecursion (λ o. o < 256) message → (at : ℕ) (found : Rr × ℕ) → record_at test message at ≡ done found → SpellsRecord test message at found.0 found.1
record-found test message below at found e =
    let owner = done_then {A = Labels × ℕ} _ _ found e in
    let kind = done_then {A = ℕ × ℕ} _ _ found owner.2 in
    let class = done_then {A = ℕ × ℕ} _ _ found kind.2 in
    let ttl = done_then {A = ℕ × ℕ} _ _ found class.2 in
    let size = done_then {A = ℕ × ℕ} _ _ found ttl.2 in
    let rdata = done_then {A = List ℕ × ℕ} _ _ found size.2 in
    let p = owner.0.1 in
    let kind-is = number-found w16 message p kind.0 kind.1 in
    let class-is = number-found w16 message kind.0.1 class.0 class.1 in
    let ttl-is = number-found w32 message class.0.1 ttl.0 ttl.1 in
    let size-is = number-found w16 message ttl.0.1 size.0 size.1 in
    let rdata-is = rdata-found (test class.0.0 size.0.0) kind.0.0 message size.0.1 size.0.0 rdata.0 below rdata.1 in
    let at_class : kind.0.1 ≡ p + 2 = kind-is.0 in
    let at_ttl : class.0.1 ≡ p + 4 = omega (arith, at_class, class-is.0) in
    let at_size : ttl.0.1 ≡ p + 8 = omega (arith, at_ttl, ttl-is.0) in
    let at_rdata : size.0.1 ≡ p + 10 = omega (arith, at_size, size-is.0) in
    let ends : rdata.0.1 ≡ p + 10 + size.0.0 = omega (arith, rdata-is.ends, at_rdata) in
    let same = same_done _ found rdata.2 in
    subst (λ (x : Rr × ℕ). SpellsRecord test message at x.0 x.1) same (record {
      owner_end = p;
      size = size.0.0;
      owner = name-found message at owner.0 below owner.1;
      kind = number-moved w16 message p p kind.0.0 kind.0.1 (p + 2) kind-is refl at_class;
      class = number-moved w16 message kind.0.1 (p + 2) class.0.0 class.0.1 (p + 4) class-is at_class at_ttl;
      ttl = number-moved w32 message class.0.1 (p + 4) ttl.0.0 ttl.0.1 (p + 8) ttl-is at_ttl at_size;
      length_field = number-moved w16 message ttl.0.1 (p + 8) size.0.0 size.0.1 (p + 10) size-is at_size at_rdata;
      whole = (ends, rdata-is.within);
      rdata = subst (λ (k : ℕ). MatchBool (test class.0.0 size.0.0) (SpellsShape (shape kind.0.0) message k rdata.0.1 rdata.0.0) (rdata.0.0 ≡ slice_range message k rdata.0.1)) at_rdata rdata-is.spelled;
    })
