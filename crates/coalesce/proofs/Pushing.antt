-- One PUSH of the first names of a queue.
--     IsAhead nets rest size      so many octets are in the message, and what goes in behind them is packed of the rest
use Rattle.std.proofs.Common.{◌≡◌, ◌⊎◌, inl, inr, ℕ, ◌+◌, ◌-◌, ◌<◌, ◌≤◌, ◌≢◌, Bool, true, false, List, [], ◌∷◌, ◌++◌, map, length, drop, take, append_assoc, append-nil, sym, subst, ap, refl, ◌∙◌, arith}
use Rattle.std.specs.Prelude.{flat_map, nat_le, ◌||◌, ◌==◌, IsTrue}
use Rattle.std.specs.Int.{w16, to_be_bytes}
use Rattle.std.proofs.lemmas.Bool.{leb-true, eqb-true}
use Rattle.std.proofs.lemmas.List.{length-append, length-map}
use Rattle.dnsname.specs.Names.{Labels}
use Rattle.rrset.specs.RecordSet.{RecordSet, at_name}
use Rattle.subscr.specs.Asked.{Asked, wants}
use Rattle.dsotlv.specs.Answers.{push_message}
use Rattle.dsotlv.specs.Notices.{notice_octets}
use Rattle.dsotlv.specs.declared.message.Notice.{Notice}
use Rattle.coalesce.specs.Laws.{all_notices, can_be_sent}
use Rattle.coalesce.specs.Net.{net, packed, packed_behind, max_push, size_of_notices, push_frame, max_net_frame, max_net_size, Nets}
use Rattle.coalesce.specs.Sides.{AreOfOneName, frame_octets}
use Rattle.coalesce.specs.Steps.{head_of}
use Rattle.coalesce.specs.Waiting.{WaitingName, old_side, new_side, IsPackable, asked_net, left_in, nets_in, packed_of, records_then}
use Rattle.coalesce.proofs.NetSizes.{size_of_notices-append, net-takes, length-push_message}
use Rattle.coalesce.proofs.Sides.{parts_stay_sides}
use Rattle.coalesce.proofs.Forms.{net_small}
use Rattle.coalesce.proofs.Packing.{packs_the_front}

-- ---- both sides of a name, as questions ask for them

pub record IsReady (asked : Asked) (rows : RecordSet) (w : WaitingName) (left right : RecordSet) : Type 0 where
  pub sides : AreOfOneName left right
  pub sent : IsTrue (can_be_sent right)
  pub same : net left right ≡ asked_net asked rows w
  pub small : size_of_notices (asked_net asked rows w) ≤ max_net_size

pub ready : (asked : Asked) (rows : RecordSet) (w : WaitingName) (left right : RecordSet) → IsPackable rows w → left ≡ old_side asked rows w → right ≡ new_side asked rows w → IsReady asked rows w left right
ready asked rows w left right ((name, old, new), can) left-is right-is =
    let before = (parts_stay_sides name (λ key. wants key asked) (records_then rows w) old).0 in
    let after = parts_stay_sides name (λ key. wants key asked) (at_name w.name rows) new in
    let sides : AreOfOneName (old_side asked rows w) (new_side asked rows w) = (name, before, after.0) in
    let small = net_small (old_side asked rows w) (new_side asked rows w) sides (after.1 can) in
    record {
      sides = subst (λ l. AreOfOneName l right) (sym left-is) (subst (AreOfOneName (old_side asked rows w)) (sym right-is) sides);
      sent = subst (λ l. IsTrue (can_be_sent l)) (sym right-is) (after.1 can);
      same = λ i. net (left-is i) (right-is i);
      small = omega (arith, small);
    }

-- ---- how far the message goes

pub record IsAhead (nets rest : Nets) (size : ℕ) : Type 0 where
  pub left : (packed_behind size rest).1 ≡ (packed nets).1
  pub sum : size + size_of_notices (packed_behind size rest).0 ≡ size_of_notices (packed nets).0
  pub most : size ≤ max_net_size

-- a name with nothing to tell
pub ahead_silent : (nets rest : Nets) (size : ℕ) (name : Labels) (ns : List Notice) → IsAhead nets ((name, ns) ∷ rest) size → size_of_notices ns ≡ 0 → IsAhead nets rest size
ahead_silent nets rest size name [] ahead none = record { left = ahead.left; sum = ahead.sum; most = ahead.most }
ahead_silent nets rest size name (n ∷ ns) ahead none = absurd (omega (arith, none, net-takes n ns))

-- what is packed of a name that tells something
abbrev first_packed : Bool → ℕ → Labels → List Notice → Nets → List Notice × List Labels
first_packed true size name ns rest = (ns ++ (packed_behind (size + size_of_notices ns) rest).0, (packed_behind (size + size_of_notices ns) rest).1)
first_packed false size name ns rest = ([], name ∷ map (λ e. e.0) rest)

packed_behind-first : (size : ℕ) (name : Labels) (ns : List Notice) (rest : Nets) (b : Bool) → size_of_notices ns ≢ 0 → (size == 0 || nat_le (16 + size + size_of_notices ns) max_push) ≡ b
    → packed_behind size ((name, ns) ∷ rest) ≡ first_packed b size name ns rest
packed_behind-first size name [] rest b some is = absurd (some refl)
packed_behind-first size name (n ∷ ns) rest b some is = by (size == 0 || nat_le (16 + size + size_of_notices (n ∷ ns)) max_push) ∙ ap (λ t. first_packed t size name (n ∷ ns) rest) is
  where
    by : (t : Bool) → elim t as (λ _. List Notice × List Labels) [ true ↦ ((n ∷ ns) ++ (packed_behind (size + size_of_notices (n ∷ ns)) rest).0, (packed_behind (size + size_of_notices (n ∷ ns)) rest).1) | false ↦ ([], name ∷ map (λ e. e.0) rest) ]
        ≡ first_packed t size name (n ∷ ns) rest
    by true = refl
    by false = refl

-- a net that goes in
pub ahead_more : (nets rest : Nets) (size : ℕ) (name : Labels) (ns : List Notice) → IsAhead nets ((name, ns) ∷ rest) size → size_of_notices ns ≢ 0 → size_of_notices ns ≤ max_net_size
    → (size == 0 || nat_le (16 + size + size_of_notices ns) max_push) ≡ true → IsAhead nets rest (size + size_of_notices ns)
ahead_more nets rest size name ns ahead some alone fits =
    let is = packed_behind-first size name ns rest true some fits in
    let sum = ap (λ p. size + size_of_notices p.0) is in
    let split = size_of_notices-append ns (packed_behind (size + size_of_notices ns) rest).0 in
    record {
      left = sym (ap (λ p. p.1) is) ∙ ahead.left;
      sum = added size (size_of_notices ns) (size_of_notices (packed_behind (size + size_of_notices ns) rest).0) _ _ sum split ∙ ahead.sum;
      most = small size (size_of_notices ns) alone (by (size == 0) refl fits);
    }
  where
    added : (a b c d e : ℕ) → e ≡ a + d → d ≡ b + c → a + b + c ≡ e
    added a b c d e h g = omega arith

    by : (z : Bool) → (size == 0) ≡ z → (z || nat_le (16 + size + size_of_notices ns) max_push) ≡ true → (size ≡ 0) ⊎ (16 + size + size_of_notices ns ≤ max_push)
    by true is h = inl (eqb-true size 0 is)
    by false is h = inr (leb-true (16 + size + size_of_notices ns) max_push h)

    small : (a b : ℕ) → b ≤ max_net_size → (a ≡ 0) ⊎ (16 + a + b ≤ max_push) → a + b ≤ max_net_size
    small a b h (inl e) = omega arith
    small a b h (inr e) = omega arith

-- the same, of a size that was counted
pub turn_more : (nets rest : Nets) (size : ℕ) (name : Labels) (ns : List Notice) (more : ℕ) → IsAhead nets ((name, ns) ∷ rest) size → more ≡ size_of_notices ns → 0 < more → more ≤ max_net_size
    → (size == 0 || nat_le (16 + size + more) max_push) ≡ true → IsAhead nets rest (size + more)
turn_more nets rest size name ns more ahead is some alone fits =
    subst (IsAhead nets rest) (ap (λ m. size + m) (sym is))
    (ahead_more nets rest size name ns ahead (λ e. absurd (omega (arith, e, is, some))) (subst (λ m. m ≤ max_net_size) is alone) (sym (ap (λ m. size == 0 || nat_le (16 + size + m) max_push) is) ∙ fits))

pub turn_silent : (nets rest : Nets) (size : ℕ) (name : Labels) (ns : List Notice) (more : ℕ) → IsAhead nets ((name, ns) ∷ rest) size → more ≡ size_of_notices ns → more ≤ 0 → IsAhead nets rest size
turn_silent nets rest size name ns more ahead is none = ahead_silent nets rest size name ns ahead (omega arith)

-- ---- the names that go

first_of : {X Y : Type 0} (f : X → Y) (gone left : List Y) (queue : List X) → map f queue ≡ gone ++ left → map f (take (length gone) queue) ≡ gone
first_of f [] left queue h = refl
first_of f (g ∷ gone) left [] h = cc
first_of f (g ∷ gone) left (w ∷ queue) h =
    let heads : f w ≡ g = cc in
    let tails : map f queue ≡ gone ++ left = cc in
    λ i. heads i ∷ first_of f gone left queue tails i

-- what goes is what the first names tell
pub gone_is : (asked : Asked) (rows : RecordSet) (queue : List WaitingName) (count : ℕ) → count ≡ length queue - length (packed_of asked rows queue).1
    → all_notices (nets_in asked rows (take count queue)) ≡ (packed_of asked rows queue).0
gone_is asked rows queue count is =
    let p = packs_the_front (nets_in asked rows queue) in
    let stay : length (packed_of asked rows queue).1 ≡ length p.left = ap (λ (l : List Labels). length l) p.stay ∙ length-map p.left (λ (e : Labels × List Notice). e.0) in
    let whole : length queue ≡ length p.gone + length p.left = sym (length-map queue (λ (w : WaitingName). (w.name, asked_net asked rows w))) ∙ ap (λ (l : Nets). length l) p.split ∙ length-append p.gone p.left in
    let first : count ≡ length p.gone = omega arith in
    ap (λ n. all_notices (nets_in asked rows (take n queue))) first
    ∙ ap all_notices (first_of (λ (w : WaitingName). (w.name, asked_net asked rows w)) p.gone p.left queue p.split)
    ∙ sym p.whole_nets

-- a name that waits alone goes, with its whole net
lone_packed : (asked : Asked) (rows : RecordSet) (w : WaitingName) → packed_of asked rows (w ∷ []) ≡ (asked_net asked rows w, [])
lone_packed asked rows w = by (asked_net asked rows w)
  where
    by : (ns : List Notice) → packed_behind 0 ((w.name, ns) ∷ []) ≡ (ns, [])
    by [] = refl
    by (n ∷ ns) = ap (λ (l : List Notice). (n ∷ l, [])) (append-nil ns)

pub lone_goes : (asked : Asked) (rows : RecordSet) (queue : List WaitingName) (w : WaitingName) (after : List WaitingName) → queue ≡ w ∷ after → length queue ≡ 1 → packed_of asked rows queue ≡ (asked_net asked rows w, [])
lone_goes asked rows queue w [] is one = ap (packed_of asked rows) is ∙ lone_packed asked rows w
lone_goes asked rows queue w (v ∷ vs) is one = let size = ap (λ (l : List WaitingName). length l) is in absurd (omega (arith, size, one))

lone_left-first : (asked : Asked) (rows : RecordSet) (queue whole : List WaitingName) → queue ≡ whole → length queue ≡ 1 → drop 1 queue ≡ left_in asked rows queue
lone_left-first asked rows [] whole is one = cc
lone_left-first asked rows (w ∷ []) whole is one = ap (λ (p : List Notice × List Labels). drop (1 - length p.1) (w ∷ [])) (sym (lone_packed asked rows w))
lone_left-first asked rows (v ∷ w ∷ ws) whole is one = absurd (omega (arith, one))

pub lone_left : (asked : Asked) (rows : RecordSet) (queue : List WaitingName) → length queue ≡ 1 → drop 1 queue ≡ left_in asked rows queue
lone_left asked rows queue one = lone_left-first asked rows queue queue refl one

-- the frame of the first names
pub push_frame-is : (ns : List Notice) (size : ℕ) → size ≡ size_of_notices ns → size ≢ 0 → push_frame ns ≡ head_of size ++ flat_map notice_octets ns
push_frame-is [] size is some = absurd (some is)
push_frame-is (n ∷ ns) size is some =
    ap (λ (m : ℕ). to_be_bytes w16 m ++ push_message (n ∷ ns)) (length-push_message (n ∷ ns))
    ∙ ap (λ m. head_of m ++ flat_map notice_octets (n ∷ ns)) (sym is)

pub push_written : (asked : Asked) (rows : RecordSet) (queue first : List WaitingName) (count size : ℕ) (out head last : List ℕ) → count ≡ length queue - length (packed_of asked rows queue).1 → first ≡ take count queue
    → size ≡ size_of_notices (packed_of asked rows queue).0 → size ≢ 0 → head ≡ out ++ head_of size → last ≡ head ++ flat_map notice_octets (all_notices (nets_in asked rows first))
    → last ≡ out ++ push_frame (packed_of asked rows queue).0
push_written asked rows queue first count size out head last counted first-is size-is some head-is last-is =
    let told : all_notices (nets_in asked rows first) ≡ (packed_of asked rows queue).0 = ap (λ q. all_notices (nets_in asked rows q)) first-is ∙ gone_is asked rows queue count counted in
    last-is
    ∙ ap (λ l. l ++ flat_map notice_octets (all_notices (nets_in asked rows first))) head-is
    ∙ append_assoc out (head_of size) (flat_map notice_octets (all_notices (nets_in asked rows first)))
    ∙ ap (λ (l : List Notice). out ++ (head_of size ++ flat_map notice_octets l)) told
    ∙ ap (λ l. out ++ l) (sym (push_frame-is (packed_of asked rows queue).0 size size-is some))

pub push_room : (asked : Asked) (rows : RecordSet) (queue first : List WaitingName) (count size : ℕ) (out head : List ℕ) → count ≡ length queue - length (packed_of asked rows queue).1 → first ≡ take count queue
    → size ≡ size_of_notices (packed_of asked rows queue).0 → size ≤ max_net_size → max_net_frame ≤ frame_octets - length out → head ≡ out ++ head_of size
    → length head + size_of_notices (all_notices (nets_in asked rows first)) ≤ frame_octets
push_room asked rows queue first count size out head counted first-is size-is small room head-is =
    let told = ap size_of_notices (ap (λ q. all_notices (nets_in asked rows q)) first-is ∙ gone_is asked rows queue count counted) in
    let length-is = ap (λ (l : List ℕ). length l) head-is ∙ length-append out (head_of size) in
    omega arith
