-- A kept session and the plain one: the PUSH of the names that fit.
use Rattle.std.proofs.Common.{◌≡◌, ℕ, zero, suc, ◌+◌, ◌-◌, ◌≤◌, List, [], ◌∷◌, map, length, drop, refl, sym, ◌∙◌, ap, subst, arith}
use Rattle.std.specs.List.{AllByRecursion, list_any}
use Rattle.std.proofs.Math.Seq.{drop-append_seam}
use Rattle.std.proofs.lemmas.List.{length-append, length-map, drop-map}
use Rattle.dnsname.specs.Names.{Labels, same_name}
use Rattle.rrset.specs.RecordSet.{RecordSet, only, at_name}
use Rattle.rrset.proofs.Distinct.{distinct_filter}
use Rattle.rrset.proofs.Places.{all_filter}
use Rattle.dsotlv.specs.Answers.{push_message}
use Rattle.dsotlv.specs.declared.message.Notice.{Notice}
use Rattle.subscr.specs.Asked.{Asked, wants}
use Rattle.coalesce.specs.Net.{packed, max_net_message, Nets}
use Rattle.coalesce.specs.Laws.{IsPacked}
use Rattle.coalesce.specs.Waiting.{WaitingName, CanBePacked, IsPackable, asked_net, nets_in, packed_of, left_in, records_then}
use Rattle.coalesce.proofs.NetSizes.{net_fits_one_message}
use Rattle.coalesce.proofs.Packing.{packs_the_front, packed_fits_one_message}
use Rattle.coalesce.proofs.Sides.{parts_stay_sides}
use Rattle.pushsession.specs.Kept.{KeptSession, keeping, telling}
use Rattle.pushsession.specs.Subscribing.{says_notices, with_next_push}
use Rattle.pushserver.specs.PlainHubs.{Hub, Session, Queue, stays_queued, plain_keeps, plain_tells}
use Rattle.pushserver.specs.Hubs.{records_now}
use Rattle.pushserver.specs.KeptHubs.{KeepsSent}
use Rattle.pushserver.proofs.WaitingNames.{watched-fewer}
use Rattle.pushserver.proofs.session_steps.Rising.{rises-filter}
use Rattle.pushserver.proofs.session_steps.Parts.{SessionFits, Waits, asks, reads, writes, stands}
use Rattle.pushserver.proofs.session_steps.Lists.{each-drop}
use Rattle.pushserver.proofs.session_steps.Names.{names_of, stays-last}
use Rattle.pushserver.proofs.session_steps.Nets.{nets-alike}
use Rattle.pushserver.specs.KeptHubs.{queue_of}
use Rattle.pushserver.proofs.session_steps.Saying.{says_notices-keeps}

-- ---- the size

one_fits : (asked : Asked) (rows : RecordSet) (w : WaitingName) → IsPackable rows w → length (push_message (asked_net asked rows w)) ≤ max_net_message
one_fits asked rows w ((name, old, new), can) =
    let before = parts_stay_sides name (λ key. wants key asked) (records_then rows w) old in
    let after = parts_stay_sides name (λ key. wants key asked) (at_name w.name rows) new in
    net_fits_one_message name (only (λ key. wants key asked) (records_then rows w)) (only (λ key. wants key asked) (at_name w.name rows)) before.0 after.0 (after.1 can)

all_fit : (asked : Asked) (rows : RecordSet) (queue : List WaitingName) → CanBePacked rows queue → AllByRecursion (λ e. length (push_message e.1) ≤ max_net_message) (nets_in asked rows queue)
all_fit asked rows [] can = tt
all_fit asked rows (w ∷ ws) can = (one_fits asked rows w can.0, all_fit asked rows ws can.1)

packed_fits : (asked : Asked) (rows : RecordSet) (queue : List WaitingName) → CanBePacked rows queue → length (push_message (packed_of asked rows queue).0) ≤ max_net_message
packed_fits asked rows queue can = packed_fits_one_message (nets_in asked rows queue) (all_fit asked rows queue can)

-- ---- the names that stay

-- the names are those behind the ones that go
record Stay (asked : Asked) (rows : RecordSet) (queue : List WaitingName) : Type 0 where
  gone : ℕ
  left : left_in asked rows queue ≡ drop gone queue
  names : (packed_of asked rows queue).1 ≡ map (λ w. w.name) (drop gone queue)

names_behind : (asked : Asked) (rows : RecordSet) (queue : List WaitingName) → map (λ e. e.0) (nets_in asked rows queue) ≡ map (λ w. w.name) queue
names_behind asked rows [] = refl
names_behind asked rows (w ∷ ws) = ap (λ ns. w.name ∷ ns) (names_behind asked rows ws)

stay : (asked : Asked) (rows : RecordSet) (queue : List WaitingName) → Stay asked rows queue
stay asked rows queue = record {
  gone = length p.gone;
  left = ap (λ (n : ℕ). drop n queue) behind;
  names = names;
}
  where
    p : IsPacked (nets_in asked rows queue)
    p = packs_the_front (nets_in asked rows queue)

    left_is : p.left ≡ nets_in asked rows (drop (length p.gone) queue)
    left_is = sym (drop-append_seam p.gone p.left) ∙ ap (λ (ns : Nets). drop (length p.gone) ns) (sym p.split) ∙ drop-map (λ (w : WaitingName). (w.name, asked_net asked rows w)) (length p.gone) queue

    names : (packed_of asked rows queue).1 ≡ map (λ w. w.name) (drop (length p.gone) queue)
    names = p.stay ∙ ap (λ (ns : Nets). map (λ e. e.0) ns) left_is ∙ names_behind asked rows (drop (length p.gone) queue)

    whole : length queue ≡ length p.gone + length p.left
    whole = sym (length-map queue (λ (w : WaitingName). (w.name, asked_net asked rows w))) ∙ ap (λ (ns : Nets). length ns) p.split ∙ length-append p.gone p.left

    behind : length queue - length (packed_of asked rows queue).1 ≡ length p.gone
    behind = omega (arith, whole, ap length p.stay, length-map p.left (λ (e : Labels × List Notice). e.0))

names_kept : (n : ℕ) (queue : List WaitingName) → map (λ w. w.name) (drop n queue) ≡ names_of (drop n (queue_of queue))
names_kept zero [] = refl
names_kept zero (w ∷ ws) = ap (λ ns. w.name ∷ ns) (names_kept zero ws)
names_kept (suc n) [] = refl
names_kept (suc n) (w ∷ ws) = names_kept n ws

module _ (hub : Hub) (k : ℕ × KeptSession) (p : ℕ × Session) (s : SessionFits hub k p) where
  abbrev rows : RecordSet
  rows = records_now hub

  stays_alike : queue_of (left_in k.1.subscriptions.asked rows k.1.queue) ≡ stays_queued (packed_of k.1.subscriptions.asked rows k.1.queue).1 p.1.queue
  stays_alike =
      let t = stay k.1.subscriptions.asked rows k.1.queue in
      ap queue_of t.left ∙ sym (drop-map (λ (w : WaitingName). (w.name, w.point)) t.gone k.1.queue) ∙ ap (λ (q : Queue). drop t.gone q) s.stands.queue
      ∙ sym (stays-last t.gone p.1.queue s.sound.names)
      ∙ ap (λ (ns : List Labels). stays_queued ns p.1.queue) (sym (t.names ∙ names_kept t.gone k.1.queue ∙ ap (λ (q : Queue). names_of (drop t.gone q)) s.stands.queue))

  -- the names that fit leave
  left-keeps : SessionFits hub (k.0, record k.1 { queue = left_in k.1.subscriptions.asked rows k.1.queue }) (p.0, record p.1 { queue = stays_queued (packed_of k.1.subscriptions.asked rows k.1.queue).1 p.1.queue })
  left-keeps =
      stands hub k p s (record k.1 { queue = left_in k.1.subscriptions.asked rows k.1.queue }) (record p.1 { queue = stays_queued (packed_of k.1.subscriptions.asked rows k.1.queue).1 p.1.queue }) (asks hub k p s) fewer (watched-fewer p.1.subscriptions (λ e. list_any (same_name e.0) (packed_of k.1.subscriptions.asked rows k.1.queue).1) p.1.queue s.sound.watched) (reads hub k p s) (writes hub k p s)
      s.stands.clocks s.stands.established s.stands.standing s.sound.rests
    where
      fewer : Waits hub.start hub.history k.1.subscriptions.asked (left_in k.1.subscriptions.asked rows k.1.queue) (stays_queued (packed_of k.1.subscriptions.asked rows k.1.queue).1 p.1.queue)
      fewer = record {
        queue = stays_alike;
        keeps = each-drop (KeepsSent hub.start hub.history k.1.subscriptions.asked) (length k.1.queue - length (packed_of k.1.subscriptions.asked rows k.1.queue).1) k.1.queue s.stands.keeps;
        points = all_filter _ (λ e. list_any (same_name e.0) (packed_of k.1.subscriptions.asked rows k.1.queue).1) p.1.queue s.sound.points;
        rises = rises-filter (λ e. list_any (same_name e.0) (packed_of k.1.subscriptions.asked rows k.1.queue).1) p.1.queue s.sound.rises;
        names = distinct_filter _ (λ e. list_any (same_name e.0) (packed_of k.1.subscriptions.asked rows k.1.queue).1) p.1.queue s.sound.names;
      }

  pub with_next_push-keeps : (n t : ℕ) → p.1.output ≡ [] → CanBePacked rows k.1.queue
      → SessionFits hub (k.0, with_next_push keeping (telling rows) t k.1) (p.0, with_next_push (plain_keeps n) (plain_tells hub.start hub.history) t p.1)
  with_next_push-keeps n t silent can =
      subst (λ (ns : Nets). SessionFits hub (k.0, with_next_push keeping (telling rows) t k.1) (p.0, says_notices (plain_keeps n) t (packed ns).0 (record p.1 { queue = stays_queued (packed ns).1 p.1.queue })))
      (nets-alike hub k p s)
      (says_notices-keeps hub n t (packed_of k.1.subscriptions.asked rows k.1.queue).0 _ _ (omega (arith, ap length silent, packed_fits k.1.subscriptions.asked rows k.1.queue can)) left-keeps)
