-- What a session's names have to tell, as they are kept and as the plain session has them.
--     asked-alike      the questions of a kept session ask for the keys that the subscriptions match
--     sent-at      what counts as sent of a name with a point
--     nets-alike      the nets
use Rattle.std.proofs.Common.{◌≡◌, ℕ, List, [], ◌∷◌, map, Option, Some, refl, sym, ◌∙◌, ap, subst}
use Rattle.std.specs.Prelude.{unwrap_or}
use Rattle.std.specs.List.{AllByRecursion}
use Rattle.std.proofs.lemmas.List.Elements.{filter_agree}
use Rattle.dnsname.specs.Names.{Labels}
use Rattle.rrset.specs.Records.{matches}
use Rattle.rrset.specs.RecordSet.{RecordSet, only, at_name}
use Rattle.rrset.specs.declared.record.Key.{Key}
use Rattle.dsotlv.specs.declared.message.Notice.{Notice}
use Rattle.subscr.specs.Asked.{Asked, wants}
use Rattle.coalesce.specs.Net.{net}
use Rattle.coalesce.specs.Waiting.{WaitingName, asked_net, nets_in}
use Rattle.coalesce.proofs.KindsOf.{any-map}
use Rattle.history.specs.States.{records_at}
use Rattle.pushsession.specs.Kept.{KeptSession}
use Rattle.pushserver.specs.PlainHubs.{Hub, Session, Subscription, Queue, point_in, asks_for, wanted, sent, nets_of, asked_of}
use Rattle.pushserver.specs.Hubs.{newest, records_now}
use Rattle.pushserver.specs.KeptHubs.{KeepsSent, queue_of}
use Rattle.pushserver.proofs.session_steps.Lists.{each-both, each-map}
use Rattle.pushserver.proofs.session_steps.Names.{points-there}
use Rattle.pushserver.proofs.session_steps.Parts.{SessionFits}

pub asked-alike : (subscriptions : List Subscription) (key : Key) → wants key (asked_of subscriptions) ≡ asks_for subscriptions key
asked-alike subscriptions key = any-map (λ e. matches e.1 key) (λ (s : Subscription). (s.id, s.question)) subscriptions

module _ (hub : Hub) (k : ℕ × KeptSession) (p : ℕ × Session) (s : SessionFits hub k p) where
  pub wants-alike : (key : Key) → wants key k.1.subscriptions.asked ≡ asks_for p.1.subscriptions key
  wants-alike key = ap (λ (a : Asked). wants key a) s.stands.asked ∙ asked-alike p.1.subscriptions key

  pub wanted-alike : (set : RecordSet) → only (λ key. wants key k.1.subscriptions.asked) set ≡ wanted p.1.subscriptions set
  wanted-alike set = filter_agree (λ e. wants e.0 k.1.subscriptions.asked) (λ e. asks_for p.1.subscriptions e.0) (λ e. wants-alike e.0) set

  -- what counts as sent of a name with a point
  pub sent-at : (name : Labels) (point : Option ℕ) → point_in p.1.queue name ≡ point
      → sent hub p.1 name ≡ wanted p.1.subscriptions (at_name name (records_at hub.start hub.history (unwrap_or point (newest hub))))
  sent-at name point is = ap (λ (o : Option ℕ). wanted p.1.subscriptions (at_name name (records_at hub.start hub.history (unwrap_or o (newest hub))))) is

  net_alike : (w : WaitingName) → KeepsSent hub.start hub.history k.1.subscriptions.asked w → point_in p.1.queue w.name ≡ Some w.point
      → asked_net k.1.subscriptions.asked (records_now hub) w ≡ net (sent hub p.1 w.name) (wanted p.1.subscriptions (at_name w.name (records_now hub)))
  net_alike w keeps point =
      ap (λ (r : RecordSet). net r (only (λ key. wants key k.1.subscriptions.asked) (at_name w.name (records_now hub))))
      (keeps.sent ∙ wanted-alike (at_name w.name (records_at hub.start hub.history w.point)) ∙ sym (sent-at w.name (Some w.point) point))
      ∙ ap (λ (r : RecordSet). net (sent hub p.1 w.name) r) (wanted-alike (at_name w.name (records_now hub)))

  abbrev plain_net : Labels × ℕ → Labels × List Notice
  plain_net e = (e.0, net (sent hub p.1 e.0) (wanted p.1.subscriptions (at_name e.0 (records_now hub))))

  nets_of_queue : (queue : List WaitingName) → AllByRecursion (λ w. (w.name, asked_net k.1.subscriptions.asked (records_now hub) w) ≡ plain_net (w.name, w.point)) queue
      → nets_in k.1.subscriptions.asked (records_now hub) queue ≡ map plain_net (queue_of queue)
  nets_of_queue [] all = refl
  nets_of_queue (w ∷ ws) all = ap (λ n. n ∷ nets_in k.1.subscriptions.asked (records_now hub) ws) all.0 ∙ ap (λ ns. plain_net (w.name, w.point) ∷ ns) (nets_of_queue ws all.1)

  points : AllByRecursion (λ (w : WaitingName). point_in p.1.queue w.name ≡ Some w.point) k.1.queue
  points = each-map (λ (w : WaitingName). (w.name, w.point)) (λ (e : Labels × ℕ). point_in p.1.queue e.0 ≡ Some e.1) k.1.queue
      (subst (λ (q : Queue). AllByRecursion (λ (e : Labels × ℕ). point_in p.1.queue e.0 ≡ Some e.1) q) (sym s.stands.queue) (points-there p.1.queue s.sound.names))

  pub nets-alike : nets_in k.1.subscriptions.asked (records_now hub) k.1.queue ≡ nets_of hub.start hub.history p.1.subscriptions p.1.queue
  nets-alike =
      nets_of_queue k.1.queue (each-both (KeepsSent hub.start hub.history k.1.subscriptions.asked) (λ w. point_in p.1.queue w.name ≡ Some w.point) (λ w. (w.name, asked_net k.1.subscriptions.asked (records_now hub) w) ≡ plain_net (w.name, w.point))
      (λ w keeps point. ap (λ n. (w.name, n)) (net_alike w keeps point)) k.1.queue s.stands.keeps points)
      ∙ ap (λ (q : Queue). map plain_net q) s.stands.queue
