-- Two questions that are the same have the same set.
--     matching-alike, noted-alike, sent-alike, applied-alike
use Rattle.std.proofs.Common.{◌≡◌, ℕ, Bool, true, cond, ◌&&◌, ◌||◌, List, [], ◌∷◌, ◌∙◌, ap, refl}
use Rattle.std.specs.Prelude.{unwrap_or, ◌==◌}
use Rattle.std.specs.Str.{bytes_eq}
use Rattle.dnsname.specs.Names.{same_name, octets, lower}
use Rattle.rrset.specs.Kinds.{any_kind, any_class}
use Rattle.rrset.specs.Records.{matches, same_question, key_of, shown_of}
use Rattle.rrset.specs.RecordSet.{RecordSet, at_name, matching, put, without}
use Rattle.rrset.specs.declared.record.Key.{Key}
use Rattle.rrset.specs.declared.record.Question.{Question}
use Rattle.dsotlv.specs.Notices.{removed_by, added_by, applied, applied_all}
use Rattle.dsotlv.specs.declared.message.Notice.{Notice}
use Rattle.dsotlv.specs.declared.message.Notice.TheVariants.{Add, RemoveOne, RemoveSet, RemoveClass, RemoveAll, Odd}
use Rattle.history.specs.States.{records_at}
use Rattle.pushserver.specs.PlainHubs.{Hub, Session, Note, told, note_of, wanted, sent}
use Rattle.pushserver.specs.Hubs.{newest}
use Rattle.pushserver.specs.ToldMessages.{records_noted}
use Rattle.rrset.proofs.Sets.{both_true}
use Rattle.std.proofs.lemmas.List.Elements.{filter_agree}
use Rattle.pushserver.proofs.Queues.{point_in-same, same_name-octets}
use Rattle.livesessions.proofs.SessionLists.{same-number}
use Rattle.pushserver.proofs.session_steps.Names.{at_name-alike}

module _ (a b : Question) (same : same_question a b ≡ true) where
  names : same_name a.name b.name ≡ true
  names = (both_true _ _ (both_true _ _ same).0).0

  kinds : a.kind ≡ b.kind
  kinds = same-number a.kind b.kind (both_true _ _ (both_true _ _ same).0).1

  classes : a.class ≡ b.class
  classes = same-number a.class b.class (both_true _ _ same).1

  matches-alike : (key : Key) → matches a key ≡ matches b key
  matches-alike key =
      ap (λ (t : Bool). t && (a.kind == key.kind || a.kind == any_kind) && (a.class == key.class || a.class == any_class)) (ap (λ (o : List ℕ). bytes_eq o (octets (lower key.owner))) (same_name-octets a.name b.name names))
      ∙ ap (λ (k : ℕ). same_name b.name key.owner && (k == key.kind || k == any_kind) && (a.class == key.class || a.class == any_class)) kinds
      ∙ ap (λ (c : ℕ). same_name b.name key.owner && (b.kind == key.kind || b.kind == any_kind) && (c == key.class || c == any_class)) classes

  pub matching-alike : (set : RecordSet) → matching a set ≡ matching b set
  matching-alike set = filter_agree (λ e. matches a e.0) (λ e. matches b e.0) (λ e. matches-alike e.0) set

  added-alike : (n : Notice) (set : RecordSet) → added_by n a set ≡ added_by n b set
  added-alike (Add rr) set = ap (λ (t : Bool). cond {A = RecordSet} t (put (key_of rr) (shown_of rr) set) set) (matches-alike (key_of rr))
  added-alike (RemoveOne rr) set = refl
  added-alike (RemoveSet name class kind) set = refl
  added-alike (RemoveClass name class) set = refl
  added-alike (RemoveAll name) set = refl
  added-alike (Odd name ttl) set = refl

  pub applied-alike : (ns : List Notice) (set : RecordSet) → applied_all ns a set ≡ applied_all ns b set
  applied-alike [] set = refl
  applied-alike (n ∷ ns) set = ap (applied_all ns a) (added-alike n (without (removed_by n) set)) ∙ applied-alike ns (applied b set n)

  told-alike : (note : Note) → told note a.name ≡ told note b.name
  told-alike note = ap (λ o. unwrap_or o note.newest) (point_in-same a.name b.name note.queue names)

  pub noted-alike : (hub : Hub) (note : Note) → records_noted hub note a ≡ records_noted hub note b
  noted-alike hub note = ap (λ n. matching a (records_at hub.start hub.history n)) (told-alike note) ∙ matching-alike (records_at hub.start hub.history (told note b.name))

  pub sent-alike : (hub : Hub) (session : Session) → matching a (sent hub session a.name) ≡ matching b (sent hub session b.name)
  sent-alike hub session =
      ap (λ n. matching a (wanted session.subscriptions (at_name a.name (records_at hub.start hub.history n)))) (told-alike (note_of (newest hub) session))
      ∙ ap (λ (r : RecordSet). matching a (wanted session.subscriptions r)) (at_name-alike a.name b.name names (records_at hub.start hub.history (told (note_of (newest hub) session) b.name)))
      ∙ matching-alike (sent hub session b.name)
