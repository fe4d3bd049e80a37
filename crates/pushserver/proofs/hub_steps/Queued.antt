-- A name that waits with old values is a name that is queued.
--     plain_change point queue c      a change of a key, as the plain session has it
--     queue-fold, points-fold, rises-fold, names-fold      the changes of an entry, one after another
--     going-fold      what old values tell goes on through them
use Rattle.std.proofs.Common.{◌≡◌, ℕ, ◌≤◌, Bool, true, false, cond, ◌||◌, List, [], ◌∷◌, ◌++◌, length, Option, Some, None, is_some, sym, ◌∙◌, ap, subst, refl, arith}
use Rattle.std.specs.Prelude.{fold, find, option_map}
use Rattle.std.specs.List.{AllByRecursion, list_any}
use Rattle.dnsname.specs.Names.{Labels, same_name}
use Rattle.rrset.specs.Records.{same_key}
use Rattle.rrset.specs.RecordSet.{RecordSet, shown_at}
use Rattle.rrset.specs.declared.record.Key.{Key}
use Rattle.rrset.specs.declared.record.Changed.{Changed}
use Rattle.rrset.proofs.Distinct.{distinct_push}
use Rattle.rrset.proofs.OldValues.{first_before}
use Rattle.coalesce.specs.Waiting.{WaitingName, is_named, waits, with_old}
use Rattle.coalesce.proofs.ReadBack.{each-append}
use Rattle.history.proofs.Together.{same_name-turned}
use Rattle.zoneupdate.proofs.Owners.{same_name-for, same_name-itself}
use Rattle.history.specs.States.{State}
use Rattle.history.specs.declared.entry.Entry.{Entry}
use Rattle.subscr.specs.Asked.{Asked}
use Rattle.pushserver.specs.PlainHubs.{Queue, point_in, enqueued}
use Rattle.pushserver.proofs.session_steps.Lists.{some-find}
use Rattle.pushserver.proofs.session_steps.Rising.{points_of, rises-queued}
use Rattle.pushserver.specs.SoundHubs.{PointsRise}
use Rattle.pushserver.proofs.session_steps.Names.{AreApart}
use Rattle.pushserver.specs.KeptHubs.{queue_of}
use Rattle.pushserver.proofs.hub_steps.Noted.{CanBeKept, and_old, Going, LeadBack, one-more, still-silent, other_key}

-- a key changes, and its name is queued
abbrev pub plain_change : ℕ → Queue → Changed → Queue
plain_change point queue c = enqueued point queue c.key.owner

-- whether a name has a point is whether it is one of those that wait
point-any : (queue : Queue) (name : Labels) → is_some (point_in queue name) ≡ list_any (λ (e : Labels × ℕ). same_name name e.0) queue
point-any queue name = by (find (λ (e : Labels × ℕ). same_name name e.0) queue) ∙ some-find (λ (e : Labels × ℕ). same_name name e.0) queue
  where
    by : (o : Option (Labels × ℕ)) → is_some (option_map (λ (e : Labels × ℕ). e.1) o) ≡ is_some o
    by None = refl
    by (Some e) = refl

-- ---- the queue after a change

waits-queued : (queue : List WaitingName) (name : Labels) → waits name queue ≡ list_any (λ (e : Labels × ℕ). same_name name e.0) (queue_of queue)
waits-queued [] name = refl
waits-queued (w ∷ ws) name = λ i. same_name-turned w.name name i || waits-queued ws name i

queue-after : (point : ℕ) (queue : List WaitingName) (c : Changed) → queue_of (with_old point queue c) ≡ cond (waits c.key.owner queue) (queue_of queue) (queue_of queue ++ (c.key.owner, point) ∷ [])
queue-after point [] c = refl
queue-after point (w ∷ ws) c = by (is_named c.key.owner w) (waits c.key.owner ws) (queue-after point ws c)
  where
    more : Queue
    more = (c.key.owner, point) ∷ []

    by : (b t : Bool) → queue_of (with_old point ws c) ≡ cond t (queue_of ws) (queue_of ws ++ more)
        → queue_of (cond b (and_old point c w ∷ ws) (w ∷ with_old point ws c)) ≡ cond (b || t) (queue_of (w ∷ ws)) (queue_of (w ∷ ws) ++ more)
    by true t rest = refl
    by false true rest = ap (λ q. (w.name, w.point) ∷ q) rest
    by false false rest = ap (λ q. (w.name, w.point) ∷ q) rest

queue-noted : (point : ℕ) (queue : List WaitingName) (c : Changed) → queue_of (with_old point queue c) ≡ plain_change point (queue_of queue) c
queue-noted point queue c = queue-after point queue c ∙ ap (λ b. cond b (queue_of queue) (queue_of queue ++ (c.key.owner, point) ∷ [])) (waits-queued queue c.key.owner ∙ sym (point-any (queue_of queue) c.key.owner))

pub queue-fold : (point : ℕ) (cs : List Changed) (queue : List WaitingName) → queue_of (fold (with_old point) queue cs) ≡ fold (plain_change point) (queue_of queue) cs
queue-fold point [] queue = refl
queue-fold point (c ∷ cs) queue = queue-fold point cs (with_old point queue c) ∙ ap (λ q. fold (plain_change point) q cs) (queue-noted point queue c)

-- ---- what holds of all that waits

pub points-fold : (P : Labels × ℕ → Type 0) (point : ℕ) → ((n : Labels) → P (n, point)) → (cs : List Changed) (queue : Queue) → AllByRecursion P queue → AllByRecursion P (fold (plain_change point) queue cs)
points-fold P point new [] queue all = all
points-fold P point new (c ∷ cs) queue all = points-fold P point new cs (plain_change point queue c) (by (is_some (point_in queue c.key.owner)))
  where
    by : (b : Bool) → AllByRecursion P (cond b queue (queue ++ (c.key.owner, point) ∷ []))
    by true = all
    by false = each-append P queue ((c.key.owner, point) ∷ []) all (new c.key.owner, tt)

names-one : (point : ℕ) (c : Changed) (queue : Queue) → AreApart queue → AreApart (plain_change point queue c)
names-one point c queue once = by (is_some (point_in queue c.key.owner)) refl
  where
    by : (b : Bool) → is_some (point_in queue c.key.owner) ≡ b → AreApart (cond b queue (queue ++ (c.key.owner, point) ∷ []))
    by true is = once
    by false is = distinct_push (λ (d e : Labels × ℕ). same_name e.0 d.0) queue (c.key.owner, point) once (sym (point-any queue c.key.owner) ∙ is)

-- names wait in the order of their points still
pub rises-fold : (point : ℕ) (cs : List Changed) (queue : Queue) → AllByRecursion (λ (e : Labels × ℕ). e.1 ≤ point) queue → PointsRise (points_of queue) → PointsRise (points_of (fold (plain_change point) queue cs))
rises-fold point [] queue early rises = rises
rises-fold point (c ∷ cs) queue early rises =
    rises-fold point cs (plain_change point queue c) (points-fold (λ (e : Labels × ℕ). e.1 ≤ point) point (λ n. omega arith) (c ∷ []) queue early) (rises-queued queue c.key.owner point early rises)

-- no name stands twice
pub names-fold : (point : ℕ) (cs : List Changed) (queue : Queue) → AreApart queue → AreApart (fold (plain_change point) queue cs)
names-fold point [] queue once = once
names-fold point (c ∷ cs) queue once = names-fold point cs (plain_change point queue c) (names-one point c queue once)

-- ---- what old values tell

waits-alike : (n m : Labels) (queue : List WaitingName) → same_name n m ≡ true → waits n queue ≡ waits m queue
waits-alike n m [] same = refl
waits-alike n m (w ∷ ws) same = λ i. (same_name-turned w.name n ∙ same_name-for n m w.name same ∙ same_name-turned m w.name) i || waits-alike n m ws same i

module _ (asked : Asked) (start : State) (history : List Entry) (new : RecordSet) where
  pub going-fold : (cs : List Changed) (queue : List WaitingName) → AllByRecursion CanBeKept cs → AreApart (queue_of queue) → AllByRecursion (Going asked start history new cs) queue → LeadBack asked start history new cs queue
      → AllByRecursion (Going asked start history new []) (fold (with_old (length history)) queue cs)
  going-fold [] queue can apart all back = all
  going-fold (c ∷ cs) queue can apart all back = going-fold cs later can.1
      (subst AreApart (sym (queue-noted point queue c)) (names-one point c (queue_of queue) apart))
      (one-more asked start history new c cs can.0 queue all apart (λ none q wanted at. back q wanted (waits-alike q.owner c.key.owner queue (sym (same_name-turned c.key.owner q.owner) ∙ at) ∙ none)))
      (λ q wanted none.
      let silent = still-silent point q.owner c queue none in
      ap (λ b. cond b c.before (first_before q cs (shown_at q new))) (sym (other q silent.1)) ∙ back q wanted silent.0)
    where
      point : ℕ
      point = length history

      later : List WaitingName
      later = with_old point queue c

      other : (q : Key) → same_name c.key.owner q.owner ≡ false → same_key q c.key ≡ false
      other q away = other_key q.owner q c.key (same_name-itself q.owner) (same_name-turned q.owner c.key.owner ∙ away)
