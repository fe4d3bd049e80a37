-- A session has nothing to be told exactly where what counts as sent of its questions' names is what they match now.
--     IsTold name      what counts as sent of a name is what the questions match now
--     told-each, each-told      each name is told where the questions' names are, and where the queued ones are
--     nothing_where_all_is_told
use Rattle.std.proofs.Common.{◌≡◌, ℕ, ◌<◌, ◌≤◌, Bool, true, false, cond, ◌&&◌, ◌||◌, ◌==◌, List, [], ◌∷◌, map, find, Option, Some, None, option_map, sym, ◌∙◌, ap, subst, refl, arith}
use Rattle.std.specs.Prelude.{unwrap_or, IsTrue}
use Rattle.std.specs.List.{list_all, list_any, AllByRecursion}
use Rattle.std.proofs.lemmas.Bool.{and_from, and_parts}
use Rattle.push_base.specs.Cases.{is_empty}
use Rattle.dnsname.specs.Names.{Labels, same_name}
use Rattle.rrset.specs.Kinds.{any_kind, any_class}
use Rattle.rrset.specs.RecordSet.{RecordSet, at_name, same_rows}
use Rattle.rrset.specs.declared.record.Key.{Key}
use Rattle.rrset.proofs.Distinct.{any_found, or_false}
use Rattle.rrset.proofs.SameRows.{same_rows-same, same_rows-self}
use Rattle.zoneupdate.proofs.Owners.{same_name-for_second}
use Rattle.dsotlv.specs.declared.message.Notice.{Notice}
use Rattle.coalesce.specs.Laws.{is_side}
use Rattle.coalesce.specs.Net.{net}
use Rattle.coalesce.proofs.Sides.{parts_stay_sides}
use Rattle.coalesce.proofs.Telling.{nothing_to_tell}
use Rattle.history.specs.States.{state_at, records_at}
use Rattle.history.proofs.Together.{same_name-turned}
use Rattle.pushserver.specs.PlainHubs.{Hub, Session, Subscription, Queue, note_of, told, asks_for, wanted, sent}
use Rattle.pushserver.specs.Hubs.{newest, records_now}
use Rattle.pushserver.specs.SoundHubs.{ArePast, IsSoundSession}
use Rattle.pushserver.specs.Laws.{NothingWhereAllIsTold}
use Rattle.pushserver.proofs.Queues.{point_in-same}
use Rattle.pushserver.proofs.promises.Answers.{are_empty, quiet-given, given-quiet}
use Rattle.pushserver.proofs.session_steps.Lists.{found-each}
use Rattle.pushserver.proofs.session_steps.Names.{at_name-alike}
use Rattle.pushserver.proofs.told_rows.HubTells.{StatesTell}
use Rattle.pushserver.proofs.told_rows.Told.{tellable-told}

-- ---- names that no question has

abbrev is_asked : List Subscription → Labels → Bool
is_asked subscriptions name = list_any (λ s. same_name s.question.name name) subscriptions

key-unasked : (subscriptions : List Subscription) (name : Labels) (key : Key) → same_name name key.owner ≡ true → is_asked subscriptions name ≡ false → asks_for subscriptions key ≡ false
key-unasked [] name key at none = refl
key-unasked (s ∷ ss) name key at none =
    let both = or_false (same_name s.question.name name) (is_asked ss name) none in
    let other : same_name s.question.name key.owner ≡ false = sym (same_name-for_second s.question.name name key.owner at) ∙ both.0 in
    ap (λ (b : Bool). b && (s.question.kind == key.kind || s.question.kind == any_kind) && (s.question.class == key.class || s.question.class == any_class) || asks_for ss key) other
    ∙ key-unasked ss name key at both.1

unasked : (subscriptions : List Subscription) (name : Labels) → is_asked subscriptions name ≡ false → (rows : RecordSet) → wanted subscriptions (at_name name rows) ≡ []
unasked subscriptions name none [] = refl
unasked subscriptions name none (e ∷ es) = by (same_name name e.0.owner) refl (unasked subscriptions name none es)
  where
    by : (b : Bool) → same_name name e.0.owner ≡ b → wanted subscriptions (at_name name es) ≡ [] → wanted subscriptions (cond b (e ∷ at_name name es) (at_name name es)) ≡ []
    by true at rest = ap (λ (b : Bool). cond b (e ∷ wanted subscriptions (at_name name es)) (wanted subscriptions (at_name name es))) (key-unasked subscriptions name e.0 at none) ∙ rest
    by false at rest = rest

every : {X : Type 0} (P : X → Type 0) → ((x : X) → P x) → (xs : List X) → AllByRecursion P xs
every P holds [] = tt
every P holds (x ∷ xs) = (holds x, every P holds xs)

-- ---- the names of a session

module _ (hub : Hub) (session : Session) (states : StatesTell hub) (past : ArePast (newest hub) session.queue) where
  abbrev wanted_now : Labels → RecordSet
  wanted_now name = wanted session.subscriptions (at_name name (records_now hub))

  abbrev IsTold : Labels → Type 0
  IsTold name = sent hub session name ≡ wanted_now name

  point-within : (name : Labels) → told (note_of (newest hub) session) name ≤ newest hub
  point-within name = by (find (λ e. same_name name e.0) session.queue) refl
    where
      by : (o : Option (Labels × ℕ)) → find (λ e. same_name name e.0) session.queue ≡ o → unwrap_or (option_map (λ (e : Labels × ℕ). e.1) o) (newest hub) ≤ newest hub
      by None is = omega arith
      by (Some e) is =
          let before : e.1 < newest hub = (found-each (λ (e : Labels × ℕ). e.1 < newest hub) (λ e. same_name name e.0) session.queue e past is).0 in
          omega (arith, before)

  part-side : (name : Labels) (point : ℕ) → point ≤ newest hub → IsTrue (is_side name (wanted session.subscriptions (at_name name (records_at hub.start hub.history point))))
  part-side name point within =
      let whole = (tellable-told (state_at hub.start hub.history point) (states point within) name).0 in
      (parts_stay_sides name (λ key. asks_for session.subscriptions key) (at_name name (records_at hub.start hub.history point)) whole).0

  silent : (name : Labels) → is_empty (net (sent hub session name) (wanted_now name)) ≡ same_rows (sent hub session name) (wanted_now name)
  silent name =
      let before = part-side name (told (note_of (newest hub) session) name) (point-within name) in
      let after = part-side name (newest hub) (omega arith) in
      nothing_to_tell name (sent hub session name) (wanted_now name) before after

  told-silent : (name : Labels) → IsTold name → is_empty (net (sent hub session name) (wanted_now name)) ≡ true
  told-silent name is = silent name ∙ ap (λ (r : RecordSet). same_rows r (wanted_now name)) is ∙ same_rows-self (wanted_now name)

  silent-told : (name : Labels) → is_empty (net (sent hub session name) (wanted_now name)) ≡ true → IsTold name
  silent-told name is = same_rows-same (sent hub session name) (wanted_now name) (sym (silent name) ∙ is)

  -- one name in another spelling
  told-alike : (a b : Labels) → same_name a b ≡ true → IsTold a → IsTold b
  told-alike a b same is =
      let at_points = ap (λ (o : Option ℕ). wanted session.subscriptions (at_name a (records_at hub.start hub.history (unwrap_or o (newest hub))))) (point_in-same a b session.queue same) in
      let sent_alike = at_points ∙ ap (λ (r : RecordSet). wanted session.subscriptions r) (at_name-alike a b same (records_at hub.start hub.history (told (note_of (newest hub) session) b))) in
      let now_alike = ap (λ (r : RecordSet). wanted session.subscriptions r) (at_name-alike a b same (records_now hub)) in
      sym sent_alike ∙ is ∙ now_alike

  -- ---- where the questions' names are told, and where the queued ones are

  abbrev AreAsked : Type 0
  AreAsked = AllByRecursion (λ (s : Subscription). IsTold s.question.name) session.subscriptions

  told-each : AreAsked → (name : Labels) → IsTold name
  told-each all name = by (find (λ s. same_name s.question.name name) session.subscriptions) refl
    where
      by : (o : Option Subscription) → find (λ s. same_name s.question.name name) session.subscriptions ≡ o → IsTold name
      by None is =
          let none = any_found (λ (s : Subscription). same_name s.question.name name) session.subscriptions is in
          unasked session.subscriptions name none (records_at hub.start hub.history (told (note_of (newest hub) session) name)) ∙ sym (unasked session.subscriptions name none (records_now hub))
      by (Some s) is =
          let found = found-each (λ (s : Subscription). IsTold s.question.name) (λ s. same_name s.question.name name) session.subscriptions s all is in
          told-alike s.question.name name found.1 found.0

  each-told : AllByRecursion (λ (e : Labels × ℕ). IsTold e.0) session.queue → (name : Labels) → IsTold name
  each-told all name = by (find (λ e. same_name name e.0) session.queue) refl
    where
      by : (o : Option (Labels × ℕ)) → find (λ e. same_name name e.0) session.queue ≡ o → IsTold name
      by None is = ap (λ (o : Option (Labels × ℕ)). wanted session.subscriptions (at_name name (records_at hub.start hub.history (unwrap_or (option_map (λ (e : Labels × ℕ). e.1) o) (newest hub))))) is
      by (Some e) is =
          let found = found-each (λ (e : Labels × ℕ). IsTold e.0) (λ e. same_name name e.0) session.queue e all is in
          told-alike e.0 name (same_name-turned e.0 name ∙ found.1) found.0

  -- ---- the nets of the queued names

  abbrev nets_from : Queue → Bool
  nets_from queue = list_all (λ (e : Labels × List Notice). is_empty e.1) (map (λ (e : Labels × ℕ). (e.0, net (sent hub session e.0) (wanted_now e.0))) queue)

  empty-from : ((name : Labels) → IsTold name) → (queue : Queue) → nets_from queue ≡ true
  empty-from all [] = refl
  empty-from all (e ∷ es) = and_from _ _ (told-silent e.0 (all e.0)) (empty-from all es)

  from-empty : (queue : Queue) → nets_from queue ≡ true → AllByRecursion (λ (e : Labels × ℕ). IsTold e.0) queue
  from-empty [] empty = tt
  from-empty (e ∷ es) empty =
      let both = and_parts (is_empty (net (sent hub session e.0) (wanted_now e.0))) (nets_from es) empty in
      (silent-told e.0 both.0, from-empty es both.1)

  pub asked-empty : AreAsked → are_empty hub session ≡ true
  asked-empty all = empty-from (told-each all) session.queue

  pub empty-asked : are_empty hub session ≡ true → AreAsked
  empty-asked empty = every (λ (s : Subscription). IsTold s.question.name) (λ s. each-told (from-empty session.queue empty) s.question.name) session.subscriptions

pub nothing_where_all_is_told : NothingWhereAllIsTold
nothing_where_all_is_told hub number room session sound has = (
  λ all. quiet-given hub number room session has (all.0, all.1, all.2, asked-empty hub session sound.states past all.3),
  λ is. let quiet = given-quiet hub number room session has is in (quiet.0, quiet.1, quiet.2, empty-asked hub session sound.states past quiet.3),
)
  where
    past : ArePast (newest hub) session.queue
    past = by (find (λ (e : ℕ × Session). e.0 == number) hub.sessions) refl has
      where
        by : (o : Option (ℕ × Session)) → find (λ (e : ℕ × Session). e.0 == number) hub.sessions ≡ o → option_map (λ (e : ℕ × Session). e.1) o ≡ Some session → ArePast (newest hub) session.queue
        by None found is = absurd cc
        by (Some e) found is =
            let same : e.1 ≡ session = cc in
            subst (λ (s : Session). ArePast (newest hub) s.queue) same (found-each (IsSoundSession hub) (λ (e : ℕ × Session). e.0 == number) hub.sessions e sound.sessions found).0.points
