-- What a client holds of a question, and what the history has of it.
--     IsHeldSo, held-so      the wish behind a set that is held
--     same-noted      two questions of one name, type and class are told the same
--     held-told      the set is what the history has at the note's point
use Rattle.std.proofs.Common.{◌≡◌, ℕ, ◌+◌, ◌≤◌, Bool, true, false, [], length, Option, Some, None, refl, ap, sym, ◌∙◌, subst}
use Rattle.std.specs.Prelude.{option_map, unwrap_or, ◌&&◌, ◌||◌, ◌==◌, nat_lt, if◌then◌else◌}
use Rattle.std.proofs.lemmas.Bool.{eqb-true, ltb-false}
use Rattle.dnsname.specs.Names.{same_name}
use Rattle.dnsname.proofs.Decisions.{and_true}
use Rattle.rrset.specs.Kinds.{any_kind, any_class}
use Rattle.rrset.specs.Records.{same_question, matches}
use Rattle.rrset.specs.declared.record.Key.{Key}
use Rattle.zoneupdate.proofs.Filters.{filter_same}
use Rattle.zoneupdate.proofs.Owners.{same_name-for}
use Rattle.history.specs.States.{records_at}
use Rattle.pushserver.proofs.Queues.{point_in-same}
use Rattle.rrset.specs.RecordSet.{RecordSet, matching}
use Rattle.rrset.specs.declared.record.Question.{Question}
use Rattle.dsotlv.specs.Notices.{applied_all}
use Rattle.pushserver.specs.PlainHubs.{Hub, Session, Made, Note, told, size_of_made}
use Rattle.pushserver.specs.Hubs.{session_of}
use Rattle.pushserver.specs.ToldMessages.{records_noted}
use Rattle.pushclient.specs.Clients.{Client, Wish, RequestState, not_asked, unanswered, refused, answered, Held, off, held, held_as, set_held, wish_for, is_connected}
use Rattle.pushclient.proofs.SoundWishes.{all_found, find_holds}
use Rattle.inflight.specs.Ends.{told_end}
use Rattle.flight_laws.specs.Holding.{HoldsHistory, IsHeldAtLast}
use Rattle.flight_laws.proofs.HeldHistory.{held-is-history}
use Rattle.replay.specs.World.{Seat, last_of, last_note, filled_of}
use Rattle.replay.specs.TextWords.{records_told, note_in}
use Rattle.replay.specs.Promises.{ShownPoints}
use Rattle.script_laws.specs.Reached.{ReachedSessions}
use Rattle.script_laws.specs.Joined.{StandsWith}
use Rattle.script_laws.specs.Texts.{HeldIsTold}
use Rattle.script_laws.proofs.texts.Arrived.{arrived-taken, last-behind}

-- ---- the wish behind a set

pub record IsHeldSo (connected : Bool) (found : Option Wish) (id : ℕ) (set : RecordSet) : Type 0 where
  pub joined : connected ≡ true
  pub wish : Wish
  pub there : found ≡ Some wish
  pub standing : wish.standing ≡ answered id
  pub set_is : set ≡ applied_all wish.notices wish.question []

abbrev pub held_in : Bool → Option Wish → Held
held_in connected found = elim found as (λ _. Held) [ None ↦ off | Some wish ↦ if wish.wanted && connected then held_as wish.standing wish else off ]

abbrev one_set : ℕ → RecordSet → Held
one_set id set = set_held id set

abbrev id_in : Held → ℕ
id_in (set_held i s) = i
id_in _ = 0

abbrev set_in : Held → RecordSet
set_in (set_held i s) = s
set_in _ = []

held-as : (connected : Bool) (wish : Wish) (s : RequestState) (id : ℕ) (set : RecordSet) → connected ≡ true → wish.standing ≡ s → held_as s wish ≡ one_set id set → IsHeldSo connected (Some wish) id set
held-as connected wish not_asked id set joined is e = absurd cc
held-as connected wish (unanswered other) id set joined is e = absurd cc
held-as connected wish (refused rcode) id set joined is e = absurd cc
held-as connected wish (answered other) id set joined is e = record { joined = joined; wish = wish; there = refl; standing = is ∙ ap answered (ap id_in e); set_is = sym (ap set_in e) }

held-in : (connected : Bool) (found : Option Wish) (id : ℕ) (set : RecordSet) → held_in connected found ≡ one_set id set → IsHeldSo connected found id set
held-in connected None id set e = absurd cc
held-in connected (Some wish) id set e = by (wish.wanted && connected) refl e
  where
    by : (b : Bool) → (wish.wanted && connected) ≡ b → (if b then held_as wish.standing wish else off) ≡ one_set id set → IsHeldSo connected (Some wish) id set
    by true both e = held-as connected wish wish.standing id set (and_true wish.wanted connected both).1 refl e
    by false both e = absurd cc

pub held-so : (client : Client) (question : Question) (id : ℕ) (set : RecordSet) → held client question ≡ set_held id set → IsHeldSo (is_connected client) (wish_for client question) id set
held-so client question id set e = held-in (is_connected client) (wish_for client question) id set e

-- ---- two questions that are one

abbrev passes : Bool → ℕ → ℕ → Key → Bool
passes same kind class key = same && (kind == key.kind || kind == any_kind) && (class == key.class || class == any_class)

matches-alike : (a b : Question) → same_question a b ≡ true → (key : Key) → matches a key ≡ matches b key
matches-alike a b same key =
    let f = and_true (same_name a.name b.name && a.kind == b.kind) (a.class == b.class) same in
    let p = and_true (same_name a.name b.name) (a.kind == b.kind) f.0 in
    ap (λ s. passes s a.kind a.class key) (same_name-for a.name b.name key.owner p.0)
    ∙ ap (λ k. passes (same_name b.name key.owner) k a.class key) (eqb-true a.kind b.kind p.1)
    ∙ ap (λ k. passes (same_name b.name key.owner) b.kind k key) (eqb-true a.class b.class f.1)

pub same-noted : (hub : Hub) (note : Note) (a b : Question) → same_question a b ≡ true → records_noted hub note a ≡ records_noted hub note b
same-noted hub note a b same =
    let f = and_true (same_name a.name b.name && a.kind == b.kind) (a.class == b.class) same in
    let p = and_true (same_name a.name b.name) (a.kind == b.kind) f.0 in
    let point : told note a.name ≡ told note b.name = ap (λ o. unwrap_or o note.newest) (point_in-same a.name b.name note.queue p.0) in
    ap (λ n. matching a (records_at hub.start hub.history n)) point
    ∙ filter_same (λ e. matches a e.0) (λ e. matches b e.0) (λ e. matches-alike a b same e.0) (records_at hub.start hub.history (told note b.name))

-- ---- the history

pub record HasArrived (filled : Option ℕ) (reached : ℕ) : Type 0 where
  pub end : ℕ
  pub told_so : filled ≡ Some end
  pub within : end ≤ reached

pub has-arrived : (reached : ℕ) (filled : Option ℕ) → elim filled as (λ _. Bool) [ None ↦ true | Some n ↦ nat_lt reached n ] ≡ false → HasArrived filled reached
has-arrived reached None e = absurd cc
has-arrived reached (Some n) e = record { end = n; told_so = refl; within = ltb-false reached n e }

abbrev noted_with : Hub → Seat → Option ℕ → Option Note
noted_with hub seat number = elim number as (λ _. Option Note) [ None ↦ None | Some number ↦ elim (session_of hub number) [ None ↦ None | Some session ↦ last_note seat session ] ]

abbrev noted_of : Seat → Option Session → Option Note
noted_of seat session = elim session as (λ _. Option Note) [ None ↦ None | Some session ↦ last_note seat session ]

-- the note is that of the last message taken
pub note-taken : (hub : Hub) (shown : ShownPoints) (seat : Seat) (number : ℕ) → seat.session ≡ Some number → (stands : StandsWith hub shown seat number)
    → note_in hub seat ≡ option_map (λ (m : Made). m.note) (last_of stands.joined.flight.taken)
note-taken hub shown seat number is stands =
    let j = stands.joined in
    ap (noted_with hub seat) is ∙ ap (noted_of seat) j.there
    ∙ ap (λ ms. option_map (λ (m : Made). m.note) (last_of ms)) (arrived-taken hub shown seat number stands.session stands.connection j stands.waits)

module _ (sessions : ReachedSessions) where
  pub held-told : HeldIsTold
  held-told hub shown seat number id question set reached is stands e filling =
      let j = stands.joined in
      let i = j.flight in
      let c = stands.connection in
      let s = sessions hub number stands.session reached j.there in
      let h : HoldsHistory hub seat.filled stands.session seat.client c seat.up_wire seat.down_wire i = held-is-history hub seat.filled stands.session seat.client c seat.up_wire seat.down_wire s.history s.ends stands.waits i in
      let w = held-so seat.client question id set e in
      let at : (id n : ℕ) → w.wish.standing ≡ answered id → told_end seat.filled id ≡ Some n → n ≤ size_of_made i.taken + length c.input → IsHeldAtLast hub i.taken w.wish.question (applied_all w.wish.notices w.wish.question []) =
      all_found (λ w. (id n : ℕ) → w.standing ≡ answered id → told_end seat.filled id ≡ Some n → n ≤ size_of_made i.taken + length c.input → IsHeldAtLast hub i.taken w.question (applied_all w.notices w.question []))
      (λ w. same_question w.question question) seat.client.wishes w.wish h.last w.there in
      let f = has-arrived seat.reached (filled_of seat id) filling in
      let last : IsHeldAtLast hub i.taken w.wish.question (applied_all w.wish.notices w.wish.question []) = at id f.end w.standing f.told_so (subst (λ r. f.end ≤ r) j.reached f.within) in
      let note : note_in hub seat ≡ Some last.1.note = note-taken hub shown seat number is stands ∙ ap (λ ms. option_map (λ (m : Made). m.note) (last_of ms)) last.2 ∙ ap (option_map (λ (m : Made). m.note)) (last-behind last.0 last.1) in
      w.set_is ∙ last.3 ∙ same-noted hub last.1.note w.wish.question question (find_holds (λ w. same_question w.question question) seat.client.wishes w.wish w.there)
      ∙ sym (ap (λ o. records_told hub o question) note)
