-- The point that a `held` line shows.
--     point-within      it is no later than the newest
--     held-point      each `held` line of a client of the hub has one
use Rattle.std.proofs.Common.{◌≡◌, ℕ, ◌+◌, ◌≤◌, ◌<◌, Bool, true, false, ◌||◌, ◌==◌, List, [], ◌∷◌, ◌++◌, map, find, length, Option, Some, None, refl, sym, ◌∙◌, ap, subst, arith}
use Rattle.std.specs.Prelude.{IsTrue, is_some, is_none, option_map, unwrap_or, if◌then◌else◌}
use Rattle.std.specs.List.{AllByRecursion}
use Rattle.coalesce.proofs.Packing.{each-front}
use Rattle.dnsname.specs.Names.{Labels, same_name}
use Rattle.dsotlv.proofs.Results.{same_found}
use Rattle.dsotlv.specs.Notices.{applied_all}
use Rattle.rrset.specs.RecordSet.{RecordSet}
use Rattle.rrset.specs.Records.{same_question}
use Rattle.rrset.specs.declared.record.Question.{Question}
use Rattle.pushserver.specs.Hubs.{newest, session_of}
use Rattle.pushserver.specs.PlainHubs.{Hub, Session, Made, Note, told, note_of, size_of_made}
use Rattle.pushserver.specs.SoundHubs.{IsSoundSession, ArePast}
use Rattle.pushserver.specs.ToldMessages.{NotesRise}
use Rattle.pushserver.proofs.session_steps.Lists.{found-each}
use Rattle.pushclient.specs.Clients.{Connection, Held, off, asked_only, refused_with, set_held, held, answered}
use Rattle.pushclient.proofs.SoundWishes.{all_found}
use Rattle.inflight.specs.Ends.{told_end}
use Rattle.inflight.specs.Messages.{made_of}
use Rattle.flight_laws.specs.Holding.{HoldsHistory, IsHeldAtLast}
use Rattle.flight_laws.proofs.HeldHistory.{held-is-history}
use Rattle.scripts.specs.Lines.{Word}
use Rattle.replay.specs.World.{World, Seat, seat_of, last_of, filled_of}
use Rattle.replay.specs.TextWords.{note_in, is_filling}
use Rattle.replay.specs.HeldPoints.{point_of_note, point_of_held, point_at}
use Rattle.replay.specs.Promises.{ShownPoints}
use Rattle.script_laws.specs.Joined.{ShownToEach, StandsWith, WorldStands}
use Rattle.script_laws.specs.Reached.{IsReached}
use Rattle.script_laws.proofs.hubs.Sessions.{reached-sessions}
use Rattle.script_laws.proofs.hubs.Sound.{reached-sound}
use Rattle.script_laws.proofs.texts.Along.{seat-stands}
use Rattle.script_laws.proofs.texts.Arrived.{last-behind}
use Rattle.script_laws.proofs.texts.HeldSets.{held-so, has-arrived, note-taken}
use Rattle.script_laws.proofs.texts.Shows.{stands_as}

-- ---- notes

notes-below : (name : Labels) (last : Note) (notes : List Note) → NotesRise (notes ++ last ∷ []) → AllByRecursion (λ n. told n name ≤ told last name) notes
notes-below name last [] h = tt
notes-below name last (n ∷ []) h = (h.0 name, tt)
notes-below name last (n ∷ m ∷ notes) h =
    let rest = notes-below name last (m ∷ notes) h.1 in
    (both (told n name) (told m name) (told last name) (h.0 name) rest.0, rest)
  where
    both : (a b c : ℕ) → a ≤ b → b ≤ c → a ≤ c
    both a b c first second = omega (arith, first, second)

made-below : (name : Labels) (most : ℕ) (made : List Made) → AllByRecursion (λ n. told n name ≤ most) (map (λ (m : Made). m.note) made) → AllByRecursion (λ (m : Made). told m.note name ≤ most) made
made-below name most [] h = tt
made-below name most (m ∷ made) h = (h.0, made-below name most made h.1)

weaker : (name : Labels) (low most : ℕ) (notes : List Note) → low ≤ most → AllByRecursion (λ n. told n name ≤ low) notes → AllByRecursion (λ n. told n name ≤ most) notes
weaker name low most [] less h = tt
weaker name low most (n ∷ notes) less h = (both (told n name) low most h.0 less, weaker name low most notes less h.1)
  where
    both : (a b c : ℕ) → a ≤ b → b ≤ c → a ≤ c
    both a b c first second = omega (arith, first, second)

module _ (hub : Hub) (reached : IsReached hub) (number : ℕ) (session : Session) (there : session_of hub number ≡ Some session) (name : Labels) where
  queue-past : ArePast (newest hub) session.queue
  queue-past = by (find (λ (e : ℕ × Session). e.0 == number) hub.sessions) refl there
    where
      by : (o : Option (ℕ × Session)) → find (λ (e : ℕ × Session). e.0 == number) hub.sessions ≡ o → option_map (λ (e : ℕ × Session). e.1) o ≡ Some session → ArePast (newest hub) session.queue
      by None is e = absurd cc
      by (Some f) is e =
          subst (λ (s : Session). ArePast (newest hub) s.queue) (same_found f.1 session e)
          (found-each (IsSoundSession hub) (λ (e : ℕ × Session). e.0 == number) hub.sessions f (reached-sound hub reached).sessions is).0.points

  told-now : told (note_of (newest hub) session) name ≤ newest hub
  told-now = by (find (λ (e : Labels × ℕ). same_name name e.0) session.queue) refl
    where
      less : (a b : ℕ) → a < b → a ≤ b
      less a b h = omega (arith, h)

      same : (n : ℕ) → n ≤ n
      same n = omega arith

      by : (o : Option (Labels × ℕ)) → find (λ (e : Labels × ℕ). same_name name e.0) session.queue ≡ o → unwrap_or (option_map (λ (e : Labels × ℕ). e.1) o) (newest hub) ≤ newest hub
      by None is = same (newest hub)
      by (Some e) is = less e.1 (newest hub) (all_found (λ (e : Labels × ℕ). e.1 < newest hub) (λ (e : Labels × ℕ). same_name name e.0) session.queue e queue-past is)

  all-told : AllByRecursion (λ (m : Made). told m.note name ≤ newest hub) session.made
  all-told =
      let notes = (reached-sessions hub number session reached there).history.notes in
      made-below name (newest hub) session.made
      (weaker name (told (note_of (newest hub) session) name) (newest hub) (map (λ (m : Made). m.note) session.made) told-now (notes-below name (note_of (newest hub) session) (map (λ (m : Made). m.note) session.made) notes))

last-has : {X : Type 0} (P : X → Type 0) (xs : List X) (x : X) → AllByRecursion P xs → last_of xs ≡ Some x → P x
last-has P [] x all is = absurd cc
last-has P (y ∷ []) x all is = subst P (same_found y x is) all.0
last-has P (y ∷ z ∷ xs) x all is = last-has P (z ∷ xs) x all.1 is

-- ---- a client with a session

module _ (hub : Hub) (reached : IsReached hub) (shown : ShownPoints) (seat : Seat) (number : ℕ) (is : seat.session ≡ Some number) (stands : StandsWith hub shown seat number) where
  taken-told : (name : Labels) → AllByRecursion (λ (m : Made). told m.note name ≤ newest hub) stands.joined.flight.taken
  taken-told name =
      let j = stands.joined in
      each-front (λ (m : Made). told m.note name ≤ newest hub) j.flight.taken (map (made_of hub.timers) j.flight.flying)
      (subst (AllByRecursion (λ (m : Made). told m.note name ≤ newest hub)) j.flight.made (all-told hub reached number stands.session j.there name))

  note-within : (name : Labels) (note : Note) → note_in hub seat ≡ Some note → told note name ≤ newest hub
  note-within name note there = by (last_of stands.joined.flight.taken) refl (sym (note-taken hub shown seat number is stands) ∙ there)
    where
      by : (o : Option Made) → last_of stands.joined.flight.taken ≡ o → option_map (λ (m : Made). m.note) o ≡ Some note → told note name ≤ newest hub
      by None last e = absurd cc
      by (Some m) last e =
          subst (λ (n : Note). told n name ≤ newest hub) (same_found m.note note e)
          (last-has (λ (m : Made). told m.note name ≤ newest hub) stands.joined.flight.taken m (taken-told name) last)

  held-note : (question : Question) (id : ℕ) (set : RecordSet) → held seat.client question ≡ set_held id set → is_filling seat id ≡ false → (note : Note) × (note_in hub seat ≡ Some note)
  held-note question id set e filling =
      let j = stands.joined in
      let i = j.flight in
      let c = stands.connection in
      let s = reached-sessions hub number stands.session reached j.there in
      let h : HoldsHistory hub seat.filled stands.session seat.client c seat.up_wire seat.down_wire i = held-is-history hub seat.filled stands.session seat.client c seat.up_wire seat.down_wire s.history s.ends stands.waits i in
      let w = held-so seat.client question id set e in
      let at : (id n : ℕ) → w.wish.standing ≡ answered id → told_end seat.filled id ≡ Some n → n ≤ size_of_made i.taken + length c.input → IsHeldAtLast hub i.taken w.wish.question (applied_all w.wish.notices w.wish.question []) =
      all_found (λ w. (id n : ℕ) → w.standing ≡ answered id → told_end seat.filled id ≡ Some n → n ≤ size_of_made i.taken + length c.input → IsHeldAtLast hub i.taken w.question (applied_all w.notices w.question []))
      (λ w. same_question w.question question) seat.client.wishes w.wish h.last w.there in
      let f = has-arrived seat.reached (filled_of seat id) filling in
      let last : IsHeldAtLast hub i.taken w.wish.question (applied_all w.wish.notices w.wish.question []) = at id f.end w.standing f.told_so (subst (λ r. f.end ≤ r) j.reached f.within) in
      (last.1.note, note-taken hub shown seat number is stands ∙ ap (λ ms. option_map (λ (m : Made). m.note) (last_of ms)) last.2 ∙ ap (option_map (λ (m : Made). m.note)) (last-behind last.0 last.1))

-- ---- a world

lone-or : (lone : Bool) (c : Option Connection) → IsTrue (lone || is_none c) → lone ≡ false → is_some c ≡ true → ⊥
lone-or true c either lone some = absurd cc
lone-or false None either lone some = absurd cc
lone-or false (Some c) either lone some = absurd cc

abbrev noted_as : Hub → Seat → Option ℕ → Option Note
noted_as hub seat number = note_in hub (record seat { session = number })

module _ (world : World) (shown : ShownToEach) (stands : WorldStands shown world) where
  -- any note is that of a client with a session
  any-within : (w : Word) (seat : Seat) (name : Labels) (note : Note) → seat_of world w ≡ Some seat → note_in world.hub seat ≡ Some note → told note name ≤ newest world.hub
  any-within w seat name note there has = by seat.session refl (seat-stands shown world w seat stands there)
    where
      by : (number : Option ℕ) → seat.session ≡ number → stands_as world.hub (shown seat.word) seat number → told note name ≤ newest world.hub
      by None is apart = let no : None ≡ Some note = sym (ap (noted_as world.hub seat) is) ∙ has in absurd cc
      by (Some number) is with_session = note-within world.hub stands.reached (shown seat.word) seat number is with_session name note has

  abbrev point_in_seat : Question → Option Seat → Option ℕ
  point_in_seat question seat = elim seat as (λ _. Option ℕ) [ None ↦ None | Some seat ↦ point_of_held (held seat.client question) world seat question ]

  pub point-within : (w : Word) (question : Question) (point : ℕ) → point_at world w question ≡ Some point → point ≤ newest world.hub
  point-within w question point shows = by (seat_of world w) refl shows
    where
      of_note : (seat : Seat) → seat_of world w ≡ Some seat → (o : Option Note) → note_in world.hub seat ≡ o → point_of_note question o ≡ Some point → point ≤ newest world.hub
      of_note seat there None is e = absurd cc
      of_note seat there (Some note) is e = subst (λ (n : ℕ). n ≤ newest world.hub) (same_found (told note question.name) point e) (any-within w seat question.name note there is)

      of_held : (seat : Seat) → seat_of world w ≡ Some seat → (h : Held) → point_of_held h world seat question ≡ Some point → point ≤ newest world.hub
      of_held seat there off e = absurd cc
      of_held seat there asked_only e = absurd cc
      of_held seat there (refused_with rcode) e = absurd cc
      of_held seat there (set_held id set) e = hidden (seat.is_lone || is_filling seat id) e
        where
          hidden : (b : Bool) → (if b then None else point_of_note question (note_in world.hub seat)) ≡ Some point → point ≤ newest world.hub
          hidden true f = absurd cc
          hidden false f = of_note seat there (note_in world.hub seat) refl f

      by : (o : Option Seat) → seat_of world w ≡ o → point_in_seat question o ≡ Some point → point ≤ newest world.hub
      by None is e = absurd cc
      by (Some seat) is e = of_held seat is (held seat.client question) e

  pub held-point : (w : Word) (seat : Seat) (question : Question) (id : ℕ) (set : RecordSet) → seat_of world w ≡ Some seat → held seat.client question ≡ set_held id set → seat.is_lone ≡ false → is_filling seat id ≡ false
      → (note : Note) × (note_in world.hub seat ≡ Some note) × (point_at world w question ≡ Some (told note question.name))
  held-point w seat question id set there e lone filling =
      let note = noted in
      let point : point_of_held (held seat.client question) world seat question ≡ Some (told note.0 question.name) =
      ap (λ h. point_of_held h world seat question) e
      ∙ (λ i. if lone i || filling i then None else point_of_note question (note_in world.hub seat)) ∙ ap (point_of_note question) note.1 in
      (note.0, note.1, ap (point_in_seat question) there ∙ point)
    where
      by : (number : Option ℕ) → seat.session ≡ number → stands_as world.hub (shown seat.word) seat number → (note : Note) × (note_in world.hub seat ≡ Some note)
      by None is apart = absurd (lone-or seat.is_lone seat.client.connection apart.client lone (held-so seat.client question id set e).joined)
      by (Some number) is with_session = held-note world.hub stands.reached (shown seat.word) seat number is with_session question id set e filling

      noted : (note : Note) × (note_in world.hub seat ≡ Some note)
      noted = by seat.session refl (seat-stands shown world w seat stands there)
