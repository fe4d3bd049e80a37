-- Behind a call of `give` no row that is reconfirmed was heard since, whatever was made ready for it.
--     turn-still      rows behind a turn
--     settles-still      behind what was made ready
use Rattle.std.proofs.Common.{◌≡◌, ◌⊎◌, inl, inr, ℕ, Bool, true, false, cond, not, List, [], ◌∷◌, ◌++◌, filter, Option, Some, None, refl, sym, ap, subst, ◌∙◌}
use Rattle.std.specs.Prelude.{nat_lt, option_map, slice_get, ◌==◌}
use Rattle.std.specs.List.{AllByRecursion}
use Rattle.push_base.specs.Cases.{changed_at}
use Rattle.rrset.specs.KeyedRows.{row_at}
use Rattle.rrset.specs.Records.{same_key}
use Rattle.rrset.specs.declared.record.Key.{Key}
use Rattle.linkcache.specs.Links.{LinkState}
use Rattle.linkcache.specs.Rows.{LinkRows}
use Rattle.linkcache.specs.declared.row.HeardRow.{HeardRow}
use Rattle.linkask.specs.Reasons.{LinkAsking, Reconfirmed, was_heard_at}
use Rattle.linkreasons.specs.AllReasons.{AllReasons, askings_of, but_last, doubted_last, doubted_less, doubted_more}
use Rattle.linkreasons.specs.Changing.{last_of, settled_last, settled_last_by}
use Rattle.history.specs.States.{State, link_after}
use Rattle.history.specs.declared.entry.Entry.TheVariants as entries
use Rattle.pushsession.specs.Kept.{KeptSession}
use Rattle.pushsession.specs.declared.request.Request.{Request}
use Rattle.pushsession.specs.declared.request.Request.TheVariants as requests
use Rattle.pushserver.specs.Giving.{give}
use Rattle.pushserver.specs.Hubs.{newest, session_of, state_now}
use Rattle.pushserver.specs.KeptHubs.{KeptHub, Forgets}
use Rattle.livesessions.proofs.SessionLists.{number-itself}
use Rattle.hubasking.specs.Following.{AreStill, doubts_in}
use Rattle.hubasking.specs.KeptReasons.{AreKept}
use Rattle.hubasking.specs.Turns.{Drops, HasReason, IsDoubted, IsReady, IsStill, KeepsLeft, Settles, SettlesDoubt, TakesBack, count_of, fewer_for, heard_moment, turn_request}
use Rattle.hubasking.specs.declared.giving.Ready.{Ready}
use Rattle.hubasking.specs.declared.giving.Ready.TheVariants as readies
use Rattle.hubasking.proofs.Calls.{same-links}
use Rattle.hubasking.proofs.Doubting.{all-filter}
use Rattle.hubasking.proofs.Gives.{turn-first}
use Rattle.hubasking.proofs.StillRows.{Pass, RowsPass, doubts-at, doubts-only, doubts-wanted, from-pass, kept-still, pass-append, pass-doubts, pass-links, pass-one, pass-reconfirmed, to-pass}
use Rattle.hubasking.proofs.Turning.{EntryTo, StateTo}

-- ---- rows behind a turn

module _ (k later : KeptHub) (ds : List Reconfirmed) where
  turn-passes : (q : Option Request) → StateTo k q later → Pass (state_now k).links ds → Pass (state_now later).links ds
  turn-passes q (inl stays) pass = subst (λ (s : State). Pass s.links ds) (sym stays.0) pass
  turn-passes None (inr e) pass = absurd e
  turn-passes (Some requests.Itself) (inr e) pass = absurd e
  turn-passes (Some requests.Query) (inr e) pass = absurd e
  turn-passes (Some requests.Update) (inr e) pass = subst (λ (s : State). Pass s.links ds) (sym e.1) (subst (λ (ls : List LinkState). Pass ls ds) (sym (same-links (state_now k) e.0)) pass)
  turn-passes (Some (requests.Subscribe q)) (inr e) pass = absurd e
  turn-passes (Some (requests.Reconfirm None)) (inr e) pass = absurd e
  turn-passes (Some (requests.Reconfirm (Some rr))) (inr e) pass = subst (λ (s : State). Pass s.links ds) (sym e.2)
      (pass-links e.0.0 (link_after (entries.Reconfirm e.0.0 e.0.1) (state_now k).now) (λ l d p. pass-reconfirmed l.rows e.0.1 (state_now k).now d p) (state_now k).links ds pass)

-- ---- rows come and go

but-last-all : {X : Type 0} (P : X → Type 0) (xs : List X) → AllByRecursion P xs → AllByRecursion P (but_last xs)
but-last-all P [] all = tt
but-last-all P (x ∷ []) all = tt
but-last-all P (x ∷ y ∷ ys) all = (all.0, but-last-all P (y ∷ ys) all.1)

last-all : {X : Type 0} (P : X → Type 0) (xs : List X) → AllByRecursion P xs → AllByRecursion P (last_of xs)
last-all P [] all = tt
last-all P (x ∷ []) all = (all.0, tt)
last-all P (x ∷ y ∷ ys) all = last-all P (y ∷ ys) all.1

-- the last stands for all of its key
abbrev settle_by : Reconfirmed → Reconfirmed → Reconfirmed
settle_by [] d = d
settle_by (row ∷ rows) d = filter (λ (r : Key × ℕ). not (same_key row.0 r.0)) (but_last d) ++ row ∷ []

abbrev settle : Reconfirmed → Reconfirmed
settle d = settle_by (last_of d) d

settles-so : (a : LinkAsking) → (settled_last a).reconfirmed ≡ settle a.reconfirmed
settles-so a = by (last_of a.reconfirmed)
  where
    by : (l : Reconfirmed) → (settled_last_by l a).reconfirmed ≡ settle_by l a.reconfirmed
    by [] = refl
    by (row ∷ rows) = refl

settle-passes : (rows : LinkRows) (d : Reconfirmed) → RowsPass rows d → RowsPass rows (settle d)
settle-passes rows d pass = by (last_of d) (last-all (λ (r : Key × ℕ). was_heard_at r.1 (row_at r.0 rows) ≡ true) d pass)
  where
    by : (l : Reconfirmed) → RowsPass rows l → RowsPass rows (settle_by l d)
    by [] all = pass
    by (row ∷ more) all =
        pass-append (λ (r : Key × ℕ). was_heard_at r.1 (row_at r.0 rows)) (filter (λ (r : Key × ℕ). not (same_key row.0 r.0)) (but_last d)) (row ∷ [])
        (all-filter (λ (r : Key × ℕ). was_heard_at r.1 (row_at r.0 rows) ≡ true) (λ (r : Key × ℕ). not (same_key row.0 r.0)) (but_last d) (but-last-all (λ (r : Key × ℕ). was_heard_at r.1 (row_at r.0 rows) ≡ true) d pass))
        (all.0, tt)

less-passes : (rows : LinkRows) (d : Reconfirmed) → RowsPass rows d → RowsPass rows (but_last d)
less-passes rows d pass = but-last-all (λ (r : Key × ℕ). was_heard_at r.1 (row_at r.0 rows) ≡ true) d pass

-- a row that is there was heard at its moment
heard-there : (rows : LinkRows) (key : Key) (heard : ℕ) → heard_moment rows key ≡ Some heard → was_heard_at heard (row_at key rows) ≡ true
heard-there rows key heard there = by (row_at key rows) there
  where
    by : (o : Option HeardRow) → option_map (λ (row : HeardRow). row.heard) o ≡ Some heard → was_heard_at heard o ≡ true
    by None e = absurd cc
    by (Some row) e = let same : row.heard ≡ heard = cc in ap (λ (n : ℕ). n == heard) same ∙ number-itself heard

-- ---- behind what was made ready

module _ (k later : KeptHub) (number room : ℕ) (before : AllReasons) (kept : AreKept k before) (forgets : Forgets (give k number room).hub later) where
  abbrev Passes : AllReasons → Type 0
  Passes reasons = Pass (state_now k).links (doubts_in (askings_of reasons))

  first : Passes before
  first = to-pass (state_now k).links (doubts_in (askings_of before)) (kept-still (state_now k).links before.links kept.links)

  as-before : (old new : AllReasons) → doubts_in (askings_of new) ≡ doubts_in (askings_of old) → Passes old → Passes new
  as-before old new same pass = subst (λ (ds : List Reconfirmed). Pass (state_now k).links ds) (sym same) pass

  dropped : (left : List _ → List _) (old new : AllReasons) → Drops number left old new → Passes old → Passes new
  dropped left old new drops pass = as-before old new (ap doubts_in drops.askings ∙ doubts-only 0 new.sessions (askings_of old)) pass

  left-passes : (o : Option KeptSession) (old new : AllReasons) → KeepsLeft o number old new → Passes old → Passes new
  left-passes None old new same pass = subst Passes (sym same) pass
  left-passes (Some session) old new drops pass = dropped _ old new drops pass

  doubted-passes : (link : ℕ) (made : AllReasons) → IsDoubted k number link before made → Passes made
  doubted-passes link made doubts =
      subst (λ (ds : List Reconfirmed). Pass (state_now k).links ds) (sym (ap doubts_in doubts.askings ∙ doubts-at link (doubted_more doubts.key doubts.heard) (λ (d : Reconfirmed). d ++ (doubts.key, doubts.heard) ∷ []) (λ a. refl) (askings_of before)))
      (pass-one link (doubts.key, doubts.heard) doubts.found (state_now k).links (doubts_in (askings_of before)) doubts.at (heard-there doubts.found.rows doubts.key doubts.heard doubts.there) first)

  taken-passes : (link : ℕ) (old new : AllReasons) → TakesBack link old new → Passes old → Passes new
  taken-passes link old new takes pass =
      subst (λ (ds : List Reconfirmed). Pass (state_now k).links ds) (sym (ap doubts_in takes.askings ∙ doubts-only 0 new.sessions (changed_at link doubted_less (askings_of old)) ∙ doubts-at link doubted_less but_last (λ a. refl) (askings_of old)))
      (pass-doubts link but_last less-passes (state_now k).links (doubts_in (askings_of old)) pass)

  settled-passes : (link : ℕ) (old new : AllReasons) → SettlesDoubt link old new → Passes old → Passes new
  settled-passes link old new settles pass =
      subst (λ (ds : List Reconfirmed). Pass (state_now k).links ds) (sym (ap doubts_in settles.askings ∙ doubts-at link settled_last settle settles-so (askings_of old)))
      (pass-doubts link settle settle-passes (state_now k).links (doubts_in (askings_of old)) pass)

  settles-pass : (ready : Ready) (made new : AllReasons) (count point : ℕ) → IsReady k number ready before made → Settles later number ready count point made new → Passes new
  settles-pass readies.Nothing made new count point still settles = by (nat_lt (count_of (session_of later number)) count) settles
    where
      by : (b : Bool) → cond b (KeepsLeft (session_of later number) number made new) (new ≡ made) → Passes new
      by true left = left-passes (session_of later number) made new left (subst Passes (sym still.same) first)
      by false same = subst Passes (sym (same ∙ still.same)) first
  settles-pass readies.Reason made new count point has settles = by (fewer_for readies.Reason (count_of (session_of later number)) count) settles
    where
      pass : Passes made
      pass = as-before before made (ap doubts_in has.askings ∙ doubts-wanted has.reason.link has.reason.question (askings_of before)) first

      by : (b : Bool) → cond b (Drops number but_last made new) (new ≡ made) → Passes new
      by true drops = dropped but_last made new drops pass
      by false same = subst Passes (sym same) pass
  settles-pass (readies.Doubt link) made new count point doubts settles = by (nat_lt point (newest later)) settles
    where
      by : (b : Bool) → cond b (SettlesDoubt link made new) (TakesBack link made new) → Passes new
      by true settled = settled-passes link made new settled (doubted-passes link made doubts)
      by false takes = taken-passes link made new takes (doubted-passes link made doubts)

  pub settles-still : (ready : Ready) (made new : AllReasons) (count point : ℕ) → IsReady k number ready before made → Settles later number ready count point made new → AreStill (state_now later).links (doubts_in (askings_of new))
  settles-still ready made new count point is settles =
      from-pass (state_now later).links (doubts_in (askings_of new)) (turn-passes k later (doubts_in (askings_of new)) (turn_request (session_of k number)) (turn-first k number room later forgets).state (settles-pass ready made new count point is settles))
