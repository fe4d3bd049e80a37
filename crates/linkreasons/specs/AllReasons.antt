-- Why the links of a server are asked what (RFC 8766, 5.6; RFC 8765, 6.5).
--     ReasonsOfLink, AllReasons      what is kept of one link; of all, with the reasons of each session
--     asking_of, askings_of      what a link is asked; what each is
--     questions_for link reasons, session_questions link sessions      what a session's reasons ask of a link; what those of all sessions ask
--     reasons_on link sessions reconfirmed      all that there is reason to ask a link
--     no_reasons links      before anybody asks
--     in_session, with_reason, with_those, without_session      reasons of sessions come and go
--     with_wanted, only_reasons      a question is wanted more; what has no reason any more goes
--     doubted_more, doubted_less, doubted_last, still_doubted      rows that are reconfirmed
--     WantsReasons questions all      just these questions are wanted
--     AreFollowed all      each link is asked what there is reason to
--     AreBoundsAt rows link all, KeepsBounds old new      bounds, for the rows of a link; they stay bounds
use Rattle.std.specs.Prelude.{◌≡◌, ℕ, ◌+◌, not, cond, List, [], ◌∷◌, ◌++◌, map, filter, flat_map, is_some, slice_get, IfSome, IsTrue, ◌==◌, if◌then◌else◌}
use Rattle.std.specs.List.{list_any}
use Rattle.push_base.specs.Cases.{changed_at}
use Rattle.rrset.specs.Records.{same_key}
use Rattle.rrset.specs.declared.record.Key.{Key}
use Rattle.rrset.specs.declared.record.Question.{Question}
use Rattle.subscr.specs.Asked.{Asked, has}
use Rattle.linkcache.specs.Rows.{LinkRows}
use Rattle.linkask.specs.Asking.{Wanted, anew, are_in_order, asks_of, same_asked, wanted}
use Rattle.linkask.specs.Bounds.{Kept, AreBounds, wanted_in}
use Rattle.linkask.specs.Reasons.{LinkAsking, Reconfirmed, is_doubted, question_for, still_reconfirmed}
use Rattle.linkreasons.specs.declared.reason.Reason.{Reason}

-- the questions that it is asked, and the rows of it that were reconfirmed
pub record ReasonsOfLink : Type 0 where
  pub kept : Kept
  pub reconfirmed : Reconfirmed

-- each session by its number
pub record AllReasons : Type 0 where
  pub links : List ReasonsOfLink
  pub sessions : List (ℕ × List Reason)

abbrev pub asking_of : ReasonsOfLink → LinkAsking
asking_of link = record { wanted = wanted_in link.kept; reconfirmed = link.reconfirmed }

abbrev pub askings_of : AllReasons → List LinkAsking
askings_of all = map asking_of all.links

-- ---- reasons

abbrev pub questions_for : ℕ → List Reason → List Question
questions_for link reasons = map (λ r. r.question) (filter (λ r. r.link == link) reasons)

abbrev pub session_questions : ℕ → List (ℕ × List Reason) → List Question
session_questions link sessions = flat_map (λ e. questions_for link e.1) sessions

abbrev pub reasons_on : ℕ → List (ℕ × List Reason) → Reconfirmed → List Question
reasons_on link sessions reconfirmed = session_questions link sessions ++ map (λ r. question_for r.0) reconfirmed

-- ---- reasons of sessions come and go

abbrev pub in_session : ℕ → (List Reason → List Reason) → List (ℕ × List Reason) → List (ℕ × List Reason)
in_session number f sessions = map (λ e. (e.0, cond (e.0 == number) (f e.1) e.1)) sessions

abbrev pub with_reason : Reason → List Reason → List Reason
with_reason reason reasons = reasons ++ reason ∷ []

-- those whose ID still asks
abbrev pub with_those : Asked → List Reason → List Reason
with_those asked reasons = filter (λ r. has r.id asked) reasons

-- all but the last
abbrev pub but_last : {X : Type 0} → List X → List X
but_last [] = []
but_last (x ∷ []) = []
but_last (x ∷ y ∷ ys) = x ∷ but_last (y ∷ ys)

abbrev pub without_session : ℕ → List (ℕ × List Reason) → List (ℕ × List Reason)
without_session number sessions = filter (λ e. not (e.0 == number)) sessions

-- ---- what links are asked then

-- one more question of a link
abbrev pub with_wanted : ℕ → Question → List LinkAsking → List LinkAsking
with_wanted link question askings = changed_at link (λ a. record a { wanted = wanted question a.wanted }) askings

abbrev pub with_any_of : List Question → Wanted → Wanted
with_any_of questions all = filter (λ e. list_any (same_asked e.0) questions) all

-- what has no reason any more goes, from a link on
abbrev pub only_from : ℕ → List (ℕ × List Reason) → List LinkAsking → List LinkAsking
only_from link sessions [] = []
only_from link sessions (a ∷ askings) = record a { wanted = with_any_of (reasons_on link sessions a.reconfirmed) a.wanted } ∷ only_from (link + 1) sessions askings

abbrev pub only_reasons : List (ℕ × List Reason) → List LinkAsking → List LinkAsking
only_reasons sessions askings = only_from 0 sessions askings

-- ---- rows that are reconfirmed

-- one more, with the moment at which it had been heard, beside those of its key
abbrev pub doubted_more : Key → ℕ → LinkAsking → LinkAsking
doubted_more key heard a = record { wanted = wanted (question_for key) a.wanted; reconfirmed = a.reconfirmed ++ (key, heard) ∷ [] }

-- the last is taken back
abbrev pub doubted_less : LinkAsking → LinkAsking
doubted_less a = record a { reconfirmed = but_last a.reconfirmed }

-- the last, of this key and moment, stands for all of its key; where it wasn't doubted already its question begins anew
abbrev pub doubted_last : Key → ℕ → LinkAsking → LinkAsking
doubted_last key heard a =
    let others = but_last a.reconfirmed in
    record { wanted = if is_doubted key heard others then a.wanted else anew (question_for key) a.wanted; reconfirmed = filter (λ r. not (same_key key r.0)) others ++ (key, heard) ∷ [] }

-- those that weren't heard since
abbrev pub still_doubted : LinkRows → LinkAsking → LinkAsking
still_doubted rows a = record a { reconfirmed = still_reconfirmed rows a.reconfirmed }

-- ---- what always holds

-- just these questions are wanted, each once, in order
pub record WantsReasons (questions : List Question) (all : Wanted) : Type 0 where
  pub order : IsTrue (are_in_order all)
  pub wants : (question : Question) → is_some (asks_of question all) ≡ list_any (same_asked question) questions

-- of the link at each place
abbrev pub AreFollowed : AllReasons → Type 0
AreFollowed all = (link : ℕ) → IfSome (slice_get all.links link) (λ l. WantsReasons (reasons_on link all.sessions l.reconfirmed) (wanted_in l.kept))

-- bounds of the questions of a link, for these rows
abbrev pub AreBoundsAt : LinkRows → ℕ → AllReasons → Type 0
AreBoundsAt rows link all = IfSome (slice_get all.links link) (λ l. AreBounds rows l.kept)

abbrev pub KeepsBounds : AllReasons → AllReasons → Type 0
KeepsBounds old new = (rows : LinkRows) (link : ℕ) → AreBoundsAt rows link old → AreBoundsAt rows link new
