-- What is kept of links changes, a reason at a time.
--     last_of, reasons_gone_in      the last of a list, if there is one; of the reasons of a session those that go
--     unwanted_all, all_gone      reasons for questions go; reasons of sessions go, each on its link
--     one_wanted      a reason for a question comes
--     doubted, undoubted, settled, refreshed      a row is reconfirmed more; the last is taken back; it stands for all of its key; those that were heard since go
--     settled_last      the last row stands for all of its key, where there is one
--     asked_on rows now link askings      what is sent for the first question of a link that is due, and what is asked then
--     IsOneAsked rows link olds news      only what was asked of a link and the bounds change
--     names_owner owner hearing, names_any doubts hearing, names_at link hearing      a hearing says something of a name; of that of a row that was reconfirmed; of one of a link
--     is_there number sessions, have_reasons sessions      a session has this number; one has a reason
use Rattle.std.specs.Prelude.{◌≡◌, ℕ, zero, suc, Bool, false, not, cond, List, [], ◌∷◌, ◌++◌, map, filter, flat_map, fold, Option, Some, None, slice_get, ◌==◌, if◌then◌else◌, ⊤}
use Rattle.std.specs.List.{list_any}
use Rattle.push_base.specs.Cases.{changed_at, is_empty}
use Rattle.dnsname.specs.Names.{Labels, same_name}
use Rattle.rrset.specs.Records.{same_key}
use Rattle.rrset.specs.KeyedRows.{row_at}
use Rattle.rrset.specs.declared.record.HeardRr.{HeardRr}
use Rattle.rrset.specs.declared.record.Key.{Key}
use Rattle.rrset.specs.declared.record.Question.{Question}
use Rattle.linkcache.specs.Rows.{LinkRows}
use Rattle.linkask.specs.Asking.{next}
use Rattle.linkask.specs.Bounds.{AreBounds, Kept, all_heard, all_reasons, begun_anew, with_reason as one_more, without_reason}
use Rattle.linkask.specs.Reasons.{LinkAsking, Reconfirmed, is_doubted, question_for, still_reconfirmed, was_heard_at}
use Rattle.linkreasons.specs.AllReasons.{ReasonsOfLink, but_last, doubted_last}
use Rattle.linkreasons.specs.declared.reason.Reason.{Reason}

abbrev pub last_of : {X : Type 0} → List X → List X
last_of [] = []
last_of (x ∷ []) = x ∷ []
last_of (x ∷ y ∷ ys) = last_of (y ∷ ys)

-- ---- of one link

abbrev pub unwanted_all : List Question → Kept → Kept
unwanted_all questions kept = fold (λ k q. without_reason q k) kept questions

abbrev pub one_wanted : Question → ReasonsOfLink → ReasonsOfLink
one_wanted question l = record l { kept = one_more question l.kept }

abbrev pub one_unwanted : Question → ReasonsOfLink → ReasonsOfLink
one_unwanted question l = record l { kept = without_reason question l.kept }

abbrev pub heard_by : ℕ → List HeardRr → ReasonsOfLink → ReasonsOfLink
heard_by now hearing l = record l { kept = all_heard now hearing l.kept }

abbrev pub questions_of_rows : Reconfirmed → List Question
questions_of_rows rows = map (λ r. question_for r.0) rows

abbrev pub doubted : Key × ℕ → ReasonsOfLink → ReasonsOfLink
doubted row l = record { kept = one_more (question_for row.0) l.kept; reconfirmed = l.reconfirmed ++ row ∷ [] }

abbrev pub undoubted : ReasonsOfLink → ReasonsOfLink
undoubted l = record { kept = unwanted_all (questions_of_rows (last_of l.reconfirmed)) l.kept; reconfirmed = but_last l.reconfirmed }

-- behind the rows of a link whose reasons went
abbrev pub begun_if_new : Key × ℕ → Reconfirmed → Kept → Kept
begun_if_new row others kept = if is_doubted row.0 row.1 others then kept else begun_anew (question_for row.0) kept

abbrev pub settled_on : Key × ℕ → Reconfirmed → Kept → ReasonsOfLink
settled_on row others kept = record {
  kept = begun_if_new row others (unwanted_all (questions_of_rows (filter (λ r. same_key row.0 r.0) others)) kept);
  reconfirmed = filter (λ r. not (same_key row.0 r.0)) others ++ row ∷ [];
}

abbrev pub settled_by : Reconfirmed → ReasonsOfLink → ReasonsOfLink
settled_by [] l = l
settled_by (row ∷ rows) l = settled_on row (but_last l.reconfirmed) l.kept

abbrev pub settled : ReasonsOfLink → ReasonsOfLink
settled l = settled_by (last_of l.reconfirmed) l

abbrev pub is_over : LinkRows → Key × ℕ → Bool
is_over rows r = not (was_heard_at r.1 (row_at r.0 rows))

abbrev pub refreshed : LinkRows → ReasonsOfLink → ReasonsOfLink
refreshed rows l = record { kept = unwanted_all (questions_of_rows (filter (is_over rows) l.reconfirmed)) l.kept; reconfirmed = still_reconfirmed rows l.reconfirmed }

abbrev pub settled_last_by : Reconfirmed → LinkAsking → LinkAsking
settled_last_by [] a = a
settled_last_by (row ∷ rows) a = doubted_last row.0 row.1 a

abbrev pub settled_last : LinkAsking → LinkAsking
settled_last a = settled_last_by (last_of a.reconfirmed) a

-- nothing is sent where there is no such link
abbrev pub asked_on : LinkRows → ℕ → ℕ → List LinkAsking → Option (List ℕ) × List LinkAsking
asked_on rows now link askings = elim (slice_get askings link) [
  | None ↦ (None, askings)
  | Some a ↦ (let r = next rows now a.wanted in (r.0, changed_at link (λ b. record b { wanted = r.1 }) askings))
]

-- only what was asked and the bounds change
pub record IsAsked (rows : LinkRows) (old new : ReasonsOfLink) : Type 0 where
  pub reasons : all_reasons new.kept ≡ all_reasons old.kept
  pub bounds : AreBounds rows new.kept
  pub reconfirmed : new.reconfirmed ≡ old.reconfirmed

-- at the place of the link alone
abbrev pub IsOneAsked : LinkRows → ℕ → List ReasonsOfLink → List ReasonsOfLink → Type 0
IsOneAsked rows link [] [] = ⊤
IsOneAsked rows zero (o ∷ olds) (n ∷ news) = IsAsked rows o n × (news ≡ olds)
IsOneAsked rows (suc link) (o ∷ olds) (n ∷ news) = (n ≡ o) × IsOneAsked rows link olds news
IsOneAsked _ _ _ _ = ⊥

-- ---- reasons of sessions

abbrev pub one_gone : Reason → List ReasonsOfLink → List ReasonsOfLink
one_gone reason links = changed_at reason.link (one_unwanted reason.question) links

abbrev pub all_gone : List Reason → List ReasonsOfLink → List ReasonsOfLink
all_gone reasons links = fold (λ ls r. one_gone r ls) links reasons

abbrev pub gone_in : ℕ → (List Reason → List Reason) → List (ℕ × List Reason) → List Reason
gone_in number which sessions = flat_map (λ e. cond (e.0 == number) (which e.1) []) sessions

abbrev pub is_there : ℕ → List (ℕ × List Reason) → Bool
is_there number sessions = list_any (λ e. e.0 == number) sessions

abbrev pub have_reasons : List (ℕ × List Reason) → Bool
have_reasons sessions = list_any (λ e. not (is_empty e.1)) sessions

-- ---- names that a hearing says something of

abbrev pub names_owner : Labels → List HeardRr → Bool
names_owner owner hearing = list_any (λ h. same_name owner h.rr.owner) hearing

abbrev pub names_any : Reconfirmed → List HeardRr → Bool
names_any doubts hearing = list_any (λ r. names_owner r.0.owner hearing) doubts

abbrev pub names_at : Option ReasonsOfLink → List HeardRr → Bool
names_at None hearing = false
names_at (Some l) hearing = names_any l.reconfirmed hearing
