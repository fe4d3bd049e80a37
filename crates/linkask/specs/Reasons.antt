-- Why a link is asked something (RFC 8766, 5.6; RFC 8765, 6.5; RFC 6762, 10.4).
--     Reconfirmed, with_reconfirmed, still_reconfirmed      rows that were reconfirmed, with the moment at which each had been heard; one more; those not heard since
--     question_on domain question, question_for key      what a link with this domain is asked for a question of a session; what for a row
--     reasons, with_reasons      what there is reason to ask; what is wanted then
--     is_doubted, with_doubted      a row was reconfirmed since it was heard; what is wanted behind the reconfirmation of a row
--     LinkAsking, asking_behind      of one link; behind a call of the server
use Rattle.std.specs.Prelude.{ℕ, Bool, false, not, ◌&&◌, List, [], ◌∷◌, ◌++◌, map, filter, fold, Option, Some, None, ◌==◌, if◌then◌else◌}
use Rattle.std.specs.List.{list_any, flat_map}
use Rattle.dnsname.specs.Names.{Labels, lower}
use Rattle.rrset.specs.KeyedRows.{row_at}
use Rattle.rrset.specs.Records.{same_key}
use Rattle.rrset.specs.declared.record.Key.{Key}
use Rattle.rrset.specs.declared.record.Question.{Question}
use Rattle.linkmap.specs.Translation.{local, renamed, fits_a_name}
use Rattle.linkcache.specs.Rows.{LinkRows}
use Rattle.linkcache.specs.declared.row.HeardRow.{HeardRow}
use Rattle.linkask.specs.Asking.{Wanted, anew, asked_for, same_asked, wanted}

-- ---- rows that were reconfirmed

abbrev pub Reconfirmed : Type 0
Reconfirmed = List (Key × ℕ)

-- with the moment at which it was heard, in place of what was there of it
abbrev pub with_reconfirmed : LinkRows → Key → Reconfirmed → Reconfirmed
with_reconfirmed rows key all = elim (row_at key rows) [ None ↦ all | Some row ↦ filter (λ r. not (same_key key r.0)) all ++ (key, row.heard) ∷ [] ]

abbrev pub was_heard_at : ℕ → Option HeardRow → Bool
was_heard_at moment None = false
was_heard_at moment (Some row) = row.heard == moment

-- not a row that has gone, or was heard at another moment
abbrev pub still_reconfirmed : LinkRows → Reconfirmed → Reconfirmed
still_reconfirmed rows all = filter (λ r. was_heard_at r.1 (row_at r.0 rows)) all

-- ---- questions

-- its name in lower case, with local. in place of the domain; nothing where that makes no name (RFC 1035, 2.3.4)
abbrev pub question_on : Labels → Question → List Question
question_on domain question =
    let name = renamed domain local (lower question.name) in
    if fits_a_name name then asked_for name question.kind ∷ [] else []

abbrev pub question_for : Key → Question
question_for key = asked_for key.owner key.kind

-- ---- of one link

-- the questions of sessions, and the rows that were reconfirmed
abbrev pub reasons : Labels → List Question → Reconfirmed → List Question
reasons domain questions reconfirmed = flat_map (question_on domain) questions ++ map (λ r. question_for r.0) reconfirmed

-- what has no reason goes, what has a new one comes, and the rest stays as it was
abbrev pub with_reasons : List Question → Wanted → Wanted
with_reasons questions all = fold (λ w q. wanted q w) (filter (λ e. list_any (same_asked e.0) questions) all) questions

-- a row that was reconfirmed since it was heard at this moment
abbrev pub is_doubted : Key → ℕ → Reconfirmed → Bool
is_doubted key moment all = list_any (λ r. same_key key r.0 && r.1 == moment) all

-- the question of a row that is newly doubted begins anew, so that two or more are sent before the row goes (RFC 6762, 10.4)
abbrev pub with_doubted : LinkRows → Option Key → Reconfirmed → Wanted → Wanted
with_doubted rows None before all = all
with_doubted rows (Some key) before all = elim (row_at key rows) [ None ↦ all | Some row ↦ if is_doubted key row.heard before then all else anew (question_for key) all ]

pub record LinkAsking : Type 0 where
  pub wanted : Wanted
  pub reconfirmed : Reconfirmed

abbrev pub noted : LinkRows → Option Key → Reconfirmed → Reconfirmed
noted rows None all = all
noted rows (Some key) all = with_reconfirmed rows key all

-- behind a call of the server: the link's domain and rows then, the questions of the sessions that go on whose home it is, and the key of the row that the call has reconfirmed, if any
abbrev pub asking_behind : Labels → LinkRows → List Question → Option Key → LinkAsking → LinkAsking
asking_behind domain rows questions confirmed before =
    let left = still_reconfirmed rows (noted rows confirmed before.reconfirmed) in
    record { wanted = with_doubted rows confirmed before.reconfirmed (with_reasons (reasons domain questions left) before.wanted); reconfirmed = left }
