-- The queue of names that wait: of each the point before its first change, and what each key that changed since showed before its
-- first change.
--     OldValue, WaitingName      what a key showed before, and at which point; a name that waits
--     records_then rows w      the records of a name as they were, made of those that it has now
--     OldValues, names_waiting      what is kept of a name; the names that wait with it
--     with_old point queue change      the queue where a key changes at a point
--     since queue name, without_name name queue      the point of a name; the queue without it
--     first_point queue      the point of the name that waits first
--     before_point point queue, IsOlder point w      what was kept at earlier points; all that is kept of a name was
--     is_changed, asked_net      whether a name's records differ, and its net, as questions ask for them
--     tells      whether a name waits with something to tell
--     packed_of, left_in      what goes into one message, and the names that stay
--     CanBePacked      records as nets are made of
use Rattle.std.specs.Prelude.{ℕ, ◌-◌, ◌<◌, Bool, false, not, List, [], ◌∷◌, map, drop, length, filter, find, Option, Some, None, is_some, option_map, IsTrue, nat_lt, if◌then◌else◌}
use Rattle.std.specs.List.{list_any, AllByRecursion, IsDistinct}
use Rattle.push_base.specs.Cases.{is_empty}
use Rattle.dnsname.specs.Names.{Labels, same_name}
use Rattle.rrset.specs.KeyedRows.{Rows, row_at, put_row}
use Rattle.rrset.specs.RecordSet.{RecordSet, only, at_name, same_rows, with_values}
use Rattle.rrset.specs.declared.record.Key.{Key}
use Rattle.rrset.specs.declared.record.Shown.{Shown}
use Rattle.rrset.specs.declared.record.Changed.{Changed}
use Rattle.subscr.specs.Asked.{Asked, wants}
use Rattle.dsotlv.specs.declared.message.Notice.{Notice}
use Rattle.coalesce.specs.Net.{Nets, net, each_net, packed}
use Rattle.coalesce.specs.Laws.{can_be_sent}
use Rattle.coalesce.specs.Sides.{AreOfOneName}

-- what a key showed before it changed at a point
pub record OldValue : Type 0 where
  pub before : Option Shown
  pub point : ℕ

-- the point before its first change, and the old value of each key that changed since, in key order
pub record WaitingName : Type 0 where
  pub name : Labels
  pub point : ℕ
  pub values : Rows OldValue

-- what is kept of a name: the point before its first change, and its old values
pub record OldValues : Type 0 where
  pub point : ℕ
  pub values : Rows OldValue

abbrev pub waiting_of : Labels × OldValues → WaitingName
waiting_of e = record { name = e.0; point = e.1.point; values = e.1.values }

-- names, each with what is kept of it, as they wait
abbrev pub names_waiting : List (Labels × OldValues) → List WaitingName
names_waiting entries = map waiting_of entries

abbrev pub is_named : Labels → WaitingName → Bool
is_named name w = same_name w.name name

-- no name waits twice
abbrev pub AreApart : List WaitingName → Type 0
AreApart queue = IsDistinct (λ v w. is_named w.name v) queue

abbrev pub waits : Labels → List WaitingName → Bool
waits name queue = list_any (is_named name) queue

abbrev pub old_value : ℕ → Changed → OldValue
old_value point c = record { before = c.before; point = point }

-- a key keeps the value before its first change
abbrev pub and_value : Key × OldValue → Rows OldValue → Rows OldValue
and_value old values = if is_some (row_at old.0 values) then values else put_row old.0 old.1 values

abbrev pub and_old_value : Key × OldValue → WaitingName → WaitingName
and_old_value old w = record w { values = and_value old w.values }

-- a key's name waits from its first change on, behind the others
abbrev pub with_old_value : List WaitingName → Key × OldValue → List WaitingName
with_old_value [] old = (record { name = old.0.owner; point = old.1.point; values = old ∷ [] }) ∷ []
with_old_value (w ∷ ws) old = if is_named old.0.owner w then and_old_value old w ∷ ws else w ∷ with_old_value ws old

-- the point of the name that waits first
abbrev pub first_point : List WaitingName → Option ℕ
first_point [] = None
first_point (w ∷ ws) = Some w.point

-- a key changes at a point
abbrev pub with_old : ℕ → List WaitingName → Changed → List WaitingName
with_old point queue c = with_old_value queue (c.key, old_value point c)

-- what the keys showed before
abbrev pub values_of : Rows OldValue → Rows (Option Shown)
values_of old = map (λ e. (e.0, e.1.before)) old

-- the records of the name as they were, made of all records now: each key that changed is given its old value, or taken out where it
-- had none
abbrev pub records_then : RecordSet → WaitingName → RecordSet
records_then rows w = with_values (values_of w.values) (at_name w.name rows)

abbrev pub since : List WaitingName → Labels → Option ℕ
since queue name = option_map (λ w. w.point) (find (is_named name) queue)

abbrev pub without_name : Labels → List WaitingName → List WaitingName
without_name name queue = filter (λ w. not (is_named name w)) queue

-- the old values that were kept at earlier points
abbrev pub values_before : ℕ → Rows OldValue → Rows OldValue
values_before point values = filter (λ e. nat_lt e.1.point point) values

abbrev pub old_before : ℕ → WaitingName → WaitingName
old_before point w = record w { values = values_before point w.values }

-- the names that wait since an earlier point, in their order, with what was kept of them at earlier points
abbrev pub before_point : ℕ → List WaitingName → List WaitingName
before_point point queue = map (old_before point) (filter (λ w. nat_lt w.point point) queue)

-- the name waits since an earlier point, and all old values were kept at earlier ones
abbrev pub IsOlder : ℕ → WaitingName → Type 0
IsOlder point w = (w.point < point) × AllByRecursion (λ e. e.1.point < point) w.values

-- ---- as questions ask for the records

abbrev pub old_side : Asked → RecordSet → WaitingName → RecordSet
old_side asked rows w = only (λ key. wants key asked) (records_then rows w)

abbrev pub new_side : Asked → RecordSet → WaitingName → RecordSet
new_side asked rows w = only (λ key. wants key asked) (at_name w.name rows)

abbrev pub is_changed : Asked → RecordSet → WaitingName → Bool
is_changed asked rows w = not (same_rows (old_side asked rows w) (new_side asked rows w))

-- a name that waits, and whose records differ
abbrev pub differs : Asked → RecordSet → Option WaitingName → Bool
differs asked rows None = false
differs asked rows (Some w) = is_changed asked rows w

abbrev pub asked_net : Asked → RecordSet → WaitingName → List Notice
asked_net asked rows w = net (old_side asked rows w) (new_side asked rows w)

-- a name that waits, and has something to tell
abbrev pub tells : Asked → RecordSet → Option WaitingName → Bool
tells asked rows None = false
tells asked rows (Some w) = not (is_empty (asked_net asked rows w))

abbrev pub nets_in : Asked → RecordSet → List WaitingName → Nets
nets_in asked rows queue = each_net (λ w. w.name) (old_side asked rows) (new_side asked rows) queue

abbrev pub packed_of : Asked → RecordSet → List WaitingName → List Notice × List Labels
packed_of asked rows queue = packed (nets_in asked rows queue)

-- as many of the last names as stay
abbrev pub left_in : Asked → RecordSet → List WaitingName → List WaitingName
left_in asked rows queue = drop (length queue - length (packed_of asked rows queue).1) queue

-- the records of a waiting name are such as nets are made of, before and now
abbrev pub IsPackable : RecordSet → WaitingName → Type 0
IsPackable rows w = AreOfOneName (records_then rows w) (at_name w.name rows) × IsTrue (can_be_sent (at_name w.name rows))

abbrev pub CanBePacked : RecordSet → List WaitingName → Type 0
CanBePacked rows queue = AllByRecursion (IsPackable rows) queue
