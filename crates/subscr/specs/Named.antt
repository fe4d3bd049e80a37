-- Questions by name, as they are kept beside their list.
--     ask_of      of a question with its ID what isn't its name
--     asks_of name asked      those of the questions of a name, in the order in which they were added
--     asks_for key ask      such a question at the key's owner asks for the key
--     is_asked question ask      such a question at a question's name is that question
--     Kept      the IDs, and what is asked of each name
--     kinds_cmp a b, AreOrdered asks      the order of QTYPEs and QCLASSes; such questions are in it
--     comes_behind ask other, with_ask ask asks      another one is behind a question; the question is put before the first of those
--     IsSameKept, Adds, Removes      it answers as before; one more question is kept; one less
--     IsKept      what is kept of a list of questions
use Rattle.std.specs.Prelude.{◌≡◌, ℕ, Bool, true, false, ◌&&◌, ◌||◌, ◌==◌, not, List, if◌then◌else◌, map, filter, count_by}
use Rattle.std.specs.List.{insert, position_or_len}
use Rattle.std.specs.List.Sorted.{IsNonDecreasingBy}
use Rattle.std.specs.Ordering.{is_gt, nat_cmp, ordering_index, ordering_then}
use Rattle.std.specs.declared.cmp.Ordering.{Ordering}
use Rattle.dnsname.specs.Names.{Labels, same_name}
use Rattle.rrset.specs.Kinds.{any_kind, any_class}
use Rattle.rrset.specs.declared.record.Key.{Key}
use Rattle.rrset.specs.declared.record.Question.{Question}
use Rattle.subscr.specs.Asked.{Asked, has}
use Rattle.subscr.specs.ByName.{noted_at}
use Rattle.subscr.specs.Watching.{is_in}
use Rattle.subscr.specs.declared.named.Ask.{Ask}

abbrev pub ask_of : ℕ × Question → Ask
ask_of e = record { kind = e.1.kind; class = e.1.class; id = e.0 }

abbrev pub asks_of : Labels → Asked → List Ask
asks_of name asked = map ask_of (filter (λ e. same_name e.1.name name) asked)

abbrev pub asks_for : Key → Ask → Bool
asks_for key ask = (ask.kind == key.kind || ask.kind == any_kind) && (ask.class == key.class || ask.class == any_class)

abbrev pub is_asked : Question → Ask → Bool
is_asked question ask = ask.kind == question.kind && ask.class == question.class

-- such a question has this QTYPE and this QCLASS
abbrev pub is_of : ℕ → ℕ → Ask → Bool
is_of kind class ask = ask.kind == kind && ask.class == class

-- by QTYPE, and then by QCLASS
abbrev pub kinds_cmp : ℕ × ℕ → ℕ × ℕ → Ordering
kinds_cmp a b = ordering_then (nat_cmp a.0 b.0) (nat_cmp a.1 b.1)

abbrev pub kinds_of : Ask → ℕ × ℕ
kinds_of ask = (ask.kind, ask.class)

-- whatever is searched for, those before it come first, and those behind it last
abbrev pub AreOrdered : List Ask → Type 0
AreOrdered asks = (kinds : ℕ × ℕ) → IsNonDecreasingBy (λ ask. ordering_index (kinds_cmp (kinds_of ask) kinds)) asks

abbrev pub comes_behind : Ask → Ask → Bool
comes_behind ask other = is_gt (kinds_cmp (kinds_of other) (kinds_of ask))

abbrev pub with_ask : Ask → List Ask → List Ask
with_ask ask asks = insert asks (position_or_len (comes_behind ask) asks) ask

abbrev pub has_id : ℕ → Ask → Bool
has_id id ask = ask.id == id

abbrev pub without_ask : ℕ → List Ask → List Ask
without_ask id asks = filter (λ ask. not (has_id id ask)) asks

pub record Kept : Type 0 where
  pub ids : List ℕ
  pub asks : List (Labels × List Ask)

pub record IsSameKept (old new : Kept) : Type 0 where
  pub ids : (id : ℕ) → is_in id new.ids ≡ is_in id old.ids
  pub asks : (name : Labels) → noted_at name new.asks ≡ noted_at name old.asks

pub record Adds (id : ℕ) (question : Question) (old new : Kept) : Type 0 where
  pub ids : (another : ℕ) → is_in another new.ids ≡ (if id == another then true else is_in another old.ids)
  pub asks : (other : Labels) → noted_at other new.asks ≡ (if same_name question.name other then with_ask (ask_of (id, question)) (noted_at other old.asks) else noted_at other old.asks)

pub record Removes (id : ℕ) (name : Labels) (old new : Kept) : Type 0 where
  pub ids : (another : ℕ) → is_in another new.ids ≡ (if id == another then false else is_in another old.ids)
  pub asks : (other : Labels) → noted_at other new.asks ≡ (if same_name name other then without_ask id (noted_at other old.asks) else noted_at other old.asks)

pub record IsKept (kept : Kept) (asked : Asked) : Type 0 where
  pub ids : (id : ℕ) → is_in id kept.ids ≡ has id asked
  -- at each name the same questions, as often: as many pass any test
  pub asks : (name : Labels) (test : Ask → Bool) → count_by test (noted_at name kept.asks) ≡ count_by test (asks_of name asked)
