-- What is made ready for a session's turn, and what came of it.
--     FitsAs found name      a name, where it fits
--     AsksLink question state found      the link that is asked for a question, and what
--     turn_request session      what is needed for the first message of a session that goes on without output
--     first_id session, count_of session, heard_moment rows key      the ID of its first message; how many questions it has; when a row was heard
--     coming hub number, confirming hub number      the reasons that may come; the row that may be reconfirmed
--     IsReady hub number ready old new      what was made ready
--     Undoes, Settles      it is taken back; it stands or is taken back, by what came of the turn
use Rattle.std.specs.Prelude.{◌≡◌, ℕ, Bool, true, false, cond, ◌&&◌, List, [], ◌∷◌, length, Option, Some, None, nat_le, nat_lt, option_map, slice_get, if◌then◌else◌}
use Rattle.push_base.specs.Cases.{changed_at, is_empty}
use Rattle.dnsname.specs.Names.{Labels}
use Rattle.rrset.specs.KeyedRows.{row_at}
use Rattle.rrset.specs.declared.record.Key.{Key}
use Rattle.rrset.specs.declared.record.Question.{Question}
use Rattle.rrset.specs.declared.record.Rr.{Rr}
use Rattle.linkmap.specs.Translation.{fits_a_name}
use Rattle.dsotlv.specs.Messages.{head_of}
use Rattle.linkcache.specs.Links.{LinkState}
use Rattle.linkcache.specs.Rows.{LinkRows}
use Rattle.linkcache.specs.declared.row.HeardRow.{HeardRow}
use Rattle.linkreasons.specs.AllReasons.{AllReasons, KeepsBounds, askings_of, but_last, doubted_less, doubted_more, in_session, only_reasons, with_reason, with_those, with_wanted}
use Rattle.linkreasons.specs.Changing.{settled_last}
use Rattle.linkreasons.specs.declared.reason.Reason.{Reason}
use Rattle.history.specs.States.{State, home_of}
use Rattle.pushsession.specs.Requests.{message_of, request_of}
use Rattle.pushsession.specs.Kept.{KeptSession}
use Rattle.pushsession.specs.declared.request.Request.{Request}
use Rattle.pushsession.specs.declared.request.Request.TheVariants as requests
use Rattle.pushserver.specs.Hubs.{newest, session_of, state_now}
use Rattle.pushserver.specs.KeptHubs.{KeptHub}
use Rattle.hubasking.specs.KeptReasons.{reasons_at, reasons_for}
use Rattle.hubasking.specs.LinkAskings.{confirms, confirms_key, is_live}
use Rattle.hubasking.specs.declared.giving.Ready.{Ready}
use Rattle.hubasking.specs.declared.giving.Ready.TheVariants as readies

abbrev pub FitsAs : Option Labels → Labels → Type 0
FitsAs None name = fits_a_name name ≡ false
FitsAs (Some found) name = (found ≡ name) × (fits_a_name name ≡ true)

abbrev pub reason_with : ℕ → Option (ℕ × Question) → List Reason
reason_with id None = []
reason_with id (Some found) = record { id = id; link = found.0; question = found.1 } ∷ []

abbrev pub AsksLink : Question → State → Option (ℕ × Question) → Type 0
AsksLink question state found = (id : ℕ) → reasons_at id question state.links (home_of state question.name) ≡ reason_with id found

-- ---- a session's turn

abbrev pub turn_request : Option KeptSession → Option Request
turn_request None = None
turn_request (Some session) = if is_live session.standing && is_empty session.output then request_of session else None

abbrev pub first_id : Option KeptSession → Option ℕ
first_id None = None
first_id (Some session) = option_map (λ head. head.id) (head_of (message_of session))

abbrev pub count_of : Option KeptSession → ℕ
count_of None = 0
count_of (Some session) = length session.subscriptions.asked

abbrev pub heard_moment : LinkRows → Key → Option ℕ
heard_moment rows key = option_map (λ (row : HeardRow). row.heard) (row_at key rows)

-- ---- what is made ready

-- where it subscribes, what links are asked for that
abbrev pub coming_with : State → Option ℕ → Option Request → List Reason
coming_with state (Some id) (Some (requests.Subscribe (Some question))) = reasons_for state (id, question)
coming_with state _ _ = []

abbrev pub coming : KeptHub → ℕ → List Reason
coming hub number = coming_with (state_now hub) (first_id (session_of hub number)) (turn_request (session_of hub number))

abbrev pub confirming : KeptHub → ℕ → Option (ℕ × Key)
confirming hub number = confirms hub (turn_request (session_of hub number))

-- no reason may come, and no row be reconfirmed
pub record IsStill (hub : KeptHub) (number : ℕ) (old new : AllReasons) : Type 0 where
  pub coming : coming hub number ≡ []
  pub confirms : confirming hub number ≡ None
  pub same : new ≡ old

-- the session has the reason that may come, behind the others
pub record HasReason (hub : KeptHub) (number : ℕ) (old new : AllReasons) : Type 0 where
  pub reason : Reason
  pub coming : coming hub number ≡ reason ∷ []
  pub confirms : confirming hub number ≡ None
  pub sessions : new.sessions ≡ in_session number (with_reason reason) old.sessions
  pub askings : askings_of new ≡ with_wanted reason.link reason.question (askings_of old)
  pub bounds : KeepsBounds old new

-- the row that may be reconfirmed is doubted, with the moment at which it was heard
pub record IsDoubted (hub : KeptHub) (number link : ℕ) (old new : AllReasons) : Type 0 where
  pub rr : Rr
  pub request : turn_request (session_of hub number) ≡ Some (requests.Reconfirm (Some rr))
  pub key : Key
  pub found : LinkState
  pub at : slice_get (state_now hub).links link ≡ Some found
  pub heard : ℕ
  pub there : heard_moment found.rows key ≡ Some heard
  pub coming : coming hub number ≡ []
  pub confirms : confirming hub number ≡ confirms_key hub (Some (link, key))
  pub sessions : new.sessions ≡ old.sessions
  pub askings : askings_of new ≡ changed_at link (doubted_more key heard) (askings_of old)
  pub bounds : KeepsBounds old new

abbrev pub IsReady : KeptHub → ℕ → Ready → AllReasons → AllReasons → Type 0
IsReady hub number readies.Nothing old new = IsStill hub number old new
IsReady hub number readies.Reason old new = HasReason hub number old new
IsReady hub number (readies.Doubt link) old new = IsDoubted hub number link old new

-- ---- what follows

-- the reasons of a session change, and what has none any more goes
pub record Drops (number : ℕ) (left : List Reason → List Reason) (old new : AllReasons) : Type 0 where
  pub sessions : new.sessions ≡ in_session number left old.sessions
  pub askings : askings_of new ≡ only_reasons new.sessions (askings_of old)
  pub bounds : KeepsBounds old new

-- the last row that was reconfirmed is taken back
pub record TakesBack (link : ℕ) (old new : AllReasons) : Type 0 where
  pub sessions : new.sessions ≡ old.sessions
  pub askings : askings_of new ≡ only_reasons new.sessions (changed_at link doubted_less (askings_of old))
  pub bounds : KeepsBounds old new

-- it stands for all of its key
pub record SettlesDoubt (link : ℕ) (old new : AllReasons) : Type 0 where
  pub sessions : new.sessions ≡ old.sessions
  pub askings : askings_of new ≡ changed_at link settled_last (askings_of old)
  pub bounds : KeepsBounds old new

abbrev pub Undoes : ℕ → Ready → AllReasons → AllReasons → Type 0
Undoes number readies.Nothing old new = new ≡ old
Undoes number readies.Reason old new = Drops number but_last old new
Undoes number (readies.Doubt link) old new = TakesBack link old new

abbrev pub KeepsLeft : Option KeptSession → ℕ → AllReasons → AllReasons → Type 0
KeepsLeft None number old new = new ≡ old
KeepsLeft (Some session) number old new = Drops number (with_those session.subscriptions.asked) old new

-- by how many questions the session had before, and what was the newest point
abbrev pub SettlesBy : KeptHub → ℕ → Ready → Bool → Bool → AllReasons → AllReasons → Type 0
SettlesBy hub number readies.Nothing fewer risen old new = cond fewer (KeepsLeft (session_of hub number) number old new) (new ≡ old)
SettlesBy hub number readies.Reason fewer risen old new = cond fewer (Drops number but_last old new) (new ≡ old)
SettlesBy hub number (readies.Doubt link) fewer risen old new = cond risen (SettlesDoubt link old new) (TakesBack link old new)

abbrev pub fewer_for : Ready → ℕ → ℕ → Bool
fewer_for readies.Nothing left count = nat_lt left count
fewer_for _ left count = nat_le left count

abbrev pub Settles : KeptHub → ℕ → Ready → ℕ → ℕ → AllReasons → AllReasons → Type 0
Settles hub number ready count point old new = SettlesBy hub number ready (fewer_for ready (count_of (session_of hub number)) count) (nat_lt point (newest hub)) old new
