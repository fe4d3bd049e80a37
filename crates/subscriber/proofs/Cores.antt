-- What is said depends neither on what went out nor on what is still to go out.
--     core s      what was said, without octets and turns
--     core-messages      whole messages lead from one core to one core
use Rattle.std.proofs.Common.{◌≡◌, ℕ, Bool, true, false, cond, Option, Some, None, List, [], ◌∷◌, ◌++◌, length, drop, refl, sym, ◌∙◌, ap, arith, append-nil}
use Rattle.std.specs.Prelude.{is_some, codes}
use Rattle.std.proofs.lemmas.List.{drop_all}
use Rattle.dsosession.specs.declared.session.CloseReason.{CloseReason}
use Rattle.pushclient.specs.declared.client.Step.{Step}
use Rattle.pushclient.specs.declared.client.Step.TheVariants as steps
use Rattle.pushclient.specs.Clients.{Client, Connection, open_connection, output_of, give_octets}
use Rattle.pushclient.specs.Pieces.{sends_before}
use Rattle.pushclient.specs.Steps.{reacted}
use Rattle.pushclient.proofs.Outputs.{before_step, same-reacted}
use Rattle.subscriber.specs.Said.{Saying, ends_with, is_used_up, after_step, takes_message, takes_messages}
use Rattle.subscriber.proofs.MessageTurns.{further, by_left}
use Rattle.subscriber.proofs.Steps.{by_open, by_over}

-- a client without what it has to send
abbrev pub silenced : Client → Client
silenced client = give_octets (length (output_of client)) client

abbrev pub core : Saying → Saying
core s = record s { client = silenced s.client; left = []; wire = []; turns_left = 0 }

-- ---- clients

abbrev over_client : Client → Option Connection → Client
over_client client o = record client { connection = o }

drop-whole : (xs : List ℕ) → drop (length xs) xs ≡ []
drop-whole xs = drop_all (length xs) xs (omega arith)

pub silenced-twice : (client : Client) → silenced (silenced client) ≡ silenced client
silenced-twice client = by client.connection
  where
    by : (o : Option Connection) → silenced (silenced (over_client client o)) ≡ silenced (over_client client o)
    by None = refl
    by (Some c) =
        let none = drop-whole c.output in
        ap (λ (l : List ℕ). over_client client (Some (record c { output = l }))) (drop-whole (drop (length c.output) c.output) ∙ sym none)

pub silenced-before : (y : List ℕ) (client : Client) → silenced (sends_before y client) ≡ silenced client
silenced-before y client = by client.connection
  where
    by : (o : Option Connection) → silenced (sends_before y (over_client client o)) ≡ silenced (over_client client o)
    by None = refl
    by (Some c) = ap (λ (l : List ℕ). over_client client (Some (record c { output = l }))) (drop-whole (y ++ c.output) ∙ sym (drop-whole c.output))

-- an open client has its output before nothing
put-back : (client : Client) (c : Connection) → over_client client (Some c) ≡ sends_before c.output (over_client client (Some (record c { output = drop (length c.output) c.output })))
put-back client c = ap (λ (l : List ℕ). over_client client (Some (record c { output = l }))) (sym (append-nil c.output) ∙ ap (λ (l : List ℕ). c.output ++ l) (sym (drop-whole c.output)))

-- ---- what was said

pub core-twice : (s : Saying) → core (core s) ≡ core s
core-twice s = ap (λ (x : Client). record s { client = x; left = []; wire = []; turns_left = 0 }) (silenced-twice s.client)

-- one step, by what it says
core-step : (told : Step) (first second : Client) (s : Saying) → silenced first ≡ silenced second → core (after_step told first s) ≡ core (after_step told second (core s))
core-step told first second s same = by told
  where
    spoken : (told : Step) (used : Bool) → core (by_left (codes "ended messages") (further told first s) used) ≡ core (by_left (codes "ended messages") (further told second (core s)) used)
    spoken told true = ap (λ (x : Client). core (record (ends_with (codes "ended messages") (further told first s)) { client = x })) refl ∙ put_in (ends_with (codes "ended messages") (further told first s))
      where
        put_in : (y : Saying) → record y { client = silenced first; left = []; wire = []; turns_left = 0 } ≡ record y { client = silenced second; left = []; wire = []; turns_left = 0 }
        put_in y = ap (λ (x : Client). record y { client = x; left = []; wire = []; turns_left = 0 }) same
    spoken told false = ap (λ (x : Client). record (further told first s) { client = x; left = []; wire = []; turns_left = 0 }) same

    by : (told : Step) → core (after_step told first s) ≡ core (after_step told second (core s))
    by (steps.Closed reason) = ap (λ (x : Client). record (after_step (steps.Closed reason) first s) { client = x; left = []; wire = []; turns_left = 0 }) same
    by steps.Waiting = spoken steps.Waiting (is_used_up (further steps.Waiting first s).messages_left)
    by (steps.Answered id rcode) = spoken (steps.Answered id rcode) (is_used_up (further (steps.Answered id rcode) first s).messages_left)
    by (steps.Kept inactivity keepalive) = spoken (steps.Kept inactivity keepalive) (is_used_up (further (steps.Kept inactivity keepalive) first s).messages_left)
    by (steps.Pushed notices) = spoken (steps.Pushed notices) (is_used_up (further (steps.Pushed notices) first s).messages_left)
    by (steps.Typeless id) = spoken (steps.Typeless id) (is_used_up (further (steps.Typeless id) first s).messages_left)

abbrev over_saying : Saying → Option Connection → Saying
over_saying s o = record s { client = over_client s.client o }

pub core-message : (s : Saying) (message : List ℕ) → core (takes_message s message) ≡ core (takes_message (core s) message)
core-message s message = by s.over
  where
    reacts : (c : Connection) → core (let one = reacted message c (over_client s.client (Some c)) in after_step one.0 one.1 (over_saying s (Some c)))
        ≡ core (let d = record c { output = drop (length c.output) c.output } in let one = reacted message d (over_client s.client (Some d)) in after_step one.0 one.1 (core (over_saying s (Some c))))
    reacts c =
        let d : Connection = record c { output = drop (length c.output) c.output } in
        let one = reacted message d (over_client s.client (Some d)) in
        let back : reacted message c (over_client s.client (Some c)) ≡ before_step c.output one =
        ap (λ (x : Client). reacted message c x) (put-back s.client c) ∙ (same-reacted s.client.now c.output message d s.client.wishes d).is in
        ap (λ (r : Step × Client). core (after_step r.0 r.1 (over_saying s (Some c)))) back
        ∙ core-step one.0 (sends_before c.output one.1) one.1 (over_saying s (Some c)) (silenced-before c.output one.1)

    by_closed : (c : Connection) (closed : Option CloseReason)
        → core (by_open (over_saying s (Some c)) message (cond (is_some closed) None (Some c))) ≡ core (by_open (core (over_saying s (Some c))) message (cond (is_some closed) None (Some (record c { output = drop (length c.output) c.output }))))
    by_closed c (Some reason) = sym (core-twice (over_saying s (Some c)))
    by_closed c None = reacts c

    open_by : (o : Option Connection) → core (by_open (over_saying s o) message (open_connection (over_saying s o).client)) ≡ core (by_open (core (over_saying s o)) message (open_connection (core (over_saying s o)).client))
    open_by None = sym (core-twice (over_saying s None))
    open_by (Some c) = by_closed c c.closed

    by : (over : Bool) → core (by_over s message over) ≡ core (by_over (core s) message over)
    by true = sym (core-twice s)
    by false = open_by s.client.connection

core-all : (messages : List (List ℕ)) (s : Saying) → core (takes_messages messages s) ≡ core (takes_messages messages (core s))
core-all [] s = sym (core-twice s)
core-all (m ∷ ms) s =
    core-all ms (takes_message s m) ∙ ap (λ (x : Saying). core (takes_messages ms x)) (core-message s m) ∙ sym (core-all ms (takes_message (core s) m))

-- whole messages lead from one core to one core
pub core-messages : (messages : List (List ℕ)) (first second : Saying) → core first ≡ core second → core (takes_messages messages first) ≡ core (takes_messages messages second)
core-messages messages first second same = core-all messages first ∙ ap (λ (x : Saying). core (takes_messages messages x)) same ∙ sym (core-all messages second)
