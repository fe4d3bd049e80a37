-- Where the clock stands still, each read leads from what is said of some octets to what is said of more.
--     open-messages      whole messages leave a client open where a message has just passed, unless an ending is said
--     Stills, still-moment      a moment there changes nothing, or the client has closed as idle
--     IsBehind, behind-reads      what was said behind some octets
use Rattle.std.proofs.Common.{◌≡◌, ℕ, suc, ◌-◌, ◌<◌, ◌&&◌, Bool, true, false, Option, Some, None, List, [], ◌∷◌, ◌++◌, length, map, drop, refl, sym, ◌∙◌, ap, subst, arith, append_assoc, append-nil}
use Rattle.std.specs.Prelude.{codes, fold, is_some}
use Rattle.std.specs.List.{list_any}
use Rattle.std.proofs.lemmas.List.Sums.{fold-append}
use Rattle.push_base.specs.Line.{Read, bytes, quiet, end_of_line}
use Rattle.dsotlv.specs.Messages.{messages_in}
use Rattle.dsotlv.proofs.FrameLaws.{Split}
use Rattle.dsotlv.proofs.StreamLaws.{cut_anywhere}
use Rattle.dsosession.specs.Timing.{client_due}
use Rattle.dsosession.specs.declared.session.CloseReason.{CloseReason}
use Rattle.dsosession.specs.declared.session.CloseReason.TheVariants as closes
use Rattle.dsosession.specs.declared.session.Due.{Due}
use Rattle.pushclient.specs.declared.client.Step.{Step}
use Rattle.pushclient.specs.Clients.{Client, Connection, open_connection, closed_as}
use Rattle.pushclient.specs.Steps.{reacted, moment, does, is_active}
use Rattle.pushclient.proofs.MessageSteps.{bare, is-open}
use Rattle.pushclient.proofs.Reactions.{at, with_octets, Does, does-reacted}
use Rattle.subscriber.specs.Said.{Saying, is_used_up, is_closed, counted, after_step, takes_message, takes_messages, takes_read, writes_out, closed_by_moment, capped, at_moment, spends_turn, turn}
use Rattle.subscriber.specs.EveryCut.{octets_of, octets_in, goes_on, go_on, IsIdle}
use Rattle.subscriber.proofs.Fresh.{IsFresh, fresh-reacted, Still, idle, nothing, no-keepalive}
use Rattle.subscriber.proofs.Steps.{takes-open, takes-over, over-stays}
use Rattle.subscriber.proofs.MessageTurns.{further, by_left, closed_says, open_says, unclosed}
use Rattle.subscriber.proofs.Moments.{IsOpen, closing_by, moved_by}
use Rattle.subscriber.proofs.Growing.{moment-over, turns-read}
use Rattle.subscriber.proofs.AllReads.{turn_by, turns-left, turns-over}
use Rattle.subscriber.proofs.Cores.{core, silenced, silenced-twice, core-messages}

never : {A : Type 0} → true ≡ false → A
never h = absurd cc

-- whether an ending was said is part of a core
over-same : (first second : Saying) → core first ≡ core second → first.over ≡ second.over
over-same first second same = ap (λ (x : Saying). x.over) same

-- the client is open, unless an ending was said
abbrev pub Stays : ℕ → Saying → Type 0
Stays t s = s.over ≡ false → IsOpen t s.client

-- ---- messages

counted-client : (s : Saying) → (counted s).client ≡ s.client
counted-client s = by (is_used_up s.messages_left)
  where
    by : (used : Bool) → (by_left (codes "ended messages") s used).client ≡ s.client
    by true = refl
    by false = refl

-- a read with its moment
abbrev pub at_one : ℕ → Read → Read × ℕ
at_one u r = (r, u)

module _ (t : ℕ) where
  module _ (s : Saying) (message : List ℕ) (going : s.over ≡ false) (o : IsOpen t s.client) where
    abbrev before : Connection
    before = bare o.connection

    does-so : Does t (λ x. reacted message before (at o.wishes t (with_octets x before)))
    does-so = does-reacted t message before o.wishes before o.unclosed

    -- the client behind the message
    abbrev behind_it : Client
    behind_it = at does-so.wishes t (bare does-so.later)

    made : takes_message s message ≡ after_step does-so.answer behind_it s
    made =
        takes-open s message before going (ap open_connection o.is ∙ is-open o.wishes t before o.unclosed)
        ∙ ap (λ (r : Step × Client). after_step r.0 r.1 s) (ap (λ (x : Client). reacted message before x) o.is ∙ does-so.is [])

    same_some : {a b : Connection} → Some a ≡ Some b → a ≡ b
    same_some h = cc

    fresh-behind : IsFresh t does-so.later.clocks
    fresh-behind =
        let f = fresh-reacted t message before o.wishes before o.fresh.long o.fresh in
        let one : at f.wishes t f.connection ≡ behind_it = sym f.is ∙ ap (λ (r : Step × Client). r.1) (does-so.is []) in
        subst (λ (x : Connection). IsFresh t x.clocks) (same_some (ap (λ (x : Client). x.connection) one)) f.fresh

    open-message : Stays t (takes_message s message)
    open-message later = by (is_closed does-so.answer) refl
      where
        by : (closed : Bool) → is_closed does-so.answer ≡ closed → IsOpen t (takes_message s message).client
        by true e = never (sym (ap (λ (x : Saying). x.over) (made ∙ closed_says does-so.answer behind_it s e)) ∙ later)
        by false e = record {
          wishes = does-so.wishes;
          connection = does-so.later;
          is = ap (λ (x : Saying). x.client) (made ∙ open_says does-so.answer behind_it s e) ∙ counted-client (further does-so.answer behind_it s);
          unclosed = unclosed does-so.answer does-so.later e does-so.told;
          fresh = fresh-behind;
        }

  stays-message : (s : Saying) (message : List ℕ) → Stays t s → Stays t (takes_message s message)
  stays-message s message o = by s.over refl
    where
      by : (over : Bool) → s.over ≡ over → Stays t (takes_message s message)
      by true e = λ later. never (sym (ap (λ (x : Saying). x.over) (takes-over s message e) ∙ e) ∙ later)
      by false e = open-message s message e (o e)

  pub open-messages : (messages : List (List ℕ)) (s : Saying) → Stays t s → Stays t (takes_messages messages s)
  open-messages [] s o = o
  open-messages (m ∷ ms) s o = open-messages ms (takes_message s m) (stays-message s m o)

  -- ---- a moment

  -- nothing has changed but what went out, or the client has closed as idle
  pub data Stills (s later : Saying) : Type 0 where
    ends_idle : later.over ≡ true → IsIdle later → Stills s later
    stands_still : core later ≡ core s → later.left ≡ s.left → later.turns_left ≡ s.turns_left → later.over ≡ false → IsOpen t later.client → Stills s later

  module _ (s : Saying) (u : ℕ) (now : capped u ≡ t) (going : s.over ≡ false) (o : IsOpen t s.client) where
    abbrev c : Connection
    c = bare o.connection

    abbrev active : Bool
    active = list_any (λ w. is_active w.standing) o.wishes

    abbrev here : Client
    here = at o.wishes t c

    abbrev due_by : Option Connection → Client
    due_by None = here
    due_by (Some d) = does (client_due d.clocks t active (is_some d.keepalive_out)) d here

    due : moment s.client (capped u) ≡ does (client_due c.clocks t active (is_some c.keepalive_out)) c here
    due = (λ i. moment (o.is i) (now i)) ∙ ap due_by (is-open o.wishes t c o.unclosed)

    abbrev sent : Connection → Saying
    sent d = writes_out (record s { client = at o.wishes t d })

    moved : (d : Connection) (closed : Option CloseReason) → moment s.client (capped u) ≡ at o.wishes t d → d.closed ≡ closed → at_moment u s ≡ closing_by (sent d) closed
    moved d closed e is = ap (moved_by u s) going ∙ ap (λ (x : Client). closed_by_moment (writes_out (record s { client = x }))) e ∙ ap (closing_by (sent d)) is

    abbrev idle_one : Connection
    idle_one = record c { closed = Some closes.Idle }

    by_due : Still t (client_due c.clocks t active (is_some c.keepalive_out)) → Stills s (at_moment u s)
    by_due (idle e) =
        let is = moved idle_one (Some closes.Idle) (due ∙ ap (λ (x : Due). does x c here) e) refl in
        ends_idle (ap (λ (x : Saying). x.over) is) (ap (λ (x : Saying). closed_as x.client) is)
    by_due (nothing e) =
        let is = moved c None (due ∙ ap (λ (x : Due). does x c here) e) o.unclosed in
        subst (Stills s) (sym is) (stands_still
        (ap (λ (x : Client). record s { client = x; left = []; wire = []; turns_left = 0 }) (silenced-twice here ∙ ap silenced (sym o.is)))
        refl refl going
        (record { wishes = o.wishes; connection = record c { output = drop (length c.output) c.output }; is = refl; unclosed = o.unclosed; fresh = o.fresh }))

    pub still-moment : Stills s (at_moment u s)
    still-moment = by_due (no-keepalive t c.clocks active (is_some c.keepalive_out) o.fresh)

  -- ---- what was said behind some octets

  -- all but what went out is what the whole messages in these octets make of a start
  pub record IsBehind (start : Saying) (octets : List ℕ) (s : Saying) (left : ℕ) : Type 0 where
    pub alike : core s ≡ core (takes_messages (messages_in octets).0 start)
    pub rest : s.over ≡ false → s.left ≡ (messages_in octets).1
    pub turns : s.over ≡ false → s.turns_left ≡ left
    pub stays : Stays t s

  -- once an ending was said nothing is added
  behind-over : (start : Saying) (octets more : List ℕ) (s : Saying) (left fewer : ℕ) → s.over ≡ true → IsBehind start octets s left → IsBehind start (octets ++ more) s fewer
  behind-over start octets more s left fewer over b = record {
    alike = b.alike ∙ ap core (sym (over-stays behind before (sym (over-same s before b.alike) ∙ over)) ∙ sym (fold-append takes_message start (messages_in octets).0 behind) ∙ ap (λ (sp : Split). takes_messages sp.0 start) (sym (cut_anywhere octets more)));
    rest = λ e. never (sym over ∙ e);
    turns = λ e. never (sym over ∙ e);
    stays = λ e. never (sym over ∙ e);
  }
    where
      before : Saying
      before = takes_messages (messages_in octets).0 start

      behind : List (List ℕ)
      behind = (messages_in ((messages_in octets).1 ++ more)).0

  -- a read
  behind-octets : (start : Saying) (octets more : List ℕ) (s : Saying) (left : ℕ) → s.over ≡ false → IsBehind start octets s left → IsBehind start (octets ++ more) (takes_read (bytes more) s) left
  behind-octets start octets more s left going b = record {
    alike = core-messages behind s before b.alike ∙ ap core (ap (λ (l : List ℕ). takes_messages (messages_in (l ++ more)).0 before) (b.rest going) ∙ sym (fold-append takes_message start (messages_in octets).0 (messages_in ((messages_in octets).1 ++ more)).0)
        ∙ ap (λ (sp : Split). takes_messages sp.0 start) (sym (cut_anywhere octets more)));
    rest = λ e. ap (λ (l : List ℕ). (messages_in (l ++ more)).1) (b.rest going) ∙ ap (λ (sp : Split). sp.1) (sym (cut_anywhere octets more));
    turns = λ e. turns-read (bytes more) s ∙ b.turns going;
    stays = open-messages behind s b.stays;
  }
    where
      before : Saying
      before = takes_messages (messages_in octets).0 start

      behind : List (List ℕ)
      behind = (messages_in (s.left ++ more)).0

  behind-read : (start : Saying) (octets : List ℕ) (r : Read) (s : Saying) (left : ℕ) → goes_on r ≡ true → s.over ≡ false → IsBehind start octets s left → IsBehind start (octets ++ octets_of r) (takes_read r s) left
  behind-read start octets (bytes more) s left goes going b = behind-octets start octets more s left going b
  behind-read start octets quiet s left goes going b = subst (λ (l : List ℕ). IsBehind start l s left) (sym (append-nil octets)) b
  behind-read start octets end_of_line s left goes going b = never (sym goes)

  -- a read and the moment behind it: the client has closed as idle, or goes on
  pub data Turned (start : Saying) (octets : List ℕ) (left : ℕ) (later : Saying) : Type 0 where
    is_idle : later.over ≡ true → IsIdle later → Turned start octets left later
    goes_further : IsBehind start octets later left → Turned start octets left later

  -- one turn is spent
  spent-over : (s : Saying) → s.over ≡ true → spends_turn s ≡ record s { turns_left = s.turns_left - 1 }
  spent-over s over = turns-over (record s { turns_left = s.turns_left - 1 }) over

  spent-open : (s : Saying) (fewer : ℕ) → s.over ≡ false → s.turns_left ≡ suc fewer → 0 < fewer → spends_turn s ≡ record s { turns_left = s.turns_left - 1 }
  spent-open s fewer going left some = turns-left (record s { turns_left = s.turns_left - 1 }) going (omega (arith, left, some))

  module _ (start : Saying) (octets : List ℕ) (fewer : ℕ) (some : 0 < fewer) where
    -- of what was said once the read was heard
    by_stills : (x y : Saying) → x.over ≡ false → IsBehind start octets x (suc fewer) → Stills x y → Turned start octets fewer (spends_turn y)
    by_stills x y going b (ends_idle over is) =
        let e = spent-over y over in
        is_idle (ap (λ (z : Saying). z.over) e ∙ over) (ap (λ (z : Saying). closed_as z.client) e ∙ is)
    by_stills x y going b (stands_still alike rest turns going_on here) =
        let left : y.turns_left ≡ suc fewer = turns ∙ b.turns going in
        subst (Turned start octets fewer) (sym (spent-open y fewer going_on left some)) (goes_further (record {
          alike = alike ∙ b.alike;
          rest = λ e. rest ∙ b.rest going;
          turns = λ e. omega (arith, left);
          stays = λ e. here;
        }))

    behind-moment : (x : Saying) (u : ℕ) → capped u ≡ t → IsBehind start octets x (suc fewer) → Turned start octets fewer (spends_turn (at_moment u x))
    behind-moment x u now b = by x.over refl
      where
        by : (over : Bool) → x.over ≡ over → Turned start octets fewer (spends_turn (at_moment u x))
        by true e = subst (Turned start octets fewer) (sym (ap spends_turn (moment-over u x e) ∙ spent-over x e)) (goes_further (record {
          alike = b.alike;
          rest = λ h. never (sym e ∙ h);
          turns = λ h. never (sym e ∙ h);
          stays = λ h. never (sym e ∙ h);
        }))
        by false e = by_stills x (at_moment u x) e b (still-moment x u now e (b.stays e))

  behind-turn : (start : Saying) (octets : List ℕ) (r : Read) (u fewer : ℕ) (s : Saying) → 0 < fewer → capped u ≡ t → goes_on r ≡ true → IsBehind start octets s (suc fewer) → Turned start (octets ++ octets_of r) fewer (turn s (r, u))
  behind-turn start octets r u fewer s some now goes b = by s.over refl
    where
      by : (over : Bool) → s.over ≡ over → Turned start (octets ++ octets_of r) fewer (turn s (r, u))
      by true e = subst (Turned start (octets ++ octets_of r) fewer) (sym (ap (turn_by s (r, u)) e)) (goes_further (behind-over start octets (octets_of r) s (suc fewer) fewer e b))
      by false e = subst (Turned start (octets ++ octets_of r) fewer) (sym (ap (turn_by s (r, u)) e))
          (behind-moment start (octets ++ octets_of r) fewer some (takes_read r s) u now (behind-read start octets r s (suc fewer) goes e b))

  -- ---- reads, one after the other

  turns-stay : (u : ℕ) (reads : List Read) (s : Saying) → s.over ≡ true → fold turn s (map (at_one u) reads) ≡ s
  turns-stay u [] s over = refl
  turns-stay u (r ∷ rs) s over = ap (λ (x : Saying). fold turn x (map (at_one u) rs)) (ap (turn_by s (r, u)) over) ∙ turns-stay u rs s over

  both_true : (a b : Bool) → (a && b) ≡ true → (a ≡ true) × (b ≡ true)
  both_true true b e = (refl, e)
  both_true false b e = never (sym e)

  pub behind-reads : (start : Saying) (octets : List ℕ) (u : ℕ) (reads : List Read) (left : ℕ) (s : Saying) → capped u ≡ t → go_on reads ≡ true → length reads < left → IsBehind start octets s left
      → (IsIdle (fold turn s (map (at_one u) reads)) → ⊥) → core (fold turn s (map (at_one u) reads)) ≡ core (takes_messages (messages_in (octets ++ octets_in reads)).0 start)
  behind-reads start octets u [] left s now go few b busy = b.alike ∙ ap (λ (l : List ℕ). core (takes_messages (messages_in l).0 start)) (sym (append-nil octets))
  behind-reads start octets u (r ∷ rs) left s now go few b busy =
      let goes = both_true (goes_on r) (go_on rs) go in
      let less : left ≡ suc (left - 1) = omega (arith, few) in
      by (turn s (r, u)) (λ b' busy'. behind-reads start (octets ++ octets_of r) u rs (left - 1) (turn s (r, u)) now goes.1 (omega (arith, few)) b' busy')
      busy (behind-turn start octets r u (left - 1) s (omega (arith, few)) now goes.0 (subst (IsBehind start octets s) less b))
    where
      by : (later : Saying)
          → (IsBehind start (octets ++ octets_of r) later (left - 1) → (IsIdle (fold turn later (map (at_one u) rs)) → ⊥) → core (fold turn later (map (at_one u) rs)) ≡ core (takes_messages (messages_in ((octets ++ octets_of r) ++ octets_in rs)).0 start))
          → (IsIdle (fold turn later (map (at_one u) rs)) → ⊥) → Turned start (octets ++ octets_of r) (left - 1) later
          → core (fold turn later (map (at_one u) rs)) ≡ core (takes_messages (messages_in (octets ++ octets_in (r ∷ rs))).0 start)
      by later others busy (is_idle over is) = absurd (busy (ap (λ (x : Saying). closed_as x.client) (turns-stay u rs later over) ∙ is))
      by later others busy (goes_further b) = others b busy ∙ ap (λ (l : List ℕ). core (takes_messages (messages_in l).0 start)) (append_assoc octets (octets_of r) (octets_in rs))
