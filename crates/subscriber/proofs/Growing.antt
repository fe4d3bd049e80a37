-- What was said and sent stays in front of what is said and sent later.
--     grows-read, grows-moment      behind a read, behind a moment
--     moment-over, going-before      where an ending was said, no moment changes anything
--     wire-read, turns-read      no read puts octets onto the wire, or spends a turn
--     front-refl, front-behind, front-trans      fronts of lists
use Rattle.std.proofs.Common.{◌≡◌, ℕ, ◌-◌, Bool, true, false, Option, Some, None, List, [], ◌∷◌, ◌++◌, refl, sym, ◌∙◌, ap, subst, append_assoc, append-nil}
use Rattle.std.specs.Prelude.{codes}
use Rattle.std.proofs.lemmas.Grind.{flat_map-append}
use Rattle.push_base.specs.Line.{Read, bytes, quiet, end_of_line}
use Rattle.dsotlv.specs.Messages.{messages_in}
use Rattle.dsosession.specs.declared.session.CloseReason.{CloseReason}
use Rattle.pushclient.specs.declared.client.Step.{Step}
use Rattle.pushclient.specs.Clients.{Client, Connection, open_connection, output_of, closed_as}
use Rattle.pushclient.specs.Steps.{reacted, moment}
use Rattle.push_base.specs.Written.{IsFrontOf}
use Rattle.scripts.specs.Words.{line, ended_lines}
use Rattle.subscriber.specs.Said.{Saying, text_of, ends_with, is_used_up, ends_at, is_closed, step_lines, closed_line, after_step, takes_message, takes_messages, takes_read, writes_out, closed_by_moment, capped, at_moment, ends_without_turns, spends_turn}
use Rattle.subscriber.specs.Turning.{Grows}
use Rattle.subscriber.proofs.MessageTurns.{further, closed_says, open_says, ends-at}
use Rattle.subscriber.proofs.Moments.{closing_by, moved_by}
use Rattle.subscriber.proofs.Steps.{by_open, by_over}

-- ---- fronts

pub front-refl : (xs : List ℕ) → IsFrontOf xs xs
front-refl xs = ([], append-nil xs)

pub front-trans : (xs ys zs : List ℕ) → IsFrontOf xs ys → IsFrontOf ys zs → IsFrontOf xs zs
front-trans xs ys zs f g = (f.0 ++ g.0, sym (append_assoc xs f.0 g.0) ∙ ap (λ (l : List ℕ). l ++ g.0) f.1 ∙ g.1)

-- a front behind others is a front of all
pub front-behind : (before xs ys whole : List ℕ) → IsFrontOf xs ys → before ++ ys ≡ whole → IsFrontOf (before ++ xs) whole
front-behind before xs ys whole f is = (f.0, append_assoc before xs f.0 ∙ ap (λ (l : List ℕ). before ++ l) f.1 ∙ is)

-- ---- one behind the other

pub grows-refl : (s : Saying) → Grows s s
grows-refl s = record { text = front-refl (text_of s); wire = front-refl s.wire }

pub grows-trans : (r s t : Saying) → Grows r s → Grows s t → Grows r t
grows-trans r s t g h = record { text = front-trans (text_of r) (text_of s) (text_of t) g.text h.text; wire = front-trans r.wire s.wire t.wire g.wire h.wire }

-- further lines
grows-lines : (s later : Saying) (lines : List (List ℕ)) → later.lines ≡ s.lines ++ lines → later.wire ≡ s.wire → Grows s later
grows-lines s later lines is same = record {
  text = (ended_lines lines, sym (flat_map-append line s.lines lines) ∙ ap ended_lines (sym is));
  wire = subst (IsFrontOf s.wire) (sym same) (front-refl s.wire);
}

pub grows-ends_at : (left : Option ℕ) (words : List ℕ) (s : Saying) → Grows s (ends_at left words s)
grows-ends_at left words s = by (is_used_up left) refl
  where
    by : (used : Bool) → is_used_up left ≡ used → Grows s (ends_at left words s)
    by true e = subst (Grows s) (sym (ends-at left words s true e)) (grows-lines s (ends_with words s) (words ∷ []) refl refl)
    by false e = subst (Grows s) (sym (ends-at left words s false e)) (grows-refl s)

grows-step : (told : Step) (client : Client) (s : Saying) → Grows s (after_step told client s)
grows-step told client s = by (is_closed told) refl
  where
    by : (closed : Bool) → is_closed told ≡ closed → Grows s (after_step told client s)
    by true e = subst (Grows s) (sym (closed_says told client s e)) (grows-lines s (record s { client = client; lines = s.lines ++ step_lines told; over = true }) (step_lines told) refl refl)
    by false e =
        let y = further told client s in
        subst (Grows s) (sym (open_says told client s e))
        (grows-trans s y (ends_at y.messages_left (codes "ended messages") y) (grows-lines s y (step_lines told) refl refl) (grows-ends_at y.messages_left (codes "ended messages") y))

-- ---- messages

grows-message : (s : Saying) (message : List ℕ) → Grows s (takes_message s message)
grows-message s message = by s.over
  where
    open_by : (o : Option Connection) → Grows s (by_open s message o)
    open_by None = grows-refl s
    open_by (Some c) = (let one = reacted message c s.client in grows-step one.0 one.1 s)

    by : (over : Bool) → Grows s (by_over s message over)
    by true = grows-refl s
    by false = open_by (open_connection s.client)

pub grows-messages : (messages : List (List ℕ)) (s : Saying) → Grows s (takes_messages messages s)
grows-messages [] s = grows-refl s
grows-messages (m ∷ ms) s = grows-trans s (takes_message s m) (takes_messages ms (takes_message s m)) (grows-message s m) (grows-messages ms (takes_message s m))

pub grows-read : (read : Read) (s : Saying) → Grows s (takes_read read s)
grows-read (bytes octets) s = (let g = grows-messages (messages_in (s.left ++ octets)).0 s in record { text = g.text; wire = g.wire })
grows-read quiet s = grows-refl s
grows-read end_of_line s = grows-lines s (ends_with (codes "closed eof") s) (codes "closed eof" ∷ []) refl refl

-- ---- no read puts octets onto the wire, or spends a turn

record Keeps (s later : Saying) : Type 0 where
  pub wire : later.wire ≡ s.wire
  pub turns : later.turns_left ≡ s.turns_left

keeps-refl : (s : Saying) → Keeps s s
keeps-refl s = record { wire = refl; turns = refl }

keeps-trans : (r s t : Saying) → Keeps r s → Keeps s t → Keeps r t
keeps-trans r s t f g = record { wire = g.wire ∙ f.wire; turns = g.turns ∙ f.turns }

keeps-ends_at : (left : Option ℕ) (words : List ℕ) (s : Saying) → Keeps s (ends_at left words s)
keeps-ends_at left words s = by (is_used_up left) refl
  where
    by : (used : Bool) → is_used_up left ≡ used → Keeps s (ends_at left words s)
    by true e = subst (Keeps s) (sym (ends-at left words s true e)) (record { wire = refl; turns = refl })
    by false e = subst (Keeps s) (sym (ends-at left words s false e)) (keeps-refl s)

keeps-step : (told : Step) (client : Client) (s : Saying) → Keeps s (after_step told client s)
keeps-step told client s = by (is_closed told) refl
  where
    by : (closed : Bool) → is_closed told ≡ closed → Keeps s (after_step told client s)
    by true e = subst (Keeps s) (sym (closed_says told client s e)) (record { wire = refl; turns = refl })
    by false e =
        let y = further told client s in
        subst (Keeps s) (sym (open_says told client s e)) (keeps-trans s y (ends_at y.messages_left (codes "ended messages") y) (record { wire = refl; turns = refl }) (keeps-ends_at y.messages_left (codes "ended messages") y))

keeps-message : (s : Saying) (message : List ℕ) → Keeps s (takes_message s message)
keeps-message s message = by s.over
  where
    open_by : (o : Option Connection) → Keeps s (by_open s message o)
    open_by None = keeps-refl s
    open_by (Some c) = (let one = reacted message c s.client in keeps-step one.0 one.1 s)

    by : (over : Bool) → Keeps s (by_over s message over)
    by true = keeps-refl s
    by false = open_by (open_connection s.client)

keeps-messages : (messages : List (List ℕ)) (s : Saying) → Keeps s (takes_messages messages s)
keeps-messages [] s = keeps-refl s
keeps-messages (m ∷ ms) s = keeps-trans s (takes_message s m) (takes_messages ms (takes_message s m)) (keeps-message s m) (keeps-messages ms (takes_message s m))

keeps-read : (read : Read) (s : Saying) → Keeps s (takes_read read s)
keeps-read (bytes octets) s = (let k = keeps-messages (messages_in (s.left ++ octets)).0 s in record { wire = k.wire; turns = k.turns })
keeps-read quiet s = keeps-refl s
keeps-read end_of_line s = record { wire = refl; turns = refl }

pub wire-read : (read : Read) (s : Saying) → (takes_read read s).wire ≡ s.wire
wire-read read s = (keeps-read read s).wire

pub turns-read : (read : Read) (s : Saying) → (takes_read read s).turns_left ≡ s.turns_left
turns-read read s = (keeps-read read s).turns

-- ---- a moment

grows-closing : (s : Saying) → Grows s (closed_by_moment s)
grows-closing s = by (closed_as s.client)
  where
    by : (closed : Option CloseReason) → Grows s (closing_by s closed)
    by None = grows-refl s
    by (Some reason) = grows-lines s (ends_with (closed_line reason) s) (closed_line reason ∷ []) refl refl

pub grows-moment : (t : ℕ) (s : Saying) → Grows s (at_moment t s)
grows-moment t s = by s.over
  where
    by : (over : Bool) → Grows s (moved_by t s over)
    by true = grows-refl s
    by false =
        let moved : Saying = record s { client = moment s.client (capped t) } in
        grows-trans s (writes_out moved) (closed_by_moment (writes_out moved)) (record { text = front-refl (text_of s); wire = (output_of moved.client, refl) }) (grows-closing (writes_out moved))

-- what was over stays
pub moment-over : (t : ℕ) (s : Saying) → s.over ≡ true → at_moment t s ≡ s
moment-over t s e = ap (moved_by t s) e

-- what goes on behind a moment went on before it
pub going-before : (t : ℕ) (s : Saying) → (at_moment t s).over ≡ false → s.over ≡ false
going-before t s going = by s.over refl
  where
    by : (over : Bool) → s.over ≡ over → s.over ≡ false
    by true e = sym (ap (λ (x : Saying). x.over) (moment-over t s e)) ∙ going
    by false e = e

-- no moment spends a turn
turns-closing : (s : Saying) → (closed_by_moment s).turns_left ≡ s.turns_left
turns-closing s = by (closed_as s.client)
  where
    by : (closed : Option CloseReason) → (closing_by s closed).turns_left ≡ s.turns_left
    by None = refl
    by (Some reason) = refl

turns-moment : (t : ℕ) (s : Saying) → (at_moment t s).turns_left ≡ s.turns_left
turns-moment t s = by s.over
  where
    by : (over : Bool) → (moved_by t s over).turns_left ≡ s.turns_left
    by true = refl
    by false = turns-closing (writes_out (record s { client = moment s.client (capped t) }))

pub turns-heard : (read : Read) (t : ℕ) (s : Saying) → (at_moment t (takes_read read s)).turns_left ≡ s.turns_left
turns-heard read t s = turns-moment t (takes_read read s) ∙ turns-read read s

-- ---- a turn

abbrev pub left_by : Saying → Bool → Saying
left_by s true = s
left_by s false = ends_at (Some s.turns_left) (codes "ended turns") s

pub grows-without_turns : (s : Saying) → Grows s (ends_without_turns s)
grows-without_turns s = by s.over
  where
    by : (over : Bool) → Grows s (left_by s over)
    by true = grows-refl s
    by false = grows-ends_at (Some s.turns_left) (codes "ended turns") s

pub grows-spent : (s : Saying) → Grows s (spends_turn s)
grows-spent s = (let g = grows-without_turns (record s { turns_left = s.turns_left - 1 }) in record { text = g.text; wire = g.wire })
