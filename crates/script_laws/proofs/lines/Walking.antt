-- Each line leads from a world that stands, and of which what is known fits, to such a world.
--     Walked all known shown world      the world stands, what is known fits, and nothing was shown to a client that isn't there yet
--     walked-line      the law
use Rattle.std.proofs.Common.{◌≡◌, ℕ, Bool, true, false, cond, not, ◌≤◌, List, [], ◌∷◌, find, Option, Some, None, option_map, refl, sym, ◌∙◌, ap, subst, arith}
use Rattle.std.specs.Prelude.{is_some, IsTrue}
use Rattle.std.specs.Option.{option_or}
use Rattle.std.specs.List.{AllByRecursion, IsDistinct}
use Rattle.std.specs.Str.{bytes_eq}
use Rattle.std.proofs.lemmas.List.Folds.{find-append}
use Rattle.coalesce.proofs.ReadBack.{each-append}
use Rattle.rrset.specs.declared.record.Question.{Question}
use Rattle.pushserver.specs.PlainHubs.{Hub}
use Rattle.pushserver.specs.Hubs.{newest}
use Rattle.scripts.specs.Lines.{Word, HeadLine, timers, zone, link, reverse, ScriptLine, silent, head_line, joining, hub_event, link_event, client_call, client_passing, client_event, session_event}
use Rattle.scripts.specs.declared.line.HubEvent.{HubEvent}
use Rattle.scripts.specs.declared.line.HubEvent.TheVariants as hub_events
use Rattle.scripts.specs.declared.line.ClientEvent.{ClientEvent}
use Rattle.scripts.specs.declared.line.ClientEvent.TheVariants as client_events
use Rattle.scripts.specs.declared.line.SessionEvent.{SessionEvent}
use Rattle.scripts.specs.declared.line.SessionEvent.TheVariants as session_events
use Rattle.scripts.specs.Scripts.{Known, lone_of, is_among, is_peer, is_client, may_happen_to, may_meet, allowed, in_events, known_in_head, with_client, fits}
use Rattle.replay.specs.World.{World, Seat, new_seat, seat_of, number_in}
use Rattle.replay.specs.TextWords.{by_history}
use Rattle.replay.specs.Text.{seated, hub_does, client_does, session_does, line_does}
use Rattle.replay.specs.Promises.{ShownPoints, IsUnconnected}
use Rattle.scripts.proofs.lines.SameWords.{same_word, word_itself, other_way}
use Rattle.replay.proofs.worlds.Seats.{is_of_word}
use Rattle.replay.proofs.worlds.OneWorld.{shows-leave}
use Rattle.script_laws.specs.Joined.{SeatStands, ShownToEach, WorldStands}
use Rattle.script_laws.specs.Lines.{IsHubWithin, IsSessionWithin, IsRead, KnownFits}
use Rattle.script_laws.proofs.lines.Premises.{LineLaws}
use Rattle.script_laws.proofs.lines.Cutting.{or_true}
use Rattle.script_laws.proofs.lines.Starting.{is_allowed}
use Rattle.script_laws.proofs.lines.Knowing.{ArePeers, LeadsTo, leads-none}
use Rattle.script_laws.proofs.lines.Passing.{passes-stand}
use Rattle.script_laws.proofs.lines.Asking.{calls-stand}
use Rattle.script_laws.proofs.lines.Opening.{opens-stand, cuts-stand, feeds-stand}
use Rattle.script_laws.proofs.lines.Moments.{moments-stand}
use Rattle.script_laws.proofs.lines.Sending.{updates-stand, links-stand, stops-stand, sends-stand}

-- nothing was shown to a client that isn't there
abbrev pub ShowsToClients : ShownToEach → World → Type 0
ShowsToClients shown world = (w : Word) → seat_of world w ≡ None → (question : Question) → shown w question ≡ []

pub record Walked (all : List Word) (known : Known) (shown : ShownToEach) (world : World) : Type 0 where
  pub stands : WorldStands shown world
  pub fits : KnownFits all known world
  pub clients : ShowsToClients shown world

-- ---- options

map_none : {X Y : Type 0} (f : X → Y) (o : Option X) → option_map f o ≡ None → o ≡ None
map_none f None e = refl
map_none f (Some x) e = absurd cc

no_some : (o : Option Bool) → not (is_some o) ≡ true → o ≡ None
no_some None e = refl
no_some (Some b) e = absurd cc

pub some_true : (o : Option Bool) → (elim o as (λ _. Bool) [ None ↦ false | Some is_lone ↦ is_lone ]) ≡ true → o ≡ Some true
some_true None e = absurd cc
some_true (Some b) e = ap Some e

-- ---- a line that names nobody new

leads-walk : (all : List Word) (known next : Known) (shown : ShownToEach) (world later : World) → Walked all known shown world → next.clients ≡ known.clients → LeadsTo all shown world later
    → Walked all next shown later
leads-walk all known next shown world later h same l =
    let lone_same : (w : Word) → lone_of next w ≡ lone_of known w = λ w. ap (λ (cs : List (Word × Bool)). option_map (λ (e : Word × Bool). e.1) (find (λ (e : Word × Bool). bytes_eq w e.0) cs)) same in
    record {
      stands = l.stands;
      fits = record {
        clients = λ w. lone_same w ∙ h.fits.clients w ∙ sym (l.clients w);
        named = λ w is_lone e. h.fits.named w is_lone (sym (lone_same w) ∙ e);
        peers = l.peers h.fits.peers;
      };
      clients = λ w none question. h.clients w (map_none (λ (s : Seat). s.is_lone) (seat_of world w) (sym (l.clients w) ∙ ap (option_map (λ (s : Seat). s.is_lone)) none)) question;
    }

module _ (all : List Word) (known next : Known) (shown : ShownToEach) (world : World) (h : Walked all known shown world) where
  -- where it is allowed by a test
  by-test : (test : Bool) (k : Known) (later : World) → allowed test k ≡ Some next → k.clients ≡ known.clients → (test ≡ true → LeadsTo all shown world later) → Walked all next shown later
  by-test test k later e same leads =
      let a = is_allowed test k next e in
      subst (λ (n : Known). Walked all n shown later) a.1 (leads-walk all known k shown world later h same (leads a.0))

-- ---- a client that comes

no-peer : (all : List Word) (w : Word) (peers : List (Word × ℕ)) → ArePeers all peers → is_among all w ≡ true → number_in peers w ≡ None
no-peer all w [] each named = refl
no-peer all w (e ∷ es) each named = by (bytes_eq e.0 w) refl (no-peer all w es each.1 named)
  where
    by : (b : Bool) → bytes_eq e.0 w ≡ b → number_in es w ≡ None → option_map (λ (x : Word × ℕ). x.1) (cond b (Some e) (find (λ (x : Word × ℕ). bytes_eq x.0 w) es)) ≡ None
    by true is rest =
        let among : is_among all e.0 ≡ true = ap (is_among all) (same_word e.0 w is) ∙ named in
        let wrong : not true ≡ true = subst (λ (b : Bool). not b ≡ true) among each.0 in
        absurd cc
    by false is rest = rest

new-alone : (hub : Hub) (shown : ShownPoints) (w : Word) (is_lone : Bool) → ((question : Question) → shown question ≡ []) → IsUnconnected hub shown (new_seat w is_lone)
unfolding IsDistinct
new-alone hub shown w is_lone none = record {
  client = or_true is_lone;
  wishes = λ own. record { few = omega arith; questions = tt; fit = tt };
  up_wire = refl;
  down_wire = refl;
  reached = refl;
  filled = refl;
  shown_before = λ question. subst (λ (ps : List ℕ). AllByRecursion (λ p. p ≤ newest hub) ps) (sym (none question)) tt;
}

module _ (laws : LineLaws) (all : List Word) (known : Known) (shown : ShownToEach) (world : World) (h : Walked all known shown world) (w : Word) (is_lone : Bool) (new : lone_of known w ≡ None) (named : is_among all w ≡ true) where
  abbrev later : World
  later = (seated w is_lone world).0

  nobody : seat_of world w ≡ None
  nobody = map_none (λ (s : Seat). s.is_lone) (seat_of world w) (sym (h.fits.clients w) ∙ new)

  clients-then : (v : Word) → lone_of (with_client w is_lone known) v ≡ option_map (λ (s : Seat). s.is_lone) (seat_of later v)
  clients-then v =
      ap (option_map (λ (e : Word × Bool). e.1)) (find-append (λ (e : Word × Bool). bytes_eq v e.0) known.clients ((w, is_lone) ∷ []))
      ∙ by (find (λ (e : Word × Bool). bytes_eq v e.0) known.clients) (seat_of world v) (h.fits.clients v) (bytes_eq v w) refl
      ∙ sym (ap (option_map (λ (s : Seat). s.is_lone)) (find-append (is_of_word v) world.seats (new_seat w is_lone ∷ [])))
    where
      turned : (b : Bool) → bytes_eq v w ≡ b → bytes_eq w v ≡ b
      turned true e = subst (λ (u : Word). bytes_eq u v ≡ true) (same_word v w e) (word_itself v)
      turned false e = other_way v w e

      by : (o : Option (Word × Bool)) (s : Option Seat) → option_map (λ (e : Word × Bool). e.1) o ≡ option_map (λ (t : Seat). t.is_lone) s → (b : Bool) → bytes_eq v w ≡ b
          → option_map (λ (e : Word × Bool). e.1) (option_or o (find (λ (e : Word × Bool). bytes_eq v e.0) ((w, is_lone) ∷ [])))
          ≡ option_map (λ (t : Seat). t.is_lone) (option_or s (find (is_of_word v) (new_seat w is_lone ∷ [])))
      by (Some e) (Some s) same b is = same
      by (Some e) None same b is = absurd cc
      by None (Some s) same b is = absurd cc
      by None None same true is =
          ap (λ (t : Bool). option_map (λ (e : Word × Bool). e.1) (cond t (Some (w, is_lone)) None)) is
          ∙ sym (ap (λ (t : Bool). option_map (λ (s : Seat). s.is_lone) (cond t (Some (new_seat w is_lone)) None)) (turned true is))
      by None None same false is =
          ap (λ (t : Bool). option_map (λ (e : Word × Bool). e.1) (cond t (Some (w, is_lone)) None)) is
          ∙ sym (ap (λ (t : Bool). option_map (λ (s : Seat). s.is_lone) (cond t (Some (new_seat w is_lone)) None)) (turned false is))

  named-then : (v : Word) (b : Bool) → lone_of (with_client w is_lone known) v ≡ Some b → IsTrue (is_among all v)
  named-then v b e =
      by (find (λ (x : Word × Bool). bytes_eq v x.0) known.clients) refl (bytes_eq v w) refl
      (sym (ap (option_map (λ (x : Word × Bool). x.1)) (find-append (λ (x : Word × Bool). bytes_eq v x.0) known.clients ((w, is_lone) ∷ []))) ∙ e)
    where
      by : (o : Option (Word × Bool)) → find (λ (x : Word × Bool). bytes_eq v x.0) known.clients ≡ o → (t : Bool) → bytes_eq v w ≡ t
          → option_map (λ (x : Word × Bool). x.1) (option_or o (cond (bytes_eq v w) (Some (w, is_lone)) None)) ≡ Some b → IsTrue (is_among all v)
      by (Some x) there t is f = h.fits.named v x.1 (ap (option_map (λ (y : Word × Bool). y.1)) there)
      by None there true is f = ap (is_among all) (same_word v w is) ∙ named
      by None there false is f =
          let wrong : None ≡ Some b = sym (ap (λ (t : Bool). option_map (λ (x : Word × Bool). x.1) (cond t (Some (w, is_lone)) None)) is) ∙ f in
          absurd cc

  still-none : (v : Word) → seat_of later v ≡ None → seat_of world v ≡ None
  still-none v e = by (seat_of world v) (sym (find-append (is_of_word v) world.seats (new_seat w is_lone ∷ [])) ∙ e)
    where
      by : (o : Option Seat) → option_or o (find (is_of_word v) (new_seat w is_lone ∷ [])) ≡ None → o ≡ None
      by None e = refl
      by (Some s) e = absurd cc

  comes : Walked all (with_client w is_lone known) shown later
  comes = record {
    stands = record {
      reached = h.stands.reached;
      numbers = laws.seats_come world w is_lone nobody (no-peer all w world.peers h.fits.peers named) h.stands.numbers;
      seats = each-append (λ (s : Seat). SeatStands world.hub (shown s.word) s) world.seats (new_seat w is_lone ∷ []) h.stands.seats (new-alone world.hub (shown w) w is_lone (h.clients w nobody), tt);
    };
    fits = record { clients = clients-then; named = named-then; peers = h.fits.peers };
    clients = λ v none question. h.clients v (still-none v none) question;
  }

-- ---- each line

module _ (laws : LineLaws) (all : List Word) (known next : Known) (shown : ShownToEach) (world : World) (h : Walked all known shown world) where
  -- one that does nothing
  abbrev nothing : LeadsTo all shown world world
  nothing = leads-none all shown world h.stands

  client-comes : (w : Word) (is_lone : Bool) → IsTrue (is_among all w) → allowed (not (is_client known w)) (with_client w is_lone known) ≡ Some next → Walked all next shown (seated w is_lone world).0
  client-comes w is_lone named e =
      let a = is_allowed (not (is_client known w)) (with_client w is_lone known) next e in
      subst (λ (n : Known). Walked all n shown (seated w is_lone world).0) a.1 (comes laws all known shown world h w is_lone (no_some (lone_of known w) a.0) named)

  -- no client has the word of a peer
  no-client : (w : Word) → is_peer all w ≡ true → seat_of world w ≡ None
  no-client w peer = by (lone_of known w) refl
    where
      by : (o : Option Bool) → lone_of known w ≡ o → seat_of world w ≡ None
      by None e = map_none (λ (s : Seat). s.is_lone) (seat_of world w) (sym (h.fits.clients w) ∙ e)
      by (Some b) e = (let wrong : not true ≡ true = subst (λ (t : Bool). not t ≡ true) (h.fits.named w b e) peer in absurd cc)

  hub-leads : (event : HubEvent) → IsHubWithin event → LeadsTo all shown world (hub_does event world).0
  hub-leads (hub_events.At t) within = moments-stand laws all shown t world h.stands
  hub-leads (hub_events.Update message) within = updates-stand laws all shown world h.stands message within.0
  hub-leads hub_events.Point within = nothing

  client-leads : (w : Word) (event : ClientEvent) → may_happen_to known.clients w event ≡ true → LeadsTo all shown world (client_does by_history event w world).0
  client-leads w client_events.Open may = opens-stand laws all shown world h.stands w
  client-leads w (client_events.Feed octets) may = feeds-stand laws all shown world h.stands w octets (sym (h.fits.clients w) ∙ some_true (lone_of known w) may)
  client-leads w (client_events.Show question written) may = subst (LeadsTo all shown world) (sym (shows-leave by_history w question written world)) nothing

  session-leads : (w : Word) (event : SessionEvent) → IsSessionWithin w event → may_meet all known.clients w event ≡ true → LeadsTo all shown world (session_does event w world).0
  session-leads w (session_events.Send octets) within may = sends-stand laws all shown world h.stands w octets (no-client w may) may within.1.0
  session-leads w (session_events.Stop rcode delay) within may = stops-stand laws all shown world h.stands w rcode delay within.0 within.1
  session-leads w session_events.Cut within may = cuts-stand laws all shown world h.stands w

  -- a line of the head makes no client
  head-clients : (line : HeadLine) → (known_in_head known line).clients ≡ known.clients
  head-clients (timers i k) = refl
  head-clients (zone apex serial mode) = refl
  head-clients (link w domain most) = refl
  head-clients (reverse w domain) = refl

  pub walked-line : (line : ScriptLine) → IsRead all line → fits all known line ≡ Some next → Walked all next shown (line_does by_history line world).0
  walked-line silent is e = by-test all known next shown world h true known world e refl (λ may. nothing)
  walked-line (head_line line) is e = by-test all known next shown world h _ (known_in_head known line) world e (head-clients line) (λ may. nothing)
  walked-line (joining w is_lone) is e = client-comes w is_lone (is.named w refl) e
  walked-line (hub_event event) is e = by-test all known next shown world h true (in_events known) _ e refl (λ may. hub-leads event is.within)
  walked-line (link_event w event) is e = by-test all known next shown world h _ (in_events known) _ e refl (λ may. links-stand laws all shown world h.stands w event is.within)
  walked-line (client_call w call) is e = by-test all known next shown world h _ (in_events known) _ e refl (λ may. calls-stand laws all shown world h.stands call w is.within)
  walked-line (client_passing w way) is e = by-test all known next shown world h _ (in_events known) _ e refl (λ may. passes-stand laws all shown world h.stands way w)
  walked-line (client_event w event) is e = by-test all known next shown world h (may_happen_to known.clients w event) (in_events known) _ e refl (client-leads w event)
  walked-line (session_event w event) is e = by-test all known next shown world h (may_meet all known.clients w event) (in_events known) _ e refl (session-leads w event is.within)
