-- In a script each session's input holds octets.
--     octets-kept      the steps of which calls are made keep octets in all inputs
--     octets-lines, octets-connected      so they stand there between lines, and with one session more
use Rattle.std.proofs.Common.{length, ◌≡◌, ℕ, ◌+◌, ◌*◌, ◌<◌, ◌≤◌, Bool, true, false, cond, ◌&&◌, not, List, [], ◌∷◌, ◌++◌, map, take, find, Option, Some, None, option_map, Ok, nat_lt, refl, sym, ◌∙◌, ap, subst, arith}
use Rattle.std.specs.Prelude.{◌==◌}
use Rattle.std.specs.List.{All, AllByRecursion, list_all}
use Rattle.std.specs.Char.{is_ascii_hexdigit}
use Rattle.std.proofs.lemmas.Bool.Decides.{nat_tests}
use Rattle.std.proofs.lemmas.List.Elements.{All-nil, All-append, All-take, All-drop, recursion_from_All}
use Rattle.dnsname.specs.Names.{Labels, IsLabel, label_octets, labels_octets, octets, is_name}
use Rattle.dnsname.proofs.Decisions.{is_name-Decides, and_true}
use Rattle.push_base.specs.Hexadecimal.{first_other, digit_value, octets_of_digits, octets_or_fault, hex_octets}
use Rattle.push_base.proofs.HexLaws.{digits_all}
use Rattle.rrset.proofs.Places.{all_filter}
use Rattle.coalesce.proofs.Packing.{each-front}
use Rattle.coalesce.proofs.ReadBack.{each-append}
use Rattle.dsotlv.specs.Laws.{AreOctets}
use Rattle.dsotlv.proofs.Results.{same_found}
use Rattle.dsosession.specs.declared.session.EndReason.{EndReason}
use Rattle.pushsession.specs.declared.session_status.SessionStatus.TheVariants.{AskedToStop}
use Rattle.pushsession.specs.Sessions.{is_open, new_session, room_of, with_piece, asked_to_stop, ended_where, without_first}
use Rattle.pushserver.specs.PlainHubs.{Session, Hub, plain_keeps}
use Rattle.pushserver.specs.Hubs.{now, keeps_now, session_of, in_session, connect}
use Rattle.pushserver.specs.Calls.{connects}
use Rattle.pushserver.proofs.Walks.{Step, IsKept, keeps-called}
use Rattle.pushserver.proofs.hub_steps.Pairs.{all-weaken}
use Rattle.pushserver.proofs.session_steps.Octets.{first_octets, rest_octets}
use Rattle.pushserver.proofs.session_steps.Lists.{found-each}
use Rattle.scripts.specs.Lines.{ScriptLine, octets_written}
use Rattle.scripts.specs.Scripts.{script_of}
use Rattle.replay.specs.World.{start_world}
use Rattle.replay.specs.Text.{world_after}
use Rattle.replay.specs.PassedOctets.{enough}
use Rattle.replay.proofs.worlds.KeptByLines.{KeepsClients, keeps-lines}
use Rattle.replay.proofs.worlds.ClientOutputs.{SaysOctets, all_octets, says-new, so-subscribe, so-unsubscribe, so-reconfirm, so-connected, so-cut, so-moment, so-gives, so-delivered, output-octets}
use Rattle.replay.proofs.worlds.StepInputs.{step-input}
use Rattle.replay.proofs.worlds.Keeping.{InParts}
use Rattle.scripts.proofs.lines.SentOctets.{sent_by, some_octets, written-by, sends-pass}

abbrev IsOctet : ℕ → Type 0
IsOctet o = o < 256

abbrev pub are_octets : List ℕ → Bool
are_octets octets = list_all (λ o. nat_lt o 256) octets

-- ---- a word stands for octets

small_digit : (c : ℕ) → is_ascii_hexdigit c ≡ true → digit_value c < 16
small_digit c h = grind (arith, nat_tests)

small_octet : (c d : ℕ) → is_ascii_hexdigit c ≡ true → is_ascii_hexdigit d ≡ true → nat_lt (16 * digit_value c + digit_value d) 256 ≡ true
small_octet c d h k = by (digit_value c) (digit_value d) (small_digit c h) (small_digit d k)
  where
    by : (n m : ℕ) → n < 16 → m < 16 → nat_lt (16 * n + m) 256 ≡ true
    by n m h k = grind (arith, nat_tests)

pub both : (a b : Bool) → a ≡ true → b ≡ true → (a && b) ≡ true
both true b h k = k
both false b h k = absurd cc

-- what digits are read as
digits_octets : (text octets : List ℕ) → AllByRecursion (λ c. is_ascii_hexdigit c ≡ true) text → octets_of_digits text ≡ Some octets → are_octets octets ≡ true
digits_octets [] octets h e = ap are_octets (some_octets octets [] (sym e))
digits_octets (c ∷ []) octets h e = absurd cc
digits_octets (c ∷ d ∷ text) octets h e = by (octets_of_digits text) (λ os is. digits_octets text os h.1.1 is) e
  where
    o : ℕ
    o = 16 * digit_value c + digit_value d

    by : (r : Option (List ℕ)) → ((os : List ℕ) → r ≡ Some os → are_octets os ≡ true) → option_map (λ os. o ∷ os) r ≡ Some octets → are_octets octets ≡ true
    by None rest e = absurd cc
    by (Some os) rest e = subst (λ (os : List ℕ). are_octets os ≡ true) (some_octets (o ∷ os) octets e) (both (nat_lt o 256) (are_octets os) (small_octet c d h.0 h.1.0) (rest os refl))

read_octets : (text octets : List ℕ) → hex_octets text ≡ Ok octets → are_octets octets ≡ true
read_octets text octets e = by (first_other text) refl (octets_of_digits text) refl e
  where
    same : (a b : List ℕ) → octets_or_fault None (Some a) ≡ Ok b → Some a ≡ Some b
    same a b e = cc

    by : (place : Option ℕ) → first_other text ≡ place → (r : Option (List ℕ)) → octets_of_digits text ≡ r → octets_or_fault place r ≡ Ok octets → are_octets octets ≡ true
    by (Some place) there r is e = absurd cc
    by None there None is e = absurd cc
    by None there (Some os) is e = digits_octets text octets (digits_all text there) (is ∙ same os octets e)

pub written_octets : (h octets : List ℕ) → octets_written h ≡ Some octets → are_octets octets ≡ true
written_octets h octets e = written-by (λ (o : List ℕ). are_octets o ≡ true) h octets refl (λ o small read. read_octets h o read) e

-- ---- a name is octets

below : (o : ℕ) → o < 256 → nat_lt o 256 ≡ true
below o h = grind (arith, nat_tests)

each_below : (os : List ℕ) → AllByRecursion IsOctet os → are_octets os ≡ true
each_below [] h = refl
each_below (o ∷ os) h = both (nat_lt o 256) (are_octets os) (below o h.0) (each_below os h.1)

pub test_octets : (os : List ℕ) → AreOctets os → are_octets os ≡ true
test_octets os h = each_below os (recursion_from_All IsOctet os h)

append_octets : (xs ys : List ℕ) → are_octets xs ≡ true → are_octets ys ≡ true → are_octets (xs ++ ys) ≡ true
append_octets [] ys h k = k
append_octets (x ∷ xs) ys h k = (let parts = and_true (nat_lt x 256) (are_octets xs) h in both (nat_lt x 256) (are_octets (xs ++ ys)) parts.0 (append_octets xs ys parts.1 k))

label-octets : (label : List ℕ) → IsLabel label → are_octets (label_octets label) ≡ true
label-octets label is = both (nat_lt (length label) 256) (are_octets label) (below (length label) (small (length label) is.few)) (each_below label is.octets)
  where
    small : (n : ℕ) → n ≤ 63 → n < 256
    small n h = omega arith

labels-octets : (labels : Labels) → AllByRecursion IsLabel labels → are_octets (labels_octets labels) ≡ true
labels-octets [] all = refl
labels-octets (l ∷ ls) all = append_octets (label_octets l) (labels_octets ls) (label-octets l all.0) (labels-octets ls all.1)

pub named_octets : (name : Labels) → is_name name ≡ true → are_octets (octets name) ≡ true
named_octets name is = append_octets (labels_octets name) (0 ∷ []) (labels-octets name ((is_name-Decides name).0 is).labels) refl

-- ---- what lines bring

abbrev BringOctets : ScriptLine → Type 0
BringOctets line = AllByRecursion AreOctets (sent_by line)

each_octets : (pieces : List (List ℕ)) → list_all are_octets pieces ≡ true → AllByRecursion AreOctets pieces
each_octets [] h = tt
each_octets (p ∷ ps) h = (let parts = and_true (are_octets p) (list_all are_octets ps) h in (all_octets p parts.0, each_octets ps parts.1))

octets-sent : (text : List ℕ) (lines : List ScriptLine) → script_of text ≡ Ok lines → AllByRecursion BringOctets lines
octets-sent text lines read =
    all-weaken (λ (line : ScriptLine). list_all are_octets (sent_by line) ≡ true) BringOctets (λ line h. each_octets (sent_by line) h) lines
    (sends-pass are_octets written_octets named_octets text lines read)

-- ---- what sessions hold

abbrev HasInput : ℕ × Session → Type 0
HasInput e = AreOctets e.1.input

abbrev pub HoldsOctets : Hub → Type 0
HoldsOctets hub = AllByRecursion HasInput hub.sessions

map_octets : (f : ℕ × Session → Session) → ((e : ℕ × Session) → HasInput e → AreOctets (f e).input) → (sessions : List (ℕ × Session)) → AllByRecursion HasInput sessions → AllByRecursion HasInput (map (λ e. (e.0, f e)) sessions)
map_octets f step [] all = tt
map_octets f step (e ∷ es) all = (step e all.0, map_octets f step es all.1)

one_octets : (number : ℕ) (f : Session → Session) → ((s : Session) → AreOctets s.input → AreOctets (f s).input) → (hub : Hub) → HoldsOctets hub → HoldsOctets (in_session number f hub)
one_octets number f step hub h = map_octets (λ e. cond (e.0 == number) (f e.1) e.1) (λ e i. by (e.0 == number) e.1 i) hub.sessions h
  where
    by : (b : Bool) (s : Session) → AreOctets s.input → AreOctets (cond b (f s) s).input
    by true s i = step s i
    by false s i = i

pub found_octets : (hub : Hub) (number : ℕ) (session : Session) → session_of hub number ≡ Some session → HoldsOctets hub → AreOctets session.input
found_octets hub number session there h = by (find (λ (e : ℕ × Session). e.0 == number) hub.sessions) refl there
  where
    by : (o : Option (ℕ × Session)) → find (λ (e : ℕ × Session). e.0 == number) hub.sessions ≡ o → option_map (λ (e : ℕ × Session). e.1) o ≡ Some session → AreOctets session.input
    by None is there = absurd cc
    by (Some e) is there = subst (λ (s : Session). AreOctets s.input) (same_found e.1 session there) (found-each HasInput (λ (e : ℕ × Session). e.0 == number) hub.sessions e h is).0

takes_octets : (piece : List ℕ) → AreOctets piece → (s : Session) → AreOctets s.input → AreOctets (with_piece piece s).input
takes_octets piece q s i = All-append IsOctet s.input (take (room_of s) piece) i (All-take IsOctet (room_of s) piece q)

-- what a call does to a session leaves its input
step_octets : {hub : Hub} (f : Session → Session) → Step AreOctets hub f → (s : Session) → AreOctets s.input → AreOctets (f s).input
step_octets f step s i = subst AreOctets (sym (step-input f step s)) i

pub octets-kept : IsKept AreOctets HoldsOctets
octets-kept = record {
  reads = λ hub number session found there is h. first_octets session.input found is (found_octets hub number session there h);
  takes_up = λ hub number session found there is h. one_octets number (without_first found.1) (λ s i. rest_octets session.input found is (found_octets hub number session there h)) hub h;
  changes = λ hub number f step h. one_octets number f (step_octets f step) hub h;
  enters = λ hub entry by h. map_octets _ (λ e i. i) hub.sessions h;
  ends = λ hub point reason h. map_octets _ (λ e i. ended_octets point (reason e.1) e.1 i) hub.sessions h;
  takes_in = λ hub number piece q h. one_octets number (with_piece piece) (takes_octets piece q) hub h;
  asks_stop = λ hub number rcode delay h. one_octets number (asked_to_stop rcode delay) (λ s i. stop_octets rcode delay s i) hub h;
  makes = λ hub h. each-append HasInput hub.sessions ((hub.numbers_given, new_session (keeps_now hub) (now hub)) ∷ []) h (All-nil IsOctet, tt);
  drops = λ hub number h. all_filter HasInput (λ e. not (e.0 == number)) hub.sessions h;
}
  where
    ended_octets : (point : ℕ) (o : Option EndReason) (s : Session) → AreOctets s.input → AreOctets (ended_where (plain_keeps point) o s).input
    ended_octets point None s i = i
    ended_octets point (Some reason) s i = i

    stop_octets : (rcode delay : ℕ) (s : Session) → AreOctets s.input → AreOctets (asked_to_stop rcode delay s).input
    stop_octets rcode delay s i = by (is_open s.standing)
      where
        by : (b : Bool) → AreOctets (cond b (record s { standing = AskedToStop rcode delay }) s).input
        by true = i
        by false = i

pub octets-parts : InParts AreOctets
octets-parts = record { front = All-take IsOctet; rest = All-drop IsOctet; nothing = All-nil IsOctet; behind = All-append IsOctet }

-- what clients have to send
pub octets-clients : KeepsClients AreOctets SaysOctets
octets-clients = record {
  new = says-new;
  subscribes = λ client q name c. so-subscribe client q (test_octets (octets q.name) name) c;
  unsubscribes = so-unsubscribe;
  reconfirms = λ client rr name rdata c. so-reconfirm client rr name rdata c;
  connects = so-connected;
  cuts = so-cut;
  times = so-moment;
  gives = so-gives;
  delivers = λ client piece c. so-delivered enough piece (record { client = client; count = 0; left = piece }) c;
  says = output-octets;
}

pub octets-lines : (text : List ℕ) (before behind : List ScriptLine) → script_of text ≡ Ok (before ++ behind)
    → AllByRecursion (λ e. All (λ o. o < 256) e.1.input) (world_after before (start_world (before ++ behind))).hub.sessions
octets-lines text before behind read =
    let sent = octets-sent text (before ++ behind) read in
    keeps-lines AreOctets HoldsOctets octets-kept octets-parts SaysOctets octets-clients before (start_world (before ++ behind)) (each-front BringOctets before behind sent) tt tt

pub octets-connected : (hub : Hub) → AllByRecursion (λ e. All (λ o. o < 256) e.1.input) hub.sessions → AllByRecursion (λ e. All (λ o. o < 256) e.1.input) (connect hub).1.sessions
octets-connected hub h = keeps-called AreOctets HoldsOctets octets-kept connects hub tt h
