-- How much more a client owes behind what it is asked for, and at a moment.
--     called-owes, moment-owes      a frame and a wish more, at most
--     cut-owes      nothing more once its connection is cut
--     connected-owes      all its questions are asked anew
use Rattle.std.proofs.Common.{◌≡◌, ℕ, suc, ◌+◌, ◌*◌, ◌<◌, ◌≤◌, ◌^◌, Bool, true, false, cond, not, ◌&&◌, List, [], ◌∷◌, ◌++◌, map, filter, fold, length, Option, Some, None, refl, sym, ◌∙◌, ap, subst, arith, length-append}
use Rattle.std.specs.Prelude.{IsTrue, is_some, nat_le}
use Rattle.std.specs.List.{AllByRecursion, list_any}
use Rattle.std.proofs.lemmas.Bool.{leb-true, and_parts}
use Rattle.std.proofs.lemmas.List.{length-map}
use Rattle.push_base.specs.Limits.{max_questions}
use Rattle.rrset.specs.Records.{same_question}
use Rattle.rrset.specs.declared.record.Question.{Question}
use Rattle.rrset.specs.declared.record.Rr.{Rr}
use Rattle.dsotlv.specs.Messages.{frame}
use Rattle.dsosession.specs.Timing.{client_due}
use Rattle.dsosession.specs.declared.session.CloseReason.TheVariants as closes
use Rattle.dsosession.specs.declared.session.Due.{Due}
use Rattle.dsosession.specs.declared.session.Due.TheVariants as dues
use Rattle.pushclient.specs.declared.client.Asked.{Asked}
use Rattle.pushclient.specs.declared.client.Asked.TheVariants as asked
use Rattle.pushclient.specs.Clients as clients
use Rattle.pushclient.specs.Clients.{Client, Connection, Wish, RequestState, not_asked, unanswered, refused, answered, new_connection, next_id, writes, subscribe_message, unsubscribe_message, reconfirm_message, output_of, open_connection, with_connection, asks, wanted_questions, unasked, connected, wish_for, without_wish, subscribe, unsubscribe, reconfirm, drops}
use Rattle.pushclient.specs.Steps as steps
use Rattle.pushclient.specs.Steps.{closes_as, keepalive_message, sends_keepalive, does, at_later, is_active}
use Rattle.inflight.specs.Ends.{is_question}
use Rattle.inflight.specs.Messages.{subscribes}
use Rattle.flight_laws.proofs.ReadBack.{read-back}
use Rattle.scripts.specs.declared.line.Call.{Call}
use Rattle.scripts.specs.declared.line.Call.TheVariants as calls
use Rattle.replay.specs.Text.{called}
use Rattle.script_laws.specs.Lines.{IsCallWithin}
use Rattle.script_laws.specs.Turns.{owes}
use Rattle.script_laws.proofs.turns.Shorter.{filter-short}

-- ---- by the open connection

by-open : {X : Type 0} (P : X → Type 0) (client : Client) (without : X) (with_it : Connection → X) → P without → ((c : Connection) → client.connection ≡ Some c → P (with_it c))
    → P (elim (open_connection client) as (λ _. X) [ None ↦ without | Some c ↦ with_it c ])
by-open {X} P client without with_it none some = by client.connection refl
  where
    by_closed : (c : Connection) → client.connection ≡ Some c → (b : Bool) → P (elim (cond {A = Option Connection} b None (Some c)) as (λ _. X) [ None ↦ without | Some d ↦ with_it d ])
    by_closed c is true = none
    by_closed c is false = some c is

    by : (o : Option Connection) → client.connection ≡ o → P (elim (elim o as (λ _. Option Connection) [ None ↦ None | Some c ↦ cond (is_some c.closed) None (Some c) ]) as (λ _. X) [ None ↦ without | Some c ↦ with_it c ])
    by None is = none
    by (Some c) is = by_closed c is (is_some c.closed)

output-at : (client : Client) (c : Connection) → client.connection ≡ Some c → length (output_of client) ≡ length c.output
output-at client c there = ap (λ (o : Option Connection). length (elim o as (λ _. List ℕ) [ None ↦ [] | Some d ↦ d.output ])) there

-- ---- what is written

-- a frame of the longest message, and a wish
abbrev pub most_more : ℕ
most_more = 65557

subscribe-small : (id : ℕ) (question : Question) → IsTrue (is_question question) → length (frame (subscribe_message id question)) ≤ 65537
subscribe-small id question good = (
    let small : length (subscribe_message 1 question) < 2 ^ 16 = (read-back (subscribes 1 question) good).small in
    let same : length (frame (subscribe_message id question)) ≡ suc (suc (length (subscribe_message 1 question))) = refl in
    omega (arith, small, same)
    )

module _ (client : Client) where
  -- at most so much more is owed
  abbrev OwesMore : Client → Type 0
  OwesMore later = owes later ≤ owes client + most_more

  same-owed : OwesMore client
  same-owed = omega arith

  -- a message is written, and at most one wish comes
  written-more : (c d : Connection) (message : List ℕ) (wishes : List Wish) (now : ℕ) → client.connection ≡ Some c → d.output ≡ c.output ++ frame message → length (frame message) ≤ 65537 → length wishes ≤ length client.wishes + 1
      → OwesMore (record { wishes = wishes; connection = Some d; now = now })
  written-more c d message wishes now there output small few =
      sums (length d.output) (length c.output) (length (frame message)) (length wishes) (length client.wishes) (length (output_of client))
      (ap length output ∙ length-append c.output (frame message)) small few (output-at client c there)
    where
      sums : (now before more wishes had output : ℕ) → now ≡ before + more → more ≤ 65537 → wishes ≤ had + 1 → output ≡ before → now + 20 * wishes ≤ output + 20 * had + most_more
      sums now before more wishes had output is small few same = omega (arith, is, small, few, same)

  -- nothing is written, and at most one wish comes
  wishes-more : (wishes : List Wish) → length wishes ≤ length client.wishes + 1 → OwesMore (record client { wishes = wishes })
  wishes-more wishes few = sums (length (output_of client)) (length wishes) (length client.wishes) few
    where
      sums : (output wishes had : ℕ) → wishes ≤ had + 1 → output + 20 * wishes ≤ output + 20 * had + most_more
      sums output wishes had few = omega (arith, few)

  -- ---- it is asked for something

  one-longer : (w : Wish) (ws : List Wish) → length ws ≤ length client.wishes → length (ws ++ w ∷ []) ≤ length client.wishes + 1
  one-longer w ws few = sums (length (ws ++ w ∷ [])) (length ws) (length client.wishes) (length-append ws (w ∷ [])) few
    where
      sums : (a b c : ℕ) → a ≡ b + 1 → b ≤ c → a ≤ c + 1
      sums a b c is few = omega (arith, is, few)

  pub asks-owe : (question : Question) → IsTrue (is_question question) → OwesMore (asks client question)
  asks-owe question good =
      by-open OwesMore client (record client { wishes = client.wishes ++ (record { question = question; wanted = true; standing = not_asked; notices = [] }) ∷ [] })
      (λ c. (let id = next_id client.wishes c in record client {
        wishes = client.wishes ++ (record { question = question; wanted = true; standing = unanswered id; notices = [] }) ∷ [];
        connection = Some (writes false client.now (subscribe_message id question) (record c { last_id = id }));
      }))
      (wishes-more (client.wishes ++ _ ∷ []) (one-longer _ client.wishes (omega arith)))
      (λ c there. written-more c (writes false client.now (subscribe_message (next_id client.wishes c) question) (record c { last_id = next_id client.wishes c })) (subscribe_message (next_id client.wishes c) question) _ client.now there refl
      (subscribe-small (next_id client.wishes c) question good) (one-longer _ client.wishes (omega arith)))

  subscribe-owes : (question : Question) → IsTrue (is_question question) → OwesMore (subscribe client question).1
  subscribe-owes question good = by (wish_for client question)
    where
      by_wanted : (wish : Wish) (b : Bool) → OwesMore (cond {A = Asked × Client} b (asked.Already, client) (asked.New, record client { wishes = without_wish question client.wishes ++ (record wish { wanted = true }) ∷ [] })).1
      by_wanted wish true = same-owed
      by_wanted wish false = wishes-more (without_wish question client.wishes ++ (record wish { wanted = true }) ∷ []) (one-longer (record wish { wanted = true }) (without_wish question client.wishes) (filter-short (λ w. not (same_question w.question question)) client.wishes))

      by_many : (b : Bool) → OwesMore (cond {A = Asked × Client} b (asked.Many, client) (asked.New, asks client question)).1
      by_many true = same-owed
      by_many false = asks-owe question good

      by : (o : Option Wish) → OwesMore (elim o as (λ _. Asked × Client) [
        | Some wish ↦ cond wish.wanted (asked.Already, client) (asked.New, record client { wishes = without_wish question client.wishes ++ (record wish { wanted = true }) ∷ [] })
        | None ↦ cond (nat_le max_questions (length client.wishes)) (asked.Many, client) (asked.New, asks client question)
      ]).1
      by (Some wish) = by_wanted wish wish.wanted
      by None = by_many (nat_le max_questions (length client.wishes))

  left-few : (question : Question) → length (without_wish question client.wishes) ≤ length client.wishes + 1
  left-few question = let few = filter-short (λ w. not (same_question w.question question)) client.wishes in omega (arith, few)

  drops-owe : (standing : RequestState) (wish : Wish) → OwesMore (drops standing wish client)
  drops-owe (answered id) wish =
      let gone : Client = record client { wishes = without_wish wish.question client.wishes } in
      by-open OwesMore client gone (λ c. with_connection (writes false client.now (unsubscribe_message id) c) gone)
      (wishes-more (without_wish wish.question client.wishes) (left-few wish.question))
      (λ c there. written-more c (writes false client.now (unsubscribe_message id) c) (unsubscribe_message id) (without_wish wish.question client.wishes) client.now there refl (omega arith) (left-few wish.question))
  drops-owe (unanswered id) wish =
      wishes-more (map (λ w. cond (same_question w.question wish.question) (record w { wanted = false }) w) client.wishes)
      (let same = length-map client.wishes (λ (w : Wish). cond (same_question w.question wish.question) (record w { wanted = false }) w) in omega (arith, same))
  drops-owe not_asked wish = wishes-more (without_wish wish.question client.wishes) (left-few wish.question)
  drops-owe (refused rcode) wish = wishes-more (without_wish wish.question client.wishes) (left-few wish.question)

  unsubscribe-owes : (question : Question) → OwesMore (unsubscribe client question).1
  unsubscribe-owes question = by (wish_for client question)
    where
      by_wanted : (wish : Wish) (b : Bool) → OwesMore (cond {A = Bool × Client} b (true, drops wish.standing wish client) (false, client)).1
      by_wanted wish true = drops-owe wish.standing wish
      by_wanted wish false = same-owed

      by : (o : Option Wish) → OwesMore (elim o as (λ _. Bool × Client) [ None ↦ (false, client) | Some wish ↦ cond wish.wanted (true, drops wish.standing wish client) (false, client) ]).1
      by None = same-owed
      by (Some wish) = by_wanted wish wish.wanted

  reconfirm-owes : (rr : Rr) → OwesMore (reconfirm client rr).1
  reconfirm-owes rr =
      by-open (λ (r : Bool × Client). OwesMore r.1) client (false, client)
      (λ c. cond (c.established && nat_le (length (reconfirm_message rr)) 65535) (true, with_connection (writes false client.now (reconfirm_message rr) c) client) (false, client))
      same-owed (λ c there. by c there (c.established && nat_le (length (reconfirm_message rr)) 65535) refl)
    where
      framed : (n m : ℕ) → n ≤ 65535 → m ≡ suc (suc n) → m ≤ 65537
      framed n m small is = omega (arith, small, is)

      by : (c : Connection) → client.connection ≡ Some c → (b : Bool) → (c.established && nat_le (length (reconfirm_message rr)) 65535) ≡ b
          → OwesMore (cond {A = Bool × Client} b (true, with_connection (writes false client.now (reconfirm_message rr) c) client) (false, client)).1
      by c there false is = same-owed
      by c there true is =
          let small : length (reconfirm_message rr) ≤ 65535 = leb-true (length (reconfirm_message rr)) 65535 (and_parts c.established (nat_le (length (reconfirm_message rr)) 65535) is).1 in
          written-more c (writes false client.now (reconfirm_message rr) c) (reconfirm_message rr) client.wishes client.now there refl (framed (length (reconfirm_message rr)) (length (frame (reconfirm_message rr))) small refl) (omega arith)

  pub called-owes : (call : Call) → IsCallWithin call → OwesMore (called call client).1
  called-owes (calls.Ask question) within = subscribe-owes question within
  called-owes (calls.Drop question) within = unsubscribe-owes question
  called-owes (calls.Reconfirm rr) within = reconfirm-owes rr

  -- ---- at a moment

  does-owes : (due : Due) (c : Connection) (t : ℕ) → client.connection ≡ Some c → OwesMore (does due c (at_later t client))
  does-owes dues.Nothing c t there = same-owed
  does-owes dues.Keepalive c t there =
      let id = next_id client.wishes c in
      written-more c (writes true t (keepalive_message id) (record c { last_id = id; keepalive_out = Some id })) (keepalive_message id) client.wishes t there refl (omega arith) (omega arith)
  does-owes dues.Idle c t there = subst (λ (o : Option Connection). length (output_in (closing o)) + 20 * length client.wishes ≤ owes client + most_more) (sym there) (same (length c.output) (length client.wishes) (length (output_of client)) (output-at client c there))
    where
      closing : Option Connection → Option Connection
      closing o = elim o as (λ _. Option Connection) [ None ↦ None | Some d ↦ Some (record d { closed = Some closes.Idle }) ]

      output_in : Option Connection → List ℕ
      output_in o = elim o as (λ _. List ℕ) [ None ↦ [] | Some d ↦ d.output ]

      same : (output wishes before : ℕ) → before ≡ output → output + 20 * wishes ≤ before + 20 * wishes + most_more
      same output wishes before is = omega (arith, is)

  pub moment-owes : (t : ℕ) → OwesMore (steps.moment client t)
  moment-owes t =
      by-open OwesMore client (at_later t client)
      (λ c. does (client_due c.clocks t (list_any (λ w. is_active w.standing) client.wishes) (is_some c.keepalive_out)) c (at_later t client)) same-owed
      (λ c there. does-owes (client_due c.clocks t (list_any (λ w. is_active w.standing) client.wishes) (is_some c.keepalive_out)) c t there)

  -- ---- a connection is cut

  wanted-few : length (wanted_questions client) ≤ length client.wishes
  wanted-few = let same = length-map (filter (λ (w : Wish). w.wanted) client.wishes) (λ (w : Wish). w.question) in let few = filter-short (λ w. w.wanted) client.wishes in omega (arith, same, few)

  pub cut-owes : owes (clients.cut client) ≤ owes client
  cut-owes = sums (length (map unasked (wanted_questions client))) (length (wanted_questions client)) (length client.wishes) (length (output_of client)) (length-map (wanted_questions client) unasked) wanted-few
    where
      sums : (now wanted wishes output : ℕ) → now ≡ wanted → wanted ≤ wishes → 0 + 20 * now ≤ output + 20 * wishes
      sums now wanted wishes output is few = omega (arith, is, few)

-- ---- a connection opens

all-ask : (questions : List Question) (client : Client) → AllByRecursion (λ q. IsTrue (is_question q)) questions → owes (fold asks client questions) ≤ owes client + most_more * length questions
all-ask [] client good = omega arith
all-ask (q ∷ qs) client good =
    sums (owes (fold asks (asks client q) qs)) (owes (asks client q)) (owes client) (length qs) (all-ask qs (asks client q) good.1) (asks-owe client q good.0)
  where
    sums : (last one first n : ℕ) → last ≤ one + most_more * n → one ≤ first + most_more → last ≤ first + most_more * suc n
    sums last one first n h k = omega (arith, h, k)

wanted-good : (wishes : List Wish) → AllByRecursion (λ w. IsTrue (is_question w.question)) wishes → AllByRecursion (λ q. IsTrue (is_question q)) (map (λ w. w.question) (filter (λ w. w.wanted) wishes))
wanted-good [] all = tt
wanted-good (w ∷ ws) all = by w.wanted (wanted-good ws all.1)
  where
    others : List Wish
    others = filter (λ (v : Wish). v.wanted) ws

    by : (b : Bool) → AllByRecursion (λ q. IsTrue (is_question q)) (map (λ (v : Wish). v.question) others) → AllByRecursion (λ q. IsTrue (is_question q)) (map (λ (v : Wish). v.question) (cond {A = List Wish} b (w ∷ others) others))
    by true rest = (all.0, rest)
    by false rest = rest

pub connected-owes : (t : ℕ) (client : Client) → length client.wishes ≤ max_questions → AllByRecursion (λ w. IsTrue (is_question w.question)) client.wishes → owes (connected t client) ≤ 2 ^ 27
connected-owes t client few good =
    let start : Client = record { wishes = []; connection = Some (new_connection t); now = t } in
    bound (owes (connected t client)) (length (wanted_questions client)) (length client.wishes) (all-ask (wanted_questions client) start (wanted-good client.wishes good)) (wanted-few client) few
  where
    bound : (last wanted wishes : ℕ) → last ≤ 0 + most_more * wanted → wanted ≤ wishes → wishes ≤ 1024 → last ≤ 2 ^ 27
    bound last wanted wishes h k few = omega (arith, h, k, few)
