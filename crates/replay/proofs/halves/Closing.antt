-- Moments and updates at one hub, and moments at two.
--     closes-so      a moment came, and each client's close was told
--     closes-print      what is printed where the closes are told one behind another
--     updates-so, updates-print      an update came, and its RCODE is printed
--     moves-both      a moment came for both hubs
--     text-begins, text-more, text-ends      texts one behind another
--     if_texts      so where texts are made
use Rattle.std.proofs.Common.{◌≡◌, ℕ, ◌+◌, ◌<◌, ◌≤◌, Bool, true, false, List, [], ◌∷◌, ◌++◌, map, fold, length, drop, get_or, sym, ◌∙◌, ap, subst, refl, append_assoc, append-nil, codes, decimal, string_bytes, IfOk, Result, Ok, Err, Global}
use Rattle.std.specs.Prelude.{flat_map, Vec}
use Rattle.std.specs.declared.string.String.{String}
use Rattle.std.proofs.lemmas.List.{at_drop_more, drop_all}
use Rattle.pushserver.specs.Hubs as hubs
use Rattle.pushserver.specs.Hubs.{now}
use Rattle.pushserver.specs.PlainHubs.{Hub}
use Rattle.pushserver.specs.Calls.{updates as updating, moves}
use Rattle.hubasking.specs.AskingHubs.{AskingHub}
use Rattle.hubasking.specs.LinkAskings.{Askings}
use Rattle.scripts.specs.Words.{spaced, ended_lines}
use Rattle.scripts.specs.declared.line.HubEvent.TheVariants as hub_events
use Rattle.replay.specs.World.{Seat, World}
use Rattle.replay.specs.Text.{Printed, closes_of, moments, timed, updates}
use Rattle.replay.specs.Askings.{calls_asks}
use Rattle.replay.specs.LineCalls.{hub_calls, timed_calls}
use Rattle.replay.specs.TwoWorlds.{Worlds, closes_at, woven}
use Rattle.replay.specs.KeptAskings.{StandsFor}
use Rattle.replay.specs.KeptSeats.{IsTimed, Times, TimesWorld}
use Rattle.replay.specs.KeptWorlds.{Acts, Parties, StandsForWorld, parties_of}
use Rattle.replay.specs.KeptTwoWorlds.{AreWorlds, ClosesSo, HasMoved, RunsMoment, UpdatesSo}
use Rattle.replay.specs.declared.two_worlds.Worlds as program
use Rattle.replay.proofs.calls.Behind.{AsksOnce}
use Rattle.replay.proofs.worlds.Doing.{one_line}
use Rattle.replay.proofs.worlds.LinesDoing.{hub_timed}
use Rattle.replay.proofs.worlds.TimedSeats.{peers-timed, links-timed, lines-append}

-- ---- a moment

pub closes-so : (kept between later : AskingHub) (known known_later : Parties) (t : ℕ) (told : List (List ℕ))
    → ((hub : Hub) → StandsFor kept hub → StandsFor between (hubs.moment hub t)) → AsksOnce (moves t) kept between → TimesWorld between known later known_later told → ClosesSo t kept known told later known_later
unfolding ClosesSo Times
closes-so kept between later known known_later t told does asks timed_so world w d =
    let at = timed_so.at in
    let stands = does world.hub w.hub in
    let after = hubs.moment world.hub t in
    let first = hub_timed world t in
    let same : at ≡ now after = timed_so.moment after stands in
    let closed : IsTimed at between.askings later known_later.seats told first.0 = timed_so.times first.0 stands w.seats d in
    record {
      closes = closed.closes ∙ ap (λ (n : ℕ). map ended_lines (closes_of n world.seats)) same;
      stands = subst (λ (n : ℕ). StandsForWorld later known_later (fold (timed n) first world.seats).0) same (record {
        hub = closed.hub;
        peers = timed_so.peers ∙ w.peers ∙ sym (peers-timed at world.seats first);
        seats = closed.stands;
        links = timed_so.links ∙ w.links ∙ sym (links-timed at world.seats first);
      });
      asks = closed.asks ∙ ap (λ (a : Askings). calls_asks (flat_map (timed_calls at) world.seats) after a) (asks world.hub w.hub)
          ∙ ap (λ (n : ℕ). calls_asks (moves t ∷ flat_map (timed_calls n) world.seats) world.hub kept.askings) same;
    }

-- lists one behind another
abbrev joined : {X : Type 0} → List (List X) → List X
joined lists = flat_map (λ l. l) lists

timed-prints : (t : ℕ) (seats : List Seat) (p : Printed) → (fold (timed t) p seats).1 ≡ p.1 ++ joined (closes_of t seats)
timed-prints t [] p = sym (append-nil p.1)
timed-prints t (seat ∷ seats) p = timed-prints t seats (timed t p seat) ∙ append_assoc p.1 _ (joined (closes_of t seats))

moment-prints : (t : ℕ) (world : World) → (moments t world).1 ≡ joined (closes_at t world)
moment-prints t world = timed-prints (now (hubs.moment world.hub t)) world.seats (hub_timed world t)

ended-joined : (closes : List (List (List ℕ))) → joined (map ended_lines closes) ≡ ended_lines (joined closes)
ended-joined [] = refl
ended-joined (c ∷ cs) = ap (λ (t : List ℕ). ended_lines c ++ t) (ended-joined cs) ∙ sym (lines-append c (joined cs))

texts-joined : (texts : List (String Global)) → flat_map (λ t. string_bytes t) texts ≡ joined (map (λ t. string_bytes t) texts)
texts-joined [] = refl
texts-joined (t ∷ ts) = ap (λ (rest : List ℕ). string_bytes t ++ rest) (texts-joined ts)

pub closes-print : (kept later : AskingHub) (known known_later : Parties) (t : ℕ) (texts : List (String Global)) (written : List ℕ) → ClosesSo t kept known (map (λ s. string_bytes s) texts) later known_later
    → written ≡ flat_map (λ s. string_bytes s) texts → Acts (moments t) (hub_calls (hub_events.At t)) kept known written later known_later
unfolding ClosesSo Acts
closes-print kept later known known_later t texts written closes is world w d =
    let c = closes world w d in
    record {
      text = is ∙ texts-joined texts ∙ ap (λ (ls : List (List ℕ)). joined ls) c.closes ∙ ended-joined (closes_at t world) ∙ ap (λ (ls : List (List ℕ)). ended_lines ls) (sym (moment-prints t world));
      stands = c.stands;
      asks = c.asks;
    }

-- ---- an update

pub updates-so : (kept later : AskingHub) (known : Parties) (message : List ℕ) (code : ℕ) → ((hub : Hub) → StandsFor kept hub → (code ≡ (hubs.update hub message).0) × StandsFor later (hubs.update hub message).1)
    → AsksOnce (updating message) kept later → UpdatesSo message kept known code later known
unfolding UpdatesSo
updates-so kept later known message code does asks world w =
    let r = does world.hub w.hub in
    record { code = r.0; stands = record { hub = r.1; peers = w.peers; seats = w.seats; links = w.links }; asks = asks world.hub w.hub }

pub updates-print : (kept later : AskingHub) (known known_later : Parties) (message written : List ℕ) (code : ℕ) → UpdatesSo message kept known code later known_later
    → written ≡ codes "update " ++ (decimal code ++ 10 ∷ []) → Acts (updates message) (hub_calls (hub_events.Update message)) kept known written later known_later
unfolding UpdatesSo Acts
updates-print kept later known known_later message written code does is world w d =
    let u = does world w in
    record { text = is ∙ one_line (codes "update " ++ decimal code) ∙ ap (λ (c : ℕ). ended_lines (spaced (codes "update" ∷ decimal c ∷ []) ∷ [])) u.code; stands = u.stands; asks = u.asks }

-- ---- both hubs

woven-map : {X Y : Type 0} (f : X → Y) (order : List Bool) (xs ys : List X) → map f (woven order xs ys) ≡ woven order (map f xs) (map f ys)
woven-map f [] [] ys = refl
woven-map f [] (x ∷ xs) ys = ap (λ zs. f x ∷ zs) (woven-map f [] xs ys)
woven-map f (true ∷ order) xs [] = woven-map f order xs []
woven-map f (true ∷ order) xs (y ∷ ys) = ap (λ zs. f y ∷ zs) (woven-map f order xs ys)
woven-map f (false ∷ order) [] ys = woven-map f order [] ys
woven-map f (false ∷ order) (x ∷ xs) ys = ap (λ zs. f x ∷ zs) (woven-map f order xs ys)

pub moves-both : (t : ℕ) (before after : program.Worlds) (near far all : List (String Global)) (text : List ℕ)
    → ClosesSo t before.near.hub (parties_of before.near) (map (λ s. string_bytes s) near) after.near.hub (parties_of after.near)
    → ClosesSo t before.far.hub (parties_of before.far) (map (λ s. string_bytes s) far) after.far.hub (parties_of after.far)
    → all ≡ woven before.order.items near far → text ≡ flat_map (λ s. string_bytes s) all → after.apex ≡ before.apex → after.order ≡ before.order → RunsMoment t before text after
unfolding ClosesSo
moves-both t before after near far all text near_closes far_closes weaves is apex order = record {
  apex = apex;
  order = order;
  moves = λ worlds stands near_words far_words.
      let n = near_closes worlds.near stands.near near_words in
      let f = far_closes worlds.far stands.far far_words in
      record {
        printed = is ∙ texts-joined all ∙ ap (λ (ts : List (String Global)). joined (map (λ s. string_bytes s) ts)) weaves
            ∙ ap (λ (ls : List (List ℕ)). joined ls) (woven-map (λ (s : String Global). string_bytes s) before.order.items near far)
            ∙ (λ i. joined (woven (stands.order i) (n.closes i) (f.closes i)))
            ∙ ap (λ (ls : List (List ℕ)). joined ls) (sym (woven-map ended_lines worlds.order (closes_at t worlds.near) (closes_at t worlds.far)))
            ∙ ended-joined (woven worlds.order (closes_at t worlds.near) (closes_at t worlds.far));
        near = n.stands;
        far = f.stands;
        near_asks = n.asks;
        far_asks = f.asks;
      };
}

-- ---- texts one behind another

abbrev texts_of : List (String Global) → List ℕ
texts_of texts = flat_map (λ (t : String Global). string_bytes t) texts

pub text-begins : (texts : List (String Global)) (so_far : List ℕ) → so_far ≡ [] → so_far ++ texts_of texts ≡ texts_of texts
text-begins texts so_far none = ap (λ (t : List ℕ). t ++ texts_of texts) none

pub text-more : (texts : List (String Global)) (i : ℕ) (text : String Global) (so_far next whole : List ℕ) → i < length texts → text ≡ get_or texts i text → next ≡ so_far ++ string_bytes text
    → so_far ++ texts_of (drop i texts) ≡ whole → next ++ texts_of (drop (i + 1) texts) ≡ whole
text-more texts i text so_far next whole within is next_is so =
    ap (λ (t : List ℕ). t ++ texts_of (drop (i + 1) texts)) next_is
    ∙ append_assoc so_far (string_bytes text) (texts_of (drop (i + 1) texts))
    ∙ ap (λ (t : String Global). so_far ++ (string_bytes t ++ texts_of (drop (i + 1) texts))) is
    ∙ ap (λ (t : List ℕ). so_far ++ t) (sym (at_drop_more texts_of texts i text within))
    ∙ so

pub text-ends : (texts : List (String Global)) (i : ℕ) (so_far whole : List ℕ) → length texts ≤ i → so_far ++ texts_of (drop i texts) ≡ whole → so_far ≡ whole
text-ends texts i so_far whole all so = sym (append-nil so_far) ∙ ap (λ (ts : List (String Global)). so_far ++ texts_of ts) (sym (drop_all i texts all)) ∙ so

-- ---- where it is made

pub if_texts : {E : Type 0} (P Q : List (List ℕ) → Type 0) (r : Result (Vec (String Global) Global) E) → ((told : List (List ℕ)) → P told → Q told)
    → IfOk r (λ texts. P (map (λ t. string_bytes t) texts.items)) → IfOk r (λ texts. Q (map (λ t. string_bytes t) texts.items))
if_texts P Q (Ok texts) does h = does (map (λ t. string_bytes t) texts.items) h
if_texts P Q (Err e) does h = tt
