-- The hub and the clients behind a script stand for those of the plain world.
--     set-stands      the set that is kept of a question is the one that is held
--     ends-stand      the hub and the clients of a world
--     near-after      the first world behind lines is that of the first half
--     ends-are      the hubs and the clients behind the last line of a script
use Rattle.std.proofs.Common.{◌≡◌, ℕ, Bool, true, false, cond, not, ◌&&◌, List, [], ◌∷◌, map, Option, Some, None, Result, Ok, Err, IfSome, IsTrue, refl, sym, ◌∙◌, ap, subst, codes}
use Rattle.std.specs.Prelude.{find, is_some}
use Rattle.std.specs.List.{AllZip}
use Rattle.rrset.specs.Records.{same_question}
use Rattle.rrset.specs.RecordSet.{RecordSet}
use Rattle.rrset.specs.declared.record.Question.{Question}
use Rattle.mirror.specs.Held.{set_of}
use Rattle.hubasking.specs.AskingHubs.{AskingHub}
use Rattle.pushclient.specs.Clients.{Client, Wish, RequestState, not_asked, unanswered, refused, answered, Held, off, asked_only, refused_with, set_held, held}
use Rattle.pushclient.specs.Rule.{KeptClient, StandsFor}
use Rattle.pushclient.specs.Kept.{kept_held, kept_held_as}
use Rattle.pushclient.proofs.Dropping.{held_stands}
use Rattle.replay.specs.World.{World, Seat, start_world}
use Rattle.replay.specs.TextWords.{ShowTold, with_records, by_notices, is_filling, told_of}
use Rattle.replay.specs.Text.{world_after}
use Rattle.replay.specs.Askings.{lines_asks, start_askings}
use Rattle.replay.specs.Promises.{ClientStandsFor, EndsStandFor, shows_records}
use Rattle.replay.specs.declared.world.World as program
use Rattle.replay.specs.declared.ends.Ends.{Ends}
use Rattle.pushserver.specs.KeptHubs as hubs
use Rattle.dnsname.specs.Names.{Labels}
use Rattle.scripts.specs.WholeLines.{WholeLine, fars_behind}
use Rattle.scripts.specs.WholeScripts.{whole_script_of, apex_in, near_lines, near_lines_from}
use Rattle.replay.specs.TwoWorlds.{Worlds, start_worlds, near_line_at, lines_do, worlds_after, woven}
use Rattle.replay.specs.declared.two_worlds.Worlds as two_worlds
use Rattle.replay.specs.KeptEnds.{AreEnds, AreEndsOf}
use Rattle.replay.specs.KeptTwoWorlds.{AreWorlds}
use Rattle.replay.proofs.worlds.OneWorld.{one-world}
use Rattle.replay.specs.KeptWorlds.{KeptSeat, Seated, seated, StandsForSeat, StandForSeats, IsWorld}

-- ---- a client

abbrev lines_or : List WholeLine → Result (List WholeLine) ℕ → List WholeLine
lines_or default (Ok lines) = lines
lines_or default (Err n) = default

abbrev set_in : Held → Option RecordSet
set_in (set_held id set) = Some set
set_in _ = None

-- what is kept tells the set that it has
kept-set : (k : KeptClient) (q : Question) (id : ℕ) (set : RecordSet) → kept_held k q ≡ set_held id set → set_of q k.sets ≡ Some set
kept-set k q id set e = by (find (λ (w : Wish). same_question w.question q) k.wishes) e
  where
    by_set : (n : ℕ) (o : Option RecordSet) → kept_held_as (answered n) o ≡ set_held id set → o ≡ Some set
    by_set n None e = absurd cc
    by_set n (Some s) e = ap set_in e

    by_standing : (s : RequestState) (o : Option RecordSet) → kept_held_as s o ≡ set_held id set → o ≡ Some set
    by_standing not_asked o e = absurd cc
    by_standing (unanswered n) o e = absurd cc
    by_standing (refused n) o e = absurd cc
    by_standing (answered n) o e = by_set n o e

    by_wanted : (w : Wish) (b : Bool) → cond b (kept_held_as w.standing (set_of q k.sets)) off ≡ set_held id set → set_of q k.sets ≡ Some set
    by_wanted w true e = by_standing w.standing (set_of q k.sets) e
    by_wanted w false e = absurd cc

    by : (o : Option Wish) → (elim o as (λ _. Held) [ None ↦ off | Some w ↦ cond (w.wanted && is_some k.connection) (kept_held_as w.standing (set_of q k.sets)) off ]) ≡ set_held id set → set_of q k.sets ≡ Some set
    by None e = absurd cc
    by (Some w) e = by_wanted w (w.wanted && is_some k.connection) e

pub set-stands : (k : KeptClient) (plain : Client) → StandsFor k plain → (q : Question) (id : ℕ) (set : RecordSet) → held plain q ≡ set_held id set → set_of q k.sets ≡ Some set
set-stands k plain stands q id set e = kept-set k q id set (held_stands k plain stands q ∙ e)

module _ (world : World) where
  -- where records are shown, they are those of the set
  shown : (seat : Seat) (q : Question) (id : ℕ) (set : RecordSet) → IsTrue (shows_records seat (set_held id set)) → (told_of by_notices (set_held id set) world.hub seat q).1 ≡ set
  shown seat q id set is = by seat.is_lone (is_filling seat id) is
    where
      by : (lone filling : Bool) → IsTrue (cond lone true (not filling)) → (cond {A = ShowTold} lone (with_records (codes "answered") set) (cond filling (codes "filling", []) (with_records (codes "held") set))).1 ≡ set
      by true filling is = refl
      by false true is = absurd cc
      by false false is = refl

  client-stands : (k : KeptSeat) (seat : Seat) → StandsForSeat k seat → ClientStandsFor by_notices world k.client seat
  client-stands k seat s = record {
    wishes = s.client.wishes;
    connection = s.client.connection;
    now = s.client.now;
    sets = λ q is. by q (held seat.client q) refl is;
  }
    where
      by : (q : Question) (h : Held) → held seat.client q ≡ h → IsTrue (shows_records seat h) → set_of q k.client.sets ≡ Some (told_of by_notices (held seat.client q) world.hub seat q).1
      by q (set_held id set) e is =
          set-stands k.client seat.client s.client q id set e
          ∙ ap (λ (l : RecordSet). Some l) (sym (shown seat q id set is))
          ∙ ap (λ (h : Held). Some (told_of by_notices h world.hub seat q).1) (sym e)
      by q off e is = absurd cc
      by q asked_only e is = absurd cc
      by q (refused_with rcode) e is = absurd cc

  all-stand : (ks : Seated) (ss : List Seat) → StandForSeats ks ss → AllZip (ClientStandsFor by_notices world) (map (λ (k : KeptSeat). k.client) ks) ss
  all-stand [] [] h = tt
  all-stand [] (s ∷ ss) h = absurd h
  all-stand (k ∷ ks) [] h = absurd h
  all-stand (k ∷ ks) (s ∷ ss) h = (client-stands k s h.0, all-stand ks ss h.1)

-- ---- all of it

-- the hub and the clients of one world
pub ends-stand : (kept : program.World) (world : World) → IsWorld kept world → EndsStandFor by_notices kept.hub.hub (map (λ (k : KeptSeat). k.client) (seated kept.seats.items)) world
ends-stand kept world stands = record { hub = stands.hub; seats = all-stand world (seated kept.seats.items) world.seats stands.seats }

-- the first world behind lines is that of the first half
pub near-after : (lines : List WholeLine) (worlds : Worlds) → (worlds_after by_notices lines worlds).near ≡ world_after (near_lines_from worlds.fars lines) worlds.near
near-after [] worlds = refl
near-after (line ∷ lines) worlds =
    near-after lines (lines_do by_notices line worlds).0
    ∙ ap (world_after (near_lines_from (fars_behind worlds.fars line) lines)) (one-world by_notices (near_line_at worlds line) worlds.near)

apex-after : (lines : List WholeLine) (worlds : Worlds) → (worlds_after by_notices lines worlds).apex ≡ worlds.apex
apex-after [] worlds = refl
apex-after (line ∷ lines) worlds = apex-after lines (lines_do by_notices line worlds).0

abbrev clients_in : program.World → List KeptClient
clients_in kept = map (λ (k : KeptSeat). k.client) (seated kept.seats.items)

some-where : (apex : Option Labels) (hub : AskingHub) → is_some (cond {A = Option AskingHub} (is_some apex) (Some hub) None) ≡ is_some apex
some-where None hub = refl
some-where (Some name) hub = refl

there-where : (apex : Option Labels) (hub : AskingHub) (P : AskingHub → Type 0) → P hub → IfSome (cond {A = Option AskingHub} (is_some apex) (Some hub) None) P
there-where None hub P h = tt
there-where (Some name) hub P h = h

pub ends-are : (octets : List ℕ) (lines : List WholeLine) (kept : two_worlds.Worlds) (ends : Ends) → whole_script_of octets ≡ Ok lines → AreWorlds kept (worlds_after by_notices lines (start_worlds lines))
    → kept.near.hub.askings ≡ lines_asks (near_lines lines) (start_world (near_lines lines)) (start_askings (near_lines lines))
    → ends.hub ≡ kept.near.hub → ends.far ≡ cond (is_some kept.apex) (Some kept.far.hub) None → ends.clients.items ≡ woven kept.order.items (clients_in kept.near) (clients_in kept.far) → AreEnds octets ends
unfolding AreEnds
ends-are octets lines kept ends read stands asked hub_is far_is clients_are script read_too =
    subst (λ (ls : List WholeLine). AreEndsOf ls (worlds_after by_notices ls (start_worlds ls)) ends × (ends.hub.askings ≡ lines_asks (near_lines ls) (start_world (near_lines ls)) (start_askings (near_lines ls)))) same (are, ap (λ (h : AskingHub). h.askings) hub_is ∙ asked)
  where
    same : lines ≡ script
    same = ap (lines_or []) (sym read ∙ read_too)

    worlds : Worlds
    worlds = worlds_after by_notices lines (start_worlds lines)

    named : kept.apex ≡ apex_in lines
    named = stands.apex ∙ apex-after lines (start_worlds lines)

    are : AreEndsOf lines worlds ends
    are = record {
      near = clients_in kept.near;
      far = clients_in kept.far;
      clients = clients_are ∙ ap (λ (order : List Bool). woven order (clients_in kept.near) (clients_in kept.far)) stands.order;
      first = subst (λ (h : AskingHub). EndsStandFor by_notices h.hub (clients_in kept.near) (world_after (near_lines lines) (start_world (near_lines lines)))) (sym hub_is)
          (ends-stand kept.near (world_after (near_lines lines) (start_world (near_lines lines))) (subst (IsWorld kept.near) (near-after lines (start_worlds lines)) stands.near));
      there = ap (λ (o : Option AskingHub). is_some o) far_is ∙ some-where kept.apex kept.far.hub ∙ ap (λ (o : Option Labels). is_some o) named;
      second = subst (λ (o : Option AskingHub). IfSome o (λ (h : AskingHub). hubs.StandsFor h.hub worlds.far.hub)) (sym far_is) (there-where kept.apex kept.far.hub (λ (h : AskingHub). hubs.StandsFor h.hub worlds.far.hub) stands.far.hub);
      others = all-stand worlds.far (seated kept.far.seats.items) worlds.far.seats stands.far.seats;
    }
