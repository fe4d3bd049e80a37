-- A peer whose session has ended: it has none, and no session gets its number again.
--     IsGone number hub      no session of the hub has this number, nor will one that comes
--     gone-none      so none is found
--     gone-cut, none-cut      it is so where the peer is cut, and the peer has no session
--     gone-lines      and it stays so behind lines
use Rattle.std.proofs.Common.{◌≡◌, ℕ, ◌+◌, ◌<◌, ◌≤◌, Bool, true, false, cond, not, List, [], ◌∷◌, map, filter, find, Option, Some, None, option_map, refl, sym, ◌∙◌, ap, subst, true≢false, arith, eq-eqb}
use Rattle.std.specs.Prelude.{◌==◌}
use Rattle.std.specs.List.{AllByRecursion}
use Rattle.std.specs.Str.{bytes_eq}
use Rattle.coalesce.proofs.ReadBack.{each-append}
use Rattle.rrset.proofs.Places.{all_filter}
use Rattle.pushserver.specs.PlainHubs.{Session, Hub}
use Rattle.pushserver.specs.Hubs.{now, keeps_now, session_of, in_session, disconnect}
use Rattle.pushsession.specs.Sessions.{new_session, with_piece, asked_to_stop, without_first}
use Rattle.livesessions.proofs.SessionLists.{same-number}
use Rattle.pushserver.proofs.Walks.{AnyMessage, IsKept}
use Rattle.scripts.specs.Lines.{Word, ScriptLine}
use Rattle.replay.specs.World.{World, number_in, session_number, hub_without, cut_peer, without}
use Rattle.replay.specs.Text.{world_after}
use Rattle.replay.proofs.worlds.KeptByLines.{AnyClient, any-clients, any-ready, keeps-lines}
use Rattle.replay.proofs.worlds.Keeping.{any-parts}
use Rattle.replay.proofs.worlds.Numbers.{any_sent}

abbrev Sessions : Type 0
Sessions = List (ℕ × Session)

abbrev Differ : ℕ → Sessions → Type 0
Differ number sessions = AllByRecursion (λ e. e.0 ≡ number → ⊥) sessions

-- the number was given, and no session has it
pub record IsGone (number : ℕ) (hub : Hub) : Type 0 where
  pub given : number < hub.numbers_given
  pub differ : Differ number hub.sessions

module _ (number : ℕ) where
  differ-map : (f : ℕ × Session → Session) (sessions : Sessions) → Differ number sessions → Differ number (map (λ e. (e.0, f e)) sessions)
  differ-map f [] all = tt
  differ-map f (e ∷ es) all = (all.0, differ-map f es all.1)

  differ-without : (sessions : Sessions) → Differ number (filter (λ e. not (e.0 == number)) sessions)
  differ-without [] = tt
  differ-without (e ∷ es) = by (e.0 == number) refl (differ-without es)
    where
      left : Sessions
      left = filter (λ (x : ℕ × Session). not (x.0 == number)) es

      by : (b : Bool) → (e.0 == number) ≡ b → Differ number left → Differ number (cond (not b) (e ∷ left) left)
      by true is rest = rest
      by false is rest = (λ same. true≢false (sym (eq-eqb e.0 number same) ∙ is), rest)

  gone-map : (hub : Hub) (f : ℕ × Session → Session) → IsGone number hub → IsGone number (record hub { sessions = map (λ e. (e.0, f e)) hub.sessions })
  gone-map hub f h = record { given = h.given; differ = differ-map f hub.sessions h.differ }

  gone-in_session : (hub : Hub) (n : ℕ) (f : Session → Session) → IsGone number hub → IsGone number (in_session n f hub)
  gone-in_session hub n f h = gone-map hub (λ e. cond (e.0 == n) (f e.1) e.1) h

  gone-kept : IsKept AnyMessage (IsGone number)
  gone-kept = record {
    reads = λ hub n session found there is h. tt;
    takes_up = λ hub n session found there is h. gone-in_session hub n (without_first found.1) h;
    changes = λ hub n f step h. gone-in_session hub n f h;
    enters = λ hub entry by h. record { given = h.given; differ = differ-map _ hub.sessions h.differ };
    ends = λ hub point reason h. record { given = h.given; differ = differ-map _ hub.sessions h.differ };
    takes_in = λ hub n piece any h. gone-in_session hub n (with_piece piece) h;
    asks_stop = λ hub n rcode delay h. gone-in_session hub n (asked_to_stop rcode delay) h;
    makes = λ hub h. record {
      given = later hub.numbers_given h.given;
      differ = each-append (λ (e : ℕ × Session). e.0 ≡ number → ⊥) hub.sessions ((hub.numbers_given, new_session (keeps_now hub) (now hub)) ∷ []) h.differ (is_new hub.numbers_given h.given, tt);
    };
    drops = λ hub n h. record { given = h.given; differ = all_filter (λ (e : ℕ × Session). e.0 ≡ number → ⊥) (λ (e : ℕ × Session). not (e.0 == n)) hub.sessions h.differ };
  }
    where
      later : (n : ℕ) → number < n → number < n + 1
      later n l = omega (arith, l)

      is_new : (n : ℕ) → number < n → n ≡ number → ⊥
      is_new n l same = omega (arith, l, same)

  none-found : (sessions : Sessions) → Differ number sessions → option_map (λ (e : ℕ × Session). e.1) (find (λ (e : ℕ × Session). e.0 == number) sessions) ≡ None
  none-found [] all = refl
  none-found (e ∷ es) all = by (e.0 == number) refl (none-found es all.1)
    where
      found : Option (ℕ × Session)
      found = find (λ (x : ℕ × Session). x.0 == number) es

      by : (b : Bool) → (e.0 == number) ≡ b → option_map (λ (x : ℕ × Session). x.1) found ≡ None → option_map (λ (x : ℕ × Session). x.1) (cond b (Some e) found) ≡ None
      by true is rest = absurd (all.0 (same-number e.0 number is))
      by false is rest = rest

  pub gone-none : (hub : Hub) → IsGone number hub → session_of hub number ≡ None
  gone-none hub h = none-found hub.sessions h.differ

  -- where the peer is cut, its session is gone
  pub gone-cut : (w : Word) (world : World) → session_number world w ≡ Some number → number < world.hub.numbers_given → IsGone number (cut_peer w world).hub
  gone-cut w world known given = subst (λ (o : Option ℕ). IsGone number (hub_without o world.hub)) (sym known) dropped
    where
      dropped : IsGone number (disconnect world.hub number)
      dropped = record { given = given; differ = differ-without world.hub.sessions }

  pub gone-lines : (lines : List ScriptLine) (world : World) → IsGone number world.hub → IsGone number (world_after lines world).hub
  gone-lines lines world h = keeps-lines AnyMessage (IsGone number) gone-kept any-parts AnyClient any-clients lines world (any_sent lines) (any-ready world) h

-- and the peer has none
none-without : (w : Word) (peers : List (Word × ℕ)) → number_in (without w peers) w ≡ None
none-without w [] = refl
none-without w (e ∷ es) = by (bytes_eq e.0 w) refl (none-without w es)
  where
    left : List (Word × ℕ)
    left = without w es

    by : (b : Bool) → bytes_eq e.0 w ≡ b → number_in left w ≡ None → number_in (cond (not b) (e ∷ left) left) w ≡ None
    by true is rest = rest
    by false is rest = ap (λ b. option_map (λ (x : Word × ℕ). x.1) (cond b (Some e) (find (λ (x : Word × ℕ). bytes_eq x.0 w) left))) is ∙ rest

pub none-cut : (w : Word) (world : World) → session_number (cut_peer w world) w ≡ None
none-cut w world = none-without w world.peers
