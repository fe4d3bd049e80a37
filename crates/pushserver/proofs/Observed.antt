-- What is seen of what is kept is seen of the plain hub.
use Rattle.std.proofs.Common.{◌≡◌, ℕ, suc, ◌<◌, Bool, true, false, cond, List, [], ◌∷◌, map, length, get_or, Option, Some, None, is_some, refl, sym, ap, ◌∙◌, arith}
use Rattle.std.specs.Prelude.{MatchOption, find, option_map, unwrap_or}
use Rattle.std.proofs.lemmas.List.Elements.{All-nil, All-cons}
use Rattle.dnsname.specs.Names.{Labels, same_name}
use Rattle.dsotlv.specs.Laws.{AreOctets}
use Rattle.coalesce.specs.Waiting.{WaitingName, is_named, since}
use Rattle.history.proofs.Together.{same_name-turned}
use Rattle.pushsession.specs.Kept.{KeptSession, filled_of}
use Rattle.pushserver.specs.PlainHubs.{Hub, Session, Queue, point_in}
use Rattle.pushserver.specs.Hubs.{newest, session_of}
use Rattle.pushserver.specs.Observing as observing
use Rattle.pushserver.specs.Observing.{all_filled_in, filled_in, told_of, told_in}
use Rattle.pushserver.specs.KeptHubs.{KeptHub, StandsFor}
use Rattle.pushserver.proofs.hub_steps.Standing.{FoundBoth, both_found, fitting}

-- ---- one session

both : (k : KeptHub) (hub : Hub) (number : ℕ) → StandsFor k hub → FoundBoth hub number (session_of k number) (session_of hub number)
both k hub number stands = both_found hub number k.sessions hub.sessions (fitting stands)

live-both : (hub : Hub) (number : ℕ) (o : Option KeptSession) (q : Option Session) → FoundBoth hub number o q → is_some o ≡ is_some q
live-both hub number None None b = refl
live-both hub number None (Some p) b = absurd b
live-both hub number (Some s) None b = absurd b
live-both hub number (Some s) (Some p) b = refl

pub live-seen : (k : KeptHub) (hub : Hub) (number : ℕ) (b : Bool) → b ≡ is_some (session_of k number) → StandsFor k hub → b ≡ is_some (session_of hub number)
live-seen k hub number b is stands = is ∙ live-both hub number (session_of k number) (session_of hub number) (both k hub number stands)

pub live-is : {R : Type 0} (now : R → KeptSession) (r : Option R) (o : Option KeptSession) → MatchOption r (o ≡ None) (λ s. o ≡ Some (now s)) → is_some r ≡ is_some o
live-is now None o e = ap is_some (sym e)
live-is now (Some s) o e = ap is_some (sym e)

-- ---- the end of a first answer

abbrev pub filled_kept_in : ℕ → Option KeptSession → Option ℕ
filled_kept_in id None = None
filled_kept_in id (Some s) = filled_of id s.subscriptions.filled

filled-both : (hub : Hub) (number id : ℕ) (o : Option KeptSession) (q : Option Session) → FoundBoth hub number o q → filled_kept_in id o ≡ filled_of id (observing.all_filled_of q)
filled-both hub number id None None b = refl
filled-both hub number id None (Some p) b = absurd b
filled-both hub number id (Some s) None b = absurd b
filled-both hub number id (Some s) (Some p) b = ap (filled_of id) b.stands.filled

pub filled-seen : (k : KeptHub) (hub : Hub) (number id : ℕ) (o : Option KeptSession) (r : Option ℕ) → session_of k number ≡ o → r ≡ filled_kept_in id o → StandsFor k hub → r ≡ filled_in hub number id
filled-seen k hub number id o r at is stands = is ∙ ap (filled_kept_in id) (sym at) ∙ filled-both hub number id (session_of k number) (session_of hub number) (both k hub number stands)

abbrev pub ends_kept_in : Option KeptSession → List (ℕ × ℕ)
ends_kept_in None = []
ends_kept_in (Some s) = s.subscriptions.filled

ends-both : (hub : Hub) (number : ℕ) (o : Option KeptSession) (q : Option Session) → FoundBoth hub number o q → ends_kept_in o ≡ observing.all_filled_of q
ends-both hub number None None b = refl
ends-both hub number None (Some p) b = absurd b
ends-both hub number (Some s) None b = absurd b
ends-both hub number (Some s) (Some p) b = b.stands.filled

pub ends-seen : (k : KeptHub) (hub : Hub) (number : ℕ) (o : Option KeptSession) (r : List (ℕ × ℕ)) → session_of k number ≡ o → r ≡ ends_kept_in o → StandsFor k hub → r ≡ all_filled_in hub number
ends-seen k hub number o r at is stands = is ∙ ap ends_kept_in (sym at) ∙ ends-both hub number (session_of k number) (session_of hub number) (both k hub number stands)

-- ---- the point up to which a name was told

since-kept : (name : Labels) (ws : List WaitingName) → since ws name ≡ point_in (map (λ w. (w.name, w.point)) ws) name
since-kept name [] = refl
since-kept name (w ∷ ws) = by (same_name w.name name) (same_name name w.name) (same_name-turned w.name name) (since-kept name ws)
  where
    by : (a b : Bool) → a ≡ b → since ws name ≡ point_in (map (λ w. (w.name, w.point)) ws) name
        → option_map (λ (v : WaitingName). v.point) (cond a (Some w) (find (is_named name) ws))
        ≡ option_map (λ (e : Labels × ℕ). e.1) (cond b (Some (w.name, w.point)) (find (λ (e : Labels × ℕ). same_name name e.0) (map (λ w. (w.name, w.point)) ws)))
    by true true e h = refl
    by true false e h = cc
    by false true e h = cc
    by false false e h = h

abbrev pub told_kept_in : ℕ → Labels → Option KeptSession → ℕ
told_kept_in newest name None = newest
told_kept_in newest name (Some s) = unwrap_or (since s.queue name) newest

told-both : (hub : Hub) (number newest : ℕ) (name : Labels) (o : Option KeptSession) (q : Option Session) → FoundBoth hub number o q → told_kept_in newest name o ≡ told_of newest name q
told-both hub number newest name None None b = refl
told-both hub number newest name None (Some p) b = absurd b
told-both hub number newest name (Some s) None b = absurd b
told-both hub number newest name (Some s) (Some p) b = ap (λ o. unwrap_or o newest) (since-kept name s.queue ∙ ap (λ (q : Queue). point_in q name) b.stands.queue)

pub told-seen : (k : KeptHub) (hub : Hub) (number point : ℕ) (name : Labels) (o : Option KeptSession) (r : ℕ) → point ≡ newest k → session_of k number ≡ o → r ≡ told_kept_in point name o → StandsFor k hub → r ≡ told_in hub number name
told-seen k hub number point name o r newest_is at is stands =
    is ∙ ap (told_kept_in point name) (sym at) ∙ told-both hub number point name (session_of k number) (session_of hub number) (both k hub number stands)
    ∙ ap (λ n. told_of n name (session_of hub number)) (newest_is ∙ stands.newest)

-- ---- octets

pub are_octets : (xs : List ℕ) → ((i : ℕ) → i < length xs → get_or xs i 0 < 256) → AreOctets xs
are_octets [] below = All-nil (λ o. o < 256)
are_octets (x ∷ xs) below = All-cons (λ o. o < 256) x xs (below 0 (omega arith)) (are_octets xs (λ i h. below (suc i) (omega (arith, h))))
