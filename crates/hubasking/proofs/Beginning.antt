-- A hub begins, and nothing is asked.
--     begins-kept, begins-asking      what is kept; what is asked
use Rattle.std.proofs.Common.{◌≡◌, ℕ, ◌≤◌, List, [], ◌∷◌, length, map, refl, sym, ap, subst, ◌∙◌, arith}
use Rattle.std.specs.Prelude.{replicate}
use Rattle.std.specs.List.{AllZip}
use Rattle.push_base.specs.Limits.{max_moment}
use Rattle.linkcache.specs.Links.{LinkKept}
use Rattle.linkask.specs.Reasons.{LinkAsking}
use Rattle.linkreasons.specs.AllReasons.{AllReasons, ReasonsOfLink, asking_of, askings_of}
use Rattle.dsosession.specs.declared.session.Timers.{Timers}
use Rattle.history.specs.Kept.{HomesKept, state_of}
use Rattle.pushserver.specs.Hubs.{now, state_now}
use Rattle.pushserver.specs.KeptHubs.{KeptHub, StandsFor, new_kept}
use Rattle.pushserver.specs.PlainHubs.{Hub}
use Rattle.hubasking.specs.AskingHubs.{AskingHub, new_asking}
use Rattle.hubasking.specs.KeptReasons.{AreKept, MatchesLink}

abbrev none_asked : ReasonsOfLink
none_asked = record { kept = []; reconfirmed = [] }

abbrev pub no_reasons : ℕ → AllReasons
no_reasons links = record { links = replicate links none_asked; sessions = [] }

matches : (ls : List LinkKept) → AllZip MatchesLink (map (λ (l : LinkKept). l.state) ls) (replicate (length ls) none_asked)
matches [] = tt
matches (l ∷ ls) = (record { still = refl; bounds = tt }, matches ls)

asks-none : (ls : List LinkKept) → map asking_of (replicate (length ls) none_asked) ≡ map (λ l. record { wanted = []; reconfirmed = [] }) (map (λ (l : LinkKept). l.state) ls)
asks-none [] = refl
asks-none (l ∷ ls) = ap (λ (as_before : List LinkAsking). record { wanted = []; reconfirmed = [] } ∷ as_before) (asks-none ls)

pub begins-kept : (homes : HomesKept) (timers : Timers) (k : KeptHub) (r : AllReasons) (links : ℕ) (plain : Hub) → k ≡ new_kept (state_of homes) timers → StandsFor k plain → links ≡ length homes.links → r ≡ no_reasons links → AreKept k r
begins-kept homes timers k r links plain is stands many none = subst (λ (h : KeptHub). StandsFor h plain → AreKept h r) (sym is)
    (subst (λ (x : AllReasons). StandsFor (new_kept (state_of homes) timers) plain → AreKept (new_kept (state_of homes) timers) x) (sym (none ∙ ap no_reasons many))
    (λ stood. record { plain = plain; stands = stood; timely = omega arith; sessions = refl; links = matches homes.links })) stands

pub begins-asking : (homes : HomesKept) (timers : Timers) (k : KeptHub) (r : AllReasons) (links : ℕ) → k ≡ new_kept (state_of homes) timers → links ≡ length homes.links → r ≡ no_reasons links → ◌≡◌ {A = AskingHub} (record { hub = k; askings = askings_of r }) (new_asking (state_of homes) timers)
begins-asking homes timers k r links is many none = λ i. record { hub = is i; askings = (ap askings_of (none ∙ ap no_reasons many) ∙ asks-none homes.links) i }
