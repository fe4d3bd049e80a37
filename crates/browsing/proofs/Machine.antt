-- What dropping leaves as it is.
use Rattle.std.proofs.Common.{◌≡◌, ℕ, List, [], Bool, true, false, refl, ap, ◌∙◌}
use Rattle.std.specs.Prelude.{if◌then◌else◌}
use Rattle.rrset.specs.declared.record.Question.{Question}
use Rattle.pushclient.specs.Clients.{Client}
use Rattle.pushclient.specs.HandedOut.{HandsOut, IsHandedOut}
use Rattle.pushclient.specs.Rule.{KeptClient, StandsFor}
use Rattle.services.specs.declared.service.Service.{Service}
use Rattle.services.specs.declared.service.Change.{Change}
use Rattle.browsing.specs.declared.browser.Browser.{Browser}
use Rattle.browsing.specs.declared.showing.Showing.{Showing}
use Rattle.browsing.specs.declared.stage.Stage.{Stage}
use Rattle.browsing.specs.Browsing.{Browsing, StandsAs, concludes, forgets, idles, turns, waits}

abbrev pub forgotten : Bool → List Question → Browsing → Browsing
forgotten settled needed b = if settled then forgets needed b else b

pub shows_as_before : (settled : Bool) (needed : List Question) (b : Browsing) → (forgotten settled needed b).showing ≡ b.showing
shows_as_before true needed b = refl
shows_as_before false needed b = refl

-- what a turn's end tells, and the machine then
abbrev pub Concluded : List Change → Browser → List Service → List Question → ℕ → Browsing → Type 0
Concluded told later list needed now b = (told ≡ (concludes list needed now b).0) × StandsAs later (concludes list needed now b).1

pub handed : (kept later : KeptClient) (octets : List ℕ) (plain : Client) → HandsOut kept octets later → StandsFor kept plain → IsHandedOut plain octets later
unfolding HandsOut
handed kept later octets plain hands s = hands plain s

-- what is kept is idle where the plain machine is
pub idles_alike : (octets : List ℕ) (now : ℕ) (kept : Browser) (b : Browsing) → StandsAs kept b → idles octets kept.stage kept.heard kept.showing now ≡ idles octets b.stage b.heard b.showing now
idles_alike octets now kept b s =
    ap (λ (g : Stage). idles octets g kept.heard kept.showing now) s.stage
    ∙ ap (λ (h : ℕ). idles octets b.stage h kept.showing now) s.heard
    ∙ ap (λ (w : Showing). idles octets b.stage b.heard w now) s.showing

-- what an idle turn tells, or another one, and the machine then
abbrev pub turned_so : Bool → List ℕ → ℕ → Browsing → List Change × Browsing
turned_so idle octets now b = if idle then ([], waits now b) else turns octets now b

abbrev pub TurnedSo : Bool → List Change → Browser → List ℕ → ℕ → Browsing → Type 0
TurnedSo idle told later octets now b = (told ≡ (turned_so idle octets now b).0) × StandsAs later (turned_so idle octets now b).1
