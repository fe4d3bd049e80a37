-- What the calls of a hub that asks rest on, and what they ask then.
--     hub_of      the hub that is seen
--     can-follow-call      links can follow behind a call
--     asked-behind, asked-alike      what is asked then, as it is kept; as of the plain hub
--     kept-same, seen-same      where nothing changed
--     ended-alike      behind a call that forgets no entry
--     can-follow-heard, asked-heard, kept-lowered      behind a hearing; where it couldn't be entered
use Rattle.std.proofs.Common.{◌≡◌, ℕ, ◌≤◌, List, Result, Ok, Err, refl, sym, ap, subst, ◌∙◌, None}
use Rattle.std.specs.Prelude.{IfOk, OnErr}
use Rattle.std.specs.List.{AllZip}
use Rattle.push_base.specs.Limits.{max_moment}
use Rattle.rrset.specs.declared.record.Hearing.{Hearing}
use Rattle.linkreasons.specs.AllReasons.{AllReasons, askings_of}
use Rattle.pushserver.specs.Calls.{HubCall, called}
use Rattle.pushserver.specs.Hubs.{now, state_now}
use Rattle.pushserver.specs.declared.given.Why.{Why}
use Rattle.pushserver.specs.PlainHubs.{Hub}
use Rattle.pushserver.specs.KeptHubs.{KeptHub, Forgets, StandsFor, forgetting}
use Rattle.pushserver.proofs.ForgottenEntries.{forgets-same}
use Rattle.hubasking.specs.AskingHubs.{AskingHub}
use Rattle.hubasking.specs.LinkAskings.{Askings, asking_after, behind, kept_questions, plain_questions}
use Rattle.hubasking.specs.KeptReasons.{AreKept, CanFollow, HasBounds, Lowers, StillAsks, followed, session_reasons}
use Rattle.hubasking.proofs.Calls.{Leaves, LeavesHeard, bounds-lowered, leaves-forgetting, lowered-same, matched}
use Rattle.hubasking.specs.Following.{AreStill, doubts_in}
use Rattle.hubasking.proofs.Leading.{Sessions}
use Rattle.hubasking.proofs.Resting.{can-follow, still-ask}
use Rattle.hubasking.proofs.Standing.{asks-alike}
use Rattle.hubasking.proofs.StillRows.{kept-still, match-still}

abbrev pub asking_hub : KeptHub → AllReasons → AskingHub
asking_hub hub reasons = record { hub = hub; askings = askings_of reasons }

-- links can follow behind a call
pub can-follow-call : (k behind_call later : KeptHub) (r : AllReasons) (plain_behind : Hub → Hub) → AreKept k r → Forgets behind_call later → Leaves k behind_call → ((hub : Hub) → StandsFor k hub → StandsFor later (plain_behind hub)) → CanFollow later r
can-follow-call k behind_call later r plain_behind kept forgets leaves stands =
    let left : Leaves k later = leaves-forgetting k behind_call later forgets leaves in
    can-follow k later r (plain_behind kept.plain) kept (stands kept.plain kept.stands) (left.timely kept.timely) left.rests (left.bounds r.links (matched (state_now k).links r.links kept.links))

-- what is asked then
pub asked-behind : (behind_call later : KeptHub) (askings new : Askings) → Forgets behind_call later → new ≡ followed later askings → followed later askings ≡ behind kept_questions None later askings → new ≡ behind kept_questions None behind_call askings
asked-behind behind_call later askings new forgets first second = first ∙ second ∙ ap (λ (k : KeptHub). behind kept_questions None k askings) forgets.is

-- the same where it is seen
pub asked-seen : (call : HubCall) (k : KeptHub) (r : AllReasons) (v : AskingHub) (new : Askings) → asking_hub k r ≡ v → new ≡ asking_after kept_questions call k (askings_of r) → new ≡ asking_after kept_questions call v.hub v.askings
asked-seen call k r v new seen asked = subst (λ (w : AskingHub). new ≡ asking_after kept_questions call w.hub w.askings) seen asked

-- as of the plain hub
pub asked-alike : (call : HubCall) (k later : KeptHub) (r : AllReasons) (v : AskingHub) (new : Askings) → asking_hub k r ≡ v → new ≡ asking_after kept_questions call k (askings_of r) → Forgets (called call k) later
    → ((hub : Hub) → StandsFor k hub → StandsFor later (called call hub)) → (hub : Hub) → StandsFor v.hub hub → new ≡ asking_after plain_questions call hub v.askings
asked-alike call k later r v new seen asked forgets stands hub stood =
    let is : StandsFor k hub = subst (λ (w : AskingHub). StandsFor w.hub hub) (sym seen) stood in
    subst (λ (w : AskingHub). new ≡ asking_after plain_questions call hub w.askings) seen (asks-alike call k later hub (askings_of r) new asked is forgets (stands hub is))

-- a plain hub that is seen is kept
pub stood : (k : KeptHub) (r : AllReasons) (v : AskingHub) (hub : Hub) → asking_hub k r ≡ v → StandsFor v.hub hub → StandsFor k hub
stood k r v hub seen stands = subst (λ (w : AskingHub). StandsFor w.hub hub) (sym seen) stands

-- where a call has no memory
pub on_err : {A E : Type 0} {P : Type 0} (result : Result A E) → P → OnErr result P
on_err (Ok x) p = tt
on_err (Err e) p = p

-- what follows from what a call answers
pub each_ok : {A E : Type 0} (P Q : A → Type 0) (result : Result A E) → ((x : A) → P x → Q x) → IfOk result P → IfOk result Q
each_ok P Q (Ok x) step p = step x p
each_ok P Q (Err e) step p = tt

-- where nothing changed
pub kept-same : (k later : KeptHub) (r : AllReasons) → later ≡ k → AreKept k r → AreKept later r
kept-same k later r same kept = subst (λ (h : KeptHub). AreKept h r) (sym same) kept

pub both-same : (k later : KeptHub) (r new : AllReasons) (v : AskingHub) → asking_hub k r ≡ v → later ≡ k → askings_of new ≡ askings_of r → asking_hub later new ≡ v
both-same k later r new v seen same asked = (λ i. record { hub = same i; askings = asked i }) ∙ seen

pub seen-same : (k later : KeptHub) (r : AllReasons) (v : AskingHub) → asking_hub k r ≡ v → later ≡ k → asking_hub later r ≡ v
seen-same k later r v seen same = ap (λ (h : KeptHub). asking_hub h r) same ∙ seen

pub ended-alike : (call : HubCall) (k later : KeptHub) (r : AllReasons) (v : AskingHub) (new : Askings) → asking_hub k r ≡ v → new ≡ asking_after kept_questions call k (askings_of r) → later ≡ called call k
    → ((hub : Hub) → StandsFor k hub → StandsFor later (called call hub)) → (hub : Hub) → StandsFor v.hub hub → new ≡ asking_after plain_questions call hub v.askings
ended-alike call k later r v new seen asked is stands = asked-alike call k later r v new seen asked (forgets-same (called call k) later is) stands

-- links can follow behind a hearing
pub can-follow-heard : (k later : KeptHub) (r new : AllReasons) (link t : ℕ) (read : Result Hearing Why) (behind_call : KeptHub) (plain : Hub) → AreKept k r → Forgets behind_call later → LeavesHeard k link read behind_call → t ≡ now k → StandsFor later plain
    → Lowers link t read r new → CanFollow later new
can-follow-heard k later r new link t read behind_call plain kept forgets leaves t_is stands lowers = record {
  plain = plain;
  stands = stands;
  timely = subst (λ (h : KeptHub). now h ≤ max_moment) (sym forgets.is) (subst (λ (n : ℕ). n ≤ max_moment) (sym leaves.timely) kept.timely);
  sessions = subst (λ (s : Sessions). AllZip (StillAsks later) s later.sessions) (sym ((lowered-same link t read r new lowers).0 ∙ kept.sessions))
      (subst (λ (h : KeptHub). AllZip (StillAsks h) (session_reasons (state_now k) k.sessions) h.sessions) (sym forgets.is) (still-ask (forgetting forgets.count behind_call) (state_now k) leaves.rests.homes k.sessions behind_call.sessions leaves.rests.sessions));
  links = subst (λ (h : KeptHub). AllZip HasBounds (state_now h).links new.links) (sym forgets.is)
      (leaves.bounds r new (matched (state_now k).links r.links kept.links) (subst (λ (n : ℕ). Lowers link n read r new) t_is lowers));
}

-- what is asked then
pub asked-heard : (behind_call later : KeptHub) (r lowered : AllReasons) (link t : ℕ) (read : Result Hearing Why) (new : Askings) → Lowers link t read r lowered → Forgets behind_call later → new ≡ followed later (askings_of lowered)
    → followed later (askings_of lowered) ≡ behind kept_questions None later (askings_of lowered) → new ≡ behind kept_questions None behind_call (askings_of r)
asked-heard behind_call later r lowered link t read new lowers forgets first second = asked-behind behind_call later (askings_of lowered) new forgets first second ∙ ap (λ (a : Askings). behind kept_questions None behind_call a) (lowered-same link t read r lowered lowers).1

-- where nothing was entered for want of memory
pub kept-lowered : (k later : KeptHub) (r new : AllReasons) (link t : ℕ) (read : Result Hearing Why) → later ≡ k → Lowers link t read r new → AreKept k r → AreKept later new
kept-lowered k later r new link t read same lowers kept = kept-same k later new same (record {
  plain = kept.plain;
  stands = kept.stands;
  timely = kept.timely;
  sessions = (lowered-same link t read r new lowers).0 ∙ kept.sessions;
  links = match-still (state_now k).links new.links (bounds-lowered (state_now k).links link t read r new lowers (matched (state_now k).links r.links kept.links))
      (subst (λ (asks : Askings). AreStill (state_now k).links (doubts_in asks)) (sym (lowered-same link t read r new lowers).1) (kept-still (state_now k).links r.links kept.links));
})
