-- What steps get of links that are kept one behind another, and what plans make of them.
use Rattle.std.proofs.Common.{◌≡◌, ℕ, zero, suc, ◌+◌, ◌<◌, Bool, true, false, List, [], ◌∷◌, ◌++◌, length, get_or, set, take, drop, map, Option, Some, None, Result, Ok, Err, refl, sym, ap, subst, ◌∙◌}
use Rattle.std.specs.Prelude.{slice_get, IfOk, IfSome, OnOk}
use Rattle.std.specs.List.{AllZip}
use Rattle.push_base.specs.Cases.{changed_at}
use Rattle.dnsname.specs.Names.{Labels}
use Rattle.rrset.specs.declared.record.HeardRr.{HeardRr}
use Rattle.rrset.specs.declared.record.Hearing.{Hearing}
use Rattle.reversemap.specs.BothKinds.{IsApart}
use Rattle.linkcache.specs.Links.{LinkState, LinkKept, HasRoom}
use Rattle.linkcache.specs.Plans.{LinkPlan, IsPlanOf, IsHeardPlan, IsMomentPlan, Leads}
use Rattle.linkcache.specs.Rows.{LinkRows, at_moment}
use Rattle.history.specs.Kept.{HasNoRow}
use Rattle.history.specs.LinkSteps.{EndsBy, StepsIn}
use Rattle.history.specs.States.{with_reverse}
use Rattle.history.specs.HeldPlans.{IsPlanIn, IsLinkReady, link_changed, links_changed}
use Rattle.history.specs.declared.entry.Entry.TheVariants as entries
use Rattle.history.proofs.Elements.{slice_get-set, slice_get-read, slice_get-within, slice_get-map, map-changed, element_here, element_at, ok-as, one_more, zip-more, zip-first}

abbrev pub link_states : List LinkKept → List LinkState
link_states links = map (λ l. l.state) links

-- ---- the link at a place

-- a plan that was made of the link at a place, which was put back with room for it
pub ready-here : {E : Type 0} (links : List LinkKept) (i : ℕ) (old new : LinkKept) (r : Result LinkPlan E) → i < length links → new.state ≡ (get_or links i old).state
    → IfOk r (IsPlanOf (get_or links i old).state.rules (get_or links i old).state.rows) → IfOk r (λ plan. HasRoom plan.rows new) → IfOk r (IsLinkReady (slice_get (set links i new) i))
ready-here links i old new (Err e) h same planned room = tt
ready-here links i old new (Ok plan) h same planned room =
    subst (λ o. IsLinkReady o plan) (sym (slice_get-set links i new h)) (record { planned = subst (λ (s : LinkState). IsPlanOf s.rules s.rows plan) (sym same) planned; room = room })

-- a plan that leads somewhere, made of a link that was put back with room for it
pub plan-in : (old new : LinkKept) (plan : LinkPlan) (later : LinkRows) → new.state ≡ old.state → Leads old.state.rules old.state.rows plan later → HasRoom plan.rows new → IsPlanIn new plan
plan-in old new plan later same leads room = record { planned = subst (λ (s : LinkState). IsPlanOf s.rules s.rows plan) (sym same) (later, leads); room = room }

-- what a hearing gets: nothing where no record is usable
module _ (l : LinkState) (now : ℕ) (hearing : Hearing) (rrs : List HeardRr) (plan : LinkPlan) (same : rrs ≡ hearing.rrs) (planned : IsHeardPlan l.rules l.rows now rrs plan) (usable : Bool) (usable_is : usable ≡ plan.usable) where
  whole : IsHeardPlan l.rules l.rows now hearing.rrs plan
  whole = subst (λ (rs : List HeardRr). IsHeardPlan l.rules l.rows now rs plan) same planned

  pub heard-none : usable ≡ false → (i : ℕ) → StepsIn (entries.Heard i hearing) now l None
  heard-none not_usable i = sym whole.usable ∙ sym usable_is ∙ not_usable

  pub heard-some : usable ≡ true → (i : ℕ) → StepsIn (entries.Heard i hearing) now l (Some plan)
  heard-some is_usable i = (sym whole.usable ∙ sym usable_is ∙ is_usable, whole.leads)

-- the same of a plan that an entry got, if it got one
pub ready-step : {E : Type 0} (links : List LinkKept) (i : ℕ) (new : LinkKept) (r : Result (Option LinkPlan) E) → i < length links → IfOk r (λ plan. IfSome plan (IsPlanIn new)) → IfOk r (λ plan. IfSome plan (IsLinkReady (slice_get (set links i new) i)))
ready-step links i new (Err e) h ready = tt
ready-step links i new (Ok None) h ready = tt
ready-step links i new (Ok (Some plan)) h ready = subst (λ o. IsLinkReady o plan) (sym (slice_get-set links i new h)) ready

pub ready-moment : {E : Type 0} (links : List LinkKept) (i : ℕ) (old new : LinkKept) (now : ℕ) (r : Result LinkPlan E) → i < length links → new.state ≡ (get_or links i old).state
    → IfOk r (IsMomentPlan (get_or links i old).state.rules (get_or links i old).state.rows now) → IfOk r (λ plan. HasRoom plan.rows new) → IfOk r (IsLinkReady (slice_get (set links i new) i))
ready-moment links i old new now r h same planned room =
    let s = (get_or links i old).state in
    ready-here links i old new r h same (ok-as (IsMomentPlan s.rules s.rows now) (IsPlanOf s.rules s.rows) (λ plan is. (at_moment s.rows now, is.leads)) r planned) room

-- ---- a moment, of each link in its turn

pub record MomentsSoFar (old links : List LinkKept) (now : ℕ) (plans : List LinkPlan) (i : ℕ) : Type 0 where
  pub states : link_states links ≡ link_states old
  pub each : AllZip (EndsBy now) (take i (link_states old)) plans
  pub ready : AllZip IsPlanIn (take i links) plans

ready-link : (o : Option LinkKept) (plan : LinkPlan) → IsLinkReady o plan → (link : LinkKept) × (o ≡ Some link) × IsPlanIn link plan
ready-link None plan ready = absurd ready
ready-link (Some link) plan ready = (link, refl, ready)

pub moments-more : (old links now_links : List LinkKept) (now : ℕ) (plans later : List LinkPlan) (plan : LinkPlan) (i : ℕ) → MomentsSoFar old links now plans i → i < length links
    → ((link : LinkKept) → slice_get links i ≡ Some link → EndsBy now link.state plan) → link_states now_links ≡ link_states links → IsLinkReady (slice_get now_links i) plan → take i now_links ≡ take i links → later ≡ plans ++ plan ∷ []
    → MomentsSoFar old now_links now later (i + 1)
moments-more old links now_links now plans later plan i so_far within ends states ready front is =
    let link = element_here links i within in
    let new = ready-link (slice_get now_links i) plan ready in
    let here : slice_get (link_states old) i ≡ Some link.0.state = ap (λ ss. slice_get ss i) (sym so_far.states) ∙ slice_get-map (λ (l : LinkKept). l.state) links i link.0 link.1 in
    subst (λ ps. MomentsSoFar old now_links now ps (i + 1)) (sym is) (record {
      states = states ∙ so_far.states;
      each = zip-more (EndsBy now) (link_states old) plans i link.0.state plan so_far.each here (ends link.0 link.1);
      ready = zip-more IsPlanIn now_links plans i new.0 plan (subst (λ ls. AllZip IsPlanIn ls plans) (sym front) so_far.ready) new.1 new.2;
    })

-- ---- plans are made

pub ready-within : (links : List LinkKept) (i : ℕ) (plan : LinkPlan) → IsLinkReady (slice_get links i) plan → i < length links
ready-within links i plan ready = let link = ready-link (slice_get links i) plan ready in slice_get-within links i link.0 link.1

-- of the plans that are left each was made of the link at its place, and with them made the links are as they are to be
pub record PlansLeft (whole : List LinkState) (links : List LinkKept) (i : ℕ) (left : List LinkPlan) : Type 0 where
  pub ready : AllZip IsPlanIn (drop i links) left
  pub reached : take i (link_states links) ++ links_changed left (drop i (link_states links)) ≡ whole

pub first-ready : (whole : List LinkState) (links : List LinkKept) (i : ℕ) (plan : LinkPlan) (left : List LinkPlan) → PlansLeft whole links i (plan ∷ left) → IsLinkReady (slice_get links i) plan
first-ready whole links i plan left so_far = let first = zip-first IsPlanIn links i plan left so_far.ready in subst (λ o. IsLinkReady o plan) (sym first.1) first.2

-- with one element changed, that is taken from what is changed to what is done
changed-front : (f : LinkState → LinkState) (rest : List LinkPlan) (plan : LinkPlan) (ss : List LinkState) (i : ℕ) (s : LinkState) → link_changed plan ≡ f → slice_get ss i ≡ Some s
    → take (suc i) (changed_at i f ss) ++ links_changed rest (drop (suc i) (changed_at i f ss)) ≡ take i ss ++ links_changed (plan ∷ rest) (drop i ss)
changed-front f rest plan [] i s same at = cc
changed-front f rest plan (t ∷ ss) zero s same at = ap (λ (g : LinkState → LinkState). g t ∷ links_changed rest ss) (sym same)
changed-front f rest plan (t ∷ ss) (suc i) s same at = ap (λ l. t ∷ l) (changed-front f rest plan ss i s same at)

pub plans-more : (whole : List LinkState) (links now_links : List LinkKept) (i : ℕ) (plan : LinkPlan) (left rest : List LinkPlan) → PlansLeft whole links i left → left ≡ plan ∷ rest
    → link_states now_links ≡ changed_at i (link_changed plan) (link_states links) → drop (i + 1) now_links ≡ drop (i + 1) links → PlansLeft whole now_links (i + 1) rest
plans-more whole links now_links i plan left rest so_far is states behind =
    let now_left : PlansLeft whole links i (plan ∷ rest) = subst (λ ps. PlansLeft whole links i ps) is so_far in
    let first = zip-first IsPlanIn links i plan rest now_left.ready in
    let here = slice_get-map (λ (l : LinkKept). l.state) links i first.0 first.1 in
    record {
      ready = subst (λ ls. AllZip IsPlanIn ls rest) (sym behind) first.3;
      reached =
          ap (λ n. take n (link_states now_links) ++ links_changed rest (drop n (link_states now_links))) (one_more i)
          ∙ ap (λ ss. take (suc i) ss ++ links_changed rest (drop (suc i) ss)) states
          ∙ changed-front (link_changed plan) rest plan (link_states links) i first.0.state refl here ∙ now_left.reached;
    }

-- ---- a reverse domain more

-- there is such a link
pub row-within : (links : List LinkKept) (i : ℕ) → HasNoRow (slice_get (link_states links) i) → i < length links
row-within links i none = by (slice_get (link_states links) i) refl none
  where
    by : (o : Option LinkState) → slice_get (link_states links) i ≡ o → HasNoRow o → i < length links
    by None e none = absurd none
    by (Some link) e none = let kept = element_at (λ (l : LinkKept). l.state) links i link e in slice_get-within links i kept.0 kept.1

pub apart-here : (links : List LinkKept) (i : ℕ) (old : LinkKept) (domain : Labels) → HasNoRow (slice_get (link_states links) i) → old ≡ get_or links i old → ((link : LinkState) → slice_get (link_states links) i ≡ Some link → IsApart link.rules.domain domain)
    → IsApart (get_or links i old).state.rules.domain domain
apart-here links i old domain none is apart = subst (λ (l : LinkKept). IsApart l.state.rules.domain domain) is (apart old.state (slice_get-map (λ (l : LinkKept). l.state) links i old (slice_get-read links i old (row-within links i none) is)))

-- the link at a place with a reverse domain more
pub reversed-here : {X E : Type 0} (links : List LinkKept) (i : ℕ) (old new : LinkKept) (domain : Labels) (r : Result X E) → HasNoRow (slice_get (link_states links) i) → old ≡ get_or links i old
    → OnOk r (new ≡ record (get_or links i old) { state = with_reverse domain (get_or links i old).state }) → OnOk r (link_states (set links i new) ≡ changed_at i (with_reverse domain) (link_states links))
reversed-here links i old new domain (Err e) none is made = tt
reversed-here links i old new domain (Ok x) none is made = map-changed (λ (l : LinkKept). l.state) (with_reverse domain) links i old new (row-within links i none) is (ap (λ (l : LinkKept). l.state) made)
