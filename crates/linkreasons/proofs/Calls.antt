-- What each call leaves, by what it does to the links and the sessions.
--     session-ends, takes-back, keeps-those, clears      reasons of a session go
--     doubt-goes, doubts-go      a row that was reconfirmed is taken back; those go that were heard since
--     Leads, reason-comes, doubt-comes, doubt-settles      a reason comes; a row is reconfirmed, or stands for all of its key
--     session-comes, none-more, more-room      a session comes; it has no reasons; there is more room
use Rattle.std.proofs.Common.{◌≡◌, ℕ, ◌+◌, ◌<◌, ◌≤◌, ◌-◌, ◌^◌, Bool, true, false, ◌||◌, List, [], ◌∷◌, ◌++◌, map, not, replicate, Result, Ok, Err, refl, sym, ap, subst, ◌∙◌, arith}
use Rattle.std.specs.Prelude.{OnErr, OnOk, filter}
use Rattle.push_base.specs.Cases.{changed_at, is_empty}
use Rattle.rrset.specs.declared.record.HeardRr.{HeardRr}
use Rattle.rrset.specs.declared.record.Key.{Key}
use Rattle.subscr.specs.Asked.{Asked, has}
use Rattle.linkcache.specs.Rows.{LinkRows}
use Rattle.linkask.specs.Laws.{BeginningAnew, ReasonsKeepBounds, UnwantingDrops, WantingWants}
use Rattle.linkask.specs.Reasons.{LinkAsking, question_for}
use Rattle.linkreasons.specs.AllReasons.{AllReasons, KeepsBounds, ReasonsOfLink, asking_of, askings_of, but_last, doubted_less, doubted_more, in_session, only_reasons, still_doubted, with_reason, with_those, with_wanted, without_session}
use Rattle.linkreasons.specs.Changing.{IsOneAsked, all_gone, doubted, gone_in, have_reasons, heard_by, is_there, last_of, one_wanted, refreshed, settled, settled_last, undoubted}
use Rattle.linkreasons.specs.Counting.{AreDistinct, IsAllCounted}
use Rattle.linkreasons.specs.declared.reason.Reason.{Reason}
use Rattle.linkreasons.proofs.Changes.{Turned, counted-still, doubts-turns, hears-turns, nothing-changes, settles-steps, settles-turns, steps-all, wants-turns}
use Rattle.linkreasons.proofs.ManyLinks.{Parts, Sessions, Steps, all-bounds, changed-is, changed_from}
use Rattle.linkreasons.proofs.OneAsked.{asked-counted, new-counted}
use Rattle.linkreasons.proofs.RowParts.{refreshed-goes, undoubted-goes}
use Rattle.linkreasons.proofs.SessionParts.{back-parts, clear-parts, distinct-in, distinct-last, distinct-without, end-parts, those-parts}
use Rattle.linkreasons.proofs.Whole.{Leaves, comes-last, leaves-link, leaves-session, new-session}

abbrev pub these : List ReasonsOfLink → Sessions → AllReasons
these links sessions = record { links = links; sessions = sessions }

-- ---- some reasons go

module _ (unwanting : UnwantingDrops) (keeps : ReasonsKeepBounds) (most : ℕ) (old : AllReasons) (h : IsAllCounted most old) where
  by-sessions : (later sessions : Sessions) (reasons : List Reason) (links : List ReasonsOfLink) → Parts old.sessions later reasons → AreDistinct later → sessions ≡ later → links ≡ all_gone reasons old.links
      → Leaves most old (these links sessions) (askings_of old)
  by-sessions later sessions reasons links parts apart is gone =
      subst (λ (s : Sessions). Leaves most old (these links s) (askings_of old)) (sym is) (leaves-session unwanting keeps most old later reasons links h gone parts apart)

  pub session-ends : (number : ℕ) (links : List ReasonsOfLink) (sessions : Sessions) → sessions ≡ without_session number old.sessions → links ≡ all_gone (gone_in number (λ rs. rs) old.sessions) old.links
      → Leaves most old (these links sessions) (askings_of old)
  session-ends number links sessions is gone = by-sessions _ sessions _ links (end-parts number old.sessions) (distinct-without number old.sessions h.numbers) is gone

  pub takes-back : (number : ℕ) (links : List ReasonsOfLink) (sessions : Sessions) → sessions ≡ in_session number but_last old.sessions → links ≡ all_gone (gone_in number last_of old.sessions) old.links
      → Leaves most old (these links sessions) (askings_of old)
  takes-back number links sessions is gone = by-sessions _ sessions _ links (back-parts number old.sessions) (distinct-in number but_last old.sessions h.numbers) is gone

  pub keeps-those : (number : ℕ) (asked : Asked) (links : List ReasonsOfLink) (sessions : Sessions) → sessions ≡ in_session number (with_those asked) old.sessions
      → links ≡ all_gone (gone_in number (λ rs. filter (λ r. not (has r.id asked)) rs) old.sessions) old.links → Leaves most old (these links sessions) (askings_of old)
  keeps-those number asked links sessions is gone = by-sessions _ sessions _ links (those-parts number asked old.sessions) (distinct-in number (with_those asked) old.sessions h.numbers) is gone

  pub clears : (number : ℕ) (links : List ReasonsOfLink) (sessions : Sessions) → sessions ≡ in_session number (λ _. []) old.sessions → links ≡ all_gone (gone_in number (λ rs. rs) old.sessions) old.links
      → Leaves most old (these links sessions) (askings_of old)
  clears number links sessions is gone = by-sessions _ sessions _ links (clear-parts number old.sessions) (distinct-in number (λ _. []) old.sessions h.numbers) is gone

  pub doubt-goes : (link : ℕ) (links : List ReasonsOfLink) → links ≡ changed_at link undoubted old.links → Leaves most old (these links old.sessions) (changed_at link doubted_less (askings_of old))
  doubt-goes link links is = leaves-link unwanting keeps most old link doubted_less undoubted links h is (undoubted-goes old.sessions)

  pub doubts-go : (rows : LinkRows) (link : ℕ) (links : List ReasonsOfLink) → links ≡ changed_at link (refreshed rows) old.links → Leaves most old (these links old.sessions) (changed_at link (still_doubted rows) (askings_of old))
  doubts-go rows link links is = leaves-link unwanting keeps most old link (still_doubted rows) (refreshed rows) links h is (refreshed-goes rows old.sessions)

-- ---- a reason comes

pub record Leads (most : ℕ) (old new : AllReasons) (later : List LinkAsking) : Type 0 where
  pub counted : IsAllCounted most new
  pub askings : askings_of new ≡ later
  pub bounds : KeepsBounds old new

leads : (most : ℕ) (old : AllReasons) (later : Sessions) (link : ℕ) (f : LinkAsking → LinkAsking) (g : ReasonsOfLink → ReasonsOfLink) (links : List ReasonsOfLink) → links ≡ changed_at link g old.links
    → Turned most 0 later (changed_from link f 0 (map asking_of old.links)) (changed_from link g 0 old.links) → Steps old.links (changed_from link g 0 old.links) → AreDistinct later
    → Leads most old (these links later) (changed_at link f (askings_of old))
leads most old later link f g links is turned steps apart =
    subst (λ (ls : List ReasonsOfLink). Leads most old (these ls later) (changed_at link f (askings_of old))) (sym (is ∙ changed-is link g old.links))
    (record {
      counted = record { links = turned.counted; numbers = apart };
      askings = turned.askings ∙ sym (changed-is link f (askings_of old));
      bounds = λ rows place. all-bounds old.links (changed_from link g 0 old.links) steps rows place;
    })

module _ (wanting : WantingWants) (keeps : ReasonsKeepBounds) (most : ℕ) (old : AllReasons) (h : IsAllCounted most old) (small : most < 2 ^ 64 - 1) where
  pub reason-comes : (number : ℕ) (r : Reason) (links : List ReasonsOfLink) (sessions : Sessions) → is_there number old.sessions ≡ true → sessions ≡ in_session number (with_reason r) old.sessions
      → links ≡ changed_at r.link (one_wanted r.question) old.links → Leads (most + 1) old (these links sessions) (with_wanted r.link r.question (askings_of old))
  reason-comes number r links sessions there is comes =
      subst (λ (s : Sessions). Leads (most + 1) old (these links s) (with_wanted r.link r.question (askings_of old))) (sym is)
      (leads (most + 1) old (in_session number (with_reason r) old.sessions) r.link _ (one_wanted r.question) links comes
      (wants-turns wanting most old.sessions (in_session number (with_reason r) old.sessions) r small (comes-last number r old.sessions h.numbers there) old.links h.links)
      (steps-all old.sessions most r.link (one_wanted r.question) (λ at l counted rows bounds. (keeps rows r.question l.kept counted.order bounds).0) 0 old.links h.links)
      (distinct-in number (with_reason r) old.sessions h.numbers))

  pub doubt-comes : (link : ℕ) (row : Key × ℕ) (links : List ReasonsOfLink) → links ≡ changed_at link (doubted row) old.links → Leads (most + 1) old (these links old.sessions) (changed_at link (doubted_more row.0 row.1) (askings_of old))
  doubt-comes link row links is =
      leads (most + 1) old old.sessions link (doubted_more row.0 row.1) (doubted row) links is
      (doubts-turns wanting most old.sessions link row small old.links h.links)
      (steps-all old.sessions most link (doubted row) (λ at l counted rows bounds. (keeps rows (question_for row.0) l.kept counted.order bounds).0) 0 old.links h.links)
      h.numbers

pub doubt-settles : UnwantingDrops → BeginningAnew → ReasonsKeepBounds → (most : ℕ) (old : AllReasons) → IsAllCounted most old → (link : ℕ) (links : List ReasonsOfLink) → links ≡ changed_at link settled old.links
    → Leads most old (these links old.sessions) (changed_at link settled_last (askings_of old))
doubt-settles unwanting beginning keeps most old h link links is =
    leads most old old.sessions link settled_last settled links is
    (settles-turns unwanting beginning keeps most old.sessions link old.links h.links)
    (settles-steps unwanting beginning keeps most old.sessions link old.links h.links)
    h.numbers

-- ---- nothing is wanted that wasn't

pub more-room : (most more : ℕ) (all : AllReasons) → most ≤ more → IsAllCounted most all → IsAllCounted more all
more-room most more all few h = record { links = counted-still most more all.sessions all.sessions few (λ at q. refl) 0 all.links h.links; numbers = h.numbers }

pub session-comes : (most : ℕ) (old : AllReasons) (number : ℕ) (sessions : Sessions) → IsAllCounted most old → is_there number old.sessions ≡ false → sessions ≡ old.sessions ++ (number, []) ∷ [] → IsAllCounted most (these old.links sessions)
session-comes most old number sessions h new is =
    subst (λ (s : Sessions). IsAllCounted most (these old.links s)) (sym is)
    (record {
      links = counted-still most most old.sessions (old.sessions ++ (number, []) ∷ []) (omega arith) (new-session number old.sessions) 0 old.links h.links;
      numbers = distinct-last number old.sessions h.numbers new;
    })

pub record Hears (most : ℕ) (old new : AllReasons) : Type 0 where
  pub counted : IsAllCounted most new
  pub askings : askings_of new ≡ askings_of old

pub is-heard : (most : ℕ) (old : AllReasons) → IsAllCounted most old → (link now : ℕ) (hearing : List HeardRr) (links : List ReasonsOfLink) → links ≡ changed_at link (heard_by now hearing) old.links → Hears most old (these links old.sessions)
is-heard most old h link now hearing links is =
    let turned = hears-turns most old.sessions link now hearing old.links h.links in
    subst (λ (ls : List ReasonsOfLink). Hears most old (these ls old.sessions)) (sym (is ∙ changed-is link (heard_by now hearing) old.links))
    (record { counted = record { links = turned.counted; numbers = h.numbers }; askings = turned.askings ∙ nothing-changes link 0 (askings_of old) })

pub is-asked : (most : ℕ) (old : AllReasons) → IsAllCounted most old → (rows : LinkRows) (link : ℕ) (links : List ReasonsOfLink) → IsOneAsked rows link old.links links → IsAllCounted most (these links old.sessions)
is-asked most old h rows link links is = record { links = asked-counted rows most old.sessions 0 link old.links links is h.links; numbers = h.numbers }

-- ---- as the caller sees it

pub seen-askings : (f : List LinkAsking → List LinkAsking) (most : ℕ) (old now new : AllReasons) → Leaves most old new (f (askings_of old)) → old ≡ now → askings_of new ≡ only_reasons new.sessions (f (askings_of now))
seen-askings f most old now new leaves same = leaves.askings ∙ ap (λ (a : AllReasons). only_reasons new.sessions (f (askings_of a))) same

pub seen-bounds : (old now new : AllReasons) → KeepsBounds old new → old ≡ now → KeepsBounds now new
seen-bounds old now new keeps same = subst (λ (a : AllReasons). KeepsBounds a new) same keeps

-- where memory may run out
pub record MayLead {A E : Type 0} (result : Result A E) (most : ℕ) (old new : AllReasons) (later : List LinkAsking) : Type 0 where
  pub counted : IsAllCounted most new
  pub askings : OnOk result (askings_of new ≡ later)
  pub err : OnErr result (new ≡ old)
  pub bounds : KeepsBounds old new

pub may-come : {A E : Type 0} → WantingWants → ReasonsKeepBounds → (most : ℕ) (old : AllReasons) → IsAllCounted most old → most < 2 ^ 64 - 1 → (number : ℕ) (r : Reason) (links : List ReasonsOfLink) (sessions : Sessions) (result : Result A E)
    → is_there number old.sessions ≡ true → OnOk result (sessions ≡ in_session number (with_reason r) old.sessions) → OnOk result (links ≡ changed_at r.link (one_wanted r.question) old.links)
    → OnErr result (sessions ≡ old.sessions) → OnErr result (links ≡ old.links) → MayLead result (most + 1) old (these links sessions) (with_wanted r.link r.question (askings_of old))
may-come wanting keeps most old h small number r links sessions (Ok x) there sessions-are links-are same_sessions same_links =
    let leads = reason-comes wanting keeps most old h small number r links sessions there sessions-are links-are in
    record { counted = leads.counted; askings = leads.askings; err = tt; bounds = leads.bounds }
may-come wanting keeps most old h small number r links sessions (Err e) there sessions-are links-are same_sessions same_links =
    let same : these links sessions ≡ old = λ i. these (same_links i) (same_sessions i) in
    record {
      counted = subst (IsAllCounted (most + 1)) (sym same) (more-room most (most + 1) old (omega arith) h);
      askings = tt;
      err = same;
      bounds = subst (KeepsBounds old) (sym same) (λ rows link bounds. bounds);
    }

pub may-doubt : {A E : Type 0} → WantingWants → ReasonsKeepBounds → (most : ℕ) (old : AllReasons) → IsAllCounted most old → most < 2 ^ 64 - 1 → (link : ℕ) (row : Key × ℕ) (links : List ReasonsOfLink) (result : Result A E)
    → OnOk result (links ≡ changed_at link (doubted row) old.links) → OnErr result (links ≡ old.links) → MayLead result (most + 1) old (these links old.sessions) (changed_at link (doubted_more row.0 row.1) (askings_of old))
may-doubt wanting keeps most old h small link row links (Ok x) links-are same_links =
    let leads = doubt-comes wanting keeps most old h small link row links links-are in
    record { counted = leads.counted; askings = leads.askings; err = tt; bounds = leads.bounds }
may-doubt wanting keeps most old h small link row links (Err e) links-are same_links =
    let same : these links old.sessions ≡ old = λ i. these (same_links i) old.sessions in
    record {
      counted = subst (IsAllCounted (most + 1)) (sym same) (more-room most (most + 1) old (omega arith) h);
      askings = tt;
      err = same;
      bounds = subst (KeepsBounds old) (sym same) (λ rows place bounds. bounds);
    }

pub begins : (n : ℕ) (links : List ReasonsOfLink) (sessions : Sessions) → links ≡ replicate n (record { kept = []; reconfirmed = [] }) → sessions ≡ [] → IsAllCounted 0 (these links sessions)
begins n links sessions is none =
    subst (λ (s : Sessions). IsAllCounted 0 (these links s)) (sym none)
    (subst (λ (ls : List ReasonsOfLink). IsAllCounted 0 (these ls [])) (sym is) (record { links = new-counted n 0; numbers = tt }))

-- it comes without reasons
pub none-more : (sessions : Sessions) (number : ℕ) → have_reasons (sessions ++ (number, []) ∷ []) ≡ have_reasons sessions
none-more [] number = refl
none-more (e ∷ es) number = ap (λ (b : Bool). not (is_empty e.1) || b) (none-more es number)
