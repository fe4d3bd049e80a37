-- What is kept asks as the plain hub that it stands for.
--     one_asking      behind each call
--     asks-alike      by what the kept hub asks then
use Rattle.std.proofs.Common.{◌≡◌, ℕ, Bool, ◌&&◌, cond, List, [], ◌∷◌, ◌++◌, map, Option, Some, None, refl, sym, ◌∙◌, ap}
use Rattle.std.specs.Prelude.{flat_map, option_map, nat_lt}
use Rattle.std.specs.List.{AllZip}
use Rattle.push_base.specs.Cases.{is_empty}
use Rattle.push_base.specs.Limits.{max_number}
use Rattle.rrset.specs.declared.record.Key.{Key}
use Rattle.rrset.specs.declared.record.Question.{Question}
use Rattle.dsotlv.specs.Messages.{first_message}
use Rattle.history.specs.States.{State, accepts, reconfirm_key}
use Rattle.history.specs.declared.entry.Entry.TheVariants as entries
use Rattle.pushsession.specs.Kept.{KeptSession}
use Rattle.pushsession.specs.Reactions.{request_in}
use Rattle.pushsession.specs.declared.request.Request.{Request}
use Rattle.pushsession.specs.declared.request.Request.TheVariants as requests
use Rattle.pushserver.specs.Calls.{HubCall, updates, hears, goes, moves, connects, takes, gives, stops, ends, called}
use Rattle.livesessions.specs.NumberedSessions.{Numbered}
use Rattle.pushserver.specs.Hubs.{session_of, state_now}
use Rattle.pushserver.specs.PlainHubs.{Hub, Session, Subscription, asked_of}
use Rattle.pushserver.specs.KeptHubs.{KeptHub, Forgets, StandsFor, SessionStandsFor}
use Rattle.pushserver.proofs.hub_steps.Standing.{FoundBoth, both_found, fitting}
use Rattle.hubasking.specs.LinkAskings.{Askings, plain_questions, kept_questions, is_live, confirms_key, confirms, confirms_by_turn, links_behind, behind, asking_after}
use Rattle.hubasking.specs.Laws.{OneAsking}

asked-questions : (subscriptions : List Subscription) → map (λ (e : ℕ × Question). e.1) (asked_of subscriptions) ≡ plain_questions subscriptions
asked-questions [] = refl
asked-questions (s ∷ ss) = ap (λ (qs : List Question). s.question ∷ qs) (asked-questions ss)

same-questions : (hub : Hub) (ks : Numbered KeptSession) (ps : Numbered Session) → AllZip (SessionStandsFor hub) ks ps
    → flat_map (λ (e : ℕ × KeptSession). kept_questions e.1.subscriptions) ks ≡ flat_map (λ (e : ℕ × Session). plain_questions e.1.subscriptions) ps
same-questions hub [] [] h = refl
same-questions hub [] (p ∷ ps) h = absurd h
same-questions hub (k ∷ ks) [] h = absurd h
same-questions hub (k ∷ ks) (p ∷ ps) h = λ i. (ap (map (λ (e : ℕ × Question). e.1)) h.0.asked ∙ asked-questions p.1.subscriptions) i ++ same-questions hub ks ps h.1 i

-- ---- the row that a call reconfirms

module _ (k : KeptHub) (hub : Hub) (h : StandsFor k hub) where
  key-alike : (found : Option (ℕ × Key)) → confirms_key k found ≡ confirms_key hub found
  key-alike None = refl
  key-alike (Some found) = λ i. cond (accepts (h.state i) (entries.Reconfirm found.0 found.1) && nat_lt (h.newest i) max_number) (Some found) None

  confirms-alike : (request : Option Request) → confirms k request ≡ confirms hub request
  confirms-alike None = refl
  confirms-alike (Some requests.Itself) = refl
  confirms-alike (Some requests.Update) = refl
  confirms-alike (Some requests.Query) = refl
  confirms-alike (Some (requests.Subscribe question)) = refl
  confirms-alike (Some (requests.Reconfirm None)) = refl
  confirms-alike (Some (requests.Reconfirm (Some rr))) = key-alike (reconfirm_key (state_now k) rr) ∙ ap (λ (state : State). confirms_key hub (reconfirm_key state rr)) h.state

  turn-alike : (number : ℕ) (a : Option KeptSession) (b : Option Session) → FoundBoth hub number a b → confirms_by_turn k a ≡ confirms_by_turn hub b
  turn-alike number None None both = refl
  turn-alike number None (Some p) both = absurd both
  turn-alike number (Some s) None both = absurd both
  turn-alike number (Some s) (Some p) both = λ i. cond (is_live (both.stands.standing i) && is_empty (both.stands.output i))
      ((confirms-alike (option_map (λ (m : List ℕ). request_in m s.established) (option_map (λ (f : List ℕ × List ℕ). f.0) (first_message s.input)))
      ∙ (λ j. confirms hub (option_map (λ (m : List ℕ). request_in m (both.stands.established j)) (option_map (λ (f : List ℕ × List ℕ). f.0) (first_message (both.stands.input j)))))) i) None

  confirmed-alike : (number : ℕ) → confirms_by_turn k (session_of k number) ≡ confirms_by_turn hub (session_of hub number)
  confirmed-alike number = turn-alike number (session_of k number) (session_of hub number) (both_found hub number k.sessions hub.sessions (fitting h))

-- ---- behind a call

behind-alike : (k later : KeptHub) (hub : Hub) (confirmed other : Option (ℕ × Key)) (askings : Askings) → Forgets k later → StandsFor later hub → confirmed ≡ other
    → behind kept_questions confirmed k askings ≡ behind plain_questions other hub askings
behind-alike k later hub confirmed other askings f h same =
    let questions = same-questions hub later.sessions hub.sessions h.sessions in
    sym (ap (λ (l : KeptHub). behind kept_questions confirmed l askings) f.is) ∙ (λ i. links_behind (h.state i) (questions i) (same i) 0 (h.state i).links askings)

pub one_asking : OneAsking
one_asking (updates message) k later hub askings h f l = behind-alike (called (updates message) k) later (called (updates message) hub) None None askings f l refl
one_asking (hears link datagram) k later hub askings h f l = behind-alike (called (hears link datagram) k) later (called (hears link datagram) hub) None None askings f l refl
one_asking (goes link) k later hub askings h f l = behind-alike (called (goes link) k) later (called (goes link) hub) None None askings f l refl
one_asking (moves t) k later hub askings h f l = behind-alike (called (moves t) k) later (called (moves t) hub) None None askings f l refl
one_asking connects k later hub askings h f l = refl
one_asking (takes number piece) k later hub askings h f l = refl
one_asking (gives number room) k later hub askings h f l = behind-alike (called (gives number room) k) later (called (gives number room) hub) _ _ askings f l (confirmed-alike k hub h number)
one_asking (stops number rcode delay) k later hub askings h f l = refl
one_asking (ends number) k later hub askings h f l = behind-alike (called (ends number) k) later (called (ends number) hub) None None askings f l refl

-- what is asked behind a call, where that is told of the hub that is kept
pub asks-alike : (call : HubCall) (k later : KeptHub) (hub : Hub) (askings new : Askings) → new ≡ asking_after kept_questions call k askings → StandsFor k hub → Forgets (called call k) later → StandsFor later (called call hub)
    → new ≡ asking_after plain_questions call hub askings
asks-alike call k later hub askings new is h f l = is ∙ one_asking call k later hub askings h f l
