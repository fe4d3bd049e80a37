-- Two spellings of one question are both served, or neither is.
--     hubs-serve-alike      at any start
--     homes-stay      what is served is what was at the start
use Rattle.std.proofs.Common.{◌≡◌, true, ◌&&◌, List, [], ◌∷◌, length, take, Option, Some, None, option_map, fold, ap, ◌∙◌, refl}
use Rattle.std.specs.Prelude.{is_some, position, ◌==◌}
use Rattle.std.proofs.lemmas.Bool.{and_parts, eqb-true}
use Rattle.std.specs.List.{list_any}
use Rattle.dnsname.specs.Names.{Labels, same_name, home}
use Rattle.rrset.specs.Records.{same_question}
use Rattle.rrset.specs.declared.record.Question.{Question}
use Rattle.history.specs.AtHome.{AreAtHome}
use Rattle.history.specs.States.{State, home_names, home_of, after}
use Rattle.linkcache.specs.Rows.{names_of}
use Rattle.history.specs.declared.entry.Entry.{Entry}
use Rattle.history.specs.declared.entry.Home.{Home}
use Rattle.history.specs.declared.entry.Home.TheVariants as homes
use Rattle.history.proofs.HomesStay.{home_of-after}
use Rattle.zoneupdate.proofs.NameHomes.{home-for}
use Rattle.history.proofs.StatesAtHome.{home-after}
use Rattle.pushsession.specs.Subscribing.{is_served}
use Rattle.pushserver.specs.Giving.{is_served_at}
use Rattle.flight_laws.specs.Reacting.{HubsServeAlike, HomesStay}

-- the home, by its name
abbrev home_named : State → Option Labels → Option Home
home_named state None = None
home_named state (Some h) = elim (position (λ z. same_name z.apex h) state.zones) [
  | Some i ↦ Some (homes.Zone i)
  | None ↦ option_map (λ i. homes.Link i) (position (λ l. list_any (same_name h) (names_of l.rules)) state.links)
]

served-alike : (state : State) (p q : Question) → same_question p q ≡ true → is_served_at state p ≡ is_served_at state q
served-alike state p q same =
    let parts = and_parts (same_name p.name q.name && p.kind == q.kind) (p.class == q.class) same in
    let first = and_parts (same_name p.name q.name) (p.kind == q.kind) parts.0 in
    let at_home : home_of state p.name ≡ home_of state q.name = ap (home_named state) (home-for (home_names state) p.name q.name first.0) in
    ap (λ class. is_served class && is_some (home_of state p.name)) (eqb-true p.class q.class parts.1) ∙ ap (λ (h : Option Home). is_served q.class && is_some h) at_home

pub hubs-serve-alike : HubsServeAlike
hubs-serve-alike hub told session client c p q same = served-alike hub.start p q same

-- no entry moves a home
homes-after : (state : State) (entries : List Entry) → AreAtHome state → (name : Labels) → home_of (fold after state entries) name ≡ home_of state name
homes-after state [] home name = refl
homes-after state (entry ∷ entries) home name = homes-after (after state entry) entries (home-after state home entry) name ∙ home_of-after state home entry name

pub homes-stay : HomesStay
homes-stay hub question home = ap (λ (h : Option Home). is_served question.class && is_some h) (homes-after hub.start (take (length hub.history) hub.history) home question.name)
