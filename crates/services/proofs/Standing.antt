-- What a list asks for determines it.
use Rattle.std.proofs.Common.{◌≡◌, List, [], ◌∷◌, ◌++◌, map, flat_map, Option, Some, None, option_to_list, refl, ◌∙◌, ap}
use Rattle.std.specs.List.{AllByRecursion}
use Rattle.dnsname.specs.Names.{Labels}
use Rattle.rrset.specs.Kinds.{a_kind, aaaa_kind, txt_kind}
use Rattle.rrset.specs.declared.record.Question.{Question}
use Rattle.pushclient.specs.Clients.{Held}
use Rattle.services.specs.declared.service.Server.{Server}
use Rattle.services.specs.declared.service.Service.{Service}
use Rattle.services.specs.Services.{Known, whole, rows_held, instances_in, instances, server_in, rdata_of, addresses_of, service, services, asks_of, needs}
use Rattle.services.specs.Laws.{AgreeOn, NeedsStand}

agree_both : (first second : Known) (front last : List Question) → AgreeOn (front ++ last) first second → AgreeOn front first second × AgreeOn last first second
agree_both first second [] last all = (tt, all)
agree_both first second (q ∷ front) last all = let rest = agree_both first second front last all.1 in ((all.0, rest.0), rest.1)

same_addresses : (first second : Known) (server : Option Server) → AgreeOn (map (λ s. whole s.host) (option_to_list server)) first second → addresses_of first server ≡ addresses_of second server
same_addresses first second None agree = refl
same_addresses first second (Some server) agree = ap (λ (h : Held). rdata_of a_kind (rows_held h) ++ rdata_of aaaa_kind (rows_held h)) agree.0

same_known : (first second : Known) (instance : Labels) → AgreeOn (asks_of (service first instance)) first second → service first instance ≡ service second instance
same_known first second instance agree =
    let rows = ap rows_held agree.0 in
    let server = ap server_in rows in
    let addresses = same_addresses first second (server_in (rows_held (first (whole instance)))) agree.1 ∙ ap (addresses_of second) server in
    let texts = ap (rdata_of txt_kind) rows in
    λ i. record { instance = instance; server = server i; addresses = addresses i; texts = texts i }

same_list : (first second : Known) (names : List Labels) → AgreeOn (flat_map asks_of (map (service first) names)) first second → map (service first) names ≡ map (service second) names
same_list first second [] agree = refl
same_list first second (name ∷ names) agree =
    let both = agree_both first second (asks_of (service first name)) (flat_map asks_of (map (service first) names)) agree in
    ap (λ (s : Service). s ∷ map (service first) names) (same_known first second name both.0)
    ∙ ap (λ (l : List Service). service second name ∷ l) (same_list first second names both.1)

pub needs_stand : NeedsStand
needs_stand root first second agree =
    let names = ap (λ (h : Held). instances_in (rows_held h)) agree.0 in
    let same = same_list first second (instances root first) agree.1 ∙ ap (map (service second)) names in
    (same, ap (needs root) same)
