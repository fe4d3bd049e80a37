-- Names that are one but for case, and services that are one to the letter.
use Rattle.std.proofs.Common.{◌≡◌, ℕ, Bool, true, false, true≢false, ◌&&◌, List, [], ◌∷◌, Option, Some, None, refl, sym, ap, ◌∙◌}
use Rattle.std.specs.Prelude.{◌==◌}
use Rattle.std.specs.Cmp.{unsigned_Decides}
use Rattle.std.specs.Cmp.Lexicographic.{pointwise}
use Rattle.std.proofs.lemmas.Bool.{and_parts, and_from, eqb-true}
use Rattle.dnsname.specs.Names.{Labels, octets, same_name}
use Rattle.dnsname.proofs.Decisions.{same_name-Decides}
use Rattle.dnsname.proofs.Octets.{octets_injective}
use Rattle.rrset.specs.Records.{same_octets}
use Rattle.rrset.proofs.SameRows.{same_octets-self}
use Rattle.rrset.proofs.Sets.{same_octets-same}
use Rattle.rrset.proofs.WithChanges.{both_ways}
use Rattle.services.specs.declared.service.Server.{Server}
use Rattle.services.specs.declared.service.Service.{Service}
use Rattle.services.specs.Services.{same_one, same_rdatas, same_server, same_service}

-- ---- names

pub swapped : (a b : Labels) → same_name a b ≡ true → same_name b a ≡ true
swapped a b e = (same_name-Decides b a).1 (sym ((same_name-Decides a b).0 e))

pub joined : (a b c : Labels) → same_name a b ≡ true → same_name b c ≡ true → same_name a c ≡ true
joined a b c e f = (same_name-Decides a c).1 ((same_name-Decides a b).0 e ∙ (same_name-Decides b c).0 f)

pub itself : (a : Labels) → same_name a a ≡ true
itself a = (same_name-Decides a a).1 refl

pub turned : (a b : Labels) → same_name a b ≡ same_name b a
turned a b = both_ways (same_name a b) (same_name b a) (swapped a b) (swapped b a)

-- what is one of two names that are one is the other
pub alike : (a b c : Labels) → same_name a b ≡ true → same_name c a ≡ same_name c b
alike a b c e = both_ways (same_name c a) (same_name c b) (λ h. joined c a b h e) (λ h. joined c b a h (swapped a b e))

-- what is one of two names and not the other parts them
pub parted : (a b c : Labels) → same_name c a ≡ true → same_name c b ≡ false → same_name a b ≡ false
parted a b c e f = by (same_name a b) refl
  where
    by : (t : Bool) → same_name a b ≡ t → t ≡ false
    by true g = sym (joined c a b e g) ∙ f
    by false g = refl

-- ---- services

rdatas-same : (a b : List (List ℕ)) → same_rdatas a b ≡ true → a ≡ b
rdatas-same [] [] e = refl
rdatas-same [] (y ∷ ys) e = absurd (true≢false (sym e))
rdatas-same (x ∷ xs) [] e = absurd (true≢false (sym e))
rdatas-same (x ∷ xs) (y ∷ ys) e =
    let parts = and_parts (same_octets x y) (same_rdatas xs ys) e in
    λ i. same_octets-same x y parts.0 i ∷ rdatas-same xs ys parts.1 i

rdatas-self : (a : List (List ℕ)) → same_rdatas a a ≡ true
rdatas-self [] = refl
rdatas-self (x ∷ xs) = and_from (same_octets x x) (same_rdatas xs xs) (same_octets-self x) (rdatas-self xs)

one-same : (a b : Server) → same_one a b ≡ true → a ≡ b
one-same a b e =
    let host = and_parts (a.priority == b.priority && a.weight == b.weight && a.port == b.port) (same_octets (octets a.host) (octets b.host)) e in
    let port = and_parts (a.priority == b.priority && a.weight == b.weight) (a.port == b.port) host.0 in
    let weight = and_parts (a.priority == b.priority) (a.weight == b.weight) port.0 in
    let priorities = eqb-true a.priority b.priority weight.0 in
    let weights = eqb-true a.weight b.weight weight.1 in
    let ports = eqb-true a.port b.port port.1 in
    let hosts = octets_injective a.host b.host (same_octets-same (octets a.host) (octets b.host) host.1) in
    λ i. record { priority = priorities i; weight = weights i; port = ports i; host = hosts i }

number-self : (n : ℕ) → (n == n) ≡ true
number-self n = (unsigned_Decides n n).1 refl

one-self : (a : Server) → same_one a a ≡ true
one-self a = λ i. number-self a.priority i && number-self a.weight i && number-self a.port i && same_octets-self (octets a.host) i

server-same : (a b : Option Server) → same_server a b ≡ true → a ≡ b
server-same None None e = refl
server-same None (Some b) e = absurd (true≢false (sym e))
server-same (Some a) None e = absurd (true≢false (sym e))
server-same (Some a) (Some b) e = ap Some (one-same a b e)

server-self : (a : Option Server) → same_server a a ≡ true
server-self None = refl
server-self (Some a) = one-self a

pub service-same : (a b : Service) → same_service a b ≡ true → a ≡ b
service-same a b e =
    let text = and_parts (same_octets (octets a.instance) (octets b.instance) && same_server a.server b.server && same_rdatas a.addresses b.addresses) (same_rdatas a.texts b.texts) e in
    let address = and_parts (same_octets (octets a.instance) (octets b.instance) && same_server a.server b.server) (same_rdatas a.addresses b.addresses) text.0 in
    let server = and_parts (same_octets (octets a.instance) (octets b.instance)) (same_server a.server b.server) address.0 in
    let instances = octets_injective a.instance b.instance (same_octets-same (octets a.instance) (octets b.instance) server.0) in
    let servers = server-same a.server b.server server.1 in
    let addresses = rdatas-same a.addresses b.addresses address.1 in
    let texts = rdatas-same a.texts b.texts text.1 in
    λ i. record { instance = instances i; server = servers i; addresses = addresses i; texts = texts i }

pub service-self : (a : Service) → same_service a a ≡ true
service-self a = λ i. same_octets-self (octets a.instance) i && server-self a.server i && rdatas-self a.addresses i && rdatas-self a.texts i
