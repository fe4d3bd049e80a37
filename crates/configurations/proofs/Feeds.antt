-- Sockets of links, and what has been fed.
use Rattle.std.proofs.Common.{◌≡◌, ℕ, ◌==◌, ◌||◌, Bool, List, [], ◌∷◌, refl, ap}
use Rattle.configurations.specs.Configurations.{is_fed}
use Rattle.configurations.specs.declared.server_config.FedLink.{FedLink}
use Rattle.configurations.specs.Kept.{fed_links, is_any_fed}

pub any_fed : (feeds : List FedLink) (link : ℕ) → is_any_fed link feeds ≡ is_fed (fed_links feeds) link
any_fed [] link = refl
any_fed (f ∷ fs) link = ap (λ (b : Bool). (link == f.link) || b) (any_fed fs link)
