use Rattle.std.proofs.Common.{◌≡◌, ℕ, [], length, refl, arith}
use Rattle.std.proofs.lemmas.List.Elements.{All-nil, All-cons}
use Rattle.std.specs.List.{IsDistinct}
use Rattle.std.specs.Prelude.{codes}
use Rattle.zoneupdate.specs.Zones.{ZoneState, new_zone}
use Rattle.dnsname.specs.Names.{octets}
use Rattle.dnsname.specs.Text.{name}
use Rattle.history.specs.States.{LinkState, no_cap}
use Rattle.pushtelling.proofs.worked_links.Goals as goal

pub returns-clause-start : goal.returns-clause-start
unfolding IsDistinct
returns-clause-start c = record {
  begins = record {
    zones = All-nil (λ (z : ZoneState). (serial : ℕ) × (z ≡ new_zone z.apex serial z.writable));
    links = All-cons (λ (l : LinkState). l.rows ≡ []) (record { rules = record { domain = name (codes "lan.example.net."); reverses = []; cap = no_cap }; rows = [] }) [] refl (All-nil (λ (l : LinkState). l.rows ≡ []));
    now = refl;
  };
  apart = record { apart = (tt, tt); short = ((let few : length (octets (name (codes "lan.example.net."))) ≡ 17 = refl in omega (arith, few)), tt); fit = (refl, tt) };
  names = (refl, tt);
}
