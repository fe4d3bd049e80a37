use Rattle.std.proofs.Common.{◌≡◌, List, ℕ, string_bytes, IfOk, subst}
use Rattle.dnsname.specs.Text.{name_text}
use Rattle.dnsname.proofs.Spellings.{spells, view_of}
use Rattle.dnsname.proofs.name.Name.text.Goals as goal

pub octets_text-requires : goal.octets_text-requires
octets_text-requires c = spells _ _ c.octets.ensures.name c.octets.ensures.octets

pub returns : goal.returns
returns c =
    subst (λ (name : List (List ℕ)). IfOk c.octets_text.result (λ text. string_bytes text ≡ name_text name))
    (view_of _ _ c.octets.ensures.name.labels c.octets.ensures.octets) c.octets_text.ensures
