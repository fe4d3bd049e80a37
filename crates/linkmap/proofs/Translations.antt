-- The laws of translation on records with names of a link, of its domain and of neither, by computation.
use Rattle.std.proofs.Common.{◌≡◌, [], ◌∷◌, true, codes, refl}
use Rattle.std.specs.List.{list_all}
use Rattle.dnsname.specs.Text.{name}
use Rattle.linkmap.specs.Worked.{heard_is_shown, each_is_shown_by_itself, names, records}

pub heard : list_all (λ domain. list_all (heard_is_shown domain) (records names)) (name (codes "lan.example.com.") ∷ name (codes "x.local.") ∷ name (codes "local.") ∷ name (codes ".") ∷ []) ≡ true
heard = refl

pub shown : list_all (λ rr. list_all (each_is_shown_by_itself (name (codes "lan.example.com.")) rr) (records (name (codes "h.local.") ∷ name (codes "H.LOCAL.") ∷ []))) (records (name (codes "h.local.") ∷ name (codes "local.") ∷ [])) ≡ true
shown = refl
