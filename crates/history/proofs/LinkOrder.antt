-- The keys of a link's rows stay rising, whatever is heard.
use Rattle.std.proofs.Common.{◌≡◌, ℕ, ◌+◌, Bool, true, false, cond, ◌&&◌, List, [], ◌∷◌, map, filter, fold, nat_lt, refl}
use Rattle.rrset.specs.declared.record.HeardRr.{HeardRr}
use Rattle.rrset.specs.declared.record.Key.{Key}
use Rattle.linkcache.specs.declared.row.HeardRow.{HeardRow}
use Rattle.linkcache.specs.Rows.{LinkRows, second, ending_by, put_heard, is_of_set, flushed_by, usable_of, heard}
use Rattle.linkcache.proofs.HeardSteps.{rising-put_heard}
use Rattle.linkcache.proofs.KeyedParts.{Rising, rising-map}
use Rattle.linkcache.specs.declared.rules.LinkRules.{LinkRules}

-- rows that pass a test end sooner
pub rising-ending : (test : Key × HeardRow → Bool) (moment : ℕ) (rows : LinkRows) → Rising rows → Rising (map (λ row. cond (test row) (ending_by moment row) row) rows)
rising-ending test moment rows rising = rising-map (λ (row : Key × HeardRow). cond (test row) (ending_by moment row) row) (λ e. by e (test e)) rows rising
  where
    by : (e : Key × HeardRow) (b : Bool) → (cond b (ending_by moment e) e).0 ≡ e.0
    by e true = refl
    by e false = refl

rising-first : (rules : LinkRules) (now : ℕ) (hs : List HeardRr) (rows : LinkRows) → Rising rows → Rising (fold (put_heard rules now 0) rows hs)
rising-first rules now [] rows rising = rising
rising-first rules now (h ∷ hs) rows rising = rising-first rules now hs (put_heard rules now 0 rows h) (rising-put_heard rules now 0 rows h rising)

rising-second : (now : ℕ) (hs : List HeardRr) (rows : LinkRows) → Rising rows → Rising (fold (flushed_by now) rows hs)
rising-second now [] rows rising = rising
rising-second now (h ∷ hs) rows rising = rising-second now hs (flushed_by now rows h) (rising-ending (λ row. is_of_set h.rr row && nat_lt (row.1.heard + second) now) (now + second) rows rising)

pub rising-heard : (rules : LinkRules) (now : ℕ) (hearing : List HeardRr) (rows : LinkRows) → Rising rows → Rising (heard rules rows now hearing)
rising-heard rules now hearing rows rising = rising-second now (filter (λ h. h.flush) (usable_of rules hearing)) (fold (put_heard rules now 0) rows (usable_of rules hearing)) (rising-first rules now (usable_of rules hearing) rows rising)
