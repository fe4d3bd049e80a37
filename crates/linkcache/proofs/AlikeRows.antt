-- Rows with the same keys that show the same to the letter, whenever they were heard and end: no change is told from one to the other.
use Rattle.std.proofs.Common.{◌≡◌, true, [], ◌∷◌, fold, Some, None, refl, sym, ap, ◌∙◌}
use Rattle.rrset.specs.declared.record.Key.{Key}
use Rattle.rrset.specs.declared.record.Shown.{Shown}
use Rattle.rrset.specs.Records.{rr_of}
use Rattle.rrset.specs.RecordSet.{RecordSet, changes, put_rr, same_rows}
use Rattle.rrset.proofs.SameRows.{same_rows-same, changes-self}
use Rattle.reversemap.specs.BothKinds.{shown_of as shown_by}
use Rattle.linkcache.specs.Rows.{LinkRows, keys_and_shown, put_shown, shown_rows}
use Rattle.linkcache.specs.declared.rules.LinkRules.{LinkRules}

-- a set with what a key with its value shows
abbrev puts : LinkRules → RecordSet → Key × Shown → RecordSet
puts rules set e = elim (shown_by rules.domain rules.cap (rr_of e.0 e.1)) [ None ↦ set | Some rr ↦ put_rr set rr ]

-- what is shown doesn't depend on the moments
by-shown : (rules : LinkRules) (rows : LinkRows) (set : RecordSet) → fold (put_shown rules) set rows ≡ fold (puts rules) set (keys_and_shown rows)
by-shown rules [] set = refl
by-shown rules (row ∷ rows) set = by-shown rules rows (put_shown rules set row)

shows-alike : (rules : LinkRules) (part work : LinkRows) → same_rows (keys_and_shown part) (keys_and_shown work) ≡ true → shown_rows rules part ≡ shown_rows rules work
shows-alike rules part work is =
    by-shown rules part [] ∙ ap (λ (l : RecordSet). fold (puts rules) [] l) (same_rows-same (keys_and_shown part) (keys_and_shown work) is) ∙ sym (by-shown rules work [])

pub alike-changes : (rules : LinkRules) (part work : LinkRows) → same_rows (keys_and_shown part) (keys_and_shown work) ≡ true → [] ≡ changes (shown_rows rules part) (shown_rows rules work)
alike-changes rules part work is = sym (changes-self (shown_rows rules work)) ∙ ap (λ (s : RecordSet). changes s (shown_rows rules work)) (sym (shows-alike rules part work is))
