-- Sets with keys alone for which their questions ask: what doesn't concern them, and that they stay such.
use Rattle.std.proofs.Common.{◌≡◌, Bool, true, false, cond, not, ◌&&◌, ◌||◌, ◌==◌, List, [], ◌∷◌, refl, sym, ap, ◌∙◌}
use Rattle.std.specs.Prelude.{if◌then◌else◌}
use Rattle.std.specs.Ordering.{is_eq}
use Rattle.std.specs.Str.{bytes_eq}
use Rattle.std.specs.declared.cmp.Ordering.{Ordering}
use Rattle.std.specs.declared.cmp.Ordering.TheVariants.{Less, Equal, Greater}
use Rattle.dnsname.specs.Names.{Labels, octets, lower, same_name}
use Rattle.dnsname.proofs.Decisions.{and_true, same_name-Decides}
use Rattle.rrset.specs.Kinds.{any_kind, any_class}
use Rattle.rrset.specs.Records.{key_cmp, key_of, shown_of, same_key, matches}
use Rattle.rrset.specs.RecordSet.{RecordSet, put, without}
use Rattle.rrset.specs.declared.record.Rr.{Rr}
use Rattle.rrset.specs.declared.record.Key.{Key}
use Rattle.rrset.specs.declared.record.Question.{Question}
use Rattle.rrset.proofs.KeyOrder.{key_cmp-IsAntisymmetric}
use Rattle.rrset.proofs.LowerNames.{lower-twice}
use Rattle.rrset.proofs.Places.{all_put, all_filter}
use Rattle.dsotlv.specs.Notices.{added_by, applied, applied_all, removed_by}
use Rattle.dsotlv.specs.declared.message.Notice.{Notice}
use Rattle.dsotlv.specs.declared.message.Notice.TheVariants.{Add, RemoveOne, RemoveSet, RemoveClass, RemoveAll, Odd}
use Rattle.mirror.specs.Held.{Held, AsksFor, AreAsked, applied_to, begun, ended, is_of}
use Rattle.mirror.specs.Changes.{owner_of}

-- ---- keys for which a question asks

named : (question : Question) (key : Key) → matches question key ≡ true → same_name question.name key.owner ≡ true
named question key asked =
    let both = and_true (same_name question.name key.owner && (question.kind == key.kind || question.kind == any_kind)) (question.class == key.class || question.class == any_class) asked in
    (and_true (same_name question.name key.owner) (question.kind == key.kind || question.kind == any_kind) both.0).0

tied : (r : Ordering) → is_eq r ≡ true → r ≡ Equal
tied Less e = absurd cc
tied Equal e = refl
tied Greater e = absurd cc

-- none is one for which it doesn't ask
other_key : (question : Question) (own key : Key) → matches question own ≡ false → matches question key ≡ true → same_key own key ≡ false
other_key question own key outside asked = by (same_key own key) refl
  where
    by : (b : Bool) → same_key own key ≡ b → b ≡ false
    by true is =
        let inside : matches question own ≡ true = ap (matches question) (key_cmp-IsAntisymmetric own key (tied (key_cmp own key) is)) ∙ asked in
        absurd cc
    by false is = refl

-- none has another owner
other_owner : (question : Question) (owner : Labels) (key : Key) → same_name question.name owner ≡ false → matches question key ≡ true → same_name owner key.owner ≡ false
other_owner question owner key other asked = by (same_name owner key.owner) refl
  where
    by : (b : Bool) → same_name owner key.owner ≡ b → b ≡ false
    by true is =
        let same : same_name question.name owner ≡ true =
        (same_name-Decides question.name owner).1 ((same_name-Decides question.name key.owner).0 (named question key asked) ∙ sym ((same_name-Decides owner key.owner).0 is)) in
        absurd cc
    by false is = refl

-- a record tells without its key whether a question asks for that
pub by_its_key : (question : Question) (rr : Rr)
    → matches question (key_of rr) ≡ (same_name question.name rr.owner && (question.kind == rr.kind || question.kind == any_kind) && (question.class == rr.class || question.class == any_class))
by_its_key question rr =
    ap (λ (b : Bool). b && (question.kind == rr.kind || question.kind == any_kind) && (question.class == rr.class || question.class == any_class))
    (ap (λ (l : Labels). bytes_eq (octets (lower question.name)) (octets l)) (lower-twice rr.owner))

-- a record of another owner has no such key
pub unmatched : (question : Question) (rr : Rr) → same_name question.name rr.owner ≡ false → matches question (key_of rr) ≡ false
unmatched question rr other =
    by_its_key question rr ∙ ap (λ (b : Bool). b && (question.kind == rr.kind || question.kind == any_kind) && (question.class == rr.class || question.class == any_class)) other

-- ---- what doesn't concern a set

-- a test that passes no such key takes none out
untouched : (question : Question) (test : Key → Bool) → ((key : Key) → matches question key ≡ true → test key ≡ false) → (set : RecordSet) → AsksFor question set → set ≡ without test set
untouched question test none [] asked = refl
untouched question test none (e ∷ set) asked =
    ap (λ (l : RecordSet). e ∷ l) (untouched question test none set asked.1)
    ∙ sym (ap (λ (b : Bool). cond (not b) (e ∷ without test set) (without test set)) (none e.0 asked.0))

pub none_taken : (question : Question) (rr : Rr) (set : RecordSet) → matches question (key_of rr) ≡ false → AsksFor question set → set ≡ without (same_key (key_of rr)) set
none_taken question rr set outside asked = untouched question (same_key (key_of rr)) (λ key is. other_key question (key_of rr) key outside is) set asked

none_removed : (question : Question) (notice : Notice) → same_name question.name (owner_of notice) ≡ false → (key : Key) → matches question key ≡ true → removed_by notice key ≡ false
none_removed question (Add rr) other key asked = refl
none_removed question (RemoveOne rr) other key asked = other_key question (key_of rr) key (unmatched question rr other) asked
none_removed question (RemoveSet owner class kind) other key asked = ap (λ (b : Bool). b && class == key.class && kind == key.kind) (other_owner question owner key other asked)
none_removed question (RemoveClass owner class) other key asked = ap (λ (b : Bool). b && class == key.class) (other_owner question owner key other asked)
none_removed question (RemoveAll owner) other key asked = other_owner question owner key other asked
none_removed question (Odd owner ttl) other key asked = refl

none_added : (question : Question) (notice : Notice) (set : RecordSet) → same_name question.name (owner_of notice) ≡ false → set ≡ added_by notice question set
none_added question (Add rr) set other = sym (ap (λ (b : Bool). if b then put (key_of rr) (shown_of rr) set else set) (unmatched question rr other))
none_added question (RemoveOne rr) set other = refl
none_added question (RemoveSet owner class kind) set other = refl
none_added question (RemoveClass owner class) set other = refl
none_added question (RemoveAll owner) set other = refl
none_added question (Odd owner ttl) set other = refl

-- what a notice of another owner says changes nothing
pub elsewhere : (question : Question) (notice : Notice) (set : RecordSet) → same_name question.name (owner_of notice) ≡ false → AsksFor question set → set ≡ applied question set notice
elsewhere question notice set other asked =
    untouched question (removed_by notice) (none_removed question notice other) set asked
    ∙ none_added question notice (without (removed_by notice) set) other

-- ---- sets stay such

still-put : (question : Question) (rr : Rr) (set : RecordSet) → AsksFor question set → (b : Bool) → matches question (key_of rr) ≡ b → AsksFor question (if b then put (key_of rr) (shown_of rr) set else set)
still-put question rr set asked true is = all_put key_cmp (λ key. matches question key ≡ true) (key_of rr) (shown_of rr) set is asked
still-put question rr set asked false is = asked

still-added : (question : Question) (notice : Notice) (set : RecordSet) → AsksFor question set → AsksFor question (added_by notice question set)
still-added question (Add rr) set asked = still-put question rr set asked (matches question (key_of rr)) refl
still-added question (RemoveOne rr) set asked = asked
still-added question (RemoveSet owner class kind) set asked = asked
still-added question (RemoveClass owner class) set asked = asked
still-added question (RemoveAll owner) set asked = asked
still-added question (Odd owner ttl) set asked = asked

pub still_asks : (question : Question) (notice : Notice) (set : RecordSet) → AsksFor question set → AsksFor question (applied question set notice)
still_asks question notice set asked =
    still-added question notice (without (removed_by notice) set)
    (all_filter (λ e. matches question e.0 ≡ true) (λ e. not (removed_by notice e.0)) set asked)

still-all : (question : Question) (notices : List Notice) (set : RecordSet) → AsksFor question set → AsksFor question (applied_all notices question set)
still-all question [] set asked = asked
still-all question (n ∷ notices) set asked = still-all question notices (applied question set n) (still_asks question n set asked)

pub asked_after : (notices : List Notice) (held : Held) → AreAsked held → AreAsked (applied_to notices held)
asked_after notices [] asked = tt
asked_after notices (e ∷ held) asked = (still-all e.0 notices e.1 asked.0, asked_after notices held asked.1)

pub asked_begun : (question : Question) (held : Held) → AreAsked held → AreAsked (begun question held)
asked_begun question [] asked = (tt, tt)
asked_begun question (e ∷ held) asked = by (is_of question e) (asked_begun question held asked.1)
  where
    by : (b : Bool) → AreAsked (begun question held) → AreAsked (if b then (e.0, []) ∷ held else e ∷ begun question held)
    by true rest = (tt, asked.1)
    by false rest = (asked.0, rest)

pub asked_ended : (question : Question) (held : Held) → AreAsked held → AreAsked (ended question held)
asked_ended question held asked = all_filter (λ e. AsksFor e.0 e.1) (λ e. not (is_of question e)) held asked
