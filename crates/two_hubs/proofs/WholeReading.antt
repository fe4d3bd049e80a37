-- The lines of a text that is a script of two hubs.
--     whole-within      what is read of a line is within bounds
--     are-whole-lines      each may stand where it stands, is within bounds, and they are few
use Rattle.std.proofs.Common.{◌≡◌, ℕ, suc, ◌+◌, ◌≤◌, Bool, true, false, ◌&&◌, ◌||◌, List, [], ◌∷◌, ◌++◌, length, Option, Some, None, Result, Ok, Err, refl, sym, ◌∙◌, ap, subst, append_assoc, arith}
use Rattle.std.specs.Prelude.{filter_map, option_map}
use Rattle.std.specs.List.{AllByRecursion, cons_option, list_any}
use Rattle.std.specs.Str.{bytes_eq}
use Rattle.std.proofs.lemmas.Bool.{ltb-false}
use Rattle.std.proofs.lemmas.List.{append-nil}
use Rattle.push_base.specs.Optional.{◌>>=◌}
use Rattle.dnsname.specs.Names.{same_name}
use Rattle.dsotlv.proofs.Results.{same_found}
use Rattle.pushserver.proofs.hub_steps.Pairs.{all-weaken}
use Rattle.pushserver.proofs.session_steps.Lists.{each-both}
use Rattle.zoneupdate.proofs.Owners.{same_name-itself}
use Rattle.scripts.specs.Lines.{Word, silent, head_line, joining, hub_event, link_event, client_call, client_passing, client_event, session_event, max_u32}
use Rattle.scripts.specs.Scripts.{lines_in, max_script}
use Rattle.scripts.specs.TextLines.{is_too_long, taken_from}
use Rattle.scripts.specs.WholeLines.{WholeLine, one, far_zone, far_client, carry, whole_line_of}
use Rattle.scripts.specs.WholeScripts.{Carrier, BothKnown, fits_both, made_by, carried_by, named_in, WholeSoFar, none_so_far, whole_next, whole_step, whole_script_of}
use Rattle.scripts.proofs.lines.SameWords.{word_itself}
use Rattle.scripts.proofs.wholes.WholeReaders.{whole-reads}
use Rattle.script_laws.specs.Lines.{IsWord}
use Rattle.script_laws.proofs.lines.ReadLines.{number_at_most, name_is_name, word_gives, below_max, line_within}
use Rattle.script_laws.proofs.sizes.Scripts.{few-lines}
use Rattle.two_hubs.specs.HalfLaws.{FollowBoth, IsWithinWhole, IsReadWhole, IsCarriedAmong, AreWholeLines}

-- ---- a line by itself

pub whole-within : (text : List ℕ) (line : WholeLine) → whole_line_of text ≡ Some line → IsWithinWhole line
whole-within = whole-reads IsWithinWhole (record {
  on_zone = λ n apex is s serial at. (name_is_name n apex is, below_max serial (number_at_most max_u32 s serial at));
  on_client = λ w c is. word_gives w c is;
  on_carry = λ w c is n name at. name_is_name n name at;
  on_one = λ text l is. line_within text l is;
})

-- ---- what lines name

-- P of what a text says, if it says something
abbrev OfText : (WholeLine → Type 0) → List ℕ → Type 0
OfText P text = (line : WholeLine) → whole_line_of text ≡ Some line → P line

or_true : (a b : Bool) → b ≡ true → (a || b) ≡ true
or_true true b h = refl
or_true false b h = h

module _ {X : Type 0} (names : WholeLine → Option X) (test : X → X → Bool) (itself : (x : X) → test x x ≡ true) where
  abbrev in_texts : List (List ℕ) → List X
  in_texts texts = filter_map (λ t. whole_line_of t >>= names) texts

  -- what is among some is among all
  abbrev Within : List X → List X → Type 0
  Within some all = (x : X) → list_any (test x) some ≡ true → list_any (test x) all ≡ true

  -- what a line names is among these
  abbrev NamesOne : List X → WholeLine → Type 0
  NamesOne all line = (x : X) → names line ≡ Some x → list_any (test x) all ≡ true

  all-named : (texts : List (List ℕ)) (all : List X) → Within (in_texts texts) all → AllByRecursion (OfText (NamesOne all)) texts
  all-named [] all h = tt
  all-named (t ∷ ts) all h = by (whole_line_of t >>= names) refl (λ k. all-named ts all k) h
    where
      named : (line : WholeLine) (x : X) → whole_line_of t ≡ Some line → names line ≡ Some x → (whole_line_of t >>= names) ≡ Some x
      named line x e f = ap (λ (o : Option WholeLine). o >>= names) e ∙ f

      by : (o : Option X) → (whole_line_of t >>= names) ≡ o → (Within (in_texts ts) all → AllByRecursion (OfText (NamesOne all)) ts)
          → Within (cons_option o (in_texts ts)) all → OfText (NamesOne all) t × AllByRecursion (OfText (NamesOne all)) ts
      by None is rest h = ((λ line e x f. (let wrong : None ≡ Some x = sym is ∙ named line x e f in absurd cc)), rest h)
      by (Some y) is rest h = (
        (λ line e x f.
            let same : y ≡ x = same_found y x (sym is ∙ named line x e f) in
            h x (subst (λ (z : X). list_any (test x) (z ∷ in_texts ts) ≡ true) (sym same) (ap (λ (b : Bool). b || list_any (test x) (in_texts ts)) (itself x)))),
        rest (λ x k. h x (or_true (test x y) (list_any (test x) (in_texts ts)) k)),
      )

  -- P of all that is named
  all-such : (P : X → Type 0) → ((line : WholeLine) (x : X) → IsWithinWhole line → names line ≡ Some x → P x) → (texts : List (List ℕ)) → AllByRecursion P (in_texts texts)
  all-such P such [] = tt
  all-such P such (t ∷ ts) = by_line (whole_line_of t) refl (all-such P such ts)
    where
      by_name : (line : WholeLine) → IsWithinWhole line → (o : Option X) → names line ≡ o → AllByRecursion P (in_texts ts) → AllByRecursion P (cons_option o (in_texts ts))
      by_name line within None is rest = rest
      by_name line within (Some x) is rest = (such line x within is, rest)

      by_line : (o : Option WholeLine) → whole_line_of t ≡ o → AllByRecursion P (in_texts ts) → AllByRecursion P (cons_option (o >>= names) (in_texts ts))
      by_line None is rest = rest
      by_line (Some line) is rest = by_name line (whole-within t line is) (names line) refl rest

-- ---- words and carriers

abbrev is_carrier : Carrier → Carrier → Bool
is_carrier x c = bytes_eq c.0 x.0 && same_name c.1 x.1

carrier-itself : (x : Carrier) → is_carrier x x ≡ true
carrier-itself x = λ i. word_itself x.0 i && same_name-itself x.1 i

made-word : (line : WholeLine) (w : Word) → IsWithinWhole line → made_by line ≡ Some w → IsWord w
made-word (one (joining v is_lone)) w within e = subst IsWord (same_found v w e) within
made-word (one silent) w within e = absurd cc
made-word (one (head_line line)) w within e = absurd cc
made-word (one (hub_event event)) w within e = absurd cc
made-word (one (link_event v event)) w within e = absurd cc
made-word (one (client_call v call)) w within e = absurd cc
made-word (one (client_passing v way)) w within e = absurd cc
made-word (one (client_event v event)) w within e = absurd cc
made-word (one (session_event v event)) w within e = absurd cc
made-word (far_zone apex serial) w within e = absurd cc
made-word (far_client v) w within e = subst IsWord (same_found v w e) within
made-word (carry v name written) w within e = absurd cc

carried-among : (carriers : List Carrier) (line : WholeLine) → ((x : Carrier) → carried_by line ≡ Some x → list_any (is_carrier x) carriers ≡ true) → IsCarriedAmong carriers line
carried-among carriers (one l) h = tt
carried-among carriers (far_zone apex serial) h = tt
carried-among carriers (far_client w) h = tt
carried-among carriers (carry w name written) h = h (w, name) refl

-- ---- the lines that are taken

-- what is known of a line that was read
abbrev IsKnown : List Word → List Carrier → WholeLine → Type 0
IsKnown all carriers line = IsReadWhole all line × IsCarriedAmong carriers line

abbrev Lines_taken : Type 0
Lines_taken = Result (WholeSoFar × ℕ) ℕ

-- behind what a line makes
abbrev stepped : ℕ → List (List ℕ) → Option WholeSoFar → Lines_taken
stepped n texts o = elim o as (λ _. Lines_taken) [ None ↦ Err n | Some later ↦ taken_from whole_step false (n + 1) later texts ]

record Walked (P : WholeLine → Type 0) (so_far last : WholeSoFar) (texts : List (List ℕ)) : Type 0 where
  more : List WholeLine
  lines : last.lines ≡ so_far.lines ++ more
  follow : FollowBoth so_far.all so_far.carriers so_far.known more
  each : AllByRecursion P more
  count : length more ≡ length texts

abbrev so_far_of : WholeSoFar → Lines_taken → WholeSoFar
so_far_of other (Ok all) = all.0
so_far_of other (Err n) = other

walk : (P : WholeLine → Type 0) (n : ℕ) (so_far last : WholeSoFar) (behind : ℕ) (texts : List (List ℕ)) → AllByRecursion (OfText P) texts → taken_from whole_step false n so_far texts ≡ Ok (last, behind) → Walked P so_far last texts
walk P n so_far last behind [] each e =
    let same : so_far ≡ last = ap (so_far_of so_far) e in
    record { more = []; lines = ap (λ (s : WholeSoFar). s.lines) (sym same) ∙ sym (append-nil so_far.lines); follow = tt; each = tt; count = refl }
walk P n so_far last behind (t ∷ ts) each e = by_line (λ later k. walk P (n + 1) later last behind ts each.1 k) (whole_line_of t) refl e
  where
    Rest : Type 0
    Rest = (later : WholeSoFar) → taken_from whole_step false (n + 1) later ts ≡ Ok (last, behind) → Walked P later last ts

    by_fit : Rest → (line : WholeLine) → whole_line_of t ≡ Some line → (o : Option BothKnown) → fits_both so_far.all so_far.carriers so_far.known line ≡ o
        → stepped n ts (option_map (λ known. record so_far { known = known; lines = so_far.lines ++ line ∷ [] }) o) ≡ Ok (last, behind) → Walked P so_far last (t ∷ ts)
    by_fit rest line is None fit e = absurd cc
    by_fit rest line is (Some known) fit e =
        let later : WholeSoFar = record so_far { known = known; lines = so_far.lines ++ line ∷ [] } in
        let r : Walked P later last ts = rest later e in
        record { more = line ∷ r.more; lines = r.lines ∙ append_assoc so_far.lines (line ∷ []) r.more; follow = (known, fit, r.follow); each = (each.0 line is, r.each); count = ap suc r.count }

    by_line : Rest → (o : Option WholeLine) → whole_line_of t ≡ o → stepped n ts (o >>= whole_next so_far) ≡ Ok (last, behind) → Walked P so_far last (t ∷ ts)
    by_line rest None is e = absurd cc
    by_line rest (Some line) is e = by_fit rest line is (fits_both so_far.all so_far.carriers so_far.known line) refl e

-- ---- the script

abbrev lines_made : Lines_taken → Result (List WholeLine) ℕ
lines_made r = elim r as (λ _. Result (List WholeLine) ℕ) [ Err n ↦ Err n | Ok all ↦ Ok all.0.lines ]

abbrev lines_or : List WholeLine → Result (List WholeLine) ℕ → List WholeLine
lines_or other (Ok lines) = lines
lines_or other (Err n) = other

-- of a text that is too long the last line is outside, so there is none
none-long : (n : ℕ) (so_far : WholeSoFar) (texts : List (List ℕ)) (script : List WholeLine) → lines_made (taken_from whole_step true n so_far texts) ≡ Ok script → texts ≡ []
none-long n so_far [] script e = refl
none-long n so_far (t ∷ []) script e = absurd cc
none-long n so_far (t ∷ u ∷ us) script e = by (λ later k. none-long (n + 1) later (u ∷ us) script k) (whole_step so_far t) e
  where
    by : ((later : WholeSoFar) → lines_made (taken_from whole_step true (n + 1) later (u ∷ us)) ≡ Ok script → u ∷ us ≡ []) → (o : Option WholeSoFar)
        → lines_made (elim o as (λ _. Lines_taken) [ None ↦ Err n | Some later ↦ taken_from whole_step true (n + 1) later (u ∷ us) ]) ≡ Ok script → t ∷ u ∷ us ≡ []
    by rest None e = absurd cc
    by rest (Some later) e = let wrong : u ∷ us ≡ [] = rest later e in absurd cc

no-lines : (script : List WholeLine) → [] ≡ script → AreWholeLines script
no-lines script is = subst AreWholeLines is (record { all = []; carriers = []; words = tt; follow = tt; read = tt; carried = tt; few = omega arith })

-- a text that isn't too long
module _ (texts : List (List ℕ)) (few : length texts ≤ max_script) where
  abbrev all : List Word
  all = named_in made_by false texts

  abbrev carriers : List Carrier
  carriers = named_in carried_by false texts

  known : AllByRecursion (OfText (IsKnown all carriers)) texts
  known =
      let words : AllByRecursion (OfText (NamesOne made_by bytes_eq word_itself all)) texts = all-named made_by bytes_eq word_itself texts all (λ w h. h) in
      let carry : AllByRecursion (OfText (NamesOne carried_by is_carrier carrier-itself carriers)) texts = all-named carried_by is_carrier carrier-itself texts carriers (λ c h. h) in
      each-both (OfText (NamesOne made_by bytes_eq word_itself all)) (OfText (NamesOne carried_by is_carrier carrier-itself carriers)) (OfText (IsKnown all carriers))
      (λ t a b line e. (record { within = whole-within t line e; named = a line e }, carried-among carriers line (b line e))) texts words carry

  short-lines : (n : ℕ) (script : List WholeLine) → lines_made (taken_from whole_step false n (none_so_far all carriers) texts) ≡ Ok script → AreWholeLines script
  short-lines n script e = by (taken_from whole_step false n (none_so_far all carriers) texts) refl e
    where
      by : (r : Lines_taken) → taken_from whole_step false n (none_so_far all carriers) texts ≡ r → lines_made r ≡ Ok script → AreWholeLines script
      by (Err m) is e = absurd cc
      by (Ok last) is e =
          let w : Walked (IsKnown all carriers) (none_so_far all carriers) last.0 texts = walk (IsKnown all carriers) n (none_so_far all carriers) last.0 last.1 texts known is in
          let same : w.more ≡ script = sym w.lines ∙ ap (lines_or []) e in
          subst AreWholeLines same (record {
            all = all;
            carriers = carriers;
            words = all-such made_by bytes_eq word_itself IsWord made-word texts;
            follow = w.follow;
            read = all-weaken (IsKnown all carriers) (IsReadWhole all) (λ line k. k.0) w.more w.each;
            carried = all-weaken (IsKnown all carriers) (IsCarriedAmong carriers) (λ line k. k.1) w.more w.each;
            few = subst (λ (m : ℕ). m ≤ max_script) (sym w.count) few;
          })

read-lines : (long : Bool) (texts : List (List ℕ)) (script : List WholeLine) → (long ≡ false → length texts ≤ max_script)
    → lines_made (taken_from whole_step long 1 (none_so_far (named_in made_by long texts) (named_in carried_by long texts)) texts) ≡ Ok script → AreWholeLines script
read-lines false texts script few e = short-lines texts (few refl) 1 script e
read-lines true [] script few e = no-lines script (ap (lines_or []) e)
read-lines true (t ∷ ts) script few e =
    let wrong : t ∷ ts ≡ [] = none-long 1 (none_so_far (named_in made_by true (t ∷ ts)) (named_in carried_by true (t ∷ ts))) (t ∷ ts) script e in
    absurd cc

within-both : (a b c : ℕ) → a ≤ b → b ≤ c → a ≤ c
within-both a b c first second = omega (arith, first, second)

pub are-whole-lines : (octets : List ℕ) (script : List WholeLine) → whole_script_of octets ≡ Ok script → AreWholeLines script
are-whole-lines octets script read =
    read-lines (is_too_long octets) (lines_in octets) script
    (λ short. within-both (length (lines_in octets)) (length octets) max_script (few-lines octets) (ltb-false max_script (length octets) short)) read
