-- A script of one hub is a script that may have a second one, and has none.
--     read-one      each line says what it says of one hub
--     whole-of-one      such a script, by the reading of one hub's scripts
--     near-of-one, far-of-one, apex-of-one      to the first hub it is itself, and to the second its timers and moments; the second has no zone
use Rattle.std.proofs.Common.{◌≡◌, ℕ, ◌+◌, Bool, true, false, cond, eqb, not, ◌&&◌, Option, Some, None, Result, Ok, Err, List, [], ◌∷◌, ◌++◌, map, refl, sym, ◌∙◌, ap, append_assoc}
use Rattle.std.specs.Prelude.{option_map, filter_map, codes, if◌then◌else◌}
use Rattle.std.specs.List.{cons_option, join_with_byte, onto_first}
use Rattle.std.specs.Str.{is_utf8}
use Rattle.std.proofs.lemmas.List.{append-nil}
use Rattle.std.proofs.lemmas.List.Splits.{join_with_byte-slice_split}
use Rattle.push_base.specs.Cases.{chosen, is_empty}
use Rattle.push_base.specs.Optional.{◌>>=◌}
use Rattle.scripts.specs.Lines.{Word, HeadLine, timers, zone, link, reverse, ScriptLine, silent, head_line, joining, hub_event, link_event, client_call, client_passing, client_event, session_event, is, words_in, of_words, line_of}
use Rattle.scripts.specs.Scripts.{Known, nothing_known, fits, allowed, may_head, is_head, client_word, client_words, last_is_outside, lines_in, lines_read, lines_from, with_line, script_of}
use Rattle.scripts.specs.declared.line.HubEvent.TheVariants as hub_events
use Rattle.scripts.specs.declared.whole_line.WholeKind.{WholeKind}
use Rattle.scripts.specs.declared.whole_line.WholeKind.TheVariants as kinds
use Rattle.scripts.specs.TextLines.{is_too_long, lines_taken, taken_from}
use Rattle.scripts.specs.WholeLines.{WholeLine, one, whole_kind, whole_behind, whole_of_words, whole_line_of, is_of_both, near_of, far_of, is_far_in}
use Rattle.scripts.specs.WholeScripts.{BothKnown, Carrier, may_follow_one, both_behind, fits_both, made_by, texts_left, named_in, all_made, all_carried, WholeSoFar, none_so_far, whole_next, whole_step, whole_script_of, apex_in, near_lines, far_heads}
use Rattle.scripts.proofs.lines.LineByLine.{inside_by, fits_by}
use Rattle.scripts.proofs.lines.SameWords.{same_word}
use Rattle.scripts.proofs.wholes.Growing.{and_none}
use Rattle.scripts.proofs.wholes.Named.{kind-client, kind-carry}
use Rattle.scripts.proofs.wholes.Taken.{lines_made, script_is}

-- ---- lines

abbrev first_of : List ℕ → ℕ
first_of [] = 0
first_of (c ∷ cs) = c

abbrev first_word : List Word → Word
first_word [] = []
first_word (w ∷ ws) = w

-- a line whose first word is that of a line about a second hub is outside where there is one hub
module _ (first : Word) (letter : ℕ) (begins : (ws : List Word) → first_of (join_with_byte 32 (first ∷ ws)) ≡ letter) (some : is [] first ≡ false) (speaks : eqb letter 35 ≡ false) (unknown : (ws : List Word) → of_words (first ∷ ws) ≡ None) where
  not-one : (line : List ℕ) (w : Word) (ws : List Word) → words_in line ≡ w ∷ ws → is w first ≡ true → line_of line ≡ None
  not-one [] w ws e same =
      let none : is [] first ≡ true = ap (λ (vs : List Word). is (first_word vs) first) e ∙ same in
      let wrong : false ≡ true = sym some ∙ none in
      absurd cc
  not-one (c ∷ cs) w ws e same =
      let words : words_in (c ∷ cs) ≡ first ∷ ws = e ∙ ap (λ (v : Word). v ∷ ws) (same_word w first same) in
      let letter_is : c ≡ letter = ap first_of (sym (join_with_byte-slice_split 32 (c ∷ cs)) ∙ ap (join_with_byte 32) words) ∙ begins ws in
      ap (λ (b : Bool). cond {A = Option ScriptLine} b (cond (is_utf8 cs) (Some silent) None) (of_words (words_in (c ∷ cs)))) (ap (λ (d : ℕ). eqb d 35) letter_is ∙ speaks)
      ∙ ap of_words words
      ∙ unknown ws

begins-far : (ws : List Word) → first_of (join_with_byte 32 (codes "far" ∷ ws)) ≡ 102
begins-far [] = refl
begins-far (w ∷ ws) = refl

begins-client : (ws : List Word) → first_of (join_with_byte 32 (codes "farclient" ∷ ws)) ≡ 102
begins-client [] = refl
begins-client (w ∷ ws) = refl

begins-carry : (ws : List Word) → first_of (join_with_byte 32 (codes "carry" ∷ ws)) ≡ 99
begins-carry [] = refl
begins-carry (w ∷ ws) = refl

-- each kind by its word
is-far : (a b c : Bool) → chosen ((a, kinds.FarZone) ∷ (b, kinds.FarClient) ∷ (c, kinds.Carry) ∷ []) kinds.One ≡ kinds.FarZone → a ≡ true
is-far true b c e = refl
is-far false true c e = absurd cc
is-far false false true e = absurd cc
is-far false false false e = absurd cc

-- a line has words
some_words : (line : List ℕ) → words_in line ≡ [] → ⊥
some_words [] e = absurd cc
some_words (c ∷ cs) e = by (eqb c 32) (words_in cs) e
  where
    by : (b : Bool) (ws : List Word) → cond {A = List Word} b ([] ∷ ws) (onto_first c ws) ≡ [] → ⊥
    by true ws e = absurd cc
    by false [] e = absurd cc
    by false (w ∷ ws) e = absurd cc

pub read-one : (line : List ℕ) (l : ScriptLine) → line_of line ≡ Some l → whole_line_of line ≡ Some (one l)
read-one line l e = by_words (words_in line) refl
  where
    wrong : line_of line ≡ None → ⊥
    wrong none = (let both : Some l ≡ None = sym e ∙ none in absurd cc)

    by_kind : (w : Word) (ws : List Word) → words_in line ≡ w ∷ ws → (kind : WholeKind) → whole_kind w ≡ kind → whole_behind kind line ws ≡ Some (one l)
    by_kind w ws at kinds.One k = ap (λ (o : Option ScriptLine). option_map {T = ScriptLine} {U = WholeLine} (λ x. one x) o) e
    by_kind w ws at kinds.FarZone k = absurd (wrong (not-one (codes "far") 102 begins-far refl refl (λ vs. refl) line w ws at (is-far _ _ _ k)))
    by_kind w ws at kinds.FarClient k = absurd (wrong (not-one (codes "farclient") 102 begins-client refl refl (λ vs. refl) line w ws at (kind-client _ _ _ k)))
    by_kind w ws at kinds.Carry k = absurd (wrong (not-one (codes "carry") 99 begins-carry refl refl (λ vs. refl) line w ws at (kind-carry _ _ _ k)))

    by_words : (ws : List Word) → words_in line ≡ ws → whole_line_of line ≡ Some (one l)
    by_words [] at = absurd (some_words line at)
    by_words (w ∷ ws) at = ap (whole_of_words line) at ∙ by_kind w ws at (whole_kind w) refl

-- ---- where lines may stand

-- what is known where there is one hub: what the first knows, and what the second does by timers and moments
abbrev of_one : Known → Known → BothKnown
of_one near far = record { in_head = near.in_head; near = near; far = far; has_far = false; fars = [] }

-- the second hub's timers are said where the first's are, and events happen there where they do here
abbrev FarFollows : Known → Known → Type 0
FarFollows near far = (near.in_head ≡ true → far.in_head ≡ true) × (far.has_timers ≡ near.has_timers)

-- a further line of both
abbrev FitsOne : List Word → List Carrier → Known → Known → ScriptLine → Known → Type 0
FitsOne all carriers near far l later = (far_then : Known) × FarFollows later far_then × (fits_both all carriers (of_one near far) (one l) ≡ Some (of_one later far_then))

allowed_is : (b : Bool) (known later : Known) → allowed b known ≡ Some later → (b ≡ true) × (known ≡ later)
allowed_is true known later e = (refl, some_is e)
  where
    known_or : Option Known → Known
    known_or None = known
    known_or (Some k) = k

    some_is : Some known ≡ Some later → known ≡ later
    some_is same = ap known_or same
allowed_is false known later e = absurd cc

and-true : (b : Bool) → (b && true) ≡ b
and-true true = refl
and-true false = refl

and_first : (a b : Bool) → (a && b) ≡ true → a ≡ true
and_first true b e = refl
and_first false b e = absurd cc

and_second : (a b : Bool) → (a && b) ≡ true → b ≡ true
and_second true b e = e
and_second false b e = absurd cc

not_is : (b : Bool) → not b ≡ true → b ≡ false
not_is true e = absurd cc
not_is false e = refl

module _ (all : List Word) (carriers : List Carrier) (near far : Known) where
  abbrev fit_by : ScriptLine → Bool → Option Known → Option Known → Option BothKnown
  fit_by l may n f = cond {A = Option BothKnown} (not may) None (n >>= λ k. option_map (both_behind (of_one near far) (one l) k) f)

  -- each hub has what it is to it
  fits-so : (l : ScriptLine) (later far_then : Known) → may_follow_one (of_one near far) l ≡ true → fits all near (near_of (is_far_in []) (one l)) ≡ Some later → fits all far (far_of (is_far_in []) (one l)) ≡ Some far_then
      → (near.in_head && is_head l) ≡ later.in_head → fits_both all carriers (of_one near far) (one l) ≡ Some (of_one later far_then)
  fits-so l later far_then may n f head = (λ i. fit_by l (may i) (n i) (f i)) ∙ (λ i. Some (record { in_head = head i; near = later; far = far_then; has_far = false; fars = [] }))

  -- a line that happens, and that says nothing to the second hub
  happens-near : (l : ScriptLine) (later : Known) → may_follow_one (of_one near far) l ≡ true → fits all near (near_of (is_far_in []) (one l)) ≡ Some later → far_of (is_far_in []) (one l) ≡ silent → is_head l ≡ false
      → later.in_head ≡ false → later.has_timers ≡ near.has_timers → FarFollows near far → FitsOne all carriers near far l later
  happens-near l later may n f head no_head timed follows = (
    far,
    ((λ h. (let wrong : false ≡ true = sym no_head ∙ h in absurd cc)), follows.1 ∙ sym timed),
    fits-so l later far may n (ap (fits all far) f) (ap (λ (h : Bool). near.in_head && h) head ∙ and_none near.in_head ∙ sym no_head),
  )

  -- a line of the head that doesn't say the timers
  heads-near : (h : HeadLine) (later : Known) → fits all near (head_line h) ≡ Some later → far_of (is_far_in []) (one (head_line h)) ≡ silent → later.in_head ≡ near.in_head → later.has_timers ≡ near.has_timers → FarFollows near far → FitsOne all carriers near far (head_line h) later
  heads-near h later n f head timed follows =
      let may = and_first near.in_head (may_head near h) (allowed_is _ _ later n).0 in (
        far,
        ((λ is. follows.0 (sym head ∙ is)), follows.1 ∙ sym timed),
        fits-so (head_line h) later far may n (ap (fits all far) f) (and-true near.in_head ∙ sym head),
      )

  timers-fit : (i k : ℕ) (later : Known) → fits all near (head_line (timers i k)) ≡ Some later → FarFollows near far → FitsOne all carriers near far (head_line (timers i k)) later
  timers-fit i k later n follows =
      let is = allowed_is _ _ later n in
      let may : near.in_head ≡ true = and_first near.in_head (not near.has_timers) is.0 in
      let none : near.has_timers ≡ false = not_is near.has_timers (and_second near.in_head (not near.has_timers) is.0) in
      let far_may : (far.in_head && not far.has_timers) ≡ true = λ j. follows.0 may j && not ((follows.1 ∙ none) j) in
      let head : near.in_head ≡ later.in_head = ap (λ (k : Known). k.in_head) is.1 in (
        record far { has_timers = true },
        ((λ h. follows.0 may), ap (λ (k : Known). k.has_timers) is.1),
        fits-so (head_line (timers i k)) later (record far { has_timers = true }) may n (ap (λ (b : Bool). allowed b (record far { has_timers = true })) far_may) (and-true near.in_head ∙ head),
      )

  moment-fits : (t : ℕ) (later : Known) → fits all near (hub_event (hub_events.At t)) ≡ Some later → FarFollows near far → FitsOne all carriers near far (hub_event (hub_events.At t)) later
  moment-fits t later n follows =
      let is = (allowed_is true _ later n).1 in
      let head : false ≡ later.in_head = ap (λ (k : Known). k.in_head) is in (
        record far { in_head = false },
        ((λ h. (let wrong : false ≡ true = head ∙ h in absurd cc)), follows.1 ∙ ap (λ (k : Known). k.has_timers) is),
        fits-so (hub_event (hub_events.At t)) later (record far { in_head = false }) refl n refl (and_none near.in_head ∙ head),
      )

  -- of a line that happens
  behind-head : (b : Bool) (known later : Known) → allowed b known ≡ Some later → known.in_head ≡ false → later.in_head ≡ false
  behind-head b known later n head = sym (ap (λ (k : Known). k.in_head) (allowed_is b known later n).1) ∙ head

  behind-timers : (b : Bool) (known later : Known) → allowed b known ≡ Some later → known.has_timers ≡ near.has_timers → later.has_timers ≡ near.has_timers
  behind-timers b known later n timed = sym (ap (λ (k : Known). k.has_timers) (allowed_is b known later n).1) ∙ timed

  one-fits : (l : ScriptLine) (later : Known) → fits all near l ≡ Some later → FarFollows near far → FitsOne all carriers near far l later
  one-fits silent later n follows =
      let is = (allowed_is true near later n).1 in
      let head : near.in_head ≡ later.in_head = ap (λ (k : Known). k.in_head) is in
      (far, ((λ h. follows.0 (head ∙ h)), follows.1 ∙ ap (λ (k : Known). k.has_timers) is), fits-so silent later far refl n refl (and-true near.in_head ∙ head))
  one-fits (head_line (timers i k)) later n follows = timers-fit i k later n follows
  one-fits (head_line (zone apex serial mode)) later n follows =
      let is = (allowed_is _ _ later n).1 in
      heads-near (zone apex serial mode) later n refl (sym (ap (λ (k : Known). k.in_head) is)) (sym (ap (λ (k : Known). k.has_timers) is)) follows
  one-fits (head_line (link w domain most)) later n follows =
      let is = (allowed_is _ _ later n).1 in
      heads-near (link w domain most) later n refl (sym (ap (λ (k : Known). k.in_head) is)) (sym (ap (λ (k : Known). k.has_timers) is)) follows
  one-fits (head_line (reverse w domain)) later n follows =
      let is = (allowed_is _ _ later n).1 in
      heads-near (reverse w domain) later n refl (sym (ap (λ (k : Known). k.in_head) is)) (sym (ap (λ (k : Known). k.has_timers) is)) follows
  one-fits (joining w is_lone) later n follows = happens-near (joining w is_lone) later refl n refl refl (behind-head _ _ later n refl) (behind-timers _ _ later n refl) follows
  one-fits (hub_event (hub_events.At t)) later n follows = moment-fits t later n follows
  one-fits (hub_event (hub_events.Update message)) later n follows = happens-near (hub_event (hub_events.Update message)) later refl n refl refl (behind-head true _ later n refl) (behind-timers true _ later n refl) follows
  one-fits (hub_event hub_events.Point) later n follows = happens-near (hub_event hub_events.Point) later refl n refl refl (behind-head true _ later n refl) (behind-timers true _ later n refl) follows
  one-fits (link_event w event) later n follows = happens-near (link_event w event) later refl n refl refl (behind-head _ _ later n refl) (behind-timers _ _ later n refl) follows
  one-fits (client_call w call) later n follows = happens-near (client_call w call) later refl n refl refl (behind-head _ _ later n refl) (behind-timers _ _ later n refl) follows
  one-fits (client_passing w way) later n follows = happens-near (client_passing w way) later refl n refl refl (behind-head _ _ later n refl) (behind-timers _ _ later n refl) follows
  one-fits (client_event w event) later n follows = happens-near (client_event w event) later refl n refl refl (behind-head _ _ later n refl) (behind-timers _ _ later n refl) follows
  one-fits (session_event w event) later n follows = happens-near (session_event w event) later refl n refl refl (behind-head _ _ later n refl) (behind-timers _ _ later n refl) follows

-- ---- scripts

-- a text as it is read behind which are others, and all texts: the last is outside where there are too many octets
abbrev read_here : Bool → List ℕ → List (List ℕ) → Option ScriptLine
read_here too_long text texts = cond (too_long && is_empty texts) None (line_of text)

abbrev read_by : Bool → List (List ℕ) → List (Option ScriptLine)
read_by too_long texts = cond too_long (last_is_outside (map line_of texts)) (map line_of texts)

first-read : (too_long : Bool) (text : List ℕ) (texts : List (List ℕ)) → read_by too_long (text ∷ texts) ≡ read_here too_long text texts ∷ read_by too_long texts
first-read false text texts = refl
first-read true text [] = refl
first-read true text (t ∷ ts) = refl

none-read : (too_long : Bool) → read_by too_long [] ≡ []
none-read true = refl
none-read false = refl

-- the words of the clients
made-first : (too_long : Bool) (text : List ℕ) (texts : List (List ℕ)) → (too_long && is_empty texts) ≡ false → texts_left too_long (text ∷ texts) ≡ text ∷ texts_left too_long texts
made-first false text texts e = refl
made-first true text [] e = absurd cc
made-first true text (t ∷ ts) e = refl

abbrev lines_or : List ScriptLine → Result (List ScriptLine) ℕ → List ScriptLine
lines_or none (Ok lines) = lines
lines_or none (Err n) = none

-- what the first line of those that fit is, and the others
abbrev by_fit : List Word → ℕ → ScriptLine → List (Option ScriptLine) → Option Known → Result (List ScriptLine) ℕ
by_fit all n line lines None = Err n
by_fit all n line lines (Some known) = with_line line (lines_from all known (n + 1) lines)

abbrev IsFirst : List Word → Known → ℕ → Option ScriptLine → List (Option ScriptLine) → List ScriptLine → Type 0
IsFirst all known n read reads lines = (line : ScriptLine) × (later : Known) × (more : List ScriptLine) × (read ≡ Some line) × (fits all known line ≡ Some later) × (lines_from all later (n + 1) reads ≡ Ok more) × (lines ≡ line ∷ more)

is-first : (all : List Word) (known : Known) (n : ℕ) (read : Option ScriptLine) (reads : List (Option ScriptLine)) (lines : List ScriptLine) → lines_from all known n (read ∷ reads) ≡ Ok lines → IsFirst all known n read reads lines
is-first all known n None reads lines e = absurd cc
is-first all known n (Some line) reads lines e = by (fits all known line) refl e
  where
    behind : (later : Known) → fits all known line ≡ Some later → (r : Result (List ScriptLine) ℕ) → lines_from all later (n + 1) reads ≡ r → with_line line r ≡ Ok lines → IsFirst all known n (Some line) reads lines
    behind later fit (Err k) is e = absurd cc
    behind later fit (Ok more) is e = (line, later, more, refl, fit, is, ap (lines_or lines) (sym e))

    by : (o : Option Known) → fits all known line ≡ o → by_fit all n line reads o ≡ Ok lines → IsFirst all known n (Some line) reads lines
    by None fit e = absurd cc
    by (Some later) fit e = behind later fit (lines_from all later (n + 1) reads) refl e

-- it isn't one that is outside for there being too many octets
inside : (last : Bool) (o : Option ScriptLine) (line : ScriptLine) → cond {A = Option ScriptLine} last None o ≡ Some line → (last ≡ false) × (o ≡ Some line)
inside true o line e = absurd cc
inside false o line e = (refl, e)

-- the words of all clients are those of one hub's
made-of-one : (too_long : Bool) (all : List Word) (known : Known) (n : ℕ) (texts : List (List ℕ)) (lines : List ScriptLine) → lines_from all known n (read_by too_long texts) ≡ Ok lines → named_in made_by too_long texts ≡ client_words (read_by too_long texts)
made-of-one true all known n [] lines e = refl
made-of-one false all known n [] lines e = refl
made-of-one too_long all known n (text ∷ texts) lines e =
    let f = is-first all known n (read_here too_long text texts) (read_by too_long texts) lines (ap (lines_from all known n) (sym (first-read too_long text texts)) ∙ e) in
    let last = inside (too_long && is_empty texts) (line_of text) f.0 f.3 in
    let more = made-of-one too_long all f.1 (n + 1) texts f.2 f.5 in
    ap (filter_map (λ (t : List ℕ). whole_line_of t >>= made_by)) (made-first too_long text texts last.0)
    ∙ (λ i. cons_option (read-one text f.0 last.1 i >>= made_by) (more i))
    ∙ ap (λ (o : Option ScriptLine). cons_option (o >>= client_word) (client_words (read_by too_long texts))) (sym f.3)
    ∙ ap client_words (sym (first-read too_long text texts))

abbrev so : List Word → List Carrier → Known → Known → List WholeLine → WholeSoFar
so all carriers near far front = record { all = all; carriers = carriers; known = of_one near far; lines = front }

abbrev next : WholeSoFar → WholeLine → BothKnown → WholeSoFar
next so_far line known = record so_far { known = known; lines = so_far.lines ++ line ∷ [] }

abbrev ones : List ScriptLine → List WholeLine
ones lines = map (λ l. one l) lines

walk : (all : List Word) (carriers : List Carrier) (too_long : Bool) (n : ℕ) (near far : Known) (front : List WholeLine) (texts : List (List ℕ)) (lines : List ScriptLine) → FarFollows near far → lines_from all near n (read_by too_long texts) ≡ Ok lines
    → lines_made (taken_from whole_step too_long n (so all carriers near far front) texts) ≡ Ok (front ++ ones lines)
walk all carriers too_long n near far front [] lines follows e =
    let none : [] ≡ lines = ap (lines_or lines) (ap (lines_from all near n) (sym (none-read too_long)) ∙ e) in
    ap (λ (ls : List WholeLine). Ok ls) (sym (append-nil front) ∙ ap (λ (ls : List ScriptLine). front ++ ones ls) none)
walk all carriers too_long n near far front (text ∷ texts) lines follows e =
    let f = is-first all near n (read_here too_long text texts) (read_by too_long texts) lines (ap (lines_from all near n) (sym (first-read too_long text texts)) ∙ e) in
    let line = f.0 in
    let last = inside (too_long && is_empty texts) (line_of text) line f.3 in
    let fit = one-fits all carriers near far line f.1 f.4 follows in
    let here = so all carriers near far front in
    let then_so = so all carriers f.1 fit.0 (front ++ one line ∷ []) in
    let step : whole_step here text ≡ Some then_so =
    ap (λ (o : Option WholeLine). o >>= whole_next here) (read-one text line last.1) ∙ ap (λ (o : Option BothKnown). option_map (next here (one line)) o) fit.2 in
    let behind = walk all carriers too_long (n + 1) f.1 fit.0 (front ++ one line ∷ []) texts f.2 fit.1 f.5 in
    ap (λ (b : Bool). lines_made (inside_by whole_step too_long n here text texts b)) last.0
    ∙ ap (λ (o : Option WholeSoFar). lines_made (fits_by whole_step too_long n texts o)) step
    ∙ behind
    ∙ ap (λ (ls : List WholeLine). Ok ls) (append_assoc front (one line ∷ []) (ones f.2) ∙ ap (λ (ls : List ScriptLine). front ++ ones ls) (sym f.6))

-- a script of one hub, whatever its octets
pub whole-of-one : (octets : List ℕ) (lines : List ScriptLine) → script_of octets ≡ Ok lines → whole_script_of octets ≡ Ok (map {A = ScriptLine} {B = WholeLine} (λ l. one l) lines)
whole-of-one octets lines e =
    let too_long = is_too_long octets in
    let texts = lines_in octets in
    let all : all_made octets ≡ client_words (lines_read octets) = made-of-one too_long (client_words (lines_read octets)) nothing_known 1 texts lines e in
    script_is octets
    ∙ ap (λ (ws : List Word). lines_made (lines_taken whole_step (none_so_far ws (all_carried octets)) octets)) all
    ∙ walk (client_words (lines_read octets)) (all_carried octets) too_long 1 nothing_known nothing_known [] texts lines ((λ h. refl), refl) e

-- ---- what it is to either hub

near-here : (l : ScriptLine) → near_of (is_far_in []) (one l) ≡ l
near-here silent = refl
near-here (head_line line) = refl
near-here (joining w is_lone) = refl
near-here (hub_event event) = refl
near-here (link_event w event) = refl
near-here (client_call w call) = refl
near-here (client_passing w way) = refl
near-here (client_event w event) = refl
near-here (session_event w event) = refl

pub near-of-one : (lines : List ScriptLine) → near_lines (map {A = ScriptLine} {B = WholeLine} (λ l. one l) lines) ≡ lines
near-of-one [] = refl
near-of-one (l ∷ ls) = λ i. near-here l i ∷ near-of-one ls i

-- the timers and the moments, with all else silent
abbrev pub for_both : ScriptLine → ScriptLine
for_both line = if is_of_both line then line else silent

far-here : (l : ScriptLine) → far_of (is_far_in []) (one l) ≡ for_both l
far-here silent = refl
far-here (head_line line) = refl
far-here (joining w is_lone) = refl
far-here (hub_event event) = refl
far-here (link_event w event) = refl
far-here (client_call w call) = refl
far-here (client_passing w way) = refl
far-here (client_event w event) = refl
far-here (session_event w event) = refl

pub far-of-one : (lines : List ScriptLine) → far_heads (map {A = ScriptLine} {B = WholeLine} (λ l. one l) lines) ≡ map for_both lines
far-of-one [] = refl
far-of-one (l ∷ ls) = λ i. far-here l i ∷ far-of-one ls i

pub apex-of-one : (lines : List ScriptLine) → apex_in (map {A = ScriptLine} {B = WholeLine} (λ l. one l) lines) ≡ None
apex-of-one [] = refl
apex-of-one (l ∷ ls) = apex-of-one ls
