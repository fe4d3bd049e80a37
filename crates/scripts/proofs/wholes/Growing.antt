-- A further line of a script that may have a second hub, by what each of the two drafts takes.
--     among_clients      whether a word is that of a client
--     refused      a line that may not stand there by itself
--     halves      a line that may, by what each draft takes of it
--     takes_halves, takes_fit, takes_as, fits_whole      the same, unless memory ran out
--     is_far_line, is_shared_line, is_near_line      what a line of a script of one hub is to each hub
use Rattle.std.proofs.Common.{◌≡◌, ◌+◌, Bool, true, false, cond, not, ◌&&◌, ◌||◌, ◌==◌, Option, Some, None, Result, Ok, Err, IfOk, List, [], ◌∷◌, ◌++◌, find, length, refl, sym, ◌∙◌, ap, subst, arith, length-append}
use Rattle.std.specs.Prelude.{is_some, option_map, option_to_list}
use Rattle.std.specs.Str.{bytes_eq}
use Rattle.std.proofs.lemmas.Bool.Decides.{nat_tests}
use Rattle.std.proofs.lemmas.List.{append-nil, map-append}
use Rattle.push_base.specs.Optional.{◌>>=◌}
use Rattle.dnsname.specs.Names.{Labels}
use Rattle.scripts.specs.Lines.{Word, ScriptLine, silent, head_line, joining, hub_event, link_event, client_call, client_passing, client_event, session_event}
use Rattle.scripts.specs.Scripts.{Known, fits, is_among, is_client_in, client_word, is_head}
use Rattle.scripts.specs.declared.line.HeadLine.TheVariants as heads
use Rattle.scripts.specs.declared.line.Line.{Line}
use Rattle.scripts.specs.declared.line.Line.TheVariants as lines
use Rattle.scripts.specs.declared.whole_script.Turn.{Turn}
use Rattle.scripts.specs.declared.whole_script.Turn.TheVariants as turns
use Rattle.scripts.specs.declared.whole_script.WholeDraft.{WholeDraft}
use Rattle.scripts.specs.KeptLines.{said}
use Rattle.scripts.specs.Events.{words_known}
use Rattle.scripts.specs.Drafts.{Taken, taken_of, known_of, GrowsBy, HaveMade}
use Rattle.scripts.specs.TextLines.{TakesHeld}
use Rattle.scripts.specs.Carrying.{alone_in}
use Rattle.scripts.specs.WholeLines.{WholeLine, one, far_zone, far_client, carry, names_far, is_of_both, near_of, far_of, fars_behind, is_far_in}
use Rattle.scripts.specs.WholeScripts.{Carrier, BothKnown, may_follow_both, carries_alone, has_far_behind, is_whole_head, both_behind, apex_in, near_lines, far_heads, WholeSoFar, whole_next}
use Rattle.scripts.specs.KeptWhole.{turns_here, turns_from, known_kept, may_follow_kept, HoldsWhole, TakesWhole, TakesFit, TakesHalves}
use Rattle.scripts.proofs.lines.MoreLines.{Adds, adds, none-joins}
use Rattle.scripts.proofs.wholes.Lines.{near-more, far-more, fars-more, turns-more, apex-kept, apex-new}

-- ---- clients

-- whether a word is that of a client
pub among_clients : (clients : List (Word × Bool)) (w : Word) → is_client_in clients w ≡ is_among (words_known clients) w
among_clients [] w = refl
among_clients (e ∷ es) w = by (bytes_eq w e.0) (among_clients es w)
  where
    by : (b : Bool) → is_client_in es w ≡ is_among (words_known es) w → is_some (option_map (λ (x : Word × Bool). x.1) (cond b (Some e) (find (λ (x : Word × Bool). bytes_eq w x.0) es))) ≡ (b || is_among (words_known es) w)
    by true rest = refl
    by false rest = rest

-- the words of the clients behind a line
clients-then : (taken later : Taken) (line : Line) → GrowsBy taken line later → words_known later.clients ≡ words_known taken.clients ++ option_to_list (client_word (said line))
clients-then taken later lines.Silent grows = ap (λ (t : Taken). words_known t.clients) grows ∙ sym (append-nil (words_known taken.clients))
clients-then taken later (lines.Head (heads.Timers t)) grows = ap (λ (t : Taken). words_known t.clients) grows ∙ sym (append-nil (words_known taken.clients))
clients-then taken later (lines.Head (heads.Zone z)) grows = ap (λ (t : Taken). words_known t.clients) grows.1 ∙ sym (append-nil (words_known taken.clients))
clients-then taken later (lines.Head (heads.Link l)) grows = ap (λ (t : Taken). words_known t.clients) grows.1 ∙ sym (append-nil (words_known taken.clients))
clients-then taken later (lines.Head (heads.Reverse r)) grows = ap (λ (t : Taken). words_known t.clients) grows.1 ∙ sym (append-nil (words_known taken.clients))
clients-then taken later (lines.Joining word is_lone) grows = ap (λ (t : Taken). words_known t.clients) grows ∙ map-append (λ (e : Word × Bool). e.0) taken.clients _
clients-then taken later (lines.Event e) grows =
    ap (λ (t : Taken). words_known t.clients) grows.2 ∙ sym (append-nil (words_known taken.clients)) ∙ ap (λ (o : Option Word). words_known taken.clients ++ option_to_list o) (sym (none-joins e))

-- ---- what is known behind a line

pub and_none : (b : Bool) → (b && false) ≡ false
and_none true = refl
and_none false = refl

none-more : (ts : List Turn) → ((length ts == 0) && true) ≡ (length (ts ++ []) == 0)
none-more [] = refl
none-more (t ∷ ts) = let some : false ≡ (length (t ∷ ts) == 0) = grind (arith, nat_tests) in ap (λ (b : Bool). b && true) (sym some) ∙ some ∙ ap (λ (us : List Turn). length us == 0) (sym (append-nil (t ∷ ts)))

one-more : (ts : List Turn) (turn : Turn) → ((length ts == 0) && false) ≡ (length (ts ++ turn ∷ []) == 0)
one-more ts turn =
    let size : length (ts ++ turn ∷ []) ≡ length ts + 1 = length-append ts (turn ∷ []) in
    let some : false ≡ (length (ts ++ turn ∷ []) == 0) = grind (arith, nat_tests) in
    and_none (length ts == 0) ∙ some

quiet : (b : Bool) (l : ScriptLine) → client_word l ≡ None → client_word (cond {A = ScriptLine} b l silent) ≡ None
quiet true l none = none
quiet false l none = refl

module _ (is_far : Word → Bool) where
  -- all lines so far are head lines where none of them has a turn
  head-then : (ts : List Turn) (line : WholeLine) → ((length ts == 0) && is_whole_head line) ≡ (length (ts ++ turns_here is_far line) == 0)
  head-then ts (one l) = by (is_head l) (names_far is_far l) (is_of_both l)
    where
      by : (h f b : Bool) → ((length ts == 0) && h) ≡ (length (ts ++ cond {A = List Turn} h [] (cond f (turns.Far ∷ []) (cond b (turns.Both ∷ []) (turns.Near ∷ [])))) == 0)
      by true f b = none-more ts
      by false true b = one-more ts turns.Far
      by false false true = one-more ts turns.Both
      by false false false = one-more ts turns.Near
  head-then ts (far_zone apex serial) = none-more ts
  head-then ts (far_client w) = one-more ts turns.Far
  head-then ts (carry w name written) = one-more ts turns.Carry

  -- a line of a script of one hub makes no far client
  none-of-one : (l : ScriptLine) → client_word (cond {A = ScriptLine} (names_far is_far l || is_of_both l) l silent) ≡ None
  none-of-one silent = refl
  none-of-one (head_line line) = quiet _ (head_line line) refl
  none-of-one (joining w is_lone) = refl
  none-of-one (hub_event event) = quiet _ (hub_event event) refl
  none-of-one (link_event w event) = refl
  none-of-one (client_call w call) = quiet _ (client_call w call) refl
  none-of-one (client_passing w way) = quiet _ (client_passing w way) refl
  none-of-one (client_event w event) = quiet _ (client_event w event) refl
  none-of-one (session_event w event) = quiet _ (session_event w event) refl

  fars-then : (fars : List Word) (line : WholeLine) → fars_behind fars line ≡ fars ++ option_to_list (client_word (far_of is_far line))
  fars-then fars (one l) = sym (append-nil fars) ∙ ap (λ (o : Option Word). fars ++ option_to_list o) (sym (none-of-one l))
  fars-then fars (far_zone apex serial) = sym (append-nil fars)
  fars-then fars (far_client w) = refl
  fars-then fars (carry w name written) = sym (append-nil fars)

-- the name of the second hub's zone
abbrev pub apex_behind : Option Labels → WholeLine → Option Labels
apex_behind o (far_zone apex serial) = Some apex
apex_behind o _ = o

abbrev pub at_apex : WholeDraft → WholeLine → WholeDraft
at_apex draft line = record draft { apex = apex_behind draft.apex line }

has-far : (o : Option Labels) (line : WholeLine) → has_far_behind (is_some o) line ≡ is_some (apex_behind o line)
has-far o (one l) = refl
has-far o (far_zone apex serial) = refl
has-far o (far_client w) = refl
has-far o (carry w name written) = refl

apex-then : (carriers : List Carrier) (known : BothKnown) (front : List WholeLine) (line : WholeLine) → may_follow_both carriers known line ≡ true → known.has_far ≡ is_some (apex_in front) → apex_in (front ++ line ∷ []) ≡ apex_behind (apex_in front) line
apex-then carriers known front (one l) may has = apex-kept front (one l) refl
apex-then carriers known front (far_zone apex serial) may has = apex-new front apex serial (by known.in_head known.has_far (apex_in front) may has)
  where
    by : (h f : Bool) (o : Option Labels) → (h && not f) ≡ true → f ≡ is_some o → o ≡ None
    by h f None may has = refl
    by true true (Some a) may has = absurd cc
    by true false (Some a) may has = absurd cc
    by false f (Some a) may has = absurd cc
apex-then carriers known front (far_client w) may has = apex-kept front (far_client w) refl
apex-then carriers known front (carry w name written) may has = apex-kept front (carry w name written) refl

-- what is asked of a line, by which clients carry names alone
may-follow : (carriers : List Carrier) (known : BothKnown) (line : WholeLine) → may_follow_both carriers known line ≡ may_follow_kept (carries_alone carriers) known line
may-follow carriers known (one l) = refl
may-follow carriers known (far_zone apex serial) = refl
may-follow carriers known (far_client w) = refl
may-follow carriers known (carry w name written) = refl

-- ---- a line

abbrev next : WholeSoFar → WholeLine → BothKnown → WholeSoFar
next so_far line known = record so_far { known = known; lines = so_far.lines ++ line ∷ [] }

module _ (draft : WholeDraft) (line : WholeLine) (so_far : WholeSoFar) (held : HoldsWhole draft so_far) where
  abbrev is_far : Word → Bool
  is_far = is_far_in so_far.known.fars

  abbrev all : List Word
  all = draft.clients

  -- by whether it may follow, and by what each hub makes of it
  abbrev fit_by : Bool → Option Known → Option Known → Option BothKnown
  fit_by may near far = cond {A = Option BothKnown} (not may) None (near >>= λ n. option_map (both_behind so_far.known line n) far)

  abbrev MayFollow : Bool → Type 0
  MayFollow may = may_follow_kept (alone_in draft.carriers) (known_kept draft) line ≡ may

  follows : (may : Bool) → MayFollow may → may_follow_both so_far.carriers so_far.known line ≡ may
  follows may is = may-follow so_far.carriers so_far.known line ∙ (λ i. may_follow_kept (held.carriers i) (held.known i) line) ∙ is

  fit-is : (may : Bool) (near far : Option Known) → may_follow_both so_far.carriers so_far.known line ≡ may → fits so_far.all so_far.known.near (near_of is_far line) ≡ near → fits so_far.all so_far.known.far (far_of is_far line) ≡ far
      → whole_next so_far line ≡ option_map (next so_far line) (fit_by may near far)
  fit-is may near far m n f = λ i. option_map (next so_far line) (fit_by (m i) (n i) (f i))

  -- it may not stand there by itself
  pub refused : (later : WholeDraft) → MayFollow false → TakesHeld (whole_next so_far line) (HoldsWhole later) false
  refused later may = fit-is false _ _ (follows false may) refl refl

  -- each hub's draft is told what it is to that hub
  module _ (near far : Line) (turn : Option Turn) (may : MayFollow true) (near_is : said near ≡ near_of is_far line) (far_is : said far ≡ far_of is_far line) (turn_is : option_to_list turn ≡ turns_here is_far line) (later : WholeDraft) where
    told-near : fits so_far.all so_far.known.near (near_of is_far line) ≡ fits all (known_of (taken_of draft.near)) (said near)
    told-near = λ i. fits (held.all i) (held.known i).near (sym near_is i)

    told-far : fits so_far.all so_far.known.far (far_of is_far line) ≡ fits all (known_of (taken_of draft.far)) (said far)
    told-far = λ i. fits (held.all i) (held.known i).far (sym far_is i)

    unfit : (n f : Option Known) → (is_some n && is_some f) ≡ false → option_map (next so_far line) (fit_by true n f) ≡ None
    unfit None f e = refl
    unfit (Some n) None e = refl
    unfit (Some n) (Some f) e = absurd cc

    taking : TakesHalves (at_apex draft line) near far turn later true → TakesHeld (whole_next so_far line) (HoldsWhole later) true
    taking took = (so, holds, fit)
      where
        near-adds : Adds all (taken_of draft.near) near (taken_of later.near)
        near-adds = adds all (taken_of draft.near) (taken_of later.near) near took.0.0 took.0.1

        far-adds : Adds all (taken_of draft.far) far (taken_of later.far)
        far-adds = adds all (taken_of draft.far) (taken_of later.far) far took.1.0 took.1.1

        known : BothKnown
        known = both_behind so_far.known line (known_of (taken_of later.near)) (known_of (taken_of later.far))

        so : WholeSoFar
        so = next so_far line known

        fit : whole_next so_far line ≡ Some so
        fit = fit-is true (Some (known_of (taken_of later.near))) (Some (known_of (taken_of later.far))) (follows true may) (told-near ∙ near-adds.fit) (told-far ∙ far-adds.fit)

        turns-added : draft.turns.items ++ turns_here is_far line ≡ later.turns.items
        turns-added = ap (λ (ts : List Turn). draft.turns.items ++ ts) (sym turn_is) ∙ sym took.2

        in-head : (so_far.known.in_head && is_whole_head line) ≡ (length later.turns.items == 0)
        in-head = ap (λ (k : BothKnown). k.in_head && is_whole_head line) held.known ∙ head-then is_far draft.turns.items line ∙ ap (λ (ts : List Turn). length ts == 0) turns-added

        far-there : has_far_behind so_far.known.has_far line ≡ is_some later.apex
        far-there = ap (λ (k : BothKnown). has_far_behind k.has_far line) held.known ∙ has-far draft.apex line ∙ ap (λ (d : WholeDraft). is_some d.apex) (sym took.3)

        fars-there : fars_behind so_far.known.fars line ≡ words_known (taken_of later.far).clients
        fars-there =
            fars-then is_far so_far.known.fars line
            ∙ (λ i. (held.known i).fars ++ option_to_list (client_word (sym far_is i)))
            ∙ sym (clients-then (taken_of draft.far) (taken_of later.far) far took.1.1)

        known-there : known ≡ known_kept later
        known-there = λ i. record { in_head = in-head i; near = known_of (taken_of later.near); far = known_of (taken_of later.far); has_far = far-there i; fars = fars-there i }

        near-behind : near_lines so_far.lines ++ said near ∷ [] ≡ near_lines (so_far.lines ++ line ∷ [])
        near-behind =
            ap (λ (l : ScriptLine). near_lines so_far.lines ++ l ∷ []) (near_is ∙ ap (λ (fs : List Word). near_of (is_far_in fs) line) held.fars)
            ∙ sym (near-more [] so_far.lines line)

        far-behind : far_heads so_far.lines ++ said far ∷ [] ≡ far_heads (so_far.lines ++ line ∷ [])
        far-behind =
            ap (λ (l : ScriptLine). far_heads so_far.lines ++ l ∷ []) (far_is ∙ ap (λ (fs : List Word). far_of (is_far_in fs) line) held.fars)
            ∙ sym (far-more [] so_far.lines line)

        turns-behind : turns_from [] (so_far.lines ++ line ∷ []) ≡ later.turns.items
        turns-behind =
            turns-more [] so_far.lines line
            ∙ ap (λ (fs : List Word). turns_from [] so_far.lines ++ turns_here (is_far_in fs) line) (sym held.fars)
            ∙ ap (λ (ts : List Turn). ts ++ turns_here is_far line) held.turns
            ∙ turns-added

        apex-behind : apex_in (so_far.lines ++ line ∷ []) ≡ later.apex
        apex-behind =
            apex-then so_far.carriers so_far.known so_far.lines line (follows true may) (ap (λ (k : BothKnown). k.has_far) held.known ∙ ap (λ (o : Option Labels). is_some o) (sym held.apex))
            ∙ ap (λ (o : Option Labels). apex_behind o line) held.apex
            ∙ ap (λ (d : WholeDraft). d.apex) (sym took.3)

        holds : HoldsWhole later so
        holds = record {
          all = held.all ∙ ap (λ (d : WholeDraft). d.clients) (sym took.3);
          carriers = held.carriers ∙ ap (λ (d : WholeDraft). alone_in d.carriers) (sym took.3);
          known = known-there;
          fars = ap (λ (fs : List Word). fars_behind fs line) held.fars ∙ sym (fars-more [] so_far.lines line);
          near = subst (λ (ls : List ScriptLine). HaveMade ls (taken_of later.near)) near-behind (near-adds.lines (near_lines so_far.lines) held.near);
          far = subst (λ (ls : List ScriptLine). HaveMade ls (taken_of later.far)) far-behind (far-adds.lines (far_heads so_far.lines) held.far);
          apex = apex-behind;
          turns = turns-behind;
        }

    pub halves : (taken : Bool) → TakesHalves (at_apex draft line) near far turn later taken → TakesHeld (whole_next so_far line) (HoldsWhole later) taken
    halves true took = taking took
    halves false took = fit-is true _ _ (follows true may) told-near told-far ∙ unfit _ _ took

-- ---- what the program tells each draft

-- what a line is to each hub, and whose turn it is
abbrev pub IsHalves : WholeDraft → WholeLine → Line → Line → Option Turn → Type 0
IsHalves draft line near far turn = (said near ≡ near_of (is_far_in (known_kept draft).fars) line) × (said far ≡ far_of (is_far_in (known_kept draft).fars) line) × (option_to_list turn ≡ turns_here (is_far_in (known_kept draft).fars) line)

pub takes_halves : {E : Type 0} (draft later : WholeDraft) (line : WholeLine) (near far : Line) (turn : Option Turn) (result : Result Bool E) → IsHalves draft line near far turn → may_follow_kept (alone_in draft.carriers) (known_kept draft) line ≡ true
    → IfOk result (λ taken. TakesHalves (at_apex draft line) near far turn later taken) → IfOk result (λ taken. TakesWhole draft line later taken)
takes_halves draft later line near far turn (Err e) is may took = tt
takes_halves draft later line near far turn (Ok taken) is may took = λ so_far held.
    let same : (known_kept draft).fars ≡ so_far.known.fars = ap (λ (k : BothKnown). k.fars) (sym held.known) in
    halves draft line so_far held near far turn may
    (is.0 ∙ ap (λ (fs : List Word). near_of (is_far_in fs) line) same)
    (is.1 ∙ ap (λ (fs : List Word). far_of (is_far_in fs) line) same)
    (is.2 ∙ ap (λ (fs : List Word). turns_here (is_far_in fs) line) same)
    later taken took

-- where it may stand there by itself
pub takes_fit : {E : Type 0} (draft later : WholeDraft) (line : WholeLine) (result : Result Bool E) → may_follow_kept (alone_in draft.carriers) (known_kept draft) line ≡ true → IfOk result (λ taken. TakesFit draft line later taken) → IfOk result (λ taken. TakesWhole draft line later taken)
takes_fit draft later line (Err e) may took = tt
takes_fit draft later line (Ok taken) may took = took may

-- of a line that is told otherwise
pub takes_as : {E : Type 0} (draft later : WholeDraft) (line other : WholeLine) (result : Result Bool E) → line ≡ other → may_follow_kept (alone_in draft.carriers) (known_kept draft) line ≡ true
    → (may_follow_kept (alone_in draft.carriers) (known_kept draft) other ≡ true → IfOk result (λ taken. TakesWhole draft other later taken)) → IfOk result (λ taken. TakesWhole draft line later taken)
takes_as draft later line other result same may took =
    subst (λ (l : WholeLine). IfOk result (λ taken. TakesWhole draft l later taken)) (sym same) (took (subst (λ (l : WholeLine). may_follow_kept (alone_in draft.carriers) (known_kept draft) l ≡ true) same may))

pub fits_whole : {E : Type 0} (draft later : WholeDraft) (line : WholeLine) (result : Result Bool E) → (may_follow_kept (alone_in draft.carriers) (known_kept draft) line ≡ true → IfOk result (λ taken. TakesWhole draft line later taken)) → IfOk result (λ taken. TakesFit draft line later taken)
fits_whole draft later line (Err e) took = tt
fits_whole draft later line (Ok taken) took = took

-- a line of a script of one hub
module _ (draft : WholeDraft) (line : Line) (turn : Option Turn) where
  abbrev names : Bool
  names = names_far (is_far_in (known_kept draft).fars) (said line)

  abbrev IsTurn : Turn → Type 0
  IsTurn whose = option_to_list turn ≡ cond {A = List Turn} (is_head (said line)) [] (whose ∷ [])

  -- it names a client of the second hub
  pub is_far_line : names ≡ true → IsTurn turns.Far → IsHalves draft (one (said line)) lines.Silent line turn
  is_far_line far is = (
    ap (λ (b : Bool). cond {A = ScriptLine} b silent (said line)) (sym far),
    ap (λ (b : Bool). cond {A = ScriptLine} (b || is_of_both (said line)) (said line) silent) (sym far),
    is ∙ ap (λ (b : Bool). cond {A = List Turn} (is_head (said line)) [] (cond b (turns.Far ∷ []) (cond (is_of_both (said line)) (turns.Both ∷ []) (turns.Near ∷ [])))) (sym far),
  )

  -- it is for both hubs
  pub is_shared_line : (same : Line) → said same ≡ said line → names ≡ false → is_of_both (said line) ≡ true → IsTurn turns.Both → IsHalves draft (one (said line)) line same turn
  is_shared_line same says near both is = (
    ap (λ (b : Bool). cond {A = ScriptLine} b silent (said line)) (sym near),
    says ∙ (λ i. cond {A = ScriptLine} (sym near i || sym both i) (said line) silent),
    is ∙ (λ i. cond {A = List Turn} (is_head (said line)) [] (cond (sym near i) (turns.Far ∷ []) (cond (sym both i) (turns.Both ∷ []) (turns.Near ∷ [])))),
  )

  -- it is for the first alone
  pub is_near_line : names ≡ false → is_of_both (said line) ≡ false → IsTurn turns.Near → IsHalves draft (one (said line)) line lines.Silent turn
  is_near_line near one_alone is = (
    ap (λ (b : Bool). cond {A = ScriptLine} b silent (said line)) (sym near),
    (λ i. cond {A = ScriptLine} (sym near i || sym one_alone i) (said line) silent),
    is ∙ (λ i. cond {A = List Turn} (is_head (said line)) [] (cond (sym near i) (turns.Far ∷ []) (cond (sym one_alone i) (turns.Both ∷ []) (turns.Near ∷ [])))),
  )
