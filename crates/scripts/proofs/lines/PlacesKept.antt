-- The first place of each word, behind a further word, and what the client at a place is.
use Rattle.std.proofs.Common.{◌≡◌, ℕ, ◌+◌, ◌<◌, ◌≤◌, suc, Bool, true, false, cond, ◌||◌, Option, None, Some, List, [], ◌∷◌, ◌++◌, length, map, drop, get_or, append_assoc, append-nil, refl, sym, ap, ◌∙◌, String}
use Rattle.std.specs.Prelude.{find, is_some, option_map, position, slice_get, string_bytes}
use Rattle.std.specs.declared.alloc.Global.{Global}
use Rattle.std.specs.BTreeMap.{BTreeMap, UpdatesBy, is_at}
use Rattle.std.specs.Cmp.{eq_by_cmp_equiv}
use Rattle.std.specs.Cmp.Lexicographic.{nat_list_cmp_total, slice_cmp}
use Rattle.std.specs.Map.{KeepsOthers, lookup}
use Rattle.std.specs.Ordering.{eq_by_cmp, is_eq, nat_cmp}
use Rattle.std.specs.Prelude.{Vec}
use Rattle.std.specs.declared.cmp.Ordering.{Ordering}
use Rattle.std.specs.List.{list_any}
use Rattle.std.specs.Str.{bytes_eq}
use Rattle.std.proofs.lemmas.List.{at_drop_more, drop_all}
use Rattle.std.proofs.lemmas.Map.Text.{is_eq-slice_cmp}
use Rattle.history.proofs.Positions.{find-here, find-none, found_from, none_from, position-cons, slice_get-found}
use Rattle.scripts.specs.Lines.{Word}
use Rattle.scripts.specs.KeptLines.{words_of}
use Rattle.scripts.specs.Scripts.{lone_in}
use Rattle.scripts.specs.Events.{known_clients, words_known}
use Rattle.scripts.specs.Places.{ArePlaces, place_in}
use Rattle.scripts.specs.declared.clients.KnownClient.{KnownClient}
use Rattle.scripts.proofs.lines.ClientLines.{client_of}
use Rattle.scripts.proofs.lines.SameWords.{other_way, same_word, word_itself}

-- ---- a word behind others

abbrev first_of : Option ℕ → Option ℕ → Option ℕ
first_of None other = other
first_of (Some place) other = Some place

first-none : (place : Option ℕ) → place ≡ first_of place None
first-none None = refl
first-none (Some place) = refl

abbrev last_at : ℕ → Bool → Option ℕ
last_at place is = cond is (Some place) None

position-behind : (words : List Word) (v w : Word) → position (bytes_eq w) (words ++ v ∷ []) ≡ first_of (position (bytes_eq w) words) (last_at (length words) (bytes_eq w v))
position-behind [] v w = position-cons (bytes_eq w) v [] ∙ by (bytes_eq w v)
  where
    by : (b : Bool) → cond b (Some 0) (option_map suc (position (bytes_eq w) [])) ≡ last_at 0 b
    by true = refl
    by false = refl
position-behind (x ∷ words) v w =
    position-cons (bytes_eq w) x (words ++ v ∷ [])
    ∙ ap (λ (o : Option ℕ). cond (bytes_eq w x) (Some 0) (option_map suc o)) (position-behind words v w)
    ∙ by (bytes_eq w x) (position (bytes_eq w) words) (bytes_eq w v)
    ∙ ap (λ (o : Option ℕ). first_of o (last_at (suc (length words)) (bytes_eq w v))) (sym (position-cons (bytes_eq w) x words))
  where
    by : (b : Bool) (o : Option ℕ) (t : Bool) → cond b (Some 0) (option_map suc (first_of o (last_at (length words) t))) ≡ first_of (cond b (Some 0) (option_map suc o)) (last_at (suc (length words)) t)
    by true o t = refl
    by false (Some n) t = refl
    by false None true = refl
    by false None false = refl

abbrev pub key_cmp : Vec ℕ Global → Vec ℕ Global → Ordering
key_cmp a b = slice_cmp nat_cmp a.items b.items

pub none_placed : (places : BTreeMap (Vec ℕ Global) ℕ) → places.entries ≡ [] → ArePlaces [] places
none_placed places none w = ap (λ (es : List (Vec ℕ Global × ℕ)). lookup (is_at (λ (key : Vec ℕ Global). slice_cmp nat_cmp w key.items)) es) none

-- a word that has a place keeps it
pub placed_before : (words : List Word) (places : BTreeMap (Vec ℕ Global) ℕ) (v : Word) (place : ℕ) → ArePlaces words places → place_in places v ≡ Some place → ArePlaces (words ++ v ∷ []) places
placed_before words places v place are there w =
    are w ∙ by (bytes_eq w v) refl ∙ sym (position-behind words v w)
  where
    by : (b : Bool) → bytes_eq w v ≡ b → position (bytes_eq w) words ≡ first_of (position (bytes_eq w) words) (last_at (length words) b)
    by true is =
        let at : position (bytes_eq w) words ≡ Some place = ap (λ (u : Word). position (bytes_eq u) words) (same_word w v is) ∙ sym (are v) ∙ there in
        at ∙ ap (λ (o : Option ℕ). first_of o (last_at (length words) true)) (sym at)
    by false is = first-none (position (bytes_eq w) words)

apart : (bs cs ks : Word) → bytes_eq bs cs ≡ false → is_eq (slice_cmp nat_cmp bs ks) ≡ true → is_eq (slice_cmp nat_cmp cs ks) ≡ false
apart bs cs ks other is = is_eq-slice_cmp cs ks ∙ ap (bytes_eq cs) (sym (same_word bs ks (sym (is_eq-slice_cmp bs ks) ∙ is))) ∙ other_way bs cs other

keeps-other : (entries later : List (Vec ℕ Global × ℕ)) (key : Vec ℕ Global) (w : Word) → KeepsOthers (eq_by_cmp key_cmp) (is_at (key_cmp key)) entries later → bytes_eq key.items w ≡ false
    → lookup (λ (k : Vec ℕ Global). is_eq (slice_cmp nat_cmp w k.items)) later ≡ lookup (λ (k : Vec ℕ Global). is_eq (slice_cmp nat_cmp w k.items)) entries
unfolding KeepsOthers
keeps-other entries later key w keeps other =
    keeps (λ (k : Vec ℕ Global). is_eq (slice_cmp nat_cmp w k.items)) (λ x y. (eq_by_cmp_equiv nat_list_cmp_total).congr w x.items y.items) (λ k. apart key.items w k.items other)

-- another one has the place behind the others
pub placed_behind : (words : List Word) (places later : BTreeMap (Vec ℕ Global) ℕ) (key : Vec ℕ Global) → ArePlaces words places → place_in places key.items ≡ None
    → UpdatesBy key_cmp (key_cmp key) places later (Some (length words)) → ArePlaces (words ++ key.items ∷ []) later
placed_behind words places later key are none updates w = by (bytes_eq key.items w) refl ∙ sym (position-behind words key.items w)
  where
    by : (b : Bool) → bytes_eq key.items w ≡ b → place_in later w ≡ first_of (position (bytes_eq w) words) (last_at (length words) (bytes_eq w key.items))
    by true is =
        let same : key.items ≡ w = same_word key.items w is in
        let nowhere : position (bytes_eq w) words ≡ None = ap (λ (u : Word). position (bytes_eq u) words) (sym same) ∙ sym (are key.items) ∙ none in
        let itself : bytes_eq w key.items ≡ true = ap (λ (u : Word). bytes_eq u key.items) (sym same) ∙ word_itself key.items in
        ap (place_in later) (sym same)
        ∙ updates.1
        ∙ sym (ap (λ (o : Option ℕ). first_of o (last_at (length words) (bytes_eq w key.items))) nowhere ∙ ap (last_at (length words)) itself)
    by false is =
        keeps-other places.entries later.entries key w updates.3 is
        ∙ are w
        ∙ first-none (position (bytes_eq w) words)
        ∙ ap (λ (b : Bool). first_of (position (bytes_eq w) words) (last_at (length words) b)) (sym (other_way key.items w is))

-- whether a word has a place
pub any-placed : {X : Type 0} (p : X → Bool) (xs : List X) → is_some (position p xs) ≡ list_any p xs
any-placed p [] = refl
any-placed p (x ∷ xs) = ap is_some (position-cons p x xs) ∙ by (p x) (position p xs) (any-placed p xs)
  where
    by : (b : Bool) (o : Option ℕ) → is_some o ≡ list_any p xs → is_some (cond b (Some 0) (option_map suc o)) ≡ (b || list_any p xs)
    by true o e = refl
    by false None e = e
    by false (Some n) e = e

-- ---- copies of words

pub words-begin : (words : List (String Global)) (so_far : List Word) → so_far ≡ [] → so_far ++ words_of words ≡ words_of words
words-begin words so_far none = ap (λ (ws : List Word). ws ++ words_of words) none

pub words-more : (words : List (String Global)) (i : ℕ) (word : String Global) (so_far next whole : List Word) → i < length words → word ≡ get_or words i word → next ≡ so_far ++ string_bytes word ∷ []
    → so_far ++ words_of (drop i words) ≡ whole → next ++ words_of (drop (i + 1) words) ≡ whole
words-more words i word so_far next whole within is next_is so =
    ap (λ (ws : List Word). ws ++ words_of (drop (i + 1) words)) next_is
    ∙ append_assoc so_far (string_bytes word ∷ []) (words_of (drop (i + 1) words))
    ∙ ap (λ (w : String Global). so_far ++ (string_bytes w ∷ words_of (drop (i + 1) words))) is
    ∙ ap (λ (ws : List Word). so_far ++ ws) (sym (at_drop_more words_of words i word within))
    ∙ so

pub words-end : (words : List (String Global)) (i : ℕ) (so_far whole : List Word) → length words ≤ i → so_far ++ words_of (drop i words) ≡ whole → so_far ≡ whole
words-end words i so_far whole all so = sym (append-nil so_far) ∙ ap (λ (ws : List (String Global)). so_far ++ words_of ws) (sym (drop_all i words all)) ∙ so

-- ---- the client at a place

find-map : {X Y : Type 0} (g : X → Y) (q : Y → Bool) (xs : List X) → find q (map g xs) ≡ option_map g (find (λ x. q (g x)) xs)
find-map g q [] = refl
find-map {X} {Y} g q (x ∷ xs) = ap (λ (o : Option Y). cond (q (g x)) (Some (g x)) o) (find-map g q xs) ∙ by (q (g x)) (find (λ y. q (g y)) xs)
  where
    by : (b : Bool) (o : Option X) → cond b (Some (g x)) (option_map g o) ≡ option_map g (cond b (Some x) o)
    by true o = refl
    by false o = refl

abbrev has_word : Word → KnownClient → Bool
has_word w c = bytes_eq w (string_bytes c.word)

abbrev shown : KnownClient → Word × Bool
shown c = (string_bytes c.word, c.is_lone)

lone-found : (clients : List KnownClient) (w : Word) → lone_in (known_clients clients) w ≡ option_map (λ (c : KnownClient). c.is_lone) (find (has_word w) clients)
lone-found clients w = ap (λ (o : Option (Word × Bool)). option_map (λ (e : Word × Bool). e.1) o) (find-map shown (λ (e : Word × Bool). bytes_eq w e.0) clients) ∙ by (find (has_word w) clients)
  where
    by : (o : Option KnownClient) → option_map (λ (e : Word × Bool). e.1) (option_map shown o) ≡ option_map (λ (c : KnownClient). c.is_lone) o
    by None = refl
    by (Some c) = refl

pub lone_there : (clients : List KnownClient) (w : Word) (place : ℕ) → position (bytes_eq w) (words_known (known_clients clients)) ≡ Some place
    → option_map (λ (c : KnownClient). c.is_lone) (slice_get clients place) ≡ lone_in (known_clients clients) w
lone_there clients w place is =
    let f = found_from (has_word w) clients place (client_of clients w ∙ is) in
    ap (λ (o : Option KnownClient). option_map (λ (c : KnownClient). c.is_lone) o)
    (slice_get-found (has_word w) clients place f ∙ sym (ap (λ (cs : List KnownClient). find (has_word w) cs) f.parts ∙ find-here (has_word w) f.before f.here f.behind f.first f.passes))
    ∙ sym (lone-found clients w)

pub lone_nowhere : (clients : List KnownClient) (w : Word) → position (bytes_eq w) (words_known (known_clients clients)) ≡ None → None ≡ lone_in (known_clients clients) w
lone_nowhere clients w none =
    sym (lone-found clients w ∙ ap (λ (o : Option KnownClient). option_map (λ (c : KnownClient). c.is_lone) o) (find-none (has_word w) clients (none_from (has_word w) clients (client_of clients w ∙ none))))
