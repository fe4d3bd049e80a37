-- Which lines are those of a client, the words of the clients, and that a line is left.
use Rattle.std.proofs.Common.{◌≡◌, ℕ, ◌<◌, ◌⊎◌, Bool, true, false, cond, eqb, ◌||◌, Option, Some, None, IfSome, List, [], ◌∷◌, ◌++◌, length, map, refl, sym, ◌∙◌, ap, subst, inl, inr, arith, ⊎_elim}
use Rattle.std.specs.Prelude.{find, drop, get_or, ◌+◌, option_map, codes, string_bytes, position}
use Rattle.std.specs.declared.alloc.Global.{Global}
use Rattle.std.specs.declared.string.String.{String}
use Rattle.std.specs.List.{onto_first, list_all, join_with_byte}
use Rattle.std.specs.Str.{is_utf8, bytes_eq}
use Rattle.std.proofs.lemmas.Bool.{cases_Bool}
use Rattle.std.proofs.lemmas.Bool.Decides.{nat_tests}
use Rattle.std.proofs.lemmas.Option.{cond_some}
use Rattle.std.proofs.lemmas.List.{at_drop_more}
use Rattle.std.proofs.lemmas.List.Splits.{join_with_byte-slice_split}
use Rattle.push_base.specs.Optional.{◌>>=◌}
use Rattle.dnsname.proofs.Decisions.{and_true}
use Rattle.scripts.specs.Lines.{words_in, Word, ScriptLine, silent, joining, word, of_word, of_words, is_word_octet, is, head_kinds, hub_kinds, link_kinds, session_kinds, joining_kinds, call_kinds, way_kinds, client_kinds, kind_of, line_behind}
use Rattle.scripts.specs.declared.line.Kind.{Kind}
use Rattle.scripts.specs.declared.line.Kind.TheVariants as kinds
use Rattle.history.proofs.Positions.{position-map}
use Rattle.scripts.specs.KeptLines.{words_of}
use Rattle.scripts.specs.Scripts.{onto_line, client_word, is_among, lone_in}
use Rattle.scripts.specs.Events.{known_clients, words_known}
use Rattle.scripts.specs.Drafts.{client_in, is_any_word, is_word}
use Rattle.scripts.specs.declared.clients.KnownClient.{KnownClient}
use Rattle.scripts.proofs.lines.Readers.{EachReads, AllSuch, chosen_such, head_reads, hub_reads, on_link_reads, session_reads, call_reads, way_reads, client_reads}
use Rattle.scripts.proofs.lines.SameWords.{same_word}

-- ---- a line that names a client is that text

pub word_is : (x v : Word) → word x ≡ Some v → x ≡ v
word_is x v h = (cond_some _ x v h).1

of_client : (line : Word → ScriptLine) → ((w : Word) → client_word (line w) ≡ Some w) → (o : Option Word) (v : Word) → (option_map line o >>= client_word) ≡ Some v → o ≡ Some v
of_client line says None v h = absurd cc
of_client line says (Some w) v h = sym (says w) ∙ h

client_behind : (line : Word → ScriptLine) → ((w : Word) → client_word (line w) ≡ Some w) → (ws : List Word) (v : Word) → (of_word line ws >>= client_word) ≡ Some v → ws ≡ v ∷ []
client_behind line says [] v h = absurd cc
client_behind line says (x ∷ []) v h = ap (λ (w : Word). w ∷ []) (word_is x v (of_client line says (word x) v h))
client_behind line says (x ∷ y ∷ ws) v h = absurd cc

abbrev pub NamesClient : List Word → Word → Type 0
NamesClient parts v = (parts ≡ codes "client" ∷ v ∷ []) ⊎ (parts ≡ codes "lone" ∷ v ∷ [])

-- a line by its words, if it names a client
abbrev NamesBy : Word → List Word → Kind → Type 0
NamesBy w ws kind = IfSome (line_behind kind ws >>= client_word) (NamesClient (w ∷ ws))

abbrev NamesNone : ScriptLine → Type 0
NamesNone line = client_word line ≡ None

-- of lines that name none
names_none_by : (w : Word) (ws : List Word) (o : Option ScriptLine) → IfSome o NamesNone → IfSome (o >>= client_word) (NamesClient (w ∷ ws))
names_none_by w ws None none = tt
names_none_by w ws (Some line) none = subst (λ (r : Option Word). IfSome r (NamesClient (w ∷ ws))) (sym none) tt

none_by : (w : Word) (ws : List Word) (rows : List (Bool × Kind)) → EachReads NamesNone ws rows → AllSuch (NamesBy w ws) rows
none_by w ws [] none = tt
none_by w ws (row ∷ rows) none = (λ is. names_none_by w ws (line_behind row.1 ws) none.0, none_by w ws rows none.1)

joins : (line : Word → ScriptLine) → ((u : Word) → client_word (line u) ≡ Some u) → (w : Word) (ws : List Word) (v first : Word) → is w first ≡ true → (of_word line ws >>= client_word) ≡ Some v → w ∷ ws ≡ first ∷ v ∷ []
joins line says w ws v first is_first said = ap (λ (u : Word). u ∷ ws) (same_word w first is_first) ∙ ap (λ (us : List Word). first ∷ us) (client_behind line says ws v said)

given : (P : Word → Type 0) (o : Option Word) → ((v : Word) → o ≡ Some v → P v) → IfSome o P
given P None h = tt
given P (Some v) h = h v refl

names_client : (w : Word) (ws : List Word) → NamesBy w ws (kind_of w)
names_client w ws =
    chosen_such (NamesBy w ws) (head_kinds w) _ (none_by w ws (head_kinds w) (head_reads NamesNone (λ line. refl) w ws))
    (chosen_such (NamesBy w ws) (hub_kinds w) _ (none_by w ws (hub_kinds w) (hub_reads NamesNone (λ e. refl) w ws))
    (chosen_such (NamesBy w ws) (link_kinds w) _ (none_by w ws (link_kinds w) (on_link_reads NamesNone (λ u e. refl) w ws))
    (chosen_such (NamesBy w ws) (session_kinds w) _ (none_by w ws (session_kinds w) (session_reads NamesNone (λ u e. refl) w ws))
    (chosen_such (NamesBy w ws) (joining_kinds w) _ (by_client, (by_lone, tt))
    (chosen_such (NamesBy w ws) (call_kinds w) _ (none_by w ws (call_kinds w) (call_reads NamesNone (λ u call. refl) w ws))
    (chosen_such (NamesBy w ws) (way_kinds w) _ (none_by w ws (way_kinds w) (way_reads NamesNone (λ u way. refl) w ws))
    (chosen_such (NamesBy w ws) (client_kinds w) kinds.Other (none_by w ws (client_kinds w) (client_reads NamesNone (λ u e. refl) w ws)) tt)))))))
  where
    hub : Word → ScriptLine
    hub u = joining u false

    lone : Word → ScriptLine
    lone u = joining u true

    by_client : is w (codes "client") ≡ true → NamesBy w ws kinds.Client
    by_client first = given (NamesClient (w ∷ ws)) (of_word hub ws >>= client_word) (λ v said. inl (joins hub (λ u. refl) w ws v (codes "client") first said))

    by_lone : is w (codes "lone") ≡ true → NamesBy w ws kinds.Lone
    by_lone first = given (NamesClient (w ∷ ws)) (of_word lone ws >>= client_word) (λ v said. inr (joins lone (λ u. refl) w ws v (codes "lone") first said))

client_parts : (parts : List Word) (v : Word) → (of_words parts >>= client_word) ≡ Some v → NamesClient parts v
client_parts [] v h = absurd cc
client_parts (w ∷ ws) v h = subst (λ (o : Option Word). IfSome o (NamesClient (w ∷ ws))) h (names_client w ws)

comment_client : (utf8 : Bool) → (cond utf8 (Some silent) None >>= client_word) ≡ None
comment_client true = refl
comment_client false = refl

pub line_parts : (line : List ℕ) (v : Word) → client_in line ≡ Some v → NamesClient (words_in line) v
line_parts [] v h = absurd cc
line_parts (c ∷ cs) v h = elim (cases_Bool (eqb c 35)) [
  | inl hash ↦
      let none : None ≡ Some v =
      sym (ap (λ (b : Bool). cond b (cond (is_utf8 cs) (Some silent) None) (of_words (words_in (c ∷ cs))) >>= client_word) hash ∙ comment_client (is_utf8 cs)) ∙ h in
      absurd cc
  | inr other ↦ client_parts (words_in (c ∷ cs)) v (sym (ap (λ (b : Bool). cond b (cond (is_utf8 cs) (Some silent) None) (of_words (words_in (c ∷ cs))) >>= client_word) other) ∙ h)
]

client_line : (line : List ℕ) (v : Word) → client_in line ≡ Some v → (line ≡ codes "client " ++ v) ⊎ (line ≡ codes "lone " ++ v)
client_line line v h = by_parts (line_parts line v h)
  where
    whole : join_with_byte 32 (words_in line) ≡ line
    whole = join_with_byte-slice_split 32 line

    by_parts : NamesClient (words_in line) v → (line ≡ codes "client " ++ v) ⊎ (line ≡ codes "lone " ++ v)
    by_parts (inl e) = inl (sym whole ∙ ap (join_with_byte 32) e)
    by_parts (inr e) = inr (sym whole ∙ ap (join_with_byte 32) e)

-- ---- that text names the client

no_space : (c : ℕ) → is_word_octet c ≡ true → eqb c 32 ≡ false
no_space c h = grind (arith, nat_tests)

pub word_whole : (w : Word) → list_all is_word_octet w ≡ true → words_in w ≡ w ∷ []
word_whole [] h = refl
word_whole (c ∷ cs) h =
    let both = and_true (is_word_octet c) (list_all is_word_octet cs) h in
    ap (λ (b : Bool). cond b ([] ∷ words_in cs) (onto_first c (words_in cs))) (no_space c both.0) ∙ ap (onto_first c) (word_whole cs both.1)

pub word_octets : (w : Word) → word w ≡ Some w → list_all is_word_octet w ≡ true
word_octets w h = let test = (cond_some _ w w h).0 in (and_true _ (list_all is_word_octet w) test).1

-- what is said by the words behind the first
said_whole : (line : Word → ScriptLine) → ((w : Word) → client_word (line w) ≡ Some w) → (w : Word) (o : Option Word) → word w ≡ o → (of_word line (w ∷ []) >>= client_word) ≡ o
said_whole line says w o e = ap (λ (r : Option Word). option_map line r >>= client_word) e ∙ by_word o
  where
    by_word : (r : Option Word) → (option_map line r >>= client_word) ≡ r
    by_word None = refl
    by_word (Some v) = says v

said_word : (line : Word → ScriptLine) → ((w : Word) → client_word (line w) ≡ Some w) → (w : Word) → (of_word line (words_in w) >>= client_word) ≡ word w
said_word line says w = by_word (word w) refl
  where
    by_word : (o : Option Word) → word w ≡ o → (of_word line (words_in w) >>= client_word) ≡ o
    by_word (Some v) e =
        let same : w ≡ v = word_is w v e in
        let is : word w ≡ Some w = e ∙ ap (λ (x : Word). Some x) (sym same) in
        ap (λ (ws : List Word). of_word line ws >>= client_word) (word_whole w (word_octets w is)) ∙ said_whole line says w (Some v) e
    by_word None e = by_said (of_word line (words_in w) >>= client_word) refl
      where
        by_said : (r : Option Word) → (of_word line (words_in w) >>= client_word) ≡ r → r ≡ None
        by_said None f = refl
        by_said (Some v) f =
            let one : words_in w ≡ v ∷ [] = client_behind line says (words_in w) v f in
            let same : w ≡ v = sym (join_with_byte-slice_split 32 w) ∙ ap (join_with_byte 32) one in
            let none : (of_word line (words_in w) >>= client_word) ≡ None =
            ap (λ (ws : List Word). of_word line ws >>= client_word) (one ∙ ap (λ (x : Word). x ∷ []) (sym same)) ∙ said_whole line says w None e in
            let differ : Some v ≡ None = sym f ∙ none in
            absurd cc

-- the text behind a line's first word is the client's
pub named_by_client : (line w : Word) → line ≡ codes "client " ++ w → word w ≡ client_in line
named_by_client line w e = sym (ap client_in e ∙ said_word (λ u. joining u false) (λ u. refl) w)

pub named_by_lone : (line w : Word) → line ≡ codes "lone " ++ w → word w ≡ client_in line
named_by_lone line w e = sym (ap client_in e ∙ said_word (λ u. joining u true) (λ u. refl) w)

-- another line names none
pub names_none : (line : Word) → ((w : Word) → line ≡ codes "client " ++ w → ⊥) → ((w : Word) → line ≡ codes "lone " ++ w → ⊥) → None ≡ client_in line
names_none line no_client no_lone = by_client (client_in line) refl
  where
    by_client : (o : Option Word) → client_in line ≡ o → None ≡ o
    by_client None e = refl
    by_client (Some v) e = ⊎_elim (λ f. absurd (no_client v f)) (λ f. absurd (no_lone v f)) (client_line line v e)

-- ---- the words of the clients

-- a word is one of these
pub any_word : (words : List (String Global)) (w : Word) → is_any_word w words ≡ is_among (map (λ c. string_bytes c) words) w
any_word [] w = refl
any_word (c ∷ cs) w = ap (λ (b : Bool). bytes_eq w (string_bytes c) || b) (any_word cs w)

-- its place among these
pub place_of : (words : List (String Global)) (w : Word) → position (is_word w) words ≡ position (bytes_eq w) (words_of words)
place_of words w = sym (position-map (λ (c : String Global). string_bytes c) (bytes_eq w) words)

-- the number of a client among these
pub client_of : (clients : List KnownClient) (w : Word) → position (λ (c : KnownClient). is_word w c.word) clients ≡ position (bytes_eq w) (words_known (known_clients clients))
client_of clients w = sym (position-map (λ (e : Word × Bool). e.0) (bytes_eq w) (known_clients clients) ∙ position-map (λ (c : KnownClient). (string_bytes c.word, c.is_lone)) (λ (e : Word × Bool). bytes_eq w e.0) clients)

-- ---- a client that there is

abbrev pub known_from : Word → List KnownClient → Option Bool
known_from w clients = lone_in (known_clients clients) w

abbrev known_by : Word → KnownClient → List KnownClient → Bool → Option Bool
known_by w c rest b = option_map (λ (e : Word × Bool). e.1) (cond b (Some (string_bytes c.word, c.is_lone)) (find (λ (e : Word × Bool). bytes_eq w e.0) (known_clients rest)))

at_known : (clients : List KnownClient) (i : ℕ) (c : KnownClient) (w : Word) → i < length clients → c ≡ get_or clients i c → known_from w (drop i clients) ≡ known_by w c (drop (i + 1) clients) (bytes_eq w (string_bytes c.word))
at_known clients i c w within is = at_drop_more (known_from w) clients i c within ∙ ap (λ (d : KnownClient). known_from w (d ∷ drop (i + 1) clients)) (sym is)

pub known_passed : (clients : List KnownClient) (i : ℕ) (c : KnownClient) (w : Word) (whole : Option Bool) → i < length clients → c ≡ get_or clients i c → bytes_eq w (string_bytes c.word) ≡ false
    → known_from w (drop i clients) ≡ whole → known_from w (drop (i + 1) clients) ≡ whole
known_passed clients i c w whole within is other so_far = sym (at_known clients i c w within is ∙ ap (known_by w c (drop (i + 1) clients)) other) ∙ so_far

pub known_found : (clients : List KnownClient) (i : ℕ) (c : KnownClient) (w : Word) (whole : Option Bool) → i < length clients → c ≡ get_or clients i c → bytes_eq w (string_bytes c.word) ≡ true
    → known_from w (drop i clients) ≡ whole → Some c.is_lone ≡ whole
known_found clients i c w whole within is same so_far = sym (at_known clients i c w within is ∙ ap (known_by w c (drop (i + 1) clients)) same) ∙ so_far

-- ---- lines that are left

-- there is one
pub onto_line_some : (octet : ℕ) (lines : List (List ℕ)) → 0 < length (onto_line octet lines)
onto_line_some octet lines = elim (cases_Bool (eqb octet 10)) [
  | inl end ↦ subst (λ (b : Bool). 0 < length (cond b ([] ∷ lines) (onto_first octet lines))) (sym end) (omega arith)
  | inr on ↦ subst (λ (b : Bool). 0 < length (cond b ([] ∷ lines) (onto_first octet lines))) (sym on) (first_some octet lines)
]
  where
    first_some : (octet : ℕ) (lines : List (List ℕ)) → 0 < length (onto_first octet lines)
    first_some octet [] = omega arith
    first_some octet (l ∷ ls) = omega arith
