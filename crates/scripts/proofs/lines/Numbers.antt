-- Numbers of clients and links, in place of their words.
--     named-more      an event's numbers stay where clients join
--     follow-more      a further event behind others
--     client-here, few-here      the client that joins, and its number
--     seen, unseen, client-party      whether a client of a word has joined, by its number
--     numbered-link, unnumbered-link, .., unnumbered-client      the event of a line
use Rattle.std.proofs.Common.{◌≡◌, ℕ, zero, suc, ◌<◌, Bool, true, false, cond, ◌||◌, Option, Some, None, List, [], ◌∷◌, ◌++◌, length, map, refl, sym, ◌∙◌, ap, subst, arith, append_assoc}
use Rattle.std.specs.Prelude.{find, get_or, position, is_some, option_map, option_to_list, filter_map, string_bytes}
use Rattle.std.specs.List.{cons_option, list_any}
use Rattle.std.specs.declared.alloc.Global.{Global}
use Rattle.std.specs.declared.string.String.{String}
use Rattle.std.specs.Str.{bytes_eq}
use Rattle.std.proofs.lemmas.List.{append-nil}
use Rattle.history.proofs.Positions.{position-cons, position-map, found_from, none_from, find-here, find-none}
use Rattle.scripts.specs.Lines.{Word, ScriptLine, link_event, client_call, client_passing, client_event, session_event}
use Rattle.scripts.specs.Scripts.{client_word, lone_in, is_client_in, may_happen_to}
use Rattle.scripts.specs.declared.line.LinkEvent.{LinkEvent}
use Rattle.scripts.specs.declared.line.Call.{Call}
use Rattle.scripts.specs.declared.line.Way.{Way}
use Rattle.scripts.specs.declared.line.ClientEvent.{ClientEvent}
use Rattle.scripts.specs.declared.line.ClientEvent.TheVariants as client_events
use Rattle.scripts.specs.declared.line.EventLine.TheVariants as event_lines
use Rattle.scripts.specs.declared.event.Event.{Event}
use Rattle.scripts.specs.declared.event.Event.TheVariants as events
use Rattle.scripts.specs.declared.event.Party.{Party}
use Rattle.scripts.specs.declared.event.Party.TheVariants as parties
use Rattle.scripts.specs.Events.{words_known, client_at, link_at, party_word, event_said, HasJoined, IsNamed, IsNamedParty, then_joined, Follow}
use Rattle.scripts.specs.Drafts.{Numbered, IsParty}
use Rattle.scripts.proofs.lines.SameWords.{same_word}

-- a word, if there is one, in front of others
pub onto_words : (word : Option Word) (words : List Word) → cons_option word words ≡ option_to_list word ++ words
onto_words None words = refl
onto_words (Some w) words = refl

-- ---- where clients join

at-more : {X : Type 0} (xs more : List X) (n : ℕ) (d : X) → n < length xs → get_or (xs ++ more) n d ≡ get_or xs n d
at-more [] more n d within = absurd (omega (arith, within))
at-more (x ∷ xs) more zero d within = refl
at-more (x ∷ xs) more (suc n) d within = at-more xs more n d (omega (arith, within))

more-within : {X : Type 0} (xs more : List X) (n : ℕ) → n < length xs → n < length (xs ++ more)
more-within [] more n within = absurd (omega (arith, within))
more-within (x ∷ xs) more zero within = omega arith
more-within (x ∷ xs) more (suc n) within = let rest = more-within xs more n (omega (arith, within)) in omega (arith, rest)

module _ (before : List Word) (clients more : List (Word × Bool)) where
  joined-more : (number : ℕ) → HasJoined clients before number → HasJoined (clients ++ more) before number
  joined-more number has = (more-within clients more number has.0, ap (λ (c : Word × Bool). position (bytes_eq c.0) before) (at-more clients more number ([], false) has.0) ∙ has.1)

  party-more : (party : Party) → IsNamedParty clients before party → (party_word (clients ++ more) party ≡ party_word clients party) × IsNamedParty (clients ++ more) before party
  party-more (parties.Client number) named = (ap (λ (c : Word × Bool). c.0) (at-more clients more number ([], false) named.0), joined-more number named)
  party-more (parties.Peer word) named = (refl, named)

-- what an event says stays the same where clients join, and its numbers stay theirs
pub named-more : (links before : List Word) (clients more : List (Word × Bool)) (x : Event) → IsNamed links clients before x → (event_said links (clients ++ more) x ≡ event_said links clients x) × IsNamed links (clients ++ more) before x
named-more links before clients more (events.Joining number) named = (ap (λ (c : Word × Bool). event_said links (c ∷ []) (events.Joining 0)) (at-more clients more number ([], false) named), more-within clients more number named)
named-more links before clients more (events.Hub event) named = (refl, tt)
named-more links before clients more (events.Link number event) named = (refl, named)
named-more links before clients more (events.Call number call) named = (ap (λ (c : Word × Bool). event_said links (c ∷ []) (events.Call 0 call)) (at-more clients more number ([], false) named.0), joined-more before clients more number named)
named-more links before clients more (events.Passing number way) named = (ap (λ (c : Word × Bool). event_said links (c ∷ []) (events.Passing 0 way)) (at-more clients more number ([], false) named.0), joined-more before clients more number named)
named-more links before clients more (events.Client number event) named = (ap (λ (c : Word × Bool). event_said links (c ∷ []) (events.Client 0 event)) (at-more clients more number ([], false) named.0), joined-more before clients more number named)
named-more links before clients more (events.Session party event) named =
    let stays = party-more before clients more party named in
    (ap (λ (w : Word). session_event w event) stays.0, stays.1)

-- the client that joins, and its number
pub client-here : (clients : List (Word × Bool)) (c : Word × Bool) (more : List (Word × Bool)) → client_at (clients ++ c ∷ more) (length clients) ≡ c
client-here [] c more = refl
client-here (x ∷ xs) c more = client-here xs c more

pub few-here : (clients : List (Word × Bool)) (c : Word × Bool) (more : List (Word × Bool)) → length clients < length (clients ++ c ∷ more)
few-here [] c more = omega arith
few-here (x ∷ xs) c more = let rest = few-here xs c more in omega (arith, rest)

-- ---- a further event

pub follow-more : (links : List Word) (clients : List (Word × Bool)) (before : List Word) (happened : List Event) (x : Event) → Follow links clients before happened
    → IsNamed links clients (before ++ filter_map client_word (map (event_said links clients) happened)) x → Follow links clients before (happened ++ x ∷ [])
follow-more links clients before [] x follow named = (subst (λ (ws : List Word). IsNamed links clients ws x) (append-nil before) named, tt)
follow-more links clients before (e ∷ es) x follow named =
    let said = client_word (event_said links clients e) in
    let rest = filter_map client_word (map (event_said links clients) es) in
    let same : before ++ cons_option said rest ≡ (before ++ option_to_list said) ++ rest = ap (λ (ws : List Word). before ++ ws) (onto_words said rest) ∙ sym (append_assoc before (option_to_list said) rest) in
    (follow.0, follow-more links clients (then_joined links clients before e) es x follow.1 (subst (λ (ws : List Word). IsNamed links clients ws x) same named))

-- ---- what a word's number tells

module _ {X : Type 0} (p : X → Bool) where
  -- where one is found, it stands there
  at-found : (xs : List X) (n : ℕ) (d : X) → position p xs ≡ Some n → p (get_or xs n d) ≡ true
  at-found xs n d at = (let f = found_from p xs n at in ap (λ (ys : List X). p (get_or ys n d)) f.parts ∙ ap (λ (k : ℕ). p (get_or (f.before ++ f.here ∷ f.behind) k d)) (sym f.place) ∙ ap p (stands f.before f.here f.behind d) ∙ f.passes)
    where
      stands : (before : List X) (x : X) (behind : List X) (d : X) → get_or (before ++ x ∷ behind) (length before) d ≡ x
      stands [] x behind d = refl
      stands (y ∷ before) x behind d = stands before x behind d

  pub within-found : (xs : List X) (n : ℕ) → position p xs ≡ Some n → n < length xs
  within-found xs n at =
      let f = found_from p xs n at in
      subst (λ (k : ℕ). k < length xs) f.place (subst (λ (ys : List X). length f.before < length ys) (sym f.parts) (few f.before f.here f.behind))
    where
      few : (before : List X) (x : X) (behind : List X) → length before < length (before ++ x ∷ behind)
      few [] x behind = omega arith
      few (y ∷ before) x behind = let rest = few before x behind in omega (arith, rest)

  found : (xs : List X) (n : ℕ) → position p xs ≡ Some n → is_some (find p xs) ≡ true
  found xs n at = (let f = found_from p xs n at in ap (λ (ys : List X). is_some (find p ys)) f.parts ∙ ap is_some (find-here p f.before f.here f.behind f.first f.passes))

  missing : (xs : List X) → position p xs ≡ None → find p xs ≡ None
  missing xs none = find-none p xs (none_from p xs none)

  pub any-found : (xs : List X) (n : ℕ) → position p xs ≡ Some n → list_any p xs ≡ true
  any-found [] n at = absurd cc
  any-found (x ∷ xs) n at = by (p x) (position p xs) (any-found xs) (sym (position-cons p x xs) ∙ at)
    where
      by : (b : Bool) (o : Option ℕ) → ((i : ℕ) → o ≡ Some i → list_any p xs ≡ true) → cond b (Some 0) (option_map suc o) ≡ Some n → (b || list_any p xs) ≡ true
      by true o rest e = refl
      by false None rest e = absurd cc
      by false (Some i) rest e = rest i refl

  pub none-any : (xs : List X) → position p xs ≡ None → list_any p xs ≡ false
  none-any [] none = refl
  none-any (x ∷ xs) none = by (p x) (position p xs) (none-any xs) (sym (position-cons p x xs) ∙ none)
    where
      by : (b : Bool) (o : Option ℕ) → (o ≡ None → list_any p xs ≡ false) → cond b (Some 0) (option_map suc o) ≡ None → (b || list_any p xs) ≡ false
      by true o rest e = absurd cc
      by false None rest e = rest refl
      by false (Some i) rest e = absurd cc

is-some-map : {X Y : Type 0} (f : X → Y) (o : Option X) → is_some (option_map f o) ≡ is_some o
is-some-map f None = refl
is-some-map f (Some x) = refl

-- the word that has the number
pub link-word : (links : List Word) (w : Word) (number : ℕ) → position (bytes_eq w) links ≡ Some number → w ≡ link_at links number
link-word links w number at = same_word w (link_at links number) (at-found (bytes_eq w) links number [] at)

-- of a link
module _ (all links : List Word) (clients : List (Word × Bool)) (word : String Global) (event : LinkEvent) where
  pub numbered-link : (number : ℕ) → position (bytes_eq (string_bytes word)) links ≡ Some number → Numbered all links clients (event_lines.Link word event) (Some (events.Link number event))
  numbered-link number at =
      let same : string_bytes word ≡ link_at links number = link-word links (string_bytes word) number at in
      (any-found (bytes_eq (string_bytes word)) links number at, (ap (λ (w : Word). link_event w event) (sym same), subst (λ (w : Word). position (bytes_eq w) links ≡ Some number) same at))

  pub unnumbered-link : position (bytes_eq (string_bytes word)) links ≡ None → Numbered all links clients (event_lines.Link word event) None
  unnumbered-link none = none-any (bytes_eq (string_bytes word)) links none

-- of a client
module _ (clients : List (Word × Bool)) (w : Word) where
  abbrev is_it : Word × Bool → Bool
  is_it e = bytes_eq w e.0

  by-clients : (o : Option ℕ) → position (bytes_eq w) (words_known clients) ≡ o → position is_it clients ≡ o
  by-clients o at = sym (position-map (λ (e : Word × Bool). e.0) (bytes_eq w) clients) ∙ at

  pub seen : (number : ℕ) → position (bytes_eq w) (words_known clients) ≡ Some number → is_client_in clients w ≡ true
  seen number at = is-some-map (λ (e : Word × Bool). e.1) (find is_it clients) ∙ found is_it clients number (by-clients (Some number) at)

  pub unseen : position (bytes_eq w) (words_known clients) ≡ None → lone_in clients w ≡ None
  unseen none = ap (option_map (λ (e : Word × Bool). e.1)) (missing is_it clients (by-clients None none))

  pub client-word : (number : ℕ) → position (bytes_eq w) (words_known clients) ≡ Some number → w ≡ (client_at clients number).0
  client-word number at = same_word w (client_at clients number).0 (at-found is_it clients number ([], false) (by-clients (Some number) at))

  pub has-joined : (number : ℕ) → position (bytes_eq w) (words_known clients) ≡ Some number → HasJoined clients (words_known clients) number
  has-joined number at = (within-found is_it clients number (by-clients (Some number) at), subst (λ (v : Word). position (bytes_eq v) (words_known clients) ≡ Some number) (client-word number at) at)

  pub client-party : (number : ℕ) → position (bytes_eq w) (words_known clients) ≡ Some number → IsParty clients w (parties.Client number)
  client-party number at = (sym (client-word number at), has-joined number at)

-- of what happens to a client
module _ (all links : List Word) (clients : List (Word × Bool)) (word : String Global) where
  abbrev At : Option ℕ → Type 0
  At o = position (bytes_eq (string_bytes word)) (words_known clients) ≡ o

  named-client : (line : Word → ScriptLine) (number : ℕ) → At (Some number) → line (client_at clients number).0 ≡ line (string_bytes word)
  named-client line number at = ap line (sym (client-word clients (string_bytes word) number at))

  pub numbered-call : (call : Call) (number : ℕ) → At (Some number) → Numbered all links clients (event_lines.Call word call) (Some (events.Call number call))
  numbered-call call number at = (seen clients (string_bytes word) number at, (named-client (λ w. client_call w call) number at, has-joined clients (string_bytes word) number at))

  pub unnumbered-call : (call : Call) → At None → Numbered all links clients (event_lines.Call word call) None
  unnumbered-call call none = ap is_some (unseen clients (string_bytes word) none)

  pub numbered-passing : (way : Way) (number : ℕ) → At (Some number) → Numbered all links clients (event_lines.Passing word way) (Some (events.Passing number way))
  numbered-passing way number at = (seen clients (string_bytes word) number at, (named-client (λ w. client_passing w way) number at, has-joined clients (string_bytes word) number at))

  pub unnumbered-passing : (way : Way) → At None → Numbered all links clients (event_lines.Passing word way) None
  unnumbered-passing way none = ap is_some (unseen clients (string_bytes word) none)

  pub numbered-client : (event : ClientEvent) (number : ℕ) → At (Some number) → may_happen_to clients (string_bytes word) event ≡ true → Numbered all links clients (event_lines.Client word event) (Some (events.Client number event))
  numbered-client event number at may = (may, (named-client (λ w. client_event w event) number at, has-joined clients (string_bytes word) number at))

  pub unnumbered-client : (event : ClientEvent) → At None → Numbered all links clients (event_lines.Client word event) None
  unnumbered-client client_events.Open none = ap is_some (unseen clients (string_bytes word) none)
  unnumbered-client (client_events.Feed octets) none = ap (λ (o : Option Bool). elim o [ None ↦ false | Some is_lone ↦ is_lone ]) (unseen clients (string_bytes word) none)
  unnumbered-client (client_events.Show question written) none = ap is_some (unseen clients (string_bytes word) none)
