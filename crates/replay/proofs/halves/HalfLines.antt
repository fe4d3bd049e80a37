-- What is left of one half of a script: lines, and the events that they are.
--     half-begins      so it is of a script
--     half-quiet, half-stays      a line that says nothing, and a world that changed by none of its lines
--     IsNext, next      the next event, where the next line happens
--     half-after      behind it
--     named-in      its numbers are those of clients and links as they are kept
use Rattle.std.proofs.Common.{◌≡◌, ℕ, Bool, true, false, not, cond, List, [], ◌∷◌, ◌++◌, map, sym, ◌∙◌, ap, subst, refl, append_assoc, append-nil}
use Rattle.std.specs.Prelude.{filter_map, option_to_list}
use Rattle.scripts.specs.Lines.{Word, ScriptLine}
use Rattle.scripts.specs.Scripts.{is_head, happening, client_word, AreDistinct}
use Rattle.scripts.specs.KeptLines.{words_of}
use Rattle.scripts.specs.Events.{known_clients, event_said, each_said, IsNamed, Follow}
use Rattle.scripts.specs.KeptScripts.{IsScript}
use Rattle.scripts.specs.declared.clients.KnownClient.{KnownClient}
use Rattle.scripts.specs.declared.event.Event.{Event}
use Rattle.scripts.specs.declared.script.Script.{Script}
use Rattle.scripts.proofs.lines.Numbers.{onto_words}
use Rattle.replay.specs.World.{Seat, World}
use Rattle.replay.specs.TextWords.{by_notices}
use Rattle.replay.specs.Text.{Printed, line_does}
use Rattle.replay.specs.declared.world.World as program
use Rattle.replay.specs.KeptScripts.{world_at_start}
use Rattle.replay.specs.KeptWorlds.{IsWorld, Seated, StandForSeats, seated, words_seated, words_in}
use Rattle.replay.specs.KeptTwoWorlds.{IsNamedIn, said_in}
use Rattle.replay.specs.KeptPlays.{IsHalf}
use Rattle.replay.proofs.worlds.Happening.{does-nothing}
use Rattle.replay.proofs.worlds.OneWorld.{one-world}
use Rattle.replay.proofs.worlds.SeatWords.{distinct-front, words-line, links-line}

-- the words of clients as they are kept are those of the world
words-kept : (seats : Seated) (plain : List Seat) → StandForSeats seats plain → words_seated seats ≡ map (λ (s : Seat). s.word) plain
words-kept [] [] s = refl
words-kept [] (p ∷ ps) s = absurd s
words-kept (k ∷ ks) [] s = absurd s
words-kept (k ∷ ks) (p ∷ ps) s = λ i. s.0.word i ∷ words-kept ks ps s.1 i

abbrev happening_with : ScriptLine → List ScriptLine → Bool → List ScriptLine
happening_with l ls b = cond (not b) (l ∷ happening ls) (happening ls)

abbrev head_of : ScriptLine → List ScriptLine → ScriptLine
head_of l [] = l
head_of l (m ∷ ms) = m

abbrev tail_of : List ScriptLine → List ScriptLine
tail_of [] = []
tail_of (m ∷ ms) = ms

pub half-begins : (lines : List ScriptLine) (script : Script) → IsScript lines script → IsHalf (words_of script.links.items) script.clients.items (world_at_start script) lines script.events.items
half-begins lines script is = record { says = is.events; distinct = is.distinct; links_are = refl; follow = is.follow }

module _ (links : List Word) (clients : List KnownClient) where
  abbrev Half : World → List ScriptLine → List Event → Type 0
  Half world lines happened = IsHalf links clients world lines happened

  abbrev saying : List Event → List ScriptLine
  saying happened = each_said links (known_clients clients) happened

  pub half-distinct : (world : World) (lines : List ScriptLine) (happened : List Event) → Half world lines happened → AreDistinct (words_in world)
  half-distinct world lines happened h = distinct-front (words_in world) (filter_map client_word (saying happened)) h.distinct

  -- the world's words are the same
  pub half-stays : (world later : World) (lines : List ScriptLine) (happened : List Event) → words_in later ≡ words_in world → later.links ≡ world.links → Half world lines happened → Half later lines happened
  half-stays world later lines happened words same h = record {
    says = h.says;
    distinct = subst (λ (ws : List Word). AreDistinct (ws ++ filter_map client_word (saying happened))) (sym words) h.distinct;
    links_are = same ∙ h.links_are;
    follow = subst (λ (ws : List Word). Follow links (known_clients clients) ws happened) (sym words) h.follow;
  }

  -- a line that says nothing
  pub half-quiet : (world : World) (l : ScriptLine) (ls : List ScriptLine) (happened : List Event) → is_head l ≡ true → Half world (l ∷ ls) happened → Half world ls happened
  half-quiet world l ls happened quiet h = record { says = sym (ap (happening_with l ls) quiet) ∙ h.says; distinct = h.distinct; links_are = h.links_are; follow = h.follow }

  -- the next event, which a line says
  pub record IsNext (l : ScriptLine) (ls : List ScriptLine) (world : World) (happened : List Event) : Type 0 where
    pub event : Event
    pub rest : List Event
    pub are : happened ≡ event ∷ rest
    pub said : event_said links (known_clients clients) event ≡ l
    pub others : happening ls ≡ saying rest
    pub named : IsNamed links (known_clients clients) (words_in world) event

  pub next : (world : World) (l : ScriptLine) (ls : List ScriptLine) (happened : List Event) → is_head l ≡ false → Half world (l ∷ ls) happened → IsNext l ls world happened
  next world l ls [] happens h = (let e : l ∷ happening ls ≡ [] = sym (ap (happening_with l ls) happens) ∙ h.says in absurd cc)
  next world l ls (event ∷ rest) happens h =
      let e : l ∷ happening ls ≡ event_said links (known_clients clients) event ∷ saying rest = sym (ap (happening_with l ls) happens) ∙ h.says in
      record { event = event; rest = rest; are = refl; said = sym (ap (head_of l) e); others = ap tail_of e; named = h.follow.0 }

  pub half-after : (world later : World) (l : ScriptLine) (ls : List ScriptLine) (event : Event) (rest : List Event) → event_said links (known_clients clients) event ≡ l → happening ls ≡ saying rest
      → later ≡ (line_does by_notices l world).0 → Half world (l ∷ ls) (event ∷ rest) → Half later ls rest
  half-after world later l ls event rest said others is h =
      let here : later ≡ (line_does by_notices (event_said links (known_clients clients) event) world).0 = is ∙ ap (λ (m : ScriptLine). (line_does by_notices m world).0) (sym said) in
      let line : ScriptLine = event_said links (known_clients clients) event in
      let one = here ∙ one-world by_notices line world in
      let joined : words_in later ≡ words_in world ++ option_to_list (client_word line) = ap words_in one ∙ words-line line world in
      record {
        says = others;
        distinct =
            subst AreDistinct
            (ap (λ (ws : List Word). words_in world ++ ws) (onto_words (client_word line) (filter_map client_word (saying rest)))
            ∙ sym (append_assoc (words_in world) (option_to_list (client_word line)) (filter_map client_word (saying rest)))
            ∙ ap (λ (ws : List Word). ws ++ filter_map client_word (saying rest)) (sym joined)) h.distinct;
        links_are = ap (λ (v : World). v.links) one ∙ links-line line world ∙ h.links_are;
        follow = subst (λ (ws : List Word). Follow links (known_clients clients) ws rest) (sym joined) h.follow.1;
      }

  pub named-in : (kept : program.World) (world : World) (event : Event) → IsWorld kept world → world.links ≡ links → IsNamed links (known_clients clients) (words_in world) event → IsNamedIn kept clients event
  named-in kept world event stands same named =
      subst (λ (ls : List Word). IsNamed ls (known_clients clients) (words_seated (seated kept.seats.items)) event) (sym (stands.links ∙ same))
      (subst (λ (ws : List Word). IsNamed links (known_clients clients) ws event) (sym (words-kept (seated kept.seats.items) world.seats stands.seats)) named)

  pub said-here : (kept : program.World) (world : World) (event : Event) → IsWorld kept world → world.links ≡ links → said_in kept clients event ≡ event_said links (known_clients clients) event
  said-here kept world event stands same = ap (λ (ls : List Word). event_said ls (known_clients clients) event) (stands.links ∙ same)
