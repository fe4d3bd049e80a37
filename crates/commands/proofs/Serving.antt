-- A server that is begun, by what the outside tells of it.
--     listens_any, hears_any, hears_none, hears_more, hears_through      where the server listened and heard
--     accepted_back, accepted_none      how many sessions doors accepted that were made and taken back
--     started_back, started_through      the jobs that a starter was handed that was made and taken back
--     mapped_turn, mapped_parts, addresses_kept, links_kept      the links, one behind the other, and as a configuration keeps them
--     less      what was done in full was done in part
--     serves_through, serves_listening      what is told, call by call
--     counted_as      the counts of which a register was told
--     raised_more, raised_all, caused, caused_through, has_cause      a count that rose where the server ended for a fault of the outside
--     tells_end, line_is      the text of the end
--     ended, ended_read, unread, starved, numbered      what is done for a configuration
--     serves-later, serves-read      the configuration was read before
--     serves_so, not-served, none-known      what a run answers, by what its words ask for
use Rattle.std.proofs.Common.{◌≡◌, ◌⊎◌, inl, inr, ⊎_elim, ℕ, ◌+◌, ◌-◌, ◌^◌, ◌≤◌, ◌<◌, zero, suc, length, Bool, true, false, Option, Some, None, Result, Ok, Err, List, [], ◌∷◌, ◌++◌, map, take, drop, get_or, string_bytes, refl, sym, ◌∙◌, ap, subst, arith, append_assoc, append-nil}
use Rattle.std.proofs.lemmas.Grind.{take_at_read}
use Rattle.std.proofs.lemmas.List.{map-append, take-append-drop}
use Rattle.std.specs.Prelude.{codes, nat_lt, ◌||◌}
use Rattle.push_base.specs.Causes.{Rose}
use Rattle.push_base.specs.Starter.{Jobs}
use Rattle.push_base.specs.declared.role.Role.{Role}
use Rattle.push_outside.specs.Outside.{Telling, Used, Adds, AddsTold, IsFresh, IsUnused, RaisedBy}
use Rattle.push_outside.specs.Opening.{TellsWords}
use Rattle.push_outside.specs.declared.outside.OpenFault.{OpenFault}
use Rattle.push_outside.specs.declared.outside.OpenFault.TheVariants.{Failed, NoMemory}
use Rattle.scripts.specs.Lines.{Word}
use Rattle.scripts.specs.Sources.{front_read}
use Rattle.scripts.specs.Words.{spaced, line}
use Rattle.scripts.specs.declared.outcome.Outcome.{Outcome}
use Rattle.scripts.specs.declared.outcome.Outcome.TheVariants as outcomes
use Rattle.scripts.specs.Outcomes.{status_of}
use Rattle.push_base.specs.Written.{IsFrontOf, Took}
use Rattle.configurations.specs.Configurations.{Serving, serving_of}
use Rattle.configurations.specs.Kept.{fed_links, serving_kept}
use Rattle.configurations.specs.declared.server_config.FedLink.{FedLink}
use Rattle.configurations.specs.declared.server_config.ServeConfiguration.{ServeConfiguration}
use Rattle.serving.specs.declared.serve_end.ServeEnd.{ServeEnd}
use Rattle.serving.specs.declared.serve_end.ServeEnd.TheVariants as ends
use Rattle.hublock.specs.Registers.{Ending}
use Rattle.hubloops.specs.declared.loop_end.LoopEnd.{LoopEnd}
use Rattle.serving.specs.Ends.{EndsFor, IsRegistered}
use Rattle.serving.specs.Jobs.{jobs_of}
use Rattle.serving.specs.Serving.{Accepts, CountsBy, CountsFault, Starts, has_fault, is_full_run}
use Rattle.serving.specs.declared.setup.Fed.{Fed}
use Rattle.serving.proofs.Handing.{starts_less}
use Rattle.commands.specs.Observed.{Observed, TellsNumber}
use Rattle.commands.specs.Runs.{MayBeOctets, MayHaveGiven}
use Rattle.commands.specs.Words.{Request, Serve}
use Rattle.commands.specs.Serving.{AddsAll, CountsAsTold, GivesBack, ListensBy, HearsBy, AcceptsBy, StartsBy, ServesBy, IsUnserved, HasCause, TellsEnd, TellsServer, Unread, Starved, Outside, Ended, Serves, IsServed, addresses, links, end_code, end_text}
use Rattle.commands.proofs.Running.{brought}
use Rattle.commands.proofs.Returning.{adds_none, adds_one, back-by-later, less_back}
use Rattle.commands.proofs.Following.{rose-before, told-read}

-- ---- each part

pub listens_any : (full : Bool) (address : Word) (before now : Option (List Word)) → Adds before now address → ListensBy full address before now
listens_any true address before now adds = adds
listens_any false address before now adds = inr adds

pub hears_any : (full : Bool) (all : List Word) (before now : Option (List Word)) → AddsAll before now all → HearsBy full all before now
hears_any true all before now adds = adds
hears_any false all before now adds = (all, [], sym (append-nil all), adds)

pub hears_none : (all : List Word) (before now : Option (List Word)) → now ≡ before → HearsBy false all before now
hears_none all before now same = ([], all, refl, subst (λ (words : Option (List Word)). AddsAll before words []) (sym same) (adds_none before))

-- behind a front of these
pub hears_more : (all front rest : List Word) (x : Word) (before mid now : Option (List Word)) → all ≡ front ++ x ∷ rest → AddsAll before mid front → (now ≡ mid) ⊎ Adds mid now x → HearsBy false all before now
hears_more all front rest x before mid now is so_far (inl same) = (front, x ∷ rest, is, subst (λ (words : Option (List Word)). AddsAll before words front) (sym same) so_far)
hears_more all front rest x before mid now is so_far (inr one) = (front ++ x ∷ [], rest, is ∙ sym (append_assoc front (x ∷ []) rest), adds_one before mid now front x so_far one)

-- doors that were made, used and taken back
counted_back : (count : ℕ) (start now : Option ℕ) (before after : Option (List ℕ)) → count ≤ 2 ^ 64 - 1 → IsUnused before start → CountsBy count start now → AddsTold before after now → AddsTold before after (Some count)
counted_back count start now None after few unused counts adds = adds
counted_back count start now (Some known) None few unused counts adds = tt
counted_back count start None (Some known) (Some told) few unused counts adds = absurd adds
counted_back count None (Some n) (Some known) (Some told) few unused counts adds = absurd cc
counted_back count (Some s) (Some n) (Some known) (Some told) few unused counts adds =
    let none : s ≡ 0 = cc unused in
    let is : n ≡ count = omega (arith, few, none, counts (omega (arith, none))) in
    adds ∙ ap (λ (c : ℕ). known ++ c ∷ []) is

pub accepted_back : (full : Bool) (sessions : ℕ) (start now : Option ℕ) (before after : Option (List ℕ)) → sessions ≤ 2 ^ 64 - 1 → IsUnused before start → Accepts full sessions start now → AddsTold before after now → AcceptsBy full sessions before after
accepted_back true sessions start now before after few unused counts adds = counted_back sessions start now before after few unused counts adds
accepted_back false sessions start now before after few unused (count, less, counts) adds = inr (count, less, counted_back count start now before after (omega (arith, few, less)) unused counts adds)

-- none was accepted
pub accepted_none : (sessions : ℕ) (told : Option ℕ) → Accepts false sessions told told
accepted_none sessions None = (0, omega arith, tt)
accepted_none sessions (Some n) = (0, omega arith, λ within. omega (arith, within))

-- a starter that was made, handed jobs, and taken back
pub started_back : (full : Bool) (turns : ℕ) (linked : List ℕ) (sessions : ℕ) (start now : Jobs) (before after : Option (List (List (Role × ℕ))))
    → IsFresh start → Starts full turns linked sessions start now → AddsTold before after now → StartsBy full turns linked sessions before after
started_back true turns linked sessions start now before after fresh (seats, are, tells) adds = (seats, are, told-read (Role × ℕ) start now before after (jobs_of turns linked seats) fresh tells adds)
started_back false turns linked sessions start now before after fresh (front, rest, is, tells) adds = inr (front, rest, is, told-read (Role × ℕ) start now before after front fresh tells adds)

-- where nothing else of this was told behind it
pub hears_through : (full : Bool) (all : List Word) (t0 t1 t2 t3 : Telling) → t2 ≡ t1 → t3 ≡ record t2 { links = t3.links; started = t3.started } → AddsAll t0.heard t1.heard all → HearsBy full all t0.heard t3.heard
hears_through full all t0 t1 t2 t3 same behind adds =
    subst (λ (words : Option (List Word)). HearsBy full all t0.heard words) (sym (ap (λ (t : Telling). t.heard) behind ∙ ap (λ (t : Telling). t.heard) same)) (hears_any full all t0.heard t1.heard adds)

-- where nothing else was told before and behind it
pub started_through : (full : Bool) (turns : ℕ) (linked : List ℕ) (sessions : ℕ) (start now : Jobs) (t0 t1 t2 t3 : Telling)
    → t1 ≡ t0 → t3 ≡ record t2 { links = t3.links } → IsFresh start → Starts full turns linked sessions start now → AddsTold t1.started t2.started now → StartsBy full turns linked sessions t0.started t3.started
started_through full turns linked sessions start now t0 t1 t2 t3 before behind fresh starts adds =
    subst (λ (t : Telling). StartsBy full turns linked sessions t.started t3.started) before
    (subst (λ (s : Option (List (List (Role × ℕ)))). StartsBy full turns linked sessions t1.started s) (sym (ap (λ (t : Telling). t.started) behind)) (started_back full turns linked sessions start now t1.started t2.started fresh starts adds))

-- ---- the links, one behind the other

pub mapped_turn : {X Y : Type 0} (f : X → Y) (xs : List X) (i : ℕ) (x : X) → i < length xs → x ≡ get_or xs i x → map f (take (i + 1) xs) ≡ map f (take i xs) ++ f x ∷ []
mapped_turn f xs i x before is = ap (λ l. map f l) ((take_at_read xs i x before).1) ∙ map-append f (take i xs) (get_or xs i x ∷ []) ∙ ap (λ y. map f (take i xs) ++ f y ∷ []) (sym is)

pub mapped_parts : {X Y : Type 0} (f : X → Y) (xs : List X) (i : ℕ) (x : X) → i < length xs → x ≡ get_or xs i x → map f xs ≡ map f (take i xs) ++ f x ∷ map f (drop (i + 1) xs)
mapped_parts f xs i x before is =
    ap (λ l. map f l) (sym (take-append-drop (i + 1) xs)) ∙ map-append f (take (i + 1) xs) (drop (i + 1) xs) ∙ ap (λ l. l ++ map f (drop (i + 1) xs)) (mapped_turn f xs i x before is)
    ∙ append_assoc (map f (take i xs)) (f x ∷ []) (map f (drop (i + 1) xs))

-- what is kept of a configuration
fed_addresses : (feeds : List FedLink) → map (λ feed. feed.1) (fed_links feeds) ≡ map (λ (f : FedLink). string_bytes f.address) feeds
fed_addresses [] = refl
fed_addresses (f ∷ feeds) = ap (λ l. string_bytes f.address ∷ l) (fed_addresses feeds)

fed_numbers : (feeds : List FedLink) → map (λ feed. feed.0) (fed_links feeds) ≡ map (λ (f : FedLink). f.link) feeds
fed_numbers [] = refl
fed_numbers (f ∷ feeds) = ap (λ l. f.link ∷ l) (fed_numbers feeds)

pub addresses_kept : (configuration : ServeConfiguration) (feeds : List FedLink) → feeds ≡ configuration.feeds.items → addresses (serving_kept configuration) ≡ map (λ (f : FedLink). string_bytes f.address) feeds
addresses_kept configuration feeds is = fed_addresses configuration.feeds.items ∙ ap (λ fs. map (λ (f : FedLink). string_bytes f.address) fs) (sym is)

pub links_kept : (configuration : ServeConfiguration) (feeds : List FedLink) → feeds ≡ configuration.feeds.items → links (serving_kept configuration) ≡ map (λ (f : FedLink). f.link) feeds
links_kept configuration feeds is = fed_numbers configuration.feeds.items ∙ ap (λ fs. map (λ (f : FedLink). f.link) fs) (sym is)

-- ---- all of it, call by call

-- the doors couldn't be opened
pub serves_listening : (A : Type 0) (before now : Telling) (configuration : Serving) (fault : OpenFault)
    → now ≡ record before { listened = now.listened } → TellsWords {A = A} before.listened now.listened (Err fault) configuration.listen → ServesBy false before now configuration
serves_listening A before now configuration fault same told = record {
  listened = listens-or fault told;
  heard = hears_none (addresses configuration) before.heard now.heard (ap (λ (t : Telling). t.heard) same);
  accepted = inl (ap (λ (t : Telling). t.accepted) same);
  started = inl (ap (λ (t : Telling). t.started) same);
}
  where
    listens-or : (fault : OpenFault) → TellsWords {A = A} before.listened now.listened (Err fault) configuration.listen → (now.listened ≡ before.listened) ⊎ Adds before.listened now.listened configuration.listen
    listens-or Failed told = inr told
    listens-or NoMemory told = inl told

-- the doors were opened, used and taken back
pub serves_through : (full : Bool) (t0 t1 t2 t3 : Telling) (start now : Option ℕ) (configuration : Serving) (heard : List Word) (linked : List ℕ)
    → t1 ≡ record t0 { listened = t1.listened } → Adds t0.listened t1.listened configuration.listen
    → t2 ≡ record t1 { heard = t2.heard; links = t2.links; started = t2.started } → t3 ≡ record t2 { accepted = t3.accepted }
    → addresses configuration ≡ heard → links configuration ≡ linked → configuration.sessions ≤ 2 ^ 64 - 1
    → IsUnused t0.accepted start → HearsBy full heard t1.heard t2.heard → Accepts full configuration.sessions start now
    → StartsBy full configuration.turns linked configuration.sessions t1.started t2.started → AddsTold t2.accepted t3.accepted now
    → ServesBy full t0 t3 configuration
serves_through full t0 t1 t2 t3 start now configuration heard linked e1 listens e2 e3 heard_is linked_is few unused hears accepts starts adds =
    let accepted_first : t2.accepted ≡ t0.accepted = ap (λ (t : Telling). t.accepted) e2 ∙ ap (λ (t : Telling). t.accepted) e1 in
    record {
      listened = listens_any full configuration.listen t0.listened t3.listened
          (subst (λ (l : Option (List Word)). Adds t0.listened l configuration.listen) (sym (ap (λ (t : Telling). t.listened) e3 ∙ ap (λ (t : Telling). t.listened) e2)) listens);
      heard = subst (λ (all : List Word). HearsBy full all t0.heard t3.heard) (sym heard_is)
          (subst (λ (b : Option (List Word)). HearsBy full heard b t3.heard) (ap (λ (t : Telling). t.heard) e1)
          (subst (λ (a : Option (List Word)). HearsBy full heard t1.heard a) (sym (ap (λ (t : Telling). t.heard) e3)) hears));
      accepted = accepted_back full configuration.sessions start now t0.accepted t3.accepted few unused accepts (subst (λ (b : Option (List ℕ)). AddsTold b t3.accepted now) accepted_first adds);
      started = subst (λ (ls : List ℕ). StartsBy full configuration.turns ls configuration.sessions t0.started t3.started) (sym linked_is)
          (subst (λ (b : Option (List (List (Role × ℕ)))). StartsBy full configuration.turns linked configuration.sessions b t3.started) (ap (λ (t : Telling). t.started) e1)
          (subst (λ (a : Option (List (List (Role × ℕ)))). StartsBy full configuration.turns linked configuration.sessions t1.started a) (sym (ap (λ (t : Telling). t.started) e3)) starts));
    }

-- what was done in full was done in part
pub less : (full : Bool) (before now : Telling) (configuration : Serving) → ServesBy full before now configuration → ServesBy false before now configuration
less false before now configuration all = all
less true before now configuration all = record {
  listened = inr all.listened;
  heard = hears_any false (addresses configuration) before.heard now.heard all.heard;
  accepted = inr (configuration.sessions, omega arith, all.accepted);
  started = inr (some-jobs all.started);
}
  where
    some-jobs : StartsBy true configuration.turns (links configuration) configuration.sessions before.started now.started
        → (front : List (Role × ℕ)) × (rest : List (Role × ℕ)) × (jobs_of configuration.turns (links configuration) configuration.sessions ≡ front ++ rest) × AddsTold before.started now.started (Some front)
    some-jobs (seats, are, adds) =
        let front = starts_less configuration.turns (links configuration) configuration.sessions (Some []) (Some (jobs_of configuration.turns (links configuration) seats)) (seats, are, refl) in
        (front.0, front.1, front.2, subst (λ (jobs : List (Role × ℕ)). AddsTold before.started now.started (Some jobs)) front.3 adds)

-- ---- a count that rose

rose_later : (a b c : ℕ) → b ≤ c → Rose a b → Rose a c
rose_later a b c later rose = omega (arith, later, rose)

pub caused : (f0 f1 d0 d1 o0 o1 o2 o3 : ℕ) (linked : Bool) → f0 ≡ 0 → o1 ≡ o0 → RaisedBy f1 o1 o2 → o2 ≤ o3 → (linked ≡ true → Rose o2 o3) → CountsFault f0 f1 d0 d1 linked → Rose d0 d1 ⊎ Rose o0 o3
caused f0 f1 d0 d1 o0 o1 o2 o3 linked none same raised later gave (inl starter) = inr (rose_later o0 o2 o3 later (brought f0 f1 o0 o1 o2 none same raised starter))
caused f0 f1 d0 d1 o0 o1 o2 o3 linked none same raised later gave (inr (inl doors)) = inl doors
caused f0 f1 d0 d1 o0 o1 o2 o3 linked none same raised later gave (inr (inr back)) = inr (rose-before o0 o2 o3 (omega (arith, same, raised.later)) (gave back))

one_of_two : (t u : Bool) → (t || u) ≡ true → (t ≡ true) ⊎ (u ≡ true)
one_of_two true u is = inl refl
one_of_two false u is = inr is

over-none : (n : ℕ) → nat_lt 0 n ≡ true → 0 < n
over-none zero is = absurd cc
over-none (suc n) is = omega arith

-- one more of these was taken back
pub raised_more : {G : Type 0} (count : G → ℕ) (fed : Fed G) (rest : List (Fed G)) (o0 o1 o2 : ℕ) → RaisedBy (count fed.datagrams) o1 o2 → o0 ≤ o1
    → (has_fault count (fed ∷ rest) ≡ true) ⊎ Rose o0 o1 → (has_fault count rest ≡ true) ⊎ Rose o0 o2
raised_more count fed rest o0 o1 o2 raised later (inr rose) = inr (rose_later o0 o1 o2 raised.later rose)
raised_more count fed rest o0 o1 o2 raised later (inl is) =
    ⊎_elim (λ one. inr (rose-before o0 o1 o2 later (raised.rose (over-none (count fed.datagrams) one)))) (λ others. inl others) (one_of_two (nat_lt 0 (count fed.datagrams)) (has_fault count rest) is)

pub raised_all : {G : Type 0} (count : G → ℕ) (rest : List (Fed G)) (o0 o1 : ℕ) → length rest ≡ 0 → (has_fault count rest ≡ true) ⊎ Rose o0 o1 → Rose o0 o1
raised_all count [] o0 o1 none (inl is) = absurd cc
raised_all count (fed ∷ rest) o0 o1 none raised = absurd cc
raised_all count [] o0 o1 none (inr rose) = rose

pub caused_through : (E : Type 0) (d0 d1 o0 o1 o2 o3 : ℕ) → d0 ≡ 0 → o1 ≡ o0 → o1 ≤ o2 → RaisedBy d1 o2 o3 → (E → Rose d0 d1 ⊎ Rose o1 o2) → E → Rose o0 o3
caused_through E d0 d1 o0 o1 o2 o3 none same later raised causes e =
    ⊎_elim
    (λ doors. rose-before o0 o2 o3 (omega (arith, same, later)) (raised.rose (omega (arith, none, doors))))
    (λ other. subst (λ (o : ℕ). Rose o o3) same (rose_later o1 o2 o3 raised.later other))
    (causes e)

pub has_cause : (before now : ℕ) (end : ServeEnd) → (end ≡ ends.OutsideFault → Rose before now) → HasCause before now end
has_cause before now ends.OutsideFault causes = causes refl
has_cause before now ends.NoMemory causes = tt
has_cause before now (ends.Served totals) causes = tt

-- the counts of which a register was told are those of the end
pub counted_as : (end : ServeEnd) (loops : List LoopEnd) (before now : Option (List Ending)) (F : Type 0) → IsRegistered end loops before now → EndsFor end loops F → CountsAsTold before now end
counted_as (ends.Served totals) loops before now F told ended = (loops, told, ended.0, ended.1)
counted_as ends.OutsideFault loops before now F told ended = tt
counted_as ends.NoMemory loops before now F told ended = tt

-- ---- the text of the end

-- what was told of a text
abbrev pub SaidText : {A : Type 0} → Option (List ℕ) → Option (List ℕ) → A → A → A → List ℕ → Type 0
SaidText before now told cut result text = Took before now (λ wrote. ((result ≡ told) × (wrote ≡ text)) ⊎ ((result ≡ cut) × IsFrontOf wrote text))

pub tells_end : (A : Type 0) (number_of : A → ℕ) (said cut result : A) (before now : Option (List ℕ)) (sessions : ℕ) (end told : ServeEnd) (text : List ℕ)
    → number_of said ≡ end_code told → number_of cut ≡ status_of outcomes.WriteFault → text ≡ end_text sessions told → (told ≡ end) ⊎ (told ≡ ends.NoMemory)
    → SaidText before now said cut result text → TellsEnd before now sessions end (number_of result)
tells_end A number_of said cut result before now sessions end told text code_is cut_is text_is how took = (
  told,
  how,
  (
    took.0,
    took.1,
    ⊎_elim (λ whole. inl (ap number_of whole.0 ∙ code_is, whole.1 ∙ text_is)) (λ short. inr (ap number_of short.0 ∙ cut_is, subst (λ (t : List ℕ). IsFrontOf took.0 t) text_is short.1)) took.2,
  ),
)

pub line_is : (a b c d : List ℕ) → codes "served " ++ (a ++ (codes " changes " ++ (b ++ (codes " heard " ++ (c ++ (codes " moments " ++ (d ++ 10 ∷ [])))))))
    ≡ line (spaced (codes "served" ∷ a ∷ codes "changes" ∷ b ∷ codes "heard" ∷ c ∷ codes "moments" ∷ d ∷ []))
line_is a b c d =
    let end = 10 ∷ [] in
    let moments = codes " moments " ++ d in
    let heard = codes " heard " ++ (c ++ moments) in
    let changes = codes " changes " ++ (b ++ heard) in
    sym (ap (λ l. codes "served " ++ l) (
    append_assoc a changes end
    ∙ ap (λ l. a ++ (codes " changes " ++ l)) (append_assoc b heard end ∙ ap (λ l. b ++ (codes " heard " ++ l)) (append_assoc c moments end))
    ))

-- ---- what is done for a configuration

pub ended : (before now : Observed) (Counts : ServeEnd → Type 0) (configuration : Serving) (end : ServeEnd) (status : ℕ) → Counts ends.NoMemory → Counts end → ServesBy (is_full_run end) before.told now.told configuration
    → GivesBack (is_full_run end) before.told now.told before.others now.others configuration → HasCause before.others now.others end
    → TellsEnd before.printed now.printed configuration.sessions end status → Serves before now Counts (Ok configuration) status
unfolding Serves
ended before now Counts configuration end status less_told counted served back cause (told, how, said) =
    let tells : (s : ℕ) (text : List ℕ) → s ≡ end_code told → text ≡ end_text configuration.sessions told → TellsServer before now Counts (Ok configuration) s text =
    λ s text s_is text_is. Ended configuration told refl (served-told how) (back-told how) (cause-told how) (counts-told how) s_is text_is in (
      said.0,
      said.1,
      ⊎_elim
          (λ whole. inl (tells status said.0 whole.0 whole.1))
          (λ short. inr (short.0, end_code told, end_text configuration.sessions told, tells (end_code told) (end_text configuration.sessions told) refl refl, short.1))
          said.2,
    )
  where
    served-told : (told ≡ end) ⊎ (told ≡ ends.NoMemory) → ServesBy (is_full_run told) before.told now.told configuration
    served-told (inl same) = subst (λ (e : ServeEnd). ServesBy (is_full_run e) before.told now.told configuration) (sym same) served
    served-told (inr starved) = subst (λ (e : ServeEnd). ServesBy (is_full_run e) before.told now.told configuration) (sym starved) (less (is_full_run end) before.told now.told configuration served)

    back-told : (told ≡ end) ⊎ (told ≡ ends.NoMemory) → GivesBack (is_full_run told) before.told now.told before.others now.others configuration
    back-told (inl same) = subst (λ (e : ServeEnd). GivesBack (is_full_run e) before.told now.told before.others now.others configuration) (sym same) back
    back-told (inr starved) =
        subst (λ (e : ServeEnd). GivesBack (is_full_run e) before.told now.told before.others now.others configuration) (sym starved)
        (less_back (is_full_run end) before.told now.told before.others now.others configuration back)

    cause-told : (told ≡ end) ⊎ (told ≡ ends.NoMemory) → HasCause before.others now.others told
    cause-told (inl same) = subst (λ (e : ServeEnd). HasCause before.others now.others e) (sym same) cause
    cause-told (inr starved) = subst (λ (e : ServeEnd). HasCause before.others now.others e) (sym starved) tt

    counts-told : (told ≡ end) ⊎ (told ≡ ends.NoMemory) → Counts told
    counts-told (inl same) = subst Counts (sym same) counted
    counts-told (inr starved) = subst Counts (sym starved) less_told

-- where the configuration was read so
pub ended_read : (read : Result Serving ℕ) (before now : Observed) (Counts : ServeEnd → Type 0) (configuration : Serving) (end : ServeEnd) (status : ℕ) → read ≡ Ok configuration → Counts ends.NoMemory → Counts end → ServesBy (is_full_run end) before.told now.told configuration
    → GivesBack (is_full_run end) before.told now.told before.others now.others configuration → HasCause before.others now.others end → TellsEnd before.printed now.printed configuration.sessions end status → Serves before now Counts read status
ended_read read before now Counts configuration end status is less_told counted served back cause tells = subst (λ (r : Result Serving ℕ). Serves before now Counts r status) (sym is) (ended before now Counts configuration end status less_told counted served back cause tells)

-- nothing was told between
pub unserved : (before now : Telling) → now ≡ before → IsUnserved before now
unserved before now same = record {
  listened = ap (λ (t : Telling). t.listened) same;
  heard = ap (λ (t : Telling). t.heard) same;
  accepted = ap (λ (t : Telling). t.accepted) same;
  started = ap (λ (t : Telling). t.started) same;
}

-- nor by the source of a configuration
pub unserved_reading : (before now : Telling) → now ≡ record before { opened = now.opened; used = now.used } → IsUnserved before now
unserved_reading before now same = record {
  listened = ap (λ (t : Telling). t.listened) same;
  heard = ap (λ (t : Telling). t.heard) same;
  accepted = ap (λ (t : Telling). t.accepted) same;
  started = ap (λ (t : Telling). t.started) same;
}

-- a text was told, or a write of it failed
told_so : (told result : Outcome) (before now : Observed) (Counts : ServeEnd → Type 0) (read : Result Serving ℕ) (text : List ℕ)
    → TellsServer before now Counts read (status_of told) text → SaidText before.printed now.printed told outcomes.WriteFault result text → Serves before now Counts read (status_of result)
unfolding Serves
told_so told result before now Counts read text is said = (
  said.0,
  said.1,
  ⊎_elim
      (λ whole. inl (subst (λ (r : Outcome). TellsServer before now Counts read (status_of r) said.0) (sym whole.0) (subst (λ (w : List ℕ). TellsServer before now Counts read (status_of told) w) (sym whole.1) is)))
      (λ short. inr (ap status_of short.0, status_of told, text, is, short.1))
      said.2,
)

pub numbered : (result : Outcome) (before now : Observed) (Counts : ServeEnd → Type 0) (read : Result Serving ℕ) (number : ℕ) → now.told ≡ before.told → read ≡ Err number
    → TellsNumber before.printed now.printed number result → Serves before now Counts read (status_of result)
numbered result before now Counts read number same is (told, text, inl (told_is, text_is), took) =
    told_so told result before now Counts read text (Outside number is (unserved before.told now.told same) (ap status_of told_is) text_is) took
numbered result before now Counts read number same is (told, text, inr (told_is, text_is), took) =
    told_so told result before now Counts read text (Starved (unserved before.told now.told same) (ap status_of told_is) text_is) took

pub starved : (result : Outcome) (before now : Observed) (Counts : ServeEnd → Type 0) (read : Result Serving ℕ) → IsUnserved before.told now.told
    → SaidText before.printed now.printed outcomes.NoMemory outcomes.WriteFault result (line (codes "no memory")) → Serves before now Counts read (status_of result)
starved result before now Counts read same said = told_so outcomes.NoMemory result before now Counts read (line (codes "no memory")) (Starved same refl refl) said

pub unread : (result : Outcome) (before now : Observed) (Counts : ServeEnd → Type 0) (read : Result Serving ℕ) → IsUnserved before.told now.told → Rose before.reads now.reads
    → SaidText before.printed now.printed outcomes.ReadFault outcomes.WriteFault result (line (codes "read fault")) → Serves before now Counts read (status_of result)
unread result before now Counts read same rose said = told_so outcomes.ReadFault result before now Counts read (line (codes "read fault")) (Unread rose same refl refl) said

-- ---- the configuration was read before

-- the counterpart of `record t0 { opened; used }` in each part
serves-by-later : (full : Bool) (t0 t1 t : Telling) (configuration : Serving) → t1 ≡ record t0 { opened = t1.opened; used = t1.used } → ServesBy full t1 t configuration → ServesBy full t0 t configuration
serves-by-later full t0 t1 t configuration e h = record {
  listened = subst (λ (l : Option (List Word)). ListensBy full configuration.listen l t.listened) (ap (λ (x : Telling). x.listened) e) h.listened;
  heard = subst (λ (l : Option (List Word)). HearsBy full (addresses configuration) l t.heard) (ap (λ (x : Telling). x.heard) e) h.heard;
  accepted = subst (λ (l : Option (List ℕ)). AcceptsBy full configuration.sessions l t.accepted) (ap (λ (x : Telling). x.accepted) e) h.accepted;
  started = subst (λ (l : Option (List (List (Role × ℕ)))). StartsBy full configuration.turns (links configuration) configuration.sessions l t.started) (ap (λ (x : Telling). x.started) e) h.started;
}

unserved-later : (t0 t1 t : Telling) → t1 ≡ record t0 { opened = t1.opened; used = t1.used } → IsUnserved t1 t → IsUnserved t0 t
unserved-later t0 t1 t e h = record {
  listened = h.listened ∙ ap (λ (x : Telling). x.listened) e;
  heard = h.heard ∙ ap (λ (x : Telling). x.heard) e;
  accepted = h.accepted ∙ ap (λ (x : Telling). x.accepted) e;
  started = h.started ∙ ap (λ (x : Telling). x.started) e;
}

cause-later : (o0 o1 o : ℕ) (end : ServeEnd) → o1 ≡ o0 → HasCause o1 o end → HasCause o0 o end
cause-later o0 o1 o end same h = subst (λ (n : ℕ). HasCause n o end) same h

tells-later : (t0 t1 t : Telling) (printed printed_now : Option (List ℕ)) (r0 r1 r o0 o1 o : ℕ) (Counts : ServeEnd → Type 0) (read : Result Serving ℕ) (status : ℕ) (text : List ℕ)
    → t1 ≡ record t0 { opened = t1.opened; used = t1.used } → r0 ≤ r1 → o1 ≡ o0
    → TellsServer (record { told = t1; printed = printed; reads = r1; others = o1 }) (record { told = t; printed = printed_now; reads = r; others = o }) Counts read status text
    → TellsServer (record { told = t0; printed = printed; reads = r0; others = o0 }) (record { told = t; printed = printed_now; reads = r; others = o }) Counts read status text
tells-later t0 t1 t printed printed_now r0 r1 r o0 o1 o Counts read status text e later same (Unread came none is words) = Unread (rose-before r0 r1 r later came) (unserved-later t0 t1 t e none) is words
tells-later t0 t1 t printed printed_now r0 r1 r o0 o1 o Counts read status text e later same (Starved none is words) = Starved (unserved-later t0 t1 t e none) is words
tells-later t0 t1 t printed printed_now r0 r1 r o0 o1 o Counts read status text e later same (Outside number read_is none is words) = Outside number read_is (unserved-later t0 t1 t e none) is words
tells-later t0 t1 t printed printed_now r0 r1 r o0 o1 o Counts read status text e later same (Ended configuration end read_is served back cause counted is words) =
    Ended configuration end read_is (serves-by-later (is_full_run end) t0 t1 t configuration e served) (back-by-later (is_full_run end) t0 t1 t o0 o1 o configuration e same back) (cause-later o0 o1 o end same cause) counted is words

-- the octets that were read are those of the source
pub serves-read : (t0 t1 t : Telling) (printed printed_now : Option (List ℕ)) (r0 r1 r o0 o1 o : ℕ) (Counts : ServeEnd → Type 0) (had octets : List ℕ) (status : ℕ)
    → t1 ≡ record t0 { opened = t1.opened; used = t1.used } → r0 ≤ r1 → o1 ≡ o0 → had ≡ front_read octets
    → Serves (record { told = t1; printed = printed; reads = r1; others = o1 }) (record { told = t; printed = printed_now; reads = r; others = o }) Counts (serving_of had) status
    → Serves (record { told = t0; printed = printed; reads = r0; others = o0 }) (record { told = t; printed = printed_now; reads = r; others = o }) Counts (serving_of (front_read octets)) status
unfolding Serves
serves-read t0 t1 t printed printed_now r0 r1 r o0 o1 o Counts had octets status e later same is h =
    let later-told : (s : ℕ) (text : List ℕ)
    → TellsServer (record { told = t1; printed = printed; reads = r1; others = o1 }) (record { told = t; printed = printed_now; reads = r; others = o }) Counts (serving_of had) s text
    → TellsServer (record { told = t0; printed = printed; reads = r0; others = o0 }) (record { told = t; printed = printed_now; reads = r; others = o }) Counts (serving_of (front_read octets)) s text =
    λ s text told.
    subst (λ l. TellsServer (record { told = t0; printed = printed; reads = r0; others = o0 }) (record { told = t; printed = printed_now; reads = r; others = o }) Counts (serving_of l) s text) is
    (tells-later t0 t1 t printed printed_now r0 r1 r o0 o1 o Counts (serving_of had) s text e later same told) in (
      h.0,
      h.1,
      ⊎_elim
          (λ whole. inl (later-told status h.0 whole))
          (λ short. inr (short.0, short.1, short.2, later-told short.1 short.2 short.3, short.4))
          h.2,
    )

-- ---- what a run answers, by what its words ask for

pub serves_so : (request : Option Request) (path : List ℕ) (before now : Observed) (Counts : ServeEnd → Type 0) (number code : ℕ) (octets : List ℕ) → Some (Serve path) ≡ request → code ≡ number
    → (MayHaveGiven before.told.used now.told.used octets → Serves before now Counts (serving_of (front_read octets)) number) → IsServed request before now Counts code octets
serves_so request path before now Counts number code octets is code_is h =
    subst (λ r. IsServed r before now Counts code octets) is (subst (λ n. IsServed (Some (Serve path)) before now Counts n octets) (sym code_is) h)

-- where something else is asked for, nothing is owed
pub not-served : (request known : Option Request) (before now : Observed) (Counts : ServeEnd → Type 0) (code : ℕ) (octets : List ℕ) → known ≡ request → IsServed known before now Counts code octets → IsServed request before now Counts code octets
not-served request known before now Counts code octets is h = subst (λ r. IsServed r before now Counts code octets) is h

-- of a server's source nothing is told by which a reply is named
pub none-known : (request : Option Request) (path : List ℕ) (input : Option (List ℕ)) (before now : Option (List Used)) (octets : List ℕ) → Some (Serve path) ≡ request → MayBeOctets request input before now octets → ⊥
none-known request path input before now octets is may = subst (λ r. MayBeOctets r input before now octets) (sym is) may
