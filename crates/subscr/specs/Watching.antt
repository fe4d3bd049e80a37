-- Who watches a name: of each session how many of its questions have the name (RFC 8765, 6.2).
--     Watching, nobody      of each name and session how often it watches; nobody does
--     once_more, once_less      a session watches a name once more; once less
--     questions_of name asked      how many questions have the name
--     times session numbers, is_in session numbers      how often a number stands in a list, and whether it does
--     StandsOnceMore session before now, StandsOnceLess session before now      it stands there once more, or once less
--     watching_of noted      who watches, where at each name a session is noted for each of its questions
--     AreWatching watching name sessions      those that watch a name, each once, their numbers rising
use Rattle.std.specs.Prelude.{◌≡◌, ℕ, ◌+◌, ◌-◌, Bool, true, ◌&&◌, ◌==◌, List, [], ◌∷◌, count_by, nat_lt, if◌then◌else◌}
use Rattle.std.specs.List.{list_any}
use Rattle.dnsname.specs.Names.{Labels, same_name}
use Rattle.subscr.specs.Asked.{Asked}
use Rattle.subscr.specs.ByName.{noted_at}

abbrev pub Watching : Type 0
Watching = Labels → ℕ → ℕ

abbrev pub nobody : Watching
nobody name session = 0

-- it is this name but for case, and this session
abbrev pub is_watch : Labels → ℕ → Labels → ℕ → Bool
is_watch name session other another = same_name name other && session == another

abbrev pub once_more : Labels → ℕ → Watching → Watching
once_more name session watching = λ other another. if is_watch name session other another then watching other another + 1 else watching other another

-- where it doesn't watch, nothing changes
abbrev pub once_less : Labels → ℕ → Watching → Watching
once_less name session watching = λ other another. if is_watch name session other another then watching other another - 1 else watching other another

abbrev pub questions_of : Labels → Asked → ℕ
questions_of name asked = count_by (λ e. same_name e.1.name name) asked

abbrev pub times : ℕ → List ℕ → ℕ
times session numbers = count_by (λ s. s == session) numbers

abbrev pub is_in : ℕ → List ℕ → Bool
is_in session numbers = list_any (λ s. s == session) numbers

-- a number stands in a list once more than before, and each other one as often
abbrev pub StandsOnceMore : ℕ → List ℕ → List ℕ → Type 0
StandsOnceMore session before now = (another : ℕ) → times another now ≡ (if session == another then times another before + 1 else times another before)

-- once less, if it stood there
abbrev pub StandsOnceLess : ℕ → List ℕ → List ℕ → Type 0
StandsOnceLess session before now = (another : ℕ) → times another now ≡ (if session == another then times another before - 1 else times another before)

-- at each name that is watched the numbers of its sessions, one for each question
abbrev pub KeptWatching : Type 0
KeptWatching = List (Labels × List ℕ)

abbrev pub watching_of : KeptWatching → Watching
watching_of noted name session = times session (noted_at name noted)

-- numbers rise strictly
abbrev pub are_rising : List ℕ → Bool
are_rising [] = true
are_rising (n ∷ []) = true
are_rising (n ∷ m ∷ ns) = nat_lt n m && are_rising (m ∷ ns)

pub record AreWatching (watching : Watching) (name : Labels) (sessions : List ℕ) : Type 0 where
  pub rising : are_rising sessions ≡ true
  pub each : (session : ℕ) → is_in session sessions ≡ nat_lt 0 (watching name session)
