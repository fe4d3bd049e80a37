-- What became of a source.
--     Gave      what it gave, and what it has left
--     LostAtMost      it has lost no more than so many octets
--     LeftBehind      only what is behind a script too long is left
--     front_read octets, left_behind octets      what is read, and what is left
use Rattle.std.specs.Prelude.{◌≡◌, ◌≤◌, ⊤, ℕ, ◌+◌, List, take, drop, Some, None, IfSome}
use Rattle.std.specs.declared.option.Option.{Option}
use Rattle.std.specs.Io.KnownBytes.{append_known, prepend_known}
use Rattle.scripts.specs.Scripts.{max_script}

-- where a source tells them: what it has left lost some octets from its front, and what it gave grew by these
abbrev pub Gave : Option (List ℕ) → Option (List ℕ) → Option (List ℕ) → Option (List ℕ) → Type 0
Gave left left_now given given_now = (octets : List ℕ) × (left ≡ prepend_known octets left_now) × (given_now ≡ append_known given octets)

-- where a source tells it: what it has left lost no more than so many octets, from its front
abbrev pub LostAtMost : ℕ → Option (List ℕ) → Option (List ℕ) → Type 0
LostAtMost most left left_now = IfSome left (λ octets. (n : ℕ) × (n ≤ most) × (left_now ≡ Some (drop n octets)))

-- of the octets of a source, those that are read: all, or one more than a script may have
unfoldable pub front_read : List ℕ → List ℕ
front_read octets = take (max_script + 1) octets

-- those that are left
unfoldable pub left_behind : List ℕ → List ℕ
left_behind octets = drop (max_script + 1) octets

-- where the source told what it had, only what is behind a script too long is left
abbrev pub LeftBehind : Option (List ℕ) → Option (List ℕ) → Type 0
LeftBehind None now = ⊤
LeftBehind (Some octets) now = now ≡ Some (left_behind octets)
