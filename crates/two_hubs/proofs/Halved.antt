-- A script of two hubs is, to each of them, a script of one.
--     halves      each of the two worlds is that of its own lines: by definition, line by line
--     near-lines      the lines of the first half are those of a script
--     far-follows      those of the second may stand where they stand
use Rattle.std.proofs.Common.{◌≡◌, ℕ, suc, ◌≤◌, Bool, true, false, cond, not, ◌&&◌, List, [], ◌∷◌, length, Option, Some, None, refl, sym, ap, subst, ◌∙◌}
use Rattle.std.specs.Prelude.{option_map}
use Rattle.std.specs.List.{AllByRecursion}
use Rattle.push_base.specs.Optional.{◌>>=◌}
use Rattle.scripts.specs.Lines.{Word, silent}
use Rattle.scripts.specs.Scripts.{Known, fits}
use Rattle.replay.specs.TextWords.{by_history}
use Rattle.script_laws.specs.Lines.{IsRead, Follow}
use Rattle.scripts.specs.WholeLines.{WholeLine, one, far_zone, far_client, carry, near_of, far_of, names_far, is_far_in, fars_behind}
use Rattle.scripts.specs.WholeScripts.{Carrier, BothKnown, none_known, may_follow_both, both_behind, fits_both, is_whole_head, has_far_behind, near_lines_from, far_heads_from}
use Rattle.replay.specs.TwoWorlds.{lines_do}
use Rattle.two_hubs.specs.HalfLaws.{HalvesAreWorlds, FollowBoth, IsReadWhole, NearAreLines, FarHeadsFollow}

pub halves : HalvesAreWorlds
halves [] worlds = (refl, refl)
halves (line ∷ lines) worlds = halves lines (lines_do by_history line worlds).0

-- ---- what each hub allows

pub record Parts (all : List Word) (carriers : List Carrier) (known later : BothKnown) (line : WholeLine) : Type 0 where
  pub may : may_follow_both carriers known line ≡ true
  pub in_head : later.in_head ≡ (known.in_head && is_whole_head line)
  pub near : fits all known.near (near_of (is_far_in known.fars) line) ≡ Some later.near
  pub far : fits all known.far (far_of (is_far_in known.fars) line) ≡ Some later.far
  pub fars : later.fars ≡ fars_behind known.fars line
  pub has_far : later.has_far ≡ has_far_behind known.has_far line

pub parts : (all : List Word) (carriers : List Carrier) (known later : BothKnown) (line : WholeLine) → fits_both all carriers known line ≡ Some later → Parts all carriers known later line
parts all carriers known later line e =
    by (may_follow_both carriers known line) (fits all known.near (near_of (is_far_in known.fars) line)) (fits all known.far (far_of (is_far_in known.fars) line)) refl refl refl e
  where
    by : (b : Bool) (n f : Option Known) → may_follow_both carriers known line ≡ b → fits all known.near (near_of (is_far_in known.fars) line) ≡ n → fits all known.far (far_of (is_far_in known.fars) line) ≡ f
        → cond {A = Option BothKnown} (not b) None (n >>= λ near. option_map (both_behind known line near) f) ≡ Some later → Parts all carriers known later line
    by false n f m p q e = absurd cc
    by true None f m p q e = absurd cc
    by true (Some near) None m p q e = absurd cc
    by true (Some near) (Some far) m p q e =
        let is : both_behind known line near far ≡ later = cc in
        record { may = m; in_head = sym (ap (λ (k : BothKnown). k.in_head) is); near = p ∙ ap (λ (k : BothKnown). Some k.near) is; far = q ∙ ap (λ (k : BothKnown). Some k.far) is; fars = sym (ap (λ (k : BothKnown). k.fars) is); has_far = sym (ap (λ (k : BothKnown). k.has_far) is) }

near-follows : (all : List Word) (carriers : List Carrier) (known : BothKnown) (lines : List WholeLine) → FollowBoth all carriers known lines → Follow all known.near (near_lines_from known.fars lines)
near-follows all carriers known [] f = tt
near-follows all carriers known (line ∷ lines) f =
    let p = parts all carriers known f.0 line f.1 in
    (f.0.near, p.near, subst (λ (fars : List Word). Follow all f.0.near (near_lines_from fars lines)) p.fars (near-follows all carriers f.0 lines f.2))

far-follow : (all : List Word) (carriers : List Carrier) (known : BothKnown) (lines : List WholeLine) → FollowBoth all carriers known lines → Follow all known.far (far_heads_from known.fars lines)
far-follow all carriers known [] f = tt
far-follow all carriers known (line ∷ lines) f =
    let p = parts all carriers known f.0 line f.1 in
    (f.0.far, p.far, subst (λ (fars : List Word). Follow all f.0.far (far_heads_from fars lines)) p.fars (far-follow all carriers f.0 lines f.2))

-- ---- what was read

pub silent-read : (all : List Word) → IsRead all silent
silent-read all = record { within = tt; named = λ w e. absurd cc }

near-read : (all : List Word) (is_far : Word → Bool) (line : WholeLine) → IsReadWhole all line → IsRead all (near_of is_far line)
near-read all is_far (one line) h = by (names_far is_far line)
  where
    by : (b : Bool) → IsRead all (cond b silent line)
    by true = silent-read all
    by false = record { within = h.within; named = h.named }
near-read all is_far (far_zone apex serial) h = silent-read all
near-read all is_far (far_client w) h = silent-read all
near-read all is_far (carry w name written) h = record { within = ap (λ (b : Bool). b && true && true) h.within; named = λ v e. absurd cc }

near-reads : (all fars : List Word) (lines : List WholeLine) → AllByRecursion (IsReadWhole all) lines → AllByRecursion (IsRead all) (near_lines_from fars lines)
near-reads all fars [] h = tt
near-reads all fars (line ∷ lines) h = (near-read all (is_far_in fars) line h.0, near-reads all (fars_behind fars line) lines h.1)

near-length : (fars : List Word) (lines : List WholeLine) → length (near_lines_from fars lines) ≡ length lines
near-length fars [] = refl
near-length fars (line ∷ lines) = ap suc (near-length (fars_behind fars line) lines)

-- ---- the halves

pub near-lines : NearAreLines
near-lines script are = record {
  all = are.all;
  words = are.words;
  follow = near-follows are.all are.carriers none_known script are.follow;
  read = near-reads are.all [] script are.read;
  few = subst (λ (n : ℕ). n ≤ 16777216) (sym (near-length [] script)) are.few;
}

pub far-follows : FarHeadsFollow
far-follows script are = far-follow are.all are.carriers none_known script are.follow
