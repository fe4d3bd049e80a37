-- Along the lines of a script the second hub has at each name what was carried.
--     rows-along
use Rattle.std.proofs.Common.{◌≡◌, ℕ, ◌+◌, ◌==◌, ◌&&◌, ◌≤◌, Bool, true, false, List, [], ◌∷◌, ◌++◌, length, Option, Some, None, Result, Ok, Err, refl, sym, ◌∙◌, ap, subst, append_assoc, append-nil, arith}
use Rattle.std.specs.Prelude.{if◌then◌else◌}
use Rattle.std.specs.List.{AllByRecursion}
use Rattle.std.proofs.lemmas.List.{length-append}
use Rattle.coalesce.proofs.Packing.{each-front}
use Rattle.dnsname.specs.Names.{Labels, IsName, same_name}
use Rattle.dnsname.proofs.Decisions.{is_name-Decides}
use Rattle.dnswire.specs.Writing.{update_octets}
use Rattle.dnswire.specs.declared.message.Update.{Update}
use Rattle.dsotlv.proofs.Results.{same_found}
use Rattle.rrset.specs.RecordSet.{RecordSet, at_name}
use Rattle.zoneupdate.specs.Zones.{new_zone}
use Rattle.zoneupdate.proofs.NewZone.{kept-new}
use Rattle.history.specs.States.{State, after, verdict, state_at, records_at}
use Rattle.history.specs.declared.entry.Entry.{Entry}
use Rattle.history.specs.declared.entry.Entry.TheVariants as entries
use Rattle.pushserver.specs.Hubs as hubs
use Rattle.pushserver.specs.Hubs.{newest, state_now, can_enter}
use Rattle.pushserver.specs.PlainHubs.{Hub}
use Rattle.pushserver.specs.Rows.{IsTellable}
use Rattle.pushserver.proofs.hub_steps.Cases.{enters_update, update_as}
use Rattle.pushserver.proofs.told_rows.Histories.{state_at-last}
use Rattle.relay.specs.Relay.{carrying}
use Rattle.relay.specs.declared.relay.Relayed.{Relayed}
use Rattle.relay.specs.declared.relay.Relayed.TheVariants.{Apex, Outside, Unfit, Message}
use Rattle.scripts.specs.Heads.{empty_head}
use Rattle.scripts.specs.Lines.{Word, ScriptLine}
use Rattle.scripts.specs.Scripts.{is_among, fits as fits_one}
use Rattle.scripts.specs.WholeLines.{WholeLine, one, far_zone, far_client, carry, all_at, far_of, is_far_in}
use Rattle.scripts.specs.WholeScripts.{none_known, apex_in, fars_of}
use Rattle.replay.specs.LineCalls.{line_calls}
use Rattle.replay.specs.World.{World}
use Rattle.replay.specs.HeldPoints.{point_at}
use Rattle.replay.specs.TextWords.{by_history}
use Rattle.replay.specs.Text.{line_does}
use Rattle.replay.specs.TwoWorlds.{Worlds, start_worlds, near_line_at, far_line_at, carry_of, line_of_relayed, lines_do, worlds_after}
use Rattle.script_laws.specs.Reached.{IsReached}
use Rattle.script_laws.proofs.calls.Lines.{lines-are-calls}
use Rattle.script_laws.proofs.hubs.Reaching.{points-rise}
use Rattle.script_laws.proofs.hubs.Sound.{reached-sound}
use Rattle.two_hubs.specs.Carrying.{Good, is_taken, good_with, goods_of, goods_from}
use Rattle.two_hubs.specs.HalfLaws.{FollowBoth, IsReadWhole, AreWholeLines}
use Rattle.two_hubs.proofs.Carriable.{asked-is}
use Rattle.two_hubs.proofs.CarriedRows.{RowsAre, near-grows, moment-comes, carry-comes}
use Rattle.two_hubs.proofs.FarHeads.{AtLine, IsFarHead, far-head, at-line, fars-among, far-among}
use Rattle.two_hubs.proofs.FarLines.{IsOwn, own-line, Makes, nothing, moment, line-makes}
use Rattle.two_hubs.proofs.FarStates.{IsFarState, records-are, rows-set, start-rows, not-zero}
use Rattle.two_hubs.proofs.Growing.{Grew, calls-grow, Unlinked}
use Rattle.two_hubs.proofs.Halved.{parts}
use Rattle.two_hubs.proofs.WorldsAlong.{IsStanding, worlds-behind, fars-are, near-stands, far-stands, apex-stays, apex-named}
use Rattle.two_hubs.proofs.Written.{apex-short, IsSetAt, held-set, set-carriable, IsRelayed, relays-so, carries-written}

-- ---- hubs behind lines

grew-line : (line : ScriptLine) (world : World) → Grew world.hub (line_does by_history line world).0.hub
grew-line line world = subst (Grew world.hub) (sym (lines-are-calls line world)) (calls-grow world.hub (line_calls line world))

rise-line : (line : ScriptLine) (world : World) → newest world.hub ≤ newest (line_does by_history line world).0.hub
rise-line line world = subst (λ (h : Hub). newest world.hub ≤ newest h) (sym (lines-are-calls line world)) (points-rise world.hub (line_calls line world))

-- of the state behind one entry more
tellable-next : (hub later : Hub) (entry : Entry) → IsReached later → later.start ≡ hub.start → later.history ≡ hub.history ++ entry ∷ [] → IsTellable (after (state_now hub) entry)
tellable-next hub later entry reached start history =
    subst IsTellable ((λ i. state_at (start i) (history i) (length (history i))) ∙ state_at-last hub.start hub.history entry) ((reached-sound later reached).states (newest later) (same (newest later)))
  where
    same : (n : ℕ) → n ≤ n
    same n = omega arith

and_false : (b : Bool) → (b && false) ≡ false
and_false true = refl
and_false false = refl

and_true : (b : Bool) → (b && true) ≡ b
and_true true = refl
and_true false = refl

-- ---- a line

module _ (apex : Labels) (named : IsName apex) (worlds : Worlds) (goods : Labels → List Good) (near : IsStanding worlds.near) (far : IsStanding worlds.far) (unlinked : Unlinked worlds.far.hub)
    (r : RowsAre apex worlds.near.hub worlds.far.hub.start worlds.far.hub.history goods) where
  abbrev hub : Hub
  hub = worlds.far.hub

  abbrev RowsOf : Hub → (Labels → List Good) → Type 0
  RowsOf later gs = RowsAre apex worlds.near.hub later.start later.history gs

  now-tellable : IsTellable (state_now hub)
  now-tellable = (reached-sound hub far.1.reached).states (newest hub) (same (newest hub))
    where
      same : (n : ℕ) → n ≤ n
      same n = omega arith

  -- nothing was carried
  none-good : (later : Hub) → RowsOf later goods → RowsOf later (λ n. goods n ++ [])
  none-good later rows = subst (RowsOf later) (λ i n. sym (append-nil (goods n)) i) rows

  own-step : (line : ScriptLine) → IsOwn line → let later = (line_does by_history line worlds.far).0.hub in IsReached later → RowsOf later goods
  own-step line own reached = by (line-makes worlds.far far unlinked line own)
    where
      later : Hub
      later = (line_does by_history line worlds.far).0.hub

      start : later.start ≡ hub.start
      start = (grew-line line worlds.far).start

      by : Makes hub later → RowsOf later goods
      by (nothing is) = subst (λ (x : State × List Entry). RowsAre apex worlds.near.hub x.0 x.1 goods) (λ i. (sym start i, sym is i)) r
      by (moment t is) =
          subst (λ (x : State × List Entry). RowsAre apex worlds.near.hub x.0 x.1 goods) (λ i. (sym start i, sym is i))
          (moment-comes apex worlds.near.hub hub.start hub.history goods r now-tellable t (tellable-next hub later (entries.Moment t) reached start is))

  -- ---- a carry

  module _ (w : Word) (name : Labels) (is_named : IsName name) where
    abbrev goods_if : Bool → Labels → List Good
    goods_if taken n = if same_name name n && taken then good_with worlds (point_at worlds.near w (all_at name)) else []

    not-taken : (later : Hub) → RowsOf later goods → RowsOf later (λ n. goods n ++ goods_if false n)
    not-taken later rows = subst (RowsOf later) (λ i n. (sym (append-nil (goods n)) ∙ ap (λ (b : Bool). goods n ++ (if b then good_with worlds (point_at worlds.near w (all_at name)) else [])) (sym (and_false (same_name name n)))) i) rows

    module _ (message : List ℕ) (set : RecordSet) (s : IsSetAt worlds.near w name set) (relays : IsRelayed apex name set message) where
      abbrev as_updated : Result Update ℕ → ℕ × Hub
      as_updated v = update_as hub v

      abbrev Behind : ℕ × Hub → Type 0
      Behind u = RowsOf u.1 (λ n. goods n ++ goods_if (u.0 == 0) n)

      entered : (u : Update) → verdict (state_now hub) message ≡ Ok u → IsReached (enters_update hub u true).1 → Behind (enters_update hub u true)
      entered u is reached =
          let taken : verdict (state_now hub) (update_octets (carrying apex name set 0)) ≡ Ok u = ap (verdict (state_now hub)) (sym relays.is) ∙ is in
          let told = tellable-next hub (enters_update hub u true).1 (entries.Update u) reached refl refl in
          let at : set ≡ at_name name (records_at worlds.near.hub.start worlds.near.hub.history s.point) = s.is ∙ asked-is worlds.near.hub near.1.reached s.point s.within name in
          subst (RowsOf (enters_update hub u true).1)
          (λ i n. goods n ++ (if sym (and_true (same_name name n)) i then good_with worlds (sym s.shown i) else []))
          (carry-comes apex worlds.near.hub hub.start hub.history goods r now-tellable name set s.point u named (set-carriable worlds.near near w name set is_named s) relays.fit relays.other taken told s.within at)

      refused-rows : (code : ℕ) → verdict (state_now hub) message ≡ Err code → Behind (code, hub)
      refused-rows code is = subst (λ (b : Bool). RowsOf hub (λ n. goods n ++ goods_if b n)) (sym (not-zero (state_now hub) message code is)) (not-taken hub r)

      by-room : (u : Update) → verdict (state_now hub) message ≡ Ok u → (b : Bool) → IsReached (enters_update hub u b).1 → Behind (enters_update hub u b)
      by-room u is true reached = entered u is reached
      by-room u is false reached = not-taken hub r

      by-verdict : (v : Result Update ℕ) → verdict (state_now hub) message ≡ v → IsReached (as_updated v).1 → Behind (as_updated v)
      by-verdict (Err code) is reached = refused-rows code is
      by-verdict (Ok u) is reached = by-room u is (can_enter hub) reached

    carry-step : worlds.apex ≡ Some apex → (o : Option Relayed) → carry_of by_history worlds w name ≡ o → let later = (line_does by_history (line_of_relayed o) worlds.far).0.hub in IsReached later
        → RowsOf later (λ n. goods n ++ goods_if (is_taken worlds (line_of_relayed o)) n)
    carry-step apex_is None e reached = not-taken hub r
    carry-step apex_is (Some Apex) e reached = not-taken hub r
    carry-step apex_is (Some Outside) e reached = not-taken hub r
    carry-step apex_is (Some (Unfit kind)) e reached = not-taken hub r
    carry-step apex_is (Some (Message message)) e reached =
        let m = relays-so worlds w name message e in
        let own : m.apex ≡ apex = same_found m.apex apex (sym m.apex_is ∙ apex_is) in
        let relays : IsRelayed apex name m.set message = subst (λ (a : Labels). IsRelayed a name m.set message) own m.relays in
        by-verdict message m.set (held-set worlds.near near w name m.set m.held_is) relays (verdict (state_now hub) message) refl reached

-- ---- one entry at most

abbrev pub AddsOne : Hub → Hub → Type 0
AddsOne hub later = newest later ≤ newest hub + 1

adds-none : (hub : Hub) → AddsOne hub hub
adds-none hub = low (newest hub)
  where
    low : (n : ℕ) → n ≤ n + 1
    low n = omega arith

with-one : (history : List Entry) (entry : Entry) → length (history ++ entry ∷ []) ≤ length history + 1
with-one history entry = same (length history) (length (history ++ entry ∷ [])) (length-append history (entry ∷ []))
  where
    same : (n m : ℕ) → m ≡ n + 1 → m ≤ n + 1
    same n m is = omega (arith, is)

made-one : (hub later : Hub) → Makes hub later → AddsOne hub later
made-one hub later (nothing is) = subst (λ (es : List Entry). length es ≤ newest hub + 1) (sym is) (adds-none hub)
made-one hub later (moment t is) = subst (λ (es : List Entry). length es ≤ newest hub + 1) (sym is) (with-one hub.history (entries.Moment t))

update-adds : (hub : Hub) (message : List ℕ) → AddsOne hub (hubs.update hub message).1
update-adds hub message = by (verdict (state_now hub) message)
  where
    by_room : (u : Update) (b : Bool) → AddsOne hub (enters_update hub u b).1
    by_room u true = with-one hub.history (entries.Update u)
    by_room u false = adds-none hub

    by : (v : Result Update ℕ) → AddsOne hub (update_as hub v).1
    by (Err code) = adds-none hub
    by (Ok u) = by_room u (can_enter hub)

carry-adds : (world : World) (o : Option Relayed) → AddsOne world.hub (line_does by_history (line_of_relayed o) world).0.hub
carry-adds world None = adds-none world.hub
carry-adds world (Some Apex) = adds-none world.hub
carry-adds world (Some Outside) = adds-none world.hub
carry-adds world (Some (Unfit kind)) = adds-none world.hub
carry-adds world (Some (Message message)) = update-adds world.hub message

-- ---- the lines of a script

module _ (script : List WholeLine) (are : AreWholeLines script) (apex : Labels) (is : apex_in script ≡ Some apex) where
  abbrev begins : Worlds
  begins = start_worlds script

  abbrev behind : List WholeLine → Worlds
  behind before = worlds_after by_history before begins

  abbrev pub RowsAt : List WholeLine → Type 0
  RowsAt before = RowsAre apex (behind before).near.hub (behind before).far.hub.start (behind before).far.hub.history (λ n. goods_from n before begins)

  named : IsName apex
  named = apex-named are.all script apex are.read is

  far-stand : (before after : List WholeLine) → script ≡ before ++ after → IsStanding (behind before).far
  far-stand before after split = far-stands script before after are (carries-written script are) split

  -- ---- the start

  head : IsFarHead empty_head.start begins.far.hub.start apex
  head = far-head are.all are.carriers none_known [] empty_head script apex are.follow is

  first-rows : RecordSet
  first-rows = (new_zone apex head.serial true).rows

  rows-start : RowsAt []
  rows-start = record {
    rows = (new_zone apex head.serial true).rows;
    state = first;
    kept = kept-new apex head.serial true named (apex-short are.all are.carriers none_known script apex are.follow is);
    shows = λ n away point within. shows-first n away point (zero-only point within);
    far_points = λ n. tt;
    near_points = λ n. tt;
  }
    where
      first : IsFarState apex (new_zone apex head.serial true).rows begins.far.hub.start
      first = record { zones = head.zones; links = head.links }

      zero-only : (point : ℕ) → point ≤ 0 → point ≡ 0
      zero-only point within = omega (arith, within)

      tellable : IsTellable begins.far.hub.start
      tellable = (reached-sound begins.far.hub (far-stand [] script refl).1.reached).states 0 (omega arith)

      shows-first : (n : Labels) → same_name n apex ≡ false → (point : ℕ) → point ≡ 0 → at_name n (records_at begins.far.hub.start [] point) ≡ []
      shows-first n away point zero =
          ap (λ (k : ℕ). at_name n (records_at begins.far.hub.start [] k)) zero
          ∙ ap (at_name n) (records-are apex (new_zone apex head.serial true).rows begins.far.hub.start first (rows-set apex (new_zone apex head.serial true).rows begins.far.hub.start first tellable))
          ∙ start-rows n apex head.serial away

  -- ---- a further line

  unlinked-start : Unlinked begins.far.hub
  unlinked-start = head.links

  pub unlinked-at : (before : List WholeLine) → Unlinked (behind before).far.hub
  unlinked-at before = lines-unlinked before begins unlinked-start
    where
      lines-unlinked : (lines : List WholeLine) (worlds : Worlds) → Unlinked worlds.far.hub → Unlinked (worlds_after by_history lines worlds).far.hub
      lines-unlinked [] worlds none = none
      lines-unlinked (line ∷ lines) worlds none = lines-unlinked lines (lines_do by_history line worlds).0 (ap (λ (s : State). s.links) (grew-line (far_line_at by_history worlds line) worlds.far).start ∙ none)

  goods-more : (n : Labels) (before : List WholeLine) (line : WholeLine) (worlds : Worlds) → goods_from n (before ++ line ∷ []) worlds ≡ goods_from n before worlds ++ goods_of n (worlds_after by_history before worlds) line
  goods-more n [] line worlds = append-nil (goods_of n worlds line)
  goods-more n (l ∷ before) line worlds =
      ap (λ (gs : List Good). goods_of n worlds l ++ gs) (goods-more n before line (lines_do by_history l worlds).0)
      ∙ sym (append_assoc (goods_of n worlds l) (goods_from n before (lines_do by_history l worlds).0) (goods_of n (worlds_after by_history before (lines_do by_history l worlds).0) line))

  module _ (before : List WholeLine) (line : WholeLine) (after : List WholeLine) (split : script ≡ before ++ line ∷ after) where
    abbrev worlds : Worlds
    worlds = behind before

    abbrev goods : Labels → List Good
    goods n = goods_from n before begins

    near : IsStanding worlds.near
    near = near-stands script before (line ∷ after) are split

    far : IsStanding worlds.far
    far = far-stand before (line ∷ after) split

    next-reached : IsReached (lines_do by_history line worlds).0.far.hub
    next-reached =
        subst (λ (x : Worlds). IsReached x.far.hub) (worlds-behind before (line ∷ []) begins)
        (far-stand (before ++ line ∷ []) after (split ∙ sym (append_assoc before (line ∷ []) after))).1.reached

    follow_here : AtLine are.all are.carriers (fars_of [] before) line
    follow_here = at-line are.all are.carriers none_known before line after (subst (FollowBoth are.all are.carriers none_known) split are.follow)

    among : (w : Word) → is_far_in worlds.fars w ≡ true → is_among are.all w ≡ true
    among w there =
        far-among are.all (fars_of [] before) (fars-among are.all [] before tt (each-front (IsReadWhole are.all) before (line ∷ after) (subst (AllByRecursion (IsReadWhole are.all)) split are.read))) w
        (ap (λ (fars : List Word). is_far_in fars w) (sym (fars-are before begins)) ∙ there)

    apex-here : worlds.apex ≡ Some apex
    apex-here = apex-stays before begins ∙ is

  own-here : (before : List WholeLine) (l : ScriptLine) (after : List WholeLine) (split : script ≡ before ++ one l ∷ after) → IsOwn (far_of (is_far_in (behind before).fars) (one l))
  own-here before l after split =
      let at = follow_here before (one l) after split in
      let fits = (parts are.all are.carriers at.known at.later (one l) at.fits).far in
      let fars : at.known.fars ≡ (behind before).fars = at.fars_are ∙ sym (fars-are before begins) in
      own-line are.all (is_far_in (behind before).fars) (among before (one l) after split) at.known.far at.later.far l (subst (λ (fs : List Word). fits_one are.all at.known.far (far_of (is_far_in fs) (one l)) ≡ Some at.later.far) fars fits)

  -- by the line
  line-step : (before : List WholeLine) (line : WholeLine) (after : List WholeLine) (split : script ≡ before ++ line ∷ after) (r : RowsAt before) → IsReadWhole are.all line
      → RowsAre apex (behind before).near.hub (lines_do by_history line (behind before)).0.far.hub.start (lines_do by_history line (behind before)).0.far.hub.history (λ n. goods_from n before begins ++ goods_of n (behind before) line)
  line-step before (one l) after split r read =
      let own : IsOwn (far_of (is_far_in (behind before).fars) (one l)) = own-here before l after split in
      none-good apex named (behind before) (λ n. goods_from n before begins) (near before (one l) after split) (far before (one l) after split) (unlinked-at before) r (lines_do by_history (one l) (behind before)).0.far.hub
      (own-step apex named (behind before) (λ n. goods_from n before begins) (near before (one l) after split) (far before (one l) after split) (unlinked-at before) r
      (far_of (is_far_in (behind before).fars) (one l)) own (next-reached before (one l) after split))
  line-step before (far_zone name serial) after split r read =
      none-good apex named (behind before) (λ n. goods_from n before begins) (near before (far_zone name serial) after split) (far before (far_zone name serial) after split) (unlinked-at before) r (behind before).far.hub r
  line-step before (far_client w) after split r read =
      none-good apex named (behind before) (λ n. goods_from n before begins) (near before (far_client w) after split) (far before (far_client w) after split) (unlinked-at before) r (behind before).far.hub r
  line-step before (carry w name written) after split r read =
      carry-step apex named (behind before) (λ n. goods_from n before begins) (near before (carry w name written) after split) (far before (carry w name written) after split) (unlinked-at before) r
      w name ((is_name-Decides name).0 read.within) (apex-here before (carry w name written) after split) (carry_of by_history (behind before) w name) refl (next-reached before (carry w name written) after split)

  one-step : (before : List WholeLine) (line : WholeLine) (after : List WholeLine) → script ≡ before ++ line ∷ after → IsReadWhole are.all line → RowsAt before → RowsAt (before ++ line ∷ [])
  one-step before line after split read r =
      let w : Worlds = behind before in
      let next : Worlds = (lines_do by_history line w).0 in
      let rows = line-step before line after split r read in
      let grown = near-grows apex w.near.hub next.near.hub next.far.hub.start next.far.hub.history (λ n. goods_from n before begins ++ goods_of n w line)
      (grew-line (near_line_at w line) w.near) (rise-line (near_line_at w line) w.near) rows in
      subst (λ (x : Worlds × (Labels → List Good)). RowsAre apex x.0.near.hub x.0.far.hub.start x.0.far.hub.history x.1)
      (λ i. (sym (worlds-behind before (line ∷ []) begins) i, λ n. sym (goods-more n before line begins) i)) grown

  along : (before lines after : List WholeLine) → script ≡ before ++ (lines ++ after) → AllByRecursion (IsReadWhole are.all) lines → RowsAt before → RowsAt (before ++ lines)
  along before [] after split read r = subst RowsAt (sym (append-nil before)) r
  along before (line ∷ lines) after split read r =
      subst RowsAt (append_assoc before (line ∷ []) lines)
      (along (before ++ line ∷ []) lines after (split ∙ sym (append_assoc before (line ∷ []) (lines ++ after))) read.1 (one-step before line (lines ++ after) split read.0 r))

  pub rows-along : (before after : List WholeLine) → script ≡ before ++ after → RowsAt before
  rows-along before after split = along [] before after split (each-front (IsReadWhole are.all) before after (subst (AllByRecursion (IsReadWhole are.all)) split are.read)) rows-start

  -- ---- each line makes one entry at most

  line-adds : (before : List WholeLine) (line : WholeLine) (after : List WholeLine) (split : script ≡ before ++ line ∷ after) → AddsOne (behind before).far.hub (lines_do by_history line (behind before)).0.far.hub
  line-adds before (one l) after split = made-one (behind before).far.hub _ (line-makes (behind before).far (far before (one l) after split) (unlinked-at before) (far_of (is_far_in (behind before).fars) (one l)) (own-here before l after split))
  line-adds before (far_zone name serial) after split = adds-none (behind before).far.hub
  line-adds before (far_client w) after split = adds-none (behind before).far.hub
  line-adds before (carry w name written) after split = carry-adds (behind before).far (carry_of by_history (behind before) w name)

  few-from : (before lines after : List WholeLine) → script ≡ before ++ (lines ++ after) → newest (behind before).far.hub ≤ length before → newest (behind (before ++ lines)).far.hub ≤ length (before ++ lines)
  few-from before [] after split few = subst (λ (ls : List WholeLine). newest (behind ls).far.hub ≤ length ls) (sym (append-nil before)) few
  few-from before (line ∷ lines) after split few =
      let w : Worlds = behind before in
      let one_more = line-adds before line (lines ++ after) split in
      subst (λ (ls : List WholeLine). newest (behind ls).far.hub ≤ length ls) (append_assoc before (line ∷ []) lines)
      (few-from (before ++ line ∷ []) lines after (split ∙ sym (append_assoc before (line ∷ []) (lines ++ after)))
      (subst (λ (x : Worlds). newest x.far.hub ≤ length (before ++ line ∷ [])) (sym (worlds-behind before (line ∷ []) begins))
      (sums (newest w.far.hub) (newest (lines_do by_history line w).0.far.hub) (length before) (length (before ++ line ∷ [])) few one_more (length-append before (line ∷ [])))))
    where
      sums : (a b n m : ℕ) → a ≤ n → b ≤ a + 1 → m ≡ n + 1 → b ≤ m
      sums a b n m few more is = omega (arith, few, more, is)

  pub few-entries : (before after : List WholeLine) → script ≡ before ++ after → newest (behind before).far.hub ≤ length before
  few-entries before after split = few-from [] before after split (omega arith)
