-- Where the clock stands still, what is said depends on the octets alone.
--     says-the-octets, ends-the-octets, says-the-same      the laws
use Rattle.std.proofs.Common.{◌≡◌, ℕ, ◌<◌, Bool, true, false, Some, List, [], ◌∷◌, ◌++◌, length, map, drop, refl, sym, ◌∙◌, ap, subst, arith}
use Rattle.std.specs.Prelude.{codes, fold}
use Rattle.std.proofs.lemmas.List.Elements.{All-head, All-tail}
use Rattle.std.proofs.lemmas.List.{map-append}
use Rattle.std.proofs.lemmas.List.Sums.{fold-append}
use Rattle.push_base.specs.Line.{Read, end_of_line}
use Rattle.dsosession.specs.declared.session.CloseReason.TheVariants as closes
use Rattle.pushclient.specs.Clients.{closed_as}
use Rattle.pushclient.proofs.MessageSteps.{bare}
use Rattle.configurations.specs.Configurations.{Subscribing}
use Rattle.subscriber.specs.Said.{Saying, is_used_up, counted, ends_with, takes_read, writes_out, capped, connected_at, asking, begun, spends_turn, turn, paired, saying, said}
use Rattle.subscriber.specs.EveryCut.{octets_in, go_on, said_of, ended, StandsStill, IsStill, SaysTheOctets, EndsTheOctets, SaysTheSame}
use Rattle.subscriber.proofs.MessageTurns.{by_left}
use Rattle.subscriber.proofs.Moments.{open-connected}
use Rattle.subscriber.proofs.Growing.{moment-over}
use Rattle.subscriber.proofs.AllReads.{turn_by, turns-left, turns-over}
use Rattle.subscriber.proofs.Cores.{core, silenced}
use Rattle.subscriber.proofs.Cuts.{Stays, IsBehind, at_one, behind-reads}

-- ---- before the first read

-- where no ending was said, all but the ending is as it was
record Counts (s later : Saying) : Type 0 where
  pub turns : later.turns_left ≡ s.turns_left
  pub left : later.left ≡ s.left
  pub client : later.client ≡ s.client

counted-keeps : (s : Saying) → Counts s (counted s)
counted-keeps s = by (is_used_up s.messages_left)
  where
    by : (used : Bool) → Counts s (by_left (codes "ended messages") s used)
    by true = record { turns = refl; left = refl; client = refl }
    by false = record { turns = refl; left = refl; client = refl }

module _ (configuration : Subscribing) (t : ℕ) where
  abbrev start : Saying
  start = counted (writes_out (connected_at configuration t))

  kept : Counts (writes_out (connected_at configuration t)) start
  kept = counted-keeps (writes_out (connected_at configuration t))

  begun-is : 0 < configuration.turns → begun configuration t ≡ start
  begun-is some = by start.over refl
    where
      by : (over : Bool) → start.over ≡ over → begun configuration t ≡ start
      by true e = turns-over start e
      by false e = turns-left start e (subst (λ (n : ℕ). 0 < n) (sym kept.turns) some)

  open-start : Stays (capped t) start
  open-start e =
      let o = open-connected (capped t) (asking configuration.questions) in
      let c = bare o.connection in
      record { wishes = o.wishes; connection = record c { output = drop (length c.output) c.output }; is = kept.client ∙ ap silenced o.is; unclosed = o.unclosed; fresh = o.fresh }

  behind-start : IsBehind (capped t) start [] start configuration.turns
  behind-start = record { alike = refl; rest = λ e. kept.left; turns = λ e. kept.turns; stays = open-start }

-- ---- the clock stands still

abbrev ended_by : Saying → Bool → Saying
ended_by s true = s
ended_by s false = takes_read end_of_line s

paired-still : (t : ℕ) (reads : List Read) (moments : List ℕ) → StandsStill t moments → paired t reads moments ≡ map (at_one t) reads
paired-still t [] moments still = refl
paired-still t (r ∷ rs) [] still = ap (λ l. (r, t) ∷ l) (paired-still t rs [] still)
paired-still t (r ∷ rs) (u ∷ us) still =
    let same : u ≡ t = All-head (λ v. v ≡ t) u us still in
    (λ i. (r, same i) ∷ paired (same i) rs us) ∙ ap (λ l. (r, t) ∷ l) (paired-still t rs us (All-tail (λ v. v ≡ t) u us still))

module _ (configuration : Subscribing) (t : ℕ) (reads : List Read) (moments : List ℕ) (go : go_on reads ≡ true) (s : IsStill configuration t reads moments) where
  abbrev end : Saying
  end = fold turn (start configuration t) (map (at_one t) reads)

  saying-is : saying configuration reads (t ∷ moments) ≡ end
  saying-is = (λ i. fold turn (begun-is configuration t (omega (arith, s.unspent)) i) (paired-still t reads moments s.still i))

  behind : core end ≡ core (said_of configuration t (octets_in reads))
  behind = behind-reads (capped t) (start configuration t) [] t reads configuration.turns (start configuration t) refl go s.unspent (behind-start configuration t) (λ idle. s.busy (subst (λ x. closed_as x.client ≡ Some closes.Idle) (sym saying-is) idle))

  pub says-octets : said configuration reads (t ∷ moments) ≡ (said_of configuration t (octets_in reads)).lines
  says-octets = ap (λ (x : Saying). x.lines) saying-is ∙ ap (λ (x : Saying). x.lines) behind

  -- ---- and the line is at its end

  over-is : end.over ≡ (said_of configuration t (octets_in reads)).over
  over-is = ap (λ (x : Saying). x.over) behind

  ended-is : (turn end (end_of_line, t)).lines ≡ (ended (said_of configuration t (octets_in reads))).lines
  ended-is = by end.over refl
    where
      by : (over : Bool) → end.over ≡ over → (turn end (end_of_line, t)).lines ≡ (ended (said_of configuration t (octets_in reads))).lines
      by true e = ap (λ (b : Bool). (turn_by end (end_of_line, t) b).lines) e ∙ ap (λ (x : Saying). x.lines) behind ∙ sym (ap (λ (b : Bool). (ended_by (said_of configuration t (octets_in reads)) b).lines) (sym over-is ∙ e))
      by false e =
          let closed = ends_with (codes "closed eof") end in
          ap (λ (b : Bool). (turn_by end (end_of_line, t) b).lines) e
          ∙ ap (λ (x : Saying). (spends_turn x).lines) (moment-over t closed refl)
          ∙ ap (λ (x : Saying). (ends_with (codes "closed eof") x).lines) behind
          ∙ sym (ap (λ (b : Bool). (ended_by (said_of configuration t (octets_in reads)) b).lines) (sym over-is ∙ e))

  pub ends-octets : said configuration (reads ++ end_of_line ∷ []) (t ∷ moments) ≡ (ended (said_of configuration t (octets_in reads))).lines
  ends-octets = ap (λ (x : Saying). x.lines) (λ i. fold turn (begun-is configuration t (omega (arith, s.unspent)) i) (paired-still t (reads ++ end_of_line ∷ []) moments s.still i))
      ∙ ap (λ (x : Saying). x.lines) (ap (fold turn (start configuration t)) (map-append (at_one t) reads (end_of_line ∷ [])) ∙ fold-append turn (start configuration t) (map (at_one t) reads) ((end_of_line, t) ∷ []))
      ∙ ended-is

pub says-the-octets : SaysTheOctets
says-the-octets configuration t reads moments go still = says-octets configuration t reads moments go still

pub ends-the-octets : EndsTheOctets
ends-the-octets configuration t reads moments go still = ends-octets configuration t reads moments go still

pub says-the-same : SaysTheSame
says-the-same configuration t first second moments others go goes same still stands = (
  says-octets configuration t first moments go still ∙ ap (λ (octets : List ℕ). (said_of configuration t octets).lines) same ∙ sym (says-octets configuration t second others goes stands),
  ends-octets configuration t first moments go still ∙ ap (λ (octets : List ℕ). (ended (said_of configuration t octets)).lines) same ∙ sym (ends-octets configuration t second others goes stands),
)
