-- The laws of whole scripts, put together.
--     all-laws      the laws of each step
--     stands-after, lines-hold, holds-after      after each line
--     lines-tell, tell-one-text, never-go-back, lines-end, no-message-ends      what is printed
--     turns-are-enough      each settle comes to its end
--     lines-settle, settles-empty, lines-keep, keep-promises      what is so behind it
use Rattle.replay.specs.Promises.{HoldsAfterEachLine, EveryScriptTellsOneText, EverySettleEmptiesBothWays, EveryScriptKeepsPromises, NoMessageEnds}
use Rattle.script_laws.specs.Settling.{TurnsSuffice, SettlesOfLines}
use Rattle.script_laws.specs.Replies.{RepliesAreOne}
use Rattle.script_laws.specs.Turns.{work_left, LowersAlways}
use Rattle.script_laws.specs.Whole.{StandsAfterEachLine, ScriptsNeverGoBack, OnlyLoneOnesAreFed, LinesKeepPromises, LinesTellOneText, LinesHold, NoMessageEndsLines}
use Rattle.script_laws.specs.Walk.{Keeps, OfUps, OfEmits, OfDowns, RoundsPass, SettlesPass}
use Rattle.script_laws.proofs.hubs.Reaching.{reached-go-on, begun-go-on, points-rise}
use Rattle.script_laws.proofs.hubs.Sound.{reached-sound}
use Rattle.script_laws.proofs.hubs.Sessions.{reached-sessions, begun-tell-since}
use Rattle.script_laws.proofs.hubs.Avoiding.{own-calls-are-for-no-other}
use Rattle.script_laws.proofs.hubs.WorldNumbers.{seats-come-fit}
use Rattle.script_laws.proofs.hubs.Worlds.{seats-pass, hubs-go-on, seats-open, peers-open, seats-are-cut, seats-pass-and-are-cut, peers-are-cut}
use Rattle.script_laws.proofs.emits.Saying.{says-pass, ups-pass}
use Rattle.script_laws.proofs.emits.Emitting.{emits-pass}
use Rattle.script_laws.proofs.emits.Exchanging.{exchanges-are-calls}
use Rattle.script_laws.proofs.emits.Passing.{rounds-pass, settles-pass}
use Rattle.script_laws.proofs.downs.Wishes.{wishes-stay-sound}
use Rattle.script_laws.proofs.downs.Asking.{asks-stay, moments-stay}
use Rattle.script_laws.proofs.downs.Opening.{new-ones-joined}
use Rattle.script_laws.proofs.downs.Cutting.{cuts-stand-alone}
use Rattle.script_laws.proofs.downs.Delivering.{downs-pass}
use Rattle.script_laws.proofs.lines.Premises.{LineLaws}
use Rattle.script_laws.proofs.lines.EachLine.{stands-after-each-line, holds-after-each-line}
use Rattle.script_laws.proofs.settles.StillRounds.{quiet-at-last}
use Rattle.script_laws.proofs.settles.Stops.{stopped-said-so}
use Rattle.script_laws.proofs.settles.Settling.{turns-suffice, settles-of-zones}
use Rattle.script_laws.proofs.sizes.EachLine.{sized-after-lines, work-is-little}
use Rattle.script_laws.proofs.sizes.Queues.{queues-are-short}
use Rattle.script_laws.proofs.Reading.{are-lines}
use Rattle.script_laws.proofs.turns.Rounds.{emits-lower, downs-lower, rounds-fall}
use Rattle.script_laws.proofs.newest.Promises.{keeps-promises}
use Rattle.script_laws.proofs.texts.Shows.{shown-taken}
use Rattle.script_laws.proofs.texts.Along.{one-text}
use Rattle.script_laws.proofs.texts.NeverBack.{never-back}
use Rattle.script_laws.proofs.texts.Replies.{one-reply}
use Rattle.script_laws.proofs.ends.FedOnes.{only-lone}
use Rattle.script_laws.proofs.ends.Telling.{no-ends}

ups : OfUps Keeps
ups = ups-pass begun-go-on

emitting : OfEmits Keeps
emitting = emits-pass reached-go-on begun-go-on reached-sound reached-sessions

downward : OfDowns Keeps
downward = downs-pass reached-sessions

rounds : RoundsPass
rounds = rounds-pass reached-go-on says-pass ups emitting downward

settling : SettlesPass
settling = settles-pass reached-go-on rounds

pub all-laws : LineLaws
all-laws = record {
  go_on = reached-go-on;
  sound = reached-sound;
  sessions = reached-sessions;
  since = begun-tell-since;
  rise = points-rise;
  own = own-calls-are-for-no-other;
  seats_pass = seats-pass;
  hubs_go_on = hubs-go-on;
  seats_open = seats-open;
  peers_open = peers-open;
  seats_are_cut = seats-are-cut;
  seats_pass_and_are_cut = seats-pass-and-are-cut;
  seats_come = seats-come-fit;
  peers_are_cut = peers-are-cut;
  says = says-pass;
  ups = ups;
  emits = emitting;
  downs = downward;
  settles = settling;
  exchanges = exchanges-are-calls;
  asks = asks-stay reached-sessions;
  moments = moments-stay;
  wishes = wishes-stay-sound;
  new_ones = new-ones-joined reached-sessions;
  cuts = cuts-stand-alone;
}

pub stands-after : StandsAfterEachLine
stands-after = stands-after-each-line all-laws shown-taken

pub lines-hold : LinesHold
lines-hold = holds-after-each-line all-laws stands-after

pub holds-after : HoldsAfterEachLine
holds-after text script before after read split = lines-hold script (are-lines text script read) before after split

pub lines-tell : LinesTellOneText
lines-tell = one-text reached-sessions stands-after

pub tell-one-text : EveryScriptTellsOneText
tell-one-text text script read = lines-tell script (are-lines text script read)

pub never-go-back : ScriptsNeverGoBack
never-go-back = never-back reached-sessions stands-after

pub lines-end : NoMessageEndsLines
lines-end = no-ends all-laws

pub no-message-ends : NoMessageEnds
no-message-ends text script before after line w seat read split found joins = lines-end script (are-lines text script read) before after line w seat split found joins

pub only-lone-fed : OnlyLoneOnesAreFed
only-lone-fed = only-lone all-laws

pub replies-one : RepliesAreOne
replies-one = one-reply tell-one-text

-- each settle comes to a still round
emitting-lower : OfEmits LowersAlways
emitting-lower = emits-lower reached-go-on begun-go-on reached-sound reached-sessions

downward-lower : OfDowns LowersAlways
downward-lower = downs-lower reached-sessions

pub turns-are-enough : TurnsSuffice
turns-are-enough =
    turns-suffice reached-go-on rounds stands-after work_left (rounds-fall reached-go-on says-pass ups emitting emitting-lower downward-lower)
    (work-is-little reached-sound stands-after (sized-after-lines all-laws shown-taken emitting-lower downward-lower) queues-are-short)

pub lines-settle : SettlesOfLines
lines-settle = settles-of-zones reached-go-on rounds (quiet-at-last reached-go-on stopped-said-so says-pass ups emitting) stands-after turns-are-enough

pub settles-empty : EverySettleEmptiesBothWays
settles-empty text script before after w seat read are alone = lines-settle script (are-lines text script read) before after w seat are alone

pub lines-keep : LinesKeepPromises
lines-keep = keeps-promises reached-sessions reached-sound settling stands-after never-go-back lines-settle

pub keep-promises : EveryScriptKeepsPromises
keep-promises text script read = lines-keep script (are-lines text script read)
