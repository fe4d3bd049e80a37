-- The same octets to the same session are told the same, and leave it alike, however they are cut, and whatever lines of others stand between.
--     pieces-leave-peers, one-text      the laws
use Rattle.std.proofs.Common.{◌≡◌, ℕ, ◌≤◌, List, [], ◌++◌, length, take, Option, Some, None, option_map, refl, sym, ◌∙◌, ap, arith, append-nil, take_all}
use Rattle.std.proofs.lemmas.List.{length-map}
use Rattle.std.specs.List.{concat}
use Rattle.dsosession.specs.declared.session.EndReason.{EndReason}
use Rattle.dsotlv.specs.Messages.{messages_in}
use Rattle.dsotlv.proofs.FrameLaws.{Split}
use Rattle.dsotlv.proofs.Results.{same_found}
use Rattle.pushserver.specs.PlainHubs.{Session, Hub}
use Rattle.pushserver.specs.Hubs.{session_of}
use Rattle.pushsession.specs.Sessions.{without_first}
use Rattle.replay.specs.SessionPieces.{answers_to}
use Rattle.replay.specs.ScriptPieces.{Turn, SentInPieces, pieces_of, sent_between, messages_sent, answered_to_all, SendsPieces, TellsInTurn, LeavesPeer, PiecesLeavePeers, SendTheSame, TellTheSame, OneTextForEveryCut}
use Rattle.replay.specs.Between.{world_behind}
use Rattle.replay.proofs.rest.AtRest.{Core, Ran, core_of, ran}
use Rattle.replay.proofs.rest.RanLaws.{followed_by, followed, ran-append}
use Rattle.replay.proofs.rest.RestingStreams.{first_part, second_part, cut_behind}
use Rattle.replay.proofs.pieces.SentPieces.{RunsAll, runs-all, leaves-peer}

pub pieces-leave-peers : PiecesLeavePeers
pieces-leave-peers script sent s some = leaves-peer script sent s some

-- all that is told answers all messages
told-all : (sent : SentInPieces) (told : List (List ℕ)) → TellsInTurn sent told → concat told ≡ (answered_to_all sent).0
told-all sent told t =
    let size : length (pieces_of sent) ≡ length sent.turns = length-map sent.turns (λ (turn : Turn). turn.0) in
    sym (ap (λ (x : List (List ℕ)). concat x) (take_all (length told) told (omega arith)))
    ∙ t.turns (length told)
    ∙ ap (λ (ps : List (List ℕ)). (answers_to sent.number (messages_in (sent.session.input ++ concat ps)).0 sent.world.hub).0) (take_all (length told) (pieces_of sent) (omega (arith, size, t.count)))

-- octets behind an end change nothing
behind-end : (hub : Hub) (core : Core) (input piece more : List ℕ) (r : Ran) (reason : EndReason) → ran hub (messages_in (input ++ piece)).0 core ≡ Some r → r.over ≡ Some reason → ran hub (messages_in (input ++ (piece ++ more))).0 core ≡ Some r
behind-end hub core input piece more r reason is over =
    let second : List (List ℕ) = (second_part input piece more).0 in
    ap (λ (s : Split). ran hub s.0 core) (cut_behind input piece more (piece ++ more) refl) ∙ ran-append hub (first_part input piece).0 second core ∙ ap (followed hub second) is ∙ ap (followed_by hub second r) over

module _ (script other : List ℕ) (first second : SentInPieces) (s : SendsPieces script first) (t : SendsPieces other second) (same : SendTheSame first second) where
  session-same : first.session ≡ second.session
  session-same = same_found first.session second.session (sym s.rest.there ∙ (λ i. session_of (same.hub i) (same.number i)) ∙ t.rest.there)

  -- where it goes on, the octets are the same
  octets-same : first.over ≡ None → concat (pieces_of first) ≡ concat (pieces_of second)
  octets-same on = sym (append-nil (concat (pieces_of first))) ∙ ap (λ (more : List ℕ). concat (pieces_of first) ++ more) (sym (same.none_more on)) ∙ same.octets

  a : RunsAll first.world.hub (messages_sent first).0 (core_of first.session) first.over (answered_to_all first).0
  a = runs-all script first s

  b : RunsAll second.world.hub (messages_sent second).0 (core_of second.session) second.over (answered_to_all second).0
  b = runs-all other second t

  -- so what is made of the messages is
  run-same : a.run ≡ b.run
  run-same = by first.over refl
    where
      by : (over : Option EndReason) → first.over ≡ over → a.run ≡ b.run
      by None on =
          same_found a.run b.run (sym a.is ∙ (λ i. ran (same.hub i) (messages_in ((session-same i).input ++ octets-same on i)).0 (core_of (session-same i))) ∙ b.is)
      by (Some reason) ended =
          same_found a.run b.run
          (sym (behind-end first.world.hub (core_of first.session) first.session.input (concat (pieces_of first)) same.more a.run reason a.is (a.over_is ∙ ended))
          ∙ (λ i. ran (same.hub i) (messages_in ((session-same i).input ++ same.octets i)).0 (core_of (session-same i))) ∙ b.is)

  over-same : first.over ≡ second.over
  over-same = sym a.over_is ∙ ap (λ (r : Ran). r.over) run-same ∙ b.over_is

  left-same : (x y : Option EndReason) → first.over ≡ x → x ≡ y → LeavesPeer first x → LeavesPeer second y → session_of (world_behind (sent_between first)).hub first.number ≡ session_of (world_behind (sent_between second)).hub second.number
  left-same None None on is l m =
      let octets = octets-same on in
      l.1
      ∙ (λ i. (let split = messages_in ((session-same i).input ++ octets i) in option_map (without_first split.1) (session_of (answers_to (same.number i) split.0 (same.hub i)).1 (same.number i))))
      ∙ sym m.1
  left-same None (Some reason) on is l m = absurd cc
  left-same (Some reason) None on is l m = absurd cc
  left-same (Some reason) (Some another) on is l m = l.1 ∙ sym m.1

pub one-text : OneTextForEveryCut
one-text script other first second told others s t same tells tells_other =
    let over = over-same script other first second s t same in
    record {
      octets = told-all first told tells ∙ (a script other first second s t same).answered ∙ ap (λ (r : Ran). r.octets) (run-same script other first second s t same) ∙ sym (b script other first second s t same).answered ∙ sym (told-all second others tells_other);
      over = over;
      session = left-same script other first second s t same first.over second.over refl over (leaves-peer script first s same.some.0) (leaves-peer other second t same.some.1);
    }
