use Rattle.std.proofs.Common.{◌∙◌, ap, not, string_bytes, rules, of_calls}
use Rattle.std.specs.Str.{bytes_eq}
use Rattle.std.proofs.lemmas.Fn.{filter_same}
use Rattle.replay.specs.declared.world.Peer.{Peer}
use Rattle.replay.specs.KeptWorlds.{named}
use Rattle.replay.proofs.worlds.Naming.{named-filter}
use Rattle.replay.proofs.world.take_out.Goals as goal

pub returns : goal.returns
returns c =
    ap named (filter_same _ (λ (p : Peer). not (bytes_eq (string_bytes p.word) c.args.word.now)) _ (λ x b f k. search (rules, of_calls)) c.args.peers.now.items c.retain.new.self.items c.retain.ensures.filtered)
    ∙ named-filter c.args.word.now c.args.peers.now.items
