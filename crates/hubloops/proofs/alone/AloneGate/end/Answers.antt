use Rattle.hubloops.specs.Calls.{Left}
use Rattle.hubloops.proofs.Answering.{does_leave}
use Rattle.hubloops.proofs.Turning.{made_apart}
use Rattle.hubloops.proofs.alone.AloneGate.end.Goals as goal

pub returns : goal.returns
returns c = record { call = made_apart (Left c.args.session) c.args.self.now c.self.inside.hub c.self.inside.quit c.self.inside.calls c.self.inside.idle c.self.inside.over c.end.new.self c.self.inside.idle c.self.view_is (does_leave c.self.inside.hub c.end.new.self c.args.session c.end.ensures.hub c.end.ensures.kept c.end.ensures.asking c.end.ensures.asks) }
