use Rattle.std.specs.Prelude.{false}
use Rattle.hubloops.specs.Calls.{Went}
use Rattle.hubloops.proofs.Answering.{does_go}
use Rattle.hubloops.proofs.Turning.{made_apart}
use Rattle.hubloops.proofs.alone.AloneGate.gone.Goals as goal

pub returns-clause-call : goal.returns-clause-call
returns-clause-call c = made_apart (Went c.args.link c.link_gone_uncounted.result) c.args.self.now c.self.inside.hub c.self.inside.quit c.self.inside.calls c.self.inside.idle c.self.inside.over c.link_gone_uncounted.new.self false c.self.view_is (does_go c.self.inside.hub c.link_gone_uncounted.new.self c.args.link c.link_gone_uncounted.result c.link_gone_uncounted.ensures.ok c.link_gone_uncounted.ensures.kept c.link_gone_uncounted.ensures.same c.link_gone_uncounted.ensures.asking c.link_gone_uncounted.ensures.asks)
