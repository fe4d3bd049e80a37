use Rattle.hubasking.proofs.hub.Hub.session.Goals as goal

pub session_at-requires : goal.session_at-requires
session_at-requires c = record { plain = c.self.invariant.plain; stands = c.self.invariant.stands }
