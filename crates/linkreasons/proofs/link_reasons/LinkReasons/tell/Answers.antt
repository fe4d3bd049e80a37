use Rattle.std.proofs.Common.{subst}
use Rattle.linkreasons.specs.AllReasons.{AllReasons, AreFollowed}
use Rattle.linkreasons.specs.Counting.{AreDistinct}
use Rattle.linkreasons.proofs.Whole.{follows}
use Rattle.linkreasons.proofs.link_reasons.LinkReasons.tell.Goals as goal

pub returns-clause-follows : goal.returns-clause-follows
returns-clause-follows c = subst AreFollowed c.self.view_is (follows c.self.inside.most _ c.self.invariant.0)

pub returns-clause-numbers : goal.returns-clause-numbers
returns-clause-numbers c = subst (λ (a : AllReasons). AreDistinct a.sessions) c.self.view_is c.self.invariant.0.numbers
