-- The plain client's call.
use Rattle.std.proofs.Common.{ℕ, List, length, sym, ap, subst}
use Rattle.std.specs.Prelude.{min}
use Rattle.pushclient.proofs.Calls.{moved, keeps}
use Rattle.pushclient.proofs.Standing.{give_stands, output_stands}
use Rattle.pushclient.specs.Clients.{Client, give_octets, output_of}
use Rattle.pushclient.specs.Rule.{KeptClient, StandsFor}
use Rattle.pushclient.specs.Kept.{kept_give, output_on}
use Rattle.pushclient.proofs.client.Client.give.Goals as goal

-- as many octets as the plain client's output has
given : (size : ℕ) (k : KeptClient) (p : Client) → StandsFor k p → StandsFor (kept_give (min size (length (output_on k.connection))) k) (give_octets (min size (length (output_of p))) p)
given size k p t = subst (λ (n : ℕ). StandsFor (kept_give n k) (give_octets (min size (length (output_of p))) p)) (ap (λ (l : List ℕ). min size (length l)) (sym (output_stands k p t))) (give_stands k p t (min size (length (output_of p))))

pub returns-clause-given : goal.returns-clause-given
returns-clause-given c = λ plain s. moved (λ k. kept_give (min (length c.args.buf.now) (length (output_on k.connection))) k) (λ p. give_octets (min (length c.args.buf.now) (length (output_of p))) p)
    (given (length c.args.buf.now)) c.args.self.now c.self.inside.keeping c.give.new.self c.self.view_is c.give.ensures.rest plain s

pub invariant_of-self : goal.invariant_of-self
invariant_of-self c = keeps (λ k. kept_give (min (length c.args.buf.now) (length (output_on k.connection))) k) (λ p. give_octets (min (length c.args.buf.now) (length (output_of p))) p)
    (given (length c.args.buf.now)) c.self.inside.keeping c.give.new.self c.give.ensures.rest c.self.invariant
