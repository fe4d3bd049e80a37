use Rattle.std.proofs.Common.{sym, subst, string_bytes, false, true}
use Rattle.push_base.specs.Line.{read_of}
use Rattle.push_base.specs.declared.got.Got.{Got}
use Rattle.subscriber.specs.Standing.{Hears}
use Rattle.subscriber.proofs.ReadOctets.{hears-quiet, hears-end}
use Rattle.subscriber.proofs.reacting.hear.Goals as goal

pub returns-in_ok-said-in-Bytes : goal.returns-in_ok-said-in-Bytes
returns-in_ok-said-in-Bytes c =
    subst (λ (got : Got). Hears c.args.client.now c.args.messages.now (read_of got c.args.buffer.now) c.hear_octets.new.client c.hear_octets.new.messages (string_bytes c.in_ok-said-in-Bytes.said.text) c.in_ok-said-in-Bytes.said.is_over)
    (sym c.in-Bytes.is) c.in_ok-said-in-Bytes.ensures

pub returns-in-Quiet : goal.returns-in-Quiet
returns-in-Quiet c =
    subst (λ (got : Got). Hears c.args.client.now c.args.messages.now (read_of got c.args.buffer.now) c.args.client.now c.args.messages.now (string_bytes c.new.result) false)
    (sym c.in-Quiet.is) (hears-quiet c.args.client.now c.args.messages.now (string_bytes c.new.result) c.new.ensures.bytes)

pub returns-in_ok-text-in-End : goal.returns-in_ok-text-in-End
returns-in_ok-text-in-End c =
    subst (λ (got : Got). Hears c.args.client.now c.args.messages.now (read_of got c.args.buffer.now) c.args.client.now c.args.messages.now (string_bytes c.in_ok-text-in-End.text) true)
    (sym c.in-End.is) (hears-end c.args.client.now c.args.messages.now (string_bytes c.in_ok-text-in-End.text) c.in_ok-text-in-End.ensures.ok)
