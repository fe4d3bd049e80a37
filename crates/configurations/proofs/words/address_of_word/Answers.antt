use Rattle.std.proofs.Common.{◌<◌, length, arith, rules}
use Rattle.std.specs.Prelude.{string_bytes}
use Rattle.configurations.proofs.Addresses.{some_address, no_address}
use Rattle.configurations.proofs.words.address_of_word.Goals as goal

pub returns-in_default : goal.returns-in_default
returns-in_default c = no_address c.args.text.now c.in_default.ensures.cases.0

pub returns : goal.returns
returns c =
    let some : 0 < length c.args.text.now = grind arith in
    some_address c.args.text.now (string_bytes c.in_ok-from_str.field-0) some c.in-Ok.ensures.cases.1 (search rules)
