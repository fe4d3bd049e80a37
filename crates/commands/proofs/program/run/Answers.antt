use Rattle.std.proofs.Common.{Some, None, refl, sym, ◌∙◌, ap}
use Rattle.scripts.proofs.ReadPieces.{lost_none}
use Rattle.commands.specs.Command.{asked}
use Rattle.commands.proofs.Running.{usage_answered, input_answered, path_answered, number_answered}
use Rattle.commands.proofs.Promises.{replies_written, promises_kept, relayed_truly}
use Rattle.commands.proofs.Following.{followed, not-followed, none-known}
use Rattle.commands.proofs.Serving.{serves_so, not-served, none-known as none-known-served}
use Rattle.commands.specs.Words.{On_input, At_path, Big, Serve, Subscribe}
use Rattle.commands.proofs.Sharing.{not-shared, shares_so}
use Rattle.commands.proofs.program.run.Goals as goal

pub returns-in-None-clause-replied : goal.returns-in-None-clause-replied
returns-in-None-clause-replied g c =
    replies_written c.sends_are_answered.ensures.asks c.lone_clients_react_to_each_message.ensures _ _
    (λ octets may. usage_answered _ _ _ octets _ _ _ _ c.in-None.ensures c.code.ensures c.tell_status.ensures.told)

pub returns-in-Some-OnInput-clause-replied : goal.returns-in-Some-OnInput-clause-replied
returns-in-Some-OnInput-clause-replied g c =
    let is = ap (λ x. Some (asked x)) (sym c.in-Some-OnInput.field-0-is) ∙ c.in-Some-OnInput.ensures in
    replies_written c.sends_are_answered.ensures.asks c.lone_clients_react_to_each_message.ensures _ _
    (λ octets may. input_answered c.whole_replies_are_one.ensures.one _ _ _ c.in-Some-OnInput.task _ _ _ _ _ octets _ _ is c.code-in-Some-OnInput.ensures c.on_source.ensures.replied may)

pub returns-in-Some-AtPath-clause-replied : goal.returns-in-Some-AtPath-clause-replied
returns-in-Some-AtPath-clause-replied g c =
    let is = ap (λ x. Some (asked x)) (sym c.in-Some-AtPath.field-0-is) ∙ c.in-Some-AtPath.ensures in
    replies_written c.sends_are_answered.ensures.asks c.lone_clients_react_to_each_message.ensures _ _
    (λ octets may. path_answered c.whole_replies_are_one.ensures.one _ _ _ c.in-Some-AtPath.task c.in-Some-AtPath.path.now _ _ _ _ _ octets _ _ is c.code-in-Some-AtPath.ensures (c.at_path-outcome.ensures.replied octets) may)

pub returns-in-None-clause-promises : goal.returns-in-None-clause-promises
returns-in-None-clause-promises g c = λ octets script asks. promises_kept c.scripts_hold_throughout.ensures.throughout _ octets script asks

pub returns-in-Some-OnInput-clause-promises : goal.returns-in-Some-OnInput-clause-promises
returns-in-Some-OnInput-clause-promises g c = λ octets script asks. promises_kept c.scripts_hold_throughout.ensures.throughout _ octets script asks

pub returns-in-Some-AtPath-clause-promises : goal.returns-in-Some-AtPath-clause-promises
returns-in-Some-AtPath-clause-promises g c = λ octets script asks. promises_kept c.scripts_hold_throughout.ensures.throughout _ octets script asks

pub returns-in-Some-Big-clause-replied : goal.returns-in-Some-Big-clause-replied
returns-in-Some-Big-clause-replied g c =
    let is = ap (λ x. Some (asked x)) (sym c.in-Some-Big.field-0-is) ∙ c.in-Some-Big.ensures in
    replies_written c.sends_are_answered.ensures.asks c.lone_clients_react_to_each_message.ensures _ _
    (λ octets may. number_answered c.replies_are_one.ensures.one _ _ _ c.in-Some-Big.number _ _ octets _ _ is c.code-in-Some-Big.ensures c.tell_sums.ensures.replied)

pub returns-in-Some-Big-clause-promises : goal.returns-in-Some-Big-clause-promises
returns-in-Some-Big-clause-promises g c = λ octets script asks. promises_kept c.scripts_hold_throughout.ensures.throughout _ octets script asks

pub returns-in-Some-Subscribe-clause-replied : goal.returns-in-Some-Subscribe-clause-replied
returns-in-Some-Subscribe-clause-replied g c =
    let is = ap (λ x. Some (asked x)) (sym c.in-Some-Subscribe.field-0-is) ∙ c.in-Some-Subscribe.ensures in
    replies_written c.sends_are_answered.ensures.asks c.lone_clients_react_to_each_message.ensures _ _
    (λ octets may. absurd (none-known _ c.in-Some-Subscribe.path.now _ _ _ octets is may))

pub returns-in-Some-Subscribe-clause-promises : goal.returns-in-Some-Subscribe-clause-promises
returns-in-Some-Subscribe-clause-promises g c = λ octets script asks. promises_kept c.scripts_hold_throughout.ensures.throughout _ octets script asks

pub returns-in-Some-Subscribe-clause-followed : goal.returns-in-Some-Subscribe-clause-followed
returns-in-Some-Subscribe-clause-followed g c = λ octets.
    let is = ap (λ x. Some (asked x)) (sym c.in-Some-Subscribe.field-0-is) ∙ c.in-Some-Subscribe.ensures in
    followed _ c.in-Some-Subscribe.path.now _ _ _ _ octets is c.code-in-Some-Subscribe.ensures (c.subscribe_at.ensures.followed octets)

pub returns-in-None-clause-followed : goal.returns-in-None-clause-followed
returns-in-None-clause-followed g c = λ octets. not-followed _ None _ _ _ octets c.in-None.ensures tt

pub returns-in-Some-OnInput-clause-followed : goal.returns-in-Some-OnInput-clause-followed
returns-in-Some-OnInput-clause-followed g c = λ octets.
    let is = ap (λ x. Some (asked x)) (sym c.in-Some-OnInput.field-0-is) ∙ c.in-Some-OnInput.ensures in
    not-followed _ (Some (On_input c.in-Some-OnInput.task)) _ _ _ octets is tt

pub returns-in-Some-AtPath-clause-followed : goal.returns-in-Some-AtPath-clause-followed
returns-in-Some-AtPath-clause-followed g c = λ octets.
    let is = ap (λ x. Some (asked x)) (sym c.in-Some-AtPath.field-0-is) ∙ c.in-Some-AtPath.ensures in
    not-followed _ (Some (At_path c.in-Some-AtPath.task c.in-Some-AtPath.path.now)) _ _ _ octets is tt

pub returns-in-Some-Big-clause-followed : goal.returns-in-Some-Big-clause-followed
returns-in-Some-Big-clause-followed g c = λ octets.
    let is = ap (λ x. Some (asked x)) (sym c.in-Some-Big.field-0-is) ∙ c.in-Some-Big.ensures in
    not-followed _ (Some (Big c.in-Some-Big.number)) _ _ _ octets is tt

pub returns-in-Some-Serve-clause-replied : goal.returns-in-Some-Serve-clause-replied
returns-in-Some-Serve-clause-replied g c =
    let is = ap (λ x. Some (asked x)) (sym c.in-Some-Serve.field-0-is) ∙ c.in-Some-Serve.ensures in
    replies_written c.sends_are_answered.ensures.asks c.lone_clients_react_to_each_message.ensures _ _
    (λ octets may. absurd (none-known-served _ c.in-Some-Serve.path.now _ _ _ octets is may))

pub returns-in-Some-Serve-clause-promises : goal.returns-in-Some-Serve-clause-promises
returns-in-Some-Serve-clause-promises g c = λ octets script asks. promises_kept c.scripts_hold_throughout.ensures.throughout _ octets script asks

pub returns-in-Some-Serve-clause-followed : goal.returns-in-Some-Serve-clause-followed
returns-in-Some-Serve-clause-followed g c = λ octets.
    let is = ap (λ x. Some (asked x)) (sym c.in-Some-Serve.field-0-is) ∙ c.in-Some-Serve.ensures in
    not-followed _ (Some (Serve c.in-Some-Serve.path.now)) _ _ _ octets is tt

pub returns-in-Some-Serve-clause-serves : goal.returns-in-Some-Serve-clause-serves
returns-in-Some-Serve-clause-serves g c = λ octets.
    let is = ap (λ x. Some (asked x)) (sym c.in-Some-Serve.field-0-is) ∙ c.in-Some-Serve.ensures in
    serves_so _ c.in-Some-Serve.path.now _ _ _ _ _ octets is c.code-in-Some-Serve.ensures (c.serve_at.ensures.served octets)

pub returns-in-None-clause-serves : goal.returns-in-None-clause-serves
returns-in-None-clause-serves g c = λ octets. not-served _ None _ _ _ _ octets c.in-None.ensures tt

pub returns-in-Some-OnInput-clause-serves : goal.returns-in-Some-OnInput-clause-serves
returns-in-Some-OnInput-clause-serves g c = λ octets.
    let is = ap (λ x. Some (asked x)) (sym c.in-Some-OnInput.field-0-is) ∙ c.in-Some-OnInput.ensures in
    not-served _ (Some (On_input c.in-Some-OnInput.task)) _ _ _ _ octets is tt

pub returns-in-Some-AtPath-clause-serves : goal.returns-in-Some-AtPath-clause-serves
returns-in-Some-AtPath-clause-serves g c = λ octets.
    let is = ap (λ x. Some (asked x)) (sym c.in-Some-AtPath.field-0-is) ∙ c.in-Some-AtPath.ensures in
    not-served _ (Some (At_path c.in-Some-AtPath.task c.in-Some-AtPath.path.now)) _ _ _ _ octets is tt

pub returns-in-Some-Big-clause-serves : goal.returns-in-Some-Big-clause-serves
returns-in-Some-Big-clause-serves g c = λ octets.
    let is = ap (λ x. Some (asked x)) (sym c.in-Some-Big.field-0-is) ∙ c.in-Some-Big.ensures in
    not-served _ (Some (Big c.in-Some-Big.number)) _ _ _ _ octets is tt

pub returns-in-Some-Subscribe-clause-serves : goal.returns-in-Some-Subscribe-clause-serves
returns-in-Some-Subscribe-clause-serves g c = λ octets.
    let is = ap (λ x. Some (asked x)) (sym c.in-Some-Subscribe.field-0-is) ∙ c.in-Some-Subscribe.ensures in
    not-served _ (Some (Subscribe c.in-Some-Subscribe.path.now)) _ _ _ _ octets is tt

pub returns-in-Some-Big-clause-most : goal.returns-in-Some-Big-clause-most
returns-in-Some-Big-clause-most g c = lost_none _ _

pub returns-in-None-clause-shared : goal.returns-in-None-clause-shared
returns-in-None-clause-shared g c = λ octets. not-shared _ None _ _ _ _ _ octets c.in-None.ensures refl

pub returns-in-Some-OnInput-clause-shared : goal.returns-in-Some-OnInput-clause-shared
returns-in-Some-OnInput-clause-shared g c = λ octets.
    let is = ap (λ x. Some (asked x)) (sym c.in-Some-OnInput.field-0-is) ∙ c.in-Some-OnInput.ensures in
    not-shared _ (Some (On_input c.in-Some-OnInput.task)) _ _ _ _ _ octets is refl

pub returns-in-Some-AtPath-clause-shared : goal.returns-in-Some-AtPath-clause-shared
returns-in-Some-AtPath-clause-shared g c = λ octets.
    let is = ap (λ x. Some (asked x)) (sym c.in-Some-AtPath.field-0-is) ∙ c.in-Some-AtPath.ensures in
    not-shared _ (Some (At_path c.in-Some-AtPath.task c.in-Some-AtPath.path.now)) _ _ _ _ _ octets is refl

pub returns-in-Some-Big-clause-shared : goal.returns-in-Some-Big-clause-shared
returns-in-Some-Big-clause-shared g c = λ octets.
    let is = ap (λ x. Some (asked x)) (sym c.in-Some-Big.field-0-is) ∙ c.in-Some-Big.ensures in
    not-shared _ (Some (Big c.in-Some-Big.number)) _ _ _ _ _ octets is refl

pub returns-in-Some-Subscribe-clause-shared : goal.returns-in-Some-Subscribe-clause-shared
returns-in-Some-Subscribe-clause-shared g c = λ octets.
    let is = ap (λ x. Some (asked x)) (sym c.in-Some-Subscribe.field-0-is) ∙ c.in-Some-Subscribe.ensures in
    not-shared _ (Some (Subscribe c.in-Some-Subscribe.path.now)) _ _ _ _ _ octets is refl

pub returns-in-Some-Serve-clause-shared : goal.returns-in-Some-Serve-clause-shared
returns-in-Some-Serve-clause-shared g c = λ octets.
    let is = ap (λ x. Some (asked x)) (sym c.in-Some-Serve.field-0-is) ∙ c.in-Some-Serve.ensures in
    shares_so _ c.in-Some-Serve.path.now _ _ _ _ _ _ octets is c.code-in-Some-Serve.ensures (c.serve_at.ensures.shared octets)

pub returns-in-None-clause-relays : goal.returns-in-None-clause-relays
returns-in-None-clause-relays g c = λ octets script asks. relayed_truly c.scripts_relay_truly.ensures.relays _ octets script asks

pub returns-in-Some-OnInput-clause-relays : goal.returns-in-Some-OnInput-clause-relays
returns-in-Some-OnInput-clause-relays g c = λ octets script asks. relayed_truly c.scripts_relay_truly.ensures.relays _ octets script asks

pub returns-in-Some-AtPath-clause-relays : goal.returns-in-Some-AtPath-clause-relays
returns-in-Some-AtPath-clause-relays g c = λ octets script asks. relayed_truly c.scripts_relay_truly.ensures.relays _ octets script asks

pub returns-in-Some-Big-clause-relays : goal.returns-in-Some-Big-clause-relays
returns-in-Some-Big-clause-relays g c = λ octets script asks. relayed_truly c.scripts_relay_truly.ensures.relays _ octets script asks

pub returns-in-Some-Subscribe-clause-relays : goal.returns-in-Some-Subscribe-clause-relays
returns-in-Some-Subscribe-clause-relays g c = λ octets script asks. relayed_truly c.scripts_relay_truly.ensures.relays _ octets script asks

pub returns-in-Some-Serve-clause-relays : goal.returns-in-Some-Serve-clause-relays
returns-in-Some-Serve-clause-relays g c = λ octets script asks. relayed_truly c.scripts_relay_truly.ensures.relays _ octets script asks
