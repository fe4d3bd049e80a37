-- Which clients carry which names, as a script that is read holds it.
--     carried_too carrying word      who carries a name that the client of a word carries, too
--     is_alone w carrying      whether no other client than that of a word carries a name
--     alone_by names, alone_in carriers      the same of each name, but for case
use Rattle.std.specs.Prelude.{Bool, true, false, Option, Some, None, string_bytes, if◌then◌else◌}
use Rattle.std.specs.Str.{bytes_eq}
use Rattle.std.specs.BTreeMap.{BTreeMap, get}
use Rattle.std.specs.declared.alloc.Global.{Global}
use Rattle.std.specs.declared.string.String.{String}
use Rattle.dnsname.specs.Names.{Labels}
use Rattle.dnsname.specs.Caseless.{name_order}
use Rattle.scripts.specs.Lines.{Word}
use Rattle.scripts.specs.declared.named.Carriers.{Carriers}
use Rattle.scripts.specs.declared.named.Carrying.{Carrying}
use Rattle.scripts.specs.declared.named.Carrying.TheVariants.{One, Several}

abbrev pub carried_too : Option Carrying → String Global → Carrying
carried_too None word = One word
carried_too (Some (One other)) word = if bytes_eq (string_bytes other) (string_bytes word) then One word else Several
carried_too (Some Several) word = Several

abbrev pub is_alone : Word → Option Carrying → Bool
is_alone w None = true
is_alone w (Some (One word)) = bytes_eq (string_bytes word) w
is_alone w (Some Several) = false

abbrev pub alone_by : BTreeMap Labels Carrying → Word → Labels → Bool
alone_by names w name = is_alone w (get name_order names name)

abbrev pub alone_in : Carriers → Word → Labels → Bool
alone_in carriers = alone_by carriers.names
