-- The order of keys is total.
use Rattle.std.specs.Cmp.{IsTotalOrder, then_total, on_total, nat_cmp_total}
use Rattle.std.specs.Cmp.Lexicographic.{nat_list_cmp_total}
use Rattle.dnsname.specs.Names.{octets}
use Rattle.rrset.specs.Records.{key_cmp}
use Rattle.rrset.specs.declared.record.Key.{Key}

pub key_cmp_total : IsTotalOrder key_cmp
key_cmp_total =
    then_total (on_total (λ (k : Key). octets k.owner) nat_list_cmp_total)
    (then_total (on_total (λ (k : Key). k.kind) nat_cmp_total)
    (then_total (on_total (λ (k : Key). k.rdata) nat_list_cmp_total) (on_total (λ (k : Key). k.class) nat_cmp_total)))
