-- RCODEs, by their numbers (RFC 1035, 4.1.1; RFC 2136, 2.2; RFC 8490, 10.2). Each number stands in `rcodes` alone.
use Rattle.std.specs.Prelude.{ℕ}
use Rattle.rrset.specs.declared.rcodes.TheConstants as rcodes

abbrev pub noerror : ℕ
noerror = rcodes.NOERROR

abbrev pub formerr : ℕ
formerr = rcodes.FORMERR

abbrev pub servfail : ℕ
servfail = rcodes.SERVFAIL

abbrev pub nxdomain : ℕ
nxdomain = rcodes.NXDOMAIN

abbrev pub notimp : ℕ
notimp = rcodes.NOTIMP

abbrev pub refused : ℕ
refused = rcodes.REFUSED

abbrev pub yxdomain : ℕ
yxdomain = rcodes.YXDOMAIN

abbrev pub yxrrset : ℕ
yxrrset = rcodes.YXRRSET

abbrev pub nxrrset : ℕ
nxrrset = rcodes.NXRRSET

abbrev pub notauth : ℕ
notauth = rcodes.NOTAUTH

abbrev pub notzone : ℕ
notzone = rcodes.NOTZONE

abbrev pub dsotypeni : ℕ
dsotypeni = rcodes.DSOTYPENI
