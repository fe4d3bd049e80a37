-- What a client tells of a question, by what it is known to hold.
use Rattle.std.proofs.Common.{◌≡◌, ℕ, Bool, true, false, Option, Some, None, refl, sym, ap}
use Rattle.pushclient.specs.Clients.{Held, off, asked_only, refused_with, set_held}
use Rattle.pushclient.specs.Kept.{HoldsAs}
use Rattle.pushclient.specs.declared.client.Held.{Held as Told}
use Rattle.pushclient.specs.declared.client.Held.TheVariants as tolds
use Rattle.browsing.specs.Browsing.{awaits, holds, refused_in}

abbrev pub awaits_told : Told → Bool
awaits_told tolds.Asked = true
awaits_told tolds.Off = false
awaits_told (tolds.Refused rcode) = false
awaits_told (tolds.Answered set) = false

pub told_awaits : (told : Told) (h : Held) → HoldsAs told h → awaits_told told ≡ awaits h
told_awaits tolds.Off h is = sym (ap awaits is)
told_awaits tolds.Asked h is = sym (ap awaits is)
told_awaits (tolds.Refused rcode) h is = sym (ap awaits is)
told_awaits (tolds.Answered set) (set_held id rows) is = refl
told_awaits (tolds.Answered set) off is = absurd is
told_awaits (tolds.Answered set) asked_only is = absurd is
told_awaits (tolds.Answered set) (refused_with rcode) is = absurd is

abbrev pub holds_told : Told → Bool
holds_told tolds.Asked = false
holds_told tolds.Off = false
holds_told (tolds.Refused rcode) = false
holds_told (tolds.Answered set) = true

pub told_holds : (told : Told) (h : Held) → HoldsAs told h → holds_told told ≡ holds h
told_holds tolds.Off h is = sym (ap holds is)
told_holds tolds.Asked h is = sym (ap holds is)
told_holds (tolds.Refused rcode) h is = sym (ap holds is)
told_holds (tolds.Answered set) (set_held id rows) is = refl
told_holds (tolds.Answered set) off is = absurd is
told_holds (tolds.Answered set) asked_only is = absurd is
told_holds (tolds.Answered set) (refused_with rcode) is = absurd is

abbrev pub refused_told : Told → Option ℕ
refused_told tolds.Asked = None
refused_told tolds.Off = None
refused_told (tolds.Refused rcode) = Some rcode
refused_told (tolds.Answered set) = None

pub told_refused : (told : Told) (h : Held) → HoldsAs told h → refused_told told ≡ refused_in h
told_refused tolds.Off h is = sym (ap refused_in is)
told_refused tolds.Asked h is = sym (ap refused_in is)
told_refused (tolds.Refused rcode) h is = sym (ap refused_in is)
told_refused (tolds.Answered set) (set_held id rows) is = refl
told_refused (tolds.Answered set) off is = absurd is
told_refused (tolds.Answered set) asked_only is = absurd is
told_refused (tolds.Answered set) (refused_with rcode) is = absurd is
