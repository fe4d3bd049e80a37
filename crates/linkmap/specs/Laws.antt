-- What the two translations promise of each other.
--     HeardIsShown      what is heard as a record is shown with the record's key
--     ShownIsHeard      what is shown of a record is heard, with any record of its key, as one with the record's key
--     EachIsShownByItself      two records of the link that aren't one are never shown with one key
--     OneKeyIsShownAsOne      records with one key are usable, and shown, as one
--     OneKeyIsOfOneSize      and under the domain they are of one size
--     ShownIsUnderTheDomain      what is shown lies under the domain
use Rattle.std.specs.Prelude.{◌≡◌, false, Some, IsTrue, option_map}
use Rattle.dnsname.specs.Names.{Labels, IsName, ends_in}
use Rattle.rrset.specs.Records.{key_of, rr_size}
use Rattle.rrset.specs.declared.record.Rr.{Rr}
use Rattle.linkmap.specs.Translation.{local, renamed_rr, fits_a_name, is_usable, shown_as, heard_as}

abbrev pub HeardIsShown : Type 0
HeardIsShown = (domain : Labels) (rr heard : Rr) → heard_as domain rr ≡ Some heard → option_map key_of (shown_as domain heard) ≡ Some (key_of rr)

-- a domain that ends in `local.` is none of a link's (this project's own); a link's owner is a name (RFC 1035, 2.3.4)
abbrev pub ShownIsHeard : Type 0
ShownIsHeard = (domain : Labels) (rr shown back : Rr) → IsName domain → ends_in domain local ≡ false → IsTrue (fits_a_name rr.owner) → IsTrue (is_usable domain rr)
    → shown_as domain rr ≡ Some shown → key_of back ≡ key_of shown → option_map key_of (heard_as domain back) ≡ Some (key_of rr)

abbrev pub EachIsShownByItself : Type 0
EachIsShownByItself = (domain : Labels) (rr other shown again : Rr) → IsName domain → IsTrue (is_usable domain rr) → IsTrue (is_usable domain other)
    → shown_as domain rr ≡ Some shown → shown_as domain other ≡ Some again → key_of shown ≡ key_of again → key_of rr ≡ key_of other

abbrev pub ShownIsUnderTheDomain : Type 0
ShownIsUnderTheDomain = (domain : Labels) (rr shown : Rr) → IsTrue (is_usable domain rr) → shown_as domain rr ≡ Some shown → IsTrue (ends_in shown.owner domain)

abbrev pub OneKeyIsShownAsOne : Type 0
OneKeyIsShownAsOne = (domain : Labels) (rr other : Rr) → IsName domain → key_of rr ≡ key_of other → IsTrue (is_usable domain rr)
    → IsTrue (is_usable domain other) × (option_map key_of (shown_as domain rr) ≡ option_map key_of (shown_as domain other))

abbrev pub OneKeyIsOfOneSize : Type 0
OneKeyIsOfOneSize = (domain : Labels) (rr other : Rr) → key_of rr ≡ key_of other → rr_size (renamed_rr local domain rr) ≡ rr_size (renamed_rr local domain other)
