-- What an update that is read brings: owners that are names, kinds of 16 bits, and rdata that fits its kind.
--     IsRead rr      what holds of each record that is read
--     changes_read      the changes of an update that is read
use Rattle.std.proofs.Common.{◌≡◌, ℕ, ◌+◌, ◌^◌, ◌<◌, ◌≤◌, Bool, true, false, cond, not, ◌&&◌, ◌||◌, ltb, eqb, List, [], ◌∷◌, length, Result, Ok, Err, ◌==◌, refl, sym, ap, subst}
use Rattle.std.specs.Prelude.{slice_range, nat_lt, MatchBool}
use Rattle.std.specs.List.{AllByRecursion}
use Rattle.std.proofs.lemmas.List.Elements.{recursion_from_All}
use Rattle.std.proofs.lemmas.Bool.{eqb-true, ltb-false, lt-ltb}
use Rattle.push_base.specs.Cases.{fault_as}
use Rattle.dnsname.specs.Names.{is_name}
use Rattle.dnsname.proofs.Decisions.{is_name-Decides}
use Rattle.rrset.specs.Header.{flags_of, is_response, opcode_of, update_opcode}
use Rattle.rrset.specs.Kinds.{in_class}
use Rattle.rrset.specs.Rcodes.{formerr}
use Rattle.rrset.specs.Rdata.{shape, shape_fits}
use Rattle.rrset.specs.Spelling.{SpellsShape}
use Rattle.rrset.specs.declared.record.Rr.{Rr}
use Rattle.dnswire.specs.Reading.{update_shape, update_of}
use Rattle.dnswire.specs.Spelling.{SpellsRecord, SpellsSeveral}
use Rattle.dnswire.specs.declared.message.Update.{Update}
use Rattle.dnswire.proofs.Entries.{done_as}
use Rattle.dnswire.proofs.Messages.{update-found}
use Rattle.dsotlv.specs.Laws.{AreOctets}
use Rattle.dsotlv.proofs.Numbers.{two_below}
use Rattle.history.specs.States.{update_in}
use Rattle.pushserver.proofs.told_rows.Shaped.{spelled-fits}

-- ---- a record that is read

pub record IsRead (rr : Rr) : Type 0 where
  pub owner : is_name rr.owner ≡ true
  pub kind : ltb rr.kind (2 ^ 16) ≡ true
  pub rdata : (rr.class == in_class) ≡ true → shape_fits rr.kind rr.rdata ≡ true

by_shape : (class size : ℕ) → (class == in_class) ≡ true → update_shape class size ≡ true
by_shape class size e = ap (λ b. b || (class == 254 && nat_lt 0 size)) e

record_read : (message : List ℕ) → AreOctets message → (at : ℕ) (rr : Rr) (after : ℕ) → SpellsRecord update_shape message at rr after → IsRead rr
record_read message below at rr after s = record {
  owner = (is_name-Decides rr.owner).1 s.owner.is_name;
  kind = lt-ltb rr.kind (2 ^ 16) (subst (λ (n : ℕ). n < 2 ^ 16) (sym s.kind.2) (two_below message s.owner_end below));
  rdata = λ is. spelled-fits rr.kind message (s.owner_end + 10) after rr.rdata s.whole.1
      (subst (λ (b : Bool). MatchBool b (SpellsShape (shape rr.kind) message (s.owner_end + 10) after rr.rdata) (rr.rdata ≡ slice_range message (s.owner_end + 10) after)) (by_shape rr.class s.size is) s.rdata);
}

records_read : (message : List ℕ) → AreOctets message → (rrs : List Rr) (at after : ℕ) → SpellsSeveral (SpellsRecord update_shape) message at rrs after → AllByRecursion IsRead rrs
records_read message below [] at after s = tt
records_read message below (rr ∷ rrs) at after (next, first, others) = (record_read message below at rr next first, records_read message below rrs next after others)

-- ---- an update that is read

record IsUpdate (message : List ℕ) (update : Update) : Type 0 where
  pub long : 12 ≤ length message
  pub response : is_response (flags_of message) ≡ false
  pub opcode : opcode_of (flags_of message) ≡ update_opcode
  pub read : update_of message ≡ Ok update

abbrev tested : Bool → Bool → Bool → Bool → Result Update ℕ → Result Update ℕ
tested short long response opcode r = cond (short || long || response || not opcode) (Err formerr) r

record Passed (short long response opcode : Bool) (r : Result Update ℕ) (update : Update) : Type 0 where
  pub short_is : short ≡ false
  pub response_is : response ≡ false
  pub opcode_is : opcode ≡ true
  pub read : r ≡ Ok update

passed : (short long response opcode : Bool) (r : Result Update ℕ) (update : Update) → tested short long response opcode r ≡ Ok update → Passed short long response opcode r update
passed true long response opcode r update e = absurd cc
passed false true response opcode r update e = absurd cc
passed false false true opcode r update e = absurd cc
passed false false false false r update e = absurd cc
passed false false false true r update e = record { short_is = refl; response_is = refl; opcode_is = refl; read = e }

is_update : (message : List ℕ) (update : Update) → update_in message ≡ Ok update → IsUpdate message update
is_update message update e =
    let tests = passed (ltb (length message) 12) (ltb 65535 (length message)) (is_response (flags_of message)) (eqb (opcode_of (flags_of message)) update_opcode) (fault_as (λ _. formerr) (update_of message)) update e in
    record {
      long = ltb-false _ _ tests.short_is;
      response = tests.response_is;
      opcode = eqb-true _ _ tests.opcode_is;
      read = done_as (λ _. formerr) (update_of message) update tests.read;
    }

pub changes_read : (message : List ℕ) (update : Update) → AreOctets message → update_in message ≡ Ok update → AllByRecursion IsRead update.changes
changes_read message update below e =
    let is = is_update message update e in
    let spelled = update-found message update (recursion_from_All (λ o. o < 256) message below) is.long (is.response, is.opcode) is.read in
    records_read message below update.changes spelled.sections.answers_end spelled.sections.authority_end spelled.sections.authority.1
