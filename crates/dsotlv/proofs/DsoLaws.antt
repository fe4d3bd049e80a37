-- A DSO message that a text spells is what is read, and what is read is spelled.
use Rattle.std.proofs.Common.{◌≡◌, ℕ, ◌+◌, ◌<◌, ◌≤◌, ◌^◌, Bool, true, false, cond, ltb, eqb, List, [], ◌∷◌, ◌++◌, length, take, drop, Result, Ok, Err, refl, sym, ap, subst, ◌∙◌, arith}
use Rattle.std.specs.Prelude.{flat_map, slice_range}
use Rattle.std.specs.Int.{w16, to_be_bytes}
use Rattle.std.specs.List.{list_all}
use Rattle.std.proofs.lemmas.Bool.{eqb-true, eq-eqb, le-ltb, le-leb, lt-leb}
use Rattle.std.proofs.lemmas.Bool.Decides.{nat_tests}
use Rattle.std.proofs.Math.ListN.{replicate}
use Rattle.dnsname.proofs.Decisions.{and_true}
use Rattle.std.proofs.lemmas.List.Folds.{drop_split}
use Rattle.push_base.specs.Cases.{◌>>=◌}
use Rattle.rrset.specs.Header.{id_of, flags_of, is_response, opcode_of, rcode_of, answer_octets}
use Rattle.dsotlv.specs.declared.message.Tlv.{Tlv}
use Rattle.dsotlv.specs.declared.message.DsoMessage.{DsoMessage}
use Rattle.dsotlv.specs.declared.message.DsoFault.{DsoFault}
use Rattle.dsotlv.specs.declared.message.DsoFault.TheVariants.{Short, Opcode, Counts}
use Rattle.dsotlv.specs.Messages.{tlv_octets, tlvs_of, dso_opcode, has_zero_counts, dso_of, dso_flags, dso_octets}
use Rattle.dsotlv.specs.Spelling.{SpellsDso}
use Rattle.dsotlv.specs.Laws.{AreOctets, FitsDso}
use Rattle.dsotlv.proofs.Results.{done, same_done, bind_done, else_done, then_done}
use Rattle.dsotlv.proofs.Numbers.{drop_next, room, length-range, two_read, two_there, two_below}
use Rattle.dsotlv.proofs.TlvLaws.{tlvs_there, tlvs_found}

abbrev zeros : List ℕ
zeros = 0 ∷ 0 ∷ 0 ∷ 0 ∷ 0 ∷ 0 ∷ 0 ∷ 0 ∷ []

-- what a message says with these flags
abbrev pub said : ℕ → ℕ → List Tlv → DsoMessage
said id flags tlvs = record { id = id; response = is_response flags; rcode = rcode_of flags; tlvs = tlvs }

-- reading, by its tests
abbrev pub by_tests : Bool → Bool → Bool → Result (List Tlv) DsoFault → ℕ → ℕ → Result DsoMessage DsoFault
by_tests short dso counts tlvs id flags = cond short (Err Short) (cond dso (cond counts (tlvs >>= λ tlvs. Ok (said id flags tlvs)) (Err Counts)) (Err Opcode))

pub same_tests : (text : List ℕ) → dso_of text ≡ by_tests (ltb (length text) 12) (eqb (opcode_of (flags_of text)) dso_opcode) (has_zero_counts text) (tlvs_of text) (id_of text) (flags_of text)
same_tests text = refl

-- ---- what is spelled is read

tests_passed : (short dso counts : Bool) (read : Result (List Tlv) DsoFault) (tlvs : List Tlv) (id flags : ℕ) → short ≡ false → dso ≡ true → counts ≡ true → read ≡ Ok tlvs → by_tests short dso counts read id flags ≡ done (said id flags tlvs)
tests_passed short dso counts read tlvs id flags s d z r = rw (s, d, z, r) refl

pub dso_there : (text : List ℕ) (message : DsoMessage) → SpellsDso text message → dso_of text ≡ Ok message
dso_there text message spelled =
    let flags = spelled.flags in
    let body = flat_map tlv_octets message.tlvs in
    let first : drop 0 text ≡ to_be_bytes w16 message.id ++ (to_be_bytes w16 flags ++ (zeros ++ body)) = spelled.whole in
    let second : drop 2 text ≡ to_be_bytes w16 flags ++ (zeros ++ body) = drop_next text 0 2 (to_be_bytes w16 message.id) (to_be_bytes w16 flags ++ (zeros ++ body)) first refl in
    let third : drop 4 text ≡ zeros ++ body = drop_next text 2 4 (to_be_bytes w16 flags) (zeros ++ body) second refl in
    let fourth : drop 12 text ≡ body = drop_next text 4 12 zeros body third refl in
    let id-is : id_of text ≡ message.id = two_read message.id text 0 (to_be_bytes w16 flags ++ (zeros ++ body)) spelled.id_fits first in
    let flags-are : flags_of text ≡ flags = two_read flags text 2 (zeros ++ body) spelled.flags_fit second in
    let long : 12 ≤ length text = omega (arith, room text 0 (to_be_bytes w16 message.id ++ (to_be_bytes w16 flags ++ zeros)) body first) in
    let short : ltb (length text) 12 ≡ false = le-ltb (length text) 12 long in
    let dso : eqb (opcode_of (flags_of text)) dso_opcode ≡ true = eq-eqb (opcode_of (flags_of text)) dso_opcode (ap opcode_of flags-are ∙ spelled.opcode) in
    let counts : has_zero_counts text ≡ true = ap (λ (xs : List ℕ). list_all (λ o. eqb o 0) (take 8 xs)) third in
    let tlvs : tlvs_of text ≡ Ok message.tlvs = tlvs_there (length text) text 12 message.tlvs spelled.tlvs_fit long (omega arith) fourth in
    let read = tests_passed (ltb (length text) 12) (eqb (opcode_of (flags_of text)) dso_opcode) (has_zero_counts text) (tlvs_of text) message.tlvs (id_of text) (flags_of text) short dso counts tlvs in
    let response : is_response (flags_of text) ≡ message.response = ap is_response flags-are ∙ sym spelled.response in
    let rcode : rcode_of (flags_of text) ≡ message.rcode = ap rcode_of flags-are ∙ sym spelled.rcode in
    same_tests text ∙ read ∙ λ i. Ok (record { id = id-is i; response = response i; rcode = rcode i; tlvs = message.tlvs })

-- ---- what is read is spelled

-- what was tested of a text that was read
record Passed (short dso counts : Bool) (read : Result (List Tlv) DsoFault) (id flags : ℕ) (message : DsoMessage) : Type 0 where
  pub long : short ≡ false
  pub dso_is : dso ≡ true
  pub counts_are : counts ≡ true
  pub tlvs : read ≡ done message.tlvs
  pub message_is : said id flags message.tlvs ≡ message

passed : (short dso counts : Bool) (read : Result (List Tlv) DsoFault) (id flags : ℕ) (message : DsoMessage) → by_tests short dso counts read id flags ≡ done message → Passed short dso counts read id flags message
passed short dso counts read id flags message e =
    let first = else_done short Short (cond dso (cond counts (read >>= λ tlvs. Ok (said id flags tlvs)) (Err Counts)) (Err Opcode)) message e in
    let second = then_done dso Opcode (cond counts (read >>= λ tlvs. Ok (said id flags tlvs)) (Err Counts)) message first.1 in
    let third = then_done counts Counts (read >>= λ tlvs. Ok (said id flags tlvs)) message second.1 in
    let last = bind_done read (λ tlvs. done (said id flags tlvs)) message third.1 in
    let is : said id flags last.0 ≡ message = same_done (said id flags last.0) message last.2 in
    let tlvs-are : last.0 ≡ message.tlvs = ap (λ (m : DsoMessage). m.tlvs) is in
    record {
      long = first.0;
      dso_is = second.0;
      counts_are = third.0;
      tlvs = last.1 ∙ ap (λ (tlvs : List Tlv). done tlvs) tlvs-are;
      message_is = ap (said id flags) (sym tlvs-are) ∙ is;
    }

all_zero : (xs : List ℕ) → list_all (λ o. eqb o 0) xs ≡ true → xs ≡ replicate (length xs) 0
all_zero [] h = refl
all_zero (x ∷ xs) h =
    let both = and_true (eqb x 0) (list_all (λ o. eqb o 0) xs) h in
    ap (λ (y : ℕ). y ∷ xs) (eqb-true x 0 both.0) ∙ ap (λ (ys : List ℕ). 0 ∷ ys) (all_zero xs both.1)

ltb_false : (a b : ℕ) → ltb a b ≡ false → b ≤ a
ltb_false a b h = grind (arith, nat_tests)

pub dso_found : (text : List ℕ) (message : DsoMessage) → AreOctets text → dso_of text ≡ Ok message → SpellsDso text message
dso_found text message below e =
    let tests = passed (ltb (length text) 12) (eqb (opcode_of (flags_of text)) dso_opcode) (has_zero_counts text) (tlvs_of text) (id_of text) (flags_of text) message e in
    let long : 12 ≤ length text = ltb_false (length text) 12 tests.long in
    let tlvs = tlvs_found (length text) text below 12 message.tlvs long (omega arith) tests.tlvs in
    let zero_counts : slice_range text 4 12 ≡ zeros = all_zero (slice_range text 4 12) tests.counts_are ∙ ap (λ n. replicate n 0) (length-range text 4 12 (omega arith) long) in
    let third : drop 4 text ≡ zeros ++ drop 12 text = drop_split text 4 12 (omega arith) ∙ ap (λ (xs : List ℕ). xs ++ drop 12 text) zero_counts in
    let second : drop 2 text ≡ to_be_bytes w16 (flags_of text) ++ drop 4 text = two_there text 2 4 below (omega (arith, long)) refl in
    let first : text ≡ to_be_bytes w16 (id_of text) ++ drop 2 text = two_there text 0 2 below (omega (arith, long)) refl in
    let id-is : id_of text ≡ message.id = ap (λ (m : DsoMessage). m.id) tests.message_is in
    record {
      flags = flags_of text;
      flags_fit = two_below text 2 below;
      id_fits = subst (λ (n : ℕ). n < 2 ^ 16) id-is (two_below text 0 below);
      opcode = eqb-true (opcode_of (flags_of text)) dso_opcode tests.dso_is;
      response = sym (ap (λ (m : DsoMessage). m.response) tests.message_is);
      rcode = sym (ap (λ (m : DsoMessage). m.rcode) tests.message_is);
      tlvs_fit = tlvs.sized;
      whole = first ∙ ap (λ (xs : List ℕ). to_be_bytes w16 (id_of text) ++ xs) second
          ∙ ap (λ (xs : List ℕ). to_be_bytes w16 (id_of text) ++ (to_be_bytes w16 (flags_of text) ++ xs)) (third ∙ ap (λ (xs : List ℕ). zeros ++ xs) tlvs.whole)
          ∙ ap (λ (n : ℕ). answer_octets n (flags_of text) ++ flat_map tlv_octets message.tlvs) id-is;
    }

-- ---- what is written is spelled

flags_written : (response : Bool) (rcode : ℕ) → rcode < 16 → (dso_flags response rcode < 2 ^ 16) × (opcode_of (dso_flags response rcode) ≡ dso_opcode) × (response ≡ is_response (dso_flags response rcode)) × (rcode ≡ rcode_of (dso_flags response rcode))
flags_written true rcode small = (omega arith, omega arith, sym (le-leb 0x8000 (0xb000 + rcode) (omega arith)), omega arith)
flags_written false rcode small = (omega arith, omega arith, sym (lt-leb 0x8000 (0x3000 + rcode) (omega arith)), omega arith)

pub dso_written : (message : DsoMessage) → FitsDso message → SpellsDso (dso_octets message) message
dso_written message fits =
    let flags = flags_written message.response message.rcode fits.rcode in
    record {
      flags = dso_flags message.response message.rcode;
      flags_fit = flags.0;
      id_fits = fits.id;
      opcode = flags.1;
      response = flags.2;
      rcode = flags.3;
      tlvs_fit = fits.tlvs;
      whole = refl;
    }
