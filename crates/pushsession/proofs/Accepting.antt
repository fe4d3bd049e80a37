-- A SUBSCRIBE that is accepted: what it writes doesn't depend on the timers and on the input.
use Rattle.std.proofs.Common.{◌≡◌, ◌∙◌, ℕ, ◌+◌, false, true, List, [], ◌∷◌, ◌++◌, length, length-append, append_assoc, refl, sym, ap, arith}
use Rattle.std.proofs.lemmas.List.{append-nil}
use Rattle.rrset.specs.Rcodes.{noerror}
use Rattle.rrset.specs.RecordSet.{RecordSet}
use Rattle.rrset.specs.declared.record.Question.{Question}
use Rattle.rrset.specs.Tables.{counted}
use Rattle.dsotlv.specs.Messages.{frame}
use Rattle.dsotlv.specs.Answers.{answer_to, push_message}
use Rattle.dsotlv.specs.declared.message.Notice.{Notice}
use Rattle.coalesce.specs.Net.{push_frame}
use Rattle.coalesce.specs.Waiting.{without_name}
use Rattle.dsosession.specs.Timing.{restarted}
use Rattle.pushsession.specs.Subscribing.{with_accepted, first_answer_octets, first_answer_size, says_first_answer, subscribed}
use Rattle.pushsession.specs.Kept.{KeptSession, keeping, telling}
use Rattle.pushsession.specs.Requests.{taken_up}

-- a message was written, and the session is established
abbrev wrote : ℕ → KeptSession → KeptSession
wrote now session = record session { clocks = restarted false now session.clocks; established = true }

-- what is held of a question that was told these notices
abbrev told : ℕ → ℕ → Question → List Notice → KeptSession → KeptSession
told now id question notices session =
    let answer = answer_to id noerror in
    says_first_answer keeping now answer notices session.queue (subscribed keeping id question (keeping.end_behind (first_answer_size answer notices) session.made) session)

-- it is what was there before, with the question, the end of its first answer, and the octets of that behind the output
pub held_is : (id : ℕ) (question : Question) (notices : List Notice) (session held : KeptSession) (size : ℕ)
    → held.subscriptions.asked ≡ session.subscriptions.asked ++ (id, question) ∷ []
    → held.subscriptions.filled ≡ session.subscriptions.filled ++ (id, held.made) ∷ []
    → held.queue ≡ without_name question.name session.queue
    → held.output ≡ session.output ++ first_answer_octets (answer_to id noerror) notices
    → size ≡ length (push_frame notices)
    → held.made ≡ counted (counted (session.made + 14) + size)
    → held.clocks ≡ session.clocks → held.established ≡ session.established → held.standing ≡ session.standing → held.input ≡ session.input
    → held ≡ record (told 0 id question notices session) { clocks = session.clocks; established = session.established }
held_is id question [] session held size asked filled queue output none made clocks established standing input =
    let count : held.made ≡ counted (session.made + 14) = made ∙ ap (λ n. counted (counted (session.made + 14) + n)) none ∙ omega arith in
    (λ i. record {
      subscriptions = record { asked = asked i; filled = (filled ∙ ap (λ n. session.subscriptions.filled ++ (id, n) ∷ []) count) i };
      queue = queue i;
      clocks = clocks i;
      established = established i;
      standing = standing i;
      input = input i;
      output = (output ∙ ap (λ o. session.output ++ o) (append-nil (frame (answer_to id noerror)))) i;
      made = count i;
    })
held_is id question (n ∷ ns) session held size asked filled queue output is made clocks established standing input =
    let push = length (frame (push_message (n ∷ ns))) in
    let count : held.made ≡ counted (counted (session.made + 14) + push) = made ∙ ap (λ n. counted (counted (session.made + 14) + n)) is in
    let both : first_answer_size (answer_to id noerror) (n ∷ ns) ≡ 14 + push = length-append (frame (answer_to id noerror)) (frame (push_message (n ∷ ns))) in
    let whole : held.made ≡ counted (session.made + first_answer_size (answer_to id noerror) (n ∷ ns)) = count ∙ omega (arith, both) in
    (λ i. record {
      subscriptions = record { asked = asked i; filled = (filled ∙ ap (λ n. session.subscriptions.filled ++ (id, n) ∷ []) whole) i };
      queue = queue i;
      clocks = clocks i;
      established = established i;
      standing = standing i;
      input = input i;
      output = (output ∙ sym (append_assoc session.output (frame (answer_to id noerror)) (push_frame (n ∷ ns)))) i;
      made = count i;
    })

told_later : (now id : ℕ) (question : Question) (notices : List Notice) (session : KeptSession)
    → wrote now (taken_up now (record (told 0 id question notices session) { clocks = session.clocks; established = session.established })) ≡ told now id question notices (taken_up now session)
told_later now id question [] session = refl
told_later now id question (n ∷ ns) session = refl

pub accepts_later : (rows : RecordSet) (now id : ℕ) (question : Question) (session held : KeptSession)
    → held ≡ record (with_accepted keeping (telling rows) 0 id question session) { clocks = session.clocks; established = session.established }
    → record (taken_up now held) { clocks = restarted false now (taken_up now held).clocks; established = true } ≡ with_accepted keeping (telling rows) now id question (taken_up now session)
accepts_later rows now id question session held is =
    ap (λ (h : KeptSession). wrote now (taken_up now h)) is ∙ told_later now id question ((telling rows).first_notices question session.subscriptions session.queue) session
