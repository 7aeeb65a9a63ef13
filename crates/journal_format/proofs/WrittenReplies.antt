-- The words of a reply read as that reply.
use Rattle.std.proofs.Common.{◌≡◌, ◌<◌, ◌^◌, ◌++◌, ℕ, Bool, true, false, List, [], ◌∷◌, refl, codes, arith, Option, Some, None, IfSome}
use Rattle.std.specs.Fmt.{decimal, signed_decimal}
use Rattle.std.specs.Str.{bytes_eq}
use Rattle.text_io.specs.Words.{Word}
use Rattle.mq_model.specs.declared.faults.Fault.{Fault}
use Rattle.mq_model.specs.declared.faults.Fault.TheVariants as fault
use Rattle.mq_model.specs.declared.entries.Status.{Status}
use Rattle.mq_model.specs.declared.entries.Reply.{Reply}
use Rattle.mq_model.specs.declared.entries.Reply.TheVariants as reply
use Rattle.journal_format.specs.Fitting.{IsPlace, ReplyFits, StatusFits}
use Rattle.journal_format.specs.Text.{place_words, reply_words}
use Rattle.journal_format.specs.Reading.{word_at, place_at, kind_written, fault_written, opened_at, queued_at, handed_at, got_at, collected_at, withdrawn_at, attrs_at, notice_at, reply_at}
use Rattle.journal_format.proofs.WholeWords.{IsWord, AreWords, word-decimal, word-signed}
use Rattle.journal_format.proofs.WrittenCalls.{small_at_again, place_at_again, integer_at_again, flag_at_again, number_or_at_again, flag-word, number_or-word}

opened_again : (d : ℕ) (created : Bool) → d < 2 ^ 32 →
    reply_at (reply_words (reply.Opened d created)) ≡ Some (reply.Opened d created)
unfolding reply_at word_at kind_written opened_at
opened_again d true fits = rw (small_at_again d (codes "created" ∷ []) fits) refl
opened_again d false fits = rw (small_at_again d [] fits) refl

-- a label that is there, and one that is not
labelled_again : (label : Word) (place : ℕ) (ws : List Word) → bytes_eq label label ≡ true →
    IsPlace place → place_at label (label ∷ decimal place ∷ ws) ≡ Some (Some place, ws)
unfolding place_at
labelled_again label place ws same fits = rw (same, place_at_again place ws fits) refl

last_again : (label : Word) (place : Option ℕ) → bytes_eq label label ≡ true →
    IfSome place IsPlace → place_at label (place_words label place) ≡ Some (place, [])
unfolding place_at
last_again label None same fits = refl
last_again label (Some place) same fits = labelled_again label place [] same fits

admitted_again : (admitted notified : Option ℕ) → IfSome admitted IsPlace →
    place_at (codes "admitted") (place_words (codes "admitted") admitted ++ place_words
    (codes "notified") notified) ≡ Some (admitted, place_words (codes "notified") notified)
unfolding place_at
admitted_again None None fits = refl
admitted_again None (Some notified) fits = refl
admitted_again (Some admitted) notified fits = labelled_again (codes "admitted") admitted
    (place_words (codes "notified") notified) refl fits

queued_again : (notified : Option ℕ) → IfSome notified IsPlace →
    reply_at (reply_words (reply.Queued notified)) ≡ Some (reply.Queued notified)
unfolding reply_at word_at kind_written queued_at
queued_again notified fits = rw (last_again (codes "notified") notified refl fits) refl

handed_again : (wait : ℕ) → IsPlace wait → reply_at (reply_words (reply.Handed wait)) ≡
    Some (reply.Handed wait)
unfolding reply_at word_at kind_written handed_at
handed_again wait fits = rw (place_at_again wait [] fits) refl

got_again : (place : ℕ) (admitted notified : Option ℕ) → IsPlace place → IfSome admitted IsPlace →
    IfSome notified IsPlace → reply_at (reply_words (reply.Got place admitted notified)) ≡
    Some (reply.Got place admitted notified)
unfolding reply_at word_at kind_written got_at
got_again place admitted notified fits admitted_fits notified_fits =
    rw (
      place_at_again place (place_words (codes "admitted") admitted ++ place_words
          (codes "notified") notified) fits,
      admitted_again admitted notified admitted_fits,
      last_again (codes "notified") notified refl notified_fits,
    )
    refl

collected_again : (by : ℕ) → IsPlace by → reply_at (reply_words (reply.Collected by)) ≡
    Some (reply.Collected by)
unfolding reply_at word_at kind_written collected_at
collected_again by fits = rw (place_at_again by [] fits) refl

withdrawn_again : (wait : ℕ) → IsPlace wait → reply_at (reply_words (reply.Withdrawn wait)) ≡
    Some (reply.Withdrawn wait)
unfolding reply_at word_at kind_written withdrawn_at
withdrawn_again wait fits = rw (place_at_again wait [] fits) refl

attrs_again : (status : Status) → StatusFits status → reply_at (reply_words (reply.Attrs status)) ≡
    Some (reply.Attrs status)
unfolding reply_at word_at kind_written attrs_at
attrs_again status fits =
    let last = signed_decimal status.curmsgs ∷ [] in
    let front = signed_decimal status.msgsize ∷ last in
    rw (
      flag_at_again status.nonblock (signed_decimal status.maxmsg ∷ front),
      integer_at_again status.maxmsg front fits.0,
      integer_at_again status.msgsize last fits.1,
      integer_at_again status.curmsgs [] fits.2,
    )
    refl

notice_again : (value : Option ℕ) → IfSome value (λ n. n < 2 ^ 64) →
    reply_at (reply_words (reply.Notice value)) ≡ Some (reply.Notice value)
unfolding reply_at word_at kind_written notice_at
notice_again value fits = rw (number_or_at_again (codes "none") value [] refl refl fits) refl

refused_again : (f : Fault) → reply_at (reply_words (reply.Refused f)) ≡ Some (reply.Refused f)
unfolding reply_at word_at kind_written fault_written
refused_again fault.Again = refl
refused_again fault.BadDescriptor = refl
refused_again fault.Busy = refl
refused_again fault.Exists = refl
refused_again fault.Invalid = refl
refused_again fault.TooManyOpen = refl
refused_again fault.MessageSize = refl
refused_again fault.NameTooLong = refl
refused_again fault.NoEntry = refl
refused_again fault.NoSpace = refl
refused_again fault.NoMemory = refl
refused_again fault.TimedOut = refl
refused_again fault.JournalFull = refl

pub reply_again : (r : Reply) → ReplyFits r → reply_at (reply_words r) ≡ Some r
unfolding reply_at word_at kind_written
reply_again (reply.Opened d created) fits = opened_again d created fits
reply_again (reply.Queued notified) fits = queued_again notified fits
reply_again (reply.Handed wait) fits = handed_again wait fits
reply_again (reply.Got place admitted notified) fits = got_again place admitted notified
    fits.0 fits.1 fits.2
reply_again (reply.Collected by) fits = collected_again by fits
reply_again (reply.Withdrawn wait) fits = withdrawn_again wait fits
reply_again (reply.Attrs status) fits = attrs_again status fits
reply_again (reply.Notice value) fits = notice_again value fits
reply_again (reply.Refused f) fits = refused_again f
reply_again reply fits = refl

-- ---- the words of a reply are words

place-words : (label : Word) (place : Option ℕ) → IsWord label → IfSome place IsPlace →
    AreWords (place_words label place)
place-words label place word fits = grind (arith, word-decimal)

places-words : (admitted notified : Option ℕ) → IfSome admitted IsPlace → IfSome notified IsPlace →
    AreWords (place_words (codes "admitted") admitted ++ place_words (codes "notified") notified)
places-words admitted notified admitted_fits fits = grind (arith, place-words, word-decimal)

pub reply-words : (r : Reply) → ReplyFits r → AreWords (reply_words r)
reply-words r fits = grind (
  arith,
  word-decimal,
  place-words,
  places-words,
  flag-word,
  word-signed,
  number_or-word,
)
