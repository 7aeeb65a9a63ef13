-- The words of a call read as that call.
use Rattle.std.proofs.Common.{◌≡◌, ◌<◌, ◌^◌, ◌∙◌, ◌++◌, ℕ, ℤ, Bool, true, false, List, ◌∷◌, refl, ap, arith, codes, inl, inr, Option, Some, None, IfSome}
use Rattle.std.proofs.lemmas.Bool.{cases_Bool}
use Rattle.std.proofs.lemmas.Slice.Eq.{bytes_eq-Decides}
use Rattle.std.specs.Fmt.{decimal, signed_decimal}
use Rattle.std.specs.Str.{bytes_eq}
use Rattle.text_io.specs.Words.{Word, number_written}
use Rattle.script_text.specs.Grammar.{flags_written}
use Rattle.mq_model.specs.declared.entries.Access.{Access}
use Rattle.mq_model.specs.declared.entries.OpenFlags.{OpenFlags}
use Rattle.mq_model.specs.declared.entries.Attr.{Attr}
use Rattle.mq_model.specs.declared.entries.Deadline.{Deadline}
use Rattle.mq_model.specs.declared.entries.Call.{Call}
use Rattle.mq_model.specs.declared.entries.Call.TheVariants as call
use Rattle.journal_format.specs.Fitting.{IsLong, CallFits, MomentFits, AttrFits}
use Rattle.journal_format.specs.Text.{call_words, flag_word, flags_word, limits_words, moment_words, number_or}
use Rattle.script_text.specs.Verbs.{verb_written}
use Rattle.journal_format.specs.Reading.{word_at, number_at, integer_at, moment_at, limits_at, number_or_at, flag_at, open_at, close_at, send_at, receive_at, timed_send_at, timed_receive_at, getattr_at, setattr_at, notify_at, withdraw_at, call_at}
use Rattle.journal_format.proofs.Numbers.{number_again, integer_again}
use Rattle.journal_format.proofs.WholeWords.{IsWord, AreWords, word-decimal, word-signed}

-- ---- single words

pub number_at_again : (k n : ℕ) (ws : List Word) → n < 2 ^ k → n < 2 ^ 64 →
    number_at k (decimal n ∷ ws) ≡ Some (n, ws)
unfolding number_at word_at
number_at_again k n ws fits small = rw (number_again k n fits small) refl

pub small_at_again : (n : ℕ) (ws : List Word) → n < 2 ^ 32 →
    number_at 32 (decimal n ∷ ws) ≡ Some (n, ws)
small_at_again n ws fits = number_at_again 32 n ws fits (omega (arith, fits))

pub place_at_again : (n : ℕ) (ws : List Word) → n < 2 ^ 64 →
    number_at 64 (decimal n ∷ ws) ≡ Some (n, ws)
place_at_again n ws fits = number_at_again 64 n ws fits fits

pub integer_at_again : (z : ℤ) (ws : List Word) → IsLong z →
    integer_at (signed_decimal z ∷ ws) ≡ Some (z, ws)
unfolding integer_at word_at
integer_at_again z ws fits = rw (integer_again z fits) refl

moment_at_again : (label : Word) (m : Deadline) (ws : List Word) → MomentFits m →
    moment_at (moment_words label m ++ ws) ≡ Some (m, ws)
unfolding moment_at word_at
moment_at_again label m ws fits = rw (
  integer_at_again m.sec (signed_decimal m.nsec ∷ ws) fits.0,
  integer_at_again m.nsec ws fits.1,
) refl

pub flag_at_again : (flag : Bool) (ws : List Word) → flag_at (flag_word flag ∷ ws) ≡ Some (flag, ws)
unfolding flag_at word_at
flag_at_again true ws = refl
flag_at_again false ws = refl

-- a number is no word that is not one
other_word : (n : ℕ) (w : Word) → n < 2 ^ 64 → number_written 64 w ≡ None →
    bytes_eq (decimal n) w ≡ false
other_word n w small none = elim (cases_Bool (bytes_eq (decimal n) w)) [
  | inl same ↦
      let is : decimal n ≡ w = (bytes_eq-Decides (decimal n) w).0 same in
      let some : number_written 64 (decimal n) ≡ Some n = number_again 64 n small small in
      let one : number_written 64 (decimal n) ≡ None = ap (number_written 64) is ∙ none in
      absurd (cc)
  | inr other ↦ other
]

pub number_or_at_again : (none : Word) (n : Option ℕ) (ws : List Word) →
    number_written 64 none ≡ None → bytes_eq none none ≡ true → IfSome n (λ n. n < 2 ^ 64) →
    number_or_at none (number_or none n ∷ ws) ≡ Some (n, ws)
unfolding number_or_at word_at
number_or_at_again none None ws never same fits = rw same refl
number_or_at_again none (Some n) ws never same fits =
    rw (other_word n none fits never, number_again 64 n fits fits) refl

-- ---- flags

flags_parts : (a : Access) (c x n : Bool) →
    IsWord (flags_word (record { access = a; create = c; excl = x; nonblock = n })) ×
    (flags_written (flags_word (record { access = a; create = c; excl = x; nonblock = n })) ≡
    Some (record { access = a; create = c; excl = x; nonblock = n }))
flags_parts a c x n = grind arith

flags_again : (flags : OpenFlags) → flags_written (flags_word flags) ≡ Some flags
flags_again flags = (flags_parts flags.access flags.create flags.excl flags.nonblock).1

-- ---- calls

-- the words after a call are no label of limits
abbrev pub IsNoLimit : List Word → Type 0
IsNoLimit ws = limits_at ws ≡ Some (None, ws)

limits_again : (attr : Option Attr) (ws : List Word) → IfSome attr AttrFits → IsNoLimit ws →
    limits_at (limits_words attr ++ ws) ≡ Some (attr, ws)
unfolding limits_at
limits_again None ws fits other = other
limits_again (Some attr) ws fits other =
    rw (
      integer_at_again attr.maxmsg (signed_decimal attr.msgsize ∷ ws) fits.0,
      integer_at_again attr.msgsize ws fits.1,
    ) refl

open_again : (flags : OpenFlags) (attr : Option Attr) (ws : List Word) → IfSome attr AttrFits →
    IsNoLimit ws → call_at (call_words (call.MqOpen flags attr) ++ ws) ≡
    Some (call.MqOpen flags attr, ws)
unfolding call_at word_at verb_written open_at
open_again flags attr ws fits other = rw (flags_again flags, limits_again attr ws fits other) refl

close_again : (d : ℕ) (ws : List Word) → d < 2 ^ 32 → call_at (call_words (call.MqClose d) ++ ws) ≡
    Some (call.MqClose d, ws)
unfolding call_at word_at verb_written close_at
close_again d ws fits = rw (small_at_again d ws fits) refl

send_again : (d prio len : ℕ) (ws : List Word) → d < 2 ^ 32 → prio < 2 ^ 32 → len < 2 ^ 64 →
    call_at (call_words (call.MqSend d prio len) ++ ws) ≡ Some (call.MqSend d prio len, ws)
unfolding call_at word_at verb_written send_at
send_again d prio len ws d_fits prio_fits len_fits =
    rw (
      small_at_again d (decimal prio ∷ decimal len ∷ ws) d_fits,
      small_at_again prio
          (decimal len ∷ ws) prio_fits,
      place_at_again len ws len_fits,
    ) refl

receive_again : (d room : ℕ) (ws : List Word) → d < 2 ^ 32 → room < 2 ^ 64 →
    call_at (call_words (call.MqReceive d room) ++ ws) ≡ Some (call.MqReceive d room, ws)
unfolding call_at word_at verb_written receive_at
receive_again d room ws d_fits room_fits = rw (
  small_at_again d (decimal room ∷ ws) d_fits,
  place_at_again room ws room_fits,
) refl

timed_send_again : (d prio len : ℕ) (until now : Deadline) (ws : List Word) → d < 2 ^ 32 →
    prio < 2 ^ 32 → len < 2 ^ 64 → MomentFits until → MomentFits now →
    call_at (call_words (call.MqTimedSend d prio len until now) ++ ws) ≡
    Some (call.MqTimedSend d prio len until now, ws)
unfolding call_at word_at verb_written timed_send_at
timed_send_again d prio len until now ws d_fits prio_fits len_fits until_fits now_fits =
    let at_now = moment_words (codes "at") now ++ ws in
    let moments = moment_words (codes "until") until ++ at_now in
    rw (
      small_at_again d (decimal prio ∷ decimal len ∷ moments) d_fits,
      small_at_again prio (decimal len ∷ moments) prio_fits,
      place_at_again len moments len_fits,
      moment_at_again (codes "until") until at_now until_fits,
      moment_at_again (codes "at") now ws now_fits,
    )
    refl

timed_receive_again : (d room : ℕ) (until now : Deadline) (ws : List Word) → d < 2 ^ 32 →
    room < 2 ^ 64 → MomentFits until → MomentFits now →
    call_at (call_words (call.MqTimedReceive d room until now) ++ ws) ≡
    Some (call.MqTimedReceive d room until now, ws)
unfolding call_at word_at verb_written timed_receive_at
timed_receive_again d room until now ws d_fits room_fits until_fits now_fits =
    let at_now = moment_words (codes "at") now ++ ws in
    let moments = moment_words (codes "until") until ++ at_now in
    rw (
      small_at_again d (decimal room ∷ moments) d_fits,
      place_at_again room moments room_fits,
      moment_at_again (codes "until") until at_now until_fits,
      moment_at_again (codes "at") now ws now_fits,
    )
    refl

getattr_again : (d : ℕ) (ws : List Word) → d < 2 ^ 32 →
    call_at (call_words (call.MqGetattr d) ++ ws) ≡ Some (call.MqGetattr d, ws)
unfolding call_at word_at verb_written getattr_at
getattr_again d ws fits = rw (small_at_again d ws fits) refl

setattr_again : (d : ℕ) (nonblock : Bool) (ws : List Word) → d < 2 ^ 32 →
    call_at (call_words (call.MqSetattr d nonblock) ++ ws) ≡ Some (call.MqSetattr d nonblock, ws)
unfolding call_at word_at verb_written setattr_at
setattr_again d nonblock ws fits = rw (
  small_at_again d (flag_word nonblock ∷ ws) fits,
  flag_at_again nonblock ws,
) refl

notify_again : (d : ℕ) (value : Option ℕ) (ws : List Word) → d < 2 ^ 32 →
    IfSome value (λ n. n < 2 ^ 64) → call_at (call_words (call.MqNotify d value) ++ ws) ≡
    Some (call.MqNotify d value, ws)
unfolding call_at word_at verb_written notify_at
notify_again d value ws fits value_fits =
    rw (
      small_at_again d (number_or (codes "-") value ∷ ws) fits,
      number_or_at_again (codes "-")
          value ws refl refl value_fits,
    ) refl

withdraw_again : (now : Deadline) (ws : List Word) → MomentFits now →
    call_at (call_words (call.Withdraw now) ++ ws) ≡ Some (call.Withdraw now, ws)
unfolding call_at word_at verb_written withdraw_at
withdraw_again now ws fits = rw (moment_at_again (codes "at") now ws fits) refl

pub call_again : (c : Call) (ws : List Word) → CallFits c → IsNoLimit ws →
    call_at (call_words c ++ ws) ≡ Some (c, ws)
unfolding call_at word_at verb_written
call_again (call.MqOpen flags attr) ws fits other = open_again flags attr ws fits other
call_again (call.MqClose d) ws fits other = close_again d ws fits
call_again (call.MqSend d prio len) ws fits other = send_again d prio len ws fits.0 fits.1 fits.2
call_again (call.MqReceive d room) ws fits other = receive_again d room ws fits.0 fits.1
call_again (call.MqTimedSend d prio len until now) ws fits other = timed_send_again d prio len until
    now ws fits.0 fits.1 fits.2 fits.3 fits.4
call_again (call.MqTimedReceive d room until now) ws fits other = timed_receive_again d room until
    now ws fits.0 fits.1 fits.2 fits.3
call_again (call.MqGetattr d) ws fits other = getattr_again d ws fits
call_again (call.MqSetattr d nonblock) ws fits other = setattr_again d nonblock ws fits
call_again (call.MqNotify d value) ws fits other = notify_again d value ws fits.0 fits.1
call_again (call.Withdraw now) ws fits other = withdraw_again now ws fits
call_again call ws fits other = refl

-- ---- the words of a call are words

word-small : (n : ℕ) → n < 2 ^ 32 → IsWord (decimal n)
word-small n fits = word-decimal n (omega (arith, fits))

pub flag-word : (flag : Bool) → IsWord (flag_word flag)
flag-word flag = grind arith

pub number_or-word : (none : Word) (n : Option ℕ) → IsWord none → IfSome n (λ n. n < 2 ^ 64) →
    IsWord (number_or none n)
number_or-word none n word fits = grind (arith, word-decimal)

limits-words : (attr : Option Attr) → IfSome attr AttrFits → AreWords (limits_words attr)
limits-words attr fits = grind (arith, word-signed)

pub call-words : (c : Call) → CallFits c → AreWords (call_words c)
call-words c fits = grind (
  arith,
  limits-words,
  word-small,
  word-decimal,
  word-signed,
  flag-word,
  number_or-word,
)
