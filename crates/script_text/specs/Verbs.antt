-- The words of calls.
use Rattle.std.specs.Prelude.{ℕ, List, [], ◌∷◌, find, Option, codes}
use Rattle.std.specs.Str.{bytes_eq}
use Rattle.text_io.specs.Words.{Word}
use Rattle.script_text.specs.declared.verb.Verb.{Verb}
use Rattle.script_text.specs.declared.verb.Verb.TheVariants as verb

-- the word of each call
abbrev pub verb_text : Verb → List ℕ
verb_text verb.Open = codes "open"
verb_text verb.Close = codes "close"
verb_text verb.Unlink = codes "unlink"
verb_text verb.Send = codes "send"
verb_text verb.Receive = codes "recv"
verb_text verb.TimedSend = codes "tsend"
verb_text verb.TimedReceive = codes "trecv"
verb_text verb.Getattr = codes "getattr"
verb_text verb.Setattr = codes "setattr"
verb_text verb.Notify = codes "notify"
verb_text verb.Notice = codes "notice"
verb_text verb.Exit = codes "exit"
verb_text verb.Collect = codes "collect"
verb_text verb.Withdraw = codes "withdraw"

abbrev pub verbs : List Verb
verbs = verb.Open ∷ verb.Close ∷ verb.Unlink ∷ verb.Send ∷ verb.Receive ∷ verb.TimedSend ∷
    verb.TimedReceive ∷ verb.Getattr ∷ verb.Setattr ∷ verb.Notify ∷ verb.Notice ∷ verb.Exit ∷
    verb.Collect ∷ verb.Withdraw ∷ []

-- the verb with this word
unfoldable pub verb_written : Word → Option Verb
verb_written word = find (λ verb. bytes_eq word (verb_text verb)) verbs
