use Rattle.std.proofs.Common.{◌≡◌, ◌∙◌, ◌++◌, Bool, true, false, not, Some, None, ap, rules, sym}
use Rattle.std.specs.Str.{bytes_eq}
use Rattle.std.proofs.lemmas.Slice.Eq.{bytes_eq-Decides}
use Rattle.text_io.specs.Words.{words_of}
use Rattle.percent_encoding.specs.Iter.{decoded_bytes}
use Rattle.percent_encoding.specs.Percent.{percent_decode}
use Rattle.journal_format.specs.Reading.{words_at}
use Rattle.history_judge.specs.Processes.{is_process}
use Rattle.history_judge.specs.Reading.{outcome_at, parts_at, parts_seen, shown}
use Rattle.history_judge.specs.Seen.{seen_call}
use Rattle.history_judge.specs.declared.line.Called.{Called}
use Rattle.history_judge.proofs.Written.{ended_seen, no_outcome, no_parts, no_process, one_line}
use Rattle.history_judge.proofs.line.read_line.Goals as goal

differs : (r b : Bool) → r ≡ true → r ≡ not b → b ≡ true → ⊥
differs r true is negated same = let no : true ≡ false = sym is ∙ negated in cc
differs r false is negated same = cc

pub returns-in_default-clause-only : goal.returns-in_default-clause-only
returns-in_default-clause-only c = λ d fits is.
    let words = words_at c.as_slice.result.now in
    let cut : words ≡ words_of c.args.line.now = ap words_at c.as_slice.ensures.value ∙
    c.in_ok-words.ensures in
    let none : parts_at words ≡ None = search (rules, c.in_default.ensures) in
    no_parts d c.args.line.now words fits cut is none

pub returns-then-not-is_process-clause-only : goal.returns-then-not-is_process-clause-only
returns-then-not-is_process-clause-only c = λ d fits is.
    let words = words_at c.as_slice.result.now in
    let parts = parts_seen c.in-Some.parts in
    let cut : words ≡ words_of c.args.line.now = ap words_at c.as_slice.ensures.value ∙
    c.in_ok-words.ensures in
    let read : parts_at words ≡ Some parts = sym c.in-Some.ensures in
    let other : is_process c.in-Some.parts.process ≡ false = grind rules in
    no_process d c.args.line.now words parts fits cut is read other

pub returns-in_default-2-clause-only : goal.returns-in_default-2-clause-only
returns-in_default-2-clause-only c = λ d fits is.
    let words = words_at c.as_slice.result.now in
    let parts = parts_seen c.in-Some.parts in
    let cut : words ≡ words_of c.args.line.now = ap words_at c.as_slice.ensures.value ∙
    c.in_ok-words.ensures in
    let read : parts_at words ≡ Some parts = sym c.in-Some.ensures in
    let none : outcome_at parts.result ≡ None =
    sym (rw c.in_default-2.is at c.in_ok-outcome.ensures) in
    no_outcome d c.args.line.now words parts fits cut is read none

pub returns-then-ne-clause-only : goal.returns-then-ne-clause-only
returns-then-ne-clause-only c = λ d fits is.
    let words = words_at c.as_slice.result.now in
    let parts = parts_seen c.in-Some.parts in
    let outcome = c.in-Some-2.outcome in
    let cut : words ≡ words_of c.args.line.now = ap words_at c.as_slice.ensures.value ∙
    c.in_ok-words.ensures in
    let read : parts_at words ≡ Some parts = sym c.in-Some.ensures in
    let came : outcome_at parts.result ≡ Some (shown outcome) =
    sym (rw c.in-Some-2.is at c.in_ok-outcome.ensures) in
    let given : c.append_to.new.out.items ≡ percent_decode parts.quoted =
    c.in_ok-append_to.ensures.ok ∙ ap (λ t. t ++ decoded_bytes c.percent_decode.result)
    c.new-given.ensures.items ∙ c.percent_decode.ensures.bytes in
    let called : Called = record {
      process = c.in-Some.parts.process;
      operation = record {
        call = c.in-Some.parts.call;
        given = c.append_to.new.out;
        begin = c.in-Some.parts.begin;
        end = c.end_read.result;
        outcome = outcome;
      };
    } in
    let seen : seen_call called ≡ seen_call d =
    ended_seen d c.args.line.now words parts outcome c.append_to.new.out.items c.end_read.result
    fits cut is read came given c.end_read.ensures.pending c.end_read.ensures.returned in
    let written : c.as_bytes.result.now ≡ c.args.line.now = c.as_bytes.ensures.value ∙
    c.in_ok-written.ensures ∙ one_line called d seen ∙ sym is in
    let yes : bytes_eq c.as_bytes.result.now c.args.line.now ≡ true =
    (bytes_eq-Decides c.as_bytes.result.now c.args.line.now).1 written in
    differs c.ne.result (bytes_eq c.as_bytes.result.now c.args.line.now) c.if-ne.true
    c.ne.ensures yes

pub returns-clause-only : goal.returns-clause-only
returns-clause-only c = λ d fits is.
    let words = words_at c.as_slice.result.now in
    let parts = parts_seen c.in-Some.parts in
    let outcome = c.in-Some-2.outcome in
    let cut : words ≡ words_of c.args.line.now = ap words_at c.as_slice.ensures.value ∙
    c.in_ok-words.ensures in
    let read : parts_at words ≡ Some parts = sym c.in-Some.ensures in
    let came : outcome_at parts.result ≡ Some (shown outcome) =
    sym (rw c.in-Some-2.is at c.in_ok-outcome.ensures) in
    let given : c.append_to.new.out.items ≡ percent_decode parts.quoted =
    c.in_ok-append_to.ensures.ok ∙ ap (λ t. t ++ decoded_bytes c.percent_decode.result)
    c.new-given.ensures.items ∙ c.percent_decode.ensures.bytes in
    ended_seen d c.args.line.now words parts outcome c.append_to.new.out.items c.end_read.result
    fits cut is read came given c.end_read.ensures.pending c.end_read.ensures.returned
