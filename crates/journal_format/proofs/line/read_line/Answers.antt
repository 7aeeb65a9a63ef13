use Rattle.std.proofs.Common.{◌≡◌, ◌∙◌, sym, ap, arith, Bool, true, false, not, Some, None, ◌<◌, ◌^◌, ◌++◌, rules, List, ℕ}
use Rattle.std.specs.Str.{bytes_eq}
use Rattle.std.proofs.lemmas.Slice.Eq.{bytes_eq-Decides}
use Rattle.text_io.specs.Words.{words_of}
use Rattle.percent_encoding.specs.Percent.{percent_decode}
use Rattle.percent_encoding.specs.Iter.{decoded_bytes}
use Rattle.journal_format.specs.Reading.{entry_at, words_at}
use Rattle.journal_format.specs.Text.{line_text}
use Rattle.journal_format.proofs.Splitting.{reads_none, reads_other}
use Rattle.journal_format.proofs.line.read_line.Goals as goal

differs : (r b : Bool) → r ≡ true → r ≡ not b → b ≡ true → ⊥
differs r true is negated same = let no : true ≡ false = sym is ∙ negated in cc
differs r false is negated same = cc

pub returns-in_default : goal.returns-in_default
returns-in_default c = λ r fits is.
    let small : c.args.place < 2 ^ 64 = omega arith in
    let words = words_at c.as_slice.result.now in
    let cut : words ≡ words_of c.args.line.now = ap words_at c.as_slice.ensures.value ∙
    c.in_ok-words.ensures in
    let none : entry_at words ≡ None = search (rules, c.in_default.ensures) in
    reads_none c.args.place r c.args.line.now words small fits none cut is

pub returns-then-ne : goal.returns-then-ne
returns-then-ne c = λ r fits is.
    let small : c.args.place < 2 ^ 64 = omega arith in
    let words = words_at c.as_slice.result.now in
    let cut : words ≡ words_of c.args.line.now = ap words_at c.as_slice.ensures.value ∙
    c.in_ok-words.ensures in
    let read : entry_at words ≡ Some (c.in-Some.entry, c.in-Some.quoted.now) =
    sym c.in-Some.ensures in
    let payload : c.append_to.new.out.items ≡ percent_decode c.in-Some.quoted.now =
    c.in_ok-append_to.ensures.ok ∙ ap (λ t. t ++ decoded_bytes c.percent_decode.result)
    c.new-payload.ensures.items ∙ c.percent_decode.ensures.bytes in
    let same = reads_other c.args.place r c.args.line.now words c.in-Some.entry c.in-Some.quoted.now
    c.append_to.new.out.items small fits read cut payload is in
    let record_at = λ (p : List ℕ). line_text c.args.place (record {
      entry = c.in-Some.entry;
      payload = p;
    }) in
    let written : c.as_bytes.result.now ≡ c.args.line.now = c.as_bytes.ensures.value ∙
    c.in_ok-written.ensures ∙ ap record_at c.as_slice-2.ensures.value ∙ sym same in
    let yes : bytes_eq c.as_bytes.result.now c.args.line.now ≡ true =
    (bytes_eq-Decides c.as_bytes.result.now c.args.line.now).1 written in
    differs c.ne.result (bytes_eq c.as_bytes.result.now c.args.line.now) c.if-ne.true
    c.ne.ensures yes
