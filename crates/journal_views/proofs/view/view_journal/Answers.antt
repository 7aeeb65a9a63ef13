use Rattle.std.proofs.Common.{◌≡◌, ◌<◌, ◌∙◌, Err, Result, ap, arith, inl, inr, length, refl, subst, sym, true, nat_lt, lt-ltb}
use Rattle.mq_model.specs.Record.{first}
use Rattle.mq_model.specs.declared.journals.Journal.{Journal}
use Rattle.journal_format.specs.declared.fault.JournalFault.{JournalFault}
use Rattle.journal_format.specs.declared.fault.JournalFault.TheVariants.{BadLine}
use Rattle.journal_views.specs.Page.{page_text}
use Rattle.journal_views.specs.View.{IsStateLine, count_viewed, first_viewed, page_within}
use Rattle.journal_views.specs.declared.view.Unviewed.{Unviewed}
use Rattle.journal_views.specs.declared.view.Unviewed.TheVariants.{Unread}
use Rattle.journal_views.specs.declared.view.Viewed.{Viewed}
use Rattle.journal_views.proofs.view.view_journal.Goals as goal

-- the error of a journal that was not read is that of the reading
unread : (fault other : JournalFault) →
    ◌≡◌ {A = Result Viewed Unviewed} (Err (Unread fault)) (Err (Unread other)) →
    ◌≡◌ {A = Result Journal JournalFault} (Err fault) (Err other)
unread fault other same = cc

pub returns-in-Err-clause-bad_line : goal.returns-in-Err-clause-bad_line
returns-in-Err-clause-bad_line g c = λ all line known bad.
    c.in-Err.ensures.bad_line all line known (unread c.in-Err.fault (BadLine line) bad)

pub returns-then-count-gt-MOST_VIEWED-clause-too_long :
    goal.returns-then-count-gt-MOST_VIEWED-clause-too_long
returns-then-count-gt-MOST_VIEWED-clause-too_long g c = λ all known same.
    let past = c.in-Ok.journal.records in
    let found = c.in-Ok.ensures.found all known in
    let many : nat_lt 1000000 (count_viewed c.args.from c.args.to (length past)) ≡ true =
    lt-ltb 1000000 (count_viewed c.args.from c.args.to (length past))
    (rw c.cut-first.ensures.count at c.if-count-gt-MOST_VIEWED.true) in
    record {
      past = past;
      fits = found.0;
      text = found.1;
      begins = sym c.is_beyond.ensures ∙
          c.if-is_beyond.false;
      much = inl (rw many refl);
    }

pub returns-then-len-gt-MOST_PAGE-clause-too_long :
    goal.returns-then-len-gt-MOST_PAGE-clause-too_long
returns-then-len-gt-MOST_PAGE-clause-too_long g c = λ all known same.
    let past = c.in-Ok.journal.records in
    let found = c.in-Ok.ensures.found all known in
    let len = length past in
    let before = c.in-Ok-state_line.before.items in
    let page : c.in-Ok-page_of.page.items ≡ page_within c.args.head.now c.args.tail.now before
    c.args.from c.args.to past =
    c.in-Ok-page_of.ensures
    ∙ ap (λ b. page_text c.args.head.now c.args.tail.now b past c.cut-first.result.0
    c.cut-first.result.1) c.deref.ensures.value
    ∙ ap (λ n. page_text c.args.head.now c.args.tail.now before past n c.cut-first.result.1)
    c.cut-first.ensures.first
    ∙ ap (λ n. page_text c.args.head.now c.args.tail.now before past
    (first_viewed c.args.from c.args.to len) n) c.cut-first.ensures.count in
    let count : 25000000 < length c.in-Ok-page_of.page.items = omega arith in
    let long : nat_lt 25000000
    (length (page_within c.args.head.now c.args.tail.now before c.args.from c.args.to past)) ≡
    true =
    lt-ltb 25000000 (length (page_within c.args.head.now c.args.tail.now before c.args.from
    c.args.to past)) (rw page at count) in
    record {
      past = past;
      fits = found.0;
      text = found.1;
      begins = sym c.is_beyond.ensures ∙ c.if-is_beyond.false;
      much = inr (record {
        before = before;
        state = subst (λ n. IsStateLine (first n past) before) c.cut-first.ensures.first
            c.in-Ok-state_line.ensures;
        long = rw long refl;
      });
    }

pub returns-in-Ok-write_all-clause-done : goal.returns-in-Ok-write_all-clause-done
returns-in-Ok-write_all-clause-done g c = λ all known same.
    let past = c.in-Ok.journal.records in
    let found = c.in-Ok.ensures.found all known in
    let len = length past in
    let before = c.in-Ok-state_line.before.items in
    let page : c.as_slice.result.now ≡ page_within c.args.head.now c.args.tail.now before
    c.args.from c.args.to past =
    c.as_slice.ensures.value ∙ c.in-Ok-page_of.ensures
    ∙ ap (λ b. page_text c.args.head.now c.args.tail.now b past c.cut-first.result.0
    c.cut-first.result.1) c.deref.ensures.value
    ∙ ap (λ n. page_text c.args.head.now c.args.tail.now before past n c.cut-first.result.1)
    c.cut-first.ensures.first
    ∙ ap (λ n. page_text c.args.head.now c.args.tail.now before past
    (first_viewed c.args.from c.args.to len) n) c.cut-first.ensures.count in
    record {
      past = past;
      fits = found.0;
      text = found.1;
      begins = sym c.is_beyond.ensures ∙ c.if-is_beyond.false;
      before = before;
      state = subst (λ n. IsStateLine (first n past) before) c.cut-first.ensures.first
          c.in-Ok-state_line.ensures;
      written = rw page at c.in-Ok-write_all.ensures.whole;
    }

pub returns-clause-output : goal.returns-clause-output
returns-clause-output g c = λ all known failed.
    let past = c.in-Ok.journal.records in
    let found = c.in-Ok.ensures.found all known in
    let len = length past in
    let before = c.in-Ok-state_line.before.items in
    let page : c.as_slice.result.now ≡ page_within c.args.head.now c.args.tail.now before
    c.args.from c.args.to past =
    c.as_slice.ensures.value ∙ c.in-Ok-page_of.ensures
    ∙ ap (λ b. page_text c.args.head.now c.args.tail.now b past c.cut-first.result.0
    c.cut-first.result.1) c.deref.ensures.value
    ∙ ap (λ n. page_text c.args.head.now c.args.tail.now before past n c.cut-first.result.1)
    c.cut-first.ensures.first
    ∙ ap (λ n. page_text c.args.head.now c.args.tail.now before past
    (first_viewed c.args.from c.args.to len) n) c.cut-first.ensures.count in
    record {
      past = past;
      fits = found.0;
      text = found.1;
      begins = sym c.is_beyond.ensures ∙ c.if-is_beyond.false;
      before = before;
      state = subst (λ n. IsStateLine (first n past) before) c.cut-first.ensures.first
          c.in-Ok-state_line.ensures;
      written = rw page at c.in-Err-write_all.ensures.failed;
    }
