use Rattle.std.proofs.Common.{rules, arith, ◌≡◌, ◌<◌, ◌+◌, ◌∙◌, ◌++◌, false, true, inl, Err, IfOk, [], Result, Vec, length, sym, subst, append_assoc, Global}
use Rattle.journal_format.specs.Lines.{HasRead}
use Rattle.journal_format.specs.Text.{has_feed}
use Rattle.journal_format.specs.declared.fault.JournalFault.{JournalFault}
use Rattle.journal_format.specs.declared.fault.JournalFault.TheVariants.{BadLine}
use Rattle.journal_format.proofs.Arriving.{ended, left_in_last, reads_up_to, some_read}
use Rattle.journal_format.proofs.Splitting.{feeds}
use Rattle.history_judge.specs.HistoryFault.{StopsAt}
use Rattle.history_judge.specs.Text.{history_text}
use Rattle.history_judge.specs.declared.line.Called.{Called}
use Rattle.history_judge.proofs.Lines.{at_fault_at_end, feeds-history, fits_of, found_at_end, history-text}
use Rattle.history_judge.proofs.input.read_input.Goals as goal

pub lines-preserved : goal.lines-preserved
lines-preserved g c =
    let front = history_text c.lines.calls.items in
    let read = c.in_ok-come.ensures.read (g.R.ByteSource.remaining c.args.input.now) front
    c.lines.invariant.read in
    let lines = c.in_ok-take_in.ensures.lines in
    let feed : has_feed c.come.new.self.rest.items ≡ true = grind rules in
    record {
      fits = c.in_ok-take_in.ensures.fits;
      rest = c.in_ok-take_in.ensures.rest;
      short = left_in_last front (history_text c.take_in.new.calls.items) c.come.new.self.rest.items
          c.take_in.new.rest.items lines c.in_ok-come.ensures.last feed
          c.in_ok-take_in.ensures.rest;
      read = subst (λ t. HasRead (g.R.ByteSource.remaining c.args.input.now)
          (g.R.ByteSource.remaining c.come.new.input) t c.come.new.self.left) lines read;
      well = grind rules;
    }

pub returns-in_err-take_in-clause-bad_line : goal.returns-in_err-take_in-clause-bad_line
returns-in_err-take_in-clause-bad_line g c = λ all line known bad.
    let front = history_text c.lines.calls.items in
    let read = c.in_ok-come.ensures.read (g.R.ByteSource.remaining c.args.input.now) front
    c.lines.invariant.read in
    let more = some_read _ _ all _ _ read known in
    let named : ◌≡◌ {A = Result (Unit {0}) JournalFault} (Err c.in_err-take_in.field-0.0)
    (Err (BadLine line)) = search (rules, bad) in
    inl (subst (StopsAt line) (sym (append_assoc front c.come.new.self.rest.items more.0) ∙
    sym more.1) (c.in_err-take_in.ensures.bad_line line named more.0))

pub returns-in_err-take_in-clause-soon : goal.returns-in_err-take_in-clause-soon
returns-in_err-take_in-clause-soon g c = λ line bad.
    let calls = c.lines.calls.items in
    let read = c.in_ok-come.ensures.read (g.R.ByteSource.remaining c.args.input.now)
    (history_text calls) c.lines.invariant.read in
    let named : ◌≡◌ {A = Result (Unit {0}) JournalFault} (Err c.in_err-take_in.field-0.0)
    (Err (BadLine line)) = search (rules, bad) in
    let later : length calls < line = c.in_err-take_in.ensures.later line named in
    let few : feeds (history_text calls) < line =
    omega (arith, feeds-history calls c.lines.invariant.fits, later) in
    reads_up_to line _ _ (history_text calls) _ _ read c.in_ok-come.ensures.last few
    (history-text calls c.lines.invariant.fits)

pub returns-clause-found : goal.returns-clause-found
returns-clause-found g c = λ all known.
    let front = history_text c.lines.calls.items in
    let rest = c.come.new.self.rest.items in
    let read = c.in_ok-come.ensures.read (g.R.ByteSource.remaining c.args.input.now) front
    c.lines.invariant.read in
    let end = ended _ _ all front rest _ read known (c.come.ensures.end (grind rules)) in
    let whole =
    subst (λ t. IfOk c.whole.result (λ (calls : Vec Called Global). (calls ≡ c.lines.calls) ×
    (t ≡ []))) c.as_slice.ensures.value c.whole.ensures.whole in
    found_at_end c.whole.result c.lines.calls _ rest end whole

pub returns-clause-fits : goal.returns-clause-fits
returns-clause-fits g c = fits_of c.whole.result c.lines.calls c.as_slice.result.now
    c.lines.invariant.fits c.whole.ensures.whole

pub returns-clause-bad_line : goal.returns-clause-bad_line
returns-clause-bad_line g c = λ all line known bad.
    let calls = c.lines.calls.items in
    let rest = c.come.new.self.rest.items in
    let read = c.in_ok-come.ensures.read (g.R.ByteSource.remaining c.args.input.now)
    (history_text calls) c.lines.invariant.read in
    let end = ended _ _ all (history_text calls) rest _ read known
    (c.come.ensures.end (grind rules)) in
    let none : has_feed rest ≡ false = grind rules in
    let stops = subst (λ t. StopsAt line (history_text calls ++ t)) c.as_slice.ensures.value
    (c.whole.ensures.bad_line line bad) in
    at_fault_at_end line calls _ rest c.lines.invariant.fits none
    (c.whole.ensures.next line bad) end stops

pub returns-clause-soon : goal.returns-clause-soon
returns-clause-soon g c = λ line bad.
    let calls = c.lines.calls.items in
    let read = c.in_ok-come.ensures.read (g.R.ByteSource.remaining c.args.input.now)
    (history_text calls) c.lines.invariant.read in
    let next : line ≡ length calls + 1 = c.whole.ensures.next line bad in
    let few : feeds (history_text calls) < line =
    omega (arith, feeds-history calls c.lines.invariant.fits, next) in
    reads_up_to line _ _ (history_text calls) _ _ read c.in_ok-come.ensures.last few
    (history-text calls c.lines.invariant.fits)
