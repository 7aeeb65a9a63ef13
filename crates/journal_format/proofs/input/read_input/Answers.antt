use Rattle.std.proofs.Common.{rules, arith, ◌≡◌, ◌<◌, ◌≤◌, ◌+◌, ◌^◌, ◌∙◌, ◌++◌, false, true, inl, Err, IfOk, [], Result, length, refl, sym, subst, append_assoc}
use Rattle.mq_model.specs.declared.journals.Journal.{Journal}
use Rattle.journal_format.specs.JournalFault.{StopsAt}
use Rattle.journal_format.specs.Lines.{HasRead}
use Rattle.journal_format.specs.Text.{has_feed, journal_text}
use Rattle.journal_format.specs.declared.fault.JournalFault.{JournalFault}
use Rattle.journal_format.specs.declared.fault.JournalFault.TheVariants.{BadLine}
use Rattle.journal_format.proofs.Arriving.{at_fault_at_end, ended, found_at_end, left_in_last, reads_up_to, some_read}
use Rattle.journal_format.proofs.Splitting.{feeds, feeds-journal, journal-text}
use Rattle.journal_format.proofs.input.read_input.Goals as goal

pub lines-preserved : goal.lines-preserved
lines-preserved g c =
    let front = journal_text c.lines.journal.records in
    let read = c.in_ok-come.ensures.read (g.R.ByteSource.remaining c.args.input.now) front
    c.lines.invariant.read in
    let lines = c.in_ok-take_in.ensures.lines in
    let feed : has_feed c.come.new.self.rest.items ≡ true = grind rules in
    record {
      fits = c.in_ok-take_in.ensures.fits;
      rest = c.in_ok-take_in.ensures.rest;
      short = left_in_last front (journal_text c.take_in.new.journal.records)
          c.come.new.self.rest.items c.take_in.new.rest.items lines c.in_ok-come.ensures.last feed
          c.in_ok-take_in.ensures.rest;
      read = subst (λ t. HasRead (g.R.ByteSource.remaining c.args.input.now)
          (g.R.ByteSource.remaining c.come.new.input) t c.come.new.self.left) lines read;
      well = grind rules;
    }

pub returns-in_err-take_in-clause-bad_line : goal.returns-in_err-take_in-clause-bad_line
returns-in_err-take_in-clause-bad_line g c = λ all line known bad.
    let front = journal_text c.lines.journal.records in
    let read = c.in_ok-come.ensures.read (g.R.ByteSource.remaining c.args.input.now) front
    c.lines.invariant.read in
    let more = some_read _ _ all _ _ read known in
    let named : ◌≡◌ {A = Result (Unit {0}) JournalFault} (Err c.in_err-take_in.field-0.0)
    (Err (BadLine line)) = search (rules, bad) in
    inl (subst (StopsAt line) (sym (append_assoc front c.come.new.self.rest.items more.0) ∙
    sym more.1) (c.in_err-take_in.ensures.bad_line line named more.0))

pub returns-in_err-take_in-clause-soon : goal.returns-in_err-take_in-clause-soon
returns-in_err-take_in-clause-soon g c = λ line bad.
    let past = c.lines.journal.records in
    let read = c.in_ok-come.ensures.read (g.R.ByteSource.remaining c.args.input.now)
    (journal_text past) c.lines.invariant.read in
    let named : ◌≡◌ {A = Result (Unit {0}) JournalFault} (Err c.in_err-take_in.field-0.0)
    (Err (BadLine line)) = search (rules, bad) in
    let later : length past < line = c.in_err-take_in.ensures.later line named in
    let number : line ≤ 2 ^ 63 = c.in_err-take_in.ensures.number line named in
    let small : length past < 2 ^ 64 = omega (arith, later, number) in
    let few : feeds (journal_text past) < line =
    omega (arith, feeds-journal past c.lines.invariant.fits small, later) in
    reads_up_to line _ _ (journal_text past) _ _ read c.in_ok-come.ensures.last few
    (journal-text past c.lines.invariant.fits small)

pub returns-clause-found : goal.returns-clause-found
returns-clause-found g c = λ all known.
    let front = journal_text c.lines.journal.records in
    let rest = c.come.new.self.rest.items in
    let read = c.in_ok-come.ensures.read (g.R.ByteSource.remaining c.args.input.now) front
    c.lines.invariant.read in
    let end = ended _ _ all front rest _ read known (c.come.ensures.end (grind rules)) in
    let whole = subst (λ t. IfOk c.whole.result (λ (journal : Journal). (journal ≡ c.lines.journal)
    × (t ≡ []))) c.as_slice.ensures.value c.whole.ensures.whole in
    found_at_end c.whole.result c.lines.journal _ rest (front ++ rest) c.lines.invariant.fits refl
    end whole

pub returns-clause-bad_line : goal.returns-clause-bad_line
returns-clause-bad_line g c = λ all line known bad.
    let past = c.lines.journal.records in
    let rest = c.come.new.self.rest.items in
    let read = c.in_ok-come.ensures.read (g.R.ByteSource.remaining c.args.input.now)
    (journal_text past) c.lines.invariant.read in
    let end = ended _ _ all (journal_text past) rest _ read known
    (c.come.ensures.end (grind rules)) in
    let none : has_feed rest ≡ false = grind rules in
    let stops = subst (λ t. StopsAt line (journal_text past ++ t)) c.as_slice.ensures.value
    (c.whole.ensures.bad_line line bad) in
    let next : line ≡ length past + 1 = c.whole.ensures.next line bad in
    let number : line ≤ 2 ^ 63 = c.whole.ensures.number line bad in
    let small : length past < 2 ^ 64 = omega (arith, next, number) in
    at_fault_at_end line past _ rest _ c.lines.invariant.fits small none refl next end stops

pub returns-clause-soon : goal.returns-clause-soon
returns-clause-soon g c = λ line bad.
    let past = c.lines.journal.records in
    let read = c.in_ok-come.ensures.read (g.R.ByteSource.remaining c.args.input.now)
    (journal_text past) c.lines.invariant.read in
    let next : line ≡ length past + 1 = c.whole.ensures.next line bad in
    let number : line ≤ 2 ^ 63 = c.whole.ensures.number line bad in
    let small : length past < 2 ^ 64 = omega (arith, next, number) in
    let few : feeds (journal_text past) < line =
    omega (arith, feeds-journal past c.lines.invariant.fits small, next) in
    reads_up_to line _ _ (journal_text past) _ _ read c.in_ok-come.ensures.last few
    (journal-text past c.lines.invariant.fits small)
