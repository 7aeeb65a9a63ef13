use Rattle.std.proofs.Common.{◌≡◌, ◌∙◌, ◌≤◌, length, ap, arith, subst, sym, unwrap_or}
use Rattle.mq_model.specs.Legality.{Legal}
use Rattle.mq_model.specs.Record.{Past, first}
use Rattle.journal_views.specs.State.{state}
use Rattle.journal_tasks.specs.State.{count_wanted, entries_wanted}
use Rattle.journal_tasks.proofs.state.text_of.Goals as goal

pub returns : goal.returns
returns c =
    let wanted = c.args.wanted in
    let past = c.args.journal.now.records in
    let count : c.unwrap_or-count.result ≡ count_wanted wanted past = c.unwrap_or-count.ensures ∙
    ap (λ n. unwrap_or wanted.at n) c.len-len.ensures.count in
    let entries : c.in_ok-entries.entries.records ≡ entries_wanted wanted past =
    c.in_ok-entries.ensures ∙ ap (λ k. first k past) count in
    let within : count_wanted wanted past ≤ length past =
    omega (arith, sym count, c.if-count-len.false, c.len-len.ensures.count) in
    let legal : Legal c.in_ok-entries.entries.records = (c.in_ok-departure.ensures.legal).0
    c.in_default.is in
    record {
      count = within;
      legal = subst (λ (p : Past). Legal p) entries legal;
      state = c.in_ok-state_of.ensures ∙ ap (λ p. state wanted.form p) entries;
    }
