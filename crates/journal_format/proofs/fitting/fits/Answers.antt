use Rattle.std.proofs.Common.{arith}
use Rattle.std.proofs.lemmas.List.Elements.{All-from_get_or}
use Rattle.percent_encoding.proofs.PercentLemmas.{IsByte}
use Rattle.journal_format.proofs.fitting.fits.Goals as goal

pub returns : goal.returns
returns c = record {
  process = omega (arith);
  call = c.call_fits.ensures;
  reply = c.reply_fits.ensures;
  payload = All-from_get_or IsByte c.args.payload.now 0
      (λ i within. omega (arith, c.type_inv.payload i));
}
