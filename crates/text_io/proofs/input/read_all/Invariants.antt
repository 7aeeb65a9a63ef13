use Rattle.std.proofs.Common.{◌≡◌, ◌≤◌, ◌+◌, ◌-◌, vec_len}
use Rattle.std.specs.Io.KnownBytes.{Consumes}
use Rattle.text_io.proofs.input.read_all.Given as goal

abbrev pub invariant-loop-chunk : goal.invariant-loop-chunk
invariant-loop-chunk g l = record {
  size : vec_len l.bytes ≤ l.most + 1;
  read : Consumes (g.R.ByteSource.remaining l.fn.input)
      (g.R.ByteSource.remaining l.input) l.bytes.items;
  well : g.R.ByteSource.failed l.input ≡ g.R.ByteSource.failed l.fn.input;
}

abbrev pub decreases-loop-chunk : goal.decreases-loop-chunk
decreases-loop-chunk g l = l.most + 1 - vec_len l.bytes
