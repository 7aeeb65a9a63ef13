use Rattle.std.proofs.Common.{rules, arith, ◌≡◌, ◌++◌, ◌≤◌, ◌+◌, ◌-◌, Ok, Err, Result, OnErr, take, length, length-append}
use Rattle.std.proofs.lemmas.List.{length-take-le}
use Rattle.text_io.proofs.KnownBytes.{Consumes-more, read_at}
use Rattle.text_io.proofs.input.read_all.Goals as goal

on_err : {A E P : Type 0} (r : Result A E) → P → OnErr r P
on_err (Ok x) holds = tt
on_err (Err e) holds = holds

pub returns-in_err-extend_from_slice-clause-lost : goal.returns-in_err-extend_from_slice-clause-lost
returns-in_err-extend_from_slice-clause-lost g c =
    let bytes = c.loop-chunk.bytes.items in let count = c.in_ok-count.count in let front =
    take count c.read_bytes.new.buf in
    let ok : c.read_bytes.result ≡ Ok count = grind rules in
    let gave = read_at _ _ _ _ count c.read_bytes.ensures.bytes ok in
    let below : count ≤ length c.read_bytes.new.buf = grind rules in
    let room : length c.read_bytes.new.buf ≤ c.args.most - length bytes + 1 = grind rules in
    let most : length bytes ≤ c.args.most = grind rules in
    let fits : length (bytes ++ front) ≤ c.args.most + 1 = omega (
      arith,
      length-append bytes front,
      length-take-le count c.read_bytes.new.buf below,
      below,
      room,
      most,
    ) in
    on_err c.from_residual-in_err-extend_from_slice.result (
      bytes ++ front,
      fits,
      Consumes-more _ _ _ _ _ c.loop-chunk.invariant.read gave.0,
    )
