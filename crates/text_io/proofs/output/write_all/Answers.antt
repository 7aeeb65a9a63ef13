use Rattle.std.proofs.Common.{rules, arith, ◌≡◌, ◌-◌, Ok, take, drop, length, length-drop}
use Rattle.std.proofs.lemmas.List.{take_all}
use Rattle.text_io.proofs.KnownBytes.{Appends-more, wrote_at}
use Rattle.text_io.proofs.output.write_all.Goals as goal

pub loop-written-preserved : goal.loop-written-preserved
loop-written-preserved g c =
    let was = c.loop-written.invariant in let count = c.in_ok-count.count in
    let bytes = c.args.bytes.now in let written = c.loop-written.written in
    let ok : c.write.result ≡ Ok count = grind rules in
    let rest : take (length bytes - written) (drop written bytes) ≡ drop written bytes =
    take_all (length bytes - written) (drop written bytes) (grind (arith, length-drop)) in
    let wrote = wrote_at _ _ _ (take (length bytes - written) (drop written bytes)) count
    c.write.ensures.bytes ok in
    (grind rules, Appends-more _ _ _ bytes written count was.1 (rw rest at wrote))
