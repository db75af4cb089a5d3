-- One word more: the array has room for those of 280 bytes.
use Rattle.std.proofs.Common.{arith, ap, length, length-set}
use Rattle.out_reading.proofs.Words.{words_more, length_read_most}
use Rattle.out_reading.proofs.words_of.Goals as goal

pub loop-i-preserved : goal.loop-i-preserved
loop-i-preserved c =
    let l = c.loop-i in
    let b = length_read_most c.args.bytes.now in
    let e = ap length c.read_bytes.ensures in
    (simp length-set l.invariant.0, words_more l.words _ l.i _ (omega arith) (omega arith) l.invariant.1 c.from_le_bytes.ensures)
