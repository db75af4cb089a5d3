use Rattle.std.proofs.Common.{rules, arith, length, take, ◌/◌, ◌-◌, ◌≡◌}
use Rattle.std.proofs.Math.Seq.{length-take-le}
use Rattle.listing_words.specs.Parts.{put_parts}
use Rattle.listing_words.proofs.put_record.Goals as goal

pub returns : goal.returns
returns c k =
    let q = c.put_coefficients.ensures k in
    let p = c.put_coefficients-2.ensures k in
    let half = c.split_at_mut-of_q.ensures in
    let front = c.split_at_mut-first.ensures in
    let long : length (take (c.args.n / 2 - 1) c.split_at_mut-of_q.result.1.now) ≡ c.args.n / 2 - 1 = length-take-le (c.args.n / 2 - 1) c.split_at_mut-of_q.result.1.now (omega (arith, front.back_len, half.back_len)) in
    put_parts k c.args.n c.args.mirror.0 _ c.requires.n_in_bounds.1 c.args.words.now c.copy_from_slice.new.self c.put_coefficients.new.words c.put_coefficients-2.new.words c.split_at_mut-of_q.result.1.now c.requires.n_in_bounds.0 (search rules) (cc) (cc) (cc)
