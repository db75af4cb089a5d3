-- One record more.
use Rattle.std.proofs.Common.{ℕ, ◌*◌, ◌+◌, ◌≡◌, arith, ap, ◌∙◌, length, length-append, length-take-le, take}
use Rattle.spec_definitions.specs.Program.{record_line}
use Rattle.out_lines.proofs.Lines.{length_record_line}
use Rattle.out_answer.proofs.Records.{left_all, left_more, left_none}
use Rattle.out_answer.proofs.push_records.Goals as goal

pub loop-words-init : goal.loop-words-init
loop-words-init c =
    let s = c.args in
    let m : ℕ = s.count * (s.n + 4) in
    let i = c.into_iter-words-iterator in
    let k = c.chunks_exact-words-items.ensures in
    let h = c.requires.whole in
    let r : i.result.rest.now ≡ take m s.list.now = cc in
    (cc, omega (arith, ap length r, length-take-le m s.list.now h), left_all s.n s.text.now s.list.now _ s.count h r)

pub push_record-requires-clause-room : goal.push_record-requires-clause-room
push_record-requires-clause-room c =
    let s = c.in-Some.ensures.steps in
    let w = c.in-Some.words.now in
    omega (arith, length_record_line w (omega arith), ap length s.1.0, length-append w c.next.new.self.rest.now)

pub loop-words-preserved : goal.loop-words-preserved
loop-words-preserved c =
    let s = c.in-Some.ensures.steps in
    let v = c.loop-words.invariant in
    let w = c.in-Some.words.now in
    let p = c.push_record.ensures in (
      s.0 ∙ v.0,
      omega (arith, length_record_line w (omega arith), ap length s.1.0, ap length p, length-append w c.next.new.self.rest.now, length-append c.loop-words.text (record_line w)),
      left_more c.args.n w v.2 p s.1.0 (s.1.1 ∙ v.0),
    )

pub returns : goal.returns
returns c =
    let s = c.in-None.ensures.steps in
    left_none c.args.n c.loop-words.invariant.2 (omega arith)
