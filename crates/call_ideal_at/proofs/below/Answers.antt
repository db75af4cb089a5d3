-- What is refused first is the definition's refusal; else the ideal is that of the last index.
use Rattle.std.proofs.Common.{arith, refl}
use Rattle.std.proofs.lemmas.Grind.{common_steps}
use Rattle.call_ideal_at.specs.IdealsAt.{passed_on, ticket_refused, far_refused, size_most, below}
use Rattle.call_ideal_at.proofs.below.Goals as goal

pub returns-in_err-t : goal.returns-in_err-t
returns-in_err-t c = passed_on c.from_residual.ensures.1 (ticket_refused _ _ c.in_err-t.ensures.refused)

pub returns-then-gt : goal.returns-then-gt
returns-then-gt c = far_refused _ _ c.in_ok-t.ensures.refused (grind (arith, common_steps)) refl

pub next_distance-next-requires : goal.next_distance-next-requires
next_distance-next-requires c =
    let l = c.ideal_below-distance.ensures in
    let e = size_most l in
    let d = l.is.distance_is in
    let o = l.last.low in
    (omega arith, grind (arith, common_steps))

pub returns : goal.returns
returns c = below c.ideal_below-distance.ensures _ c.in_ok-t.ensures.refused c.in_ok-t.ensures.read (grind (arith, common_steps)) c.next_distance-next.ensures
