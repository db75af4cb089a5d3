-- The derivative is held, so that its gcd with D can be formed, and the size of that decides.
use Rattle.std.proofs.Common.{◌+◌, arith, ◌∙◌}
use Rattle.base_places.specs.Zeros.{scale_zero}
use Rattle.base_polynomial.specs.Held.{held_positive}
use Rattle.base_polynomial.specs.Linear.{held_within, is_derivative}
use Rattle.ticket_radicand.specs.Squarefree.{held_derivative, not_squarefree_test}
use Rattle.ticket_radicand.proofs.not_squarefree.Goals as goal

pub derivative_places-requires-clause-within : goal.derivative_places-requires-clause-within
derivative_places-requires-clause-within c = held_within _ _ _ _ c.requires (omega arith)

pub top-requires-clause-by_index : goal.top-requires-clause-by_index
top-requires-clause-by_index c = λ i l.
    let h = c.requires in
    c.derivative_places.ensures.at i ∙ scale_zero c.args.f.q (held_positive _ _ _ h) (i + 1) ((held_within _ _ _ c.args.radicand.now.size h (omega arith)).past (i + 1) (omega arith))

pub gcd-requires : goal.gcd-requires
gcd-requires c = (c.requires, held_derivative c.requires (is_derivative _ _ _ c.requires _ _ c.top.ensures c.derivative_places.ensures))

pub returns : goal.returns
returns c = not_squarefree_test c.requires (is_derivative _ _ _ c.requires _ _ c.top.ensures c.derivative_places.ensures) c.args.f.is_field.0 c.gcd.ensures
