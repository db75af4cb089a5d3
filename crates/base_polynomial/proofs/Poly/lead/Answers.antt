-- The leading coefficient stands at the place before the size; of the zero polynomial every place is 0.
use Rattle.std.proofs.Common.{◌-◌, arith, sym, ◌∙◌}
use Rattle.base_polynomial.specs.Linear.{held_within, lead_place}
use Rattle.base_polynomial.proofs.Poly.lead.Goals as goal

pub returns-in_default : goal.returns-in_default
returns-in_default c = λ f h.
    let a = c.args.self.now in
    let w = held_within f.q a.c a.size a.size h (omega arith) in
    sym (lead_place f.q a.c a.size h ∙ w.past (a.size - 1) (omega arith))

pub returns-in-1-to-129 : goal.returns-in-1-to-129
returns-in-1-to-129 c = λ f h. sym (lead_place _ _ _ h)
