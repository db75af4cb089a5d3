-- The recursion is the definition's, and a falls at each call; a product is below 4,095², which fits.
use Rattle.std.proofs.Common.{ℕ, ◌<◌, ◌≤◌, ◌-◌, ◌*◌, ◌/◌, ◌%◌, mod-lt, mul-le-mul, arith, sym, ap, ◌∙◌, subst}
use Rattle.spec_bridge.specs.Residues.{inverse_one, inverse_more, inverse_below as below}
use Rattle.base_field.proofs.Field.+inverse.Goals as goal

pub overflow_mul-result : goal.overflow_mul-result
overflow_mul-result t c =
    let s = c.args in
    let z : 0 < s.a = omega arith in
    let h : s.self.q % s.a < s.a = mod-lt s.self.q z in
    let w : c.inverse.result < s.self.q = subst (λ (m : ℕ). m < s.self.q) (sym c.inverse.ensures) (below s.self.q (s.self.q % s.a) (omega arith)) in
    let x : s.self.q - s.self.q / s.a ≤ 4095 = omega arith in
    let y : c.inverse.result ≤ 4095 = omega arith in
    let m : (s.self.q - s.self.q / s.a) * c.inverse.result ≤ 16769025 = mul-le-mul x y in
    omega arith

pub returns-then-a-le1 : goal.returns-then-a-le1
returns-then-a-le1 t c = sym (inverse_one c.args.self.q c.args.a (omega arith) (omega arith))

pub returns-else-a-le1 : goal.returns-else-a-le1
returns-else-a-le1 t c =
    let s = c.args in
    ap (λ (v : ℕ). (s.self.q - s.self.q / s.a) * v % s.self.q) c.inverse.ensures ∙ sym (inverse_more s.self.q s.a (omega arith) (omega arith))
