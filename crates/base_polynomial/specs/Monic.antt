-- A record over its leading coefficient, from its places.
use Rattle.std.specs.Prelude.{ℕ, ◌<◌, ◌≡◌, List, get_or}
use Rattle.std.proofs.Common.{sym}
use Rattle.std.proofs.Math.Path.{subst}
use Rattle.spec_arithmetic.specs.Field.{modulo, prime}
use Rattle.spec_arithmetic.specs.Polynomials.{lead, scale, monic}
use Rattle.spec_bridge.specs.Residues.{inverse_lt}
use Rattle.base_places.specs.Places.{Places, Top}
use Rattle.base_polynomial.specs.Record.{poly, Held, Is}
use Rattle.base_polynomial.specs.Held.{held_positive}
use Rattle.base_polynomial.specs.Linear.{is_scale}

module _ (q : ℕ) {a : List ℕ} {m w : ℕ} (held_a : Held (prime q) a m) (w_is : w ≡ (modulo q).inv (lead (modulo q) (poly a m))) where
  pub lead_inverse_less : w < q
  lead_inverse_less = subst (λ (x : ℕ). x < q) (sym w_is) (inverse_lt q (held_positive q a m held_a) _)

  pub is_monic : (c : List ℕ) (n : ℕ) → Top c n → Places c (λ i. (modulo q).mul w (get_or a i 0)) → Is (prime q) c n (monic (modulo q) (poly a m))
  unfolding monic
  is_monic c n t p = subst (λ (k : ℕ). Is (prime q) c n (scale (modulo q) k (poly a m))) w_is (is_scale q a m held_a c n t w p)
