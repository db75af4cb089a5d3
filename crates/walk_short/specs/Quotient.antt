-- The remainder of a step is s − r − a·b, and the quotient's coefficient at k is what clears s − r − z·b at
-- the top, where z has the coefficients above k.
use Rattle.std.specs.Prelude.{ℕ, ◌+◌, ◌*◌, ◌-◌, ◌%◌, ◌<◌, ◌≤◌, ◌≡◌, refl}
use Rattle.std.proofs.Common.{arith, ◌∙◌}
use Rattle.std.proofs.Math.Path.{ap, fun_ext}
use mathlib.Core.List.{List}
use Rattle.std.proofs.Math.ListN.{get_or}
use Rattle.math_ring.specs.Residues.{FqRing}
use Rattle.spec_arithmetic.specs.Field.{prime, modulo, inverse}
use Rattle.spec_arithmetic.specs.Polynomials.{add, sub, mul}
use Rattle.spec_bridge.specs.Model.{Model, series}
use Rattle.spec_bridge.specs.Prime.{Prime}
use Rattle.spec_bridge.specs.Residues.{model}
use Rattle.spec_bridge.specs.Arithmetic.{at_sub, mul_cong, sub_cong}
use Rattle.base_places.specs.Quotient.{rem_difference, quo_next}
use Rattle.walk_short.specs.Step.{step_quo, next_rem, next_q, Division}
use Rattle.walk_short.specs.Sizes.{positive, some, size_b, dividend_length}

module _ {q m n : ℕ} {s b r : List ℕ} (p : Prime q) (d : Division (prime q) m n s b r) where
  abbrev M : Model (modulo q) (FqRing q (positive p d))
  M = model q (positive p d)

  -- lists with the same coefficients are the same polynomial
  series_at : (x y : List ℕ) → ((i : ℕ) → get_or x i 0 ≡ get_or y i 0) → series M x ≡ series M y
  series_at x y h = fun_ext (λ i. ap M.φ (h i))

  module _ (a : List ℕ) (is : (i : ℕ) → get_or a i 0 ≡ get_or (step_quo (prime q) s b r) i 0) where
    pub rem_at : (k v : ℕ) → v ≡ get_or (sub (modulo q) (sub (modulo q) s r) (mul (modulo q) a b)) k 0 → v ≡ get_or (next_rem (prime q) s b r) k 0
    unfolding step_quo next_rem
    rem_at k v e = e ∙ ap (λ (l : List ℕ). get_or l k 0) (ap (sub (modulo q) (sub (modulo q) s r)) (mul_cong M a (step_quo (prime q) s b r) b b (series_at a (step_quo (prime q) s b r) is) refl) ∙ rem_difference M (sub (modulo q) s r) b)

    pub next_cong : (before z : List ℕ) → ((i : ℕ) → get_or z i 0 ≡ get_or (next_rem (prime q) s b r) i 0) → add (modulo q) before (mul (modulo q) a (sub (modulo q) z r)) ≡ next_q (prime q) s before b r
    unfolding next_q
    next_cong before z rest = ap (add (modulo q) before) (mul_cong M a (step_quo (prime q) s b r) (sub (modulo q) z r) (sub (modulo q) (next_rem (prime q) s b r) r) (series_at a (step_quo (prime q) s b r) is) (ap (series M) (sub_cong M z (next_rem (prime q) s b r) r r (series_at z (next_rem (prime q) s b r) rest) refl)))

  -- z has the coefficients above k, zeros below
  pub quo_at : (z : List ℕ) (k : ℕ) → ((i : ℕ) → k < i → get_or z i 0 ≡ get_or (step_quo (prime q) s b r) i 0) → ((i : ℕ) → i ≤ k → get_or z i 0 ≡ 0) → (at v : ℕ) → at ≡ k + (n - 1) → v ≡ get_or (sub (modulo q) (sub (modulo q) s r) (mul (modulo q) z b)) at 0
      → (v * inverse q (get_or b (n - 1) 0)) % q ≡ get_or (step_quo (prime q) s b r) k 0
  unfolding step_quo
  quo_at z k above none at v e f =
      ap (λ (u : ℕ). (modulo q).mul u (inverse q (get_or b (n - 1) 0))) (f ∙ at_sub M (sub (modulo q) s r) (mul (modulo q) z b) at)
      ∙ quo_next q (positive p d) (sub (modulo q) s r) b (dividend_length p d) (size_b p d) z p (some p d) k at e above (none k (omega arith))
