-- The nearest whole number from quotient and remainder: one more than the quotient where twice the remainder reaches
-- the denominator.
use Rattle.std.specs.Prelude.{ℕ, ◌+◌, ◌*◌, ◌/◌, ◌%◌, ◌≤◌, ◌<◌, ◌≡◌}
use Rattle.std.proofs.Common.{mod-lt, div-add-mod', mul_assoc, add-mul, one-mul, arith, ap, ◌∙◌}
use Rattle.spec_estimate.specs.Estimate.{nearest_of}
use Rattle.spec_estimate.proofs.Rounding.{rounds}

more : (w M : ℕ) → (w + 1) * M ≡ w * M + M
more w M = add-mul w 1 M ∙ ap (λ (k : ℕ). w * M + k) (one-mul M)

module _ (N M : ℕ) (some : 0 < M) where
  division : N / M * M + N % M ≡ N
  division = div-add-mod' N M

  pub rest_less : N % M < M
  rest_less = mod-lt N some

  pub half_up : M ≤ 2 * (N % M) → N / M + 1 ≡ nearest_of N M
  half_up h =
      let w : ℕ = N / M in
      rounds.only N M (w + 1) some (record {
        low = omega (arith, division, mul_assoc 2 (w + 1) M, more w M);
        high = omega (arith, division, rest_less, mul_assoc 2 (w + 1 + 1) M, more (w + 1) M, more w M);
      })

  pub below_half : 2 * (N % M) < M → N / M ≡ nearest_of N M
  below_half h =
      let w : ℕ = N / M in
      rounds.only N M w some (record {
        low = omega (arith, division, mul_assoc 2 w M);
        high = omega (arith, division, mul_assoc 2 (w + 1) M, more w M);
      })
