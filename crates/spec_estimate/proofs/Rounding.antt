-- The proofs of specs/Rounding.
use Prim.Native.Nat.{ℕ, ◌+◌, ◌*◌, ◌/◌, ◌%◌, ◌≤◌, ◌<◌}
use Rattle.std.proofs.Math.Nat.{mod-lt, div-add-mod', div-eq_of_lt-le}
use Rattle.std.proofs.Common.{add-mul, one-mul, mul_comm, mul_assoc, arith, ap, ◌∙◌}
use Rattle.std.specs.Prelude.{◌≡◌}
use Rattle.std.proofs.Math.Path.{sym, subst}
use Rattle.spec_estimate.specs.Estimate.{nearest_of}
use Rattle.spec_estimate.specs.Rounding.{Nearest, Rounds}

-- ---- the proof
-- 2·w·M is w times 2·M
double : (w M : ℕ) → 2 * w * M ≡ w * (2 * M)
double w M = ap (λ (k : ℕ). k * M) (mul_comm 2 w) ∙ mul_assoc w 2 M

double_next : (w M : ℕ) → 2 * (w + 1) * M ≡ w * (2 * M) + 2 * M
double_next w M = double (w + 1) M ∙ add-mul w 1 (2 * M) ∙ ap (λ (k : ℕ). w * (2 * M) + k) (one-mul (2 * M))

module _ (N M : ℕ) (some : 0 < M) where
  nearest_is : Nearest N M (nearest_of N M)
  unfolding nearest_of
  nearest_is =
      let w : ℕ = (2 * N + M) / (2 * M) in
      let whole : w * (2 * M) + (2 * N + M) % (2 * M) ≡ 2 * N + M = div-add-mod' (2 * N + M) (2 * M) in
      let less : (2 * N + M) % (2 * M) < 2 * M = mod-lt (2 * N + M) (omega arith) in
      record { low = omega (arith, double w M); high = omega (arith, double_next w M) }

  nearest_only : (w : ℕ) → Nearest N M w → w ≡ nearest_of N M
  unfolding nearest_of
  nearest_only w h =
      let low : w * (2 * M) ≤ 2 * N + M = subst (λ (k : ℕ). k ≤ 2 * N + M) (double w M) h.low in
      let high : 2 * N + M < (w + 1) * (2 * M) = subst (λ (k : ℕ). 2 * N + M < k) (double (w + 1) M) h.high in
      sym (div-eq_of_lt-le (2 * M) low high)

pub rounds : Rounds
rounds = record { is = nearest_is; only = λ N M w some h. nearest_only N M some w h }
