-- The proofs of specs/Ratios.
use Rattle.std.specs.Prelude.{ℕ, zero, suc, ◌*◌, ◌^◌, ◌≡◌}
use Rattle.std.proofs.Math.Nat.{pow-zero, mul-mul-mul_comm}
use Rattle.std.proofs.Common.{pow-suc, mul_assoc, mul_right_comm, sym, ap, ◌∙◌}
use Rattle.spec_estimate.specs.Ratios.{Ratio, ◌over◌, ◌times◌, power, SameValue}

-- ---- the proof
pub ratio_path : {x y : Ratio} → x.top ≡ y.top → x.bottom ≡ y.bottom → x ≡ y
ratio_path e f = λ i. record { top = e i; bottom = f i }

pub power_is : (q c k : ℕ) → power (q over c) k ≡ (q ^ k) over (c ^ k)
unfolding power
power_is q c zero = ratio_path (sym (pow-zero q)) (sym (pow-zero c))
power_is q c (suc k) = ap (λ (x : Ratio). x times (q over c)) (power_is q c k) ∙ ratio_path (sym (pow-suc q k)) (sym (pow-suc c k))

module _ (x y z : Ratio) where
  pub times_assoc : (x times y) times z ≡ x times (y times z)
  times_assoc = ratio_path (mul_assoc x.top y.top z.top) (mul_assoc x.bottom y.bottom z.bottom)

  -- the last two exchanged
  pub times_swap : (x times y) times z ≡ (x times z) times y
  times_swap = ratio_path (mul_right_comm x.top y.top z.top) (mul_right_comm x.bottom y.bottom z.bottom)

  -- both times the same
  pub same_times : SameValue x y → SameValue (x times z) (y times z)
  same_times e =
      mul-mul-mul_comm x.top z.top y.bottom z.bottom
      ∙ ap (λ (k : ℕ). k * (z.top * z.bottom)) e
      ∙ mul-mul-mul_comm y.top x.bottom z.top z.bottom

  pub times_same : SameValue x y → SameValue (z times x) (z times y)
  times_same e =
      mul-mul-mul_comm z.top x.top z.bottom y.bottom
      ∙ ap (λ (k : ℕ). (z.top * z.bottom) * k) e
      ∙ sym (mul-mul-mul_comm z.top y.top z.bottom x.bottom)

-- one of the two times q over q
pub same_one : (x y : Ratio) (q : ℕ) → SameValue x y → SameValue (x times (q over q)) y
same_one x y q e =
    mul_right_comm x.top q y.bottom
    ∙ ap (λ (k : ℕ). k * q) e
    ∙ mul_assoc y.top x.bottom q
