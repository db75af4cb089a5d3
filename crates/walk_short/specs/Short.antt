-- One step where the quotient has degree 1 or 2: its coefficients from the top down, and what the passes form
-- at k.
use Prim.Native.Nat.{ℕ, zero, suc, ◌+◌, ◌*◌, ◌-◌, ◌%◌, ◌<◌, ◌≤◌}
use Rattle.std.proofs.Common.{add-one, ◌∙◌}
use native.Mathlib.Omega.{arith}
use Rattle.std.specs.Prelude.{◌≡◌, refl, List}
use Rattle.std.proofs.Math.Path.{sym, ap, ap₂}
use Rattle.std.proofs.Math.ListN.{get_or}
use Rattle.spec_arithmetic.specs.Field.{prime, inverse}
use Rattle.spec_bridge.specs.Prime.{Prime}
use Rattle.spec_bridge.specs.Product.{shifted}
use Rattle.spec_bridge.specs.Residues.{inverse_lt}
use Rattle.base_places.specs.TwoRows.{shifted_less}
use Rattle.walk_short.specs.Step.{step_quo, next_rem, next_q, Quadratic, Division}
use Rattle.walk_short.specs.Sizes.{positive, some, quo_past, quo_reduced}
use Rattle.walk_short.specs.Sums.{less_rows, more_rows}
use Rattle.walk_short.specs.Coefficients.{rest_rows, next_rows}
use Rattle.walk_short.specs.Quotient.{rem_at, next_cong}
use Rattle.walk_short.specs.Above.{scaled_above, quo_above}

pub shifted_second : (b : List ℕ) (k : ℕ) → shifted b 2 (k + 1) ≡ shifted b 1 k
unfolding shifted
shifted_second b k = rw add-one

shifted_two : (b : List ℕ) (k : ℕ) → shifted b 2 k ≡ shifted b 1 (k - 1)
unfolding shifted
shifted_two b zero = refl
shifted_two b (suc k) = ap (shifted b 1) (let e : k ≡ suc k - 1 = omega arith in e)

module _ {q m n : ℕ} {s b r : List ℕ} (p : Prime q) (d : Division (prime q) m n s b r) where
  -- ---- the quotient from the top, with the inverse i of the leading coefficient of b: a1 and a2 are the
  -- coefficients above, h and g those of b before its leading one, over that
  module _ (i : ℕ) (i_is : i ≡ inverse q (get_or b (n - 1) 0)) where
    pub inverse_less : i < q
    inverse_less = rw i_is (inverse_lt q (positive p d) (get_or b (n - 1) 0))

    pub first_at : n ≤ m → ((get_or s (m - 1) 0 + (q - get_or r (m - 1) 0)) * i) % q ≡ get_or (step_quo (prime q) s b r) (m - n) 0
    unfolding scaled_above
    first_at l = quo_above p d i i_is (m - n) 0 (m - 1) (omega arith) (let w = some p d in omega arith)

    module _ (a1 h : ℕ) (h_is : h ≡ (shifted b 1 (n - 1) * i) % q) where
      pub second_at : n < m → a1 ≡ get_or (step_quo (prime q) s b r) (m - n) 0 → ((get_or s (m - 2) 0 + (q - get_or r (m - 2) 0)) * i + (q - a1) * h) % q ≡ get_or (step_quo (prime q) s b r) (m - n - 1) 0
      unfolding scaled_above
      second_at l is1 =
          let e : m - n ≡ m - n - 1 + 1 = omega arith in
          ap₂ (λ (x y : ℕ). ((get_or s (m - 2) 0 + (q - get_or r (m - 2) 0)) * i + (q - x) * y) % q) (is1 ∙ ap (λ (k : ℕ). get_or (step_quo (prime q) s b r) k 0) e) h_is
          ∙ quo_above p d i i_is (m - n - 1) 1 (m - 2) (omega arith) (let w = some p d in omega arith)

      pub third_at : (a2 g : ℕ) → g ≡ (shifted b 1 (n - 2) * i) % q → n + 1 < m → a1 ≡ get_or (step_quo (prime q) s b r) (m - n - 1) 0 → a2 ≡ get_or (step_quo (prime q) s b r) (m - n) 0
          → ((get_or s (m - 3) 0 + (q - get_or r (m - 3) 0)) * i + (q - a1) * h + (q - a2) * g) % q ≡ get_or (step_quo (prime q) s b r) (m - n - 2) 0
      unfolding scaled_above
      third_at a2 g g-is l is1 is2 =
          let e : m - n - 1 ≡ m - n - 2 + 1 = omega arith in
          let f : m - n ≡ m - n - 2 + 2 = omega arith in
          let u : ℕ = (get_or s (m - 3) 0 + (q - get_or r (m - 3) 0)) * i in
          ap₂ (λ (x y : ℕ). (u + (q - x) * y + (q - a2) * g) % q) (is1 ∙ ap (λ (k : ℕ). get_or (step_quo (prime q) s b r) k 0) e) h_is
          ∙ ap₂ (λ (x y : ℕ). (u + (q - get_or (step_quo (prime q) s b r) (m - n - 2 + 1) 0) * ((shifted b 1 (n - 1) * i) % q) + (q - x) * y) % q) (is2 ∙ ap (λ (k : ℕ). get_or (step_quo (prime q) s b r) k 0) f) (g-is ∙ ap (λ (x : ℕ). (x * i) % q) two)
          ∙ quo_above p d i i_is (m - n - 2) 2 (m - 3) (omega arith) (let w = some p d in omega arith)
        where
          two : shifted b 1 (n - 2) ≡ shifted b 2 (n - 1)
          two = ap (shifted b 1) (let e : n - 2 ≡ n - 1 - 1 = omega arith in e) ∙ sym (shifted_two b (n - 1))

  -- ---- what the passes form at k, by as many rows as the quotient may have coefficients
  rest_by : (l : ℕ) → m + 1 - n ≤ l → (k v : ℕ) → v ≡ less_rows q (get_or s k 0 + (q - get_or r k 0)) (step_quo (prime q) s b r) b k l % q → v ≡ get_or (next_rem (prime q) s b r) k 0
  rest_by l h k v e =
      let a : List ℕ = step_quo (prime q) s b r in
      rem_at p d a (λ i. refl) k v (e ∙ rest_rows q (positive p d) s r a b k l (quo_reduced p d) (λ i w. quo_past p d i (omega arith)) (d.rest_within.reduced k))

  next_by : (l : ℕ) → m + 1 - n ≤ l → (before z : List ℕ) → ((i : ℕ) → get_or z i 0 ≡ get_or (next_rem (prime q) s b r) i 0) → (k v : ℕ) → v ≡ more_rows q (get_or before k 0) (step_quo (prime q) s b r) z r k l % q → v ≡ get_or (next_q (prime q) s before b r) k 0
  next_by l h before z rest k v e =
      let a : List ℕ = step_quo (prime q) s b r in
      e ∙ next_rows q (positive p d) before a z r k l (λ i w. quo_past p d i (omega arith)) (λ i. let w = shifted_less q (positive p d) r d.rest_within.reduced i k in omega arith)
      ∙ ap (λ (x : List ℕ). get_or x k 0) (next_cong p d a (λ i. refl) before z rest)

  module _ (a0 a1 a2 : ℕ) (is : Quadratic (prime q) s b r a0 a1 a2) where
    pub rest_three : m ≤ n + 2 → (k v y z : ℕ) → y ≡ shifted b 1 k → z ≡ shifted b 2 k → v ≡ (get_or s k 0 + (q - get_or r k 0) + (q - a0) * get_or b k 0 + (q - a1) * y + (q - a2) * z) % q → v ≡ get_or (next_rem (prime q) s b r) k 0
    unfolding less_rows shifted
    rest_three l k v y z f g e = rest_by 3 (omega arith) k v (e ∙ rw (is.0, is.1, is.2, f, g))

    pub next_three : m ≤ n + 2 → (before x : List ℕ) → ((i : ℕ) → get_or x i 0 ≡ get_or (next_rem (prime q) s b r) i 0) → (k v y z : ℕ) → y ≡ shifted x 1 k + (q - shifted r 1 k) → z ≡ shifted x 2 k + (q - shifted r 2 k)
        → v ≡ (get_or before k 0 + a0 * (get_or x k 0 + (q - get_or r k 0)) + a1 * y + a2 * z) % q → v ≡ get_or (next_q (prime q) s before b r) k 0
    unfolding more_rows shifted
    next_three l before x rest k v y z f g e = next_by 3 (omega arith) before x rest k v (e ∙ rw (is.0, is.1, is.2, f, g))
