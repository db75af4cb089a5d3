-- A product's coefficients as loops sum them up over numbers, with one % at the end: coefficient by
-- coefficient (`dots`) and row by row (`rows`).
use Prim.Native.Nat.{ℕ, zero, suc, ◌+◌, ◌*◌, ◌-◌, ◌%◌, ◌≤◌, ◌<◌}
use Rattle.std.proofs.Common.{mod-lt, mul-le-mul, suc-add, zero-add, add-zero, add-suc, zero-mul, mul-zero, suc-mul, add-one, arith, ap, ◌∙◌, ⊎_elim}
use Rattle.std.specs.Prelude.{◌≡◌, refl, List, get_or}
use Rattle.std.proofs.Math.Path.{sym, ap₂}
use Rattle.math_ring.specs.Ring.{zer_add}
use Rattle.math_ring.specs.Order.{le_or_lt}
use Rattle.math_ring.specs.Residues.{FqRing, to, add_f, mul_f}
use Rattle.math_ring.specs.Series.{S}
use Rattle.math_ring.specs.Sums.{sum, sum_last, conv_sum}
use Rattle.spec_arithmetic.specs.Field.{modulo}
use Rattle.spec_arithmetic.specs.Polynomials.{mul}
use Rattle.spec_bridge.specs.Model.{series}
use Rattle.spec_bridge.specs.Arithmetic.{series_mul, oks_mul}
use Rattle.spec_bridge.specs.Residues.{model, to_add, to_mul, to_mod}

-- a_0·b_k + a_1·b_(k−1) + .. , n terms
unfoldable pub dots : List ℕ → List ℕ → ℕ → ℕ → ℕ
dots a b k zero = 0
dots a b k (suc n) = dots a b k n + get_or a n 0 * get_or b (k - n) 0

pub dots_more : (a b : List ℕ) (k n : ℕ) → dots a b k (n + 1) ≡ dots a b k n + get_or a n 0 * get_or b (k - n) 0
unfolding dots
dots_more a b k n = rw add-one

-- the coefficient of x^k in x^n·b
unfoldable pub shifted : List ℕ → ℕ → ℕ → ℕ
shifted b zero k = get_or b k 0
shifted b (suc n) zero = 0
shifted b (suc n) (suc k) = shifted b n k

pub shifted_low : (b : List ℕ) (n k : ℕ) → k < n → shifted b n k ≡ 0
unfolding shifted
shifted_low b zero k h = absurd (omega arith)
shifted_low b (suc n) zero h = refl
shifted_low b (suc n) (suc k) h = shifted_low b n k (omega arith)

pub shifted_at : (b : List ℕ) (n i : ℕ) → shifted b n (n + i) ≡ get_or b i 0
unfolding shifted
shifted_at b zero i = ap (λ m. get_or b m 0) (zero-add i)
shifted_at b (suc n) i = ap (shifted b (suc n)) (suc-add n i) ∙ shifted_at b n i

-- the coefficient of x^k in a_0·b + a_1·x·b + .. , n rows
unfoldable pub rows : List ℕ → List ℕ → ℕ → ℕ → ℕ
rows a b zero k = 0
rows a b (suc n) k = rows a b n k + get_or a n 0 * shifted b n k

-- ---- no sum is past n terms of m·m, where no coefficient is past m
pub dots_bound : (a b : List ℕ) (m : ℕ) → ((i : ℕ) → get_or a i 0 ≤ m) → ((i : ℕ) → get_or b i 0 ≤ m) → (k n : ℕ) → dots a b k n ≤ n * (m * m)
unfolding dots
dots_bound a b m h l k zero = omega arith
dots_bound a b m h l k (suc n) =
    let rest : dots a b k n ≤ n * (m * m) = dots_bound a b m h l k n in
    let last : get_or a n 0 * get_or b (k - n) 0 ≤ m * m = mul-le-mul (h n) (l (k - n)) in
    let more : suc n * (m * m) ≡ n * (m * m) + m * m = suc-mul n (m * m) in
    omega arith

-- ---- terms that are 0 change nothing
dots_settled : (a b : List ℕ) (k n m : ℕ) → ((i : ℕ) → n ≤ i → get_or a i 0 ≡ 0) → dots a b k (n + m) ≡ dots a b k n
unfolding dots
dots_settled a b k n zero h = ap (dots a b k) (add-zero n)
dots_settled a b k n (suc m) h =
    ap (dots a b k) (add-suc n m) ∙ ap₂ (λ x y. x + y * get_or b (k - (n + m)) 0) (dots_settled a b k n m h) (h (n + m) (omega arith)) ∙ (let z : 0 * get_or b (k - (n + m)) 0 ≡ 0 = zero-mul _ in omega arith)

-- terms of b past its end
pub dots_none : (a b : List ℕ) (k l n : ℕ) → ((i : ℕ) → l ≤ i → get_or b i 0 ≡ 0) → n + l ≤ suc k → dots a b k n ≡ 0
unfolding dots
dots_none a b k l zero h p = refl
dots_none a b k l (suc n) h p = ap₂ (λ x y. x + get_or a n 0 * y) (dots_none a b k l n h (omega arith)) (h (k - n) (omega arith)) ∙ (let z : get_or a n 0 * 0 ≡ 0 = mul-zero _ in omega arith)

rows_settled : (a b : List ℕ) (k n m : ℕ) → ((i : ℕ) → n ≤ i → get_or a i 0 * shifted b i k ≡ 0) → rows a b (n + m) k ≡ rows a b n k
unfolding rows
rows_settled a b k n zero h = ap (λ j. rows a b j k) (add-zero n)
rows_settled a b k n (suc m) h = ap (λ j. rows a b j k) (add-suc n m) ∙ ap₂ ◌+◌ (rows_settled a b k n m h) (h (n + m) (omega arith)) ∙ add-zero (rows a b n k)

rows_dots : (a b : List ℕ) (k n : ℕ) → n ≤ suc k → rows a b n k ≡ dots a b k n
unfolding rows dots
rows_dots a b k zero h = refl
rows_dots a b k (suc n) h = ap₂ (λ x y. x + get_or a n 0 * y) (rows_dots a b k n (omega arith)) (let split : n + (k - n) ≡ k = omega arith in sym (ap (shifted b n) split) ∙ shifted_at b n (k - n))

module _ (q : ℕ) (pos : 0 < q) where
  dots_sum : (a b : List ℕ) (k n : ℕ) → to q pos (dots a b k (suc n)) ≡ sum (FqRing q pos) n (λ i. mul_f q pos (to q pos (get_or a i 0)) (to q pos (get_or b (k - i) 0)))
  unfolding dots
  dots_sum a b k zero = to_add q pos 0 _ ∙ zer_add (FqRing q pos) _ ∙ to_mul q pos _ _
  dots_sum a b k (suc n) = to_add q pos _ _ ∙ ap₂ (add_f q pos) (dots_sum a b k n) (to_mul q pos _ _) ∙ sym (sum_last (FqRing q pos) n (λ i. mul_f q pos (to q pos (get_or a i 0)) (to q pos (get_or b (k - i) 0))))

  -- ---- what a loop has at k is the product's coefficient
  pub dots_mul : (a b : List ℕ) (k : ℕ) → dots a b k (suc k) % q ≡ get_or (mul (modulo q) a b) k 0
  dots_mul a b k = (model q pos).inj _ _ (mod-lt _ pos) (oks_mul (model q pos) a b k) (to_mod q pos _ ∙ dots_sum a b k k ∙ sym (conv_sum (FqRing q pos) (series (model q pos) a) (series (model q pos) b) k) ∙ sym (ap (λ (f : S (FqRing q pos)). f k) (series_mul (model q pos) a b)))

  -- with as many terms as a has coefficients
  pub dots_mul_short : (a b : List ℕ) (k n : ℕ) → ((i : ℕ) → n ≤ i → get_or a i 0 ≡ 0) → n ≤ suc k → dots a b k n % q ≡ get_or (mul (modulo q) a b) k 0
  dots_mul_short a b k n h p = ap (λ x. x % q) (sym (dots_settled a b k n (suc k - n) h) ∙ ap (dots a b k) (let e : n + (suc k - n) ≡ suc k = omega arith in e)) ∙ dots_mul a b k

  -- with as many rows as a has coefficients
  pub rows_mul : (a b : List ℕ) (n k : ℕ) → ((i : ℕ) → n ≤ i → get_or a i 0 ≡ 0) → rows a b n k % q ≡ get_or (mul (modulo q) a b) k 0
  rows_mul a b n k h = ⊎_elim many few (le_or_lt (suc k) n)
    where
      many : suc k ≤ n → rows a b n k % q ≡ get_or (mul (modulo q) a b) k 0
      many p = ap (λ x. x % q) (ap (λ j. rows a b j k) (let e : n ≡ suc k + (n - suc k) = omega arith in e) ∙ rows_settled a b k (suc k) (n - suc k) (λ i l. ap (λ y. get_or a i 0 * y) (shifted_low b i k (omega arith)) ∙ mul-zero (get_or a i 0)) ∙ rows_dots a b k (suc k) (omega arith)) ∙ dots_mul a b k

      few : n < suc k → rows a b n k % q ≡ get_or (mul (modulo q) a b) k 0
      few p = ap (λ x. x % q) (rows_dots a b k n (omega arith)) ∙ dots_mul_short a b k n h (omega arith)
