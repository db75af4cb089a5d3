-- A coefficient of the quotient from those above it: at the place k + (n − 1) the product with b, of n places,
-- has a term for each of them and none for those below k.
use Rattle.std.specs.Prelude.{ℕ, zero, suc, ◌+◌, ◌*◌, ◌-◌, ◌%◌, ◌<◌, ◌≤◌, ◌≡◌, refl, List, [], ◌∷◌, get_or}
use Rattle.std.proofs.Common.{zero-add, suc-add, add-zero, add-suc, zero-mul, arith, sym, ap, ap₂, ◌∙◌, subst}
use Rattle.std.proofs.lemmas.Nat.{mul-mod_first}
use Rattle.spec_arithmetic.specs.Field.{prime, inverse}
use Rattle.spec_bridge.specs.Prime.{Prime}
use Rattle.spec_bridge.specs.Product.{shifted, rows, rows_mul}
use Rattle.base_places.specs.Row.{Bounded}
use Rattle.walk_short.specs.Step.{step_quo, Division}
use Rattle.walk_short.specs.Sizes.{positive, quo_past, quo_reduced}
use Rattle.walk_short.specs.Sums.{Less, less_none, less_more, Scaled, scaled_more}
use Rattle.walk_short.specs.Coefficients.{rest_is}
use Rattle.walk_short.specs.Quotient.{quo_at}

-- the coefficients from k on, zeros before
from : ℕ → List ℕ → List ℕ
from zero a = a
from (suc k) [] = []
from (suc k) (x ∷ a) = 0 ∷ from k a

from_low : (k : ℕ) (a : List ℕ) (i : ℕ) → i < k → get_or (from k a) i 0 ≡ 0
unfolding from
from_low zero a i h = absurd (omega arith)
from_low (suc k) [] i h = refl
from_low (suc k) (x ∷ a) zero h = refl
from_low (suc k) (x ∷ a) (suc i) h = from_low k a i (omega arith)

from_high : (k : ℕ) (a : List ℕ) (i : ℕ) → k ≤ i → get_or (from k a) i 0 ≡ get_or a i 0
unfolding from
from_high zero a i h = refl
from_high (suc k) [] i h = refl
from_high (suc k) (x ∷ a) zero h = absurd (omega arith)
from_high (suc k) (x ∷ a) (suc i) h = from_high k a i (omega arith)

shifted_together : (b : List ℕ) (k i j : ℕ) → shifted b (k + i) (k + j) ≡ shifted b i j
unfolding shifted
shifted_together b zero i j = ap₂ (shifted b) (zero-add i) (zero-add j)
shifted_together b (suc k) i j = ap₂ (shifted b) (suc-add k i) (suc-add k j) ∙ shifted_together b k i j

-- rows in which a is 0
rows_zero : (a b : List ℕ) (k n : ℕ) → ((i : ℕ) → i < n → get_or a i 0 ≡ 0) → rows a b n k ≡ 0
unfolding rows
rows_zero a b k zero h = refl
rows_zero a b k (suc n) h = ap₂ (λ u v. u + v * shifted b n k) (rows_zero a b k n (λ i l. h i (omega arith))) (h n (omega arith)) ∙ (let z : 0 * shifted b n k ≡ 0 = zero-mul _ in omega arith)

-- a_{k+1}·b_{j−1} + a_{k+2}·b_{j−2} + .. , l terms
above : List ℕ → List ℕ → ℕ → ℕ → ℕ → ℕ
above a b k j zero = 0
above a b k j (suc l) = above a b k j l + get_or a (k + suc l) 0 * shifted b (suc l) j

rows_above : (a b : List ℕ) (k j l : ℕ) → rows (from (suc k) a) b (suc k + l) (k + j) ≡ above a b k j l
unfolding rows above
rows_above a b k j zero = ap (λ n. rows (from (suc k) a) b n (k + j)) (add-zero (suc k)) ∙ rows_zero (from (suc k) a) b (k + j) (suc k) (from_low (suc k) a)
rows_above a b k j (suc l) =
    ap (λ n. rows (from (suc k) a) b n (k + j)) (add-suc (suc k) l)
    ∙ ap₂ ◌+◌ (rows_above a b k j l) (ap₂ ◌*◌ (from_high (suc k) a (suc k + l) (omega arith) ∙ ap (λ i. get_or a i 0) next) (ap (λ i. shifted b i (k + j)) next ∙ shifted_together b k (suc l) j))
  where
    next : suc k + l ≡ k + suc l
    next = omega arith

-- u less these terms
less_above : (q u : ℕ) → List ℕ → List ℕ → ℕ → ℕ → ℕ → ℕ
less_above q u a b k j zero = u
less_above q u a b k j (suc l) = less_above q u a b k j l + (q - get_or a (k + suc l) 0) * shifted b (suc l) j

less_above_is : (q u : ℕ) (a b : List ℕ) → Bounded q a → (k j l : ℕ) → Less q u (above a b k j l) (less_above q u a b k j l)
unfolding above less_above
less_above_is q u a b h k j zero = less_none q u
less_above_is q u a b h k j (suc l) = less_more q u (get_or a (k + suc l) 0) (shifted b (suc l) j) (let w = h (k + suc l) in omega arith) (less_above_is q u a b h k j l)

-- the same times i, with b times i reduced: one product alone waits for each of the coefficients above
unfoldable pub scaled_above : (q i u : ℕ) → List ℕ → List ℕ → ℕ → ℕ → ℕ → ℕ
scaled_above q i u a b k j zero = u * i
scaled_above q i u a b k j (suc l) = scaled_above q i u a b k j l + (q - get_or a (k + suc l) 0) * ((shifted b (suc l) j * i) % q)

scaled_above_is : (q i u : ℕ) (a b : List ℕ) (k j l : ℕ) → Scaled q i (less_above q u a b k j l) (scaled_above q i u a b k j l)
unfolding less_above scaled_above
scaled_above_is q i u a b k j zero = refl
scaled_above_is q i u a b k j (suc l) = scaled_more q i _ _ (q - get_or a (k + suc l) 0) (shifted b (suc l) j) (scaled_above_is q i u a b k j l)

module _ {q m n : ℕ} {s b r : List ℕ} (p : Prime q) (d : Division (prime q) m n s b r) (i : ℕ) (i_is : i ≡ inverse q (get_or b (n - 1) 0)) where
  -- what stands at the place, less what l coefficients above k leave there
  pub quo_above : (k l place : ℕ) → m + 1 - n ≤ suc k + l → place ≡ k + (n - 1) → scaled_above q i (get_or s place 0 + (q - get_or r place 0)) (step_quo (prime q) s b r) b k (n - 1) l % q ≡ get_or (step_quo (prime q) s b r) k 0
  quo_above k l place h e =
      scaled_above_is q i u a b k (n - 1) l ∙ sym (mul-mod_first t i q) ∙ ap (λ (x : ℕ). (t % q * x) % q) i_is
      ∙ quo_at p d z k (λ x w. from_high (suc k) a x (omega arith)) (λ x w. from_low (suc k) a x (omega arith)) place (t % q) e
      (rest_is q (positive p d) s r z b place t (rows z b (suc k + l) place) (d.rest_within.reduced place)
      (rows_mul q (positive p d) z b (suc k + l) place (λ x w. from_high (suc k) a x (omega arith) ∙ quo_past p d x (omega arith)))
      (subst (λ (x : ℕ). Less q u x t) (sym (ap (rows z b (suc k + l)) e ∙ rows_above a b k (n - 1) l)) (less_above_is q u a b (quo_reduced p d) k (n - 1) l)))
    where
      u : ℕ
      u = get_or s place 0 + (q - get_or r place 0)

      a : List ℕ
      a = step_quo (prime q) s b r

      z : List ℕ
      z = from (suc k) a

      t : ℕ
      t = less_above q u a b k (n - 1) l
