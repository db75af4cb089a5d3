-- Prime numbers as characteristics: where a prime q is 0 in a ring, the numbers from 1 to q - 1 cancel, by
-- Euclid's descent from j to q mod j. So a field whose elements are the multiples of 1 is perfect: each
-- element is its own q-th root, by Fermat's theorem.
use Rattle.std.specs.Prelude.{ℕ, zero, suc, ◌/◌, ◌%◌, ◌≤◌, ◌<◌, ◌≡◌}
use Rattle.std.proofs.Common.{mod-lt, div-add-mod', eq-zero-or-pos, arith, sym, ◌∙◌, subst, ⊎_elim}
use Rattle.std.proofs.Math.Path.{ap}
use Rattle.math_ring.specs.Ring.{CRing, zer_add, one_mul, zer_mul}
use Rattle.math_ring.specs.Order.{le_or_lt}
use Rattle.math_algebra.specs.Field.{Field}
use Rattle.math_algebra.specs.Multiple.{natural, natural_drop, power}
use Rattle.math_algebra.specs.Characteristic.{Characteristic, Perfect}
use Rattle.math_algebra.specs.Frobenius.{fermat}

-- no number from 2 up to q - 1 divides q
pub record Prime (q : ℕ) : Type 0 where
  pub two : 2 ≤ q
  pub none : (d : ℕ) → 2 ≤ d → d < q → q % d ≡ 0 → ⊥

module _ {A : Type 0} (R : CRing A) (q : ℕ) (prime : Prime q) (zero_q : natural R q ≡ R.zer) where
  abbrev Cancels : ℕ → Type 0
  Cancels j = 0 < j → j < q → (x : A) → R.mul (natural R j) x ≡ R.zer → x ≡ R.zer

  cancel_one : (j : ℕ) → j < 2 → Cancels j
  cancel_one j s h l x e = sym (one_mul R x) ∙ ap (λ t. R.mul t x) (sym (zer_add R R.one) ∙ one) ∙ e
    where
      is : 1 ≡ j
      is = omega arith

      one : R.add R.zer R.one ≡ natural R j
      one = unfold natural in ap (natural R) is

  cancel_more : (j : ℕ) → 2 ≤ j → Cancels (q % j) → Cancels j
  cancel_more j s down h l x e = down some (omega (arith, mod-lt q h)) x (sym (natural_drop R j x e (q / j) (q % j)) ∙ ap (λ t. R.mul (natural R t) x) (div-add-mod' q j) ∙ ap (λ t. R.mul t x) zero_q ∙ zer_mul R x)
    where
      some : 0 < q % j
      some = ⊎_elim (λ z. absurd (prime.none j s l z)) (λ z. z) (eq-zero-or-pos (q % j))

  -- n bounds j
  cancel : (n j : ℕ) → j < n → Cancels j
  cancel zero j b = absurd (omega arith)
  cancel (suc n) j b = ⊎_elim (λ s. cancel_more j s (cancel n (q % j) (let w : q % j < j = mod-lt q (omega arith) in omega arith))) (λ s. cancel_one j s) (le_or_lt 2 j)

  pub prime_characteristic : Characteristic R q
  prime_characteristic = record { positive = omega (arith, prime.two); vanishes = zero_q; cancels = λ j. cancel (suc j) j (omega arith) }

module _ {A : Type 0} (K : Field A) (q : ℕ) (prime : Prime q) (zero_q : natural K.scalars q ≡ K.scalars.zer) where
  field_characteristic : Characteristic K.scalars q
  field_characteristic = prime_characteristic K.scalars q prime zero_q

  -- where each element has a q-th root
  pub perfect_roots : (root : A → A) → ((c : A) → power K.scalars (root c) q ≡ c) → Perfect K
  perfect_roots root is = record {
    char = q;
    char_two = prime.two;
    char_zero = zero_q;
    char_least = λ j h l e. K.one_not_zero (field_characteristic.cancels j h l K.scalars.one (K.scalars.mul_one (natural K.scalars j) ∙ e));
    root = root;
    root_power = is;
  }

  -- where each element is a multiple of 1
  pub perfect_prime : (index : A → ℕ) → ((c : A) → natural K.scalars (index c) ≡ c) → Perfect K
  perfect_prime index multiple = perfect_roots (λ c. c) (λ c. subst (λ x. power K.scalars x q ≡ x) (multiple c) (fermat K.scalars q field_characteristic (index c)))
