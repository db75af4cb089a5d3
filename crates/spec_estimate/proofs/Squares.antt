-- The proofs of specs/Squares.
use Prim.Native.Nat.{ℕ, zero, suc, ◌+◌, ◌-◌, ◌*◌, ◌%◌, ◌≤◌, ◌<◌}
use Rattle.std.proofs.Math.Nat.{mod-lt, mod-eq_of_lt, zero-mod}
use Rattle.std.proofs.Common.{eq-zero-or-pos, eq-or-lt_of_le, mul-zero, ◌∙◌, subst, inl, inr, ⊎_elim, true≢false}
use native.Mathlib.Omega.{arith}
use Rattle.std.specs.Prelude.{◌≡◌, ◌≢◌, ◌⊎◌, Bool, ◌&&◌, List, ◌∷◌, length}
use Rattle.std.proofs.Math.Path.{refl, sym, ap, ap₂}
use Rattle.std.proofs.Math.Bool.{true, false, not}
use Rattle.std.proofs.lemmas.Bool.{false≢true}
use Rattle.std.proofs.Math.Dec.{eqb}
use borrow.Author.Tests.{eqb-true, eqb-false, eq-eqb, ne_eqb}
use Rattle.std.proofs.lemmas.Nat.{mul-mod_first, mul-mod_second}
use Rattle.math_algebra.specs.Field.{some_mul}
use Rattle.math_counting.specs.Count.{select, count}
use Rattle.math_counting.specs.HowMany.{HowMany}
use Rattle.math_counting.specs.Numbers.{numbers}
use Rattle.math_counting.proofs.Numbers.{numbers_tested}
use Rattle.spec_arithmetic.specs.Field.{FieldName, reading}
use Rattle.spec_fields.specs.Named.{IsField, arithmetic, some_elements, same_reading, reading_zero}
use Rattle.spec_sentences.specs.Tests.{Tests}
use Rattle.spec_sentences.proofs.Tests.{tests_none}
use Rattle.spec_estimate.specs.Estimate.{some_root, square?, non_square?, count_below}
use Rattle.spec_estimate.specs.Squares.{Square, NonSquare, more}

-- ---- the proof
zero_square : (q z : ℕ) → z % q ≡ 0 → (z * z) % q ≡ 0
zero_square q z e = sym (mul-mod_second z z q) ∙ ap (λ (x : ℕ). (z * x) % q) e ∙ ap (λ (x : ℕ). x % q) (mul-zero z) ∙ zero-mod q

-- ---- some z from 1 to k
module _ (f : FieldName) (v : ℕ) where
  abbrev q : ℕ
  q = f.q

  root_true : (k : ℕ) → some_root f k v ≡ true → (z : ℕ) × (1 ≤ z) × (z ≤ k) × ((z * z) % q ≡ v)
  unfolding some_root
  root_true zero e = absurd (false≢true e)
  root_true (suc k) e = go (eqb ((suc k * suc k) % q) v) refl (root_true k) e
    where
      go : (b : Bool) → eqb ((suc k * suc k) % q) v ≡ b → (some_root f k v ≡ true → (z : ℕ) × (1 ≤ z) × (z ≤ k) × ((z * z) % q ≡ v)) → elim b as (λ _. Bool) [ true ↦ true | false ↦ some_root f k v ] ≡ true → (z : ℕ) × (1 ≤ z) × (z ≤ suc k) × ((z * z) % q ≡ v)
      go true d r e = (suc k, omega arith, omega arith, eqb-true _ _ d)
      go false d r e = let z = r e in (z.0, z.1, omega (arith, z.2), z.3)

  true_root : (k z : ℕ) → 1 ≤ z → z ≤ k → (z * z) % q ≡ v → some_root f k v ≡ true
  unfolding some_root
  true_root zero z low high e = absurd (omega arith)
  true_root (suc k) z low high e = go (eqb ((suc k * suc k) % q) v) refl (true_root k z low) (eq-or-lt_of_le high)
    where
      go : (b : Bool) → eqb ((suc k * suc k) % q) v ≡ b → (z ≤ k → (z * z) % q ≡ v → some_root f k v ≡ true) → (z ≡ suc k) ⊎ (z < suc k) → elim b as (λ _. Bool) [ true ↦ true | false ↦ some_root f k v ] ≡ true
      go true d r w = refl
      go false d r (inl w) = absurd (eqb-false _ _ d (ap (λ (x : ℕ). (x * x) % q) (sym w) ∙ e))
      go false d r (inr w) = r (omega arith) e

  -- one z more
  pub root_next : (k : ℕ) → (suc k * suc k) % q ≢ v → some_root f k v ≡ some_root f (suc k) v
  unfolding some_root
  root_next k h = sym (ap (λ (b : Bool). elim b as (λ _. Bool) [ true ↦ true | false ↦ some_root f k v ]) (ne_eqb _ _ h))

  module _ (some : 0 < q) where
    pub tests_square : Tests (square? f v) (Square q v)
    unfolding square?
    tests_square = (
      λ e. let z = root_true (q - 1) e in (z.0, λ d. (let g : z.0 % q ≡ z.0 = mod-eq_of_lt (omega (arith, z.2)) in omega (arith, z.1)), z.3),
      λ s. let l : s.0 % q < q = mod-lt s.0 some in true_root (q - 1) (s.0 % q) (⊎_elim (λ e. absurd (s.1 e)) (λ p. p) (eq-zero-or-pos (s.0 % q))) (omega arith) (mul-mod_first s.0 (s.0 % q) q ∙ mul-mod_second s.0 s.0 q ∙ s.2),
    )

    -- v is an element other than 0, and no z other than 0 has z² = v: no z has
    pub tests_non_square : v < q → Tests (non_square? f v) (NonSquare q v)
    unfolding non_square?
    tests_non_square low = (there, back)
      where
        parts : (s t : Bool) → (not s && not t) ≡ true → (s ≡ false) × (t ≡ false)
        parts false false e = (refl, refl)
        parts false true e = absurd (false≢true e)
        parts true t e = absurd (false≢true e)

        joined : (s t : Bool) → s ≡ false → t ≡ false → (not s && not t) ≡ true
        joined false false e d = refl
        joined true t e d = absurd (true≢false e)
        joined false true e d = absurd (true≢false d)

        there : (not (eqb (v % q) 0) && not (square? f v)) ≡ true → NonSquare q v
        there e z d =
            let r = parts (eqb (v % q) 0) (square? f v) e in
            ⊎_elim
            (λ n. eqb-false _ _ r.0 (mod-eq_of_lt low ∙ sym d ∙ zero_square q z n))
            (λ n. true≢false (sym (tests_square.1 (z, λ m. omega (arith, m, n), d)) ∙ r.1))
            (eq-zero-or-pos (z % q))

        back : NonSquare q v → (not (eqb (v % q) 0) && not (square? f v)) ≡ true
        back h = joined (eqb (v % q) 0) (square? f v) (ne_eqb (v % q) 0 (λ e. h 0 (zero-mod q ∙ sym e ∙ mod-eq_of_lt low))) (not_square (square? f v) refl)
          where
            not_square : (b : Bool) → square? f v ≡ b → b ≡ false
            not_square false e = refl
            not_square true e = let s = tests_square.0 e in absurd (h s.0 s.2)

  -- a nonzero square is no non-square
  pub square_apart : square? f v ≡ true → non_square? f v ≡ false
  unfolding non_square?
  square_apart e = ap (λ (b : Bool). not (eqb (v % q) 0) && not b) e ∙ neither (not (eqb (v % q) 0))
    where
      neither : (b : Bool) → (b && false) ≡ false
      neither true = refl
      neither false = refl

  pub non_square_true : v < q → v ≢ 0 → square? f v ≡ false → non_square? f v ≡ true
  unfolding non_square?
  non_square_true low some e = let m : v % q ≡ v = mod-eq_of_lt low in ap₂ (λ (a b : Bool). not a && not b) (ne_eqb (v % q) 0 (λ z. some (sym m ∙ z))) e

-- ---- 0 is neither
module _ (f : FieldName) (named : IsField f) where
  -- the square of an element other than 0 is not 0
  pub square_some : (z : ℕ) → z % f.q ≢ 0 → (z * z) % f.q ≢ 0
  unfolding reading
  square_some z some e =
      let A = arithmetic f named in
      let not_zero : A.M.φ z ≡ A.K.scalars.zer → ⊥ = λ d. some (same_reading f named z 0 (d ∙ sym A.M.φ_zer) ∙ reading_zero f) in
      some_mul A.K (A.M.φ z) (A.M.φ z) not_zero not_zero (sym (A.M.φ_mul z z) ∙ ap A.M.φ e ∙ A.M.φ_zer)

  pub square_zero : square? f 0 ≡ false
  square_zero = tests_none (tests_square f 0 (some_elements f named)) (λ s. square_some s.0 s.1 s.2)

  pub non_square_zero : non_square? f 0 ≡ false
  unfolding non_square?
  non_square_zero = ap (λ (b : Bool). not b && not (square? f 0)) (eq-eqb (0 % f.q) 0 (zero-mod f.q))

pub count_next : (p : ℕ → Bool) (k : ℕ) {b : Bool} → p k ≡ b → count_below p (suc k) ≡ more b (count_below p k)
unfolding count_below
count_next p k {b} e = ap (λ (c : Bool). elim c as (λ _. ℕ) [ true ↦ suc (count_below p k) | false ↦ count_below p k ]) e ∙ go b
  where
    go : (b : Bool) → (elim b as (λ _. ℕ) [ true ↦ suc (count_below p k) | false ↦ count_below p k ]) ≡ more b (count_below p k)
    go true = refl
    go false = refl

count_is : (p : ℕ → Bool) (k : ℕ) → count p (numbers k) ≡ count_below p k
unfolding numbers select count_below
count_is p zero = refl
count_is p (suc k) = go (p k) (count_is p k)
  where
    go : (b : Bool) → count p (numbers k) ≡ count_below p k → length {A = ℕ} (elim b as (λ _. List ℕ) [ true ↦ k ∷ select p (numbers k) | false ↦ select p (numbers k) ]) ≡ (elim b as (λ _. ℕ) [ true ↦ suc (count_below p k) | false ↦ count_below p k ])
    go true e = ap suc e
    go false e = e

-- where the test is true exactly where P holds, so many have P
pub how_many_below : (P : ℕ → Type 0) (p : ℕ → Bool) (k : ℕ) → ((x : ℕ) → x < k → Tests (p x) (P x)) → HowMany (λ x. (x < k) × P x) (count_below p k)
how_many_below P p k t = subst (HowMany (λ x. (x < k) × P x)) (count_is p k) (numbers_tested P k p t)

-- tests that are never both true count at most k of the numbers below k
pub count_apart : (s t : ℕ → Bool) → ((x : ℕ) → s x ≡ true → t x ≡ false) → (k : ℕ) → count_below s k + count_below t k ≤ k
count_apart s t h zero = unfold count_below in omega arith
count_apart s t h (suc k) = go (s k) refl (t k) refl (count_apart s t h k)
  where
    go : (b : Bool) → s k ≡ b → (c : Bool) → t k ≡ c → count_below s k + count_below t k ≤ k → count_below s (suc k) + count_below t (suc k) ≤ suc k
    go true b true c l = absurd (true≢false (sym c ∙ h k b))
    go true b false c l = omega (arith, count_next s k b, count_next t k c)
    go false b true c l = omega (arith, count_next s k b, count_next t k c)
    go false b false c l = omega (arith, count_next s k b, count_next t k c)
