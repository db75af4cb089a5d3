-- A list of whole records, and how many records it has.
use Rattle.std.specs.Prelude.{ℕ, suc, ◌+◌, ◌*◌, ◌/◌, ◌%◌, ◌<◌, ◌≤◌, ◌≡◌, refl, Bool, true, false, ◌&&◌, List, Decides}
use Rattle.std.proofs.Math.Nat.{div-add-mod', eq_of_mul-eq-mul_right}
use Rattle.std.proofs.Common.{suc-mul, zero-mul, mul-le-mul_right, lt_of_mul-lt-mul_right, sym, ap, ◌∙◌, subst}
use Rattle.std.proofs.lemmas.Bool.Decides.{Decides-below_and}
use native.Mathlib.Omega.{arith}
use Rattle.std.proofs.Math.ListN.{length}
use Rattle.spec_definitions.specs.Ticket.{wrong_degree}
use Rattle.spec_definitions.specs.Lookup.{record_count}

-- one or more whole records of an allowed degree
pub record Records (l : List ℕ) (n : ℕ) : Type 0 where
  pub degree : wrong_degree n ≡ false
  pub some : 0 < length l
  pub whole : length l % (n + 4) ≡ 0

-- what a test of the first m records decides, where it is that of one record after the other
pub decides_each : (f test : ℕ → Bool) → f 0 ≡ true → ((k : ℕ) → f (suc k) ≡ (elim (f k) [ true ↦ test k | false ↦ false ])) → (m : ℕ) → Decides (f m) ((k : ℕ) → k < m → test k ≡ true)
decides_each f test none more = Decides-below_and test (λ k. test k ≡ true) f (λ k. (λ h. h, λ h. h)) none (λ k. more k ∙ swapped (f k) (test k))
  where
    swapped : (a b : Bool) → (elim a [ true ↦ b | false ↦ false ]) ≡ (b && a)
    swapped true true = refl
    swapped true false = refl
    swapped false true = refl
    swapped false false = refl

module _ (l : List ℕ) (n : ℕ) (r : Records l n) where
  pub count_length : record_count l n * (n + 4) ≡ length l
  unfolding record_count
  count_length = let e : length l / (n + 4) * (n + 4) + length l % (n + 4) ≡ length l = div-add-mod' (length l) (n + 4) in let w : length l % (n + 4) ≡ 0 = r.whole in omega arith

  -- a list has a first record
  pub count_positive : 0 < record_count l n
  count_positive = lt_of_mul-lt-mul_right (n + 4) (let z : 0 * (n + 4) ≡ 0 = zero-mul (n + 4) in let c = count_length in let w = r.some in omega arith)

  pub record_fits : (k : ℕ) → k < record_count l n → k * (n + 4) + (n + 4) ≤ length l
  record_fits k h =
      let e : suc k * (n + 4) ≡ k * (n + 4) + (n + 4) = suc-mul k (n + 4) in
      let c = count_length in
      let w : suc k * (n + 4) ≤ record_count l n * (n + 4) = mul-le-mul_right (n + 4) h in
      omega arith

  pub first_fits : n + 4 ≤ length l
  first_fits = let z : 0 * (n + 4) ≡ 0 = zero-mul (n + 4) in let f = record_fits 0 count_positive in omega arith
