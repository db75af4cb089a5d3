-- The proofs of specs/Numbers.
use Rattle.std.specs.Prelude.{ℕ, zero, suc, ◌<◌, ◌≡◌, refl, ◌↔◌, Bool, true, length}
use Rattle.std.proofs.Math.Decide.{ℕ_discrete}
use Rattle.std.proofs.Common.{arith, ap, ⊎_elim}
use mathlib.Core.List.Memᴰ
use mathlib.Core.List.{Nodup-nil}
use Rattle.math_counting.specs.Pigeonhole.{In, Distinct}
use Rattle.math_counting.proofs.Pigeonhole.{distinct_cons}
use Rattle.math_counting.specs.Count.{count}
use Rattle.math_counting.specs.HowMany.{HowMany}
use Rattle.math_counting.proofs.HowMany.{how_many_tested}
use Rattle.math_counting.specs.Numbers.{numbers}

pub length_numbers : (n : ℕ) → length (numbers n) ≡ n
unfolding numbers
length_numbers zero = refl
length_numbers (suc n) = ap suc (length_numbers n)

pub in_numbers : (n i : ℕ) → i < n → In i (numbers n)
unfolding numbers
in_numbers zero i h = absurd (omega arith)
in_numbers (suc n) i h = elim (ℕ_discrete i n) [ yes e ↦ Memᴰ.head e | no k ↦ Memᴰ.tail (in_numbers n i (omega arith)) ]

pub numbers_in : (n i : ℕ) → In i (numbers n) → i < n
unfolding numbers
numbers_in zero i m = absurd (Memᴰ.not-nil m)
numbers_in (suc n) i m = ⊎_elim (λ e. omega arith) (λ k. let h = numbers_in n i k in omega arith) (Memᴰ.cases_cons m)

pub distinct_numbers : (n : ℕ) → Distinct (numbers n)
unfolding numbers
distinct_numbers zero = Nodup-nil
distinct_numbers (suc n) = distinct_cons (λ m. let h = numbers_in n n m in omega arith) (distinct_numbers n)

-- ---- how many there are
numbers_many : (n : ℕ) → HowMany (λ i. i < n) n
numbers_many n = record { all = numbers n; distinct = distinct_numbers n; members = λ i. (numbers_in n i, in_numbers n i); number = length_numbers n }

-- .. and how many pass a test that is true exactly where P holds
pub numbers_tested : (P : ℕ → Type 0) (n : ℕ) (p : ℕ → Bool) → ((i : ℕ) → i < n → (p i ≡ true) ↔ P i) → HowMany (λ i. (i < n) × P i) (count p (numbers n))
unfolding numbers_many
numbers_tested P n p t = how_many_tested (λ i. i < n) P n (numbers_many n) p t
