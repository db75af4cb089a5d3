-- The proofs of specs/Repeats.
use Rattle.std.specs.Prelude.{ℕ, zero, suc, ◌≤◌, ◌<◌, ◌≡◌, refl, ◌≢◌, ◌⊎◌}
use Rattle.std.proofs.Math.Decide.{ℕ_discrete}
use Rattle.std.proofs.Common.{arith, sym, ap, ◌∙◌, inl, inr, ⊎_elim}
use Rattle.math_ring.specs.Order.{le_or_lt}
use Rattle.math_counting.specs.Pigeonhole.{In, Injection}
use Rattle.math_counting.proofs.Pigeonhole.{pigeonhole}
use Rattle.math_counting.specs.Numbers.{numbers}
use Rattle.math_counting.proofs.Numbers.{length_numbers, in_numbers, numbers_in, distinct_numbers}
use Rattle.math_counting.specs.Repeats.{Repeats, RepeatedValue}

-- ---- the proof
module _ (f : ℕ → ℕ) where
  -- an index below k whose value is v, or none
  search_value : (v k : ℕ) → ((i : ℕ) × (i < k) × (f i ≡ v)) ⊎ ((i : ℕ) → i < k → f i ≢ v)
  search_value v zero = inr (λ i l e. omega arith)
  search_value v (suc k) = elim (ℕ_discrete (f k) v) [ yes e ↦ inl (k, omega arith, e) | no h ↦ ⊎_elim (λ s. inl (s.0, (let l = s.1 in omega arith), s.2)) (λ never. inr (later never h)) (search_value v k) ]
    where
      later : ((i : ℕ) → i < k → f i ≢ v) → f k ≢ v → (i : ℕ) → i < suc k → f i ≢ v
      later never h i l e = elim (ℕ_discrete i k) [ yes w ↦ h (ap f (sym w) ∙ e) | no w ↦ never i (omega arith) e ]

  -- the values of the indices 0 to n differ
  abbrev Different : ℕ → Type 0
  Different n = (i j : ℕ) → i < j → j ≤ n → f i ≢ f j

  -- the values of the indices 0 to n repeat, or they differ
  search_repeat : (n : ℕ) → Repeats f n ⊎ Different n
  search_repeat zero = inr (λ i j h l e. omega arith)
  search_repeat (suc n) = ⊎_elim (λ s. inl (record { first = s.0; second = suc n; rises = s.1; within = omega arith; same = s.2 })) (λ never. ⊎_elim (λ r. inl (record { first = r.first; second = r.second; rises = r.rises; within = (let l = r.within in omega arith); same = r.same })) (λ differ. inr (later never differ)) (search_repeat n)) (search_value (f (suc n)) (suc n))
    where
      later : ((i : ℕ) → i < suc n → f i ≢ f (suc n)) → Different n → Different (suc n)
      later never differ i j h l e = elim (ℕ_discrete j (suc n)) [ yes w ↦ never i (omega arith) (e ∙ ap f w) | no w ↦ differ i j h (omega arith) e ]

  -- values that differ are partners
  different_injection : (n : ℕ) → ((i : ℕ) → i ≤ n → f i < n) → Different n → Injection (λ i v. f i ≡ v) (λ i. In i (numbers (suc n))) (λ v. In v (numbers n))
  different_injection n low differ = record {
    partner = λ i m. (f i, in_numbers n (f i) (low i (let h = numbers_in (suc n) i m in omega arith)), refl);
    single = λ i j v m k _ e w. one i j (numbers_in (suc n) i m) (numbers_in (suc n) j k) (e ∙ sym w);
  }
    where
      one : (i j : ℕ) → i < suc n → j < suc n → f i ≡ f j → i ≡ j
      one i j h k e = ⊎_elim (λ l. ⊎_elim (λ r. omega arith) (λ r. absurd (differ j i r (omega arith) (sym e))) (le_or_lt i j)) (λ l. absurd (differ i j l (omega arith) e)) (le_or_lt j i)

pub repeated_value : RepeatedValue
repeated_value n f low = ⊎_elim (λ r. r) (λ differ. absurd (omega (arith, length_numbers n, length_numbers (suc n), pigeonhole _ (numbers (suc n)) (numbers n) (distinct_numbers (suc n)) (different_injection f n (λ i h. let l = low i h in omega arith) differ)))) (search_repeat f n)
