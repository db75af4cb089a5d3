-- The kinds of the words of a ticket with k primes, place by place: n, n + 1 coefficients, the budget, the
-- primes, the end.
use Prim.Native.Nat.{ℕ, zero, suc, ◌+◌, ◌-◌, ◌≤◌, ◌<◌}
use native.Mathlib.Omega.{arith}
use Rattle.std.specs.Prelude.{◌≡◌, List, [], ◌∷◌, ◌++◌, length, replicate}
use Rattle.std.proofs.Math.Path.{refl, ap}
use Rattle.std.proofs.Common.{◌∙◌, length-append}
use Rattle.std.proofs.Math.ListN.{get_or, length-replicate, get_or-replicate, get_or-append}
use Rattle.std.proofs.Math.Seq.{get_or-append-add}
use Rattle.std.proofs.lemmas.List.{get_or_at}
use Rattle.spec_several.specs.Several.{several_kinds}

module _ (n k : ℕ) where
  abbrev ending : List ℕ
  ending = 4 ∷ replicate k 1 ++ (15 ∷ [])

  pub kinds_length : length (several_kinds n k) ≡ n + 4 + k
  unfolding several_kinds
  kinds_length = simp (length-append, length-replicate) (omega arith)

  pub kinds_first : get_or (several_kinds n k) 0 0 ≡ 2
  unfolding several_kinds
  kinds_first = refl

  pub kinds_coefficient : (i : ℕ) → 1 ≤ i → i ≤ n + 1 → get_or (several_kinds n k) i 0 ≡ 12
  unfolding several_kinds
  kinds_coefficient zero low high = absurd (omega arith)
  kinds_coefficient (suc i) low high =
      get_or-append (replicate (n + 1) 12) ending 0 i (simp length-replicate (omega arith))
      ∙ get_or-replicate (n + 1) i 12 0 (omega arith)

  kinds_after : (i j : ℕ) → i ≡ n + 2 + j → get_or (several_kinds n k) i 0 ≡ get_or ending j 0
  unfolding several_kinds
  kinds_after i j e =
      let l = length-replicate {A = ℕ} (n + 1) 12 in
      let f : i ≡ suc (length (replicate {A = ℕ} (n + 1) 12) + j) = omega arith in
      ap (λ (m : ℕ). get_or (several_kinds n k) m 0) f ∙ get_or-append-add (replicate (n + 1) 12) ending j 0

  pub kinds_budget : (i : ℕ) → i ≡ n + 2 → get_or (several_kinds n k) i 0 ≡ 4
  kinds_budget i e = kinds_after i 0 (omega arith)

  pub kinds_prime : (i : ℕ) → n + 3 ≤ i → i < n + 3 + k → get_or (several_kinds n k) i 0 ≡ 1
  kinds_prime i low high =
      kinds_after i (suc (i - (n + 3))) (omega arith)
      ∙ get_or-append (replicate k 1) (15 ∷ []) 0 (i - (n + 3)) (simp length-replicate (omega arith))
      ∙ get_or-replicate k (i - (n + 3)) 1 0 (omega arith)

  pub kinds_end : (i : ℕ) → i ≡ n + 3 + k → get_or (several_kinds n k) i 0 ≡ 15
  kinds_end i e = kinds_after i (suc k) (omega arith) ∙ get_or_at (replicate k 1) 15 [] 0 k (length-replicate k 1)
