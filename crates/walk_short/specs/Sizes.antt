-- Sizes in one step: b has size n, the quotient at most m + 1 − n coefficients, the next r fewer than n. All
-- coefficients are below q.
use Rattle.std.specs.Prelude.{ℕ, ◌+◌, ◌-◌, ◌<◌, ◌≤◌, ◌≡◌, List, length, get_or}
use native.Mathlib.Omega.{arith}
use Rattle.std.proofs.Common.{sym, ap, ◌∙◌, subst, ⊎_elim}
use Rattle.std.proofs.Math.ListN.{get_or-eq_default}
use Rattle.math_ring.specs.Order.{le_or_lt}
use Rattle.spec_arithmetic.specs.Field.{prime, modulo}
use Rattle.spec_arithmetic.specs.Polynomials.{trim, sub}
use Rattle.spec_bridge.specs.Prime.{Prime}
use Rattle.spec_bridge.specs.Trim.{trim_le, trim_past}
use Rattle.spec_bridge.specs.Arithmetic.{trim_sub}
use Rattle.spec_bridge.specs.Lengths.{length_sub}
use Rattle.spec_bridge.specs.Division.{oks_quo, oks_rem, rem_less}
use Rattle.spec_bridge.specs.Residues.{model, inverts}
use Rattle.base_places.specs.Places.{Places, Within}
use Rattle.base_places.specs.Down.{Down}
use Rattle.base_places.specs.Quotient as quotients
use Rattle.walk_short.specs.Step.{step_quo, next_rem, Division}

-- the coefficient before n is the leading one
size_top : (q : ℕ) → 0 < q → (b : List ℕ) (n : ℕ) → Within (prime q) b n → (get_or b (n - 1) 0 ≡ 0 → ⊥) → length (trim (modulo q) b) ≡ n
size_top q pos b n w t =
    let low : length (trim (modulo q) b) ≤ n = trim_le (model q pos) b n w.past in
    ⊎_elim (λ (h : n ≤ length (trim (modulo q) b)). (omega arith)) (λ (h : length (trim (modulo q) b) < n). absurd (t (trim_past (model q pos) b w.reduced (n - 1) (omega arith)))) (le_or_lt n (length (trim (modulo q) b)))

module _ {q m n : ℕ} {s b r : List ℕ} (p : Prime q) (d : Division (prime q) m n s b r) where
  pub positive : 0 < q
  positive = let h = p.two in omega arith

  -- b is not 0
  pub some : 0 < n
  some = ⊎_elim (λ h. h) (λ h. absurd (d.lead_some (d.current_within.past (n - 1) (omega arith)))) (le_or_lt 1 n)

  pub size_b : length (trim (modulo q) b) ≡ n
  size_b = size_top q positive b n d.current_within d.lead_some

  pub dividend_length : length (trim (modulo q) (sub (modulo q) s r)) ≤ m
  dividend_length =
      let l : length (sub (modulo q) s r) ≤ m = length_sub (model q positive) s r m (trim_le (model q positive) s m d.twice_within.past) (trim_le (model q positive) r m d.rest_within.past) in
      let e : length (trim (modulo q) (sub (modulo q) s r)) ≡ length (sub (modulo q) s r) = ap length (trim_sub (model q positive) s r) in
      omega arith

  pub rem_short : length (next_rem (prime q) s b r) < n
  unfolding next_rem
  rem_short =
      let e = size_b in
      let h = some in
      let l = rem_less (model q positive) (inverts q positive p) (sub (modulo q) s r) b (omega arith) in
      omega arith

  pub quo_past : (i : ℕ) → m + 1 - n ≤ i → get_or (step_quo (prime q) s b r) i 0 ≡ 0
  unfolding step_quo
  quo_past = quotients.quo_past q positive (sub (modulo q) s r) b dividend_length size_b

  pub rem_past : (i : ℕ) → n - 1 ≤ i → get_or (next_rem (prime q) s b r) i 0 ≡ 0
  rem_past i h = get_or-eq_default (next_rem (prime q) s b r) 0 {n = i} (let l = rem_short in omega arith)

  pub quo_reduced : (i : ℕ) → get_or (step_quo (prime q) s b r) i 0 < q
  unfolding step_quo
  quo_reduced i = oks_quo (model q positive) (sub (modulo q) s r) b i

  pub rem_reduced : (i : ℕ) → get_or (next_rem (prime q) s b r) i 0 < q
  unfolding next_rem
  rem_reduced i = oks_rem (model q positive) (sub (modulo q) s r) b i

  -- arrays that hold them: the quotient so far, the quotient, the remainder
  pub quo_within_down : (z : List ℕ) (k : ℕ) → k ≤ m + 1 - n → Down z (λ i. get_or (step_quo (prime q) s b r) i 0) k → Within (prime q) z (m + 1 - n)
  unfolding step_quo
  quo_within_down = quotients.quo_within_down q positive (sub (modulo q) s r) b dividend_length size_b

  pub quo_within : {a : List ℕ} → Places a (λ i. get_or (step_quo (prime q) s b r) i 0) → Within (prime q) a (m + 1 - n)
  unfolding step_quo
  quo_within {a} = quotients.quo_within q positive (sub (modulo q) s r) b dividend_length size_b a

  pub rem_within : n ≤ m → {z : List ℕ} → Places z (λ i. get_or (next_rem (prime q) s b r) i 0) → Within (prime q) z m
  rem_within le h = record { reduced = λ i. subst (λ (x : ℕ). x < q) (sym (h.at i)) (rem_reduced i); past = λ i l. h.at i ∙ rem_past i (omega arith) }
