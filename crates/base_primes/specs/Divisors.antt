-- What division shows of q: an odd number from 3 up and below 4,096 is prime where no odd number from 3 up to its
-- root divides it. The order in which `odd_prime` tries divisors plays no part here.
use Rattle.std.specs.Prelude.{ℕ, ◌+◌, ◌*◌, ◌%◌, ◌≤◌, ◌<◌, ◌≡◌, true, false}
use Rattle.std.proofs.Math.Nat.{dvd_trans, dvd_of_mod-eq-zero, mod-eq-zero_of_dvd}
use Rattle.std.proofs.Common.{mul-le-mul, mul-le-mul_right, eq-or-lt_of_le, arith, sym, subst, ⊎_elim}
use Rattle.math_ring.specs.Order.{le_or_lt}
use Rattle.spec_arithmetic.specs.Primes.{odd_prime}
use Rattle.spec_bridge.specs.Prime.{prime_up_to_root, prime_odd_prime, not_odd_prime}

-- nothing from 2 up and below d divides q
abbrev pub UndividedBelow : ℕ → ℕ → Type 0
UndividedBelow q d = (e : ℕ) → 2 ≤ e → e < d → q % e ≡ 0 → ⊥

even_divisor : (q e : ℕ) → e % 2 ≡ 0 → q % e ≡ 0 → q % 2 ≡ 0
even_divisor q e even z = mod-eq-zero_of_dvd 2 (dvd_trans 2 (dvd_of_mod-eq-zero 2 even) (dvd_of_mod-eq-zero e z))

pub undivided_below_three : (q : ℕ) → (q % 2 ≡ 0 → ⊥) → UndividedBelow q 3
undivided_below_three q odd e two low z = odd (subst (λ (k : ℕ). q % k ≡ 0) (let w : e ≡ 2 = omega arith in w) z)

-- After an odd d the next number to try is d + 2: d + 1 is even.
pub undivided_below_next : (q d : ℕ) → (q % 2 ≡ 0 → ⊥) → d % 2 ≡ 1 → (q % d ≡ 0 → ⊥) →
    UndividedBelow q d → UndividedBelow q (d + 2)
undivided_below_next q d odd one not none e two low z = ⊎_elim from (λ below. none e two below z) (le_or_lt d e)
  where
    from : d ≤ e → ⊥
    from h =
        ⊎_elim (λ s. not (subst (λ (k : ℕ). q % k ≡ 0) (sym s) z)) (λ above. odd (even_divisor q e (omega arith) z))
        (eq-or-lt_of_le h)

-- An odd q from 3 up, below 4,096 and below the square of d, is an odd prime where nothing from 2 up and below d
-- divides it.
pub undivided_odd_prime : (q d : ℕ) → 2 < q → q < 4096 → (q % 2 ≡ 0 → ⊥) → q < d * d →
    UndividedBelow q d → odd_prime q ≡ true
undivided_odd_prime q d more small odd square none =
    let prime = prime_up_to_root q (omega arith) (λ e two sq. none e two (less e sq)) in
    prime_odd_prime q (record { prime = prime; odd = omega arith; small = small })
  where
    less : (e : ℕ) → e * e ≤ q → e < d
    less e sq = ⊎_elim (λ big. absurd (let w : d * d ≤ e * e = mul-le-mul big big in omega arith)) (λ l. l) (le_or_lt d e)

pub divided_not_odd_prime : (q d : ℕ) → 2 ≤ d → d * d ≤ q → q % d ≡ 0 → odd_prime q ≡ false
divided_not_odd_prime q d two square z =
    let w : 2 * d ≤ d * d = mul-le-mul_right d two in
    not_odd_prime q (λ r. r.prime.none d two (omega arith) z)
