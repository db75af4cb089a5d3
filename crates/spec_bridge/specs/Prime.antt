-- `odd_prime q` is true exactly for the odd primes below 4,096: of two factors of q one has a square of at
-- most q, so that a number with no divisor up to 63 is prime.
use Rattle.std.specs.Prelude.{ℕ, zero, suc, ◌+◌, ◌*◌, ◌/◌, ◌%◌, ◌≤◌, ◌<◌, ◌≡◌, refl, ◌⊎◌, Bool, true, false, ◌&&◌, ltb, eqb}
use Rattle.std.proofs.Common.{mod-lt, mul-le-mul, mul-le-mul_left, mul-le-mul_right, eq-or-lt_of_le, mul_comm, mod-eq_of_lt, arith, sym, ap, ◌∙◌, subst, inl, inr, ⊎_elim, ltb-true, ltb-false, eqb-true, lt-ltb}
use Rattle.std.proofs.Math.Nat.{div-add-mod, mul-mod_right, mod-zero}
use Rattle.std.proofs.lemmas.Bool.{false≢true, eqb-false}
use Rattle.math_ring.specs.Order.{le_or_lt}
pub use Rattle.math_algebra.specs.Prime.{Prime}
use Rattle.spec_arithmetic.specs.Primes.{no_divisor, odd_prime}

-- what a field is asked for
pub record OddPrime (q : ℕ) : Type 0 where
  pub prime : Prime q
  pub odd : q % 2 ≡ 1
  pub small : q < 4096

-- ---- a prime has no divisor but 1 and itself
pub prime_divisor : (q : ℕ) → Prime q → (d : ℕ) → q % d ≡ 0 → (d ≡ 1) ⊎ (d ≡ q)
prime_divisor q p zero e = absurd (let h = p.two in let k : q ≡ 0 = sym (mod-zero q) ∙ e in omega arith)
prime_divisor q p (suc d) e = ⊎_elim (λ big. past big) (λ low. inl (⊎_elim (λ two. absurd (p.none (suc d) two low e)) (λ one. omega arith) (le_or_lt 2 (suc d)))) (le_or_lt q (suc d))
  where
    past : q ≤ suc d → (suc d ≡ 1) ⊎ (suc d ≡ q)
    past h = ⊎_elim (λ w. inr (sym w)) (λ w. absurd (let k = p.two in let z : q ≡ 0 = sym (mod-eq_of_lt w) ∙ e in omega arith)) (eq-or-lt_of_le h)

pub prime_of_divisors : (q : ℕ) → 2 ≤ q → ((d : ℕ) → q % d ≡ 0 → (d ≡ 1) ⊎ (d ≡ q)) → Prime q
prime_of_divisors q h only = record { two = h; none = λ d two low e. ⊎_elim (λ w. omega arith) (λ w. omega arith) (only d e) }

-- ---- the test by division
no_divisor_true : (k d q : ℕ) → no_divisor k d q ≡ true → (e : ℕ) → d ≤ e → e < d + k → e * e ≤ q → q % e ≡ 0 → ⊥
unfolding no_divisor
no_divisor_true zero d q t e low high sq z = omega arith
no_divisor_true (suc k) d q t e low high sq z = go (ltb q (d * d)) refl (eqb (q % d) 0) refl t (no_divisor_true k (suc d) q)
  where
    go : (b : Bool) → ltb q (d * d) ≡ b → (c : Bool) → eqb (q % d) 0 ≡ c → (elim b [ true ↦ true | false ↦ elim c [ true ↦ false | false ↦ no_divisor k (suc d) q ] ]) ≡ true
        → (no_divisor k (suc d) q ≡ true → (e : ℕ) → suc d ≤ e → e < suc d + k → e * e ≤ q → q % e ≡ 0 → ⊥) → ⊥
    go true u c v t rest = let w : q < d * d = ltb-true q (d * d) u in let m : d * d ≤ e * e = mul-le-mul low low in omega arith
    go false u true v t rest = absurd (false≢true t)
    go false u false v t rest = ⊎_elim (λ (w : d ≡ e). eqb-false (q % d) 0 v (ap (λ n. q % n) w ∙ z)) (λ (w : d < e). rest t e w (omega arith) sq z) (eq-or-lt_of_le low)

no_divisor_prime : (q : ℕ) → Prime q → (k d : ℕ) → 2 ≤ d → no_divisor k d q ≡ true
unfolding no_divisor
no_divisor_prime q p zero d h = refl
no_divisor_prime q p (suc k) d h = go (ltb q (d * d)) refl (eqb (q % d) 0) refl (no_divisor_prime q p k (suc d) (omega arith))
  where
    go : (b : Bool) → ltb q (d * d) ≡ b → (c : Bool) → eqb (q % d) 0 ≡ c → no_divisor k (suc d) q ≡ true → (elim b [ true ↦ true | false ↦ elim c [ true ↦ false | false ↦ no_divisor k (suc d) q ] ]) ≡ true
    go true u c v rest = refl
    go false u true v rest = absurd (p.none d h (let w : d * d ≤ q = ltb-false q (d * d) u in let m : 2 * d ≤ d * d = mul-le-mul_right d h in omega arith) (eqb-true (q % d) 0 v))
    go false u false v rest = rest

-- no divisor from 2 on whose square is at most q: then none below q
pub prime_up_to_root : (q : ℕ) → 2 ≤ q → ((e : ℕ) → 2 ≤ e → e * e ≤ q → q % e ≡ 0 → ⊥) → Prime q
prime_up_to_root q two free = record { two = two; none = none }
  where
    none : (d : ℕ) → 2 ≤ d → d < q → q % d ≡ 0 → ⊥
    none d h low z =
        let c : ℕ = q / d in
        let whole : d * c ≡ q = (let w : d * c + q % d ≡ q = div-add-mod q d in omega arith) in
        ⊎_elim (λ sq. free d h sq z) (λ big. other c whole (⊎_elim (λ e. absurd (let w : d * d ≤ d * c = mul-le-mul_left d e in omega arith)) (λ l. l) (le_or_lt d c))) (le_or_lt (d * d) q)
      where
        other : (c : ℕ) → d * c ≡ q → c < d → ⊥
        other c whole less =
            let more : 2 ≤ c = ⊎_elim (λ l. l) (λ l. absurd (let w : d * c ≤ d * 1 = mul-le-mul_left d (omega arith) in omega arith)) (le_or_lt 2 c) in
            let sq : c * c ≤ d * c = mul-le-mul_right c (omega arith) in
            free c more (omega arith) (subst (λ (m : ℕ). m % c ≡ 0) (mul_comm c d ∙ whole) (mul-mod_right c d))

-- ---- the rule
pub odd_prime_true : (q : ℕ) → odd_prime q ≡ true → OddPrime q
unfolding odd_prime
odd_prime_true q t = go (ltb q 4096) refl (ltb 2 q) refl t
  where
    go : (b : Bool) → ltb q 4096 ≡ b → (c : Bool) → ltb 2 q ≡ c → (elim b [ true ↦ c && no_divisor 62 2 q | false ↦ false ]) ≡ true → OddPrime q
    go true u true v t = record { prime = prime; odd = odd; small = ltb-true q 4096 u }
      where
        prime : Prime q
        prime = prime_up_to_root q (let w : 2 < q = ltb-true 2 q v in omega arith) (λ e h sq z. no_divisor_true 62 2 q t e h (⊎_elim (λ big. absurd (let w : 64 * 64 ≤ e * e = mul-le-mul big big in let s : q < 4096 = ltb-true q 4096 u in omega arith)) (λ l. l) (le_or_lt 64 e)) sq z)

        odd : q % 2 ≡ 1
        odd = let low : q % 2 < 2 = mod-lt q (omega arith) in let not : q % 2 ≡ 0 → ⊥ = prime.none 2 (omega arith) (ltb-true 2 q v) in ⊎_elim (λ h. omega arith) (λ h. absurd (not (omega arith))) (le_or_lt 1 (q % 2))
    go true u false v t = absurd (false≢true t)
    go false u c v t = absurd (false≢true t)

pub not_odd_prime : (q : ℕ) → (OddPrime q → ⊥) → odd_prime q ≡ false
not_odd_prime q none = go (odd_prime q) refl
  where
    go : (b : Bool) → odd_prime q ≡ b → odd_prime q ≡ false
    go true e = absurd (none (odd_prime_true q e))
    go false e = e

pub odd_prime_more : (q : ℕ) → OddPrime q → 2 < q
odd_prime_more q r = ⊎_elim (λ (e : 2 ≡ q). absurd (let z : ◌≡◌ {A = ℕ} 0 1 = ap (λ n. n % 2) e ∙ r.odd in omega arith)) (λ h. h) (eq-or-lt_of_le r.prime.two)

pub prime_odd_prime : (q : ℕ) → OddPrime q → odd_prime q ≡ true
unfolding odd_prime
prime_odd_prime q r = ap (λ (b : Bool). elim b [ true ↦ ltb 2 q && no_divisor 62 2 q | false ↦ false ]) (lt-ltb q 4096 r.small) ∙ ap (λ (b : Bool). b && no_divisor 62 2 q) (lt-ltb 2 q (odd_prime_more q r)) ∙ no_divisor_prime q r.prime 62 2 (omega arith)
