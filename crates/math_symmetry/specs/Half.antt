-- The theorem a reader opens: half the walk tells the quasi-period m and the regulator R. It looks for the
-- middle: the first i at which Q_{i+1} is a constant times Q_i, which gives m = 2i + 1 and R = 2 deg p_i - (g
-- + 1), or else P_{i+1} = P_{i+2}, which gives m = 2i + 2 and R = 2 deg p_i - deg Q_{i+1}: `half`. The middle
-- is below b exactly if m ≤ 2b, and exactly if some solution of X² - D Y² = c has a degree of at most deg
-- p_{2b-1}: `budget`. Carried by `Reflect`: each test says that the states before i and after it are the
-- same, up to constants. distance (i + 1) is the degree of the convergent p of index i, and R is distance m.
use Rattle.std.specs.Prelude.{ℕ, suc, ◌+◌ as ◌+ₙ◌, ◌-◌ as ◌-ₙ◌, ◌≤◌, ◌<◌, ◌≡◌, ◌⊎◌}
use Rattle.math_ring.specs.Series.{Series}
use Rattle.math_algebra.specs.Field.{Field}
use Rattle.math_algebra.specs.Polynomial.{F, Px, Deg}
use Rattle.math_algebra.specs.Associate.{Associate}
use Rattle.math_surd.specs.Root.{Root}
use Rattle.math_surd.specs.Walk.{Walk}
use Rattle.math_surd.specs.Distance.{distance, height}
use Rattle.math_surd.specs.QuasiPeriod.{QuasiPeriod, NoneConstant}
use Rattle.math_surd.specs.LeastDegree.{Solution}

module _ {A : Type 0} (K : Field A) where
  open Series (F K) use {add as ◌+◌, mul as ◌*◌, neg as -◌, one as 𝟙}

  infixl 6 ◌+◌
  infixl 7 ◌*◌
  infix 8 -◌
  abbrev P[x] : Type 0
  P[x] = Px K

  module _ {g : ℕ} {D : P[x]} {o : Root K g D} (w : Walk K o) where
    open w use {Q, P, κ, Q_deg, reduced}

    -- ---- the two tests
    abbrev pub MiddleQ : ℕ → Type 0
    MiddleQ i = Associate K (Q (suc i)) (Q i)

    abbrev pub MiddleP : ℕ → Type 0
    MiddleP i = P (suc i) ≡ P (suc (suc i))

    -- neither holds before b
    pub record NoMiddle (b : ℕ) : Type 0 where
      pub no_Q : (i : ℕ) → i < b → MiddleQ i → ⊥
      pub no_P : (i : ℕ) → i < b → MiddleP i → ⊥

    -- i is the first at which a test holds, with m by the test that does, Q before P
    pub record FirstMiddle (i m : ℕ) : Type 0 where
      pub before : NoMiddle i
      pub here : (MiddleQ i × (m ≡ suc (i +ₙ i))) ⊎ ((MiddleQ i → ⊥) × MiddleP i × (m ≡ suc (suc (i +ₙ i))))

    -- The test of Q holds at i exactly if Q_{2i+1} is constant, and that of P exactly if Q_{2i+2} is. At the
    -- first i with one of them m is the quasi-period, and the quasi-period has such an i. R + (g + 1) = 2 deg
    -- p_i where the test of Q holds, R + deg Q_{i+1} = 2 deg p_i where that of P does. Both hold at one i
    -- only where m = 1: the order of the tests matters there only
    pub record Half : Type 0 where
      pub Q_constant : (i : ℕ) → MiddleQ i → κ (suc (i +ₙ i)) ≡ 0
      pub Q_middle : (i : ℕ) → κ (suc (i +ₙ i)) ≡ 0 → MiddleQ i
      pub P_constant : (i : ℕ) → MiddleP i → κ (suc (suc (i +ₙ i))) ≡ 0
      pub P_middle : (i : ℕ) → κ (suc (suc (i +ₙ i))) ≡ 0 → MiddleP i
      pub period : (i m : ℕ) → FirstMiddle i m → QuasiPeriod K w m
      pub middle : (m : ℕ) → QuasiPeriod K w m → (i : ℕ) × FirstMiddle i m
      pub regulator_Q : (i : ℕ) → MiddleQ i → distance K w (suc (i +ₙ i)) +ₙ suc g ≡ distance K w (suc i) +ₙ distance K w (suc i)
      pub regulator_P : (i : ℕ) → MiddleP i → distance K w (suc (suc (i +ₙ i))) +ₙ κ (suc i) ≡ distance K w (suc i) +ₙ distance K w (suc i)
      pub both : (i : ℕ) → MiddleQ i → MiddleP i → QuasiPeriod K w 1

    -- R by the degrees of the partial quotients, where height i is deg a_1 + .. + deg a_i: twice the sum up
    -- to a_i and g + 1 where the test of Q holds, twice the sum up to a_{i+1} and deg Q_{i+1} where that of P
    -- does. And by p_{i-1}: 2 deg p_{i-1} - deg Q_i + deg a_{i+1} where the test of Q holds
    pub record Duplication : Type 0 where
      pub sum_Q : (i : ℕ) → MiddleQ i → distance K w (suc (i +ₙ i)) ≡ height K w i +ₙ height K w i +ₙ suc g
      pub sum_P : (i : ℕ) → MiddleP i → distance K w (suc (suc (i +ₙ i))) ≡ height K w (suc i) +ₙ height K w (suc i) +ₙ κ (suc i)
      pub prior_Q : (i : ℕ) → MiddleQ i → distance K w (suc (i +ₙ i)) +ₙ κ i ≡ distance K w i +ₙ distance K w i +ₙ (suc g -ₙ κ (suc i))

    -- a test holds at some i below b, and m is by the first
    abbrev pub Found : ℕ → Type 0
    Found b = (i m : ℕ) × (i < b) × FirstMiddle i m

    -- the quasi-period is at most 2b
    abbrev pub Within : ℕ → Type 0
    Within b = (m : ℕ) × (m ≤ b +ₙ b) × QuasiPeriod K w m

    -- a solution has a degree of at most deg p_{2b-1}
    abbrev pub Solvable : ℕ → Type 0
    Solvable b = (X Y : P[x]) × (n : ℕ) × Solution K D X Y × Deg K X n × (n ≤ distance K w (b +ₙ b))

    -- With the budget b: a test holds below b exactly if m ≤ 2b, and exactly if a solution has a degree of at
    -- most deg p_{2b-1}. Else no test holds below b, which is so exactly if no Q_1 .. Q_{2b} is constant, and
    -- every solution has a larger degree
    pub record Budget (b : ℕ) : Type 0 where
      pub found_within : Found b → Within b
      pub within_found : Within b → Found b
      pub found_solvable : Found b → Solvable b
      pub solvable_found : Solvable b → Found b
      pub decided : Found b ⊎ NoMiddle b
      pub none_constant : NoMiddle b → NoneConstant K w (b +ₙ b)
      pub none_middle : NoneConstant K w (b +ₙ b) → NoMiddle b
      pub none_solves : NoMiddle b → {X Y : P[x]} → Solution K D X Y → (n : ℕ) × Deg K X n × (distance K w (b +ₙ b) < n)
