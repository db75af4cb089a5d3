-- One step of the walk on arrays of 129 places, zeros above the degree: what it starts from and what it
-- gives.
-- With twice = 2d and rest the remainder of the step before, twice − rest is P + d; Q stands in `current`.
use Rattle.std.specs.Prelude.{◌≡◌, List, ℕ, ◌-◌, ◌<◌, ◌≤◌, length, get_or}
use Rattle.std.proofs.Common.{arith}
use Rattle.std.proofs.Math.ListN.{get_or-eq_default}
use Rattle.spec_arithmetic.specs.Field.{FieldName, ops}
use Rattle.spec_arithmetic.specs.Polynomials.{add, sub, mul, quo, rem, pad}
use Rattle.base_places.specs.Places.{Places, Within}

module _ (f : FieldName) where
  -- the quotient a of P + d by Q
  unfoldable pub step_quo : List ℕ → List ℕ → List ℕ → List ℕ
  step_quo twice current rest = quo (ops f) (sub (ops f) twice rest) current

  -- it starts with a0 + a1·x + a2·x²
  abbrev pub Quadratic : List ℕ → List ℕ → List ℕ → ℕ → ℕ → ℕ → Type 0
  Quadratic twice current rest a0 a1 a2 = (a0 ≡ get_or (step_quo twice current rest) 0 0) × (a1 ≡ get_or (step_quo twice current rest) 1 0) × (a2 ≡ get_or (step_quo twice current rest) 2 0)

  -- its remainder, the next one
  unfoldable pub next_rem : List ℕ → List ℕ → List ℕ → List ℕ
  next_rem twice current rest = rem (ops f) (sub (ops f) twice rest) current

  -- the next Q is the Q before and a·(next remainder − remainder)
  unfoldable pub next_q : List ℕ → List ℕ → List ℕ → List ℕ → List ℕ
  next_q twice before current rest = add (ops f) before (mul (ops f) (step_quo twice current rest) (sub (ops f) (next_rem twice current rest) rest))

  -- the table of inverses
  abbrev pub Inverses : List ℕ → Type 0
  Inverses table = (a : ℕ) → a < f.q → get_or table a 0 ≡ (ops f).inv a

  -- twice − rest, of at most top coefficients, by Q of size, the coefficient before it not 0
  pub record Division (top size : ℕ) (twice current rest : List ℕ) : Type 0 where
    pub twice_within : Within f twice top
    pub rest_within : Within f rest top
    pub current_within : Within f current size
    pub lead_some : get_or current (size - 1) 0 ≡ 0 → ⊥

  -- the same, with the Q before, and a next Q of at most top coefficients
  pub record Ready (top size : ℕ) (twice before current rest : List ℕ) : Type 0 where
    pub twice_within : Within f twice top
    pub rest_within : Within f rest top
    pub current_within : Within f current size
    pub lead_some : get_or current (size - 1) 0 ≡ 0 → ⊥
    pub before_reduced : (i : ℕ) → get_or before i 0 < f.q
    pub short : length (next_q twice before current rest) ≤ top

  -- the next remainder and the next Q, place by place
  pub record Moved (twice before current rest remains after : List ℕ) : Type 0 where
    pub rem_places : Places remains (λ i. get_or (next_rem twice current rest) i 0)
    pub q_places : Places after (λ i. get_or (next_q twice before current rest) i 0)

  -- the next remainder and the next Q, of k coefficients
  pub record Stepped (twice before current rest remains after : List ℕ) (k : ℕ) : Type 0 where
    pub rem_is : remains ≡ pad (ops f) 129 (next_rem twice current rest)
    pub q_is : after ≡ pad (ops f) 129 (next_q twice before current rest)
    pub size_is : k ≡ length (next_q twice before current rest)

module _ {f : FieldName} {top size : ℕ} {twice before current rest : List ℕ} (g : Ready f top size twice before current rest) where
  pub division : Division f top size twice current rest
  division = record { twice_within = g.twice_within; rest_within = g.rest_within; current_within = g.current_within; lead_some = g.lead_some }

  pub next_past : (i : ℕ) → top ≤ i → get_or (next_q f twice before current rest) i 0 ≡ 0
  next_past i l = get_or-eq_default (next_q f twice before current rest) 0 {n = i} (let e = g.short in omega arith)
