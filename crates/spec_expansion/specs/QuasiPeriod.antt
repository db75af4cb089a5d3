-- "The walk stops at the first index from 1 up whose Q is a nonzero constant, and that index m is its yield.
-- m is the quasi-period": every ticket past refusals 1 to 7 has one, and only one.
-- The walk has finitely many pairs (Q, P), so that two indices have the same pair. Equal ideals are preceded
-- by equal ideals, so that the ideal of index 0 comes back after as many steps as there are between the two
-- indices: there Q is constant, as Q_0 is. The quasi-period is the least such index.
use Prim.Native.Nat.{ℕ, suc, ◌+◌, ◌*◌, ◌^◌, ◌<◌}
use Rattle.std.specs.Prelude.{◌≡◌, ◌≢◌, List}
use Rattle.spec_arithmetic.specs.Field.{FieldName, ops}
use Rattle.spec_arithmetic.specs.Polynomials.{size, root}
use Rattle.spec_arithmetic.specs.Words.{values}
use Rattle.spec_definitions.specs.Ticket.{Ticket, ticket_of, refusal_of}
use Rattle.spec_definitions.specs.Walk as walk
use Rattle.spec_definitions.specs.Answers.{ops_of, root_of}
use Rattle.spec_laws.specs.Admitted.{Admitted}
use Rattle.spec_expansion.specs.Digits.{number}

-- m is the least index from 1 up whose Q is a nonzero constant, with no bound on it
pub record IsQuasiPeriod (t : Ticket) (m : ℕ) : Type 0 where
  pub positive : 0 < m
  pub constant : size (ops_of t) (walk.Q (ops_of t) t.D (root_of t) m) ≡ 1
  pub least : (j : ℕ) → 0 < j → j < m → size (ops_of t) (walk.Q (ops_of t) t.D (root_of t) j) ≢ 1

-- every ticket past its refusals has a quasi-period
abbrev pub T2Exists : Type 0
T2Exists = (w : List ℕ) → refusal_of w ≡ 0 → (m : ℕ) × IsQuasiPeriod (ticket_of w) m

-- no ticket has two
abbrev pub QuasiPeriodUnique : Type 0
QuasiPeriodUnique = (t : Ticket) (m k : ℕ) → IsQuasiPeriod t m → IsQuasiPeriod t k → m ≡ k

module _ {f : FieldName} {g : ℕ} {D : List ℕ} (h : Admitted f g D) where
  abbrev d : List ℕ
  d = root (ops f) D (suc g)

  abbrev Q : ℕ → List ℕ
  Q = walk.Q (ops f) D d

  abbrev P : ℕ → List ℕ
  P = walk.P (ops f) D d

  -- ---- the pair (Q_i, P_i) as a number below B²: neither has more than g + 2 coefficients, and each of them fits into a word
  abbrev B : ℕ
  B = values ^ suc (suc g)

  unfoldable pub pair_number : ℕ → ℕ
  pair_number i = number values (Q i) + B * number values (P i)
