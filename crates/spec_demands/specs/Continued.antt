-- T2: the walk of a ticket past its refusals is the continued fraction of √D. d is the only monic polynomial
-- of degree g + 1 with deg(D − d²) ≤ g; the walk's equations, the norms and the determinant hold at every
-- index, with no bound; and the outcome is told by the least index whose Q is a nonzero constant. Polynomials
-- are lists of coefficients, read in the field. The proof reads the equations of the continued fraction off
-- as equations of lists.
use Prim.Native.Nat.{ℕ, zero, suc, ◌+◌, ◌%◌, ◌≤◌, ◌<◌}
use Rattle.std.specs.Prelude.{◌≡◌, true, false, ◌≢◌, eqb}
use mathlib.Core.List.{List, [], ◌∷◌}
use Rattle.std.proofs.Math.ListN.{get_or}
use Rattle.math_ring.specs.Identity.{times}
use Rattle.spec_arithmetic.specs.Field.{FieldName, Ops, ops, reading}
use Rattle.spec_arithmetic.specs.Polynomials.{size, deg, lead, add, sub, mul, root}
use Rattle.spec_definitions.specs.Ticket.{Ticket, genus, ticket_of, refusal_of}
use Rattle.spec_definitions.specs.Walk as walk
use Rattle.spec_definitions.specs.Answers.{Outcome, found, spent, refused, root_of, words_outcome}
use Rattle.spec_fields.specs.Named.{Ok}
use Rattle.spec_laws.specs.Admitted.{Admitted}
use Rattle.spec_sentences.specs.Sentences.{Same, operators}

-- f(1) + .. + f(i)
unfoldable pub sum_to : (ℕ → ℕ) → ℕ → ℕ
sum_to f zero = 0
sum_to f (suc i) = sum_to f i + f (suc i)

-- (−1)^i times a polynomial
unfoldable pub signed : Ops ℕ → ℕ → List ℕ → List ℕ
signed o i l = elim (eqb (i % 2) 0) [ true ↦ l | false ↦ sub o [] l ]

-- l is monic of degree g + 1, and D − l² has at most the degree g
pub record RootOf (f : FieldName) (g : ℕ) (D l : List ℕ) : Type 0 where
  pub degree : size (ops f) l ≡ suc (suc g)
  pub monic : reading f (get_or l (suc g) 0) ≡ 1
  pub near : size (ops f) (sub (ops f) D (mul (ops f) l l)) ≤ suc g

module _ (f : FieldName) (D d : List ℕ) where
  open operators f use {plus as ◌⊕◌, minus as ◌⊖◌, times as ◌⊗◌}

  infixl 6 ◌⊕◌ ◌⊖◌
  infixl 7 ◌⊗◌
  abbrev Q : ℕ → List ℕ
  Q = walk.Q (ops f) D d

  abbrev P : ℕ → List ℕ
  P = walk.P (ops f) D d

  abbrev a : ℕ → List ℕ
  a = walk.a (ops f) D d

  -- p_{i−1} and s_{i−1}
  abbrev p : ℕ → List ℕ
  p = walk.p_before (ops f) D d

  abbrev s : ℕ → List ℕ
  s = walk.s_before (ops f) D d

  -- at every index i: `product` is Q_i-as-Q_{i+1} = D − P_{i+1}², `sum` is P_{i+1} + P_i = a_i·Q_i, `quotient`
  -- is deg((P_i + d) − a_i·Q_i) < deg Q_i, so that a_i is the quotient of P_i + d by Q_i, `norm` is p_{i−1}²
  -- − D·s_{i−1}² = (−1)^i·Q_i, `determinant` is p_i·s_{i−1} − p_{i−1}·s_i = (−1)^{i+1}, and `degree` is deg
  -- p_i = (g + 1) + deg a_1 + .. + deg a_i; every Q_i is reduced, deg Q_i ≤ g, and no a_i is constant, as deg
  -- a_i = (g + 1) − deg Q_i
  pub record Continued (g : ℕ) : Type 0 where
    pub root : RootOf f g D d
    pub root_only : (l : List ℕ) → RootOf f g D l → Same f l d
    pub Q_not_zero : (i : ℕ) → size (ops f) (Q i) ≢ 0
    pub Q_most : (i : ℕ) → deg (ops f) (Q i) ≤ g
    pub a_least : (i : ℕ) → 1 ≤ deg (ops f) (a i)
    pub a_degree : (i : ℕ) → deg (ops f) (a i) + deg (ops f) (Q i) ≡ suc g
    pub product : (i : ℕ) → Q i ⊗ Q (suc i) ≡ D ⊖ P (suc i) ⊗ P (suc i)
    pub sum : (i : ℕ) → P (suc i) ⊕ P i ≡ a i ⊗ Q i
    pub quotient : (i : ℕ) → size (ops f) (P i ⊕ d ⊖ a i ⊗ Q i) < size (ops f) (Q i)
    pub norm : (i : ℕ) → p i ⊗ p i ⊖ D ⊗ (s i ⊗ s i) ≡ signed (ops f) i (Q i)
    pub determinant : (i : ℕ) → p (suc i) ⊗ s i ⊖ p i ⊗ s (suc i) ≡ signed (ops f) (suc i) (1 ∷ [])
    pub degree : (i : ℕ) → deg (ops f) (p (suc i)) ≡ suc g + sum_to (λ j. deg (ops f) (a j)) i

  -- c is the coefficient with c·λ² = (−1)^m·Q_m, where λ is the leading coefficient of p_{m−1}; R-3: "c by its square"
  pub record ConstantAt (m c : ℕ) : Type 0 where
    pub below : Ok f c
    pub square : (ops f).mul c ((ops f).mul (lead (ops f) (p m)) (lead (ops f) (p m))) ∷ [] ≡ signed (ops f) m (Q m)

  -- m is the least index from 1 to b whose Q is a nonzero constant, R is deg p_{m−1}, and c is the constant at m
  pub record StopsAt (b R m c : ℕ) : Type 0 where
    pub positive : 0 < m
    pub within : m ≤ b
    pub constant : size (ops f) (Q m) ≡ 1
    pub least : (j : ℕ) → 0 < j → j < m → size (ops f) (Q j) ≢ 1
    pub regulator : R ≡ deg (ops f) (p m)
    pub value : ConstantAt m c

  -- all b steps are made, no index from 1 to b has such a Q, and e is deg p_{b−1}
  pub record Spends (b k e : ℕ) : Type 0 where
    pub all : k ≡ b
    pub none_constant : (j : ℕ) → 0 < j → j ≤ b → size (ops f) (Q j) ≢ 1
    pub reached : e ≡ deg (ops f) (p b)

  abbrev pub Ends : ℕ → Outcome → Type 0
  Ends b (found R m c) = StopsAt b R m c
  Ends b (spent k e) = Spends b k e
  Ends b (refused j) = ⊥

pub record Walks (t : Ticket) (x : Outcome) : Type 0 where
  pub continued : Continued t.field t.D (root_of t) (genus t.n)
  pub ends : Ends t.field t.D (root_of t) t.b x

abbrev pub T2 : Type 0
T2 = (w : List ℕ) → refusal_of w ≡ 0 → Walks (ticket_of w) (words_outcome w)

-- for n = 2 the first Q is constant: m = 1 and R = 1 for every budget from 1 up
abbrev pub T2Linear : Type 0
T2Linear = (w : List ℕ) → refusal_of w ≡ 0 → (ticket_of w).n ≡ 2 → 0 < (ticket_of w).b → (c : ℕ) × (words_outcome w ≡ found 1 1 c)

-- ---- the proof, for a D that is admitted
module _ {f : FieldName} {g : ℕ} {D : List ℕ} (h : Admitted f g D) where
  abbrev d : List ℕ
  d = root (ops f) D (suc g)

  -- what a_i leaves of P_i + d is the remainder
  unfoldable pub rest : ℕ → List ℕ
  rest i = sub (ops f) (add (ops f) (walk.P (ops f) D d i) d) (mul (ops f) (walk.a (ops f) D d i) (walk.Q (ops f) D d i))
