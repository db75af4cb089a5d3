-- The walk and its convergents are the only polynomials that document 01's equations allow: any Q, P, a, p, s
-- that meet them for n steps, from Q_0 = 1 and P_0 = 0, are the definitions' up to the index n. The same for
-- the steps from any pair, which the giant step takes. For a ticket past its refusals and every n;
-- polynomials are lists of any numbers and any length, read in the field.
use Prim.Native.Nat.{ℕ, suc, ◌≤◌, ◌<◌}
use Rattle.std.specs.Prelude.{◌≡◌}
use mathlib.Core.List.{List, [], ◌∷◌}
use Rattle.spec_arithmetic.specs.Field.{FieldName, ops}
use Rattle.spec_arithmetic.specs.Polynomials.{size}
use Rattle.spec_definitions.specs.Ticket.{genus, ticket_of, refusal_of}
use Rattle.spec_definitions.specs.Walk as walk
use Rattle.spec_definitions.specs.Answers.{root_of}
use Rattle.spec_sentences.specs.Sentences.{Same, operators}
use Rattle.spec_demands.specs.Continued.{RootOf}

module _ (f : FieldName) (D d : List ℕ) where
  open operators f use {plus as ◌⊕◌, minus as ◌⊖◌, times as ◌⊗◌}

  infixl 6 ◌⊕◌ ◌⊖◌
  infixl 7 ◌⊗◌
  -- n steps: "a_i = (P_i + d) div Q_i", "P_{i+1} = a_i·Q_i − P_i", "Q_{i+1} = (D − P_{i+1}²) / Q_i"
  pub record Stepping (n : ℕ) (Q P a : ℕ → List ℕ) : Type 0 where
    pub quotient : (i : ℕ) → i < n → size (ops f) (P i ⊕ d ⊖ a i ⊗ Q i) < size (ops f) (Q i)
    pub P_next : (i : ℕ) → i < n → Same f (P (suc i)) (a i ⊗ Q i ⊖ P i)
    pub Q_next : (i : ℕ) → i < n → Same f (Q i ⊗ Q (suc i)) (D ⊖ P (suc i) ⊗ P (suc i))

  -- "p_{−1} = 1, s_{−1} = 0, p_0 = d, s_0 = 1, then p_i = a_i·p_{i−1} + p_{i−2}, and s_i likewise": `p i` is
  -- p_{i−1} and `s i` is s_{i−1}
  pub record Converging (n : ℕ) (a p s : ℕ → List ℕ) : Type 0 where
    pub p_before_first : Same f (p 0) (1 ∷ [])
    pub p_first : Same f (p 1) d
    pub p_next : (i : ℕ) → suc i < n → Same f (p (suc (suc i))) (a (suc i) ⊗ p (suc i) ⊕ p i)
    pub s_before_first : Same f (s 0) []
    pub s_first : Same f (s 1) (1 ∷ [])
    pub s_next : (i : ℕ) → suc i < n → Same f (s (suc (suc i))) (a (suc i) ⊗ s (suc i) ⊕ s i)

  -- "d is the monic polynomial of degree g+1 with deg(D − d²) at most g. Start: P_0 = 0, Q_0 = 1."
  pub record IsWalk (g n : ℕ) (Q P a p s : ℕ → List ℕ) : Type 0 where
    pub is_root : RootOf f g D d
    pub Q_first : Same f (Q 0) (1 ∷ [])
    pub P_first : Same f (P 0) []
    pub stepping : Stepping n Q P a
    pub converging : Converging n a p s

  -- they are the definitions' walk for D and d
  pub record SameWalk (n : ℕ) (Q P a p s : ℕ → List ℕ) : Type 0 where
    pub Q_same : (i : ℕ) → i ≤ n → Same f (Q i) (walk.Q (ops f) D d i)
    pub P_same : (i : ℕ) → i ≤ n → Same f (P i) (walk.P (ops f) D d i)
    pub a_same : (i : ℕ) → i < n → Same f (a i) (walk.a (ops f) D d i)
    pub p_same : (i : ℕ) → i ≤ n → Same f (p i) (walk.p_before (ops f) D d i)
    pub s_same : (i : ℕ) → i ≤ n → Same f (s i) (walk.s_before (ops f) D d i)

-- d is the definitions' root
abbrev pub OneRoot : Type 0
OneRoot = (w : List ℕ) → refusal_of w ≡ 0 → (d : List ℕ) → RootOf (ticket_of w).field (genus (ticket_of w).n) (ticket_of w).D d → Same (ticket_of w).field d (root_of (ticket_of w))

abbrev pub OneWalk : Type 0
OneWalk = (w : List ℕ) → refusal_of w ≡ 0 → (d : List ℕ) (n : ℕ) (Q P a p s : ℕ → List ℕ) → IsWalk (ticket_of w).field (ticket_of w).D d (genus (ticket_of w).n) n Q P a p s
    → SameWalk (ticket_of w).field (ticket_of w).D (root_of (ticket_of w)) n Q P a p s

-- the definitions' walk is one
abbrev pub WalkIs : Type 0
WalkIs = (w : List ℕ) → refusal_of w ≡ 0 → (n : ℕ) → let f = (ticket_of w).field in let D = (ticket_of w).D in let d = root_of (ticket_of w) in IsWalk f D d (genus (ticket_of w).n) n (walk.Q (ops f) D d) (walk.P (ops f) D d) (walk.a (ops f) D d) (walk.p_before (ops f) D d) (walk.s_before (ops f) D d)
