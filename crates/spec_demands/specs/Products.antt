-- T2, the part on products: for a ticket past its refusals and two pairs as document 01 describes them, S is
-- the greatest common divisor, Q-as-S² is Q_1-as-Q_2, P is document 01's for ANY U, V, W with S = U-as-Q_1 + V-as-Q_2 +
-- W·(P_1 + P_2), and Q divides D − P². The giant step's reduction divides exactly, ends at the first reduced
-- index, and −2g ≤ f ≤ 0. Polynomials are lists of coefficients, read in the field. The proof reads the
-- product of ideals over the field off as equations of lists.
use Prim.Native.Nat.{ℕ, suc, ◌+◌, ◌≤◌, ◌<◌}
use Rattle.std.specs.Prelude.{◌≡◌, List, neg_ℤ, ◌+ℤ◌, ◌-ℤ◌, ◌≤ℤ◌}
use Rattle.std.proofs.Math.IntN.{pos as posℤ}
use Rattle.spec_arithmetic.specs.Field.{FieldName, ops}
use Rattle.spec_arithmetic.specs.Polynomials.{size, deg, lead, quo, rem, monic, root}
use Rattle.spec_definitions.specs.Ticket.{Ticket, genus, ticket_of, refusal_of}
use Rattle.spec_definitions.specs.Walk.{Ideal, partial, steps}
use Rattle.spec_definitions.specs.Answers.{ops_of, root_of}
use Rattle.spec_definitions.specs.Products.{Product, ProductAnswer, GiantStepAnswer, product_answer, giant_answer}
use Rattle.spec_laws.specs.Admitted.{Admitted}
use Rattle.spec_laws.specs.PairTest.{Passes}
use Rattle.spec_laws.specs.Product.{common_of, product_q, product_p, bezout_u, bezout_w}
use Rattle.spec_sentences.specs.Sentences.{operators}
use Rattle.spec_sentences.specs.Arithmetic.{Divides}
use Rattle.spec_refusals.specs.Pairs.{IsPair, GivenPair, WrongDistance}
use Rattle.spec_refusals.proofs.Pairs.{exact}
use Rattle.spec_demands.specs.Continued.{sum_to}

module _ (f : FieldName) where
  open operators f use {plus as ◌⊕◌, minus as ◌⊖◌, times as ◌⊗◌}

  infixl 6 ◌⊕◌ ◌⊖◌
  infixl 7 ◌⊗◌
  -- S = U-as-Q_1 + V-as-Q_2 + W·(P_1 + P_2)
  abbrev pub Combines : Ideal ℕ → Ideal ℕ → List ℕ → List ℕ → List ℕ → List ℕ → Type 0
  Combines x y S u v w = S ≡ u ⊗ x.q ⊕ v ⊗ y.q ⊕ w ⊗ (x.p ⊕ y.p)

  -- (P_1 + (Q_1/S)·(U·(P_2 − P_1) + W·(D − P_1²)/Q_1)) mod Q
  abbrev pub paper_p : List ℕ → Ideal ℕ → Ideal ℕ → List ℕ → List ℕ → List ℕ → List ℕ → List ℕ
  paper_p D x y S Q u w = rem (ops f) (x.p ⊕ quo (ops f) x.q S ⊗ (u ⊗ (y.p ⊖ x.p) ⊕ w ⊗ quo (ops f) (D ⊖ x.p ⊗ x.p) x.q)) Q

  pub record IsProduct (g : ℕ) (D : List ℕ) (x y : Ideal ℕ) (S Q P : List ℕ) : Type 0 where
    pub S_monic : lead (ops f) S ≡ 1
    pub S_first : Divides f S x.q
    pub S_second : Divides f S y.q
    pub S_sum : Divides f S (x.p ⊕ y.p)
    pub S_greatest : (l : List ℕ) → Divides f l x.q → Divides f l y.q → Divides f l (x.p ⊕ y.p) → Divides f l S
    pub S_combines : (u : List ℕ) × (v : List ℕ) × (w : List ℕ) × Combines x y S u v w
    pub Q_square : Q ⊗ (S ⊗ S) ≡ x.q ⊗ y.q
    pub Q_most : deg (ops f) Q ≤ g + g
    pub P_any : (u v w : List ℕ) → Combines x y S u v w → P ≡ paper_p D x y S Q u w
    pub ideal : IsPair f D Q P

  -- the steps from (Q, P), of which the k-th is the first that is reduced
  module _ (g : ℕ) (D d : List ℕ) (s : Ideal ℕ) where
    abbrev Q : ℕ → List ℕ
    Q j = (steps (ops f) D d s j).q

    abbrev P : ℕ → List ℕ
    P j = (steps (ops f) D d s j).p

    pub record ReducesAt (k : ℕ) : Type 0 where
      pub exact : (j : ℕ) → Divides f (Q j) (D ⊖ P (suc j) ⊗ P (suc j))
      pub not_zero : (j : ℕ) → 0 < size (ops f) (Q j)
      pub partial_deg : (j : ℕ) → 0 < deg (ops f) (partial (ops f) D d (steps (ops f) D d s (suc j)))
      pub reduced : deg (ops f) (Q k) ≤ g
      pub first : (j : ℕ) → j < k → g < deg (ops f) (Q j)
      pub few : k + k ≤ suc g

pub record Multiplies (t : Ticket) (x y : Ideal ℕ) (r : ProductAnswer) : Type 0 where
  pub number : r.number ≡ 0
  pub is : IsProduct t.field (genus t.n) t.D x y r.s r.q r.p

-- with the distances d and e; S and the pair s are the product's; `f_is` is f = deg Q_k − deg Q + (deg a_1 +
-- .. + deg a_k) − deg S
pub record Steps (t : Ticket) (x : Ideal ℕ) (d : ℕ) (y : Ideal ℕ) (e : ℕ) (S : List ℕ) (s : Ideal ℕ) (r : GiantStepAnswer) : Type 0 where
  pub number : r.number ≡ 0
  pub k : ℕ
  pub reduces : ReducesAt t.field (genus t.n) t.D (root_of t) s k
  pub Q_is : r.q ≡ monic (ops_of t) (steps (ops_of t) t.D (root_of t) s k).q
  pub P_is : r.p ≡ rem (ops_of t) (steps (ops_of t) t.D (root_of t) s k).p r.q
  pub ideal : IsPair t.field t.D r.q r.p
  pub f_is : r.f ≡ posℤ (deg (ops_of t) (steps (ops_of t) t.D (root_of t) s k).q) -ℤ posℤ (deg (ops_of t) s.q) +ℤ posℤ (sum_to (λ j. deg (ops_of t) (partial (ops_of t) t.D (root_of t) (steps (ops_of t) t.D (root_of t) s j))) k) -ℤ posℤ (deg (ops_of t) S)
  pub f_most : r.f ≤ℤ posℤ 0
  pub f_least : neg_ℤ (posℤ (genus t.n + genus t.n)) ≤ℤ r.f
  pub distance : r.distance ≡ posℤ (d + e) +ℤ r.f

abbrev pub T2Products : Type 0
T2Products = (w : List ℕ) → refusal_of w ≡ 0 → (x y : Ideal ℕ) → GivenPair (ticket_of w) x → GivenPair (ticket_of w) y → Multiplies (ticket_of w) x y (product_answer w x y)

abbrev pub T2GiantSteps : Type 0
T2GiantSteps = (w : List ℕ) → refusal_of w ≡ 0 → (x y : Ideal ℕ) → GivenPair (ticket_of w) x → GivenPair (ticket_of w) y → (d e : ℕ) → ¬ WrongDistance d e
    → Steps (ticket_of w) x d y e (product_answer w x y).s (record { q = (product_answer w x y).q; p = (product_answer w x y).p }) (giant_answer w x d y e)

-- ---- the proof, for a D that is admitted and two pairs that pass
module _ {f : FieldName} {g : ℕ} {D : List ℕ} (h : Admitted f g D) {x y : Ideal ℕ} (px : Passes f g D x) (py : Passes f g D y) where
  abbrev d : List ℕ
  d = root (ops f) D (suc g)

  -- ---- the product, as its lists are named
  abbrev S : List ℕ
  S = common_of (ops f) x y

  abbrev Q₀ : List ℕ
  Q₀ = product_q (ops f) x y

  abbrev P₀ : List ℕ
  P₀ = product_p (ops f) D x y (bezout_u (ops f) x y) (bezout_w (ops f) x y)

  abbrev r : Product ℕ
  r = record { s = S; ideal = record { q = Q₀; p = P₀ } }
