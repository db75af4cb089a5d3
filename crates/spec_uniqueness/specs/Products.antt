-- The product of two pairs is the only one with document 01's properties: any S, Q and P that have them are
-- those of the definition, whichever U, V, W one takes. For a ticket past its refusals and two pairs as
-- document 01 describes them. Polynomials are lists of any numbers and any length, read in the field.
use Rattle.std.specs.Prelude.{ℕ, ◌≡◌, List}
use Rattle.math_ring.specs.Identity.{times, plus}
use Rattle.spec_arithmetic.specs.Field.{FieldName, ops, reading}
use Rattle.spec_arithmetic.specs.Polynomials.{lead}
use Rattle.spec_definitions.specs.Ticket.{ticket_of, refusal_of}
use Rattle.spec_definitions.specs.Walk.{Ideal}
use Rattle.spec_definitions.specs.Products.{ProductAnswer, product_answer}
use Rattle.spec_sentences.specs.Sentences.{Same, operators}
use Rattle.spec_sentences.specs.Arithmetic.{Divides}
use Rattle.spec_sentences.specs.Operations.{Trimmed}
use Rattle.spec_refusals.specs.Pairs.{GivenPair}
use Rattle.spec_demands.specs.Products.{paper_p}

module _ (f : FieldName) where
  open operators f use {plus as ◌⊕◌, times as ◌⊗◌}

  infixl 6 ◌⊕◌
  infixl 7 ◌⊗◌
  -- "S = gcd(Q_1, Q_2, P_1 + P_2), with U, V, W such that S = U·Q_1 + V·Q_2 + W·(P_1 + P_2)"; "Q = Q_1-as-Q_2 /
  -- S²"; "P = (P_1 + (Q_1/S)·(U·(P_2 − P_1) + W·(D − P_1²)/Q_1)) mod Q"
  pub record ProductOf (D : List ℕ) (x y : Ideal ℕ) (S Q P : List ℕ) : Type 0 where
    pub S_monic : reading f (lead (ops f) S) ≡ 1
    pub S_first : Divides f S x.q
    pub S_second : Divides f S y.q
    pub S_sum : Divides f S (x.p ⊕ y.p)
    pub S_greatest : (l : List ℕ) → Divides f l x.q → Divides f l y.q → Divides f l (x.p ⊕ y.p) → Divides f l S
    pub Q_square : Same f (Q ⊗ (S ⊗ S)) (x.q ⊗ y.q)
    pub P_any : (u v w : List ℕ) → Same f S (u ⊗ x.q ⊕ v ⊗ y.q ⊕ w ⊗ (x.p ⊕ y.p)) → Same f P (paper_p f D x y S Q u w)

  pub record SameProduct (S Q P : List ℕ) (r : ProductAnswer) : Type 0 where
    pub S_same : Same f S r.s
    pub Q_same : Same f Q r.q
    pub P_same : Same f P r.p

  -- its polynomials have coefficients below q and no zero at their end
  pub record TrimmedProduct (r : ProductAnswer) : Type 0 where
    pub S_trimmed : Trimmed f r.s
    pub Q_trimmed : Trimmed f r.q
    pub P_trimmed : Trimmed f r.p

abbrev pub OneProduct : Type 0
OneProduct = (w : List ℕ) → refusal_of w ≡ 0 → (x y : Ideal ℕ) → GivenPair (ticket_of w) x → GivenPair (ticket_of w) y → (S Q P : List ℕ) → ProductOf (ticket_of w).field (ticket_of w).D x y S Q P
    → SameProduct (ticket_of w).field S Q P (product_answer w x y)

-- the definition's product is one
abbrev pub ProductIs : Type 0
ProductIs = (w : List ℕ) → refusal_of w ≡ 0 → (x y : Ideal ℕ) → GivenPair (ticket_of w) x → GivenPair (ticket_of w) y
    → let r = product_answer w x y in ProductOf (ticket_of w).field (ticket_of w).D x y r.s r.q r.p × TrimmedProduct (ticket_of w).field r

-- the whole answer
abbrev pub OneProductAnswer : Type 0
OneProductAnswer = (w : List ℕ) → refusal_of w ≡ 0 → (x y : Ideal ℕ) → GivenPair (ticket_of w) x → GivenPair (ticket_of w) y → (r : ProductAnswer) → r.number ≡ 0
    → TrimmedProduct (ticket_of w).field r → ProductOf (ticket_of w).field (ticket_of w).D x y r.s r.q r.p → r ≡ product_answer w x y
