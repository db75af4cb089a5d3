-- The walk is the expansion of √D in a continued fraction: d is the polynomial part of √D, and a_i is that of
-- the complete quotient (P_i + √D)/Q_i, at every index i. What this leaves, (√D − P_{i+1})/Q_i, is the
-- reciprocal of the next complete quotient, since Q_i-as-Q_{i+1} = D − P_{i+1}² (T2's `product`); and the first
-- one is √D, as P_0 = 0 and Q_0 = 1.
-- √D is a series in 1/x. It is taken here to any number N of places after the point, with no series: T is the
-- polynomial part of x^N·√D exactly where T is monic of degree g + 1 + N and x^2N·D − T² has at most the
-- degree g + N, for x^2N·D − T² is (x^N·√D − T)·(x^N·√D + T), whose second factor then has the degree g + 1 +
-- N. Polynomials are lists of any numbers and any length, read in the field.
use Prim.Native.Nat.{ℕ, ◌+◌ as ◌+ₙ◌, ◌<◌}
use Rattle.std.specs.Prelude.{◌≡◌, List}
use Rattle.math_ring.specs.Identity.{times}
use Rattle.spec_arithmetic.specs.Field.{FieldName, ops}
use Rattle.spec_arithmetic.specs.Polynomials.{size, monomial, root}
use Rattle.spec_definitions.specs.Ticket.{genus, ticket_of, refusal_of}
use Rattle.spec_definitions.specs.Walk as walk
use Rattle.spec_definitions.specs.Answers.{root_of}
use Rattle.spec_sentences.specs.Sentences.{AllowedField, Same, operators}
use Rattle.spec_demands.specs.Continued.{RootOf}

module _ (f : FieldName) where
  open operators f use {minus as ◌⊖◌, times as ◌⊗◌}

  infixl 6 ◌⊖◌
  infixl 7 ◌⊗◌
  -- x^N
  abbrev pub power : ℕ → List ℕ
  power N = monomial (ops f) (ops f).one N

  -- l is the polynomial part of a/b: a − l·b has a lower degree than b
  abbrev pub PolynomialPart : List ℕ → List ℕ → List ℕ → Type 0
  PolynomialPart l a b = size (ops f) (a ⊖ l ⊗ b) < size (ops f) b

  -- T is the polynomial part of x^N·√D, so that T/x^N is √D to N places after the point
  abbrev pub RootToPlaces : ℕ → List ℕ → ℕ → List ℕ → Type 0
  RootToPlaces g D N T = RootOf f (g +ₙ N) (power N ⊗ (power N ⊗ D)) T

-- a quotient of polynomials has only one polynomial part
abbrev pub PolynomialPartUnique : Type 0
PolynomialPartUnique = (f : FieldName) → AllowedField f → (l h a b : List ℕ) → PolynomialPart f l a b → PolynomialPart f h a b → Same f l h

module _ (f : FieldName) (g : ℕ) (D d : List ℕ) where
  open operators f use {plus as ◌⊕◌, times as ◌⊗◌}

  infixl 6 ◌⊕◌
  infixl 7 ◌⊗◌
  abbrev x^ : ℕ → List ℕ
  x^ = power f

  abbrev RootTo : ℕ → List ℕ → Type 0
  RootTo = RootToPlaces f g D

  abbrev Q : ℕ → List ℕ
  Q = walk.Q (ops f) D d

  abbrev P : ℕ → List ℕ
  P = walk.P (ops f) D d

  abbrev a : ℕ → List ℕ
  a = walk.a (ops f) D d

  pub record Expansion : Type 0 where
    -- √D has any number of places, and more places leave the first N as they are: T is the polynomial part of
    -- U/x^k where U has k places more
    pub places : (N : ℕ) → (T : List ℕ) × RootTo N T
    pub further : (N k : ℕ) (T U : List ℕ) → RootTo N T → RootTo (N +ₙ k) U → PolynomialPart f T U (x^ k)
    -- d is the polynomial part of √D: no other polynomial is √D to 0 places, and d is the polynomial part of
    -- T/x^N for √D to N places
    pub root : (T : List ℕ) → RootTo 0 T → Same f T d
    pub root_part : (N : ℕ) (T : List ℕ) → RootTo N T → PolynomialPart f d T (x^ N)
    -- a_i is the polynomial part of (P_i + √D)/Q_i, that is of (x^N·P_i + T)/(x^N·Q_i) for √D to N places,
    -- and nothing else is
    pub quotient : (N : ℕ) (T : List ℕ) → RootTo N T → (i : ℕ) → PolynomialPart f (a i) (x^ N ⊗ P i ⊕ T) (x^ N ⊗ Q i)
    pub quotient_only : (N : ℕ) (T : List ℕ) → RootTo N T → (i : ℕ) (l : List ℕ) → PolynomialPart f l (x^ N ⊗ P i ⊕ T) (x^ N ⊗ Q i) → Same f l (a i)

-- for every ticket past its refusals
abbrev pub T2PolynomialPart : Type 0
T2PolynomialPart = (w : List ℕ) → refusal_of w ≡ 0 → Expansion (ticket_of w).field (genus (ticket_of w).n) (ticket_of w).D (root_of (ticket_of w))
