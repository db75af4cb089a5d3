-- What a product asks of each of its two ideals: it stands for a pair that passes the test of refusal 9. So its
-- polynomials are held, and are an ideal of degree at most g.
use Rattle.std.specs.Prelude.{ℕ, suc, ◌≤◌, ◌<◌, ◌≡◌, List}
use Rattle.std.proofs.Common.{arith, sym, ap₂, subst}
use Rattle.math_algebra.specs.Field.{Field}
use Rattle.math_algebra.specs.Polynomial.{F, monic_deg}
use Rattle.spec_arithmetic.specs.Field.{FieldName, ops}
use Rattle.spec_arithmetic.specs.Polynomials.{trim}
use Rattle.spec_definitions.specs.Walk.{Ideal as Pair}
use Rattle.spec_bridge.specs.Model.{Model, Inverts}
use Rattle.spec_bridge.specs.Trim.{trim_idem, oks_trim, length_trim}
use Rattle.spec_bridge.specs.Degree.{deg_size}
use Rattle.spec_fields.specs.Named.{arithmetic}
use Rattle.spec_laws.specs.Admitted.{Admitted, is_field}
use Rattle.spec_laws.specs.Pairs.{IsIdeal}
use Rattle.spec_laws.specs.PairTest.{Passes, pair_q_below, pair_p_below, pair_ideal}
use Rattle.spec_laws.specs.ProductCong.{SamePair, trimmed, trimmed_same, ideal_cong}
use Rattle.base_polynomial.specs.Over.{poly, Held, Is, Result, result, held_size}
use Rattle.base_ideal.specs.declared.Ideal.{Ideal}

-- the pair of polynomials that it is
abbrev pub held_pair : Ideal → Pair ℕ
held_pair x = record { q = poly x.q; p = poly x.p }

pub record Operand (f : FieldName) (g : ℕ) (D : List ℕ) (x : Ideal) : Type 0 where
  pub pair : Pair ℕ
  pub passes : Passes f g D pair
  pub q_is : Is f x.q (trim (ops f) pair.q)
  pub p_is : Is f x.p (trim (ops f) pair.p)

module _ {f : FieldName} {g : ℕ} {D : List ℕ} (h : Admitted f g D) where
  abbrev pub K : Field (arithmetic f (is_field h)).Elements
  K = (arithmetic f (is_field h)).K

  abbrev pub M : Model (ops f) (F K)
  M = (arithmetic f (is_field h)).M

  abbrev pub I : Inverts M
  I = (arithmetic f (is_field h)).I

  module _ {x : Ideal} (t : Operand f g D x) where
    q_result : Result f x.q (trim (ops f) t.pair.q)
    q_result = result {a = x.q} t.q_is (let a = length_trim M t.pair.q in let l = t.passes.q_length in let n = h.genus_most in omega arith) (trim_idem M t.pair.q) (oks_trim M t.pair.q (pair_q_below h t.passes))

    p_result : Result f x.p (trim (ops f) t.pair.p)
    p_result = result {a = x.p} t.p_is (let a = length_trim M t.pair.p in let l = t.passes.p_length in let n = h.genus_most in omega arith) (trim_idem M t.pair.p) (oks_trim M t.pair.p (pair_p_below h t.passes))

    pub operand_q : Held f x.q
    operand_q = q_result.held

    pub operand_p : Held f x.p
    operand_p = p_result.held

    operand_pair : held_pair x ≡ trimmed K M I D t.pair
    operand_pair = ap₂ (λ (a b : List ℕ). record { q = a; p = b }) q_result.is p_result.is

    pub operand_same : SamePair K M I D (held_pair x) t.pair
    operand_same = subst (λ (y : Pair ℕ). SamePair K M I D y t.pair) (sym operand_pair) (trimmed_same K M I D t.pair)

    pub operand_ideal : IsIdeal K M D (held_pair x)
    operand_ideal = ideal_cong K M I D (record { q = sym operand_same.q; p = sym operand_same.p }) (pair_ideal h t.passes)

    pub operand_q_size : x.q.size ≤ suc g
    operand_q_size = let a = t.q_is.size_is in let b = length_trim M t.pair.q in let l = t.passes.q_length in omega arith

    pub operand_p_size : x.p.size ≤ g
    operand_p_size = let a = t.p_is.size_is in let b = length_trim M t.pair.p in let l = t.passes.p_length in omega arith

    -- Q has a size of its degree and 1
    operand_size : x.q.size ≡ suc operand_ideal.κ
    operand_size = let a = deg_size K M (poly x.q) (monic_deg K operand_ideal.monic) in let b = held_size {a = x.q} operand_q in omega arith

    pub operand_degree : operand_ideal.κ ≤ g
    operand_degree = let a = operand_size in let l = operand_q_size in omega arith

    pub operand_q_some : 0 < x.q.size
    operand_q_some = let a = operand_size in omega arith
