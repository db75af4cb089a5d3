-- A lent list that holds a polynomial: its coefficients, with zeros above its degree.
use Rattle.std.specs.Prelude.{ℕ, ◌<◌, ◌≡◌, List, [], length, get_or, replicate}
use Rattle.std.proofs.Common.{arith, sym, ◌∙◌, ext_get_or}
use Rattle.std.proofs.lemmas.List.{length-replicate, get_or-replicate}
use Rattle.std.proofs.Math.ListN.{get_or-eq_default}
use Rattle.spec_arithmetic.specs.Field.{modulo}
use Rattle.spec_arithmetic.specs.Polynomials.{pad}
use Rattle.spec_lists.specs.Pad.{length_pad, pad_at}

pub record Written (l list : List ℕ) : Type 0 where
  pub at : (i : ℕ) → i < length list → get_or list i 0 ≡ get_or l i 0

pub written_zeros : (n : ℕ) → Written [] (replicate n 0)
written_zeros n = record { at = λ i h. get_or-replicate n i 0 0 (let e : length (replicate n 0) ≡ n = length-replicate {A = ℕ} n 0 in omega arith) ∙ sym (get_or-eq_default [] 0 {n = i} (omega arith)) }

-- the list as one equation
pub written_is : (q k : ℕ) (l list : List ℕ) → Written l list → length list ≡ k → list ≡ pad (modulo q) k l
written_is q k l list w e =
    ext_get_or 0 list (pad (modulo q) k l) (let f : length (pad (modulo q) k l) ≡ k = length_pad (modulo q) k l in omega arith)
    (λ i p. w.at i (omega arith) ∙ sym (pad_at (modulo q) k l i (omega arith)))
