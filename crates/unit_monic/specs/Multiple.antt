-- A multiple of a polynomial in a lent list, place by place, and the factor that makes one monic.
use Rattle.std.specs.Prelude.{ℕ, ◌*◌, ◌%◌, ◌<◌, ◌≡◌, List, length}
use Rattle.std.proofs.Common.{arith, sym, ap, ◌∙◌}
use Rattle.spec_arithmetic.specs.Field.{modulo}
use Rattle.spec_arithmetic.specs.Polynomials.{scale}
use Rattle.spec_bridge.specs.Arithmetic.{at_scale}
use Rattle.spec_bridge.specs.Residues.{model, inverse_lt}
use Rattle.base_field.specs.declared.Field.{Field}
use Rattle.base_field.specs.Named.{Ok, ops}
use Rattle.unit_combine.specs.Written.{Written}

-- an inverse is an admissible coefficient
pub inverse_ok : (f : Field) (a : ℕ) → Ok f ((ops f).inv a)
inverse_ok f a = inverse_lt f.q (let w = f.is_field.1 in omega arith) a

module _ (q : ℕ) (pos : 0 < q) (u : ℕ) (l : List ℕ) where
  -- a list that holds l holds u·l once its places are multiplied by u
  pub written_scale : (list new : List ℕ) → length new ≡ length list → Written l list → Written (scale (modulo q) u list) new → Written (scale (modulo q) u l) new
  written_scale list new e w v = record { at = λ i h. v.at i h ∙ at_scale (model q pos) u list i ∙ ap (λ (x : ℕ). (u * x) % q) (w.at i (omega arith)) ∙ sym (at_scale (model q pos) u l i) }
