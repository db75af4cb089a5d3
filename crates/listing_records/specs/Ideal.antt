-- The ideal of a record from where the walk stands: P_i = d − r_{i−1}, so that no P is kept. The operations
-- depend only on coefficients.
use Rattle.std.specs.Prelude.{ℕ, ◌≡◌, List}
use Rattle.std.proofs.Common.{arith, sym, ap, ap₂, ◌∙◌, subst}
use Rattle.math_ring.specs.Residues.{FqRing}
use Rattle.spec_arithmetic.specs.Field.{modulo}
use Rattle.spec_arithmetic.specs.Polynomials.{sub}
use Rattle.spec_definitions.specs.Walk.{walk}
use Rattle.spec_definitions.specs.Walk as lists
use Rattle.spec_definitions.specs.Listing.{ideal_of}
use Rattle.spec_bridge.specs.Model.{Model, series}
use Rattle.spec_bridge.specs.Arithmetic.{sub_cong}
use Rattle.spec_bridge.specs.Residues.{model, pos}
use Rattle.spec_laws.specs.Admitted.{Admitted, surd_of}
use Rattle.spec_laws.specs.Surd.{Q_trim, Q_oks}
use Rattle.spec_laws.specs.Fraction.{Q_length}
use Rattle.spec_laws.specs.Walk.{d_length}
use Rattle.spec_laws.specs.State.{left, left_oks, left_length, P_left}
use Rattle.base_places.specs.Places.{Within}
use Rattle.base_polynomial.specs.declared.Poly.{Poly}
use Rattle.base_polynomial.specs.Over.{poly, Held, Result, result}
use Rattle.walk_state.specs.declared.Walk.{Walk}
use Rattle.walk_state.specs.Walk.{name, ops, g, D, root, top}
use Rattle.walk_state.specs.State.{pad_within, pad_series}
use Rattle.walk_stride.specs.declared.Progress.{Progress}
use Rattle.walk_stride.specs.Walked.{Walked}

module _ (w : Walk) {before current : Poly} {rest : List ℕ} {at : Progress} (t : Walked w before current rest at) where
  abbrev q : ℕ
  q = w.root.surd.field.q

  abbrev h : Admitted (name w) (g w) (D w)
  h = w.root.surd.admitted

  abbrev M : Model (modulo q) (FqRing q (pos q h.prime))
  M = model q (pos q h.prime)

  current_is : Result (name w) current (lists.Q (ops w) (D w) (root w) at.index.0)
  current_is = result {a = current} (record { places = t.state.q_is; size_is = t.state.size_is }) (let e = Q_length (surd_of h) at.index.0 in let l = h.genus_most in omega arith) (Q_trim (surd_of h) at.index.0) (Q_oks (surd_of h) at.index.0)

  pub current_held : Held (name w) current
  current_held = current_is.held

  pub rest_within : Within (name w) rest (top w)
  rest_within = subst (λ (x : List ℕ). Within (name w) x (top w)) (sym t.state.left_is) (pad_within q _ (top w) (left_length (surd_of h) at.index.0) (let l = h.genus_most in omega arith) (left_oks (surd_of h) at.index.0))

  P_is : sub (ops w) w.root.d rest ≡ lists.P (ops w) (D w) (root w) at.index.0
  P_is = sub_cong M w.root.d (root w) rest (left (ops w) (D w) (root w) at.index.0) (ap (series M) w.root.d_is ∙ pad_series q (pos q h.prime) (root w) (let k = d_length (surd_of h) in let l = h.genus_most in omega arith)) (ap (series M) t.state.left_is ∙ pad_series q (pos q h.prime) (left (ops w) (D w) (root w) at.index.0) (let k = left_length (surd_of h) at.index.0 in let l = h.genus_most in omega arith)) ∙ sym (P_left (surd_of h) at.index.0)

  pub ideal_is : ideal_of (ops w) (record { q = poly current; p = sub (ops w) w.root.d rest }) ≡ ideal_of (ops w) (walk (ops w) (D w) (root w) at.index.0)
  ideal_is = ap₂ (λ (x y : List ℕ). ideal_of (ops w) (record { q = x; p = y })) current_is.is P_is
