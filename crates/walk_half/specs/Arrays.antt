-- What two arrays of 129 places tell of their lists: the remainders are the same lists where their arrays are,
-- and Q_{i+1} is a constant times Q_i by cross multiplication of the lists exactly where it is by that of the
-- arrays.
use Prim.Native.Nat.{ℕ, zero, suc, ◌-◌, ◌*◌, ◌%◌, ◌≤◌}
use Rattle.std.proofs.Common.{mul_comm, arith, sym, ap, ap₂, ◌∙◌}
use Rattle.std.specs.Prelude.{◌≡◌, List, length, get_or}
use Rattle.math_algebra.specs.Polynomial.{Deg, deg_path, deg_scale, deg_unique}
use Rattle.spec_arithmetic.specs.Field.{FieldName, prime, ops, modulo}
use Rattle.spec_arithmetic.specs.Polynomials.{pad, lead, scale}
use Rattle.spec_definitions.specs.Walk.{Q}
use Rattle.spec_bridge.specs.Model.{series}
use Rattle.spec_bridge.specs.Trim.{Trim, trim_ext}
use Rattle.spec_bridge.specs.Arithmetic.{at_scale, trim_scale, series_scale}
use Rattle.spec_bridge.specs.Residues.{model, field, pos}
use Rattle.spec_laws.specs.Admitted.{Admitted, surd_of}
use Rattle.spec_laws.specs.Surd.{r_trim}
use Rattle.spec_laws.specs.Fraction.{Q_deg, Q_some}
use Rattle.spec_laws.specs.State.{left, left_length}
use Rattle.spec_half.proofs.Middles.{lead_not_zero}
use Rattle.spec_half.specs.Computed.{Cross}
use Rattle.base_places.specs.Pad.{at_pad}
use Rattle.walk_state.specs.State.{root_d, State, Q_at, last_is_lead}
use Rattle.walk_middle.specs.Middle.{Proportional}

-- Q_i in an array, and its size
pub record InArray (f : FieldName) (g : ℕ) (D : List ℕ) (i : ℕ) (x : List ℕ) (size : ℕ) : Type 0 where
  pub places : x ≡ pad (ops f) 129 (Q (ops f) D (root_d f g D) i)
  pub size_is : size ≡ length (Q (ops f) D (root_d f g D) i)

module _ {q g : ℕ} {D : List ℕ} (h : Admitted (prime q) g D) where
  abbrev d : List ℕ
  d = root_d (prime q) g D

  abbrev Qs : ℕ → List ℕ
  Qs = Q (modulo q) D (root_d (prime q) g D)

  -- lists with no zero at their end are the same where their padded lists are
  pad_same : (x y : List ℕ) → Trim (model q (pos q h.prime)) x → Trim (model q (pos q h.prime)) y → length x ≤ 129 → length y ≤ 129 → pad (modulo q) 129 x ≡ pad (modulo q) 129 y → x ≡ y
  pad_same x y s t k l e =
      sym s ∙ trim_ext (model q (pos q h.prime)) x y (λ i. sym (at_pad (modulo q) 129 x k i) ∙ ap (λ (p : List ℕ). get_or p i 0) e ∙ at_pad (modulo q) 129 y l i) ∙ t

  left_trim : (i : ℕ) → Trim (model q (pos q h.prime)) (left (modulo q) D d i)
  unfolding left
  left_trim zero = (surd_of h).trimmed
  left_trim (suc i) = r_trim (surd_of h) i

  left_fits : (i : ℕ) → length (left (modulo q) D d i) ≤ 129
  left_fits i = let k = left_length (surd_of h) i in let most = h.genus_most in omega arith

  pub remainders_same : {i j m n : ℕ} {b x r c y s : List ℕ} → State (prime q) g D i b x r m → State (prime q) g D j c y s n → r ≡ s → left (modulo q) D d i ≡ left (modulo q) D d j
  remainders_same {i} {j} t u e = pad_same _ _ (left_trim i) (left_trim j) (left_fits i) (left_fits j) (sym t.left_is ∙ e ∙ u.left_is)

  -- a multiple of Q by another's leading coefficient has its degree
  Q_multiple : (i j : ℕ) → Deg (field q h.prime h.odd) (series (model q (pos q h.prime)) (scale (modulo q) (lead (modulo q) (Qs j)) (Qs i))) (length (Qs i) - 1)
  Q_multiple i j =
      deg_path (field q h.prime h.odd) _ (sym (series_scale (model q (pos q h.prime)) _ (Qs i))) (deg_scale (field q h.prime h.odd) _ _ _ (lead_not_zero (surd_of h) j) (Q_deg (surd_of h) i))

  -- ---- cross multiplication
  module _ {i m n : ℕ} {x y : List ℕ} (t : InArray (prime q) g D i x m) (u : InArray (prime q) g D (suc i) y n) where
    product : (j : ℕ) → (modulo q).mul (lead (modulo q) (Qs i)) (get_or (Qs (suc i)) j 0) ≡ (modulo q).mul (get_or y j 0) (get_or x (m - 1) 0)
    product j = ap (λ (v : ℕ). v % q) (mul_comm _ _) ∙ ap₂ (λ (v w : ℕ). v * w % q) (sym (Q_at h (suc i) y u.places j)) (sym (last_is_lead h i x t.places m t.size_is))

    product_next : (j : ℕ) → (modulo q).mul (lead (modulo q) (Qs (suc i))) (get_or (Qs i) j 0) ≡ (modulo q).mul (get_or x j 0) (get_or y (n - 1) 0)
    product_next j = ap (λ (v : ℕ). v % q) (mul_comm _ _) ∙ ap₂ (λ (v w : ℕ). v * w % q) (sym (Q_at h i x t.places j)) (sym (last_is_lead h (suc i) y u.places n u.size_is))

    pub cross_of : m ≡ n → Proportional (prime q) x y n → Cross (prime q) (Qs i) (Qs (suc i))
    cross_of e a =
        let same : (j : ℕ) → (modulo q).mul (lead (modulo q) (Qs i)) (get_or (Qs (suc i)) j 0) ≡ (modulo q).mul (lead (modulo q) (Qs (suc i))) (get_or (Qs i) j 0) = λ j. product j ∙ ap (λ (k : ℕ). get_or y j 0 * get_or x (k - 1) 0 % q) e ∙ sym (a j) ∙ sym (product_next j) in
        sym (trim_scale (model q (pos q h.prime)) _ (Qs (suc i))) ∙ trim_ext (model q (pos q h.prime)) _ _ (λ j. at_scale (model q (pos q h.prime)) _ (Qs (suc i)) j ∙ same j ∙ sym (at_scale (model q (pos q h.prime)) _ (Qs i) j)) ∙ trim_scale (model q (pos q h.prime)) _ (Qs i)

    -- the lists have the same length
    cross_sizes : Cross (prime q) (Qs i) (Qs (suc i)) → m ≡ n
    cross_sizes c =
        let e : length (Qs (suc i)) - 1 ≡ length (Qs i) - 1 = deg_unique (field q h.prime h.odd) (deg_path (field q h.prime h.odd) _ (ap (series (model q (pos q h.prime))) c) (Q_multiple (suc i) i)) (Q_multiple i (suc i)) in
        let v = Q_some (surd_of h) i in
        let w = Q_some (surd_of h) (suc i) in
        let k = t.size_is in
        let l = u.size_is in
        omega arith

    cross_proportional : Cross (prime q) (Qs i) (Qs (suc i)) → Proportional (prime q) x y n
    cross_proportional c j =
        sym (product_next j) ∙ sym (at_scale (model q (pos q h.prime)) _ (Qs i) j) ∙ ap (λ (l : List ℕ). get_or l j 0) (sym c) ∙ at_scale (model q (pos q h.prime)) _ (Qs (suc i)) j ∙ product j ∙ ap (λ (k : ℕ). get_or y j 0 * get_or x (k - 1) 0 % q) (cross_sizes c)

    pub cross_multiple : Cross (prime q) (Qs i) (Qs (suc i)) → (m ≡ n) × Proportional (prime q) x y n
    cross_multiple c = (cross_sizes c, cross_proportional c)
