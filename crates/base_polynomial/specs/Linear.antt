-- From places to polynomials: an array with the coefficients of a trimmed, reduced list, and its size, is the
-- record of that list.
-- So each sum, difference and multiple that is formed place by place is the definition's.
use Rattle.std.specs.Prelude.{ℕ, zero, suc, ◌+◌, ◌-◌, ◌*◌, ◌%◌, ◌<◌, ◌≤◌, ◌≡◌, refl, List, [], length, get_or}
use Rattle.std.proofs.Common.{add_comm, zero-mul, suc-mul, add-one, arith, sym, ap, ap₂, ◌∙◌, ⊎_elim}
use Rattle.std.proofs.Math.Nat.{zero-mod, add-mod-mod}
use Rattle.std.proofs.Math.ListN.{get_or-eq_default}
use Rattle.math_ring.specs.Order.{le_or_lt}
use Rattle.math_ring.specs.Residues.{Fq, FqRing}
use Rattle.math_algebra.specs.Derivative.{derivative_at}
use Rattle.spec_arithmetic.specs.Field.{FieldName, modulo, prime}
use Rattle.spec_arithmetic.specs.Polynomials.{trim, add, sub, scale, lead, times, derivative}
use Rattle.spec_bridge.specs.Model.{series}
use Rattle.spec_bridge.specs.Trim.{length_le, lead_is}
use Rattle.spec_bridge.specs.Arithmetic.{at_add, at_sub, at_scale, trim_add, trim_sub, trim_scale}
use Rattle.spec_bridge.specs.Derivative.{φ_times, ok_times, series_derivative, oks_derivative, trim_derivative}
use Rattle.spec_bridge.specs.Residues.{model}
use Rattle.base_polynomial.specs.Record.{poly, Held, Is}
use Rattle.base_polynomial.specs.Held.{held_positive, length_poly, at_poly, is_of}
use Rattle.base_places.specs.Places.{Places, Within, Top, zeros, length_zeros, at_zeros}
pub use Rattle.base_places.specs.Zeros.{add_zeros, sub_zeros, scale_zero}

-- the size found is the length of the trimmed list
pub top_length : (q : ℕ) (pos : 0 < q) (c : List ℕ) (n : ℕ) (l : List ℕ) → trim (modulo q) l ≡ l → Places c (λ i. get_or l i 0) → Top c n → n ≡ length l
top_length q pos c n l t p h =
    let low : length l ≤ n = length_le (model q pos) l n t (λ i k. ap (model q pos).φ (sym (p.at i) ∙ h.past i k)) in
    ⊎_elim (λ k. (let w : n ≤ length l = k in omega arith)) (λ k. absurd (h.last (omega arith) (p.at (n - 1) ∙ get_or-eq_default l 0 {n = n - 1} (omega arith)))) (le_or_lt n (length l))

pub is_result : (q : ℕ) (pos : 0 < q) (c : List ℕ) (n : ℕ) (l : List ℕ) → trim (modulo q) l ≡ l → Places c (λ i. get_or l i 0) → Top c n → Is (prime q) c n l
is_result q pos c n l t p h =
    let e : n ≡ length l = top_length q pos c n l t p h in
    let s : n ≤ 129 = h.short in
    is_of q c n l p.long e (omega arith) p.at

pub is_zero : (f : FieldName) → Is f zeros 0 []
is_zero f = is_of f.q zeros 0 [] length_zeros refl (omega arith) at_zeros

-- a held record as the loops read it
pub held_within : (q : ℕ) (c : List ℕ) (size n : ℕ) → Held (prime q) c size → size ≤ n → Within (prime q) c n
held_within q c size n h s =
    record {
      reduced = h.reduced;
      past = λ i k. sym (at_poly q c size h i) ∙ get_or-eq_default (poly c size) 0 {n = i} (let e : length (poly c size) ≡ size = length_poly q c size h in omega arith);
    }

-- the derivative's coefficients: (i + 1) times that at i + 1, which the definition forms by adding
at_derivative : (q : ℕ) (pos : 0 < q) (p : List ℕ) (i : ℕ) → get_or (derivative (modulo q) p) i 0 ≡ times (modulo q) (suc i) (get_or p (suc i) 0)
at_derivative q pos p i =
    let M = model q pos in
    M.inj _ _ (oks_derivative M p i) (ok_times M (suc i) _) (ap (λ (f : ℕ → Fq q). f i) (series_derivative M p) ∙ derivative_at (FqRing q pos) (series M p) i ∙ sym (φ_times M (suc i) _))

times_modulo : (q k a : ℕ) → times (modulo q) k a ≡ (modulo q).mul k a
unfolding times
times_modulo q zero a = sym (ap (λ (m : ℕ). m % q) (zero-mul a) ∙ zero-mod q)
times_modulo q (suc k) a = ap ((modulo q).add a) (times_modulo q k a) ∙ add-mod-mod a (k * a) q ∙ ap (λ (m : ℕ). m % q) (add_comm a (k * a) ∙ sym (suc-mul k a))

module _ (q : ℕ) (a : List ℕ) (a_size : ℕ) (held_a : Held (prime q) a a_size) (c : List ℕ) (n : ℕ) (t : Top c n) where
  pos : 0 < q
  pos = held_positive q a a_size held_a

  module _ (b : List ℕ) (b_size : ℕ) (held_b : Held (prime q) b b_size) where
    pub is_add : Places c (λ i. (modulo q).add (get_or a i 0) (get_or b i 0)) → Is (prime q) c n (add (modulo q) (poly a a_size) (poly b b_size))
    is_add p =
        is_result q pos c n _ (trim_add (model q pos) (poly a a_size) (poly b b_size))
        (record { long = p.long; at = λ i. p.at i ∙ sym (at_add (model q pos) (poly a a_size) (poly b b_size) i ∙ ap₂ (modulo q).add (at_poly q a a_size held_a i) (at_poly q b b_size held_b i)) }) t

    pub is_sub : Places c (λ i. (modulo q).sub (get_or a i 0) (get_or b i 0)) → Is (prime q) c n (sub (modulo q) (poly a a_size) (poly b b_size))
    is_sub p =
        is_result q pos c n _ (trim_sub (model q pos) (poly a a_size) (poly b b_size))
        (record { long = p.long; at = λ i. p.at i ∙ sym (at_sub (model q pos) (poly a a_size) (poly b b_size) i ∙ ap₂ (modulo q).sub (at_poly q a a_size held_a i) (at_poly q b b_size held_b i)) }) t

  pub is_scale : (k : ℕ) → Places c (λ i. (modulo q).mul k (get_or a i 0)) → Is (prime q) c n (scale (modulo q) k (poly a a_size))
  is_scale k p =
      is_result q pos c n _ (trim_scale (model q pos) k (poly a a_size))
      (record { long = p.long; at = λ i. p.at i ∙ sym (at_scale (model q pos) k (poly a a_size) i ∙ ap ((modulo q).mul k) (at_poly q a a_size held_a i)) }) t

  pub is_derivative : Places c (λ i. (modulo q).mul (i + 1) (get_or a (i + 1) 0)) → Is (prime q) c n (derivative (modulo q) (poly a a_size))
  is_derivative p =
      is_result q pos c n _ (trim_derivative (model q pos) (poly a a_size))
      (record { long = p.long; at = λ i. p.at i ∙ sym (at_derivative q pos (poly a a_size) i ∙ times_modulo q (suc i) _ ∙ ap₂ (modulo q).mul (sym (add-one i)) (at_poly q a a_size held_a (suc i) ∙ ap (λ (k : ℕ). get_or a k 0) (sym (add-one i)))) }) t

-- the leading coefficient stands before the size; the zero polynomial has 0 there too
pub lead_place : (q : ℕ) (a : List ℕ) (a_size : ℕ) → Held (prime q) a a_size → lead (modulo q) (poly a a_size) ≡ get_or a (a_size - 1) 0
lead_place q a a_size h =
    lead_is (model q (held_positive q a a_size h)) (poly a a_size) ∙ at_poly q a a_size h (length (trim (modulo q) (poly a a_size)) - 1)
    ∙ ap (λ (m : ℕ). get_or a (m - 1) 0) (ap length h.trimmed ∙ length_poly q a a_size h)
