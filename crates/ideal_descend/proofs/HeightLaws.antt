-- The proofs of specs/Height.
use Rattle.std.specs.Prelude.{ℕ, ◌-◌, ◌≤◌, ◌<◌, ◌≡◌, List, length, get_or}
use Rattle.std.proofs.Common.{arith, sym, ap, ◌∙◌, ⊎_elim}
use Rattle.std.proofs.Math.ListN.{get_or-eq_default}
use Rattle.math_ring.specs.Ring.{eq_of_sub}
use Rattle.math_ring.specs.Order.{le_or_lt}
use Rattle.math_ring.specs.Residues.{FqRing}
use Rattle.spec_arithmetic.specs.Field.{modulo}
use Rattle.spec_arithmetic.specs.Polynomials.{trim, sub}
use Rattle.spec_bridge.specs.Trim.{trim_le}
use Rattle.spec_bridge.specs.Arithmetic.{at_sub, trim_sub}
use Rattle.spec_bridge.specs.Residues.{model}
use Rattle.ideal_descend.specs.Height.{Height}

module _ (q : ℕ) (pos : 0 < q) where
  -- a − b is 0 where a and b are equal, and nowhere else
  sub_same : (a b : ℕ) → a ≡ b → (modulo q).sub a b ≡ 0
  sub_same a b e = (model q pos).inj _ _ ((model q pos).ok_sub a b) (model q pos).ok_zer ((model q pos).φ_sub a b ∙ ap (λ (x : ℕ). (FqRing q pos).add ((model q pos).φ x) ((FqRing q pos).neg ((model q pos).φ b))) e ∙ (FqRing q pos).add_neg _ ∙ sym (model q pos).φ_zer)

  same_sub : (a b : ℕ) → a < q → b < q → (modulo q).sub a b ≡ 0 → a ≡ b
  same_sub a b h l e = (model q pos).inj a b h l (eq_of_sub (FqRing q pos) _ _ (sym ((model q pos).φ_sub a b) ∙ ap (model q pos).φ e ∙ (model q pos).φ_zer))

  pub height_length : {s r : List ℕ} {k : ℕ} → ((i : ℕ) → get_or s i 0 < q) → ((i : ℕ) → get_or r i 0 < q) → Height s r k → length (sub (modulo q) s r) ≡ k
  height_length {s} {r} {k} s_oks r_oks h =
      let t : length (trim (modulo q) (sub (modulo q) s r)) ≡ length (sub (modulo q) s r) = ap length (trim_sub (model q pos) s r) in
      let low : length (trim (modulo q) (sub (modulo q) s r)) ≤ k = trim_le (model q pos) (sub (modulo q) s r) k (λ i l. at_sub (model q pos) s r i ∙ sub_same _ _ (h.past i l)) in
      ⊎_elim (λ (l : k ≤ length (sub (modulo q) s r)). (omega arith))
      (λ (l : length (sub (modulo q) s r) < k). absurd (h.last (omega arith) (same_sub _ _ (s_oks (k - 1)) (r_oks (k - 1)) (sym (at_sub (model q pos) s r (k - 1)) ∙ get_or-eq_default (sub (modulo q) s r) 0 {n = k - 1} (omega arith)))))
      (le_or_lt k (length (sub (modulo q) s r)))
