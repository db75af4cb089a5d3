-- The product of 2/lc Q_j for all j below i, as a run keeps it: a number with its residue, of bounded size.
use Rattle.std.specs.Prelude.{ℕ, suc, ◌+◌, ◌*◌, ◌-◌, ◌%◌, ◌<◌, ◌≤◌, ◌≡◌, List, get_or}
use Rattle.std.proofs.Common.{mul-le-mul, mod-lt, arith, sym, ap, ap₂, ◌∙◌, subst}
use Rattle.std.proofs.Math.Nat.{mod-mod}
use Rattle.std.proofs.lemmas.Nat.{mul-mod_second, mul-mod_first}
use Rattle.spec_arithmetic.specs.Field.{modulo}
use Rattle.spec_arithmetic.specs.Polynomials.{lead}
use Rattle.spec_definitions.specs.Walk.{Q}
use Rattle.spec_bridge.specs.Residues.{pos, inverse_lt}
use Rattle.spec_laws.specs.Admitted.{surd_of}
use Rattle.spec_laws.specs.Fraction.{Q_some, Q_length}
use Rattle.spec_laws.specs.Surd.{Q_oks}
use Rattle.spec_laws.specs.Leads.{leads_to, leads_zero, leads_suc, lead_Q_is}
use Rattle.base_polynomial.specs.declared.Poly.{Poly}
use Rattle.walk_state.specs.declared.Walk.{Walk}
use Rattle.walk_state.specs.State.{State, last_is_lead}
use Rattle.walk_state.specs.Walk.{name, ops, g, D, root}

-- the largest coefficient, and the largest factor 2/lc Q
abbrev pub largest_coefficient : ℕ
largest_coefficient = 4095

abbrev pub largest_factor : ℕ
largest_factor = largest_coefficient + largest_coefficient

-- a coefficient times two factors
abbrev pub two_factors : ℕ
two_factors = largest_coefficient * largest_factor * largest_factor

-- 2/lc Q, from the table
abbrev pub factor_of : List ℕ → Poly → ℕ
factor_of inverses current = get_or inverses (get_or current.c (current.size - 1) 0) 0 + get_or inverses (get_or current.c (current.size - 1) 0) 0

-- what a product with it asks for: the leading coefficient is a place of the table, and the product fits
pub record Asks (inverses : List ℕ) (current : Poly) (lead : ℕ) : Type 0 where
  pub some : 0 < current.size
  pub most : current.size ≤ 129
  pub place : get_or current.c (current.size - 1) 0 < 4096
  pub small : get_or inverses (get_or current.c (current.size - 1) 0) 0 < 4096
  pub fits : lead ≤ two_factors

-- `lead` stands for the product for all j below i, and is at most `bound`
pub record Kept (w : Walk) (i bound lead : ℕ) : Type 0 where
  pub is : lead % w.root.surd.field.q ≡ leads_to (ops w) (D w) (root w) i
  pub most : lead ≤ bound

module _ (w : Walk) where
  pub kept_first : (i : ℕ) → i ≡ 0 → Kept w i largest_coefficient 1
  kept_first i e = record { is = sym (leads_zero (ops w) (D w) (root w)) ∙ ap (leads_to (ops w) (D w) (root w)) (sym e); most = omega arith }

  -- reduced
  pub kept_reduced : {i k n : ℕ} → Kept w i k n → Kept w i largest_coefficient (n % w.root.surd.field.q)
  kept_reduced {n = n} t =
      let h = w.root.surd.admitted in
      record { is = mod-mod n w.root.surd.field.q ∙ t.is; most = let l = mod-lt n (pos w.root.surd.field.q h.prime) in let s = h.small in omega arith }

  -- ---- one factor more
  module _ {i : ℕ} {before rest : List ℕ} {current : Poly} (t : State (name w) (g w) (D w) i before current.c rest current.size) where
    lead_is : get_or current.c (current.size - 1) 0 ≡ lead (ops w) (Q (ops w) (D w) (root w) i)
    lead_is = last_is_lead w.root.surd.admitted i current.c t.q_is current.size t.size_is

    lead_below : get_or current.c (current.size - 1) 0 < w.root.surd.field.q
    lead_below = subst (λ (x : ℕ). x < w.root.surd.field.q) (sym (lead_is ∙ lead_Q_is (surd_of w.root.surd.admitted) i)) (Q_oks (surd_of w.root.surd.admitted) i _)

    inverse_is : get_or w.inverses.now (get_or current.c (current.size - 1) 0) 0 ≡ (ops w).inv (lead (ops w) (Q (ops w) (D w) (root w) i))
    inverse_is = w.inverses_are _ lead_below ∙ ap (ops w).inv lead_is

    inverse_below : get_or w.inverses.now (get_or current.c (current.size - 1) 0) 0 < w.root.surd.field.q
    inverse_below = subst (λ (x : ℕ). x < w.root.surd.field.q) (sym inverse_is) (inverse_lt w.root.surd.field.q (pos w.root.surd.field.q w.root.surd.admitted.prime) _)

    pub factor_asks : {k n : ℕ} → Kept w i k n → k ≤ two_factors → Asks w.inverses.now current n
    factor_asks m l =
        let h = w.root.surd.admitted in
        let s = h.small in
        let e = t.size_is in
        let b = Q_length (surd_of h) i in
        let o = h.genus_most in
        let z = m.most in
        record {
          some = let a = Q_some (surd_of h) i in omega arith;
          most = omega arith;
          place = let c = lead_below in omega arith;
          small = let c = inverse_below in omega arith;
          fits = omega arith;
        }

    pub kept_next : {k n r : ℕ} → Kept w i k n → r ≡ n * factor_of w.inverses.now current → (j : ℕ) → j ≡ suc i → Kept w j (k * largest_factor) r
    kept_next {k} {n} m e j o =
        record {
          is =
              ap (λ (x : ℕ). x % w.root.surd.field.q) e ∙ sym (mul-mod_second n (v + v) w.root.surd.field.q) ∙ sym (mul-mod_first n ((v + v) % w.root.surd.field.q) w.root.surd.field.q)
              ∙ ap₂ (modulo w.root.surd.field.q).mul m.is (ap (λ (x : ℕ). (modulo w.root.surd.field.q).add x x) inverse_is) ∙ sym (leads_suc (ops w) (D w) (root w) i) ∙ ap (leads_to (ops w) (D w) (root w)) (sym o);
          most = subst (λ (x : ℕ). x ≤ k * largest_factor) (sym e) (mul-le-mul m.most (let a = inverse_below in let s = w.root.surd.admitted.small in let b : v + v ≤ largest_factor = omega arith in b));
        }
      where
        v : ℕ
        v = get_or w.inverses.now (get_or current.c (current.size - 1) 0) 0
