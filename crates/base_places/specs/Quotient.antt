-- The coefficient of a quotient at k is what clears a − z·b at the top, where z has the coefficients above k:
-- there the product quo·b has one term more than z·b. The remainder is a − quo·b. Arrays that hold a quotient, or
-- its coefficients from k on.
use Rattle.std.specs.Prelude.{ℕ, suc, ◌+◌ as ◌+ₙ◌, ◌-◌ as ◌-ₙ◌, ◌<◌, ◌≤◌, ◌≡◌, List, [], ◌∷◌, length, get_or}
use Rattle.std.proofs.Common.{arith, sym, ap₂, ◌∙◌, subst, ⊎_elim}
use Rattle.std.proofs.Math.Path.{ap}
use Rattle.std.proofs.Math.ListN.{get_or-eq_default}
use Rattle.math_ring.specs.Ring.{CRing}
use Rattle.math_ring.specs.Identity.{ring, ring_from, times, quote}
use Rattle.math_ring.specs.Series.{S, Series, add_s, conv, neg_s}
use Rattle.math_ring.specs.Degree.{Below, lead_conv}
use Rattle.math_ring.specs.Order.{le_or_lt}
use Rattle.spec_arithmetic.specs.Field.{Ops, modulo, prime}
use Rattle.spec_arithmetic.specs.Polynomials.{at, trim, lead, sub, mul, quo, rem}
use Rattle.spec_bridge.specs.Model.{Model, Inverts, series}
use Rattle.spec_bridge.specs.Trim.{below_size, lead_some, lead_is, series_ext}
use Rattle.spec_bridge.specs.Arithmetic.{oks_sub, trim_sub, series_sub, series_mul}
use Rattle.spec_bridge.specs.Division.{trim_rem, oks_quo, oks_rem, rem_below, series_quo_rem}
use Rattle.spec_bridge.specs.Quotient.{quo_length}
use Rattle.spec_bridge.specs.Prime.{Prime}
use Rattle.spec_bridge.specs.Residues.{model, inverts}
use Rattle.base_places.specs.Places.{Places, Within}
use Rattle.base_places.specs.Down.{Down}

module _ {A B : Type 0} {o : Ops A} {R : CRing B} (M : Model o R) (a b : List A) where
  open M use {φ, φ_zer, φ_sub, φ_mul}

  pub rem_difference : sub o a (mul o (quo o a b) b) ≡ rem o a b
  rem_difference =
      series_ext M _ _ (trim_sub M _ _) (trim_rem M a b) (oks_sub M _ _) (oks_rem M a b)
      (series_sub M a (mul o (quo o a b) b) ∙ ap₂ (λ f g. add_s R f (neg_s R g)) (series_quo_rem M a b) (series_mul M (quo o a b) b)
      ∙ ring (Series R) (series M (quo o a b) ∷ series M b ∷ series M (rem o a b) ∷ []) (search quote depth 40 fits 9999) tt)

  -- z has the coefficients above k, zeros below
  module _ (I : Inverts M) (some : 0 < length (trim o b)) (z : List A) (k : ℕ) (above : (i : ℕ) → k < i → at o z i ≡ at o (quo o a b) i) (none : at o z k ≡ o.zer) where
    -- the place of the leading coefficient
    abbrev last : ℕ
    last = length (trim o b) -ₙ 1

    abbrev missing : S R
    missing = add_s R (series M (quo o a b)) (neg_s R (series M z))

    missing_below : Below R missing (suc k)
    unfolding add_s neg_s
    missing_below i h = ap (λ x. R.add (φ (at o (quo o a b) i)) (R.neg (φ x))) (above i h) ∙ R.add_neg (φ (at o (quo o a b) i))

    missing_at : missing k ≡ φ (at o (quo o a b) k)
    unfolding add_s neg_s
    missing_at = ap (λ x. R.add (φ (at o (quo o a b) k)) (R.neg x)) (ap φ none ∙ φ_zer) ∙ ring R (φ (at o (quo o a b) k) ∷ []) (search quote depth 40 fits 9999) tt

    missing_mul : conv R (series M (quo o a b)) (series M b) ≡ add_s R (conv R (series M z) (series M b)) (conv R missing (series M b))
    missing_mul = ring (Series R) (series M (quo o a b) ∷ series M z ∷ series M b ∷ []) (search quote depth 40 fits 9999) tt

    -- one term more of the product
    top_term : conv R (series M (quo o a b)) (series M b) (k +ₙ last) ≡ R.add (conv R (series M z) (series M b) (k +ₙ last)) (R.mul (φ (at o (quo o a b) k)) (φ (at o b last)))
    unfolding add_s
    top_term =
        ap (λ (f : S R). f (k +ₙ last)) missing_mul
        ∙ ap (R.add (conv R (series M z) (series M b) (k +ₙ last))) (lead_conv R k last missing (series M b) missing_below (λ i h. below_size M b i (omega arith)) ∙ ap (λ u. R.mul u (φ (at o b last))) missing_at)

    dividend_at : φ (at o a (k +ₙ last)) ≡ R.add (conv R (series M (quo o a b)) (series M b) (k +ₙ last)) (φ (at o (rem o a b) (k +ₙ last)))
    unfolding add_s
    dividend_at = ap (λ (f : S R). f (k +ₙ last)) (series_quo_rem M a b)

    product_at : φ (at o (mul o z b) (k +ₙ last)) ≡ conv R (series M z) (series M b) (k +ₙ last)
    product_at = ap (λ (f : S R). f (k +ₙ last)) (series_mul M z b)

    -- what is left at the top is the coefficient at k times the leading one
    left_at : φ (o.sub (at o a (k +ₙ last)) (at o (mul o z b) (k +ₙ last))) ≡ R.mul (φ (at o (quo o a b) k)) (φ (at o b last))
    left_at =
        φ_sub _ _ ∙ ap₂ (λ u v. R.add u (R.neg v)) (dividend_at ∙ ap₂ R.add top_term (rem_below M I a b some (k +ₙ last) (omega arith))) product_at
        ∙ ring R (conv R (series M z) (series M b) (k +ₙ last) ∷ φ (at o (quo o a b) k) ∷ φ (at o b last) ∷ []) (search quote depth 40 fits 9999) tt

    unit_mul : R.mul (φ (o.inv (at o b last))) (φ (at o b last)) ≡ R.one
    unit_mul = ap (λ x. R.mul (φ (o.inv x)) (φ x)) (sym (lead_is M b)) ∙ I.inv_mul (lead o b) (lead_some M b some)

    quo_at : o.mul (o.sub (at o a (k +ₙ last)) (at o (mul o z b) (k +ₙ last))) (o.inv (at o b last)) ≡ at o (quo o a b) k
    quo_at =
        M.inj _ _ (M.ok_mul _ _) (oks_quo M a b k)
        (φ_mul _ _ ∙ ap (λ u. R.mul u (φ (o.inv (at o b last)))) left_at
        ∙ ring_from R (φ (at o (quo o a b) k) ∷ φ (at o b last) ∷ φ (o.inv (at o b last)) ∷ []) (times R (φ (at o (quo o a b) k)) unit_mul) (search quote depth 40 fits 9999) tt)

-- modulo q, of a of at most m coefficients and b of n
module _ (q : ℕ) (pos : 0 < q) (a b : List ℕ) {m n : ℕ} (a_short : length (trim (modulo q) a) ≤ m) (b_size : length (trim (modulo q) b) ≡ n) where
  pub quo_past : (i : ℕ) → m +ₙ 1 -ₙ n ≤ i → get_or (quo (modulo q) a b) i 0 ≡ 0
  quo_past i h = get_or-eq_default (quo (modulo q) a b) 0 {n = i} (let l = quo_length (model q pos) a b in omega arith)

  module _ (z : List ℕ) where
    -- the next coefficient, from an array that has those above it
    pub quo_next : Prime q → 0 < n → (k place : ℕ) → place ≡ k +ₙ (n -ₙ 1) → ((i : ℕ) → k < i → get_or z i 0 ≡ get_or (quo (modulo q) a b) i 0) → get_or z k 0 ≡ 0
        → (modulo q).mul ((modulo q).sub (get_or a place 0) (get_or (mul (modulo q) z b) place 0)) ((modulo q).inv (get_or b (n -ₙ 1) 0)) ≡ get_or (quo (modulo q) a b) k 0
    quo_next p some k place e above none = subst (λ (i : ℕ). cleared i (n -ₙ 1) ≡ get_or (quo (modulo q) a b) k 0) (sym e) (subst (λ (t : ℕ). cleared (k +ₙ (t -ₙ 1)) (t -ₙ 1) ≡ get_or (quo (modulo q) a b) k 0) b_size here)
      where
        cleared : ℕ → ℕ → ℕ
        cleared i t = (modulo q).mul ((modulo q).sub (get_or a i 0) (get_or (mul (modulo q) z b) i 0)) ((modulo q).inv (get_or b t 0))

        here : cleared (k +ₙ (length (trim (modulo q) b) -ₙ 1)) (length (trim (modulo q) b) -ₙ 1) ≡ get_or (quo (modulo q) a b) k 0
        here = quo_at (model q pos) a b (inverts q pos p) (let h = b_size in omega arith) z k above none

    -- the coefficients that are found so far
    pub quo_within_down : (k : ℕ) → k ≤ m +ₙ 1 -ₙ n → Down z (λ i. get_or (quo (modulo q) a b) i 0) k → Within (prime q) z (m +ₙ 1 -ₙ n)
    quo_within_down k h d =
        record {
          reduced = λ i. ⊎_elim (λ l. subst (λ (x : ℕ). x < q) (sym (d.done i l)) (oks_quo (model q pos) a b i)) (λ l. subst (λ (x : ℕ). x < q) (sym (d.rest i l)) pos) (le_or_lt k i);
          past = λ i l. d.done i (omega arith) ∙ quo_past i l;
        }

    pub quo_within : Places z (λ i. get_or (quo (modulo q) a b) i 0) → Within (prime q) z (m +ₙ 1 -ₙ n)
    quo_within p = record { reduced = λ i. subst (λ (x : ℕ). x < q) (sym (p.at i)) (oks_quo (model q pos) a b i); past = λ i l. p.at i ∙ quo_past i l }
