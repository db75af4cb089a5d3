-- The proofs of specs/Residues.
use Rattle.std.specs.Prelude.{ℕ, ◌+◌, ◌-◌, ◌%◌, ◌≤◌, ◌<◌, ◌≡◌}
use Rattle.std.proofs.Common.{mod-lt, mod-eq_of_lt, eq-zero-or-pos, arith, sym, ap, ◌∙◌, subst, ⊎_elim, lt-ltb, le-ltb}
use Rattle.std.proofs.Math.Nat.{mod-mod, mod-zero, mod-add-mod, add-mod-mod, add-mod_right, mod-le}
use Rattle.math_ring.specs.Order.{le_or_lt}
use Rattle.spec_arithmetic.specs.Words.{values}
use Rattle.spec_several.specs.Several.{negatives, residue}
use Rattle.spec_several.specs.Residues.{Residues, OneResidue, less}

-- ---- the proof
module _ (q : ℕ) where
  -- a − 2^28 + 2^28, and a + 2^28 − 2^28
  module _ (p : 0 < q) (a : ℕ) where
    whole : a + (q - values % q) + values % q ≡ a + q
    whole = let l : values % q < q = mod-lt values p in omega arith

    sum : (a + (q - values % q) + values) % q ≡ a % q
    sum = sym (add-mod-mod (a + (q - values % q)) values q) ∙ ap (λ (k : ℕ). k % q) whole ∙ add-mod_right a q

    less_more : ((less q) a + values) % q ≡ a % q
    less_more = mod-add-mod (a + (q - values % q)) q values ∙ sum

    more_less : (less q) ((a + values) % q) ≡ a % q
    more_less =
        let e : a + values + (q - values % q) ≡ a + (q - values % q) + values = omega arith in
        mod-add-mod (a + values) q (q - values % q) ∙ ap (λ (k : ℕ). k % q) e ∙ sum

  module _ (v : ℕ) where
    pub plain_residue : v < negatives → residue q v ≡ v % q
    unfolding residue
    plain_residue h = rw (lt-ltb v negatives h, residue)

    pub negative_residue : negatives ≤ v → residue q v ≡ (less q) v
    unfolding residue
    negative_residue h = rw (le-ltb v negatives h, residue)

    pub residue_below : 0 < q → residue q v < q
    residue_below p = ⊎_elim
        (λ h. subst (λ (k : ℕ). k < q) (sym (negative_residue h)) (mod-lt (v + (q - values % q)) p))
        (λ h. subst (λ (k : ℕ). k < q) (sym (plain_residue h)) (mod-lt v p))
        (le_or_lt negatives v)

    -- a word can hold it, also modulo 0, where 2 refuses
    pub residue_fits : q < values → v < values → residue q v < values
    residue_fits hq hv = ⊎_elim zero_fits (λ p. let l = residue_below p in omega arith) (eq-zero-or-pos q)
      where
        less_zero : q ≡ 0 → (less q) v ≡ v + 0
        less_zero e = ap (λ (k : ℕ). (v + (k - values % k)) % k) e ∙ mod-zero (v + (0 - values % 0))

        zero_fits : q ≡ 0 → residue q v < values
        zero_fits e = ⊎_elim
            (λ h. subst (λ (k : ℕ). k < values) (sym (negative_residue h ∙ less_zero e)) (omega arith))
            (λ h. subst (λ (k : ℕ). k < values) (sym (plain_residue h)) (let l = mod-le v q in omega arith))
            (le_or_lt negatives v)

pub residues : Residues
residues q v p = record {
  below = residue_below q v p;
  plain = λ h. ap (λ (k : ℕ). k % q) (plain_residue q v (omega arith)) ∙ mod-mod v q;
  negative = λ h. ap (λ (k : ℕ). (k + values) % q) (negative_residue q v (omega arith)) ∙ less_more q p v;
}

pub one_residue : OneResidue
one_residue q v r s a b = sym (mod-eq_of_lt a.below) ∙ ⊎_elim
    (λ h. sym (more_less q p r) ∙ ap (less q) (a.negative h ∙ sym (b.negative h)) ∙ more_less q p s)
    (λ h. a.plain h ∙ sym (b.plain h))
    (le_or_lt values (v + v)) ∙ mod-eq_of_lt b.below
  where
    p : 0 < q
    p = let l = a.below in omega arith
