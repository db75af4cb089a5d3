-- Fermat's theorem for the numbers mod a prime q, and that a field of them is perfect: each is a multiple of
-- 1, and q is 0.
use Prim.Native.Nat.{ℕ, zero, suc, ◌%◌, ◌<◌}
use Rattle.std.proofs.Math.Nat.{mod_self, mod-add-mod, add-mod-mod}
use Rattle.std.proofs.Common.{mod-eq_of_lt, add-one, ◌∙◌, subst}
use Rattle.std.specs.Prelude.{◌≡◌}
use Rattle.std.proofs.Math.Path.{refl, sym, ap}
use Rattle.math_ring.specs.Residues.{Fq, FqRing, to, add_f, val_path}
use Rattle.math_algebra.specs.Field.{Field}
use Rattle.math_algebra.specs.Multiple.{natural, power}
use Rattle.math_algebra.specs.Characteristic.{Perfect}
use Rattle.math_algebra.specs.Frobenius.{fermat}
use Rattle.math_algebra.specs.Prime.{Prime, prime_characteristic, perfect_prime}

module _ (q : ℕ) (pos : 0 < q) where
  pub natural_residue : (n : ℕ) → natural (FqRing q pos) n ≡ to q pos n
  unfolding natural add_f to
  natural_residue zero = refl
  natural_residue (suc n) = ap (λ c. add_f q pos c (to q pos 1)) (natural_residue n) ∙ val_path q _ _ (mod-add-mod n q (1 % q) ∙ add-mod-mod n 1 q ∙ ap (λ t. t % q) (add-one n))

  pub residue_multiple : (c : Fq q) → natural (FqRing q pos) c.0 ≡ c
  unfolding to
  residue_multiple c = natural_residue c.0 ∙ val_path q _ _ (mod-eq_of_lt c.1)

  pub residue_zero : natural (FqRing q pos) q ≡ to q pos 0
  unfolding to
  residue_zero = natural_residue q ∙ val_path q _ _ (mod_self q ∙ sym (mod-eq_of_lt pos))

  pub fermat_residue : Prime q → (c : Fq q) → power (FqRing q pos) c q ≡ c
  fermat_residue prime c = subst (λ x. power (FqRing q pos) x q ≡ x) (residue_multiple c) (fermat (FqRing q pos) q (prime_characteristic (FqRing q pos) q prime residue_zero) c.0)

  -- any field on the ring of the numbers mod q
  pub perfect_residues : Prime q → (K : Field (Fq q)) → K.scalars ≡ FqRing q pos → Perfect K
  perfect_residues prime K e = perfect_prime K q prime (subst (λ R. natural R q ≡ R.zer) (sym e) residue_zero) (λ c. c.0) (subst (λ R. (c : Fq q) → natural R c.0 ≡ c) (sym e) residue_multiple)
