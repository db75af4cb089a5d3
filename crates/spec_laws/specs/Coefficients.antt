-- The test that a list, or the first n places of an array, has only coefficients of the field: where it fails
-- at one place, and where it holds at all.
use Rattle.std.specs.Prelude.{ℕ, suc, ◌≤◌, ◌<◌, ◌≡◌, Bool, true, false, length, get_or, take}
use Rattle.std.proofs.Common.{arith, sym, subst, length-take-le, get_or-take}
use Rattle.std.proofs.Math.Path.{refl}
use mathlib.Core.List.{List, [], ◌∷◌}
use Rattle.spec_arithmetic.specs.Field.{FieldName, fits}
use Rattle.spec_arithmetic.specs.Words.{some_not}
use Rattle.spec_fields.specs.Named.{Ok, ok_fits}
use Rattle.spec_laws.specs.Admitted.{below_of}

module _ (f : FieldName) where
  -- every number is admissible
  pub some_none : (l : List ℕ) → ((i : ℕ) → i < length l → Ok f (get_or l i 0)) → some_not (fits f) l ≡ false
  unfolding some_not
  some_none [] h = refl
  some_none (x ∷ l) h = rw (some_not, ok_fits f x (h 0 (omega arith))) (some_none l (λ i k. h (suc i) (omega arith)))

  -- the number at i is not
  some_at : Ok f 0 → (l : List ℕ) (i : ℕ) → (Ok f (get_or l i 0) → ⊥) → some_not (fits f) l ≡ true
  some_at z l i h = go (some_not (fits f) l) refl
    where
      go : (t : Bool) → some_not (fits f) l ≡ t → some_not (fits f) l ≡ true
      go true e = e
      go false e = absurd (h (below_of f z l e i))

  -- the same of the first n places of an array
  module _ (c : List ℕ) (n : ℕ) (long : n ≤ length c) where
    pub take_none : ((i : ℕ) → i < n → Ok f (get_or c i 0)) → some_not (fits f) (take n c) ≡ false
    take_none h = some_none (take n c) (λ i k. let low : i < n = (let e : length (take n c) ≡ n = length-take-le n c long in omega arith) in subst (Ok f) (sym (get_or-take n c i 0 low)) (h i low))

    pub take_at : Ok f 0 → (i : ℕ) → i < n → (Ok f (get_or c i 0) → ⊥) → some_not (fits f) (take n c) ≡ true
    take_at z i low h = some_at z (take n c) i (λ k. h (subst (Ok f) (get_or-take n c i 0 low) k))
