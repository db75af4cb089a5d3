-- The theorem a reader opens: where an odd prime q is 0 in a field and c^q = c, its extension by a non-square
-- ν is perfect, and the q-th root of c is c^q. The q-th power takes u + v·w to u + ε·v·w with ε =
-- ν^((q−1)/2), and twice to itself, as ε² = ν^(q−1) = 1.
use Prim.Native.Nat.{ℕ, suc, ◌+◌ as ◌+ₙ◌, ◌<◌}
use Rattle.std.specs.Prelude.{◌≡◌}
use Rattle.math_ring.specs.Ring.{CRing}
use Rattle.math_algebra.specs.Field.{Field}
use Rattle.math_algebra.specs.Multiple.{natural, power}
use Rattle.math_algebra.specs.Characteristic.{Characteristic, Perfect}
use Rattle.math_algebra.specs.Prime.{Prime}
use Rattle.math_quadratic.specs.Pairs.{Pair, Pairs}
use Rattle.math_quadratic.specs.Extension.{NonSquare, extension}

-- (u + v·w)^q = u + ν^k·v·w for q = 2k + 1, over a ring in which c^q = c
abbrev pub Conjugate : {A : Type 0} → CRing A → A → Type 0
Conjugate {A} R ν = (k : ℕ) → Characteristic (Pairs R ν) (suc (k +ₙ k)) → ((c : A) → power R c (suc (k +ₙ k)) ≡ c) → (u v : A)
    → power (Pairs R ν) (u, v) (suc (k +ₙ k)) ≡ (u, R.mul v (power R ν k))

module _ {A : Type 0} (K : Field A) (ν : A) where
  -- (c^q)^q = c in the extension
  abbrev pub PowerTwice : Type 0
  PowerTwice = NonSquare K ν → (q : ℕ) → Prime q → 2 < q → natural K.scalars q ≡ K.scalars.zer → ((c : A) → power K.scalars c q ≡ c)
      → (c : Pair A) → power (Pairs K.scalars ν) (power (Pairs K.scalars ν) c q) q ≡ c

  -- so c^q is a q-th root of c, and the extension is perfect
  abbrev pub PerfectExtension : Type 0
  PerfectExtension = (n : NonSquare K ν) (q : ℕ) → Prime q → 2 < q → natural K.scalars q ≡ K.scalars.zer → ((c : A) → power K.scalars c q ≡ c) → Perfect (extension K ν n)
