-- The coefficients of s − r − x·b and of before + a·(z − r), as loops and passes form them: each is the
-- residue of a sum t, in which a number serves for a product's coefficient if its residue is that.
use Rattle.std.specs.Prelude.{ℕ, ◌+◌, ◌-◌, ◌%◌, ◌<◌, ◌≤◌, ◌≡◌, List, [], ◌∷◌, get_or}
use Rattle.std.proofs.Common.{mod-lt, mod-eq_of_lt, sym, ap₂, ◌∙◌}
use Rattle.std.proofs.Math.Path.{ap}
use Rattle.math_ring.specs.Ring.{CRing}
use Rattle.math_ring.specs.Identity.{ring, quote}
use Rattle.math_ring.specs.Residues.{Fq, FqRing, to}
use Rattle.math_ring.specs.Series.{S, Series, add_s, conv, neg_s}
use Rattle.spec_arithmetic.specs.Field.{modulo}
use Rattle.spec_arithmetic.specs.Polynomials.{add, sub, mul}
use Rattle.spec_bridge.specs.Model.{Model, series}
use Rattle.spec_bridge.specs.Residues.{model, to_add, to_mod, to_sub}
use Rattle.spec_bridge.specs.Arithmetic.{series_add, series_sub, series_mul, oks_add, oks_sub}
use Rattle.spec_bridge.specs.Product.{shifted, rows, rows_mul}
use Rattle.base_places.specs.Row.{Bounded, Ends}
use Rattle.base_places.specs.TwoRows.{to_differ}
use Rattle.walk_short.specs.Sums.{Less, More, less_rows, less_rows_are, more_rows, more_rows_are}

module _ (q : ℕ) (pos : 0 < q) where
  abbrev F : CRing (Fq q)
  F = FqRing q pos

  abbrev M : Model (modulo q) F
  M = model q pos

  abbrev φ : ℕ → Fq q
  φ = to q pos

  abbrev product : List ℕ → List ℕ → ℕ → Fq q
  product a b k = conv F (series M a) (series M b) k

  product_sub_series : (a z r : List ℕ) → conv F (series M a) (add_s F (series M z) (neg_s F (series M r))) ≡ add_s F (conv F (series M a) (series M z)) (neg_s F (conv F (series M a) (series M r)))
  product_sub_series a z r = ring (Series F) (series M a ∷ series M z ∷ series M r ∷ []) (search quote depth 40 fits 9999) tt

  product_sub : (a z r : List ℕ) (k : ℕ) → conv F (series M a) (add_s F (series M z) (neg_s F (series M r))) k ≡ F.add (product a z k) (F.neg (product a r k))
  unfolding add_s neg_s
  product_sub a z r k = ap (λ (f : S F). f k) (product_sub_series a z r)

  -- ---- sums and differences of coefficients
  sub_at : (x y : List ℕ) (k : ℕ) → φ (get_or (sub (modulo q) x y) k 0) ≡ F.add (φ (get_or x k 0)) (F.neg (φ (get_or y k 0)))
  unfolding add_s neg_s
  sub_at x y k = ap (λ (f : S F). f k) (series_sub M x y)

  add_at : (x y : List ℕ) (k : ℕ) → φ (get_or (add (modulo q) x y) k 0) ≡ F.add (φ (get_or x k 0)) (φ (get_or y k 0))
  unfolding add_s
  add_at x y k = ap (λ (f : S F). f k) (series_add M x y)

  mul_at : (x y : List ℕ) (k : ℕ) → φ (get_or (mul (modulo q) x y) k 0) ≡ product x y k
  mul_at x y k = ap (λ (f : S F). f k) (series_mul M x y)

  by_residue : (x v : ℕ) → x % q ≡ v → φ x ≡ φ v
  by_residue x v e = sym (to_mod q pos x) ∙ ap φ e

  -- x − y, as it is formed
  difference : (x y : ℕ) → y < q → φ (x + (q - y)) ≡ F.add (φ x) (F.neg (φ y))
  difference x y h = ap (λ (v : ℕ). φ (x + (q - v))) (sym (mod-eq_of_lt h)) ∙ to_sub q pos x y

  -- the coefficient of s − r − x·b
  pub rest_is : (s r x b : List ℕ) (k t p : ℕ) → get_or r k 0 < q → p % q ≡ get_or (mul (modulo q) x b) k 0 → Less q (get_or s k 0 + (q - get_or r k 0)) p t → t % q ≡ get_or (sub (modulo q) (sub (modulo q) s r) (mul (modulo q) x b)) k 0
  rest_is s r x b k t p h e f =
      M.inj _ _ (mod-lt t pos) (oks_sub M (sub (modulo q) s r) (mul (modulo q) x b) k)
      (to_mod q pos t ∙ to_differ q pos t p (get_or s k 0 + (q - get_or r k 0)) f.count f.whole
      ∙ ap₂ (λ u v. F.add u (F.neg v)) (difference (get_or s k 0) (get_or r k 0) h ∙ sym (sub_at s r k)) (by_residue p _ e)
      ∙ sym (sub_at (sub (modulo q) s r) (mul (modulo q) x b) k))

  -- the coefficient of before + a·(z − r)
  pub next_is : (before a z r : List ℕ) (k t x y : ℕ) → x % q ≡ get_or (mul (modulo q) a z) k 0 → y % q ≡ get_or (mul (modulo q) a r) k 0 → More q (get_or before k 0) x y t → t % q ≡ get_or (add (modulo q) before (mul (modulo q) a (sub (modulo q) z r))) k 0
  next_is before a z r k t x y e f h =
      M.inj _ _ (mod-lt t pos) (oks_add M before (mul (modulo q) a (sub (modulo q) z r)) k)
      (to_mod q pos t ∙ to_differ q pos t y (get_or before k 0 + x) h.count h.whole
      ∙ ap₂ (λ u v. F.add u (F.neg v)) (to_add q pos (get_or before k 0) x ∙ ap (F.add (φ (get_or before k 0))) (by_residue x _ e ∙ mul_at a z k)) (by_residue y _ f ∙ mul_at a r k)
      ∙ F.add_assoc (φ (get_or before k 0)) (product a z k) (F.neg (product a r k)) ∙ ap (F.add (φ (get_or before k 0))) (sym change)
      ∙ sym (add_at before (mul (modulo q) a (sub (modulo q) z r)) k))
    where
      change : φ (get_or (mul (modulo q) a (sub (modulo q) z r)) k 0) ≡ F.add (product a z k) (F.neg (product a r k))
      change = mul_at a (sub (modulo q) z r) k ∙ ap (λ (f : S F). conv F (series M a) f k) (series_sub M z r) ∙ product_sub a z r k

  -- ---- the same by the rows of the product, n where the factor has n places
  pub rest_rows : (s r a b : List ℕ) (k n : ℕ) → Bounded q a → Ends a n → get_or r k 0 < q → less_rows q (get_or s k 0 + (q - get_or r k 0)) a b k n % q ≡ get_or (sub (modulo q) (sub (modulo q) s r) (mul (modulo q) a b)) k 0
  rest_rows s r a b k n bounded ends h = rest_is s r a b k _ (rows a b n k) h (rows_mul q pos a b n k ends) (less_rows_are q (get_or s k 0 + (q - get_or r k 0)) a b bounded k n)

  pub next_rows : (before a z r : List ℕ) (k n : ℕ) → Ends a n → ((i : ℕ) → shifted r i k ≤ q) → more_rows q (get_or before k 0) a z r k n % q ≡ get_or (add (modulo q) before (mul (modulo q) a (sub (modulo q) z r))) k 0
  next_rows before a z r k n ends h = next_is before a z r k _ (rows a z n k) (rows a r n k) (rows_mul q pos a z n k ends) (rows_mul q pos a r n k ends) (more_rows_are q (get_or before k 0) a z r k h n)
