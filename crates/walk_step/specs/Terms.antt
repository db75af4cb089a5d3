-- What a loop has after i terms where it takes x·y from a number, and where it adds x·(y − z).
use Rattle.std.specs.Prelude.{ℕ, zero, suc, ◌+◌, ◌*◌, ◌-◌, ◌≤◌, ◌<◌, ◌≡◌, refl, List, get_or}
use Rattle.std.proofs.Common.{mul-le-mul, zero-mul, sym, ap₂, ◌∙◌, subst}
use native.Mathlib.Omega.{arith}
use Rattle.spec_bridge.specs.Product.{dots, dots_more}
use Rattle.base_places.specs.Row.{Bounded}
use Rattle.walk_short.specs.Sums as sums

-- u − x·y at k is t, after i terms of 4,095² at most
pub record Less (q u : ℕ) (x y : List ℕ) (k i t : ℕ) : Type 0 where
  pub sum : sums.Less q u (dots x y k i) t
  pub small : t ≤ 8190 + i * 16769025

-- u + x·(y − z) at k is t, after i terms of 4,095·8,190 at most
pub record More (q u : ℕ) (x y z : List ℕ) (k i t : ℕ) : Type 0 where
  pub sum : sums.More q u (dots x y k i) (dots x z k i) t
  pub small : t ≤ 4095 + i * 33538050

-- terms in which x is 0
dots_zero : (x y : List ℕ) (k n : ℕ) → ((i : ℕ) → i < n → get_or x i 0 ≡ 0) → dots x y k n ≡ 0
unfolding dots
dots_zero x y k zero h = refl
dots_zero x y k (suc n) h = ap₂ (λ u v. u + v * get_or y (k - n) 0) (dots_zero x y k n (λ i l. h i (omega arith))) (h n (omega arith)) ∙ (let z : 0 * get_or y (k - n) 0 ≡ 0 = zero-mul _ in omega arith)

module _ (q u : ℕ) (x y : List ℕ) (k : ℕ) where
  pub less_none : (n : ℕ) → ((i : ℕ) → i < n → get_or x i 0 ≡ 0) → u ≤ 8190 → Less q u x y k n u
  less_none n h l = record { sum = subst (λ (p : ℕ). sums.Less q u p u) (sym (dots_zero x y k n h)) (sums.less_none q u); small = omega arith }

  module _ (below : q < 4096) (xs : Bounded q x) (ys : Bounded q y) where
    pub less_term : (i : ℕ) → (q - get_or x i 0) * get_or y (k - i) 0 ≤ 16769025
    less_term i = mul-le-mul {n₂ = 4095} {m₂ = 4095} (omega arith) (let h = ys (k - i) in omega arith)

    pub less_next : (i t : ℕ) → Less q u x y k i t → Less q u x y k (i + 1) (t + (q - get_or x i 0) * get_or y (k - i) 0)
    less_next i t m =
        record {
          sum = subst (λ (p : ℕ). sums.Less q u p (t + (q - get_or x i 0) * get_or y (k - i) 0)) (sym (dots_more x y k i)) (sums.less_more q u (get_or x i 0) (get_or y (k - i) 0) (let h = xs i in omega arith) m.sum);
          small = (let l = less_term i in let w = m.small in omega arith);
        }

module _ (q u : ℕ) (x y z : List ℕ) (k : ℕ) where
  pub more_none : u ≤ 4095 → More q u x y z k 0 u
  unfolding dots
  more_none l = record { sum = sums.more_none q u; small = omega arith }

  module _ (below : q < 4096) (xs : Bounded q x) (ys : Bounded q y) (zs : Bounded q z) where
    pub more_term : (i : ℕ) → get_or x i 0 * (get_or y (k - i) 0 + (q - get_or z (k - i) 0)) ≤ 33538050
    more_term i = mul-le-mul {n₂ = 4095} {m₂ = 8190} (let h = xs i in omega arith) (let h = ys (k - i) in omega arith)

    pub more_next : (i t : ℕ) → More q u x y z k i t → More q u x y z k (i + 1) (t + get_or x i 0 * (get_or y (k - i) 0 + (q - get_or z (k - i) 0)))
    more_next i t m =
        let s = sums.more_more q u (get_or x i 0) (get_or y (k - i) 0) (get_or z (k - i) 0) (let h = zs (k - i) in omega arith) m.sum in
        record {
          sum = rw (dots_more x y k i, dots_more x z k i) s;
          small = (let l = more_term i in let w = m.small in omega arith);
        }
