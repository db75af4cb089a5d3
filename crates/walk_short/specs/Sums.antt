-- Sums of products modulo q, one term after the other: q − a serves for −a, so that nothing is below 0. With
-- what is taken away the sum is a multiple of q more than what is added.
use Prim.Native.Nat.{ℕ, zero, suc, ◌+◌, ◌*◌, ◌-◌, ◌%◌, ◌≤◌}
use Rattle.std.proofs.Common.{mul-add, add-mul, mul_assoc, mul_comm, zero-mul, arith, sym, ap, ◌∙◌}
use Rattle.std.proofs.Math.Nat.{add-mod-mod, mod-add-mod, add-mul-mod_self_right}
use Rattle.std.specs.Prelude.{◌≡◌, List, get_or}
use Rattle.std.proofs.lemmas.Nat.{mul-mod_second}
use Rattle.spec_bridge.specs.Product.{shifted, rows}
use Rattle.base_places.specs.Row.{Bounded}
use Rattle.base_places.specs.TwoRows.{complement}

-- t is u − p
pub record Less (q u p t : ℕ) : Type 0 where
  pub count : ℕ
  pub whole : t + p ≡ u + count * q

-- t is u + p − n
pub record More (q u p n t : ℕ) : Type 0 where
  pub count : ℕ
  pub whole : t + n ≡ u + p + count * q

-- a·(x − y) and a·y make a·x
returned : (q a x y : ℕ) → y ≤ q → a * (x + (q - y)) + a * y ≡ a * x + a * q
returned q a x y h = sym (mul-add a (x + (q - y)) y) ∙ ap (λ n. a * n) (let e : x + (q - y) + y ≡ x + q = omega arith in e) ∙ mul-add a x q

module _ (q u : ℕ) where
  pub less_none : Less q u 0 u
  less_none = record { count = 0; whole = (let z : 0 * q ≡ 0 = zero-mul q in omega arith) }

  -- one term more, a·x
  pub less_more : {p t : ℕ} (a x : ℕ) → a ≤ q → Less q u p t → Less q u (p + a * x) (t + (q - a) * x)
  less_more a x h l =
      record {
        count = l.count + x;
        whole = (let c = complement q a x h in let w = l.whole in let e : (l.count + x) * q ≡ l.count * q + x * q = add-mul l.count x q in omega arith);
      }

  pub more_none : More q u 0 0 u
  more_none = record { count = 0; whole = (let z : 0 * q ≡ 0 = zero-mul q in omega arith) }

  -- one term more, a·(x − y)
  pub more_more : {p n t : ℕ} (a x y : ℕ) → y ≤ q → More q u p n t → More q u (p + a * x) (n + a * y) (t + a * (x + (q - y)))
  more_more a x y h m =
      record {
        count = m.count + a;
        whole = (let c = returned q a x y h in let w = m.whole in let e : (m.count + a) * q ≡ m.count * q + a * q = add-mul m.count a q in omega arith);
      }

  -- ---- the first n rows of a product
  -- u − a·b at k
  unfoldable pub less_rows : List ℕ → List ℕ → ℕ → ℕ → ℕ
  less_rows a b k zero = u
  less_rows a b k (suc n) = less_rows a b k n + (q - get_or a n 0) * shifted b n k

  pub less_rows_are : (a b : List ℕ) → Bounded q a → (k n : ℕ) → Less q u (rows a b n k) (less_rows a b k n)
  unfolding less_rows rows
  less_rows_are a b h k zero = less_none
  less_rows_are a b h k (suc n) = less_more (get_or a n 0) (shifted b n k) (let l = h n in omega arith) (less_rows_are a b h k n)

  -- u + a·(x − y) at k
  unfoldable pub more_rows : List ℕ → List ℕ → List ℕ → ℕ → ℕ → ℕ
  more_rows a x y k zero = u
  more_rows a x y k (suc n) = more_rows a x y k n + get_or a n 0 * (shifted x n k + (q - shifted y n k))

  pub more_rows_are : (a x y : List ℕ) (k : ℕ) → ((n : ℕ) → shifted y n k ≤ q) → (n : ℕ) → More q u (rows a x n k) (rows a y n k) (more_rows a x y k n)
  unfolding more_rows rows
  more_rows_are a x y k h zero = more_none
  more_rows_are a x y k h (suc n) = more_more (get_or a n 0) (shifted x n k) (shifted y n k) (h n) (more_rows_are a x y k h n)

-- a term with a factor 0
pub without_term : (q t a x : ℕ) → a ≡ 0 → t % q ≡ (t + (q - a) * x) % q
without_term q t a x e =
    sym (add-mul-mod_self_right t x q) ∙ ap (λ n. (t + n) % q) (mul_comm x q) ∙ ap (λ n. (t + n * x) % q) (let w : q ≡ q - a = omega arith in w)

-- ---- a sum times i, taken term by term
-- v is t·i
abbrev pub Scaled : (q i t v : ℕ) → Type 0
Scaled q i t v = v % q ≡ (t * i) % q

pub scaled_more : (q i t v c y : ℕ) → Scaled q i t v → Scaled q i (t + c * y) (v + c * ((y * i) % q))
scaled_more q i t v c y h =
    sym (add-mod-mod v (c * ((y * i) % q)) q) ∙ ap (λ n. (v + n) % q) (mul-mod_second c (y * i) q) ∙ add-mod-mod v (c * (y * i)) q
    ∙ sym (mod-add-mod v q (c * (y * i))) ∙ ap (λ n. (n + c * (y * i)) % q) h ∙ mod-add-mod (t * i) q (c * (y * i))
    ∙ ap (λ n. n % q) (ap (λ n. t * i + n) (sym (mul_assoc c y i)) ∙ sym (add-mul t (c * y) i))
