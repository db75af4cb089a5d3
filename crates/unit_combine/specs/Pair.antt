-- Two lent lists that hold the two last convergents and take turns: with t steps left, the last one, u,
-- stands in the first list where t is even and in the second where t is odd, and v, the one before it, in the
-- other. So the last of all ends in the first list.
use Rattle.std.specs.Prelude.{ℕ, suc, ◌+◌, ◌*◌, ◌/◌, ◌%◌, ◌<◌, ◌≤◌, ◌≡◌, List, ◌++◌, length, get_or, take, drop}
use Rattle.std.proofs.Math.Nat.{div-add-mod}
use Rattle.std.proofs.Math.ListN.{get_or-eq_default}
use Rattle.std.proofs.Common.{mod-lt, arith, sym, ap, ◌∙◌, subst, ⊎_elim, get_or-take, length-take}
use Rattle.std.proofs.lemmas.List.{take-append-drop}
use Rattle.std.proofs.Math.Decide.{ℕ_discrete}
use Rattle.math_ring.specs.Order.{le_or_lt}
use Rattle.spec_arithmetic.specs.Field.{FieldName, prime, ops, modulo}
use Rattle.spec_arithmetic.specs.Polynomials.{add, mul}
use Rattle.base_places.specs.Row.{Bounded}
use Rattle.unit_combine.specs.Written.{Written}
use Rattle.unit_combine.specs.Sum.{written_sum}

pub record Pair (t : ℕ) (u v p x : List ℕ) : Type 0 where
  pub even : t % 2 ≡ 0 → Written u p × Written v x
  pub odd : (t % 2 ≡ 0 → ⊥) → Written v p × Written u x

-- one of the lists becomes a·(the other) and itself
pub record Folded (f : FieldName) (t : ℕ) (a p x new_p new_x : List ℕ) : Type 0 where
  pub even : t % 2 ≡ 0 → (new_p ≡ p) × Written (add (ops f) (mul (ops f) a p) x) new_x
  pub odd : (t % 2 ≡ 0 → ⊥) → (new_x ≡ x) × Written (add (ops f) (mul (ops f) a x) p) new_p

-- ---- even and odd numbers take turns
even_odd : (t : ℕ) → suc t % 2 ≡ 0 → t % 2 ≡ 0 → ⊥
even_odd t e f = let a : 2 * (t / 2) + t % 2 ≡ t = div-add-mod t 2 in let b : 2 * (suc t / 2) + suc t % 2 ≡ suc t = div-add-mod (suc t) 2 in omega arith

odd_suc : (t : ℕ) → (t % 2 ≡ 0 → ⊥) → suc t % 2 ≡ 0
odd_suc t n =
    let a : 2 * (t / 2) + t % 2 ≡ t = div-add-mod t 2 in
    let b : 2 * (suc t / 2) + suc t % 2 ≡ suc t = div-add-mod (suc t) 2 in
    let l : t % 2 < 2 = mod-lt t (omega arith) in
    let m : suc t % 2 < 2 = mod-lt (suc t) (omega arith) in
    omega arith

-- ---- a list and its first n places have admissible coefficients where what they hold has
module _ (q : ℕ) (pos : 0 < q) where
  zero_past : (l : List ℕ) (i : ℕ) → length l ≤ i → get_or l i 0 < q
  zero_past l i h = subst (λ (m : ℕ). m < q) (sym (get_or-eq_default l 0 {n = i} h)) pos

  pub bounded_take : (l : List ℕ) (n : ℕ) → Bounded q l → Bounded q (take n l)
  bounded_take l n b i =
      ⊎_elim (λ (g : n ≤ i). zero_past (take n l) i (let e = length-take n l in omega arith))
      (λ (g : i < n). subst (λ (m : ℕ). m < q) (sym (get_or-take n l i 0 g)) (b i)) (le_or_lt n i)

  written_bounded : (l list : List ℕ) → Written l list → Bounded q l → Bounded q list
  written_bounded l list w b i = ⊎_elim (zero_past list i) (λ (g : i < length list). subst (λ (m : ℕ). m < q) (sym (w.at i g)) (b i)) (le_or_lt (length list) i)

  pub pair_bounded : {t : ℕ} {u v p x : List ℕ} → Pair t u v p x → Bounded q u → Bounded q v → Bounded q p × Bounded q x
  pair_bounded {t} {u} {v} {p} {x} w b c =
      elim (ℕ_discrete (t % 2) 0) [
        | yes e ↦ (written_bounded u p (w.even e).0 b, written_bounded v x (w.even e).1 c)
        | no n ↦ (written_bounded v p (w.odd n).0 c, written_bounded u x (w.odd n).1 b)
      ]

module _ {t : ℕ} {u v p x : List ℕ} where
  -- with a step more to go, the two polynomials change places
  pub pair_back : Pair (suc t) v u p x → Pair t u v p x
  pair_back w = record { even = λ e. w.odd (λ f. even_odd t f e); odd = λ n. w.even (odd_suc t n) }

  -- ---- one step in the first n places of k: a has the coefficients of f, and n places are enough for f·u + v
  pub pair_next : (q : ℕ) → 0 < q → (a f : List ℕ) → ((i : ℕ) → get_or a i 0 ≡ get_or f i 0) → (k n : ℕ) → n ≤ k → length p ≡ k → length x ≡ k → length v ≤ n → length (add (modulo q) (mul (modulo q) f u) v) ≤ n → (new_p new_x : List ℕ) → length new_p ≡ n → length new_x ≡ n → Pair (suc t) u v p x → Folded (prime q) (suc t) a (take n p) (take n x) new_p new_x → Pair t (add (modulo q) (mul (modulo q) f u) v) u (new_p ++ drop n p) (new_x ++ drop n x)
  pair_next q pos a f same k n h long_p long_x short-v short new_p new_x long_new_p long_new_x w d =
      record {
        even = λ e.
            let g : suc t % 2 ≡ 0 → ⊥ = λ z. even_odd t z e in
            (written_sum q pos a f same k n h u v x p new_p long_x long_p long_new_p short-v short (w.odd g).1 (w.odd g).0 (d.odd g).1, kept x new_x (d.odd g).0 (w.odd g).1);
        odd = λ m.
            let e : suc t % 2 ≡ 0 = odd_suc t m in
            (kept p new_p (d.even e).0 (w.even e).0, written_sum q pos a f same k n h u v p x new_x long_p long_x long_new_x short-v short (w.even e).0 (w.even e).1 (d.even e).1);
      }
    where
      kept : (list part : List ℕ) → part ≡ take n list → Written u list → Written u (part ++ drop n list)
      kept list part e w = subst (Written u) (sym (ap (λ (l : List ℕ). l ++ drop n list) e ∙ take-append-drop n list)) w

  -- ---- the end: the last one is in the first list
  pub pair_last : Pair t u v p x → t ≡ 0 → Written u p
  pair_last w e = (w.even (ap (λ (n : ℕ). n % 2) e)).0
