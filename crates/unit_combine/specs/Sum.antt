-- The sum of a list and a product, place by place: a coefficient of the product depends only on the places up
-- to it, so that what lies past the places in use does not count.
use Rattle.std.specs.Prelude.{ℕ, zero, suc, ◌+◌, ◌*◌, ◌-◌, ◌%◌, ◌<◌, ◌≤◌, ◌≡◌, refl, List, ◌++◌, length, get_or, take, drop}
use Rattle.std.proofs.Common.{mul-le-mul, mul-le-mul_right, arith, sym, ap, ap₂, ◌∙◌, ⊎_elim, get_or-take, length-append, length-drop, get_or-append-add, get_or-drop}
use Rattle.std.proofs.Math.Nat.{add-mod-mod}
use Rattle.std.proofs.Math.ListN.{get_or-append, get_or-eq_default}
use Rattle.math_ring.specs.Order.{le_or_lt}
use Rattle.spec_arithmetic.specs.Field.{FieldName, prime, ops, modulo}
use Rattle.spec_arithmetic.specs.Polynomials.{add, mul}
use Rattle.spec_bridge.specs.Arithmetic.{at_add}
use Rattle.spec_bridge.specs.Product.{dots, dots_bound, dots_mul}
use Rattle.spec_bridge.specs.Residues.{model}
use Rattle.base_places.specs.Places.{Within}
use Rattle.base_places.specs.Row.{Bounded}
use Rattle.unit_combine.specs.Written.{Written}

-- ---- the terms up to place k
dots_low : (a b c e : List ℕ) (k : ℕ) → ((i : ℕ) → i ≤ k → get_or a i 0 ≡ get_or c i 0) → ((i : ℕ) → i ≤ k → get_or b i 0 ≡ get_or e i 0) → (n : ℕ) → n ≤ suc k → dots a b k n ≡ dots c e k n
unfolding dots
dots_low a b c e k h l zero p = refl
dots_low a b c e k h l (suc n) p = ap₂ ◌+◌ (dots_low a b c e k h l n (omega arith)) (ap₂ ◌*◌ (h n (omega arith)) (l (k - n) (omega arith)))

pub mul_low : (q : ℕ) → 0 < q → (a b c e : List ℕ) (k : ℕ) → ((i : ℕ) → i ≤ k → get_or a i 0 ≡ get_or c i 0) → ((i : ℕ) → i ≤ k → get_or b i 0 ≡ get_or e i 0) → get_or (mul (modulo q) a b) k 0 ≡ get_or (mul (modulo q) c e) k 0
mul_low q pos a b c e k h l = sym (dots_mul q pos a b k) ∙ ap (λ (x : ℕ). x % q) (dots_low a b c e k h l (suc k) (omega arith)) ∙ dots_mul q pos c e k

-- at most 129 terms are at most 129·q²
pub terms_small : {q l : ℕ} {a : List ℕ} → Within (prime q) a l → (b : List ℕ) → Bounded q b → (k n : ℕ) → n ≤ 129 → dots a b k n ≤ 129 * (q * q)
terms_small {q} {l} {a} w b s k n h =
    let d : dots a b k n ≤ n * (q * q) = dots_bound a b q (λ i. let x = w.reduced i in omega arith) (λ i. let x = s i in omega arith) k n in
    let m : n * (q * q) ≤ 129 * (q * q) = mul-le-mul_right (q * q) h in
    omega arith

pub square_small : (q : ℕ) → q < 4096 → q * q ≤ 16769025
square_small q h = mul-le-mul {n₂ = 4095} {m₂ = 4095} (omega arith) (omega arith)

-- a sum that serves for the coefficient at k, not reduced
pub record Terms (f : FieldName) (a b : List ℕ) (k r : ℕ) : Type 0 where
  pub residue : r % f.q ≡ get_or (mul (ops f) a b) k 0
  pub small : r ≤ 129 * (f.q * f.q)

-- ---- the coefficient at k, reduced once
pub sum_at : (q : ℕ) → 0 < q → (a b c : List ℕ) (k t : ℕ) → t % q ≡ get_or (mul (modulo q) a b) k 0 → (get_or c k 0 + t) % q ≡ get_or (add (modulo q) (mul (modulo q) a b) c) k 0
sum_at q pos a b c k t e =
    sym (add-mod-mod (get_or c k 0) t q) ∙ ap (λ (x : ℕ). (get_or c k 0 + x) % q) e
    ∙ ap (λ (x : ℕ). x % q) (let s : get_or c k 0 + get_or (mul (modulo q) a b) k 0 ≡ get_or (mul (modulo q) a b) k 0 + get_or c k 0 = omega arith in s)
    ∙ sym (at_add (model q pos) (mul (modulo q) a b) c k)

-- ---- the first n places of lists of k places
module _ (q : ℕ) (pos : 0 < q) (a f : List ℕ) (same : (i : ℕ) → get_or a i 0 ≡ get_or f i 0) (k n : ℕ) (fits : n ≤ k) where
  -- those of `into`, which holds o, are replaced by those of a·from + into, where `from` holds p: then it holds
  -- f·p + o, where n is at least the length of both
  pub written_sum : (p o from into out : List ℕ) → length from ≡ k → length into ≡ k → length out ≡ n → length o ≤ n → length (add (modulo q) (mul (modulo q) f p) o) ≤ n → Written p from → Written o into → Written (add (modulo q) (mul (modulo q) a (take n from)) (take n into)) out → Written (add (modulo q) (mul (modulo q) f p) o) (out ++ drop n into)
  written_sum p o from into out long_from long_into long_out short-o short w v u =
      record {
        at = λ i h.
            let e = length-append out (drop n into) in
            let m = length-drop n into in
            ⊎_elim (λ (g : n ≤ i). past i g ∙ v.at i (omega arith) ∙ get_or-eq_default o 0 {n = i} (omega arith) ∙ sym (get_or-eq_default (add (modulo q) (mul (modulo q) f p) o) 0 {n = i} (omega arith)))
            (λ (g : i < n). get_or-append out (drop n into) 0 i (omega arith) ∙ u.at i (omega arith) ∙ place i g) (le_or_lt n i);
      }
    where
      past : (i : ℕ) → n ≤ i → get_or (out ++ drop n into) i 0 ≡ get_or into i 0
      past i g =
          let e : length out + (i - n) ≡ i = omega arith in
          ap (λ (j : ℕ). get_or (out ++ drop n into) j 0) (sym e) ∙ get_or-append-add out (drop n into) (i - n) 0 ∙ get_or-drop n into (i - n) 0 ∙ ap (λ (j : ℕ). get_or into j 0) (let d : n + (i - n) ≡ i = omega arith in d)

      place : (i : ℕ) → i < n → get_or (add (modulo q) (mul (modulo q) a (take n from)) (take n into)) i 0 ≡ get_or (add (modulo q) (mul (modulo q) f p) o) i 0
      place i h =
          at_add (model q pos) (mul (modulo q) a (take n from)) (take n into) i
          ∙ ap₂ (modulo q).add (mul_low q pos a (take n from) f p i (λ j _. same j) (λ j g. get_or-take n from j 0 (omega arith) ∙ w.at j (omega arith))) (get_or-take n into i 0 h ∙ v.at i (omega arith))
          ∙ sym (at_add (model q pos) (mul (modulo q) f p) o i)
