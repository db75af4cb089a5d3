-- Two arrays compared place by place: the same, or each a constant times the other.
use Rattle.std.specs.Prelude.{ℕ, ◌+◌, ◌-◌, ◌*◌, ◌%◌, ◌<◌, ◌≤◌, ◌≡◌, ◌↔◌, List, length, get_or, take}
use Rattle.std.proofs.Common.{mul_comm, zero-mul, zero-add, mul-le-mul, eq-or-lt_of_le, arith, sym, ap, ◌∙◌, ⊎_elim, ext_get_or, get_or-take}
use Rattle.std.proofs.Math.Nat.{mod-add-mod, add-mul-mod_self_right, mul-mod_left}
use Rattle.math_ring.specs.Order.{le_or_lt}
use Rattle.spec_arithmetic.specs.Field.{prime}
use Rattle.base_places.specs.TwoRows.{complement}
use Rattle.base_places.specs.Row.{Ends}
use Rattle.walk_middle.specs.Middle.{Proportional}

-- arrays with zeros from n on are the same where they agree before n
pub same_places : (x y : List ℕ) (n : ℕ) → length x ≡ length y → Ends x n → Ends y n → take n x ≡ take n y → x ≡ y
same_places x y n e s t agree =
    ext_get_or 0 x y e (λ i _. ⊎_elim (λ h. s i h ∙ sym (t i h)) (λ h. sym (get_or-take n x i 0 h) ∙ ap (λ (l : List ℕ). get_or l i 0) agree ∙ get_or-take n y i 0 h) (le_or_lt n i))

-- they are proportional where they are before the last of their places: there both products are that of the
-- leading coefficients
pub proportional_places : (q : ℕ) (x y : List ℕ) (size : ℕ) → Ends x size → Ends y size → ((k : ℕ) → k < size - 1 → get_or x k 0 * get_or y (size - 1) 0 % q ≡ get_or y k 0 * get_or x (size - 1) 0 % q) → Proportional (prime q) x y size
proportional_places q x y size s t agree i =
    ⊎_elim (λ h. ⊎_elim last past (eq-or-lt_of_le h)) (agree i) (le_or_lt (size - 1) i)
  where
    last : size - 1 ≡ i → get_or x i 0 * get_or y (size - 1) 0 % q ≡ get_or y i 0 * get_or x (size - 1) 0 % q
    last e = ap (λ (j : ℕ). get_or x j 0 * get_or y (size - 1) 0 % q) (sym e) ∙ ap (λ (v : ℕ). v % q) (mul_comm _ _) ∙ ap (λ (j : ℕ). get_or y j 0 * get_or x (size - 1) 0 % q) e

    past : size - 1 < i → get_or x i 0 * get_or y (size - 1) 0 % q ≡ get_or y i 0 * get_or x (size - 1) 0 % q
    past h = ap (λ (v : ℕ). v * get_or y (size - 1) 0 % q) (s i (omega arith)) ∙ ap (λ (v : ℕ). v % q) (zero-mul _ ∙ sym (zero-mul _)) ∙ ap (λ (v : ℕ). v * get_or x (size - 1) 0 % q) (sym (t i (omega arith)))

-- u less y·a, with q − y for −y, is 0 modulo q exactly where u and y·a are the same
pub difference_zero : (q u y a : ℕ) → y ≤ q → ((u + (q - y) * a) % q ≡ 0) ↔ (u % q ≡ y * a % q)
difference_zero q u y a h = (same, zero)
  where
    same : (u + (q - y) * a) % q ≡ 0 → u % q ≡ y * a % q
    same e =
        let s : u + a * q ≡ u + (q - y) * a + y * a = (let w = complement q y a h in omega arith) in
        sym (add-mul-mod_self_right u a q) ∙ ap (λ (n : ℕ). n % q) s ∙ sym (mod-add-mod (u + (q - y) * a) q (y * a)) ∙ ap (λ (n : ℕ). (n + y * a) % q) e ∙ ap (λ (n : ℕ). n % q) (zero-add (y * a))

    zero : u % q ≡ y * a % q → (u + (q - y) * a) % q ≡ 0
    zero e =
        let s : y * a + (q - y) * a ≡ a * q = (let w = complement q y a h in omega arith) in
        sym (mod-add-mod u q ((q - y) * a)) ∙ ap (λ (n : ℕ). (n + (q - y) * a) % q) e ∙ mod-add-mod (y * a) q ((q - y) * a) ∙ ap (λ (n : ℕ). n % q) s ∙ mul-mod_left a q

-- a product of two coefficients fits
pub product_small : {x y : ℕ} → x < 4096 → y < 4096 → x * y ≤ 4095 * 4095
product_small h k = mul-le-mul {n₂ = 4095} {m₂ = 4095} (omega arith) (omega arith)
