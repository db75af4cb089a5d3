-- The product by a factor with two places: each coefficient has two terms, with the place itself and the place
-- before. q − a serves for −a, so that nothing is below 0.
use Rattle.std.specs.Prelude.{ℕ, zero, suc, ◌+◌, ◌*◌, ◌-◌, ◌<◌, ◌≤◌, ◌≡◌, List, [], ◌∷◌, get_or}
use Rattle.std.proofs.Common.{mod-eq_of_lt, add-mul, mul_comm, zero-add, add-one, arith, sym, ap, ◌∙◌}
use Rattle.std.proofs.Math.Nat.{mul-mod_left}
use Rattle.math_ring.specs.Identity.{ring_from, times, plus, quote}
use Rattle.math_ring.specs.Residues.{FqRing, to, add_f, neg_f}
use Rattle.spec_bridge.specs.Residues.{to_path, to_add}
use Rattle.spec_bridge.specs.Product.{shifted, rows}

pub shifted_next : (b : List ℕ) (k : ℕ) → shifted b 1 (k + 1) ≡ get_or b k 0
unfolding shifted
shifted_next b k = rw add-one

pub shifted_less : (q : ℕ) → 0 < q → (b : List ℕ) → ((i : ℕ) → get_or b i 0 < q) → (n k : ℕ) → shifted b n k < q
unfolding shifted
shifted_less q pos b h zero k = h k
shifted_less q pos b h (suc n) zero = pos
shifted_less q pos b h (suc n) (suc k) = shifted_less q pos b h n k

pub two_rows : (a b : List ℕ) (k : ℕ) → rows a b 2 k ≡ get_or a 0 0 * get_or b k 0 + get_or a 1 0 * shifted b 1 k
unfolding rows shifted
two_rows a b k = let z : 0 + get_or a 0 0 * get_or b k 0 ≡ get_or a 0 0 * get_or b k 0 = zero-add _ in ap (λ u. u + get_or a 1 0 * shifted b 1 k) z

-- (q − a)·x and a·x make q·x
pub complement : (q a x : ℕ) → a ≤ q → (q - a) * x + a * x ≡ x * q
complement q a x h = sym (add-mul (q - a) a x) ∙ ap (λ n. n * x) (let e : q - a + a ≡ q = omega arith in e) ∙ mul_comm q x

-- where t and x make u and a multiple of q, t is u − x modulo q
pub to_differ : (q : ℕ) (pos : 0 < q) (t x u c : ℕ) → t + x ≡ u + c * q → to q pos t ≡ add_f q pos (to q pos u) (neg_f q pos (to q pos x))
to_differ q pos t x u c e =
    let F = FqRing q pos in
    let φ = to q pos in
    ring_from F (φ t ∷ φ x ∷ φ u ∷ φ (c * q) ∷ [])
    (plus F (times F F.one (sym (to_add q pos t x) ∙ ap φ e ∙ to_add q pos u (c * q))) (times F F.one (to_path q pos (c * q) 0 (mul-mod_left c q ∙ sym (mod-eq_of_lt pos)))))
    (search quote depth 40 fits 9999) tt
