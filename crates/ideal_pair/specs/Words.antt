-- Two pairs of words that are tested one after the other: whether refusal 9 applies, and that the product of their
-- polynomials is that of the words.
use Rattle.std.specs.Prelude.{ℕ, ◌<◌, ◌≡◌, Bool, true, false, List, not, ◌||◌}
use Rattle.std.proofs.Common.{arith, refl, ap, ap₂}
use Rattle.spec_definitions.specs.Ticket.{Ticket}
use Rattle.spec_definitions.specs.Walk.{Ideal as Pair}
use Rattle.spec_definitions.specs.Products.{product_of, is_pair, wrong_pair}
use Rattle.spec_laws.specs.ProductCong.{product_cong}
use Rattle.base_surd.specs.declared.Surd.{Surd}
use Rattle.base_surd.specs.Surd.{ops, D, ticket_with}
use Rattle.base_ideal.specs.declared.Ideal.{Ideal}
use Rattle.ideal_operand.specs.Operand.{held_pair, K, M, I, operand_same}
use Rattle.ideal_pair.specs.Pair.{pair_of, pair_refusal, Paired, paired_operand}

-- a test that is not passed has number 9
module _ (t : Ticket) (x y : Pair ℕ) {k : ℕ} (some : 0 < k) where
  number : (r : Bool) → k ≡ elim r [ true ↦ 0 | false ↦ 9 ] → (r ≡ false) × (k ≡ 9)
  number true e = absurd (omega arith)
  number false e = (refl, e)

  pub first_wrong : k ≡ pair_refusal t x → (wrong_pair t x y ≡ true) × (k ≡ 9)
  unfolding pair_refusal wrong_pair
  first_wrong e = let n = number (is_pair t x) e in (ap (λ (r : Bool). not r || not (is_pair t y)) n.0, n.1)

  pub second_wrong : is_pair t x ≡ true → k ≡ pair_refusal t y → (wrong_pair t x y ≡ true) × (k ≡ 9)
  unfolding pair_refusal wrong_pair
  second_wrong h e = let n = number (is_pair t y) e in (ap₂ (λ (r s : Bool). not r || not s) h n.0, n.1)

module _ {s : Surd} {u v : List ℕ} {x : Ideal} (a : Paired s u v x) {u' v' : List ℕ} {y : Ideal} (b : Paired s u' v' y) where
  pub pairs_right : (k : ℕ) → wrong_pair (ticket_with s k) (pair_of u v) (pair_of u' v') ≡ false
  unfolding wrong_pair
  pairs_right k = ap₂ (λ (r t : Bool). not r || not t) (a.passes k) (b.passes k)

  pub paired_product : product_of (ops s) (D s) (held_pair x) (held_pair y) ≡ product_of (ops s) (D s) (pair_of u v) (pair_of u' v')
  unfolding paired_operand
  paired_product = product_cong (K s.admitted) (M s.admitted) (I s.admitted) (D s) (operand_same s.admitted (paired_operand a)) (operand_same s.admitted (paired_operand b))
