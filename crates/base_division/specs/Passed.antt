-- An array that is changed in place, from place 0 up: what stands after i places, and after all.
use Rattle.std.specs.Prelude.{ℕ, ◌+◌, ◌<◌, ◌≤◌, ◌≡◌, refl, List, length, get_or, set}
use Rattle.std.proofs.Common.{arith, ◌∙◌, ⊎_elim, length-set, get_or-set_same, get_or-set_other, below_more}
use Rattle.math_ring.specs.Order.{le_or_lt}
use Rattle.base_places.specs.Places.{Places}

-- c was c₀ and has g k at each k before i; the others stand as they did
pub record Passed (c₀ c : List ℕ) (g : ℕ → ℕ) (i : ℕ) : Type 0 where
  pub long : length c ≡ 129
  pub done : (k : ℕ) → k < i → get_or c k 0 ≡ g k
  pub rest : (k : ℕ) → i ≤ k → get_or c k 0 ≡ get_or c₀ k 0

module _ (c₀ : List ℕ) (g : ℕ → ℕ) where
  pub passed_none : length c₀ ≡ 129 → Passed c₀ c₀ g 0
  passed_none e = record { long = e; done = λ k h. absurd (omega arith); rest = λ k h. refl }

  pub passed_more : (c : List ℕ) (i v : ℕ) → Passed c₀ c g i → i < 129 → v ≡ g i → Passed c₀ (set c i v) g (i + 1)
  passed_more c i v p h e =
      record {
        long = length-set c i v ∙ p.long;
        done = below_more _ i (λ k l. get_or-set_other c i k v 0 (λ s. omega arith) ∙ p.done k l) (get_or-set_same c i v 0 (let w : length c ≡ 129 = p.long in omega arith) ∙ e);
        rest = λ k l. get_or-set_other c i k v 0 (λ s. omega arith) ∙ p.rest k (omega arith);
      }

  -- from n on there is nothing to change
  pub passed_all : (c : List ℕ) (n : ℕ) → Passed c₀ c g n → ((i : ℕ) → n ≤ i → get_or c₀ i 0 ≡ g i) → Places c g
  passed_all c n p z =
      record {
        long = p.long;
        at = λ i. ⊎_elim (λ h. p.rest i h ∙ z i h) (λ h. p.done i h) (le_or_lt n i);
      }
