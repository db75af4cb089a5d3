-- An array filled from the top place down: what the loop of a quotient keeps.
use Rattle.std.specs.Prelude.{ℕ, ◌+◌, ◌<◌, ◌≤◌, ◌≡◌, List, length, get_or, set}
use Rattle.std.proofs.Common.{eq-or-lt_of_le, arith, sym, ◌∙◌, ap, ⊎_elim, length-set, get_or-set_same, get_or-set_other}
use Rattle.base_places.specs.Places.{Places}
use Rattle.base_places.specs.Row.{Ends}

-- 129 places, with g i at each i from k on, and zeros before k
pub record Down (c : List ℕ) (g : ℕ → ℕ) (k : ℕ) : Type 0 where
  pub long : length c ≡ 129
  pub done : (i : ℕ) → k ≤ i → get_or c i 0 ≡ g i
  pub rest : (i : ℕ) → i < k → get_or c i 0 ≡ 0

module _ (g : ℕ → ℕ) where
  pub down_none : (c : List ℕ) (k : ℕ) → length c ≡ 129 → Ends c 0 → ((i : ℕ) → k ≤ i → g i ≡ 0) → Down c g k
  down_none c k e n z = record { long = e; done = λ i h. n i (omega arith) ∙ sym (z i h); rest = λ i h. n i (omega arith) }

  pub down_more : (c : List ℕ) (k i v : ℕ) → Down c g k → i + 1 ≡ k → i < 129 → v ≡ g i → Down (set c i v) g i
  down_more c k i v d e h s =
      record {
        long = length-set c i v ∙ d.long;
        done = λ j l. ⊎_elim (λ (w : i ≡ j). ap (λ (m : ℕ). get_or (set c i v) m 0) (sym w) ∙ get_or-set_same c i v 0 (let x : length c ≡ 129 = d.long in omega arith) ∙ s ∙ ap g w) (λ (w : i < j). get_or-set_other c i j v 0 (λ x. omega arith) ∙ d.done j (omega arith)) (eq-or-lt_of_le l);
        rest = λ j l. get_or-set_other c i j v 0 (λ x. omega arith) ∙ d.rest j (omega arith);
      }

  pub down_all : (c : List ℕ) (k : ℕ) → Down c g k → k ≡ 0 → Places c g
  down_all c k d e = record { long = d.long; at = λ i. d.done i (omega arith) }
