-- What a loop over places gives: an array by its values, filled from place 0 up, and the size of an array.
use Rattle.std.specs.Prelude.{ℕ, ◌+◌, ◌-◌, ◌<◌, ◌≤◌, ◌≡◌, List, length, get_or, set, replicate}
use Rattle.std.proofs.Common.{arith, sym, ◌∙◌, ⊎_elim, length-set, get_or-set_same, get_or-set_other, below_more}
use Rattle.std.proofs.lemmas.List.{length-replicate, get_or-replicate}
use Rattle.std.proofs.Math.ListN.{get_or-eq_default}
use Rattle.math_ring.specs.Order.{le_or_lt}
use Rattle.spec_arithmetic.specs.Field.{FieldName}
use Rattle.spec_fields.specs.Named.{Ok}

-- 129 places, with g i at i, also past the end, where 0 is read
pub record Places (c : List ℕ) (g : ℕ → ℕ) : Type 0 where
  pub long : length c ≡ 129
  pub at : (i : ℕ) → get_or c i 0 ≡ g i

-- 129 places, with a value that P allows at each i below n, and zeros from there on
pub record FilledBy (P : ℕ → ℕ → Type 0) (n : ℕ) (c : List ℕ) : Type 0 where
  pub long : length c ≡ 129
  pub done : (i : ℕ) → i < n → P i (get_or c i 0)
  pub rest : (i : ℕ) → n ≤ i → get_or c i 0 ≡ 0

-- 129 places, with g k at each k before i, and zeros from i on
abbrev pub Filled : List ℕ → (ℕ → ℕ) → ℕ → Type 0
Filled c g i = FilledBy (λ k v. v ≡ g k) i c

-- admissible coefficients, and zeros from n on
pub record Within (f : FieldName) (c : List ℕ) (n : ℕ) : Type 0 where
  pub reduced : (i : ℕ) → Ok f (get_or c i 0)
  pub past : (i : ℕ) → n ≤ i → get_or c i 0 ≡ 0

-- n is the least number from which on all places are 0
pub record Top (c : List ℕ) (n : ℕ) : Type 0 where
  pub short : n ≤ 129
  pub past : (i : ℕ) → n ≤ i → get_or c i 0 ≡ 0
  pub last : 0 < n → get_or c (n - 1) 0 ≡ 0 → ⊥

abbrev pub zeros : List ℕ
zeros = replicate 129 0

pub length_zeros : length zeros ≡ 129
length_zeros = length-replicate {A = ℕ} 129 0

pub at_zeros : (k : ℕ) → get_or zeros k 0 ≡ 0
at_zeros k = ⊎_elim (λ h. let e : length zeros ≡ 129 = length_zeros in get_or-eq_default zeros 0 {n = k} (omega arith)) (λ h. get_or-replicate 129 k 0 0 h) (le_or_lt 129 k)

-- where what P allows at each place below n is what g says, and g says 0 from n on
pub places_of : {P : ℕ → ℕ → Type 0} {n : ℕ} {c : List ℕ} {g : ℕ → ℕ} → FilledBy P n c → ((i v : ℕ) → i < n → P i v → v ≡ g i) → ((i : ℕ) → n ≤ i → g i ≡ 0) → Places c g
places_of {P} {n} {c} {g} f value past =
    record {
      long = f.long;
      at = λ i. ⊎_elim (λ h. f.rest i h ∙ sym (past i h)) (λ h. value i _ h (f.done i h)) (le_or_lt n i);
    }

pub filled_by_none : {P : ℕ → ℕ → Type 0} → FilledBy P 0 zeros
filled_by_none = record { long = length_zeros; done = λ k h. absurd (omega arith); rest = λ k h. at_zeros k }

module _ (g : ℕ → ℕ) where
  pub filled_none : Filled zeros g 0
  filled_none = filled_by_none

  pub filled_more : (c : List ℕ) (i v : ℕ) → Filled c g i → i < 129 → v ≡ g i → Filled (set c i v) g (i + 1)
  filled_more c i v f h e =
      record {
        long = length-set c i v ∙ f.long;
        done = below_more _ i (λ k l. get_or-set_other c i k v 0 (λ s. omega arith) ∙ f.done k l) (get_or-set_same c i v 0 (let w : length c ≡ 129 = f.long in omega arith) ∙ e);
        rest = λ k l. get_or-set_other c i k v 0 (λ s. omega arith) ∙ f.rest k (omega arith);
      }

  pub filled_all : (c : List ℕ) (n : ℕ) → Filled c g n → ((i : ℕ) → n ≤ i → g i ≡ 0) → Places c g
  filled_all c n f z = places_of f (λ i v h e. e) z
