-- What is known of 129 places before they make a record: a bound of the coefficients, zeros from a place on.
use Rattle.std.specs.Prelude.{◌≡◌, List, ℕ, ◌<◌, ◌≤◌, length, get_or, take}
use Rattle.std.proofs.Common.{sym, ◌∙◌, ⊎_elim, arith, length-take, get_or-take}
use Rattle.std.proofs.Math.Nat.{min-le_left}
use Rattle.std.proofs.Math.ListN.{get_or-eq_default}
use Rattle.math_ring.specs.Order.{le_or_lt}

-- each coefficient is below b
abbrev pub Bounded : ℕ → List ℕ → Type 0
Bounded b l = (i : ℕ) → get_or l i 0 < b

-- zeros from n on
abbrev pub Ends : List ℕ → ℕ → Type 0
Ends l n = (i : ℕ) → n ≤ i → get_or l i 0 ≡ 0

-- the coefficients before the zeros are all
pub at_take : (l : List ℕ) (n : ℕ) → Ends l n → (i : ℕ) → get_or (take n l) i 0 ≡ get_or l i 0
at_take l n e i = ⊎_elim (λ h. get_or-eq_default (take n l) 0 (let w : length (take n l) ≤ n = simp length-take (min-le_left n (length l)) in omega arith) ∙ sym (e i h)) (λ h. get_or-take n l i 0 h) (le_or_lt n i)
