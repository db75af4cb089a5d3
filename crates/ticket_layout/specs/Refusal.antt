-- The tests on q, n and the layout one after the other: the first that applies gives the number; what each of
-- them gives where it passes.
use Rattle.std.specs.Prelude.{ℕ, ◌≤◌, ◌≡◌, Bool, false, List, [], ◌∷◌, length}
use Rattle.std.proofs.Common.{arith, ltb-false}
use Rattle.std.proofs.lemmas.Bool.{or_parts}
use Rattle.std.proofs.lemmas.Bool.Decides.{nat_tests}
use Rattle.spec_definitions.specs.Ticket.{wrong_head, wrong_prime, wrong_degree, wrong_layout, first_of}
use Rattle.spec_lists.specs.Same.{one_of_one}
use Rattle.spec_laws.specs.FirstTest.{first_none}
use Rattle.spec_laws.specs.Admitted.{allowed_degree}

-- what the tests of numbers say
pub ruleset number_tests = (nat_tests, one_of_one)

unfoldable pub layout_tests : ℕ → ℕ → List ℕ → List (ℕ × Bool)
layout_tests q n w = (2, wrong_prime q) ∷ (3, wrong_degree n) ∷ (4, wrong_layout n w) ∷ []

module _ (q n : ℕ) (w : List ℕ) where
  pub record LaidOut : Type 0 where
    pub prime : wrong_prime q ≡ false
    pub degree : wrong_degree n ≡ false
    pub layout : wrong_layout n w ≡ false

  pub laid_out : first_of (layout_tests q n w) ≡ 0 → LaidOut
  unfolding layout_tests
  laid_out e =
      let a = first_none _ _ _ e in
      let b = first_none _ _ _ a.1 in
      let c = first_none _ _ _ b.1 in
      record { prime = a.0; degree = b.0; layout = c.0 }

-- ---- what a test that passes gives
pub head_long : (w : List ℕ) → wrong_head (1 ∷ []) w ≡ false → 7 ≤ length w
unfolding wrong_head
head_long w e = ltb-false (length w) 7 (or_parts _ _ (or_parts _ _ e).0).0

pub degree_most : (n : ℕ) → wrong_degree n ≡ false → n ≤ 64
degree_most n e = let g = allowed_degree n e in omega arith
