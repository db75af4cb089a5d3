-- The definition's refusal by the tests in their order: the head, then those on q, n and the layout, then those
-- on D.
use Rattle.std.specs.Prelude.{ℕ, ◌+◌, ◌≤◌, ◌≡◌, true, false, List, [], ◌∷◌, ◌++◌, length, get_or}
use Rattle.std.proofs.Common.{arith, ◌∙◌}
use Rattle.std.proofs.Math.Path.{sym, ap₂}
use Rattle.spec_arithmetic.specs.Field.{FieldName, prime}
use Rattle.spec_arithmetic.specs.Words.{value}
use Rattle.spec_definitions.specs.Ticket.{ticket, ticket_of, wrong_head, first_of, tests_of, refusal_of}
use Rattle.spec_laws.specs.Admitted.{layout_length}
use Rattle.spec_laws.specs.FirstTest.{radicand_tests, first_applies, first_passes, first_some}
use Rattle.base_refusals.specs.declared.Refusal.{Refusal}
use Rattle.base_refusals.specs.declared.Refusal.TheVariants.{Head, Prime, Degree, Layout, Coefficient, Lead, Squarefree, Ideal, Distance, UnitRoom, ListingRoom, Shape, Size}
use Rattle.base_refusals.specs.Number.{number_of}
use Rattle.ticket_layout.specs.Refusal.{layout_tests, LaidOut, degree_most}
use Rattle.ticket_radicand.specs.Radicand.{coefficients, length_coefficients}

pub refused_1 : (w : List ℕ) → wrong_head (1 ∷ []) w ≡ true → refusal_of w ≡ 1
unfolding refusal_of tests_of
refused_1 w e = first_applies _ _ e

-- no refusal has the number 0
pub number_some : (r : Refusal) → number_of r ≡ 0 → ⊥
number_some Head e = omega arith
number_some Prime e = omega arith
number_some Degree e = omega arith
number_some Layout e = omega arith
number_some Coefficient e = omega arith
number_some Lead e = omega arith
number_some Squarefree e = omega arith
number_some Ideal e = omega arith
number_some Distance e = omega arith
number_some UnitRoom e = omega arith
number_some ListingRoom e = omega arith
number_some Shape e = omega arith
number_some Size e = omega arith

-- the words w pass the tests 1 to 4: what they say, with n + 1 coefficients D, and what refuses them
pub record PastLayout (w : List ℕ) (f : FieldName) (n : ℕ) (D : List ℕ) (b : ℕ) : Type 0 where
  pub n_most : n ≤ 64
  pub size : length D ≡ n + 1
  pub ticket_is : ticket_of w ≡ ticket f n D b
  pub refusal_is : refusal_of w ≡ first_of (radicand_tests f n D)

-- q and n are the values of the first two words
module _ (w : List ℕ) (head : wrong_head (1 ∷ []) w ≡ false) (q n : ℕ) (q_is : q ≡ value (get_or w 0 0)) (n_is : n ≡ value (get_or w 1 0)) where
  past_head : refusal_of w ≡ first_of (layout_tests q n w ++ radicand_tests (prime q) n (coefficients n w))
  unfolding refusal_of tests_of ticket_of layout_tests radicand_tests
  past_head = first_passes _ _ head ∙ ap₂ (λ (p m : ℕ). first_of (layout_tests p m w ++ radicand_tests (prime p) m (coefficients m w))) (sym q_is) (sym n_is)

  pub refused_by_layout : (r : Refusal) → number_of r ≡ first_of (layout_tests q n w) → number_of r ≡ refusal_of w
  refused_by_layout r e = e ∙ sym (past_head ∙ first_some (layout_tests q n w) _ (λ none. number_some r (e ∙ none)))

  parts : ticket_of w ≡ ticket (prime q) n (coefficients n w) (value (get_or w (n + 3) 0))
  unfolding ticket_of
  parts = ap₂ (λ (p m : ℕ). ticket (prime p) m (coefficients m w) (value (get_or w (m + 3) 0))) (sym q_is) (sym n_is)

  pub past_layout : LaidOut q n w → PastLayout w (prime q) n (coefficients n w) (value (get_or w (n + 3) 0))
  unfolding layout_tests
  past_layout l =
      record {
        n_most = degree_most n l.degree;
        size = length_coefficients n w (omega (arith, layout_length n w l.layout));
        ticket_is = parts;
        refusal_is = past_head ∙ first_passes _ _ l.prime ∙ first_passes _ _ l.degree ∙ first_passes _ _ l.layout;
      }
