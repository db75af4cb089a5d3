-- The job at a prime q that is allowed: what refuses it, and what it says, by the tests on D and the reduced
-- coefficients.
use Rattle.std.specs.Prelude.{ℕ, ◌+◌, ◌≤◌, ◌<◌, ◌≡◌, false, List, length, get_or}
use Rattle.std.proofs.Common.{arith, ap, ◌∙◌}
use Rattle.std.proofs.Math.Path.{sym}
use Rattle.spec_arithmetic.specs.Field.{prime}
use Rattle.spec_arithmetic.specs.Words.{values, value}
use Rattle.spec_definitions.specs.Ticket.{ticket, ticket_of, wrong_prime, first_of, refusal_of}
use Rattle.spec_laws.specs.FirstTest.{radicand_tests}
use Rattle.spec_several.specs.Several.{degree_of, coefficients_of, budget_of, several_refusal, job_at, job_words}
use Rattle.spec_several.specs.Jobs.{residues_in}
use Rattle.spec_several.proofs.Jobs.{length_residues}
use Rattle.spec_several.proofs.Laws as several
use Rattle.ticket_read.specs.Refusal.{PastLayout}

module _ (w : List ℕ) (none : several_refusal w ≡ 0) (n : ℕ) (n_is : n ≡ degree_of w) where
  pub job_long : n + 5 ≤ length w
  job_long = omega (arith, several.length_words w none, several.some_primes w none)

  module _ (q : ℕ) (fits : q < values) (allowed : wrong_prime q ≡ false) where
    job_refusal : refusal_of (job_words w q) ≡ first_of (radicand_tests (prime q) n (residues_in q n w))
    unfolding job_at coefficients_of
    job_refusal = several.job_refusal w none q fits allowed ∙ ap (λ (m : ℕ). first_of (radicand_tests (prime q) m (residues_in q m w))) (sym n_is)

    job_ticket : ticket_of (job_words w q) ≡ ticket (prime q) n (residues_in q n w) (value (get_or w (n + 2) 0))
    unfolding job_at coefficients_of budget_of
    job_ticket = several.ticket_of_job_words w none q fits ∙ ap (λ (m : ℕ). ticket (prime q) m (residues_in q m w) (value (get_or w (m + 2) 0))) (sym n_is)

    pub past_job : PastLayout (job_words w q) (prime q) n (residues_in q n w) (value (get_or w (n + 2) 0))
    past_job =
        record {
          n_most = omega (arith, several.degree_most w none);
          size = length_residues q n w (let l = job_long in omega arith);
          ticket_is = job_ticket;
          refusal_is = job_refusal;
        }
