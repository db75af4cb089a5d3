-- Words that are read as a ticket: none of the tests on them applies, and the ticket says what they say; what the
-- tests give of its parts.
use Rattle.std.specs.Prelude.{ℕ, suc, ◌+◌, ◌<◌, ◌≤◌, ◌≡◌, List}
use Rattle.std.proofs.Common.{arith, ap, ◌∙◌}
use Rattle.std.proofs.Math.Path.{sym, ap₂, subst}
use Rattle.spec_arithmetic.specs.Field.{FieldName}
pub use Rattle.spec_definitions.specs.Ticket.{budgets}
use Rattle.spec_definitions.specs.Ticket.{Ticket, ticket, genus, ticket_of, refusal_of, first_of}
use Rattle.spec_laws.specs.Admitted.{Admitted, is_field, admitted, passed, allowed_degree, budget_less}
use Rattle.spec_laws.specs.FirstTest.{radicand_tests}
use Rattle.base_polynomial.specs.declared.Poly.{Poly}
use Rattle.base_polynomial.specs.Over.{poly, Held, Is, Holds, is_poly, result}
use Rattle.base_surd.specs.Surd.{ticket_with}
use Rattle.ticket_radicand.specs.Radicand.{trim_lead_one}
use Rattle.ticket_read.specs.declared.Ticket as code
use Rattle.ticket_read.specs.Refusal.{PastLayout}

pub record Accepted (w : List ℕ) (t : code.Ticket) : Type 0 where
  pub passes : refusal_of w ≡ 0
  pub ticket_is : ticket_of w ≡ ticket_with t.surd t.budget.steps

-- the same of the parts of a ticket
pub record AreRead (w : List ℕ) (f : FieldName) (n : ℕ) (radicand : Poly) (b : ℕ) : Type 0 where
  pub passes : refusal_of w ≡ 0
  pub ticket_is : ticket_of w ≡ ticket f n (poly radicand) b
  pub itself : Is f radicand (poly radicand)

module _ {w : List ℕ} {f : FieldName} {n : ℕ} {radicand : Poly} {b : ℕ} (r : AreRead w f n radicand b) where
  pub radicand_admitted : Admitted f (genus n) (poly radicand)
  radicand_admitted = subst (λ (t : Ticket). Admitted t.field (genus t.n) t.D) r.ticket_is (admitted w r.passes)

  pub radicand_held : Held f radicand
  radicand_held =
      let a = radicand_admitted in
      let s = a.size_D in
      let g = a.genus_most in
      (result r.itself (omega arith) (trim_lead_one f (is_field a) (poly radicand) _ s a.lead_one) a.below).held

  pub n_even : suc (genus n) + suc (genus n) ≡ n
  n_even = subst (λ (t : Ticket). suc (genus t.n) + suc (genus t.n) ≡ t.n) r.ticket_is (allowed_degree _ (passed w r.passes).degree).0

  pub degree_two : 2 ≤ n
  degree_two = let e = n_even in omega arith

  pub budget_few : b < budgets
  budget_few = subst (λ (t : Ticket). t.b < budgets) r.ticket_is (budget_less w)

-- past the layout, where the record of D has its coefficients
module _ {w : List ℕ} {f : FieldName} {n : ℕ} {D : List ℕ} {b : ℕ} (p : PastLayout w f n D b) {radicand : Poly} (holds : Holds radicand D) where
  same : poly radicand ≡ D
  same = is_poly (holds f) (let s = p.size in let m = p.n_most in omega arith)

  pub read_size : radicand.size ≡ n + 1
  read_size = (holds f).size_is ∙ p.size

  pub read_itself : Is f radicand (poly radicand)
  read_itself = subst (Is f radicand) (sym same) (holds f)

  pub read_refusal : {k : ℕ} → k ≡ first_of (radicand_tests f n (poly radicand)) → k ≡ refusal_of w
  read_refusal e = e ∙ ap (λ (l : List ℕ). first_of (radicand_tests f n l)) same ∙ sym p.refusal_is

  pub are_read : 0 ≡ first_of (radicand_tests f n (poly radicand)) → {c : ℕ} → c ≡ b → AreRead w f n radicand c
  are_read none e =
      record {
        passes = sym (read_refusal none);
        ticket_is = p.ticket_is ∙ sym (ap₂ (λ (l : List ℕ) (c : ℕ). ticket f n l c) same e);
        itself = read_itself;
      }
