-- An answer of the call `giant_step` as numbers, with its polynomials in lent arrays.
use Rattle.std.specs.Prelude.{List, ℕ, ◌≡◌, [], Result, Ok, Err, IfOk, IfErr, pos}
use Rattle.std.proofs.Common.{sym, ◌∙◌, subst}
use Rattle.spec_definitions.specs.Products.{GiantStepAnswer as Answer}
use Rattle.base_refusals.specs.declared.Refusal.{Refusal}
use Rattle.base_refusals.specs.Number.{refused_by}
use Rattle.base_polynomial.specs.declared.Poly.{Poly}
use Rattle.base_polynomial.specs.Over.{Holds}
use Rattle.call_giant_step.specs.declared.GiantStep.{GiantStep}
use Rattle.call_giant_step.specs.GiantSteps.{GiantStepSays}
use Rattle.out_polynomials.specs.declared.GiantStepNumbers.{GiantStepNumbers}
use Rattle.out_polynomials.specs.Lent.{poly_in}

-- the numbers and the arrays with their sizes are the answer a
pub record GiantStepWritten (r : GiantStepNumbers) (q p : List ℕ) (a : Answer) : Type 0 where
  pub number_is : r.number ≡ a.number
  pub q_is : Holds (poly_in q r.q_size) a.q
  pub p_is : Holds (poly_in p r.p_size) a.p
  pub f_is : r.f ≡ a.f
  pub distance_is : r.distance ≡ a.distance

-- what is written of a result that says it
pub giant_step_written : {r : Result GiantStep Refusal} {a : Answer} → GiantStepSays r a → {n : GiantStepNumbers} → n.number ≡ refused_by r → {q p : List ℕ}
    → IfOk r (λ t. (poly_in q n.q_size ≡ t.ideal.q) × (poly_in p n.p_size ≡ t.ideal.p) × (n.f ≡ t.shift.f) × (n.distance ≡ t.shift.distance))
    → IfErr r (λ _. Holds (poly_in q n.q_size) [] × Holds (poly_in p n.p_size) [] × (n.f ≡ pos 0) × (n.distance ≡ pos 0))
    → GiantStepWritten n q p a
giant_step_written {r = Ok t} {a} h e f z =
    let g = h.giant_step_is in
    record {
      number_is = e ∙ h.number_is;
      q_is = subst (λ (x : Poly). Holds x a.q) (sym f.0) g.q_is;
      p_is = subst (λ (x : Poly). Holds x a.p) (sym f.1) g.p_is;
      f_is = f.2 ∙ g.f_is;
      distance_is = f.3 ∙ g.distance_is;
    }
giant_step_written {r = Err k} {a} h {n} e {q} {p} f z = record {
  number_is = e ∙ h.number_is;
  q_is = subst (Holds (poly_in q n.q_size)) (sym h.zeros.0) z.0;
  p_is = subst (Holds (poly_in p n.p_size)) (sym h.zeros.1) z.1;
  f_is = z.2 ∙ sym h.zeros.2;
  distance_is = z.3 ∙ sym h.zeros.3;
}
