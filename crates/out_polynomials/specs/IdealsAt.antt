-- An answer of the call `ideal_at` as numbers, with its polynomials in lent arrays.
use Rattle.std.specs.Prelude.{List, ℕ, ◌≡◌, [], Result, Ok, Err, IfOk, IfErr}
use Rattle.std.proofs.Common.{sym, ◌∙◌, subst}
use Rattle.spec_ideal_at.specs.Halving.{IdealAtAnswer as Answer}
use Rattle.base_refusals.specs.declared.Refusal.{Refusal}
use Rattle.base_refusals.specs.Number.{refused_by}
use Rattle.base_polynomial.specs.declared.Poly.{Poly}
use Rattle.base_polynomial.specs.Over.{Holds}
use Rattle.call_ideal_at.specs.declared.IdealAt.{IdealAt}
use Rattle.call_ideal_at.specs.IdealsAt.{IdealAtSays}
use Rattle.out_polynomials.specs.declared.IdealNumbers.{IdealNumbers}
use Rattle.out_polynomials.specs.Lent.{poly_in}

-- the numbers and the arrays with their sizes are the answer a
pub record IdealAtWritten (r : IdealNumbers) (q p : List ℕ) (a : Answer) : Type 0 where
  pub number_is : r.number ≡ a.number
  pub q_is : Holds (poly_in q r.q_size) a.q
  pub p_is : Holds (poly_in p r.p_size) a.p
  pub distance_is : r.distance ≡ a.distance
  pub next_is : r.next ≡ a.next

-- what is written of a result that says it
pub ideal_at_written : {r : Result IdealAt Refusal} {a : Answer} → IdealAtSays r a → {n : IdealNumbers} → n.number ≡ refused_by r → {q p : List ℕ}
    → IfOk r (λ t. (poly_in q n.q_size ≡ t.ideal.q) × (poly_in p n.p_size ≡ t.ideal.p) × (n.distance ≡ t.distance.0) × (n.next ≡ t.next.0))
    → IfErr r (λ _. Holds (poly_in q n.q_size) [] × Holds (poly_in p n.p_size) [] × (n.distance ≡ 0) × (n.next ≡ 0))
    → IdealAtWritten n q p a
ideal_at_written {r = Ok t} {a} h e f z =
    let g = h.ideal_at_is in
    record {
      number_is = e ∙ h.number_is;
      q_is = subst (λ (x : Poly). Holds x a.q) (sym f.0) g.q_is;
      p_is = subst (λ (x : Poly). Holds x a.p) (sym f.1) g.p_is;
      distance_is = f.2 ∙ g.distance_is;
      next_is = f.3 ∙ g.next_is;
    }
ideal_at_written {r = Err k} {a} h {n} e {q} {p} f z = record {
  number_is = e ∙ h.number_is;
  q_is = subst (Holds (poly_in q n.q_size)) (sym h.zeros.0) z.0;
  p_is = subst (Holds (poly_in p n.p_size)) (sym h.zeros.1) z.1;
  distance_is = z.2 ∙ sym h.zeros.2;
  next_is = z.3 ∙ sym h.zeros.3;
}
