-- An answer of the call `product` as numbers, with its polynomials in lent arrays.
use Rattle.std.specs.Prelude.{List, ℕ, ◌≡◌, [], Result, Ok, Err, IfOk, IfErr}
use Rattle.std.proofs.Common.{sym, ◌∙◌, subst}
use Rattle.spec_definitions.specs.Products.{ProductAnswer as Answer}
use Rattle.base_refusals.specs.declared.Refusal.{Refusal}
use Rattle.base_refusals.specs.Number.{refused_by}
use Rattle.base_polynomial.specs.declared.Poly.{Poly}
use Rattle.base_polynomial.specs.Over.{Holds}
use Rattle.call_product.specs.declared.IdealProduct.{IdealProduct}
use Rattle.call_product.specs.Products.{ProductSays}
use Rattle.out_polynomials.specs.declared.ProductNumbers.{ProductNumbers}
use Rattle.out_polynomials.specs.Lent.{poly_in}

-- the number and the arrays with their sizes are the answer a
pub record ProductWritten (r : ProductNumbers) (s q p : List ℕ) (a : Answer) : Type 0 where
  pub number_is : r.number ≡ a.number
  pub s_is : Holds (poly_in s r.s_size) a.s
  pub q_is : Holds (poly_in q r.q_size) a.q
  pub p_is : Holds (poly_in p r.p_size) a.p

-- what is written of a result that says it
pub product_written : {r : Result IdealProduct Refusal} {a : Answer} → ProductSays r a → {n : ProductNumbers} → n.number ≡ refused_by r → {s q p : List ℕ}
    → IfOk r (λ t. (poly_in s n.s_size ≡ t.s) × (poly_in q n.q_size ≡ t.ideal.q) × (poly_in p n.p_size ≡ t.ideal.p))
    → IfErr r (λ _. Holds (poly_in s n.s_size) [] × Holds (poly_in q n.q_size) [] × Holds (poly_in p n.p_size) [])
    → ProductWritten n s q p a
product_written {r = Ok t} {a} h e f z = record {
  number_is = e ∙ h.number_is;
  s_is = subst (λ (x : Poly). Holds x a.s) (sym f.0) h.product_is.s_is;
  q_is = subst (λ (x : Poly). Holds x a.q) (sym f.1) h.product_is.q_is;
  p_is = subst (λ (x : Poly). Holds x a.p) (sym f.2) h.product_is.p_is;
}
product_written {r = Err k} {a} h {n} e {s} {q} {p} f z = record {
  number_is = e ∙ h.number_is;
  s_is = subst (Holds (poly_in s n.s_size)) (sym h.zeros.0) z.0;
  q_is = subst (Holds (poly_in q n.q_size)) (sym h.zeros.1) z.1;
  p_is = subst (Holds (poly_in p n.p_size)) (sym h.zeros.2) z.2;
}
