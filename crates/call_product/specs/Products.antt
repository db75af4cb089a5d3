-- The answer of the call `product`, case by case, and what its polynomials are.
use Prim.Native.Nat.{ℕ, zero, suc}
use Rattle.std.proofs.Common.{arith, sym, ◌∙◌, subst}
use Rattle.std.specs.Prelude.{◌≡◌, refl, Bool, true, false, List, [], Result, Ok, Err, IfOk, IfErr}
use Rattle.std.proofs.Math.Path.{ap, ap₂}
use Rattle.std.specs.Result.{IsErrAnd}
use Rattle.spec_definitions.specs.Ticket.{Ticket, ticket_of, refusal_of}
use Rattle.spec_definitions.specs.Walk.{Ideal as Pair}
use Rattle.spec_definitions.specs.Products.{Product, ProductAnswer as Answer, wrong_pair, product_done, product_refused, product_answer}
use Rattle.base_refusals.specs.declared.Refusal.{Refusal}
use Rattle.base_refusals.specs.Number.{number_of, refused_by, number_some}
use Rattle.base_polynomial.specs.declared.Poly.{Poly}
use Rattle.base_polynomial.specs.Over.{Holds, holds}
use Rattle.base_surd.specs.Surd.{ticket_with}
use Rattle.base_ideal.specs.declared.Ideal.{Ideal}
use Rattle.ideal_operand.specs.Ideal.{Multiplied}
pub use Rattle.ideal_pair.specs.Pair.{pair_of}
use Rattle.ideal_pair.specs.Words.{pairs_right, paired_product}
use Rattle.call_product.specs.Operands.{operands_refusal, answer_refused, AreRead}
use Rattle.call_product.specs.declared.IdealProduct.{IdealProduct}
use Rattle.call_product.specs.declared.operands.Operands.{Operands}

-- S, Q and P are those of the answer a
pub record ProductIs (t : IdealProduct) (a : Answer) : Type 0 where
  pub s_is : Holds t.s a.s
  pub q_is : Holds t.ideal.q a.q
  pub p_is : Holds t.ideal.p a.p

-- the number is that of the answer a, and so are the polynomials where there is no refusal; in a refusal a has zeros
pub record ProductSays (r : Result IdealProduct Refusal) (a : Answer) : Type 0 where
  pub number_is : refused_by r ≡ a.number
  pub product_is : IfOk r (λ t. ProductIs t a)
  pub zeros : IfErr r (λ _. (a.s ≡ []) × (a.q ≡ []) × (a.p ≡ []))

says_path : {r : Result IdealProduct Refusal} {a b : Answer} → a ≡ b → ProductSays r b → ProductSays r a
says_path {r} e h = subst (ProductSays r) (sym e) h

refused_says : {r : Refusal} {k : ℕ} → number_of r ≡ k → ProductSays (Err r) (product_refused k)
unfolding product_refused
refused_says e = record { number_is = e; product_is = tt; zeros = (refl, refl, refl) }

-- a refusal that is passed on
pub passed_on : {r : Result IdealProduct Refusal} {e : Refusal} {a : Answer} → IsErrAnd r (λ k. k ≡ e) → ProductSays (Err e) a → ProductSays r a
passed_on {r = Ok t} h s = absurd h
passed_on {r = Err k} {a = a} h s = subst (λ (i : Refusal). ProductSays (Err i) a) (sym h) s

-- ---- the answers
module _ (w : List ℕ) (x y : Pair ℕ) where
  -- the ticket or a pair is refused
  pub refused : {r : Refusal} → number_of r ≡ operands_refusal w x y → ProductSays (Err r) (product_answer w x y)
  unfolding product_answer
  refused {r} e = says_path (answer_refused w x y Answer product_refused (product_done (ticket_of w) x y) (let o = number_some r in omega arith)) (refused_says e)

  done_answer : {t : Ticket} → refusal_of w ≡ 0 → ticket_of w ≡ t → wrong_pair t x y ≡ false → product_answer w x y ≡ product_done t x y
  unfolding product_answer
  done_answer {t} passes is right =
      ap₂ (λ (n : ℕ) (t : Ticket). elim n as (λ _. Answer) [ zero ↦ elim (wrong_pair t x y) as (λ _. Answer) [ true ↦ product_refused 9 | false ↦ product_done t x y ] | suc k ↦ product_refused (suc k) ]) passes is
      ∙ ap (λ (b : Bool). elim b as (λ _. Answer) [ true ↦ product_refused 9 | false ↦ product_done t x y ]) right

  module _ {o : Operands} (t : AreRead w x y o) where
    -- S, Q and P of the product, which depends on the pairs' polynomials alone
    done : {common : Poly} {z : Ideal} → Multiplied o.surd o.x o.y common z → ProductSays (Ok (record { s = common; ideal = z })) (product_done (ticket_with o.surd t.budget) x y)
    unfolding product_done
    done {common} {z} m =
        says_path (ap (λ (r : Product ℕ). record { number = 0; s = r.s; q = r.ideal.q; p = r.ideal.p }) (sym (paired_product t.first t.second)))
        (record { number_is = refl; product_is = record { s_is = holds {a = common} m.s_is; q_is = holds {a = z.q} m.q_is; p_is = holds {a = z.p} m.p_is }; zeros = tt })

    pub multiplied : {common : Poly} {z : Ideal} → Multiplied o.surd o.x o.y common z → ProductSays (Ok (record { s = common; ideal = z })) (product_answer w x y)
    multiplied m = says_path (done_answer t.passes t.is (pairs_right t.first t.second t.budget)) (done m)
