-- The proofs of specs/Landings.
use Rattle.std.specs.Prelude.{ℕ, suc, ◌+◌, ◌≤◌, ◌≡◌, ℤ, ◌+ℤ◌}
use native.Mathlib.Omega.{arith}
use Rattle.std.proofs.Common.{sym, ◌∙◌}
use Rattle.std.proofs.Math.Path.{ap, subst}
use Rattle.std.proofs.Math.IntN.{pos}
use Rattle.math_algebra.specs.Field.{Field}
use Rattle.math_algebra.specs.Polynomial.{F, Px}
use Rattle.math_algebra.specs.Associate.{associate_deg}
use Rattle.math_surd.specs.Ideal.{SameIdeal}
use Rattle.math_surd.specs.Walk.{walk_state}
use Rattle.math_surd.specs.Distance.{distance}
use Rattle.math_giants.specs.GiantStep.{GiantStep, drop, giant_Q, giant_P}
use Rattle.math_giants.proofs.GiantStep.{drop_most}
use Rattle.math_giants.specs.Lands.{Landed}
use Rattle.math_giants.proofs.Lands as walks
use Rattle.spec_arithmetic.specs.Polynomials.{root}
use Rattle.spec_definitions.specs.Ticket.{Ticket, genus}
use Rattle.spec_definitions.specs.Walk.{Ideal, walk}
use Rattle.spec_definitions.specs.Answers.{ops_of, root_of}
use Rattle.spec_definitions.specs.Listing.{ideal_of, entry_of}
use Rattle.spec_definitions.specs.Products.{Product, GiantStepAnswer, giant_done}
use Rattle.spec_bridge.specs.Model.{Model, series}
use Rattle.spec_fields.specs.Named.{arithmetic}
use Rattle.spec_laws.specs.Surd.{Surd}
use Rattle.spec_laws.specs.Fraction.{fraction, Q_deg}
use Rattle.spec_laws.specs.Fraction as fields
use Rattle.spec_laws.specs.Convergents.{degree_distance}
use Rattle.spec_laws.specs.Admitted.{Admitted, is_field, surd_of}
use Rattle.spec_laws.specs.Product.{product_is}
use Rattle.spec_laws.specs.Reduction.{stated}
use Rattle.spec_giants.specs.Normal.{normal_equal}
use Rattle.spec_giants.specs.GiantSteps.{listed, start, turns, ended}
use Rattle.spec_giants.proofs.GiantSteps.{plus_minus, giant, end_Q, end_P, drop_is}
use Rattle.spec_giants.specs.Entries.{ideal, δ, entry_ideal, entry_same}
use Rattle.spec_giants.specs.Landings as defs

module _ (t : Ticket) where
  abbrev Lands : (i j : ℕ) → (a : GiantStepAnswer) → Type 0
  Lands = defs.Lands t

  abbrev answer_from : ℕ → Product ℕ → GiantStepAnswer
  answer_from = defs.answer_from t

  module _ (h : Admitted t.field (genus t.n) t.D) (i j : ℕ) where
    abbrev K : Field (arithmetic t.field (is_field h)).Elements
    K = (arithmetic t.field (is_field h)).K

    abbrev M : Model (ops_of t) (F K)
    M = (arithmetic t.field (is_field h)).M

    abbrev z : Surd K M (genus t.n) t.D (root (ops_of t) t.D (suc (genus t.n)))
    z = surd_of h

    -- the definitions' product of the two ideals, the end of its steps, and the giant step over the field
    abbrev product : Product ℕ
    product = listed z (entry_ideal t h i) (entry_ideal t h j)

    abbrev end : Ideal ℕ
    end = ended z (entry_ideal t h i) (entry_ideal t h j)

    abbrev G : GiantStep K (fields.root z) (series M (ideal t i).q) (series M (ideal t i).p) (series M (ideal t j).q) (series M (ideal t j).p)
    G = giant z (entry_ideal t h i) (entry_ideal t h j)

    landed : Landed K (fraction z) G (distance K (fraction z) i) (distance K (fraction z) j)
    unfolding root_of
    landed = walks.lands K (fraction z) G i j (entry_same t h i) (entry_same t h j)

    -- what the answer's lists stand for
    end_same : (l : ℕ) → SameIdeal K (giant_Q K G) (giant_P K G) ((fraction z).Q l) ((fraction z).P l) → SameIdeal K (series M end.q) (series M end.p) ((fraction z).Q l) ((fraction z).P l)
    end_same l s = subst (λ (f : Px K). SameIdeal K f (series M end.p) ((fraction z).Q l) ((fraction z).P l)) (end_Q z (entry_ideal t h i) (entry_ideal t h j)) (subst (λ (f : Px K). SameIdeal K (giant_Q K G) f ((fraction z).Q l) ((fraction z).P l)) (end_P z (entry_ideal t h i) (entry_ideal t h j)) s)

    end_is : (l : ℕ) → SameIdeal K (giant_Q K G) (giant_P K G) ((fraction z).Q l) ((fraction z).P l) → ideal_of (ops_of t) end ≡ ideal t l
    unfolding entry_of root_of
    end_is l s = normal_equal K M z.inverts t.D end (walk (ops_of t) t.D (root_of t) l) (stated z product.ideal (start z (entry_ideal t h i) (entry_ideal t h j)) (turns z (entry_ideal t h i) (entry_ideal t h j))).state (walk_state K (fraction z) l) (end_same l s)

    -- f of reduced ideals is at least −2g
    fall_few : drop K G ≤ genus t.n + genus t.n
    unfolding root_of
    fall_few = drop_most K G (associate_deg K (entry_same t h i).ratio (Q_deg z i)) (associate_deg K (entry_same t h j).ratio (Q_deg z j)) ((fraction z).reduced i) ((fraction z).reduced j)

    fall_sum : δ t landed.at + drop K G ≡ δ t i + δ t j
    unfolding entry_of root_of
    fall_sum = let a = degree_distance z landed.at in let b = degree_distance z i in let c = degree_distance z j in let e = landed.distance_is in omega arith

    product_lands : Lands i j (answer_from (δ t i + δ t j) product)
    unfolding defs.answer_from root_of
    product_lands = record {
      at = landed.at;
      q_is = ap (λ (x : Ideal ℕ). x.q) (end_is landed.at landed.same);
      p_is = ap (λ (x : Ideal ℕ). x.p) (end_is landed.at landed.same);
      fall = drop K G;
      few = fall_few;
      f_is = drop_is z (entry_ideal t h i) (entry_ideal t h j);
      sum = fall_sum;
      distance_is = ap (λ (f : ℤ). pos (δ t i + δ t j) +ℤ f) (drop_is z (entry_ideal t h i) (entry_ideal t h j)) ∙ plus_minus (δ t landed.at) (drop K G) (δ t i + δ t j) fall_sum;
    }

  pub lands : Admitted t.field (genus t.n) t.D → (i j : ℕ) → Lands i j (giant_done t (ideal t i) (δ t i) (ideal t j) (δ t j))
  unfolding giant_done defs.answer_from
  lands h i j = subst (λ (r : Product ℕ). Lands i j (answer_from (δ t i + δ t j) r)) (sym (product_is (K h i j) (M h i j) (z h i j).inverts t.D (ideal t i) (ideal t j))) (product_lands h i j)
