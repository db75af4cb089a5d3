-- The proofs of specs/Products.
use Prim.Native.Nat.{ℕ, zero, suc, ◌+◌, ◌≤◌}
use Rattle.std.proofs.Common.{arith, sym, ap₂, ◌∙◌}
use Rattle.std.specs.Prelude.{◌≡◌, false, List, ◌+ℤ◌, ◌-ℤ◌}
use Rattle.std.proofs.Math.Path.{refl, ap, subst}
use Rattle.std.proofs.Math.IntN.{pos as posℤ}
use Rattle.math_algebra.specs.Field.{Field}
use Rattle.math_algebra.specs.Polynomial.{F}
use Rattle.math_surd.specs.Step.{State}
use Rattle.math_ring.specs.Series.{add_s, conv}
use Rattle.spec_arithmetic.specs.Field.{FieldName, ops}
use Rattle.spec_arithmetic.specs.Polynomials.{deg, add, monic, gcd, root}
use Rattle.spec_definitions.specs.Ticket.{Ticket, genus, ticket_of}
use Rattle.spec_definitions.specs.Walk.{Ideal, partial, steps}
use Rattle.spec_definitions.specs.Answers.{ops_of, root_of}
use Rattle.spec_definitions.specs.Listing.{ideal_of}
use Rattle.spec_definitions.specs.Products.{Product, product_of, turns_of, degree_sum, shift_of, ProductAnswer, product_done, giant_done, product_answer}
use Rattle.spec_bridge.specs.Model.{Model, Inverts, series}
use Rattle.spec_bridge.specs.Trim.{size_is, series_ext}
use Rattle.spec_bridge.specs.Arithmetic.{series_add, series_mul, trim_add, oks_add}
use Rattle.spec_bridge.specs.Division.{oks_quo}
use Rattle.spec_bridge.specs.Monic.{oks_monic}
use Rattle.spec_bridge.specs.Degree.{deg_is}
use Rattle.spec_bridge.specs.Bezout.{trim_gcd, oks_gcd}
use Rattle.spec_fields.specs.Named.{arithmetic}
use Rattle.spec_laws.specs.Surd.{Surd}
use Rattle.spec_laws.specs.Admitted.{Admitted, is_field, surd_of, admitted}
use Rattle.spec_laws.specs.Pairs.{IsIdeal, cofactor_at, ideal_state}
use Rattle.spec_laws.specs.PairTest.{Passes, pair_passes, pairs_pass, pair_ideal, pair_degree}
use Rattle.spec_laws.specs.Product.{common_of, product_q, product_p, bezout_u, bezout_v, bezout_w, Gives, product_is, bezout_gives, common, S_divides, Q_product, product_same, product_ideal}
use Rattle.spec_laws.specs.Product as product
use Rattle.spec_laws.specs.Reduction.{next_divides, stated, Q_size, a_size, turns_first}
use Rattle.spec_laws.specs.Reduced.{reduced_ideal}
use Rattle.spec_laws.specs.Shift.{turns_few, shift_not_positive, shift_least}
use Rattle.spec_sentences.proofs.Arithmetic.{lead_is_one, gcd_rules}
use Rattle.spec_sentences.proofs.Tests.{tests_none}
use Rattle.spec_refusals.specs.Pairs.{IsPair}
use Rattle.spec_refusals.proofs.Pairs.{exact, ideal_is_pair, pairs_passed, tests_distances, product_answer_by, giant_answer_by}
use Rattle.spec_demands.specs.Continued.{sum_to}
use Rattle.spec_demands.specs.Products.{Combines, IsProduct, ReducesAt, Multiplies, Steps, T2Products, T2GiantSteps}
use Rattle.spec_demands.specs.Products as defs

-- ---- the proof, for a D that is admitted and two pairs that pass
module _ {f : FieldName} {g : ℕ} {D : List ℕ} (h : Admitted f g D) {x y : Ideal ℕ} (px : Passes f g D x) (py : Passes f g D y) where
  abbrev K : Field (arithmetic f (is_field h)).Elements
  K = (arithmetic f (is_field h)).K

  abbrev M : Model (ops f) (F K)
  M = (arithmetic f (is_field h)).M

  abbrev I : Inverts M
  I = (arithmetic f (is_field h)).I

  abbrev d : List ℕ
  d = root (ops f) D (suc g)

  abbrev z : Surd K M g D d
  z = surd_of h

  abbrev hx : IsIdeal K M D x
  hx = pair_ideal h px

  abbrev hy : IsIdeal K M D y
  hy = pair_ideal h py

  gives : (u v w : List ℕ) → Combines f x y (common_of (ops f) x y) u v w → Gives K M I D x y u v w
  gives u v w e = record { is = ap (series M) e ∙ series_add M _ _ ∙ ap₂ (add_s (F K)) (series_add M _ _ ∙ ap₂ (add_s (F K)) (series_mul M u x.q) (series_mul M v y.q)) (series_mul M w _ ∙ ap (conv (F K) (series M w)) (series_add M x.p y.p)) }

  combines : (u v w : List ℕ) → Gives K M I D x y u v w → Combines f x y (common_of (ops f) x y) u v w
  combines u v w k = series_ext M _ _ (trim_gcd M I _ _) (trim_add M _ _) (oks_gcd M I _ _) (oks_add M _ _) (k.is ∙ sym (series_add M _ _ ∙ ap₂ (add_s (F K)) (series_add M _ _ ∙ ap₂ (add_s (F K)) (series_mul M u x.q) (series_mul M v y.q)) (series_mul M w _ ∙ ap (conv (F K) (series M w)) (series_add M x.p y.p))))

  -- ---- the product, as its lists are named
  abbrev S : List ℕ
  S = common_of (ops f) x y

  abbrev Q₀ : List ℕ
  Q₀ = product_q (ops f) x y

  abbrev P₀ : List ℕ
  P₀ = product_p (ops f) D x y (bezout_u (ops f) x y) (bezout_w (ops f) x y)

  abbrev r : Product ℕ
  r = record { s = S; ideal = record { q = Q₀; p = P₀ } }

  is_product : IsProduct f g D x y S Q₀ P₀
  is_product = record {
    S_monic = lead_is_one f (is_field h) S (oks_gcd M I _ _) (common K M I D hx hy).monic;
    S_first = exact h x.q S (S_divides K M I D hx hy).0;
    S_second = exact h y.q S (S_divides K M I D hx hy).1;
    S_sum = exact h _ S (S_divides K M I D hx hy).2;
    S_greatest = λ l u v w. (gcd_rules f (is_field h) (gcd (ops f) x.q y.q) (add (ops f) x.p y.p)).greatest l ((gcd_rules f (is_field h) x.q y.q).greatest l u v) w;
    S_combines = (bezout_u (ops f) x y, bezout_v (ops f) x y, bezout_w (ops f) x y, combines _ _ _ (bezout_gives K M I D x y));
    Q_square = Q_product K M I D hx hy;
    Q_most = let e = product.Q_size K M I D hx hy in let e' = deg_is K M Q₀ in let a = pair_degree h px in let b = pair_degree h py in omega arith;
    P_any = λ u v w e. product_same K M I D hx hy (bezout_gives K M I D x y) (gives u v w e);
    ideal = ideal_is_pair h (oks_quo M _ _) (product_ideal K M I D hx hy (bezout_gives K M I D x y));
  }

  -- ---- its reduction
  abbrev st : State K (series M D) (series M Q₀) (series M (cofactor_at (ops f) D r.ideal)) (series M P₀)
  st = ideal_state K M D (product_ideal K M I D hx hy (bezout_gives K M I D x y))

  reduces_at : ReducesAt f g D d r.ideal (turns_of (ops f) D d g r.ideal)
  unfolding steps
  reduces_at = record {
    exact = λ j. exact h _ (steps (ops f) D d r.ideal j).q (next_divides z (steps (ops f) D d r.ideal j) (stated z r.ideal st j).state);
    not_zero = λ j. let e = Q_size z r.ideal st j in let e' = size_is M (steps (ops f) D d r.ideal j).q in omega arith;
    partial_deg = λ j. let e = a_size z r.ideal st j in let e' = deg_is K M (partial (ops f) D d (steps (ops f) D d r.ideal (suc j))) in omega arith;
    reduced = (turns_first z r.ideal st).0;
    first = (turns_first z r.ideal st).1;
    few = subst (λ (p : Product ℕ). turns_of (ops f) D d g p.ideal + turns_of (ops f) D d g p.ideal ≤ suc g) (product_is K M I D x y) (turns_few z hx hy (pair_degree h px) (pair_degree h py));
  }

  answer_pair : (k : ℕ) → let i = ideal_of (ops f) (steps (ops f) D d r.ideal k) in IsPair f D i.q i.p
  unfolding ideal_of
  answer_pair k = ideal_is_pair h (oks_monic M I (steps (ops f) D d r.ideal k).q) (reduced_ideal K M I D (steps (ops f) D d r.ideal k) (stated z r.ideal st k).state)

-- ---- for a ticket
module _ (t : Ticket) (h : Admitted t.field (genus t.n) t.D) {x y : Ideal ℕ} (px : Passes t.field (genus t.n) t.D x) (py : Passes t.field (genus t.n) t.D y) where
  abbrev of_lists : product_of (ops_of t) t.D x y ≡ r h px py
  of_lists = product_is (K h px py) (M h px py) (I h px py) t.D x y

  multiplies : Multiplies t x y (product_done t x y)
  unfolding product_done
  multiplies = record { number = refl; is = subst (λ (p : Product ℕ). IsProduct t.field (genus t.n) t.D x y p.s p.ideal.q p.ideal.p) (sym of_lists) (is_product h px py) }

  sum_is : (s : Ideal ℕ) (k : ℕ) → degree_sum (ops_of t) t.D (root_of t) (genus t.n) s k ≡ sum_to (λ j. deg (ops_of t) (partial (ops_of t) t.D (root_of t) (steps (ops_of t) t.D (root_of t) s j))) k
  unfolding degree_sum sum_to
  sum_is s zero = refl
  sum_is s (suc k) = ap (λ (n : ℕ). n + deg (ops_of t) (partial (ops_of t) t.D (root_of t) (steps (ops_of t) t.D (root_of t) s (suc k)))) (sum_is s k)

  steps_are : (d e : ℕ) → Steps t x d y e (product_of (ops_of t) t.D x y).s (product_of (ops_of t) t.D x y).ideal (giant_done t x d y e)
  unfolding giant_done ideal_of root_of shift_of
  steps_are d e = record {
    number = refl;
    k = turns_of (ops_of t) t.D (root_of t) (genus t.n) (product_of (ops_of t) t.D x y).ideal;
    reduces = subst (λ (p : Product ℕ). ReducesAt t.field (genus t.n) t.D (root_of t) p.ideal (turns_of (ops_of t) t.D (root_of t) (genus t.n) p.ideal)) (sym of_lists) (reduces_at h px py);
    Q_is = refl;
    P_is = refl;
    ideal = subst (λ (p : Product ℕ). let i = ideal_of (ops_of t) (steps (ops_of t) t.D (root_of t) p.ideal (turns_of (ops_of t) t.D (root_of t) (genus t.n) p.ideal)) in IsPair t.field t.D i.q i.p) (sym of_lists) (answer_pair h px py (turns_of (ops_of t) t.D (root_of t) (genus t.n) (r h px py).ideal));
    f_is = ap (λ (n : ℕ). posℤ (deg (ops_of t) (steps (ops_of t) t.D (root_of t) (product_of (ops_of t) t.D x y).ideal (turns_of (ops_of t) t.D (root_of t) (genus t.n) (product_of (ops_of t) t.D x y).ideal)).q) -ℤ posℤ (deg (ops_of t) (product_of (ops_of t) t.D x y).ideal.q) +ℤ posℤ n -ℤ posℤ (deg (ops_of t) (product_of (ops_of t) t.D x y).s)) (sum_is (product_of (ops_of t) t.D x y).ideal _);
    f_most = shift_not_positive (surd_of h) (pair_ideal h px) (pair_ideal h py) (pair_degree h px) (pair_degree h py);
    f_least = shift_least (surd_of h) (pair_ideal h px) (pair_ideal h py) (pair_degree h px) (pair_degree h py);
    distance = refl;
  }

pub t2_products : T2Products
t2_products w k x y px py =
    let h = admitted w k in
    let n = pairs_passed (ticket_of w) h x y px py in
    let p = pairs_pass (ticket_of w) x y n in
    subst (Multiplies (ticket_of w) x y) (sym (product_answer_by w x y 0 false k n)) (multiplies (ticket_of w) h (pair_passes (ticket_of w) x p.0) (pair_passes (ticket_of w) y p.1))

pub t2_giant_steps : T2GiantSteps
unfolding product_done
t2_giant_steps w k x y px py d e far =
    let h = admitted w k in
    let n = pairs_passed (ticket_of w) h x y px py in
    let p = pairs_pass (ticket_of w) x y n in
    subst (Steps (ticket_of w) x d y e (product_answer w x y).s (record { q = (product_answer w x y).q; p = (product_answer w x y).p })) (sym (giant_answer_by w x y d e 0 false false k n (tests_none (tests_distances d e) far)))
    (subst (λ (a : ProductAnswer). Steps (ticket_of w) x d y e a.s (record { q = a.q; p = a.p }) (giant_done (ticket_of w) x d y e)) (sym (product_answer_by w x y 0 false k n)) (steps_are (ticket_of w) h (pair_passes (ticket_of w) x p.0) (pair_passes (ticket_of w) y p.1) d e))
