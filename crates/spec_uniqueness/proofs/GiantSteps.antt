-- The proofs of specs/GiantSteps.
use Rattle.std.specs.Prelude.{ℕ, zero, suc, ◌+◌, ◌≤◌, ◌<◌, ◌≡◌, refl, List, ℤ, pos as posℤ, ◌+ℤ◌, ◌-ℤ◌, length}
use Rattle.std.proofs.Common.{arith, sym, ap, ap₂, ◌∙◌, subst, ⊎_elim}
use Rattle.math_ring.specs.Order.{le_or_lt}
use Rattle.math_algebra.specs.Field.{Field}
use Rattle.math_algebra.specs.Polynomial.{F}
use Rattle.spec_arithmetic.specs.Field.{reading}
use Rattle.spec_arithmetic.specs.Polynomials.{trim, deg, lead, add, sub, scale, mul, quo, rem, monic}
use Rattle.spec_definitions.specs.Ticket.{Ticket, genus, ticket_of}
use Rattle.spec_definitions.specs.Walk.{Ideal, partial, next_p, next, steps}
use Rattle.spec_definitions.specs.Answers.{ops_of, root_of}
use Rattle.spec_definitions.specs.Products.{GiantStepAnswer}
use Rattle.spec_bridge.specs.Model.{Model, Inverts, series}
use Rattle.spec_bridge.specs.Trim.{size_is}
use Rattle.spec_bridge.specs.Monic.{monic_cong}
use Rattle.spec_bridge.specs.Quotient.{rem_cong}
use Rattle.spec_fields.specs.Named.{arithmetic, some_elements, reading_first}
use Rattle.spec_laws.specs.Admitted.{Admitted, is_field, admitted}
use Rattle.spec_sentences.specs.Sentences.{AllowedField, Same}
use Rattle.spec_sentences.proofs.Arithmetic.{series_same, same_series, division}
use Rattle.spec_sentences.specs.Operations.{Trimmed, MadeMonic, Operations}
use Rattle.spec_sentences.proofs.Operations.{by_coefficients, trimmed_same}
use Rattle.spec_demands.specs.Continued.{sum_to, RootOf}
use Rattle.spec_demands.proofs.Continued.{t2}
use Rattle.spec_demands.specs.Products.{Steps}
use Rattle.spec_demands.proofs.Products.{t2_giant_steps}
use Rattle.spec_uniqueness.proofs.Division.{prime_of_ticket, deg_series, quotient_leaves, quotient_exact, division_only, monic_only}
use Rattle.spec_uniqueness.proofs.Walk.{one_root, steps_only, partial_only}
use Rattle.spec_uniqueness.specs.GiantSteps.{GiantStepOf, OneGiantStep, GiantStepIs, OneGiantStepOfSteps}

-- ---- the proof
answers_same : (r a : GiantStepAnswer) → r.number ≡ a.number → r.q ≡ a.q → r.p ≡ a.p → r.f ≡ a.f → r.distance ≡ a.distance → r ≡ a
answers_same r a n q p f d = λ i. record { number = n i; q = q i; p = p i; f = f i; distance = d i }

-- the first index from 0 up at which F is at most g
first_only : (F : ℕ → ℕ) (g k m : ℕ) → F k ≤ g → ((j : ℕ) → j < k → g < F j) → F m ≤ g → ((j : ℕ) → j < m → g < F j) → k ≡ m
first_only F g k m hk fk hm fm = ⊎_elim (λ u. ⊎_elim (λ v. omega arith) (λ v. absurd (let l = fk m v in omega arith)) (le_or_lt k m)) (λ u. absurd (let l = fm k u in omega arith)) (le_or_lt m k)

sum_same : (f h : ℕ → ℕ) (k : ℕ) → ((j : ℕ) → j ≤ k → f j ≡ h j) → sum_to f k ≡ sum_to h k
unfolding sum_to
sum_same f h zero e = refl
sum_same f h (suc k) e = ap₂ ◌+◌ (sum_same f h k (λ j l. e j (omega arith))) (e (suc k) (omega arith))

-- two answers of the definitions' steps
module _ {t : Ticket} {x : Ideal ℕ} {d : ℕ} {y : Ideal ℕ} {e : ℕ} {S : List ℕ} {s : Ideal ℕ} {r a : GiantStepAnswer} (u : Steps t x d y e S s r) (v : Steps t x d y e S s a) where
  abbrev at : ℕ → Ideal ℕ
  at = steps (ops_of t) t.D (root_of t) s

  k_same : u.k ≡ v.k
  k_same = first_only (λ j. deg (ops_of t) (at j).q) (genus t.n) u.k v.k u.reduces.reduced u.reduces.first v.reduces.reduced v.reduces.first

  Q_same : r.q ≡ a.q
  Q_same = u.Q_is ∙ ap (λ (j : ℕ). monic (ops_of t) (at j).q) k_same ∙ sym v.Q_is

  f_same : r.f ≡ a.f
  f_same = u.f_is ∙ ap (λ (k : ℕ). posℤ (deg (ops_of t) (at k).q) -ℤ posℤ (deg (ops_of t) s.q) +ℤ posℤ (sum_to (λ j. deg (ops_of t) (partial (ops_of t) t.D (root_of t) (at j))) k) -ℤ posℤ (deg (ops_of t) S)) k_same ∙ sym v.f_is

  steps_same : r ≡ a
  steps_same = answers_same r a (u.number ∙ sym v.number) Q_same (u.P_is ∙ ap₂ (λ (j : ℕ) (l : List ℕ). rem (ops_of t) (at j).p l) k_same Q_same ∙ sym v.P_is) f_same (u.distance ∙ ap (λ (f : ℤ). posℤ (d + e) +ℤ f) f_same ∙ sym v.distance)

pub one_giant_step_of_steps : OneGiantStepOfSteps
one_giant_step_of_steps w z x y px py d e far r u = steps_same u (t2_giant_steps w z x y px py d e far)

-- an answer of any polynomials, and one of the definitions' steps
module _ (t : Ticket) (h : Admitted t.field (genus t.n) t.D) {x : Ideal ℕ} {d : ℕ} {y : Ideal ℕ} {e : ℕ} {S : List ℕ} {s : Ideal ℕ} {r a : GiantStepAnswer}
    (u : GiantStepOf t d e S s r) (v : Steps t x d y e S s a) (root_same : Same t.field u.root (root_of t)) where
  abbrev K : Field (arithmetic t.field (is_field h)).Elements
  K = (arithmetic t.field (is_field h)).K

  abbrev M : Model (ops_of t) (F K)
  M = (arithmetic t.field (is_field h)).M

  abbrev I : Inverts M
  I = (arithmetic t.field (is_field h)).I

  up : (f l : List ℕ) → Same t.field f l → series M f ≡ series M l
  up = same_series t.field (is_field h)

  down : (f l : List ℕ) → series M f ≡ series M l → Same t.field f l
  down = series_same t.field (is_field h)

  abbrev by : ℕ → Ideal ℕ
  by = steps (ops_of t) t.D (root_of t) s

  some : (j : ℕ) → 0 < length (trim (ops_of t) (by j).q)
  some j = let l = v.reduces.not_zero j in let n = size_is M (by j).q in omega arith

  pairs : (j : ℕ) → j ≤ suc u.k → (series M (u.Q j) ≡ series M (by j).q) × (series M (u.P j) ≡ series M (by j).p)
  pairs = steps_only h u.root (root_of t) (up u.root (root_of t) root_same) s some (suc u.k) u.Q u.P u.a (up (u.Q 0) s.q u.Q_first) (up (u.P 0) s.p u.P_first) u.stepping

  partials : (j : ℕ) → j < suc u.k → series M (u.a j) ≡ series M (partial (ops_of t) t.D (root_of t) (by j))
  partials = partial_only h u.root (root_of t) (up u.root (root_of t) root_same) s some (suc u.k) u.Q u.P u.a (up (u.Q 0) s.q u.Q_first) (up (u.P 0) s.p u.P_first) u.stepping

  Q_deg : (j : ℕ) → j ≤ u.k → deg (ops_of t) (u.Q j) ≡ deg (ops_of t) (by j).q
  Q_deg j l = deg_series t.field (is_field h) (u.Q j) (by j).q (pairs j (omega arith)).0

  k_pair : (series M (u.Q u.k) ≡ series M (by u.k).q) × (series M (u.P u.k) ≡ series M (by u.k).p)
  k_pair = pairs u.k (omega arith)

  turns_same : u.k ≡ v.k
  turns_same = first_only (λ j. deg (ops_of t) (by j).q) (genus t.n) u.k v.k (let l = u.reduced in let n = Q_deg u.k (omega arith) in omega arith) (λ j l. let n = u.first j l in let b = Q_deg j (omega arith) in omega arith) v.reduces.reduced v.reduces.first

  Q_answer : r.q ≡ a.q
  Q_answer =
      trimmed_same t.field (some_elements t.field (is_field h)) r.q (monic (ops_of t) (u.Q u.k)) u.Q_trimmed ((by_coefficients t.field (some_elements t.field (is_field h))).monic_trimmed (u.Q u.k)) (down r.q (monic (ops_of t) (u.Q u.k)) (monic_only t.field (is_field h) (u.Q u.k) r.q u.c u.Q_is lead_mod))
      ∙ monic_cong M I (u.Q u.k) (by u.k).q k_pair.0
      ∙ ap (λ (j : ℕ). monic (ops_of t) (by j).q) turns_same
      ∙ sym v.Q_is
    where
      lead_mod : reading t.field (lead (ops_of t) r.q) ≡ 1
      lead_mod = ap (reading t.field) u.Q_monic ∙ reading_first t.field (is_field h)

  P_answer : r.p ≡ a.p
  P_answer =
      trimmed_same t.field (some_elements t.field (is_field h)) r.p (rem (ops_of t) (u.P u.k) r.q) u.P_trimmed ((by_coefficients t.field (some_elements t.field (is_field h))).rem_trimmed (u.P u.k) r.q) (down r.p (rem (ops_of t) (u.P u.k) r.q) (division_only t.field (is_field h) (u.P u.k) r.q u.m r.p u.P_is u.P_less).1)
      ∙ rem_cong M I (u.P u.k) (by u.k).p r.q a.q k_pair.1 (ap (series M) Q_answer)
      ∙ ap (λ (j : ℕ). rem (ops_of t) (by j).p a.q) turns_same
      ∙ sym v.P_is

  f_answer : r.f ≡ a.f
  f_answer =
      u.f_is
      ∙ ap₂ (λ (n z : ℕ). posℤ n -ℤ posℤ (deg (ops_of t) s.q) +ℤ posℤ z -ℤ posℤ (deg (ops_of t) S)) (Q_deg u.k (omega arith)) (sum_same (λ j. deg (ops_of t) (u.a j)) (λ j. deg (ops_of t) (partial (ops_of t) t.D (root_of t) (by j))) u.k (λ j l. deg_series t.field (is_field h) (u.a j) (partial (ops_of t) t.D (root_of t) (by j)) (partials j (omega arith))))
      ∙ ap (λ (k : ℕ). posℤ (deg (ops_of t) (by k).q) -ℤ posℤ (deg (ops_of t) s.q) +ℤ posℤ (sum_to (λ j. deg (ops_of t) (partial (ops_of t) t.D (root_of t) (by j))) k) -ℤ posℤ (deg (ops_of t) S)) turns_same
      ∙ sym v.f_is

  answer_only : r ≡ a
  answer_only = answers_same r a (u.number ∙ sym v.number) Q_answer P_answer f_answer (u.distance ∙ ap (λ (f : ℤ). posℤ (d + e) +ℤ f) f_answer ∙ sym v.distance)

pub one_giant_step : OneGiantStep
one_giant_step w z x y px py d e far r u = answer_only (ticket_of w) (admitted w z) u (t2_giant_steps w z x y px py d e far) (one_root w z u.root u.is_root)

-- ---- what `demands` states of an answer
stepped : (t : Ticket) → Admitted t.field (genus t.n) t.D → AllowedField t.field → RootOf t.field (genus t.n) t.D (root_of t) → {x : Ideal ℕ} {d : ℕ} {y : Ideal ℕ} {e : ℕ} {S : List ℕ} {s : Ideal ℕ} {r : GiantStepAnswer}
    → Steps t x d y e S s r → GiantStepOf t d e S s r
unfolding steps next next_p partial
stepped t h prime root_is {s = s} {r = r} v = record {
  number = v.number;
  k = v.k;
  root = root_of t;
  is_root = root_is;
  Q = λ j. (by j).q;
  P = λ j. (by j).p;
  a = λ j. partial (ops_of t) t.D (root_of t) (by j);
  Q_first = λ i. refl;
  P_first = λ i. refl;
  stepping = record {
    quotient = λ i l. quotient_leaves t.field (is_field h) (add (ops_of t) (by i).p (root_of t)) (by i).q (v.reduces.not_zero i);
    P_next = λ i l j. refl;
    Q_next = λ i l. quotient_exact t.field (is_field h) (sub (ops_of t) t.D (mul (ops_of t) (by (suc i)).p (by (suc i)).p)) (by i).q (v.reduces.exact i);
  };
  reduced = v.reduces.reduced;
  first = v.reduces.first;
  c = made.k;
  Q_is = subst (λ (l : List ℕ). Same t.field l (scale (ops_of t) made.k (by v.k).q)) (sym v.Q_is) made.is;
  Q_monic = ap (lead (ops_of t)) v.Q_is ∙ made.leads;
  Q_trimmed = subst (Trimmed t.field) (sym v.Q_is) (o.monic_trimmed (by v.k).q);
  m = quo (ops_of t) (by v.k).p r.q;
  P_is = subst (λ (l : List ℕ). Same t.field (by v.k).p (add (ops_of t) (mul (ops_of t) (quo (ops_of t) (by v.k).p r.q) r.q) l)) (sym v.P_is) (division t.field prime (by v.k).p r.q (λ z. let l = v.ideal.less in omega arith)).is;
  P_less = v.ideal.less;
  P_trimmed = subst (Trimmed t.field) (sym v.P_is) (o.rem_trimmed (by v.k).p r.q);
  f_is = v.f_is;
  distance = v.distance;
}
  where
    by : ℕ → Ideal ℕ
    by = steps (ops_of t) t.D (root_of t) s

    o : Operations t.field
    o = by_coefficients t.field (some_elements t.field (is_field h))

    made : MadeMonic t.field (by v.k).q (monic (ops_of t) (by v.k).q)
    made = o.made_monic prime (by v.k).q (λ z. let l = v.reduces.not_zero v.k in omega arith)

pub giant_step_is : GiantStepIs
giant_step_is w z x y px py d e far = stepped (ticket_of w) (admitted w z) (prime_of_ticket w z) (t2 w z).continued.root (t2_giant_steps w z x y px py d e far)
