-- The proofs of specs/LeastDegree.
use Prim.Native.Nat.{ℕ, zero, suc, ◌<◌}
use Rattle.std.proofs.Common.{eq-zero-or-pos, arith, ap₂, ◌∙◌}
use Rattle.std.specs.Prelude.{◌≡◌, refl, List, [], ◌∷◌}
use Rattle.std.proofs.Math.Path.{sym, ap, fun_ext}
use Rattle.std.proofs.Math.Logic.{inl, inr, ⊎_elim}
use Rattle.std.proofs.Math.Option.{Option, none, some}
use Rattle.std.proofs.Math.ListN.{length}
use Rattle.math_ring.specs.Ring.{zer_add, neg_mul}
use Rattle.math_ring.specs.Identity.{ring_from, times, quote}
use Rattle.math_ring.specs.Series.{Series, neg_s, conv, con, conv_con}
use Rattle.math_algebra.specs.Field.{Field, some_mul}
use Rattle.math_algebra.specs.Polynomial.{F, Px, con_mul}
use Rattle.math_surd.specs.Units.{Scaled}
use Rattle.spec_arithmetic.specs.Field.{FieldName, ops}
use Rattle.spec_arithmetic.specs.Polynomials.{size, deg, lead, sub, mul, scale, root}
use Rattle.spec_definitions.specs.Ticket.{Ticket, genus, ticket_of, refusal_of}
use Rattle.spec_definitions.specs.Walk.{Unit as UnitPair, over_lead, unit_of, p_before, s_before, quasi_period, degree_before, constant_of}
use Rattle.spec_definitions.specs.Answers.{found, spent, refused, ops_of, root_of, outcome_of, words_outcome}
use Rattle.spec_bridge.specs.Model.{Model, series}
use Rattle.spec_bridge.specs.Trim.{size_is}
use Rattle.spec_bridge.specs.Degree.{deg_is, monic_size}
use Rattle.spec_bridge.specs.Arithmetic.{trim_sub, series_scale}
use Rattle.spec_fields.specs.Named.{Arithmetic, arithmetic}
use Rattle.spec_laws.specs.Surd.{Surd}
use Rattle.spec_laws.specs.Fraction.{fraction}
use Rattle.spec_laws.specs.Convergents.{p_series, s_series}
use Rattle.spec_laws.specs.Signs.{norm_of}
use Rattle.spec_laws.specs.Leads.{some_lead, over_lead_inverts}
use Rattle.spec_laws.specs.Monic.{unit_p_monic, unit_s_monic, unit_norm}
use Rattle.spec_laws.specs.QuasiPeriod.{Quasi, NoQuasi, Says, quasi_says}
use Rattle.spec_laws.specs.Solutions as solutions
use Rattle.spec_laws.specs.Admitted.{Admitted, is_field, surd_of, admitted}
use Rattle.spec_sentences.proofs.Arithmetic.{series_same}
use Rattle.spec_demands.specs.LeastDegree.{norm, Solves, Multiple, LeastFound, LeastIn, Least, T3}

-- ---- the proof, for a D that is admitted
module _ {f : FieldName} {g : ℕ} {D : List ℕ} (h : Admitted f g D) where
  abbrev A : Arithmetic f
  A = arithmetic f (is_field h)

  abbrev K : Field A.Elements
  K = A.K

  abbrev M : Model (ops f) (F K)
  M = A.M

  abbrev d : List ℕ
  d = root (ops f) D (suc g)

  abbrev z : Surd K M g D d
  z = surd_of h

  constant_size : (p s : List ℕ) → Solves f D p s → size (ops f) (norm_of (ops f) D p s) ≡ 1
  unfolding norm_of
  constant_size p s u = u.constant

  pub least_spent : (b : ℕ) → NoQuasi (ops f) D d b → (p s : List ℕ) → Solves f D p s → degree_before (ops f) D d b < deg (ops f) p
  least_spent b free p s u = solutions.degree_above z p s u.some (constant_size p s u) b free

  -- ---- a constant multiple over the field is one of lists
  minus_times : (x : A.Elements) (u : Px K) → neg_s (F K) (conv (F K) (con (F K) x) u) ≡ conv (F K) (con (F K) ((F K).neg x)) u
  unfolding neg_s
  minus_times x u = fun_ext (λ i. ap (F K).neg (conv_con (F K) x u i) ∙ sym (neg_mul (F K) x (u i)) ∙ sym (conv_con (F K) ((F K).neg x) u i))

  module _ (x : A.Elements) where
    abbrev k : ℕ
    k = A.onto.back x

    back : M.φ k ≡ x
    back = A.onto.φ_back x

    back_minus : M.φ ((ops f).sub 0 k) ≡ (F K).neg x
    back_minus = M.φ_sub 0 k ∙ ap (λ (y : A.Elements). (F K).add y ((F K).neg (M.φ k))) M.φ_zer ∙ zer_add (F K) _ ∙ ap (F K).neg back

    some_back : (x ≡ (F K).zer → ⊥) → 0 < k
    some_back e = ⊎_elim (λ u. absurd (e (sym back ∙ ap M.φ u ∙ M.φ_zer))) (λ u. u) (eq-zero-or-pos k)

  module _ (i : ℕ) where
    -- 1/λ and λ
    abbrev over : ℕ
    over = over_lead (ops f) D d (suc i)

    abbrev lam : A.Elements
    lam = M.φ (lead (ops f) (p_before (ops f) D d (suc i)))

    -- x times a polynomial is x·λ times what it is over λ
    times_series : (c : ℕ) (x : A.Elements) (l : List ℕ) (u : Px K) → M.φ c ≡ (F K).mul x lam → series M l ≡ u → conv (F K) (con (F K) x) u ≡ series M (scale (ops f) c (scale (ops f) over l))
    times_series c x l u e e' =
        ap (λ (v : Px K). conv (F K) v u) (ap (con (F K)) back_again ∙ sym (con_mul K ((F K).mul x lam) (M.φ over)))
        ∙ (Series (F K)).mul_assoc _ _ _
        ∙ sym (series_scale M c (scale (ops f) over l) ∙ ap₂ (λ y v. conv (F K) (con (F K) y) v) e (series_scale M over l ∙ ap (conv (F K) (con (F K) (M.φ over))) e'))
      where
        back_again : x ≡ (F K).mul ((F K).mul x lam) (M.φ over)
        back_again = ring_from (F K) (x ∷ lam ∷ M.φ over ∷ []) (times (F K) ((F K).neg x) (over_lead_inverts z i)) (search quote depth 40 fits 9999) tt

    multiple : (p s : List ℕ) → Scaled K (fraction z) (suc i) (series M p) (series M s) → Multiple f (unit_of (ops f) D d (suc i)) p s
    unfolding unit_of
    multiple p s t = record {
      k = k x;
      positive = some_back x (some_mul K t.by lam t.by_not_zero (some_lead z (suc i)));
      below = A.ok_is _ (A.onto.ok_back x);
      p_is = series_same f (is_field h) p (scale (ops f) (k x) (scale (ops f) over (p_before (ops f) D d (suc i)))) (t.X_is ∙ times_series (k x) t.by (p_before (ops f) D d (suc i)) _ (back x) (p_series z (suc i)));
      s_is = ⊎_elim
          (λ e. inl (series_same f (is_field h) s (scale (ops f) (k x) (scale (ops f) over (s_before (ops f) D d (suc i)))) (e ∙ times_series (k x) t.by (s_before (ops f) D d (suc i)) _ (back x) (s_series z (suc i)))))
          (λ e. inr (series_same f (is_field h) s (scale (ops f) ((ops f).sub 0 (k x)) (scale (ops f) over (s_before (ops f) D d (suc i)))) (e ∙ minus_times t.by _ ∙ times_series ((ops f).sub 0 (k x)) ((F K).neg t.by) (s_before (ops f) D d (suc i)) _ (back_minus x ∙ sym (neg_mul (F K) t.by lam)) (s_series z (suc i)))))
          t.Y_is;
    }
      where
        x : A.Elements
        x = (F K).mul t.by lam

  -- ---- the two outcomes
  pub least_found : (b m : ℕ) → Quasi (ops f) D d b m → LeastFound f D (unit_of (ops f) D d m) (degree_before (ops f) D d m) (constant_of (ops f) D d m)
  unfolding norm_of
  least_found b zero first = absurd (let l = first.positive in omega arith)
  least_found b (suc i) first = record {
    lower = λ p s u. solutions.degree_at_least z p s u.some (constant_size p s u) first;
    unit_solves = record {
      some = λ e. let l = size_is M u.s in let n = monic_size K M u.s (unit_s_monic z i) in omega arith;
      constant = size_is M (norm f D u.p u.s) ∙ ap length (trim_sub M _ _) ∙ ap length (unit_norm z i first.constant);
    };
    unit_degree = deg_is K M u.p ∙ (let n = monic_size K M u.p (unit_p_monic z i) in omega arith);
    unit_norm = unit_norm z i first.constant;
    only = λ p s v e. multiple i p s (solutions.only z p s v.some (constant_size p s v) first e);
  }
    where
      u : UnitPair ℕ
      u = unit_of (ops f) D d (suc i)

-- the outcome of a ticket whose D is admitted
pub least_outcome : (t : Ticket) → Admitted t.field (genus t.n) t.D → LeastIn t.field t.D (root_of t) (outcome_of t)
unfolding outcome_of root_of
least_outcome t h = go (quasi_period (ops_of t) t.D d t.b) (quasi_says (surd_of h) t.b)
  where
    d : List ℕ
    d = root (ops_of t) t.D (suc (genus t.n))

    go : (x : Option ℕ) → Says (surd_of h) t.b x → LeastIn t.field t.D d (elim x [ none ↦ spent t.b (degree_before (ops_of t) t.D d t.b) | some m ↦ found (degree_before (ops_of t) t.D d m) m (constant_of (ops_of t) t.D d m) ])
    go none free = least_spent h t.b free
    go (some m) first = least_found h t.b m first

pub t3 : T3
unfolding words_outcome
t3 w = go (refusal_of w) refl
  where
    go : (k : ℕ) → refusal_of w ≡ k → Least w (elim k [ zero ↦ outcome_of (ticket_of w) | suc k ↦ refused (suc k) ])
    go zero e = least_outcome (ticket_of w) (admitted w e)
    go (suc k) e = tt
