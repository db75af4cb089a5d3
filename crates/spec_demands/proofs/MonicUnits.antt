-- The proofs of specs/MonicUnits.
use Rattle.std.specs.Prelude.{ℕ, zero, suc, ◌≡◌, refl, List}
use Rattle.std.proofs.Common.{arith, sym, ◌∙◌, subst, inl, inr, ⊎_elim}
use Rattle.std.proofs.Math.Path.{ap}
use Rattle.std.proofs.Math.Option.{Option, none, some}
use Rattle.std.proofs.Math.ListN.{get_or}
use Rattle.math_ring.specs.Series.{Series, conv, con}
use Rattle.math_algebra.specs.Field.{Field}
use Rattle.math_algebra.specs.Polynomial.{F, Px, con_mul}
use Rattle.math_surd.specs.Distance.{height}
use Rattle.math_surd.proofs.Distance.{distance_height}
use Rattle.spec_arithmetic.specs.Field.{FieldName, ops, reading}
use Rattle.spec_arithmetic.specs.Polynomials.{deg, lead, scale, root}
use Rattle.spec_definitions.specs.Ticket.{Ticket, genus, ticket_of, refusal_of}
use Rattle.spec_definitions.specs.Walk.{Unit as UnitPair, p_before, s_before, quasi_period, degree_before, over_lead, unit_of, constant_of}
use Rattle.spec_definitions.specs.Answers.{found, spent, refused, ops_of, root_of, outcome_of, words_outcome}
use Rattle.spec_bridge.specs.Model.{Model, Oks, series}
use Rattle.spec_bridge.specs.Trim.{Trim, series_ext}
use Rattle.spec_bridge.specs.Degree.{deg_is, monic_size}
use Rattle.spec_bridge.specs.Arithmetic.{at_scale, trim_scale, oks_scale, series_scale}
use Rattle.spec_fields.specs.Named.{Arithmetic, arithmetic, ok_first, φ_first, same_reading, reading_same, reading_first}
use Rattle.spec_laws.specs.Surd.{Surd}
use Rattle.spec_laws.specs.Fraction.{fraction}
use Rattle.spec_laws.specs.Convergents.{p_trim, p_oks, s_trim, s_oks, degree_distance}
use Rattle.spec_laws.specs.Leads.{over_lead_inverts}
use Rattle.spec_laws.specs.Monic.{unit_p_monic, unit_s_monic}
use Rattle.spec_laws.specs.QuasiPeriod.{Quasi, Says, quasi_says}
use Rattle.spec_laws.specs.Admitted.{Admitted, is_field, surd_of, admitted}
use Rattle.spec_sentences.specs.Sentences.{Same}
use Rattle.spec_demands.specs.LeastDegree.{Solves, Multiple, LeastFound}
use Rattle.spec_demands.proofs.LeastDegree.{least_found}
use Rattle.spec_demands.specs.MonicUnits.{Itself, MonicFound, MonicIn, T3Monic}

-- ---- the proof, for a D that is admitted
module _ {f : FieldName} {g : ℕ} {D : List ℕ} (h : Admitted f g D) where
  abbrev A : Arithmetic f
  A = arithmetic f (is_field h)

  abbrev K : Field A.Elements
  K = A.K

  abbrev M : Model (ops f) (F K)
  M = A.M

  abbrev d : List ℕ
  d = root (ops f) D (suc g)

  abbrev z : Surd K M g D d
  z = surd_of h

  -- ---- a multiple whose leading coefficient is 1 is the pair itself
  times_one : (l r : List ℕ) → Same f r (scale (ops f) 1 l) → Same f r l
  times_one l r e i = e i ∙ same_reading f (is_field h) _ _ (ap M.φ (at_scale M 1 l i) ∙ M.φ_mul _ _ ∙ ap (λ (x : A.Elements). (F K).mul x (M.φ (get_or l i 0))) (φ_first f (is_field h)) ∙ (F K).mul_comm _ _ ∙ (F K).mul_one _)

  itself : (u : UnitPair ℕ) (R c : ℕ) → LeastFound f D u R c → get_or u.p R 0 ≡ 1 → (p s : List ℕ) → Solves f D p s → deg (ops f) p ≡ R → reading f (get_or p R 0) ≡ 1 → Itself f u p s
  itself u R c l top p s v e one = record {
    p_is = times_one u.p p (subst (λ (t : ℕ). Same f p (scale (ops f) t u.p)) k_one n.p_is);
    s_is = ⊎_elim (λ y. inl (times_one u.s s (subst (λ (t : ℕ). Same f s (scale (ops f) t u.s)) k_one y))) (λ y. inr (subst (λ (t : ℕ). Same f s (scale (ops f) ((ops f).sub 0 t) u.s)) k_one y)) n.s_is;
  }
    where
      n : Multiple f u p s
      n = l.only p s v e

      k_one : n.k ≡ 1
      k_one =
          M.inj _ _ (A.ok_of _ n.below) (ok_first f (is_field h))
          (sym ((F K).mul_one _)
          ∙ ap ((F K).mul (M.φ n.k)) (sym (ap M.φ top ∙ φ_first f (is_field h)))
          ∙ sym (ap M.φ (at_scale M n.k u.p R) ∙ M.φ_mul _ _)
          ∙ sym (reading_same f (is_field h) _ _ (n.p_is R))
          ∙ reading_same f (is_field h) _ 1 (one ∙ sym (reading_first f (is_field h))))

  -- ---- the unit of index i + 1
  module _ (b i : ℕ) (first : Quasi (ops f) D d b (suc i)) where
    abbrev u : UnitPair ℕ
    u = unit_of (ops f) D d (suc i)

    -- λ, and 1/λ
    abbrev lam : ℕ
    lam = lead (ops f) (p_before (ops f) D d (suc i))

    abbrev over : ℕ
    over = over_lead (ops f) D d (suc i)

    one_at : (l : List ℕ) (n : ℕ) → M.φ (get_or (scale (ops f) over l) n 0) ≡ (F K).one → get_or (scale (ops f) over l) n 0 ≡ 1
    one_at l n e = M.inj _ _ (oks_scale M over l n) (ok_first f (is_field h)) (e ∙ sym (φ_first f (is_field h)))

    p_top : get_or (unit_of (ops f) D d (suc i)).p (degree_before (ops f) D d (suc i)) 0 ≡ 1
    unfolding unit_of
    p_top = one_at (p_before (ops f) D d (suc i)) (degree_before (ops f) D d (suc i)) (unit_p_monic z i).top

    s_height : deg (ops f) u.s ≡ height K (fraction z) i
    s_height = let e = deg_is K M u.s in let l = monic_size K M u.s (unit_s_monic z i) in omega arith

    s_top : get_or (unit_of (ops f) D d (suc i)).s (deg (ops f) (unit_of (ops f) D d (suc i)).s) 0 ≡ 1
    unfolding unit_of
    s_top = ap (λ (n : ℕ). get_or (scale (ops f) over (s_before (ops f) D d (suc i))) n 0) s_height ∙ one_at (s_before (ops f) D d (suc i)) _ (unit_s_monic z i).top

    -- λ times what is divided by λ
    divided : (l : List ℕ) → Trim M l → Oks M l → scale (ops f) lam (scale (ops f) over l) ≡ l
    divided l t k =
        series_ext M _ _ (trim_scale M _ _) t (oks_scale M _ _) k
        (series_scale M lam (scale (ops f) over l)
        ∙ ap (conv (F K) (con (F K) (M.φ lam))) (series_scale M over l)
        ∙ sym ((Series (F K)).mul_assoc _ _ _)
        ∙ ap (λ (v : Px K). conv (F K) v (series M l)) (con_mul K (M.φ lam) (M.φ over) ∙ ap (con (F K)) ((F K).mul_comm _ _ ∙ over_lead_inverts z i))
        ∙ (Series (F K)).mul_comm _ _
        ∙ (Series (F K)).mul_one _)

    monic_next : MonicFound f g D d (degree_before (ops f) D d (suc i)) (suc i) lam (unit_of (ops f) D d (suc i))
    unfolding unit_of
    monic_next = record {
      p_monic = p_top;
      s_degree = (let e = degree_distance z (suc i) in let k = distance_height K (fraction z) i in let l = s_height in omega arith);
      s_monic = s_top;
      p_divided = divided (p_before (ops f) D d (suc i)) (p_trim z (suc i)) (p_oks z (suc i));
      s_divided = divided (s_before (ops f) D d (suc i)) (s_trim z (suc i)) (s_oks z (suc i));
      monic_only = itself (unit_of (ops f) D d (suc i)) (degree_before (ops f) D d (suc i)) (constant_of (ops f) D d (suc i)) (least_found h b (suc i) first) p_top;
    }

  monic_found : (b m : ℕ) → Quasi (ops f) D d b m → MonicIn f g D d (found (degree_before (ops f) D d m) m (constant_of (ops f) D d m))
  monic_found b zero first = absurd (let l = first.positive in omega arith)
  monic_found b (suc i) first = monic_next b i first

-- ---- the outcome of a ticket, and of words
monic_outcome : (t : Ticket) → Admitted t.field (genus t.n) t.D → MonicIn t.field (genus t.n) t.D (root_of t) (outcome_of t)
unfolding outcome_of root_of
monic_outcome t h = go (quasi_period (ops_of t) t.D d' t.b) (quasi_says (surd_of h) t.b)
  where
    d' : List ℕ
    d' = root (ops_of t) t.D (suc (genus t.n))

    go : (x : Option ℕ) → Says (surd_of h) t.b x → MonicIn t.field (genus t.n) t.D d' (elim x [ none ↦ spent t.b (degree_before (ops_of t) t.D d' t.b) | some m ↦ found (degree_before (ops_of t) t.D d' m) m (constant_of (ops_of t) t.D d' m) ])
    go none free = tt
    go (some m) first = monic_found h t.b m first

pub t3_monic : T3Monic
unfolding words_outcome
t3_monic w = go (refusal_of w) refl
  where
    go : (k : ℕ) → refusal_of w ≡ k → MonicIn (ticket_of w).field (genus (ticket_of w).n) (ticket_of w).D (root_of (ticket_of w)) (elim k [ zero ↦ outcome_of (ticket_of w) | suc k ↦ refused (suc k) ])
    go zero e = monic_outcome (ticket_of w) (admitted w e)
    go (suc k) e = tt
