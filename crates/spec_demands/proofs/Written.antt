-- The proofs of specs/Written.
use Prim.Native.Nat.{ℕ, zero, suc, ◌-◌, ◌≤◌}
use Rattle.std.proofs.Common.{arith, ap₂, ◌∙◌}
use Rattle.std.specs.Prelude.{◌≡◌, refl, Bool, length, take}
use Rattle.std.proofs.Math.Path.{sym, ap, subst}
use Rattle.std.proofs.Math.Bool.{true, false}
use Rattle.std.proofs.Math.Logic.{inl, inr, ⊎_elim}
use mathlib.Core.List.{List, [], ◌∷◌, ◌++◌}
use Rattle.std.proofs.Math.Option.{Option, none, some}
use Rattle.spec_arithmetic.specs.Field.{FieldName, ops}
use Rattle.spec_arithmetic.specs.Polynomials.{size, deg, pad, sub, mul, scale, root}
use Rattle.spec_definitions.specs.Ticket.{Ticket, genus, ticket_of, refusal_of}
use Rattle.spec_definitions.specs.Walk.{Unit as UnitPair, over_lead, unit_of, p_before, s_before, quasi_period, degree_before, constant_of}
use Rattle.spec_definitions.specs.Answers.{Outcome, found, spent, refused, said, said_injective, ops_of, root_of, outcome_of, words_outcome}
use Rattle.spec_definitions.specs.Units.{Lists, UnitAnswer, long_enough, written, unit_lists, unit_from, unit_answer}
use Rattle.spec_bridge.specs.Trim.{size_series}
use Rattle.spec_bridge.specs.Lengths.{length_multiple}
use Rattle.spec_bridge.specs.Arithmetic.{mul_cong, scale_cong}
use Rattle.spec_fields.specs.Named.{IsField, arithmetic}
use Rattle.spec_laws.specs.Convergents.{s_zero, p_length, s_length}
use Rattle.spec_laws.specs.Admitted.{Admitted, is_field, surd_of, admitted}
use Rattle.spec_laws.specs.Cases.{spent_not_found, refused_not_found}
use Rattle.spec_sentences.specs.Sentences.{Same}
use Rattle.spec_sentences.proofs.Arithmetic.{same_series}
use Rattle.spec_demands.specs.LeastDegree.{norm, Multiple, LeastFound, LeastIn}
use Rattle.spec_demands.proofs.LeastDegree.{least_outcome}
use Rattle.spec_demands.specs.Written.{unit_in, T3-unit}

-- ---- what T3 says depends on polynomials alone
module _ (f : FieldName) (named : IsField f) where
  same_size : (l h : List ℕ) → Same f l h → size (ops f) l ≡ size (ops f) h
  unfolding size
  same_size l h e = size_series (arithmetic f named).M l h (same_series f named l h e)

  same_mul : (l h : List ℕ) → Same f l h → mul (ops f) l l ≡ mul (ops f) h h
  same_mul l h e = mul_cong (arithmetic f named).M l h l h (same_series f named l h e) (same_series f named l h e)

  same_norm : (D : List ℕ) (u v : UnitPair ℕ) → Same f u.p v.p → Same f u.s v.s → norm f D u.p u.s ≡ norm f D v.p v.s
  same_norm D u v e l = ap₂ (sub (ops f)) (same_mul u.p v.p e) (ap (mul (ops f) D) (same_mul u.s v.s l))

  same_scale : (k : ℕ) (l h g : List ℕ) → Same f l h → Same f g (scale (ops f) k l) → Same f g (scale (ops f) k h)
  same_scale k l h g e t = subst (Same f g) (scale_cong (arithmetic f named).M k k l h refl (same_series f named l h e)) t

  pub least_same : (D : List ℕ) (u v : UnitPair ℕ) (R c : ℕ) → Same f u.p v.p → Same f u.s v.s → LeastFound f D u R c → LeastFound f D v R c
  unfolding deg
  least_same D u v R c e l t = record {
    lower = t.lower;
    unit_solves = record { some = λ z. t.unit_solves.some (same_size u.s v.s l ∙ z); constant = ap (size (ops f)) (sym (same_norm D u v e l)) ∙ t.unit_solves.constant };
    unit_degree = ap (λ (n : ℕ). n - 1) (sym (same_size u.p v.p e)) ∙ t.unit_degree;
    unit_norm = sym (same_norm D u v e l) ∙ t.unit_norm;
    only = λ p s x y. only (t.only p s x y);
  }
    where
      only : {p s : List ℕ} → Multiple f u p s → Multiple f v p s
      only {p} {s} x = record { k = x.k; positive = x.positive; below = x.below; p_is = same_scale x.k u.p v.p p e x.p_is; s_is = ⊎_elim (λ y. inl (same_scale x.k u.s v.s s l y)) (λ y. inr (same_scale ((ops f).sub 0 x.k) u.s v.s s l y)) x.s_is }

-- the first k places of what is written are the polynomial
take_written : (f : FieldName) (k : ℕ) (l r : List ℕ) → length l ≤ k → Same f l (take k (pad (ops f) k l ++ r))
unfolding pad
take_written f zero [] r h i = refl
take_written f zero (x ∷ l) r h i = absurd (omega arith)
take_written f (suc k) [] r h zero = refl
take_written f (suc k) [] r h (suc i) = take_written f k [] r (omega arith) i
take_written f (suc k) (x ∷ l) r h zero = refl
take_written f (suc k) (x ∷ l) r h (suc i) = take_written f k l r (omega arith) i

-- s has at most as many coefficients as p
pub s_fits : {f : FieldName} {g : ℕ} {D : List ℕ} → Admitted f g D → (m : ℕ) → length (s_before (ops f) D (root (ops f) D (suc g)) m) ≤ suc (degree_before (ops f) D (root (ops f) D (suc g)) m)
s_fits {f} {g} {D} h zero = let e : length (s_before (ops f) D (root (ops f) D (suc g)) 0) ≡ 0 = ap length (s_zero (surd_of h)) in omega arith
s_fits h (suc m) = let e = s_length (surd_of h) m in omega arith

-- ---- the call's answer
module _ (t : Ticket) where
  -- the unit found has at most R + 1 coefficients
  abbrev Fits : Outcome → Type 0
  Fits (found R m c) = (length (unit_of (ops_of t) t.D (root_of t) m).p ≤ suc R) × (length (unit_of (ops_of t) t.D (root_of t) m).s ≤ suc R)
  Fits (spent k e) = Unit
  Fits (refused j) = Unit

  answer : IsField t.field → (l : Lists) (x : Outcome) → LeastIn t.field t.D (root_of t) x → Fits x → (R m c : ℕ) → (unit_from t x l).says ≡ said (found R m c) → LeastFound t.field t.D (unit_in R (unit_from t x l).lists) R c
  unfolding unit_from unit_lists written
  answer p l (found R' m' c') h f R m c e = go (long_enough (suc R') l) e
    where
      go : (b : Bool) → (elim b as (λ _. UnitAnswer) [ true ↦ record { says = said (found R' m' c'); lists = unit_lists t R' m' l } | false ↦ record { says = said (refused 12); lists = l } ]).says ≡ said (found R m c)
          → LeastFound t.field t.D (unit_in R (elim b as (λ _. UnitAnswer) [ true ↦ record { says = said (found R' m' c'); lists = unit_lists t R' m' l } | false ↦ record { says = said (refused 12); lists = l } ]).lists) R c
      go true k =
          let y : found R' m' c' ≡ found R m c = said_injective _ _ k in
          let r : R' ≡ R = cc in
          let v : c' ≡ c = cc in
          subst (λ (n : ℕ). LeastFound t.field t.D (unit_in n (unit_lists t R' m' l)) n c) r (subst (LeastFound t.field t.D (unit_in R' (unit_lists t R' m' l)) R') v (least_same t.field p t.D u (unit_in R' (unit_lists t R' m' l)) R' c' (take_written t.field (suc R') u.p _ f.0) (take_written t.field (suc R') u.s _ f.1) h))
        where
          u : UnitPair ℕ
          u = unit_of (ops_of t) t.D (root_of t) m'
      go false k = absurd (refused_not_found 12 R m c (said_injective _ _ k))
  answer p l (spent k e') h f R m c e = absurd (spent_not_found k e' R m c (said_injective _ _ e))
  answer p l (refused j) h f R m c e = absurd (refused_not_found j R m c (said_injective _ _ e))

  fits : Admitted t.field (genus t.n) t.D → Fits (outcome_of t)
  unfolding outcome_of root_of unit_of
  fits h = go (quasi_period (ops_of t) t.D d t.b)
    where
      d : List ℕ
      d = root (ops_of t) t.D (suc (genus t.n))

      go : (x : Option ℕ) → Fits (elim x [ none ↦ spent t.b (degree_before (ops_of t) t.D d t.b) | some m ↦ found (degree_before (ops_of t) t.D d m) m (constant_of (ops_of t) t.D d m) ])
      go none = tt
      go (some m) =
          let c : ℕ = over_lead (ops_of t) t.D d m in
          let p = length_multiple (arithmetic t.field (is_field h)).M c (p_before (ops_of t) t.D d m) in
          let s = length_multiple (arithmetic t.field (is_field h)).M c (s_before (ops_of t) t.D d m) in
          ((let e = p_length (surd_of h) m in omega arith), (let e = s_fits h m in omega arith))

pub t3_unit : T3-unit
unfolding unit_answer words_outcome unit_from
t3_unit w l R m c = go (refusal_of w) refl
  where
    x : ℕ → Outcome
    x k = elim k [ zero ↦ outcome_of (ticket_of w) | suc k ↦ refused (suc k) ]

    go : (k : ℕ) → refusal_of w ≡ k → (unit_from (ticket_of w) (x k) l).says ≡ said (found R m c) → LeastFound (ticket_of w).field (ticket_of w).D (unit_in R (unit_from (ticket_of w) (x k) l).lists) R c
    go zero e u = let h = admitted w e in answer (ticket_of w) (is_field h) l (outcome_of (ticket_of w)) (least_outcome (ticket_of w) h) (fits (ticket_of w) h) R m c u
    go (suc k) e u = absurd (refused_not_found (suc k) R m c (said_injective _ _ u))
