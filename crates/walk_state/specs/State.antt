-- The state of the walk at index i, in arrays of 129 places: Q, the Q before it and the remainder of the step
-- before, zeros above their degrees. A step takes one to the next: its operations depend only on
-- coefficients, so that they are the laws' on lists.
use Rattle.std.specs.Prelude.{ℕ, suc, ◌-◌, ◌%◌, ◌≤◌, ◌<◌, ◌≡◌, List, [], ◌∷◌, length, get_or}
use Rattle.std.proofs.Common.{arith, ap, ap₂, ◌∙◌, subst, subst₂}
use Rattle.std.proofs.Math.Path.{sym, fun_ext}
use Rattle.std.proofs.Math.ListN.{get_or-eq_default}
use Rattle.math_ring.specs.Residues.{FqRing}
use Rattle.spec_arithmetic.specs.Field.{FieldName, prime, ops, modulo}
use Rattle.spec_arithmetic.specs.Polynomials.{trim, pad, lead, add, sub, quo, root}
use Rattle.spec_definitions.specs.Walk.{Q}
use Rattle.spec_bridge.specs.Model.{Model, Inverts, series}
use Rattle.spec_bridge.specs.Arithmetic.{add_cong, sub_cong, mul_cong, oks_add}
use Rattle.spec_bridge.specs.Lengths.{length_add}
use Rattle.spec_bridge.specs.Quotient.{quo_cong, rem_cong}
use Rattle.spec_bridge.specs.Residues.{model, inverts, pos}
use Rattle.spec_laws.specs.Admitted.{Admitted, surd_of}
use Rattle.spec_laws.specs.Surd.{Q_zero, Q_oks}
use Rattle.spec_laws.specs.Fraction.{Q_deg, Q_length}
use Rattle.spec_laws.specs.Walk.{d_length}
use Rattle.spec_laws.specs.Leads.{lead_Q_is}
use Rattle.spec_laws.specs.State.{before, left, before_zero, before_suc, before_oks, before_length, left_zero, left_oks, left_length, left_next, Q_step}
use Rattle.base_places.specs.Pad.{at_pad}
use Rattle.base_places.specs.Places.{Within}
use Rattle.walk_step.specs.Step.{step_quo, next_rem, next_q, Ready, Stepped}

-- ---- padded lists
pub pad_within : (q : ℕ) (l : List ℕ) (n : ℕ) → length l ≤ n → n ≤ 129 → ((i : ℕ) → get_or l i 0 < q) → Within (prime q) (pad (modulo q) 129 l) n
pad_within q l n h k b =
    record {
      reduced = λ i. subst (λ (x : ℕ). x < q) (sym (at_pad (modulo q) 129 l (omega arith) i)) (b i);
      past = λ i p. at_pad (modulo q) 129 l (omega arith) i ∙ get_or-eq_default l 0 {n = i} (omega arith);
    }

pub pad_series : (q : ℕ) (z : 0 < q) (l : List ℕ) → length l ≤ 129 → series (model q z) (pad (modulo q) 129 l) ≡ series (model q z) l
pad_series q z l h = fun_ext (λ i. ap (model q z).φ (at_pad (modulo q) 129 l h i))

-- the root d of D
abbrev pub root_d : FieldName → ℕ → List ℕ → List ℕ
root_d f g D = root (ops f) D (suc g)

-- the Q before, Q, of so many coefficients, and the remainder, each in its array
pub record State (f : FieldName) (g : ℕ) (D : List ℕ) (i : ℕ) (before_array current rest : List ℕ) (size : ℕ) : Type 0 where
  pub before_is : before_array ≡ pad (ops f) 129 (before (ops f) D (root_d f g D) i)
  pub q_is : current ≡ pad (ops f) 129 (Q (ops f) D (root_d f g D) i)
  pub left_is : rest ≡ pad (ops f) 129 (left (ops f) D (root_d f g D) i)
  pub size_is : size ≡ length (Q (ops f) D (root_d f g D) i)

-- ---- Q in its array
module _ {q g : ℕ} {D : List ℕ} (h : Admitted (prime q) g D) (i : ℕ) (x : List ℕ) (e : x ≡ pad (modulo q) 129 (Q (modulo q) D (root_d (prime q) g D) i)) where
  pub Q_at : (j : ℕ) → get_or x j 0 ≡ get_or (Q (modulo q) D (root_d (prime q) g D) i) j 0
  Q_at j =
      ap (λ (l : List ℕ). get_or l j 0) e
      ∙ at_pad (modulo q) 129 _ (let k = Q_length (surd_of h) i in let most = h.genus_most in omega arith) j

  -- its last coefficient is the leading one
  pub last_is_lead : (size : ℕ) → size ≡ length (Q (modulo q) D (root_d (prime q) g D) i) → get_or x (size - 1) 0 ≡ lead (modulo q) (Q (modulo q) D (root_d (prime q) g D) i)
  last_is_lead size s = ap (λ (k : ℕ). get_or x (k - 1) 0) s ∙ Q_at _ ∙ sym (lead_Q_is (surd_of h) i)

module _ (q g : ℕ) (D : List ℕ) (h : Admitted (prime q) g D) where
  abbrev d : List ℕ
  d = root_d (prime q) g D

  abbrev twice : List ℕ
  twice = add (modulo q) d d

  abbrev M : Model (modulo q) (FqRing q (pos q h.prime))
  M = model q (pos q h.prime)

  abbrev I : Inverts (model q (pos q h.prime))
  I = inverts q (pos q h.prime) h.prime

  -- D, 1 and d
  pub state_first : State (prime q) g D 0 (pad (modulo q) 129 D) (pad (modulo q) 129 (1 % q ∷ [])) (pad (modulo q) 129 d) 1
  state_first =
      record {
        before_is = ap (pad (modulo q) 129) (sym (before_zero (surd_of h)));
        q_is = ap (pad (modulo q) 129) (sym (Q_zero (surd_of h)));
        left_is = ap (pad (modulo q) 129) (sym (left_zero (surd_of h)));
        size_is = sym (ap length (Q_zero (surd_of h)));
      }

  module _ (s : List ℕ) (twice_is : s ≡ pad (modulo q) 129 twice) (i : ℕ) (c b r : List ℕ) (size : ℕ) (t : State (prime q) g D i c b r size) where
    -- each array has the coefficients of its list
    same : (x l : List ℕ) → x ≡ pad (modulo q) 129 l → length l ≤ 129 → series M x ≡ series M l
    same x l e k = ap (series M) e ∙ pad_series q (pos q h.prime) l k

    twice_length : length (add (modulo q) d d) ≤ suc (suc g)
    twice_length =
        let e = d_length (surd_of h) in
        let k : length (trim (modulo q) d) ≡ length d = ap length (surd_of h).trimmed in
        length_add M d d (suc (suc g)) (omega arith) (omega arith)

    sums : series M s ≡ series M twice
    sums = same s twice twice_is (let k = twice_length in let l = h.genus_most in omega arith)

    befores : series M c ≡ series M (before (modulo q) D d i)
    befores = same c _ t.before_is (let e = h.size_D in let l = h.genus_most in before_length (surd_of h) 129 (omega arith) (omega arith) i)

    qs : series M b ≡ series M (Q (modulo q) D d i)
    qs = same b _ t.q_is (let e = Q_length (surd_of h) i in let l = h.genus_most in omega arith)

    lefts : series M r ≡ series M (left (modulo q) D d i)
    lefts = same r _ t.left_is (let e = left_length (surd_of h) i in let l = h.genus_most in omega arith)

    dividends : series M (sub (modulo q) s r) ≡ series M (sub (modulo q) twice (left (modulo q) D d i))
    dividends = ap (series M) (sub_cong M s twice r _ sums lefts)

    rem_next : next_rem (prime q) s b r ≡ left (modulo q) D d (suc i)
    unfolding next_rem
    rem_next = rem_cong M I _ _ b _ dividends qs ∙ sym (left_next (surd_of h) i)

    pub quo_next : step_quo (prime q) s b r ≡ quo (modulo q) (sub (modulo q) twice (left (modulo q) D d i)) (Q (modulo q) D d i)
    unfolding step_quo
    quo_next = quo_cong M I _ _ b _ dividends qs

    q_next : next_q (prime q) s c b r ≡ Q (modulo q) D d (suc i)
    unfolding next_q
    q_next =
        add_cong M c _ _ _ befores (ap (series M) (mul_cong M _ _ _ _ (ap (series M) quo_next) (ap (series M) (sub_cong M _ _ r _ (ap (series M) (rem_next ∙ left_next (surd_of h) i)) lefts))))
        ∙ sym (Q_step (surd_of h) i)

    -- what a step asks for
    pub state_ready : Ready (prime q) (suc (suc g)) size s c b r
    state_ready =
        record {
          twice_within = subst (λ (x : List ℕ). Within (prime q) x (suc (suc g))) (sym twice_is) (pad_within q twice (suc (suc g)) twice_length (let l = h.genus_most in omega arith) (oks_add M d d));
          rest_within = subst (λ (x : List ℕ). Within (prime q) x (suc (suc g))) (sym t.left_is) (pad_within q _ (suc (suc g)) (left_length (surd_of h) i) (let l = h.genus_most in omega arith) (left_oks (surd_of h) i));
          current_within = subst₂ (Within (prime q)) (sym t.q_is) (sym t.size_is) (pad_within q _ _ (omega arith) (let l = h.genus_most in let k = Q_length (surd_of h) i in omega arith) (Q_oks (surd_of h) i));
          lead_some = λ e. (Q_deg (surd_of h) i).top (ap M.φ (sym (at_pad (modulo q) 129 _ (let l = h.genus_most in let k = Q_length (surd_of h) i in omega arith) _) ∙ sym (ap₂ (λ (l : List ℕ) (n : ℕ). get_or l (n - 1) 0) t.q_is t.size_is) ∙ e));
          before_reduced = λ j. subst (λ (x : List ℕ). get_or x j 0 < q) (sym t.before_is) ((pad_within q _ 129 (let e = h.size_D in let l = h.genus_most in before_length (surd_of h) 129 (omega arith) (omega arith) i) (omega arith) (before_oks (surd_of h) h.below i)).reduced j);
          short = subst (λ (l : List ℕ). length l ≤ suc (suc g)) (sym q_next) (let k = Q_length (surd_of h) (suc i) in omega arith);
        }

    -- what it leaves
    pub state_next : (z w : List ℕ) (k : ℕ) → Stepped (prime q) s c b r z w k → State (prime q) g D (suc i) b w z k
    state_next z w k u =
        record {
          before_is = t.q_is ∙ ap (pad (modulo q) 129) (sym (before_suc (surd_of h) i));
          q_is = u.q_is ∙ ap (pad (modulo q) 129) q_next;
          left_is = u.rem_is ∙ ap (pad (modulo q) 129) rem_next;
          size_is = u.size_is ∙ ap length q_next;
        }
