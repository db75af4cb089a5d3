-- The proofs of specs/Pairs.
use Rattle.std.specs.Prelude.{ℕ, zero, suc, ◌≡◌, refl, ◌≢◌, Bool, true, false, not, ◌&&◌, List, [], get_or}
use Rattle.std.proofs.Common.{arith, sym, ◌∙◌, subst, ⊎_elim, eq-eqb, lt-ltb}
use Rattle.std.proofs.Math.Path.{ap, ap₂}
use Rattle.std.proofs.lemmas.Bool.{false≢true}
use Rattle.math_algebra.specs.Field.{Field}
use Rattle.math_algebra.specs.Polynomial.{F}
use Rattle.spec_arithmetic.specs.Field.{FieldName, ops, fits}
use Rattle.spec_arithmetic.specs.Polynomials.{trim, size, sub, mul, rem}
use Rattle.spec_arithmetic.specs.Words.{some_not}
use Rattle.spec_definitions.specs.Ticket.{Ticket, genus, ticket_of, refusal_of}
use Rattle.spec_definitions.specs.Walk.{Ideal}
use Rattle.spec_definitions.specs.Products.{ProductAnswer, GiantStepAnswer, is_pair, wrong_pair, wrong_distance, product_done, giant_done, product_refused, giant_refused, product_answer, giant_answer}
use Rattle.spec_bridge.specs.Model.{Model, Oks}
use Rattle.spec_bridge.specs.Trim.{size_is, size_le}
use Rattle.spec_bridge.specs.Degree.{monic_size}
use Rattle.spec_fields.specs.Named.{Ok, arithmetic, ok_fits}
use Rattle.spec_laws.specs.Admitted.{Admitted, is_field, admitted}
use Rattle.spec_laws.specs.Pairs.{IsIdeal}
use Rattle.spec_laws.specs.PairTest.{Passes, pair_passes, pair_q_below, pair_p_below, pair_ideal}
use Rattle.spec_sentences.specs.Tests.{Tests}
use Rattle.spec_sentences.proofs.Tests.{tests_lt, tests_not, tests_either, tests_none, tests_some}
use Rattle.spec_sentences.specs.Arithmetic.{Divides}
use Rattle.spec_sentences.proofs.Arithmetic.{rem_divides, divides_rem, lead_is_one}
use Rattle.spec_refusals.specs.Pairs.{IsPair, GivenPair, WrongPair, WrongDistance, ProductZero, GiantZero, T1Pairs}

-- ---- ideals over the field are pairs, for a D that is admitted
module _ {f : FieldName} {g : ℕ} {D : List ℕ} (h : Admitted f g D) where
  abbrev K : Field (arithmetic f (is_field h)).Elements
  K = (arithmetic f (is_field h)).K

  abbrev M : Model (ops f) (F K)
  M = (arithmetic f (is_field h)).M

  pub exact : (l a : List ℕ) → rem (ops f) l a ≡ [] → Divides f a l
  exact = rem_divides f (is_field h)

  pub ideal_is_pair : {s : Ideal ℕ} → Oks M s.q → IsIdeal K M D s → IsPair f D s.q s.p
  ideal_is_pair {s} k i = record {
    monic = lead_is_one f (is_field h) s.q k i.monic;
    less = let a = monic_size K M s.q i.monic in let b = size_le M s.p i.κ i.low in let c = size_is M s.q in let e = size_is M s.p in omega arith;
    divides = exact _ s.q i.divides;
  }

-- ---- the tests are those of the sentences
and_true : {a b : Bool} → a ≡ true → b ≡ true → (a && b) ≡ true
and_true e f = ap₂ ◌&&◌ e f

below_true : (f : FieldName) (l : List ℕ) → ((i : ℕ) → Ok f (get_or l i 0)) → not (some_not (fits f) l) ≡ true
below_true f l low = (tests_not (tests_some (fits f) l)).1 (λ s. absurd (false≢true (sym s.2 ∙ ok_fits f _ (low s.0))))

module _ (t : Ticket) (h : Admitted t.field (genus t.n) t.D) where
  -- D − P²
  abbrev rest : Ideal ℕ → List ℕ
  rest x = sub (ops t.field) t.D (mul (ops t.field) x.p x.p)

  pair_given : (x : Ideal ℕ) → Passes t.field (genus t.n) t.D x → GivenPair t x
  pair_given x p = record {
    q_length = p.q_length;
    p_length = p.p_length;
    q_below = pair_q_below h p;
    p_below = pair_p_below h p;
    is = record { monic = p.lead_one; less = p.less; divides = exact h (rest x) x.q (pair_ideal h p).divides };
  }

  given_pair : (x : Ideal ℕ) → GivenPair t x → is_pair t x ≡ true
  unfolding is_pair size trim
  given_pair x p =
      and_true (and_true (and_true (and_true (and_true (and_true (eq-eqb _ _ p.q_length) (eq-eqb _ _ p.p_length)) (below_true t.field x.q p.q_below)) (below_true t.field x.p p.p_below)) (eq-eqb _ _ p.is.monic)) (lt-ltb _ _ p.is.less))
      (eq-eqb _ _ (ap (size (ops t.field)) (divides_rem t.field (is_field h) (rest x) x.q p.is.divides)))

  tests_pair : (x : Ideal ℕ) → Tests (is_pair t x) (GivenPair t x)
  tests_pair x = (λ e. pair_given x (pair_passes t x e), given_pair x)

  pub tests_pairs : (x y : Ideal ℕ) → Tests (wrong_pair t x y) (WrongPair t x y)
  unfolding wrong_pair
  tests_pairs x y = tests_either (tests_not (tests_pair x)) (tests_not (tests_pair y))

  -- both pairs are given where 9 does not apply
  pub pairs_passed : (x y : Ideal ℕ) → GivenPair t x → GivenPair t y → wrong_pair t x y ≡ false
  pairs_passed x y p r = tests_none (tests_pairs x y) (⊎_elim (λ n. n p) (λ n. n r))

pub tests_distances : (d e : ℕ) → Tests (wrong_distance d e) (WrongDistance d e)
unfolding wrong_distance
tests_distances d e = tests_either (tests_lt _ d) (tests_lt _ e)

-- ---- the answers by the refusal of the words and the two tests
module _ (w : List ℕ) (x y : Ideal ℕ) where
  abbrev product_by : ℕ → Bool → ProductAnswer
  product_by r a = elim r [ zero ↦ elim a [ true ↦ product_refused 9 | false ↦ product_done (ticket_of w) x y ] | suc k ↦ product_refused (suc k) ]

  pub product_answer_by : (r : ℕ) (a : Bool) → refusal_of w ≡ r → wrong_pair (ticket_of w) x y ≡ a → product_answer w x y ≡ product_by r a
  unfolding product_answer
  product_answer_by r a e f = ap₂ product_by e f

  module _ (d e : ℕ) where
    abbrev giant_by : ℕ → Bool → Bool → GiantStepAnswer
    giant_by r a b = elim r [ zero ↦ elim a [ true ↦ giant_refused 9 | false ↦ elim b [ true ↦ giant_refused 10 | false ↦ giant_done (ticket_of w) x d y e ] ] | suc k ↦ giant_refused (suc k) ]

    pub giant_answer_by : (r : ℕ) (a b : Bool) → refusal_of w ≡ r → wrong_pair (ticket_of w) x y ≡ a → wrong_distance d e ≡ b → giant_answer w x d y e ≡ giant_by r a b
    unfolding giant_answer
    giant_answer_by r a b h f k = ap₂ (λ (r : ℕ) (a : Bool). giant_by r a (wrong_distance d e)) h f ∙ ap (giant_by r a) k

pub t1_pairs : T1Pairs
unfolding product_done giant_done product_refused giant_refused
t1_pairs w x d y e = record {
  words = λ some. words (refusal_of w) refl some;
  pairs = λ z p. let f = (tests_pairs (ticket_of w) (admitted w z) x y).1 p in (ap (λ (a : ProductAnswer). a.number) (product_answer_by w x y 0 true z f), ap (λ (a : GiantStepAnswer). a.number) (giant_answer_by w x y d e 0 true (wrong_distance d e) z f refl));
  distances = λ z p f. ap (λ (a : GiantStepAnswer). a.number) (giant_answer_by w x y d e 0 false true z (none z p) ((tests_distances d e).1 f));
  product_not_refused = λ z p. ap (λ (a : ProductAnswer). a.number) (product_answer_by w x y 0 false z (none z p));
  giant_not_refused = λ z p f. ap (λ (a : GiantStepAnswer). a.number) (giant_answer_by w x y d e 0 false false z (none z p) (tests_none (tests_distances d e) f));
  product_zero = subst (λ (r : ProductAnswer). r.number ≢ 0 → ProductZero r) (sym (product_answer_by w x y (refusal_of w) (wrong_pair (ticket_of w) x y) refl refl)) (product_none (refusal_of w) (wrong_pair (ticket_of w) x y));
  giant_zero = subst (λ (r : GiantStepAnswer). r.number ≢ 0 → GiantZero r) (sym (giant_answer_by w x y d e (refusal_of w) (wrong_pair (ticket_of w) x y) (wrong_distance d e) refl refl refl)) (giant_none (refusal_of w) (wrong_pair (ticket_of w) x y) (wrong_distance d e));
}
  where
    none : refusal_of w ≡ 0 → ¬ WrongPair (ticket_of w) x y → wrong_pair (ticket_of w) x y ≡ false
    none z p = tests_none (tests_pairs (ticket_of w) (admitted w z) x y) p

    words : (r : ℕ) → refusal_of w ≡ r → refusal_of w ≢ 0 → ((product_answer w x y).number ≡ refusal_of w) × ((giant_answer w x d y e).number ≡ refusal_of w)
    words zero h some = absurd (some h)
    words (suc k) h some = (ap (λ (a : ProductAnswer). a.number) (product_answer_by w x y (suc k) (wrong_pair (ticket_of w) x y) h refl) ∙ sym h, ap (λ (a : GiantStepAnswer). a.number) (giant_answer_by w x y d e (suc k) (wrong_pair (ticket_of w) x y) (wrong_distance d e) h refl refl) ∙ sym h)

    product_none : (r : ℕ) (a : Bool) → (product_by w x y r a).number ≢ 0 → ProductZero (product_by w x y r a)
    product_none zero true some = (refl, refl, refl)
    product_none zero false some = absurd (some refl)
    product_none (suc k) a some = (refl, refl, refl)

    giant_none : (r : ℕ) (a b : Bool) → (giant_by w x y d e r a b).number ≢ 0 → GiantZero (giant_by w x y d e r a b)
    giant_none zero true b some = (refl, refl, refl, refl)
    giant_none zero false true some = (refl, refl, refl, refl)
    giant_none zero false false some = absurd (some refl)
    giant_none (suc k) a b some = (refl, refl, refl, refl)
