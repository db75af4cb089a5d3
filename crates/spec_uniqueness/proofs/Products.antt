-- The proofs of specs/Products.
use Rattle.std.specs.Prelude.{ℕ, ◌+◌ as ◌+ₙ◌, ◌-◌ as ◌-ₙ◌, ◌<◌, ◌≡◌, refl, false, List, [], ◌∷◌, length, get_or}
use Rattle.std.proofs.Common.{arith, sym, ap, ◌∙◌, subst}
use Rattle.math_ring.specs.Ring.{eq_of_sub}
use Rattle.math_ring.specs.Identity.{ring_from, times, plus, quote}
use Rattle.math_ring.specs.Series.{Series, add_s, neg_s, conv, zer_s}
use Rattle.math_algebra.specs.Field.{Field}
use Rattle.math_algebra.specs.Polynomial.{F, Px, Monic, cancel, deg_mul, monic_deg, low_up, low_sub}
use Rattle.spec_arithmetic.specs.Field.{FieldName, ops, reading}
use Rattle.spec_arithmetic.specs.Polynomials.{trim, add, sub, mul, quo}
use Rattle.spec_definitions.specs.Ticket.{genus, ticket_of, refusal_of}
use Rattle.spec_definitions.specs.Walk.{Ideal}
use Rattle.spec_definitions.specs.Products.{Product, ProductAnswer, product_done, product_answer}
use Rattle.spec_bridge.specs.Model.{Model, Inverts, series}
use Rattle.spec_bridge.specs.Trim.{below_length}
use Rattle.spec_bridge.specs.Arithmetic.{series_mul}
use Rattle.spec_bridge.specs.Quotient.{quo_cong, rem_cong}
use Rattle.spec_fields.specs.Named.{Arithmetic, arithmetic, some_elements, reading_first}
use Rattle.spec_laws.specs.Admitted.{Admitted, is_field, admitted}
use Rattle.spec_laws.specs.Product.{product_is}
use Rattle.spec_sentences.specs.Sentences.{Same}
use Rattle.spec_sentences.proofs.Arithmetic.{series_same, same_series}
use Rattle.spec_sentences.specs.Operations.{Operations}
use Rattle.spec_sentences.proofs.Operations.{by_coefficients, trimmed_same}
use Rattle.spec_refusals.specs.Pairs.{GivenPair}
use Rattle.spec_refusals.proofs.Pairs.{pairs_passed, product_answer_by}
use Rattle.spec_demands.specs.Products.{Combines, paper_p, IsProduct}
use Rattle.spec_demands.proofs.Products.{t2_products}
use Rattle.spec_uniqueness.proofs.Division.{prime_of_ticket, lead_monic, monic_same}
use Rattle.spec_uniqueness.specs.Products.{ProductOf, TrimmedProduct, OneProduct, ProductIs, OneProductAnswer}

-- ---- the proof, for a D that is admitted
module _ {f : FieldName} {g : ℕ} {D : List ℕ} (h : Admitted f g D) {x y : Ideal ℕ} {S Q P S₀ Q₀ P₀ : List ℕ} (new : ProductOf f D x y S Q P) (old : IsProduct f g D x y S₀ Q₀ P₀) where
  abbrev K : Field (arithmetic f (is_field h)).Elements
  K = (arithmetic f (is_field h)).K

  abbrev M : Model (ops f) (F K)
  M = (arithmetic f (is_field h)).M

  abbrev I : Inverts M
  I = (arithmetic f (is_field h)).I

  up : (a l : List ℕ) → Same f a l → series M a ≡ series M l
  up = same_series f (is_field h)

  one_mod : {a : ℕ} → a ≡ 1 → reading f a ≡ 1
  one_mod {a} e = ap (reading f) e ∙ reading_first f (is_field h)

  S_only : series M S ≡ series M S₀
  S_only = monic_same f (is_field h) S S₀ new.S_monic (one_mod old.S_monic) (old.S_greatest S new.S_first new.S_second new.S_sum) (new.S_greatest S₀ old.S_first old.S_second old.S_sum)

  Q_only : series M Q ≡ series M Q₀
  Q_only = eq_of_sub (Series (F K)) (series M Q) (series M Q₀) (cancel K (length Q +ₙ length Q₀) gap square _ (deg_mul K (series M S) (series M S) _ _ (monic_deg K m) (monic_deg K m)) (low_sub K (series M Q) (series M Q₀) _ (low_up K (series M Q) (omega arith) (below_length M Q)) (low_up K (series M Q₀) (omega arith) (below_length M Q₀))) gone)
    where
      m : Monic K (series M S) (length (trim (ops f) S) -ₙ 1)
      m = lead_monic f (is_field h) S new.S_monic

      gap : Px K
      gap = add_s (F K) (series M Q) (neg_s (F K) (series M Q₀))

      square : Px K
      square = conv (F K) (series M S) (series M S)

      T : Px K
      T = series M (mul (ops f) x.q y.q)

      here : conv (F K) (series M Q) square ≡ T
      here = sym (series_mul M Q (mul (ops f) S S) ∙ ap (conv (F K) (series M Q)) (series_mul M S S)) ∙ up (mul (ops f) Q (mul (ops f) S S)) (mul (ops f) x.q y.q) new.Q_square

      there : conv (F K) (series M Q₀) square ≡ T
      there = ap (λ (l : Px K). conv (F K) (series M Q₀) (conv (F K) l l)) S_only ∙ sym (series_mul M Q₀ (mul (ops f) S₀ S₀) ∙ ap (conv (F K) (series M Q₀)) (series_mul M S₀ S₀)) ∙ ap (series M) old.Q_square

      gone : conv (F K) gap square ≡ zer_s (F K)
      gone = ring_from (Series (F K)) (series M Q ∷ series M Q₀ ∷ square ∷ T ∷ []) (plus (Series (F K)) (times (Series (F K)) (Series (F K)).one here) (times (Series (F K)) (neg_s (F K) (Series (F K)).one) there)) (search quote depth 40 fits 9999) tt

  -- P depends on S and Q as polynomials alone
  paper_cong : (u w : List ℕ) → paper_p f D x y S Q u w ≡ paper_p f D x y S₀ Q₀ u w
  paper_cong u w = rem_cong M I _ _ Q Q₀ (ap (λ (l : List ℕ). series M (add (ops f) x.p (mul (ops f) l (add (ops f) (mul (ops f) u (sub (ops f) y.p x.p)) (mul (ops f) w (quo (ops f) (sub (ops f) D (mul (ops f) x.p x.p)) x.q)))))) (quo_cong M I x.q x.q S S₀ refl S_only)) Q_only

  P_only : Same f P P₀
  P_only = go old.S_combines
    where
      go : ((u : List ℕ) × (v : List ℕ) × (w : List ℕ) × Combines f x y S₀ u v w) → Same f P P₀
      go (u, v, w, e) = subst (Same f P) (paper_cong u w ∙ sym (old.P_any u v w e)) (new.P_any u v w (series_same f (is_field h) S (add (ops f) (add (ops f) (mul (ops f) u x.q) (mul (ops f) v y.q)) (mul (ops f) w (add (ops f) x.p y.p))) (S_only ∙ ap (series M) e)))

-- ---- the answer's polynomials
answer_trimmed : (w : List ℕ) → refusal_of w ≡ 0 → (x y : Ideal ℕ) → GivenPair (ticket_of w) x → GivenPair (ticket_of w) y → TrimmedProduct (ticket_of w).field (product_answer w x y)
unfolding product_done
answer_trimmed w e x y px py = subst (TrimmedProduct (ticket_of w).field) (sym (product_answer_by w x y 0 false e (pairs_passed (ticket_of w) h x y px py))) (subst (λ (r : Product ℕ). TrimmedProduct (ticket_of w).field (record { number = 0; s = r.s; q = r.ideal.q; p = r.ideal.p })) (sym (product_is A.K A.M A.I (ticket_of w).D x y)) (record { S_trimmed = o.gcd_trimmed (prime_of_ticket w e) _ _; Q_trimmed = o.quo_trimmed _ _; P_trimmed = o.rem_trimmed _ _ }))
  where
    h : Admitted (ticket_of w).field (genus (ticket_of w).n) (ticket_of w).D
    h = admitted w e

    A : Arithmetic (ticket_of w).field
    A = arithmetic (ticket_of w).field (is_field h)

    o : Operations (ticket_of w).field
    o = by_coefficients (ticket_of w).field (some_elements (ticket_of w).field (is_field h))

answers_same : (r a : ProductAnswer) → r.number ≡ a.number → r.s ≡ a.s → r.q ≡ a.q → r.p ≡ a.p → r ≡ a
answers_same r a n s q p = λ i. record { number = n i; s = s i; q = q i; p = p i }

pub one_product : OneProduct
one_product w e x y px py S Q P new =
    let h = admitted w e in
    let old = (t2_products w e x y px py).is in
    record {
      S_same = series_same (ticket_of w).field (is_field h) S (product_answer w x y).s (S_only h new old);
      Q_same = series_same (ticket_of w).field (is_field h) Q (product_answer w x y).q (Q_only h new old);
      P_same = P_only h new old;
    }

pub one_product_answer : OneProductAnswer
one_product_answer w e x y px py r zero u new =
    let k = one_product w e x y px py r.s r.q r.p new in
    let t = answer_trimmed w e x y px py in
    let p = some_elements (ticket_of w).field (is_field (admitted w e)) in
    answers_same r (product_answer w x y) (zero ∙ sym (t2_products w e x y px py).number) (trimmed_same (ticket_of w).field p r.s (product_answer w x y).s u.S_trimmed t.S_trimmed k.S_same) (trimmed_same (ticket_of w).field p r.q (product_answer w x y).q u.Q_trimmed t.Q_trimmed k.Q_same) (trimmed_same (ticket_of w).field p r.p (product_answer w x y).p u.P_trimmed t.P_trimmed k.P_same)

pub product_is_one : ProductIs
product_is_one w e x y px py = (
  record {
    S_monic = ap (reading f) old.S_monic ∙ reading_first f (is_field h);
    S_first = old.S_first;
    S_second = old.S_second;
    S_sum = old.S_sum;
    S_greatest = old.S_greatest;
    Q_square = λ i. ap (λ (l : List ℕ). reading f (get_or l i 0)) old.Q_square;
    P_any = λ u v w' s i. ap (λ (l : List ℕ). reading f (get_or l i 0)) (old.P_any u v w' (trimmed_same f p (product_answer w x y).s (add (ops f) (add (ops f) (mul (ops f) u x.q) (mul (ops f) v y.q)) (mul (ops f) w' (add (ops f) x.p y.p))) trimmed.S_trimmed ((by_coefficients f p).sum_trimmed _ _) s));
  },
  trimmed,
)
  where
    f : FieldName
    f = (ticket_of w).field

    h : Admitted f (genus (ticket_of w).n) (ticket_of w).D
    h = admitted w e

    p : 0 < f.q
    p = some_elements f (is_field h)

    old : IsProduct f (genus (ticket_of w).n) (ticket_of w).D x y (product_answer w x y).s (product_answer w x y).q (product_answer w x y).p
    old = (t2_products w e x y px py).is

    trimmed : TrimmedProduct f (product_answer w x y)
    trimmed = answer_trimmed w e x y px py
