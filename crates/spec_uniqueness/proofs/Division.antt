-- The proofs of specs/Division.
use Rattle.std.specs.Prelude.{ℕ, ◌-◌ as ◌-ₙ◌, ◌<◌, ◌≡◌, List, [], ◌∷◌, length}
use Rattle.std.proofs.Common.{eq-zero-or-pos, arith, sym, ap, ◌∙◌, subst, ⊎_elim}
use Rattle.math_ring.specs.Ring.{zer_mul, mul_zer}
use Rattle.math_ring.specs.Identity.{ring_from, times, plus, quote}
use Rattle.math_ring.specs.Series.{Series, add_s, neg_s, conv, con, conv_con, zer_s}
use Rattle.math_algebra.specs.Field.{Field}
use Rattle.math_algebra.specs.Polynomial.{F, Px, Monic, monic_deg, deg_scale, deg_unique, deg_path, deg_not_zero}
use Rattle.math_algebra.specs.Divides.{Divides as DividesIn, divides_monic, zero_divides}
use Rattle.spec_arithmetic.specs.Field.{FieldName, ops, reading}
use Rattle.spec_arithmetic.specs.Polynomials.{trim, size, deg, lead, add, sub, scale, mul, quo, rem, monic, gcd}
use Rattle.spec_definitions.specs.Ticket.{ticket_of, refusal_of}
use Rattle.spec_bridge.specs.Model.{Model, Inverts, series, series_nil}
use Rattle.spec_bridge.specs.Trim.{below_length, below_size, size_is, size_series, lead_is, lead_some}
use Rattle.spec_bridge.specs.Arithmetic.{series_add, series_sub, series_mul, series_scale}
use Rattle.spec_bridge.specs.Division.{series_quo_rem, trim_rem, rem_less}
use Rattle.spec_bridge.specs.Quotient.{quo_rem_unique}
use Rattle.spec_bridge.specs.Monic.{series_monic}
use Rattle.spec_bridge.specs.Degree.{deg_is, series_deg}
use Rattle.spec_bridge.specs.Euclid.{gcd_is}
use Rattle.spec_fields.specs.Named.{IsField, Ok, arithmetic, reading_one, φ_first}
use Rattle.spec_laws.specs.Admitted.{passed, prime_of}
use Rattle.spec_sentences.specs.Sentences.{AllowedField, Same}
use Rattle.spec_sentences.proofs.Readings.{prime_allowed, named_field}
use Rattle.spec_sentences.specs.Arithmetic.{Divides}
use Rattle.spec_sentences.proofs.Arithmetic.{series_same, same_series, divides_series, divides_rem, gcd_rules}
use Rattle.spec_uniqueness.specs.Division.{OneDivision, OneInverse, OneGcd, OneMonic}

-- ---- the proof
module _ (f : FieldName) (named : IsField f) where
  abbrev K : Field (arithmetic f named).Elements
  K = (arithmetic f named).K

  abbrev M : Model (ops f) (F K)
  M = (arithmetic f named).M

  abbrev I : Inverts M
  I = (arithmetic f named).I

  -- the same polynomial has the same degree
  pub deg_series : (l h : List ℕ) → series M l ≡ series M h → deg (ops f) l ≡ deg (ops f) h
  deg_series l h e = deg_is K M l ∙ ap (λ (n : ℕ). n -ₙ 1) (size_series M l h e) ∙ sym (deg_is K M h)

  -- what the quotient leaves is shorter than the divisor
  pub quotient_leaves : (a b : List ℕ) → 0 < size (ops f) b → size (ops f) (sub (ops f) a (mul (ops f) (quo (ops f) a b) b)) < size (ops f) b
  quotient_leaves a b some =
      let l : List ℕ = sub (ops f) a (mul (ops f) (quo (ops f) a b) b) in
      let r : List ℕ = rem (ops f) a b in
      let e : length (trim (ops f) l) ≡ length (trim (ops f) r) = size_series M l r same in
      let k = size_is M l in
      let n = size_is M b in
      let t = ap length (trim_rem M a b) in
      let u = rem_less M I a b (omega arith) in
      omega arith
    where
      c : List ℕ
      c = quo (ops f) a b

      same : series M (sub (ops f) a (mul (ops f) c b)) ≡ series M (rem (ops f) a b)
      same = series_sub M a (mul (ops f) c b) ∙ ap (λ (u : Px K). add_s (F K) (series M a) (neg_s (F K) u)) (series_mul M c b) ∙ ring_from (Series (F K)) (series M a ∷ series M b ∷ series M c ∷ series M (rem (ops f) a b) ∷ []) (times (Series (F K)) (Series (F K)).one (series_quo_rem M a b)) (search quote depth 40 fits 9999) tt

  -- an exact quotient
  pub quotient_exact : (a b : List ℕ) → Divides f b a → Same f (mul (ops f) b (quo (ops f) a b)) a
  quotient_exact a b d = series_same f named (mul (ops f) b c) a (series_mul M b c ∙ ring_from (Series (F K)) (series M a ∷ series M b ∷ series M c ∷ series M (rem (ops f) a b) ∷ []) (plus (Series (F K)) (times (Series (F K)) (neg_s (F K) (Series (F K)).one) (series_quo_rem M a b)) (times (Series (F K)) (neg_s (F K) (Series (F K)).one) (ap (series M) (divides_rem f named a b d) ∙ series_nil M))) (search quote depth 40 fits 9999) tt)
    where
      c : List ℕ
      c = quo (ops f) a b

  pub division_only : (a b c r : List ℕ) → Same f a (add (ops f) (mul (ops f) c b) r) → size (ops f) r < size (ops f) b
      → (series M c ≡ series M (quo (ops f) a b)) × (series M r ≡ series M (rem (ops f) a b))
  division_only a b c r s less = (sym both.0, sym both.1)
    where
      both : (series M (quo (ops f) a b) ≡ series M c) × (series M (rem (ops f) a b) ≡ series M r)
      both = quo_rem_unique M I a b (series M c) (series M r) (length c) (let e = size_is M b in omega arith) (below_length M c) (λ i l. below_size M r i (let e = size_is M b in let k = size_is M r in omega arith)) (same_series f named a (add (ops f) (mul (ops f) c b) r) s ∙ series_add M (mul (ops f) c b) r ∙ ap (λ (u : Px K). add_s (F K) u (series M r)) (series_mul M c b))

  -- two inverses of c
  inverses_same : (a b c : (arithmetic f named).Elements) → (F K).mul a c ≡ (F K).one → (F K).mul b c ≡ (F K).one → a ≡ b
  inverses_same a b c e l = ring_from (F K) (a ∷ b ∷ c ∷ []) (plus (F K) (times (F K) b e) (times (F K) ((F K).neg a) l)) (search quote depth 40 fits 9999) tt

  inverse_only : (a x : ℕ) → Ok f x → (ops f).mul x a ≡ 1 → x ≡ (ops f).inv a
  inverse_only a x low e = M.inj x ((ops f).inv a) ((arithmetic f named).ok_of x low) (I.ok_inv a) (inverses_same (M.φ x) (M.φ ((ops f).inv a)) (M.φ a) left right)
    where
      left : (F K).mul (M.φ x) (M.φ a) ≡ (F K).one
      left = sym (M.φ_mul x a) ∙ ap M.φ e ∙ φ_first f named

      right : (F K).mul (M.φ ((ops f).inv a)) (M.φ a) ≡ (F K).one
      right = I.inv_mul a (λ z. K.one_not_zero (sym left ∙ ap ((F K).mul (M.φ x)) z ∙ mul_zer (F K) (M.φ x)))

  -- a list with the leading coefficient 1
  pub lead_monic : (a : List ℕ) → reading f (lead (ops f) a) ≡ 1 → Monic K (series M a) (length (trim (ops f) a) -ₙ 1)
  lead_monic a e = record { low = λ i l. below_size M a i (omega arith); top = ap M.φ (sym (lead_is M a)) ∙ reading_one f named (lead (ops f) a) e }

  -- monic lists that divide one another
  pub monic_same : (l h : List ℕ) → reading f (lead (ops f) l) ≡ 1 → reading f (lead (ops f) h) ≡ 1 → Divides f l h → Divides f h l → series M l ≡ series M h
  monic_same l h m n u v = divides_monic K (lead_monic l m) (lead_monic h n) (divides_series f named h l u) (divides_series f named l h v)

  gcd_only : (a b l : List ℕ) → Divides f l a → Divides f l b → ((h : List ℕ) → Divides f h a → Divides f h b → Divides f h l) → reading f (lead (ops f) l) ≡ 1 → series M l ≡ series M (gcd (ops f) a b)
  gcd_only a b l u v most m = ⊎_elim (λ z. absurd (none z)) (λ n. divides_monic K (lead_monic l m) n.1 into back) (gcd_is K M I a b).form
    where
      into : DividesIn K (series M l) (series M (gcd (ops f) a b))
      into = divides_series f named (gcd (ops f) a b) l ((gcd_rules f named a b).greatest l u v)

      back : DividesIn K (series M (gcd (ops f) a b)) (series M l)
      back = divides_series f named l (gcd (ops f) a b) (most (gcd (ops f) a b) (gcd_rules f named a b).divides_first (gcd_rules f named a b).divides_second)

      none : series M (gcd (ops f) a b) ≡ zer_s (F K) → ⊥
      none z = deg_not_zero K (monic_deg K (lead_monic l m)) (zero_divides K (subst (λ (u : Px K). DividesIn K u (series M l)) z back))

  pub monic_only : (a h : List ℕ) (k : ℕ) → Same f h (scale (ops f) k a) → reading f (lead (ops f) h) ≡ 1 → series M h ≡ series M (monic (ops f) a)
  monic_only a h k s m = h_is ∙ ap (λ c. conv (F K) (con (F K) c) (series M a)) same ∙ sym (series_monic M I a)
    where
      c : (arithmetic f named).Elements
      c = M.φ k

      n : ℕ
      n = length (trim (ops f) h) -ₙ 1

      h_is : series M h ≡ conv (F K) (con (F K) c) (series M a)
      h_is = same_series f named h (scale (ops f) k a) s ∙ series_scale M k a

      at : (i : ℕ) → series M h i ≡ (F K).mul c (series M a i)
      at i = ap (λ (u : Px K). u i) h_is ∙ conv_con (F K) c (series M a) i

      some_c : c ≡ (F K).zer → ⊥
      some_c z = K.one_not_zero (sym (lead_monic h m).top ∙ at n ∙ ap (λ x. (F K).mul x (series M a n)) z ∙ zer_mul (F K) (series M a n))

      some_f : 0 < length (trim (ops f) a)
      some_f = ⊎_elim (λ z. absurd (K.one_not_zero (sym (lead_monic h m).top ∙ at n ∙ ap ((F K).mul c) (below_size M a n (omega arith)) ∙ mul_zer (F K) c))) (λ l. l) (eq-zero-or-pos (length (trim (ops f) a)))

      degrees : n ≡ length (trim (ops f) a) -ₙ 1
      degrees = deg_unique K (deg_path K n h_is (monic_deg K (lead_monic h m))) (deg_scale K c (series M a) _ some_c (series_deg K M a some_f))

      same : c ≡ M.φ ((ops f).inv (lead (ops f) a))
      same = inverses_same c (M.φ ((ops f).inv (lead (ops f) a))) (M.φ (lead (ops f) a)) (ap (λ x. (F K).mul c (M.φ x)) (lead_is M a) ∙ sym (at _) ∙ ap (series M h) (sym degrees) ∙ (lead_monic h m).top) (I.inv_mul (lead (ops f) a) (lead_some M a some_f))

-- the q of a ticket past its refusals
pub prime_of_ticket : (w : List ℕ) → refusal_of w ≡ 0 → AllowedField (ticket_of w).field
prime_of_ticket w e = (prime_allowed (ticket_of w).field.q).0 (prime_of (ticket_of w).field.q (passed w e).prime)

pub one_division : OneDivision
one_division f r a b c l s less =
    let n = named_field f r in
    let e = division_only f n a b c l s less in
    (series_same f n c (quo (ops f) a b) e.0, series_same f n l (rem (ops f) a b) e.1)

pub one_inverse : OneInverse
one_inverse f r a x low e = inverse_only f (named_field f r) a x low e

pub one_gcd : OneGcd
one_gcd f r a b l u v most m = let n = named_field f r in series_same f n l (gcd (ops f) a b) (gcd_only f n a b l u v most m)

pub one_monic : OneMonic
one_monic f r l h k s m = let n = named_field f r in series_same f n h (monic (ops f) l) (monic_only f n l h k s m)
