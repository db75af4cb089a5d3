-- The proofs of specs/Arithmetic.
use Rattle.std.specs.Prelude.{ℕ, ◌≡◌, ◌≢◌, List, [], ◌∷◌, length}
use Rattle.std.proofs.Common.{arith, sym, ap, ◌∙◌, subst}
use Rattle.std.proofs.Math.Path.{fun_ext}
use Rattle.math_ring.specs.Identity.{ring, quote}
use Rattle.math_ring.specs.Series.{Series, add_s, conv}
use Rattle.math_algebra.specs.Field.{Field}
use Rattle.math_algebra.specs.Polynomial.{F, Px, Monic}
use Rattle.math_algebra.specs.Divides.{Divides as DividesIn}
use Rattle.math_algebra.specs.Gcd.{IsGcd, gcd_monic, gcd_greatest}
use Rattle.spec_arithmetic.specs.Field.{FieldName, ops}
use Rattle.spec_arithmetic.specs.Polynomials.{size, lead, add, mul, quo, rem, monic, gcd}
use Rattle.spec_bridge.specs.Model.{Model, Inverts, Oks, series, series_nil}
use Rattle.spec_bridge.specs.Trim.{below_length, trim_nil, size_is, lead_is}
use Rattle.spec_bridge.specs.Arithmetic.{series_add, series_mul}
use Rattle.spec_bridge.specs.Division.{series_quo_rem, rem_less, trim_rem}
use Rattle.spec_bridge.specs.Monic.{trim_monic, length_monic}
use Rattle.spec_bridge.specs.Degree.{zero_size, monic_size}
use Rattle.spec_bridge.specs.Gcd.{gcd_zero, gcd_rule}
use Rattle.spec_bridge.specs.Bezout.{trim_gcd, oks_gcd}
use Rattle.spec_bridge.specs.Euclid.{divides_rem_none, gcd_is}
use Rattle.spec_fields.specs.Named.{IsField, arithmetic, same_reading, reading_same, φ_first, ok_first, reading_zero}
use Rattle.spec_sentences.specs.Sentences.{Same}
use Rattle.spec_sentences.proofs.Readings.{named_field}
use Rattle.spec_sentences.specs.Arithmetic.{Divides, Divided, Division, Inverse, GcdRule, Euclid}

-- ---- the proof
module _ (f : FieldName) (named : IsField f) where
  abbrev K : Field (arithmetic f named).Elements
  K = (arithmetic f named).K

  abbrev M : Model (ops f) (F K)
  M = (arithmetic f named).M

  -- the same polynomial by its coefficients and over the field
  pub series_same : (l h : List ℕ) → series M l ≡ series M h → Same f l h
  series_same l h e i = same_reading f named _ _ (ap (λ (u : Px K). u i) e)

  pub same_series : (l h : List ℕ) → Same f l h → series M l ≡ series M h
  same_series l h e = fun_ext (λ i. reading_same f named _ _ (e i))

  -- a factor where nothing remains, and back
  pub rem_divides : (h l : List ℕ) → rem (ops f) h l ≡ [] → Divides f l h
  rem_divides h l e =
      let c : List ℕ = quo (ops f) h l in
      (c, series_same h (mul (ops f) l c) (series_quo_rem M h l ∙ ap (add_s (F K) (conv (F K) (series M c) (series M l))) (ap (series M) e ∙ series_nil M) ∙ ring (Series (F K)) (series M c ∷ series M l ∷ []) (search quote depth 40 fits 9999) tt ∙ sym (series_mul M l c)))

  -- over the field
  pub divides_series : (h l : List ℕ) → Divides f l h → DividesIn K (series M l) (series M h)
  divides_series h l (e, s) = record { by = series M e; size = length e; low = below_length M e; is = same_series h (mul (ops f) l e) s ∙ series_mul M l e }

  pub series_divides : (h l : List ℕ) → DividesIn K (series M l) (series M h) → Divides f l h
  series_divides h l d = rem_divides h l (divides_rem_none K M (arithmetic f named).I h l d)

  pub divides_rem : (h l : List ℕ) → Divides f l h → rem (ops f) h l ≡ []
  divides_rem h l d = divides_rem_none K M (arithmetic f named).I h l (divides_series h l d)

  divided : (a b : List ℕ) → size (ops f) b ≢ 0 → Divided f a b
  divided a b some = record {
    is = series_same a (add (ops f) (mul (ops f) c b) r) (series_quo_rem M a b ∙ sym (series_add M (mul (ops f) c b) r ∙ ap (λ (u : Px K). add_s (F K) u (series M r)) (series_mul M c b)));
    less = let e = size_is M b in let k = rem_less M (arithmetic f named).I a b (omega arith) in let l = size_is M r in let t = ap length (trim_rem M a b) in omega arith;
  }
    where
      c : List ℕ
      c = quo (ops f) a b

      r : List ℕ
      r = rem (ops f) a b

  -- the leading coefficient of a monic list
  pub lead_is_one : (l : List ℕ) {n : ℕ} → Oks M l → Monic K (series M l) n → lead (ops f) l ≡ 1
  lead_is_one l {n} k m = M.inj (lead (ops f) l) 1 (subst M.Ok (sym (lead_is M l)) (k _)) (ok_first f named) (ap M.φ (lead_is M l) ∙ ap (series M l) (let e = monic_size K M l m in omega arith) ∙ m.top ∙ sym (φ_first f named))

  pub gcd_rules : (a b : List ℕ) → GcdRule f a b
  gcd_rules a b = record {
    step = λ some. gcd_rule M I a b (let e = size_is M b in omega arith);
    base = zero;
    none = λ e c. zero c ∙ sym (trim_monic M I a) ∙ trim_nil M (monic (ops f) a) (let k = length_monic M I a in let l = size_is M a in let t = ap length (trim_monic M I a) in omega arith);
    leads = λ some. lead_is_one (gcd (ops f) a b) (oks_gcd M I a b) (gcd_monic K is (λ e. some (sym (trim_gcd M I a b) ∙ zero_size K M (gcd (ops f) a b) e))).1;
    divides_first = series_divides a (gcd (ops f) a b) is.left;
    divides_second = series_divides b (gcd (ops f) a b) is.right;
    greatest = λ c u v. series_divides (gcd (ops f) a b) c (gcd_greatest K is (divides_series a c u) (divides_series b c v));
  }
    where
      I : Inverts M
      I = (arithmetic f named).I

      is : IsGcd K (series M a) (series M b) (series M (gcd (ops f) a b))
      is = gcd_is K M I a b

      zero : size (ops f) b ≡ 0 → gcd (ops f) a b ≡ monic (ops f) a
      zero c = gcd_zero M I a b (trim_nil M b (sym (size_is M b) ∙ c))

pub division : Division
division f r a b some = divided f (named_field f r) a b some

pub inverse_is : Inverse
inverse_is f r a some = (M f n).inj _ _ ((M f n).ok_mul _ _) (ok_first f n) ((M f n).φ_mul _ _ ∙ (arithmetic f n).I.inv_mul a (λ e. some (same_reading f n a 0 (e ∙ sym (M f n).φ_zer) ∙ reading_zero f)) ∙ sym (φ_first f n))
  where
    n : IsField f
    n = named_field f r

pub euclid : Euclid
euclid f r a b = gcd_rules f (named_field f r) a b
