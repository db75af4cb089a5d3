-- The proofs of specs/Operations.
use Prim.Native.Nat.{ℕ, zero, suc, ◌+◌, ◌-◌, ◌*◌, ◌%◌, ◌≤◌, ◌<◌}
use Rattle.std.proofs.Common.{mod-lt, suc-mul, add_comm, eq-zero-or-pos, ◌∙◌, subst}
use Rattle.std.proofs.Math.Nat.{mod-eq_of_lt, mod-add-mod, add-mod-mod, add-mod_right, zero-add, zero-mul, zero-mod}
use native.Mathlib.Omega.{arith}
use Rattle.std.proofs.Math.Path.{◌≡◌, refl, sym, ap, fun_ext}
use Rattle.std.specs.Prelude.{◌≢◌, List}
use Rattle.std.proofs.Math.Logic.{⊎_elim}
use Rattle.std.proofs.Math.ListN.{length, get_or}
use Rattle.std.proofs.Math.Seq.{ext_get_or}
use Rattle.math_ring.specs.Order.{le_or_lt}
use Rattle.math_ring.specs.Residues.{FqRing}
use Rattle.math_ring.specs.Series.{S}
use Rattle.math_algebra.specs.Derivative.{derivative_at}
use Rattle.math_algebra.specs.Polynomial.{F}
use Rattle.spec_arithmetic.specs.Field.{FieldName, ops, reading, inverse}
use Rattle.spec_arithmetic.specs.Polynomials.{trim, size, deg, sub, lead, monic, times, derivative}
use Rattle.spec_bridge.specs.Model.{Model, Inverts, Oks, series}
use Rattle.spec_bridge.specs.Trim.{Trim, below_size, below_length, size_le, size_is, size_series, lead_is, lead_some}
use Rattle.spec_bridge.specs.Arithmetic.{at_add, at_sub, at_scale, oks_add, oks_sub, oks_scale, oks_mul, trim_add, trim_sub, trim_scale, trim_mul}
use Rattle.spec_bridge.specs.Product.{dots, dots_mul}
use Rattle.spec_bridge.specs.Division.{oks_quo, oks_rem, trim_quo, trim_rem}
use Rattle.spec_bridge.specs.Derivative.{φ_times, ok_times, series_derivative, oks_derivative, trim_derivative}
use Rattle.spec_bridge.specs.Monic.{oks_monic, length_monic, size_monic, monic_top}
use Rattle.spec_bridge.specs.Bezout.{oks_gcd, trim_gcd}
use Rattle.spec_bridge.specs.Root.{oks_root, trim_root}
use Rattle.spec_bridge.specs.Residues.{pos, model, inverse_lt, inverse_mul, to_path, to_val}
use Rattle.spec_fields.specs.Named.{IsField, arithmetic}
use Rattle.spec_sentences.specs.Sentences.{Same}
use Rattle.spec_sentences.proofs.Readings.{named_field}
use Rattle.spec_sentences.proofs.Arithmetic.{lead_is_one}
use Rattle.spec_sentences.specs.Operations.{total, SizeOf, Trimmed, MadeMonic, ByCoefficients, TrimmedSame}

-- ---- the proof
module _ (f : FieldName) (p : 0 < f.q) where
  abbrev M : Model (ops f) (FqRing f.q p)
  M = model f.q p

  zero_val : (a : ℕ) → M.φ a ≡ M.φ 0 → a % f.q ≡ 0
  zero_val a e = to_val f.q p a 0 e ∙ mod-eq_of_lt p

  val_zero : (a : ℕ) → a % f.q ≡ 0 → M.φ a ≡ M.φ 0
  val_zero a e = to_path f.q p a 0 (e ∙ sym (mod-eq_of_lt p))

  -- ---- one list for a polynomial
  trimmed_of : (l : List ℕ) → Trim M l → Oks M l → Trimmed f l
  trimmed_of l t k = record { length_is = sym (size_is M l ∙ ap length t); below = k }

  only_list : (a h : List ℕ) → Trimmed f a → Trimmed f h → Same f a h → a ≡ h
  unfolding reading
  only_list a h c e s =
      ext_get_or 0 a h (c.length_is ∙ size_is M a ∙ size_series M a h (fun_ext (λ i. to_path f.q p _ _ (s i))) ∙ sym (e.length_is ∙ size_is M h))
      (λ i l. sym (mod-eq_of_lt (c.below i)) ∙ s i ∙ mod-eq_of_lt (e.below i))

  -- ---- one coefficient
  difference_at : (l h : List ℕ) (i : ℕ) → (get_or (sub (ops f) l h) i 0 + get_or h i 0) % f.q ≡ get_or l i 0 % f.q
  difference_at l h i =
      let a : ℕ = get_or l i 0 in
      let b : ℕ = get_or h i 0 in
      let low : b % f.q < f.q = mod-lt b p in
      let whole : a + (f.q - b % f.q) + b % f.q ≡ a + f.q = omega arith in
      ap (λ (x : ℕ). (x + b) % f.q) (at_sub M l h i) ∙ mod-add-mod (a + (f.q - b % f.q)) f.q b ∙ sym (add-mod-mod (a + (f.q - b % f.q)) b f.q) ∙ ap (λ (x : ℕ). x % f.q) whole ∙ add-mod_right a f.q

  dots_total : (l h : List ℕ) (i k : ℕ) → dots l h i (suc k) ≡ total (λ j. get_or l j 0 * get_or h (i - j) 0) k
  unfolding dots total
  dots_total l h i zero = zero-add (get_or l 0 0 * get_or h (i - 0) 0)
  dots_total l h i (suc k) = ap (λ (x : ℕ). x + get_or l (suc k) 0 * get_or h (i - suc k) 0) (dots_total l h i k)

  times_mod : (k a : ℕ) → times (ops f) k a ≡ (k * a) % f.q
  unfolding times
  times_mod zero a = sym (ap (λ (x : ℕ). x % f.q) (zero-mul a) ∙ zero-mod f.q)
  times_mod (suc k) a = ap (λ (x : ℕ). (a + x) % f.q) (times_mod k a) ∙ add-mod-mod a (k * a) f.q ∙ ap (λ (x : ℕ). x % f.q) (add_comm a (k * a) ∙ sym (suc-mul k a))

  derived_at : (l : List ℕ) (i : ℕ) → get_or (derivative (ops f) l) i 0 ≡ (suc i * get_or l (suc i) 0) % f.q
  derived_at l i = M.inj _ _ (oks_derivative M l i) (ok_times M (suc i) (get_or l (suc i) 0)) (ap (λ (u : S (FqRing f.q p)). u i) (series_derivative M l) ∙ derivative_at (FqRing f.q p) (series M l) i ∙ sym (φ_times M (suc i) (get_or l (suc i) 0))) ∙ times_mod (suc i) (get_or l (suc i) 0)

  -- ---- size, degree and leading coefficient
  size_of : (l : List ℕ) → SizeOf f l (size (ops f) l)
  unfolding reading
  size_of l = record {
    past = λ i h. zero_val _ (below_size M l i (let e = size_is M l in omega arith));
    top = λ k e z. let n : length (trim (ops f) l) ≡ suc k = sym (size_is M l) ∙ e in lead_some M l (omega arith) (ap M.φ (lead_is M l) ∙ val_zero _ (subst (λ (j : ℕ). get_or l j 0 % f.q ≡ 0) (let w : k ≡ length (trim (ops f) l) - 1 = omega arith in w) z));
  }

  only_size : (a : List ℕ) (n : ℕ) → SizeOf f a n → n ≡ size (ops f) a
  unfolding reading
  only_size a n s = go n refl
    where
      short : length (trim (ops f) a) ≤ n
      short = size_le M a n (λ i h. val_zero _ (s.past i h))

      go : (m : ℕ) → n ≡ m → n ≡ size (ops f) a
      go zero e = let k = size_is M a in omega (arith, short)
      go (suc m) e = ⊎_elim (λ l. let k = size_is M a in omega (arith, short)) (λ l. absurd (s.top m e ((size_of a).past m (omega arith)))) (le_or_lt (suc m) (size (ops f) a))

  degree_from_size : (l : List ℕ) (k : ℕ) → size (ops f) l ≡ suc k → deg (ops f) l ≡ k
  unfolding deg
  degree_from_size l k e = omega arith

  leading_of : (l : List ℕ) → lead (ops f) l ≡ get_or l (size (ops f) l - 1) 0
  unfolding lead
  leading_of l = refl

  monic_form : (l : List ℕ) → Trimmed f (monic (ops f) l)
  unfolding monic
  monic_form l = trimmed_of _ (trim_scale M _ l) (oks_scale M _ l)

-- ---- with inverses
module _ (f : FieldName) (named : IsField f) where
  abbrev Mₚ : Model (ops f) (F (arithmetic f named).K)
  Mₚ = (arithmetic f named).M

  abbrev I : Inverts Mₚ
  I = (arithmetic f named).I

  made : (a : List ℕ) → size (ops f) a ≢ 0 → MadeMonic f a (monic (ops f) a)
  unfolding monic
  made a some = record {
    k = inverse f.q (lead (ops f) a);
    positive = ⊎_elim (λ z. absurd (let e : ◌≡◌ {A = ℕ} 0 1 = sym (zero-mod f.q) ∙ ap (λ (x : ℕ). x % f.q) (sym (ap (λ (x : ℕ). x * lead (ops f) a) z ∙ zero-mul (lead (ops f) a))) ∙ inverse_mul f.q (pos f.q named.prime) named.prime (lead (ops f) a) lead_positive in omega arith)) (λ l. l) (eq-zero-or-pos (inverse f.q (lead (ops f) a)));
    below = inverse_lt f.q (pos f.q named.prime) (lead (ops f) a);
    is = λ i. refl;
    leads = lead_is_one f named (monic (ops f) a) {n = length (trim (ops f) a) - 1} (oks_monic Mₚ I a) (record { low = λ i l. below_length Mₚ (monic (ops f) a) i (let e = length_monic Mₚ I a in omega (arith, long)); top = monic_top Mₚ I a long });
    same_size = size_monic Mₚ I a;
  }
    where
      long : 0 < length (trim (ops f) a)
      long = let e = size_is Mₚ a in ⊎_elim (λ z. absurd (some (e ∙ z))) (λ l. l) (eq-zero-or-pos (length (trim (ops f) a)))

      lead_positive : 0 < lead (ops f) a % f.q
      lead_positive = ⊎_elim (λ z. absurd (lead_some Mₚ a long (val_zero f (pos f.q named.prime) _ z))) (λ l. l) (eq-zero-or-pos (lead (ops f) a % f.q))

pub by_coefficients : ByCoefficients
unfolding reading
by_coefficients f p = record {
  sum = λ l h i. at_add M' l h i;
  difference = difference_at f p;
  multiple = λ c l i. at_scale M' c l i;
  product = λ l h i. sym (dots_mul f.q p l h i) ∙ ap (λ (x : ℕ). x % f.q) (dots_total f p l h i i);
  derived = derived_at f p;
  sized = size_of f p;
  size_only = only_size f p;
  degree = degree_from_size f p;
  leading = leading_of f p;
  made_monic = λ r l some. made f (named_field f r) l some;
  sum_trimmed = λ l h. trimmed_of f p _ (trim_add M' l h) (oks_add M' l h);
  difference_trimmed = λ l h. trimmed_of f p _ (trim_sub M' l h) (oks_sub M' l h);
  multiple_trimmed = λ c l. trimmed_of f p _ (trim_scale M' c l) (oks_scale M' c l);
  product_trimmed = λ l h. trimmed_of f p _ (trim_mul M' l h) (oks_mul M' l h);
  derived_trimmed = λ l. trimmed_of f p _ (trim_derivative M' l) (oks_derivative M' l);
  quo_trimmed = λ a b. trimmed_of f p _ (trim_quo M' a b) (oks_quo M' a b);
  rem_trimmed = λ a b. trimmed_of f p _ (trim_rem M' a b) (oks_rem M' a b);
  monic_trimmed = monic_form f p;
  gcd_trimmed = λ r a b. let A = arithmetic f (named_field f r) in trimmed_of f p _ (trim_gcd A.M A.I a b) (oks_gcd A.M A.I a b);
  root_trimmed = λ r D N. let A = arithmetic f (named_field f r) in trimmed_of f p _ (trim_root A.K A.M A.I D N) (oks_root A.K A.M A.I D N);
}
  where
    M' : Model (ops f) (FqRing f.q p)
    M' = model f.q p

pub trimmed_same : TrimmedSame
trimmed_same = only_list
