-- The proofs of specs/PolynomialPart.
use Prim.Native.Nat.{ℕ, zero, suc, ◌+◌ as ◌+ₙ◌, ◌-◌ as ◌-ₙ◌, ◌≤◌, ◌<◌}
use Rattle.std.proofs.Common.{add-zero, zero-add, add-suc, arith, ap, ap₂, ◌∙◌}
use Rattle.std.specs.Prelude.{◌≡◌, List, [], ◌∷◌, length}
use Rattle.std.proofs.Math.Path.{refl, sym, subst, fun_ext}
use Rattle.math_ring.specs.Ring.{CRing, eq_of_sub}
use Rattle.math_ring.specs.Identity.{ring, ring_from, times, quote}
use Rattle.math_ring.specs.Series.{Series, add_s}
use Rattle.math_ring.specs.Division.{up}
use Rattle.math_algebra.specs.Field.{Field}
use Rattle.math_algebra.specs.Polynomial.{F, Px, ◌≺◌ as Low, Deg, Monic, low_up, low_add, low_sub, low_mul, low_none, low_path, low_quotient, monic_mul, monic_deg, monic_path, deg_mul, deg_path}
use Rattle.math_algebra.specs.Root.{IsRoot, root_unique}
use Rattle.spec_arithmetic.specs.Field.{FieldName, ops}
use Rattle.spec_arithmetic.specs.Polynomials.{size, add, sub, mul, monomial, root}
use Rattle.spec_definitions.specs.Ticket.{genus, ticket_of}
use Rattle.spec_definitions.specs.Walk as walk
use Rattle.spec_definitions.specs.Answers.{root_of}
use Rattle.spec_bridge.specs.Model.{Model, Inverts, series}
use Rattle.spec_bridge.specs.Trim.{below_length, below_size, size_le, size_is}
use Rattle.spec_bridge.specs.Arithmetic.{X, X_conv, series_add, series_sub, series_mul}
use Rattle.spec_bridge.specs.One.{series_one}
use Rattle.spec_bridge.specs.Degree.{series_deg, monic_size, deg_size}
use Rattle.spec_fields.specs.Named.{IsField, arithmetic, same_reading, reading_same, reading_first, φ_first}
use Rattle.spec_bridge.specs.Root.{monomial_low, monomial_top, root_is}
use Rattle.spec_laws.specs.Surd.{Surd, r as remainder}
use Rattle.spec_laws.specs.Fraction.{Q_deg, divide, rem_low}
use Rattle.spec_laws.specs.Admitted.{is_field, surd_of, admitted, monic_D}
use Rattle.spec_sentences.specs.Sentences.{Same}
use Rattle.spec_sentences.proofs.Readings.{named_field}
use Rattle.spec_sentences.proofs.Arithmetic.{series_same}
use Rattle.spec_demands.specs.Continued.{RootOf}
use Rattle.spec_expansion.specs.PolynomialPart.{power, PolynomialPart, RootToPlaces, PolynomialPartUnique, Expansion, T2PolynomialPart}

-- ---- the proof
module _ (f : FieldName) (named : IsField f) where
  abbrev K : Field (arithmetic f named).Elements
  K = (arithmetic f named).K

  abbrev M : Model (ops f) (F K)
  M = (arithmetic f named).M

  abbrev I : Inverts M
  I = (arithmetic f named).I

  open Series (F K) use {add as ◌+◌, mul as ◌*◌, neg as -◌, one as 𝟙}

  infixl 6 ◌+◌ ◌-◌
  infixl 7 ◌*◌
  infix 8 -◌
  abbrev ◌-◌ : Px K → Px K → Px K
  a - b = a + (- b)

  abbrev R[x] : CRing (Px K)
  R[x] = Series (F K)

  abbrev ⟦◌⟧ : List ℕ → Px K
  ⟦ l ⟧ = series M l

  -- ---- sizes of lists, and degrees of their polynomials
  size_low : (a : List ℕ) (n : ℕ) → size (ops f) a ≤ n → Low K ⟦ a ⟧ n
  size_low a n h i l = below_size M a i (let e = size_is M a in omega arith)

  low_size : (l : List ℕ) (n : ℕ) → Low K ⟦ l ⟧ n → size (ops f) l ≤ n
  low_size l n h = let e = size_is M l in let k = size_le M l n h in omega arith

  size_deg : (l : List ℕ) (n : ℕ) → Deg K ⟦ l ⟧ n → size (ops f) l ≡ suc n
  size_deg l n t = size_is M l ∙ deg_size K M l t

  deg_of_size : (l : List ℕ) → 0 < size (ops f) l → Deg K ⟦ l ⟧ (size (ops f) l -ₙ 1)
  deg_of_size l h = subst (λ (n : ℕ). Deg K ⟦ l ⟧ (n -ₙ 1)) (sym (size_is M l)) (series_deg K M l (let e = size_is M l in omega arith))

  -- ---- the polynomial part
  rest_series : (l a b : List ℕ) → ⟦ sub (ops f) a (mul (ops f) l b) ⟧ ≡ ⟦ a ⟧ - ⟦ l ⟧ * ⟦ b ⟧
  rest_series l a b = series_sub M a (mul (ops f) l b) ∙ ap (λ (u : Px K). ⟦ a ⟧ - u) (series_mul M l b)

  low_part : (l a b : List ℕ) (n : ℕ) → Deg K ⟦ b ⟧ n → Low K (⟦ a ⟧ - ⟦ l ⟧ * ⟦ b ⟧) n → PolynomialPart f l a b
  low_part l a b n t h = let e = size_deg b n t in let k = low_size (sub (ops f) a (mul (ops f) l b)) n (low_path K n (sym (rest_series l a b)) h) in omega arith

  part_low : (l a b : List ℕ) → PolynomialPart f l a b → Low K (⟦ a ⟧ - ⟦ l ⟧ * ⟦ b ⟧) (size (ops f) b -ₙ 1)
  part_low l a b h = low_path K _ (rest_series l a b) (size_low (sub (ops f) a (mul (ops f) l b)) _ (omega arith))

  part_unique : (l h a b : List ℕ) → PolynomialPart f l a b → PolynomialPart f h a b → Same f l h
  part_unique l h a b u v = series_same f named l h (eq_of_sub R[x] ⟦ l ⟧ ⟦ h ⟧ (low_none K (⟦ l ⟧ - ⟦ h ⟧) (low_quotient K (length l +ₙ length h) (⟦ l ⟧ - ⟦ h ⟧) ⟦ b ⟧ 0 n (deg_of_size b (omega arith)) bounded (low_path K (0 +ₙ n) gap (low_up K _ (omega arith) (low_sub K _ _ n (part_low h a b v) (part_low l a b u)))))))
    where
      n : ℕ
      n = size (ops f) b -ₙ 1

      bounded : Low K (⟦ l ⟧ - ⟦ h ⟧) (length l +ₙ length h)
      bounded = low_sub K ⟦ l ⟧ ⟦ h ⟧ _ (low_up K ⟦ l ⟧ (omega arith) (below_length M l)) (low_up K ⟦ h ⟧ (omega arith) (below_length M h))

      gap : (⟦ a ⟧ - ⟦ h ⟧ * ⟦ b ⟧) - (⟦ a ⟧ - ⟦ l ⟧ * ⟦ b ⟧) ≡ (⟦ l ⟧ - ⟦ h ⟧) * ⟦ b ⟧
      gap = ring R[x] (⟦ a ⟧ ∷ ⟦ b ⟧ ∷ ⟦ l ⟧ ∷ ⟦ h ⟧ ∷ []) (search quote depth 40 fits 9999) tt

  -- ---- powers of x
  abbrev x : ℕ → Px K
  x N = ⟦ power f N ⟧

  x_monic : (N : ℕ) → Monic K (x N) N
  x_monic N = record { low = monomial_low K M I (ops f).one N; top = monomial_top K M I (ops f).one N ∙ M.φ_one }

  x_zero : x 0 ≡ 𝟙
  unfolding monomial
  x_zero = series_one K M

  x_suc : (N : ℕ) → x (suc N) ≡ X M * x N
  unfolding monomial up
  x_suc N = fun_ext at ∙ sym (X_conv M (x N))
    where
      at : (n : ℕ) → x (suc N) n ≡ up (F K) (x N) n
      at zero = M.φ_zer
      at (suc n) = refl

  x_add : (N k : ℕ) → x (N +ₙ k) ≡ x N * x k
  x_add N zero = ap x (add-zero N) ∙ sym (R[x].mul_one (x N)) ∙ ap (λ (u : Px K). x N * u) (sym x_zero)
  x_add N (suc k) = ap x (add-suc N k) ∙ x_suc (N +ₙ k) ∙ ap (λ (u : Px K). X M * u) (x_add N k) ∙ ring R[x] (X M ∷ x N ∷ x k ∷ []) (search quote depth 40 fits 9999) tt ∙ ap (λ (u : Px K). x N * u) (sym (x_suc k))

  times_power : (N : ℕ) (l : List ℕ) → ⟦ mul (ops f) (power f N) l ⟧ ≡ x N * ⟦ l ⟧
  times_power N l = series_mul M (power f N) l

  -- ---- roots as lists and over the field
  gap_series : (E T : List ℕ) → ⟦ sub (ops f) E (mul (ops f) T T) ⟧ ≡ ⟦ E ⟧ - ⟦ T ⟧ * ⟦ T ⟧
  gap_series E T = rest_series T E T

  root_series : (k : ℕ) (E T : List ℕ) → RootOf f k E T → IsRoot K ⟦ E ⟧ ⟦ T ⟧ (suc k)
  root_series k E T r = record {
    monic = record { low = size_low T (suc (suc k)) (let e = r.degree in omega arith); top = reading_same f named _ 1 (r.monic ∙ sym (reading_first f named)) ∙ φ_first f named };
    low = low_path K (suc k) (gap_series E T) (size_low (sub (ops f) E (mul (ops f) T T)) (suc k) r.near);
  }

  series_root : (k : ℕ) (E T : List ℕ) → IsRoot K ⟦ E ⟧ ⟦ T ⟧ (suc k) → RootOf f k E T
  series_root k E T r = record {
    degree = size_is M T ∙ monic_size K M T r.monic;
    monic = same_reading f named _ 1 (r.monic.top ∙ sym (φ_first f named)) ∙ reading_first f named;
    near = low_size (sub (ops f) E (mul (ops f) T T)) (suc k) (low_path K (suc k) (sym (gap_series E T)) r.low);
  }

  -- U² and (T-as-Y)² are both near to Y²-as-E, so that U is near to T-as-Y
  root_shift : (E T U Y : Px K) (n k : ℕ) → Monic K Y k → IsRoot K E T n → IsRoot K (Y * (Y * E)) U (k +ₙ n) → Low K (U - T * Y) k
  unfolding add_s
  root_shift E T U Y n k y r s = low_quotient K (suc (k +ₙ n)) (U - T * Y) (U + T * Y) k (k +ₙ n) sum_deg (low_sub K U (T * Y) _ s.monic.low T_monic.low) (low_path K (k +ₙ (k +ₙ n)) (sym square) (low_sub K ((E - T * T) * Y * Y) (Y * (Y * E) - U * U) (k +ₙ (k +ₙ n)) (low_up K _ (omega arith) far) (low_up K _ (omega arith) s.low)))
    where
      T_monic : Monic K (T * Y) (k +ₙ n)
      T_monic = subst (Monic K (T * Y)) (omega arith) (monic_mul K T Y n k r.monic y)

      sum_deg : Deg K (U + T * Y) (k +ₙ n)
      sum_deg = record { low = low_add K U (T * Y) _ s.monic.low T_monic.low; top = λ e. K.two_not_zero (ap₂ (F K).add (sym s.monic.top) (sym T_monic.top) ∙ e) }

      far : Low K ((E - T * T) * Y * Y) (n +ₙ k +ₙ k)
      far = low_mul K ((E - T * T) * Y) Y (n +ₙ k) k (low_mul K (E - T * T) Y n k r.low y.low) y.low

      square : (U - T * Y) * (U + T * Y) ≡ (E - T * T) * Y * Y - (Y * (Y * E) - U * U)
      square = ring R[x] (E ∷ T ∷ U ∷ Y ∷ []) (search quote depth 40 fits 9999) tt

  -- x^2N·D
  abbrev shifted : ℕ → List ℕ → List ℕ
  shifted N D = mul (ops f) (power f N) (mul (ops f) (power f N) D)

  shifted_series : (N : ℕ) (D : List ℕ) → ⟦ shifted N D ⟧ ≡ x N * (x N * ⟦ D ⟧)
  shifted_series N D = times_power N (mul (ops f) (power f N) D) ∙ ap (λ (l : Px K). x N * l) (times_power N D)

  shifted_further : (N k : ℕ) (D : List ℕ) → ⟦ shifted (N +ₙ k) D ⟧ ≡ x k * (x k * ⟦ shifted N D ⟧)
  shifted_further N k D = shifted_series (N +ₙ k) D ∙ ap (λ (u : Px K). u * (u * ⟦ D ⟧)) (x_add N k) ∙ ring R[x] (x k ∷ x N ∷ ⟦ D ⟧ ∷ []) (search quote depth 40 fits 9999) tt ∙ ap (λ (u : Px K). x k * (x k * u)) (sym (shifted_series N D))

  places_further : (g : ℕ) (D : List ℕ) (N k : ℕ) (T U : List ℕ) → RootToPlaces f g D N T → RootToPlaces f g D (N +ₙ k) U → PolynomialPart f T U (power f k)
  places_further g D N k T U r s = low_part T U (power f k) k (monic_deg K (x_monic k)) (root_shift ⟦ shifted N D ⟧ ⟦ T ⟧ ⟦ U ⟧ (x k) (suc (g +ₙ N)) k (x_monic k) (root_series (g +ₙ N) (shifted N D) T r) longer)
    where
      longer : IsRoot K (x k * (x k * ⟦ shifted N D ⟧)) ⟦ U ⟧ (k +ₙ suc (g +ₙ N))
      longer = subst (IsRoot K (x k * (x k * ⟦ shifted N D ⟧)) ⟦ U ⟧) (omega arith) (subst (λ (l : Px K). IsRoot K l ⟦ U ⟧ (suc (g +ₙ (N +ₙ k)))) (shifted_further N k D) (root_series (g +ₙ (N +ₙ k)) (shifted (N +ₙ k) D) U s))

  -- ---- √D with its root d
  module _ {g : ℕ} {D d : List ℕ} (z : Surd K M g D d) (lead : Monic K ⟦ D ⟧ (suc g +ₙ suc g)) where
    shifted_monic : (N : ℕ) → Monic K ⟦ shifted N D ⟧ (suc (g +ₙ N) +ₙ suc (g +ₙ N))
    shifted_monic N = subst (Monic K ⟦ shifted N D ⟧) (omega arith) (monic_path K _ (sym (shifted_series N D)) (monic_mul K (x N) (x N * ⟦ D ⟧) N (N +ₙ (suc g +ₙ suc g)) (x_monic N) (monic_mul K (x N) ⟦ D ⟧ N (suc g +ₙ suc g) (x_monic N) lead)))

    places_exist : (N : ℕ) → (T : List ℕ) × RootToPlaces f g D N T
    places_exist N = (root (ops f) (shifted N D) (suc (g +ₙ N)), series_root (g +ₙ N) (shifted N D) _ (root_is K M I (shifted N D) (suc (g +ₙ N)) (shifted_monic N)))

    root_no_place : RootToPlaces f g D 0 d
    root_no_place = subst (λ (k : ℕ). RootOf f k (shifted 0 D) d) (sym (add-zero g)) (series_root g (shifted 0 D) d (subst (λ (l : Px K). IsRoot K l ⟦ d ⟧ (suc g)) (sym (shifted_series 0 D ∙ ap (λ (u : Px K). u * (u * ⟦ D ⟧)) x_zero ∙ ring R[x] (⟦ D ⟧ ∷ []) (search quote depth 40 fits 9999) tt)) z.is_root))

    root_only : (T : List ℕ) → RootToPlaces f g D 0 T → Same f T d
    root_only T r = series_same f named T d (root_unique K (root_series (g +ₙ 0) (shifted 0 D) T r) (root_series (g +ₙ 0) (shifted 0 D) d root_no_place))

    root_part : (N : ℕ) (T : List ℕ) → RootToPlaces f g D N T → PolynomialPart f d T (power f N)
    root_part N T r = places_further g D 0 N d T root_no_place (subst (λ (n : ℕ). RootToPlaces f g D n T) (sym (zero-add N)) r)

    module _ (N : ℕ) (T : List ℕ) (r : RootToPlaces f g D N T) (i : ℕ) where
      abbrev Pᵢ : List ℕ
      Pᵢ = walk.P (ops f) D d i

      abbrev Qᵢ : List ℕ
      Qᵢ = walk.Q (ops f) D d i

      abbrev aᵢ : List ℕ
      aᵢ = walk.a (ops f) D d i

      -- the degree of Q_i
      abbrev κ : ℕ
      κ = length Qᵢ -ₙ 1

      -- T is x^N·d and something below x^N
      near : Low K (⟦ T ⟧ - ⟦ d ⟧ * x N) N
      near = low_up K _ (let e = size_deg (power f N) N (monic_deg K (x_monic N)) in omega arith) (part_low d T (power f N) (root_part N T r))

      rest_is : ⟦ add (ops f) (mul (ops f) (power f N) Pᵢ) T ⟧ - ⟦ aᵢ ⟧ * ⟦ mul (ops f) (power f N) Qᵢ ⟧ ≡ ⟦ remainder z i ⟧ * x N + (⟦ T ⟧ - ⟦ d ⟧ * x N)
      rest_is =
          ap₂ (λ (u v : Px K). u - ⟦ aᵢ ⟧ * v) (series_add M (mul (ops f) (power f N) Pᵢ) T ∙ ap (λ (u : Px K). u + ⟦ T ⟧) (times_power N Pᵢ)) (times_power N Qᵢ)
          ∙ ring_from R[x] (⟦ Pᵢ ⟧ ∷ ⟦ d ⟧ ∷ ⟦ aᵢ ⟧ ∷ ⟦ Qᵢ ⟧ ∷ ⟦ remainder z i ⟧ ∷ ⟦ T ⟧ ∷ x N ∷ []) (times R[x] (x N) (divide z i)) (search quote depth 40 fits 9999) tt

      rest_low : Low K (⟦ add (ops f) (mul (ops f) (power f N) Pᵢ) T ⟧ - ⟦ aᵢ ⟧ * ⟦ mul (ops f) (power f N) Qᵢ ⟧) (N +ₙ κ)
      rest_low = low_path K (N +ₙ κ) (sym rest_is) (low_add K (⟦ remainder z i ⟧ * x N) (⟦ T ⟧ - ⟦ d ⟧ * x N) (N +ₙ κ) (low_up K _ (omega arith) (low_mul K ⟦ remainder z i ⟧ (x N) κ N (rem_low z (add (ops f) Pᵢ d) Qᵢ κ (Q_deg z i)) (x_monic N).low)) (low_up K _ (omega arith) near))

      Q_shifted_deg : Deg K ⟦ mul (ops f) (power f N) Qᵢ ⟧ (N +ₙ κ)
      Q_shifted_deg = deg_path K (N +ₙ κ) (sym (times_power N Qᵢ)) (deg_mul K (x N) ⟦ Qᵢ ⟧ N κ (monic_deg K (x_monic N)) (Q_deg z i))

      quotient_part : PolynomialPart f aᵢ (add (ops f) (mul (ops f) (power f N) Pᵢ) T) (mul (ops f) (power f N) Qᵢ)
      quotient_part = low_part aᵢ (add (ops f) (mul (ops f) (power f N) Pᵢ) T) (mul (ops f) (power f N) Qᵢ) (N +ₙ κ) Q_shifted_deg rest_low

    expansion : Expansion f g D d
    expansion = record {
      places = places_exist;
      further = places_further g D;
      root = root_only;
      root_part = root_part;
      quotient = quotient_part;
      quotient_only = λ N T r i l u. part_unique l _ _ _ u (quotient_part N T r i);
    }

pub polynomial_part_unique : PolynomialPartUnique
polynomial_part_unique f r l h a b = part_unique f (named_field f r) l h a b

pub t2_polynomial_part : T2PolynomialPart
unfolding root_of
t2_polynomial_part w e = let h = admitted w e in expansion (ticket_of w).field (is_field h) (surd_of h) (monic_D (ticket_of w).field (is_field h) (genus (ticket_of w).n) (ticket_of w).D h.size_D h.lead_one)
