-- The fraction is E' of source 000, section 5B, for w = 1: along the elements e of the field, q / (q − χ(x − e)) is
-- q / (q − 1) at a nonzero square, q / (q + 1) at a non-square and q / q where D is 0, so that the product has the value
-- (q / (q − 1))^a · (q / (q + 1))^t.
use Prim.Native.Nat.{ℕ, zero, suc, ◌+◌, ◌-◌, ◌*◌, ◌^◌}
use Rattle.std.proofs.Common.{mod-eq_of_lt, add-one, sym, ap, ap₂, ◌∙◌, subst, true≢false}
use Rattle.std.proofs.Math.Nat.{zero-mod, pow-succ'}
use Rattle.std.specs.Prelude.{◌≡◌, Bool, ◌&&◌}
use Rattle.std.proofs.Math.Path.{refl}
use Rattle.std.proofs.Math.Bool.{true, false, not}
use borrow.Author.Tests.{eqb-true}
use Rattle.math_counting.proofs.HowMany.{how_many_unique}
use Rattle.spec_arithmetic.specs.Field.{ops}
use Rattle.spec_definitions.specs.Ticket.{Ticket, genus, ticket_of}
use Rattle.spec_fields.specs.Named.{IsField, some_elements}
use Rattle.spec_laws.specs.Admitted.{Admitted, is_field, admitted}
use Rattle.spec_estimate.specs.Estimate.{evaluate, square?, non_square?, count_below, squares_of, non_squares_of, EstimateAnswer}
use Rattle.spec_sentences.specs.Arithmetic.{Divides}
use Rattle.spec_estimate.specs.Values.{Value, linear, SquareModulo}
use Rattle.spec_estimate.proofs.Values.{value_is, value_zero, value_square}
use Rattle.spec_estimate.proofs.Squares.{tests_square, tests_non_square, square_apart, square_some, count_next}
use Rattle.spec_estimate.proofs.Bounds.{pow_add}
use Rattle.spec_estimate.specs.Ratios.{Ratio, ◌over◌, ◌times◌, power, SameValue}
use Rattle.spec_estimate.proofs.Ratios.{ratio_path, power_is, times_assoc, times_swap, same_times, times_same, same_one}
use Rattle.spec_estimate.specs.Estimates.{Estimated, QLessSymbol, symbol_one, symbol_minus_one, symbol_zero, FactorsBelow, start, next, Approximates, T2Approximates}
use Rattle.spec_estimate.proofs.Estimates.{squares_many, non_squares_many}

module _ (t : Ticket) (h : Admitted t.field (genus t.n) t.D) where
  abbrev q : ℕ
  q = t.field.q

  abbrev named : IsField t.field
  named = is_field h

  abbrev value : ℕ → ℕ
  value e = evaluate (ops t.field) t.D e

  value_holds : (e : ℕ) → Value t.field t.D e (value e)
  value_holds e = value_is t.field named t.D e

  -- ---- q − χ(x − e) by the two tests
  symbol_square : (e : ℕ) → square? t.field (value e) ≡ true → QLessSymbol t e (q - 1)
  symbol_square e b =
      let s = (tests_square t.field (value e) (some_elements t.field named)).0 b in
      symbol_one (λ d. square_some t.field named s.0 s.1 (s.2 ∙ (value_zero t.field named t.D e (value_holds e)).0 d)) ((value_square t.field named t.D e (value_holds e)).1 (s.0, s.2))

  symbol_non_square : (e : ℕ) → non_square? t.field (value e) ≡ true → QLessSymbol t e (q + 1)
  symbol_non_square e b =
      let s = (tests_non_square t.field (value e) (some_elements t.field named) (value_holds e).below).0 b in
      symbol_minus_one (λ m. let z = (value_square t.field named t.D e (value_holds e)).0 m in s z.0 z.1)

  symbol_none : (e : ℕ) → square? t.field (value e) ≡ false → non_square? t.field (value e) ≡ false → QLessSymbol t e q
  unfolding non_square?
  symbol_none e b c = symbol_zero ((value_zero t.field named t.D e (value_holds e)).1 (sym (mod-eq_of_lt (value_holds e).below) ∙ eqb-true _ _ (zero_of _ _ b c)))
    where
      -- neither test is true of 0 alone
      zero_of : (z s : Bool) → s ≡ false → (not z && not s) ≡ false → z ≡ true
      zero_of true s b c = refl
      zero_of false true b c = absurd (true≢false b)
      zero_of false false b c = absurd (true≢false c)

  -- where x − e divides D, D is 0² modulo x − e
  zero_square_modulo : (e : ℕ) → Divides t.field (linear t.field e) t.D → SquareModulo t.field t.D e
  zero_square_modulo e d = (value_square t.field named t.D e (value_holds e)).1 (0, zero-mod q ∙ sym ((value_zero t.field named t.D e (value_holds e)).0 d))

  symbol_only : {e b c : ℕ} → QLessSymbol t e b → QLessSymbol t e c → b ≡ c
  symbol_only (symbol_one d m) (symbol_one d' m') = refl
  symbol_only (symbol_one d m) (symbol_minus_one n) = absurd (n m)
  symbol_only (symbol_one d m) (symbol_zero z) = absurd (d z)
  symbol_only (symbol_minus_one n) (symbol_one d m) = absurd (n m)
  symbol_only (symbol_minus_one n) (symbol_minus_one n') = refl
  symbol_only {e} (symbol_minus_one n) (symbol_zero z) = absurd (n (zero_square_modulo e z))
  symbol_only (symbol_zero z) (symbol_one d m) = absurd (d z)
  symbol_only {e} (symbol_zero z) (symbol_minus_one n) = absurd (n (zero_square_modulo e z))
  symbol_only (symbol_zero z) (symbol_zero z') = refl

  factors_only : {k : ℕ} {x y : Ratio} → FactorsBelow t k x → FactorsBelow t k y → x ≡ y
  factors_only start start = refl
  factors_only (next p l) (next r m) = ap₂ (λ (x : Ratio) (c : ℕ). x times (q over c)) (factors_only p r) (symbol_only l m)

  -- ---- the product over the elements below k
  abbrev squares_below : ℕ → ℕ
  squares_below k = count_below (λ x. square? t.field (value x)) k

  abbrev non_squares_below : ℕ → ℕ
  non_squares_below k = count_below (λ x. non_square? t.field (value x)) k

  -- (q / (q − 1))^a · (q / (q + 1))^s
  abbrev powers : ℕ → ℕ → Ratio
  powers a s = power (q over (q - 1)) a times power (q over (q + 1)) s

  powers_square : (a s : ℕ) → powers a s times (q over (q - 1)) ≡ powers (suc a) s
  unfolding power
  powers_square a s = times_swap (power (q over (q - 1)) a) (power (q over (q + 1)) s) (q over (q - 1))

  powers_non_square : (a s : ℕ) → powers a s times (q over (q + 1)) ≡ powers a (suc s)
  unfolding power
  powers_non_square a s = times_assoc (power (q over (q - 1)) a) (power (q over (q + 1)) s) (q over (q + 1))

  abbrev Factored : ℕ → Type 0
  Factored k = (x : Ratio) × FactorsBelow t k x × SameValue x (powers (squares_below k) (non_squares_below k))

  factored_next : (k : ℕ) → Factored k → Factored (suc k)
  factored_next k (x, p, e) = go (square? t.field (value k)) refl (non_square? t.field (value k)) refl
    where
      y : Ratio
      y = powers (squares_below k) (non_squares_below k)

      counts : {a s : ℕ} (c : ℕ) → squares_below (suc k) ≡ a → non_squares_below (suc k) ≡ s → QLessSymbol t k c → SameValue (x times (q over c)) (powers a s) → Factored (suc k)
      counts c m n l v = (x times (q over c), next p l, subst (SameValue (x times (q over c))) (sym (ap₂ powers m n)) v)

      go : (b : Bool) → square? t.field (value k) ≡ b → (c : Bool) → non_square? t.field (value k) ≡ c → Factored (suc k)
      go true b true c = absurd (true≢false (sym c ∙ square_apart t.field (value k) b))
      go true b false c = counts (q - 1) (count_next _ k b) (count_next _ k c) (symbol_square k b) (subst (SameValue (x times (q over (q - 1)))) (powers_square _ _) (same_times x y (q over (q - 1)) e))
      go false b true c = counts (q + 1) (count_next _ k b) (count_next _ k c) (symbol_non_square k c) (subst (SameValue (x times (q over (q + 1)))) (powers_non_square _ _) (same_times x y (q over (q + 1)) e))
      go false b false c = counts q (count_next _ k b) (count_next _ k c) (symbol_none k b c) (same_one x y q e)

  factored : (k : ℕ) → Factored k
  unfolding count_below power
  factored zero = (1 over 1, start, refl)
  factored (suc k) = factored_next k (factored k)

  -- ---- the fraction as it is written
  written_is : (g a s : ℕ) → (q ^ (g + 1 + a + s)) over ((q - 1) ^ (a + 1) * (q + 1) ^ s) ≡ (q ^ (g + 1)) over (q - 1) times power (q over (q - 1)) a times power (q over (q + 1)) s
  written_is g a s = ratio_path top bottom ∙ sym (ap₂ (λ (x y : Ratio). (q ^ (g + 1)) over (q - 1) times x times y) (power_is q (q - 1) a) (power_is q (q + 1) s))
    where
      top : q ^ (g + 1 + a + s) ≡ q ^ (g + 1) * q ^ a * q ^ s
      top = pow_add q (g + 1 + a) s ∙ ap (λ (k : ℕ). k * q ^ s) (pow_add q (g + 1) a)

      bottom : (q - 1) ^ (a + 1) * (q + 1) ^ s ≡ (q - 1) * (q - 1) ^ a * (q + 1) ^ s
      bottom = ap (λ (k : ℕ). k * (q + 1) ^ s) (ap (λ (k : ℕ). (q - 1) ^ k) (add-one a) ∙ pow-succ' (q - 1) a)

  approximates : (r : EstimateAnswer) (x : Estimated t r) → Approximates t r x.squares x.non_squares
  unfolding squares_of non_squares_of
  approximates r x = record { factor = y.0; factors = y.1; factors_only = λ z p. factors_only p y.1; is = value_same; written = written }
    where
      y : Factored q
      y = factored q

      u : Ratio
      u = (q ^ (genus t.n + 1)) over (q - 1)

      written : r.numerator over r.denominator ≡ u times power (q over (q - 1)) x.squares times power (q over (q + 1)) x.non_squares
      written = ap₂ ◌over◌ x.numerator x.denominator ∙ written_is (genus t.n) x.squares x.non_squares

      squares : squares_below q ≡ x.squares
      squares = how_many_unique _ _ _ (squares_many t h) x.squares_are

      non_squares : non_squares_below q ≡ x.non_squares
      non_squares = how_many_unique _ _ _ (non_squares_many t h) x.non_squares_are

      same : SameValue (powers x.squares x.non_squares) y.0
      same = sym (subst (SameValue y.0) (ap₂ powers squares non_squares) y.2)

      value_same : SameValue (r.numerator over r.denominator) (u times y.0)
      value_same = subst (λ (z : Ratio). SameValue z (u times y.0)) (sym (written ∙ times_assoc u _ _)) (times_same _ _ u same)

pub t2_approximates : T2Approximates
t2_approximates w e few low x = approximates (ticket_of w) (admitted w e) _ x
