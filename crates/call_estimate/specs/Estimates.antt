-- The answer of the call `estimate`, case by case; the powers of the fraction fit into 64 bits.
use Rattle.std.specs.Prelude.{ℕ, zero, suc, ◌+◌, ◌-◌, ◌*◌, ◌/◌, ◌^◌, ◌≤◌, ◌<◌, ◌≡◌, List, Result, Ok, Err}
use Rattle.std.proofs.Math.Nat.{one-le-pow}
use Rattle.std.proofs.Common.{mul-one, one-mul, mul-le-mul_left, mul-le-mul_right, lt_of_le_of_lt, ap₂, ◌∙◌, subst}
use native.Mathlib.Omega.{arith}
use Rattle.std.proofs.Math.Path.{refl, sym, ap}
use Rattle.spec_arithmetic.specs.Field.{FieldName}
use Rattle.spec_definitions.specs.Ticket.{Ticket, ticket, genus, ticket_of, refusal_of}
use Rattle.spec_laws.specs.Admitted.{Admitted}
use Rattle.spec_estimate.specs.Estimate.{numerator_of, denominator_of, nearest_of, squares_of, non_squares_of, EstimateAnswer, estimate_is, estimate_done, estimate_refused, estimate_answer}
use Rattle.spec_estimate.specs.Bounds.{Fits}
use Rattle.spec_estimate.proofs.Bounds.{bounds}
use Rattle.spec_estimate.specs.Estimates.{AboveThese}
use Rattle.spec_estimate.proofs.Estimates.{refused_answer, large_answer, done_answer, counts_most}
use Rattle.base_refusals.specs.declared.Refusal.{Refusal}
use Rattle.base_refusals.specs.declared.Refusal.TheVariants.{Size}
use Rattle.base_refusals.specs.Number.{number_of}
use Rattle.estimate_counts.specs.declared.Counts.{Counts}
use Rattle.ticket_read.specs.Refusal.{number_some}
use Rattle.call_estimate.specs.declared.Estimated.{Estimated}

-- what is said of an estimate, or of a refusal: its number, and zeros
abbrev pub estimate_said : Result Estimated Refusal → EstimateAnswer
estimate_said (Ok e) = record { number = 0; numerator = e.numerator; denominator = e.denominator; nearest = e.nearest }
estimate_said (Err r) = record { number = number_of r; numerator = 0; denominator = 0; nearest = 0 }

-- q and n are estimated, and each element counts once at most
pub record Small (q n : ℕ) (c : Counts) : Type 0 where
  pub q_least : 3 ≤ q
  pub q_most : q ≤ 13
  pub n_least : 2 ≤ n
  pub n_most : n ≤ 8
  pub counted : c.squares + c.non_squares ≤ q

-- the counts of D's values
pub small : {f : FieldName} {n : ℕ} {D : List ℕ} {c : Counts} → 2 < f.q → f.q ≤ 13 → 2 ≤ n → n ≤ 8 → Admitted f (genus n) D → (c.squares ≡ squares_of f D) × (c.non_squares ≡ non_squares_of f D) → Small f.q n c
small {f} {n} {D} more few least low h c = record { q_least = more; q_most = few; n_least = least; n_most = low; counted = let e = c.0 in let d = c.1 in let m = counts_most (ticket f n D 0) h in omega arith }

-- ---- the powers of the fraction
pub fits_path : {N M N' M' : ℕ} → N' ≡ N → M' ≡ M → Fits N M → Fits N' M'
fits_path {N} {M} {N'} {M'} n d h = subst (λ (k : ℕ). Fits k M') (sym n) (subst (λ (k : ℕ). Fits N k) (sym d) h)

module _ {q n : ℕ} {c : Counts} (s : Small q n c) where
  abbrev numerator : ℕ
  numerator = numerator_of q (genus n) c.squares c.non_squares

  abbrev denominator : ℕ
  denominator = denominator_of q c.squares c.non_squares

  pub fraction_fits : Fits numerator denominator
  unfolding numerator_of denominator_of genus
  fraction_fits = let h = s.n_most in bounds q (genus n) c.squares c.non_squares s.q_least s.q_most (omega arith) s.counted

  pub numerator_is : q ^ (n / 2 + c.squares + c.non_squares) ≡ numerator
  unfolding numerator_of genus
  numerator_is = let h = s.n_least in ap (λ (k : ℕ). q ^ (k + c.squares + c.non_squares)) (let e : n / 2 ≡ genus n + 1 = omega arith in e)

  pub denominator_is : (q - 1) ^ (c.squares + 1) * (q + 1) ^ c.non_squares ≡ denominator
  unfolding denominator_of
  denominator_is = refl

  pub numerator_fits : q ^ (n / 2 + c.squares + c.non_squares) < 2 ^ 64
  numerator_fits = let e = numerator_is in let h = fraction_fits.numerator in omega arith

  pub denominator_fits : (q - 1) ^ (c.squares + 1) * (q + 1) ^ c.non_squares < 2 ^ 64
  denominator_fits = let e = denominator_is in let h = fraction_fits.denominator in omega arith

  -- each factor is at most the product
  pub first_fits : (q - 1) ^ (c.squares + 1) < 2 ^ 64
  first_fits = let h = s.q_least in lt_of_le_of_lt (subst (λ (k : ℕ). k ≤ (q - 1) ^ (c.squares + 1) * (q + 1) ^ c.non_squares) (mul-one _) (mul-le-mul_left _ (one-le-pow c.non_squares (q + 1) (omega arith)))) denominator_fits

  pub second_fits : (q + 1) ^ c.non_squares < 2 ^ 64
  second_fits = let h = s.q_least in lt_of_le_of_lt (subst (λ (k : ℕ). k ≤ (q - 1) ^ (c.squares + 1) * (q + 1) ^ c.non_squares) (one-mul _) (mul-le-mul_right _ (one-le-pow (c.squares + 1) (q - 1) (omega arith)))) denominator_fits

  pub fraction_said : {e : Estimated} → e.numerator ≡ numerator → e.denominator ≡ denominator → e.nearest ≡ nearest_of e.numerator e.denominator → estimate_said (Ok e) ≡ estimate_is numerator denominator
  unfolding estimate_is
  fraction_said n d w = λ i. record { number = 0; numerator = n i; denominator = d i; nearest = (w ∙ ap₂ nearest_of n d) i }

-- ---- the answers
module _ (w : List ℕ) where
  pub answer_refused : (r : Refusal) → number_of r ≡ refusal_of w → estimate_said (Err r) ≡ estimate_answer w
  unfolding estimate_refused
  answer_refused r e = go (number_of r) refl
    where
      go : (k : ℕ) → number_of r ≡ k → estimate_said (Err r) ≡ estimate_answer w
      go zero z = absurd (number_some r z)
      go (suc k) z = ap estimate_refused z ∙ sym (refused_answer w k (sym e ∙ z))

  pub answer_large : {t : Ticket} → 0 ≡ refusal_of w → ticket_of w ≡ t → AboveThese t → estimate_said (Err Size) ≡ estimate_answer w
  unfolding estimate_refused
  answer_large e t a = sym (large_answer w (sym e) (subst AboveThese (sym t) a))

  -- past the refusals, with the counts of D's values
  pub answer_done : {f : FieldName} {n : ℕ} {D : List ℕ} {b : ℕ} {c : Counts} → 0 ≡ refusal_of w → ticket_of w ≡ ticket f n D b → f.q ≤ 13 → n ≤ 8 → (c.squares ≡ squares_of f D) × (c.non_squares ≡ non_squares_of f D) → estimate_is (numerator_of f.q (genus n) c.squares c.non_squares) (denominator_of f.q c.squares c.non_squares) ≡ estimate_answer w
  unfolding estimate_done
  answer_done {f} {n} e t few low c =
      ap₂ (λ (a s : ℕ). estimate_is (numerator_of f.q (genus n) a s) (denominator_of f.q a s)) c.0 c.1
      ∙ sym (ap estimate_done t)
      ∙ sym (done_answer w (sym e) (subst (λ (u : Ticket). u.field.q ≤ 13) (sym t) few) (subst (λ (u : Ticket). u.n ≤ 8) (sym t) low))
