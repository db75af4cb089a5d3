-- Numbers after spaces: one more at the end, and how many bytes a line has at most.
use Rattle.std.specs.Prelude.{ℕ, ◌+◌, ◌*◌, ◌-◌, ◌<◌, ◌≤◌, ◌≡◌, refl, List, [], ◌∷◌, ◌++◌, map, length, get_or, take, drop, slice_index_or}
use Rattle.std.specs.List.{flat_map}
use Rattle.std.proofs.Common.{arith, sym, ap, ◌∙◌, append_assoc, length-append, length-drop, take_all}
use Rattle.std.proofs.Math.ListN.{get_or-map}
use Rattle.std.proofs.lemmas.Grind.{common_steps}
use Rattle.std.proofs.lemmas.List.Folds.{length-flat_map-take}
use Rattle.spec_arithmetic.specs.Words.{value, joined}
use Rattle.spec_definitions.specs.Text.{decimal, spaced, line}
use Rattle.spec_definitions.specs.Program.{record_line}
use Rattle.spec_digits.specs.Decimal.{power}
use Rattle.spec_digits.proofs.Decimal.{digits}
use Rattle.out_lines.specs.Lines.{joined_at, head_bytes}

-- ---- numbers after spaces, one by one
abbrev after_space : ℕ → List ℕ
after_space x = 32 ∷ decimal x

spaced_is : (l : List ℕ) → spaced l ≡ flat_map after_space l
unfolding spaced
spaced_is [] = refl
spaced_is (x ∷ l) = ap (λ (t : List ℕ). after_space x ++ t) (spaced_is l)

pub numbers_within : (l : List ℕ) (i : ℕ) → i < length l → length (spaced (take i l)) + length (decimal (slice_index_or l i 0)) < length (spaced l)
numbers_within l i h = rw (spaced_is l, spaced_is (take i l)) (omega (arith, length-flat_map-take after_space l i 0 h))

pub numbers_more : (l : List ℕ) (i : ℕ) → i < length l → spaced (take (i + 1) l) ≡ spaced (take i l) ++ (32 ∷ decimal (slice_index_or l i 0))
numbers_more l i h = rw (spaced_is (take (i + 1) l), spaced_is (take i l)) (grind (arith, common_steps))

-- ---- the line of a record
abbrev pub coefficients : List ℕ → List ℕ
coefficients r = map value (drop 5 r)

pub coefficient_at : (r : List ℕ) (i : ℕ) → slice_index_or (coefficients r) i 0 ≡ value (slice_index_or (take (length r - 5) (drop 5 r)) i 0)
unfolding value
coefficient_at r i = get_or-map value (drop 5 r) i 0 ∙ sym (ap (λ (l : List ℕ). value (get_or l i 0)) (take_all (length r - 5) (drop 5 r) (omega (arith, length-drop 5 r))))

pub record_line_is : (r : List ℕ) → record_line r ≡ head_bytes r ++ (spaced (coefficients r) ++ (10 ∷ []))
unfolding head_bytes joined_at record_line line spaced
record_line_is r = simp append_assoc

-- ---- how long a line is: a value has at most 9 digits, a number of two words 17, one of 64 bits 20
pub digits_value : (w : ℕ) → length (decimal (value w)) ≤ 9
unfolding power value
digits_value w = digits 8 (value w) (omega arith)

digits_joined_at : (l : List ℕ) (at : ℕ) → length (decimal (joined_at l at)) ≤ 17
unfolding power value joined joined_at
digits_joined_at l at = digits 16 (joined_at l at) (omega arith)

length_head : (r : List ℕ) → length (head_bytes r) ≤ 45
unfolding head_bytes
length_head r = omega (arith, digits_value (get_or r 0 0), digits_joined_at r 1, digits_joined_at r 3, length-append (decimal (value (get_or r 0 0)) ++ (32 ∷ decimal (joined_at r 1))) (32 ∷ decimal (joined_at r 3)), length-append (decimal (value (get_or r 0 0))) (32 ∷ decimal (joined_at r 1)))

length_values : (l : List ℕ) → length (spaced (map value l)) ≤ 10 * length l
unfolding spaced
length_values [] = omega arith
length_values (x ∷ l) = omega (arith, digits_value x, length_values l, length-append (decimal (value x)) (spaced (map value l)))

pub length_record_line : (r : List ℕ) → 5 ≤ length r → length (record_line r) ≤ 10 * length r
length_record_line r h = rw (record_line_is r) (omega (arith, length_head r, length_values (drop 5 r), length-drop 5 r, length-append (head_bytes r) (spaced (coefficients r) ++ (10 ∷ [])), length-append (spaced (coefficients r)) (10 ∷ [])))

digits_64 : (x : ℕ) → x < 18446744073709551616 → length (decimal x) ≤ 20
unfolding power
digits_64 x h = digits 19 x (omega arith)

abbrev pub Fit : List ℕ → Type 0
Fit [] = Unit {0}
Fit (x ∷ l) = (x < 18446744073709551616) × Fit l

length_numbers : (l : List ℕ) → Fit l → length (spaced l) ≤ 21 * length l
unfolding spaced
length_numbers [] a = omega arith
length_numbers (x ∷ l) a = omega (arith, digits_64 x a.0, length_numbers l a.1, length-append (decimal x) (spaced l))

pub length_line : (w l : List ℕ) → Fit l → length (line w l) ≤ length w + 21 * length l + 1
unfolding line
length_line w l a = omega (arith, length_numbers l a, length-append w (spaced l ++ (10 ∷ [])), length-append (spaced l) (10 ∷ []))
