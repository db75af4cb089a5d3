-- The proofs of specs/Decimal.
use Rattle.std.specs.Prelude.{ℕ, zero, suc, ◌+◌, ◌/◌, ◌%◌, ◌<◌, ◌≤◌, ◌≡◌, refl, Bool, true, false, List, [], ◌∷◌, ◌++◌, ltb, length}
use Rattle.std.proofs.Common.{arith, sym, ap, ◌∙◌, append_assoc, length-append, lt-ltb, le-ltb, ltb-true, ltb-false}
use Rattle.spec_definitions.specs.Text.{decimal_in, decimal}
use Rattle.spec_digits.specs.Decimal.{power}

in_one : (k n : ℕ) (l : List ℕ) → n < 10 → decimal_in (suc k) n l ≡ (48 + n) ∷ l
unfolding decimal_in
in_one k n l h = rw (decimal_in, lt-ltb n 10 h)

in_more : (k n : ℕ) (l : List ℕ) → 10 ≤ n → decimal_in (suc k) n l ≡ decimal_in k (n / 10) ((48 + n % 10) ∷ l)
unfolding decimal_in
in_more k n l h = rw (decimal_in, le-ltb n 10 h)

-- a number below ten or not, for a proof by cases
pub by_ten : {P : Type 0} (n : ℕ) → (n < 10 → P) → (10 ≤ n → P) → P
by_ten {P} n f g = at (ltb n 10) refl
  where
    at : (t : Bool) → ltb n 10 ≡ t → P
    at true e = f (ltb-true n 10 e)
    at false e = g (ltb-false n 10 e)

-- the turns allowed do not matter once they are more than the number
turns : (k m n : ℕ) (l : List ℕ) → n < k → n < m → decimal_in k n l ≡ decimal_in m n l
turns zero m n l p q = absurd (omega arith)
turns (suc k) zero n l p q = absurd (omega arith)
turns (suc k) (suc m) n l p q =
    by_ten n (λ h. in_one k n l h ∙ sym (in_one m n l h))
    (λ h. in_more k n l h ∙ turns k m (n / 10) ((48 + n % 10) ∷ l) (omega arith) (omega arith) ∙ sym (in_more m n l h))

-- what stands already stays behind the digits
behind : (k n : ℕ) (l : List ℕ) → n < k → decimal_in k n l ≡ decimal_in k n [] ++ l
behind zero n l p = absurd (omega arith)
behind (suc k) n l p =
    by_ten n (λ h. in_one k n l h ∙ sym (ap (λ (d : List ℕ). d ++ l) (in_one k n [] h)))
    (λ h.
    in_more k n l h ∙ behind k (n / 10) ((48 + n % 10) ∷ l) (omega arith)
    ∙ sym (ap (λ (d : List ℕ). d ++ l) (in_more k n [] h ∙ behind k (n / 10) ((48 + n % 10) ∷ []) (omega arith)) ∙ append_assoc (decimal_in k (n / 10) []) ((48 + n % 10) ∷ []) l))

pub decimal_one : (n : ℕ) → n < 10 → decimal n ≡ (48 + n) ∷ []
unfolding decimal
decimal_one n h = in_one n n [] h

pub decimal_more : (n : ℕ) → 10 ≤ n → decimal n ≡ decimal (n / 10) ++ ((48 + n % 10) ∷ [])
unfolding decimal
decimal_more n h =
    in_more n n [] h ∙ behind n (n / 10) ((48 + n % 10) ∷ []) (omega arith)
    ∙ ap (λ (d : List ℕ). d ++ ((48 + n % 10) ∷ [])) (turns n (suc (n / 10)) (n / 10) [] (omega arith) (omega arith))

pub length_more : (n : ℕ) → 10 ≤ n → length (decimal n) ≡ length (decimal (n / 10)) + 1
length_more n h = ap length (decimal_more n h) ∙ length-append (decimal (n / 10)) ((48 + n % 10) ∷ [])

-- a number below it has at most d digits
pub digits : (d n : ℕ) → n < power (suc d) → length (decimal n) ≤ suc d
unfolding power
digits zero n h = let e : length (decimal n) ≡ 1 = ap length (decimal_one n (omega arith)) in omega arith
digits (suc d) n h =
    by_ten n (λ l. let e : length (decimal n) ≡ 1 = ap length (decimal_one n l) in omega arith)
    (λ m.
    let e : length (decimal n) ≡ length (decimal (n / 10)) + 1 = length_more n m in
    let w : length (decimal (n / 10)) ≤ suc d = digits d (n / 10) (omega arith) in
    omega arith)
