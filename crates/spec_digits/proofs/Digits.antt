-- The proofs of specs/Digits.
use Rattle.std.specs.Prelude.{ℕ, zero, suc, ◌+◌, ◌*◌, ◌-◌, ◌/◌, ◌%◌, ◌<◌, ◌≡◌, refl, List, [], ◌∷◌, ◌++◌}
use Rattle.std.proofs.Common.{arith, sym, ap, ◌∙◌, subst, append_assoc}
use Rattle.spec_definitions.specs.Text.{decimal, spaced}
use Rattle.spec_digits.proofs.Decimal.{by_ten, decimal_one, decimal_more}
use Rattle.spec_digits.specs.Digits.{read_after, read_digits, AllDigits, DecimalDigits, DecimalRead, SpacedFixes}

-- ---- the proof: digits read back
digits_append : (a b : List ℕ) → AllDigits a → AllDigits b → AllDigits (a ++ b)
digits_append [] b p q = q
digits_append (x ∷ a) b p q = (p.0, p.1, digits_append a b p.2 q)

read_append : (n : ℕ) (a b : List ℕ) → read_after n (a ++ b) ≡ read_after (read_after n a) b
unfolding read_after
read_append n [] b = refl
read_append n (x ∷ a) b = read_append (10 * n + (x - 48)) a b

-- for every number below k
below_digits : (k n : ℕ) → n < k → AllDigits (decimal n)
below_digits zero n h = absurd (omega arith)
below_digits (suc k) n h =
    by_ten n (λ l. subst AllDigits (sym (decimal_one n l)) (omega arith, omega arith, tt))
    (λ m. subst AllDigits (sym (decimal_more n m)) (digits_append (decimal (n / 10)) ((48 + n % 10) ∷ []) (below_digits k (n / 10) (omega arith)) (omega arith, omega arith, tt)))

below_read : (k n : ℕ) → n < k → read_digits (decimal n) ≡ n
unfolding read_digits read_after
below_read zero n h = absurd (omega arith)
below_read (suc k) n h =
    by_ten n (λ l. ap (read_after 0) (decimal_one n l) ∙ omega arith)
    (λ m.
    let e : read_after 0 (decimal (n / 10)) ≡ n / 10 = below_read k (n / 10) (omega arith) in
    ap (read_after 0) (decimal_more n m) ∙ read_append 0 (decimal (n / 10)) ((48 + n % 10) ∷ []) ∙ omega arith)

pub decimal_digits : DecimalDigits
decimal_digits n = below_digits (suc n) n (omega arith)

pub decimal_read : DecimalRead
decimal_read n = below_read (suc n) n (omega arith)

-- ---- where digits end
-- the list is empty, or begins with a character below "0"
abbrev Ends : List ℕ → Type 0
Ends [] = Unit
Ends (x ∷ l) = x < 48

digits_split : (a b u v : List ℕ) → AllDigits a → AllDigits b → Ends u → Ends v → a ++ u ≡ b ++ v → (a ≡ b) × (u ≡ v)
digits_split [] [] u v p q h k e = (refl, e)
digits_split [] (y ∷ b) [] v p q h k e = absurd (let z : ◌≡◌ {A = ℕ} 0 1 = cc in omega arith)
digits_split [] (y ∷ b) (x ∷ u) v p q h k e = absurd (let z : x ≡ y = cc in let l = q.0 in omega arith)
digits_split (x ∷ a) [] u [] p q h k e = absurd (let z : ◌≡◌ {A = ℕ} 0 1 = cc in omega arith)
digits_split (x ∷ a) [] u (y ∷ v) p q h k e = absurd (let z : x ≡ y = cc in let l = p.0 in omega arith)
digits_split (x ∷ a) (y ∷ b) u v p q h k e =
    let z : x ≡ y = cc in
    let f : a ++ u ≡ b ++ v = cc in
    let s = digits_split a b u v p.2 q.2 h k f in
    let t : a ≡ b = s.0 in
    (cc, s.1)

-- the digits of a number are fixed by the text that they begin, and so is the number
decimal_split : (n m : ℕ) (u v : List ℕ) → Ends u → Ends v → decimal n ++ u ≡ decimal m ++ v → (n ≡ m) × (u ≡ v)
decimal_split n m u v h k e =
    let s = digits_split (decimal n) (decimal m) u v (decimal_digits n) (decimal_digits m) h k e in
    (sym (decimal_read n) ∙ ap read_digits s.0 ∙ decimal_read m, s.1)

spaced_ends : (a r : List ℕ) → Ends (spaced a ++ (10 ∷ r))
unfolding spaced
spaced_ends [] r = omega arith
spaced_ends (n ∷ a) r = omega arith

pub spaced_fixes : SpacedFixes
unfolding spaced
spaced_fixes [] [] r t e = (refl, cc)
spaced_fixes [] (m ∷ b) r t e = absurd (let z : ◌≡◌ {A = ℕ} 10 32 = cc in omega arith)
spaced_fixes (n ∷ a) [] r t e = absurd (let z : ◌≡◌ {A = ℕ} 32 10 = cc in omega arith)
spaced_fixes (n ∷ a) (m ∷ b) r t e =
    let f : (decimal n ++ spaced a) ++ (10 ∷ r) ≡ (decimal m ++ spaced b) ++ (10 ∷ t) = cc in
    let g = sym (append_assoc (decimal n) (spaced a) (10 ∷ r)) ∙ f ∙ append_assoc (decimal m) (spaced b) (10 ∷ t) in
    let s = decimal_split n m (spaced a ++ (10 ∷ r)) (spaced b ++ (10 ∷ t)) (spaced_ends a r) (spaced_ends b t) g in
    let k = spaced_fixes a b r t s.1 in
    let i : n ≡ m = s.0 in
    let j : a ≡ b = k.0 in
    (cc, k.1)
