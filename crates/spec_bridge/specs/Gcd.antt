-- The greatest common divisor and its factors by the rules as they are read: each step goes to the divisor
-- and the remainder, which is shorter, so that the turns are enough.
use Prim.Native.Nat.{ℕ, zero, suc, ◌≤◌, ◌<◌}
use Rattle.std.proofs.Common.{arith, ◌∙◌}
use Rattle.std.specs.Prelude.{◌≡◌}
use Rattle.std.proofs.Math.Path.{refl, sym, ap, ap₂}
use mathlib.Core.List.{List, [], ◌∷◌}
use Rattle.std.proofs.Math.ListN.{length}
use Rattle.math_ring.specs.Ring.{CRing}
use Rattle.spec_arithmetic.specs.Field.{Ops}
use Rattle.spec_arithmetic.specs.Polynomials.{Bezout, trim, sub, mul, lead, quo, rem, monic, gcd_in, gcd, bezout_in, bezout}
use Rattle.spec_bridge.specs.Model.{Model, Inverts, series}
use Rattle.spec_bridge.specs.Trim.{Trim, trim_idem, length_trim, size_series, series_trim}
use Rattle.spec_bridge.specs.Division.{trim_rem, rem_less}
use Rattle.spec_bridge.specs.Quotient.{rem_cong, quo_cong}
use Rattle.spec_bridge.specs.Monic.{inv_cong, lead_cong, monic_cong}

-- from the factors for b and the remainder to those for a and b, where w is the quotient
unfoldable pub bezout_next : {A : Type 0} → Ops A → List A → Bezout A → Bezout A
bezout_next o w r = record { gcd = r.gcd; u = r.v; v = sub o r.u (mul o w r.v) }

-- the factors for a and 0
unfoldable pub bezout_last : {A : Type 0} → Ops A → List A → Bezout A
bezout_last o a = record { gcd = monic o a; u = trim o (o.inv (lead o a) ∷ []); v = [] }

module _ {A B : Type 0} {o : Ops A} {R : CRing B} (M : Model o R) (I : Inverts M) where
  bezout_in_gcd : (k : ℕ) (a b : List A) → (bezout_in o k a b).gcd ≡ gcd_in o k a b
  unfolding bezout_in gcd_in
  bezout_in_gcd zero a b = refl
  bezout_in_gcd (suc k) a [] = refl
  bezout_in_gcd (suc k) a (b ∷ l) = bezout_in_gcd k (b ∷ l) (rem o a (b ∷ l))

  pub bezout_gcd : (a b : List A) → (bezout o a b).gcd ≡ gcd o a b
  unfolding bezout gcd
  bezout_gcd a b = bezout_in_gcd (suc (length b)) a (trim o b)

  last_cong : (a a' : List A) → series M a ≡ series M a' → bezout_last o a ≡ bezout_last o a'
  unfolding bezout_last
  last_cong a a' e = ap₂ (λ (g : List A) (i : A). record { gcd = g; u = trim o (i ∷ []); v = [] }) (monic_cong M I a a' e) (inv_cong M I _ _ (lead_cong M I a a' e))

  -- more turns than b has coefficients change nothing, and only the polynomials matter
  in_cong : (n k : ℕ) (a a' b b' : List A) → Trim M b → Trim M b' → length b < n → length b' < k → series M a ≡ series M a' → series M b ≡ series M b' → bezout_in o n a b ≡ bezout_in o k a' b'
  unfolding bezout_in bezout_last
  in_cong zero k a a' b b' t t' h h' e f = absurd (omega arith)
  in_cong (suc n) zero a a' b b' t t' h h' e f = absurd (omega arith)
  in_cong (suc n) (suc k) a a' [] [] t t' h h' e f = last_cong a a' e
  in_cong (suc n) (suc k) a a' [] (c ∷ l) t t' h h' e f = absurd (let s = size_series M [] (c ∷ l) f in let w = ap length t in let w' = ap length t' in omega arith)
  in_cong (suc n) (suc k) a a' (c ∷ l) [] t t' h h' e f = absurd (let s = size_series M (c ∷ l) [] f in let w = ap length t in let w' = ap length t' in omega arith)
  in_cong (suc n) (suc k) a a' (c ∷ l) (c' ∷ l') t t' h h' e f =
      let w : length (trim o (c ∷ l)) ≡ length (c ∷ l) = ap length t in
      let w' : length (trim o (c' ∷ l')) ≡ length (c' ∷ l') = ap length t' in
      let s : length (rem o a (c ∷ l)) < length (trim o (c ∷ l)) = rem_less M I a (c ∷ l) (omega arith) in
      let s' : length (rem o a' (c' ∷ l')) < length (trim o (c' ∷ l')) = rem_less M I a' (c' ∷ l') (omega arith) in
      ap₂ (λ (q : List A) (r : Bezout A). record { gcd = r.gcd; u = r.v; v = sub o r.u (mul o q r.v) }) (quo_cong M I a a' (c ∷ l) (c' ∷ l') e f)
      (in_cong n k (c ∷ l) (c' ∷ l') (rem o a (c ∷ l)) (rem o a' (c' ∷ l')) (trim_rem M a (c ∷ l)) (trim_rem M a' (c' ∷ l')) (omega arith) (omega arith) f (ap (series M) (rem_cong M I a a' (c ∷ l) (c' ∷ l') e f)))

  -- ---- the rules
  pub bezout_cong : (a a' b b' : List A) → series M a ≡ series M a' → series M b ≡ series M b' → bezout o a b ≡ bezout o a' b'
  unfolding bezout
  bezout_cong a a' b b' e f =
      let h = length_trim M b in
      let h' = length_trim M b' in
      in_cong (suc (length b)) (suc (length b')) a a' (trim o b) (trim o b') (trim_idem M b) (trim_idem M b') (omega arith) (omega arith) e (series_trim M b ∙ f ∙ sym (series_trim M b'))

  pub bezout_zero : (a b : List A) → trim o b ≡ [] → bezout o a b ≡ bezout_last o a
  unfolding bezout bezout_in bezout_last
  bezout_zero a b z = ap (bezout_in o (suc (length b)) a) z

  pub bezout_rule : (a b : List A) → 0 < length (trim o b) → bezout o a b ≡ bezout_next o (quo o a b) (bezout o b (rem o a b))
  unfolding bezout bezout_in bezout_next
  bezout_rule a b h = go (trim o b) refl
    where
      go : (t : List A) → trim o b ≡ t → bezout_in o (suc (length b)) a (trim o b) ≡ bezout_next o (quo o a b) (bezout o b (rem o a b))
      go [] e = absurd (let w = ap length e in omega arith)
      go (c ∷ l) e =
          let same : series M (c ∷ l) ≡ series M b = ap (series M) (sym e) ∙ series_trim M b in
          let long : length (trim o b) ≤ length b = length_trim M b in
          let size : length (trim o (c ∷ l)) ≡ length (trim o b) = size_series M (c ∷ l) b same in
          let less : length (rem o a (c ∷ l)) < length (trim o (c ∷ l)) = rem_less M I a (c ∷ l) (omega arith) in
          let rems : rem o a (c ∷ l) ≡ rem o a b = rem_cong M I a a (c ∷ l) b refl same in
          let short : length (trim o (rem o a b)) ≤ length (rem o a b) = length_trim M (rem o a b) in
          ap (bezout_in o (suc (length b)) a) e
          ∙ ap₂ (λ (q : List A) (r : Bezout A). record { gcd = r.gcd; u = r.v; v = sub o r.u (mul o q r.v) }) (quo_cong M I a a (c ∷ l) b refl same)
          (in_cong (length b) (suc (length (rem o a b))) (c ∷ l) b (rem o a (c ∷ l)) (trim o (rem o a b)) (trim_rem M a (c ∷ l)) (trim_idem M (rem o a b)) (omega arith) (omega arith) same (ap (series M) rems ∙ sym (series_trim M (rem o a b))))

  pub gcd_cong : (a a' b b' : List A) → series M a ≡ series M a' → series M b ≡ series M b' → gcd o a b ≡ gcd o a' b'
  gcd_cong a a' b b' e f = sym (bezout_gcd a b) ∙ ap (λ (r : Bezout A). r.gcd) (bezout_cong a a' b b' e f) ∙ bezout_gcd a' b'

  pub gcd_zero : (a b : List A) → trim o b ≡ [] → gcd o a b ≡ monic o a
  unfolding bezout_last
  gcd_zero a b z = sym (bezout_gcd a b) ∙ ap (λ (r : Bezout A). r.gcd) (bezout_zero a b z)

  pub gcd_rule : (a b : List A) → 0 < length (trim o b) → gcd o a b ≡ gcd o b (rem o a b)
  unfolding bezout_next
  gcd_rule a b h = sym (bezout_gcd a b) ∙ ap (λ (r : Bezout A). r.gcd) (bezout_rule a b h) ∙ bezout_gcd b (rem o a b)
