-- The proofs of specs/Monics.
use Rattle.std.specs.Prelude.{ℕ, zero, suc, ◌+◌, ◌*◌, ◌^◌, ◌<◌, ◌≡◌, refl, length, get_or}
use Rattle.std.proofs.Common.{suc-mul, zero-mul, arith, sym, ap, ap₂, subst, ◌∙◌, ⊎_elim, length-append}
use Rattle.std.proofs.Math.Nat.{pow-zero, pow-succ'}
use Rattle.std.proofs.Math.Logic.{∥∥₁_elim}
use mathlib.Core.HLevel.{⊥_prop}
use mathlib.Core.List.Memᴰ
use mathlib.Core.List.{List, [], ◌∷◌, map, Nodup-nil, Nodup-append}
use Rattle.std.proofs.lemmas.List.{length-map}
use Rattle.math_ring.specs.Order.{le_or_lt}
use Rattle.math_counting.specs.Pigeonhole.{In, Distinct}
use Rattle.math_counting.proofs.Pigeonhole.{distinct_cons, distinct_map}
use Rattle.spec_monics.specs.Monics.{MonicList, fronts, monics, MonicMany}

-- ---- the proof: their number
length_fronts : (c : ℕ) (ls : List (List ℕ)) → length (fronts c ls) ≡ c * length ls
unfolding fronts
length_fronts zero ls = sym (zero-mul (length ls))
length_fronts (suc c) ls = length-append (fronts c ls) (map (λ l. c ∷ l) ls) ∙ ap₂ ◌+◌ (length_fronts c ls) (length-map ls (λ l. c ∷ l)) ∙ sym (suc-mul c (length ls))

pub length_monics : (q n : ℕ) → length (monics q n) ≡ q ^ n
unfolding monics
length_monics q zero = sym (pow-zero q)
length_monics q (suc n) = length_fronts q (monics q n) ∙ ap (λ k. q * k) (length_monics q n) ∙ sym (pow-succ' q n)

-- ---- the members
in_fronts : (q c : ℕ) (l : List ℕ) (ls : List (List ℕ)) → c < q → In l ls → In (c ∷ l) (fronts q ls)
unfolding fronts
in_fronts zero c l ls h m = absurd (omega arith)
in_fronts (suc q) c l ls h m = ⊎_elim
    (λ k. Memᴰ.append_right (fronts q ls) (Memᴰ.cast (ap (λ (d : ℕ). d ∷ l) (let e : c ≡ q = omega arith in e)) (Memᴰ.map (λ l. q ∷ l) m)))
    (λ k. Memᴰ.append_left (map (λ l. q ∷ l) ls) (in_fronts q c l ls k m))
    (le_or_lt q c)

fronts_in : (q : ℕ) (t : List ℕ) (ls : List (List ℕ)) → In t (fronts q ls) → (c : ℕ) × (l : List ℕ) × (c < q) × In l ls × (c ∷ l ≡ t)
unfolding fronts
fronts_in zero t ls m = absurd (Memᴰ.not-nil m)
fronts_in (suc q) t ls m = ⊎_elim
    (λ k. let r = fronts_in q t ls k in (r.0, r.1, (let h = r.2 in omega arith), r.3, r.4))
    (λ k. let r = Memᴰ.of_map (λ l. q ∷ l) ls k in (q, r.0, omega arith, r.1, r.2))
    (Memᴰ.append_cases (fronts q ls) m)

pub in_monics : (q n : ℕ) (l : List ℕ) → MonicList q n l → In l (monics q n)
unfolding monics
in_monics q n [] t = absurd (omega (arith, t.size))
in_monics q zero (c ∷ []) t = Memᴰ.head (ap (λ (d : ℕ). d ∷ []) t.top)
in_monics q zero (c ∷ d ∷ l) t = absurd (omega (arith, t.size))
in_monics q (suc n) (c ∷ l) t = in_fronts q c l (monics q n) (t.below 0 (omega arith)) (in_monics q n l (record { size = omega (arith, t.size); below = λ i h. t.below (suc i) (omega arith); top = t.top }))

monic_cons : (q n c : ℕ) (l : List ℕ) → c < q → MonicList q n l → MonicList q (suc n) (c ∷ l)
monic_cons q n c l h t = record { size = ap suc t.size; below = at; top = t.top }
  where
    at : (i : ℕ) → i < suc n → get_or (c ∷ l) i 0 < q
    at zero k = h
    at (suc i) k = t.below i (omega arith)

pub monics_in : (q n : ℕ) (l : List ℕ) → In l (monics q n) → MonicList q n l
unfolding monics
monics_in q zero l m = subst (MonicList q zero) (sym (Memᴰ.eq_of_singleton m)) (record { size = refl; below = λ i h. absurd (omega arith); top = refl })
monics_in q (suc n) l m = let r = fronts_in q l (monics q n) m in subst (MonicList q (suc n)) r.4 (monic_cons q n r.0 r.1 r.2 (monics_in q n r.1 r.3))

-- ---- none twice
distinct_fronts : (c : ℕ) (ls : List (List ℕ)) → Distinct ls → Distinct (fronts c ls)
unfolding fronts
distinct_fronts zero ls d = Nodup-nil
distinct_fronts (suc c) ls d = Nodup-append.1 (distinct_fronts c ls d, distinct_map (λ l. c ∷ l) (λ l m e. cc) d, λ t i j. ∥∥₁_elim i ⊥_prop (λ x. ∥∥₁_elim j ⊥_prop (apart t x)))
  where
    -- the first number is below c, and c
    apart : (t : List ℕ) → In t (fronts c ls) → In t (map (λ l. c ∷ l) ls) → ⊥
    apart t i j =
        let r = fronts_in c t ls i in
        let s = Memᴰ.of_map (λ l. c ∷ l) ls j in
        let e : r.0 ∷ r.1 ≡ c ∷ s.0 = r.4 ∙ sym s.2 in
        let f : r.0 ≡ c = cc in
        let h = r.2 in
        omega arith

pub distinct_monics : (q n : ℕ) → Distinct (monics q n)
unfolding monics
distinct_monics q zero = distinct_cons Memᴰ.not-nil Nodup-nil
distinct_monics q (suc n) = distinct_fronts q (monics q n) (distinct_monics q n)

unfoldable pub monic_many : MonicMany
monic_many q n = record { all = monics q n; distinct = distinct_monics q n; members = λ l. (monics_in q n l, in_monics q n l); number = length_monics q n }
