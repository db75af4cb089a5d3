-- The counts with one element more, and those of the elements below k; the value of a polynomial from the top
-- coefficient down; what a test of each z says of a square.
use Rattle.std.specs.Prelude.{ℕ, zero, suc, ◌+◌, ◌-◌, ◌*◌, ◌%◌, ◌≤◌, ◌<◌, ◌≡◌, ◌≢◌, Bool, true, false, get_or, take, drop}
use Rattle.std.proofs.Common.{mod-eq_of_lt, add-one, ap₂, ◌∙◌, subst, length-drop, drop-cons, get_or-take}
use Rattle.std.proofs.Common.{MatchBool}
use Rattle.std.specs.List.{HoldsAt, AllWithin, range_with_len}
use Rattle.std.proofs.lemmas.List.FromFn.{length-range_with_len, get_or-range_with_len}
use native.Mathlib.Omega.{arith}
use Rattle.std.proofs.Math.Path.{refl, sym, ap}
use mathlib.Core.List.{List, [], ◌∷◌}
use Rattle.std.proofs.Math.ListN.{length, length-take}
use Rattle.spec_arithmetic.specs.Field.{Ops, FieldName, ops}
use Rattle.spec_fields.specs.Named.{IsField}
use Rattle.spec_estimate.specs.Estimate.{evaluate, some_root, square?, non_square?, count_below, squares_of, non_squares_of}
use Rattle.spec_estimate.specs.Squares.{more}
use Rattle.spec_estimate.proofs.Squares.{count_next, tests_square, root_next, square_apart, non_square_true, square_zero, non_square_zero}
use Rattle.estimate_counts.specs.declared.Counts.{Counts}

-- r is the counts before with one element more, whose value is v
pub record Counted (f : FieldName) (v : ℕ) (before r : Counts) : Type 0 where
  pub squares : r.squares ≡ more (square? f v) before.squares
  pub non_squares : r.non_squares ≡ more (non_square? f v) before.non_squares

-- ---- one element more, by its value
module _ {f : FieldName} {v : ℕ} {before r : Counts} where
  counted_by : (a b : Bool) → square? f v ≡ a → non_square? f v ≡ b → r.squares ≡ more a before.squares → r.non_squares ≡ more b before.non_squares → Counted f v before r
  counted_by a b s t d e = record { squares = d ∙ ap (λ (c : Bool). more c before.squares) (sym s); non_squares = e ∙ ap (λ (c : Bool). more c before.non_squares) (sym t) }

  pub counted_zero : IsField f → v ≡ 0 → r.squares ≡ before.squares → r.non_squares ≡ before.non_squares → Counted f v before r
  counted_zero named z d e = counted_by false false (ap (square? f) z ∙ square_zero f named) (ap (non_square? f) z ∙ non_square_zero f named) d e

  pub counted_square : true ≡ square? f v → r.squares ≡ suc before.squares → r.non_squares ≡ before.non_squares → Counted f v before r
  counted_square s d e = counted_by true false (sym s) (square_apart f v (sym s)) d e

  pub counted_non_square : v < f.q → v ≢ 0 → false ≡ square? f v → r.squares ≡ before.squares → r.non_squares ≡ suc before.non_squares → Counted f v before r
  counted_non_square low some s d e = counted_by false true (sym s) (non_square_true f v low some (sym s)) d e

-- ---- the counts along the elements
-- the counts of the elements below k
pub record CountsBelow (f : FieldName) (D : List ℕ) (k : ℕ) (c : Counts) : Type 0 where
  pub squares : c.squares ≡ count_below (λ x. square? f (evaluate (ops f) D x)) k
  pub non_squares : c.non_squares ≡ count_below (λ x. non_square? f (evaluate (ops f) D x)) k

count_most : (p : ℕ → Bool) (k : ℕ) → count_below p k ≤ k
count_most p zero = unfold count_below in omega arith
count_most p (suc k) = go (p k) refl (count_most p k)
  where
    go : (b : Bool) → p k ≡ b → count_below p k ≤ k → count_below p (suc k) ≤ suc k
    go true e l = omega (arith, count_next p k e)
    go false e l = omega (arith, count_next p k e)

module _ {f : FieldName} {D : List ℕ} where
  pub counts_none : {c : Counts} → c.squares ≡ 0 → c.non_squares ≡ 0 → CountsBelow f D 0 c
  unfolding count_below
  counts_none d e = record { squares = d; non_squares = e }

  pub counts_below : {k : ℕ} {c : Counts} → CountsBelow f D k c → (c.squares ≤ k) × (c.non_squares ≤ k)
  counts_below {k} {c} h = (let e = h.squares in let l = count_most (λ x. square? f (evaluate (ops f) D x)) k in omega arith, let e = h.non_squares in let l = count_most (λ x. non_square? f (evaluate (ops f) D x)) k in omega arith)

  pub counts_next : {k v : ℕ} {c r : Counts} → CountsBelow f D k c → v ≡ evaluate (ops f) D k → Counted f v c r → CountsBelow f D (k + 1) r
  counts_next {k} {v} {c} {r} h e n = record {
    squares = n.squares ∙ ap₂ more (ap (square? f) e) h.squares ∙ sym (count_next (λ x. square? f (evaluate (ops f) D x)) k refl) ∙ ap (count_below (λ x. square? f (evaluate (ops f) D x))) (sym (add-one k));
    non_squares = n.non_squares ∙ ap₂ more (ap (non_square? f) e) h.non_squares ∙ sym (count_next (λ x. non_square? f (evaluate (ops f) D x)) k refl) ∙ ap (count_below (λ x. non_square? f (evaluate (ops f) D x))) (sym (add-one k));
  }

  pub counts_all : {k : ℕ} {c : Counts} → CountsBelow f D k c → k ≡ f.q → (c.squares ≡ squares_of f D) × (c.non_squares ≡ non_squares_of f D)
  unfolding squares_of non_squares_of
  counts_all h e = (h.squares ∙ ap (count_below (λ x. square? f (evaluate (ops f) D x))) e, h.non_squares ∙ ap (count_below (λ x. non_square? f (evaluate (ops f) D x))) e)

-- ---- the value from the coefficient i up
module _ (o : Ops ℕ) (c : List ℕ) (size : ℕ) (x : ℕ) where
  abbrev pub value_from : ℕ → ℕ
  value_from i = evaluate o (drop i (take size c)) x

  pub value_none : size ≤ length c → value_from size ≡ o.zer
  unfolding evaluate
  value_none h = ap (λ (l : List ℕ). evaluate o l x) (empty (drop size (take size c)) (simp (length-drop, length-take) (omega arith)))
    where
      empty : (l : List ℕ) → length l ≡ 0 → l ≡ []
      empty [] e = refl
      empty (a ∷ l) e = absurd (omega arith)

  pub value_next : (i : ℕ) → i < size → size ≤ length c → o.add (get_or c i 0) (o.mul x (value_from (suc i))) ≡ value_from i
  unfolding evaluate
  value_next i low h =
      let short : i < length (take size c) = simp length-take (omega arith) in
      sym (ap (λ (l : List ℕ). evaluate o l x) (drop-cons (take size c) i 0 short) ∙ ap (λ (a : ℕ). o.add a (o.mul x (value_from (suc i)))) (get_or-take _ _ _ _ low))

-- ---- each z from 1 up and below q is tried
module _ (f : FieldName) (v : ℕ) where
  no_root : (k : ℕ) → ((z : ℕ) → 0 < z → z ≤ k → (z * z) % f.q ≢ v) → some_root f k v ≡ false
  no_root zero h = unfold some_root in refl
  no_root (suc k) h = sym (root_next f v k (h (suc k) (omega arith) (omega arith))) ∙ no_root k (λ z p l. h z p (omega arith))

  abbrev pub tried : List ℕ
  tried = range_with_len 1 (f.q - 1)

  pub squares_tried : (r : Bool) → MatchBool r ((i : ℕ) × (i < length tried) × HoldsAt (λ z. (z * z) % f.q ≡ v) tried i) (AllWithin (λ z. (z * z) % f.q ≢ v) tried 0 (length tried)) → r ≡ square? f v
  squares_tried true (i, h, e) =
      let n = length-range_with_len 1 (f.q - 1) in
      let z : get_or tried i 0 ≡ 1 + i = get_or-range_with_len 1 (f.q - 1) i 0 (omega arith) in
      let m : get_or tried i 0 % f.q ≡ get_or tried i 0 = mod-eq_of_lt (omega arith) in
      sym ((tests_square f v (omega arith)).1 (get_or tried i 0, (λ d. omega arith), e 0))
  squares_tried false none =
      sym (unfold square? in no_root (f.q - 1) (λ z p l.
      let n = length-range_with_len 1 (f.q - 1) in
      let e : get_or tried (z - 1) 0 ≡ z = get_or-range_with_len 1 (f.q - 1) (z - 1) 0 (omega arith) ∙ (let w : 1 + (z - 1) ≡ z = omega arith in w) in
      subst (λ (k : ℕ). (k * k) % f.q ≢ v) e (none (z - 1) 0 (omega arith) (omega arith))))
