-- The proofs of specs/Count.
use Prim.Native.Nat.{ℕ, zero, suc, ◌+◌, ◌≤◌, ◌<◌}
use Rattle.std.proofs.Common.{eq-or-lt_of_le, arith, sym, ◌∙◌, inl, inr, eq-eqb, ne_eqb}
use Rattle.std.proofs.Math.Nat.{zero-add}
use Rattle.std.specs.Prelude.{◌≡◌, ◌⊎◌, Bool, true, false, not, eqb, length}
use Rattle.std.proofs.Math.Path.{refl, ap, ap₂, subst}
use Rattle.std.proofs.Math.Logic.{⊎_elim}
use mathlib.Core.List.Memᴰ
use mathlib.Core.List.{List, [], ◌∷◌}
use Rattle.math_counting.specs.Pigeonhole.{In, Distinct}
use Rattle.math_counting.proofs.Pigeonhole.{distinct_head, distinct_tail, distinct_cons}
use Rattle.math_counting.specs.Count.{select, count, CountOpposite, total, tally, tallies, TotalTallies}

-- ---- the proof
either : (t : Bool) → (t ≡ true) ⊎ (t ≡ false)
either true = inl refl
either false = inr refl

module _ {A : Type 0} (p : A → Bool) where
  select_yes : (a : A) (l : List A) → p a ≡ true → select p (a ∷ l) ≡ a ∷ select p l
  unfolding select
  select_yes a l e = rw (e, select)

  select_no : (a : A) (l : List A) → p a ≡ false → select p (a ∷ l) ≡ select p l
  unfolding select
  select_no a l e = rw (e, select)

  -- ---- which members are selected
  pub in_select : (a : A) (l : List A) → In a l → p a ≡ true → In a (select p l)
  in_select a [] k e = absurd (Memᴰ.not-nil k)
  in_select a (b ∷ l) k e = go (Memᴰ.cases_cons k) (either (p b)) (in_select a l)
    where
      go : (a ≡ b) ⊎ In a l → (p b ≡ true) ⊎ (p b ≡ false) → (In a l → p a ≡ true → In a (select p l)) → In a (select p (b ∷ l))
      go (inl w) t ih = subst (In a) (sym (select_yes b l (ap p (sym w) ∙ e))) (Memᴰ.head w)
      go (inr w) (inl t) ih = subst (In a) (sym (select_yes b l t)) (Memᴰ.tail (ih w e))
      go (inr w) (inr t) ih = subst (In a) (sym (select_no b l t)) (ih w e)

  pub select_in : (a : A) (l : List A) → In a (select p l) → In a l × (p a ≡ true)
  unfolding select
  select_in a [] k = absurd (Memᴰ.not-nil k)
  select_in a (b ∷ l) k = go (either (p b)) (select_in a l)
    where
      go : (p b ≡ true) ⊎ (p b ≡ false) → (In a (select p l) → In a l × (p a ≡ true)) → In a (b ∷ l) × (p a ≡ true)
      go (inl e) ih = ⊎_elim (λ w. (Memᴰ.head w, ap p w ∙ e)) (λ w. (Memᴰ.tail (ih w).0, (ih w).1)) (Memᴰ.cases_cons (subst (In a) (select_yes b l e) k))
      go (inr e) ih = let r = ih (subst (In a) (select_no b l e) k) in (Memᴰ.tail r.0, r.1)

  pub distinct_select : (l : List A) → Distinct l → Distinct (select p l)
  unfolding select
  distinct_select [] d = d
  distinct_select (a ∷ l) d = ⊎_elim (λ e. subst Distinct (sym (select_yes a l e)) (distinct_cons (λ k. distinct_head d (select_in a l k).0) (distinct_select l (distinct_tail d)))) (λ e. subst Distinct (sym (select_no a l e)) (distinct_select l (distinct_tail d))) (either (p a))

pub count_opposite : {A : Type 0} (p : A → Bool) → CountOpposite p
unfolding select
count_opposite p [] = refl
count_opposite p (a ∷ l) = ⊎_elim
    (λ e. omega (arith, ap length (select_yes p a l e), ap length (select_no (λ b. not (p b)) a l (ap not e)), count_opposite p l))
    (λ e. omega (arith, ap length (select_no p a l e), ap length (select_yes (λ b. not (p b)) a l (ap not e)), count_opposite p l))
    (either (p a))

-- ---- lines
module _ {A : Type 0} (f : A → ℕ) where
  tally_here : (a : A) (l : List A) (j : ℕ) → f a ≡ j → tally f (a ∷ l) j ≡ suc (tally f l j)
  tally_here a l j e = ap length (select_yes (λ b. eqb (f b) j) a l (eq-eqb (f a) j e))

  tally_other : (a : A) (l : List A) (j : ℕ) → (f a ≡ j → ⊥) → tally f (a ∷ l) j ≡ tally f l j
  tally_other a l j h = ap length (select_no (λ b. eqb (f b) j) a l (ne_eqb (f a) j h))

  -- one member more, of a line before them, and of one of them
  tallies_before : (a : A) (l : List A) (i k : ℕ) → f a < i → total (tallies f i k (a ∷ l)) ≡ total (tallies f i k l)
  unfolding total tallies
  tallies_before a l i zero h = refl
  tallies_before a l i (suc k) h = ap₂ ◌+◌ (tally_other a l i (λ e. omega arith)) (tallies_before a l (suc i) k (omega arith))

  tallies_one : (a : A) (l : List A) (i k : ℕ) → i ≤ f a → f a < i + k → total (tallies f i k (a ∷ l)) ≡ suc (total (tallies f i k l))
  unfolding total tallies
  tallies_one a l i zero h m = absurd (omega arith)
  tallies_one a l i (suc k) h m = ⊎_elim
      (λ e. omega (arith, tally_here a l i (sym e), tallies_before a l (suc i) k (omega arith)))
      (λ e. omega (arith, tally_other a l i (λ w. omega arith), tallies_one a l (suc i) k e (omega arith)))
      (eq-or-lt_of_le h)

  tallies_none : (i k : ℕ) → total (tallies f i k []) ≡ 0
  unfolding total tallies select
  tallies_none i zero = refl
  tallies_none i (suc k) = zero-add _ ∙ tallies_none (suc i) k

pub total_tallies : {A : Type 0} (f : A → ℕ) → TotalTallies f
total_tallies f i k [] h = tallies_none f i k
total_tallies f i k (a ∷ l) h = let r = h a (Memᴰ.head refl) in tallies_one f a l i k r.0 r.1 ∙ ap suc (total_tallies f i k l (λ b m. h b (Memᴰ.tail m)))
