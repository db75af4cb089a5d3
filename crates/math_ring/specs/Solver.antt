-- A solver for identities of commutative rings, by reflection: expressions, a normal form that computes on
-- native numbers, and its soundness.
use Prim.Native.Nat.{ℕ, zero, suc, ◌+◌ as ◌+ₙ◌, ◌*◌ as ◌*ₙ◌, compare, Ordering}
use Rattle.std.proofs.Common.{zero-add as zero-addₙ, suc-add as suc-addₙ, zero-mul as zero-mulₙ, suc-mul as suc-mulₙ, sym, ap, ap₂, ◌∙◌, eqb→eq}
use Rattle.std.specs.Prelude.{◌≡◌, refl, List, [], ◌∷◌, Bool, true, false, T, eqb}
use Rattle.std.proofs.Math.Path.{subst⁻¹}
use Rattle.std.proofs.Math.Dec.{compare_is_eq}
use Rattle.math_ring.specs.Ring.{CRing, zer_add, one_mul, add_mul, add_left_comm, swap4, mswap4, mul_zer, zer_mul, neg_mul, mul_neg, neg_neg, neg_zer, neg_add, eq_of_sub}

-- ---- expressions
infixl 6 ◌⊞◌ ◌⊟◌
infixl 7 ◌⊠◌
infix 8 ⊝◌
pub data Ex : Type 0 where
  var : ℕ → Ex
  con : ℕ → Ex
  ◌⊞◌ : Ex → Ex → Ex
  ◌⊟◌ : Ex → Ex → Ex
  ◌⊠◌ : Ex → Ex → Ex
  ⊝◌ : Ex → Ex

-- ---- normal forms: sums of terms (p - n) x^m, sorted by m, a list of exponents
pub data Poly : Type 0 where
  nil : Poly
  term : ℕ → ℕ → List ℕ → Poly → Poly

abbrev pub cmp : List ℕ → List ℕ → Ordering
cmp [] [] = Ordering.eq
cmp [] (b ∷ n) = Ordering.lt
cmp (a ∷ m) [] = Ordering.gt
cmp (a ∷ m) (b ∷ n) = elim (compare a b) [ Ordering.lt ↦ Ordering.lt | Ordering.eq ↦ cmp m n | Ordering.gt ↦ Ordering.gt ]

abbrev pub expo : List ℕ → List ℕ → List ℕ
expo [] n = n
expo (a ∷ m) [] = a ∷ m
expo (a ∷ m) (b ∷ n) = (a +ₙ b) ∷ expo m n

abbrev pub unit : ℕ → List ℕ
unit zero = 1 ∷ []
unit (suc i) = 0 ∷ unit i

abbrev pub app : Poly → Poly → Poly
app nil q = q
app (term p n m s) q = term p n m (app s q)

-- with fuel; where it runs out the sum is still right, only not sorted
abbrev pub merge : ℕ → Poly → Poly → Poly
merge zero s t = app s t
merge (suc f) nil t = t
merge (suc f) (term p n m s) nil = term p n m s
merge (suc f) (term p n m s) (term p' n' m' t) =
    elim (cmp m m') [
      | Ordering.lt ↦ term p n m (merge f s (term p' n' m' t))
      | Ordering.eq ↦ term (p +ₙ p') (n +ₙ n') m (merge f s t)
      | Ordering.gt ↦ term p' n' m' (merge f (term p n m s) t)
    ]

abbrev pub fuel : ℕ
fuel = 100000

abbrev pub swap : Poly → Poly
swap nil = nil
swap (term p n m s) = term n p m (swap s)

abbrev pub scale : ℕ → ℕ → List ℕ → Poly → Poly
scale p n m nil = nil
scale p n m (term p' n' m' s) = term (p *ₙ p' +ₙ n *ₙ n') (p *ₙ n' +ₙ n *ₙ p') (expo m m') (scale p n m s)

abbrev pub times : Poly → Poly → Poly
times nil t = nil
times (term p n m s) t = merge fuel (scale p n m t) (times s t)

abbrev pub norm : Ex → Poly
norm (var i) = term 1 0 (unit i) nil
norm (con k) = term k 0 [] nil
norm (a ⊞ b) = merge fuel (norm a) (norm b)
norm (a ⊟ b) = merge fuel (norm a) (swap (norm b))
norm (a ⊠ b) = times (norm a) (norm b)
norm (⊝ a) = swap (norm a)

abbrev pub is_zero : Poly → Bool
is_zero nil = true
is_zero (term p n m s) = elim (eqb p n) [ true ↦ is_zero s | false ↦ false ]

-- ---- monomials that compare as equal are equal
cmp_eq : (m n : List ℕ) → T (compare_is_eq (cmp m n)) → m ≡ n
cmp_eq [] [] t = refl
cmp_eq [] (b ∷ n) t = absurd t
cmp_eq (a ∷ m) [] t = absurd t
cmp_eq (a ∷ m) (b ∷ n) t = go (compare a b) refl t (cmp_eq m n)
  where
    go : (o : Ordering) → compare a b ≡ o → T (compare_is_eq (elim o [ Ordering.lt ↦ Ordering.lt | Ordering.eq ↦ cmp m n | Ordering.gt ↦ Ordering.gt ])) → (T (compare_is_eq (cmp m n)) → m ≡ n) → ◌≡◌ {A = List ℕ} (a ∷ m) (b ∷ n)
    go Ordering.lt e u h = absurd u
    go Ordering.eq e u h = ap₂ ◌∷◌ (eqb→eq a b (subst⁻¹ (λ o. T (compare_is_eq o)) e tt)) (h u)
    go Ordering.gt e u h = absurd u

-- ---- what they mean in a ring
module _ {A : Type 0} (R : CRing A) where
  open R use {add as ◌+◌, mul as ◌*◌, neg as -◌, zer as 𝟘, one as 𝟙, add_assoc, add_comm, add_zer, add_neg, mul_assoc, mul_one, mul_add}

  infixl 6 ◌+◌
  infixl 7 ◌*◌
  infix 8 -◌
  -- 0, 1, 1 + 1, 1 + 1 + 1, ..
  abbrev pub nat : ℕ → A
  nat zero = 𝟘
  nat (suc zero) = 𝟙
  nat (suc (suc k)) = nat (suc k) + 𝟙

  abbrev pub nth : List A → ℕ → A
  nth [] i = 𝟘
  nth (x ∷ ρ) zero = x
  nth (x ∷ ρ) (suc i) = nth ρ i

  abbrev pub ⟦◌⟧ : Ex → List A → A
  ⟦ var i ⟧ ρ = nth ρ i
  ⟦ con k ⟧ ρ = nat k
  ⟦ a ⊞ b ⟧ ρ = ⟦ a ⟧ ρ + ⟦ b ⟧ ρ
  ⟦ a ⊟ b ⟧ ρ = ⟦ a ⟧ ρ + (- ⟦ b ⟧ ρ)
  ⟦ a ⊠ b ⟧ ρ = ⟦ a ⟧ ρ * ⟦ b ⟧ ρ
  ⟦ ⊝ a ⟧ ρ = - ⟦ a ⟧ ρ

  abbrev pow : A → ℕ → A
  pow x zero = 𝟙
  pow x (suc e) = x * pow x e

  abbrev mono : List ℕ → List A → A
  mono [] ρ = 𝟙
  mono (e ∷ m) [] = pow 𝟘 e * mono m []
  mono (e ∷ m) (x ∷ ρ) = pow x e * mono m ρ

  abbrev co : ℕ → ℕ → A
  co p n = nat p + (- nat n)

  abbrev ev : Poly → List A → A
  ev nil ρ = 𝟘
  ev (term p n m s) ρ = co p n * mono m ρ + ev s ρ

  nat_suc : (k : ℕ) → nat (suc k) ≡ nat k + 𝟙
  nat_suc zero = sym (zer_add R 𝟙)
  nat_suc (suc k) = refl

  nat_add : (a b : ℕ) → nat (a +ₙ b) ≡ nat a + nat b
  nat_add zero b = ap nat (zero-addₙ b) ∙ sym (zer_add R (nat b))
  nat_add (suc a) b = ap nat (suc-addₙ a b) ∙ nat_suc (a +ₙ b) ∙ ap (λ t. t + 𝟙) (nat_add a b) ∙ add_assoc (nat a) (nat b) 𝟙 ∙ ap (λ t. nat a + t) (add_comm (nat b) 𝟙) ∙ sym (add_assoc (nat a) 𝟙 (nat b)) ∙ ap (λ t. t + nat b) (sym (nat_suc a))

  nat_mul : (a b : ℕ) → nat (a *ₙ b) ≡ nat a * nat b
  nat_mul zero b = ap nat (zero-mulₙ b) ∙ sym (zer_mul R (nat b))
  nat_mul (suc a) b = ap nat (suc-mulₙ a b) ∙ nat_add (a *ₙ b) b ∙ ap₂ ◌+◌ (nat_mul a b) (sym (one_mul R (nat b))) ∙ sym (add_mul R (nat a) 𝟙 (nat b)) ∙ ap (λ t. t * nat b) (sym (nat_suc a))

  co_add : (p n p' n' : ℕ) → co (p +ₙ p') (n +ₙ n') ≡ co p n + co p' n'
  co_add p n p' n' = ap₂ ◌+◌ (nat_add p p') (ap -◌ (nat_add n n') ∙ neg_add R (nat n) (nat n')) ∙ swap4 R (nat p) (nat p') (- nat n) (- nat n')

  co_swap : (p n : ℕ) → co n p ≡ - co p n
  co_swap p n = add_comm (nat n) (- nat p) ∙ ap (λ t. (- nat p) + t) (sym (neg_neg R (nat n))) ∙ sym (neg_add R (nat p) (- nat n))

  co_mul : (p n p' n' : ℕ) → co (p *ₙ p' +ₙ n *ₙ n') (p *ₙ n' +ₙ n *ₙ p') ≡ co p n * co p' n'
  co_mul p n p' n' = ap₂ ◌+◌ left right ∙ swap4 R (nat p * nat p') ((- nat n) * (- nat n')) (nat p * (- nat n')) ((- nat n) * nat p') ∙ ap (λ t. (nat p * nat p' + nat p * (- nat n')) + t) (add_comm ((- nat n) * (- nat n')) ((- nat n) * nat p')) ∙ ap₂ ◌+◌ (sym (mul_add (nat p) (nat p') (- nat n'))) (sym (mul_add (- nat n) (nat p') (- nat n'))) ∙ sym (add_mul R (nat p) (- nat n) (co p' n'))
    where
      left : nat (p *ₙ p' +ₙ n *ₙ n') ≡ nat p * nat p' + (- nat n) * (- nat n')
      left = nat_add (p *ₙ p') (n *ₙ n') ∙ ap₂ ◌+◌ (nat_mul p p') (nat_mul n n' ∙ sym (neg_neg R (nat n * nat n')) ∙ ap -◌ (sym (mul_neg R (nat n) (nat n'))) ∙ sym (neg_mul R (nat n) (- nat n')))

      right : - nat (p *ₙ n' +ₙ n *ₙ p') ≡ nat p * (- nat n') + (- nat n) * nat p'
      right = ap -◌ (nat_add (p *ₙ n') (n *ₙ p')) ∙ neg_add R (nat (p *ₙ n')) (nat (n *ₙ p')) ∙ ap₂ ◌+◌ (ap -◌ (nat_mul p n') ∙ sym (mul_neg R (nat p) (nat n'))) (ap -◌ (nat_mul n p') ∙ sym (neg_mul R (nat n) (nat p')))

  pow_add : (x : A) (a b : ℕ) → pow x (a +ₙ b) ≡ pow x a * pow x b
  pow_add x zero b = ap (pow x) (zero-addₙ b) ∙ sym (one_mul R (pow x b))
  pow_add x (suc a) b = ap (pow x) (suc-addₙ a b) ∙ ap (λ t. x * t) (pow_add x a b) ∙ sym (mul_assoc x (pow x a) (pow x b))

  mono_expo : (m n : List ℕ) (ρ : List A) → mono (expo m n) ρ ≡ mono m ρ * mono n ρ
  mono_expo [] n ρ = sym (one_mul R (mono n ρ))
  mono_expo (a ∷ m) [] ρ = sym (mul_one (mono (a ∷ m) ρ))
  mono_expo (a ∷ m) (b ∷ n) [] = ap₂ ◌*◌ (pow_add 𝟘 a b) (mono_expo m n []) ∙ mswap4 R (pow 𝟘 a) (pow 𝟘 b) (mono m []) (mono n [])
  mono_expo (a ∷ m) (b ∷ n) (x ∷ ρ) = ap₂ ◌*◌ (pow_add x a b) (mono_expo m n ρ) ∙ mswap4 R (pow x a) (pow x b) (mono m ρ) (mono n ρ)

  mono_unit : (i : ℕ) (ρ : List A) → mono (unit i) ρ ≡ nth ρ i
  mono_unit zero [] = mul_one (𝟘 * 𝟙) ∙ mul_one 𝟘
  mono_unit zero (x ∷ ρ) = mul_one (x * 𝟙) ∙ mul_one x
  mono_unit (suc i) [] = one_mul R (mono (unit i) []) ∙ mono_unit i []
  mono_unit (suc i) (x ∷ ρ) = one_mul R (mono (unit i) ρ) ∙ mono_unit i ρ

  ev_app : (s t : Poly) (ρ : List A) → ev (app s t) ρ ≡ ev s ρ + ev t ρ
  ev_app nil t ρ = sym (zer_add R (ev t ρ))
  ev_app (term p n m s) t ρ = ap (λ u. co p n * mono m ρ + u) (ev_app s t ρ) ∙ sym (add_assoc (co p n * mono m ρ) (ev s ρ) (ev t ρ))

  ev_merge : (f : ℕ) (s t : Poly) (ρ : List A) → ev (merge f s t) ρ ≡ ev s ρ + ev t ρ
  ev_merge zero s t ρ = ev_app s t ρ
  ev_merge (suc f) nil t ρ = sym (zer_add R (ev t ρ))
  ev_merge (suc f) (term p n m s) nil ρ = sym (add_zer (ev (term p n m s) ρ))
  ev_merge (suc f) (term p n m s) (term p' n' m' t) ρ = go (cmp m m') refl (ev_merge f s (term p' n' m' t) ρ) (ev_merge f s t ρ) (ev_merge f (term p n m s) t ρ)
    where
      c : A
      c = co p n * mono m ρ

      c' : A
      c' = co p' n' * mono m' ρ

      go : (o : Ordering) → cmp m m' ≡ o
          → ev (merge f s (term p' n' m' t)) ρ ≡ ev s ρ + ev (term p' n' m' t) ρ
          → ev (merge f s t) ρ ≡ ev s ρ + ev t ρ
          → ev (merge f (term p n m s) t) ρ ≡ ev (term p n m s) ρ + ev t ρ
          → ev (elim o [
            | Ordering.lt ↦ term p n m (merge f s (term p' n' m' t))
            | Ordering.eq ↦ term (p +ₙ p') (n +ₙ n') m (merge f s t)
            | Ordering.gt ↦ term p' n' m' (merge f (term p n m s) t)
          ]) ρ
          ≡ ev (term p n m s) ρ + ev (term p' n' m' t) ρ
      go Ordering.lt e h₁ h₂ h₃ = ap (λ u. c + u) h₁ ∙ sym (add_assoc c (ev s ρ) (ev (term p' n' m' t) ρ))
      go Ordering.eq e h₁ h₂ h₃ = ap₂ ◌+◌ (ap (λ u. u * mono m ρ) (co_add p n p' n') ∙ add_mul R (co p n) (co p' n') (mono m ρ) ∙ ap (λ k. c + co p' n' * mono k ρ) (cmp_eq m m' (subst⁻¹ (λ o. T (compare_is_eq o)) e tt))) h₂ ∙ swap4 R c c' (ev s ρ) (ev t ρ)
      go Ordering.gt e h₁ h₂ h₃ = ap (λ u. c' + u) h₃ ∙ add_left_comm R c' (ev (term p n m s) ρ) (ev t ρ)

  ev_swap : (s : Poly) (ρ : List A) → ev (swap s) ρ ≡ - ev s ρ
  ev_swap nil ρ = sym (neg_zer R)
  ev_swap (term p n m s) ρ = ap₂ ◌+◌ (ap (λ u. u * mono m ρ) (co_swap p n) ∙ neg_mul R (co p n) (mono m ρ)) (ev_swap s ρ) ∙ sym (neg_add R (co p n * mono m ρ) (ev s ρ))

  ev_scale : (p n : ℕ) (m : List ℕ) (s : Poly) (ρ : List A) → ev (scale p n m s) ρ ≡ (co p n * mono m ρ) * ev s ρ
  ev_scale p n m nil ρ = sym (mul_zer R (co p n * mono m ρ))
  ev_scale p n m (term p' n' m' s) ρ = ap₂ ◌+◌ (ap₂ ◌*◌ (co_mul p n p' n') (mono_expo m m' ρ) ∙ mswap4 R (co p n) (co p' n') (mono m ρ) (mono m' ρ)) (ev_scale p n m s ρ) ∙ sym (mul_add (co p n * mono m ρ) (co p' n' * mono m' ρ) (ev s ρ))

  ev_times : (s t : Poly) (ρ : List A) → ev (times s t) ρ ≡ ev s ρ * ev t ρ
  ev_times nil t ρ = sym (zer_mul R (ev t ρ))
  ev_times (term p n m s) t ρ = ev_merge fuel (scale p n m t) (times s t) ρ ∙ ap₂ ◌+◌ (ev_scale p n m t ρ) (ev_times s t ρ) ∙ sym (add_mul R (co p n * mono m ρ) (ev s ρ) (ev t ρ))

  norm_sound : (e : Ex) (ρ : List A) → ev (norm e) ρ ≡ ⟦ e ⟧ ρ
  norm_sound (var i) ρ = add_zer (co 1 0 * mono (unit i) ρ) ∙ ap₂ ◌*◌ (ap (λ t. 𝟙 + t) (neg_zer R) ∙ add_zer 𝟙) (mono_unit i ρ) ∙ one_mul R (nth ρ i)
  norm_sound (con k) ρ = add_zer (co k 0 * 𝟙) ∙ mul_one (co k 0) ∙ ap (λ t. nat k + t) (neg_zer R) ∙ add_zer (nat k)
  norm_sound (a ⊞ b) ρ = ev_merge fuel (norm a) (norm b) ρ ∙ ap₂ ◌+◌ (norm_sound a ρ) (norm_sound b ρ)
  norm_sound (a ⊟ b) ρ = ev_merge fuel (norm a) (swap (norm b)) ρ ∙ ap₂ ◌+◌ (norm_sound a ρ) (ev_swap (norm b) ρ ∙ ap -◌ (norm_sound b ρ))
  norm_sound (a ⊠ b) ρ = ev_times (norm a) (norm b) ρ ∙ ap₂ ◌*◌ (norm_sound a ρ) (norm_sound b ρ)
  norm_sound (⊝ a) ρ = ev_swap (norm a) ρ ∙ ap -◌ (norm_sound a ρ)

  is_zero_sound : (s : Poly) (ρ : List A) → T (is_zero s) → ev s ρ ≡ 𝟘
  is_zero_sound nil ρ h = refl
  is_zero_sound (term p n m s) ρ h = go (eqb p n) refl h (is_zero_sound s ρ)
    where
      go : (b : Bool) → eqb p n ≡ b → T (elim b [ true ↦ is_zero s | false ↦ false ]) → (T (is_zero s) → ev s ρ ≡ 𝟘) → co p n * mono m ρ + ev s ρ ≡ 𝟘
      go true e u k = ap₂ ◌+◌ (ap (λ t. t * mono m ρ) (ap (λ t. nat t + (- nat n)) (eqb→eq p n (subst⁻¹ T e tt)) ∙ add_neg (nat n)) ∙ zer_mul R (mono m ρ)) (k u) ∙ add_zer 𝟘
      go false e u k = absurd u

  -- ---- two sides whose difference has the normal form 0 are equal
  pub solve : (e₁ e₂ : Ex) (ρ : List A) → T (is_zero (norm (e₁ ⊟ e₂))) → ⟦ e₁ ⟧ ρ ≡ ⟦ e₂ ⟧ ρ
  solve e₁ e₂ ρ h = eq_of_sub R (⟦ e₁ ⟧ ρ) (⟦ e₂ ⟧ ρ) (sym (norm_sound (e₁ ⊟ e₂) ρ) ∙ is_zero_sound (norm (e₁ ⊟ e₂)) ρ h)
