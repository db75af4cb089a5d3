-- The proofs of specs/Pigeonhole.
use Prim.Native.Nat.{suc, zero-le}
use Rattle.std.proofs.Common.{arith, subst, ◌∙◌}
use Rattle.std.specs.Prelude.{◌≡◌, ◌⊎◌, ◌↔◌, length}
use Rattle.std.proofs.Math.Path.{refl, sym, ap}
use Rattle.std.proofs.Math.Logic.{inl, inr, ⊎_elim, ∥∥₁_elim}
use mathlib.Core.HLevel.{⊥_prop, ¬_prop}
use mathlib.Core.List.Memᴰ
use mathlib.Core.List.Pairwise
use mathlib.Core.List.{List, [], ◌∷◌, map, Memᴰ, Nodup-cons}
use Rattle.math_counting.specs.Pigeonhole.{In, Distinct, Injection, Pigeonhole, without}

-- ---- the proof
module _ {A : Type 0} where
  pub distinct_head : {a : A} {l : List A} → Distinct (a ∷ l) → In a l → ⊥
  distinct_head d i = (Nodup-cons.0 d).0 ∣ i ∣₁

  pub distinct_tail : {a : A} {l : List A} → Distinct (a ∷ l) → Distinct l
  distinct_tail d = (Nodup-cons.0 d).1

  pub distinct_cons : {a : A} {l : List A} → (In a l → ⊥) → Distinct l → Distinct (a ∷ l)
  distinct_cons h d = Nodup-cons.1 (λ i. ∥∥₁_elim i ⊥_prop h, d)

  length_without : {a : A} {l : List A} (i : In a l) → length l ≡ suc (length (without i))
  unfolding without
  length_without (Memᴰ.head e) = refl
  length_without (Memᴰ.tail i) = ap suc (length_without i)

  -- another member is that one or still there
  in_without : {a b : A} {l : List A} (i : In a l) → In b l → (b ≡ a) ⊎ In b (without i)
  unfolding without
  in_without (Memᴰ.head e) k = ⊎_elim (λ w. inl (w ∙ sym e)) (λ w. inr w) (Memᴰ.cases_cons k)
  in_without {a} {b} (Memᴰ.tail {x = x} {xs = l} i) k = go (Memᴰ.cases_cons k) (in_without i)
    where
      go : (b ≡ x) ⊎ In b l → (In b l → (b ≡ a) ⊎ In b (without i)) → (b ≡ a) ⊎ In b (x ∷ without i)
      go (inl e) ih = inr (Memᴰ.head e)
      go (inr r) ih = ⊎_elim (λ w. inl w) (λ w. inr (Memᴰ.tail w)) (ih r)

  without_in : {a b : A} {l : List A} (i : In a l) → In b (without i) → In b l
  unfolding without
  without_in (Memᴰ.head e) k = Memᴰ.tail k
  without_in (Memᴰ.tail i) k = ⊎_elim (λ w. Memᴰ.head w) (λ w. Memᴰ.tail (without_in i w)) (Memᴰ.cases_cons k)

pub pigeonhole : {A B : Type 0} (R : A → B → Type 0) → Pigeonhole R
pigeonhole R [] m d h = zero-le
pigeonhole {A} {B} R (a ∷ l) m d h = omega (arith, length_without i, pigeonhole R l (without i) (distinct_tail d) rest)
  where
    b : B
    b = (h.partner a (Memᴰ.head refl)).0

    i : In b m
    i = (h.partner a (Memᴰ.head refl)).1

    r : R a b
    r = (h.partner a (Memᴰ.head refl)).2

    -- the partner of another member is not the partner of a
    other : (c : A) (e : B) → In c l → In e m → R c e → (e ≡ b) ⊎ In e (without i) → In e (without i)
    other c e j k t (inl w) = absurd (distinct_head d (Memᴰ.cast (h.single a c b (Memᴰ.head refl) (Memᴰ.tail j) i r (subst (R c) w t)) j))
    other c e j k t (inr w) = w

    rest : Injection R (λ c. In c l) (λ e. In e (without i))
    rest = record {
      partner = λ c j. let t = h.partner c (Memᴰ.tail j) in (t.0, other c t.0 j t.1 t.2 (in_without i t.1), t.2);
      single = λ c e f j k t. h.single c e f (Memᴰ.tail j) (Memᴰ.tail k) (without_in i t);
    }

-- ---- other properties of the same things
module _ {A B : Type 0} {R : A → B → Type 0} where
  pub injection_iff : {P P' : A → Type 0} {Q Q' : B → Type 0} → ((a : A) → P' a → P a) → ((b : B) → Q b ↔ Q' b) → Injection R P Q → Injection R P' Q'
  injection_iff p q h = record {
    partner = λ a x. let t = h.partner a (p a x) in (t.0, (q t.0).0 t.1, t.2);
    single = λ a c b x y z. h.single a c b (p a x) (p c y) ((q b).1 z);
  }

-- ---- a one-to-one function at each member
pub distinct_map : {A B : Type 0} (f : A → B) → ((a c : A) → f a ≡ f c → a ≡ c) → {l : List A} → Distinct l → Distinct (map f l)
distinct_map f h d = Pairwise.map (λ a b. ¬_prop) f (λ a b n e. n (h a b e)) d
