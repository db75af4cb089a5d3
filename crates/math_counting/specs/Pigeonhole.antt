-- Duplicate-free lists and one-to-one correspondences. The pigeonhole principle: where each member of a
-- duplicate-free list has a partner in another list, and no two have the same, the list is not longer than
-- the other.
use Prim.Native.Nat.{◌≤◌}
use Rattle.std.specs.Prelude.{◌≡◌, length}
use mathlib.Core.List.Memᴰ
use mathlib.Core.List.{List, ◌∷◌, Memᴰ, Nodup}

-- a is a member of l
abbrev pub In : {A : Type 0} → A → List A → Type 0
In a l = Memᴰ a l

-- no member stands at two places
abbrev pub Distinct : {A : Type 0} → List A → Type 0
Distinct l = Nodup l

module _ {A B : Type 0} (R : A → B → Type 0) where
  -- each thing with P has a partner with Q, and no two have the same
  pub record Injection (P : A → Type 0) (Q : B → Type 0) : Type 0 where
    pub partner : (a : A) → P a → (b : B) × Q b × R a b
    pub single : (a c : A) (b : B) → P a → P c → Q b → R a b → R c b → a ≡ c

-- both ways: the things with P and the things with Q correspond one to one
pub record Bijection {A B : Type 0} (R : A → B → Type 0) (P : A → Type 0) (Q : B → Type 0) : Type 0 where
  pub right : Injection R P Q
  pub left : Injection (λ b a. R a b) Q P

module _ {A B : Type 0} (R : A → B → Type 0) where
  -- a duplicate-free list with an injection of its members into those of another is not longer
  abbrev pub Pigeonhole : Type 0
  Pigeonhole = (l : List A) (m : List B) → Distinct l → Injection R (λ a. In a l) (λ b. In b m) → length l ≤ length m

-- ---- the proof
module _ {A : Type 0} where
  -- the list without the member at one place
  unfoldable pub without : {a : A} {l : List A} → In a l → List A
  without (Memᴰ.head {xs = l} e) = l
  without (Memᴰ.tail {x = b} i) = b ∷ without i
