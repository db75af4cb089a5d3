-- `HowMany P k`: k things have the property P, with no test in it: a duplicate-free list of length k has them
-- all and no others. There is one such k, and things that correspond one to one are equally many.
use Rattle.std.specs.Prelude.{ℕ, ◌≡◌, ◌↔◌, Bool, true, List, length}
use Rattle.math_counting.specs.Pigeonhole.{In, Distinct, Bijection}
use Rattle.math_counting.specs.Count.{count}

module _ {A : Type 0} where
  pub record HowMany (P : A → Type 0) (k : ℕ) : Type 0 where
    pub all : List A
    pub distinct : Distinct all
    pub members : (a : A) → In a all ↔ P a
    pub number : length all ≡ k

-- things that correspond one to one are equally many
abbrev pub EquallyMany : {A B : Type 0} → (A → B → Type 0) → (A → Type 0) → (B → Type 0) → Type 0
EquallyMany R P Q = (j k : ℕ) → Bijection R P Q → HowMany P j → HowMany Q k → j ≡ k

module _ {A : Type 0} (P : A → Type 0) where
  -- there is one such number
  abbrev pub HowManyUnique : Type 0
  HowManyUnique = (j k : ℕ) → HowMany P j → HowMany P k → j ≡ k

  -- of the things with P, those that pass a test: it is true exactly where Q holds
  abbrev pub HowManyTested : (A → Type 0) → Type 0
  HowManyTested Q = (k : ℕ) (h : HowMany P k) (p : A → Bool) → ((a : A) → P a → (p a ≡ true) ↔ Q a) → HowMany (λ a. P a × Q a) (count p h.all)
