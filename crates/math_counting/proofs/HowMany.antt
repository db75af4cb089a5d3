-- The proofs of specs/HowMany.
use Rattle.std.specs.Prelude.{ℕ, ◌≡◌, refl}
use Rattle.std.proofs.Common.{arith, sym, ◌∙◌}
use Rattle.std.proofs.Math.Logic.Iff
use Rattle.math_counting.specs.Pigeonhole.{In, Injection, Bijection}
use Rattle.math_counting.proofs.Pigeonhole.{pigeonhole, injection_iff}
use Rattle.math_counting.specs.Count.{select}
use Rattle.math_counting.proofs.Count.{in_select, select_in, distinct_select}
use Rattle.math_counting.specs.HowMany.{HowMany, EquallyMany, HowManyUnique, HowManyTested}

-- ---- the proof
module _ {A B : Type 0} {R : A → B → Type 0} {P : A → Type 0} {Q : B → Type 0} where
  -- the injection on the members of the two lists
  members_injection : {j k : ℕ} → Injection R P Q → (h : HowMany P j) (g : HowMany Q k) → Injection R (λ a. In a h.all) (λ b. In b g.all)
  members_injection i h g = injection_iff (λ a. (h.members a).0) (λ b. Iff.symm (g.members b)) i

pub equally_many : {A B : Type 0} (R : A → B → Type 0) (P : A → Type 0) (Q : B → Type 0) → EquallyMany R P Q
equally_many R P Q j k i h g = omega (arith, h.number, g.number, pigeonhole R h.all g.all h.distinct (members_injection i.right h g), pigeonhole (λ b a. R a b) g.all h.all g.distinct (members_injection i.left g h))

module _ {A : Type 0} (P : A → Type 0) where
  identity : Bijection (λ a b. a ≡ b) P P
  identity = record {
    right = record { partner = λ a x. (a, x, refl); single = λ a c b x y z e f. e ∙ sym f };
    left = record { partner = λ a x. (a, x, refl); single = λ a c b x y z e f. sym e ∙ f };
  }

  pub how_many_unique : HowManyUnique P
  how_many_unique j k h g = equally_many (λ a b. a ≡ b) P P j k identity h g

  pub how_many_tested : (Q : A → Type 0) → HowManyTested P Q
  how_many_tested Q k h p t = record {
    all = select p h.all;
    distinct = distinct_select p h.all h.distinct;
    members = λ a. (λ i. let r = select_in p a h.all i in let x = (h.members a).0 r.0 in (x, (t a x).0 r.1), λ x. in_select p a h.all ((h.members a).1 x.0) ((t a x.0).1 x.1));
    number = refl;
  }
