-- The solver with no quoting by hand: `search quote` finds the expression that a term of the ring is read off
-- as.
--
-- An identity l ≡ r in the ring R: ring R (a ∷ b ∷ []) (search quote depth 40 fits 9999) tt The list holds
-- the atoms: every term that is not a sum, a product, a negative, 0 or 1 of R. A difference is written a + (-
-- b), and 2 is 1 + 1. The two sides may stand under an `abbrev`; any other definition is an atom, or is
-- opened by an `unfolding` line.
--
-- From equations h : l₁ ≡ r₁, k : l₂ ≡ r₂, where l - r = x (l₁ - r₁) + y (l₂ - r₂): ring-from R (a ∷ b ∷ [])
-- (plus R (times R x h) (times R y k)) (search quote depth 40 fits 9999) tt The multipliers x and y are given
-- by hand. An equation of a variable can also be rewritten first, `rw h (ring ..)`.
--
-- Refusals. At `tt`: the identity is false, or a multiplier has the wrong sign. "no proof of Sides": an atom
-- is missing from the list, or a side stands as a λ. "stopped .. lemmas deep": a larger depth. "broke off":
-- past ten million steps; state an identity in between, or quote by hand with `solve` of Solver. Eight atoms
-- at degree 5 take about half a second; Identities, with up to fourteen atoms, takes two seconds. The carrier
-- must be the parameter of CRing.
use Rattle.std.specs.Prelude.{ℕ, suc, ◌≡◌, refl, List, ◌∷◌, T}
use Rattle.std.proofs.Common.{sym, ap, ap₂, ◌∙◌}
use Rattle.math_ring.specs.Ring.{CRing, mul_zer, eq_of_sub}
use Rattle.math_ring.specs.Solver.{Ex, var, con, ◌⊞◌, ◌⊟◌, ◌⊠◌, ⊝◌, norm, is_zero, ⟦◌⟧, nth, solve}

-- x is an entry of ρ
pub data At {A : Type 0} : List A → A → Type 0 where
  here : {x : A} {ρ : List A} → At (x ∷ ρ) x
  there : {x y : A} {ρ : List A} → At ρ x → At (y ∷ ρ) x

abbrev pub place : {A : Type 0} {ρ : List A} {x : A} → At ρ x → ℕ
place here = 0
place (there p) = suc (place p)

-- the ring's element x, read as an expression over ρ
pub data Is {A : Type 0} (R : CRing A) (ρ : List A) : A → Type 0 where
  is_zer : Is R ρ R.zer
  is_one : Is R ρ R.one
  is_add : {x y : A} → Is R ρ x → Is R ρ y → Is R ρ (R.add x y)
  is_mul : {x y : A} → Is R ρ x → Is R ρ y → Is R ρ (R.mul x y)
  is_neg : {x : A} → Is R ρ x → Is R ρ (R.neg x)
  is_at : {x : A} → At ρ x → Is R ρ x

pub data Sides {A : Type 0} (R : CRing A) (ρ : List A) : A → A → Type 0 where
  sides : {x y : A} → Is R ρ x → Is R ρ y → Sides R ρ x y

module _ {A : Type 0} (R : CRing A) where
  place_nth : {ρ : List A} {x : A} (p : At ρ x) → nth R ρ (place p) ≡ x
  place_nth here = refl
  place_nth (there p) = place_nth p

  abbrev pub text : {ρ : List A} {x : A} → Is R ρ x → Ex
  text is_zer = con 0
  text is_one = con 1
  text (is_add p q) = text p ⊞ text q
  text (is_mul p q) = text p ⊠ text q
  text (is_neg p) = ⊝ text p
  text (is_at p) = var (place p)

  text_is : {ρ : List A} {x : A} (p : Is R ρ x) → ⟦ R ⟧ (text p) ρ ≡ x
  text_is is_zer = refl
  text_is is_one = refl
  text_is (is_add p q) = ap₂ R.add (text_is p) (text_is q)
  text_is (is_mul p q) = ap₂ R.mul (text_is p) (text_is q)
  text_is (is_neg p) = ap R.neg (text_is p)
  text_is (is_at p) = place_nth p

  abbrev pub Same : {ρ : List A} {x y : A} → Sides R ρ x y → Type 0
  Same (sides p q) = T (is_zero (norm (text p ⊟ text q)))

  pub ring : (ρ : List A) {x y : A} (p : Sides R ρ x y) → Same p → x ≡ y
  ring ρ (sides p q) t = sym (text_is p) ∙ solve R (text p) (text q) ρ t ∙ text_is q

  -- ---- from equations that are given: what the two sides differ by is a sum of multiples, each of an equation's two sides' difference
  pub times : (k : A) {l r : A} → l ≡ r → R.mul k (R.add l (R.neg r)) ≡ R.zer
  times k {l} {r} h = ap (λ u. R.mul k (R.add u (R.neg r))) h ∙ ap (R.mul k) (R.add_neg r) ∙ mul_zer R k

  pub plus : {a b : A} → a ≡ R.zer → b ≡ R.zer → R.add a b ≡ R.zer
  plus h k = ap₂ R.add h k ∙ R.add_zer R.zer

  pub ring_from : (ρ : List A) {x y s : A} → s ≡ R.zer → (p : Sides R ρ (R.add x (R.neg y)) s) → Same p → x ≡ y
  ring_from ρ {x} {y} h p t = eq_of_sub R x y (ring ρ p t ∙ h)

pub ruleset quote = (is_add, is_mul, is_neg, is_zer, is_one, is_at, here, there, sides)
