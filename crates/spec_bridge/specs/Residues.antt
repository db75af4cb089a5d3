-- The numbers modulo q are a model of the ring of residues, and for a prime q a field: 1/a is −(q div a)
-- times 1/(q mod a), as a·(q div a) is −(q mod a).
use Rattle.std.specs.Prelude.{ℕ, zero, suc, ◌+◌, ◌*◌, ◌-◌, ◌/◌, ◌%◌, ◌≤◌, ◌<◌, ◌≡◌, refl, ◌⊎◌, Bool, true, false, leb, eqb}
use Rattle.std.proofs.Common.{mod-lt, mul_assoc, mul_comm, mul-add, mul-le-mul_right, lt_trans, eq-zero-or-pos, arith, ◌∙◌, subst, inl, inr, leb-true, leb-false, eqb-true}
use Rattle.std.proofs.Math.Nat.{mod-eq_of_lt, mod-mod, mod-add-mod, add-mod-mod, mul-add-mod_self_left, div-add-mod, add-mod_right}
use Rattle.std.proofs.Math.Decide.{ℕ_discrete}
use Rattle.std.proofs.Math.Path.{sym, ap}
use Rattle.std.proofs.lemmas.Bool.{eqb-false}
use Rattle.math_ring.specs.Order.{le_or_lt}
use Rattle.math_ring.specs.Residues.{Fq, FqRing, val_path, to, add_f, mul_f, neg_f}
use Rattle.std.proofs.lemmas.Nat.{mul-mod_first, mul-mod_second}
use Rattle.math_algebra.specs.Field.{Field}
use Rattle.spec_arithmetic.specs.Field.{modulo, inverse_in, inverse}
use Rattle.spec_bridge.specs.Model.{Model, Inverts}
use Rattle.spec_bridge.specs.Coefficients.{Onto}
use Rattle.spec_bridge.specs.Prime.{Prime}

-- ---- the inverse's two rules, as they are read
in_one : (q n a : ℕ) → a ≤ 1 → inverse_in (suc n) q a ≡ a
unfolding inverse_in
in_one q n a h = go (leb a 1) refl
  where
    go : (b : Bool) → leb a 1 ≡ b → (elim b [ true ↦ a | false ↦ ((q - q / a) * inverse_in n q (q % a)) % q ]) ≡ a
    go true e = refl
    go false e = absurd (let k : 1 < a = leb-false a 1 e in omega arith)

in_more : (q n a : ℕ) → 1 < a → inverse_in (suc n) q a ≡ ((q - q / a) * inverse_in n q (q % a)) % q
unfolding inverse_in
in_more q n a h = go (leb a 1) refl
  where
    go : (b : Bool) → leb a 1 ≡ b → (elim b [ true ↦ a | false ↦ ((q - q / a) * inverse_in n q (q % a)) % q ]) ≡ ((q - q / a) * inverse_in n q (q % a)) % q
    go true e = absurd (let k : a ≤ 1 = leb-true a 1 e in omega arith)
    go false e = refl

-- more turns than a change nothing
in_enough : (q n k a : ℕ) → a < n → a < k → inverse_in n q a ≡ inverse_in k q a
in_enough q zero k a h j = absurd (omega arith)
in_enough q (suc n) zero a h j = absurd (omega arith)
in_enough q (suc n) (suc k) a h j = go (le_or_lt a 1) (in_enough q n k (q % a))
  where
    go : (a ≤ 1) ⊎ (1 < a) → (q % a < n → q % a < k → inverse_in n q (q % a) ≡ inverse_in k q (q % a)) → inverse_in (suc n) q a ≡ inverse_in (suc k) q a
    go (inl p) ih = in_one q n a p ∙ sym (in_one q k a p)
    go (inr p) ih =
        let r : q % a < a = mod-lt q (let z : 0 < a = omega arith in z) in
        in_more q n a p ∙ ap (λ v. ((q - q / a) * v) % q) (ih (omega arith) (omega arith)) ∙ sym (in_more q k a p)

inverse_is : (q a : ℕ) → a < q → inverse q a ≡ inverse_in (suc a) q a
unfolding inverse
inverse_is q a h = ap (λ m. inverse_in (suc m) q m) (mod-eq_of_lt h)

pub inverse_one : (q a : ℕ) → a < q → a ≤ 1 → inverse q a ≡ a
inverse_one q a h k = inverse_is q a h ∙ in_one q a a k

pub inverse_more : (q a : ℕ) → a < q → 1 < a → inverse q a ≡ ((q - q / a) * inverse q (q % a)) % q
inverse_more q a h k =
    let z : 0 < a = omega arith in
    let r : q % a < a = mod-lt q z in
    inverse_is q a h ∙ in_more q a a k ∙ ap (λ v. ((q - q / a) * v) % q) (in_enough q a (suc (q % a)) (q % a) r (omega arith) ∙ sym (inverse_is q (q % a) (omega arith)))

-- of any number, by its residue
pub inverse_mod : (q a : ℕ) → inverse q (a % q) ≡ inverse q a
unfolding inverse
inverse_mod q a = ap (λ m. inverse_in (suc m) q m) (mod-mod a q)

pub inverse_below : (q a : ℕ) → a < q → inverse q a < q
inverse_below q a h = go (le_or_lt a 1)
  where
    pos : 0 < q
    pos = omega arith

    go : (a ≤ 1) ⊎ (1 < a) → inverse q a < q
    go (inl p) = subst (λ (m : ℕ). m < q) (sym (inverse_one q a h p)) h
    go (inr p) = subst (λ (m : ℕ). m < q) (sym (inverse_more q a h p)) (mod-lt _ pos)

module _ (q : ℕ) (pos : 0 < q) where
  pub inverse_lt : (a : ℕ) → inverse q a < q
  inverse_lt a = subst (λ (m : ℕ). m < q) (inverse_mod q a) (inverse_below q (a % q) (mod-lt a pos))

  -- ---- numbers as residues
  pub to_path : (a b : ℕ) → a % q ≡ b % q → to q pos a ≡ to q pos b
  unfolding to
  to_path a b e = val_path q _ _ e

  pub to_val : (a b : ℕ) → to q pos a ≡ to q pos b → a % q ≡ b % q
  unfolding to
  to_val a b e = ap (λ (x : Fq q). x.0) e

  pub to_add : (a b : ℕ) → to q pos (a + b) ≡ add_f q pos (to q pos a) (to q pos b)
  unfolding add_f to
  to_add a b = to_path _ _ (sym (mod-add-mod a q (b % q) ∙ add-mod-mod a b q))

  pub to_mul : (a b : ℕ) → to q pos (a * b) ≡ mul_f q pos (to q pos a) (to q pos b)
  unfolding mul_f to
  to_mul a b = to_path _ _ (sym (mul-mod_first a (b % q) q ∙ mul-mod_second a b q))

  pub to_mod : (a : ℕ) → to q pos (a % q) ≡ to q pos a
  to_mod a = to_path (a % q) a (mod-mod a q)

  pub to_sub : (a b : ℕ) → to q pos (a + (q - b % q)) ≡ add_f q pos (to q pos a) (neg_f q pos (to q pos b))
  unfolding add_f neg_f to
  to_sub a b = to_path _ _ (sym (mod-add-mod a q ((q - b % q) % q) ∙ add-mod-mod a (q - b % q) q))

  pub to_zero : (a : ℕ) → eqb (a % q) 0 ≡ true → to q pos a ≡ to q pos 0
  to_zero a e = to_path a 0 (eqb-true (a % q) 0 e ∙ sym (mod-eq_of_lt pos))

  pub to_some : (a : ℕ) → eqb (a % q) 0 ≡ false → to q pos a ≡ to q pos 0 → ⊥
  to_some a e h = eqb-false (a % q) 0 e (to_val a 0 h ∙ mod-eq_of_lt pos)

  pub to_one_to_one : (a b : ℕ) → a < q → b < q → to q pos a ≡ to q pos b → a ≡ b
  to_one_to_one a b h k e = sym (mod-eq_of_lt h) ∙ to_val a b e ∙ mod-eq_of_lt k

  abbrev pub model : Model (modulo q) (FqRing q pos)
  model = record {
    φ = to q pos;
    φ_zer = refl;
    φ_one = to_mod 1;
    φ_add = λ a b. to_mod (a + b) ∙ to_add a b;
    φ_sub = λ a b. to_mod (a + (q - b % q)) ∙ to_sub a b;
    φ_mul = λ a b. to_mod (a * b) ∙ to_mul a b;
    zer?-true = to_zero;
    zer?-false = to_some;
    Ok = λ a. a < q;
    inj = to_one_to_one;
    ok_zer = pos;
    ok_one = mod-lt 1 pos;
    ok_add = λ a b. mod-lt (a + b) pos;
    ok_sub = λ a b. mod-lt (a + (q - b % q)) pos;
    ok_mul = λ a b. mod-lt (a * b) pos;
  }

  -- ---- inverses: a·(q − q div a) is q mod a
  turn : (a : ℕ) → 0 < a → a < q → (a * (q - q / a)) % q ≡ q % a
  turn a h l =
      let t : ℕ = q / a in
      let whole : a * t + q % a ≡ q = div-add-mod q a in
      let small : 1 * t ≤ a * t = mul-le-mul_right t h in
      let le : t ≤ q = omega arith in
      let back : q - t + t ≡ q = omega arith in
      let sum : a * (q - t) + a * t ≡ a * q = sym (mul-add a (q - t) t) ∙ ap (λ n. a * n) back in
      let flip : a * q ≡ q * a = mul_comm a q in
      let eq : a * (q - t) + q ≡ q * a + q % a = omega arith in
      sym (add-mod_right (a * (q - t)) q) ∙ ap (λ n. n % q) eq ∙ mul-add-mod_self_left q a (q % a) ∙ mod-eq_of_lt (lt_trans (mod-lt q h) l)

  in_mul : Prime q → (n a : ℕ) → 0 < a → a < q → a < n → (inverse_in n q a * a) % q ≡ 1
  in_mul p zero a h l f = absurd (omega arith)
  in_mul p (suc n) a h l f = go (le_or_lt a 1) (in_mul p n (q % a))
    where
      go : (a ≤ 1) ⊎ (1 < a) → (0 < q % a → q % a < q → q % a < n → (inverse_in n q (q % a) * (q % a)) % q ≡ 1) → (inverse_in (suc n) q a * a) % q ≡ 1
      go (inl k) ih = let w : a ≡ 1 = omega arith in ap (λ m. (m * a) % q) (in_one q n a k) ∙ ap (λ m. (m * m) % q) w ∙ mod-eq_of_lt p.two
      go (inr k) ih =
          let small : q % a < a = mod-lt q h in
          let some : 0 < q % a = elim (eq-zero-or-pos (q % a)) [ inl z ↦ absurd (p.none a k l z) | inr z ↦ z ] in
          let v : ℕ = inverse_in n q (q % a) in
          ap (λ m. (m * a) % q) (in_more q n a k) ∙ mul-mod_first ((q - q / a) * v) a q ∙ ap (λ m. m % q) (mul_assoc (q - q / a) v a ∙ mul_comm (q - q / a) (v * a) ∙ mul_assoc v a (q - q / a)) ∙ sym (mul-mod_second v (a * (q - q / a)) q) ∙ ap (λ m. (v * m) % q) (turn a h l) ∙ ih some (omega arith) (omega arith)

  -- the inverse times the number leaves 1
  pub inverse_mul : Prime q → (a : ℕ) → 0 < a % q → (inverse q a * a) % q ≡ 1
  unfolding inverse
  inverse_mul p a h = sym (mul-mod_second (inverse q a) a q) ∙ in_mul p (suc (a % q)) (a % q) h (mod-lt a pos) (omega arith)

  some_mod : (a : ℕ) → (to q pos a ≡ to q pos 0 → ⊥) → 0 < a % q
  some_mod a h = elim (eq-zero-or-pos (a % q)) [ inl z ↦ absurd (h (to_path a 0 (z ∙ sym (mod-eq_of_lt pos)))) | inr z ↦ z ]

  inverse_zero : (a : ℕ) → to q pos a ≡ to q pos 0 → to q pos (inverse q a) ≡ to q pos 0
  inverse_zero a e = ap (to q pos) (sym (inverse_mod q a) ∙ ap (inverse q) (to_val a 0 e ∙ mod-eq_of_lt pos) ∙ inverse_one q 0 pos (omega arith))

  pub inverts : Prime q → Inverts model
  inverts p = record {
    inv_mul = λ a h. sym (to_mul (inverse q a) a) ∙ to_path _ 1 (inverse_mul p a (some_mod a h) ∙ sym (mod-eq_of_lt p.two));
    inv_zer = inverse_zero;
    ok_inv = inverse_lt;
  }

-- ---- the field of q elements, in which 2 is not 0
module _ (q : ℕ) (p : Prime q) where
  pub pos : 0 < q
  pos = let h = p.two in omega arith

  pub to_back : (a : Fq q) → to q pos a.0 ≡ a
  unfolding to
  to_back a = val_path q _ _ (mod-eq_of_lt a.1)

  -- every residue is that of a number below q
  abbrev pub onto : Onto (model q pos)
  onto = record { back = λ a. a.0; φ_back = to_back; ok_back = λ a. a.1 }

  pub inv_is : (a : Fq q) → (a ≡ to q pos 0 → ⊥) → mul_f q pos (to q pos (inverse q a.0)) a ≡ to q pos 1
  inv_is a h = ap (mul_f q pos (to q pos (inverse q a.0))) (sym (to_back a)) ∙ (inverts q pos p).inv_mul a.0 (λ e. h (sym (to_back a) ∙ e))

  pub zero_dec : (a : Fq q) → Dec (a ≡ to q pos 0)
  unfolding to
  zero_dec a = elim (ℕ_discrete a.0 0) [ yes e ↦ yes (val_path q _ _ (e ∙ sym (mod-eq_of_lt pos))) | no e ↦ no (λ h. e (ap (λ (x : Fq q). x.0) h ∙ mod-eq_of_lt pos)) ]

  pub one_not : to q pos 1 ≡ to q pos 0 → ⊥
  one_not h = let e : ◌≡◌ {A = ℕ} 1 0 = sym (mod-eq_of_lt p.two) ∙ to_val q pos 1 0 h ∙ mod-eq_of_lt pos in omega arith

  pub two_not : 2 < q → add_f q pos (to q pos 1) (to q pos 1) ≡ to q pos 0 → ⊥
  two_not l h = let e : ◌≡◌ {A = ℕ} 2 0 = sym (mod-eq_of_lt l) ∙ to_val q pos 2 0 (to_add q pos 1 1 ∙ h) ∙ mod-eq_of_lt pos in omega arith

  abbrev pub field : 2 < q → Field (Fq q)
  field l = record {
    scalars = FqRing q pos;
    inv = λ a. to q pos (inverse q a.0);
    inv_mul = inv_is;
    zero? = zero_dec;
    one_not_zero = one_not;
    two_not_zero = two_not l;
  }
