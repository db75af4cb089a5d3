-- The proofs of specs/Below.
use Rattle.std.specs.Prelude.{ℕ, zero, suc, ◌+◌ as ◌+ₙ◌, ◌-◌ as ◌-ₙ◌, ◌*◌ as ◌*ₙ◌, ◌/◌, ◌%◌, ◌≤◌, ◌<◌, ◌≡◌}
use Rattle.std.proofs.Common.{zero-add, suc-add, mod-lt, arith, subst, ⊎_elim}
use Rattle.std.proofs.Math.Nat.{div-add-mod}
use Rattle.math_ring.specs.Order.{le_or_lt}
use Rattle.math_algebra.specs.Field.{Field}
use Rattle.math_algebra.specs.Polynomial.{Px, Deg}
use Rattle.math_surd.specs.Root.{Root}
use Rattle.math_surd.specs.Walk.{Walk, κ_first}
use Rattle.math_surd.specs.Distance.{distance}
use Rattle.math_surd.proofs.Distance.{distance_mono, index_lt}
use Rattle.math_giants.specs.GiantStep.{GiantStep, drop}
use Rattle.math_giants.proofs.Exists.{walk_giant}
use Rattle.math_giants.specs.Place.{Placed, GiantPlaced}
use Rattle.math_giants.proofs.Place.{placed_walk, placed_giant, placed_next}
use Rattle.math_giants.specs.Below as defs

-- twice y div 2 is y, or 1 less
pub halves : (y : ℕ) → (y / 2 +ₙ y / 2 ≤ y) × (y ≤ suc (y / 2 +ₙ y / 2))
halves y = let e : 2 *ₙ (y / 2) +ₙ y % 2 ≡ y = div-add-mod y 2 in let l : y % 2 < 2 = mod-lt y (omega arith) in (omega arith, omega arith)

module _ {A : Type 0} (K : Field A) {g : ℕ} {D : Px K} {o : Root K g D} (w : Walk K o) where
  abbrev Last : (y i : ℕ) → Type 0
  Last = defs.Last K w

  abbrev SingleSteps : (y l : ℕ) → Type 0
  SingleSteps = defs.SingleSteps K w

  abbrev Doubled : (y δ : ℕ) → {Q P : Px K} → (G : GiantStep K o Q P Q P) → Type 0
  Doubled = defs.Doubled K w

  abbrev FromHalf : Px K → Px K → ℕ → ℕ → Type 0
  FromHalf = defs.FromHalf K w

  abbrev Below : (y : ℕ) → Type 0
  Below = defs.Below K w

  -- ---- the proof
  last_most : {y i : ℕ} → Last y i → (j : ℕ) → distance K w j ≤ y → j ≤ i
  last_most {y} {i} h j l = let k = index_lt K w j (suc i) (let a = h.high in omega arith) in omega arith

  last_unique : {y i j : ℕ} → Last y i → Last y j → j ≡ i
  last_unique {i = i} {j} h h' = let a = last_most h j h'.low in let b = last_most h' i h.low in omega arith

  -- for a pair: its distance is at most y, and the next, by its degree, is above y
  pub last_placed : {Q P : Px K} {δ at κ y : ℕ} → Placed K w Q P δ at → Deg K Q κ → δ ≤ y → y < δ +ₙ (suc g -ₙ κ) → Last y at
  last_placed s t l h = record { low = let e = s.distance_is in omega arith; high = let e = placed_next K w s t in omega arith }

  pub single_steps_exist : (y l : ℕ) → distance K w l ≤ y → SingleSteps y l
  single_steps_exist y l h = go (suc (y -ₙ distance K w l)) 0 (omega arith) (rw (zero-add l) h) (λ i p. absurd (omega arith)) (omega arith)
    where
      go : (fuel n : ℕ) → distance K w l +ₙ n ≤ y → distance K w (n +ₙ l) ≤ y → ((i : ℕ) → i < n → distance K w (suc (i +ₙ l)) ≤ y) → y < distance K w l +ₙ n +ₙ fuel → SingleSteps y l
      go zero n a b c e = absurd (omega arith)
      go (suc fuel) n a b c e = ⊎_elim (λ k. go fuel (suc n) (let m = distance_mono K w l (suc (n +ₙ l)) (omega arith) in omega arith) (rw (suc-add n l) k) (further n k c) (omega arith)) (λ k. record { steps = n; last = record { low = b; high = k }; each = c; few = a }) (le_or_lt (distance K w (suc (n +ₙ l))) y)
        where
          further : (n : ℕ) → distance K w (suc (n +ₙ l)) ≤ y → ((i : ℕ) → i < n → distance K w (suc (i +ₙ l)) ≤ y) → (i : ℕ) → i < suc n → distance K w (suc (i +ₙ l)) ≤ y
          further n k c i p = ⊎_elim (λ q. subst (λ (j : ℕ). distance K w (suc (j +ₙ l)) ≤ y) (let e : n ≡ i = omega arith in e) k) (λ q. c i q) (le_or_lt n i)

  -- ---- from half of y
  pub from_half : {Q P : Px K} {δ i : ℕ} → FromHalf Q P δ i
  from_half {δ = δ} y s l G = go (placed_giant K w G s s)
    where
      go : GiantPlaced K w G (δ +ₙ δ) → Doubled y δ G
      go t = record { landing = t; not_past = not_past; singles = c; few = let a = c.few in let e = t.placed.distance_is in let e' = s.distance_is in let u = l.high in let b = t.few in let b' = t.less in let r = halves y in omega arith }
        where
          not_past : (δ +ₙ δ) -ₙ drop K G ≤ y
          not_past = let a = l.low in let e = s.distance_is in let r = halves y in omega arith

          c : SingleSteps y t.at
          c = single_steps_exist y t.at (let e = t.placed.distance_is in let k = not_past in omega arith)

  -- ---- every y, by induction: 0 is the distance of index 0, and n is a bound of y
  pub last_zero : Last 0 0
  last_zero = record { low = omega arith; high = let e = κ_first K w in omega arith }

  last_in : (n y : ℕ) → y < n → (i : ℕ) × Last y i
  last_in zero y l = absurd (omega arith)
  last_in (suc n) y l = ⊎_elim (λ p. doubled (last_in n (y / 2) (let r = halves y in omega arith))) (λ p. subst (λ (k : ℕ). (i : ℕ) × Last k i) (let e : 0 ≡ y = omega arith in e) (0, last_zero)) (le_or_lt 1 y)
    where
      doubled : (i : ℕ) × Last (y / 2) i → (i : ℕ) × Last y i
      doubled r = let d = from_half y (placed_walk K w r.0) r.1 (walk_giant K w r.0 r.0) in (d.singles.steps +ₙ d.landing.at, d.singles.last)

  pub below : (y : ℕ) → Below y
  below y = let r = last_in (suc y) y (omega arith) in record { at = r.0; last = r.1; most = last_most r.1; only = λ j h. last_unique r.1 h }
