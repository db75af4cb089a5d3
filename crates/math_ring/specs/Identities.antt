-- The identities of the continued fraction of √D and of products of ideals, over any commutative ring, each
-- found by the solver. A step: D = P² + Q C, P' = a Q - P, Q' = C + a (P - P'), P + d = a Q + r, D = d² + e.
use Rattle.std.specs.Prelude.{◌≡◌, [], ◌∷◌}
use Rattle.math_ring.specs.Ring.{CRing}
use Rattle.math_ring.specs.Identity.{ring, ring_from, times, plus, quote}

module _ {A : Type 0} (R : CRing A) where
  open R use {add as ◌+◌, mul as ◌*◌, neg as -◌, one as 𝟙}

  infixl 6 ◌+◌ ◌-◌
  infixl 7 ◌*◌
  infix 8 -◌
  abbrev ◌-◌ : A → A → A
  a - b = a + (- b)

  -- Q u² - 2 P u v - C v²
  abbrev pub form : A → A → A → A → A → A
  form Q P C u v = Q * (u * u) - (𝟙 + 𝟙) * P * u * v - C * (v * v)

  -- ---- norms multiply
  pub brahmagupta : (D x₁ y₁ x₂ y₂ : A) → (x₁ * x₂ + D * y₁ * y₂) * (x₁ * x₂ + D * y₁ * y₂) - D * ((x₁ * y₂ + x₂ * y₁) * (x₁ * y₂ + x₂ * y₁)) ≡ (x₁ * x₁ - D * (y₁ * y₁)) * (x₂ * x₂ - D * (y₂ * y₂))
  brahmagupta D x₁ y₁ x₂ y₂ = ring R (D ∷ x₁ ∷ y₁ ∷ x₂ ∷ y₂ ∷ []) (search quote depth 40 fits 9999) tt

  -- ---- one step
  -- D - P'² = Q Q'
  pub step_exact : (P Q C a : A) {D P' Q' : A} → D ≡ P * P + Q * C → P' ≡ a * Q - P → Q' ≡ C + a * (P - P') → D ≡ P' * P' + Q * Q'
  step_exact P Q C a {D} {P'} {Q'} norm turn next = ring_from R (D ∷ P ∷ Q ∷ C ∷ a ∷ P' ∷ Q' ∷ []) (plus R (times R 𝟙 norm) (plus R (times R (P - P') turn) (times R (- Q) next))) (search quote depth 40 fits 9999) tt

  -- with the remainder in place of P'
  pub step_product : (D d e r Q P' Q' : A) → D ≡ P' * P' + Q * Q' → D ≡ d * d + e → P' ≡ d - r → Q * Q' ≡ r * (d + d - r) + e
  step_product D d e r Q P' Q' exact root near = ring_from R (D ∷ d ∷ e ∷ r ∷ Q ∷ P' ∷ Q' ∷ []) (plus R (times R (- 𝟙) exact) (plus R (times R 𝟙 root) (times R (- (d - r + P')) near))) (search quote depth 40 fits 9999) tt

  -- the form of the next state
  pub norm_turn : (P Q C a v w : A) {P' Q' : A} → P' ≡ a * Q - P → Q' ≡ C + a * (P - P') → form Q P C (a * v + w) v ≡ - form Q' P' Q v w
  norm_turn P Q C a v w {P'} {Q'} turn next = ring_from R (P ∷ Q ∷ C ∷ a ∷ v ∷ w ∷ P' ∷ Q' ∷ []) (plus R (times R (v * v) next) (times R (- (a * v * v + v * w + v * w)) turn)) (search quote depth 40 fits 9999) tt

  -- ---- the form's square completed: z = Q u - P v
  -- the form and e as a product
  pub norm_factors : (P Q C d e u v : A) {D : A} → D ≡ P * P + Q * C → D ≡ d * d + e → (Q * u - P * v - d * v) * (Q * u - P * v + d * v) ≡ Q * form Q P C u v + e * (v * v)
  norm_factors P Q C d e u v {D} norm root = ring_from R (D ∷ P ∷ Q ∷ C ∷ d ∷ e ∷ u ∷ v ∷ []) (plus R (times R (- (v * v)) norm) (times R (v * v) root)) (search quote depth 40 fits 9999) tt

  pub descent_left : (P Q a d r u v : A) → P + d ≡ a * Q + r → Q * (u - a * v) ≡ (Q * u - P * v - d * v) + r * v
  descent_left P Q a d r u v division = ring_from R (P ∷ Q ∷ a ∷ d ∷ r ∷ u ∷ v ∷ []) (times R v division) (search quote depth 40 fits 9999) tt

  pub descent_right : (P Q d u v : A) → Q * u - P * v + d * v ≡ Q * u - (P - d) * v
  descent_right P Q d u v = ring R (P ∷ Q ∷ d ∷ u ∷ v ∷ []) (search quote depth 40 fits 9999) tt

  -- ---- a generator through a step: x = y P + t Q, y' = a y + t, x' = P' y' + Q' y
  pub generator_x : (Q x y P' Q' y' : A) {D x' : A} → D ≡ P' * P' + Q * Q' → x + y * P' ≡ Q * y' → x' ≡ P' * y' + Q' * y → x * P' + y * D ≡ Q * x'
  generator_x Q x y P' Q' y' {D} {x'} exact y_is x'-is = ring_from R (Q ∷ x ∷ y ∷ P' ∷ Q' ∷ y' ∷ D ∷ x' ∷ []) (plus R (times R P' y_is) (plus R (times R y exact) (times R (- Q) x'-is))) (search quote depth 40 fits 9999) tt

  -- the norm
  pub generator_norm : (Q x y P' Q' y' : A) {D x' : A} → D ≡ P' * P' + Q * Q' → x + y * P' ≡ Q * y' → x' ≡ P' * y' + Q' * y → Q * (x' * x' - D * (y' * y')) ≡ - (Q' * (x * x - D * (y * y)))
  generator_norm Q x y P' Q' y' {D} {x'} exact y_is x'-is = ring_from R (Q ∷ x ∷ y ∷ P' ∷ Q' ∷ y' ∷ D ∷ x' ∷ []) (plus R (times R (Q' * (Q * y' + x - y * P')) y_is) (plus R (times R (- (Q * (y' * y')) - Q' * (y * y)) exact) (times R (Q * (x' + P' * y' + Q' * y)) x'-is))) (search quote depth 40 fits 9999) tt

  -- x' + d y' and x' - d y'
  pub generator_plus : (Q x y d e D P' x' y' : A) → x + y * P' ≡ Q * y' → x * P' + y * D ≡ Q * x' → D ≡ d * d + e → Q * (x' + d * y') ≡ (x + d * y) * (P' + d) + y * e
  generator_plus Q x y d e D P' x' y' y_is x_is root = ring_from R (Q ∷ x ∷ y ∷ d ∷ e ∷ D ∷ P' ∷ x' ∷ y' ∷ []) (plus R (times R (- d) y_is) (plus R (times R (- 𝟙) x_is) (times R y root))) (search quote depth 40 fits 9999) tt

  pub generator_minus : (Q x y d e D P' x' y' : A) → x + y * P' ≡ Q * y' → x * P' + y * D ≡ Q * x' → D ≡ d * d + e → Q * (x' - d * y') ≡ (x - d * y) * (P' - d) + y * e
  generator_minus Q x y d e D P' x' y' y_is x_is root = ring_from R (Q ∷ x ∷ y ∷ d ∷ e ∷ D ∷ P' ∷ x' ∷ y' ∷ []) (plus R (times R d y_is) (plus R (times R (- 𝟙) x_is) (times R y root))) (search quote depth 40 fits 9999) tt

  -- the conjugate of a product
  pub conjugate_product : (d e x₁ y₁ x₂ y₂ : A) {D : A} → D ≡ d * d + e → (x₁ * x₂ + D * y₁ * y₂) - d * (x₁ * y₂ + x₂ * y₁) ≡ (x₁ - d * y₁) * (x₂ - d * y₂) + e * y₁ * y₂
  conjugate_product d e x₁ y₁ x₂ y₂ {D} root = ring_from R (d ∷ e ∷ x₁ ∷ y₁ ∷ x₂ ∷ y₂ ∷ D ∷ []) (times R (y₁ * y₂) root) (search quote depth 40 fits 9999) tt

  -- ---- the product of (Q₁, P₁) and (Q₂, P₂): Q₁ = S q₁, Q₂ = S q₂, P₁ + P₂ = S t, D = P₁² + Q₁ C₁ = P₂² + Q₂ C₂, and P = P₁ + q₁ (u (P₂ - P₁) + w C₁)
  -- the two norms' difference, before S is cancelled
  pub product_balance : (S q₁ q₂ t P₁ P₂ Q₁ Q₂ C₁ C₂ D : A) → Q₁ ≡ S * q₁ → Q₂ ≡ S * q₂ → P₁ + P₂ ≡ S * t → D ≡ P₁ * P₁ + Q₁ * C₁ → D ≡ P₂ * P₂ + Q₂ * C₂ → S * (t * (P₁ - P₂) + q₁ * C₁) ≡ S * (q₂ * C₂)
  product_balance S q₁ q₂ t P₁ P₂ Q₁ Q₂ C₁ C₂ D h₁ h₂ ht n₁ n₂ = ring_from R (S ∷ q₁ ∷ q₂ ∷ t ∷ P₁ ∷ P₂ ∷ Q₁ ∷ Q₂ ∷ C₁ ∷ C₂ ∷ D ∷ []) (plus R (times R (- C₁) h₁) (plus R (times R C₂ h₂) (plus R (times R (- (P₁ - P₂)) ht) (plus R (times R (- 𝟙) n₁) (times R 𝟙 n₂))))) (search quote depth 40 fits 9999) tt

  pub product_second : (u v w q₁ q₂ t P₁ P₂ C₁ C₂ : A) {P : A} → u * q₁ + v * q₂ + w * t ≡ 𝟙 → t * (P₁ - P₂) + q₁ * C₁ ≡ q₂ * C₂ → P ≡ P₁ + q₁ * (u * (P₂ - P₁) + w * C₁)
      → P - P₂ ≡ q₂ * (v * (P₁ - P₂) + w * C₂)
  product_second u v w q₁ q₂ t P₁ P₂ C₁ C₂ {P} bezout balance P_is = ring_from R (u ∷ v ∷ w ∷ q₁ ∷ q₂ ∷ t ∷ P₁ ∷ P₂ ∷ C₁ ∷ C₂ ∷ P ∷ []) (plus R (times R 𝟙 P_is) (plus R (times R (- (P₁ - P₂)) bezout) (times R w balance))) (search quote depth 40 fits 9999) tt

  pub product_cross : (u v w S q₁ q₂ t P₁ P₂ Q₁ C₁ C₂ : A) {D P : A} → u * q₁ + v * q₂ + w * t ≡ 𝟙 → t * (P₁ - P₂) + q₁ * C₁ ≡ q₂ * C₂ → Q₁ ≡ S * q₁ → P₁ + P₂ ≡ S * t → D ≡ P₁ * P₁ + Q₁ * C₁ → P ≡ P₁ + q₁ * (u * (P₂ - P₁) + w * C₁)
      → P₁ * P₂ + D - (P₁ + P₂) * P ≡ S * q₁ * q₂ * (u * C₂ + v * C₁)
  product_cross u v w S q₁ q₂ t P₁ P₂ Q₁ C₁ C₂ {D} {P} bezout balance h₁ ht n₁ P_is = ring_from R (u ∷ v ∷ w ∷ S ∷ q₁ ∷ q₂ ∷ t ∷ P₁ ∷ P₂ ∷ Q₁ ∷ C₁ ∷ C₂ ∷ D ∷ P ∷ []) (plus R (times R (- (P₁ + P₂)) P_is) (plus R (times R (- (q₁ * (u * (P₂ - P₁) + w * C₁))) ht) (plus R (times R 𝟙 n₁) (plus R (times R C₁ h₁) (plus R (times R (- (S * q₁ * C₁)) bezout) (times R (S * q₁ * u) balance)))))) (search quote depth 40 fits 9999) tt

  -- Q divides D - P² by this
  pub product_norm : (D P P₁ P₂ : A) → D - P * P ≡ (P₁ * P₂ + D - (P₁ + P₂) * P) - (P - P₁) * (P - P₂)
  product_norm D P P₁ P₂ = ring R (D ∷ P ∷ P₁ ∷ P₂ ∷ []) (search quote depth 40 fits 9999) tt
