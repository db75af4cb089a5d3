-- Sum, difference, multiple and product of lists are those of the polynomials; each result is trimmed and its
-- coefficients stand for themselves.
use Prim.Native.Nat.{ℕ, zero, suc}
use Rattle.std.specs.Prelude.{◌≡◌}
use Rattle.std.proofs.Math.Path.{refl, sym, ap, ap₂, fun_ext}
use Rattle.std.proofs.Common.{◌∙◌, subst}
use mathlib.Core.List.{List, [], ◌∷◌, map}
use Rattle.math_ring.specs.Ring.{CRing, zer_add}
use Rattle.math_ring.specs.Identity.{ring, quote}
use Rattle.math_ring.specs.Series.{S, Series, add_s, conv, neg_s, zer_s, con, conv_con}
use Rattle.math_ring.specs.Division.{up, up_conv}
use Rattle.spec_arithmetic.specs.Field.{Ops}
use Rattle.spec_arithmetic.specs.Polynomials.{at, trim, zip, add, sub, scale, mul}
use Rattle.spec_bridge.specs.Model.{Model, Oks, series, series_nil, add_zer_zer, sub_zer_zer, mul_by_zer}
use Rattle.spec_bridge.specs.Trim.{Trim, at_trim, trim_idem, series_ext}

module _ {A B : Type 0} {o : Ops A} {R : CRing B} (M : Model o R) where
  open M use {φ, φ_zer, φ_add, φ_sub, φ_mul, Ok, ok_zer, ok_add, ok_sub, ok_mul}

  -- ---- coefficient by coefficient
  pub at_map : (f : A → A) → f o.zer ≡ o.zer → (l : List A) (i : ℕ) → at o (map f l) i ≡ f (at o l i)
  at_map f z [] i = sym z
  at_map f z (a ∷ l) zero = refl
  at_map f z (a ∷ l) (suc i) = at_map f z l i

  pub at_zip : (f : A → A → A) → f o.zer o.zer ≡ o.zer → (p q : List A) (i : ℕ) → at o (zip o f p q) i ≡ f (at o p i) (at o q i)
  unfolding zip
  at_zip f z [] q i = at_map (f o.zer) z q i
  at_zip f z (a ∷ p) [] zero = refl
  at_zip f z (a ∷ p) [] (suc i) = at_map (λ x. f x o.zer) z p i
  at_zip f z (a ∷ p) (b ∷ q) zero = refl
  at_zip f z (a ∷ p) (b ∷ q) (suc i) = at_zip f z p q i

  oks_zip : (f : A → A → A) → f o.zer o.zer ≡ o.zer → ((a b : A) → Ok (f a b)) → (p q : List A) → Oks M (zip o f p q)
  oks_zip f z k p q i = subst Ok (sym (at_zip f z p q i)) (k _ _)

  oks_map : (c : A) (p : List A) → Oks M (map (o.mul c) p)
  oks_map c p i = subst Ok (sym (at_map (o.mul c) (mul_by_zer M c) p i)) (ok_mul _ _)

  pub at_add : (p q : List A) (i : ℕ) → at o (add o p q) i ≡ o.add (at o p i) (at o q i)
  unfolding add
  at_add p q i = at_trim M (zip o o.add p q) (oks_zip o.add (add_zer_zer M) ok_add p q) i ∙ at_zip o.add (add_zer_zer M) p q i

  pub at_sub : (p q : List A) (i : ℕ) → at o (sub o p q) i ≡ o.sub (at o p i) (at o q i)
  unfolding sub
  at_sub p q i = at_trim M (zip o o.sub p q) (oks_zip o.sub (sub_zer_zer M) ok_sub p q) i ∙ at_zip o.sub (sub_zer_zer M) p q i

  pub at_scale : (c : A) (p : List A) (i : ℕ) → at o (scale o c p) i ≡ o.mul c (at o p i)
  unfolding scale
  at_scale c p i = at_trim M (map (o.mul c) p) (oks_map c p) i ∙ at_map (o.mul c) (mul_by_zer M c) p i

  -- ---- each coefficient of a result stands for itself
  pub oks_nil : Oks M []
  oks_nil i = ok_zer

  pub oks_add : (p q : List A) → Oks M (add o p q)
  oks_add p q i = subst Ok (sym (at_add p q i)) (ok_add _ _)

  pub oks_sub : (p q : List A) → Oks M (sub o p q)
  oks_sub p q i = subst Ok (sym (at_sub p q i)) (ok_sub _ _)

  pub oks_scale : (c : A) (p : List A) → Oks M (scale o c p)
  oks_scale c p i = subst Ok (sym (at_scale c p i)) (ok_mul _ _)

  pub oks_mul : (p q : List A) → Oks M (mul o p q)
  unfolding mul
  oks_mul [] q i = ok_zer
  oks_mul (a ∷ p) q i = oks_add _ _ i

  -- ---- no result has a zero at its end
  pub trim_add : (p q : List A) → Trim M (add o p q)
  unfolding add
  trim_add p q = trim_idem M (zip o o.add p q)

  pub trim_sub : (p q : List A) → Trim M (sub o p q)
  unfolding sub
  trim_sub p q = trim_idem M (zip o o.sub p q)

  pub trim_scale : (c : A) (p : List A) → Trim M (scale o c p)
  unfolding scale
  trim_scale c p = trim_idem M (map (o.mul c) p)

  pub trim_mul : (p q : List A) → Trim M (mul o p q)
  unfolding mul trim
  trim_mul [] q = refl
  trim_mul (a ∷ p) q = trim_add _ _

  -- ---- the polynomials
  pub series_add : (p q : List A) → series M (add o p q) ≡ add_s R (series M p) (series M q)
  unfolding add_s
  series_add p q = fun_ext (λ n. ap φ (at_add p q n) ∙ φ_add _ _)

  pub series_sub : (p q : List A) → series M (sub o p q) ≡ add_s R (series M p) (neg_s R (series M q))
  unfolding add_s neg_s
  series_sub p q = fun_ext (λ n. ap φ (at_sub p q n) ∙ φ_sub _ _)

  pub series_scale : (c : A) (p : List A) → series M (scale o c p) ≡ conv R (con R (φ c)) (series M p)
  series_scale c p = fun_ext (λ n. ap φ (at_scale c p n) ∙ φ_mul _ _ ∙ sym (conv_con R (φ c) (series M p) n))

  -- x, and a list by its first coefficient
  abbrev pub X : S R
  X = up R (con R R.one)

  pub X_conv : (f : S R) → conv R X f ≡ up R f
  X_conv f = fun_ext (λ n. up_conv R (con R R.one) f n ∙ ap (λ (g : S R). up R g n) (fun_ext (λ k. conv_con R R.one f k ∙ R.mul_comm R.one (f k) ∙ R.mul_one (f k))))

  pub series_cons : (a : A) (l : List A) → series M (a ∷ l) ≡ add_s R (con R (φ a)) (conv R X (series M l))
  unfolding add_s con up
  series_cons a l = fun_ext here ∙ ap (add_s R (con R (φ a))) (sym (X_conv (series M l)))
    where
      here : (n : ℕ) → series M (a ∷ l) n ≡ add_s R (con R (φ a)) (up R (series M l)) n
      here zero = sym (R.add_zer (φ a))
      here (suc n) = sym (zer_add R (series M l n))

  con_zer : con R (φ o.zer) ≡ zer_s R
  unfolding con zer_s
  con_zer = fun_ext here
    where
      here : (n : ℕ) → con R (φ o.zer) n ≡ zer_s R n
      here zero = φ_zer
      here (suc n) = refl

  pub series_mul : (p q : List A) → series M (mul o p q) ≡ conv R (series M p) (series M q)
  unfolding mul
  series_mul [] q = series_nil M ∙ ring (Series R) (series M q ∷ []) (search quote depth 40 fits 9999) tt ∙ ap (λ f. conv R f (series M q)) (sym (series_nil M))
  series_mul (a ∷ p) q =
      series_add (scale o a q) (o.zer ∷ mul o p q)
      ∙ ap₂ (add_s R) (series_scale a q) (series_cons o.zer (mul o p q) ∙ ap₂ (add_s R) con_zer (ap (conv R X) (series_mul p q)))
      ∙ ring (Series R) (con R (φ a) ∷ X ∷ series M p ∷ series M q ∷ []) (search quote depth 40 fits 9999) tt
      ∙ ap (λ f. conv R f (series M q)) (sym (series_cons a p))

  pub series_mul_add : (p x y : List A) → series M (add o (mul o p x) y) ≡ add_s R (conv R (series M p) (series M x)) (series M y)
  series_mul_add p x y = series_add (mul o p x) y ∙ ap (λ (u : S R). add_s R u (series M y)) (series_mul p x)

  -- ---- only the polynomials of the arguments matter
  pub add_cong : (p p' q q' : List A) → series M p ≡ series M p' → series M q ≡ series M q' → add o p q ≡ add o p' q'
  add_cong p p' q q' h k = series_ext M _ _ (trim_add p q) (trim_add p' q') (oks_add p q) (oks_add p' q') (series_add p q ∙ ap₂ (add_s R) h k ∙ sym (series_add p' q'))

  pub sub_cong : (p p' q q' : List A) → series M p ≡ series M p' → series M q ≡ series M q' → sub o p q ≡ sub o p' q'
  sub_cong p p' q q' h k = series_ext M _ _ (trim_sub p q) (trim_sub p' q') (oks_sub p q) (oks_sub p' q') (series_sub p q ∙ ap₂ (λ f g. add_s R f (neg_s R g)) h k ∙ sym (series_sub p' q'))

  pub scale_cong : (c c' : A) (p p' : List A) → φ c ≡ φ c' → series M p ≡ series M p' → scale o c p ≡ scale o c' p'
  scale_cong c c' p p' h k = series_ext M _ _ (trim_scale c p) (trim_scale c' p') (oks_scale c p) (oks_scale c' p') (series_scale c p ∙ ap₂ (λ a f. conv R (con R a) f) h k ∙ sym (series_scale c' p'))

  pub mul_cong : (p p' q q' : List A) → series M p ≡ series M p' → series M q ≡ series M q' → mul o p q ≡ mul o p' q'
  mul_cong p p' q q' h k = series_ext M _ _ (trim_mul p q) (trim_mul p' q') (oks_mul p q) (oks_mul p' q') (series_mul p q ∙ ap₂ (conv R) h k ∙ sym (series_mul p' q'))
