-- What is known of a record that is held, and how a result comes to be: by the laws of `pad`, place by place.
use Rattle.std.specs.Prelude.{ℕ, ◌≤◌, ◌<◌, ◌≡◌, List, length, get_or, take}
use Rattle.std.proofs.Common.{arith, sym, ap, ◌∙◌, subst, ext_get_or, length-take-le}
use Rattle.spec_arithmetic.specs.Field.{modulo, prime}
use Rattle.spec_arithmetic.specs.Polynomials.{trim, pad}
use Rattle.base_places.specs.Record.{poly, Held, Is}
use Rattle.base_places.specs.Pad.{length_pad, at_pad, take_pad}

module _ (q : ℕ) (c : List ℕ) (size : ℕ) where
  pub held_length : Held (prime q) c size → length c ≡ 129
  held_length h = ap length h.places ∙ length_pad (modulo q) 129 (poly c size)

  pub held_positive : Held (prime q) c size → 0 < q
  held_positive h = let w : get_or c 0 0 < q = h.reduced 0 in omega arith

  pub length_poly : Held (prime q) c size → length (poly c size) ≡ size
  length_poly h = let e : length c ≡ 129 = held_length h in let s : size ≤ 129 = h.short in length-take-le size c (omega arith)

  -- the record's places are the polynomial's coefficients
  pub at_poly : Held (prime q) c size → (i : ℕ) → get_or (poly c size) i 0 ≡ get_or c i 0
  at_poly h i =
      let e : length (poly c size) ≡ size = length_poly h in
      let s : size ≤ 129 = h.short in
      sym (ap (λ (l : List ℕ). get_or l i 0) h.places ∙ at_pad (modulo q) 129 (poly c size) (omega arith) i)

  module _ (l : List ℕ) where
    pub is_poly : Is (prime q) c size l → length l ≤ 129 → poly c size ≡ l
    is_poly h s = ap (λ (n : ℕ). take n c) h.size_is ∙ ap (take (length l)) h.places ∙ take_pad (modulo q) 129 l s

    pub is_held : Is (prime q) c size l → length l ≤ 129 → trim (modulo q) l ≡ l → ((i : ℕ) → get_or l i 0 < q) → Held (prime q) c size
    is_held h s t r =
        record {
          places = h.places ∙ ap (pad (modulo q) 129) (sym (is_poly h s));
          short = let e : size ≡ length l = h.size_is in omega arith;
          trimmed = subst (λ (p : List ℕ). trim (modulo q) p ≡ p) (sym (is_poly h s)) t;
          reduced = λ i. subst (λ (x : ℕ). x < q) (sym (ap (λ (p : List ℕ). get_or p i 0) h.places ∙ at_pad (modulo q) 129 l s i)) (r i);
        }

    -- place by place
    pub is_of : length c ≡ 129 → size ≡ length l → length l ≤ 129 → ((i : ℕ) → get_or c i 0 ≡ get_or l i 0) → Is (prime q) c size l
    is_of e n s h =
        record {
          places = ext_get_or 0 c (pad (modulo q) 129 l) (e ∙ sym (length_pad (modulo q) 129 l)) (λ i _. h i ∙ sym (at_pad (modulo q) 129 l s i));
          size_is = n;
        }
