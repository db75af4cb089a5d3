-- What the walk starts from, in places: the root d of D, 2d and 1, each as the places of its list.
use Rattle.std.specs.Prelude.{ℕ, suc, ◌+◌, ◌*◌, ◌/◌, ◌%◌, ◌≤◌, ◌<◌, ◌≡◌, List, [], ◌∷◌, length, get_or, set}
use Rattle.std.proofs.Common.{mod-lt, mod-eq_of_lt, add-one, arith, sym, ap, ◌∙◌, subst, ext_get_or}
use Rattle.std.proofs.Math.Nat.{div-add-mod}
use Rattle.spec_arithmetic.specs.Field.{prime, modulo}
use Rattle.spec_arithmetic.specs.Polynomials.{trim, pad, add, root}
use Rattle.spec_definitions.specs.Ticket.{genus}
use Rattle.spec_bridge.specs.Arithmetic.{at_add}
use Rattle.spec_bridge.specs.Lengths.{length_add}
use Rattle.spec_bridge.specs.Residues.{model, pos}
use Rattle.spec_laws.specs.Admitted.{Admitted, surd_of}
use Rattle.spec_laws.specs.Walk.{d_length}
use Rattle.base_places.specs.Record.{poly, Held}
use Rattle.base_places.specs.Held.{at_poly}
use Rattle.base_places.specs.Pad.{length_pad, at_pad}
use Rattle.base_places.specs.Places.{Places, Within, zeros}
use Rattle.walk_state.specs.Rooted.{root_cong}
use Rattle.walk_state.specs.State.{root_d, pad_within}

-- n/2 = g + 1
pub half_degree : (n : ℕ) → 2 ≤ n → n / 2 ≡ suc (genus n)
unfolding genus
half_degree n h = let w : 2 * (n / 2) + n % 2 ≡ n = div-add-mod n 2 in let r : n % 2 < 2 = mod-lt n (omega arith) in omega arith

pub top_is : (n : ℕ) → 2 ≤ n → n / 2 + 1 ≡ suc (suc (genus n))
top_is n h = add-one (n / 2) ∙ ap suc (half_degree n h)

-- 1
pub one_is : (q : ℕ) → 1 < q → set zeros 0 1 ≡ pad (modulo q) 129 (1 % q ∷ [])
unfolding pad
one_is q h = ap (λ (x : ℕ). x ∷ pad (modulo q) 128 []) (sym (mod-eq_of_lt h))

module _ (q n : ℕ) (c : List ℕ) (size : ℕ) (h : Admitted (prime q) (genus n) (poly c size)) (k : Held (prime q) c size) (two : 2 ≤ n) where
  abbrev d : List ℕ
  d = root_d (prime q) (genus n) (poly c size)

  pub root_places : (x : List ℕ) → x ≡ pad (modulo q) 129 (root (modulo q) c (n / 2)) → x ≡ pad (modulo q) 129 d
  root_places x e = e ∙ ap (pad (modulo q) 129) (ap (root (modulo q) c) (half_degree n two) ∙ root_cong q (pos q h.prime) c (poly c size) (λ i. sym (at_poly q c size k i)) (suc (genus n)))

  pub root_within : (x : List ℕ) → x ≡ pad (modulo q) 129 d → Within (prime q) x (suc (suc (genus n)))
  root_within x e = subst (λ (l : List ℕ). Within (prime q) l (suc (suc (genus n)))) (sym e) (pad_within q d _ (let l = d_length (surd_of h) in omega arith) (let g = h.genus_most in omega arith) (surd_of h).reduced)

  pub twice_places : (x y : List ℕ) → x ≡ pad (modulo q) 129 d → Places y (λ i. (modulo q).add (get_or x i 0) (get_or x i 0)) → y ≡ pad (modulo q) 129 (add (modulo q) d d)
  twice_places x y e p =
      let g = h.genus_most in
      let l = d_length (surd_of h) in
      let t : length (trim (modulo q) d) ≡ length d = ap length (surd_of h).trimmed in
      let s = length_add (model q (pos q h.prime)) d d 129 (omega arith) (omega arith) in
      ext_get_or 0 y _ (p.long ∙ sym (length_pad (modulo q) 129 _)) (λ i _. p.at i ∙ ap (λ (v : ℕ). (modulo q).add v v) (ap (λ (z : List ℕ). get_or z i 0) e ∙ at_pad (modulo q) 129 d (omega arith) i) ∙ sym (at_pad (modulo q) 129 _ s i ∙ at_add (model q (pos q h.prime)) d d i))
