-- One place is filled; the size is found from it.
use Rattle.std.proofs.Common.{◌≡◌, refl, sym, ◌∙◌, List, [], ◌∷◌, ℕ, zero, suc, ◌<◌, ◌≤◌, arith, get_or, set}
use Rattle.spec_arithmetic.specs.Field.{FieldName, modulo}
use Rattle.spec_arithmetic.specs.Polynomials.{trim}
use Rattle.spec_bridge.specs.Trim.{at_trim, trim_idem}
use Rattle.spec_bridge.specs.Residues.{model}
use Rattle.base_places.specs.Places.{Places, filled_more, filled_all}
use Rattle.base_places.specs.Record.{Is}
use Rattle.base_polynomial.specs.Linear.{is_result}
use Rattle.base_field.specs.Named.{name}
use Rattle.base_division.specs.Divided.{zero_filled}
use Rattle.base_euclid.proofs.bezout.constant.Goals as goal

past : (c i : ℕ) → 1 ≤ i → get_or (c ∷ []) i 0 ≡ 0
past c zero h = absurd (omega arith)
past c (suc i) h = refl

one_place : {f : FieldName} {z : List ℕ} {size : ℕ} → Is f z size [] → (c : ℕ) → Places (set z 0 c) (λ i. get_or (c ∷ []) i 0)
one_place z_is c = filled_all _ _ 1 (filled_more (λ i. get_or (c ∷ []) i 0) _ 0 c (zero_filled z_is _) (omega arith) refl) (past c)

module _ (q c : ℕ) (less : c < q) where
  reduced : (i : ℕ) → get_or (c ∷ []) i 0 < q
  reduced zero = less
  reduced (suc i) = omega arith

  trimmed_place : (l : List ℕ) → Places l (λ i. get_or (c ∷ []) i 0) → Places l (λ i. get_or (trim (modulo q) (c ∷ [])) i 0)
  trimmed_place l p = record { long = p.long; at = λ i. p.at i ∙ sym (at_trim (model q (omega arith)) (c ∷ []) reduced i) }

pub top-u-requires-clause-by_index : goal.top-u-requires-clause-by_index
top-u-requires-clause-by_index c =
    let v = c.args.c in
    λ i h. (one_place (c.zero.ensures (name c.args.f)) v).at i ∙ past v i h

pub returns : goal.returns
returns c =
    let q = c.args.f.q in
    is_result q (omega arith) _ _ _ (trim_idem (model q (omega arith)) _) (trimmed_place q c.args.c c.requires _ (one_place (c.zero.ensures (name c.args.f)) c.args.c)) c.top-u.ensures
