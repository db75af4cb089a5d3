-- The proofs of specs/SquareCount.
use Rattle.std.specs.Prelude.{ℕ, zero, suc, ◌-◌, ◌^◌, ◌<◌, ◌≡◌, refl, List, get_or}
use Rattle.std.proofs.Common.{eq-or-lt_of_le, arith, sym, ap, ◌∙◌, subst, ⊎_elim, ext_get_or}
use Rattle.math_ring.specs.Residues.{Fq, FqRing}
use Rattle.math_algebra.specs.Field.{Field}
use Rattle.math_algebra.specs.Polynomial.{Px, Monic}
use Rattle.math_algebra.specs.Squarefree.{SquareFactor}
use Rattle.math_algebra.specs.Fermat.{perfect_residues}
use Rattle.spec_arithmetic.specs.Field.{prime, ops}
use Rattle.spec_definitions.specs.Ticket.{not_squarefree}
use Rattle.spec_bridge.specs.Model.{Model, series}
use Rattle.spec_bridge.specs.Trim.{below_length}
use Rattle.spec_bridge.specs.Coefficients.{coefficients, series_coefficients, length_coefficients, oks_coefficients}
use Rattle.spec_bridge.specs.Prime.{Prime}
use Rattle.spec_bridge.specs.Residues.{pos, model, onto, field, to_one_to_one}
use Rattle.spec_fields.specs.Named.{residues}
use Rattle.spec_sentences.specs.Sentences.{SquareDivides}
use Rattle.spec_sentences.proofs.Squares.{square_factor, square_lists, tests_square}
use Rattle.math_counting.specs.Pigeonhole.{Bijection}
use Rattle.math_counting.specs.Count.{count}
use Rattle.math_counting.specs.HowMany.{HowMany}
use Rattle.math_counting.proofs.HowMany.{equally_many, how_many_tested}
use Rattle.math_counting.specs.SquareFactors.{Lifts}
use Rattle.math_counting.proofs.SquareFactors.{square_factors}
use Rattle.spec_monics.specs.Monics.{MonicList, monics}
use Rattle.spec_monics.proofs.Monics.{monic_many}
use Rattle.spec_monics.specs.SquareCount.{SquareMany, SquareCount}

-- ---- the proof
module _ (q : ℕ) (p : Prime q) (more : 2 < q) where
  abbrev M : Model (ops (prime q)) (FqRing q (pos q p))
  M = model q (pos q p)

  abbrev K : Field (Fq q)
  K = field q p more

  -- ---- monic lists and monic polynomials
  -- the coefficient of x^n is below q too
  list_below : (n : ℕ) (l : List ℕ) → MonicList q n l → (i : ℕ) → i < suc n → get_or l i 0 < q
  list_below n l t i h = ⊎_elim (λ e. subst (λ (k : ℕ). k < q) (sym (ap (λ (j : ℕ). get_or l j 0) (let w : i ≡ n = omega arith in w) ∙ t.top)) (omega arith)) (λ k. t.below i (omega arith)) (eq-or-lt_of_le h)

  list_monic : (n : ℕ) (l : List ℕ) → MonicList q n l → Monic K (series M l) n
  list_monic n l t = record { low = λ i h. below_length M l i (omega (arith, t.size)); top = ap M.φ t.top }

  -- two with the same polynomial are the same
  list_same : (n : ℕ) (l m : List ℕ) → MonicList q n l → MonicList q n m → series M l ≡ series M m → l ≡ m
  list_same n l m t u e = ext_get_or 0 l m (t.size ∙ sym u.size) (λ i h. to_one_to_one q (pos q p) (get_or l i 0) (get_or m i 0) (list_below n l t i (omega (arith, t.size))) (list_below n m u i (omega (arith, t.size))) (ap (λ (f : Px K). f i) e))

  monic_list : (n : ℕ) (f : Px K) → Monic K f n → (l : List ℕ) × MonicList q n l × (series M l ≡ f)
  monic_list n f m = (l, record { size = length_coefficients M (onto q p) f (suc n); below = λ i h. ok i; top = to_one_to_one q (pos q p) _ 1 (ok n) p.two (ap (λ (g : Px K). g n) is ∙ m.top) }, is)
    where
      l : List ℕ
      l = coefficients M (onto q p) f (suc n)

      ok : (i : ℕ) → get_or l i 0 < q
      ok = oks_coefficients M (onto q p) f (suc n)

      is : series M l ≡ f
      is = series_coefficients M (onto q p) f (suc n) m.low

  -- ---- the correspondence of polynomials, on lists
  module _ (n : ℕ) where
    abbrev polynomials : Bijection (Lifts K) (λ t. Monic K t (suc n)) (λ D. Monic K D (suc (suc n)) × SquareFactor K D)
    polynomials = square_factors K (perfect_residues q (pos q p) p K refl) n

    lists : Bijection (λ t D. Lifts K (series M t) (series M D)) (MonicList q (suc n)) (λ D. MonicList q (suc (suc n)) D × SquareDivides (prime q) D)
    lists = record {
      right = record {
        partner = λ t m.
            let r = polynomials.right.partner (series M t) (list_monic (suc n) t m) in
            let l = monic_list (suc (suc n)) r.0 r.1.0 in
            (l.0, (l.1, square_lists (prime q) (residues (prime q) p more) l.0 (subst (SquareFactor K) (sym l.2) r.1.1)), subst (Lifts K (series M t)) (sym l.2) r.2);
        single = λ t u D m k s a b. list_same (suc n) t u m k (polynomials.right.single (series M t) (series M u) (series M D) (list_monic (suc n) t m) (list_monic (suc n) u k) (list_monic (suc (suc n)) D s.0, square_factor (prime q) (residues (prime q) p more) D s.1) a b);
      };
      left = record {
        partner = λ D s.
            let r = polynomials.left.partner (series M D) (list_monic (suc (suc n)) D s.0, square_factor (prime q) (residues (prime q) p more) D s.1) in
            let l = monic_list (suc n) r.0 r.1 in
            (l.0, l.1, subst (λ f. Lifts K f (series M D)) (sym l.2) r.2);
        single = λ D E t s r m a b. list_same (suc (suc n)) D E s.0 r.0 (polynomials.left.single (series M D) (series M E) (series M t) (list_monic (suc (suc n)) D s.0, square_factor (prime q) (residues (prime q) p more) D s.1) (list_monic (suc (suc n)) E r.0, square_factor (prime q) (residues (prime q) p more) E r.1) (list_monic (suc n) t m) a b);
      };
    }

-- ---- how many
module _ (q n : ℕ) (p : Prime q) (more : 2 < q) where
  tested : HowMany (λ D. MonicList q n D × SquareDivides (prime q) D) (count (not_squarefree (prime q)) (monics q n))
  unfolding monic_many
  tested = how_many_tested (MonicList q n) (SquareDivides (prime q)) (q ^ n) (monic_many q n) (not_squarefree (prime q)) (λ D t. tests_square (prime q) (residues (prime q) p more) D n (omega (arith, t.size)) t.top)

pub square_count : SquareCount
square_count q zero p more l = absurd (omega arith)
square_count q (suc zero) p more l = absurd (omega arith)
square_count q (suc (suc n)) p more l = sym (equally_many _ _ _ _ _ (lists q p more n) (monic_many q (suc n)) (tested q (suc (suc n)) p more)) ∙ ap (λ k. q ^ k) (let e : suc n ≡ suc (suc n) - 1 = omega arith in e)

pub square_many : SquareMany
square_many q n p more l = subst (HowMany _) (square_count q n p more l) (tested q n p more)
