-- The proofs of specs/Places.
use Rattle.std.specs.Prelude.{ℕ, suc, ◌+◌, ◌*◌, ◌≤◌, ◌<◌, ◌≡◌, refl, List, [], ◌∷◌, map, length, get_or, set}
use Rattle.std.proofs.Common.{arith, sym, ap, ◌∙◌, length-set, get_or-set_same, get_or-set_other}
use Rattle.spec_definitions.specs.Answers.{Outcome, Said, found, spent, refused, said}
use Rattle.spec_several.specs.Several.{most_primes}
use Rattle.out_numbers.specs.Numbers.{Plain}
use Rattle.out_several.specs.Places.{PlainAt, plain_places, Put, four}

-- found, spent, refused and a place past the last outcome
pub places_computed : plain_places (map said (found 8 7 3 ∷ spent 6 5 ∷ refused 14 ∷ refused 0 ∷ [])) ≡ 0 ∷ 8 ∷ 7 ∷ 3 ∷ 11 ∷ 6 ∷ 5 ∷ 0 ∷ 14 ∷ 0 ∷ 0 ∷ 0 ∷ 0 ∷ 0 ∷ 0 ∷ 0 ∷ []
unfolding plain_places said
places_computed = refl

-- ---- numbers that are what is said, place by place, are those
places_equal : (s : List Said) (out : List ℕ) → length out ≡ 4 * length s →
    ((i : ℕ) → i < length s → PlainAt out i (get_or s i (said (refused 0)))) → out ≡ plain_places s
unfolding plain_places
places_equal [] [] e h = refl
places_equal [] (a ∷ out) e h = absurd (omega arith)
places_equal (x ∷ s) [] e h = absurd (omega arith)
places_equal (x ∷ s) (a ∷ []) e h = absurd (omega arith)
places_equal (x ∷ s) (a ∷ b ∷ []) e h = absurd (omega arith)
places_equal (x ∷ s) (a ∷ b ∷ c ∷ []) e h = absurd (omega arith)
places_equal (x ∷ s) (a ∷ b ∷ c ∷ d ∷ out) e h =
    let p = h 0 (omega arith) in
    let rest = places_equal s out (omega arith) (λ i k. later i _ (h (suc i) (omega arith))) in
    λ i. p.number_is i ∷ p.first_is i ∷ p.second_is i ∷ p.third_is i ∷ rest i
  where
    at : (j k : ℕ) → k ≡ suc (suc (suc (suc j))) → get_or out j 0 ≡ get_or (a ∷ b ∷ c ∷ d ∷ out) k 0
    at j k e = ap (λ (m : ℕ). get_or (a ∷ b ∷ c ∷ d ∷ out) m 0) (sym e)

    later : (i : ℕ) (y : Said) → PlainAt (a ∷ b ∷ c ∷ d ∷ out) (suc i) y → PlainAt out i y
    later i y q = record {
      number_is = at (4 * i) (4 * suc i) (omega arith) ∙ q.number_is;
      first_is = at (4 * i + 1) (4 * suc i + 1) (omega arith) ∙ q.first_is;
      second_is = at (4 * i + 2) (4 * suc i + 2) (omega arith) ∙ q.second_is;
      third_is = at (4 * i + 3) (4 * suc i + 3) (omega arith) ∙ q.third_is;
    }

pub in_places : (s : List Said) (out : List ℕ) → length s ≡ most_primes → length out ≡ 4 * most_primes →
    ((i : ℕ) → i < most_primes → PlainAt out i (get_or s i (said (refused 0)))) → out ≡ plain_places s
in_places s out e f h = places_equal s out (omega arith) (λ i k. h i (omega arith))

before_set : (l : List ℕ) (i k v : ℕ) → k < i → get_or (set l i v) k 0 ≡ get_or l k 0
before_set l i k v h = get_or-set_other l i k v 0 (λ e. omega arith)

-- four stores, from place j of a list on
module _ (out : List ℕ) (j a b c d : ℕ) where
  abbrev one : List ℕ
  one = set out j a

  abbrev two : List ℕ
  two = set one (j + 1) b

  abbrev three : List ℕ
  three = set two (j + 2) c

  before_four : (k : ℕ) → k < j → get_or (four out j a b c d) k 0 ≡ get_or out k 0
  before_four k h =
      before_set three (j + 3) k d (omega arith)
      ∙ before_set two (j + 2) k c (omega arith)
      ∙ before_set one (j + 1) k b (omega arith)
      ∙ before_set out j k a h

  module _ (fits : j + 4 ≤ length out) where
    first_of_four : get_or (four out j a b c d) j 0 ≡ a
    first_of_four =
        before_set three (j + 3) j d (omega arith)
        ∙ before_set two (j + 2) j c (omega arith)
        ∙ before_set one (j + 1) j b (omega arith)
        ∙ get_or-set_same out j a 0 (omega arith)

    second_of_four : get_or (four out j a b c d) (j + 1) 0 ≡ b
    second_of_four =
        before_set three (j + 3) (j + 1) d (omega arith)
        ∙ before_set two (j + 2) (j + 1) c (omega arith)
        ∙ get_or-set_same one (j + 1) b 0 (simp length-set (omega arith))

    third_of_four : get_or (four out j a b c d) (j + 2) 0 ≡ c
    third_of_four =
        before_set three (j + 3) (j + 2) d (omega arith)
        ∙ get_or-set_same two (j + 2) c 0 (simp length-set (omega arith))

    fourth_of_four : get_or (four out j a b c d) (j + 3) 0 ≡ d
    fourth_of_four = get_or-set_same three (j + 3) d 0 (simp length-set (omega arith))

pub put_four : (out : List ℕ) (i a b c d : ℕ) (x : Outcome) → length out ≡ 4 * most_primes → i < most_primes →
    Plain (said x) a b c d → Put out i x (four out (4 * i) a b c d)
put_four out i a b c d x long h p = record {
  long = simp length-set long;
  here = record {
    number_is = first_of_four out (4 * i) a b c d (omega arith) ∙ p.number_is;
    first_is = second_of_four out (4 * i) a b c d (omega arith) ∙ p.first_is;
    second_is = third_of_four out (4 * i) a b c d (omega arith) ∙ p.second_is;
    third_is = fourth_of_four out (4 * i) a b c d (omega arith) ∙ p.third_is;
  };
  earlier = λ k l s q. record {
    number_is = before_four out (4 * i) a b c d (4 * k) (omega arith) ∙ q.number_is;
    first_is = before_four out (4 * i) a b c d (4 * k + 1) (omega arith) ∙ q.first_is;
    second_is = before_four out (4 * i) a b c d (4 * k + 2) (omega arith) ∙ q.second_is;
    third_is = before_four out (4 * i) a b c d (4 * k + 3) (omega arith) ∙ q.third_is;
  };
}
