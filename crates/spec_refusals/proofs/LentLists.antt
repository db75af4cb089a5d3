-- The proofs of specs/LentLists.
use Rattle.std.specs.Prelude.{ℕ, zero, suc, ◌+◌, ◌*◌, ◌≤◌, ◌<◌, ◌≡◌, refl, Bool, true, false, List, [], ◌∷◌, ◌++◌, length, take, drop, replicate}
use Rattle.std.proofs.Common.{arith, sym, ◌∙◌, subst, ⊎_elim, leb-true, leb-false, le-leb}
use Rattle.std.proofs.Math.Path.{ap, ap₂}
use Rattle.std.proofs.Math.Logic.{inl, inr}
use Rattle.std.proofs.Math.Bool.{◌&&◌, and-false}
use Rattle.std.proofs.lemmas.Bool.{false≢true, lt-leb}
use Rattle.std.proofs.Math.Dec.{leb}
use Rattle.std.proofs.Math.ListN.{length-append, length-drop}
use Rattle.std.proofs.Math.Seq.{take_at, drop_at}
use Rattle.math_ring.specs.Order.{le_or_lt}
use Rattle.spec_arithmetic.specs.Field.{FieldName, ops}
use Rattle.spec_arithmetic.specs.Polynomials.{pad}
use Rattle.spec_definitions.specs.Ticket.{Ticket, genus, ticket_of, refusal_of}
use Rattle.spec_definitions.specs.Answers.{Outcome, found, spent, refused, said, said_injective, ops_of, outcome_of, words_outcome}
use Rattle.spec_definitions.specs.Units.{Lists, UnitAnswer, long_enough, written, unit_lists, unit_from, unit_answer}
use Rattle.spec_definitions.specs.Listing.{ListingAnswer, listing_of, listing_from, listing_answer}
use Rattle.spec_laws.specs.Admitted.{passed, allowed_degree}
use Rattle.spec_laws.specs.Cases.{spent_not_found, refused_not_found, found_numbers}
use Rattle.spec_lists.specs.Pad.{length_pad}
use Rattle.spec_refusals.proofs.Records.{length_listing}
use Rattle.spec_refusals.specs.LentLists.{KeepsFrom, Short, UnitKeeps, ListingKeeps, T1Lists}

-- ---- rooms
pub at_least : (k m : ℕ) {P : Type 0} → ¬ P → (m < k → P) → k ≤ m
at_least k m never f = ⊎_elim (λ s. s) (λ s. absurd (never (f s))) (le_or_lt k m)

module _ (k : ℕ) (l : Lists) where
  abbrev a : Bool
  a = leb k (length l.first)

  abbrev b : Bool
  b = leb k (length l.second)

  abbrev c : Bool
  c = leb k (length l.third)

  short_false : Short k l → long_enough k l ≡ false
  unfolding long_enough
  short_false (inl h) = ap (λ (x : Bool). x && b && c && leb k (length l.fourth)) (lt-leb k (length l.first) h)
  short_false (inr (inl h)) = ap (λ (x : Bool). a && x && c && leb k (length l.fourth)) (lt-leb k (length l.second) h) ∙ ap (λ (x : Bool). x && c && leb k (length l.fourth)) (and-false a)
  short_false (inr (inr (inl h))) = ap (λ (x : Bool). a && b && x && leb k (length l.fourth)) (lt-leb k (length l.third) h) ∙ ap (λ (x : Bool). x && leb k (length l.fourth)) (and-false (a && b))
  short_false (inr (inr (inr h))) = ap (λ (x : Bool). a && b && c && x) (lt-leb k (length l.fourth) h) ∙ and-false (a && b && c)

  enough_true : ¬ Short k l → long_enough k l ≡ true
  unfolding long_enough
  enough_true h = ap₂ ◌&&◌ (ap₂ ◌&&◌ (ap₂ ◌&&◌ (le-leb k (length l.first) (at_least k _ h (λ s. inl s))) (le-leb k (length l.second) (at_least k _ h (λ s. inr (inl s))))) (le-leb k (length l.third) (at_least k _ h (λ s. inr (inr (inl s)))))) (le-leb k (length l.fourth) (at_least k _ h (λ s. inr (inr (inr s)))))

  long_not_short : long_enough k l ≡ true → ¬ Short k l
  long_not_short e s = false≢true (sym (short_false s) ∙ e)

-- ---- what is written in one list
pad_zeros : (f : FieldName) (k : ℕ) → pad (ops f) k [] ≡ replicate k 0
unfolding pad
pad_zeros f zero = refl
pad_zeros f (suc k) = ap (λ (l : List ℕ). 0 ∷ l) (pad_zeros f k)

module _ (t : Ticket) (k : ℕ) (old : List ℕ) where
  zeros : take k (written t k [] old) ≡ replicate k 0
  unfolding written
  zeros = take_at (pad (ops_of t) k []) (drop k old) k (length_pad (ops_of t) k []) ∙ pad_zeros t.field k

  keeps : (l : List ℕ) → k ≤ length old → KeepsFrom k old (written t k l old)
  unfolding written
  keeps l h = record {
    long = let a = length-append (pad (ops_of t) k l) (drop k old) in let b = length_pad (ops_of t) k l in let c = length-drop k old in omega arith;
    later = drop_at (pad (ops_of t) k l) (drop k old) k (length_pad (ops_of t) k l);
  }

-- ---- the call `unit`
not_found : (x : Outcome) (R m c : ℕ) → ((R m c : ℕ) → x ≡ found R m c → ⊥) → said x ≡ said (found R m c) → ⊥
not_found x R m c never e = never R m c (said_injective x (found R m c) e)

-- an outcome other than found is passed on, with the lists as they are
unit_other : (x : Outcome) (l : Lists) → ((R m c : ℕ) → x ≡ found R m c → ⊥) → UnitKeeps x l (record { says = said x; lists = l })
unit_other x l never = record {
  short = λ R m c e s. absurd (never R m c e);
  enough = λ R m c e s. absurd (never R m c e);
  other = λ _. refl;
  kept = λ _. refl;
  cleared = λ R m c e. absurd (not_found x R m c never e);
  later = λ R m c e. absurd (not_found x R m c never e);
}

unit_keeps : (t : Ticket) (x : Outcome) (l : Lists) → UnitKeeps x l (unit_from t x l)
unfolding unit_from unit_lists
unit_keeps t (spent k e) l = unit_other (spent k e) l (spent_not_found k e)
unit_keeps t (refused j) l = unit_other (refused j) l (refused_not_found j)
unit_keeps t (found R m c) l = go (long_enough (suc R) l) refl
  where
    go : (b : Bool) → long_enough (suc R) l ≡ b → UnitKeeps (found R m c) l (elim b as (λ _. UnitAnswer) [ true ↦ record { says = said (found R m c); lists = unit_lists t R m l } | false ↦ record { says = said (refused 12); lists = l } ])
    go true e = record {
      short = λ R' m' c' f s. absurd (never (subst (λ (k : ℕ). Short (suc k) l) (sym (found_numbers f).0) s));
      enough = λ R' m' c' f s. ap said f;
      other = λ h. absurd (h R m c refl);
      kept = λ h. absurd (h R m c refl);
      cleared = λ R' m' c' f. subst (λ (k : ℕ). (take (suc k) lists.third ≡ replicate (suc k) 0) × (take (suc k) lists.fourth ≡ replicate (suc k) 0)) (found_numbers (said_injective _ _ f)).0 (zeros t (suc R) l.third, zeros t (suc R) l.fourth);
      later = λ R' m' c' f. subst (λ (k : ℕ). KeepsFrom (suc k) l.first lists.first × KeepsFrom (suc k) l.second lists.second × KeepsFrom (suc k) l.third lists.third × KeepsFrom (suc k) l.fourth lists.fourth) (found_numbers (said_injective _ _ f)).0 (keeps t (suc R) l.first _ (at_least (suc R) _ never (λ s. inl s)), keeps t (suc R) l.second _ (at_least (suc R) _ never (λ s. inr (inl s))), keeps t (suc R) l.third _ (at_least (suc R) _ never (λ s. inr (inr (inl s)))), keeps t (suc R) l.fourth _ (at_least (suc R) _ never (λ s. inr (inr (inr s)))));
    }
      where
        never : ¬ Short (suc R) l
        never = long_not_short (suc R) l e

        lists : Lists
        lists = unit_lists t R m l
    go false e = record {
      short = λ R' m' c' f s. refl;
      enough = λ R' m' c' f s. absurd (false≢true (sym e ∙ enough_true (suc R) l (subst (λ (k : ℕ). ¬ Short (suc k) l) (sym (found_numbers f).0) s)));
      other = λ h. absurd (h R m c refl);
      kept = λ h. refl;
      cleared = λ R' m' c' f. absurd (refused_not_found 12 R' m' c' (said_injective _ _ f));
      later = λ R' m' c' f. absurd (refused_not_found 12 R' m' c' (said_injective _ _ f));
    }

-- ---- the call `listing`
listing_other : (t : Ticket) (x : Outcome) (l : List ℕ) → ((R m c : ℕ) → x ≡ found R m c → ⊥) → ListingKeeps t x l (record { says = said x; list = l })
listing_other t x l never = record {
  short = λ R m c e s. absurd (never R m c e);
  enough = λ R m c e s. absurd (never R m c e);
  other = λ _. refl;
  kept = λ _. refl;
  records = λ R m c e. absurd (not_found x R m c never e);
  later = λ R m c e. absurd (not_found x R m c never e);
}

listing_keeps : (t : Ticket) (x : Outcome) (l : List ℕ) → ((R m c : ℕ) → x ≡ found R m c → suc (genus t.n) + suc (genus t.n) ≡ t.n) → ListingKeeps t x l (listing_from t x l)
unfolding listing_from
listing_keeps t (spent k e) l even = listing_other t (spent k e) l (spent_not_found k e)
listing_keeps t (refused j) l even = listing_other t (refused j) l (refused_not_found j)
listing_keeps t (found R m c) l even = go (leb (m * (t.n + 4)) (length l)) refl
  where
    long : length (listing_of t R m) ≡ m * (t.n + 4)
    long = length_listing t R (even R m c refl) m

    go : (b : Bool) → leb (m * (t.n + 4)) (length l) ≡ b → ListingKeeps t (found R m c) l (elim b as (λ _. ListingAnswer) [ true ↦ record { says = said (found R m c); list = listing_of t R m ++ drop (m * (t.n + 4)) l } | false ↦ record { says = said (refused 13); list = l } ])
    go true e = record {
      short = λ R' m' c' f s. absurd (let i : m ≡ m' = (found_numbers f).1 in let h = leb-true (m * (t.n + 4)) (length l) e in let k : m * (t.n + 4) ≡ m' * (t.n + 4) = ap (λ (j : ℕ). j * (t.n + 4)) i in omega arith);
      enough = λ R' m' c' f s. ap said f;
      other = λ h. absurd (h R m c refl);
      kept = λ h. absurd (h R m c refl);
      records = λ R' m' c' f. let g : found R m c ≡ found R' m' c' = said_injective _ _ f in ap (λ (j : ℕ). take (j * (t.n + 4)) (listing_of t R m ++ drop (m * (t.n + 4)) l)) (sym (found_numbers g).1) ∙ take_at (listing_of t R m) (drop (m * (t.n + 4)) l) (m * (t.n + 4)) long ∙ ap₂ (listing_of t) (found_numbers g).0 (found_numbers g).1;
      later = λ R' m' c' f. subst (λ (j : ℕ). KeepsFrom (j * (t.n + 4)) l (listing_of t R m ++ drop (m * (t.n + 4)) l)) (found_numbers (said_injective _ _ f)).1 (record { long = let a = length-append (listing_of t R m) (drop (m * (t.n + 4)) l) in let b = length-drop (m * (t.n + 4)) l in let h = leb-true (m * (t.n + 4)) (length l) e in omega (arith, long); later = drop_at (listing_of t R m) (drop (m * (t.n + 4)) l) (m * (t.n + 4)) long });
    }
    go false e = record {
      short = λ R' m' c' f s. refl;
      enough = λ R' m' c' f s. absurd (let i : m ≡ m' = (found_numbers f).1 in let h = leb-false (m * (t.n + 4)) (length l) e in let k : m * (t.n + 4) ≡ m' * (t.n + 4) = ap (λ (j : ℕ). j * (t.n + 4)) i in omega arith);
      other = λ h. absurd (h R m c refl);
      kept = λ h. refl;
      records = λ R' m' c' f. absurd (refused_not_found 13 R' m' c' (said_injective _ _ f));
      later = λ R' m' c' f. absurd (refused_not_found 13 R' m' c' (said_injective _ _ f));
    }

-- what is found is past the refusals
pub found_passes : (w : List ℕ) (R m c : ℕ) → words_outcome w ≡ found R m c → refusal_of w ≡ 0
unfolding words_outcome
found_passes w R m c = go (refusal_of w)
  where
    go : (r : ℕ) → (elim r [ zero ↦ outcome_of (ticket_of w) | suc k ↦ refused (suc k) ]) ≡ found R m c → r ≡ 0
    go zero e = refl
    go (suc k) e = absurd (refused_not_found (suc k) R m c e)

pub t1_lists : T1Lists
unfolding unit_answer listing_answer
t1_lists = (λ w l. unit_keeps (ticket_of w) (words_outcome w) l, λ w l. listing_keeps (ticket_of w) (words_outcome w) l (λ R m c e. (allowed_degree (ticket_of w).n (passed w (found_passes w R m c e)).degree).0))
