-- What the answer `found` of the call `listing` says of the ticket and of the lent list: a degree of 2 to 64,
-- and room for every record.
use Prim.Native.Nat.{ℕ, min, zero, suc, ◌+◌, ◌*◌, ◌-◌, ◌≤◌, ◌<◌}
use native.Mathlib.Omega.{arith}
use Rattle.std.specs.Prelude.{◌≡◌, List, get_or, take, drop}
use Rattle.std.proofs.Math.Path.{refl, subst}
use Rattle.std.proofs.Common.{sym}
use Rattle.std.proofs.Math.ListN.{length, length-map, length-take, length-drop}
use Rattle.spec_arithmetic.specs.Words.{value}
use Rattle.spec_definitions.specs.Ticket.{Ticket, genus, ticket_of, refusal_of}
use Rattle.spec_definitions.specs.Answers.{Outcome, found, spent, refused, said, said_injective, outcome_of, words_outcome}
use Rattle.spec_definitions.specs.Listing.{listing_from, listing_answer}
use Rattle.listing_found.specs.Answers.{room_cases}
use Rattle.spec_laws.specs.Admitted.{passed, admitted, allowed_degree}

pub record Fits (w l : List ℕ) (m : ℕ) : Type 0 where
  pub words : 1 < length w
  pub least : 2 ≤ (ticket_of w).n
  pub most : (ticket_of w).n ≤ 64
  pub room : m * ((ticket_of w).n + 4) ≤ length l

module _ (R m c : ℕ) where
  not_refused : (j : ℕ) → said (found R m c) ≡ said (refused j) → ⊥
  not_refused j e = let h = said_injective (found R m c) (refused j) e in let z : ◌≡◌ {A = ℕ} 0 1 = cc in omega arith

  not_spent : (k e : ℕ) → said (found R m c) ≡ said (spent k e) → ⊥
  not_spent k e h = let g = said_injective (found R m c) (spent k e) h in let z : ◌≡◌ {A = ℕ} 0 1 = cc in omega arith

  room_of : (t : Ticket) (x : Outcome) (l : List ℕ) → said (found R m c) ≡ (listing_from t x l).says → m * (t.n + 4) ≤ length l
  unfolding listing_from
  room_of t (found R' m' c') l e =
      room_cases (λ a. said (found R m c) ≡ a.says → m * (t.n + 4) ≤ length l) t R' m' c' l
      (λ k f. let h : found R m c ≡ found R' m' c' = said_injective _ _ f in let i : m' ≡ m = cc in subst (λ (j : ℕ). j * (t.n + 4) ≤ length l) i k)
      (λ k f. absurd (not_refused 13 f))
      e
  room_of t (spent k d) l e = absurd (not_spent k d e)
  room_of t (refused j) l e = absurd (not_refused j e)

  module _ (w l : List ℕ) (e : said (found R m c) ≡ (listing_answer w l).says) where
    passes : refusal_of w ≡ 0
    unfolding listing_answer words_outcome listing_from
    passes = go (refusal_of w) e
      where
        go : (r : ℕ) → said (found R m c) ≡ (listing_from (ticket_of w) (elim r [ zero ↦ outcome_of (ticket_of w) | suc k ↦ refused (suc k) ]) l).says → r ≡ 0
        go zero h = refl
        go (suc k) h = absurd (not_refused (suc k) h)

    -- D has its n + 1 words after the first two
    words_of : 1 < length w
    unfolding ticket_of
    words_of =
        let n : ℕ = value (get_or w 1 0) in
        let a : length (ticket_of w).D ≡ suc (suc (genus (ticket_of w).n) + suc (genus (ticket_of w).n)) = (admitted w passes).size_D in
        let b : length (ticket_of w).D ≡ length (take (n + 1) (drop 2 w)) = length-map (take (n + 1) (drop 2 w)) value in
        let d : length (take (n + 1) (drop 2 w)) ≡ min (n + 1) (length (drop 2 w)) = length-take (n + 1) (drop 2 w) in
        let f : length (drop 2 w) ≡ length w - 2 = length-drop 2 w in
        omega arith

    pub found_fits : Fits w l m
    unfolding listing_answer
    found_fits =
        let d = allowed_degree (ticket_of w).n (passed w passes).degree in
        let s = d.0 in
        let t = d.1 in
        record { words = words_of; least = omega arith; most = omega arith; room = room_of (ticket_of w) (words_outcome w) l e }

-- the records, in a list that is as long as the lent one
pub records_fit : {w l : List ℕ} {m n : ℕ} → Fits w l m → n ≡ (ticket_of w).n → (list : List ℕ) → length list ≡ length l → (2 ≤ n) × (n ≤ 64) × (m * (n + 4) ≤ length list)
records_fit {w} {l} {m} {n} f e list h =
    let least = f.least in
    let most = f.most in
    let room : m * (n + 4) ≤ length l = subst (λ (k : ℕ). m * (k + 4) ≤ length l) (sym e) f.room in
    (omega arith, omega arith, omega arith)
