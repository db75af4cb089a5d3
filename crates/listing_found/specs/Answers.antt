-- The answer of the call `listing` where a walk is found: with a list that is long enough, and with another.
use Rattle.std.specs.Prelude.{ℕ, ◌+◌, ◌*◌, ◌≤◌, ◌<◌, ◌≡◌, refl, Bool, true, false, List, ◌++◌, leb, length, drop}
use Rattle.std.proofs.Common.{arith, leb-true, leb-false}
use Rattle.spec_definitions.specs.Ticket.{Ticket}
use Rattle.spec_definitions.specs.Answers.{Outcome, found, refused, said}
use Rattle.spec_definitions.specs.Listing.{ListingAnswer, listing_of, listing_from}

-- what a call says and leaves in its list is the answer a
pub record Answers (a : ListingAnswer) (x : Outcome) (out : List ℕ) : Type 0 where
  pub says : said x ≡ a.says
  pub list : out ≡ a.list

-- what holds of the answer with room for every record and of the answer without holds of what is found
pub room_cases : (C : ListingAnswer → Type 0) (t : Ticket) (R m c : ℕ) (l : List ℕ) → (m * (t.n + 4) ≤ length l → C (record { says = said (found R m c); list = listing_of t R m ++ drop (m * (t.n + 4)) l })) → (length l < m * (t.n + 4) → C (record { says = said (refused 13); list = l })) → C (listing_from t (found R m c) l)
unfolding listing_from
room_cases C t R m c l long short = go (leb (m * (t.n + 4)) (length l)) refl
  where
    go : (x : Bool) → leb (m * (t.n + 4)) (length l) ≡ x → C (elim x [ true ↦ record { says = said (found R m c); list = listing_of t R m ++ drop (m * (t.n + 4)) l } | false ↦ record { says = said (refused 13); list = l } ])
    go true k = long (leb-true (m * (t.n + 4)) (length l) k)
    go false k = short (leb-false (m * (t.n + 4)) (length l) k)

module _ (t : Ticket) (R m c : ℕ) (l : List ℕ) where
  pub long_list : (out : List ℕ) → m * (t.n + 4) ≤ length l → out ≡ listing_of t R m ++ drop (m * (t.n + 4)) l → Answers (listing_from t (found R m c) l) (found R m c) out
  long_list out h e = room_cases (λ a. Answers a (found R m c) out) t R m c l (λ k. record { says = refl; list = e }) (λ k. absurd (omega arith))

  pub short_list : length l < m * (t.n + 4) → Answers (listing_from t (found R m c) l) (refused 13) l
  short_list h = room_cases (λ a. Answers a (refused 13) l) t R m c l (λ k. absurd (omega arith)) (λ k. record { says = refl; list = refl })
