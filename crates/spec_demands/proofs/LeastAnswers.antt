-- The proofs of specs/LeastAnswers.
use Rattle.std.specs.Prelude.{ℕ, ◌≡◌, List}
use Rattle.std.proofs.Common.{sym, subst, ⊎_elim}
use Rattle.spec_definitions.specs.Ticket.{ticket_of}
use Rattle.spec_definitions.specs.Answers.{found, spent, refused, said, words_outcome}
use Rattle.spec_definitions.specs.Units.{Lists, unit_answer}
use Rattle.spec_definitions.specs.Listing.{listing_answer}
use Rattle.spec_laws.specs.Cases.{refused_not_spent}
use Rattle.spec_demands.specs.LeastDegree.{Least}
use Rattle.spec_demands.proofs.LeastDegree.{t3}
use Rattle.spec_demands.proofs.Written.{t3_unit}
use Rattle.spec_demands.proofs.Numbered.{unit_says, listing_says}
use Rattle.spec_demands.specs.LeastAnswers.{T3Listing, T3Written}

-- ---- the proof
pub t3_listing : T3Listing
unfolding listing_answer
t3_listing w l x e = ⊎_elim (λ h. subst (Least w) h (t3 w)) (λ h. subst (Least w) (sym h) tt) (listing_says (ticket_of w) l x (words_outcome w) e)

unit_spent : (w : List ℕ) (l : Lists) (k d : ℕ) → (unit_answer w l).says ≡ said (spent k d) → Least w (spent k d)
unfolding unit_answer
unit_spent w l k d e = ⊎_elim (λ h. subst (Least w) h (t3 w)) (λ h. absurd (refused_not_spent 12 k d (sym h))) (unit_says (ticket_of w) l (spent k d) (words_outcome w) e)

pub t3_written : T3Written
t3_written w l (found R m c) e = t3_unit w l R m c e
t3_written w l (spent k d) e = unit_spent w l k d e
t3_written w l (refused j) e = tt
