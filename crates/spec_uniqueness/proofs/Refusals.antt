-- The proofs of specs/Refusals.
use Rattle.std.specs.Prelude.{ℕ, zero, suc, ◌≤◌, ◌≡◌, refl}
use Rattle.std.proofs.Common.{arith, sym, ◌∙◌}
use Rattle.spec_definitions.specs.Ticket.{refusal_of}
use Rattle.spec_sentences.specs.Sentences.{Applies}
use Rattle.spec_sentences.proofs.FirstRefusal.{t1}
use Rattle.spec_answers.proofs.Refusals.{number_most}
use Rattle.spec_uniqueness.specs.Refusals.{RefusalOnly}

-- ---- the proof
pub refusal_only : RefusalOnly
refusal_only w r s = go r refl
  where
    most : r ≤ 7
    most = number_most (λ j. Applies j w) r s.refused s.accepted

    go : (k : ℕ) → r ≡ k → r ≡ refusal_of w
    go zero e = e ∙ sym ((t1 w).accepted.1 (s.accepted.0 e))
    go (suc k) e = let high : suc k ≤ 7 = omega (arith, most) in e ∙ sym (((t1 w).refused (suc k) (omega arith) high).1 ((s.refused (suc k) (omega arith) high).0 e))
