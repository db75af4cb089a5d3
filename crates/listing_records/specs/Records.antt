-- The records of a listing as words: one record more stands at the end.
use Prim.Native.Nat.{ℕ, zero, suc, ◌+◌}
use Rattle.std.proofs.Common.{add-zero, add-suc, suc-add, arith, ◌∙◌}
use Rattle.std.specs.Prelude.{◌≡◌}
use Rattle.std.proofs.Math.Path.{sym, ap}
use mathlib.Core.List.{List, ◌++◌, append_assoc, append-nil}
use Rattle.spec_definitions.specs.Ticket.{Ticket}
use Rattle.spec_definitions.specs.Listing.{record_of, records_from}

module _ (t : Ticket) (R : ℕ) where
  from : (j k : ℕ) → records_from t R j (suc k) ≡ records_from t R j k ++ record_of t R (j + k)
  unfolding records_from
  from j zero = append-nil (record_of t R j) ∙ ap (record_of t R) (sym (add-zero j))
  from j (suc k) = ap (λ (l : List ℕ). record_of t R j ++ l) (from (suc j) k ∙ ap (λ (i : ℕ). records_from t R (suc j) k ++ record_of t R i) (suc-add j k ∙ sym (add-suc j k))) ∙ sym (append_assoc (record_of t R j) (records_from t R (suc j) k) _)

  pub records_next : (k : ℕ) → records_from t R 0 (suc k) ≡ records_from t R 0 k ++ record_of t R k
  records_next k = from 0 k ∙ ap (λ (i : ℕ). records_from t R 0 k ++ record_of t R i) (omega arith)
