-- The kinds of a ticket's words after the first two, place by place: n + 1 coefficients, the budget, the end.
use Rattle.std.specs.Prelude.{ℕ, ◌+◌, ◌<◌, ◌≡◌, [], ◌∷◌, length, get_or, replicate}
use Rattle.std.proofs.Common.{arith, sym, ap, ◌∙◌, length-append, get_or-append-add}
use Rattle.std.proofs.lemmas.List.{length-replicate, get_or-replicate}
use Rattle.std.proofs.Math.ListN.{get_or-append}
use Rattle.spec_definitions.specs.Ticket.{later_kinds}

pub length_later : (n : ℕ) → length (later_kinds n) ≡ n + 3
unfolding later_kinds
length_later n = omega (arith, length-append {A = ℕ} (replicate (n + 1) 3) (4 ∷ 15 ∷ []), length-replicate {A = ℕ} (n + 1) 3)

pub later_coefficient : (n i : ℕ) → i < n + 1 → get_or (later_kinds n) i 0 ≡ 3
unfolding later_kinds
later_coefficient n i h = get_or-append (replicate (n + 1) 3) _ 0 i (let e : length (replicate {A = ℕ} (n + 1) 3) ≡ n + 1 = length-replicate (n + 1) 3 in omega arith) ∙ get_or-replicate (n + 1) i 3 0 h

later_after : (n i j : ℕ) → i ≡ n + 1 + j → get_or (later_kinds n) i 0 ≡ get_or (4 ∷ 15 ∷ []) j 0
unfolding later_kinds
later_after n i j e =
    ap (λ (k : ℕ). get_or (later_kinds n) k 0) (e ∙ ap (λ (m : ℕ). m + j) (sym (length-replicate {A = ℕ} (n + 1) 3)))
    ∙ get_or-append-add (replicate (n + 1) 3) (4 ∷ 15 ∷ []) j 0

pub later_budget : (n i : ℕ) → i ≡ n + 1 → get_or (later_kinds n) i 0 ≡ 4
later_budget n i e = later_after n i 0 (omega arith)

pub later_end : (n i : ℕ) → i ≡ n + 2 → get_or (later_kinds n) i 0 ≡ 15
later_end n i e = later_after n i 1 (omega arith)
