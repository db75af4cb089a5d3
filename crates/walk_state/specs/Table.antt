-- The table of inverses, filled from 0 up: each entry from 2 on by the rule of the inverse, with a smaller
-- entry.
use Rattle.std.specs.Prelude.{ℕ, ◌+◌, ◌-◌, ◌*◌, ◌/◌, ◌%◌, ◌<◌, ◌≡◌, List, length, get_or, set, replicate}
use Rattle.std.proofs.Common.{mod-lt, arith, sym, ap, ◌∙◌, length-set, get_or-set_same, get_or-set_other, below_more}
use Rattle.std.proofs.lemmas.List.{length-replicate, get_or-replicate}
use Rattle.spec_arithmetic.specs.Field.{inverse}
use Rattle.spec_bridge.specs.Residues.{inverse_one, inverse_more}

-- 4,096 entries, of which those below n are inverses modulo q
pub record Table (q : ℕ) (c : List ℕ) (n : ℕ) : Type 0 where
  pub long : length c ≡ 4096
  pub done : (a : ℕ) → a < n → get_or c a 0 ≡ inverse q a

module _ (q : ℕ) where
  pub table_more : (c : List ℕ) (a v : ℕ) → Table q c a → a < 4096 → v ≡ inverse q a → Table q (set c a v) (a + 1)
  table_more c a v t h e =
      record {
        long = length-set c a v ∙ t.long;
        done = below_more _ a (λ k l. get_or-set_other c a k v 0 (λ s. omega arith) ∙ t.done k l) (get_or-set_same c a v 0 (let w : length c ≡ 4096 = t.long in omega arith) ∙ e);
      }

  -- 0 and 1
  pub table_two : 1 < q → Table q (set (replicate 4096 0) 1 1) 2
  table_two h = table_more (replicate 4096 0) 1 1 (record { long = length-replicate {A = ℕ} 4096 0; done = λ k l. get_or-replicate 4096 k 0 0 (omega arith) ∙ (let z : k ≡ 0 = omega arith in sym (ap (inverse q) z ∙ inverse_one q 0 (omega arith) (omega arith))) }) (omega arith) (sym (inverse_one q 1 h (omega arith)))

  pub table_next : (c : List ℕ) (a v : ℕ) → Table q c a → 1 < a → a < q → q < 4096 → v ≡ ((q - q / a) * get_or c (q % a) 0) % q → Table q (set c a v) (a + 1)
  table_next c a v t h l s e =
      let z : 0 < a = omega arith in
      table_more c a v t (omega arith) (e ∙ ap (λ (m : ℕ). ((q - q / a) * m) % q) (t.done (q % a) (mod-lt q z)) ∙ sym (inverse_more q a l h))
