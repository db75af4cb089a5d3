-- The constant with its sign and over λ², and how the walk's index, degree and constant make the definitions'
-- outcome of a ticket.
use Prim.Native.Nat.{ℕ, zero, suc, ◌%◌, ◌<◌}
use Rattle.std.proofs.Common.{mod-lt, arith, ◌∙◌, eqb-true}
use Rattle.std.specs.Prelude.{◌≡◌, refl, Bool, true, false, List, eqb, get_or}
use Rattle.std.proofs.Math.Path.{ap}
use Rattle.std.proofs.Math.Option.{Option, none, some}
use Rattle.std.proofs.lemmas.Bool.{eqb-false}
use Rattle.spec_arithmetic.specs.Field.{FieldName, prime, ops, modulo}
use Rattle.spec_definitions.specs.Ticket.{genus, ticket}
use Rattle.spec_definitions.specs.Walk.{Q, degree_before, signed_q, constant_of}
use Rattle.spec_definitions.specs.Answers.{found, spent, root_of, outcome_of}
use Rattle.spec_laws.specs.Admitted.{Admitted, surd_of}
use Rattle.spec_laws.specs.Leads.{two_over, leads_to, over_leads}
use Rattle.spec_laws.specs.QuasiPeriod.{Quasi, NoQuasi, some_quasi, none_quasi}
use Rattle.walk_state.specs.State.{root_d}

-- (−1)^m·c in the field, where c is the constant Q_m
unfoldable pub signed : FieldName → ℕ → ℕ → ℕ
signed f m c = elim (eqb (m % 2) 0) [ true ↦ c | false ↦ (ops f).sub 0 c ]

-- (−1)^m·c/λ², where c is the constant Q_m and n is 2·λ
abbrev pub monic_constant : FieldName → ℕ → ℕ → ℕ → ℕ
monic_constant f m c n = (ops f).mul ((ops f).mul (two_over (ops f) n) (two_over (ops f) n)) (signed f m c)

pub signed_even : (q m c : ℕ) → m % 2 ≡ 0 → signed (prime q) m c ≡ c
unfolding signed
signed_even q m c e = go (eqb (m % 2) 0) refl
  where
    go : (t : Bool) → eqb (m % 2) 0 ≡ t → (elim t [ true ↦ c | false ↦ (modulo q).sub 0 c ]) ≡ c
    go true k = refl
    go false k = absurd (eqb-false (m % 2) 0 k e)

pub signed_odd : (q m c : ℕ) → (m % 2 ≡ 0 → ⊥) → signed (prime q) m c ≡ (modulo q).sub 0 c
unfolding signed
signed_odd q m c n = go (eqb (m % 2) 0) refl
  where
    go : (t : Bool) → eqb (m % 2) 0 ≡ t → (elim t [ true ↦ c | false ↦ (modulo q).sub 0 c ]) ≡ (modulo q).sub 0 c
    go true k = absurd (n (eqb-true (m % 2) 0 k))
    go false k = refl

pub signed_below : (q m c : ℕ) → c < q → signed (prime q) m c < q
unfolding signed
signed_below q m c l = go (eqb (m % 2) 0)
  where
    go : (t : Bool) → (elim t as (λ _. ℕ) [ true ↦ c | false ↦ (modulo q).sub 0 c ]) < q
    go true = l
    go false = mod-lt _ (let k : 0 < q = omega arith in k)

module _ (q n : ℕ) (D : List ℕ) (h : Admitted (prime q) (genus n) D) (b : ℕ) where
  abbrev d : List ℕ
  d = root_d (prime q) (genus n) D

  -- λ is the leading coefficient of p_{m−1}
  constant_is : (m : ℕ) → 0 < m → constant_of (modulo q) D d m ≡ monic_constant (prime q) m (get_or (Q (modulo q) D d m) 0 0) (leads_to (modulo q) D d m)
  unfolding constant_of signed_q signed
  constant_is zero l = absurd (omega arith)
  constant_is (suc i) l = ap (λ (x : ℕ). (modulo q).mul ((modulo q).mul x x) (signed (prime q) (suc i) (get_or (Q (modulo q) D d (suc i)) 0 0))) (over_leads (surd_of h) i)

  pub found_is : (m : ℕ) → Quasi (modulo q) D d b m → outcome_of (ticket (prime q) n D b) ≡ found (degree_before (modulo q) D d m) m (monic_constant (prime q) m (get_or (Q (modulo q) D d m) 0 0) (leads_to (modulo q) D d m))
  unfolding outcome_of root_of
  found_is m k = ap (λ (x : Option ℕ). elim x [ none ↦ spent b (degree_before (modulo q) D d b) | some m ↦ found (degree_before (modulo q) D d m) m (constant_of (modulo q) D d m) ]) (some_quasi (surd_of h) b m k) ∙ ap (found (degree_before (modulo q) D d m) m) (constant_is m k.positive)

  pub spent_is : NoQuasi (modulo q) D d b → outcome_of (ticket (prime q) n D b) ≡ spent b (degree_before (modulo q) D d b)
  unfolding outcome_of root_of
  spent_is k = ap (λ (x : Option ℕ). elim x [ none ↦ spent b (degree_before (modulo q) D d b) | some m ↦ found (degree_before (modulo q) D d m) m (constant_of (modulo q) D d m) ]) (none_quasi (surd_of h) b k)
