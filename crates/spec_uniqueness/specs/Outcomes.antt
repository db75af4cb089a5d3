-- The outcome is told by the least index whose Q is a nonzero constant: whoever walks by document 01's
-- equations, with any lists, to m or to b and then says what document 01 asks for says the outcome of the
-- words. The same for the definitions' walk, as `demands` states it. For a ticket past its refusals.
use Rattle.std.specs.Prelude.{ℕ, suc, ◌≤◌, ◌<◌, ◌≡◌, ◌≢◌}
use mathlib.Core.List.{List, [], ◌∷◌}
use Rattle.std.proofs.Math.Option.{Option, none, some}
use Rattle.spec_arithmetic.specs.Field.{FieldName, ops}
use Rattle.spec_arithmetic.specs.Polynomials.{size, deg, lead, root}
use Rattle.spec_definitions.specs.Ticket.{Ticket, genus, ticket_of, refusal_of}
use Rattle.spec_definitions.specs.Walk.{degree_before, constant_of}
use Rattle.spec_definitions.specs.Walk as walk
use Rattle.spec_definitions.specs.Answers.{Outcome, found, spent, refused, ops_of, root_of, words_outcome}
use Rattle.spec_fields.specs.Named.{Ok}
use Rattle.spec_laws.specs.Admitted.{Admitted}
use Rattle.spec_sentences.specs.Sentences.{Same}
use Rattle.spec_demands.specs.Continued.{signed, Ends}
use Rattle.spec_uniqueness.specs.Walk.{IsWalk}

-- for the Q_i and p_{i−1} of a walk of n steps
module _ (f : FieldName) (n : ℕ) (Q p : ℕ → List ℕ) where
  -- "The walk stops at the first index from 1 up whose Q is a nonzero constant", "m is the quasi-period, R =
  -- deg p_{m−1} the regulator, .. c = (−1)^m·Q_m the constant"; R-3: "c by its square", that of the leading
  -- coefficient of p_{m−1}
  pub record FoundAt (b R m c : ℕ) : Type 0 where
    pub walked : m ≤ n
    pub positive : 0 < m
    pub within : m ≤ b
    pub constant : size (ops f) (Q m) ≡ 1
    pub least : (j : ℕ) → 0 < j → j < m → size (ops f) (Q j) ≢ 1
    pub regulator : R ≡ deg (ops f) (p m)
    pub below : Ok f c
    pub value : Same f ((ops f).mul c ((ops f).mul (lead (ops f) (p m)) (lead (ops f) (p m))) ∷ []) (signed (ops f) m (Q m))

  -- "spent; the quasi-period m is above b. Carries the steps made, b, and the degree reached"; "The degree
  -- reached when spent is deg p_{b−1}."
  pub record SpentAt (b k e : ℕ) : Type 0 where
    pub walked : b ≤ n
    pub all : k ≡ b
    pub none_constant : (j : ℕ) → 0 < j → j ≤ b → size (ops f) (Q j) ≢ 1
    pub reached : e ≡ deg (ops f) (p b)

  abbrev pub EndsAs : ℕ → Outcome → Type 0
  EndsAs b (found R m c) = FoundAt b R m c
  EndsAs b (spent k e) = SpentAt b k e
  EndsAs b (refused j) = ⊥

abbrev pub OneOutcome : Type 0
OneOutcome = (w : List ℕ) → refusal_of w ≡ 0 → (d : List ℕ) (n : ℕ) (Q P a p s : ℕ → List ℕ) → IsWalk (ticket_of w).field (ticket_of w).D d (genus (ticket_of w).n) n Q P a p s
    → (x : Outcome) → EndsAs (ticket_of w).field n Q p (ticket_of w).b x → x ≡ words_outcome w

-- the outcome of the words ends the definitions' walk
abbrev pub OutcomeIs : Type 0
OutcomeIs = (w : List ℕ) → refusal_of w ≡ 0 → let t = ticket_of w in EndsAs t.field t.b (walk.Q (ops_of t) t.D (root_of t)) (walk.p_before (ops_of t) t.D (root_of t)) t.b (words_outcome w)

-- as `demands` states it, of the definitions' walk
abbrev pub OneOutcomeOfEnds : Type 0
OneOutcomeOfEnds = (w : List ℕ) → refusal_of w ≡ 0 → (x : Outcome) → Ends (ticket_of w).field (ticket_of w).D (root_of (ticket_of w)) (ticket_of w).b x → x ≡ words_outcome w

-- ---- the proof, for a ticket whose D is admitted
module _ (t : Ticket) (h : Admitted t.field (genus t.n) t.D) where
  abbrev d : List ℕ
  d = root (ops_of t) t.D (suc (genus t.n))

  unfoldable pub outcome_from : Option ℕ → Outcome
  outcome_from x = elim x [ none ↦ spent t.b (degree_before (ops_of t) t.D d t.b) | some m ↦ found (degree_before (ops_of t) t.D d m) m (constant_of (ops_of t) t.D d m) ]
