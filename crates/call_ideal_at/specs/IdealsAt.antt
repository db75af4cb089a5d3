-- The answer of the call `ideal_at`, case by case, and what its polynomials and distances are.
use Rattle.std.specs.Prelude.{ℕ, zero, suc, ◌+◌, ◌-◌, ◌≤◌, ◌<◌, ◌≡◌, List, [], Result, Ok, Err, IfOk, IfErr}
use Rattle.std.proofs.Common.{arith, sym, ap, ◌∙◌, subst}
use Rattle.std.proofs.Math.Path.{refl}
use Rattle.std.specs.Result.{IsErrAnd}
use Rattle.spec_definitions.specs.Ticket.{Ticket, ticket_of, refusal_of}
use Rattle.spec_definitions.specs.Products.{farthest}
use Rattle.spec_definitions.specs.Answers.{root_of}
use Rattle.spec_definitions.specs.Listing.{entry_of}
use Rattle.spec_giants.specs.Entries.{ideal, δ, distance_next}
use Rattle.spec_giants.proofs.Entries.{q_length}
use Rattle.spec_ideal_at.specs.Halving.{IdealAtAnswer as Answer, ideal_at_done, ideal_at_refused, ideal_at_answer}
use Rattle.spec_ideal_at.proofs.Reached.{done_at}
use Rattle.spec_ideal_at.proofs.Below.{refused_answer, far_answer, done_answer}
use Rattle.base_counters.specs.declared.Distance.{Distance}
use Rattle.base_refusals.specs.declared.Refusal.{Refusal}
use Rattle.base_refusals.specs.Number.{number_of, refused_by, number_some}
use Rattle.base_polynomial.specs.Over.{Holds, holds}
use Rattle.base_surd.specs.declared.Surd.{Surd}
use Rattle.base_surd.specs.Surd.{g, ticket_with}
use Rattle.base_ideal.specs.declared.Ideal.{Ideal}
use Rattle.ideal_climb.specs.Located.{IsLast}
use Rattle.call_ideal_at.specs.declared.IdealAt.{IdealAt}

-- Q, P and the two distances are those of the answer a
pub record IdealAtIs (t : IdealAt) (a : Answer) : Type 0 where
  pub q_is : Holds t.ideal.q a.q
  pub p_is : Holds t.ideal.p a.p
  pub distance_is : t.distance.0 ≡ a.distance
  pub next_is : t.next.0 ≡ a.next

-- the number is that of the answer a, and so is the ideal where there is no refusal; in a refusal a has zeros
pub record IdealAtSays (r : Result IdealAt Refusal) (a : Answer) : Type 0 where
  pub number_is : refused_by r ≡ a.number
  pub ideal_at_is : IfOk r (λ t. IdealAtIs t a)
  pub zeros : IfErr r (λ _. (a.q ≡ []) × (a.p ≡ []) × (a.distance ≡ 0) × (a.next ≡ 0))

says_path : {r : Result IdealAt Refusal} {a b : Answer} → a ≡ b → IdealAtSays r b → IdealAtSays r a
says_path {r} e h = subst (IdealAtSays r) (sym e) h

refused_says : {r : Refusal} {k : ℕ} → number_of r ≡ k → IdealAtSays (Err r) (ideal_at_refused k)
unfolding ideal_at_refused
refused_says e = record { number_is = e; ideal_at_is = tt; zeros = (refl, refl, refl, refl) }

-- a refusal that is passed on
pub passed_on : {r : Result IdealAt Refusal} {e : Refusal} {a : Answer} → IsErrAnd r (λ k. k ≡ e) → IdealAtSays (Err e) a → IdealAtSays r a
passed_on {r = Ok t} h s = absurd h
passed_on {r = Err k} {a = a} h s = subst (λ (i : Refusal). IdealAtSays (Err i) a) (sym h) s

-- ---- the refusals
module _ (w : List ℕ) (y : ℕ) where
  pub ticket_refused : {r : Refusal} → number_of r ≡ refusal_of w → IdealAtSays (Err r) (ideal_at_answer w y)
  ticket_refused {r} h = go (refusal_of w) refl h
    where
      go : (n : ℕ) → refusal_of w ≡ n → number_of r ≡ n → IdealAtSays (Err r) (ideal_at_answer w y)
      go zero e z = absurd (let o = number_some r in omega arith)
      go (suc k) e z = says_path (refused_answer w y k e) (refused_says z)

  pub far_refused : 0 ≡ refusal_of w → farthest < y → {r : Refusal} → number_of r ≡ 10 → IdealAtSays (Err r) (ideal_at_answer w y)
  far_refused passes l k = says_path (far_answer w y (sym passes) l) (refused_says k)

-- ---- the answer at the last index
module _ {s : Surd} {y : ℕ} {z : Ideal} {at : Distance} (l : IsLast s y z at) where
  abbrev t : Ticket
  t = ticket_with s 0

  -- the size of Q is at most g + 1, and g + 2 less it is how far the next index is
  pub size_most : z.q.size < suc (suc (g s))
  size_most = let a = l.is.q_is.size_is in let b = q_length t s.admitted l.at in omega arith

  next_at : at.0 + (suc (suc (g s)) - z.q.size) ≡ δ t (suc l.at)
  next_at = let a = l.is.q_is.size_is in let b = l.is.distance_is in let c = distance_next t s.admitted l.at in let o = q_length t s.admitted l.at in omega arith

  -- the ideals and distances of the walk do not depend on the budget
  done_is : (b : ℕ) → record { number = 0; q = (ideal t l.at).q; p = (ideal t l.at).p; distance = δ t l.at; next = δ t (suc l.at) } ≡ ideal_at_done (ticket_with s b) y
  unfolding entry_of root_of
  done_is b = done_at (ticket_with s b) s.admitted {y = y} {i = l.at} (record { low = l.last.low; high = l.last.high }) refl refl refl refl

  pub below : (w : List ℕ) {b : ℕ} → 0 ≡ refusal_of w → ticket_of w ≡ ticket_with s b → y ≤ farthest → {next : Distance} → next.0 ≡ at.0 + (suc (suc (g s)) - z.q.size) → IdealAtSays (Ok (record { ideal = z; distance = at; next = next })) (ideal_at_answer w y)
  below w {b} passes is near m =
      says_path (done_answer w y (sym passes) near ∙ ap (λ (k : Ticket). ideal_at_done k y) is ∙ sym (done_is b))
      (record { number_is = refl; ideal_at_is = record { q_is = holds {a = z.q} l.is.q_is; p_is = holds {a = z.p} l.is.p_is; distance_is = l.is.distance_is; next_is = m ∙ next_at }; zeros = tt })
