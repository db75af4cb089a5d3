-- The first ideal of the walk, Q = 1 and P = 0: it is the last at a distance of 0.
use Rattle.std.specs.Prelude.{ℕ, ◌-◌, ◌≡◌, List, [], ◌∷◌, slice_set}
use native.Mathlib.Omega.{arith}
use Rattle.std.proofs.Math.Path.{refl, ap}
use Rattle.std.proofs.Common.{sym, ◌∙◌, subst}
use Rattle.std.proofs.Math.ListN.{length, get_or}
use Rattle.spec_arithmetic.specs.Field.{FieldName, ops}
use Rattle.spec_arithmetic.specs.Polynomials.{trim, size, lead, pad}
use Rattle.spec_definitions.specs.Ticket.{Ticket, genus}
use Rattle.spec_definitions.specs.Answers.{root_of}
use Rattle.spec_bridge.specs.Trim.{trim_nil}
use Rattle.spec_fields.specs.Named.{arithmetic}
use Rattle.spec_laws.specs.Admitted.{Admitted, is_field, surd_of}
use Rattle.spec_laws.specs.Surd.{Q_zero}
use Rattle.spec_sentences.proofs.Arithmetic.{lead_is_one}
use Rattle.spec_giants.specs.Entries.{ideal, q_as_long, entry_ideal}
use Rattle.spec_giants.proofs.Entries.{q_trim, q_oks, p_length, p_trim, distance_zero, distance_rise}
use Rattle.base_counters.specs.declared.Distance.{Distance}
use Rattle.base_polynomial.specs.declared.Poly.{Poly}
use Rattle.base_polynomial.specs.Over.{Is, Holds}
use Rattle.base_surd.specs.declared.Surd.{Surd}
use Rattle.base_surd.specs.Surd.{name, D, ticket_with}
use Rattle.base_ideal.specs.declared.Ideal.{Ideal}
use Rattle.ideal_climb.specs.Located.{IsLast}

one_list : (l : List ℕ) → length l ≡ 1 → get_or l 0 0 ≡ 1 → l ≡ 1 ∷ []
one_list [] h e = absurd (omega arith)
one_list (a ∷ []) h e = ap (λ (c : ℕ). c ∷ []) e
one_list (a ∷ b ∷ l) h e = absurd (omega arith)

-- 1 in its places
pub one_held : {z : Poly} → Holds z [] → Holds (record { c = slice_set z.c 0 1; size = 1 }) (1 ∷ [])
unfolding pad
one_held {z} h f = record { places = ap (λ (c : List ℕ). slice_set c 0 1) (h f).places; size_is = refl }

module _ (s : Surd) where
  abbrev f : FieldName
  f = name s

  abbrev h : Admitted f (genus s.n) (D s)
  h = s.admitted

  abbrev t : Ticket
  t = ticket_with s 0

  q_length_one : length (ideal t 0).q ≡ 1
  unfolding root_of
  q_length_one = q_as_long t h 0 ∙ ap length (Q_zero (surd_of h))

  q_one : (ideal t 0).q ≡ 1 ∷ []
  unfolding lead size
  q_one =
      let e : length (trim (ops f) (ideal t 0).q) - 1 ≡ 0 = let a = ap length (q_trim t h 0) in let b = q_length_one in omega arith in
      one_list _ q_length_one (ap (λ (k : ℕ). get_or (ideal t 0).q k 0) (sym e) ∙ lead_is_one f (is_field h) (ideal t 0).q (q_oks t h 0) (entry_ideal t h 0).monic)

  p_none : (ideal t 0).p ≡ []
  p_none = sym (p_trim t h 0) ∙ trim_nil (arithmetic f (is_field h)).M (ideal t 0).p (let e = ap length (p_trim t h 0) in let a = p_length t h 0 in let b = q_length_one in omega arith)

  pub first_last : {z : Ideal} {at : Distance} → Holds z.q (1 ∷ []) → Holds z.p [] → at.0 ≡ 0 → IsLast s 0 z at
  first_last {z} q_is p_is e = record {
    at = 0;
    is = record { q_is = subst (Is f z.q) (sym q_one) (q_is f); p_is = subst (Is f z.p) (sym p_none) (p_is f); distance_is = e ∙ sym (distance_zero t h) };
    last = record { low = let a = distance_zero t h in omega arith; high = let a = distance_zero t h in let b = distance_rise t h 0 1 (omega arith) in omega arith };
  }
