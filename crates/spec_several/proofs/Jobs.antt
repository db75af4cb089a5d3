-- The proofs of specs/Jobs.
use Rattle.std.specs.Prelude.{ℕ, suc, ◌+◌, ◌≤◌, ◌<◌, ◌≡◌, refl, List, [], ◌∷◌, map, length, take, drop}
use native.Mathlib.Omega.{arith}
use Rattle.std.proofs.Common.{sym, ◌∙◌, subst, length-append, length-drop, get_or-take, get_or-append-add}
use Rattle.std.proofs.Math.Path.{ap}
use Rattle.std.proofs.Math.ListN.{get_or, length-take, get_or-append, get_or-map}
use Rattle.std.proofs.lemmas.List.{length-map, get_or-map as get_or-map_within}
use Rattle.std.proofs.Math.Seq.{get_or-drop}
use Rattle.spec_arithmetic.specs.Words.{values, value, word}
use Rattle.spec_lists.specs.Words.{value_less}
use Rattle.spec_definitions.specs.Ticket.{Ticket, ticket_words}
use Rattle.spec_sentences.specs.Sentences.{value_at}
use Rattle.spec_several.specs.Several.{degree_of, coefficients_of, residue, job_at}
use Rattle.spec_several.proofs.Residues.{residue_fits}
use Rattle.spec_several.specs.Shape.{RightShape}
use Rattle.spec_several.specs.Jobs.{residues_in}

-- ---- the words of a ticket with n + 1 coefficients
module _ (t : Ticket) (size : length t.D ≡ t.n + 1) where
  abbrev v : List ℕ
  v = ticket_words t

  abbrev ending : List ℕ
  ending = word 4 t.b ∷ word 15 (t.n + 4) ∷ []

  pub length_ticket : length v ≡ t.n + 5
  length_ticket = omega (arith, length-append (map (word 3) t.D) ending, length-map t.D (word 3), size)

  pub word_prime : get_or v 0 0 ≡ word 1 t.field.q
  word_prime = refl

  pub word_degree : get_or v 1 0 ≡ word 2 t.n
  word_degree = refl

  pub word_coefficient : (i : ℕ) → i ≤ t.n → get_or v (i + 2) 0 ≡ word 3 (get_or t.D i 0)
  word_coefficient i h =
      ap (λ (j : ℕ). get_or v j 0) (let e : i + 2 ≡ suc (suc i) = omega arith in e)
      ∙ get_or-append (map (word 3) t.D) ending 0 i (omega (arith, length-map t.D (word 3), size))
      ∙ get_or-map_within (word 3) t.D i 0 0 (omega (arith, size))

  word_after : (i j : ℕ) → i ≡ t.n + 3 + j → get_or v i 0 ≡ get_or ending j 0
  word_after i j e =
      let l = length-map t.D (word 3) in
      let f : i ≡ suc (suc (length (map (word 3) t.D) + j)) = omega (arith, size) in
      ap (λ (m : ℕ). get_or v m 0) f ∙ get_or-append-add (map (word 3) t.D) ending j 0

  pub word_budget : get_or v (t.n + 3) 0 ≡ word 4 t.b
  word_budget = word_after (t.n + 3) 0 (omega arith)

  pub word_end : get_or v (t.n + 4) 0 ≡ word 15 (t.n + 4)
  word_end = word_after (t.n + 4) 1 (omega arith)

module _ (q n : ℕ) (w : List ℕ) (long : n + 2 ≤ length w) where
  pub length_residues : length (residues_in q n w) ≡ n + 1
  length_residues = simp (length-map, length-take, length-drop) (omega arith)

  pub residue_at : (i : ℕ) → i ≤ n → get_or (residues_in q n w) i 0 ≡ residue q (value (get_or w (i + 1) 0))
  unfolding value
  residue_at i h =
      get_or-map_within (residue q) (map value (take (n + 1) (drop 1 w))) i 0 0 (simp (length-map, length-take, length-drop) (omega arith))
      ∙ ap (residue q) (get_or-map value (take (n + 1) (drop 1 w)) i 0
      ∙ ap value (get_or-take (n + 1) (drop 1 w) i 0 (omega arith) ∙ get_or-drop 1 w i 0 ∙ ap (λ (j : ℕ). get_or w j 0) (let e : 1 + i ≡ i + 1 = omega arith in e)))

-- ---- they are the coefficients of the single job at q
module _ (w : List ℕ) {k : ℕ} (shape : RightShape w k) (q : ℕ) where
  long : value_at w 0 + 2 ≤ length w
  long = omega (arith, shape.words)

  pub job_length : length (job_at w q).D ≡ value_at w 0 + 1
  unfolding job_at coefficients_of degree_of
  job_length = length_residues q (value_at w 0) w long

  pub job_coefficient : (i : ℕ) → i ≤ value_at w 0 → get_or (job_at w q).D i 0 ≡ residue q (value_at w (i + 1))
  unfolding job_at coefficients_of degree_of
  job_coefficient = residue_at q (value_at w 0) w long

  -- a word can hold each
  pub job_fits : q < values → (i : ℕ) → i ≤ value_at w 0 → get_or (job_at w q).D i 0 < values
  job_fits fits i h =
      let l = residue_fits q (value_at w (i + 1)) fits (value_less _) in
      subst (λ (x : ℕ). x < values) (sym (job_coefficient i h)) l
