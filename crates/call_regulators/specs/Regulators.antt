-- What the sixteen places of an answer mean, that they are the outcomes of the words, and T3 of each of them.
use Rattle.std.specs.Prelude.{ℕ, ◌≡◌, List, map, length, get_or}
use Rattle.spec_definitions.specs.Answers.{Outcome, refused}
use Rattle.spec_demands.specs.LeastDegree.{Least}
use Rattle.spec_several.specs.Several.{primes_of, job_words, several_of, sixteen_places}
use Rattle.walk_outcome.specs.Outcome.{meaning}
use Rattle.walk_outcome.specs.declared.Outcome as code
use Rattle.call_regulators.specs.declared.SeveralAnswer.{SeveralAnswer}

-- what each place means
abbrev pub meanings : List code.Outcome → List Outcome
meanings l = map meaning l

abbrev pub outcomes : SeveralAnswer → List Outcome
outcomes a = meanings a.places

-- a is the answer for the words w: the outcomes in their places, then the refusal 0
pub record Answers (w : List ℕ) (a : SeveralAnswer) : Type 0 where
  pub words : a.words ≡ length w
  pub count : a.count ≡ length (several_of w)
  pub places : outcomes a ≡ sixteen_places (several_of w)

-- T3 at every place: what it says of each solution for the single job at its prime
abbrev pub LeastEach : List ℕ → List Outcome → Type 0
LeastEach w l = (i : ℕ) → Least (job_words w (get_or (primes_of w) i 0)) (get_or l i (refused 0))
