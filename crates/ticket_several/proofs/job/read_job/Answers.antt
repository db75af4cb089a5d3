-- A q that is not allowed is refused by 2; else the field is one, and the job is past the tests 1 to 4.
use Rattle.std.proofs.Common.{ℕ, ◌+◌, List, get_or, arith, sym, ap, ◌∙◌, not, subst, refl}
use Rattle.spec_arithmetic.specs.Field.{prime}
use Rattle.spec_arithmetic.specs.Words.{value}
use Rattle.spec_definitions.specs.Ticket.{wrong_prime}
use Rattle.spec_laws.specs.Admitted.{field_of}
use Rattle.spec_several.specs.Several.{degree_of, job_words}
use Rattle.spec_several.specs.Jobs.{residues_in}
use Rattle.spec_several.proofs.Laws.{job_refused_2}
use Rattle.ticket_read.specs.Refusal.{PastLayout}
use Rattle.ticket_several.specs.Job.{job_long, past_job}
use Rattle.ticket_several.proofs.job.read_job.Goals as goal

pub returns-then-not-is_odd_prime-clause-refused : goal.returns-then-not-is_odd_prime-clause-refused
unfolding wrong_prime
returns-then-not-is_odd_prime-clause-refused c =
    sym (job_refused_2 _ c.requires.1 _ c.requires.0 (ap not (sym c.is_odd_prime.ensures ∙ c.if-not-is_odd_prime.true)))

pub new-requires : goal.new-requires
unfolding wrong_prime
new-requires c = field_of (prime c.args.q) (ap not (sym c.is_odd_prime.ensures ∙ c.if-not-is_odd_prime.false))

pub bounds-words-0 : goal.bounds-words-0
bounds-words-0 c = let l = job_long _ c.requires.1 _ refl in omega arith

pub read_reduced-requires : goal.read_reduced-requires
unfolding wrong_prime degree_of
read_reduced-requires c =
    let w : List ℕ = c.args.words.now in
    let n : ℕ = c.value.result in
    let l = job_long w c.requires.1 n c.value.ensures in
    let past = past_job w c.requires.1 n c.value.ensures c.args.q c.requires.0 (ap not (sym c.is_odd_prime.ensures ∙ c.if-not-is_odd_prime.false)) in
    record {
      long = omega arith;
      past = subst (λ (q : ℕ). PastLayout (job_words w q) (prime q) n (residues_in q n w) (value (get_or w (n + 2) 0))) (sym c.new.ensures) past;
    }
