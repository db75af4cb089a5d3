-- T1, the part on what a ticket's words say: "In order: kind 1: q; kind 2: n; kind 3, n+1 words: the
-- coefficients of D, constant term first; kind 4: the step budget b". The sentences 1 to 7 are not about b,
-- and the other demands are about the ticket: here its fields are the values of the words, for any list of
-- words.
use Rattle.std.specs.Prelude.{ℕ, ◌+◌, ◌≡◌, List}
use Rattle.spec_arithmetic.specs.Field.{prime}
use Rattle.spec_definitions.specs.Ticket.{ticket_of}
use Rattle.spec_sentences.specs.Sentences.{value_at, q, n, D}

pub record TicketRead (w : List ℕ) : Type 0 where
  pub field_is : (ticket_of w).field ≡ prime (q w)
  pub n_is : (ticket_of w).n ≡ n w
  pub D_is : (ticket_of w).D ≡ D w
  pub b_is : (ticket_of w).b ≡ value_at w (n w + 3)

abbrev pub T1Ticket : Type 0
T1Ticket = (w : List ℕ) → TicketRead w
