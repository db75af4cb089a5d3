-- The proofs of specs/TicketRead.
use Rattle.std.specs.Prelude.{refl}
use Rattle.spec_definitions.specs.Ticket.{ticket_of}
use Rattle.spec_sentences.specs.TicketRead.{T1Ticket}

-- ---- the proof
pub t1_ticket : T1Ticket
unfolding ticket_of
t1_ticket w = record { field_is = refl; n_is = refl; D_is = refl; b_is = refl }
