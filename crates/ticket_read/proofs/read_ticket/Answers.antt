-- Each test that passes leaves the definition's refusal to the next.
use Rattle.std.proofs.Common.{ℕ, ◌+◌, List, get_or, arith, rules, sym, ◌∙◌, subst}
use Rattle.spec_arithmetic.specs.Field.{prime}
use Rattle.spec_arithmetic.specs.Words.{value}
use Rattle.spec_laws.specs.Admitted.{layout_length}
use Rattle.ticket_layout.specs.Refusal.{head_long, laid_out}
use Rattle.ticket_radicand.specs.Radicand.{coefficients}
use Rattle.ticket_read.specs.Refusal.{PastLayout, refused_1, refused_by_layout, past_layout}
use Rattle.ticket_read.proofs.read_ticket.Goals as goal

pub returns-then-wrong_head-clause-refused : goal.returns-then-wrong_head-clause-refused
returns-then-wrong_head-clause-refused c = sym (refused_1 _ (sym c.wrong_head.ensures ∙ c.if-wrong_head.true))

pub bounds-words-0 : goal.bounds-words-0
bounds-words-0 c = let l = head_long _ (sym c.wrong_head.ensures ∙ c.if-wrong_head.false) in omega arith

pub bounds-words-1 : goal.bounds-words-1
bounds-words-1 c = let l = head_long _ (sym c.wrong_head.ensures ∙ c.if-wrong_head.false) in omega arith

pub returns-in_err-field-clause-refused : goal.returns-in_err-field-clause-refused
returns-in_err-field-clause-refused c =
    let e = refused_by_layout _ (sym c.wrong_head.ensures ∙ c.if-wrong_head.false) _ _ c.value-q.ensures c.value-n.ensures _ c.in_err-field.ensures.refused in
    search (rules, e)

pub read_radicand-requires : goal.read_radicand-requires
read_radicand-requires c =
    let w : List ℕ = c.args.words.now in
    let n : ℕ = c.value-n.result in
    let l = laid_out _ n w (sym c.in_ok-field.ensures.refused) in
    let past = past_layout w (sym c.wrong_head.ensures ∙ c.if-wrong_head.false) _ n c.value-q.ensures c.value-n.ensures l in
    record {
      all = layout_length n w l.layout;
      past = subst (λ (q : ℕ). PastLayout w (prime q) n (coefficients n w) (value (get_or w (n + 3) 0))) (sym c.in_ok-field.ensures.field) past;
    }
