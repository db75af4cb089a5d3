-- First lines: how long they are at most, and that of a refusal, whose number is neither that of an answer found
-- nor that of one spent.
use Rattle.std.specs.Prelude.{ℕ, ◌+◌, ◌*◌, ◌≤◌, ◌≡◌, List, [], ◌∷◌, ◌++◌, length}
use Rattle.std.proofs.Common.{arith, sym, ap, length-append, ne_eqb}
use Rattle.spec_definitions.specs.Text.{ascii, line}
use Rattle.spec_definitions.specs.Answers.{refused, said}
use Rattle.spec_definitions.specs.Program.{first_line}
use Rattle.spec_demands.specs.Numbered.{Numbered}
use Rattle.out_text.specs.declared.TheConstants.{ROOM}
use Rattle.out_lines.proofs.Lines.{Fit, length_line}

pub refused_first : (j : ℕ) → Numbered (refused j) → line (ascii "refused") (j ∷ []) ≡ first_line (said (refused j))
unfolding first_line said
refused_first j h = sym (simp (first_line, ne_eqb j 0 (λ e. h.not_zero (ap refused e)), ne_eqb j 11 (λ e. h.not_eleven (ap refused e))))

-- a line of at most three numbers of 64 bits after a word of at most seven letters: within 1,024 bytes
pub room_for : (t w l : List ℕ) → Fit l → length w + 21 * length l ≤ 1023 → length t + 1024 ≤ ROOM → length t + length (line w l) ≤ ROOM
room_for t w l f h r = omega (arith, length_line w l f)

pub within : (t w l : List ℕ) {a : List ℕ} → a ≡ t ++ line w l → Fit l → length w + 21 * length l ≤ 1023 → length a ≤ length t + 1024
within t w l e f h = omega (arith, ap length e, length-append t (line w l), length_line w l f)
