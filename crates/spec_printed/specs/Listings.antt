-- What the program prints after "found", by computation: numbers of one to four digits, and degrees other
-- than the printed example's. The texts come from a model of document 01 in another language
-- (vectors/check.py).
use Rattle.std.specs.Prelude.{[], ◌∷◌}
use Rattle.spec_definitions.specs.Marked.{ticket, bytes}
use Rattle.spec_printed.specs.Lines.{Prints}

-- "one line a record: index, distance, mirror, Q's g+1 coefficients, P's g": for n = 2 P has no coefficient;
-- q = 3, D = x² + 1
abbrev pub Linear : Type 0
Linear = Prints (bytes (ticket 3 (1 ∷ 0 ∷ 1 ∷ []) 1)) "found 1 1 2\n1 0 1 1\n"

-- for n = 6 Q has three coefficients and P two, the constant term first; q = 13, D = x^6 + 8x^5 + 3x^4 + 6x²
-- + 7x + 8
abbrev pub Sextic : Type 0
Sextic = Prints (bytes (ticket 13 (8 ∷ 7 ∷ 6 ∷ 0 ∷ 3 ∷ 8 ∷ 1 ∷ []) 5)) "found 7 5 5\n1 0 7 1 0 0 0 0\n2 3 6 10 12 1 2 8\n3 4 5 12 2 1 11 7\n4 5 4 12 2 1 2 6\n5 6 3 10 12 1 11 5\n"

-- two digits in R, m, c, index, distance, mirror, Q and P, and three in one P; q = 101, D = x^4 + 91x³ + 17x²
-- + 99x + 17
abbrev pub TwoDigits : Type 0
TwoDigits = Prints (bytes (ticket 101 (17 ∷ 99 ∷ 17 ∷ 91 ∷ 1 ∷ []) 11)) "found 12 11 65\n1 0 12 1 0 0\n2 2 11 12 1 99\n3 3 10 64 1 73\n4 4 9 98 1 50\n5 5 8 0 1 57\n6 6 7 27 1 100\n7 7 6 27 1 1\n8 8 5 0 1 44\n9 9 4 98 1 51\n10 10 3 64 1 28\n11 11 2 12 1 2\n"

-- three and four digits; q = 4,093, D = x^4 + 2770x³ + 5x² + 3450x + 196
abbrev pub FourDigits : Type 0
FourDigits = Prints (bytes (ticket 4093 (196 ∷ 3450 ∷ 5 ∷ 2770 ∷ 1 ∷ []) 3)) "found 4 3 757\n1 0 4 1 0 0\n2 2 3 638 1 947\n3 3 2 638 1 3146\n"
