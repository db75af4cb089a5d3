-- Words: the kind and the value of a word of kind k and value v, and a number of two words.
use Rattle.std.specs.Prelude.{ℕ, ◌+◌, ◌*◌, ◌<◌, ◌≡◌}
use Rattle.std.proofs.Common.{mod-lt, mod-eq_of_lt, div-add-mod', add-zero, arith, sym, ap, ap₂, ◌∙◌}
use Rattle.std.proofs.Math.Nat.{div-eq_of_lt, mul-add-div_right, mul-add-mod_self_right}
use Rattle.spec_arithmetic.specs.Words.{values, kind, value, word, high, low, joined}

pub kind_word : (k v : ℕ) → v < values → kind (word k v) ≡ k
unfolding kind word
kind_word k v h = mul-add-div_right (omega arith) k v ∙ ap (λ (x : ℕ). k + x) (div-eq_of_lt h) ∙ add-zero k

pub value_word : (k v : ℕ) → v < values → value (word k v) ≡ v
unfolding value word
value_word k v h = mul-add-mod_self_right k values v ∙ mod-eq_of_lt h

-- a word is its kind and its value
pub word_unique : (x y : ℕ) → kind x ≡ kind y → value x ≡ value y → x ≡ y
unfolding kind value
word_unique x y e f = sym (div-add-mod' x values) ∙ ap₂ (λ (a b : ℕ). a * values + b) e f ∙ div-add-mod' y values

pub value_less : (x : ℕ) → value x < values
unfolding value
value_less x = mod-lt x (omega arith)

pub low_less : (x : ℕ) → low x < values
unfolding low
low_less x = mod-lt x (omega arith)

pub joined_back : (x : ℕ) → joined (high x) (low x) ≡ x
unfolding joined high low
joined_back x = div-add-mod' x values
