-- The whole words of some bytes are those of their chunks of four bytes.
use Rattle.std.specs.Prelude.{ℕ, zero, suc, ◌+◌, ◌*◌, ◌/◌, ◌<◌, ◌≤◌, ◌≡◌, refl, List, [], ◌∷◌, map, length, take, slice_index, slice_index_or, slice_set}
use Rattle.std.specs.Simd.{first_chunks}
use Rattle.std.proofs.Common.{arith, ap, ap₂, ◌∙◌, take_all, length-take}
use Rattle.std.proofs.lemmas.Grind.{common_steps}
use Rattle.spec_definitions.specs.Program.{words_of, read_bytes}

-- the word of a chunk, low byte first
abbrev pub word_from : List ℕ → ℕ
word_from c = slice_index c 0 + slice_index c 1 * 256 + slice_index c 2 * 65536 + slice_index c 3 * 16777216

-- one chunk more
pub words_more : (words : List ℕ) (chunks : List (List ℕ)) (i v : ℕ) → i < length words → i < length chunks → take i words ≡ map word_from (take i chunks) → v ≡ word_from (slice_index_or chunks i []) → take (i + 1) (slice_set words i v) ≡ map word_from (take (i + 1) chunks)
words_more words chunks i v h k e f = grind (arith, common_steps)

chunks_are_words : (l : List ℕ) (count : ℕ) → count ≡ length l / 4 → map word_from (first_chunks 4 count l) ≡ words_of l
unfolding words_of
chunks_are_words (a ∷ (b ∷ (c ∷ (d ∷ l)))) zero e = absurd (omega arith)
chunks_are_words (a ∷ (b ∷ (c ∷ (d ∷ l)))) (suc k) e = ap₂ (λ (x : ℕ) (t : List ℕ). x ∷ t) (omega arith) (chunks_are_words l k (omega arith))
chunks_are_words (a ∷ (b ∷ (c ∷ []))) zero e = refl
chunks_are_words (a ∷ (b ∷ [])) zero e = refl
chunks_are_words (a ∷ []) zero e = refl
chunks_are_words [] zero e = refl
chunks_are_words (a ∷ (b ∷ (c ∷ []))) (suc k) e = absurd (omega arith)
chunks_are_words (a ∷ (b ∷ [])) (suc k) e = absurd (omega arith)
chunks_are_words (a ∷ []) (suc k) e = absurd (omega arith)
chunks_are_words [] (suc k) e = absurd (omega arith)

-- every chunk
pub words_whole : (l words : List ℕ) (chunks : List (List ℕ)) (i : ℕ) → chunks ≡ first_chunks 4 (length l / 4) l → length chunks ≤ i → take i words ≡ map word_from (take i chunks) → take i words ≡ words_of l
words_whole l words chunks i e h f = f ∙ ap (map word_from) (take_all i chunks h ∙ e) ∙ chunks_are_words l (length l / 4) refl

pub length_read_most : (l : List ℕ) → length (read_bytes l) ≤ 280
unfolding read_bytes
length_read_most l = omega (arith, length-take 280 l)
