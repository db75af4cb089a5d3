-- A read puts what it gives behind the places that are done.
use Rattle.std.proofs.Common.{◌≡◌, ℕ, ◌+◌, ◌-◌, ◌≤◌, List, ◌++◌, rules, length, take, sym, ap, subst, ◌∙◌, le_refl, drop, drop_at, length-take-le}
use Rattle.std.proofs.lemmas.Slice.{take-put_mid_below}
use Rattle.std.specs.Io.KnownBytes.{Consumes}
use Rattle.std.proofs.KnownBytes.{Consumes-trans}
use borrow.Rule.Slice.PartMut.{put_mid, post_of}
use lib.Seq.{take-add, take-append-le}
use Rattle.orders.proofs.read_full.Goals as goal

front-put : (a k n : ℕ) (xs ys : List ℕ) → a ≤ length xs → n ≤ length ys → take (a + n) (put_mid a k xs ys) ≡ take a xs ++ take n ys
front-put a k n xs ys within fits =
    let after = post_of a k xs in
    let zs = put_mid a k xs ys in
    let behind = ap (take n) (drop_at (take a xs) (ys ++ after) a (length-take-le a xs within)) ∙ take-append-le n ys after fits in
    take-add a n zs ∙ ap (λ l. l ++ take n (drop a zs)) (take-put_mid_below _ _ _ _ _ (le_refl _) within) ∙ ap (λ l. take a xs ++ l) behind

pub loop-done-preserved : goal.loop-done-preserved
loop-done-preserved g c =
    let done = c.loop-done.done in
    let within = c.loop-done.invariant.0 in
    let bound = c.in-Ok.ensures.bound in
    let put = front-put done (length c.loop-done.bytes - done) c.in-Ok.n c.loop-done.bytes c.read.new.buf within bound.0 in
    (search rules, subst (Consumes _ _) (sym put) (Consumes-trans _ _ _ _ _ c.loop-done.invariant.1 c.in-Ok.ensures.bytes.0))
