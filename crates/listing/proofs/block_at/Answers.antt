use mathlib.Core.Path.{◌≡◌, ap, ◌∙◌}
use borrow.Author.Tests.{leb-true}
use Prim.Native.Nat.{ℕ, ◌+◌, ◌*◌, ◌≤◌}
use mathlib.Core.List.{List}
use lib.ListN.{get_or}
use Rattle.meaning.specs.Listing.{u16_at, body_at, block_at}
use Rattle.meaning.specs.Listing as D
use Rattle.listing.proofs.Laws.{two_words, block_eq}
use Rattle.listing.proofs.block_at.Goals as goal

pub returns : goal.returns
unfolding block_at D.block_of
returns c =
    let a = c.args in
    let b2 = c.body-b in
    let ba = c.byte_at in
    let ua3 = c.u16_at-3 in
    let b : List ℕ = body_at a.s.now a.at in
    let n : ba.result ≡ get_or b 4 0 = (ba.ensures ∙ ap (λ (l : List ℕ). get_or l 4 0) b2.ensures) in
    let x : ua3.result ≡ u16_at b 5 = (ua3.ensures ∙ ap (λ (l : List ℕ). u16_at l 5) b2.ensures) in
    let y : c.u16_at-4.result ≡ u16_at b 7 = (c.u16_at-4.ensures ∙ ap (λ (l : List ℕ). u16_at l 7) b2.ensures) in
    let k : get_or b 4 0 ≤ 2 = leb-true _ _ c.requires in
    block_eq _ _ _ _ _ _ (c.u16_at.ensures ∙ ap (λ (l : List ℕ). u16_at l 0) b2.ensures) (c.u16_at-2.ensures ∙ ap (λ (l : List ℕ). u16_at l 2) b2.ensures)
    (rw (n, x, y) (two_words (get_or b 4 0) (λ j. u16_at b (5 + 2 * j)) k))
