use Rattle.std.proofs.Common.{◌≡◌, ◌≤◌, ap, sym, ◌∙◌, ℕ, ◌+◌, length, get_or, None, Some, arith}
use Rattle.meaning.specs.Listing.{Listed, body_at, params_of, locals_of, returns_of}
use Rattle.listing.specs.Models.{blocks_in}
use Rattle.listing.proofs.ReadLaws.{same_blocks, first_bad, first_lost, ruled_none, ruled_block, ruled_ret, ruled_read, routine_eq, params_eq, counted_at}
use Rattle.listing.proofs.ruled.Goals as goal

pub returns-then-n-eq0 : goal.returns-then-n-eq0
returns-then-n-eq0 c =
    let a = c.args in
    let p = c.requires in
    rw c.bad_blocks.ensures
    (ruled_none a.s.now a.places.now a.code.now a.w.block_count a.w.code_count (omega (arith, p.blocks, p.all_blocks)) (omega (arith, p.code, p.all_code)) c.if-n-eq0.true)

pub returns-in-Some : goal.returns-in-Some
returns-in-Some c =
    let a = c.args in
    let p = c.requires in
    let f : a.w.block_count ≤ length a.places.now = omega (arith, p.blocks, p.all_blocks) in
    let g : a.w.code_count ≤ length a.code.now = omega (arith, p.code, p.all_code) in
    let h = first_bad a.s.now a.places.now a.code.now a.w.block_count a.w.code_count f g c.blocks_at-blocks.result c.blocks_at-blocks.ensures (Some c.in-Some.bad) c.in-Some.ensures in
    rw (c.bad_blocks-in-Some.ensures, c.place.ensures.0)
    (ruled_block a.s.now a.places.now a.code.now a.w.block_count a.w.code_count f g c.if-n-eq0.false c.in-Some.bad (sym h.1) h.0)

pub returns-in-Some-first_stray : goal.returns-in-Some-first_stray
returns-in-Some-first_stray c =
    let a = c.args in
    let p = c.requires in
    let n = a.w.block_count in
    let m = a.w.code_count in
    let b = c.blocks_at-blocks in
    let f : n ≤ length a.places.now = omega (arith, p.blocks, p.all_blocks) in
    let g : m ≤ length a.code.now = omega (arith, p.code, p.all_code) in
    let z : c.first_faulty.result ≡ None = grind arith in
    let h = first_bad a.s.now a.places.now a.code.now n m f g b.result b.ensures None (rw z at c.first_faulty.ensures) in
    let k = first_lost a.s.now a.places.now a.code.now n m f g b.result b.ensures (Some c.in-Some-first_stray.stray) c.in-Some-first_stray.ensures in
    rw (c.bad_blocks-in-Some-first_stray.ensures, c.place-in-Some-first_stray.ensures.0)
    (ruled_ret a.s.now a.places.now a.code.now n m f g c.if-n-eq0.false n (sym h) (omega arith) c.in-Some-first_stray.stray (sym k.1) k.0)

pub returns : goal.returns
unfolding blocks_in
returns c =
    let a = c.args in
    let p = c.requires in
    let n = a.w.block_count in
    let m = a.w.code_count in
    let b = c.blocks_at-blocks in
    let f : n ≤ length a.places.now = omega (arith, p.blocks, p.all_blocks) in
    let g : m ≤ length a.code.now = omega (arith, p.code, p.all_code) in
    let y : c.first_faulty.result ≡ None = grind arith in
    let z : c.first_stray.result ≡ None = grind arith in
    let h = first_bad a.s.now a.places.now a.code.now n m f g b.result b.ensures None (rw y at c.first_faulty.ensures) in
    let k = first_lost a.s.now a.places.now a.code.now n m f g b.result b.ensures None (rw z at c.first_stray.ensures) in
    let q = c.byte_at-param_count in
    let ps = c.tokens_at in
    let e : a.head.now ≡ body_at a.s.now 0 = p.first in
    let bs = same_blocks a.s.now a.places.now a.code.now n m f g b.result b.ensures in (
      ap Listed.read (routine_eq _ _ _ _ _ _ _ _ _ _
          (params_eq a.head.now _ q.result q.ensures ps.ensures ∙ ap params_of e)
          (c.byte_at.ensures ∙ ap locals_of e)
          (c.byte_at-2.ensures ∙ ap (λ (j : ℕ). get_or a.head.now (2 + j) 0) q.ensures ∙ ap returns_of e)
          bs p.same)
          ∙ ruled_read a.s.now a.places.now a.code.now n m f g c.if-n-eq0.false n (sym h) (omega arith) m (sym k) (omega arith),
      record { few = p.blocks; count = counted_at a.s.now a.places.now n f _ bs },
    )
