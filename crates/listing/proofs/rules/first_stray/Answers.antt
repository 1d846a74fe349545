use Rattle.std.proofs.Common.{◌≡◌, ◌≤◌, sym, ap, ◌∙◌, map, take, length, ℕ, eqb, arith}
use borrow.Author.Tests.{eq-eqb, ne_eqb}
use Rattle.meaning.specs.Listing.{kind_at, stray_ret, instr_at}
use Rattle.listing.specs.Models.{block_of}
use Rattle.listing.proofs.Laws.{first_stop, first_turn, first_end, stray_eq, stray_from}
use Rattle.listing.proofs.rules.first_stray.Goals as goal
use Rattle.listing.proofs.rules.first_stray.Goals.{then-u16_at-eq-RET+else-not-ends_block, else-u16_at-eq-RET}

pub loop-k-init : goal.loop-k-init
loop-k-init c =
    let a = c.args in
    stray_from a.s.now a.code.now a.m (omega arith) (map block_of a.blocks.now) a.first c.requires.1

pub returns-then-not-ends_block : goal.returns-then-not-ends_block
returns-then-not-ends_block c =
    let a = c.args in
    let l = c.loop-k in
    let t = c.loop-k-test in
    let bs = map block_of a.blocks.now in (
      t.true,
      sym (first_stop (stray_ret (map (instr_at a.s.now) (take a.m a.code.now)) bs) l.k a.m _ t.true l.invariant.1
          (rw (
            stray_eq a.s.now a.code.now a.m (omega arith) bs l.k t.true,
            (ap (λ (n : ℕ). eqb n 23) (sym (c.u16_at.ensures ∙ ap (kind_at a.s.now) c.place-start.ensures.0)) ∙ eq-eqb _ 23 c.if-u16_at-eq-RET.true),
            sym c.ends_block.ensures ∙ c.if-not-ends_block.true,
          ))),
    )

pub loop-k-preserved : goal.loop-k-preserved
loop-k-preserved c =
    let a = c.args in
    let l = c.loop-k in
    let t = c.loop-k-test in
    let p = c.place-start in
    let u = c.u16_at in
    let bs = map block_of a.blocks.now in
    let fits : a.m ≤ length a.code.now = omega arith in (
      omega arith,
      first_turn (stray_ret (map (instr_at a.s.now) (take a.m a.code.now)) bs) l.k a.m _ t.true l.invariant.1
          (elim c.if-u16_at-eq-RET.branch [
            | then-u16_at-eq-RET+else-not-ends_block w ↦ rw (stray_eq a.s.now a.code.now a.m fits bs l.k t.true, (ap (λ (n : ℕ). eqb n 23) (sym (u.ensures ∙ ap (kind_at a.s.now) p.ensures.0)) ∙ eq-eqb _ 23 w.if-u16_at-eq-RET.true), sym w.ends_block.ensures ∙ w.if-not-ends_block.false)
            | else-u16_at-eq-RET w ↦ rw (stray_eq a.s.now a.code.now a.m fits bs l.k t.true, (ap (λ (n : ℕ). eqb n 23) (sym (u.ensures ∙ ap (kind_at a.s.now) p.ensures.0)) ∙ ne_eqb _ 23 w.if-u16_at-eq-RET.false))
          ]),
    )

pub returns : goal.returns
returns c =
    let a = c.args in
    let l = c.loop-k in
    let e : l.k ≡ a.m = omega arith in
    sym (first_end (stray_ret (map (instr_at a.s.now) (take a.m a.code.now)) (map block_of a.blocks.now)) l.k a.m _ e l.invariant.1)
