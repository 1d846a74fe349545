-- What was read before a turn and in it stands at the buffer's start, in this order.
use Rattle.std.proofs.Common.{rules, arith, take, drop, ◌≡◌, ℕ, ◌+◌, ◌-◌, ◌≤◌, length, List, ◌++◌, sym, ap, ◌∙◌, subst}
use Rattle.std.proofs.KnownBytes.{Consumes-trans}
use Rattle.std.specs.Io.KnownBytes.{Consumes}
use borrow.Rule.Slice.PartMut.{put_mid}
use lib.Seq.{take-append-add, take-append-le, length-take-le}
use Rattle.case_input.proofs.fill.Goals as goal

-- the first n of a part that was written from d on
filled : (d k n : ℕ) (xs ys : List ℕ) → d ≤ length xs → n ≤ length ys → take (d + n) (put_mid d k xs ys) ≡ take d xs ++ take n ys
filled d k n xs ys h l =
    ap (λ (m : ℕ). take (m + n) (put_mid d k xs ys)) (sym (length-take-le d xs h))
    ∙ take-append-add (take d xs) (ys ++ drop k (drop d xs)) n
    ∙ ap (λ (zs : List ℕ). take d xs ++ zs) (take-append-le n ys (drop k (drop d xs)) l)

pub loop-done-preserved : goal.loop-done-preserved
loop-done-preserved g c =
    let l = c.loop-done in
    let now = g.R.Read.remaining c.read.new.self in (
      search rules,
      search rules,
      search rules,
      subst (Consumes (g.R.Read.remaining c.args.input.now) now) (sym (filled l.done (length l.buf - l.done) c.in-Ok.n l.buf c.read.new.buf (omega arith) c.in-Ok.ensures.bound.0))
          (Consumes-trans _ (g.R.Read.remaining l.input) now _ _ l.invariant.3 c.in-Ok.ensures.bytes.0),
    )
