use mathlib.Core.Path.{◌≡◌, ap, ◌∙◌}
use Prim.Native.Nat.{ℕ, min}
use lib.ListN.{length, drop}
use Rattle.references.specs.Models.{row_of, path_at}
use Rattle.references.specs.RowLaws.{path_in, count_in, path_length, drop_within}
use mathlib.Core.Bool.{false}
use native.Mathlib.Omega.{arith}
use Rattle.references.proofs.rows.factor.Goals as goal

pub remade-requires : goal.remade-requires
remade-requires c = let y =
    c.args.y.now in
    omega (arith, c.min-k.ensures, c.labels.ensures.0, path_length y (count_in y))

pub returns : goal.returns
returns c = let a =
    c.args in
    let lesser = c.min-k in
    let labels = c.labels in
    let len_of_lem = c.len_of in
    let y = a.y.now in
    let k : lesser.result ≡ min (length (path_at a.path)) (count_in y) = omega (arith, lesser.ensures, len_of_lem.ensures, labels.ensures.0, path_length y (count_in y)) in
    let p = ap (λ (j : ℕ). drop j (path_in y (count_in y))) k ∙ drop_within y (length (path_at a.path)) (count_in y) in
    c.remade.ensures.0
    ∙ (λ i. record {
      parent = a.child.0;
      child = c.child-end.ensures i;
      blurred = false;
      edge = record { strong = (row_of y).edge.strong; path = p i; offset = c.offset-loc.ensures i };
    })
