use mathlib.Core.Path.{◌≡◌, ap, ◌∙◌}
use mathlib.Core.Bool.{Bool}
use mathlib.Core.List.{List, ◌++◌}
use Prim.Native.Nat.{ℕ, ◌+◌, ◌-◌, ◌*◌}
use lib.ListN.{length-set, drop, replicate}
use Rattle.meaning.specs.Laws.Area.{bit}
use Rattle.references.specs.RowLaws.{path_in, count_in, path_length, path_none, row_tagged}
use native.Mathlib.Omega.{arith}
use Rattle.references.proofs.rows.remade.Goals as goal

pub copy_labels-out-requires : goal.copy_labels-out-requires
copy_labels-out-requires c = omega (arith, c.labels-n.ensures, path_length c.args.x.now (count_in c.args.x.now), c.requires)

pub overflow_sub-n : goal.overflow_sub-n
overflow_sub-n c = omega (arith, c.labels-n.ensures, path_length c.args.x.now (count_in c.args.x.now), c.requires)

pub returns : goal.returns
returns c = let labels =
    c.labels-n in
    let copy-labels = c.copy_labels-out in
    let ends = c.ends in
    let a = c.args in
    let x = a.x.now in
    let n = labels.result in
    let r = copy-labels.result in
    let e : n ≡ count_in x = labels.ensures.0 ∙ path_length x _ in
    let z : n - a.k ≡ 0 + (n - a.k) = omega arith in
    let q : path_in r (n - a.k) ≡ drop a.k (path_in x (count_in x)) = ap (path_in r) z ∙ copy-labels.ensures.0 ∙ ap (λ (l : List ℕ). l ++ drop a.k (path_in x n)) (path_none (replicate 10 0)) ∙ ap (λ (m : ℕ). drop a.k (path_in x m)) e in (
      row_tagged r ends.result c.marks.result _ _ _ (n - a.k) _ _ _ (omega (arith, copy-labels.ensures.2)) ends.ensures.0 ends.ensures.1
          (c.marks.ensures ∙ ap (λ (s : Bool). a.loc.0 * 65536 + bit a.blurred * 32 + bit s * 16 + (n - a.k)) c.is_strong.ensures) (omega (arith, labels.ensures.1)) q,
      simp length-set
          copy-labels.ensures.2,
    )
