use mathlib.Core.Path.{◌≡◌, sym, ap, ◌∙◌}
use mathlib.Core.Bool.{Bool, true, false}
use mathlib.Core.List.{◌++◌}
use Prim.Native.Nat.{ℕ, ◌+◌, ◌*◌, ◌<◌, ◌≤◌}
use lib.ListN.{length, length-append}
use Rattle.meaning.specs.References.{Offered, fits, too_long, fitting}
use Rattle.meaning.specs.BorrowGraph.{GEdge}
use Rattle.meaning.specs.Laws.Area.{bit}
use Rattle.meaning.proofs.Laws.Pass.{fitting_short, splice_strong, splice_weak}
use Rattle.references.specs.Models.{row_of}
use Rattle.references.specs.RowLaws.{path_in, count_in, path_length, row_joined, fitting_long}
use native.Mathlib.Omega.{arith}
use Rattle.references.proofs.rows.splice.Goals as goal

pub returns-then-not-is_strong : goal.returns-then-not-is_strong
returns-then-not-is_strong c = let x =
    c.args.x.now in
    let y = c.args.y.now in
    let w = c.remade-whole.ensures.0 in
    let loc = c.offset-behind in
    let is-strong = c.is_strong in
    let s : is-strong.result ≡ false = c.if-not-is_strong.true in (
      ap (λ (g : GEdge). fits g.edge) w ∙ fitting_short (record { strong = (row_of x).edge.strong; path = (row_of x).edge.path; offset = loc.result.0 }) (omega (arith, path_length x (count_in x)))
          ∙ ap {B = Offered} (λ (o : ℕ). fitting (record { strong = (row_of x).edge.strong; path = (row_of x).edge.path; offset = o })) loc.ensures
          ∙ ap fitting (splice_weak (row_of x).edge (row_of y).edge (sym is-strong.ensures ∙ s)),
      ap (λ (g : GEdge). g.parent) w ∙ c.parent.ensures,
      ap (λ (g : GEdge). g.child) w ∙ c.child.ensures,
    )

pub returns-then-n-m-gt-MAX_LABELS : goal.returns-then-n-m-gt-MAX_LABELS
returns-then-n-m-gt-MAX_LABELS c = let x =
    c.args.x.now in
    let y = c.args.y.now in
    let w = c.remade-whole.ensures.0 in
    let loc = c.offset-behind in
    let is-strong = c.is_strong in
    let s : is-strong.result ≡ true = c.if-not-is_strong.false in
    let h : 8 < length ((row_of x).edge.path ++ (row_of y).edge.path) = simp length-append (omega (arith, c.labels-n.ensures.0, c.labels-m.ensures.0, c.if-n-m-gt-MAX_LABELS.true)) in (
      ap (λ (g : GEdge). too_long g.edge.offset) w ∙ ap too_long loc.ensures
          ∙ fitting_long (record { strong = (row_of y).edge.strong; path = (row_of x).edge.path ++ (row_of y).edge.path; offset = (row_of y).edge.offset }) h
          ∙ ap fitting (splice_strong (row_of x).edge (row_of y).edge (sym is-strong.ensures ∙ s)),
      ap (λ (g : GEdge). g.parent) w ∙ c.parent.ensures,
      ap (λ (g : GEdge). g.child) w ∙ c.child.ensures,
    )

pub copy_labels-out-requires : goal.copy_labels-out-requires
copy_labels-out-requires c = omega (arith, c.labels-n.ensures, c.labels-m.ensures, c.if-n-m-gt-MAX_LABELS.false)

pub returns : goal.returns
returns c = let a =
    c.args in
    let is-strong = c.is_strong in
    let loc = c.offset-behind in
    let remade = c.remade-whole in
    let labels = c.labels-n in
    let labels2 = c.labels-m in
    let if2 = c.if-n-m-gt-MAX_LABELS in
    let x = a.x.now in
    let y = a.y.now in
    let w = remade.ensures.0 in
    let s : is-strong.result ≡ true = c.if-not-is_strong.false in
    let n = labels.result in
    let m = labels2.result in
    let r = c.copy_labels-out in
    let h : length ((row_of x).edge.path ++ (row_of y).edge.path) ≤ 8 = simp length-append (omega (arith, labels.ensures.0, labels2.ensures.0, if2.false)) in
    let e : m ≡ count_in y = labels2.ensures.0 ∙ path_length y _ in
    let q = r.ensures.0 ∙ ap (λ (k : ℕ). path_in remade.result n ++ path_in y k) e in
    let g = row_joined remade.result r.result c.marks.result loc.result.0 n m (row_of y).edge.strong _ (row_of y).edge.path w labels.ensures.0 (omega (arith, if2.false)) q
    r.ensures.1 r.ensures.2 (c.marks.ensures ∙ ap (λ (b : Bool). loc.result.0 * 65536 + bit false * 32 + bit b * 16 + (n + m)) c.is_strong-2.ensures) in (
      ap (λ (g : GEdge). fits g.edge) g
          ∙ fitting_short (record { strong = (row_of y).edge.strong; path = (row_of x).edge.path ++ (row_of y).edge.path; offset = loc.result.0 }) h
          ∙ ap {B = Offered} (λ (o : ℕ). fitting (record { strong = (row_of y).edge.strong; path = (row_of x).edge.path ++ (row_of y).edge.path; offset = o })) loc.ensures
          ∙ ap fitting (splice_strong (row_of x).edge (row_of y).edge (sym is-strong.ensures ∙ s)),
      ap (λ (g : GEdge). g.parent) g ∙ c.parent.ensures,
      ap (λ (g : GEdge). g.child) g ∙ c.child.ensures,
    )
