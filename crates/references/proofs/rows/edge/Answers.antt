use mathlib.Core.List.{List, [], ◌∷◌}
use Prim.Native.Nat.{ℕ}
use mathlib.Core.Path.{refl}
use Rattle.references.specs.RowLaws.{row_made, path_one}
use native.Mathlib.Omega.{arith}
use Rattle.references.proofs.rows.edge.Goals as goal

pub returns : goal.returns
returns c = let ends =
    c.ends in
    let len_of_lem = c.len_of in
    let marks = c.marks in
    let r : List ℕ = ends.result ∷ marks.result ∷ c.number_of.result ∷ 0 ∷ 0 ∷ 0 ∷ 0 ∷ 0 ∷ 0 ∷ 0 ∷ [] in
    row_made r _ _ _ len_of_lem.result _ _ _ ends.ensures.0 ends.ensures.1 marks.ensures (omega (arith, len_of_lem.ensures))
    (path_one c.args.path r len_of_lem.result c.number_of.result len_of_lem.ensures.0 c.number_of.ensures.0 c.number_of.ensures.1 refl)
