use Rattle.std.specs.Prelude.{◌≡◌, ℕ, ◌+◌, ◌-◌, ◌++◌, List, length, take, drop, map}
use Rattle.std.proofs.Common.{arith, sym, ap, ◌∙◌, rules, length-take, length-drop}
use Rattle.std.proofs.lemmas.List.{places}
use Rattle.std.proofs.lemmas.Slice.{overwrites}
use Rattle.meaning.specs.Area.{label_in}
use Rattle.references.specs.RowLaws.{path_in, path_put, path_part}
use Rattle.references.proofs.rows.copy_labels.Goals as goal

pub returns : goal.returns
returns c =
    let a = c.args in
    let x = a.x.now in
    let ys = c.copy_from_slice.new.self in
    let size : length a.out ≡ 10 = search rules in
    let part : ys ≡ take (2 + a.n - (2 + a.start)) (drop (2 + a.start) x) = c.copy_from_slice.ensures.after in
    let many : length ys ≡ a.n - a.start = ap length part ∙ simp (length-take, length-drop) (omega arith) in (
      path_put a.out ys a.at _ (a.n - a.start) (sym many) (omega arith) (omega arith)
          ∙ ap (λ (l : List ℕ). path_in a.out a.at ++ l) (ap (map label_in) part ∙ path_part x a.start a.n (omega arith)),
      search (rules, places),
      search (rules, overwrites),
    )
