use mathlib.Core.Path.{ap, sym, ◌∙◌}
use Rattle.std.specs.Prelude.{◌≡◌, ℕ, List, map, length, min, take}
use Rattle.std.proofs.lemmas.List.{take_min}
use borrow.Author.Rules.{rules}
use Rattle.abstract_state.specs.Models.{operand_in, operands_in}
use Rattle.abstract_state.proofs.state.Operands.words.Goals as goal

pub returns-clause-all : goal.returns-clause-all
unfolding operands_in
returns-clause-all c =
    let ws : List ℕ = c.args.self.now.list in
    let n : ℕ = c.args.self.now.len in
    let z : length ws ≡ 16 = search rules in
    ap (λ (k : ℕ). map operand_in (take k ws)) (c.lesser.ensures ∙ ap (min n) (sym z)) ∙ ap (map operand_in) (take_min n ws)
