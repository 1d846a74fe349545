-- Words of contracts whose laws stand in proofs/Laws/Put.antt.
use Rattle.std.specs.Prelude.{ℕ, true, List, map, ◌≡◌}
use Rattle.meaning.specs.Answers.{ok}
use Rattle.meaning.specs.BorrowGraph.{Graph, well_formed, GEdge, add_all, shift}

-- what the loop over the moved edges ys leaves
pub record Moved (g : Graph) (c : ℕ) (path : List ℕ) (ys : List GEdge) (h : Graph) : Type 0 where
  pub done : add_all (map (shift c path) ys) g ≡ ok h
  pub formed : well_formed h ≡ true
  pub names : h.names ≡ g.names
