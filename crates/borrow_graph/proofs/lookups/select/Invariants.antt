use mathlib.Core.Path.{◌≡◌}
use mathlib.Core.List.{◌++◌}
use Prim.Native.Nat.{◌≤◌}
use lib.ListN.{length, drop}
use Rattle.meaning.specs.Lists.{keep}
use Rattle.references.specs.Models.{edges_in}
use Rattle.borrow_graph.specs.Models as M
use Rattle.borrow_graph.proofs.lookups.select.Given as goal

abbrev pub invariant-loop-x : goal.invariant-loop-x
invariant-loop-x l = (l.found ≤ l.x-index) × (length l.edges ≡ 96 → length l.initial.out ≡ 96 → (length l.out ≡ 96) × (edges_in l.out l.found ++ keep (λ x. M.picks l.ends x.parent x.child) (drop l.x-index (edges_in l.edges l.m)) ≡ keep (λ x. M.picks l.ends x.parent x.child) (edges_in l.edges l.m)))
