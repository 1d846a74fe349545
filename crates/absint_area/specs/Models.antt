-- What the values of the code stand for in the definitions.
use Rattle.std.specs.Prelude.{ℕ, List, Some, None}
use Rattle.std.specs.Prelude as P
use Rattle.std.proofs.Math.Option.{Option, none, some}
use Rattle.meaning.specs.AbstractState.{State}
use Rattle.references.specs.Models.{names_in, edges_in}
use Rattle.abstract_state.specs.Models.{locals_in}
use Rattle.absint_area.specs.declared.Kept.{Kept}

-- the state that was loaded into these arrays, in a routine of l locals
abbrev pub loaded_in : List ℕ → List ℕ → List (List ℕ) → ℕ → P.Option Kept → Option State
loaded_in ls ns es l (Some k) = some (record { locals = locals_in ls l; graph = record { names = names_in ns k.refs; edges = edges_in es k.edges } })
loaded_in ls ns es l None = none
