-- Words of contracts whose laws stand in proofs/Laws/Graph.antt.
use mathlib.Core.List.{[], List, ◌∷◌}
use Rattle.meaning.specs.Answers.{ok, Ans, and_then}
use Rattle.meaning.specs.References.{EdgeSet, Edge, insert}

-- the set of each pair by itself: the edges of that pair put in one after the other
unfoldable pub insert_all : List Edge → EdgeSet → Ans EdgeSet
insert_all [] s = ok s
insert_all (e ∷ es) s = and_then (insert s e) (λ t. insert_all es t)
