-- What words and rows of the code stand for in the definitions. A count beyond an array's length reads as the length.
use Rattle.std.specs.Prelude as P
use Rattle.std.specs.Prelude.{Some, None, ℕ, ◌+◌, cond, List, [], ◌∷◌, map, eqb, take, get_or}
use Rattle.std.proofs.Math.Option.{Option, none, some}
use Rattle.meaning.specs.Answers.{Ans, ok, refuse}
use Rattle.meaning.specs.Labels.{number_of}
use Rattle.meaning.specs.References.{Edge, EdgeSet, Offered, fits, too_long, Report, added, already_there, blurred_now, blurred_before}
use Rattle.meaning.specs.BorrowGraph.{Name, GEdge}
use Rattle.meaning.specs.Area.{name_in, label_in, edge_of}
use Rattle.paths.specs.Models.{label_of}
use Rattle.paths.specs.declared.Label.{Label}
use Rattle.references.specs.declared.rows.Candidate.{Candidate}
use Rattle.references.specs.declared.rows.Candidate.TheVariants.{Fits, TooLong}
use Rattle.references.specs.declared.set.BorrowEdgeSet.{BorrowEdgeSet}
use Rattle.references.specs.declared.set.Report as D
use Rattle.references.specs.declared.set.Report.TheVariants.{Added, AlreadyThere, BlurredNow, BlurredBefore}

-- the edge of a row, with its ends
abbrev pub row_of : List ℕ → GEdge
row_of r = edge_of (get_or r 0 0) (get_or r 1 0) (λ i. label_in (get_or r (2 + i) 0))

-- the first m rows
unfoldable pub edges_in : List (List ℕ) → ℕ → List GEdge
edges_in rows m = map row_of (take m rows)

-- the first n names
unfoldable pub names_in : List ℕ → ℕ → List Name
names_in ws n = map name_in (take n ws)

-- a filter as a path, and as a label that counts
abbrev pub path_at : P.Option Label → List ℕ
path_at None = []
path_at (Some l) = number_of (label_of l) ∷ []

abbrev pub filter_of : P.Option Label → Option ℕ
filter_of None = none
filter_of (Some l) = some (number_of (label_of l))

-- a refusal has its number of document 01; 0 is none
abbrev pub told : {A : Type 0} → ℕ → A → Ans A
told n a = cond (eqb n 0) (ok a) (refuse n)

-- an edge that is offered, its row, and where it is from; of a row that is too long only the ends and the offset count
abbrev pub candidate_of : Candidate → Offered
candidate_of (Fits r) = fits (row_of r).edge
candidate_of (TooLong r) = too_long (row_of r).edge.offset

abbrev pub row_in : Candidate → List ℕ
row_in (Fits r) = r
row_in (TooLong r) = r

abbrev pub offset_at : Candidate → ℕ
offset_at (Fits r) = (row_of r).edge.offset
offset_at (TooLong r) = (row_of r).edge.offset

-- the edges of a set's rows, without ends and marks
abbrev pub edge_in : List ℕ → Edge
edge_in r = (row_of r).edge

unfoldable pub set_edges : List (List ℕ) → ℕ → List Edge
set_edges rows n = map edge_in (take n rows)

abbrev pub set_of : BorrowEdgeSet → EdgeSet
set_of s = record { edges = set_edges s.rows s.len; blurred = s.overflown }

abbrev pub report_of : D.Report → Report
report_of Added = added
report_of AlreadyThere = already_there
report_of BlurredNow = blurred_now
report_of BlurredBefore = blurred_before
