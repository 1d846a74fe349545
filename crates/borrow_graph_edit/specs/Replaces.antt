-- A pair's set exchanged within the limit.
use Rattle.std.specs.Prelude.{ℕ, ◌+◌, ◌≤◌, ◌<◌, ◌≡◌, Bool, true, false, ◌&&◌, List, ◌++◌, leb, length, take, drop}
use Rattle.std.proofs.Common.{arith, sym, ap, ◌∙◌}
use Rattle.meaning.specs.Answers.{Ans, ok, refuse, and_then}
use Rattle.meaning.specs.Lists.{keep}
use Rattle.meaning.specs.References.{EdgeSet, insert, Report, report}
use Rattle.meaning.specs.BorrowGraph.{GEdge, is_before, tagged, set_at, set_to, newly_blurred}
use Rattle.meaning.specs.Refinement.Pairs.{edges_at, replace_one, few_edges}
use Rattle.meaning.specs.Laws.Pair.{Neat}
use Rattle.meaning.proofs.Laws.Pair.{length_set_to}
use Rattle.meaning.specs.AbstractState.{count1}
use Rattle.meaning.proofs.Laws.Blurs.{newly_insert}
use Rattle.meaning.specs.Laws.Report.{is_now}
use Rattle.meaning.proofs.Laws.Report.{insert_now}
use Rattle.meaning.proofs.Laws.Cut.{set_to_cut}
use Rattle.meaning.proofs.Laws.Listing.{up_to_length}
use Rattle.meaning.proofs.Laws.Pass.{replace_idle, replace_21, replace_fits}
use Rattle.references.specs.Models.{row_of}
use Rattle.borrow_graph_edit.specs.Models.{add_row}
use Rattle.borrow_graph_edit.specs.Places.{few_fits, few_over}

-- the list with the set's edges in place of the pair's
pub cut_in : (es : List GEdge) (p c low size : ℕ) (s : EdgeSet) → Neat es → low ≡ length (keep (is_before p c) es) → size ≡ length (edges_at p c es)
    → take low es ++ (tagged p c s.blurred s.edges ++ drop (low + size) es) ≡ set_to p c s es
cut_in es p c low size s w a b = (λ i. take (a i) es ++ (tagged p c s.blurred s.edges ++ drop (a i + b i) es)) ∙ sym (set_to_cut p c es w s)

-- the set is exchanged, if the limit lets it, unless it must shrink and does not
module _ (s : EdgeSet) (shrinking : Bool) (p c : ℕ) (es : List GEdge) (size k : ℕ) (a : size ≡ length (edges_at p c es)) (b : k ≡ length s.edges) where
  counted : (x : Bool) → (shrinking && leb size k) ≡ x → (shrinking && leb (length (edges_at p c es)) (length s.edges)) ≡ x
  counted x e = (λ i. shrinking && leb (sym a i) (sym b i)) ∙ e

  pub replaced_still : (shrinking && leb size k) ≡ true → ok es ≡ replace_one shrinking p c s es
  replaced_still h = sym (replace_idle shrinking p c s es (counted true h))

  pub replaced_over : (shrinking && leb size k) ≡ false → 96 + size < length es + k → refuse 21 ≡ replace_one shrinking p c s es
  replaced_over h q = sym (replace_21 shrinking p c s es (counted false h) (omega (arith, a, b)))

  pub replaced_fits : (shrinking && leb size k) ≡ false → (fs : List GEdge) → fs ≡ set_to p c s es → length es + k ≤ 96 + size → ok fs ≡ replace_one shrinking p c s es
  replaced_fits h fs e q = ap {B = Ans (List GEdge)} ok e ∙ sym (replace_fits shrinking p c s es (counted false h) (omega (arith, a, b)))

-- a row has no more labels than fit
pub row_short : (r : List ℕ) → length (row_of r).edge.path ≤ 8
row_short r = rw up_to_length (omega arith)

-- an edge that the set of its pair does not take
pub more_refused : (x : GEdge) (es : List GEdge) (n : ℕ) → refuse n ≡ insert (set_at x.parent x.child es) x.edge → refuse n ≡ add_row x es
more_refused x es n e = ap (λ (s : Ans EdgeSet). and_then s (λ u. few_edges (set_to x.parent x.child u es))) e

-- an edge put into a set that has edges: the new set is t
module _ (x : GEdge) (es : List GEdge) (t : EdgeSet) (e : insert (set_at x.parent x.child es) x.edge ≡ ok t) where
  given : add_row x es ≡ few_edges (set_to x.parent x.child t es)
  given = ap (λ (s : Ans EdgeSet). and_then s (λ u. few_edges (set_to x.parent x.child u es))) e

  size_is : length (set_to x.parent x.child t es) + length (edges_at x.parent x.child es) ≡ length es + length t.edges
  size_is = length_set_to x.parent x.child t es

  pub more_over : 96 + length (edges_at x.parent x.child es) < length es + length t.edges → refuse 21 ≡ add_row x es
  more_over h = sym (given ∙ few_over (set_to x.parent x.child t es) (omega (arith, size_is)))

  -- the sets that this blurs, by the report
  pub more_blurs : (fs : List GEdge) → fs ≡ set_to x.parent x.child t es → (r : Report) → report (set_at x.parent x.child es) x.edge ≡ ok r → newly_blurred es fs ≡ count1 (is_now (ok r))
  more_blurs fs q r k =
      ap (newly_blurred es) q ∙ newly_insert x.parent x.child es x.edge t e
      ∙ ap count1 (insert_now (set_at x.parent x.child es) x.edge t e) ∙ ap (λ (o : Ans Report). count1 (is_now o)) k

  pub more_fits : (fs : List GEdge) → fs ≡ set_to x.parent x.child t es → length es + length t.edges ≤ 96 + length (edges_at x.parent x.child es) → ok fs ≡ add_row x es
  more_fits fs q h = ap {B = Ans (List GEdge)} ok q ∙ sym (given ∙ few_fits (set_to x.parent x.child t es) (omega (arith, size_is)))
