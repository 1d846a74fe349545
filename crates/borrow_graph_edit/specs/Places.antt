-- Rows changed in place: a pair's first edge put in.
use Rattle.std.specs.Prelude.{ℕ, ◌+◌, ◌≤◌, ◌<◌, ◌≡◌, refl, false, List, [], ◌∷◌, ◌++◌, length, take, drop}
use Rattle.std.proofs.Common.{arith, sym, ap, ◌∙◌, le-leb}
use Rattle.meaning.specs.Answers.{Ans, ok, refuse, and_then}
use Rattle.meaning.specs.Lists.{keep}
use Rattle.meaning.specs.References.{EdgeSet}
use Rattle.meaning.specs.BorrowGraph.{GEdge, is_before, set_to, newly_blurred}
use Rattle.meaning.specs.Refinement.Pairs.{edges_at, few_edges}
use Rattle.meaning.specs.Laws.Pair.{Neat}
use Rattle.meaning.proofs.Laws.Pair.{length_set_to}
use Rattle.meaning.proofs.Laws.Blurs.{newly_set_to}
use Rattle.meaning.proofs.Laws.Cut.{set_to_cut}
use Rattle.meaning.proofs.Laws.Put.{insert_first}
use Rattle.std.proofs.lemmas.Bool.{lt-leb}
use Rattle.borrow_graph_edit.specs.Models.{add_row}

-- ---- the first edge of a pair

pub few_fits : (es : List GEdge) → length es ≤ 96 → few_edges es ≡ ok es
few_fits es h = rw (le-leb _ _ h) refl

pub few_over : (es : List GEdge) → 96 < length es → few_edges es ≡ refuse 21
few_over es h = rw (lt-leb _ _ h) refl

module _ (es : List GEdge) (x : GEdge) (low : ℕ) (w : Neat es) (sh : length x.edge.path ≤ 8) (z : length (edges_at x.parent x.child es) ≡ 0) where
  abbrev alone : EdgeSet
  alone = record { edges = x.edge ∷ []; blurred = false }

  size : length (set_to x.parent x.child alone es) ≡ length es + 1
  size = let a = length_set_to x.parent x.child alone es in omega arith

  abbrev lone : GEdge
  lone = record { parent = x.parent; child = x.child; blurred = false; edge = x.edge }

  placed : low ≡ length (keep (is_before x.parent x.child) es) → take low es ++ (lone ∷ drop low es) ≡ set_to x.parent x.child alone es
  placed a =
      let b : low ≡ length (keep (is_before x.parent x.child) es) + length (edges_at x.parent x.child es) = omega arith in
      (λ i. take (a i) es ++ (lone ∷ drop (b i) es)) ∙ sym (set_to_cut x.parent x.child es w alone)

  made : add_row x es ≡ few_edges (set_to x.parent x.child alone es)
  made = ap (λ (s : Ans EdgeSet). and_then s (λ t. few_edges (set_to x.parent x.child t es))) (insert_first x.parent x.child es x.edge z sh)

  pub first_fits : low ≡ length (keep (is_before x.parent x.child) es) → length es < 96 → add_row x es ≡ ok (take low es ++ (lone ∷ drop low es))
  first_fits a h = made ∙ few_fits (set_to x.parent x.child alone es) (omega (arith, size)) ∙ ap {B = Ans (List GEdge)} ok (sym (placed a))

  -- it blurs no set
  pub first_blurs : low ≡ length (keep (is_before x.parent x.child) es) → (fs : List GEdge) → fs ≡ take low es ++ (lone ∷ drop low es) → newly_blurred es fs ≡ 0
  first_blurs a fs q = ap (newly_blurred es) (q ∙ placed a) ∙ newly_set_to x.parent x.child alone es

  pub first_over : 96 ≤ length es → add_row x es ≡ refuse 21
  first_over h = made ∙ few_over (set_to x.parent x.child alone es) (omega (arith, size))
