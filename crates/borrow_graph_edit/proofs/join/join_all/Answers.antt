use Rattle.std.proofs.Common.{rules, ◌≡◌, sym, ap, ◌∙◌, subst, length, List, ℕ}
use Rattle.meaning.specs.Limits.{max_edges}
use Rattle.meaning.specs.Laws.Pair.{Neat}
use Rattle.meaning.specs.Refinement.Pairs.{loop_at, two_pass, replace_lim}
use Rattle.meaning.specs.Refinement.Passes.{join_set, pairs_from}
use Rattle.meaning.proofs.Laws.Pass.{join_set_ok}
use Rattle.references.specs.Models.{edges_in}
use Rattle.borrow_graph_edit.specs.Models.{replaced_in}
use Rattle.borrow_graph_edit.proofs.join.join_all.Goals as goal

pub returns : goal.returns
returns c =
    let a = c.args in
    let es = edges_in a.ours.now a.k in
    let fs = edges_in a.theirs.now a.n in
    let new = join_set es fs in
    let rs = pairs_from (loop_at 0) fs in (
      c.two_passes.ensures.few,
      λ h lo lt no nt.
          let p = c.two_passes.ensures.rows new rs (ap length h ∙ lo) (subst (λ (xs : List (List ℕ)). Neat (edges_in xs a.k)) (sym h) no) (join_set_ok es fs no)
          (λ e n f q u.
          let z : (f.now ≡ a.ours.now) × (n ≡ a.k) = search rules in
          (ap length z.0 ∙ lo, λ i. edges_in ((z.0 ∙ sym h) i) (z.1 i)))
          (λ e n b r f q u t.
          let z : length e.now ≡ max_edges → length a.ours.now ≡ max_edges → length a.theirs.now ≡ max_edges → Neat (edges_in e.now n) → Neat es → Neat fs
          → (length f.now ≡ max_edges) × (replaced_in f.now r ≡ replace_lim b new rs (edges_in e.now n)) = search rules in
          z u lo lt t no nt) in
          (p.0, p.1 ∙ ap (λ (xs : List (List ℕ)). two_pass new rs (edges_in xs a.k)) h),
    )
