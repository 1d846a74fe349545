use Rattle.std.specs.Prelude.{◌≡◌, Bool, true, false}
use Rattle.std.proofs.Common.{sym, ap, ◌∙◌, subst, rules}
use Rattle.std.specs.declared.cmp.Ordering.{Ordering}
use Rattle.std.specs.declared.cmp.Ordering.TheVariants.{Less, Greater}
use Rattle.std.specs.Ordering.{MatchOrdering, bool_cmp}
use Rattle.meaning.specs.References.{Cmp, compare_paths}
use Rattle.meaning.proofs.Laws.Place.{by_strong, edges_by}
use Rattle.paths.specs.Models.{ordering_of}
use Rattle.references.specs.Models.{edge_in}
use Rattle.references.proofs.rows.cmp.Goals as goal

ranked : (B : Type 0) (a b : Bool) (o r : Ordering) (c : Cmp) → o ≡ bool_cmp a b → MatchOrdering o (r ≡ Less) B (r ≡ Greater) → (B → ordering_of r ≡ c) → ordering_of r ≡ by_strong a b c
ranked B a b o r c e m f = go a b (subst (λ (p : Ordering). MatchOrdering p (r ≡ Less) B (r ≡ Greater)) e m)
  where
    go : (a b : Bool) → MatchOrdering (bool_cmp a b) (r ≡ Less) B (r ≡ Greater) → ordering_of r ≡ by_strong a b c
    go true true m = f m
    go true false m = ap ordering_of m
    go false true m = ap ordering_of m
    go false false m = f m

pub returns : goal.returns
returns c =
    let e = edge_in c.args.x.now in
    let f = edge_in c.args.y.now in
    ranked _ _ _ _ c.then_with.result (compare_paths e.path f.path) c.cmp.ensures c.then_with.ensures (λ k. search rules)
    ∙ (λ i. by_strong (c.is_strong.ensures i) (c.is_strong-2.ensures i) (compare_paths e.path f.path))
    ∙ sym (edges_by e f)
