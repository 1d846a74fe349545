use Rattle.std.specs.Prelude.{◌≡◌, ℕ, List, [], ◌∷◌}
use Rattle.std.proofs.Common.{sym, ap, ◌∙◌, refl, rules}
use Rattle.std.specs.Ordering.{nat_cmp}
use Rattle.std.specs.Cmp.Lexicographic.{slice_cmp}
use Rattle.std.proofs.lemmas.Iterator.{YieldsList-from_slice, YieldsList-from_map}
use Rattle.std.proofs.lemmas.Iterator.Consumers.{YieldsList-at}
use Rattle.std.proofs.lemmas.Iterator.Search.{cmp_from_yields_List}
use lib.Dec.{ltb, eqb}
use borrow.Author.Tests.{ltb-true, ltb-false, eqb-true, eqb-false}
use Rattle.std.proofs.Common.{arith}
use Rattle.meaning.specs.Area.{label_in}
use Rattle.meaning.specs.References.{compare_paths}
use Rattle.meaning.proofs.Laws.Base.{decide}
use Rattle.meaning.proofs.Laws.Place.{paths_less, paths_greater, paths_equal, paths_end, paths_prefix, paths_longer}
use Rattle.paths.specs.Models.{ordering_of}
use Rattle.references.proofs.rows.cmp_paths.Goals as goal

by_labels : (p q : List ℕ) → ordering_of (slice_cmp nat_cmp p q) ≡ compare_paths p q
by_labels [] [] = sym paths_end
by_labels [] (y ∷ q) = sym (paths_prefix y q)
by_labels (x ∷ p) [] = sym (paths_longer x p)
by_labels (x ∷ p) (y ∷ q) = decide (ltb x y)
    (λ t. rw t (sym (paths_less x y p q (ltb-true x y t))))
    (λ t. decide (eqb x y)
    (λ s. let e = eqb-true x y s in rw (t, s) (by_labels p q ∙ sym (paths_equal x y p q (omega arith) (omega arith))))
    (λ s. let l = ltb-false x y t in let d = eqb-false x y s in rw (t, s) (sym (paths_greater x y p q (omega arith)))))

pub returns : goal.returns
returns c =
    ap ordering_of (cmp_from_yields_List (λ x y. y ≡ x) _ nat_cmp _ c.cmp.ensures.ran
    (YieldsList-from_map _ label_in (YieldsList-from_slice c.path.result.now cc) c.map-ours.ensures.closure (λ x r q k. search rules))
    (λ it e. YieldsList-at e (YieldsList-from_map _ label_in (YieldsList-from_slice c.path-2.result.now cc) c.map-theirs.ensures.closure (λ x r q k. search rules)))
    (λ x y. refl))
    ∙ by_labels _ _
    ∙ (λ i. compare_paths (c.path.ensures i) (c.path-2.ensures i))
