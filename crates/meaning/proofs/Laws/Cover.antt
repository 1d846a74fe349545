-- Cover, edge by edge: each edge of the second graph is covered by one of its own pair in the first.
use Rattle.std.specs.Prelude.{Bool, ◌&&◌, true, false, ◌||◌, cond, not, List, [], ◌∷◌, ◌≡◌, refl}
use Rattle.std.proofs.Math.Path.{ap, sym}
use Rattle.std.proofs.Common.{◌∙◌}
use Rattle.meaning.specs.Lists.{any, all, keep, empty}
use Rattle.meaning.specs.References.{covers, covered}
use Rattle.meaning.specs.BorrowGraph.{GEdge, eq_pair, union, one, set_at, Graph, unmatched}
use Rattle.meaning.specs.Laws.Cover.{covers_at, covered_in}

pub covered_at : (x : GEdge) (ys : List GEdge) → covered (set_at x.parent x.child ys).edges x.edge ≡ covered_in ys x
unfolding set_at covered_in
covered_at x [] = refl
covered_at x (y ∷ ys) = go (eq_pair x.parent x.child y.parent y.child) (covered_at x ys)
  where
    go : (b : Bool) → covered (set_at x.parent x.child ys).edges x.edge ≡ covered_in ys x
        → covered (cond b (union (one y) (set_at x.parent x.child ys)) (set_at x.parent x.child ys)).edges x.edge ≡ (b && covers y.edge x.edge) || covered_in ys x
    go true r = ap (λ (z : Bool). covers y.edge x.edge || z) r
    go false r = r

-- nothing is kept where all fail the test
pub empty_keep : {A : Type 0} (p q : A → Bool) → ((x : A) → p x ≡ q x) → (xs : List A) → empty (keep (λ x. not (p x)) xs) ≡ all q xs
empty_keep p q h [] = refl
empty_keep {A} p q h (x ∷ xs) = go (p x) (empty_keep p q h xs) ∙ ap (λ (b : Bool). b && all q xs) (h x)
  where
    go : (b : Bool) → empty (keep (λ (y : A). not (p y)) xs) ≡ all q xs → empty (cond (not b) (x ∷ keep (λ (y : A). not (p y)) xs) (keep (λ (y : A). not (p y)) xs)) ≡ b && all q xs
    go true r = r
    go false r = refl

pub unmatched_none : (g h : Graph) → empty (unmatched g h) ≡ all (covered_in g.edges) h.edges
unfolding unmatched
unmatched_none g h = empty_keep (λ x. covered (set_at x.parent x.child g.edges).edges x.edge) (covered_in g.edges) (λ x. covered_at x g.edges) h.edges

-- ---- one edge after the other: `ys` is what remains to be seen for the first of the edges that remain

unfoldable pub first_in : List GEdge → List GEdge → Bool
unfolding covered_in
first_in ys [] = true
first_in ys (x ∷ xs) = covered_in ys x

module _ (gs : List GEdge) (x : GEdge) (xs : List GEdge) where
  -- the seek ends without success
  pub seek_none : first_in [] (x ∷ xs) ≡ first_in gs (x ∷ xs) → false ≡ all (covered_in gs) (x ∷ xs)
  unfolding first_in covered_in
  seek_none h = ap (λ (b : Bool). b && all (covered_in gs) xs) h

  pub seek_next : (y : GEdge) (ys : List GEdge) → covers_at x y ≡ false → first_in (y ∷ ys) (x ∷ xs) ≡ first_in gs (x ∷ xs) → first_in ys (x ∷ xs) ≡ first_in gs (x ∷ xs)
  unfolding first_in covered_in
  seek_next y ys e h = sym (ap (λ (b : Bool). b || any (covers_at x) ys) e) ∙ h

  pub seek_found : (y : GEdge) (ys : List GEdge) → covers_at x y ≡ true → first_in (y ∷ ys) (x ∷ xs) ≡ first_in gs (x ∷ xs) → all (covered_in gs) xs ≡ all (covered_in gs) (x ∷ xs)
  unfolding first_in covered_in
  seek_found y ys e h = ap (λ (b : Bool). b && all (covered_in gs) xs) (sym (ap (λ (b : Bool). b || any (covers_at x) ys) e) ∙ h)
