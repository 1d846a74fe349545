-- The join, edge by edge and pair by pair.
use Rattle.std.specs.Prelude.{ℕ, ◌≡◌, refl, Bool, true, false, not, List, [], ◌∷◌}
use Rattle.std.proofs.Common.{sym, ap, ◌∙◌}
use Rattle.meaning.specs.Answers.{Ans, ok, and_then}
use Rattle.meaning.specs.References.{Edge, EdgeSet, covered, insert}
use Rattle.meaning.specs.BorrowGraph.{GEdge, eq_pair}
use Rattle.meaning.specs.Laws.Graph.{insert_all}
use Rattle.meaning.proofs.Laws.Pair.{insert_all_on, insert_all_end, pass_end}
use Rattle.meaning.specs.Refinement.Pairs.{Pair, pair_of, replace_lim}
use Rattle.meaning.specs.Refinement.Passes.{uncovered, pairs_from}
use Rattle.meaning.proofs.Laws.PairCall.{firsts_end}
use Rattle.meaning.proofs.Laws.Pass.{uncovered_skip, uncovered_take, pass_first, pairs_take, pairs_skip}

-- ---- a set: the edges of theirs that ours do not cover

module _ (us : List Edge) (xs : List Edge) (s : EdgeSet) (r : Ans EdgeSet) (inv : insert_all (uncovered us xs) s ≡ r) where
  module _ (x : Edge) (ys : List Edge) (h : xs ≡ x ∷ ys) where
    pub skip_covered : covered us x ≡ true → insert_all (uncovered us ys) s ≡ r
    skip_covered e = sym (ap (λ (es : List Edge). insert_all (uncovered us es) s) h ∙ ap (λ (es : List Edge). insert_all es s) (uncovered_skip us x ys e)) ∙ inv

    pub take_uncovered : covered us x ≡ false → and_then (insert s x) (λ t. insert_all (uncovered us ys) t) ≡ r
    take_uncovered e =
        sym (ap (λ (es : List Edge). insert_all (uncovered us es) s) h ∙ ap (λ (es : List Edge). insert_all es s) (uncovered_take us x ys e)
        ∙ insert_all_on x (uncovered us ys) s (insert s x) refl) ∙ inv

  pub none_left : xs ≡ [] → ok s ≡ r
  none_left h = sym (insert_all_end s) ∙ sym (ap (λ (es : List Edge). insert_all (uncovered us es) s) h) ∙ inv

-- ---- the pairs of theirs, one after the other

module _ (shrinking : Bool) (new : ℕ → ℕ → Ans EdgeSet) (p c : ℕ) (es xs : List GEdge) (r : Ans (List GEdge))
    (inv : replace_lim shrinking new (pairs_from (record { parent = p; child = c }) xs) es ≡ r) where
  abbrev prior : Pair
  prior = record { parent = p; child = c }

  module _ (x : GEdge) (ys : List GEdge) (h : xs ≡ x ∷ ys) (q e : ℕ) (eq : q ≡ x.parent) (ee : e ≡ x.child) where
    next : pairs_from prior xs ≡ pairs_from prior (x ∷ ys)
    next = ap (λ (zs : List GEdge). pairs_from prior zs) h

    pub skip_pair : not (eq_pair p c q e) ≡ false → replace_lim shrinking new (pairs_from prior ys) es ≡ r
    skip_pair z =
        sym (ap (λ (rs : List Pair). replace_lim shrinking new rs es) (next ∙ pairs_skip prior x ys ((λ j. not (eq_pair p c (sym eq j) (sym ee j))) ∙ z))) ∙ inv

    pub take_pair : not (eq_pair p c q e) ≡ true
        → and_then (replace_lim shrinking new (record { parent = q; child = e } ∷ []) es) (λ fs. replace_lim shrinking new (pairs_from (record { parent = q; child = e }) ys) fs) ≡ r
    take_pair z =
        (λ j. and_then (replace_lim shrinking new (record { parent = eq j; child = ee j } ∷ []) es)
        (λ fs. replace_lim shrinking new (pairs_from (record { parent = eq j; child = ee j }) ys) fs))
        ∙ sym (pass_first shrinking new (pairs_from prior xs) (pair_of x) (pairs_from (pair_of x) ys) es
        (next ∙ pairs_take prior x ys ((λ j. not (eq_pair p c (sym eq j) (sym ee j))) ∙ z))) ∙ inv

  pub no_pair_left : xs ≡ [] → ok es ≡ r
  no_pair_left h =
      sym (ap (λ (rs : List Pair). replace_lim shrinking new rs es) (ap (λ (zs : List GEdge). pairs_from prior zs) h ∙ firsts_end (λ x. true) prior)
      ∙ pass_end shrinking new es) ∙ inv
