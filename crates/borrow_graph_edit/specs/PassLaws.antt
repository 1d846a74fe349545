-- Turns of the loops over a name's children and parents.
use Rattle.std.specs.Prelude.{ℕ, ◌≡◌, Bool, true, false, not, ◌&&◌, cond, List, [], ◌∷◌, eqb, Result, Ok, Err}
use Rattle.std.proofs.Common.{sym, ap, ◌∙◌}
use Rattle.std.proofs.lemmas.Bool.{false≢true}
use Rattle.meaning.specs.Answers.{Ans, ok, refuse, and_then}
use Rattle.meaning.specs.Lists.{each}
use Rattle.meaning.specs.References.{EdgeSet}
use Rattle.meaning.specs.BorrowGraph.{GEdge}
use Rattle.meaning.specs.Refinement.Pairs.{Pair, replace_lim, or21, two_pass}
use Rattle.meaning.specs.Refinement.Passes.{children_from, parents_from}
use Rattle.meaning.proofs.Laws.Pair.{pass_end}
use Rattle.meaning.proofs.Laws.PairCall.{firsts_end}
use Rattle.meaning.proofs.Laws.Base.{eqb_eq}
use Rattle.vm_status.specs.declared.Refusal.{Refusal}
use Rattle.vm_status.specs.Models.{number_of, answer_of}
use Rattle.borrow_graph_edit.specs.Models.{is_21}
use Rattle.meaning.proofs.Laws.Pass.{pass_again, pass_each, children_take, children_skip, parents_take, parents_skip}

-- n: the name; last: the child or parent before; p and c: the ends of the edge y, as the code has read them
module _ (sh : Bool) (new : ℕ → ℕ → Ans EdgeSet) (n last : ℕ) (f : Pair → List Pair) (es : List GEdge) (r : Ans (List GEdge)) (xs : List GEdge) where
  module _ (p c : ℕ) (y : GEdge) (ys : List GEdge) (e : xs ≡ y ∷ ys) (yp : p ≡ y.parent) (yc : c ≡ y.child) where
    module _ (k : replace_lim sh new (each (children_from n last xs) f) es ≡ r) where
      test : (b : Bool) → eqb n p && not (eqb last c) ≡ b → eqb n y.parent && not (eqb last y.child) ≡ b
      test b h = (λ i. eqb n (sym yp i) && not (eqb last (sym yc i))) ∙ h

      pub child_turn : eqb n p && not (eqb last c) ≡ true
          → and_then (replace_lim sh new (f (record { parent = n; child = c })) es) (λ fs. replace_lim sh new (each (children_from n c ys) f) fs) ≡ r
      child_turn h =
          sym (pass_each sh new f (children_from n last xs) (record { parent = n; child = c }) (children_from n c ys) es
          (ap (λ (l : List GEdge). children_from n last l) e ∙ children_take n last y ys (test true h) ∙ (λ i. record { parent = n; child = sym yc i } ∷ children_from n (sym yc i) ys))) ∙ k

      pub child_skip : eqb n p && not (eqb last c) ≡ false → replace_lim sh new (each (children_from n last ys) f) es ≡ r
      child_skip h =
          sym (ap (λ (rs : List Pair). replace_lim sh new (each rs f) es) (ap (λ (l : List GEdge). children_from n last l) e ∙ children_skip n last y ys (test false h))) ∙ k

    module _ (k : replace_lim sh new (each (parents_from n last xs) f) es ≡ r) where
      tried : (b : Bool) → eqb n c && not (eqb last p) ≡ b → eqb n y.child && not (eqb last y.parent) ≡ b
      tried b h = (λ i. eqb n (sym yc i) && not (eqb last (sym yp i))) ∙ h

      pub parent_turn : eqb n c && not (eqb last p) ≡ true
          → and_then (replace_lim sh new (f (record { parent = p; child = n })) es) (λ fs. replace_lim sh new (each (parents_from n p ys) f) fs) ≡ r
      parent_turn h =
          sym (pass_each sh new f (parents_from n last xs) (record { parent = p; child = n }) (parents_from n p ys) es
          (ap (λ (l : List GEdge). parents_from n last l) e ∙ parents_take n last y ys (tried true h) ∙ (λ i. record { parent = sym yp i; child = n } ∷ parents_from n (sym yp i) ys))) ∙ k

      pub parent_skip : eqb n c && not (eqb last p) ≡ false → replace_lim sh new (each (parents_from n last ys) f) es ≡ r
      parent_skip h =
          sym (ap (λ (rs : List Pair). replace_lim sh new (each rs f) es) (ap (λ (l : List GEdge). parents_from n last l) e ∙ parents_skip n last y ys (tried false h))) ∙ k

  module _ (e : xs ≡ []) where
    pub child_end : replace_lim sh new (each (children_from n last xs) f) es ≡ r → ok es ≡ r
    child_end k =
        sym (ap (λ (rs : List Pair). replace_lim sh new (each rs f) es) (ap (λ (l : List GEdge). children_from n last l) e ∙ firsts_end (λ y. eqb n y.parent) (record { parent = n; child = last }))
        ∙ pass_end sh new es) ∙ k

    pub parent_end : replace_lim sh new (each (parents_from n last xs) f) es ≡ r → ok es ≡ r
    parent_end k =
        sym (ap (λ (rs : List Pair). replace_lim sh new (each rs f) es) (ap (λ (l : List GEdge). parents_from n last l) e ∙ firsts_end (λ y. eqb n y.child) (record { parent = last; child = n }))
        ∙ pass_end sh new es) ∙ k

-- ---- a second pass where the first ended at the limit

module _ (new : ℕ → ℕ → Ans EdgeSet) (rs : List Pair) (es : List GEdge) (f : ℕ → List GEdge) (r : Result ℕ Refusal) (e : answer_of f r ≡ replace_lim false new rs es) where
  pub first_pass : is_21 r ≡ false → answer_of f r ≡ two_pass new rs es
  unfolding two_pass
  first_pass h = go r h (replace_lim false new rs es) (and_then (replace_lim true new rs es) (λ fs. replace_lim false new rs fs)) e
    where
      go : (r : Result ℕ Refusal) → is_21 r ≡ false → (a k : Ans (List GEdge)) → answer_of f r ≡ a → answer_of f r ≡ or21 a k
      go (Ok n) h a k e = ap (λ (b : Ans (List GEdge)). or21 b k) e
      go (Err n) h a k e = ap (λ (b : Bool). cond b k (refuse (number_of n))) (sym h) ∙ ap (λ (b : Ans (List GEdge)). or21 b k) e

  pub next_pass : is_21 r ≡ true → and_then (replace_lim true new rs es) (λ fs. replace_lim false new rs fs) ≡ two_pass new rs es
  next_pass h = pass_again new rs es (sym e ∙ go r h)
    where
      go : (r : Result ℕ Refusal) → is_21 r ≡ true → answer_of f r ≡ refuse 21
      go (Ok n) h = absurd (false≢true h)
      go (Err n) h = ap (λ (k : ℕ). refuse k) (eqb_eq h)
