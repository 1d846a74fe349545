-- The limit, a single edge put in, a name taken out, and the place of a name.
use Rattle.std.specs.Prelude.{◌≤◌, ◌<◌, ℕ, ◌+◌, suc, false, cond, Bool, true, not, ◌&&◌, [], ◌∷◌, List, ◌++◌, ◌≡◌, refl, leb, ltb, eqb, length, take, drop}
use Rattle.std.proofs.Common.{arith, ap, ◌∙◌, subst}
use Rattle.meaning.specs.Answers.{ok, refuse, Ans, and_then}
use Rattle.meaning.specs.Lists.{keep}
use Rattle.meaning.specs.BorrowGraph.{Graph, limit, GEdge, add_edge, add_all, Name, put_name, well_formed, pair_ok, without}
use Rattle.meaning.proofs.Laws.Base.{le_leb, decide, leb_le, and_i, and_then_ok}
use Rattle.meaning.proofs.Laws.Call.{without_inv}
use Rattle.meaning.proofs.Laws.Graph.{wf→inv, inv→wf, limit_ok, add_all_names, add_all_inv}
use Rattle.meaning.specs.Laws.Add.{place_at}

pub limit_pass : (g : Graph) → length g.edges ≤ 96 → limit g ≡ ok g
unfolding limit
limit_pass g h = rw (le_leb h)

pub limit_stop : (g : Graph) → 96 < length g.edges → limit g ≡ refuse 21
unfolding limit
limit_stop g h = rw (decide {X = leb (length g.edges) 96 ≡ false} (leb (length g.edges) 96) (λ t. let z : length g.edges ≤ 96 = leb_le t in absurd (omega arith)) (λ t. t))

pub add_one_edge : (x : GEdge) (g : Graph) → and_then (add_all (x ∷ []) g) limit ≡ and_then (add_edge g x) limit
unfolding add_all
add_one_edge x g = go (add_edge g x)
  where
    go : (a : Ans Graph) → and_then (and_then a (λ h. ok h)) limit ≡ and_then a limit
    go (ok h) = refl
    go (refuse n) = refl

-- ---- names

pub place_name : (a : Name) (ns : List Name) → put_name a ns ≡ take (place_at a.id ns) ns ++ a ∷ drop (place_at a.id ns) ns
unfolding put_name
place_name a [] = refl
place_name a (b ∷ bs) = go (ltb a.id b.id) (place_name a bs)
  where
    go : (d : Bool) → put_name a bs ≡ take (place_at a.id bs) bs ++ a ∷ drop (place_at a.id bs) bs
        → cond d (a ∷ b ∷ bs) (b ∷ put_name a bs) ≡ take (cond d 0 (place_at a.id bs + 1)) (b ∷ bs) ++ a ∷ drop (cond d 0 (place_at a.id bs + 1)) (b ∷ bs)
    go true r = refl
    go false r =
        let z : suc (place_at a.id bs) ≡ place_at a.id bs + 1 = omega arith in
        ap (λ (l : List Name). b ∷ l) r ∙ ap (λ (n : ℕ). take n (b ∷ bs) ++ a ∷ drop n (b ∷ bs)) z

pub place_le : (n : ℕ) (ns : List Name) → place_at n ns ≤ length ns
place_le n [] = omega arith
place_le n (b ∷ bs) = go (ltb n b.id) (place_le n bs)
  where
    go : (d : Bool) → place_at n bs ≤ length bs → cond d 0 (place_at n bs + 1) ≤ suc (length bs)
    go true h = omega arith
    go false h = omega arith

-- ---- well-formedness

-- an edge between held names, within the limit, keeps a graph well formed
pub record Kept (g h : Graph) : Type 0 where
  pub formed : well_formed h ≡ true
  pub names : h.names ≡ g.names

pub add_keeps : (g : Graph) (x : GEdge) (h : Graph) → well_formed g ≡ true → pair_ok g.names x.parent x.child ≡ true → and_then (add_edge g x) limit ≡ ok h → Kept g h
unfolding add_all
add_keeps g x h w q e =
    let y = and_then_ok (add_edge g x) limit h e in
    let l = limit_ok y.0 h y.2 in
    let a : add_all (x ∷ []) g ≡ ok y.0 = ap (λ (z : Ans Graph). and_then z (λ k. ok k)) y.1 in
    subst (λ (k : Graph). Kept g k) l.0 (record {
      formed = inv→wf y.0 (add_all_inv (x ∷ []) g y.0 a (wf→inv g w) (and_i q refl)) l.1;
      names = add_all_names (x ∷ []) g y.0 a;
    })

pub keep_few : {A : Type 0} (q : A → Bool) (xs : List A) → length (keep q xs) ≤ length xs
keep_few q [] = omega arith
keep_few q (x ∷ xs) = go (q x) (keep_few q xs)
  where
    go : (b : Bool) → length (keep q xs) ≤ length xs → length (cond b (x ∷ keep q xs) (keep q xs)) ≤ suc (length xs)
    go true h = omega arith
    go false h = omega arith

pub without_formed : (g : Graph) (n : ℕ) → well_formed g ≡ true → length g.edges ≤ 96 → well_formed (without g n) ≡ true
unfolding without
without_formed g n w l =
    let q : GEdge → Bool = λ x. not (eqb n x.parent) && not (eqb n x.child) in
    let z : length (keep q g.edges) ≤ length g.edges = keep_few q g.edges in
    let y : length (keep q g.edges) ≤ 96 = omega arith in
    inv→wf (without g n) (without_inv g n (wf→inv g w)) (le_leb y)
