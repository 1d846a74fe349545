-- The models read one element at a time, and what makes them.
use Rattle.std.specs.Prelude.{◌≡◌, refl, Ok, Err, Bool, false, cond, eqb, Some, None, List, [], ◌∷◌, ◌++◌, map, true, ℕ, ◌+◌, ◌%◌, ◌≤◌, ◌<◌, min, length, take, drop, get_or}
use Rattle.std.proofs.Common.{sym, ap, ◌∙◌, arith, le-leb, length-take, get_or-take}
use Rattle.meaning.specs.Answers.{Ans, ok, refuse, leaves}
use Rattle.meaning.specs.Lists.{up_to}
use Rattle.meaning.specs.References.{short}
use Rattle.std.specs.List.{find}
use Rattle.meaning.specs.BorrowGraph.{Graph, name_after}
use Rattle.meaning.specs.Area.{name_in, label_in}
use Rattle.meaning.proofs.Laws.Listing.{up_to_length}
use Rattle.meaning.proofs.Laws.Array.{front_all}
use Rattle.references.specs.Models.{row_of, edges_in, names_in}
use Rattle.references.specs.ModelLaws.{names_made, names_step, names_end, names_size, edges_made, edges_step, edges_end, edges_size}
use Rattle.borrow_graph.specs.Models.{graph_in, Tells, Answers, change_of}
use Rattle.meaning.proofs.Laws.Array.{map_put}
use Rattle.vm_status.specs.declared.Refusal.{Refusal}
use Rattle.vm_status.specs.Models.{number_of}
use Rattle.borrow_graph.specs.declared.graph.BorrowGraph.{BorrowGraph}
use Rattle.borrow_graph.specs.declared.remap.IdPair.{IdPair}

-- a count cut to the array's length
cut : {A : Type 0} (l : List A) (n k : ℕ) → length l ≡ k → take (min n k) l ≡ take n l
cut {A} l n k e = ap (λ (j : ℕ). take (min n j) l) (sym e) ∙ ap (λ (j : ℕ). take j l) (sym (length-take n l)) ∙ front_all n l

pub names_cut : (ws : List ℕ) (n : ℕ) → length ws ≡ 48 → names_in ws (min n 48) ≡ names_in ws n
unfolding names_in
names_cut ws n e = ap (map name_in) (cut ws n 48 e)

pub edges_cut : (rows : List (List ℕ)) (m : ℕ) → length rows ≡ 96 → edges_in rows (min m 96) ≡ edges_in rows m
unfolding edges_in
edges_cut rows m e = ap (map row_of) (cut rows m 96 e)

-- what a slice of the first n, or of all where n is beyond the array, stands for
pub names_read : (ws : List ℕ) (n k : ℕ) → k ≡ min n 48 → length ws ≡ 48 → map name_in (take k ws) ≡ names_in ws n
names_read ws n k e fit = sym (names_made ws k) ∙ ap (names_in ws) e ∙ names_cut ws n fit

pub edges_read : (rows : List (List ℕ)) (m k : ℕ) → k ≡ min m 96 → length rows ≡ 96 → map row_of (take k rows) ≡ edges_in rows m
edges_read rows m k e fit = sym (edges_made rows k) ∙ ap (edges_in rows) e ∙ edges_cut rows m fit

-- a step in such a slice, and its end
pub names_turn : (ws : List ℕ) (n k i : ℕ) → k ≡ min n 48 → length ws ≡ 48 → i < k → drop i (names_in ws n) ≡ name_in (get_or (take k ws) i 0) ∷ drop (i + 1) (names_in ws n)
names_turn ws n k i e fit h = names_step ws n i (omega (arith, names_size ws n)) ∙ ap (λ (w : ℕ). name_in w ∷ drop (i + 1) (names_in ws n)) (sym (get_or-take k ws i 0 h))

pub names_done : (ws : List ℕ) (n k i : ℕ) → k ≡ min n 48 → length ws ≡ 48 → k ≤ i → drop i (names_in ws n) ≡ []
names_done ws n k i e fit h = names_end ws n i (omega (arith, names_size ws n))

pub edges_turn : (rows : List (List ℕ)) (m k i : ℕ) → k ≡ min m 96 → length rows ≡ 96 → i < k → drop i (edges_in rows m) ≡ row_of (get_or (take k rows) i []) ∷ drop (i + 1) (edges_in rows m)
edges_turn rows m k i e fit h = edges_step rows m [] i (omega (arith, edges_size rows m)) ∙ ap (λ (r : List ℕ). row_of r ∷ drop (i + 1) (edges_in rows m)) (sym (get_or-take k rows i [] h))

pub edges_done : (rows : List (List ℕ)) (m k i : ℕ) → k ≡ min m 96 → length rows ≡ 96 → k ≤ i → drop i (edges_in rows m) ≡ []
edges_done rows m k i e fit h = edges_end rows m i (omega (arith, edges_size rows m))

-- a word put in
pub names_put : (ws new : List ℕ) (n k w : ℕ) → take (n + 1) new ≡ take k (take n ws) ++ (w ∷ drop k (take n ws)) → names_in new (n + 1) ≡ take k (names_in ws n) ++ (name_in w ∷ drop k (names_in ws n))
unfolding names_in
names_put ws new n k w e = ap (map name_in) e ∙ map_put name_in w k (take n ws)

-- a row's path has at most eight labels
pub row_short : (r : List ℕ) → short (row_of r).edge ≡ true
unfolding short
row_short r = le-leb _ _ (few (get_or r 1 0 % 16) (λ i. label_in (get_or r (2 + i) 0)))
  where
    few : (n : ℕ) (f : ℕ → ℕ) → length (up_to (min n 8) f) ≤ 8
    few n f = let e : length (up_to (min n 8) f) ≡ min n 8 = up_to_length (min n 8) f in omega arith

-- a call that is refused leaves all as it was
pub declines : {A : Type 0} (a : Ans Graph) (ns : List ℕ) (es : List (List ℕ)) (g : BorrowGraph) (r : Refusal) → a ≡ refuse (number_of r) → Tells ns es g → Answers {A = A} a ns es g ns es g (Err r)
declines {A} a ns es g r e t = record { answer = sym e; left = sym (ap (λ (b : Ans Graph). leaves (graph_in ns es g) b) e); tells = t }

-- one that is answered leaves the new graph
pub accepts : {A : Type 0} (a : Ans Graph) (ns : List ℕ) (es : List (List ℕ)) (g : BorrowGraph) (ns' : List ℕ) (es' : List (List ℕ)) (h : BorrowGraph) (u : A) → a ≡ ok (graph_in ns' es' h) → Tells ns' es' h → Answers a ns es g ns' es' h (Ok u)
accepts {A} a ns es g ns' es' h u e t = record { answer = sym e; left = sym (ap (λ (b : Ans Graph). leaves (graph_in ns es g) b) e); tells = t }

-- the new name, by the first pair with the old one
pub pair_found : (n : ℕ) (xs : List IdPair) (x : IdPair) → find (λ y. eqb n y.old.0) xs ≡ Some x → x.new.0 ≡ name_after (map change_of xs) n
unfolding name_after
pair_found n [] x e = cc
pair_found n (y ∷ ys) x e = go (eqb n y.old.0) (pair_found n ys x) e
  where
    go : (b : Bool) → (find (λ z. eqb n z.old.0) ys ≡ Some x → x.new.0 ≡ name_after (map change_of ys) n) → cond b (Some y) (find (λ z. eqb n z.old.0) ys) ≡ Some x
        → x.new.0 ≡ cond b y.new.0 (name_after (map change_of ys) n)
    go true h q = let same : y ≡ x = cc in ap (λ (z : IdPair). z.new.0) (sym same)
    go false h q = h q

pub pair_missing : (n : ℕ) (xs : List IdPair) → find (λ y. eqb n y.old.0) xs ≡ None → n ≡ name_after (map change_of xs) n
unfolding name_after
pair_missing n [] e = refl
pair_missing n (y ∷ ys) e = go (eqb n y.old.0) (pair_missing n ys) e
  where
    go : (b : Bool) → (find (λ z. eqb n z.old.0) ys ≡ None → n ≡ name_after (map change_of ys) n) → cond b (Some y) (find (λ z. eqb n z.old.0) ys) ≡ None
        → n ≡ cond b y.new.0 (name_after (map change_of ys) n)
    go true h q = cc
    go false h q = h q
