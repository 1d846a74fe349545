-- The cases of the calls, by their tests.
use Prim.Native.Nat.{ℕ, suc, ◌≤◌, ◌<◌}
use Rattle.std.proofs.Common.{arith, ◌∙◌}
use Rattle.std.specs.Prelude.{Bool, ◌&&◌, List, ◌∷◌, ◌++◌, ◌≡◌, length, take, drop}
use Rattle.std.proofs.Math.Bool.{true, false}
use Rattle.std.proofs.Math.Path.{refl, sym}
use Rattle.std.proofs.Math.Dec.{leb}
use Rattle.meaning.specs.Answers.{ok, refuse, and_then}
use Rattle.meaning.specs.BorrowGraph.{Graph, Name, held, well_formed, put_name, new_name, pair_ok, between, add_edge, limit, borrow_weak}
use Rattle.meaning.specs.Laws.Add.{place_at}
use Rattle.meaning.proofs.Laws.Add.{place_name, add_one_edge}
use Rattle.meaning.proofs.Laws.Base.{decide, leb_le, le_leb}

module _ (g : Graph) (n : ℕ) (m : Bool) where
  pub new_9 : well_formed g ≡ false → refuse 9 ≡ new_name g n m
  unfolding new_name
  new_9 w = rw w refl

  module _ (w : well_formed g ≡ true) where
    pub new_8 : held g n ≡ true → refuse 8 ≡ new_name g n m
    unfolding new_name
    new_8 h = rw (w, h) refl

    module _ (h : held g n ≡ false) where
      pub new_23 : 48 ≤ length g.names → refuse 23 ≡ new_name g n m
      unfolding new_name
      new_23 l =
          let k : leb (suc (length g.names)) 48 ≡ false = decide (leb (suc (length g.names)) 48) (λ t. let z : suc (length g.names) ≤ 48 = leb_le t in absurd (omega arith)) (λ t. t) in
          rw (w, h, k) refl

      pub new_ok : length g.names < 48 → (ns : List Name) → ns ≡ take (place_at n g.names) g.names ++ record { id = n; mutable = m } ∷ drop (place_at n g.names) g.names
          → ok (record { names = ns; edges = g.edges }) ≡ new_name g n m
      unfolding new_name
      new_ok l ns e =
          let k : leb (suc (length g.names)) 48 ≡ true = le_leb l in
          let z : ns ≡ put_name (record { id = n; mutable = m }) g.names = e ∙ sym (place_name (record { id = n; mutable = m }) g.names) in
          rw (w, h, k) (λ i. ok (record { names = z i; edges = g.edges }))

module _ (g : Graph) (p : ℕ) (path : List ℕ) (c o : ℕ) where
  pub weak_9 : well_formed g && pair_ok g.names p c ≡ false → refuse 9 ≡ borrow_weak g p path c o
  unfolding borrow_weak
  weak_9 w = rw w refl

  pub weak_ok : well_formed g ≡ true → pair_ok g.names p c ≡ true → and_then (add_edge g (between p (record { strong = false; path = path; offset = o }) c)) limit ≡ borrow_weak g p path c o
  unfolding borrow_weak
  weak_ok w h = rw (w, h) (sym (add_one_edge (between p (record { strong = false; path = path; offset = o }) c) g))
