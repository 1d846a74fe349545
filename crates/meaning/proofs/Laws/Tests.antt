-- The tests of the violations: the lowest offset is that of an edge that fails the test, and "some edge fails it" is the test of before A9.
use Rattle.std.specs.Prelude.{ℕ, ◌≤◌, ◌<◌, min, Bool, not, ◌&&◌, ◌||◌, cond, ◌⊎◌, ◌≡◌, eqb, ltb, leb}
use Rattle.std.proofs.Common.{arith, inl, inr, ◌∙◌}
use Rattle.std.proofs.Math.Bool.{true, false}
use mathlib.Core.List.{List, [], ◌∷◌, ◌++◌}
use Rattle.std.proofs.Math.Option.{Option, none, some}
use Rattle.std.proofs.Math.Path.{refl, sym, ap}
use Rattle.meaning.specs.Limits.{GLOBAL_REFERENCE}
use Rattle.meaning.specs.Answers.{Outcome, violated, fails_at}
use Rattle.meaning.specs.Lists.{any, all}
use Rattle.meaning.specs.Labels.{local_label, global_label, field_label}
use Rattle.meaning.specs.BorrowGraph.{Graph, GEdge, is_mutable, meets_label, empty_path, borrows_fully, borrows, borrows_mutably, lower_of, lowest_of}
use Rattle.meaning.specs.EntryPoints.{Running, fails, bars_reading, bars_handing_over, bars_local_borrow, bars_field_borrow, bars_resource_borrow, put_number, ascend, none_borrowed}
use Rattle.meaning.proofs.Laws.Base.{decide, and_i, or_l, or_r, or_none, not_false, eqb_eq, leb_le, le_leb, leb_gt, all_imp}
use Rattle.meaning.proofs.Laws.Set.{or_swap}

-- ---- the lowest offset among the edges that pass

abbrev pub is_some : {A : Type 0} → Option A → Bool
is_some none = false
is_some (some a) = true

-- an edge that passes has the offset o, and no edge that passes has a lower one
pub record Lowest (p : GEdge → Bool) (es : List GEdge) (o : ℕ) : Type 0 where
  pub before : List GEdge
  pub edge : GEdge
  pub after : List GEdge
  pub among : es ≡ before ++ (edge ∷ after)
  pub passes : p edge ≡ true
  pub its : edge.edge.offset ≡ o
  pub least : all (λ y. not (p y) || leb o y.edge.offset) es ≡ true

-- what the search for the lowest answers
abbrev pub Found : (GEdge → Bool) → List GEdge → Option ℕ → Type 0
Found p es none = any p es ≡ false
Found p es (some o) = Lowest p es o

module _ (p : GEdge → Bool) where
  -- no edge passes, so every edge is fine
  vacant : (o : ℕ) (es : List GEdge) → any p es ≡ false → all (λ y. not (p y) || leb o y.edge.offset) es ≡ true
  vacant o [] e = refl
  vacant o (x ∷ xs) e = and_i (or_l _ (not_false (or_none (p x) (any p xs) e).0)) (vacant o xs (or_none (p x) (any p xs) e).1)

  -- a lower bound of them
  further : (o a : ℕ) (es : List GEdge) → o ≤ a → all (λ y. not (p y) || leb a y.edge.offset) es ≡ true
      → all (λ y. not (p y) || leb o y.edge.offset) es ≡ true
  further o a es h = all_imp _ _ (λ y. step (not (p y)) y.edge.offset) es
    where
      step : (b : Bool) (n : ℕ) → b || leb a n ≡ true → b || leb o n ≡ true
      step true n e = refl
      step false n e = let k : a ≤ n = leb_le e in le_leb {m = o} {n = n} (omega arith)

  -- the search, of one more edge
  more_found : (x : GEdge) (xs : List GEdge) (m : Option ℕ) → Found p xs m → (b : Bool) → p x ≡ b
      → Found p (x ∷ xs) (cond b (some (lower_of x.edge.offset m)) m)
  more_found x xs none h false e = rw e h
  more_found x xs (some a) h false e =
      record {
        before = x ∷ h.before;
        edge = h.edge;
        after = h.after;
        among = ap (λ (ys : List GEdge). x ∷ ys) h.among;
        passes = h.passes;
        its = h.its;
        least = and_i (or_l _ (not_false e)) h.least;
      }
  more_found x xs none h true e =
      let o : ℕ = x.edge.offset in
      let least = and_i (or_r (not (p x)) (le_leb {m = o} {n = o} (omega arith))) (vacant o xs h) in
      record { before = []; edge = x; after = xs; among = refl; passes = e; its = refl; least = least }
  more_found x xs (some a) h true e =
      decide (leb x.edge.offset a)
      (λ l. let k : x.edge.offset ≤ a = leb_le l in
      record { before = []; edge = x; after = xs; among = refl; passes = e; its = omega arith; least = least })
      (λ l. let k : a < x.edge.offset = leb_gt l in
      record {
        before = x ∷ h.before;
        edge = h.edge;
        after = h.after;
        among = ap (λ (ys : List GEdge). x ∷ ys) h.among;
        passes = h.passes;
        its = h.its ∙ omega arith;
        least = least;
      })
    where
      least : all (λ y. not (p y) || leb (min x.edge.offset a) y.edge.offset) (x ∷ xs) ≡ true
      least =
          let o : ℕ = min x.edge.offset a in
          and_i (or_r (not (p x)) (le_leb {m = o} {n = x.edge.offset} (omega arith))) (further o a xs (omega arith) h.least)

  pub lowest_found : (es : List GEdge) → Found p es (lowest_of p es)
  unfolding lowest_of
  lowest_found [] = refl
  lowest_found (x ∷ xs) = more_found x xs (lowest_of p xs) (lowest_found xs) (p x) refl

  -- there is a lowest offset exactly where some edge passes
  pub lowest_some : (es : List GEdge) → is_some (lowest_of p es) ≡ any p es
  unfolding lowest_of
  lowest_some [] = refl
  lowest_some (x ∷ xs) = go (p x) (lowest_of p xs) (lowest_some xs)
    where
      go : (b : Bool) (m : Option ℕ) → is_some m ≡ any p xs → is_some (cond b (some (lower_of x.edge.offset m)) m) ≡ b || any p xs
      go true m e = refl
      go false m e = e

  -- it is the offset of an edge that passes, and no higher than that of any other
  pub lowest_least : (es : List GEdge) (o : ℕ) → lowest_of p es ≡ some o → Lowest p es o
  lowest_least es o e = rw e at (lowest_found es)

-- "the lowest offset among the edges that would each alone fail the first failed test": the violation has it, or no edge fails the test
abbrev pub Tested : {A : Type 0} → Running → (GEdge → Bool) → ℕ → Outcome A → Outcome A → Type 0
Tested r p c k x = ((o : ℕ) × (x ≡ violated r.blurs c o) × Lowest p r.graph.edges o) ⊎ ((any p r.graph.edges ≡ false) × (x ≡ k))

pub fails_when : {A : Type 0} (r : Running) (p : GEdge → Bool) (c : ℕ) (k : Outcome A) → Tested r p c k (fails r p c k)
fails_when r p c k = go (lowest_of p r.graph.edges) (lowest_found p r.graph.edges)
  where
    go : (m : Option ℕ) → Found p r.graph.edges m → Tested r p c k (fails_at r.blurs m c k)
    go none h = inr (h, refl)
    go (some o) h = inl (o, refl, h)

-- ---- the tests of before A9, as they stood

-- has_full_borrows: an empty-path borrow
unfoldable pub fully_borrowed : Graph → ℕ → Bool
fully_borrowed g n = any (λ x. eqb n x.parent && empty_path x.edge.path) g.edges

-- has_consistent_borrows
unfoldable pub borrowed : Graph → ℕ → Option ℕ → Bool
borrowed g n at = any (λ x. eqb n x.parent && meets_label at x.edge.path) g.edges

-- has_consistent_mutable_borrows
unfoldable pub mutably_borrowed : Graph → ℕ → Option ℕ → Bool
unfolding is_mutable
mutably_borrowed g n at = any (λ x. (eqb n x.parent && meets_label at x.edge.path) && is_mutable g x.child) g.edges

-- the Rust's is_writable and is_freezable, of a mutable reference, and is_readable
abbrev pub writable : Graph → ℕ → Bool
writable g n = not (borrowed g n none)

abbrev pub freezable : Graph → ℕ → Option ℕ → Bool
freezable g n at = not (mutably_borrowed g n at)

abbrev pub readable : Graph → ℕ → Option ℕ → Bool
readable g n at = not (is_mutable g n) || freezable g n at

-- ---- each is that some edge fails

not_not : (b : Bool) → not (not b) ≡ b
not_not true = refl
not_not false = refl

not_or_not : (a b : Bool) → not (not a || not b) ≡ a && b
not_or_not true b = not_not b
not_or_not false b = refl

module _ {A : Type 0} where
  -- a part of the test that does not ask the element
  any_and : (b : Bool) (p : A → Bool) (xs : List A) → any (λ x. b && p x) xs ≡ b && any p xs
  any_and true p xs = refl
  any_and false p [] = refl
  any_and false p (x ∷ xs) = any_and false p xs

  any_or : (p q : A → Bool) (xs : List A) → any (λ x. p x || q x) xs ≡ any p xs || any q xs
  any_or p q [] = refl
  any_or p q (x ∷ xs) = rw (any_or p q xs) (swap (p x) (q x) (any p xs) (any q xs))
    where
      swap : (a b c d : Bool) → (a || b) || (c || d) ≡ (a || c) || (b || d)
      swap true b c d = refl
      swap false true true d = refl
      swap false true false d = refl
      swap false false c d = refl

  any_cond : (b : Bool) (p q : A → Bool) (xs : List A) → any (λ x. cond b (p x) (q x)) xs ≡ cond b (any p xs) (any q xs)
  any_cond true p q xs = refl
  any_cond false p q xs = refl

-- For each violation: some edge fails its test exactly where the test of before did. n is the name that is tested, the root's for 101 to 103, 107,
-- 109 and 113; i a local's, field's or resource's number. (`call_stays` has the resources of a call, 109 too.)
pub record Stays (g : Graph) (n : ℕ) : Type 0 where
  pub copy_loc101 : (i : ℕ) → any (borrows_mutably g n (some (local_label i))) g.edges ≡ mutably_borrowed g n (some (local_label i))
  pub move_loc102 : (i : ℕ) → any (borrows n (some (local_label i))) g.edges ≡ borrowed g n (some (local_label i))
  pub st_loc103 : (i : ℕ) → any (borrows n (some (local_label i))) g.edges ≡ borrowed g n (some (local_label i))
  pub freeze_ref104 : any (borrows_mutably g n none) g.edges ≡ not (freezable g n none)
  pub read_ref105 : any (bars_reading g n none) g.edges ≡ not (readable g n none)
  pub write_ref106 : any (borrows n none) g.edges ≡ not (writable g n)
  pub borrow_loc107 : (m : Bool) (i : ℕ) → any (bars_local_borrow m g n i) g.edges ≡ not m && mutably_borrowed g n (some (local_label i))
  pub borrow_field108 : (m : Bool) (i : ℕ)
      → any (bars_field_borrow m g n i) g.edges ≡ cond m (fully_borrowed g n) (not (readable g n (some (field_label i))))
  pub borrow_global109 : (m : Bool) (i : ℕ)
      → any (bars_resource_borrow m g n i) g.edges ≡ (m && borrowed g n (some (global_label i))) || mutably_borrowed g n (some (global_label i))
  pub move_from109 : (i : ℕ) → any (borrows n (some (global_label i))) g.edges ≡ borrowed g n (some (global_label i))
  pub vector_op110 : any (borrows n none) g.edges ≡ not (writable g n)
  pub vector_element_borrow111 : any (borrows n none) g.edges ≡ not (writable g n)
  pub call112 : any (bars_handing_over g n) g.edges ≡ is_mutable g n && not (writable g n)
  pub ret113 : any (borrows n none) g.edges ≡ borrowed g n none
  pub ret114 : any (bars_handing_over g n) g.edges ≡ is_mutable g n && not (writable g n)

pub tests_stay : (g : Graph) (n : ℕ) → Stays g n
unfolding fully_borrowed borrowed mutably_borrowed
tests_stay g n = record {
  copy_loc101 = λ i. refl;
  move_loc102 = λ i. refl;
  st_loc103 = λ i. refl;
  freeze_ref104 = sym (not_not _);
  read_ref105 = reading none;
  write_ref106 = sym (not_not _);
  borrow_loc107 = λ m i. any_and (not m) _ g.edges;
  borrow_field108 = λ m i. any_cond m _ _ g.edges ∙ ap (cond m (any (borrows_fully n) g.edges)) (reading (some (field_label i)));
  borrow_global109 =
      λ m i. any_or _ _ g.edges ∙ ap (λ (b : Bool). b || any (borrows_mutably g n (some (global_label i))) g.edges) (any_and m _ g.edges);
  move_from109 = λ i. refl;
  vector_op110 = sym (not_not _);
  vector_element_borrow111 = sym (not_not _);
  call112 = handing;
  ret113 = refl;
  ret114 = handing;
}
  where
    reading : (at : Option ℕ) → any (bars_reading g n at) g.edges ≡ not (not (is_mutable g n) || not (any (borrows_mutably g n at) g.edges))
    reading at = any_and (is_mutable g n) _ g.edges ∙ sym (not_or_not (is_mutable g n) _)

    handing : any (bars_handing_over g n) g.edges ≡ is_mutable g n && not (not (any (borrows n none) g.edges))
    handing = any_and (is_mutable g n) _ g.edges ∙ ap (λ (b : Bool). is_mutable g n && b) (sym (not_not _))

-- ---- the resources of a call

-- "ascending" and "repeats allowed": what h gathers number by number, by f, is the same where neither order nor repeats matter to f
module _ {B : Type 0} (h : List ℕ → B) (f : ℕ → B → B) (on : (n : ℕ) (ns : List ℕ) → h (n ∷ ns) ≡ f n (h ns))
    (again : (n : ℕ) (b : B) → f n (f n b) ≡ f n b) (swap : (m n : ℕ) (b : B) → f m (f n b) ≡ f n (f m b)) where
  gather_put : (n : ℕ) (ms : List ℕ) → h (put_number n ms) ≡ f n (h ms)
  unfolding put_number
  gather_put n [] = on n []
  gather_put n (m ∷ ms) =
      decide (ltb n m)
      (λ a. rw a (on n (m ∷ ms)))
      (λ a. decide (eqb n m)
      (λ b. let e : n ≡ m = eqb_eq b in rw (a, b, e) (on m ms ∙ sym (again m (h ms)) ∙ ap (f m) (sym (on m ms))))
      (λ b. rw (a, b) (on m (put_number n ms) ∙ ap (f m) (gather_put n ms) ∙ swap m n (h ms) ∙ ap (f n) (sym (on m ms)))))

  pub gather_ascend : (ns : List ℕ) → h (ascend ns) ≡ h ns
  unfolding ascend
  gather_ascend [] = refl
  gather_ascend (n ∷ ns) = gather_put n (ascend ns) ∙ ap (f n) (gather_ascend ns) ∙ sym (on n ns)

any_ascend : (p : ℕ → Bool) (ns : List ℕ) → any p (ascend ns) ≡ any p ns
any_ascend p = gather_ascend (any p) (λ n b. p n || b) (λ n ns. refl) (λ n. again (p n)) (λ m n. or_swap (p m) (p n))
  where
    again : (a b : Bool) → a || (a || b) ≡ a || b
    again true b = refl
    again false b = refl

-- a call is a violation where one of its resources is borrowed, and else goes on
pub record Acquires {A : Type 0} (is : List ℕ) (r : Running) (k x : Outcome A) : Type 0 where
  pub low : Option ℕ
  pub same : x ≡ fails_at r.blurs low GLOBAL_REFERENCE k
  pub exactly : is_some low ≡ any (λ i. borrowed r.graph r.root (some (global_label i))) is

acquires : {A : Type 0} (is : List ℕ) (r : Running) (k : Outcome A) → Acquires is r k (none_borrowed is r k)
unfolding none_borrowed borrowed
acquires is r k = go is
  where
    step : (i : ℕ) (is' : List ℕ) (m : Option ℕ) → is_some m ≡ borrowed r.graph r.root (some (global_label i))
        → Acquires is' r k (none_borrowed is' r k) → Acquires (i ∷ is') r k (fails_at r.blurs m GLOBAL_REFERENCE (none_borrowed is' r k))
    step i is' none e h = record { low = h.low; same = h.same; exactly = rw (← e) h.exactly }
    step i is' (some o) e h = record { low = some o; same = refl; exactly = rw (← e) }

    go : (is' : List ℕ) → Acquires is' r k (none_borrowed is' r k)
    go [] = record { low = none; same = refl; exactly = refl }
    go (i ∷ is') = step i is' (lowest_of (borrows r.root (some (global_label i))) r.graph.edges) (lowest_some _ r.graph.edges) (go is')

pub call_stays : {A : Type 0} (is : List ℕ) (r : Running) (k : Outcome A) → Acquires is r k (none_borrowed (ascend is) r k)
call_stays is r k =
    let a = acquires (ascend is) r k in
    record { low = a.low; same = a.same; exactly = a.exactly ∙ any_ascend _ is }
