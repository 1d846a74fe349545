-- The models, element by element.
use Rattle.std.specs.Prelude.{ℕ, ◌+◌, ◌-◌, ◌*◌, ◌/◌, ◌%◌, ◌≤◌, ◌<◌, min, ◌≡◌, refl, Bool, not, cond, List, [], eqb, ◌++◌, length, get_or, take, drop}
use Rattle.std.proofs.Common.{ap, sym, ◌∙◌, arith, rules, length-append, length-drop}
use Rattle.std.proofs.Math.ListN.{get_or-append}
use Rattle.std.proofs.lemmas.List.{places}
use borrow.Rule.Slice.PartMut.{put_mid}
use Rattle.std.proofs.Math.Option.{Option, none, some}
use Rattle.meaning.specs.Lists.{up_to}
use Rattle.std.proofs.lemmas.Bool.{ne_eqb}
use Rattle.meaning.specs.Area.{word_at, words_from, local_in, name_in, label_in, edge_in, state_in, decode, unkept}
use Rattle.meaning.specs.Laws.Area.{Filled, Written, IsLocal, above_local}
use Rattle.meaning.proofs.Laws.Area.{up_to_same, up_to_front, filled_front, local_word, kept_read}
use Rattle.meaning.specs.BorrowGraph.{Name, GEdge}
use Rattle.meaning.specs.AbstractState as S
use Rattle.references.specs.Models.{row_of, names_in, edges_in}
use Rattle.abstract_state.specs.Models.{words, state_of, locals_in}
use Rattle.abstract_state.specs.declared.state.AbstractState.{AbstractState}

-- ---- a model is the list of its elements

abbrev pub local_at : List ℕ → ℕ → S.Local
local_at xs i = local_in (get_or xs i 0)

abbrev pub name_at : List ℕ → ℕ → Name
name_at xs i = name_in (get_or xs i 0)

abbrev pub row_at : List (List ℕ) → ℕ → GEdge
row_at xs i = row_of (get_or xs i [])

-- a local's word with a count in place of the one above it
pub local_above : (w a names edges i : ℕ) (ls : List ℕ) → w ≡ get_or ls i 0 % 262144 → a ≡ above_local names edges i → IsLocal (local_at ls) names edges i (w + a * 262144)
local_above w a names edges i ls e h =
    (local_word (w + a * 262144) (get_or ls i 0 / 65536 % 4) (get_or ls i 0 % 65536) (omega arith) (omega arith), omega (arith, h))

-- a row that has the words from `at` on
pub row_words : (x : List ℕ) (w : ℕ → ℕ) (at : ℕ) → ((k : ℕ) → k < 10 → get_or x k 0 ≡ w (at + k)) → row_of x ≡ edge_in w at
unfolding edge_in
row_words x w at h =
    let z : at + 0 ≡ at = omega arith in
    let e : get_or x 0 0 ≡ w at = h 0 (omega arith) ∙ ap w z in
    let m : get_or x 1 0 ≡ w (at + 1) = h 1 (omega arith) in
    let p : up_to (min (get_or x 1 0 % 16) 8) (λ i. label_in (get_or x (2 + i) 0)) ≡ up_to (min (w (at + 1) % 16) 8) (λ i. label_in (w (at + 2 + i))) =
    up_to_same (min (get_or x 1 0 % 16) 8) (min (w (at + 1) % 16) 8) (λ i. label_in (get_or x (2 + i) 0)) (λ i. label_in (w (at + 2 + i))) (ap (λ (k : ℕ). min (k % 16) 8) m)
    (λ i k. let j : at + (2 + i) ≡ at + 2 + i = omega arith in ap label_in (h (2 + i) (omega arith) ∙ ap w j)) in
    λ i. record {
      parent = e i / 65536;
      child = e i % 65536;
      blurred = eqb (m i / 32 % 2) 1;
      edge = record { strong = eqb (m i / 16 % 2) 1; path = p i; offset = m i / 65536 };
    }

-- the state that these arrays hold
pub state_made : (ls ns : List ℕ) (es : List (List ℕ)) (s : AbstractState) (n m : ℕ) → length ls ≡ 16 → length ns ≡ 48 → length es ≡ 96
    → n ≡ min s.borrow_graph.refs 48 → m ≡ min s.borrow_graph.edges 96
    → ◌≡◌ {A = S.State} (record { locals = up_to (min s.num_locals 16) (local_at ls); graph = record { names = up_to n (name_at ns); edges = up_to m (row_at es) } }) (state_of (words ls ns es s))
unfolding locals_in names_in edges_in
state_made ls ns es s n m hl hn hm en em =
    let g = s.borrow_graph in
    let a = up_to_front local_in 0 ls s.num_locals (min s.num_locals 16) (local_at ls) (omega arith) (λ i l. refl) in
    let b = up_to_front name_in 0 ns g.refs n (name_at ns) (omega arith) (λ i l. refl) in
    let c = up_to_front row_of [] es g.edges m (row_at es) (omega arith) (λ i l. refl) in
    λ i. record { locals = a i; graph = record { names = b i; edges = c i } }

-- ---- arrays that were filled

pub filled_all : {A B : Type 0} (g : B → A) (d : B) (f : ℕ → A) (n i m : ℕ) (xs : List B) → m ≤ i → Filled g d f n i xs → Filled g d f n m xs
filled_all g d f n i m xs h p = record { size = p.size; within = λ j k. p.within j (omega arith) }

-- words that are read as what they stand for
read_by : {A : Type 0} (g : ℕ → A) (f : ℕ → ℕ) (n i : ℕ) (xs : List ℕ) → Filled (λ (w : ℕ). w) 0 f n i xs → Filled g 0 (λ j. g (f j)) n i xs
read_by g f n i xs p = record { size = p.size; within = λ j k. ap g (p.within j k) }

-- the state in the arrays is the one that a block's words say
pub loaded : (l at k n m : ℕ) (ws ls ns : List ℕ) (es : List (List ℕ)) → (get_or ws at 0 / 262144 ≡ 0 → ⊥) → k ≡ min l 16 → n ≡ min (get_or ws (at + 1) 0 / 262144) 48 → m ≡ min (get_or ws (at + 2) 0 / 262144) 96
    → Filled (λ (w : ℕ). w) 0 (words_from ws at) 16 k ls → Filled (λ (w : ℕ). w) 0 (words_from ws (at + 16)) 48 n ns → Filled row_of [] (λ i. edge_in (word_at ws) (at + 64 + 10 * i)) 96 m es
    → ◌≡◌ {A = Option S.State} (some (record { locals = locals_in ls l; graph = record { names = names_in ns n; edges = edges_in es m } })) (decode l (words_from ws at))
unfolding locals_in names_in edges_in
loaded l at k n m ws ls ns es there ek en em a b c =
    let f : ℕ → S.Local = λ i. local_in (words_from ws at i) in
    let g : ℕ → Name = λ i. name_in (words_from ws (at + 16) i) in
    let h : ℕ → GEdge = λ i. edge_in (word_at ws) (at + 64 + 10 * i) in
    let q = filled_front local_in 0 f 16 k l (min l 16) ls refl (omega arith) (read_by local_in _ _ _ _ a) in
    let r = filled_front name_in 0 g 48 n n n ns (omega arith) (omega arith) (read_by name_in _ _ _ _ b) in
    let s = filled_front row_of [] h 96 m m m es (omega arith) (omega arith) c in
    (λ i. some (record { locals = q i; graph = record { names = r i; edges = s i } }))
    ∙ ap (λ (t : Bool). cond (not t) (some (record { locals = up_to (min l 16) f; graph = record { names = up_to n g; edges = up_to m h } })) none) (sym (ne_eqb _ 0 there))
    ∙ kept_read l at n m ws en em

-- a block without a kept state
pub absent_in : (l at : ℕ) (ws : List ℕ) → get_or ws at 0 / 262144 ≡ 0 → none ≡ decode l (words_from ws at)
unfolding decode
absent_in l at ws e =
    let z : at ≡ at + 0 = omega arith in
    ap (λ (w : ℕ). cond (eqb w 0) none (some (state_in l (words_from ws at)))) (sym e ∙ ap (λ (k : ℕ). get_or ws k 0 / 262144) z)

-- ---- words copied

-- n words from a place on, as the first n of an array
pub copied_from : (k n at : ℕ) (ws out ys : List ℕ) → n ≤ k → at + n ≤ length ws → length out ≡ k → ys ≡ take (at + n - at) (drop at ws) → Filled (λ (w : ℕ). w) 0 (words_from ws at) k n (ys ++ drop n out)
copied_from k n at ws out ys h l e q =
    let z : length ys ≡ n = ap length q ∙ grind (arith, places) in
    record {
      size = simp (length-append, length-drop) (omega (arith, z, e, h));
      within = λ j m. get_or-append ys (drop n out) 0 j (omega (arith, z, m)) ∙ ap (λ (zs : List ℕ). get_or zs j 0) q ∙ search (rules, places);
    }

-- the first n words of an array, from a place on: n of most words there are written
pub copied_to : (most n at : ℕ) (ws ys : List ℕ) → n ≤ most → at + n ≤ length ws → length ys ≡ n → Written (λ j w. w ≡ get_or ys j 0) at most n ws (put_mid at (at + n - at) ws ys)
copied_to most n at ws ys h l e = record {
  frame = record {
    size = search (rules, places);
    below = λ k m. search (rules, places);
    above = λ k m. search (rules, places);
  };
  within = λ j m. search (rules, places);
}

-- the words of all blocks are written
pub unkept_all : (b : ℕ) (ws us : List ℕ) → b ≡ 16 → us ≡ unkept b ws → us ≡ unkept 16 ws
unkept_all b ws us n e = e ∙ ap (λ (k : ℕ). unkept k ws) n
