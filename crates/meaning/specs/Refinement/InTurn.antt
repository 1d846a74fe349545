-- The Rust's way of renaming (`remap_refs`): one name after the other, ascending by the old name, each put over whatever stands there.
use Rattle.std.specs.Prelude.{ℕ, suc, Bool, true, false, cond, not, ◌&&◌, ◌||◌, List, [], ◌∷◌, map, eqb, ltb, get_or}
use Rattle.std.proofs.Math.Option.{Option, none, some}
use Rattle.meaning.specs.Lists.{keep, any}
use Rattle.meaning.specs.BorrowGraph.{Name, GEdge, Graph, eq_pair, put_name, rename_edges, Change, is_old}
use Rattle.meaning.specs.AbstractState.{State, Local, absent, value, ref, eq_local, new_name_of, own_names, Operand, join, join_blurs, changed, first_state}
use Rattle.meaning.specs.EntryPoints.{local_names, ascend, Running}
use Rattle.meaning.specs.Steps.{Instr, Machine, step}
use Rattle.meaning.specs.Blocks.{Routine, instrs_of, start_machine, machine_at, settle}
use Rattle.meaning.specs.Loop.{Result, Block, no_block, Run, run}

-- the mutable flag of a name, if it is held
unfoldable pub flag_of : List Name → ℕ → Option Bool
flag_of [] k = none
flag_of (a ∷ ns) k = cond (eqb k a.id) (some a.mutable) (flag_of ns k)

-- ---- edges

abbrev pub with_parent : ℕ → GEdge → GEdge
with_parent n x = record { parent = n; child = x.child; blurred = x.blurred; edge = x.edge }

abbrev pub with_child : ℕ → GEdge → GEdge
with_child n x = record { parent = x.parent; child = n; blurred = x.blurred; edge = x.edge }

-- One end of the edges renamed: what stands at the old name is put over what stands at the new one.
abbrev pub end_moved : (GEdge → ℕ) → (ℕ → GEdge → GEdge) → (GEdge → Bool) → ℕ → ℕ → List GEdge → List GEdge
end_moved end to over old new xs = map (λ x. cond (eqb old (end x)) (to new x) x) (keep (λ x. not (eqb new (end x) && (not (eqb old (end x)) && over x))) xs)

-- p lends to c
abbrev pub lends : List GEdge → ℕ → ℕ → Bool
lends xs p c = any (λ x. eq_pair p c x.parent x.child) xs

-- each name's borrowers (`BorrowEdges::remap_refs`): a name that lends to the old child puts that over what it lends to the new one
unfoldable pub children_in_turn : (ℕ → ℕ) → List ℕ → List GEdge → List GEdge
children_in_turn f [] xs = xs
children_in_turn f (n ∷ olds) xs = children_in_turn f olds (end_moved (λ x. x.child) with_child (λ x. lends xs x.parent n) n (f n) xs)

-- ---- names, each with what it lends

abbrev pub drop_name : ℕ → List Name → List Name
drop_name n ns = keep (λ m. not (eqb n m.id)) ns

abbrev pub moved : ℕ → ℕ → Graph → Option Bool → Graph
moved old new g none = g
moved old new g (some b) = record {
  names = put_name (record { id = new; mutable = b }) (drop_name new (drop_name old g.names));
  edges = end_moved (λ x. x.parent) with_parent (λ x. true) old new g.edges;
}

unfoldable pub in_turn : (ℕ → ℕ) → List ℕ → Graph → Graph
unfolding flag_of
in_turn f [] g = g
in_turn f (n ∷ olds) g = in_turn f olds (moved n (f n) g (flag_of g.names n))

-- the Rust has the edges in maps, which are in order
abbrev pub in_maps : Graph → Graph
in_maps g = record { names = g.names; edges = rename_edges (λ n. n) g.edges }

-- `remap_refs`: the borrowers of all names, then the names. (That a name knows its lenders follows from the edges.)
unfoldable pub one_by_one : (ℕ → ℕ) → List ℕ → Graph → Graph
unfolding children_in_turn in_turn
one_by_one f olds g = in_maps (in_turn f olds (record { names = g.names; edges = children_in_turn f olds g.edges }))

-- ---- where a name is overwritten

-- Document 01's condition for 16: "local a holds a name below a and some local holds name a". Then a rename one by one overwrites a name.
abbrev pub crossed : List Local → ℕ → Local → Bool
crossed ys a absent = false
crossed ys a value = false
crossed ys a (ref n) = ltb n a && any (λ y. eq_local y (ref a)) ys

unfoldable pub crosses : List Local → ℕ → List Local → Bool
crosses ys a [] = false
crosses ys a (x ∷ xs) = crossed ys a x || crosses ys (suc a) xs

-- in a direct rename: "a new name, not its own old one, is a greater old name"
abbrev pub overtaken : List Change → Change → Bool
overtaken ms m = is_old ms m.new && ltb m.old m.new

abbrev pub overtakes : List Change → Bool
overtakes ms = any (overtaken ms) ms

-- the end of a block: the root's name and those of the locals, ascending
unfoldable pub remapped : ℕ → State → State
unfolding one_by_one
remapped l s = record { locals = own_names 0 s.locals; graph = one_by_one (new_name_of l s.locals) (ascend (l ∷ local_names s.locals)) s.graph }

-- ---- a run by document 01, before A2

-- the instructions in order, the first one at this offset, and then `end`
unfoldable pub run_to : (Running → List Operand → Result State) → ℕ → ℕ → List Instr → Machine → Result State
run_to end returns o [] m = end m.state m.stack
run_to end returns o (i ∷ is) m = settle o (step returns i (machine_at o m)) (λ n. run_to end returns (suc o) is n)

-- "16: at the end of a block with successors" whose names cross; else the Rust's renaming
abbrev pub end_in_turn : Block → List ℕ → Running → Result State
end_in_turn b [] r = Result.returned r.blurs
end_in_turn b (e ∷ es) r =
    cond (crosses r.locals 0 r.locals) (Result.refused 16 b.exit)
    (Result.ended r.blurs (remapped r.root (record { locals = r.locals; graph = r.graph })))

abbrev pub finish_in_turn : Block → Running → List Operand → Result State
finish_in_turn b r [] = end_in_turn b b.successors r
finish_in_turn b r (v ∷ vs) = Result.refused 14 b.exit

unfoldable pub exec_in_turn : Routine → ℕ → State → Result State
unfolding run_to
exec_in_turn q i s =
    let b : Block = get_or q.blocks i no_block in
    run_to (finish_in_turn b) q.returns b.entry (instrs_of b q.code) (start_machine q.locals s)

-- with a budget of turns, as `run_with`
abbrev pub run_in_turn : Routine → ℕ → Run State
run_in_turn q f = run State join join_blurs changed (exec_in_turn q) q.blocks f (first_state q.locals q.params)
