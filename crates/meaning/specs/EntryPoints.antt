-- The running state of a block, and what each instruction does to it (abstract_state.rs). Document 01: "Copy: strong empty path. Element
-- borrow and call: weak empty path. Field: strong. Local: strong from the root. Resource: weak from the root."
use Rattle.std.specs.Prelude.{ℕ, suc, ◌+◌, min, Bool, not, ◌||◌, ◌&&◌, false, cond, true, List, [], ◌∷◌, ltb, eqb, set, get_or}
use Rattle.std.proofs.Math.Option.{none, Option, some}
use Rattle.meaning.specs.Limits.{COPYLOC_EXISTS_BORROW, MOVELOC_EXISTS_BORROW, STLOC_UNSAFE_TO_DESTROY, FREEZEREF_EXISTS_MUTABLE_BORROW, READREF_EXISTS_MUTABLE_BORROW, WRITEREF_EXISTS_BORROW, BORROWLOC_EXISTS_BORROW, BORROWFIELD_EXISTS_MUTABLE_BORROW, GLOBAL_REFERENCE, VEC_UPDATE, VEC_BORROW_ELEMENT, CALL_BORROWED_MUTABLE_REFERENCE, UNSAFE_RET, RET_BORROWED_MUTABLE_REFERENCE, u16_end, u32_most}
use Rattle.meaning.specs.Answers.{Outcome, done, needs, then, lift, Ans, refused, fails_at}
use Rattle.meaning.specs.Lists.{keep}
use Rattle.meaning.specs.Labels.{field_label, local_label, global_label}
use Rattle.meaning.specs.BorrowGraph.{Graph, GEdge, blurs_to, borrows, borrows_mutably, borrows_fully, lowest_of, is_mutable, held, well_formed, new_name, borrow_strong, borrow_weak, release}
use Rattle.meaning.specs.AbstractState.{Local, Operand, non_ref, reference, Token, of_value, of_ref, absent, value, ref}

-- "Frame root is name L; fresh names start at L + 1 in each block." `root` is L, `next` the next fresh name. `blurs`: how many sets the graph
-- calls of this visit have blurred so far. `offset`: that of the instruction that runs.
pub record Running : Type 0 where
  pub locals : List Local
  pub graph : Graph
  pub next : ℕ
  pub root : ℕ
  pub blurs : ℕ
  pub offset : ℕ

-- what an entry point answers that makes an operand
pub record Answer : Type 0 where
  pub state : Running
  pub operand : Operand

-- a count of 32 bits, which stays at the most that they hold; no visit comes near it (Theorems, `few_blurs`)
abbrev pub count_on : ℕ → ℕ → ℕ
count_on n k = min (n + k) u32_most

-- the state with the graph that a call left, or with another local
abbrev pub with_graph : Running → Graph → Running
with_graph r g = record { locals = r.locals; graph = g; next = r.next; root = r.root; blurs = count_on r.blurs (blurs_to r.graph g); offset = r.offset }

abbrev pub with_local : Running → ℕ → Local → Running
with_local r i v = record { locals = set r.locals i v; graph = r.graph; next = r.next; root = r.root; blurs = r.blurs; offset = r.offset }

-- done, with an operand
abbrev pub answer : Running → Operand → Outcome Answer
answer r v = done (record { state = r; operand = v })

-- ---- the tests, each on one edge: the test of an instruction fails where some edge fails it

-- A9: "After a violation .. the lowest offset among the edges that would each alone fail the first failed test": the violation c, if an edge of
-- the graph at that moment fails the test p
abbrev pub fails : {A : Type 0} → Running → (GEdge → Bool) → ℕ → Outcome A → Outcome A
fails r p c k = fails_at r.blurs (lowest_of p r.graph.edges) c k

-- not is_readable: a mutable reference that is mutably borrowed
abbrev pub bars_reading : Graph → ℕ → Option ℕ → GEdge → Bool
bars_reading g n at x = is_mutable g n && borrows_mutably g n at x

-- a mutable reference that is not is_writable
abbrev pub bars_handing_over : Graph → ℕ → GEdge → Bool
bars_handing_over g n x = is_mutable g n && borrows n none x

-- "A mutable local borrow is never a violation."
abbrev pub bars_local_borrow : Bool → Graph → ℕ → ℕ → GEdge → Bool
bars_local_borrow m g n i x = not m && borrows_mutably g n (some (local_label i)) x

-- "A mutable field borrow fails only on an empty-path borrow"; another one, where the field is not readable
abbrev pub bars_field_borrow : Bool → Graph → ℕ → ℕ → GEdge → Bool
bars_field_borrow m g n f x = cond m (borrows_fully n x) (bars_reading g n (some (field_label f)) x)

-- "Resource borrow fails if mutably borrowed, or mutable and borrowed"; A9: "a resource borrow is one test"
abbrev pub bars_resource_borrow : Bool → Graph → ℕ → ℕ → GEdge → Bool
bars_resource_borrow m g n i x = (m && borrows n (some (global_label i)) x) || borrows_mutably g n (some (global_label i)) x

-- a look-up of a name: 9 if the graph is not well formed or lacks it (never in a run)
abbrev pub needs_name : {A : Type 0} → Graph → ℕ → Outcome A → Outcome A
needs_name g n k = needs (well_formed g && held g n) 9 k

-- ---- core calls

-- The fresh name is the old `next`. A name is a 16-bit number; document 01 leaves open what a larger one gives (never in a run): 9.
unfoldable pub new_ref : Bool → Running → Outcome Running
new_ref m r =
    needs (ltb r.next u16_end) 9
    (then (lift (new_name r.graph r.next m)) (λ g.
    done (record { locals = r.locals; graph = g; next = suc r.next; root = r.root; blurs = r.blurs; offset = r.offset })))

-- the running state after a graph call
abbrev pub on_graph : Running → Ans Graph → Outcome Running
on_graph r a = then (lift a) (λ g. done (with_graph r g))

-- "Copy: strong empty path."
unfoldable pub add_copy : ℕ → ℕ → Running → Outcome Running
add_copy p c r = on_graph r (borrow_strong r.graph p [] c r.offset)

-- "Element borrow and call: weak empty path."
unfoldable pub add_borrow : ℕ → ℕ → Running → Outcome Running
add_borrow p c r = on_graph r (borrow_weak r.graph p [] c r.offset)

-- "Field: strong."
unfoldable pub add_field_borrow : ℕ → ℕ → ℕ → Running → Outcome Running
add_field_borrow p f c r = on_graph r (borrow_strong r.graph p (field_label f ∷ []) c r.offset)

-- "Local: strong from the root."
unfoldable pub add_local_borrow : ℕ → ℕ → Running → Outcome Running
add_local_borrow i c r = on_graph r (borrow_strong r.graph r.root (local_label i ∷ []) c r.offset)

-- "Resource: weak from the root."
unfoldable pub add_resource_borrow : ℕ → ℕ → Running → Outcome Running
add_resource_borrow i c r = on_graph r (borrow_weak r.graph r.root (global_label i ∷ []) c r.offset)

-- a reference is dropped
unfoldable pub release_name : ℕ → Running → Outcome Running
release_name n r = on_graph r (release r.graph n)

-- ---- entry points

-- an operand of this token: a value, or a new reference
unfoldable pub value_for : Token → Running → Outcome Answer
unfolding new_ref
value_for of_value r = answer r non_ref
value_for (of_ref m) r = then (new_ref m r) (λ s. answer s (reference r.next))

-- an operand is dropped
unfoldable pub release_value : Operand → Running → Outcome Running
unfolding release_name
release_value non_ref r = done r
release_value (reference n) r = release_name n r

-- "12: copy or move of an absent local." 101, if the value is mutably borrowed.
abbrev pub copy_of : Running → ℕ → Local → Outcome Answer
copy_of r i absent = refused 12
copy_of r i value = needs_name r.graph r.root (fails r (borrows_mutably r.graph r.root (some (local_label i))) COPYLOC_EXISTS_BORROW (answer r non_ref))
copy_of r i (ref n) =
    needs_name r.graph n
    (then (new_ref (is_mutable r.graph n) r) (λ s.
    then (add_copy n r.next s) (λ t.
    answer t (reference r.next))))

-- CopyLoc
unfoldable pub copy_loc : ℕ → Running → Outcome Answer
copy_loc i r = copy_of r i (get_or r.locals i absent)

-- "12: copy or move of an absent local." 102, if the value is borrowed.
abbrev pub move_of : Running → ℕ → Local → Outcome Answer
move_of r i absent = refused 12
move_of r i value = needs_name r.graph r.root (fails r (borrows r.root (some (local_label i))) MOVELOC_EXISTS_BORROW (answer (with_local r i absent) non_ref))
move_of r i (ref n) = answer (with_local r i absent) (reference n)

-- MoveLoc
unfoldable pub move_loc : ℕ → Running → Outcome Answer
move_loc i r = move_of r i (get_or r.locals i absent)

-- a local that holds this operand
abbrev pub local_of : Operand → Local
local_of non_ref = value
local_of (reference n) = ref n

-- what becomes of the old content, once the new one is stored: 103, if a value is borrowed; a reference is released
abbrev pub overwrite : ℕ → Running → Local → Outcome Running
overwrite i r absent = done r
overwrite i r value = needs_name r.graph r.root (fails r (borrows r.root (some (local_label i))) STLOC_UNSAFE_TO_DESTROY (done r))
overwrite i r (ref n) = release_name n r

-- StLoc
unfoldable pub st_loc : ℕ → Operand → Running → Outcome Running
st_loc i v r = overwrite i (with_local r i (local_of v)) (get_or r.locals i absent)

-- FreezeRef: "13: write, freeze or mutable vector step on an immutable reference"; 104, if it is mutably borrowed
unfoldable pub freeze_ref : ℕ → Running → Outcome Answer
freeze_ref n r =
    needs_name r.graph n
    (needs (is_mutable r.graph n) 13
    (fails r (borrows_mutably r.graph n none) FREEZEREF_EXISTS_MUTABLE_BORROW
    (then (new_ref false r) (λ s.
    then (add_copy n r.next s) (λ t.
    then (release_name n t) (λ u.
    answer u (reference r.next)))))))

-- Eq, Neq: 11 for a value and a reference; 105, if one of the two is not readable. A9: "A comparison tests its top operand first".
unfoldable pub comparison : Operand → Operand → Running → Outcome Answer
comparison non_ref non_ref r = answer r non_ref
comparison non_ref (reference n) r = refused 11
comparison (reference m) non_ref r = refused 11
comparison (reference m) (reference n) r =
    needs_name r.graph m
    (fails r (bars_reading r.graph m none) READREF_EXISTS_MUTABLE_BORROW
    (needs_name r.graph n
    (fails r (bars_reading r.graph n none) READREF_EXISTS_MUTABLE_BORROW
    (then (release_name m r) (λ s.
    then (release_name n s) (λ t.
    answer t non_ref))))))

-- ReadRef: 105, if it is not readable
unfoldable pub read_ref : ℕ → Running → Outcome Answer
read_ref n r =
    needs_name r.graph n
    (fails r (bars_reading r.graph n none) READREF_EXISTS_MUTABLE_BORROW
    (then (release_name n r) (λ s.
    answer s non_ref)))

-- WriteRef: "13: write .. on an immutable reference"; 106, if it is borrowed
unfoldable pub write_ref : ℕ → Running → Outcome Running
write_ref n r =
    needs_name r.graph n
    (needs (is_mutable r.graph n) 13
    (fails r (borrows n none) WRITEREF_EXISTS_BORROW
    (release_name n r)))

-- "A mutable local borrow is never a violation." 107, if an immutable one meets a mutable borrow
unfoldable pub borrow_loc : Bool → ℕ → Running → Outcome Answer
borrow_loc m i r =
    needs_name r.graph r.root
    (fails r (bars_local_borrow m r.graph r.root i) BORROWLOC_EXISTS_BORROW
    (then (new_ref m r) (λ s.
    then (add_local_borrow i r.next s) (λ t.
    answer t (reference r.next)))))

-- "A mutable field borrow fails only on an empty-path borrow" (108; "a field borrow has no such test" as 13)
unfoldable pub borrow_field : Bool → ℕ → ℕ → Running → Outcome Answer
borrow_field m n f r =
    needs_name r.graph n
    (fails r (bars_field_borrow m r.graph n f) BORROWFIELD_EXISTS_MUTABLE_BORROW
    (then (new_ref m r) (λ s.
    then (add_field_borrow n f r.next s) (λ t.
    then (release_name n t) (λ u.
    answer u (reference r.next))))))

-- "Resource borrow fails if mutably borrowed, or mutable and borrowed" (109)
unfoldable pub borrow_global : Bool → ℕ → Running → Outcome Answer
borrow_global m i r =
    needs_name r.graph r.root
    (fails r (bars_resource_borrow m r.graph r.root i) GLOBAL_REFERENCE
    (then (new_ref m r) (λ s.
    then (add_resource_borrow i r.next s) (λ t.
    answer t (reference r.next)))))

-- MoveFrom: 109, if the resource is borrowed
unfoldable pub move_from : ℕ → Running → Outcome Answer
move_from i r = needs_name r.graph r.root (fails r (borrows r.root (some (global_label i))) GLOBAL_REFERENCE (answer r non_ref))

-- "11: a value where a reference is needed, or the reverse."
abbrev pub need_ref : {A : Type 0} → Operand → (ℕ → Outcome A) → Outcome A
need_ref non_ref k = refused 11
need_ref (reference n) k = k n

abbrev pub need_value : {A : Type 0} → Operand → Outcome A → Outcome A
need_value non_ref k = k
need_value (reference n) k = refused 11

-- "13: .. mutable vector step on an immutable reference"; the violation c, if it is borrowed. An immutable step tests nothing.
abbrev pub vector_test : {A : Type 0} → Bool → Running → ℕ → ℕ → Outcome A → Outcome A
vector_test true r n c k = needs (is_mutable r.graph n) 13 (fails r (borrows n none) c k)
vector_test false r n c k = k

-- VecLen, PushBack, PopBack, Swap
unfoldable pub vector_op : Operand → Bool → Running → Outcome Running
vector_op v m r = need_ref v (λ n. needs_name r.graph n (vector_test m r n VEC_UPDATE (release_name n r)))

-- the borrow of a vector's element
unfoldable pub vector_element_borrow : Operand → Bool → Running → Outcome Answer
vector_element_borrow v m r =
    need_ref v (λ n.
    needs_name r.graph n
    (vector_test m r n VEC_BORROW_ELEMENT
    (then (new_ref m r) (λ s.
    then (add_borrow n r.next s) (λ t.
    then (release_name n t) (λ u.
    answer u (reference r.next)))))))

-- ---- call and return

-- the names among operands, and those in locals
abbrev pub operand_names : List Operand → List ℕ
operand_names [] = []
operand_names (non_ref ∷ vs) = operand_names vs
operand_names (reference n ∷ vs) = n ∷ operand_names vs

abbrev pub local_names : List Local → List ℕ
local_names [] = []
local_names (absent ∷ xs) = local_names xs
local_names (value ∷ xs) = local_names xs
local_names (ref n ∷ xs) = n ∷ local_names xs

-- ascending, each once (a BTreeSet)
unfoldable pub put_number : ℕ → List ℕ → List ℕ
put_number n [] = n ∷ []
put_number n (m ∷ ms) = cond (ltb n m) (n ∷ m ∷ ms) (cond (eqb n m) (m ∷ ms) (m ∷ put_number n ms))

unfoldable pub ascend : List ℕ → List ℕ
unfolding put_number
ascend [] = []
ascend (n ∷ ns) = put_number n (ascend ns)

-- names released, one after the other
unfoldable pub release_all : List ℕ → Running → Outcome Running
unfolding release_name
release_all [] r = done r
release_all (n ∷ ns) r = then (release_name n r) (λ s. release_all ns s)

-- c borrows from each of these names
unfoldable pub borrow_from : List ℕ → ℕ → Running → Outcome Running
unfolding add_borrow
borrow_from [] c r = done r
borrow_from (p ∷ ps) c r = then (add_borrow p c r) (λ s. borrow_from ps c s)

-- mutable references that are borrowed must not be handed over: the violation c. A9: "its arguments in order".
unfoldable pub hand_over : {A : Type 0} → List ℕ → ℕ → Running → Outcome A → Outcome A
hand_over [] c r k = k
hand_over (n ∷ ns) c r k = needs_name r.graph n (fails r (bars_handing_over r.graph n) c (hand_over ns c r k))

-- 109, if one of the resources is borrowed, in this order
unfoldable pub none_borrowed : {A : Type 0} → List ℕ → Running → Outcome A → Outcome A
none_borrowed [] r k = k
none_borrowed (i ∷ is) r k = fails r (borrows r.root (some (global_label i))) GLOBAL_REFERENCE (none_borrowed is r k)

-- "Acquired numbers: any order, repeats allowed". A9: "a call its resources ascending".
unfoldable pub not_acquired : {A : Type 0} → List ℕ → Running → Outcome A → Outcome A
unfolding none_borrowed ascend
not_acquired is r k = needs_name r.graph r.root (none_borrowed (ascend is) r k)

-- a state, and the values returned
pub record Answers : Type 0 where
  pub state : Running
  pub operands : List Operand

abbrev pub parents_of : Bool → List ℕ → List ℕ → List ℕ
parents_of true muts alls = muts
parents_of false muts alls = alls

-- The values returned, in order. A mutable reference borrows from the mutable arguments, another one from all.
unfoldable pub return_values : List Token → List ℕ → List ℕ → Running → Outcome Answers
return_values [] muts alls r = done (record { state = r; operands = [] })
return_values (of_value ∷ ts) muts alls r =
    then (return_values ts muts alls r) (λ a.
    done (record { state = a.state; operands = non_ref ∷ a.operands }))
return_values (of_ref m ∷ ts) muts alls r =
    then (new_ref m r) (λ s.
    then (borrow_from (parents_of m muts alls) r.next s) (λ t.
    then (return_values ts muts alls t) (λ a.
    done (record { state = a.state; operands = reference r.next ∷ a.operands }))))

-- Call: 109, then 112, then the values returned; the arguments are released last. A9: "a call its resources ascending and then its arguments in
-- order".
unfoldable pub call : List Operand → List ℕ → List Token → Running → Outcome Answers
call args acquired tokens r =
    not_acquired acquired r
    (hand_over (operand_names args) CALL_BORROWED_MUTABLE_REFERENCE r
    (then (return_values tokens (keep (is_mutable r.graph) (ascend (operand_names args))) (ascend (operand_names args)) r) (λ a.
    then (release_all (ascend (operand_names args)) a.state) (λ s.
    done (record { state = s; operands = a.operands })))))

-- Ret: the locals' references are released; 113, if something of the frame is borrowed; 114, if a mutable reference that is returned is
-- borrowed. A9: "a return the frame and then its values in the Rust's order".
unfoldable pub ret : List Operand → Running → Outcome Running
ret values r =
    then (release_all (ascend (local_names r.locals)) r) (λ s.
    needs_name s.graph s.root
    (fails s (borrows s.root none) UNSAFE_RET
    (hand_over (operand_names values) RET_BORROWED_MUTABLE_REFERENCE s
    (done s))))
