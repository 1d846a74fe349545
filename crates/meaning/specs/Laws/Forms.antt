use Rattle.std.specs.Prelude.{ℕ, ◌<◌, true, not, ◌⊎◌, ◌≢◌, ◌≡◌, eqb, length, get_or}
use Rattle.meaning.specs.BorrowGraph.{held, well_formed, on_pairs}
use Rattle.meaning.specs.AbstractState.{absent, ref, State, Form}

-- what the steps of a block keep, where its stack is empty: the names held are the root's and those of references in locals
pub record Open (l : ℕ) (s : State) : Type 0 where
  pub count : length s.locals ≡ l
  pub small : l < 65536
  pub formed : well_formed s.graph ≡ true
  pub among : (n : ℕ) → held s.graph n ≡ true → (n ≡ l) ⊎ ((i : ℕ) × (get_or s.locals i absent ≡ ref n))
  pub no_root : on_pairs (λ p c. not (eqb c l)) s.graph.edges ≡ true

-- the end of a block in a run: besides, the root's name is held, and each local's reference has a name of its own that is held and not the root's
pub record Settled (l : ℕ) (s : State) : Type 0 where
  pub opened : Open l s
  pub root : held s.graph l ≡ true
  pub refs : (i n : ℕ) → get_or s.locals i absent ≡ ref n → (n ≢ l) × (held s.graph n ≡ true)
  pub once : (i j n : ℕ) → get_or s.locals i absent ≡ ref n → get_or s.locals j absent ≡ ref n → i ≡ j

-- ---- the form of the states that the blocks of a run hand on: the names held are the root's and the references', all of them

pub record Strong (l : ℕ) (s : State) : Type 0 where
  pub form : Form l s
  pub root : held s.graph l ≡ true
  pub refs : (i : ℕ) → get_or s.locals i absent ≡ ref i → held s.graph i ≡ true
