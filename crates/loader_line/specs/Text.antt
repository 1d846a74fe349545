-- What the loader prints, in ASCII: `ACCEPT` and a line `BLURRED n`, `VIOLATION code offset` and a line `BORROWED AT n`, `REFUSED number place`, or
-- `EMPTY`; numbers decimal.
use Rattle.std.specs.Prelude.{ℕ, zero, suc, ◌+◌, ◌/◌, ◌%◌, cond, List, [], ◌∷◌, ◌++◌, ltb}
use Rattle.meaning.specs.Loop.{Verdict, accept, violation, refusal, empty_cell}
use Rattle.meaning.specs.Verify.{Answered}

-- the last k digits, without zeros in front
abbrev pub decimal_by : ℕ → ℕ → List ℕ
decimal_by zero n = []
decimal_by (suc k) n = cond (ltb n 10) [] (decimal_by k (n / 10)) ++ ((48 + n % 10) ∷ [])

-- no number of the code has more than 20 digits
unfoldable pub decimal_of : ℕ → List ℕ
decimal_of n = decimal_by 20 n

abbrev pub space : List ℕ
space = 32 ∷ []

abbrev pub newline : List ℕ
newline = 10 ∷ []

unfoldable pub numbers_of : ℕ → ℕ → List ℕ
unfolding decimal_of
numbers_of a b = decimal_of a ++ space ++ decimal_of b ++ newline

-- `ACCEPT`, `VIOLATION ` and `REFUSED `
abbrev pub accepted : List ℕ
accepted = 65 ∷ 67 ∷ 67 ∷ 69 ∷ 80 ∷ 84 ∷ []

abbrev pub violated : List ℕ
violated = 86 ∷ 73 ∷ 79 ∷ 76 ∷ 65 ∷ 84 ∷ 73 ∷ 79 ∷ 78 ∷ 32 ∷ []

abbrev pub refused : List ℕ
refused = 82 ∷ 69 ∷ 70 ∷ 85 ∷ 83 ∷ 69 ∷ 68 ∷ 32 ∷ []

-- `EMPTY`
abbrev pub no_routine : List ℕ
no_routine = 69 ∷ 77 ∷ 80 ∷ 84 ∷ 89 ∷ []

-- `BLURRED `
abbrev pub blurred_is : List ℕ
blurred_is = 66 ∷ 76 ∷ 85 ∷ 82 ∷ 82 ∷ 69 ∷ 68 ∷ 32 ∷ []

-- `BORROWED AT `
abbrev pub borrowed_at : List ℕ
borrowed_at = 66 ∷ 79 ∷ 82 ∷ 82 ∷ 79 ∷ 87 ∷ 69 ∷ 68 ∷ 32 ∷ 65 ∷ 84 ∷ 32 ∷ []

-- A1: "The program prints a further line, `BLURRED n`, after an acceptance"; k is the number of sets blurred. A9: "After a violation the program
-- prints `BORROWED AT n`". A3: "The program prints `EMPTY`".
abbrev pub verdict_line : ℕ → Verdict → List ℕ
verdict_line k accept = accepted ++ newline ++ blurred_is ++ decimal_of k ++ newline
verdict_line k (violation code offset at) = violated ++ numbers_of code offset ++ borrowed_at ++ decimal_of at ++ newline
verdict_line k (refusal number place) = refused ++ numbers_of number place
verdict_line k empty_cell = no_routine ++ newline

abbrev pub line_of : Answered → List ℕ
line_of a = verdict_line a.blurred a.verdict
