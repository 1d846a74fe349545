-- An answer as seven words: 0 accepted, 1 violation, 2 refused, 3 an empty cell; the code or number; the offset or place; the visits; the number of
-- sets blurred, its low word and its high word; the offset of the borrow behind a violation, else 0.
use Rattle.std.specs.Prelude.{ℕ, ◌/◌, ◌%◌, ◌≡◌, Bool, true, false, cond, List, [], ◌∷◌, ◌++◌, leb, length, drop}
use Rattle.meaning.specs.Area.{cleared}
use Rattle.meaning.specs.Loop.{Verdict, accept, violation, refusal, empty_cell}
use Rattle.meaning.specs.Verify.{Answered}
use Rattle.absint.specs.Models.{Left}

abbrev pub ruling_words : Verdict → ℕ → List ℕ
ruling_words accept visits = 0 ∷ 0 ∷ 0 ∷ visits ∷ []
ruling_words (violation code offset at) visits = 1 ∷ code ∷ offset ∷ visits ∷ []
ruling_words (refusal number place) visits = 2 ∷ number ∷ place ∷ visits ∷ []
ruling_words empty_cell visits = 3 ∷ 0 ∷ 0 ∷ visits ∷ []

-- the numbers below this fit a word
abbrev pub word_end : ℕ
word_end = 4294967296

-- a number's low word and its high word
abbrev pub blurred_words : ℕ → List ℕ
blurred_words n = n % word_end ∷ n / word_end ∷ []

abbrev pub borrowed_word : Verdict → List ℕ
borrowed_word accept = 0 ∷ []
borrowed_word (violation code offset at) = at ∷ []
borrowed_word (refusal number place) = 0 ∷ []
borrowed_word empty_cell = 0 ∷ []

abbrev pub words_of : Answered → List ℕ
words_of a = ruling_words a.verdict a.visits ++ blurred_words a.blurred ++ borrowed_word a.verdict

abbrev pub answer_words : ℕ
answer_words = 7

-- whether there is room for them
abbrev pub fits : List ℕ → Bool
fits ws = leb answer_words (length ws)

abbrev pub put_words : List ℕ → List ℕ → List ℕ
put_words xs ws = xs ++ drop answer_words ws

-- the answer's words after the call, and the area's: without room nothing is written
abbrev pub written : Answered → List ℕ → List ℕ
written a ws = cond (fits ws) (put_words (words_of a) ws) ws

abbrev pub area_after : List ℕ → List ℕ → List ℕ
area_after ws area = cond (fits ws) (cleared area) area

-- the area with the kept states of the run: absint's `Left`; without room it is as it was
pub record Kept (ws s area area' : List ℕ) : Type 0 where
  pub left : fits ws ≡ true → Left s area area'
  pub same : fits ws ≡ false → area' ≡ area
