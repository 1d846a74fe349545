-- How many bytes were read, whether or not a read failed after them.
use Rattle.std.specs.Prelude.{ℕ, Result, Ok, Err}
use Rattle.case_input.specs.declared.Failed.{Failed}

abbrev pub count_of : Result ℕ Failed → ℕ
count_of (Ok n) = n
count_of (Err e) = e.0
