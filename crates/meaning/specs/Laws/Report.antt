-- Words of contracts whose laws stand in proofs/Laws/Report.antt.
use Rattle.std.specs.Prelude.{Bool, true, false}
use Rattle.meaning.specs.Answers.{Ans, ok, refuse}
use Rattle.meaning.specs.References.{Report, added, already_there, blurred_now, blurred_before}

abbrev pub is_now : Ans Report → Bool
is_now (ok added) = false
is_now (ok already_there) = false
is_now (ok blurred_now) = true
is_now (ok blurred_before) = false
is_now (refuse n) = false
