use native.Mathlib.Omega.{arith}
use mathlib.Core.Path.{sym, ap, ◌∙◌, subst}
use lib.ListN.{length}
use Rattle.meaning.specs.Verify.{Answered, verify}
use Rattle.meaning.proofs.Laws.Answer.{low_answer}
use Rattle.meaning.specs.Laws.Answer.{Low}
use Rattle.reference_safety_lib.specs.Words.{words_of, put_words}
use Rattle.reference_safety_lib.specs.WordLaws.{no_room, room}
use Rattle.reference_safety_lib.proofs.reference_safety_verify.Goals as goal

pub returns-then-answer-lt-ANSWER_WORDS : goal.returns-then-answer-lt-ANSWER_WORDS
returns-then-answer-lt-ANSWER_WORDS c = no_room (verify (length c.args.area.now) c.args.listing.now) c.args.answer.now c.args.area.now (omega arith)

pub put_verdict-requires-clause-low : goal.put_verdict-requires-clause-low
put_verdict-requires-clause-low c =
    let checked = c.verify in
    let args = c.args in
    subst (λ (a : Answered). Low a.verdict) (sym checked.ensures.0) (low_answer (length args.area.now) args.listing.now)

pub returns : goal.returns
returns c =
    let checked = c.verify in
    let args = c.args in
    let v = checked.ensures in
    let put = c.put_verdict.ensures ∙ ap (λ (a : Answered). put_words (words_of a) args.answer.now) v.0 in
    room (verify (length args.area.now) args.listing.now) args.answer.now args.area.now _ _ (omega arith) put v.1
