use native.Mathlib.Omega.{arith}
use mathlib.Core.Path.{sym, ap, ◌∙◌, subst}
use lib.ListN.{length}
use Rattle.meaning.specs.Verify.{Answered, verify}
use Rattle.meaning.proofs.Laws.Answer.{low_answer}
use Rattle.meaning.specs.Laws.Answer.{Low}
use Rattle.reference_safety_lib.specs.Words.{words_of, put_words}
use Rattle.reference_safety_lib.specs.WordLaws.{no_room_kept, room_kept}
use Rattle.reference_safety_lib.proofs.kept.reference_safety_analyze.Goals as goal

pub returns-then-answer-lt-ANSWER_WORDS : goal.returns-then-answer-lt-ANSWER_WORDS
returns-then-answer-lt-ANSWER_WORDS c =
    let args = c.args in
    no_room_kept (verify (length args.area.now) args.listing.now) args.answer.now args.listing.now args.area.now (omega arith)

pub put_verdict-requires-clause-low : goal.put_verdict-requires-clause-low
put_verdict-requires-clause-low c =
    let analyze = c.analyze in
    let args = c.args in
    subst (λ (a : Answered). Low a.verdict) (sym analyze.ensures.0) (low_answer (length args.area.now) args.listing.now)

pub returns : goal.returns
returns c =
    let analyze = c.analyze in
    let args = c.args in
    let v = analyze.ensures in
    let put = c.put_verdict.ensures ∙ ap (λ (a : Answered). put_words (words_of a) args.answer.now) v.0 in
    room_kept (verify (length args.area.now) args.listing.now) args.answer.now args.listing.now args.area.now _ _ (omega arith) put v.1
