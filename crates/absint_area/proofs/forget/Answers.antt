use mathlib.Core.Path.{◌∙◌, sym}
use Rattle.meaning.proofs.Laws.Area.{forgotten_long, forgotten_short}
use Rattle.absint_area.proofs.forget.Goals as goal

pub returns-then-area-ge-AREA_WORDS : goal.returns-then-area-ge-AREA_WORDS
returns-then-area-ge-AREA_WORDS c = c.put_absent.ensures ∙ sym (forgotten_long _ c.if-area-ge-AREA_WORDS.true)

pub returns-else-area-ge-AREA_WORDS : goal.returns-else-area-ge-AREA_WORDS
returns-else-area-ge-AREA_WORDS c = sym (forgotten_short _ c.if-area-ge-AREA_WORDS.false)
