use Rattle.listing_records.proofs.Laws.{limit_low, limit_high}
use Rattle.listing_records.proofs.limit_of.Goals as goal

pub returns-then-f-lt-PARAMETERS : goal.returns-then-f-lt-PARAMETERS
returns-then-f-lt-PARAMETERS c = limit_low c.args.locals c.args.f c.if-f-lt-PARAMETERS.true

pub returns-else-f-lt-PARAMETERS : goal.returns-else-f-lt-PARAMETERS
returns-else-f-lt-PARAMETERS c = limit_high c.args.locals c.args.f c.if-f-eq-LOCAL.false c.if-f-lt-PARAMETERS.false
