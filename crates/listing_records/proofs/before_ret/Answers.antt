use Rattle.listing_records.proofs.before_ret.Goals as goal

pub returns-then-first_ret-code_count : goal.returns-then-first_ret-code_count
returns-then-first_ret-code_count c = rw c.if-first_ret-code_count.true

pub returns-else-first_ret-code_count : goal.returns-else-first_ret-code_count
returns-else-first_ret-code_count c = rw c.if-first_ret-code_count.false
