use borrow.Author.Tests.{ne_eqb}
use Rattle.listing_records.proofs.is_full.Goals as goal

pub returns-in-1 : goal.returns-in-1
returns-in-1 c = rw c.in-1.is

pub returns-in-2 : goal.returns-in-2
returns-in-2 c = rw c.in-2.is

pub returns-in_default : goal.returns-in_default
returns-in_default c = let m = c.in_default.in_default-own in rw (ne_eqb c.args.kind 1 m.rest.0.1, ne_eqb c.args.kind 2 m.rest.1)
