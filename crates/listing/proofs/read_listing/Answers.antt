use Rattle.std.proofs.Common.{sym, ap, ◌∙◌, arith}
use Rattle.std.proofs.lemmas.Result.{err_from_is_err_and}
use Rattle.meaning.specs.Listing.{after_records}
use Rattle.meaning.proofs.Laws.Listing.{no_bytes, some_bytes}
use Rattle.listing.specs.Models.{ruled_places}
use Rattle.listing.proofs.ReadLaws.{sound, were_read}
use Rattle.listing.proofs.read_listing.Goals as goal

pub returns-then-s-eq0 : goal.returns-then-s-eq0
returns-then-s-eq0 c = record { listed = sym (no_bytes c.args.s.now c.if-s-eq0.true); counted = tt }

pub returns-in_err-w : goal.returns-in_err-w
returns-in_err-w c =
    let s = c.args.s.now in
    let p = err_from_is_err_and c.from_residual.result c.from_residual.ensures.1 in
    let e = c.in_err-w.ensures in
    rw (p.1, p.2) (record { listed = sym (some_bytes s c.if-s-eq0.false ∙ ap (after_records s) (sym e.places)); counted = tt })

pub ruled-requires : goal.ruled-requires
ruled-requires c = sound c.args.s.now _ _ c.in_ok-w.w c.in_ok-w.ensures (omega arith) c.head.result.now c.head.ensures

pub returns-in_err-routine : goal.returns-in_err-routine
unfolding ruled_places
returns-in_err-routine c =
    let s = c.args.s.now in
    let p = err_from_is_err_and c.from_residual-in_err-routine.result c.from_residual-in_err-routine.ensures.1 in
    rw (p.1, p.2) (record {
      listed = c.in_err-routine.ensures ∙ sym (some_bytes s c.if-s-eq0.false ∙ ap (after_records s) (were_read s _ _ c.in_ok-w.w c.in_ok-w.ensures));
      counted = tt;
    })

pub returns : goal.returns
unfolding ruled_places
returns c =
    let s = c.args.s.now in
    record {
      listed = c.in_ok-routine.ensures.0 ∙ sym (some_bytes s c.if-s-eq0.false ∙ ap (after_records s) (were_read s _ _ c.in_ok-w.w c.in_ok-w.ensures));
      counted = c.in_ok-routine.ensures.1;
    }
