use Rattle.std.proofs.Common.{ap, sym, ◌∙◌, ◌+◌, ◌-◌, ℕ, List, get_or, length, arith}
use Rattle.meaning.specs.Area.{word_at}
use Rattle.absint_area.specs.ModelLaws.{row_words, copied_to}
use borrow.Rule.Slice.PartMut.{put_mid}
use Rattle.absint_area.proofs.write.put_row.Goals as goal

pub returns : goal.returns
returns c =
    let e = c.copy_from_slice.ensures.after in
    let p = copied_to 10 10 c.args.at c.args.ws.now c.copy_from_slice.new.self (omega arith) (omega arith) (ap length e ∙ c.told-x) in
    (p.frame, sym (row_words c.args.x.now (word_at (put_mid c.args.at (c.args.at + 10 - c.args.at) c.args.ws.now c.copy_from_slice.new.self)) c.args.at (λ k l. sym (p.within k l ∙ ap (λ (zs : List ℕ). get_or zs k 0) e))))
