use Rattle.std.proofs.Common.{zip, rules, tests, sym, ap, ◌∙◌, take, length-take, ℕ, min}
use Rattle.std.proofs.lemmas.Iterator.{YieldsList-from_slice, YieldsList-from_zip}
use Rattle.std.proofs.lemmas.Iterator.Search.{all_from_yields_List}
use Rattle.meaning.specs.Area.{local_in}
use Rattle.meaning.specs.AbstractState.{eq_local, eq_locals}
use Rattle.abstract_state.specs.Models.{locals_in}
use Rattle.abstract_state_join.specs.LocalLaws.{clip}
use Rattle.abstract_state_join.specs.JoinLaws.{eq_locals_zip}
use Rattle.abstract_state_join.proofs.join.same_locals.Goals as goal

pub returns : goal.returns
unfolding locals_in
returns c ha hb =
    let xs = c.args.a.now in
    let ys = c.args.b.now in
    let k = c.count-k in
    all_from_yields_List {all = zip (take k.result xs) (take k.result ys)} (λ p. eq_local (local_in p.0) (local_in p.1)) c.all.new.self _ c.all.result c.all.ensures.ran
    (YieldsList-from_zip {s = c.zip.result} (YieldsList-from_slice (take k.result xs) cc) (YieldsList-from_slice (take k.result ys) cc)) (λ x b q h. search (rules, tests))
    ∙ eq_locals_zip (take k.result xs) (take k.result ys) (length-take k.result xs ∙ ap (λ (n : ℕ). min k.result n) (ha ∙ sym hb) ∙ sym (length-take k.result ys))
    ∙ (λ i. eq_locals (clip xs c.args.n k.result ha k.ensures i) (clip ys c.args.n k.result hb k.ensures i))
