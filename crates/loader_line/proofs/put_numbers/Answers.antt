use Rattle.std.proofs.Common.{ℕ, List, ◌≡◌, ◌++◌, ◌∙◌, append_assoc}
use Rattle.loader_line.specs.Text.{numbers_of}
use Rattle.loader_line.proofs.put_numbers.Goals as goal

-- four texts put behind t, one after the other
four : (t a b c d : List ℕ) {v w x y : List ℕ} → v ≡ t ++ a → w ≡ v ++ b → x ≡ w ++ c → y ≡ x ++ d → y ≡ t ++ (a ++ b ++ c ++ d)
four t a b c d {y = y} p q r s = let e : y ≡ t ++ a ++ b ++ c ++ d = cc in e ∙ simp append_assoc

pub returns-clause-text : goal.returns-clause-text
unfolding numbers_of
returns-clause-text c = four _ _ _ _ _ c.put_decimal.ensures.text c.push_str.ensures.bytes c.put_decimal-2.ensures.text c.push_str-2.ensures.bytes
