-- What labels of the code stand for in the definitions.
use Rattle.meaning.specs.Labels as L
use Rattle.meaning.specs.References.{Cmp, less, equal, greater}
use Rattle.paths.specs.declared.Label.{Label}
use Rattle.paths.specs.declared.Label.TheVariants.{Local, Global, Field}
use Rattle.std.specs.declared.cmp.Ordering.{Ordering}
use Rattle.std.specs.declared.cmp.Ordering.TheVariants.{Less, Equal, Greater}

abbrev pub label_of : Label → L.Label
label_of (Local i) = L.local i
label_of (Global i) = L.global i
label_of (Field i) = L.field i

-- an order's answer, as the definitions give it
abbrev pub ordering_of : Ordering → Cmp
ordering_of Less = less
ordering_of Equal = equal
ordering_of Greater = greater
