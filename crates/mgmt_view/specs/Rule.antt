-- The rule between a publisher and its viewers.
use Rattle.std.specs.Prelude.{◌≡◌, ℕ, List, []}
use mathlib.Core.Option.{some}
use lib.ListN.{get_elem?}
use Rattle.mgmt_view.specs.{Tables.{StartsWith, tables_of}, declared.shelf.Shelf.Shelf, declared.rule.View.View}

-- what is published begins with what each thread has seen, and with what it was told of
abbrev pub Keeps : Shelf → List View → Type 0
Keeps x views =
    (seat : ℕ) (v : View) → get_elem? views seat ≡ some v →
    StartsWith (tables_of x.past) v.seen × StartsWith (tables_of x.past) v.told

-- what is seen then is what is published; it begins with what was seen and with what was told of
abbrev pub PublishesView : View → Shelf → Shelf → View → Type 0
PublishesView v x y w =
    StartsWith w.seen v.seen × StartsWith w.seen v.told × (w.seen ≡ tables_of y.past) × (w.told ≡ v.told)

abbrev pub nothing_seen : View
nothing_seen = record { seen = []; told = [] }

-- who learns knows besides what the other has seen
abbrev pub informed : View → View → View
informed v w = record { seen = v.seen; told = w.seen }
