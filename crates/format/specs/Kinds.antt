-- The kinds of record by name: the number of each, and what a number stands for. Assumes nothing.
use Rattle.std.specs.Prelude.{ℕ, cond, eqb, Result, Ok, Err}
use Rattle.net.specs.declared.codes.Unknown.{Unknown}
use Rattle.format.specs.declared.contents.Kind.{Kind}
use Rattle.format.specs.declared.contents.Kind.TheVariants.{Sites, Nodes, Aspects, Actions, Rows}

-- "kinds 1 to 5": sites, nodes, aspects, actions, rows
abbrev pub kind_number : Kind → ℕ
kind_number Sites = 1
kind_number Nodes = 2
kind_number Aspects = 3
kind_number Actions = 4
kind_number Rows = 5

abbrev pub kind_of : ℕ → Result Kind Unknown
kind_of n =
    cond (eqb n 1) (Ok Sites)
    (cond (eqb n 2) (Ok Nodes)
    (cond (eqb n 3) (Ok Aspects)
    (cond (eqb n 4) (Ok Actions)
    (cond (eqb n 5) (Ok Rows)
    (Err (record {}))))))
