-- Short expressions and guards, computed: how they group, where a refusal is placed, and what they give. Assumes nothing.
use Rattle.std.specs.Prelude.{Some, None}
use mathlib.Core.List.{List, [], ◌∷◌, ◌++◌}
use mathlib.Core.Path.{refl}
use lib.IntN.{pos, negsuc}
use lib.ListN.{replicate}
use Rattle.whole.specs.declared.Operator.TheVariants.{Plus, Minus, Times, Less}
use Rattle.whole.specs.Whole.{Worked}
use Rattle.whole.proofs.Tables.{Row, ◌is◌, Holds}
use Rattle.layout.specs.Layout.{Cells, all_cells, written, objects, calls, new_call, to_call, cleared}
use Rattle.layout.specs.Stages.{running, replied}
use Rattle.terms.specs.declared.Variable.TheVariants.{Attribute}
use Rattle.terms.specs.Bytes.{Text, bytes}
use Rattle.terms.specs.Expressions.{expression, brackets}
use Rattle.terms.specs.Guards.{guard}
use Rattle.terms.specs.declared.Limits.{Limits}
use Rattle.terms.specs.Parsed.{Parsed, got, bad}
use Rattle.terms.specs.Trees.{Expression, number, variable, apply, trees}
use Rattle.terms.specs.Values.{Surroundings, values, guard_values}
use Rattle.terms.proofs.Open.{terms_open}

-- a method with a0, a1 and v0
limits : Limits
limits = record { attrs = 2; locals = 1 }

tree : Text → Parsed Expression
tree s = expression trees limits s brackets 0

-- "A sum is products joined by `+` or `-`, a product is factors joined by `*`, both grouped from the left."
trees_table : List (Row (Parsed Expression))
trees_table =
    (tree (bytes "2*3*4") is got 5 (apply Times (apply Times (number 2) (number 3)) (number 4)))
    ∷ (tree (bytes "1-2+3") is got 5 (apply Plus (apply Minus (number 1) (number 2)) (number 3)))
    ∷ (tree (bytes "a1+2*3") is got 6 (apply Plus (variable (Attribute 1)) (apply Times (number 2) (number 3))))
    ∷ (tree (bytes "(1<2)<3") is got 7 (apply Less (apply Less (number 1) (number 2)) (number 3)))
    -- one `<` for each bracket level: the reading stops before the second
    ∷ (tree (bytes "1<2<3") is got 3 (apply Less (number 1) (number 2)))
    -- no leading zero; the largest decimal; the digit that takes it past that
    ∷ (tree (bytes "01") is got 1 (number 0))
    ∷ (tree (bytes "2147483647") is got 10 (number 2147483647))
    ∷ (tree (bytes "2147483648") is bad 9)
    -- a variable outside its range is placed at its letter, a value that ends too soon after its last byte
    ∷ (tree (bytes "1+a2") is bad 2)
    ∷ (tree (bytes "1+") is bad 2)
    ∷ (tree (bytes "1+sel") is bad 5)
    ∷ (tree [] is bad 0)
    -- "At most 8 brackets are open at once."
    ∷ (tree (bytes "((((((((7))))))))") is got 17 (number 7))
    ∷ (tree (bytes "(((((((((7)))))))))") is bad 8)
    ∷ []

-- label 1 runs in object 1, not cleared, and v0 holds label 2, whose reply is in for object 1
cells : Cells
cells =
    written (replicate all_cells (pos 0))
    ((objects, pos 1) ∷ (calls, pos 2) ∷ (new_call 1 running 0 1 0 (pos 2 ∷ []) ++ new_call 2 replied 1 1 0 []))

here : Cells → Surroundings
here c = record { cells = c; object = 1; label = 1 }

valued : Text → Parsed Worked
valued s = expression (values (here cells)) limits s brackets 0

guarded : Cells → Text → Parsed Worked
guarded c s = guard (values (here c)) (guard_values (here c)) limits s brackets 0

values_table : List (Row (Parsed Worked))
values_table =
    -- each intermediate result must be in range
    (valued (bytes "65536*65536*0") is got 13 None)
    ∷ (valued (bytes "2147483647+1-1") is got 14 None)
    ∷ (valued (bytes "0-2147483647-1") is got 14 (Some (negsuc 2147483647)))
    ∷ (valued (bytes "self+caller+v0") is got 14 (Some (pos 3)))
    ∷ (valued (bytes "2=v0") is got 4 (Some (pos 1)))
    -- "`wait` is true exactly when cleared is 1"
    ∷ (guarded cells (bytes "wait") is got 4 (Some (pos 0)))
    ∷ (guarded (written cells (to_call cells 1 cleared (pos 1))) (bytes "wait") is got 4 (Some (pos 1)))
    -- "`X?` is true as for `get`"
    ∷ (guarded cells (bytes "v0?") is got 3 (Some (pos 1)))
    ∷ (guarded cells (bytes "a0?|wait") is got 8 (Some (pos 0)))
    -- "All atoms are worked out."
    ∷ (guarded cells (bytes "[1]|[2147483647+1]") is got 18 None)
    ∷ (guarded cells (bytes "[0]&[2147483647+1]") is got 18 None)
    ∷ (guarded cells (bytes "wait&[1]|(v0?)") is got 14 (Some (pos 1)))
    -- round brackets in a guard hold a guard
    ∷ (guarded cells (bytes "(1)") is bad 1)
    ∷ (guarded cells (bytes "((((((([(7)])))))))") is bad 8)
    ∷ []

trees_hold : Holds trees_table
unfolding terms_open trees_table tree limits
trees_hold = (refl, (refl, (refl, (refl, (refl, (refl, (refl, (refl, (refl, (refl, (refl, (refl, (refl, (refl, tt))))))))))))))

values_hold : Holds values_table
unfolding terms_open values_table valued guarded here cells limits
values_hold = (refl, (refl, (refl, (refl, (refl, (refl, (refl, (refl, (refl, (refl, (refl, (refl, (refl, (refl, tt))))))))))))))
