-- Every bound of the model text from both sides, computed: number, then line. Assumes nothing.
use Prim.Native.Nat.{ℕ, zero, suc, ◌+◌}
use mathlib.Core.Bool.{true, false}
use mathlib.Core.List.{List, [], ◌∷◌, ◌++◌}
use mathlib.Core.Path.{refl}
use lib.Dec.{eqb}
use lib.ListN.{replicate}
use Rattle.whole.proofs.Tables.{◌is◌, Holds}
use Rattle.terms.specs.Bytes.{Text, bytes}
use Rattle.model.proofs.Open.{model_open}
use Rattle.model.proofs.Session.{verdict, session_texts, four_classes}

-- lines from a number on, of which one is put anew
changed : ℕ → ℕ → Text → List Text → Text
changed at k l [] = []
changed at k l (m ∷ ms) = (elim (eqb at k) [ true ↦ l | false ↦ m ]) ++ bytes "\n" ++ changed (at + 1) k l ms

-- a text of one class and twelve lines, and one of two classes, whose second has two methods
first_lines : Text → List Text
first_lines classes =
    bytes "creol=1" ∷ classes ∷ bytes "class=0" ∷ bytes "attrs=2" ∷ bytes "given=0" ∷ bytes "run=1" ∷ bytes "methods=1" ∷ bytes "method=0"
    ∷ bytes "params=0" ∷ bytes "locals=1" ∷ bytes "lines=1" ∷ bytes "code=return 0" ∷ []

second_lines : List Text
second_lines =
    bytes "class=1" ∷ bytes "attrs=1" ∷ bytes "given=1" ∷ bytes "run=0" ∷ bytes "methods=2" ∷ bytes "method=0" ∷ bytes "params=4"
    ∷ bytes "locals=4" ∷ bytes "lines=1" ∷ bytes "code=return v3" ∷ bytes "method=1" ∷ bytes "params=0" ∷ bytes "locals=0" ∷ bytes "lines=1"
    ∷ bytes "code=return 0" ∷ []

-- with one of their lines put anew; no line is number 0
one_class : ℕ → Text → Text
one_class k l = changed 1 k l (first_lines (bytes "classes=1"))

two_classes : ℕ → Text → Text
two_classes k l = changed 1 k l (first_lines (bytes "classes=2") ++ second_lines)

-- so many blocks, one in the other: each of two lines
nested : ℕ → Text → Text
nested zero inside = inside
nested (suc n) inside = bytes "code=while 1\n" ++ nested n inside ++ bytes "code=od\n"

-- the text of one class with these code lines
coded : Text → Text → Text
coded count code = one_class 11 (bytes "lines=" ++ count ++ bytes "\n" ++ code ++ bytes "code=return 0\nx=")

unfoldable bounded : Unit {0}
unfolding session_texts changed first_lines second_lines one_class two_classes nested coded
bounded = tt

-- the first class
first_class : Holds (
    (verdict (one_class 0 (bytes "")) is 0 ∷ 0 ∷ [])
    -- "`classes=` 1..16"
    ∷ (verdict (one_class 2 (bytes "classes=0")) is 4 ∷ 2 ∷ [])
    ∷ (verdict (one_class 2 (bytes "classes=16")) is 3 ∷ 13 ∷ [])
    ∷ (verdict (one_class 2 (bytes "classes=17")) is 4 ∷ 2 ∷ [])
    -- "`class=` (its index from 0)", "`attrs=` 0..8"
    ∷ (verdict (one_class 3 (bytes "class=1")) is 4 ∷ 3 ∷ [])
    ∷ (verdict (one_class 4 (bytes "attrs=0")) is 0 ∷ 0 ∷ [])
    ∷ (verdict (one_class 4 (bytes "attrs=8")) is 0 ∷ 0 ∷ [])
    ∷ (verdict (one_class 4 (bytes "attrs=9")) is 4 ∷ 4 ∷ [])
    -- "Class 0 has given 0 and run 1."
    ∷ (verdict (one_class 5 (bytes "given=1")) is 4 ∷ 5 ∷ [])
    ∷ (verdict (one_class 6 (bytes "run=0")) is 4 ∷ 6 ∷ [])
    ∷ (verdict (one_class 6 (bytes "run=2")) is 4 ∷ 6 ∷ [])
    -- "`methods=` run..8"
    ∷ (verdict (one_class 7 (bytes "methods=0")) is 4 ∷ 7 ∷ [])
    ∷ (verdict (one_class 7 (bytes "methods=8")) is 3 ∷ 13 ∷ [])
    ∷ (verdict (one_class 7 (bytes "methods=9")) is 4 ∷ 7 ∷ [])
    ∷ []
    )
unfolding model_open bounded
first_class = (refl, (refl, (refl, (refl, (refl, (refl, (refl, (refl, (refl, (refl, (refl, (refl, (refl, (refl, tt))))))))))))))

-- the first method
first_method : Holds (
    -- "`method=` (index from 0)". "Where run is 1, method 0 has params 0."
    (verdict (one_class 8 (bytes "method=1")) is 4 ∷ 8 ∷ [])
    ∷ (verdict (one_class 9 (bytes "params=1")) is 4 ∷ 9 ∷ [])
    -- a later method of such a class may have some
    ∷ (verdict four_classes is 0 ∷ 0 ∷ [])
    -- "`locals=` params..8"
    ∷ (verdict (one_class 10 (bytes "locals=0")) is 0 ∷ 0 ∷ [])
    ∷ (verdict (one_class 10 (bytes "locals=8")) is 0 ∷ 0 ∷ [])
    ∷ (verdict (one_class 10 (bytes "locals=9")) is 4 ∷ 10 ∷ [])
    -- "`lines=` 1..64"
    ∷ (verdict (one_class 11 (bytes "lines=0")) is 4 ∷ 11 ∷ [])
    ∷ (verdict (one_class 11 (bytes "lines=64")) is 3 ∷ 13 ∷ [])
    ∷ (verdict (one_class 11 (bytes "lines=65")) is 4 ∷ 11 ∷ [])
    -- "a0..a7 below attrs, v0..v7 below locals"
    ∷ (verdict (one_class 12 (bytes "code=return a1+v0")) is 0 ∷ 0 ∷ [])
    ∷ (verdict (one_class 12 (bytes "code=return a2")) is 5 ∷ 12 ∷ [])
    ∷ (verdict (one_class 12 (bytes "code=return v1")) is 5 ∷ 12 ∷ [])
    -- "A method's last line is a `return` outside all blocks."
    ∷ (verdict (one_class 12 (bytes "code=skip")) is 6 ∷ 12 ∷ [])
    ∷ (verdict (one_class 12 (bytes "code=if 1")) is 6 ∷ 12 ∷ [])
    ∷ []
    )
unfolding model_open bounded
first_method = (refl, (refl, (refl, (refl, (refl, (refl, (refl, (refl, (refl, (refl, (refl, (refl, (refl, (refl, tt))))))))))))))

-- a later class, and a later method
second_class : Holds (
    (verdict (two_classes 0 (bytes "")) is 0 ∷ 0 ∷ [])
    ∷ (verdict (two_classes 13 (bytes "class=0")) is 4 ∷ 13 ∷ [])
    ∷ (verdict (two_classes 13 (bytes "class=2")) is 4 ∷ 13 ∷ [])
    -- "`given=` 0..attrs", "`run=` 0 or 1"
    ∷ (verdict (two_classes 15 (bytes "given=0")) is 0 ∷ 0 ∷ [])
    ∷ (verdict (two_classes 15 (bytes "given=2")) is 4 ∷ 15 ∷ [])
    ∷ (verdict (two_classes 16 (bytes "run=2")) is 4 ∷ 16 ∷ [])
    -- with run 1 its method 0 has params 0
    ∷ (verdict (two_classes 16 (bytes "run=1")) is 4 ∷ 19 ∷ [])
    -- as many methods as said
    ∷ (verdict (two_classes 17 (bytes "methods=1")) is 3 ∷ 23 ∷ [])
    ∷ (verdict (two_classes 17 (bytes "methods=3")) is 3 ∷ 28 ∷ [])
    -- "`params=` 0..4", "`locals=` params..8"
    ∷ (verdict (two_classes 19 (bytes "params=5")) is 4 ∷ 19 ∷ [])
    ∷ (verdict (two_classes 20 (bytes "locals=3")) is 4 ∷ 20 ∷ [])
    ∷ (verdict (two_classes 20 (bytes "locals=5")) is 0 ∷ 0 ∷ [])
    ∷ (verdict (two_classes 23 (bytes "method=0")) is 4 ∷ 23 ∷ [])
    ∷ (verdict (two_classes 23 (bytes "method=2")) is 4 ∷ 23 ∷ [])
    ∷ (verdict (two_classes 24 (bytes "params=1")) is 4 ∷ 25 ∷ [])
    ∷ []
    )
unfolding model_open bounded
second_class = (refl, (refl, (refl, (refl, (refl, (refl, (refl, (refl, (refl, (refl, (refl, (refl, (refl, (refl, (refl, tt)))))))))))))))

-- "lines of at most 120 bytes from 32 to 126, each ended by LF": a byte that is within makes a wrong key
bytes_within : Holds (
    (verdict (0 ∷ bytes "\n") is 2 ∷ 1 ∷ [])
    ∷ (verdict (9 ∷ bytes "\n") is 2 ∷ 1 ∷ [])
    ∷ (verdict (13 ∷ bytes "\n") is 2 ∷ 1 ∷ [])
    ∷ (verdict (31 ∷ bytes "\n") is 2 ∷ 1 ∷ [])
    ∷ (verdict (32 ∷ bytes "\n") is 3 ∷ 1 ∷ [])
    ∷ (verdict (126 ∷ bytes "\n") is 3 ∷ 1 ∷ [])
    ∷ (verdict (127 ∷ bytes "\n") is 2 ∷ 1 ∷ [])
    ∷ (verdict (255 ∷ bytes "\n") is 2 ∷ 1 ∷ [])
    -- "At most 32,768 bytes"
    ∷ (verdict (replicate 32768 97) is 2 ∷ 1 ∷ [])
    ∷ (verdict (replicate 32769 97) is 1 ∷ 0 ∷ [])
    ∷ []
    )
unfolding model_open bounded
bytes_within = (refl, (refl, (refl, (refl, (refl, (refl, (refl, (refl, (refl, (refl, tt))))))))))

-- "Blocks nest at most 8 deep." The line that would open a ninth is 6. What follows the method is a wrong key
depths : Holds (
    (verdict (coded (bytes "17") (nested 8 [])) is 3 ∷ 29 ∷ [])
    ∷ (verdict (coded (bytes "19") (nested 9 [])) is 6 ∷ 20 ∷ [])
    ∷ (verdict (coded (bytes "3") (bytes "code=if 1\ncode=else\n")) is 6 ∷ 14 ∷ [])
    ∷ (verdict (coded (bytes "4") (bytes "code=if 1\ncode=else\ncode=fi\n")) is 3 ∷ 16 ∷ [])
    ∷ (verdict (coded (bytes "2") (bytes "code=fi\n")) is 6 ∷ 12 ∷ [])
    ∷ (verdict (coded (bytes "2") (bytes "code=else\n")) is 6 ∷ 12 ∷ [])
    ∷ (verdict (coded (bytes "2") (bytes "code=od\n")) is 6 ∷ 12 ∷ [])
    ∷ (verdict (coded (bytes "3") (bytes "code=if 1\ncode=fi\n")) is 6 ∷ 13 ∷ [])
    ∷ (verdict (coded (bytes "3") (bytes "code=while 1\ncode=fi\n")) is 6 ∷ 13 ∷ [])
    ∷ []
    )
unfolding model_open bounded
depths = (refl, (refl, (refl, (refl, (refl, (refl, (refl, (refl, (refl, tt)))))))))
