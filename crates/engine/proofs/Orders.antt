-- The order of a drive, computed: of two choices that could both be accepted, which one is taken. Assumes nothing.
use Prim.Native.Nat.{ℕ}
use mathlib.Core.List.{List, [], ◌∷◌, map}
use mathlib.Core.Path.{refl}
use lib.IntN.{ℤ, pos}
use Rattle.whole.proofs.Tables.{Row, ◌is◌, Holds}
use Rattle.layout.specs.Layout.{object, call, objects, calls, read, Write, written, running_label, stage, caller, callee, method, args, line}
use Rattle.terms.specs.Bytes.{bytes}
use Rattle.cells.specs.Fresh.{fresh}
use Rattle.rules.proofs.Scene.{scene, scenes}
use Rattle.engine.specs.Drive.{exec_first, driven}
use Rattle.engine.proofs.Open.{engine_open}

-- object 2 is another of class 0, and calls 2 and 3 are of object 1's method 1, each in a stage; object 1 runs call 1 or is idle
crowd : ℕ → ℕ → ℕ → List Write
crowd running second third =
    (objects, pos 2) ∷ (calls, pos 3) ∷ (object 1 running_label, pos running) ∷ sent 2 second (sent 3 third [])
  where
    sent : ℕ → ℕ → List Write → List Write
    sent l s ws =
        (call l stage, pos s) ∷ (call l caller, pos 1) ∷ (call l callee, pos 1) ∷ (call l method, pos 1) ∷ (call l args, pos 1) ∷ ws

-- the line of call 1, and the stages of the three, after one step of a drive
driven_one : List Write → List ℤ
driven_one ws =
    let d = driven (scene (bytes "lines=2\ncode=skip\ncode=return 0\n")) exec_first 1 0 (written fresh ws) in
    pos d.steps ∷ map (read d.cells) (call 1 line ∷ call 2 stage ∷ call 3 stage ∷ [])

table : List (Row (List ℤ))
table =
    -- exec before arrive, arrive before bind, bind before start, start before deliver
    (driven_one (crowd 1 1 5) is map pos (1 ∷ 1 ∷ 1 ∷ 5 ∷ []))
    ∷ (driven_one (crowd 0 2 1) is map pos (1 ∷ 0 ∷ 2 ∷ 2 ∷ []))
    ∷ (driven_one (crowd 0 3 2) is map pos (1 ∷ 0 ∷ 3 ∷ 3 ∷ []))
    ∷ (driven_one (crowd 0 5 3) is map pos (1 ∷ 0 ∷ 5 ∷ 4 ∷ []))
    ∷ (driven_one (crowd 0 7 5) is map pos (1 ∷ 0 ∷ 7 ∷ 6 ∷ []))
    -- the lowest number first, of each kind
    ∷ (driven_one (crowd 0 1 1) is map pos (1 ∷ 0 ∷ 2 ∷ 1 ∷ []))
    ∷ (driven_one (crowd 0 2 2) is map pos (1 ∷ 0 ∷ 3 ∷ 2 ∷ []))
    ∷ (driven_one (crowd 0 3 3) is map pos (1 ∷ 0 ∷ 4 ∷ 3 ∷ []))
    ∷ (driven_one (crowd 0 5 5) is map pos (1 ∷ 0 ∷ 6 ∷ 5 ∷ []))
    -- none is accepted
    ∷ (driven_one (crowd 0 7 7) is map pos (0 ∷ 0 ∷ 7 ∷ 7 ∷ []))
    ∷ []

holds : Holds table
unfolding engine_open scenes crowd driven_one table
holds = (refl, (refl, (refl, (refl, (refl, (refl, (refl, (refl, (refl, (refl, tt))))))))))
