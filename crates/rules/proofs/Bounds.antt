-- The rules one by one, computed: each bound and each refusal from both sides. Assumes nothing.
use mathlib.Core.List.{List, [], ◌∷◌, ◌++◌, map}
use mathlib.Core.Path.{refl}
use lib.IntN.{ℤ, pos, negsuc}
use Rattle.whole.proofs.Tables.{Row, ◌is◌, Holds}
use Rattle.layout.specs.Layout.{object, call, objects, calls, class, running_label, attribute, stage, caller, callee, method, args, line, cleared, value, local}
use Rattle.terms.specs.Bytes.{bytes}
use Rattle.rules.specs.declared.Kind.TheVariants as Kind
use Rattle.rules.specs.Kinds.{choose}
use Rattle.rules.proofs.Open.{rules_open}
use Rattle.rules.proofs.Scene.{after, scenes}

-- "`new` makes the next object, arguments in its first attributes, and stores its number in X." 29, then 31, then 32
creating_table : List (Row (List ℤ))
creating_table =
    -- the last object row, and one more
    (after (bytes "lines=2\ncode=new a0 1 7\ncode=return 0\n") ((objects, pos 31) ∷ []) (choose Kind.Exec 1) (objects ∷ calls ∷ object 32 class ∷ object 32 running_label ∷ object 32 (attribute 0) ∷ object 1 (attribute 0) ∷ call 1 line ∷ []) is map pos (0 ∷ 32 ∷ 1 ∷ 1 ∷ 0 ∷ 7 ∷ 32 ∷ 1 ∷ []))
    ∷ (after (bytes "lines=2\ncode=new a0 1 7\ncode=return 0\n") ((objects, pos 32) ∷ []) (choose Kind.Exec 1) (objects ∷ object 1 (attribute 0) ∷ call 1 line ∷ []) is map pos (31 ∷ 32 ∷ 0 ∷ 0 ∷ []))
    -- "Where the class has run 1 it also issues the next label: caller 0, method 0, stage 4, running there": the last call row, and one more
    ∷ (after (bytes "lines=2\ncode=new a0 2\ncode=return 0\n") ((calls, pos 127) ∷ []) (choose Kind.Exec 1) (objects ∷ calls ∷ object 2 class ∷ object 2 running_label ∷ call 128 stage ∷ call 128 caller ∷ call 128 callee ∷ call 128 method ∷ call 128 args ∷ object 1 (attribute 0) ∷ []) is map pos (0 ∷ 2 ∷ 128 ∷ 2 ∷ 128 ∷ 4 ∷ 0 ∷ 2 ∷ 0 ∷ 0 ∷ 2 ∷ []))
    ∷ (after (bytes "lines=2\ncode=new a0 2\ncode=return 0\n") ((calls, pos 128) ∷ []) (choose Kind.Exec 1) (objects ∷ calls ∷ object 2 class ∷ []) is map pos (32 ∷ 1 ∷ 128 ∷ 0 ∷ []))
    -- a class with run 0 asks for no call row
    ∷ (after (bytes "lines=2\ncode=new a0 1 7\ncode=return 0\n") ((calls, pos 128) ∷ []) (choose Kind.Exec 1) (objects ∷ calls ∷ object 2 class ∷ []) is map pos (0 ∷ 2 ∷ 128 ∷ 1 ∷ []))
    -- 31 before 32, and 29 before 31
    ∷ (after (bytes "lines=2\ncode=new a0 2\ncode=return 0\n") ((objects, pos 32) ∷ (calls, pos 128) ∷ []) (choose Kind.Exec 1) (objects ∷ []) is map pos (31 ∷ 32 ∷ []))
    ∷ (after (bytes "lines=2\ncode=new a0 1 2147483647+1\ncode=return 0\n") ((objects, pos 32) ∷ []) (choose Kind.Exec 1) (objects ∷ []) is map pos (29 ∷ 32 ∷ []))
    -- old values are used before X changes
    ∷ (after (bytes "lines=2\ncode=new a0 1 a0\ncode=return 0\n") ((object 1 (attribute 0), pos 5) ∷ []) (choose Kind.Exec 1) (object 2 (attribute 0) ∷ object 1 (attribute 0) ∷ []) is map pos (0 ∷ 5 ∷ 2 ∷ []))
    ∷ []

creating : Holds creating_table
unfolding rules_open scenes creating_table
creating = (refl, (refl, (refl, (refl, (refl, (refl, (refl, (refl, tt))))))))

-- "`call` issues the next label: caller this object, callee the value of E, method J, arguments in v0 on, stage 1. X gets the label." 29, then 30, then 32
calling_table : List (Row (List ℤ))
calling_table =
    (after (bytes "lines=2\ncode=call v0 1 1 5\ncode=return 0\n") ((calls, pos 127) ∷ []) (choose Kind.Exec 1) (calls ∷ call 128 stage ∷ call 128 caller ∷ call 128 callee ∷ call 128 method ∷ call 128 args ∷ call 128 (local 0) ∷ call 128 line ∷ call 1 (local 0) ∷ call 1 line ∷ []) is map pos (0 ∷ 128 ∷ 1 ∷ 1 ∷ 1 ∷ 1 ∷ 1 ∷ 5 ∷ 0 ∷ 128 ∷ 1 ∷ []))
    ∷ (after (bytes "lines=2\ncode=call v0 1 1 5\ncode=return 0\n") ((calls, pos 128) ∷ []) (choose Kind.Exec 1) (calls ∷ call 1 (local 0) ∷ []) is map pos (32 ∷ 128 ∷ 0 ∷ []))
    -- the callee is one of 1..objects
    ∷ (after (bytes "lines=2\ncode=call v0 2 1 5\ncode=return 0\n") ((objects, pos 2) ∷ []) (choose Kind.Exec 1) (call 2 callee ∷ []) is map pos (0 ∷ 2 ∷ []))
    ∷ (after (bytes "lines=2\ncode=call v0 3 1 5\ncode=return 0\n") ((objects, pos 2) ∷ []) (choose Kind.Exec 1) (calls ∷ []) is map pos (30 ∷ 1 ∷ []))
    ∷ (after (bytes "lines=2\ncode=call v0 0 1 5\ncode=return 0\n") ([]) (choose Kind.Exec 1) (calls ∷ []) is map pos (30 ∷ 1 ∷ []))
    ∷ (after (bytes "lines=2\ncode=call v0 0-1 1 5\ncode=return 0\n") ([]) (choose Kind.Exec 1) (calls ∷ []) is map pos (30 ∷ 1 ∷ []))
    -- 29 before 30, and 30 before 32
    ∷ (after (bytes "lines=2\ncode=call v0 3 1 2147483647+1\ncode=return 0\n") ([]) (choose Kind.Exec 1) (calls ∷ []) is map pos (29 ∷ 1 ∷ []))
    ∷ (after (bytes "lines=2\ncode=call v0 2147483647+1 1\ncode=return 0\n") ([]) (choose Kind.Exec 1) (calls ∷ []) is map pos (29 ∷ 1 ∷ []))
    ∷ (after (bytes "lines=2\ncode=call v0 3 1 5\ncode=return 0\n") ((calls, pos 128) ∷ []) (choose Kind.Exec 1) (calls ∷ []) is map pos (30 ∷ 128 ∷ []))
    -- "Arguments are worked out before X changes.": X is callee and argument too
    ∷ (after (bytes "lines=2\ncode=call v0 v0 1 v0\ncode=return 0\n") ((call 1 (local 0), pos 1) ∷ []) (choose Kind.Exec 1) (call 2 callee ∷ call 2 (local 0) ∷ call 1 (local 0) ∷ []) is map pos (0 ∷ 1 ∷ 1 ∷ 2 ∷ []))
    ∷ []

calling : Holds calling_table
unfolding rules_open scenes calling_table
calling = (refl, (refl, (refl, (refl, (refl, (refl, (refl, (refl, (refl, (refl, tt))))))))))

-- "arrive L (2): stage 1 to 2. bind L (3): 2 to 3, if the callee's class has the method with as many params as args. deliver L (5): 5 to 6."
sending_table : List (Row (List ℤ))
sending_table =
    (after (bytes "lines=2\ncode=skip\ncode=return 0\n") ((calls, pos 2) ∷ (call 2 stage, pos 1) ∷ (call 2 caller, pos 1) ∷ (call 2 callee, pos 1) ∷ []) (choose Kind.Arrive 2) (call 2 stage ∷ []) is map pos (0 ∷ 2 ∷ []))
    ∷ (after (bytes "lines=2\ncode=skip\ncode=return 0\n") ((calls, pos 2) ∷ (call 2 stage, pos 2) ∷ (call 2 caller, pos 1) ∷ (call 2 callee, pos 1) ∷ []) (choose Kind.Arrive 2) (call 2 stage ∷ []) is map pos (20 ∷ 2 ∷ []))
    ∷ (after (bytes "lines=2\ncode=skip\ncode=return 0\n") ((calls, pos 2) ∷ (call 2 stage, pos 7) ∷ (call 2 caller, pos 1) ∷ (call 2 callee, pos 1) ∷ []) (choose Kind.Arrive 2) (call 2 stage ∷ []) is map pos (20 ∷ 7 ∷ []))
    ∷ (after (bytes "lines=2\ncode=skip\ncode=return 0\n") ((calls, pos 2) ∷ (call 2 stage, pos 2) ∷ (call 2 caller, pos 1) ∷ (call 2 callee, pos 1) ∷ (call 2 method, pos 1) ∷ (call 2 args, pos 1) ∷ []) (choose Kind.Bind 2) (call 2 stage ∷ []) is map pos (0 ∷ 3 ∷ []))
    ∷ (after (bytes "lines=2\ncode=skip\ncode=return 0\n") ((calls, pos 2) ∷ (call 2 stage, pos 1) ∷ (call 2 caller, pos 1) ∷ (call 2 callee, pos 1) ∷ (call 2 method, pos 1) ∷ (call 2 args, pos 1) ∷ []) (choose Kind.Bind 2) (call 2 stage ∷ []) is map pos (21 ∷ 1 ∷ []))
    ∷ (after (bytes "lines=2\ncode=skip\ncode=return 0\n") ((calls, pos 2) ∷ (call 2 stage, pos 3) ∷ (call 2 caller, pos 1) ∷ (call 2 callee, pos 1) ∷ (call 2 method, pos 1) ∷ (call 2 args, pos 1) ∷ []) (choose Kind.Bind 2) (call 2 stage ∷ []) is map pos (21 ∷ 3 ∷ []))
    -- another number of params, and no such method
    ∷ (after (bytes "lines=2\ncode=skip\ncode=return 0\n") ((calls, pos 2) ∷ (call 2 stage, pos 2) ∷ (call 2 caller, pos 1) ∷ (call 2 callee, pos 1) ∷ (call 2 method, pos 1) ∷ (call 2 args, pos 0) ∷ []) (choose Kind.Bind 2) (call 2 stage ∷ []) is map pos (22 ∷ 2 ∷ []))
    ∷ (after (bytes "lines=2\ncode=skip\ncode=return 0\n") ((calls, pos 2) ∷ (call 2 stage, pos 2) ∷ (call 2 caller, pos 1) ∷ (call 2 callee, pos 1) ∷ (call 2 method, pos 1) ∷ (call 2 args, pos 2) ∷ []) (choose Kind.Bind 2) (call 2 stage ∷ []) is map pos (22 ∷ 2 ∷ []))
    ∷ (after (bytes "lines=2\ncode=skip\ncode=return 0\n") ((calls, pos 2) ∷ (call 2 stage, pos 2) ∷ (call 2 caller, pos 1) ∷ (call 2 callee, pos 1) ∷ (call 2 method, pos 2) ∷ (call 2 args, pos 1) ∷ []) (choose Kind.Bind 2) (call 2 stage ∷ []) is map pos (22 ∷ 2 ∷ []))
    ∷ (after (bytes "lines=2\ncode=skip\ncode=return 0\n") ((calls, pos 2) ∷ (call 2 stage, pos 5) ∷ (call 2 caller, pos 1) ∷ (call 2 callee, pos 1) ∷ []) (choose Kind.Deliver 2) (call 2 stage ∷ []) is map pos (0 ∷ 6 ∷ []))
    ∷ (after (bytes "lines=2\ncode=skip\ncode=return 0\n") ((calls, pos 2) ∷ (call 2 stage, pos 4) ∷ (call 2 caller, pos 1) ∷ (call 2 callee, pos 1) ∷ []) (choose Kind.Deliver 2) (call 2 stage ∷ []) is map pos (26 ∷ 4 ∷ []))
    ∷ (after (bytes "lines=2\ncode=skip\ncode=return 0\n") ((calls, pos 2) ∷ (call 2 stage, pos 6) ∷ (call 2 caller, pos 1) ∷ (call 2 callee, pos 1) ∷ []) (choose Kind.Deliver 2) (call 2 stage ∷ []) is map pos (26 ∷ 6 ∷ []))
    ∷ []

sending : Holds sending_table
unfolding rules_open scenes sending_table
sending = (refl, (refl, (refl, (refl, (refl, (refl, (refl, (refl, (refl, (refl, (refl, (refl, tt))))))))))))

-- "start L (4): 3 to 4 in an idle callee." 23, 24, 29, 25; start leaves cleared as it is
starting_table : List (Row (List ℤ))
starting_table =
    (after (bytes "lines=2\ncode=skip\ncode=return 0\n") ((calls, pos 2) ∷ (call 2 stage, pos 3) ∷ (call 2 caller, pos 1) ∷ (call 2 callee, pos 1) ∷ (call 2 method, pos 1) ∷ (call 2 args, pos 1) ∷ (object 1 running_label, pos 0) ∷ (call 1 stage, pos 3) ∷ []) (choose Kind.Start 2) (call 2 stage ∷ object 1 running_label ∷ call 2 cleared ∷ []) is map pos (0 ∷ 4 ∷ 2 ∷ 0 ∷ []))
    ∷ (after (bytes "lines=2\ncode=skip\ncode=return 0\n") ((calls, pos 2) ∷ (call 2 stage, pos 3) ∷ (call 2 caller, pos 1) ∷ (call 2 callee, pos 1) ∷ (call 2 method, pos 1) ∷ (call 2 args, pos 1) ∷ []) (choose Kind.Start 2) (call 2 stage ∷ object 1 running_label ∷ []) is map pos (24 ∷ 3 ∷ 1 ∷ []))
    ∷ (after (bytes "lines=2\ncode=skip\ncode=return 0\n") ((calls, pos 2) ∷ (call 2 stage, pos 2) ∷ (call 2 caller, pos 1) ∷ (call 2 callee, pos 1) ∷ (call 2 method, pos 1) ∷ (call 2 args, pos 1) ∷ []) (choose Kind.Start 2) (call 2 stage ∷ []) is map pos (23 ∷ 2 ∷ []))
    ∷ (after (bytes "lines=2\ncode=skip\ncode=return 0\n") ((calls, pos 2) ∷ (call 2 stage, pos 2) ∷ (call 2 caller, pos 1) ∷ (call 2 callee, pos 1) ∷ (call 2 method, pos 1) ∷ (call 2 args, pos 1) ∷ (object 1 running_label, pos 0) ∷ (call 1 stage, pos 3) ∷ []) (choose Kind.Start 2) (call 2 stage ∷ []) is map pos (23 ∷ 2 ∷ []))
    ∷ (after (bytes "lines=2\ncode=skip\ncode=return 0\n") ((calls, pos 2) ∷ (call 2 stage, pos 4) ∷ (call 2 caller, pos 1) ∷ (call 2 callee, pos 1) ∷ (call 2 method, pos 1) ∷ (call 2 args, pos 1) ∷ (object 1 running_label, pos 0) ∷ (call 1 stage, pos 3) ∷ []) (choose Kind.Start 2) (call 2 stage ∷ []) is map pos (23 ∷ 4 ∷ []))
    -- "A call is ready unless its line is an `await` whose guard is not enabled."
    ∷ (after (bytes "lines=2\ncode=await [a0]\ncode=return 0\n") ((object 1 running_label, pos 0) ∷ (call 1 stage, pos 3) ∷ []) (choose Kind.Start 1) (call 1 stage ∷ object 1 running_label ∷ []) is map pos (25 ∷ 3 ∷ 0 ∷ []))
    ∷ (after (bytes "lines=2\ncode=await [a0]\ncode=return 0\n") ((object 1 running_label, pos 0) ∷ (call 1 stage, pos 3) ∷ (object 1 (attribute 0), pos 1) ∷ []) (choose Kind.Start 1) (call 1 stage ∷ object 1 running_label ∷ []) is map pos (0 ∷ 4 ∷ 1 ∷ []))
    ∷ (after (bytes "lines=2\ncode=await wait\ncode=return 0\n") ((object 1 running_label, pos 0) ∷ (call 1 stage, pos 3) ∷ []) (choose Kind.Start 1) (call 1 stage ∷ []) is map pos (25 ∷ 3 ∷ []))
    ∷ (after (bytes "lines=2\ncode=await wait\ncode=return 0\n") ((object 1 running_label, pos 0) ∷ (call 1 stage, pos 3) ∷ (call 1 cleared, pos 1) ∷ []) (choose Kind.Start 1) (call 1 stage ∷ call 1 cleared ∷ []) is map pos (0 ∷ 4 ∷ 1 ∷ []))
    -- "start tests 29 before 25", and 24 before both
    ∷ (after (bytes "lines=2\ncode=await [0]&[2147483647+1]\ncode=return 0\n") ((object 1 running_label, pos 0) ∷ (call 1 stage, pos 3) ∷ []) (choose Kind.Start 1) (call 1 stage ∷ []) is map pos (29 ∷ 3 ∷ []))
    ∷ (after (bytes "lines=2\ncode=await [1]|[2147483647+1]\ncode=return 0\n") ((object 1 running_label, pos 0) ∷ (call 1 stage, pos 3) ∷ []) (choose Kind.Start 1) (call 1 stage ∷ []) is map pos (29 ∷ 3 ∷ []))
    ∷ (after (bytes "lines=2\ncode=await [2147483647+1]\ncode=return 0\n") ((call 1 stage, pos 3) ∷ []) (choose Kind.Start 1) (call 1 stage ∷ []) is map pos (24 ∷ 3 ∷ []))
    ∷ []

starting : Holds starting_table
unfolding rules_open scenes starting_table
starting = (refl, (refl, (refl, (refl, (refl, (refl, (refl, (refl, (refl, (refl, (refl, (refl, tt))))))))))))

-- "`await`: guard enabled, go on and set cleared 0. Otherwise stage 3, cleared 1, object idle, line kept."
awaiting_table : List (Row (List ℤ))
awaiting_table =
    (after (bytes "lines=2\ncode=await [1]\ncode=return 0\n") ([]) (choose Kind.Exec 1) (call 1 stage ∷ call 1 cleared ∷ call 1 line ∷ object 1 running_label ∷ []) is map pos (0 ∷ 4 ∷ 0 ∷ 1 ∷ 1 ∷ []))
    ∷ (after (bytes "lines=2\ncode=await [0]\ncode=return 0\n") ([]) (choose Kind.Exec 1) (call 1 stage ∷ call 1 cleared ∷ call 1 line ∷ object 1 running_label ∷ []) is map pos (0 ∷ 3 ∷ 1 ∷ 0 ∷ 0 ∷ []))
    -- "`wait` is true exactly when cleared is 1"
    ∷ (after (bytes "lines=2\ncode=await wait\ncode=return 0\n") ([]) (choose Kind.Exec 1) (call 1 stage ∷ call 1 cleared ∷ call 1 line ∷ []) is map pos (0 ∷ 3 ∷ 1 ∷ 0 ∷ []))
    ∷ (after (bytes "lines=2\ncode=await wait\ncode=return 0\n") ((call 1 cleared, pos 1) ∷ []) (choose Kind.Exec 1) (call 1 stage ∷ call 1 cleared ∷ call 1 line ∷ []) is map pos (0 ∷ 4 ∷ 0 ∷ 1 ∷ []))
    ∷ (after (bytes "lines=2\ncode=await [0]\ncode=return 0\n") ((call 1 cleared, pos 1) ∷ []) (choose Kind.Exec 1) (call 1 stage ∷ call 1 cleared ∷ object 1 running_label ∷ []) is map pos (0 ∷ 3 ∷ 1 ∷ 0 ∷ []))
    -- "`X?` is true as for `get`, but takes nothing"; a guard that gives 29 is refused
    ∷ (after (bytes "lines=2\ncode=await v0?\ncode=return 0\n") ((calls, pos 2) ∷ (call 2 stage, pos 6) ∷ (call 2 caller, pos 1) ∷ (call 2 callee, pos 1) ∷ (call 1 (local 0), pos 2) ∷ []) (choose Kind.Exec 1) (call 1 line ∷ call 2 stage ∷ []) is map pos (0 ∷ 1 ∷ 6 ∷ []))
    ∷ (after (bytes "lines=2\ncode=await v0?\ncode=return 0\n") ((calls, pos 2) ∷ (call 2 stage, pos 5) ∷ (call 2 caller, pos 1) ∷ (call 2 callee, pos 1) ∷ (call 1 (local 0), pos 2) ∷ []) (choose Kind.Exec 1) (call 1 stage ∷ call 2 stage ∷ []) is map pos (0 ∷ 3 ∷ 5 ∷ []))
    ∷ (after (bytes "lines=2\ncode=await [2147483647+1]\ncode=return 0\n") ([]) (choose Kind.Exec 1) (call 1 stage ∷ call 1 cleared ∷ []) is map pos (29 ∷ 4 ∷ 0 ∷ []))
    ∷ []

awaiting : Holds awaiting_table
unfolding rules_open scenes awaiting_table
awaiting = (refl, (refl, (refl, (refl, (refl, (refl, (refl, (refl, tt))))))))

-- "`get`: if X's value is a label of stage 6 whose caller is this object, Y gets its value and it goes to stage 7."
taking_table : List (Row (List ℤ))
taking_table =
    (after (bytes "lines=2\ncode=get v0 a1\ncode=return 0\n") ((calls, pos 2) ∷ (call 2 stage, pos 6) ∷ (call 2 caller, pos 1) ∷ (call 2 callee, pos 1) ∷ (call 2 value, pos 9) ∷ (call 1 (local 0), pos 2) ∷ []) (choose Kind.Exec 1) (object 1 (attribute 1) ∷ call 2 stage ∷ call 2 value ∷ call 1 line ∷ []) is map pos (0 ∷ 9 ∷ 7 ∷ 9 ∷ 1 ∷ []))
    ∷ (after (bytes "lines=2\ncode=get v0 a1\ncode=return 0\n") ((calls, pos 2) ∷ (call 2 stage, pos 5) ∷ (call 2 caller, pos 1) ∷ (call 2 callee, pos 1) ∷ (call 2 value, pos 9) ∷ (call 1 (local 0), pos 2) ∷ []) (choose Kind.Exec 1) (object 1 (attribute 1) ∷ call 2 stage ∷ []) is map pos (33 ∷ 0 ∷ 5 ∷ []))
    ∷ (after (bytes "lines=2\ncode=get v0 a1\ncode=return 0\n") ((calls, pos 2) ∷ (call 2 stage, pos 7) ∷ (call 2 caller, pos 1) ∷ (call 2 callee, pos 1) ∷ (call 2 value, pos 9) ∷ (call 1 (local 0), pos 2) ∷ []) (choose Kind.Exec 1) (object 1 (attribute 1) ∷ call 2 stage ∷ []) is map pos (33 ∷ 0 ∷ 7 ∷ []))
    -- another object's call, no label, and one not issued
    ∷ (after (bytes "lines=2\ncode=get v0 a1\ncode=return 0\n") ((calls, pos 2) ∷ (call 2 stage, pos 6) ∷ (call 2 caller, pos 1) ∷ (call 2 callee, pos 1) ∷ (call 2 value, pos 9) ∷ (call 1 (local 0), pos 2) ∷ (call 2 caller, pos 2) ∷ []) (choose Kind.Exec 1) (object 1 (attribute 1) ∷ call 2 stage ∷ []) is map pos (33 ∷ 0 ∷ 6 ∷ []))
    ∷ (after (bytes "lines=2\ncode=get v0 a1\ncode=return 0\n") ((calls, pos 2) ∷ (call 2 stage, pos 6) ∷ (call 2 caller, pos 1) ∷ (call 2 callee, pos 1) ∷ (call 2 value, pos 9) ∷ []) (choose Kind.Exec 1) (call 2 stage ∷ []) is map pos (33 ∷ 6 ∷ []))
    ∷ (after (bytes "lines=2\ncode=get v0 a1\ncode=return 0\n") ((calls, pos 2) ∷ (call 2 stage, pos 6) ∷ (call 2 caller, pos 1) ∷ (call 2 callee, pos 1) ∷ (call 2 value, pos 9) ∷ (call 1 (local 0), pos 3) ∷ []) (choose Kind.Exec 1) (call 2 stage ∷ []) is map pos (33 ∷ 6 ∷ []))
    -- old values before Y changes
    ∷ (after (bytes "lines=2\ncode=get v0 v0\ncode=return 0\n") ((calls, pos 2) ∷ (call 2 stage, pos 6) ∷ (call 2 caller, pos 1) ∷ (call 2 callee, pos 1) ∷ (call 2 value, pos 9) ∷ (call 1 (local 0), pos 2) ∷ []) (choose Kind.Exec 1) (call 1 (local 0) ∷ call 2 stage ∷ []) is map pos (0 ∷ 9 ∷ 7 ∷ []))
    ∷ []

taking : Holds taking_table
unfolding rules_open scenes taking_table
taking = (refl, (refl, (refl, (refl, (refl, (refl, (refl, tt)))))))

-- "`return` stores the value, frees the object, goes to stage 5, or to 7 where caller is 0.", and keeps its line
returning_table : List (Row (List ℤ))
returning_table =
    (after (bytes "lines=1\ncode=return 9\n") ([]) (choose Kind.Exec 1) (call 1 stage ∷ call 1 value ∷ call 1 line ∷ object 1 running_label ∷ []) is map pos (0 ∷ 7 ∷ 9 ∷ 0 ∷ 0 ∷ []))
    ∷ (after (bytes "lines=1\ncode=return 9\n") ((call 1 caller, pos 1) ∷ []) (choose Kind.Exec 1) (call 1 stage ∷ call 1 value ∷ call 1 line ∷ object 1 running_label ∷ []) is map pos (0 ∷ 5 ∷ 9 ∷ 0 ∷ 0 ∷ []))
    ∷ (after (bytes "lines=1\ncode=return 2147483647+1\n") ([]) (choose Kind.Exec 1) (call 1 stage ∷ call 1 value ∷ []) is map pos (29 ∷ 4 ∷ 0 ∷ []))
    -- "exec: object idle"
    ∷ (after (bytes "lines=1\ncode=return 9\n") ((object 1 running_label, pos 0) ∷ []) (choose Kind.Exec 1) (call 1 stage ∷ []) is map pos (27 ∷ 4 ∷ []))
    ∷ []

returning : Holds returning_table
unfolding rules_open scenes returning_table
returning = (refl, (refl, (refl, (refl, tt))))

-- "`if` false goes to the line after its `else`; `else` goes to the line after its `fi`; `while` false to the line after its `od`; `od` back to its `while`."
going_table : List (Row (List ℤ))
going_table =
    (after (bytes "lines=4\ncode=while a0\ncode=skip\ncode=od\ncode=return 0\n") ([]) (choose Kind.Exec 1) (call 1 line ∷ []) is map pos (0 ∷ 3 ∷ []))
    ∷ (after (bytes "lines=4\ncode=while a0\ncode=skip\ncode=od\ncode=return 0\n") ((object 1 (attribute 0), pos 1) ∷ []) (choose Kind.Exec 1) (call 1 line ∷ []) is map pos (0 ∷ 1 ∷ []))
    ∷ (after (bytes "lines=4\ncode=while a0\ncode=skip\ncode=od\ncode=return 0\n") ((call 1 line, pos 1) ∷ []) (choose Kind.Exec 1) (call 1 line ∷ []) is map pos (0 ∷ 2 ∷ []))
    ∷ (after (bytes "lines=4\ncode=while a0\ncode=skip\ncode=od\ncode=return 0\n") ((call 1 line, pos 2) ∷ []) (choose Kind.Exec 1) (call 1 line ∷ []) is map pos (0 ∷ 0 ∷ []))
    ∷ (after (bytes "lines=6\ncode=if a0\ncode=skip\ncode=else\ncode=skip\ncode=fi\ncode=return 0\n") ([]) (choose Kind.Exec 1) (call 1 line ∷ []) is map pos (0 ∷ 3 ∷ []))
    ∷ (after (bytes "lines=6\ncode=if a0\ncode=skip\ncode=else\ncode=skip\ncode=fi\ncode=return 0\n") ((object 1 (attribute 0), pos 1) ∷ []) (choose Kind.Exec 1) (call 1 line ∷ []) is map pos (0 ∷ 1 ∷ []))
    ∷ (after (bytes "lines=6\ncode=if a0\ncode=skip\ncode=else\ncode=skip\ncode=fi\ncode=return 0\n") ((call 1 line, pos 2) ∷ []) (choose Kind.Exec 1) (call 1 line ∷ []) is map pos (0 ∷ 5 ∷ []))
    ∷ (after (bytes "lines=6\ncode=if a0\ncode=skip\ncode=else\ncode=skip\ncode=fi\ncode=return 0\n") ((call 1 line, pos 4) ∷ []) (choose Kind.Exec 1) (call 1 line ∷ []) is map pos (0 ∷ 5 ∷ []))
    ∷ (after (bytes "lines=2\ncode=set v1 a0-1\ncode=return 0\n") ((object 1 (attribute 0), pos 8) ∷ []) (choose Kind.Exec 1) (call 1 (local 1) ∷ call 1 line ∷ []) is map pos (0 ∷ 7 ∷ 1 ∷ []))
    ∷ (after (bytes "lines=2\ncode=set v1 2147483647+1\ncode=return 0\n") ([]) (choose Kind.Exec 1) (call 1 (local 1) ∷ call 1 line ∷ []) is map pos (29 ∷ 0 ∷ 0 ∷ []))
    ∷ []

going : Holds going_table
unfolding rules_open scenes going_table
going = (refl, (refl, (refl, (refl, (refl, (refl, (refl, (refl, (refl, (refl, tt))))))))))

-- 12, "kind, or object or label not in use": exec counts objects, and the other kinds labels
choosing_table : List (Row (List ℤ))
choosing_table =
    (after (bytes "lines=2\ncode=skip\ncode=return 0\n") ((objects, pos 1) ∷ (calls, pos 2) ∷ []) (choose Kind.Exec 1) (call 1 line ∷ []) is map pos (0 ∷ 1 ∷ []))
    ∷ (after (bytes "lines=2\ncode=skip\ncode=return 0\n") ((objects, pos 1) ∷ (calls, pos 2) ∷ []) (choose Kind.Exec 2) (call 1 line ∷ []) is map pos (12 ∷ 0 ∷ []))
    ∷ (after (bytes "lines=2\ncode=skip\ncode=return 0\n") ((objects, pos 2) ∷ (calls, pos 2) ∷ []) (choose Kind.Exec 2) (call 1 line ∷ []) is map pos (27 ∷ 0 ∷ []))
    ∷ (after (bytes "lines=2\ncode=skip\ncode=return 0\n") ((objects, pos 1) ∷ (calls, pos 2) ∷ []) (choose Kind.Arrive 2) (call 2 stage ∷ []) is map pos (20 ∷ 0 ∷ []))
    ∷ (after (bytes "lines=2\ncode=skip\ncode=return 0\n") ((objects, pos 3) ∷ (calls, pos 2) ∷ []) (choose Kind.Arrive 3) (call 2 stage ∷ []) is map pos (12 ∷ 0 ∷ []))
    ∷ (after (bytes "lines=2\ncode=skip\ncode=return 0\n") ((objects, pos 3) ∷ (calls, pos 2) ∷ []) (choose Kind.Bind 3) (call 2 stage ∷ []) is map pos (12 ∷ 0 ∷ []))
    ∷ (after (bytes "lines=2\ncode=skip\ncode=return 0\n") ((objects, pos 3) ∷ (calls, pos 2) ∷ []) (choose Kind.Start 3) (call 2 stage ∷ []) is map pos (12 ∷ 0 ∷ []))
    ∷ (after (bytes "lines=2\ncode=skip\ncode=return 0\n") ((objects, pos 3) ∷ (calls, pos 2) ∷ []) (choose Kind.Deliver 3) (call 2 stage ∷ []) is map pos (12 ∷ 0 ∷ []))
    ∷ (after (bytes "lines=2\ncode=skip\ncode=return 0\n") ([]) (record { kind = pos 1; number = pos 0 }) (call 1 line ∷ []) is map pos (12 ∷ 0 ∷ []))
    ∷ (after (bytes "lines=2\ncode=skip\ncode=return 0\n") ([]) (record { kind = pos 1; number = negsuc 0 }) (call 1 line ∷ []) is map pos (12 ∷ 0 ∷ []))
    ∷ (after (bytes "lines=2\ncode=skip\ncode=return 0\n") ([]) (record { kind = pos 0; number = pos 1 }) (call 1 line ∷ []) is map pos (12 ∷ 0 ∷ []))
    ∷ (after (bytes "lines=2\ncode=skip\ncode=return 0\n") ([]) (record { kind = pos 6; number = pos 1 }) (call 1 line ∷ []) is map pos (12 ∷ 0 ∷ []))
    ∷ (after (bytes "lines=2\ncode=skip\ncode=return 0\n") ([]) (record { kind = negsuc 0; number = pos 1 }) (call 1 line ∷ []) is map pos (12 ∷ 0 ∷ []))
    ∷ (after (bytes "lines=2\ncode=skip\ncode=return 0\n") ([]) (record { kind = pos 2; number = negsuc 2147483647 }) (call 1 line ∷ []) is map pos (12 ∷ 0 ∷ []))
    ∷ []

choosing : Holds choosing_table
unfolding rules_open scenes choosing_table
choosing = (refl, (refl, (refl, (refl, (refl, (refl, (refl, (refl, (refl, (refl, (refl, (refl, (refl, (refl, tt))))))))))))))
