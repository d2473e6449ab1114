-- A model whose first method is put by each case, and one step in it. Assumes nothing.
use mathlib.Core.List.{List, [], ◌∷◌, ◌++◌, map}
use lib.IntN.{ℤ, pos}
use Rattle.layout.specs.Layout.{Place, read, Write, written}
use Rattle.terms.specs.Bytes.{Text, bytes}
use Rattle.model.specs.Judge.{judged, refusal, model}
use Rattle.model.specs.Model.{Model}
use Rattle.cells.specs.Fresh.{fresh}
use Rattle.rules.specs.declared.Choice.{Choice}
use Rattle.rules.specs.Next.{answer_of, cells_after}
use Rattle.rules.specs.Step.{next}

unfoldable pub model_of : Text → Model
model_of s = elim (judged s) [ refusal v ↦ [] | model m ↦ m ]

-- class 0 has two methods, of which the case puts the first from its `lines=` on; class 1 is given one attribute and has run 0; class 2 has run 1
unfoldable pub scene : Text → Model
scene code =
    model_of
    (bytes "creol=1\nclasses=3\nclass=0\nattrs=2\ngiven=0\nrun=1\nmethods=2\nmethod=0\nparams=0\nlocals=2\n"
    ++ code
    ++ bytes "method=1\nparams=1\nlocals=1\nlines=1\ncode=return v0\nclass=1\nattrs=1\ngiven=1\nrun=0\nmethods=0\n"
    ++ bytes "class=2\nattrs=0\ngiven=0\nrun=1\nmethods=1\nmethod=0\nparams=0\nlocals=0\nlines=1\ncode=return 0\n")

-- a choice on the fresh cells with some of them put anew: its answer, and then what stands at some places
unfoldable pub after : Text → List Write → Choice → List Place → List ℤ
after code ws choice places =
    let c = written fresh ws in
    let n = next (scene code) c choice in
    pos (answer_of n) ∷ map (read (cells_after c n)) places

-- a proof that computes with these says `unfolding scenes`
unfoldable pub scenes : Unit {0}
unfolding model_of scene after
scenes = tt
