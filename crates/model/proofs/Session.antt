-- "A session, whole": the model's text, cut before and after the code of class 0, so that cases can put another there. Assumes nothing.
use Prim.Native.Nat.{ℕ}
use mathlib.Core.List.{List, [], ◌∷◌, ◌++◌}
use Rattle.terms.specs.Bytes.{Text, bytes}
use Rattle.model.specs.Judge.{judge}

unfoldable pub session_head : Text
session_head = bytes "creol=1\nclasses=2\nclass=0\nattrs=2\ngiven=0\nrun=1\nmethods=1\nmethod=0\nparams=0\nlocals=1\n"

unfoldable pub session_code : Text
session_code = bytes "lines=5\ncode=new a0 1 3\ncode=call v0 a0 0 4\ncode=await v0?\ncode=get v0 a1\ncode=return a1\n"

unfoldable pub session_tail : Text
session_tail =
    bytes "class=1\nattrs=1\ngiven=1\nrun=0\nmethods=1\nmethod=0\nparams=1\nlocals=1\nlines=2\ncode=set a0 a0+v0\ncode=return a0\n"

-- the session's model with other code in class 0
unfoldable pub session_with : Text → Text
session_with code = session_head ++ code ++ session_tail

unfoldable pub session : Text
session = session_with session_code

-- a model of one class, one local and two lines: an expression is stored in v0 and returned
unfoldable pub storing : Text → Text
storing e =
    bytes "creol=1\nclasses=1\nclass=0\nattrs=0\ngiven=0\nrun=1\nmethods=1\nmethod=0\nparams=0\nlocals=1\nlines=2\ncode=set v0 "
    ++ e ++ bytes "\ncode=return v0\n"

-- a model of four classes. Class 0 has two methods, and in its first awaits, blocks and two returns; class 1 has run 1 and no locals; class 2
-- has run 0, and its method 0 no params; class 3 has no methods
unfoldable pub four_classes : Text
four_classes =
    bytes "creol=1\nclasses=4\n"
    ++ bytes "class=0\nattrs=3\ngiven=0\nrun=1\nmethods=2\n"
    ++ bytes "method=0\nparams=0\nlocals=2\nlines=8\ncode=await wait|[a0]\ncode=call v0 self 1 1,2\ncode=await v0?\ncode=if a0\n"
    ++ bytes "code=return 1\ncode=else\ncode=fi\ncode=return 0\n"
    ++ bytes "method=1\nparams=2\nlocals=3\nlines=2\ncode=skip\ncode=return v0-v1\n"
    ++ bytes "class=1\nattrs=2\ngiven=1\nrun=1\nmethods=1\nmethod=0\nparams=0\nlocals=0\nlines=1\ncode=return a0\n"
    ++ bytes "class=2\nattrs=0\ngiven=0\nrun=0\nmethods=1\nmethod=0\nparams=0\nlocals=0\nlines=1\ncode=return 0\n"
    ++ bytes "class=3\nattrs=1\ngiven=1\nrun=0\nmethods=0\n"

-- number and line of the verdict on a text
unfoldable pub verdict : Text → List ℕ
verdict s = (judge s).number ∷ (judge s).line ∷ []

-- a proof that computes with these texts says `unfolding session_texts`
unfoldable pub session_texts : Unit {0}
unfolding verdict session_head session_code session_tail session_with session storing four_classes
session_texts = tt
