-- Verdicts on texts near the session's, computed: number, then line. Assumes nothing.
use Prim.Native.Nat.{ℕ, zero, suc, ◌+◌}
use Prim.Native.Char.{code}
use mathlib.Core.List.{[], ◌∷◌, ◌++◌}
use mathlib.Core.Path.{refl}
use lib.ListN.{replicate}
use Rattle.whole.proofs.Tables.{◌is◌, Holds}
use Rattle.terms.specs.Bytes.{Text, bytes}
use Rattle.model.proofs.Open.{model_open}
use Rattle.model.proofs.Session.{verdict, session_texts, session_with, session, storing}

-- the lines before the code of the session, up to its `attrs=`
with_attrs : Text → Text
with_attrs n = bytes "creol=1\nclasses=2\nclass=0\nattrs=" ++ n ++ bytes "\ngiven=0\n"

lines_hold : Holds (
    (verdict session is 0 ∷ 0 ∷ [])
    ∷ (verdict [] is 3 ∷ 1 ∷ [])
    -- lines left over, whole or broken
    ∷ (verdict (session ++ bytes "\n") is 3 ∷ 28 ∷ [])
    ∷ (verdict (session ++ bytes "x") is 2 ∷ 28 ∷ [])
    -- a text ended early, at a line's end and within a line
    ∷ (verdict (bytes "creol=1\n") is 3 ∷ 2 ∷ [])
    ∷ (verdict (bytes "creol=1") is 2 ∷ 1 ∷ [])
    -- 120 bytes do not count the LF: the line is whole, and then its key is wrong
    ∷ (verdict (replicate 120 97 ++ bytes "\n") is 3 ∷ 1 ∷ [])
    ∷ (verdict (replicate 121 97 ++ bytes "\n") is 2 ∷ 1 ∷ [])
    -- a key is everything up to the first `=`; what follows is the number
    ∷ (verdict (bytes "Creol=1\n") is 3 ∷ 1 ∷ [])
    ∷ (verdict (bytes "creol=2\n") is 4 ∷ 1 ∷ [])
    ∷ (verdict (with_attrs (bytes "9")) is 4 ∷ 4 ∷ [])
    ∷ (verdict (with_attrs (bytes "02")) is 4 ∷ 4 ∷ [])
    ∷ (verdict (with_attrs (bytes "2 ")) is 4 ∷ 4 ∷ [])
    ∷ (verdict (with_attrs (bytes "")) is 4 ∷ 4 ∷ [])
    ∷ (verdict (with_attrs (bytes "8")) is 3 ∷ 6 ∷ [])
    ∷ []
    )
unfolding model_open session_texts with_attrs
lines_hold = (refl, (refl, (refl, (refl, (refl, (refl, (refl, (refl, (refl, (refl, (refl, (refl, (refl, (refl, (refl, tt)))))))))))))))

code_holds : Holds (
    -- counts: the 64
    (verdict (session_with (bytes "lines=65\n")) is 4 ∷ 11 ∷ [])
    -- `1<2<3` is 5
    ∷ (verdict (storing (bytes "1<2<3")) is 5 ∷ 12 ∷ [])
    -- blocks: a second else, an od for an if, what is still open at the last line, a last line that is no return
    ∷ (verdict (session_with (bytes "lines=5\ncode=if 1\ncode=else\ncode=else\n")) is 6 ∷ 14 ∷ [])
    ∷ (verdict (session_with (bytes "lines=5\ncode=if 1\ncode=od\n")) is 6 ∷ 13 ∷ [])
    ∷ (verdict (session_with (bytes "lines=2\ncode=while 1\ncode=return 0\n")) is 6 ∷ 13 ∷ [])
    ∷ (verdict (session_with (bytes "lines=1\ncode=skip\n")) is 6 ∷ 12 ∷ [])
    -- a `new` with a wrong count waits until the text has passed otherwise; a class that is not there does not
    ∷ (verdict (session_with (bytes "lines=2\ncode=new a0 1\ncode=return 0\n")) is 5 ∷ 12 ∷ [])
    ∷ (verdict (session_with (bytes "lines=2\ncode=new a0 1\ncode=skip\n")) is 6 ∷ 13 ∷ [])
    ∷ (verdict (session_with (bytes "lines=2\ncode=new a0 2\ncode=skip\n")) is 5 ∷ 12 ∷ [])
    ∷ []
    )
unfolding model_open session_texts
code_holds = (refl, (refl, (refl, (refl, (refl, (refl, (refl, (refl, (refl, tt)))))))))

-- a line so many times
again : ℕ → Text → Text
again zero l = []
again (suc n) l = l ++ again n l

-- so many methods, each of 64 lines
long_methods : ℕ → Text
long_methods zero = []
long_methods (suc j) =
    long_methods j
    ++ bytes "method=" ++ (code "0" + j) ∷ bytes "\nparams=0\nlocals=0\nlines=64\n"
    ++ again 63 (bytes "code=skip\n")
    ++ bytes "code=return 0\n"

-- a class with 512 lines, and the beginning of another
long_class : Text → Text
long_class next =
    bytes "creol=1\nclasses=2\nclass=0\nattrs=0\ngiven=0\nrun=1\nmethods=8\n"
    ++ long_methods 8
    ++ bytes "class=1\nattrs=0\ngiven=0\nrun=0\n"
    ++ next

long_holds : Holds (
    -- "All `lines=` together are at most 512.": all of them, and one more, at its `lines=`
    (verdict (long_class (bytes "methods=0\n")) is 0 ∷ 0 ∷ [])
    ∷ (verdict (long_class (bytes "methods=1\nmethod=0\nparams=0\nlocals=0\nlines=1\n")) is 4 ∷ 560 ∷ [])
    ∷ []
    )
unfolding model_open session_texts again long_methods long_class
long_holds = (refl, (refl, tt))
