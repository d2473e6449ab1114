-- The grammar of code values, over any reading. Assumes nothing.
use Rattle.std.specs.Prelude.{ℕ, ◌+◌, ◌-◌, true, false, List, [], ◌∷◌, ◌++◌, eqb, length, Option, None, Some}
use Prim.Native.Char.{code}
use Rattle.terms.specs.declared.Variable.{Variable}
use Rattle.terms.specs.Bytes.{Text, bytes, byte_at}
use Rattle.terms.specs.Expressions.{Reading, brackets, expression}
use Rattle.terms.specs.Guards.{GuardReading, guard}
use Rattle.terms.specs.declared.Limits.{Limits}
use Rattle.terms.specs.Leaves.{decimal, variable}
use Rattle.terms.specs.Parsed.{Parsed, got, bad, next, mapped, word, ended, closed, repeated, joining}
use Rattle.code.specs.declared.Form.{Form}
use Rattle.code.specs.declared.Valued.{Valued}
use Rattle.code.specs.Statements.{Statement, skip, set, new, call, get, await, if, else, fi, while, od, return}

-- the word that a form begins with, with the space that follows it where the form has more
unfoldable pub word_of : Form → Text
word_of Form.Skip = bytes "skip"
word_of Form.Set = bytes "set "
word_of Form.New = bytes "new "
word_of Form.Call = bytes "call "
word_of Form.Get = bytes "get "
word_of Form.Await = bytes "await "
word_of Form.If = bytes "if "
word_of Form.Else = bytes "else"
word_of Form.Fi = bytes "fi"
word_of Form.While = bytes "while "
word_of Form.Od = bytes "od"
word_of Form.Return = bytes "return "

-- the form whose word begins with a byte, of those in a list
unfoldable pub beginning : ℕ → List (ℕ × Form) → Option Form
beginning b [] = None
beginning b (f ∷ fs) = elim (eqb b f.0) [ true ↦ Some f.1 | false ↦ beginning b fs ]

-- the forms that begin with a byte other than `s`
abbrev pub initials : List (ℕ × Form)
initials =
    (code "n", Form.New) ∷ (code "c", Form.Call) ∷ (code "g", Form.Get) ∷ (code "a", Form.Await) ∷ (code "i", Form.If) ∷ (code "e", Form.Else)
    ∷ (code "f", Form.Fi) ∷ (code "w", Form.While) ∷ (code "o", Form.Od) ∷ (code "r", Form.Return) ∷ []

-- the first byte tells the forms apart, and after an `s` the second
unfoldable pub form_of : Text → Option Form
form_of s = elim (eqb (byte_at s 0) (code "s")) [
  | true ↦ elim (eqb (byte_at s 1) (code "k")) [ true ↦ Some Form.Skip | false ↦ Some Form.Set ]
  | false ↦ beginning (byte_at s 0) initials
]

-- the forms that are a word and an expression
abbrev pub valued : {A G : Type 0} → Valued → A → Statement A G
valued Valued.If a = if a
valued Valued.While a = while a
valued Valued.Return a = return a

-- "J 0..7"
abbrev pub last_method : ℕ
last_method = 7

-- "0 to 4 arguments": a first, and at most three after it
abbrev pub arguments_after : ℕ
arguments_after = 3

unfoldable pub comma : ℕ → Option (Unit {0})
comma b = elim (eqb b (code ",")) [ true ↦ Some tt | false ↦ None ]

module _ {A G : Type 0} (R : Reading A) (Q : GuardReading A G) (lim : Limits) (classes : ℕ) (s : Text) where
  -- each expression begins with no bracket open
  unfoldable pub operand : ℕ → Parsed A
  operand at = expression R lim s brackets at

  -- "E,..", with at most so many after the first
  unfoldable pub listed : ℕ → ℕ → Parsed (List A)
  listed more at = next (operand at) (λ p a. repeated (joining comma (λ _ es e. es ++ (e ∷ [])) s operand) more p (a ∷ []))

  -- a space and a list, or neither
  unfoldable pub arguments : ℕ → ℕ → Parsed (List A)
  arguments more at = elim (eqb (byte_at s at) (code " ")) [ true ↦ listed more (at + 1) | false ↦ got at [] ]

  -- a variable and a space
  unfoldable pub target : ℕ → Parsed Variable
  target at = closed (code " ") s (variable lim s at)

  -- what follows the word of each form, "single spaces as shown"
  unfoldable pub rest : Form → ℕ → Parsed (Statement A G)
  rest Form.Skip at = got at skip
  rest Form.Set at = next (target at) (λ p x. mapped (set x) (operand p))
  rest Form.New at =
      next (target at) (λ p x. next (decimal (classes - 1) s p) (λ q class. mapped (new x class) (arguments (length s) q)))
  rest Form.Call at =
      next (target at) (λ p x. next (closed (code " ") s (operand p)) (λ q callee.
      next (decimal last_method s q) (λ r method. mapped (call x callee method) (arguments arguments_after r))))
  rest Form.Get at = next (target at) (λ p x. mapped (get x) (variable lim s p))
  rest Form.Await at = mapped await (guard R Q lim s brackets at)
  rest Form.If at = mapped (valued Valued.If) (operand at)
  rest Form.Else at = got at else
  rest Form.Fi at = got at fi
  rest Form.While at = mapped (valued Valued.While) (operand at)
  rest Form.Od at = got at od
  rest Form.Return at = mapped (valued Valued.Return) (operand at)

  -- a whole code value
  unfoldable pub statement : Parsed (Statement A G)
  statement = elim (form_of s) [ None ↦ bad 0 | Some f ↦ ended s (next (word (word_of f) s 0) (λ at _. rest f at)) ]
