-- "choices from standard input (at most 4,096 bytes), a line each". Assumes nothing.
use Rattle.std.specs.Prelude.{ℕ, ◌+◌, ◌*◌, true, false, ◌&&◌, List, [], ◌∷◌, map, leb, pos, length, take, drop, Option, None, Some}
use Rattle.terms.specs.Bytes.{Text, bytes, digit}
use Rattle.terms.specs.Parsed.{got, bad, word}
use Rattle.text.specs.Lines.{lines, content}
use Rattle.rules.specs.declared.Choice.{Choice}
use Rattle.rules.specs.declared.Kind.{Kind}
use Rattle.rules.specs.declared.Kind.TheVariants as Kind
use Rattle.rules.specs.Kinds.{kinds, choose}

-- "(at most 4,096 bytes)"
abbrev pub longest_input : ℕ
longest_input = 4096

-- "a number not 1 to 9 digits"
abbrev pub most_digits : ℕ
most_digits = 9

-- digits alone, as the number that they write after another; leading zeros may stand
unfoldable pub digits_from : ℕ → Text → Option ℕ
digits_from n [] = Some n
digits_from n (b ∷ s) = elim (digit b) [ None ↦ None | Some d ↦ digits_from (n * 10 + d) s ]

unfoldable pub digits_alone : Text → Option ℕ
digits_alone s = elim (leb 1 (length s) && leb (length s) most_digits) [ true ↦ digits_from 0 s | false ↦ None ]

-- a kind's name with its `=`
unfoldable pub kind_name : Kind → Text
kind_name Kind.Exec = bytes "exec="
kind_name Kind.Arrive = bytes "arrive="
kind_name Kind.Bind = bytes "bind="
kind_name Kind.Start = bytes "start="
kind_name Kind.Deliver = bytes "deliver="

-- "A line of another form, or a number not 1 to 9 digits, is kind 0 with number 0."
unfoldable pub no_choice : Choice
no_choice = record { kind = pos 0; number = pos 0 }

-- a line that begins with one of some kinds' names
unfoldable pub choice_of : List Kind → Text → Choice
choice_of [] l = no_choice
choice_of (k ∷ ks) l = elim (word (kind_name k) l 0) [
  | bad at ↦ choice_of ks l
  | got at u ↦ elim (digits_alone (drop at l)) [ None ↦ no_choice | Some n ↦ choose k n ]
]

-- "Input past 4,096 bytes is not read, a last line needs no LF"
unfoldable pub choices_from : Text → List Choice
choices_from input = map (λ l. choice_of kinds (content l)) (lines (take longest_input input))
