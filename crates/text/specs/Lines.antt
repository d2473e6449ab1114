-- "At most 32,768 bytes; lines of at most 120 bytes from 32 to 126, each ended by LF." Assumes nothing.
use Rattle.std.specs.Prelude.{ℕ, Bool, true, false, ◌&&◌, List, [], ◌∷◌, leb, eqb, length}
use Rattle.terms.specs.Bytes.{Text}

-- "At most 32,768 bytes"
abbrev pub longest_text : ℕ
longest_text = 32768

-- "lines of at most 120 bytes"
abbrev pub longest_line : ℕ
longest_line = 120

abbrev pub line_feed : ℕ
line_feed = 10

-- a line, ended by its LF or by the end of the text
pub data Line : Type 0 where
  terminated : Text → Line
  unterminated : Text → Line

-- a byte before the first of some lines
unfoldable pub grown : ℕ → List Line → List Line
grown b [] = unterminated (b ∷ []) ∷ []
grown b (terminated l ∷ ls) = terminated (b ∷ l) ∷ ls
grown b (unterminated l ∷ ls) = unterminated (b ∷ l) ∷ ls

-- the lines of a text; an LF at its very end begins no further line
unfoldable pub lines : Text → List Line
lines [] = []
lines (b ∷ s) = elim (eqb b line_feed) [ true ↦ terminated [] ∷ lines s | false ↦ grown b (lines s) ]

-- "bytes from 32 to 126"
unfoldable pub plain_byte : ℕ → Bool
plain_byte b = leb 32 b && leb b 126

unfoldable pub plain_bytes : Text → Bool
plain_bytes [] = true
plain_bytes (b ∷ s) = elim (plain_byte b) [ true ↦ plain_bytes s | false ↦ false ]

unfoldable pub sound : Line → Bool
sound (terminated l) = leb (length l) longest_line && plain_bytes l
sound (unterminated l) = false

-- a line without its end
unfoldable pub content : Line → Text
content (terminated l) = l
content (unterminated l) = l
