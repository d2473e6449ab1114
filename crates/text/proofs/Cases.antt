-- Every bound of a line from both sides, computed. Assumes nothing.
use Rattle.std.specs.Prelude.{None, Some}
use mathlib.Core.Bool.{true, false}
use mathlib.Core.List.{[], ◌∷◌}
use mathlib.Core.Path.{refl}
use lib.ListN.{replicate}
use Rattle.whole.proofs.Tables.{◌is◌, Holds}
use Rattle.terms.specs.Bytes.{bytes}
use Rattle.text.specs.Lines.{terminated, unterminated, lines, sound}
use Rattle.text.specs.Numbers.{number_in}
use Rattle.text.proofs.Open.{text_open}

-- "lines of at most 120 bytes from 32 to 126, each ended by LF"
sound_lines : Holds (
    (sound (terminated []) is true)
    ∷ (sound (terminated (replicate 120 97)) is true)
    ∷ (sound (terminated (replicate 121 97)) is false)
    ∷ (sound (terminated (31 ∷ [])) is false)
    ∷ (sound (terminated (32 ∷ [])) is true)
    ∷ (sound (terminated (126 ∷ [])) is true)
    ∷ (sound (terminated (127 ∷ [])) is false)
    ∷ (sound (unterminated (bytes "run=1")) is false)
    ∷ []
    )
unfolding text_open
sound_lines = (refl, (refl, (refl, (refl, (refl, (refl, (refl, (refl, tt))))))))

-- an LF ends a line, and begins none at the very end
cut_lines : Holds (
    (lines [] is [])
    ∷ (lines (bytes "\n") is terminated [] ∷ [])
    ∷ (lines (bytes "a\nb\n") is terminated (bytes "a") ∷ terminated (bytes "b") ∷ [])
    ∷ (lines (bytes "a\nb") is terminated (bytes "a") ∷ unterminated (bytes "b") ∷ [])
    ∷ []
    )
unfolding text_open
cut_lines = (refl, (refl, (refl, (refl, tt))))

-- "A decimal has no leading zero, except 0 itself.": the whole value, from its lowest to its highest
numbers_in : Holds (
    (number_in 1 16 (bytes "0") is None)
    ∷ (number_in 1 16 (bytes "1") is Some 1)
    ∷ (number_in 1 16 (bytes "16") is Some 16)
    ∷ (number_in 1 16 (bytes "17") is None)
    ∷ (number_in 0 16 (bytes "0") is Some 0)
    ∷ (number_in 0 16 (bytes "01") is None)
    ∷ (number_in 0 16 (bytes "1 ") is None)
    ∷ (number_in 0 16 [] is None)
    ∷ []
    )
unfolding text_open
numbers_in = (refl, (refl, (refl, (refl, (refl, (refl, (refl, (refl, tt))))))))
