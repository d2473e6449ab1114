-- The bounds of a model text: document 01's numbers, each once. Assumes nothing.
use Rattle.std.specs.Prelude.{ℕ}

-- "`creol=1`"
abbrev pub edition : ℕ
edition = 1

-- "`classes=` 1..16"
abbrev pub most_classes : ℕ
most_classes = 16

-- "`methods=` run..8"
abbrev pub most_methods : ℕ
most_methods = 8

-- "`params=` 0..4"
abbrev pub most_params : ℕ
most_params = 4

-- "`lines=` 1..64"
abbrev pub most_lines : ℕ
most_lines = 64

-- "All `lines=` together are at most 512."
abbrev pub all_lines : ℕ
all_lines = 512

-- "Blocks nest at most 8 deep."
abbrev pub deepest : ℕ
deepest = 8
