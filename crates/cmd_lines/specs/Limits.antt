-- The limits of a reader of lines.
use Rattle.std.specs.Prelude.{ℕ, ◌^◌}

-- the greatest number of bytes of a script's line, its end not counted
abbrev pub most_line : ℕ
most_line = 8192

-- how many bytes are read at a time at most
abbrev pub most_read : ℕ
most_read = 4096

-- how many bytes are taken of a source at most
abbrev pub most_taken : ℕ
most_taken = 2 ^ 56
