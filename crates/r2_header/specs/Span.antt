-- Stretches of numbers.
use Rattle.std.specs.Prelude.{ℕ, ◌≤◌, Bool, ◌&&◌, nat_le}
use Rattle.r2_header.specs.declared.span.Span.{Span}

-- the numbers from a least to a most
abbrev pub from_to : ℕ → ℕ → Span
from_to least most = record { least = least; most = most }

-- no number
abbrev pub no_number : Span
no_number = record { least = 1; most = 0 }

-- a number is in the span
pub record IsWithin (s : Span) (n : ℕ) : Type 0 where
  pub low : s.least ≤ n
  pub high : n ≤ s.most

-- whether a number is in the span
abbrev pub is_within : Span → ℕ → Bool
is_within s n = nat_le s.least n && nat_le n s.most

-- whether there is a number in the span
abbrev pub has_number : Span → Bool
has_number s = nat_le s.least s.most
