-- The sizes of a header, and the places of its fields.
use Rattle.std.specs.Prelude.{ℕ}
use Rattle.r2_header.specs.declared.layout.Layout.{Layout}

-- the short header, whose request ids have 16 bits
abbrev pub short : Layout
short =
    record {
      size = 8;
      size_with_client = 16;
      kind = 2;
      flags = 3;
      id = 4;
      number = 6;
      ip = 8;
      port = 12;
      padding = 14;
    }

-- how many bytes are enough for any header
abbrev pub header_room : ℕ
header_room = 20
