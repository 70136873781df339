-- The line that a client prints for the end of a call.
use Rattle.std.specs.Prelude.{ℕ, List, [], ◌∷◌, ◌++◌, length, drop, slice_index, nat_lt, if◌then◌else◌, codes}
use Rattle.std.specs.Fmt.{decimal}
use Rattle.byteorder.specs.Endian.{big_number}
use Rattle.hex.specs.Hex.{encode_upper}
use Rattle.r2_client.specs.declared.call_end.CallEnd.{CallEnd}
use Rattle.r2_client.specs.declared.call_end.CallEnd.TheVariants.{Reply, Rejected, TimedOut}

-- bytes in capital hexadecimal, and a dash where there are none
abbrev pub hex_or_dash : List ℕ → List ℕ
hex_or_dash [] = codes "-"
hex_or_dash (b ∷ bytes) = encode_upper (b ∷ bytes)

-- a reply that was served: its index, its status and its value
unfoldable pub served_text : ℕ → ℕ → List ℕ → List ℕ
served_text index status value = codes "reply " ++ decimal index ++ codes " " ++ decimal status ++ codes " " ++ hex_or_dash value

-- a reply has an index of 8 bytes, a status of one byte, and a value; one of fewer than 9 bytes is short
unfoldable pub reply_text : List ℕ → List ℕ
reply_text payload =
    if nat_lt (length payload) 9 then codes "short " ++ hex_or_dash payload
    else served_text (big_number 8 payload) (slice_index payload 8) (drop 9 payload)

-- how a call ended
abbrev pub said_text : CallEnd → List ℕ
said_text (Reply payload) = reply_text payload
said_text Rejected = codes "rejected"
said_text TimedOut = codes "timedout"

-- the line of a call's end
unfoldable pub end_text : CallEnd → List ℕ
end_text end = said_text end ++ 10 ∷ []
