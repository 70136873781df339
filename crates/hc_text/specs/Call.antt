-- What a client's line asks for.
use Rattle.std.specs.Prelude.{◌≡◌, ◌≢◌, ◌⊎◌, ◌<◌, ◌≤◌, ◌^◌, ℕ, Bool, true, false, List, [], ◌∷◌, ◌++◌, All, Ok, codes}
use Rattle.std.specs.Fmt.{decimal}
use Rattle.hex.specs.Hex.{decode_of}
use Rattle.hc_store.specs.Command.{Command, Get, Put, Del, Cas, Scan, Count}
use Rattle.hc_store.specs.Spelling.{FitsCommand, spelling}
use Rattle.hc_text.specs.declared.call.Call.{Call}

-- a byte that prints, but for the space
abbrev pub IsPrinting : ℕ → Type 0
IsPrinting b = (33 ≤ b) × (b ≤ 126)

-- a value that is written as it is: bytes that print, and not `x:` before them
pub record IsPlainText (value text : List ℕ) : Type 0 where
  pub same : text ≡ value
  pub some : text ≢ []
  pub printing : All IsPrinting text
  pub unmarked : (rest : List ℕ) → text ≢ codes "x:" ++ rest

-- a value in hexadecimal of either case after `x:`, with digits or none
pub record IsHexText (value text : List ℕ) : Type 0 where
  pub digits : List ℕ
  pub marked : text ≡ codes "x:" ++ digits
  pub decoded : decode_of digits ≡ Ok value

-- the text of a value
abbrev pub IsValueText : List ℕ → List ℕ → Type 0
IsValueText value text = IsPlainText value text ⊎ IsHexText value text

-- the text of a limit, of at most two bytes
pub record IsLimitText (limit : ℕ) (text : List ℕ) : Type 0 where
  pub fits : limit < 2 ^ 16
  pub spelled : text ≡ decimal limit

-- the text is this one
abbrev pub Is : List ℕ → List ℕ → Type 0
Is word text = text ≡ word

-- a word, one space, and the rest
pub record Spaced (First Rest : List ℕ → Type 0) (text : List ℕ) : Type 0 where
  pub word : List ℕ
  pub rest : List ℕ
  pub joined : text ≡ word ++ 32 ∷ rest
  pub first : First word
  pub behind : Rest rest

-- the line of a command of the service
abbrev pub Says : Command → List ℕ → Type 0
Says (Get key) = Spaced (Is (codes "get")) (IsValueText key)
Says (Put key value) = Spaced (Is (codes "put")) (Spaced (IsValueText key) (IsValueText value))
Says (Del key) = Spaced (Is (codes "del")) (IsValueText key)
Says (Cas key old new) = Spaced (Is (codes "cas")) (Spaced (IsValueText key) (Spaced (IsValueText old) (IsValueText new)))
Says (Scan key limit) = Spaced (Is (codes "scan")) (Spaced (IsValueText key) (IsLimitText limit))
Says Count = Is (codes "count")

-- the commands that only read
abbrev pub is_reading : Command → Bool
is_reading (Get key) = true
is_reading (Put key value) = false
is_reading (Del key) = false
is_reading (Cas key old new) = false
is_reading (Scan key limit) = true
is_reading Count = true

-- the call of a command: its body is the encoding that the service reads
abbrev pub call_of : Command → Call
call_of command = record { read = is_reading command; body = spelling command }

-- the line asks for a command of the service, whose fields fit their lengths, as they do in any line of 8,192 bytes
pub record AsksService (line : List ℕ) (call : Call) : Type 0 where
  pub command : Command
  pub said : Says command line
  pub fits : FitsCommand command
  pub asked : call ≡ call_of command

-- how a body that is given by its bytes shall be served: r as a read, w as a write
abbrev pub mode_word : Bool → List ℕ
mode_word true = codes "r"
mode_word false = codes "w"

-- the line gives the body by its bytes
abbrev pub GivesBody : List ℕ → Call → Type 0
GivesBody line call = Spaced (Is (codes "raw")) (Spaced (Is (mode_word call.read)) (IsValueText call.body)) line

-- what a line asks for
abbrev pub IsCallLine : List ℕ → Call → Type 0
IsCallLine line call = AsksService line call ⊎ GivesBody line call
