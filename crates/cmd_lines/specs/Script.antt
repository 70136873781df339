-- Scripts: lines of which each says an item. What a script is, and how much of one was taken.
use Rattle.std.specs.Prelude.{◌≡◌, ◌≢◌, ◌⊎◌, ℕ, ◌+◌, List, [], ◌∷◌, ◌++◌, length, All, Option}
use Rattle.std.specs.Io.KnownBytes.{IsAtEnd}
use Rattle.cmd_status.specs.declared.status.Status.{Status}
use Rattle.cmd_status.specs.declared.status.Status.TheVariants.{Done, BadScript, Memory, SourceFault, TurnsSpent}
use Rattle.cmd_lines.specs.Limits.{most_taken}
use Rattle.cmd_lines.specs.Reader.{HasLongLine}
use Rattle.cmd_lines.specs.Reading.{IsNeeded}
use Rattle.cmd_lines.specs.Texts.{IsText, fed}

-- the texts say these items, in order; an empty text says nothing
abbrev pub Say : {A : Type 0} → (List ℕ → A → Type 0) → List (List ℕ) → List A → Type 0
Say Says [] items = items ≡ []
Say Says ([] ∷ texts) items = Say Says texts items
Say Says ((b ∷ text) ∷ texts) [] = ⊥
Say Says ((b ∷ text) ∷ texts) (item ∷ items) = Says (b ∷ text) item × Say Says texts items

-- a text of a script, without its end: an empty one, or one that says an item
pub record IsScriptText {A : Type 0} (longest : ℕ) (Says : List ℕ → A → Type 0) (text : List ℕ) : Type 0 where
  pub short : IsText longest text
  pub said : (text ≡ []) ⊎ ((item : A) × Says text item)

-- the bytes are a script: texts, each with its end, and a last one without
pub record IsScript {A : Type 0} (longest : ℕ) (Says : List ℕ → A → Type 0) (script : List ℕ) : Type 0 where
  pub texts : List (List ℕ)
  pub last : List ℕ
  pub each : All (IsScriptText longest Says) (texts ++ last ∷ [])
  pub split : script ≡ fed texts ++ last

-- the first lines of what was taken, which say these items; they were run before more was read than had to be
pub record IsPrefix {A : Type 0} (longest : ℕ) (Says : List ℕ → A → Type 0) (taken : List ℕ) (items : List A) : Type 0 where
  pub texts : List (List ℕ)
  pub rest : List ℕ
  pub each : All (IsText longest) texts
  pub said : Say Says texts items
  pub split : taken ≡ fed texts ++ rest
  pub needed : IsNeeded longest taken texts

-- whole lines were taken, and perhaps the beginning of another that isn't known yet
pub record IsPartial {A : Type 0} (longest : ℕ) (Says : List ℕ → A → Type 0) (taken : List ℕ) (items : List A) : Type 0 where
  pub prefix : IsPrefix longest Says taken items
  pub unfinished : IsText longest prefix.rest

-- the whole script was taken, its last line with an end or without
pub record IsWhole {A : Type 0} (longest : ℕ) (Says : List ℕ → A → Type 0) (left : Option (List ℕ)) (taken : List ℕ) (items : List A) : Type 0 where
  pub texts : List (List ℕ)
  pub last : List ℕ
  pub each : All (IsText longest) (texts ++ last ∷ [])
  pub said : Say Says (texts ++ last ∷ []) items
  pub split : taken ≡ fed texts ++ last
  pub ended : IsAtEnd left
  pub needed : IsNeeded longest taken texts

-- a line is known to be whole: by its end, or by the end of the script
abbrev pub IsLineEnd : Option (List ℕ) → List ℕ → Type 0
IsLineEnd left (b ∷ rest) = b ≡ 10
IsLineEnd left [] = IsAtEnd left

-- after some lines, which were run, comes this one, which is whole
pub record IsNext {A : Type 0} (longest : ℕ) (Says : List ℕ → A → Type 0) (left : Option (List ℕ)) (taken : List ℕ) (items : List A) (line : List ℕ) (number : ℕ) : Type 0 where
  pub texts : List (List ℕ)
  pub rest : List ℕ
  pub each : All (IsText longest) (texts ++ line ∷ [])
  pub said : Say Says texts items
  pub split : taken ≡ fed texts ++ (line ++ rest)
  pub ends : IsLineEnd left rest
  pub nonempty : line ≢ []
  pub counted : number ≡ length texts + 1
  pub needed : IsNeeded longest taken texts

-- after some lines, which were run, comes one that is too long
pub record IsTooLong {A : Type 0} (longest : ℕ) (Says : List ℕ → A → Type 0) (taken : List ℕ) (items : List A) (number : ℕ) : Type 0 where
  pub prefix : IsPrefix longest Says taken items
  pub long : HasLongLine longest prefix.rest
  pub counted : number ≡ length prefix.texts + 1

-- the line says no item
abbrev pub IsOutside : {A : Type 0} → (List ℕ → A → Type 0) → List ℕ → Type 0
IsOutside Says line = (item : _) → Says line item → ⊥

-- after the lines that say these items comes one, with this number, that no script has
abbrev pub IsStuck : {A : Type 0} → ℕ → (List ℕ → A → Type 0) → Option (List ℕ) → List ℕ → List A → ℕ → Type 0
IsStuck longest Says left taken items number =
    ((line : List ℕ) × IsNext longest Says left taken items line number × IsOutside Says line) ⊎ IsTooLong longest Says taken items number

-- the lines that say these items were taken, the last of them perhaps the script's last
abbrev pub HasLines : {A : Type 0} → ℕ → (List ℕ → A → Type 0) → Option (List ℕ) → List ℕ → List A → Type 0
HasLines longest Says left taken items = IsPrefix longest Says taken items ⊎ IsWhole longest Says left taken items

-- how much of a script was taken where its run ended between two lines, and what the lines before say, by how it ended
abbrev pub EndsBetween : {A : Type 0} → ℕ → (List ℕ → A → Type 0) → Option (List ℕ) → List ℕ → List A → Status → Type 0
EndsBetween longest Says left taken items Done = IsWhole longest Says left taken items
EndsBetween longest Says left taken items (BadScript number) = IsStuck longest Says left taken items number
EndsBetween longest Says left taken items SourceFault = IsPartial longest Says taken items
EndsBetween longest Says left taken items TurnsSpent = IsPartial longest Says taken items × (length taken ≡ most_taken)
EndsBetween longest Says left taken items Memory = HasLines longest Says left taken items
EndsBetween longest Says left taken items _ = ⊥
