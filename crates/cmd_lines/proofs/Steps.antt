-- The steps of a call for the next line.
use Rattle.std.proofs.Common.{◌≡◌, ◌≢◌, ◌-◌, if◌then◌else◌, ◌⊎◌, inl, inr, ◌+◌, ◌<◌, ◌≤◌, ◌^◌, ℕ, Bool, true, false, List, [], ◌∷◌, ◌++◌, length, take, drop, Option, Some, None, Result, Ok, Err, IfOk, IfErr, OnOk, OnErr, refl, sym, ap, ◌∙◌, subst, arith, append-nil, drop-drop, length-drop}
use Rattle.std.proofs.lemmas.List.{nil_from_length}
use Rattle.std.proofs.lemmas.List.Elements.{All-drop}
use Rattle.cmd_lines.specs.Texts.{IsText}
use Rattle.cmd_lines.specs.declared.line_fault.LineFault.{LineFault}
use Rattle.cmd_lines.specs.declared.line_fault.LineFault.TheVariants.{Source, Memory, TooLong, Limit}
use Rattle.cmd_lines.specs.FirstLines.{IsLineLen}
use Rattle.cmd_lines.specs.Reader.{ReaderState, HasKnownLine, HasLongLine, Holds, HoldsPart, AreNeeded, Answers}
use Rattle.cmd_lines.specs.Steps.{IsSound}
use Rattle.std.specs.Io.KnownBytes.{Consumes}
use Rattle.cmd_lines.proofs.FirstLines.{known_is_no_part}

-- a text without its first bytes is one
pub text_after : (longest : ℕ) (text : List ℕ) (n : ℕ) → IsText longest text → IsText longest (drop n text)
text_after longest text n is = record {
  one_line = All-drop (λ b. b ≢ 10) n text is.one_line;
  short = omega (arith, length-drop n text, is.short);
}

-- a reader stays sound where bytes are let go for one line more
pub sound_after : (buffer : List ℕ) (start gone taken lines longest : ℕ) (ended : Bool)
    → IsSound (record { pending = drop start buffer; taken = taken; lines = lines; ended = ended; longest = longest }) → 0 < gone → gone ≤ length (drop start buffer)
    → IsSound (record { pending = drop (start + gone) buffer; taken = taken; lines = lines + 1; ended = ended; longest = longest })
sound_after buffer start gone taken lines longest ended before some within = record {
  few = omega (arith, before.few, length-drop start buffer, length-drop (start + gone) buffer);
  most = before.most;
  last = λ end. subst (IsText longest) (drop-drop gone start buffer) (text_after longest (drop start buffer) gone (before.last end));
}

-- a reader that let its first bytes go, for a line that it handed out
abbrev given : ReaderState → ℕ → ReaderState
given s gone = record s { pending = drop gone s.pending; lines = s.lines + 1 }

-- a line and its end were let go
pub answers_line : (s u : ReaderState) (len : ℕ) (answer : Result (Option (List ℕ)) LineFault) → IsLineLen s.longest s.pending len → s.ended ≡ false
    → IfOk answer (λ line. line ≡ Some (take len s.pending)) → OnOk answer (u ≡ given s (len + 1)) → OnErr answer (u ≡ s) → IfErr answer (λ fault. fault ≡ Memory)
    → Answers s u [] answer
answers_line s u len (Ok (Some line)) begins unended is new kept fault =
    let same : line ≡ take len s.pending = cc in
    inl (record {
      text = subst (IsText s.longest) (sym same) begins.text;
      split = append-nil s.pending ∙ begins.split ∙ ap (λ (l : List ℕ). l ++ 10 ∷ drop (len + 1) s.pending) (sym same) ∙ ap (λ (l : List ℕ). line ++ 10 ∷ l) (sym (ap (λ (r : ReaderState). r.pending) new));
      lines = ap (λ (r : ReaderState). r.lines) new;
      open_end = ap (λ (r : ReaderState). r.ended) new ∙ unended;
    })
answers_line s u len (Ok None) begins unended is new kept fault = absurd (cc)
answers_line s u len (Err Memory) begins unended is new kept fault = record { waits = ap (λ (r : ReaderState). r.pending) kept ∙ sym (append-nil s.pending); lines = ap (λ (r : ReaderState). r.lines) kept }
answers_line s u len (Err Source) begins unended is new kept fault = absurd (cc)
answers_line s u len (Err TooLong) begins unended is new kept fault = absurd (cc)
answers_line s u len (Err Limit) begins unended is new kept fault = absurd (cc)

not_true : (b : Bool) → (b ≡ true → ⊥) → b ≡ false
not_true true h = absurd (h refl)
not_true false h = refl

-- where a line is known, the source's end was not reached
pub unended : (s : ReaderState) → IsSound s → (IsText s.longest s.pending → ⊥) → s.ended ≡ false
unended s sound known = not_true s.ended (λ end. known (sound.last end))

-- no line is known, and the end was not reached
pub record MayRead (s : ReaderState) : Type 0 where
  pub unfinished : IsText s.longest s.pending
  pub open_end : s.ended ≡ false

-- the bytes that a call took wait after those that waited before, and they were needed
pub record Waits (s t : ReaderState) (left left' : Option (List ℕ)) : Type 0 where
  pub taken : List ℕ
  pub took : Consumes left left' taken
  pub counted : t.taken ≡ s.taken + length taken
  pub waits : t.pending ≡ s.pending ++ taken
  pub lines : t.lines ≡ s.lines
  pub limit : t.longest ≡ s.longest
  pub needed : (taken ≡ []) ⊎ AreNeeded s taken

-- a reader that is as it was took nothing
pub took_none : (s t : ReaderState) (a b : Option (List ℕ)) (far : Waits s t a b) → t ≡ s → far.taken ≡ []
took_none s t a b far same = nil_from_length far.taken (omega (arith, far.counted, ap (λ (r : ReaderState). r.taken) same))

-- such a reader knows no line, and may read
pub may_not : (s : ReaderState) → MayRead s → HasKnownLine s.longest s.pending ⊎ (s.ended ≡ true) → ⊥
may_not s may known = elim known [ inl line ↦ known_is_no_part s.longest s.pending line may.unfinished | inr end ↦ absurd (cc) ]

-- how much a reader may take yet, and one where it may still find the end
abbrev pub may_take : ReaderState → ℕ
may_take s = if s.ended then 0 else 2 ^ 56 + 1 - s.taken

both_nil : (xs ys : List ℕ) → xs ++ ys ≡ [] → (xs ≡ []) × (ys ≡ [])
both_nil [] ys h = (refl, h)
both_nil (x ∷ xs) ys h = absurd (cc)

-- what still waits comes after what waited before
still : (s t u : ReaderState) (taken : List ℕ) → t.pending ≡ s.pending ++ taken → t.lines ≡ s.lines → Holds t u [] → Holds s u taken
still s t u taken waits lines held = record { waits = held.waits ∙ append-nil t.pending ∙ waits; lines = held.lines ∙ lines }

-- and so does what is the beginning of a line still
part : (s t u : ReaderState) (taken : List ℕ) → t.longest ≡ s.longest → t.pending ≡ s.pending ++ taken → t.lines ≡ s.lines → HoldsPart t u [] → HoldsPart s u taken
part s t u taken limit waits lines did = record { held = still s t u taken waits lines did.held; unfinished = subst (λ (n : ℕ). IsText n u.pending) limit did.unfinished; open_end = did.open_end }

-- what a call hands out of bytes that wait, it hands out of those that waited before and those that it took
pub answers_held : (s t u : ReaderState) (taken : List ℕ) (answer : Result (Option (List ℕ)) LineFault) → t.longest ≡ s.longest → t.pending ≡ s.pending ++ taken → t.lines ≡ s.lines
    → Answers t u [] answer → Answers s u taken answer
answers_held s t u taken (Ok (Some line)) limit waits lines did = elim did [
  | inl first ↦ inl (record {
    text = subst (λ (n : ℕ). IsText n line) limit first.text;
    split = sym waits ∙ sym (append-nil t.pending) ∙ first.split;
    lines = omega (arith, lines, first.lines);
    open_end = first.open_end;
  })
  | inr last ↦ inr (record {
    text = subst (λ (n : ℕ). IsText n line) limit last.text;
    nonempty = last.nonempty;
    split = sym waits ∙ sym (append-nil t.pending) ∙ last.split;
    emptied = last.emptied;
    lines = omega (arith, lines, last.lines);
    ended = last.ended;
  })
]
answers_held s t u taken (Ok None) limit waits lines did =
    let both = both_nil s.pending taken (sym waits ∙ did.nothing) in
    record { nothing = both.0; nothing_more = both.1; emptied = did.emptied; lines = did.lines ∙ lines; ended = did.ended }
answers_held s t u taken (Err TooLong) limit waits lines did = (still s t u taken waits lines did.0, subst (λ (n : ℕ). HasLongLine n u.pending) limit did.1)
answers_held s t u taken (Err Source) limit waits lines did = part s t u taken limit waits lines did
answers_held s t u taken (Err Limit) limit waits lines did = (part s t u taken limit waits lines did.0, did.1)
answers_held s t u taken (Err Memory) limit waits lines did = still s t u taken waits lines did
