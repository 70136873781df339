-- Where the bytes of a source are known, the next line is handed out.
use Rattle.std.proofs.Common.{◌≡◌, ◌≢◌, inl, inr, true, ℕ, List, [], ◌∷◌, ◌++◌, All, length, Option, Some, None, Result, Ok, Err, refl, sym, ap, ◌∙◌, subst, arith, append_assoc, append-nil, length-append}
use Rattle.std.specs.Io.KnownBytes.{Consumes, IsAtEnd}
use Rattle.cmd_lines.specs.declared.line_fault.LineFault.{LineFault}
use Rattle.cmd_lines.specs.declared.line_fault.LineFault.TheVariants.{Source, Memory, TooLong, Limit}
use Rattle.cmd_lines.specs.Texts.{IsText}
use Rattle.cmd_lines.specs.Reader.{ReaderState, Holds, Answers, KnowsEnd}
use Rattle.cmd_lines.specs.Laws.{AreToCome, GivesNext, GivesRest, NextLineIsGiven, LastLineIsGiven}
use Rattle.cmd_lines.proofs.Cuts.{same_cut, no_longer}
use Rattle.cmd_lines.proofs.FirstLines.{has_end}

-- the bytes to come, where a call has taken some of them
record Split (s : ReaderState) (left' : Option (List ℕ)) (taken bytes : List ℕ) : Type 0 where
  more : List ℕ
  told : left' ≡ Some more
  joined : (s.pending ++ taken) ++ more ≡ bytes

split_at : (s : ReaderState) (left' : Option (List ℕ)) (all taken bytes : List ℕ) → Consumes (Some all) left' taken → s.pending ++ all ≡ bytes → Split s left' taken bytes
split_at s None all taken bytes took joined = absurd took
split_at s (Some more) all taken bytes took joined =
    record { more = more; told = refl; joined = append_assoc s.pending taken more ∙ ap (λ (l : List ℕ). s.pending ++ l) (sym took) ∙ joined }

split_of : (s : ReaderState) (left left' : Option (List ℕ)) (taken bytes : List ℕ) → Consumes left left' taken → AreToCome s left bytes → Split s left' taken bytes
split_of s left left' taken bytes took come = split_at s left' come.more taken bytes (subst (λ (l : Option (List ℕ)). Consumes l left' taken) come.told took) come.joined

-- where the end was reached, all the bytes were taken
all_of : (s t : ReaderState) (left' : Option (List ℕ)) (taken bytes : List ℕ) (at : Split s left' taken bytes) → KnowsEnd t left' → t.ended ≡ true → (at.more ≡ []) × (s.pending ++ taken ≡ bytes)
all_of s t left' taken bytes at knows ended =
    let none : at.more ≡ [] = subst IsAtEnd at.told (knows ended) in
    (none, sym (append-nil (s.pending ++ taken)) ∙ ap (λ (l : List ℕ). (s.pending ++ taken) ++ l) (sym none) ∙ at.joined)

-- what was taken waits, and all is still to come
held_come : (s t : ReaderState) (left' : Option (List ℕ)) (taken bytes : List ℕ) → Split s left' taken bytes → Holds s t taken → AreToCome t left' bytes
held_come s t left' taken bytes at held = record { more = at.more; told = at.told; joined = ap (λ (l : List ℕ). l ++ at.more) held.waits ∙ at.joined }

next_of : (s t : ReaderState) (left' : Option (List ℕ)) (taken : List ℕ) (answer : Result (Option (List ℕ)) LineFault) (text rest : List ℕ)
    → Answers s t taken answer → KnowsEnd t left' → Split s left' taken (text ++ 10 ∷ rest) → IsText s.longest text → GivesNext t left' text rest answer
next_of s t left' taken (Ok (Some line)) text rest did knows at is = elim did [
  | inl first ↦
      let joined : line ++ 10 ∷ (t.pending ++ at.more) ≡ text ++ 10 ∷ rest = sym (append_assoc line (10 ∷ t.pending) at.more) ∙ ap (λ (l : List ℕ). l ++ at.more) (sym first.split) ∙ at.joined in
      let cut = same_cut line text (t.pending ++ at.more) rest first.text.one_line is.one_line joined in
      (cut.0, record { more = at.more; told = at.told; joined = cut.1 })
  | inr last ↦
      let all = all_of s t left' taken (text ++ 10 ∷ rest) at knows last.ended in
      absurd (has_end text rest (subst (λ (l : List ℕ). All (λ b. b ≢ 10) l) (sym last.split ∙ all.1) last.text.one_line))
]
next_of s t left' taken (Ok None) text rest did knows at is =
    let all = all_of s t left' taken (text ++ 10 ∷ rest) at knows did.ended in
    let none : text ++ 10 ∷ rest ≡ [] = sym all.1 ∙ ap (λ (l : List ℕ). l ++ taken) did.nothing ∙ did.nothing_more in
    absurd (omega (arith, ap length none, length-append text (10 ∷ rest)))
next_of s t left' taken (Err TooLong) text rest did knows at is =
    let long = did.1 in
    let joined : text ++ 10 ∷ rest ≡ long.bad ++ (long.rest ++ at.more) =
    sym at.joined ∙ ap (λ (l : List ℕ). l ++ at.more) (sym did.0.waits ∙ long.split) ∙ append_assoc long.bad long.rest at.more in
    absurd (omega (arith, no_longer text long.bad rest (long.rest ++ at.more) long.one_line joined, long.long, is.short))
next_of s t left' taken (Err Source) text rest did knows at is = held_come s t left' taken (text ++ 10 ∷ rest) at did.held
next_of s t left' taken (Err Memory) text rest did knows at is = held_come s t left' taken (text ++ 10 ∷ rest) at did
next_of s t left' taken (Err Limit) text rest did knows at is = held_come s t left' taken (text ++ 10 ∷ rest) at did.0.held

rest_of : (s t : ReaderState) (left' : Option (List ℕ)) (taken : List ℕ) (answer : Result (Option (List ℕ)) LineFault) (text : List ℕ)
    → Answers s t taken answer → KnowsEnd t left' → Split s left' taken text → IsText s.longest text → GivesRest t left' text answer
rest_of s t left' taken (Ok (Some line)) text did knows at is = elim did [
  | inl first ↦
      let joined : text ≡ line ++ 10 ∷ (t.pending ++ at.more) = sym at.joined ∙ ap (λ (l : List ℕ). l ++ at.more) first.split ∙ append_assoc line (10 ∷ t.pending) at.more in
      absurd (has_end line (t.pending ++ at.more) (subst (λ (l : List ℕ). All (λ b. b ≢ 10) l) joined is.one_line))
  | inr last ↦
      let all = all_of s t left' taken text at knows last.ended in
      let same : line ≡ text = sym last.split ∙ all.1 in
      (same, (λ none. last.nonempty (same ∙ none)), record { more = at.more; told = at.told; joined = ap (λ (l : List ℕ). l ++ at.more) last.emptied ∙ all.0 })
]
rest_of s t left' taken (Ok None) text did knows at is =
    let all = all_of s t left' taken text at knows did.ended in (
      sym all.1 ∙ ap (λ (l : List ℕ). l ++ taken) did.nothing ∙ did.nothing_more,
      record { more = at.more; told = at.told; joined = ap (λ (l : List ℕ). l ++ at.more) did.emptied ∙ all.0 },
    )
rest_of s t left' taken (Err TooLong) text did knows at is =
    let long = did.1 in
    let joined : text ≡ long.bad ++ (long.rest ++ at.more) =
    sym at.joined ∙ ap (λ (l : List ℕ). l ++ at.more) (sym did.0.waits ∙ long.split) ∙ append_assoc long.bad long.rest at.more in
    absurd (omega (arith, ap length joined, length-append long.bad (long.rest ++ at.more), long.long, is.short))
rest_of s t left' taken (Err Source) text did knows at is = held_come s t left' taken text at did.held
rest_of s t left' taken (Err Memory) text did knows at is = held_come s t left' taken text at did
rest_of s t left' taken (Err Limit) text did knows at is = held_come s t left' taken text at did.0.held

pub next_line_is_given : NextLineIsGiven
next_line_is_given s t left left' answer text rest call knows come is =
    next_of s t left' call.taken answer text rest call.did knows (split_of s left left' call.taken (text ++ 10 ∷ rest) call.took come) is

pub last_line_is_given : LastLineIsGiven
last_line_is_given s t left left' answer text call knows come is =
    rest_of s t left' call.taken answer text call.did knows (split_of s left left' call.taken text call.took come) is
