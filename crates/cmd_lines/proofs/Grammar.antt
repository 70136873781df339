-- Where the texts of a script end: one in its grammar has no line outside it.
use Rattle.std.proofs.Common.{◌≡◌, ◌≢◌, ◌⊎◌, ◌<◌, ℕ, ◌+◌, List, [], ◌∷◌, ◌++◌, All, length, Option, None, Some, refl, sym, ap, subst, ◌∙◌, arith, append_assoc, inl, inr}
use Rattle.std.specs.Io.KnownBytes.{Consumes, IsAtEnd}
use Rattle.std.proofs.lemmas.List.Elements.{All-head, All-pop, All-tail}
use Rattle.cmd_lines.specs.Script.{IsLineEnd, IsNext, IsOutside, IsScript, IsScriptText, IsStuck, IsTooLong}
use Rattle.cmd_lines.specs.Texts.{IsText, fed}
use Rattle.cmd_lines.proofs.Cuts.{no_longer, same_cut}
use Rattle.cmd_lines.proofs.Texts.{fed-cons, fed-last, fed-none}

abbrev NoEnd : List ℕ → Type 0
NoEnd text = All (λ b. b ≢ 10) text

-- the text has a line's end after it, or is too long
abbrev Ends : ℕ → List ℕ → List ℕ → Type 0
Ends longest text after = ((more : List ℕ) × (after ≡ 10 ∷ more)) ⊎ (longest < length text)

-- the text is a line's
abbrev IsLineText : {A : Type 0} → ℕ → (List ℕ → A → Type 0) → List ℕ → Type 0
IsLineText longest Says text = IsText longest text × ((item : _) × Says text item)

-- a text in the grammar that isn't empty is a line's
line_of : {A : Type 0} (longest : ℕ) (Says : List ℕ → A → Type 0) (text bad : List ℕ) → text ≡ bad → IsText longest text → (text ≡ []) ⊎ ((item : A) × Says text item) → bad ≢ [] → IsLineText longest Says bad
line_of longest Says text bad same short (inl empty) nonempty = absurd (nonempty (sym same ∙ empty))
line_of longest Says text bad same short (inr said) nonempty = subst (IsLineText longest Says) same (short, said)

-- a piece that ends where the first text does is that text
first_is : {A : Type 0} (longest : ℕ) (Says : List ℕ → A → Type 0) (text bad more after : List ℕ) → IsScriptText longest Says text → text ++ 10 ∷ more ≡ bad ++ after → NoEnd bad → bad ≢ [] → Ends longest bad after → IsLineText longest Says bad
first_is longest Says text bad more after is same one_line nonempty (inl end) =
    let short = is.short in
    let cut = same_cut text bad more end.0 short.one_line one_line (same ∙ ap (λ x. bad ++ x) end.1) in
    line_of longest Says text bad cut.0 is.short is.said nonempty
first_is longest Says text bad more after is same one_line nonempty (inr long) =
    let short = is.short in
    let few = short.short in
    let below = no_longer text bad more after one_line same in
    absurd (omega (arith, few, below, long))

first_nil : (x y : List ℕ) → x ++ y ≡ [] → x ≡ []
first_nil [] y e = refl
first_nil (b ∷ x) y e = cc

never_nil : (x y z : List ℕ) → (x ++ 10 ∷ y) ++ z ≡ [] → ⊥
never_nil [] y z e = cc
never_nil (b ∷ x) y z e = cc

-- a piece that begins and ends where a text does is one of the texts
one_among : {A : Type 0} (longest : ℕ) (Says : List ℕ → A → Type 0) (known texts : List (List ℕ)) (bad after : List ℕ) → All (IsScriptText longest Says) known → All (IsText longest) texts → fed known ≡ fed texts ++ (bad ++ after)
    → NoEnd bad → bad ≢ [] → Ends longest bad after → IsLineText longest Says bad
one_among longest Says [] [] bad after each at same one_line nonempty ends =
    absurd (nonempty (first_nil bad after (sym (ap (λ x. x ++ (bad ++ after)) fed-none) ∙ sym same ∙ fed-none)))
one_among longest Says [] (x ∷ texts) bad after each at same one_line nonempty ends =
    absurd (never_nil x (fed texts) (bad ++ after) (sym (ap (λ y. y ++ (bad ++ after)) (fed-cons x texts)) ∙ sym same ∙ fed-none))
one_among longest Says (t ∷ known) [] bad after each at same one_line nonempty ends =
    let joined = sym (fed-cons t known) ∙ same ∙ ap (λ x. x ++ (bad ++ after)) fed-none in
    first_is longest Says t bad (fed known) after (All-head (IsScriptText longest Says) t known each) joined one_line nonempty ends
one_among longest Says (t ∷ known) (x ∷ texts) bad after each at same one_line nonempty ends =
    let is = (All-head (IsScriptText longest Says) t known each).short in
    let other = All-head (IsText longest) x texts at in
    let joined = sym (fed-cons t known) ∙ same ∙ ap (λ y. y ++ (bad ++ after)) (fed-cons x texts) ∙ append_assoc x (10 ∷ fed texts) (bad ++ after) in
    let cut = same_cut t x (fed known) (fed texts ++ (bad ++ after)) is.one_line other.one_line joined in
    one_among longest Says known texts bad after (All-tail (IsScriptText longest Says) t known each) (All-tail (IsText longest) x texts at) cut.1 one_line nonempty ends

-- a line is known to be whole: by its end, by the end of the script, or by its length
abbrev IsKnownEnd : ℕ → Option (List ℕ) → List ℕ → List ℕ → Type 0
IsKnownEnd longest left line (b ∷ rest) = (b ≡ 10) ⊎ (longest < length line)
IsKnownEnd longest left line [] = IsAtEnd left ⊎ (longest < length line)

at_end : (left : Option (List ℕ)) (more : List ℕ) → left ≡ Some more → IsAtEnd left → more ≡ []
at_end left more is ended = subst IsAtEnd is ended

-- where a script is cut at a line's end or at its own, an end of a line follows, once its last text has one too
end_after : (longest : ℕ) (left : Option (List ℕ)) (more bad rest : List ℕ) → left ≡ Some more → IsKnownEnd longest left bad rest → Ends longest bad ((rest ++ more) ++ 10 ∷ [])
end_after longest left more bad [] is (inl ended) = inl ([], ap (λ x. x ++ 10 ∷ []) (at_end left more is ended))
end_after longest left more bad [] is (inr long) = inr long
end_after longest left more bad (b ∷ rest) is (inl end) = inl ((rest ++ more) ++ 10 ∷ [], ap (λ x. x ∷ ((rest ++ more) ++ 10 ∷ [])) end)
end_after longest left more bad (b ∷ rest) is (inr long) = inr long

-- what was taken and what is left, and then an end of a line
joined : (script taken more prefix bad rest : List ℕ) → script ≡ taken ++ more → taken ≡ prefix ++ bad ++ rest → script ++ 10 ∷ [] ≡ prefix ++ (bad ++ ((rest ++ more) ++ 10 ∷ []))
joined script taken more prefix bad rest took split =
    ap (λ x. x ++ 10 ∷ []) (took ∙ ap (λ x. x ++ more) split ∙ append_assoc (prefix ++ bad) rest more)
    ∙ append_assoc (prefix ++ bad) (rest ++ more) (10 ∷ [])
    ∙ append_assoc prefix bad ((rest ++ more) ++ 10 ∷ [])

-- in a script in its grammar, a text that isn't empty is a line's
pub line_there : {A : Type 0} (longest : ℕ) (Says : List ℕ → A → Type 0) (script taken : List ℕ) (left' : Option (List ℕ)) (texts : List (List ℕ)) (bad rest : List ℕ)
    → IsScript longest Says script → Consumes (Some script) left' taken
    → All (IsText longest) texts → taken ≡ fed texts ++ bad ++ rest
    → All (λ b. b ≢ 10) bad → bad ≢ [] → IsKnownEnd longest left' bad rest
    → IsLineText longest Says bad
line_there longest Says script taken None texts bad rest is took each split one_line nonempty ends = absurd took
line_there longest Says script taken (Some more) texts bad rest is took each split one_line nonempty ends =
    let whole = ap (λ x. x ++ 10 ∷ []) is.split ∙ fed-last is.texts is.last in
    let same = sym whole ∙ joined script taken more (fed texts) bad rest took split in
    one_among longest Says (is.texts ++ is.last ∷ []) texts bad ((rest ++ more) ++ 10 ∷ []) is.each each same one_line nonempty (end_after longest (Some more) more bad rest refl ends)

next_end : (longest : ℕ) (left : Option (List ℕ)) (line rest : List ℕ) → IsLineEnd left rest → IsKnownEnd longest left line rest
next_end longest left line [] ended = inl ended
next_end longest left line (b ∷ rest) is = inl is

-- the line after some is one of the script's
next_said : {A : Type 0} (longest : ℕ) (Says : List ℕ → A → Type 0) (script taken : List ℕ) (left' : Option (List ℕ)) (items : List A) (line : List ℕ) (number : ℕ)
    → IsScript longest Says script → Consumes (Some script) left' taken → IsNext longest Says left' taken items line number → IsOutside Says line → ⊥
next_said longest Says script taken left' items line number is took next outside =
    let both = All-pop (IsText longest) (next.texts ++ line ∷ []) next.texts (Some line) refl next.each in
    let text : IsText longest line = both.1 in
    let split = next.split ∙ sym (append_assoc (fed next.texts) line next.rest) in
    let there = line_there longest Says script taken left' next.texts line next.rest is took both.0 split text.one_line next.nonempty (next_end longest left' line next.rest next.ends) in
    outside there.1.0 there.1.1

some_long : (longest : ℕ) (bad rest : List ℕ) → length bad ≡ longest + 1 → bad ≡ [] → ⊥
some_long longest bad rest long none = let e = ap (λ (l : List ℕ). length l) none in absurd (omega (arith, e, long))

long_end : (longest : ℕ) (left : Option (List ℕ)) (bad rest : List ℕ) → length bad ≡ longest + 1 → IsKnownEnd longest left bad rest
long_end longest left bad [] long = inr (omega (arith, long))
long_end longest left bad (b ∷ rest) long = inr (omega (arith, long))

-- no line of the script is too long
none_long : {A : Type 0} (longest : ℕ) (Says : List ℕ → A → Type 0) (script taken : List ℕ) (left' : Option (List ℕ)) (items : List A) (number : ℕ)
    → IsScript longest Says script → Consumes (Some script) left' taken → IsTooLong longest Says taken items number → ⊥
none_long longest Says script taken left' items number is took long =
    let prefix = long.prefix in
    let bad = long.long.bad in
    let rest = long.long.rest in
    let split = prefix.split ∙ ap (λ (l : List ℕ). fed prefix.texts ++ l) long.long.split ∙ sym (append_assoc (fed prefix.texts) bad rest) in
    let there = line_there longest Says script taken left' prefix.texts bad rest is took prefix.each split long.long.one_line (some_long longest bad rest long.long.long) (long_end longest left' bad rest long.long.long) in
    absurd (omega (arith, there.0.short, long.long.long))

-- a script in its grammar has no line outside it
pub never_stuck : {A : Type 0} (longest : ℕ) (Says : List ℕ → A → Type 0) (script taken : List ℕ) (left' : Option (List ℕ)) (items : List A) (number : ℕ)
    → IsScript longest Says script → Consumes (Some script) left' taken → IsStuck longest Says left' taken items number → ⊥
never_stuck longest Says script taken left' items number is took (inl bad) = next_said longest Says script taken left' items bad.0 number is took bad.1 bad.2
never_stuck longest Says script taken left' items number is took (inr long) = none_long longest Says script taken left' items number is took long
