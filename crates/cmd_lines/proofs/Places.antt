-- Where a run of a script stands, from line to line.
use Rattle.std.proofs.Common.{◌≡◌, ◌≢◌, ◌⊎◌, inl, inr, ℕ, ◌+◌, ◌≤◌, true, false, Bool, List, [], ◌∷◌, ◌++◌, length, Option, Some, None, Ok, Err, refl, sym, ap, ◌∙◌, subst, append-nil, length-append, arith}
use Rattle.std.specs.Prelude.{All}
use Rattle.std.proofs.lemmas.List.Elements.{All-append, All-cons, All-nil, All-pop}
use Rattle.std.specs.Io.KnownBytes.{Consumes, IsAtEnd}
use Rattle.r2_link.proofs.Streams.{Consumes-trans}
use Rattle.cmd_status.specs.declared.status.Status.{Status}
use Rattle.cmd_status.specs.declared.status.Status.TheVariants.{Done}
use Rattle.cmd_lines.specs.declared.line_fault.LineFault.{LineFault}
use Rattle.cmd_lines.specs.declared.line_fault.LineFault.TheVariants.{Source, Memory, TooLong, Limit}
use Rattle.cmd_lines.specs.Faults.{status_of}
use Rattle.cmd_lines.specs.Texts.{IsText, fed}
use Rattle.cmd_lines.specs.Reader.{AreNeeded, GivesLast, GivesLine, HasLongLine, KnowsEnd, ReaderState, ReadsLine}
use Rattle.cmd_lines.specs.Reading.{HasGiven, IsNeeded}
use Rattle.cmd_lines.specs.Script.{EndsBetween, IsPrefix, IsNext, IsWhole, Say}
use Rattle.cmd_lines.proofs.Texts.{fed-push}
use Rattle.cmd_lines.proofs.Reading.{HasGiven-end, HasGiven-held, HasGiven-last, HasGiven-line, HasGiven-none, IsNeeded-more, IsNeeded-none, IsNeeded-run}

-- a reader that took nothing yet
abbrev pub fresh : ℕ → ReaderState
fresh longest = record { pending = []; taken = 0; lines = 0; ended = false; longest = longest }

-- lines one after another
pub say-then : {A : Type 0} (Says : List ℕ → A → Type 0) (xs ys : List (List ℕ)) (items more : List A) → Say Says xs items → Say Says ys more → Say Says (xs ++ ys) (items ++ more)
say-then Says [] ys items more p q = subst (λ (l : List _). Say Says ys (l ++ more)) (sym p) q
say-then Says ([] ∷ xs) ys items more p q = say-then Says xs ys items more p q
say-then Says ((b ∷ x) ∷ xs) ys [] more p q = absurd p
say-then Says ((b ∷ x) ∷ xs) ys (item ∷ items) more p q = (p.0, say-then Says xs ys items more p.1 q)

-- all lines before were run, each with its end
pub record IsMid {A : Type 0} (longest : ℕ) (Says : List ℕ → A → Type 0) (left left' : Option (List ℕ)) (r : ReaderState) (taken : List ℕ) (items : List A) : Type 0 where
  pub texts : List (List ℕ)
  pub given : HasGiven (fresh longest) r left left' taken texts
  pub said : Say Says texts items
  pub needed : IsNeeded longest taken texts

-- the last line was run, which the script's end ended
pub record IsOver {A : Type 0} (longest : ℕ) (Says : List ℕ → A → Type 0) (left left' : Option (List ℕ)) (r : ReaderState) (taken : List ℕ) (items : List A) : Type 0 where
  pub took : Consumes left left' taken
  pub whole : IsWhole longest Says left' taken items
  pub empty : r.pending ≡ []
  pub ended : r.ended ≡ true

-- a run between two lines
abbrev pub Place : {A : Type 0} → ℕ → (List ℕ → A → Type 0) → Option (List ℕ) → Option (List ℕ) → ReaderState → List ℕ → List A → Type 0
Place longest Says left left' r taken items = IsMid longest Says left left' r taken items ⊎ IsOver longest Says left left' r taken items

-- a line was taken with its end after it, and not run yet
pub record IsRead {A : Type 0} (longest : ℕ) (Says : List ℕ → A → Type 0) (left left' : Option (List ℕ)) (r : ReaderState) (taken : List ℕ) (items : List A) (line : List ℕ) : Type 0 where
  pub texts : List (List ℕ)
  pub given : HasGiven (fresh longest) r left left' taken (texts ++ line ∷ [])
  pub said : Say Says texts items
  pub needed : IsNeeded longest taken texts

-- the last line was taken, and not run yet
pub record IsReadLast {A : Type 0} (longest : ℕ) (Says : List ℕ → A → Type 0) (left left' : Option (List ℕ)) (r : ReaderState) (taken : List ℕ) (items : List A) (line : List ℕ) : Type 0 where
  pub texts : List (List ℕ)
  pub took : Consumes left left' taken
  pub split : taken ≡ fed texts ++ line
  pub each : All (IsText longest) (texts ++ line ∷ [])
  pub said : Say Says texts items
  pub at_end : IsAtEnd left'
  pub empty : r.pending ≡ []
  pub ended : r.ended ≡ true
  pub counted : r.lines ≡ length texts + 1
  pub needed : IsNeeded longest taken texts

-- a run with a line in hand
abbrev pub LinePlace : {A : Type 0} → ℕ → (List ℕ → A → Type 0) → Option (List ℕ) → Option (List ℕ) → ReaderState → List ℕ → List A → List ℕ → Type 0
LinePlace longest Says left left' r taken items line = IsRead longest Says left left' r taken items line ⊎ IsReadLast longest Says left left' r taken items line

-- a run that ended between two lines
pub record EndsHere {A : Type 0} (longest : ℕ) (Says : List ℕ → A → Type 0) (left left' : Option (List ℕ)) (items : List A) (status : Status) : Type 0 where
  pub taken : List ℕ
  pub took : Consumes left left' taken
  pub ends : EndsBetween longest Says left' taken items status

-- before the first line
pub at-first : {A : Type 0} (longest : ℕ) (Says : List ℕ → A → Type 0) (left : Option (List ℕ)) → Place longest Says left left (fresh longest) [] []
at-first longest Says left = inl (record { texts = []; given = HasGiven-none (fresh longest) left; said = refl; needed = IsNeeded-none longest })

one-text : (longest : ℕ) (texts : List (List ℕ)) (line : List ℕ) → All (IsText longest) texts → IsText longest line → All (IsText longest) (texts ++ line ∷ [])
one-text longest texts line each text = All-append (IsText longest) texts (line ∷ []) each (All-cons (IsText longest) line [] text (All-nil (IsText longest)))

needed-more : {A : Type 0} (longest : ℕ) (Says : List ℕ → A → Type 0) (left b : Option (List ℕ)) (s : ReaderState) (taken more : List ℕ) (items : List A)
    → (mid : IsMid longest Says left b s taken items) → (more ≡ []) ⊎ AreNeeded s more → IsNeeded longest (taken ++ more) mid.texts
needed-more longest Says left b s taken more items mid needs =
    subst (λ (n : ℕ). IsNeeded n (taken ++ more) mid.texts) mid.given.limit
    (IsNeeded-more s taken more mid.texts mid.given.split (subst (λ (n : ℕ). IsNeeded n taken mid.texts) (sym mid.given.limit) mid.needed) needs)

-- nothing is no line
no-line : (pending taken line rest : List ℕ) → pending ≡ [] → taken ≡ [] → pending ++ taken ≡ line ++ 10 ∷ rest → ⊥
no-line pending taken line rest none nothing split =
    let a = ap (λ (l : List ℕ). length l) none in
    let b = ap (λ (l : List ℕ). length l) nothing in
    let c = ap (λ (l : List ℕ). length l) split in
    absurd (omega (arith, a, b, c, length-append pending taken, length-append line (10 ∷ rest)))

read-mid : {A : Type 0} (longest : ℕ) (Says : List ℕ → A → Type 0) (left b left' : Option (List ℕ)) (s r : ReaderState) (taken more : List ℕ) (items : List A) (line : List ℕ)
    → IsMid longest Says left b s taken items → Consumes b left' more → r.taken ≡ s.taken + length more → r.longest ≡ s.longest → (more ≡ []) ⊎ AreNeeded s more
    → GivesLine s r more line ⊎ GivesLast s r more line → KnowsEnd r left' → LinePlace longest Says left left' r (taken ++ more) items line
read-mid longest Says left b left' s r taken more items line mid took counted limit needs (inl gives) knows = inl (record {
  texts = mid.texts;
  given = HasGiven-line (fresh longest) s r left b left' taken more line mid.texts mid.given took counted limit gives;
  said = mid.said;
  needed = needed-more longest Says left b s taken more items mid needs;
})
read-mid longest Says left b left' s r taken more items line mid took counted limit needs (inr gives) knows =
    let both = HasGiven-last (fresh longest) s r left b left' taken more line mid.texts mid.given took gives in
    inr (record {
      texts = mid.texts;
      took = both.0;
      split = both.1;
      each = one-text longest mid.texts line mid.given.each (subst (λ (n : ℕ). IsText n line) mid.given.limit gives.text);
      said = mid.said;
      at_end = knows gives.ended;
      empty = gives.emptied;
      ended = gives.ended;
      counted = omega (arith, gives.lines, mid.given.lines);
      needed = needed-more longest Says left b s taken more items mid needs;
    })

read-over : {A : Type 0} (longest : ℕ) (Says : List ℕ → A → Type 0) (left b left' : Option (List ℕ)) (s r : ReaderState) (taken more : List ℕ) (items : List A) (line : List ℕ)
    → IsOver longest Says left b s taken items → more ≡ [] → GivesLine s r more line ⊎ GivesLast s r more line → LinePlace longest Says left left' r (taken ++ more) items line
read-over longest Says left b left' s r taken more items line over nothing (inl gives) = absurd (no-line s.pending more line r.pending over.empty nothing gives.split)
read-over longest Says left b left' s r taken more items line over nothing (inr gives) =
    absurd (gives.nonempty (sym gives.split ∙ ap (λ (l : List ℕ). l ++ more) over.empty ∙ nothing))

-- a line was taken
pub line-read : {A : Type 0} (longest : ℕ) (Says : List ℕ → A → Type 0) (left b left' : Option (List ℕ)) (s r : ReaderState) (taken : List ℕ) (items : List A) (line : List ℕ)
    → Place longest Says left b s taken items → (read : ReadsLine s r b left' (Ok (Some line))) → KnowsEnd r left' → LinePlace longest Says left left' r (taken ++ read.taken) items line
line-read longest Says left b left' s r taken items line (inl mid) read knows =
    read-mid longest Says left b left' s r taken read.taken items line mid read.took read.counted read.limit read.needed read.did knows
line-read longest Says left b left' s r taken items line (inr over) read knows =
    read-over longest Says left b left' s r taken read.taken items line over (read.lazy (inr over.ended)) read.did

-- it is no longer than a line may be
pub line-short : (s r : ReaderState) (b left' : Option (List ℕ)) (line : List ℕ) → ReadsLine s r b left' (Ok (Some line)) → length line ≤ s.longest
line-short s r b left' line read = elim read.did [ inl first ↦ first.text.short | inr last ↦ last.text.short ]

-- where the last line was run, nothing more is taken
took-over : {A : Type 0} (longest : ℕ) (Says : List ℕ → A → Type 0) (left b left' : Option (List ℕ)) (s : ReaderState) (taken more : List ℕ) (items : List A)
    → IsOver longest Says left b s taken items → Consumes b left' more → more ≡ [] → Consumes left left' taken
took-over longest Says left b left' s taken more items over took none =
    subst (λ (l : List ℕ). Consumes left left' l) (ap (λ (l : List ℕ). taken ++ l) none ∙ append-nil taken) (Consumes-trans left b left' taken more over.took took)

whole-over : {A : Type 0} (longest : ℕ) (Says : List ℕ → A → Type 0) (left b left' : Option (List ℕ)) (s : ReaderState) (taken : List ℕ) (items : List A)
    → IsOver longest Says left b s taken items → IsAtEnd left' → IsWhole longest Says left' taken items
whole-over longest Says left b left' s taken items over ended = record {
  texts = over.whole.texts;
  last = over.whole.last;
  each = over.whole.each;
  said = over.whole.said;
  split = over.whole.split;
  ended = ended;
  needed = over.whole.needed;
}

nil-text : (longest : ℕ) → IsText longest []
nil-text longest = record { one_line = All-nil (λ b. b ≢ 10); short = omega arith }

-- the whole script was run
pub none-read : {A : Type 0} (longest : ℕ) (Says : List ℕ → A → Type 0) (left b left' : Option (List ℕ)) (s r : ReaderState) (taken : List ℕ) (items : List A)
    → Place longest Says left b s taken items → ReadsLine s r b left' (Ok None) → KnowsEnd r left' → EndsHere longest Says left left' items Done
none-read longest Says left b left' s r taken items (inl mid) read knows =
    let both = HasGiven-end (fresh longest) s r left b left' taken read.taken mid.texts mid.given read.took read.did in
    record {
      taken = taken;
      took = both.0;
      ends = record {
        texts = mid.texts;
        last = [];
        each = one-text longest mid.texts [] mid.given.each (nil-text longest);
        said = subst (λ (l : List _). Say Says (mid.texts ++ [] ∷ []) l) (append-nil items) (say-then Says mid.texts ([] ∷ []) items [] mid.said refl);
        split = both.1 ∙ sym (append-nil (fed mid.texts));
        ended = knows read.did.ended;
        needed = mid.needed;
      };
    }
none-read longest Says left b left' s r taken items (inr over) read knows = record {
  taken = taken;
  took = took-over longest Says left b left' s taken read.taken items over read.took (read.lazy (inr over.ended));
  ends = whole-over longest Says left b left' s taken items over (knows read.did.ended);
}

abbrev prefix-held : {A : Type 0} (longest : ℕ) (Says : List ℕ → A → Type 0) (left b left' : Option (List ℕ)) (s r : ReaderState) (taken more : List ℕ) (items : List A)
    → (mid : IsMid longest Says left b s taken items) → (more ≡ []) ⊎ AreNeeded s more → HasGiven (fresh longest) r left left' (taken ++ more) mid.texts
    → IsPrefix longest Says (taken ++ more) items
prefix-held longest Says left b left' s r taken more items mid needs given = record {
  texts = mid.texts;
  rest = r.pending;
  each = given.each;
  said = mid.said;
  split = given.split;
  needed = needed-more longest Says left b s taken more items mid needs;
}

-- the next line can't be had after lines with their ends
fault-mid : {A : Type 0} (longest : ℕ) (Says : List ℕ → A → Type 0) (left b left' : Option (List ℕ)) (s r : ReaderState) (taken : List ℕ) (items : List A) (fault : LineFault) (number : ℕ)
    → IsMid longest Says left b s taken items → ReadsLine s r b left' (Err fault) → number ≡ r.lines + 1 → EndsHere longest Says left left' items (status_of fault number)
fault-mid longest Says left b left' s r taken items Source number mid read is =
    let given = HasGiven-held (fresh longest) s r left b left' taken read.taken mid.texts mid.given read.took read.counted read.limit read.did.held in
    record {
      taken = taken ++ read.taken;
      took = given.took;
      ends = record {
        prefix = prefix-held longest Says left b left' s r taken read.taken items mid read.needed given;
        unfinished = subst (λ (n : ℕ). IsText n r.pending) mid.given.limit read.did.unfinished;
      };
    }
fault-mid longest Says left b left' s r taken items Memory number mid read is =
    let given = HasGiven-held (fresh longest) s r left b left' taken read.taken mid.texts mid.given read.took read.counted read.limit read.did in
    record { taken = taken ++ read.taken; took = given.took; ends = inl (prefix-held longest Says left b left' s r taken read.taken items mid read.needed given) }
fault-mid longest Says left b left' s r taken items TooLong number mid read is =
    let given = HasGiven-held (fresh longest) s r left b left' taken read.taken mid.texts mid.given read.took read.counted read.limit read.did.0 in
    record {
      taken = taken ++ read.taken;
      took = given.took;
      ends = inr (record {
        prefix = prefix-held longest Says left b left' s r taken read.taken items mid read.needed given;
        long = subst (λ (n : ℕ). HasLongLine n r.pending) mid.given.limit read.did.1;
        counted = omega (arith, is, given.lines);
      });
    }
fault-mid longest Says left b left' s r taken items Limit number mid read is =
    let given = HasGiven-held (fresh longest) s r left b left' taken read.taken mid.texts mid.given read.took read.counted read.limit read.did.0.held in
    record {
      taken = taken ++ read.taken;
      took = given.took;
      ends = (
        record {
          prefix = prefix-held longest Says left b left' s r taken read.taken items mid read.needed given;
          unfinished = subst (λ (n : ℕ). IsText n r.pending) mid.given.limit read.did.0.unfinished;
        },
        omega (arith, given.counted, read.did.1),
      );
    }

not-both : (b : Bool) → b ≡ true → b ≡ false → ⊥
not-both b p q = cc

no-long : (longest : ℕ) (pending more : List ℕ) → pending ≡ [] → more ≡ [] → HasLongLine longest (pending ++ more) → ⊥
no-long longest pending more none nothing long =
    let a = ap (λ (l : List ℕ). length l) none in
    let b = ap (λ (l : List ℕ). length l) nothing in
    let c = ap (λ (l : List ℕ). length l) long.split in
    absurd (omega (arith, a, b, c, length-append pending more, length-append long.bad long.rest, long.long))

-- and after the script's last line, where memory alone can be wanting
fault-over : {A : Type 0} (longest : ℕ) (Says : List ℕ → A → Type 0) (left b left' : Option (List ℕ)) (s r : ReaderState) (taken : List ℕ) (items : List A) (fault : LineFault) (number : ℕ)
    → IsOver longest Says left b s taken items → ReadsLine s r b left' (Err fault) → KnowsEnd r left' → r.ended ≡ true → EndsHere longest Says left left' items (status_of fault number)
fault-over longest Says left b left' s r taken items Source number over read knows ended = absurd (not-both r.ended ended read.did.open_end)
fault-over longest Says left b left' s r taken items Limit number over read knows ended = absurd (not-both r.ended ended read.did.0.open_end)
fault-over longest Says left b left' s r taken items TooLong number over read knows ended =
    absurd (no-long s.longest s.pending read.taken over.empty (read.lazy (inr over.ended)) (subst (HasLongLine s.longest) read.did.0.waits read.did.1))
fault-over longest Says left b left' s r taken items Memory number over read knows ended = record {
  taken = taken;
  took = took-over longest Says left b left' s taken read.taken items over read.took (read.lazy (inr over.ended));
  ends = inr (whole-over longest Says left b left' s taken items over (knows ended));
}

-- the next line can't be had
pub fault-read : {A : Type 0} (longest : ℕ) (Says : List ℕ → A → Type 0) (left b left' : Option (List ℕ)) (s r : ReaderState) (taken : List ℕ) (items : List A) (fault : LineFault) (number : ℕ)
    → Place longest Says left b s taken items → ReadsLine s r b left' (Err fault) → KnowsEnd r left' → (s.ended ≡ true → r.ended ≡ true) → number ≡ r.lines + 1
    → EndsHere longest Says left left' items (status_of fault number)
fault-read longest Says left b left' s r taken items fault number (inl mid) read knows stays is = fault-mid longest Says left b left' s r taken items fault number mid read is
fault-read longest Says left b left' s r taken items fault number (inr over) read knows stays is =
    fault-over longest Says left b left' s r taken items fault number over read knows (stays over.ended)

-- ---- a line in hand

-- how the bytes split at a line
split-at : (taken pending line : List ℕ) (texts : List (List ℕ)) → taken ≡ fed (texts ++ line ∷ []) ++ pending → taken ≡ fed texts ++ (line ++ 10 ∷ pending)
split-at taken pending line texts is = is ∙ fed-push texts line pending

All-prefix : (longest : ℕ) (xs : List (List ℕ)) (x : List ℕ) → All (IsText longest) (xs ++ x ∷ []) → All (IsText longest) xs
All-prefix longest xs x each = (All-pop (IsText longest) (xs ++ x ∷ []) xs (Some x) refl each).0

-- the lines before it were run
pub prefix-before : {A : Type 0} (longest : ℕ) (Says : List ℕ → A → Type 0) (left left' : Option (List ℕ)) (r : ReaderState) (taken : List ℕ) (items : List A) (line : List ℕ)
    → LinePlace longest Says left left' r taken items line → IsPrefix longest Says taken items
prefix-before longest Says left left' r taken items line (inl read) = record {
  texts = read.texts;
  rest = line ++ 10 ∷ r.pending;
  each = All-prefix longest read.texts line read.given.each;
  said = read.said;
  split = split-at taken r.pending line read.texts read.given.split;
  needed = read.needed;
}
prefix-before longest Says left left' r taken items line (inr last) =
    record { texts = last.texts; rest = line; each = All-prefix longest last.texts line last.each; said = last.said; split = last.split; needed = last.needed }

-- it comes next
pub next-of : {A : Type 0} (longest : ℕ) (Says : List ℕ → A → Type 0) (left left' : Option (List ℕ)) (r : ReaderState) (taken : List ℕ) (items : List A) (line : List ℕ) (number : ℕ)
    → LinePlace longest Says left left' r taken items line → line ≢ [] → number ≡ r.lines → IsNext longest Says left' taken items line number
next-of longest Says left left' r taken items line number (inl read) some is = record {
  texts = read.texts;
  rest = 10 ∷ r.pending;
  each = read.given.each;
  said = read.said;
  split = split-at taken r.pending line read.texts read.given.split;
  ends = refl;
  nonempty = some;
  counted = omega (arith, is, read.given.lines, length-append read.texts (line ∷ []));
  needed = read.needed;
}
next-of longest Says left left' r taken items line number (inr last) some is = record {
  texts = last.texts;
  rest = [];
  each = last.each;
  said = last.said;
  split = last.split ∙ ap (λ (l : List ℕ). fed last.texts ++ l) (sym (append-nil line));
  ends = last.at_end;
  nonempty = some;
  counted = omega (arith, is, last.counted);
  needed = last.needed;
}

pub took-of : {A : Type 0} (longest : ℕ) (Says : List ℕ → A → Type 0) (left left' : Option (List ℕ)) (r : ReaderState) (taken : List ℕ) (items : List A) (line : List ℕ)
    → LinePlace longest Says left left' r taken items line → Consumes left left' taken
took-of longest Says left left' r taken items line (inl read) = read.given.took
took-of longest Says left left' r taken items line (inr last) = last.took

-- and it was run
pub place-then : {A : Type 0} (longest : ℕ) (Says : List ℕ → A → Type 0) (left left' : Option (List ℕ)) (r : ReaderState) (taken : List ℕ) (items more : List A) (line : List ℕ)
    → LinePlace longest Says left left' r taken items line → Say Says (line ∷ []) more → Place longest Says left left' r taken (items ++ more)
place-then longest Says left left' r taken items more line (inl read) said = inl (record {
  texts = read.texts ++ line ∷ [];
  given = read.given;
  said = say-then Says read.texts (line ∷ []) items more read.said said;
  needed = IsNeeded-run longest taken read.texts line read.needed;
})
place-then longest Says left left' r taken items more line (inr last) said = inr (record {
  took = last.took;
  whole = record {
    texts = last.texts;
    last = line;
    each = last.each;
    said = say-then Says last.texts (line ∷ []) items more last.said said;
    split = last.split;
    ended = last.at_end;
    needed = last.needed;
  };
  empty = last.empty;
  ended = last.ended;
})
