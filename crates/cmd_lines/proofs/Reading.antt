-- Calls for the next line, one after another.
use Rattle.std.proofs.Common.{◌≡◌, ℕ, ◌+◌, List, [], ◌∷◌, ◌++◌, length, Option, inl, inr, ◌⊎◌, refl, sym, subst, ap, ◌∙◌, append_assoc, append-nil, length-append, arith}
use Rattle.std.proofs.lemmas.List.Elements.{All-append, All-cons, All-nil}
use Rattle.std.specs.Io.KnownBytes.{Consumes}
use Rattle.r2_link.proofs.Streams.{Consumes-nil, Consumes-trans}
use Rattle.cmd_lines.specs.Texts.{IsText, fed}
use Rattle.cmd_lines.specs.Reader.{ReaderState, AreNeeded, GivesLine, GivesLast, GivesNone, Holds}
use Rattle.cmd_lines.specs.Reading.{HasGiven, IsNeeded}
use Rattle.cmd_lines.proofs.Texts.{fed-none, fed-more, fed-next}

-- before the first call
pub HasGiven-none : (s : ReaderState) (left : Option (List ℕ)) → HasGiven s s left left [] []
HasGiven-none s left = record {
  took = Consumes-nil left;
  counted = omega arith;
  split = append-nil s.pending ∙ ap (λ l. l ++ s.pending) (sym fed-none);
  each = All-nil (IsText s.longest);
  limit = refl;
  lines = omega arith;
}

-- a call that handed out a line with its end after it
pub HasGiven-line : (s t u : ReaderState) (a b c : Option (List ℕ)) (taken more line : List ℕ) (texts : List (List ℕ))
    → HasGiven s t a b taken texts → Consumes b c more → u.taken ≡ t.taken + length more → u.longest ≡ t.longest → GivesLine t u more line
    → HasGiven s u a c (taken ++ more) (texts ++ line ∷ [])
HasGiven-line s t u a b c taken more line texts far took counted limit gave = record {
  took = Consumes-trans a b c taken more far.took took;
  counted = omega (arith, counted, far.counted, length-append taken more);
  split = sym (append_assoc s.pending taken more) ∙ fed-next (s.pending ++ taken) more t.pending u.pending line texts far.split gave.split;
  each = All-append (IsText s.longest) texts (line ∷ []) far.each (All-cons (IsText s.longest) line [] (subst (λ n. IsText n line) far.limit gave.text) (All-nil (IsText s.longest)));
  limit = limit ∙ far.limit;
  lines = omega (arith, gave.lines, far.lines, length-append texts (line ∷ []));
}

-- a call that handed out nothing, and holds what it took
pub HasGiven-held : (s t u : ReaderState) (a b c : Option (List ℕ)) (taken more : List ℕ) (texts : List (List ℕ))
    → HasGiven s t a b taken texts → Consumes b c more → u.taken ≡ t.taken + length more → u.longest ≡ t.longest → Holds t u more
    → HasGiven s u a c (taken ++ more) texts
HasGiven-held s t u a b c taken more texts far took counted limit held = record {
  took = Consumes-trans a b c taken more far.took took;
  counted = omega (arith, counted, far.counted, length-append taken more);
  split = sym (append_assoc s.pending taken more) ∙ fed-more (s.pending ++ taken) more t.pending texts far.split ∙ ap (λ l. fed texts ++ l) (sym held.waits);
  each = far.each;
  limit = limit ∙ far.limit;
  lines = omega (arith, held.lines, far.lines);
}

-- a call that handed out the last line: all that was taken are the lines before, each with its end, and this one without
pub HasGiven-last : (s t u : ReaderState) (a b c : Option (List ℕ)) (taken more line : List ℕ) (texts : List (List ℕ))
    → HasGiven s t a b taken texts → Consumes b c more → GivesLast t u more line
    → (Consumes a c (taken ++ more)) × (s.pending ++ (taken ++ more) ≡ fed texts ++ line)
HasGiven-last s t u a b c taken more line texts far took gave = (
  Consumes-trans a b c taken more far.took took,
  sym (append_assoc s.pending taken more) ∙ fed-more (s.pending ++ taken) more t.pending texts far.split ∙ ap (λ l. fed texts ++ l) gave.split,
)

-- a call that found no more line
pub HasGiven-end : (s t u : ReaderState) (a b c : Option (List ℕ)) (taken more : List ℕ) (texts : List (List ℕ))
    → HasGiven s t a b taken texts → Consumes b c more → GivesNone t u more
    → (Consumes a c taken) × (s.pending ++ taken ≡ fed texts)
HasGiven-end s t u a b c taken more texts far took gave = (
  subst (λ (l : List ℕ). Consumes a c l) (ap (λ l. taken ++ l) gave.nothing_more ∙ append-nil taken) (Consumes-trans a b c taken more far.took took),
  far.split ∙ ap (λ l. fed texts ++ l) gave.nothing ∙ append-nil (fed texts),
)

-- before the first read
pub IsNeeded-none : (longest : ℕ) → IsNeeded longest [] []
unfolding fed
IsNeeded-none longest = record {
  before = [];
  last = [];
  split = refl;
  one_read = omega arith;
  known = [];
  later = [];
  were_run = refl;
  rest = [];
  lines = refl;
  unknown = record { one_line = All-nil _; short = omega arith };
}

-- one more line was run
pub IsNeeded-run : (longest : ℕ) (taken : List ℕ) (run : List (List ℕ)) (line : List ℕ) → IsNeeded longest taken run → IsNeeded longest taken (run ++ line ∷ [])
IsNeeded-run longest taken run line far = record {
  before = far.before;
  last = far.last;
  split = far.split;
  one_read = far.one_read;
  known = far.known;
  later = far.later ++ line ∷ [];
  were_run = ap (λ l. l ++ line ∷ []) far.were_run ∙ append_assoc far.known far.later (line ∷ []);
  rest = far.rest;
  lines = far.lines;
  unknown = far.unknown;
}

-- a call for the next line took some more
pub IsNeeded-more : (t : ReaderState) (taken more : List ℕ) (run : List (List ℕ)) → taken ≡ fed run ++ t.pending → IsNeeded t.longest taken run → (more ≡ []) ⊎ AreNeeded t more
    → IsNeeded t.longest (taken ++ more) run
IsNeeded-more t taken more run split far (inl none) = subst (λ l. IsNeeded t.longest l run) (sym (append-nil taken) ∙ ap (λ l. taken ++ l) (sym none)) far
IsNeeded-more t taken more run split far (inr needs) = record {
  before = taken ++ needs.before;
  last = needs.last;
  split = ap (λ l. taken ++ l) needs.split ∙ sym (append_assoc taken needs.before needs.last);
  one_read = needs.one_read;
  known = run;
  later = [];
  were_run = sym (append-nil run);
  rest = t.pending ++ needs.before;
  lines = fed-more taken needs.before t.pending run split;
  unknown = needs.unknown;
}
