-- Texts, one after another.
use Rattle.std.proofs.Common.{◌≡◌, ℕ, List, [], ◌∷◌, ◌++◌, refl, sym, ap, ◌∙◌, append_assoc, append-nil}
use Rattle.std.proofs.lemmas.List.Concat.{flat_map-append}
use Rattle.cmd_lines.specs.Texts.{fed}

pub fed-append : (xs ys : List (List ℕ)) → fed (xs ++ ys) ≡ fed xs ++ fed ys
unfolding fed
fed-append xs ys = flat_map-append (λ (text : List ℕ). text ++ 10 ∷ []) xs ys

pub fed-none : fed [] ≡ []
unfolding fed
fed-none = refl

pub fed-one : (text : List ℕ) → fed (text ∷ []) ≡ text ++ 10 ∷ []
unfolding fed
fed-one text = append-nil (text ++ 10 ∷ [])

pub fed-cons : (text : List ℕ) (texts : List (List ℕ)) → fed (text ∷ texts) ≡ text ++ 10 ∷ fed texts
unfolding fed
fed-cons text texts = append_assoc text (10 ∷ []) (fed texts)

-- with an end after the last text too, they are texts, each with its end
pub fed-last : (texts : List (List ℕ)) (last : List ℕ) → (fed texts ++ last) ++ 10 ∷ [] ≡ fed (texts ++ last ∷ [])
fed-last texts last =
    append_assoc (fed texts) last (10 ∷ [])
    ∙ ap (λ l. fed texts ++ l) (sym (fed-one last))
    ∙ sym (fed-append texts (last ∷ []))

-- a text more, and what comes after it
pub fed-push : (texts : List (List ℕ)) (text rest : List ℕ) → fed (texts ++ text ∷ []) ++ rest ≡ fed texts ++ (text ++ 10 ∷ rest)
fed-push texts text rest =
    ap (λ l. l ++ rest) (fed-append texts (text ∷ []) ∙ ap (λ l. fed texts ++ l) (fed-one text))
    ∙ append_assoc (fed texts) (text ++ 10 ∷ []) rest
    ∙ ap (λ l. fed texts ++ l) (append_assoc text (10 ∷ []) rest)

-- what waits after some texts, and what comes after that
pub fed-more : (all more pending : List ℕ) (texts : List (List ℕ)) → all ≡ fed texts ++ pending → all ++ more ≡ fed texts ++ (pending ++ more)
fed-more all more pending texts split = ap (λ l. l ++ more) split ∙ append_assoc (fed texts) pending more

-- a line that was handed out of what waits is one text more
pub fed-next : (all more pending pending' line : List ℕ) (texts : List (List ℕ)) → all ≡ fed texts ++ pending → pending ++ more ≡ line ++ 10 ∷ pending'
    → all ++ more ≡ fed (texts ++ line ∷ []) ++ pending'
fed-next all more pending pending' line texts split next =
    fed-more all more pending texts split ∙ ap (λ l. fed texts ++ l) next ∙ sym (fed-push texts line pending')
