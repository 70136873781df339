-- Giving up requests one after another.
use Rattle.std.proofs.Common.{◌≡◌, ℕ, ◌+◌, ◌<◌, List, [], ◌∷◌, ◌++◌, length, take, get_or, refl, sym, ap, ◌∙◌}
use Rattle.std.specs.List.{flat_map}
use Rattle.std.proofs.lemmas.List.{take_more}
use Rattle.std.proofs.lemmas.List.Elements.{filter-append}
use Rattle.std.proofs.lemmas.Grind.{flat_map-append}
use Rattle.r2_frag.specs.declared.unfinished.Unfinished.{Unfinished}
use Rattle.r2_frag.specs.Assembly.{without}
use Rattle.r2_server.specs.declared.timers.Timer.{Timer}
use Rattle.r2_server.specs.Timers.{due, given_up, is_due, key_for}

-- some are given up, then others
given_up-append : (xs ys : List Timer) (messages : List Unfinished) → given_up (xs ++ ys) messages ≡ given_up ys (given_up xs messages)
unfolding given_up
given_up-append [] ys messages = refl
given_up-append (t ∷ xs) ys messages = given_up-append xs ys (without (key_for t.rid) messages)

due-append : (tick : ℕ) (xs ys : List Timer) → due tick (xs ++ ys) ≡ due tick xs ++ due tick ys
unfolding due
due-append tick xs ys = filter-append (is_due tick) xs ys

-- one more is looked at
pub due-more : (tick : ℕ) (ts : List Timer) (i : ℕ) (d : Timer) → i < length ts → due tick (take (i + 1) ts) ≡ due tick (take i ts) ++ due tick (get_or ts i d ∷ [])
due-more tick ts i d h = ap (due tick) (take_more ts i d h) ∙ due-append tick (take i ts) (get_or ts i d ∷ [])

-- the messages that are left then
pub given_up-more : (tick : ℕ) (ts : List Timer) (i : ℕ) (d : Timer) (messages left next : List Unfinished) → i < length ts
    → left ≡ given_up (due tick (take i ts)) messages → next ≡ given_up (due tick (get_or ts i d ∷ [])) left
    → next ≡ given_up (due tick (take (i + 1) ts)) messages
given_up-more tick ts i d messages left next h before step =
    step
    ∙ ap (given_up (due tick (get_or ts i d ∷ []))) before
    ∙ sym (ap (λ late. given_up late messages) (due-more tick ts i d h) ∙ given_up-append (due tick (take i ts)) (due tick (get_or ts i d ∷ [])) messages)

-- and what has been sent for them
pub sent-more : {A : Type 0} (f : Timer → List A) (tick : ℕ) (ts : List Timer) (i : ℕ) (d : Timer) (sent next : List A) → i < length ts
    → sent ≡ flat_map f (due tick (take i ts)) → next ≡ sent ++ flat_map f (due tick (get_or ts i d ∷ []))
    → next ≡ flat_map f (due tick (take (i + 1) ts))
sent-more f tick ts i d sent next h before step =
    step
    ∙ ap (λ (s : List _). s ++ flat_map f (due tick (get_or ts i d ∷ []))) before
    ∙ sym (ap (flat_map f) (due-more tick ts i d h) ∙ flat_map-append f (due tick (take i ts)) (due tick (get_or ts i d ∷ [])))
