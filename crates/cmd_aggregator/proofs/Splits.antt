-- The last turn of a loop without ticks: it is that of the last item, or one after the end.
use Rattle.std.proofs.Common.{◌≡◌, ℕ, zero, suc, List, [], ◌∷◌, ◌++◌, refl, ap, ◌∙◌, append-nil}
use Rattle.std.specs.Prelude.{map}
use Rattle.r2_base.specs.declared.event.Event.{Event}
use Rattle.r2_link.specs.declared.lane.Item.{Item}
use Rattle.cmd_loop.specs.Events.{event_of}
use Rattle.cmd_loop.specs.Happenings.{Happening, Came, Closing, came, closed, events_of}
use Rattle.cmd_loop.specs.Plain.{events_of_more}

pub events_of-came : (es : List Event) → events_of (came es) ≡ es
events_of-came [] = refl
events_of-came (e ∷ es) = ap (λ (l : List Event). e ∷ l) (events_of-came es)

pub events_of-closed : (n : ℕ) (hs : List Happening) → events_of (closed n hs) ≡ events_of hs
events_of-closed zero hs = refl
events_of-closed (suc n) hs = events_of_more (closed n hs) (Closing ∷ []) ∙ append-nil (events_of (closed n hs)) ∙ events_of-closed n hs

-- lists that end are the same up to the end
pub same_before : (xs ys : List Happening) (x y : Happening) → xs ++ x ∷ [] ≡ ys ++ y ∷ [] → xs ≡ ys
same_before [] [] x y e = refl
same_before [] (h ∷ []) x y e = absurd cc
same_before [] (h ∷ k ∷ ys) x y e = absurd cc
same_before (h ∷ []) [] x y e = absurd cc
same_before (h ∷ k ∷ xs) [] x y e = absurd cc
same_before (h ∷ xs) (k ∷ ys) x y e =
    let tails : xs ++ x ∷ [] ≡ ys ++ y ∷ [] = cc in
    let heads : h ≡ k = cc in
    let rest = same_before xs ys x y tails in
    cc

-- the last of these happenings is that of the last item
pub record EndsWith (items : List Item) (before : List Happening) : Type 0 where
  pub first : List Item
  pub last : Item
  pub last_of : items ≡ first ++ last ∷ []
  pub same : events_of before ≡ map event_of first

ends_more : (item : Item) (items : List Item) (h : Happening) (before : List Happening) → h ≡ Came (event_of item) → EndsWith items before → EndsWith (item ∷ items) (h ∷ before)
ends_more item items h before is ends = record {
  first = item ∷ ends.first;
  last = ends.last;
  last_of = ap (λ (l : List Item). item ∷ l) ends.last_of;
  same = rw is (ap (λ (l : List Event). event_of item ∷ l) ends.same);
}

pub came-last : (items : List Item) (before : List Happening) (last : Happening) → came (map event_of items) ≡ before ++ last ∷ [] → EndsWith items before
came-last [] [] last e = absurd cc
came-last [] (h ∷ before) last e = absurd cc
came-last (item ∷ []) [] last e = record { first = []; last = item; last_of = refl; same = refl }
came-last (item ∷ next ∷ items) [] last e = absurd cc
came-last (item ∷ items) (h ∷ before) last e =
    let heads : h ≡ Came (event_of item) = cc in
    let tails : came (map event_of items) ≡ before ++ last ∷ [] = cc in
    ends_more item items h before heads (came-last items before last tails)
