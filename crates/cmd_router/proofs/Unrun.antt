-- What is left of a link whose twins were made and taken back, and none was run.
use Rattle.std.proofs.Common.{◌≡◌, ◌<◌, ◌≤◌, ◌++◌, ℕ, List, [], ◌∷◌, Option, Some, None, All, drop, length, length-append, map, refl, sym, ap, ◌∙◌, append-nil, subst, arith}
use Rattle.std.proofs.lemmas.List.Elements.{All-head, All-tail}
use Rattle.std.proofs.lemmas.List.{length-map}
use Rattle.r2_base.specs.declared.datagram.Datagram.{Datagram}
use Rattle.r2_link.specs.declared.lane.Item.{Item}
use Rattle.r2_link.specs.Links.{LinkPasses, LinkTold}
use Rattle.r2_link.specs.Told.{IsKept, Takes}
use Rattle.r2_link.proofs.Links.{LinkPasses-nothing}
use Rattle.r2_link.proofs.Told.{IsKept-trans}
use Rattle.cmd_router.specs.Desks.{AreTwins, ComeBack}
use Rattle.cmd_router.specs.Loops.{LosesLanes, NoneRan}
use Rattle.cmd_router.proofs.Threads.{back-lanes, back-left, back-me, gains-some, joins-some, kept-some, twins-lanes, twins-left, twins-me, twins-unsent}

-- so it is told, or nothing is
to-kept : {A : Type 0} (a b : Option A) → ((x : A) → a ≡ Some x → b ≡ Some x) → IsKept a b
to-kept None b told = tt
to-kept (Some x) None told = let e = told x refl in absurd cc
to-kept (Some x) (Some y) told = let e = told x refl in cc

to-loses : (n : ℕ) (a b : Option (List (List Item))) → ((lanes : List (List Item)) → a ≡ Some lanes → b ≡ Some (drop n lanes)) → LosesLanes n a b
to-loses n None b told = tt
to-loses n (Some x) None told = let e = told x refl in absurd cc
to-loses n (Some x) (Some y) told = let e = told x refl in cc

-- nothing was taken
taken-none : (a b : Option (List Item)) → Takes a b [] → IsKept a b
taken-none None b took = tt
taken-none (Some x) None took = absurd took
taken-none (Some x) (Some y) took = sym took

-- twins that sent nothing leave nothing that was sent
back-unsent : (old new : LinkTold) (twins : List LinkTold) (xs : List Datagram) → ComeBack old new twins → All (λ (t : LinkTold). t.sent ≡ Some []) twins → old.sent ≡ Some xs
    → new.sent ≡ Some xs
back-unsent old new [] xs back none e = ap (λ (t : LinkTold). t.sent) back ∙ e
back-unsent old new (t ∷ more) xs back none e =
    let joined = joins-some old.sent back.0.sent t.sent xs [] back.1.sent e (All-head (λ (u : LinkTold). u.sent ≡ Some []) t more none) in
    back-unsent back.0 new more xs back.2 (All-tail (λ (u : LinkTold). u.sent ≡ Some []) t more none) (joined ∙ ap Some (append-nil xs))

-- twins were made, one more was refused, and all were taken back
pub none-ran : (workers : ℕ) (old mid refused new : LinkTold) (twins : List LinkTold) → length twins < workers → AreTwins old mid twins → LinkPasses mid refused [] []
    → ComeBack refused new twins → NoneRan workers old new
none-ran workers old mid refused new twins fewer are none back = record {
  left = IsKept-trans old.left mid.left new.left (twins-left old mid twins are)
      (IsKept-trans mid.left refused.left new.left (taken-none mid.left refused.left none.took) (back-left refused new twins back));
  sent = to-kept old.sent new.sent (λ xs e.
      let unsent = twins-unsent old mid twins xs are e in
      back-unsent refused new twins xs back unsent.0 (gains-some mid.sent refused.sent xs [] none.gave unsent.1 ∙ ap Some (append-nil xs)));
  me = back-me refused new twins back ∙ none.me ∙ twins-me old mid twins are;
  made = length twins;
  fewer = fewer;
  lanes = to-loses (length twins) old.lanes new.lanes (λ lanes e.
      let left = twins-lanes old mid twins lanes are e in
      kept-some refused.lanes new.lanes (drop (length twins) lanes) (back-lanes refused new twins back)
      (kept-some mid.lanes refused.lanes (drop (length twins) lanes) none.lanes left.1));
}

-- not even one was made
pub none-began : (workers : ℕ) (a : LinkTold) → 1 ≤ workers → NoneRan workers a a
none-began workers a some = none-ran workers a a a a [] (omega (arith, some)) refl (LinkPasses-nothing a) refl

-- seats were taken for the first of some passes, and left again
fewer-made : {X P : Type 0} (f : X → P) (seats : List X) (waiting waiting' all : List P) (p : P) → waiting ≡ p ∷ waiting' → map f seats ++ waiting ≡ all → length seats < length all
fewer-made f seats waiting waiting' all p is k =
    let one = ap length is in
    let both = length-append (map f seats) waiting in
    let long = ap length k in
    omega (arith, one, both, long, length-map seats f)

pub seats-left : {X P : Type 0} (f : X → P) (t : X → LinkTold) (seats : List X) (waiting waiting' all : List P) (p : P) → waiting ≡ p ∷ waiting' → map f seats ++ waiting ≡ all
    → (first mid refused last : LinkTold) → ((new : LinkTold) (more : List LinkTold) → AreTwins mid new more → AreTwins first new (map t seats ++ more))
    → LinkPasses mid refused [] [] → ComeBack refused last (map t seats) → NoneRan (length all) first last
seats-left f t seats waiting waiting' all p is k first mid refused last twins none back =
    let fewer = fewer-made f seats waiting waiting' all p is k in
    none-ran (length all) first mid refused last (map t seats) (omega (arith, fewer, length-map seats t))
    (subst (AreTwins first mid) (append-nil (map t seats)) (twins mid [] refl)) none back
