-- What twins that were made beside a link and came back to it leave there.
use Rattle.std.proofs.Common.{◌≡◌, ℕ, ◌+◌, List, [], ◌∷◌, ◌++◌, Option, Some, None, All, length, drop, refl, sym, ap, ◌∙◌, subst, append_assoc, append-nil, drop-drop, arith}
use Rattle.std.proofs.lemmas.List.Elements.{All-cons, All-nil}
use Rattle.r2_base.specs.declared.datagram.Datagram.{Datagram}
use Rattle.r2_link.specs.declared.lane.Item.{Item}
use Rattle.r2_link.specs.Links.{LinkTold}
use Rattle.r2_link.specs.Told.{Gains, HasFirst, HasNone, IsKept, Joins, LosesFirst, RanDry, Takes, first_list}
use Rattle.r2_link.proofs.Told.{IsKept-refl, IsKept-trans}
use Rattle.cmd_status.specs.declared.status.Status.TheVariants.{Done}
use Rattle.cmd_router.specs.Desks.{AreTwins, ComeBack}
use Rattle.cmd_router.specs.Works.{TakeLanes, TakeToldLanes, TakesLane, Work, all_sent}

-- of what is told
pub kept-some : {A : Type 0} (a b : Option A) (x : A) → IsKept a b → a ≡ Some x → b ≡ Some x
kept-some None b x kept e = absurd cc
kept-some (Some y) None x kept e = absurd kept
kept-some (Some y) (Some z) x kept e = ap Some kept ∙ e

pub none-some : {A : Type 0} (a b : Option (List A)) (x : List A) → HasNone a b → a ≡ Some x → b ≡ Some []
none-some None b x none e = absurd cc
none-some (Some y) None x none e = absurd none
none-some (Some y) (Some z) x none e = ap Some none

pub gains-some : {A : Type 0} (a b : Option (List A)) (x more : List A) → Gains a b more → a ≡ Some x → b ≡ Some (x ++ more)
gains-some None b x more gave e = absurd cc
gains-some (Some y) None x more gave e = absurd gave
gains-some (Some y) (Some z) x more gave e = let same : y ≡ x = cc in ap Some (gave ∙ ap (λ l. l ++ more) same)

pub joins-some : {A : Type 0} (a b m : Option (List A)) (x more : List A) → Joins a b m → a ≡ Some x → m ≡ Some more → b ≡ Some (x ++ more)
joins-some a b None x more joined e f = absurd cc
joins-some a b (Some m) x more joined e f = let same : m ≡ more = cc in gains-some a b x more (subst (Gains a b) same joined) e

first-some : {A : Type 0} (a : Option (List (List A))) (b : Option (List A)) (x : List (List A)) → HasFirst a b → a ≡ Some x → b ≡ Some (first_list x)
first-some None b x first e = absurd cc
first-some (Some y) None x first e = absurd first
first-some (Some y) (Some z) x first e = let same : y ≡ x = cc in ap Some (first ∙ ap first_list same)

loses-some : {A : Type 0} (a b : Option (List A)) (x : List A) → LosesFirst a b → a ≡ Some x → b ≡ Some (drop 1 x)
loses-some None b x lost e = absurd cc
loses-some (Some y) None x lost e = absurd lost
loses-some (Some y) (Some z) x lost e = let same : y ≡ x = cc in ap Some (lost ∙ ap (drop 1) same)

-- the twins were told to have sent nothing, and have the lanes in their order
pub twins-unsent : (old new : LinkTold) (twins : List LinkTold) (xs : List Datagram) → AreTwins old new twins → old.sent ≡ Some xs
    → All (λ (t : LinkTold). t.sent ≡ Some []) twins × (new.sent ≡ Some xs)
twins-unsent old new [] xs are e = (All-nil (λ (t : LinkTold). t.sent ≡ Some []), ap (λ (t : LinkTold). t.sent) are ∙ e)
twins-unsent old new (t ∷ more) xs are e =
    let split = are.1 in
    let rest = twins-unsent are.0 new more xs are.2 (kept-some old.sent are.0.sent xs split.sent e) in
    (All-cons (λ (u : LinkTold). u.sent ≡ Some []) t more (none-some old.sent t.sent xs split.unsent e) rest.0, rest.1)

abbrev pub HaveLanes : List (List Item) → List LinkTold → Type 0
HaveLanes lanes [] = Unit {0}
HaveLanes lanes (t ∷ more) = (t.left ≡ Some (first_list lanes)) × HaveLanes (drop 1 lanes) more

pub twins-lanes : (old new : LinkTold) (twins : List LinkTold) (lanes : List (List Item)) → AreTwins old new twins → old.lanes ≡ Some lanes
    → HaveLanes lanes twins × (new.lanes ≡ Some (drop (length twins) lanes))
twins-lanes old new [] lanes are e = (tt, ap (λ (t : LinkTold). t.lanes) are ∙ e)
twins-lanes old new (t ∷ more) lanes are e =
    let split = are.1 in
    let one : 1 + length more ≡ length (t ∷ more) = omega arith in
    let rest = twins-lanes are.0 new more (drop 1 lanes) are.2 (loses-some old.lanes are.0.lanes lanes split.lanes e) in
    ((first-some old.lanes t.left lanes split.lane e, rest.0), rest.1 ∙ ap Some (drop-drop (length more) 1 lanes ∙ ap (λ (k : ℕ). drop k lanes) one))

-- what the link itself has to receive stays, and so does its address
pub twins-left : (old new : LinkTold) (twins : List LinkTold) → AreTwins old new twins → IsKept old.left new.left
twins-left old new [] are = subst (λ (t : LinkTold). IsKept old.left t.left) (sym are) (IsKept-refl old.left)
twins-left old new (t ∷ more) are = IsKept-trans old.left are.0.left new.left are.1.left (twins-left are.0 new more are.2)

pub twins-me : (old new : LinkTold) (twins : List LinkTold) → AreTwins old new twins → new.me ≡ old.me
twins-me old new [] are = ap (λ (t : LinkTold). t.me) are
twins-me old new (t ∷ more) are = twins-me are.0 new more are.2 ∙ are.1.me

pub back-left : (old new : LinkTold) (twins : List LinkTold) → ComeBack old new twins → IsKept old.left new.left
back-left old new [] back = subst (λ (t : LinkTold). IsKept old.left t.left) (sym back) (IsKept-refl old.left)
back-left old new (t ∷ more) back = IsKept-trans old.left back.0.left new.left back.1.left (back-left back.0 new more back.2)

pub back-lanes : (old new : LinkTold) (twins : List LinkTold) → ComeBack old new twins → IsKept old.lanes new.lanes
back-lanes old new [] back = subst (λ (t : LinkTold). IsKept old.lanes t.lanes) (sym back) (IsKept-refl old.lanes)
back-lanes old new (t ∷ more) back = IsKept-trans old.lanes back.0.lanes new.lanes back.1.lanes (back-lanes back.0 new more back.2)

pub back-me : (old new : LinkTold) (twins : List LinkTold) → ComeBack old new twins → new.me ≡ old.me
back-me old new [] back = ap (λ (t : LinkTold). t.me) back
back-me old new (t ∷ more) back = back-me back.0 new more back.2 ∙ back.1.me

-- each twin was told to have sent what its worker did
abbrev pub HaveSent : List LinkTold → List Work → Type 0
HaveSent [] [] = Unit {0}
HaveSent (t ∷ more) (w ∷ works) = (t.sent ≡ Some w.sends) × HaveSent more works
HaveSent _ _ = ⊥

pub back-sent : (old new : LinkTold) (twins : List LinkTold) (works : List Work) (xs : List Datagram) → ComeBack old new twins → HaveSent twins works → old.sent ≡ Some xs
    → new.sent ≡ Some (xs ++ all_sent works)
back-sent old new [] [] xs back sent e = ap (λ (t : LinkTold). t.sent) back ∙ e ∙ ap Some (sym (append-nil xs))
back-sent old new [] (w ∷ works) xs back sent e = absurd sent
back-sent old new (t ∷ more) [] xs back sent e = absurd sent
back-sent old new (t ∷ more) (w ∷ works) xs back sent e =
    back-sent back.0 new more works (xs ++ w.sends) back.2 sent.1 (joins-some old.sent back.0.sent t.sent xs w.sends back.1.sent e sent.0)
    ∙ ap Some (append_assoc xs w.sends (all_sent works))

-- so it is told, or nothing is
pub to-gains : {A : Type 0} (a b : Option (List A)) (more : List A) → ((x : List A) → a ≡ Some x → b ≡ Some (x ++ more)) → Gains a b more
to-gains None b more told = tt
to-gains (Some x) None more told = let e = told x refl in absurd cc
to-gains (Some x) (Some y) more told = let e = told x refl in cc

pub to-lanes : (a b : Option (List (List Item))) (works : List Work)
    → ((lanes : List (List Item)) → a ≡ Some lanes → TakeLanes lanes works × (b ≡ Some (drop (length works) lanes))) → TakeToldLanes a b works
to-lanes None b works told = tt
to-lanes (Some x) None works told = let e = (told x refl).1 in absurd cc
to-lanes (Some x) (Some y) works told = let e = (told x refl).1 in ((told x refl).0, cc)

-- a worker took what it received from its lane
pub lane-taken : (a b : Option (List Item)) (lane : List Item) (w : Work) → Takes a b w.items → (w.ended ≡ Done → RanDry a b) → a ≡ Some lane → TakesLane lane w
lane-taken None b lane w took dry e = absurd cc
lane-taken (Some x) None lane w took dry e = absurd took
lane-taken (Some x) (Some rest) lane w took dry e =
    let same : lane ≡ x = cc in record { rest = rest; taken = same ∙ took; all = λ done. dry done }
