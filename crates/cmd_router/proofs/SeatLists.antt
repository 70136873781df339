-- Seats are made one by one, and left one by one.
use Rattle.std.proofs.Common.{◌≡◌, ◌≤◌, ◌<◌, ℕ, List, [], ◌∷◌, ◌++◌, All, map, sym, ap, ◌∙◌, subst, append_assoc}
use Rattle.std.proofs.lemmas.List.{map-append}
use Rattle.std.proofs.lemmas.List.Elements.{All-cons, All-push}
use Rattle.r2_link.specs.Faults.{Rose}
use Rattle.r2_link.specs.Links.{LinkTold, Rejoins, Splits}
use Rattle.r2_link.proofs.Faults.{Rose-then, then-Rose}
use Rattle.cmd_router.specs.Desks.{AreTwins, ComeBack}

-- a seat more, for the next of those that wait
pub seat-more : {X P : Type 0} (f : X → P) (seats seats' : List X) (s : X) (p : P) (waiting waiting' all : List P) → seats' ≡ seats ++ s ∷ [] → f s ≡ p → waiting ≡ p ∷ waiting'
    → map f seats ++ waiting ≡ all → map f seats' ++ waiting' ≡ all
seat-more f seats seats' s p waiting waiting' all more is left k =
    ap (λ l. map f l ++ waiting') more ∙ ap (λ l. l ++ waiting') (map-append f seats (s ∷ [])) ∙ append_assoc (map f seats) (f s ∷ []) waiting'
    ∙ ap (λ x. map f seats ++ x ∷ waiting') is ∙ ap (λ l. map f seats ++ l) (sym left) ∙ k

pub all-more : {X : Type 0} (Q : X → Type 0) (seats seats' : List X) (s : X) → seats' ≡ seats ++ s ∷ [] → All Q seats → Q s → All Q seats'
all-more Q seats seats' s more all q = subst (All Q) (sym more) (All-push Q seats s all q)

-- and a twin more
pub twins-more : {X : Type 0} (t : X → LinkTold) (first old between : LinkTold) (seats seats' : List X) (s : X) → seats' ≡ seats ++ s ∷ [] → Splits old between (t s)
    → ((new : LinkTold) (more : List LinkTold) → AreTwins old new more → AreTwins first new (map t seats ++ more))
    → (new : LinkTold) (more : List LinkTold) → AreTwins between new more → AreTwins first new (map t seats' ++ more)
twins-more t first old between seats seats' s is split before new more are =
    let joined : map t seats' ++ more ≡ map t seats ++ (t s ∷ more) =
    ap (λ l. map t l ++ more) is ∙ ap (λ l. l ++ more) (map-append t seats (s ∷ [])) ∙ append_assoc (map t seats) (t s ∷ []) more in
    subst (AreTwins first new) (sym joined) (before new (t s ∷ more) (between, split, are))

-- a seat less
pub unseat-more : {X P : Type 0} (f : X → P) (passes passes' start : List P) (left left' : List X) (s : X) → left ≡ s ∷ left' → passes' ≡ passes ++ f s ∷ []
    → passes ++ map f left ≡ start → passes' ++ map f left' ≡ start
unseat-more f passes passes' start left left' s is more k =
    ap (λ l. l ++ map f left') more ∙ append_assoc passes (f s ∷ []) (map f left') ∙ ap (λ l. passes ++ map f l) (sym is) ∙ k

pub back-more : {X : Type 0} (t : X → LinkTold) (first old between : LinkTold) (all left left' : List X) (s : X) → left ≡ s ∷ left' → Rejoins old between (t s)
    → ((new : LinkTold) → ComeBack old new (map t left) → ComeBack first new (map t all)) → (new : LinkTold) → ComeBack between new (map t left') → ComeBack first new (map t all)
back-more t first old between all left left' s is rejoins before new back =
    before new (subst (λ l. ComeBack old new (map t l)) (sym is) (between, rejoins, back))

-- a twin that failed makes the link's count rise, however far it has come by then
pub risen-more : {X : Type 0} (f : X → ℕ) (left left' : List X) (s : X) (a b final : ℕ) → left ≡ s ∷ left' → a ≤ b → b ≤ final → (0 < f s → Rose a b)
    → All (λ x. 0 < f x → Rose b final) left' → All (λ x. 0 < f x → Rose a final) left
risen-more f left left' s a b final is steady on risen all =
    subst (All (λ x. 0 < f x → Rose a final)) (sym is)
    (All-cons (λ x. 0 < f x → Rose a final) s left' (λ h. Rose-then a b final (risen h) on) (λ k d lt h. then-Rose a b final steady (all k d lt h)))
