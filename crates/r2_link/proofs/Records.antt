-- What records say was sent, where a datagram or a twin's record is appended.
use Rattle.std.proofs.Common.{◌≡◌, ℕ, ◌+◌, ◌-◌, ◌≤◌, List, [], ◌∷◌, ◌++◌, length, map, take, drop, refl, sym, ap, ◌∙◌, append_assoc, length-append, length-drop, arith, subst}
use Rattle.std.specs.Prelude.{All}
use Rattle.std.proofs.lemmas.List.{take_all, take-append-le, drop-append-le, take-map, drop-map, map-append, length-map}
use Rattle.std.proofs.lemmas.List.Elements.{All-push, All-head, All-tail, All-weaker}
use Rattle.std.proofs.Math.Seq.{drop-append_seam}
use Rattle.r2_base.specs.declared.datagram.Datagram.{Datagram}
use Rattle.r2_link.specs.declared.sent.Head.{Head}
use Rattle.r2_link.specs.declared.sent.Joined.{Joined}
use Rattle.r2_link.specs.declared.sent.Joined.TheVariants.{Nobody, Twin'}
use Rattle.r2_link.specs.Sent.{datagram_at, sent_upto, CameWithin}

-- a piece that lies within a prefix is a piece of that prefix
piece-prefix : (start len : ℕ) (xs ys : List ℕ) → start + len ≤ length xs → take len (drop start (xs ++ ys)) ≡ take len (drop start xs)
piece-prefix start len xs ys inside =
    ap (take len) (drop-append-le start xs ys (omega arith)) ∙ take-append-le len (drop start xs) ys (omega (arith, length-drop start xs))

-- a run of what was there before
run-prefix : {A : Type 0} (at n : ℕ) (xs ys : List A) → at ≤ n → n ≤ length xs → take (n - at) (drop at (xs ++ ys)) ≡ take (n - at) (drop at xs)
run-prefix at n xs ys below within =
    ap (take (n - at)) (drop-append-le at xs ys (omega arith)) ∙ take-append-le (n - at) (drop at xs) ys (omega (arith, length-drop at xs))

-- the run up to the end, and one more
run-more : {A : Type 0} (at : ℕ) (xs : List A) (x : A) → at ≤ length xs → take (length xs + 1 - at) (drop at (xs ++ x ∷ [])) ≡ take (length xs - at) (drop at xs) ++ x ∷ []
run-more at xs x within =
    ap (take (length xs + 1 - at)) (drop-append-le at xs (x ∷ []) within)
    ∙ take_all (length xs + 1 - at) (drop at xs ++ x ∷ []) (omega (arith, length-append (drop at xs) (x ∷ []), length-drop at xs))
    ∙ ap (λ l. l ++ x ∷ []) (sym (take_all (length xs - at) (drop at xs) (omega (arith, length-drop at xs))))

-- later datagrams change nothing of the first n
sent_upto-prefix : (n : ℕ) (own more : List Datagram) (joined : Joined) → n ≤ length own → CameWithin n joined → sent_upto n (own ++ more) joined ≡ sent_upto n own joined
sent_upto-prefix n own more Nobody within came = take-append-le n own more within
sent_upto-prefix n own more (Twin' p heads bytes joined at before) within came =
    let earlier = sent_upto-prefix at own more before (omega (arith, came.0)) came.1 in
    let run = run-prefix at n own more came.0 within in
    ap (λ l. l ++ sent_upto (length heads.items) (map (datagram_at bytes.items) heads.items) joined ++ take (n - at) (drop at (own ++ more))) earlier
    ∙ ap (λ l. sent_upto at own before ++ sent_upto (length heads.items) (map (datagram_at bytes.items) heads.items) joined ++ l) run

-- one more datagram comes after all others
sent_upto-more : (own : List Datagram) (d : Datagram) (joined : Joined) → CameWithin (length own) joined
    → sent_upto (length own + 1) (own ++ d ∷ []) joined ≡ sent_upto (length own) own joined ++ d ∷ []
sent_upto-more own d Nobody came =
    take_all (length own + 1) (own ++ d ∷ []) (omega (arith, length-append own (d ∷ [])))
    ∙ ap (λ l. l ++ d ∷ []) (sym (take_all (length own) own (omega arith)))
sent_upto-more own d (Twin' p heads bytes joined at before) came =
    let earlier = sent_upto-prefix at own (d ∷ []) before came.0 came.1 in
    let run = run-more at own d came.0 in
    ap (λ l. l ++ sent_upto (length heads.items) (map (datagram_at bytes.items) heads.items) joined ++ take (length own + 1 - at) (drop at (own ++ d ∷ []))) earlier
    ∙ ap (λ l. sent_upto at own before ++ sent_upto (length heads.items) (map (datagram_at bytes.items) heads.items) joined ++ l) run
    ∙ sym (append_assoc (sent_upto at own before ++ sent_upto (length heads.items) (map (datagram_at bytes.items) heads.items) joined) (take (length own - at) (drop at own)) (d ∷ []))

-- more bytes after them change no datagram
datagrams-prefix : (heads : List Head) (bytes more : List ℕ) → All (λ h. h.start + h.len ≤ length bytes) heads
    → map (datagram_at (bytes ++ more)) heads ≡ map (datagram_at bytes) heads
datagrams-prefix [] bytes more inside = refl
datagrams-prefix (h ∷ heads) bytes more inside =
    let rest = datagrams-prefix heads bytes more (All-tail (λ g. g.start + g.len ≤ length bytes) h heads inside) in
    let piece = piece-prefix h.start h.len bytes more (All-head (λ g. g.start + g.len ≤ length bytes) h heads inside) in
    ap (λ l. record { from = h.from; to = h.to; bytes = l } ∷ map (datagram_at (bytes ++ more)) heads) piece
    ∙ ap (λ l. datagram_at bytes h ∷ l) rest

last-datagram : (bytes : List ℕ) (d : Datagram) → datagram_at (bytes ++ d.bytes) (record { from = d.from; to = d.to; start = length bytes; len = length d.bytes }) ≡ d
last-datagram bytes d =
    ap (λ l. record { from = d.from; to = d.to; bytes = l }) (ap (take (length d.bytes)) (drop-append_seam bytes d.bytes) ∙ take_all (length d.bytes) d.bytes (omega arith))

datagrams-more : (heads : List Head) (bytes : List ℕ) (d : Datagram) (h : Head) → h ≡ record { from = d.from; to = d.to; start = length bytes; len = length d.bytes }
    → All (λ g. g.start + g.len ≤ length bytes) heads
    → map (datagram_at (bytes ++ d.bytes)) (heads ++ h ∷ []) ≡ map (datagram_at bytes) heads ++ d ∷ []
datagrams-more heads bytes d h is inside =
    map-append (datagram_at (bytes ++ d.bytes)) heads (h ∷ [])
    ∙ ap (λ l. l ++ datagram_at (bytes ++ d.bytes) h ∷ []) (datagrams-prefix heads bytes d.bytes inside)
    ∙ ap (λ x. map (datagram_at bytes) heads ++ x ∷ []) (ap (datagram_at (bytes ++ d.bytes)) is ∙ last-datagram bytes d)

-- a datagram that was appended was sent last
pub sent_upto-push : (heads heads' : List Head) (bytes bytes' : List ℕ) (joined : Joined) (d : Datagram) (h : Head)
    → h ≡ record { from = d.from; to = d.to; start = length bytes; len = length d.bytes } → heads' ≡ heads ++ h ∷ [] → bytes' ≡ bytes ++ d.bytes
    → All (λ g. g.start + g.len ≤ length bytes) heads → CameWithin (length heads) joined
    → sent_upto (length heads') (map (datagram_at bytes') heads') joined ≡ sent_upto (length heads) (map (datagram_at bytes) heads) joined ++ d ∷ []
sent_upto-push heads heads' bytes bytes' joined d h is heads-are bytes-are inside came =
    let own = map (datagram_at bytes) heads in
    let size : length own ≡ length heads = length-map heads (datagram_at bytes) in
    let longer : length heads' ≡ length own + 1 = omega (arith, ap length heads-are, length-append heads (h ∷ []), size) in
    let datagrams : map (datagram_at bytes') heads' ≡ own ++ d ∷ [] =
    ap (λ l. map (datagram_at l) heads') bytes-are ∙ ap (map (datagram_at (bytes ++ d.bytes))) heads-are ∙ datagrams-more heads bytes d h is inside in
    ap (λ n. sent_upto n (map (datagram_at bytes') heads') joined) longer
    ∙ ap (λ l. sent_upto (length own + 1) l joined) datagrams
    ∙ sent_upto-more own d joined (subst (λ n. CameWithin n joined) (sym size) came)
    ∙ ap (λ n. sent_upto n own joined ++ d ∷ []) size

pub CameWithin-more : (n m : ℕ) (joined : Joined) → n ≤ m → CameWithin n joined → CameWithin m joined
CameWithin-more n m Nobody below came = tt
CameWithin-more n m (Twin' p heads bytes joined at before) below came = (omega (arith, came.0), came.1)

-- what lies within some bytes lies within more
inside-more : (heads : List Head) (n m : ℕ) → n ≤ m → All (λ g. g.start + g.len ≤ n) heads → All (λ g. g.start + g.len ≤ m) heads
inside-more heads n m below inside = All-weaker (λ g. g.start + g.len ≤ n) (λ g. g.start + g.len ≤ m) (λ g within. omega (arith, within)) heads inside

pub inside-push : (heads : List Head) (h : Head) (n m : ℕ) → n ≤ m → h.start + h.len ≤ m → All (λ g. g.start + g.len ≤ n) heads → All (λ g. g.start + g.len ≤ m) (heads ++ h ∷ [])
inside-push heads h n m below last inside = All-push (λ g. g.start + g.len ≤ m) heads h (inside-more heads n m below inside) last

-- a run of the heads is the heads of the run
pub run-map : (bytes : List ℕ) (heads : List Head) (at n : ℕ) → map (datagram_at bytes) (take n (drop at heads)) ≡ take n (drop at (map (datagram_at bytes) heads))
run-map bytes heads at n =
    sym (ap (take n) (drop-map (datagram_at bytes) at heads) ∙ take-map (datagram_at bytes) n (drop at heads))

-- copies of a run, after what was copied before
pub copied-run : (out new : List Datagram) (bytes : List ℕ) (heads run : List Head) (n : ℕ) (joined : Joined) → joined ≡ Nobody → run ≡ take n (drop 0 heads)
    → new ≡ out ++ map (datagram_at bytes) run → new ≡ out ++ sent_upto n (map (datagram_at bytes) heads) joined
copied-run out new bytes heads run n joined nobody is copied =
    copied ∙ ap (λ l. out ++ l) (ap (map (datagram_at bytes)) is ∙ run-map bytes heads 0 n ∙ sym (ap (sent_upto n (map (datagram_at bytes) heads)) nobody))

-- what was sent before a twin came back, what the twin sent, and what was sent since
pub copied-twin : (out a b new x y : List Datagram) (bytes : List ℕ) (heads run : List Head) (n m at : ℕ) (joined : Joined)
    → sent_upto n (map (datagram_at bytes) heads) joined ≡ x ++ y ++ take (n - at) (drop at (map (datagram_at bytes) heads))
    → a ≡ out ++ x → b ≡ a ++ y → m ≡ n - at → run ≡ take m (drop at heads)
    → new ≡ b ++ map (datagram_at bytes) run → new ≡ out ++ sent_upto n (map (datagram_at bytes) heads) joined
copied-twin out a b new x y bytes heads run n m at joined is first second since run-is third =
    let z = take (n - at) (drop at (map (datagram_at bytes) heads)) in
    let last : map (datagram_at bytes) run ≡ z =
    ap (map (datagram_at bytes)) (run-is ∙ ap (λ k. take k (drop at heads)) since) ∙ run-map bytes heads at (n - at) in
    let before : b ≡ out ++ (x ++ y) = second ∙ ap (λ l. l ++ y) first ∙ append_assoc out x y in
    third ∙ ap (λ l. b ++ l) last ∙ ap (λ l. l ++ z) before ∙ append_assoc out (x ++ y) z ∙ ap (λ l. out ++ l) (sym is)
