-- Lists of texts joined by commas, part by part.
use Rattle.std.proofs.Common.{◌≡◌, ◌≢◌, ℕ, ◌+◌, ◌<◌, ◌≤◌, ◌^◌, ◌/◌, ◌%◌, ◌==◌, zero, suc, List, [], ◌∷◌, ◌++◌, length, map, take, get_or, All, Any, false, refl, sym, ap, subst, ◌∙◌, arith, decimal, Bor}
use Rattle.std.specs.Int.{byte_at}
use Rattle.std.specs.List.{slice_split}
use Rattle.std.proofs.lemmas.Bool.{ne_eqb}
use Rattle.std.proofs.lemmas.List.{get_or-map, length-map, map-append, take-map, take_more}
use Rattle.std.proofs.lemmas.List.Elements.{All-append, All-cons, All-head, All-map, All-nil, All-push, All-tail, All-take}
use Rattle.std.proofs.lemmas.List.Splits.{join_with_byte-slice_split, length-slice_split, slice_split_at, slice_split_none}
use Rattle.r2_base.specs.declared.addr.Addr.{Addr}
use Rattle.r2_base.specs.Addr.{IsAddrText, addr_text, ip_text}
use Rattle.r2_base.proofs.Decimals.{decimal_without}
use Rattle.hc_replier.specs.Bounds.{most_bound}
use Rattle.hc_text.specs.Texts.{IsAddrList, IsBoundList, with_commas}

-- ---- texts without a comma

abbrev pub NoComma : List ℕ → Type 0
NoComma text = All (λ b. b ≢ 44) text

both : (x y : List ℕ) → NoComma x → NoComma y → NoComma (x ++ y)
both x y first second = All-append (λ b. b ≢ 44) x y first second

one_other : (b : ℕ) → b ≢ 44 → NoComma (b ∷ [])
one_other b other = All-cons (λ b. b ≢ 44) b [] other (All-nil (λ b. b ≢ 44))

pub number_has_no_comma : (n : ℕ) → n < 2 ^ 64 → NoComma (decimal n)
number_has_no_comma n fits = decimal_without 44 n fits refl

byte_has_no_comma : (below n : ℕ) → NoComma (decimal (byte_at below n))
byte_has_no_comma zero n = number_has_no_comma (n % 256) (omega arith)
byte_has_no_comma (suc below) n = number_has_no_comma (n / 256 ^ suc below % 256) (omega arith)

ip_has_no_comma : (ip : ℕ) → NoComma (ip_text ip)
unfolding ip_text
ip_has_no_comma ip =
    let dot = one_other 46 (λ (same : 46 ≡ 44). absurd (omega arith)) in
    let first = both _ _ (byte_has_no_comma 3 ip) dot in
    let second = both _ _ (both _ _ first (byte_has_no_comma 2 ip)) dot in
    let third = both _ _ (both _ _ second (byte_has_no_comma 1 ip)) dot in
    both _ _ third (byte_has_no_comma 0 ip)

pub address_has_no_comma : (a : Addr) → IsAddrText a (addr_text a) → NoComma (addr_text a)
unfolding addr_text
address_has_no_comma a named =
    let colon = one_other 58 (λ (same : 58 ≡ 44). absurd (omega arith)) in
    let front = both _ _ (ip_has_no_comma a.ip) colon in
    both _ _ front (number_has_no_comma a.port (omega (arith, named.port_fits)))

-- ---- the parts of a text between its commas

abbrev pub parts : List ℕ → List (List ℕ)
parts text = slice_split (λ b. b == 44) text

no_cut : (text : List ℕ) → NoComma text → All (λ b. (b == 44) ≡ false) text
no_cut text none = λ k d inside. ne_eqb (get_or text k d) 44 (none k d inside)

-- a text that joins some without a comma has these as its parts
pub parts-joined : (texts : List (List ℕ)) → All NoComma texts → 0 < length texts → parts (with_commas texts) ≡ texts
parts-joined [] none some = absurd (omega arith)
parts-joined (x ∷ []) none some = slice_split_none (λ b. b == 44) x (no_cut x (All-head NoComma x [] none))
parts-joined (x ∷ y ∷ texts) none some =
    slice_split_at (λ b. b == 44) x 44 (with_commas (y ∷ texts)) (no_cut x (All-head NoComma x (y ∷ texts) none)) refl
    ∙ ap (λ l. x ∷ l) (parts-joined (y ∷ texts) (All-tail NoComma x (y ∷ texts) none) (omega arith))

pub parts-number : (n : ℕ) → n < 2 ^ 64 → parts (decimal n) ≡ decimal n ∷ []
parts-number n fits = slice_split_none (λ b. b == 44) (decimal n) (no_cut (decimal n) (number_has_no_comma n fits))

pub parts-some : (text : List ℕ) → 0 < length (parts text)
parts-some text = omega (arith, length-slice_split (λ b. b == 44) text)

pub joined-parts : (text : List ℕ) → text ≡ with_commas (parts text)
joined-parts text = sym (join_with_byte-slice_split 44 text)

-- ---- items that were read of the first parts

module _ {X : Type 0} (Fits : X → Type 0) (text_of : X → List ℕ) where
  -- each fits, and they have these texts
  pub record AreRead (texts : List (List ℕ)) (items : List X) : Type 0 where
    pub fit : All Fits items
    pub spelled : map text_of items ≡ texts

  pub read_none : (texts : List (List ℕ)) (items : List X) → items ≡ [] → AreRead (take 0 texts) items
  read_none texts items is = subst (AreRead (take 0 texts)) (sym is) (record { fit = All-nil Fits; spelled = refl })

  pub read_one : (texts : List (List ℕ)) (i : ℕ) (items after : List X) (x : X) (text d : List ℕ) → AreRead (take i texts) items → i < length texts → text ≡ get_or texts i d
      → Fits x → text ≡ text_of x → after ≡ items ++ x ∷ [] → AreRead (take (i + 1) texts) after
  read_one texts i items after x text d read inside here fits spelled is =
      subst (AreRead (take (i + 1) texts)) (sym is) (record {
        fit = All-push Fits items x read.fit fits;
        spelled = map-append text_of items (x ∷ []) ∙ ap (λ l. l ++ text_of x ∷ []) read.spelled ∙ ap (λ t. take i texts ++ t ∷ []) (sym spelled ∙ here) ∙ sym (take_more texts i d inside);
      })

  -- where no two that fit have one text, items are known by their texts
  pub same_items : ((x y : X) → Fits x → Fits y → text_of x ≡ text_of y → x ≡ y) → (xs ys : List X) → All Fits xs → All Fits ys → map text_of xs ≡ map text_of ys → xs ≡ ys
  same_items known [] [] fit fit' same = refl
  same_items known [] (y ∷ ys) fit fit' same = absurd (omega (arith, ap length same))
  same_items known (x ∷ xs) [] fit fit' same = absurd (omega (arith, ap length same))
  same_items known (x ∷ xs) (y ∷ ys) fit fit' same =
      let head : text_of x ≡ text_of y = cc in
      let tail : map text_of xs ≡ map text_of ys = cc in
      let first = known x y (All-head Fits x xs fit) (All-head Fits y ys fit') head in
      let others = same_items known xs ys (All-tail Fits x xs fit) (All-tail Fits y ys fit') tail in
      λ i. first i ∷ others i

  -- what was read of the first parts of a list's text is its beginning
  pub begins : ((x y : X) → Fits x → Fits y → text_of x ≡ text_of y → x ≡ y) → (texts : List (List ℕ)) (i : ℕ) (items list : List X) → AreRead (take i texts) items
      → All Fits list → map text_of list ≡ texts → items ≡ take i list
  begins known texts i items list read fit spelled =
      same_items known items (take i list) read.fit (All-take Fits i list fit) (read.spelled ∙ ap (take i) (sym spelled) ∙ take-map text_of i list)

  -- the next part is the text of the next item
  pub next_text : (texts : List (List ℕ)) (list : List X) (i : ℕ) (x : X) (d : List ℕ) → map text_of list ≡ texts → i < length texts → get_or texts i d ≡ text_of (get_or list i x)
  next_text texts list i x d spelled inside =
      ap (λ l. get_or l i d) (sym spelled) ∙ get_or-map text_of list i x d (omega (arith, ap length spelled, length-map list text_of))

-- as many parts as items
pub as_many : {X : Type 0} (text_of : X → List ℕ) (pieces : List (Bor (List ℕ))) (texts : List (List ℕ)) (items : List X) → map (λ x. x.now) pieces ≡ texts
    → texts ≡ map text_of items → length pieces ≡ length items
as_many text_of pieces texts items are spelled =
    sym (length-map pieces (λ x. x.now)) ∙ ap length (are ∙ spelled) ∙ length-map items text_of

-- ---- addresses

abbrev pub IsNamed : Addr → Type 0
IsNamed a = IsAddrText a (addr_text a)

pub parts-addrs : {most : ℕ} (addrs : List Addr) (text : List ℕ) → IsAddrList most addrs text → parts text ≡ map addr_text addrs
parts-addrs addrs text is =
    ap parts is.joined ∙ parts-joined (map addr_text addrs) (All-map NoComma addr_text addrs (λ k d inside. address_has_no_comma _ (is.named k d inside)))
    (omega (arith, is.some, length-map addrs addr_text))

-- ---- bounds

abbrev pub FitsBound : ℕ → Type 0
FitsBound n = n ≤ most_bound

some_inside : {X : Type 0} (P : X → Type 0) (xs : List X) → Any P xs → 0 < length xs
some_inside P xs any = omega (arith, any.2)

pub parts-bounds : {members : ℕ} (bounds text : List ℕ) → IsBoundList members bounds text → parts text ≡ map decimal bounds
parts-bounds bounds text is =
    ap parts is.joined
    ∙ parts-joined (map decimal bounds) (All-map NoComma decimal bounds (λ k d inside. number_has_no_comma _ (omega (arith, is.valid.each k d inside))))
    (omega (arith, some_inside (λ b. 0 < b) bounds is.valid.some, length-map bounds decimal))
