-- What the readers of lists keep, part by part.
use Rattle.std.proofs.Common.{◌≡◌, ◌≢◌, ℕ, ◌+◌, ◌<◌, ◌≤◌, List, [], ◌∷◌, ◌++◌, length, map, take, get_or, All, AllPairs, Bor, refl, sym, ap, subst, ◌∙◌, arith, decimal, Result, MatchResult}
use Rattle.std.proofs.lemmas.List.{get_or-map, get_or-take, get_or_default, length-map, length-take-le, take_all}
use Rattle.std.proofs.lemmas.List.Quantifiers.{all_pairs_push}
use Rattle.r2_base.specs.declared.addr.Addr.{Addr}
use Rattle.r2_base.specs.Addr.{IsAddrText, addr_text}
use Rattle.hc_replier.specs.Bounds.{AreBounds}
use Rattle.cmd_script.specs.declared.text_fault.TextFault.{TextFault}
use Rattle.cmd_script.specs.declared.text_fault.TextFault.TheVariants.{Memory}
use Rattle.hc_text.specs.Texts.{IsAddrList, IsBoundList, with_commas}
use Rattle.hc_text.proofs.Lists.{AreRead, FitsBound, IsNamed, as_many, begins, joined-parts, next_text, parts, parts-addrs, parts-bounds, parts-some, read_one, same_items}
use Rattle.hc_text.proofs.SameTexts.{addr_known, bound_known}

abbrev pub texts : List (Bor (List ℕ)) → List (List ℕ)
texts pieces = map (λ x. x.now) pieces

-- the text of a piece is that of the part
text_at : (pieces : List (Bor (List ℕ))) (i : ℕ) (d : Bor (List ℕ)) (text : List ℕ) → i < length pieces → text ≡ (get_or pieces i d).now → text ≡ get_or (texts pieces) i []
text_at pieces i d text inside here = here ∙ sym (get_or-map (λ (x : Bor (List ℕ)). x.now) pieces i d [] inside)

within : (pieces : List (Bor (List ℕ))) (i : ℕ) → i < length pieces → i < length (texts pieces)
within pieces i inside = omega (arith, length-map pieces (λ (x : Bor (List ℕ)). x.now))

-- all parts were read
all_of : (pieces : List (Bor (List ℕ))) (i : ℕ) → length pieces ≤ i → take i (texts pieces) ≡ texts pieces
all_of pieces i over = take_all i (texts pieces) (omega (arith, length-map pieces (λ (x : Bor (List ℕ)). x.now)))

-- ---- addresses

abbrev pub AddrsRead : List (List ℕ) → List Addr → Type 0
AddrsRead = AreRead IsNamed addr_text

abbrev Distinct : List Addr → Type 0
Distinct addrs = AllPairs (λ a b. a ≢ b) addrs

pub record AddrsReadTo (read_texts : List (List ℕ)) (addrs : List Addr) : Type 0 where
  pub read : AddrsRead read_texts addrs
  pub distinct : Distinct addrs

pub addrs_one : (pieces : List (Bor (List ℕ))) (i : ℕ) (so_far after : List Addr) (a : Addr) (text : List ℕ) (d : Bor (List ℕ)) → AddrsRead (take i (texts pieces)) so_far
    → AllPairs (λ a b. a ≢ b) so_far → i < length pieces → text ≡ (get_or pieces i d).now → IsAddrText a text → All (λ b. b ≢ a) so_far → after ≡ so_far ++ a ∷ []
    → AddrsReadTo (take (i + 1) (texts pieces)) after
addrs_one pieces i so_far after a text d read distinct inside here named fresh is =
    let own : IsNamed a = record { ip_fits = named.ip_fits; port_is_set = named.port_is_set; port_fits = named.port_fits; spelled = refl } in
    record {
      read = read_one IsNamed addr_text (texts pieces) i so_far after a text [] read (within pieces i inside) (text_at pieces i d text inside here) own named.spelled is;
      distinct = subst (λ l. AllPairs (λ a b. a ≢ b) l) (sym is) (all_pairs_push (λ a b. a ≢ b) so_far a distinct fresh);
    }

-- where the text is a list's, the next part names the next of its addresses, which isn't among those before it
pub record IsNextAddr (so_far : List Addr) (text : List ℕ) : Type 0 where
  pub a : Addr
  pub named : IsAddrText a text
  pub fresh : All (λ b. b ≢ a) so_far

pub next_addr : {most : ℕ} (whole : List ℕ) (pieces : List (Bor (List ℕ))) (i : ℕ) (so_far list : List Addr) (text : List ℕ) (d : Bor (List ℕ)) → texts pieces ≡ parts whole
    → AddrsRead (take i (texts pieces)) so_far → i < length pieces → text ≡ (get_or pieces i d).now → IsAddrList most list whole → IsNextAddr so_far text
next_addr whole pieces i so_far list text d are read inside here is =
    let spelled : map addr_text list ≡ texts pieces = sym (parts-addrs list whole is) ∙ sym are in
    let size : length pieces ≡ length list = as_many addr_text pieces (parts whole) list are (parts-addrs list whole is) in
    let below : i < length list = omega (arith, size) in
    let front : so_far ≡ take i list = begins IsNamed addr_text addr_known (texts pieces) i so_far list read is.named spelled in
    let none : Addr = record { ip = 0; port = 0 } in
    let own : IsNamed (get_or list i none) = is.named i none below in
    record {
      a = get_or list i none;
      named = record {
        ip_fits = own.ip_fits;
        port_is_set = own.port_is_set;
        port_fits = own.port_fits;
        spelled = text_at pieces i d text inside here ∙ next_text IsNamed addr_text (texts pieces) list i none [] spelled (within pieces i inside);
      };
      fresh = subst (λ l. All (λ b. b ≢ get_or list i none) l) (sym front) (before list i none is.distinct below);
    }
  where
    before : (list : List Addr) (i : ℕ) (none : Addr) → AllPairs (λ a b. a ≢ b) list → i < length list → All (λ b. b ≢ get_or list i none) (take i list)
    before list i none distinct below k e inside same =
        let low : k < i = omega (arith, length-take-le i list (omega arith)) in
        distinct k i e low below (sym (get_or-take i list k e low) ∙ same ∙ get_or_default list i none e below)

pub addrs_found : (most : ℕ) (whole : List ℕ) (pieces : List (Bor (List ℕ))) (i : ℕ) (so_far result : List Addr) → texts pieces ≡ parts whole → AddrsRead (take i (texts pieces)) so_far
    → AllPairs (λ a b. a ≢ b) so_far → length pieces ≤ i → length pieces ≤ most → result ≡ so_far → IsAddrList most result whole
addrs_found most whole pieces i so_far result are read distinct over few is =
    let spelled : parts whole ≡ map addr_text so_far = sym are ∙ sym (all_of pieces i over) ∙ sym read.spelled in
    let size : length pieces ≡ length so_far = as_many addr_text pieces (parts whole) so_far are spelled in
    subst (λ l. IsAddrList most l whole) (sym is) (record {
      some = omega (arith, parts-some whole, ap length spelled, length-map so_far addr_text);
      few = omega (arith, size);
      distinct = distinct;
      named = read.fit;
      joined = joined-parts whole ∙ ap with_commas spelled;
    })

pub addrs_only : {most : ℕ} (whole : List ℕ) (pieces : List (Bor (List ℕ))) (i : ℕ) (so_far result list : List Addr) → texts pieces ≡ parts whole → AddrsRead (take i (texts pieces)) so_far
    → length pieces ≤ i → result ≡ so_far → IsAddrList most list whole → result ≡ list
addrs_only whole pieces i so_far result list are read over is list_is =
    is ∙ same_items IsNamed addr_text addr_known so_far list read.fit list_is.named (read.spelled ∙ all_of pieces i over ∙ are ∙ parts-addrs list whole list_is)

-- ---- bounds

abbrev pub BoundsRead : List (List ℕ) → List ℕ → Type 0
BoundsRead = AreRead FitsBound decimal

pub bounds_one : (pieces : List (Bor (List ℕ))) (i : ℕ) (so_far after : List ℕ) (n : ℕ) (text : List ℕ) (d : Bor (List ℕ)) → BoundsRead (take i (texts pieces)) so_far → i < length pieces
    → text ≡ (get_or pieces i d).now → FitsBound n → text ≡ decimal n → after ≡ so_far ++ n ∷ [] → BoundsRead (take (i + 1) (texts pieces)) after
bounds_one pieces i so_far after n text d read inside here fits spelled is =
    read_one FitsBound decimal (texts pieces) i so_far after n text [] read (within pieces i inside) (text_at pieces i d text inside here) fits spelled is

pub record IsNextBound (text : List ℕ) : Type 0 where
  pub n : ℕ
  pub fits : FitsBound n
  pub spelled : text ≡ decimal n

pub next_bound : {members : ℕ} (whole : List ℕ) (pieces : List (Bor (List ℕ))) (i : ℕ) (list text : List ℕ) (d : Bor (List ℕ)) → texts pieces ≡ parts whole → i < length pieces
    → text ≡ (get_or pieces i d).now → IsBoundList members list whole → IsNextBound text
next_bound whole pieces i list text d are inside here is =
    let spelled : map decimal list ≡ texts pieces = sym (parts-bounds list whole is) ∙ sym are in
    let size : length pieces ≡ length list = as_many decimal pieces (parts whole) list are (parts-bounds list whole is) in
    record {
      n = get_or list i 0;
      fits = is.valid.each i 0 (omega (arith, size));
      spelled = text_at pieces i d text inside here ∙ next_text FitsBound decimal (texts pieces) list i 0 [] spelled (within pieces i inside);
    }

pub bounds_found : (members : ℕ) (whole : List ℕ) (pieces : List (Bor (List ℕ))) (i : ℕ) (so_far result : List ℕ) → texts pieces ≡ parts whole → BoundsRead (take i (texts pieces)) so_far
    → length pieces ≤ i → length pieces ≡ members → AreBounds so_far → result ≡ so_far → IsBoundList members result whole
bounds_found members whole pieces i so_far result are read over all valid is =
    let spelled : parts whole ≡ map decimal so_far = sym are ∙ sym (all_of pieces i over) ∙ sym read.spelled in
    subst (λ l. IsBoundList members l whole) (sym is) (record {
      one_each = sym (as_many decimal pieces (parts whole) so_far are spelled) ∙ all;
      valid = valid;
      joined = joined-parts whole ∙ ap with_commas spelled;
    })

pub bounds_only : {members : ℕ} (whole : List ℕ) (pieces : List (Bor (List ℕ))) (i : ℕ) (so_far list : List ℕ) → texts pieces ≡ parts whole → BoundsRead (take i (texts pieces)) so_far
    → length pieces ≤ i → IsBoundList members list whole → so_far ≡ list
bounds_only whole pieces i so_far list are read over list_is =
    same_items FitsBound decimal bound_known so_far list read.fit list_is.valid.each (read.spelled ∙ all_of pieces i over ∙ are ∙ parts-bounds list whole list_is)

-- an answer that is nothing else than these bounds
pub bounds_answer : (r : Result (List ℕ) TextFault) (a b : List ℕ) → a ≡ b → MatchResult r (λ x. x ≡ a) (λ e. e ≡ Memory) → MatchResult r (λ x. x ≡ b) (λ e. e ≡ Memory)
bounds_answer r a b same only = subst (λ (l : List ℕ). MatchResult r (λ x. x ≡ l) (λ e. e ≡ Memory)) same only
