-- The texts of options.
use Rattle.std.specs.Prelude.{◌≡◌, ◌≢◌, ◌⊎◌, ℕ, ◌<◌, ◌≤◌, List, [], AllPairs, All, length, map, replicate, codes, decimal}
use Rattle.std.specs.List.{join_with_byte}
use Rattle.r2_base.specs.declared.addr.Addr.{Addr}
use Rattle.r2_base.specs.Addr.{IsAddrText, addr_text}
use Rattle.hc_replier.specs.Bounds.{AreBounds, most_bound}
use Rattle.hc_text.specs.declared.policy.Policy.{Policy}
use Rattle.hc_text.specs.declared.policy.Policy.TheVariants.{Fixed, Jbsq, Replicated}

-- the text is the number in decimal, and the number is in its range
pub record IsNumberText (least most n : ℕ) (text : List ℕ) : Type 0 where
  pub from_least : least ≤ n
  pub to_most : n ≤ most
  pub spelled : text ≡ decimal n

-- ticks of 1 to 1,000 milliseconds
abbrev pub IsTickText : ℕ → List ℕ → Type 0
IsTickText = IsNumberText 1 1000

-- 1 to 2^56 turns
abbrev pub IsTurnsText : ℕ → List ℕ → Type 0
IsTurnsText = IsNumberText 1 72057594037927936

-- 1 to 16 workers
abbrev pub IsWorkersText : ℕ → List ℕ → Type 0
IsWorkersText = IsNumberText 1 16

-- the word of a policy
abbrev pub policy_word : Policy → List ℕ
policy_word Fixed = codes "fixed"
policy_word Jbsq = codes "jbsq"
policy_word Replicated = codes "replicated"

abbrev pub IsPolicyText : Policy → List ℕ → Type 0
IsPolicyText policy text = text ≡ policy_word policy

-- texts joined by commas
abbrev pub with_commas : List (List ℕ) → List ℕ
with_commas = join_with_byte 44

-- addresses joined by commas, all distinct, 1 to so many of them
pub record IsAddrList (most : ℕ) (addrs : List Addr) (text : List ℕ) : Type 0 where
  pub some : 1 ≤ length addrs
  pub few : length addrs ≤ most
  pub distinct : AllPairs (λ a b. a ≢ b) addrs
  pub named : All (λ a. IsAddrText a (addr_text a)) addrs
  pub joined : text ≡ with_commas (map addr_text addrs)

-- the name of a file, a text that isn't empty
abbrev pub IsNameText : List ℕ → List ℕ → Type 0
IsNameText name text = (name ≢ []) × (text ≡ name)

-- the number of one of the members, from 0
pub record IsMemberText (members : List Addr) (me : ℕ) (text : List ℕ) : Type 0 where
  pub is_member : me < length members
  pub spelled : text ≡ decimal me

-- one bound, which holds for each of so many members
pub record IsOneBound (members : ℕ) (bounds text : List ℕ) : Type 0 where
  pub bound : ℕ
  pub number : IsNumberText 1 most_bound bound text
  pub for_all : bounds ≡ replicate members bound

-- a bound for each of so many members, joined by commas, as a group may have them
pub record IsBoundList (members : ℕ) (bounds text : List ℕ) : Type 0 where
  pub one_each : length bounds ≡ members
  pub valid : AreBounds bounds
  pub joined : text ≡ with_commas (map decimal bounds)

-- the bounds of so many members
abbrev pub IsBoundsText : ℕ → List ℕ → List ℕ → Type 0
IsBoundsText members bounds text = IsOneBound members bounds text ⊎ IsBoundList members bounds text
