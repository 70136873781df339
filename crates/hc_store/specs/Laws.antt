-- What holds of the service for any contents and any body.
use Rattle.std.specs.Prelude.{◌≡◌, ◌≢◌, ℕ, ◌+◌, ◌<◌, ◌≤◌, List, ◌∷◌, ◌++◌, length, All, Some}
use Rattle.std.specs.List.{flat_map}
use Rattle.r2_base.specs.declared.entry.Kind.{Kind}
use Rattle.r2_base.specs.declared.entry.Kind.TheVariants.{Read}
use Rattle.hc_store.specs.Command.{Command, command_of}
use Rattle.hc_store.specs.Spelling.{FitsCommand, spelling}
use Rattle.hc_store.specs.Service.{Contents, done, most_bytes, most_scanned, pair_bytes, pairs_from, scanned, serve, size_of}
use Rattle.hc_store.specs.Replies.{Operation, reply_at}
use Rattle.hc_store.specs.Examples.{StoreIsFull, ScanIsFull}

-- a request to read leaves what is kept
abbrev pub ReadsChangeNothing : Type 0
ReadsChangeNothing = (contents : Contents) (body : List ℕ) → (serve contents Read body).contents ≡ contents

-- so does a request that isn't carried out
abbrev pub RefusalsChangeNothing : Type 0
RefusalsChangeNothing =
    (contents : Contents) (kind : Kind) (body : List ℕ) → (serve contents kind body).status ≢ done → (serve contents kind body).contents ≡ contents

-- keys and values never have too many bytes together
abbrev pub StaysWithinItsSize : Type 0
StaysWithinItsSize =
    (contents : Contents) (kind : Kind) (body : List ℕ) → size_of contents ≤ most_bytes → size_of (serve contents kind body).contents ≤ most_bytes

-- each of the two limits is reached, and not passed
abbrev pub LimitsAreReached : Type 0
LimitsAreReached = (key value : List ℕ) → StoreIsFull key value × ScanIsFull key value

-- the bytes that encode a command are read as that command
abbrev pub SpellingIsRead : Type 0
SpellingIsRead = (command : Command) → FitsCommand command → command_of (spelling command) ≡ Some command

-- no other bytes are read as it
abbrev pub WhatIsReadIsSpelled : Type 0
WhatIsReadIsSpelled =
    (command : Command) (body : List ℕ) → All (λ b. b < 256) body → command_of body ≡ Some command → (body ≡ spelling command) × FitsCommand command

-- of the pairs from a key on these were given, in their order, and these weren't: none that the limits allow is left out
pub record IsScan (contents : Contents) (key : List ℕ) (limit : ℕ) (given left : List (List ℕ × List ℕ)) : Type 0 where
  pub pairs : pairs_from contents key ≡ given ++ left
  pub bytes : scanned contents key limit ≡ flat_map pair_bytes given
  pub count : length given ≤ limit
  pub size : length (flat_map pair_bytes given) ≤ most_scanned
  pub most : (next : List ℕ × List ℕ) (more : List (List ℕ × List ℕ)) → left ≡ next ∷ more → length given < limit
      → most_scanned < length (flat_map pair_bytes given) + length (pair_bytes next)

-- a scan gives the longest prefix that its limits allow
abbrev pub ScanIsLongestFront : Type 0
ScanIsLongestFront =
    (contents : Contents) (key : List ℕ) (limit : ℕ) → (given : List (List ℕ × List ℕ)) × (left : List (List ℕ × List ℕ)) × IsScan contents key limit given left

-- the reply to an entry stays what it is, whatever entries come after it
abbrev pub RepliesStand : Type 0
RepliesStand = (log more : List Operation) (index : ℕ) → index ≤ length log → reply_at (log ++ more) index ≡ reply_at log index
