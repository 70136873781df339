-- The messages of the replicas: which are valid, and the bytes that encode each.
use Rattle.std.specs.Prelude.{◌≡◌, ℕ, ◌+◌, ◌≤◌, Bool, List, [], ◌∷◌, ◌++◌, All, length}
use Rattle.std.specs.List.{flat_map}
use Rattle.std.specs.List.Sorted.{IsNonDecreasingBy}
use Rattle.r2_base.specs.declared.entry.Entry.{Entry}
use Rattle.r2_base.specs.Numbers.{u64_bytes}
use Rattle.r2_base.specs.Limits.{greatest_number, most_body, most_entries}
use Rattle.hc_message.specs.declared.msg.Msg.{Msg}
use Rattle.hc_message.specs.declared.msg.Msg.TheVariants.{VoteReq, Vote, Order, Ack, Nack, AggCommit, RecoverAsk, RecoverBody}
use Rattle.hc_message.specs.Entry.{IsEntry, IsIndex, IsMember, IsTerm, narrow_entry_bytes, flag_number, kind_number}

-- the entries of an Order, after the index and the term of the previous one, and up to its own term
pub record AreOrdered (index least most : ℕ) (entries : List Entry) : Type 0 where
  pub count : length entries ≤ most_entries
  pub room : index + length entries ≤ greatest_number
  pub each : All IsEntry entries
  pub low : All (λ e. least ≤ e.term) entries
  pub high : All (λ e. e.term ≤ most) entries
  pub never_fall : IsNonDecreasingBy (λ e. e.term) entries

-- the numbers of an Order before its entries
pub record IsOrdering (term leader prev_index prev_term term_start commit : ℕ) : Type 0 where
  pub own : IsTerm term
  pub sender : IsMember leader
  pub behind : IsIndex prev_index
  pub least : prev_term ≤ term
  pub start : IsTerm term_start
  pub agreed : IsIndex commit

-- a message whose fields are in their ranges
abbrev pub IsValid : Msg → Type 0
IsValid (VoteReq term member last_index last_term) =
    IsTerm term × IsMember member × IsIndex last_index × (last_term ≤ term)
IsValid (Vote term member granted) = IsTerm term × IsMember member
IsValid (Order term leader prev_index prev_term term_start commit via entries) =
    IsOrdering term leader prev_index prev_term term_start commit × AreOrdered prev_index prev_term term entries
IsValid (Ack term member index applied) = IsTerm term × IsMember member × IsIndex index × IsIndex applied
IsValid (Nack term member hint) = IsTerm term × IsMember member × IsIndex hint
IsValid (AggCommit term index) = IsTerm term × IsIndex index
IsValid (RecoverAsk member) = IsMember member
IsValid (RecoverBody kind body) = (1 ≤ kind_number kind) × (length body ≤ most_body)

-- the bytes of an Order with entries in the narrow layout
abbrev pub order_bytes : ℕ → ℕ → ℕ → ℕ → ℕ → ℕ → Bool → List Entry → List ℕ
order_bytes term leader prev_index prev_term term_start commit via entries =
    3 ∷ u64_bytes term ++ leader ∷ u64_bytes prev_index ++ u64_bytes prev_term ++ u64_bytes term_start ++ u64_bytes commit
    ++ flag_number via ∷ length entries ∷ flat_map narrow_entry_bytes entries

-- the bytes of a message
unfoldable pub message_bytes : Msg → List ℕ
message_bytes (VoteReq term member last_index last_term) =
    1 ∷ u64_bytes term ++ member ∷ u64_bytes last_index ++ u64_bytes last_term
message_bytes (Vote term member granted) = 2 ∷ u64_bytes term ++ member ∷ flag_number granted ∷ []
message_bytes (Order term leader prev_index prev_term term_start commit via entries) =
    order_bytes term leader prev_index prev_term term_start commit via entries
message_bytes (Ack term member index applied) = 4 ∷ u64_bytes term ++ member ∷ u64_bytes index ++ u64_bytes applied
message_bytes (Nack term member hint) = 5 ∷ u64_bytes term ++ member ∷ u64_bytes hint
message_bytes (AggCommit term index) = 6 ∷ u64_bytes term ++ u64_bytes index
message_bytes (RecoverAsk member) = 7 ∷ member ∷ []
message_bytes (RecoverBody kind body) = 8 ∷ kind_number kind ∷ body

-- these bytes are the valid message's
pub record Spells (m : Msg) (bytes : List ℕ) : Type 0 where
  pub valid : IsValid m
  pub same : bytes ≡ message_bytes m
