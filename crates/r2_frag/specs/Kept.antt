-- The replies that are kept, the oldest first, and the index that can show that a request has none.
use Rattle.std.specs.Prelude.{◌≡◌, ℕ, ◌+◌, ◌*◌, ◌%◌, ◌<◌, ◌≤◌, ◌==◌, List, [], ◌∷◌, ◌++◌, length, reverse, slice_index, count_by, Option}
use Rattle.std.specs.List.{find}
use Rattle.circular_buffer.specs.Buffer.{Buffer, keep_last}
use Rattle.r2_base.specs.declared.rid.Rid.{Rid}
use Rattle.r2_base.specs.Names.{same_rid}
use Rattle.r2_frag.specs.declared.kept.KeptReply.{KeptReply}

-- how many replies are kept
abbrev pub most_kept : ℕ
most_kept = 1024

-- one more reply is kept: where as many as may be are, the oldest leaves
abbrev pub kept_with : List KeptReply → KeptReply → List KeptReply
kept_with replies reply = keep_last most_kept (replies ++ reply ∷ [])

-- the newest reply to this request
unfoldable pub newest : Rid → List KeptReply → Option KeptReply
newest rid replies = find (λ reply. same_rid reply.rid rid) (reverse replies)

-- how many buckets the request ids of the kept replies are counted in
abbrev pub bucket_count : ℕ
bucket_count = 65536

-- the bucket of a request id: those of one client lie side by side, those of different clients mostly apart
unfoldable pub bucket_of : Rid → ℕ
bucket_of rid = (rid.id + rid.client.ip * 40503 + rid.client.port * 30011) % bucket_count

-- how many replies there are in a bucket
unfoldable pub count_in : ℕ → List KeptReply → ℕ
count_in bucket replies = count_by (λ reply. bucket_of reply.rid == bucket) replies

-- there is a count for each bucket, of the replies in it
pub record AreCounted (counts : List ℕ) (replies : List KeptReply) : Type 0 where
  pub all : length counts ≡ bucket_count
  pub each : (bucket : ℕ) → bucket < bucket_count → slice_index counts bucket ≡ count_in bucket replies

-- no more replies are kept than may be, and they are counted
pub record IsIndexed (replies : Buffer KeptReply) (counts : List ℕ) : Type 0 where
  pub capacity : replies.capacity ≡ most_kept
  pub most : length replies.items ≤ most_kept
  pub counted : AreCounted counts replies.items
