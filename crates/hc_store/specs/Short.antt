-- Values and replies are short: a value came in the body of a request, and each reply fits its limit.
use Rattle.std.specs.Prelude.{◌≡◌, ℕ, ◌+◌, ◌≤◌, List, length, All, Some}
use Rattle.std.specs.FinMap as map
use Rattle.r2_base.specs.declared.entry.Kind.{Kind}
use Rattle.r2_base.specs.Limits.{most_body, most_reply}
use Rattle.hc_store.specs.Service.{Contents, Served, most_scanned, serve}
use Rattle.hc_store.specs.Replies.{Operation, after_all, payload_of, reply_at}

-- each value that is kept fits the body of a request
abbrev pub AreShort : Contents → Type 0
AreShort contents = (key value : List ℕ) → map.get contents key ≡ Some value → length value ≤ most_body

-- the value of an answer fits a reply, and what is kept after it is short
pub record IsShortAnswer (served : Served) : Type 0 where
  pub value : length served.value ≤ most_scanned
  pub contents : AreShort served.contents

-- where short values are kept, a request whose body fits its limit gets a short answer, and leaves short values
abbrev pub AnswersAreShort : Type 0
AnswersAreShort =
    (contents : Contents) (kind : Kind) (body : List ℕ) → AreShort contents → length body ≤ most_body
    → IsShortAnswer (serve contents kind body)

-- the payload of a reply has nine bytes before the value
abbrev pub PayloadsAreNineLonger : Type 0
PayloadsAreNineLonger = (index status : ℕ) (value : List ℕ) → length (payload_of index status value) ≡ length value + 9

-- each body of a log fits its limit
abbrev pub HasShortBodies : List Operation → Type 0
HasShortBodies log = All (λ (operation : Operation). length operation.body ≤ most_body) log

-- then short values are kept after it
abbrev pub ValuesStayShort : Type 0
ValuesStayShort = (log : List Operation) → HasShortBodies log → AreShort (after_all map.empty log)

-- and each reply to its entries fits its limit
abbrev pub RepliesAreShort : Type 0
RepliesAreShort =
    (log : List Operation) (index : ℕ) (payload : List ℕ) → HasShortBodies log → reply_at log index ≡ Some payload
    → length payload ≤ most_reply
