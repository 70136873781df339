-- What holds of every plain server that can be reached.
use Rattle.std.specs.Prelude.{◌≡◌, ℕ, ◌<◌, ◌≤◌, ◌^◌, length, Option, None, Some}
use Rattle.std.specs.List.{All}
use Rattle.r2_header.specs.declared.header.Header.{Header}
use Rattle.r2_header.specs.Header.{IsValid}
use Rattle.r2_header.specs.Policy.{jbsq}
use Rattle.r2_frag.specs.declared.class.Class.TheVariants.{Request}
use Rattle.r2_frag.specs.declared.key.Key.{Key}
use Rattle.r2_frag.specs.Keys.{class_of}
use Rattle.r2_frag.specs.Kept.{most_kept}
use Rattle.r2_frag.specs.Pending.{ArePending}
use Rattle.r2_frag.specs.Replies.{IsReply}
use Rattle.hc_store.specs.Short.{AreShort}
use Rattle.hc_store.specs.State.{most_counted}
use Rattle.r2_server.specs.State.{ServerState}

-- a server has fewer turns than this
abbrev pub turn_limit : ℕ
turn_limit = 2 ^ 57

-- no more replies are kept than may be, and each can be sent again; the unfinished messages are as an assembly keeps them;
-- the values are short; and at most n requests were served, and n ticks counted
pub record IsSoundWithin (n : ℕ) (s : ServerState) : Type 0 where
  pub most_kept : length s.kept ≤ most_kept
  pub kept : All IsReply s.kept
  pub unfinished : ArePending s.unfinished
  pub contents : AreShort s.service.contents
  pub writes : s.service.writes ≤ n
  pub ticks : s.ticks ≤ n

-- no more requests were served, nor ticks counted, than there were turns
abbrev pub IsSound : ServerState → Type 0
IsSound s = IsSoundWithin s.turns s

-- a server can serve a request
pub record CanServe (s : ServerState) : Type 0 where
  pub kept : All IsReply s.kept
  pub contents : AreShort s.service.contents
  pub writes : s.service.writes < most_counted

-- a part of a request under FIXED or JBSQ: its header, and the key that it has
pub record IsPartOfRequest (h : Header) (key : Key) : Type 0 where
  pub valid : IsValid h
  pub class : class_of h.packet ≡ Some key.class
  pub request : key.class ≡ Request
  pub policy : key.policy ≤ jbsq

-- the server isn't spent, and had at most so many turns
abbrev pub HadTurns : ℕ → Option ServerState → Type 0
HadTurns n None = ⊥
HadTurns n (Some s) = s.turns ≤ n

-- the server isn't spent, and has turns left
abbrev pub CanTurn : Option ServerState → Type 0
CanTurn None = ⊥
CanTurn (Some s) = s.turns < turn_limit

-- where the server isn't spent, it is sound
abbrev pub IsSoundUnlessSpent : Option ServerState → Type 0
IsSoundUnlessSpent None = Unit {0}
IsSoundUnlessSpent (Some s) = IsSound s
