-- The kept reply to a request, which goes out again.
use Rattle.std.proofs.Common.{◌≡◌, ℕ, List, Option, None, Some, sym, ap, ◌∙◌, append-nil}
use Rattle.std.specs.Prelude.{MatchOption, All}
use Rattle.std.proofs.lemmas.List.Elements.{All-weaker}
use Rattle.r2_base.specs.declared.rid.Rid.{Rid}
use Rattle.r2_frag.specs.declared.kept.KeptReply.{KeptReply}
use Rattle.r2_frag.specs.Kept.{newest}
use Rattle.hc_member.specs.declared.setup.Setup.{Setup}
use Rattle.hc_member.specs.Bodies.{answered_again}
use Rattle.hc_member.specs.Sending.{Reply, datagrams_of, datagrams_of_all}
use Rattle.r2_frag.specs.Replies.{IsReply}
use Rattle.hc_member.specs.Member.{Member}
use Rattle.hc_member.specs.Sound.{IsRightReply, IsSound}
use Rattle.hc_member.proofs.Answers.{newest-rid, right-is_reply}

-- the reply whose policy and payload a look-up found
pub found-again : (rid : Rid) (kept : List KeptReply) (o : Option KeptReply) (absent : Type 0) (policy : ℕ) (payload : List ℕ) → newest rid kept ≡ o
    → MatchOption o absent (λ r. (policy ≡ r.policy) × (payload ≡ r.payload)) → (absent → ⊥)
    → newest rid kept ≡ Some (record { rid = rid; policy = policy; payload = payload })
found-again rid kept None absent policy payload at h never = absurd (never h)
found-again rid kept (Some r) absent policy payload at h never =
    let named = newest-rid rid kept r at in
    let build : Rid → ℕ → List ℕ → KeptReply = λ a b c. record { rid = a; policy = b; payload = c } in
    at ∙ ap Some (ap (λ (a : Rid). build a r.policy r.payload) named ∙ ap (λ (b : ℕ). build rid b r.payload) (sym h.0) ∙ ap (build rid policy) (sym h.1))

-- its datagrams
pub sent-again : (s : Setup) (o : Option KeptReply) (reply : KeptReply) → o ≡ Some reply → datagrams_of_all s (answered_again o) ≡ datagrams_of s (Reply reply)
sent-again s o reply e = ap (λ (x : Option KeptReply). datagrams_of_all s (answered_again x)) e ∙ append-nil (datagrams_of s (Reply reply))

-- each reply that a sound member keeps may go out again
pub kept-replies : (s : Setup) (m : Member) → IsSound s m → All IsReply m.kept
kept-replies s m sound =
    let valid = sound.durable in
    All-weaker (IsRightReply s.me m.applied m.log) IsReply (λ r right. right-is_reply s.me m.applied m.log r valid.log right) m.kept sound.kept
