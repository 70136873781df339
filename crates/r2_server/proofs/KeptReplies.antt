-- What holds of each reply that is kept.
use Rattle.std.proofs.Common.{◌≡◌, ◌<◌, ◌-◌, ℕ, Bool, true, false, cond, List, [], ◌∷◌, ◌++◌, length, reverse, Option, Some, None, refl, sym, subst, arith, length-drop}
use Rattle.std.specs.Prelude.{◌≤◌, IfSome, MatchOption, option_map}
use Rattle.std.specs.List.{All, find}
use Rattle.std.proofs.lemmas.List.{get_or-reverse, length-reverse}
use Rattle.std.proofs.lemmas.List.Elements.{All-head, All-tail, All-push, All-drop}
use Rattle.r2_base.specs.Limits.{most_reply}
use Rattle.r2_base.specs.Names.{same_rid}
use Rattle.r2_base.specs.declared.rid.Rid.{Rid}
use Rattle.r2_header.specs.Policy.{replicated_read}
use Rattle.r2_header.specs.declared.header.Header.{Header}
use Rattle.r2_frag.specs.declared.kept.KeptReply.{KeptReply}
use Rattle.r2_frag.specs.Kept.{kept_with, most_kept, newest}
use Rattle.r2_frag.specs.declared.key.Key.{Key}
use Rattle.r2_base.specs.declared.datagram.Datagram.{Datagram}
use Rattle.r2_frag.specs.Replies.{IsReply}
use Rattle.r2_server.specs.State.{ServerState}
use Rattle.r2_server.specs.Turn.{answered, first_part, repeated}

module _ {X : Type 0} (P : X → Type 0) where
  All-reverse : (xs : List X) → All P xs → All P (reverse xs)
  All-reverse xs all k d h =
      let inside : k < length xs = omega (arith, length-reverse xs) in
      subst P (sym (get_or-reverse xs k d inside)) (all (length xs - 1 - k) d (omega arith))

  chosen : (p : X → Bool) (b : Bool) (x : X) (rest : Option X) → P x → IfSome rest P → IfSome (cond b (Some x) rest) P
  chosen p true x rest here later = here
  chosen p false x rest here later = later

  -- what holds of each holds of the first that passes
  All-find : (p : X → Bool) (xs : List X) → All P xs → IfSome (find p xs) P
  All-find p [] all = tt
  All-find p (x ∷ xs) all = chosen p (p x) x (find p xs) (All-head P x xs all) (All-find p xs (All-tail P x xs all))

-- what holds of each reply that is kept holds of the newest to a request
pub newest-is : (P : KeptReply → Type 0) (rid : Rid) (replies : List KeptReply) → All P replies → IfSome (newest rid replies) P
unfolding newest
newest-is P rid replies all = All-find P (λ reply. same_rid reply.rid rid) (reverse replies) (All-reverse P replies all)

-- and goes on to hold where one more is kept
pub kept_with-is : (P : KeptReply → Type 0) (replies : List KeptReply) (reply : KeptReply) → All P replies → P reply → All P (kept_with replies reply)
kept_with-is P replies reply all one = All-drop P _ (replies ++ reply ∷ []) (All-push P replies reply all one)

-- no more are kept than may be
pub kept_with-few : (replies : List KeptReply) (reply : KeptReply) → length (kept_with replies reply) ≤ most_kept
kept_with-few replies reply =
    omega (arith, length-drop (length (replies ++ reply ∷ []) - most_kept) (replies ++ reply ∷ []))

-- the policy and the payload that a look-up found
pub found-is : (o : Option KeptReply) (absent : Type 0) (policy : ℕ) (payload : List ℕ) → IfSome o IsReply
    → MatchOption o absent (λ r. (policy ≡ r.policy) × (payload ≡ r.payload)) → (absent → ⊥) → (policy ≤ replicated_read) × (length payload ≤ most_reply)
found-is None absent policy payload is h never = absurd (never h)
found-is (Some r) absent policy payload is h never = let e = h.0 in let f = h.1 in (omega (arith, is.policy, e), rw f is.payload)

-- what was sent again is the answer to the request, and the server stays as it was
pub again-server : (s : ServerState) (key : Key) (body : List ℕ) (o : Option KeptReply) (sends : List Datagram)
    → Some sends ≡ option_map (λ r. (repeated s key r).sends) o → s ≡ (answered s key body o).server
unfolding repeated
again-server s key body None sends e = cc
again-server s key body (Some r) sends e = refl

-- the same of the first part of a request
pub again-first : (s : ServerState) (h : Header) (payload : List ℕ) (key : Key) (o : Option KeptReply) (sends : List Datagram)
    → Some sends ≡ option_map (λ r. (repeated s key r).sends) o → s ≡ (first_part s h payload key o).server
unfolding repeated
again-first s h payload key None sends e = cc
again-first s h payload key (Some r) sends e = refl
