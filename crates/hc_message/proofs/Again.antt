-- The bytes of a valid message read as it.
use Rattle.std.proofs.Common.{◌≡◌, ℕ, ◌-◌, max, min, Bool, List, [], ◌∷◌, ◌++◌, All, length, Ok, refl, sym, ap, ◌∙◌, append_assoc, arith}
use Rattle.std.specs.List.{flat_map}
use Rattle.std.proofs.lemmas.Bool.{le-leb}
use Rattle.std.proofs.lemmas.List.{append-nil}
use Rattle.r2_base.specs.declared.entry.Kind.{Kind}
use Rattle.r2_base.specs.declared.entry.Entry.{Entry}
use Rattle.r2_base.specs.Numbers.{u64_bytes}
use Rattle.hc_message.specs.declared.msg.Msg.{Msg}
use Rattle.hc_message.specs.declared.msg.Msg.TheVariants.{VoteReq, Vote, Order, Ack, Nack, AggCommit, RecoverAsk, RecoverBody}
use Rattle.r2_base.specs.Limits.{greatest_member, greatest_number, most_body, most_entries}
use Rattle.hc_message.specs.Entry.{IsIndex, IsMember, IsTerm, narrow_entry_bytes, flag_number, kind_number}
use Rattle.r2_base.specs.Names.{FitsRid}
use Rattle.hc_message.specs.Laws.{BytesBehindAreExtra, FitsMessage, HasEnd, SpellingIsRead}
use Rattle.hc_message.specs.Message.{AreOrdered, IsOrdering, IsValid, message_bytes}
use Rattle.hc_message.specs.Reading.{front_ack, front_ask, front_body, front_commit, ended, front_fields, front_index, front_member, decode_message, front_nack, front_order, front_order_head, front_term, front_vote, front_vote_request}
use Rattle.hc_message.proofs.FieldLaws.{flag_again, kind_again, number_again, small_again}
use Rattle.hc_message.proofs.Ordered.{chained_ordered, entries_again}
use Rattle.hc_message.proofs.Taken.{MayStandBehind}

term_again : (n : ℕ) (rest : List ℕ) → IsTerm n → front_term (u64_bytes n ++ rest) ≡ Ok (n, rest)
unfolding front_term
term_again n rest is = let most = is.most in number_again 1 greatest_number n rest is.least is.most (omega arith)

index_again : (n : ℕ) (rest : List ℕ) → IsIndex n → front_index (u64_bytes n ++ rest) ≡ Ok (n, rest)
unfolding front_index
index_again n rest is = number_again 0 greatest_number n rest (omega arith) is (omega arith)

member_again : (n : ℕ) (rest : List ℕ) → IsMember n → front_member (n ∷ rest) ≡ Ok (n, rest)
unfolding front_member
member_again n rest is = small_again 0 greatest_member n rest (omega arith) is

vote_request_again : (term member last_index last_term : ℕ) (rest : List ℕ) → IsValid (VoteReq term member last_index last_term) → front_vote_request (u64_bytes term ++ (member ∷ (u64_bytes last_index ++ (u64_bytes last_term ++ rest)))) ≡ Ok (VoteReq term member last_index last_term, rest)
unfolding front_vote_request
vote_request_again term member last_index last_term rest v =
    let most = v.0.most in
    let below = v.3 in
    rw (term_again term (member ∷ (u64_bytes last_index ++ (u64_bytes last_term ++ rest))) v.0, member_again member (u64_bytes last_index ++ (u64_bytes last_term ++ rest)) v.1, index_again last_index (u64_bytes last_term ++ rest) v.2, number_again 0 term last_term rest (omega arith) v.3 (omega arith)) refl

vote_again : (term member : ℕ) (granted : Bool) (rest : List ℕ) → IsValid (Vote term member granted) → front_vote (u64_bytes term ++ (member ∷ (flag_number granted ∷ rest))) ≡ Ok (Vote term member granted, rest)
unfolding front_vote
vote_again term member granted rest v =
    rw (term_again term (member ∷ (flag_number granted ∷ rest)) v.0, member_again member (flag_number granted ∷ rest) v.1, flag_again granted rest) refl

-- bytes in groups of two, in one row
regroup : (a x c d e f rest : List ℕ) → (((((a ++ x) ++ c) ++ d) ++ e) ++ f) ++ rest ≡ a ++ (x ++ (c ++ (d ++ (e ++ (f ++ rest)))))
regroup a x c d e f rest = simp append_assoc

order_again : (term leader prev_index prev_term term_start commit : ℕ) (via : Bool) (es : List Entry) (rest : List ℕ) → IsOrdering term leader prev_index prev_term term_start commit → AreOrdered prev_index prev_term term es → All (λ e. FitsRid e.rid) es
    → front_order (u64_bytes term ++ (leader ∷ (u64_bytes prev_index ++ (u64_bytes prev_term ++ (u64_bytes term_start ++ (u64_bytes commit ++ (flag_number via ∷ (length es ∷ (flat_map narrow_entry_bytes es ++ rest))))))))) ≡ Ok (Order term leader prev_index prev_term term_start commit via es, rest)
unfolding front_order front_order_head
order_again term leader prev_index prev_term term_start commit via es rest v ordered fit =
    let r8 : List ℕ = flat_map narrow_entry_bytes es ++ rest in
    let r7 : List ℕ = length es ∷ r8 in
    let r6 : List ℕ = flag_number via ∷ r7 in
    let r5 : List ℕ = u64_bytes commit ++ r6 in
    let r4 : List ℕ = u64_bytes term_start ++ r5 in
    let r3 : List ℕ = u64_bytes prev_term ++ r4 in
    let r2 : List ℕ = u64_bytes prev_index ++ r3 in
    let most = v.own.most in
    let least = v.least in
    let count = ordered.count in
    let room = ordered.room in
    rw (term_again term (leader ∷ r2) v.own, member_again leader r2 v.sender, index_again prev_index r3 v.behind, number_again 0 term prev_term r4 (omega arith) v.least (omega arith), term_again term_start r5 v.start, index_again commit r6 v.agreed, flag_again via r7, small_again 0 (min most_entries (greatest_number - prev_index)) (length es) r8 (omega arith) (omega arith), entries_again es (max 1 prev_term) term rest (omega arith) (chained_ordered prev_index prev_term term es ordered fit)) refl

ack_again : (term member index applied : ℕ) (rest : List ℕ) → IsValid (Ack term member index applied) → front_ack (u64_bytes term ++ (member ∷ (u64_bytes index ++ (u64_bytes applied ++ rest)))) ≡ Ok (Ack term member index applied, rest)
unfolding front_ack
ack_again term member index applied rest v =
    rw (term_again term (member ∷ (u64_bytes index ++ (u64_bytes applied ++ rest))) v.0, member_again member (u64_bytes index ++ (u64_bytes applied ++ rest)) v.1, index_again index (u64_bytes applied ++ rest) v.2, index_again applied rest v.3) refl

nack_again : (term member hint : ℕ) (rest : List ℕ) → IsValid (Nack term member hint) → front_nack (u64_bytes term ++ (member ∷ (u64_bytes hint ++ rest))) ≡ Ok (Nack term member hint, rest)
unfolding front_nack
nack_again term member hint rest v =
    rw (term_again term (member ∷ (u64_bytes hint ++ rest)) v.0, member_again member (u64_bytes hint ++ rest) v.1, index_again hint rest v.2) refl

commit_again : (term index : ℕ) (rest : List ℕ) → IsValid (AggCommit term index) → front_commit (u64_bytes term ++ (u64_bytes index ++ rest)) ≡ Ok (AggCommit term index, rest)
unfolding front_commit
commit_again term index rest v = rw (term_again term (u64_bytes index ++ rest) v.0, index_again index rest v.1) refl

ask_again : (member : ℕ) (rest : List ℕ) → IsMember member → front_ask (member ∷ rest) ≡ Ok (RecoverAsk member, rest)
unfolding front_ask
ask_again member rest v = rw (member_again member rest v) refl

body_again : (kind : Kind) (body : List ℕ) → IsValid (RecoverBody kind body) → front_body (kind_number kind ∷ body) ≡ Ok (RecoverBody kind body, [])
unfolding front_body
body_again kind body v = rw (kind_again 1 kind body v.0, le-leb (length body) most_body v.1) refl

-- the bytes of a valid message, and what follows them
reads : (m : Msg) (rest : List ℕ) → MayStandBehind rest m → FitsMessage m → IsValid m → decode_message (message_bytes m ++ rest) ≡ ended (Ok (m, rest))
unfolding decode_message front_fields message_bytes
reads (VoteReq term member last_index last_term) rest may fits v =
    let regrouped : ((u64_bytes term ++ member ∷ u64_bytes last_index) ++ u64_bytes last_term) ++ rest ≡ u64_bytes term ++ (member ∷ (u64_bytes last_index ++ (u64_bytes last_term ++ rest))) = simp append_assoc in
    rw (regrouped, vote_request_again term member last_index last_term rest v) refl
reads (Vote term member granted) rest may fits v =
    let regrouped : (u64_bytes term ++ member ∷ flag_number granted ∷ []) ++ rest ≡ u64_bytes term ++ (member ∷ (flag_number granted ∷ rest)) = simp append_assoc in
    rw (regrouped, vote_again term member granted rest v) refl
reads (Order term leader prev_index prev_term term_start commit via es) rest may fits v =
    let regrouped = regroup (u64_bytes term) (leader ∷ u64_bytes prev_index) (u64_bytes prev_term) (u64_bytes term_start) (u64_bytes commit) (flag_number via ∷ length es ∷ flat_map narrow_entry_bytes es) rest in
    rw (regrouped, order_again term leader prev_index prev_term term_start commit via es rest v.0 v.1 fits) refl
reads (Ack term member index applied) rest may fits v =
    let regrouped : ((u64_bytes term ++ member ∷ u64_bytes index) ++ u64_bytes applied) ++ rest ≡ u64_bytes term ++ (member ∷ (u64_bytes index ++ (u64_bytes applied ++ rest))) = simp append_assoc in
    rw (regrouped, ack_again term member index applied rest v) refl
reads (Nack term member hint) rest may fits v =
    let regrouped : (u64_bytes term ++ member ∷ u64_bytes hint) ++ rest ≡ u64_bytes term ++ (member ∷ (u64_bytes hint ++ rest)) = simp append_assoc in
    rw (regrouped, nack_again term member hint rest v) refl
reads (AggCommit term index) rest may fits v =
    let regrouped : (u64_bytes term ++ u64_bytes index) ++ rest ≡ u64_bytes term ++ (u64_bytes index ++ rest) = simp append_assoc in
    rw (regrouped, commit_again term index rest v) refl
reads (RecoverAsk member) rest may fits v = rw (ask_again member rest v) refl
reads (RecoverBody kind body) rest may fits v = rw (may, append-nil body, body_again kind body v) refl

may_be_empty : (m : Msg) → MayStandBehind [] m
may_be_empty (VoteReq term member last_index last_term) = tt
may_be_empty (Vote term member granted) = tt
may_be_empty (Order term leader prev_index prev_term term_start commit via es) = tt
may_be_empty (Ack term member index applied) = tt
may_be_empty (Nack term member hint) = tt
may_be_empty (AggCommit term index) = tt
may_be_empty (RecoverAsk member) = tt
may_be_empty (RecoverBody kind body) = refl

pub spelling_is_read : SpellingIsRead
spelling_is_read m bytes fits spells =
    ap decode_message (spells.same ∙ sym (append-nil (message_bytes m))) ∙ reads m [] (may_be_empty m) fits spells.valid

may_be_extra : (m : Msg) (rest : List ℕ) → HasEnd m → MayStandBehind rest m
may_be_extra (VoteReq term member last_index last_term) rest has = tt
may_be_extra (Vote term member granted) rest has = tt
may_be_extra (Order term leader prev_index prev_term term_start commit via es) rest has = tt
may_be_extra (Ack term member index applied) rest has = tt
may_be_extra (Nack term member hint) rest has = tt
may_be_extra (AggCommit term index) rest has = tt
may_be_extra (RecoverAsk member) rest has = tt
may_be_extra (RecoverBody kind body) rest has = absurd has

-- bytes after a valid message
pub bytes_behind_are_extra : BytesBehindAreExtra
bytes_behind_are_extra m b rest fits valid has = reads m (b ∷ rest) (may_be_extra m (b ∷ rest) has) fits valid
