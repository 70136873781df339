-- What is read as a message is valid, whatever the bytes are.
use Rattle.std.proofs.Common.{◌≡◌, ℕ, zero, suc, ◌+◌, ◌-◌, ◌≤◌, ◌==◌, ◌||◌, leb, max, min, Bool, true, List, [], ◌∷◌, length, Result, Ok, Err, inl, inr, refl, ap, subst, arith}
use Rattle.std.specs.Prelude.{All}
use Rattle.std.specs.List.Sorted.{IsNonDecreasingBy}
use Rattle.std.proofs.lemmas.Bool.{and_parts, eqb-true}
use Rattle.std.proofs.lemmas.List.Elements.{All-cons, All-nil, All-weaker}
use Rattle.r2_base.specs.declared.entry.Entry.{Entry}
use Rattle.r2_base.specs.declared.entry.Kind.{Kind}
use Rattle.r2_base.specs.declared.entry.Kind.TheVariants.{Blank, Write, Read}
use Rattle.r2_base.specs.declared.rid.Rid.{Rid}
use Rattle.r2_base.specs.Entry.{NamesReplier, is_no_rid, is_request, no_rid}
use Rattle.r2_base.specs.Limits.{greatest_member, greatest_number, most_entries, no_replier}
use Rattle.hc_message.specs.declared.field_fault.FieldFault.{FieldFault}
use Rattle.hc_message.specs.declared.field_fault.FieldFault.TheVariants as field
use Rattle.hc_message.specs.declared.msg.Msg.{Msg}
use Rattle.hc_message.specs.declared.msg.Msg.TheVariants.{VoteReq, Vote, Order, Ack, Nack, AggCommit, RecoverAsk, RecoverBody}
use Rattle.hc_message.specs.Entry.{IsIndex, IsMember, IsTerm}
use Rattle.hc_message.specs.Faults.{msg_fault_of}
use Rattle.hc_message.specs.Fields.{of_fields, front_byte, front_entry, front_flag, front_kind, front_number, front_replier, front_rid, front_rid_of_kind, front_small, front_u64}
use Rattle.hc_message.specs.Message.{AreOrdered, IsOrdering, IsValid}
use Rattle.hc_message.specs.Reading.{decode_message, front_ack, front_ask, front_body, front_commit, front_entries, front_fields, front_index, front_member, front_nack, front_order, front_order_head, front_term, front_vote, front_vote_request, order_of}
use Rattle.hc_message.proofs.Takes.{bind_ok, bind_then, ok_is, test_ok}
use Rattle.hc_message.proofs.FieldLaws.{within_ok}
use Rattle.hc_message.proofs.Taken.{chosen, ended_ok}
use Rattle.hc_member.proofs.Recoveries.{IsValidRecovery, recovery_is_valid}

-- Fields --

number_read : (least most : ℕ) (bytes : List ℕ) (x : ℕ × List ℕ) → front_number least most bytes ≡ Ok x → (least ≤ x.0) × (x.0 ≤ most)
unfolding front_number
number_read least most bytes x e =
    let a = bind_ok (front_u64 bytes) _ _ e in
    let within = within_ok least most a.0 x a.2 in
    (within.low, within.high)

small_read : (least most : ℕ) (bytes : List ℕ) (x : ℕ × List ℕ) → front_small least most bytes ≡ Ok x → (least ≤ x.0) × (x.0 ≤ most)
unfolding front_small
small_read least most bytes x e =
    let a = bind_ok (front_byte bytes) _ _ e in
    let within = within_ok least most a.0 x a.2 in
    (within.low, within.high)

term_read : (bytes : List ℕ) (x : ℕ × List ℕ) → front_term bytes ≡ Ok x → IsTerm x.0
unfolding front_term
term_read bytes x e = let n = number_read 1 greatest_number bytes x e in record { least = n.0; most = n.1 }

index_read : (bytes : List ℕ) (x : ℕ × List ℕ) → front_index bytes ≡ Ok x → IsIndex x.0
unfolding front_index
index_read bytes x e = let n = number_read 0 greatest_number bytes x e in n.1

member_read : (bytes : List ℕ) (x : ℕ × List ℕ) → front_member bytes ≡ Ok x → IsMember x.0
unfolding front_member
member_read bytes x e = let n = small_read 0 greatest_member bytes x e in n.1

-- Entries --

abbrev rid_of : ℕ → ℕ → ℕ → Rid
rid_of ip port id = record { id = id; client = record { ip = ip; port = port } }

same_rid : (a a' b b' c c' : ℕ) → a ≡ a' → b ≡ b' → c ≡ c' → rid_of a b c ≡ rid_of a' b' c'
same_rid a a' b b' c c' p q r = cc

-- a request id that passes the test is all zeros
is_no_rid-true : (r : Rid) → is_no_rid r ≡ true → r ≡ no_rid
is_no_rid-true r e =
    let both = and_parts _ _ e in
    let address = and_parts _ _ both.0 in
    same_rid r.client.ip 0 r.client.port 0 r.id 0 (eqb-true _ _ address.0) (eqb-true _ _ address.1) (eqb-true _ _ both.1)

-- the test of an entry's request id, and its replier
names_replier : (kind : Kind) (rid : Rid) (bytes : List ℕ) (x : ℕ × List ℕ) → (is_request kind || is_no_rid rid) ≡ true → front_replier kind bytes ≡ Ok x
    → NamesReplier kind rid x.0
unfolding front_replier
names_replier Blank rid bytes x e f =
    let n = small_read no_replier no_replier bytes x f in
    (is_no_rid-true rid e, omega (arith, n.0, n.1))
names_replier Write rid bytes x e f = let n = small_read 0 greatest_member bytes x f in n.1
names_replier Read rid bytes x e f = let n = small_read 0 greatest_member bytes x f in n.1

rid_read : (kind : Kind) (bytes : List ℕ) (x : Rid × List ℕ) → front_rid_of_kind kind bytes ≡ Ok x → (is_request kind || is_no_rid x.0) ≡ true
unfolding front_rid_of_kind
rid_read kind bytes x e =
    let a = bind_ok (front_rid bytes) _ _ e in
    let passed = test_ok (is_request kind || is_no_rid a.0.0) field.Range a.0 x a.2 in
    subst (λ (y : Rid × List ℕ). (is_request kind || is_no_rid y.0) ≡ true) passed.1 passed.0

-- an entry whose term is from least to most
record IsFrom (least most : ℕ) (e : Entry) : Type 0 where
  low : least ≤ e.term
  high : e.term ≤ most
  replier : NamesReplier e.kind e.rid e.replier

entry_read : (least most : ℕ) (bytes : List ℕ) (x : Entry × List ℕ) → front_entry least most bytes ≡ Ok x → IsFrom least most x.0
unfolding front_entry
entry_read least most bytes x e =
    let a = bind_ok (front_number least most bytes) _ _ e in
    let b = bind_ok (front_kind 0 a.0.1) _ _ a.2 in
    let c = bind_ok (front_rid_of_kind b.0.0 b.0.1) _ _ b.2 in
    let d = bind_ok (front_replier b.0.0 c.0.1) _ _ c.2 in
    let term = number_read least most bytes a.0 a.1 in
    let made : Entry × List ℕ = (record { term = a.0.0; kind = b.0.0; rid = c.0.0; replier = d.0.0 }, d.0.1) in
    subst (λ (y : Entry × List ℕ). IsFrom least most y.0) (ok_is made x d.2)
    (record { low = term.0; high = term.1; replier = names_replier b.0.0 c.0.0 c.0.1 d.0 (rid_read b.0.0 b.0.1 c.0 c.1) d.1 })

-- each entry's term is from that of the one before it on
abbrev AreFrom : ℕ → ℕ → List Entry → Type 0
AreFrom least most [] = Unit {0}
AreFrom least most (e ∷ es) = IsFrom least most e × AreFrom e.term most es

entries_read : (count least most : ℕ) (bytes : List ℕ) (x : List Entry × List ℕ) → front_entries count least most bytes ≡ Ok x
    → (length x.0 ≡ count) × AreFrom least most x.0
unfolding front_entries
entries_read zero least most bytes x e =
    subst (λ (y : List Entry × List ℕ). (length y.0 ≡ 0) × AreFrom least most y.0) (ok_is ([], bytes) x e) (refl, tt)
entries_read (suc count) least most bytes x e =
    let a = bind_ok (front_entry least most bytes) _ _ e in
    let b = bind_ok (front_entries count a.0.0.term most a.0.1) _ _ a.2 in
    let others = entries_read count a.0.0.term most a.0.1 b.0 b.1 in
    let made : List Entry × List ℕ = (a.0.0 ∷ b.0.0, b.0.1) in
    subst (λ (y : List Entry × List ℕ). (length y.0 ≡ suc count) × AreFrom least most y.0) (ok_is made x b.2)
    (ap suc others.0, (entry_read least most bytes a.0 a.1, others.1))

each_from : (least most : ℕ) (es : List Entry) → AreFrom least most es → All (IsFrom least most) es
each_from least most [] from = All-nil (IsFrom least most)
each_from least most (e ∷ es) from =
    let first = from.0 in
    All-cons (IsFrom least most) e es first
    (All-weaker (IsFrom e.term most) (IsFrom least most)
    (λ f is. let low = is.low in record { low = omega (arith, low, first.low); high = is.high; replier = is.replier })
    es (each_from e.term most es from.1))

rises-cons : (e : Entry) (es : List Entry) → All (λ f. e.term ≤ f.term) es → IsNonDecreasingBy (λ f. f.term) es → IsNonDecreasingBy (λ f. f.term) (e ∷ es)
rises-cons e es low rises zero zero d le lt = omega arith
rises-cons e es low rises zero (suc j) d le lt = low j d (omega arith)
rises-cons e es low rises (suc i) zero d le lt = absurd (omega arith)
rises-cons e es low rises (suc i) (suc j) d le lt = rises i j d (omega arith) (omega arith)

rises_from : (least most : ℕ) (es : List Entry) → AreFrom least most es → IsNonDecreasingBy (λ e. e.term) es
rises_from least most [] from = λ i j d le lt. absurd (omega arith)
rises_from least most (e ∷ es) from =
    rises-cons e es (All-weaker (IsFrom e.term most) (λ f. e.term ≤ f.term) (λ f is. is.low) es (each_from e.term most es from.1))
    (rises_from e.term most es from.1)

ordered_from : (index least most : ℕ) (es : List Entry) → length es ≤ most_entries → index + length es ≤ greatest_number → most ≤ greatest_number
    → AreFrom (max 1 least) most es → AreOrdered index least most es
ordered_from index least most es count room below from =
    let each = each_from (max 1 least) most es from in
    record {
      count = count;
      room = room;
      each = λ k d lt. let is = each k d lt in record { term = record { least = omega (arith, is.low); most = omega (arith, is.high) }; replier = is.replier };
      low = λ k d lt. omega (arith, (each k d lt).low);
      high = λ k d lt. (each k d lt).high;
      never_fall = rises_from (max 1 least) most es from;
    }

-- Messages --

vote_request_read : (bytes : List ℕ) (x : Msg × List ℕ) → front_vote_request bytes ≡ Ok x → IsValid x.0
unfolding front_vote_request
vote_request_read bytes x e =
    let a = bind_ok (front_term bytes) _ _ e in
    let b = bind_ok (front_member a.0.1) _ _ a.2 in
    let c = bind_ok (front_index b.0.1) _ _ b.2 in
    let d = bind_ok (front_number 0 a.0.0 c.0.1) _ _ c.2 in
    let last = number_read 0 a.0.0 c.0.1 d.0 d.1 in
    subst (λ (y : Msg × List ℕ). IsValid y.0) (ok_is (VoteReq a.0.0 b.0.0 c.0.0 d.0.0, d.0.1) x d.2)
    (term_read bytes a.0 a.1, member_read a.0.1 b.0 b.1, index_read b.0.1 c.0 c.1, last.1)

vote_read : (bytes : List ℕ) (x : Msg × List ℕ) → front_vote bytes ≡ Ok x → IsValid x.0
unfolding front_vote
vote_read bytes x e =
    let a = bind_ok (front_term bytes) _ _ e in
    let b = bind_ok (front_member a.0.1) _ _ a.2 in
    let c = bind_ok (front_flag b.0.1) _ _ b.2 in
    subst (λ (y : Msg × List ℕ). IsValid y.0) (ok_is (Vote a.0.0 b.0.0 c.0.0, c.0.1) x c.2)
    (term_read bytes a.0 a.1, member_read a.0.1 b.0 b.1)

-- what comes before the entries of an Order
record IsHead (term leader prev_index prev_term term_start commit count : ℕ) : Type 0 where
  ordering : IsOrdering term leader prev_index prev_term term_start commit
  counted : count ≤ min most_entries (greatest_number - prev_index)

head_read : (bytes : List ℕ) (x : _) → front_order_head bytes ≡ Ok x
    → IsHead x.0.term x.0.leader x.0.prev_index x.0.prev_term x.0.term_start x.0.commit x.0.count
unfolding front_order_head
head_read bytes x e =
    bind_then {A = ℕ × List ℕ} _ _ _ e (λ term is_term e1. bind_then {A = ℕ × List ℕ} _ _ _ e1 (λ leader is_leader e2. bind_then {A = ℕ × List ℕ} _ _ _ e2 (λ prev_index is_prev_index e3. bind_then {A = ℕ × List ℕ} _ _ _ e3 (λ prev_term is_prev_term e4. bind_then {A = ℕ × List ℕ} _ _ _ e4 (λ start is_start e5. bind_then {A = ℕ × List ℕ} _ _ _ e5 (λ commit is_commit e6. bind_then {A = Bool × List ℕ} _ _ _ e6 (λ via is_via e7. bind_then {A = ℕ × List ℕ} _ _ _ e7 (λ count is_count e8.
    let least = number_read 0 term.0 prev_index.1 prev_term is_prev_term in
    let most = small_read 0 (min most_entries (greatest_number - prev_index.0)) via.1 count is_count in
    subst (λ y. IsHead y.0.term y.0.leader y.0.prev_index y.0.prev_term y.0.term_start y.0.commit y.0.count) (ok_is (record { term = term.0; leader = leader.0; prev_index = prev_index.0; prev_term = prev_term.0; term_start = start.0; commit = commit.0; via = via.0; count = count.0 }, count.1) x e8) (record {
      ordering = record {
        own = term_read bytes term is_term;
        sender = member_read term.1 leader is_leader;
        behind = index_read leader.1 prev_index is_prev_index;
        least = least.1;
        start = term_read prev_term.1 start is_start;
        agreed = index_read start.1 commit is_commit;
      };
      counted = most.1;
    })))))))))

-- a count that is let through has room after the previous index
counted : (prev_index count n : ℕ) → prev_index ≤ greatest_number → count ≤ min most_entries (greatest_number - prev_index) → n ≡ count
    → (n ≤ most_entries) × (prev_index + n ≤ greatest_number)
counted prev_index count n low high same = (omega arith, omega arith)

order_read : (bytes : List ℕ) (x : Msg × List ℕ) → front_order bytes ≡ Ok x → IsValid x.0
unfolding front_order
order_read bytes x e =
    let a = bind_ok (front_order_head bytes) _ _ e in
    let b = bind_ok (front_entries a.0.0.count (max 1 a.0.0.prev_term) a.0.0.term a.0.1) _ _ a.2 in
    let h = head_read bytes a.0 a.1 in
    let t = entries_read a.0.0.count (max 1 a.0.0.prev_term) a.0.0.term a.0.1 b.0 b.1 in
    let room = counted a.0.0.prev_index a.0.0.count (length b.0.0) h.ordering.behind h.counted t.0 in
    subst (λ (y : Msg × List ℕ). IsValid y.0) (ok_is (order_of a.0.0 b.0.0, b.0.1) x b.2)
    (h.ordering, ordered_from a.0.0.prev_index a.0.0.prev_term a.0.0.term b.0.0 room.0 room.1 h.ordering.own.most t.1)

ack_read : (bytes : List ℕ) (x : Msg × List ℕ) → front_ack bytes ≡ Ok x → IsValid x.0
unfolding front_ack
ack_read bytes x e =
    let a = bind_ok (front_term bytes) _ _ e in
    let b = bind_ok (front_member a.0.1) _ _ a.2 in
    let c = bind_ok (front_index b.0.1) _ _ b.2 in
    let d = bind_ok (front_index c.0.1) _ _ c.2 in
    subst (λ (y : Msg × List ℕ). IsValid y.0) (ok_is (Ack a.0.0 b.0.0 c.0.0 d.0.0, d.0.1) x d.2)
    (term_read bytes a.0 a.1, member_read a.0.1 b.0 b.1, index_read b.0.1 c.0 c.1, index_read c.0.1 d.0 d.1)

nack_read : (bytes : List ℕ) (x : Msg × List ℕ) → front_nack bytes ≡ Ok x → IsValid x.0
unfolding front_nack
nack_read bytes x e =
    let a = bind_ok (front_term bytes) _ _ e in
    let b = bind_ok (front_member a.0.1) _ _ a.2 in
    let c = bind_ok (front_index b.0.1) _ _ b.2 in
    subst (λ (y : Msg × List ℕ). IsValid y.0) (ok_is (Nack a.0.0 b.0.0 c.0.0, c.0.1) x c.2)
    (term_read bytes a.0 a.1, member_read a.0.1 b.0 b.1, index_read b.0.1 c.0 c.1)

commit_read : (bytes : List ℕ) (x : Msg × List ℕ) → front_commit bytes ≡ Ok x → IsValid x.0
unfolding front_commit
commit_read bytes x e =
    let a = bind_ok (front_term bytes) _ _ e in
    let b = bind_ok (front_index a.0.1) _ _ a.2 in
    subst (λ (y : Msg × List ℕ). IsValid y.0) (ok_is (AggCommit a.0.0 b.0.0, b.0.1) x b.2)
    (term_read bytes a.0 a.1, index_read a.0.1 b.0 b.1)

-- a message that isn't about a body is valid; of another nothing is said
abbrev IsValidOther : Msg → Type 0
IsValidOther (RecoverAsk member) = Unit {0}
IsValidOther (RecoverBody kind body) = Unit {0}
IsValidOther m = IsValid m

other : (m : Msg) → IsValid m → IsValidOther m
other (VoteReq a b c d) valid = valid
other (Vote a b c) valid = valid
other (Order a b c d e f g h) valid = valid
other (Ack a b c d) valid = valid
other (Nack a b c) valid = valid
other (AggCommit a b) valid = valid
other (RecoverAsk a) valid = tt
other (RecoverBody a b) valid = tt

ask_other : (bytes : List ℕ) (x : Msg × List ℕ) → front_ask bytes ≡ Ok x → IsValidOther x.0
unfolding front_ask
ask_other bytes x e =
    let a = bind_ok (front_member bytes) _ _ e in
    subst (λ (y : Msg × List ℕ). IsValidOther y.0) (ok_is (RecoverAsk a.0.0, a.0.1) x a.2) tt

body_other : (bytes : List ℕ) (x : Msg × List ℕ) → front_body bytes ≡ Ok x → IsValidOther x.0
unfolding front_body
body_other bytes x e =
    let a = bind_ok (front_kind 1 bytes) _ _ e in
    let passed = test_ok (leb (length a.0.1) 61440) field.Range (RecoverBody a.0.0 a.0.1, []) x a.2 in
    subst (λ (y : Msg × List ℕ). IsValidOther y.0) passed.1 tt

-- fields that were read without a fault
fields_ok : {A : Type 0} (r : Result A FieldFault) (x : A) → of_fields msg_fault_of r ≡ Ok x → r ≡ Ok x
fields_ok (Ok y) x e = cc
fields_ok (Err field.Short) x e = absurd cc
fields_ok (Err field.Range) x e = absurd cc

fields_read : (tag : ℕ) (bytes : List ℕ) (x : Msg × List ℕ) → front_fields tag bytes ≡ Ok x → IsValidOther x.0
unfolding front_fields
fields_read tag bytes x e =
    elim (chosen (tag == 1) _ _ _ e) [
      | inl h ↦ other x.0 (vote_request_read bytes x (fields_ok _ _ h.1))
      | inr h1 ↦
          elim (chosen (tag == 2) _ _ _ h1.1) [
            | inl h ↦ other x.0 (vote_read bytes x (fields_ok _ _ h.1))
            | inr h2 ↦
                elim (chosen (tag == 3) _ _ _ h2.1) [
                  | inl h ↦ other x.0 (order_read bytes x (fields_ok _ _ h.1))
                  | inr h3 ↦
                      elim (chosen (tag == 4) _ _ _ h3.1) [
                        | inl h ↦ other x.0 (ack_read bytes x (fields_ok _ _ h.1))
                        | inr h4 ↦
                            elim (chosen (tag == 5) _ _ _ h4.1) [
                              | inl h ↦ other x.0 (nack_read bytes x (fields_ok _ _ h.1))
                              | inr h5 ↦
                                  elim (chosen (tag == 6) _ _ _ h5.1) [
                                    | inl h ↦ other x.0 (commit_read bytes x (fields_ok _ _ h.1))
                                    | inr h6 ↦
                                        elim (chosen (tag == 7) _ _ _ h6.1) [
                                          | inl h ↦ ask_other bytes x (fields_ok _ _ h.1)
                                          | inr h7 ↦
                                              elim (chosen (tag == 8) _ _ _ h7.1) [
                                                | inl h ↦ body_other bytes x (fields_ok _ _ h.1)
                                                | inr h8 ↦ absurd cc
                                              ]
                                        ]
                                  ]
                            ]
                      ]
                ]
          ]
    ]

other_is_valid : (bytes : List ℕ) (m : Msg) → decode_message bytes ≡ Ok m → IsValidOther m
unfolding decode_message
other_is_valid [] m e = absurd cc
other_is_valid (tag ∷ bytes) m e = fields_read tag bytes (m, []) (ended_ok (front_fields tag bytes) m e)

-- both kinds
both_valid : (m : Msg) → IsValidOther m → IsValidRecovery m → IsValid m
both_valid (VoteReq a b c d) valid recovery = valid
both_valid (Vote a b c) valid recovery = valid
both_valid (Order a b c d e f g h) valid recovery = valid
both_valid (Ack a b c d) valid recovery = valid
both_valid (Nack a b c) valid recovery = valid
both_valid (AggCommit a b) valid recovery = valid
both_valid (RecoverAsk a) valid recovery = recovery
both_valid (RecoverBody a b) valid recovery = recovery

-- whatever is read is valid
pub decoded_is_valid : (bytes : List ℕ) (m : Msg) → decode_message bytes ≡ Ok m → IsValid m
decoded_is_valid bytes m e = both_valid m (other_is_valid bytes m e) (recovery_is_valid bytes m e)
