-- What reads as a message is that message's bytes, and the message is valid.
use Rattle.std.proofs.Common.{◌≡◌, ℕ, ◌+◌, ◌-◌, ◌≤◌, ◌==◌, max, min, leb, cond, Bool, true, false, List, [], ◌∷◌, length, Result, Ok, Err, refl, sym, subst, ◌∙◌, arith, inl, inr, ◌⊎◌}
use Rattle.std.specs.List.{flat_map}
use Rattle.std.proofs.lemmas.Bool.{eqb-true, leb-true}
use Rattle.std.proofs.lemmas.List.{append-nil}
use Rattle.r2_base.specs.declared.entry.Entry.{Entry}
use Rattle.r2_base.specs.Numbers.{u64_bytes, AreBytes}
use Rattle.hc_message.specs.declared.field_fault.FieldFault.{FieldFault}
use Rattle.hc_message.specs.declared.field_fault.FieldFault.TheVariants as field
use Rattle.hc_message.specs.declared.msg.Msg.{Msg}
use Rattle.hc_message.specs.declared.msg.Msg.TheVariants.{VoteReq, Vote, Order, Ack, Nack, AggCommit, RecoverAsk, RecoverBody}
use Rattle.hc_message.specs.declared.msg_fault.MsgFault.{MsgFault}
use Rattle.hc_message.specs.declared.msg_fault.MsgFault.TheVariants.{Tag, Extra, Memory}
use Rattle.r2_base.specs.Limits.{greatest_member, greatest_number, most_body, most_entries}
use Rattle.hc_message.specs.Entry.{IsIndex, IsMember, IsTerm, narrow_entry_bytes, flag_number}
use Rattle.hc_message.specs.Laws.{ExtraIsBehindAMessage, FitsMessage, HasEnd, NoBytesWantMemory, WhatIsReadIsSpelled}
use Rattle.hc_message.specs.declared.order_head.OrderHead.{OrderHead}
use Rattle.hc_message.specs.Faults.{msg_fault_of}
use Rattle.hc_message.specs.Fields.{of_fields}
use Rattle.hc_message.specs.Message.{IsOrdering, IsValid, message_bytes}
use Rattle.hc_message.specs.Reading.{front_ack, front_ask, front_body, front_commit, ended, front_fields, front_index, front_member, decode_message, front_nack, front_order, front_order_head, front_term, order_of, front_vote, front_vote_request}
use Rattle.hc_message.proofs.Takes.{AreBytes-behind, Takes, Takes-behind, Takes-both, bind_ok, bind_then, ok_is, test_ok}
use Rattle.hc_message.proofs.FieldLaws.{flag_takes, kind_takes, number_takes, small_takes}
use Rattle.hc_message.proofs.Ordered.{entries_take, ordered_chained}

-- nothing may follow a body, which goes to the end
abbrev pub MayStandBehind : List ℕ → Msg → Type 0
MayStandBehind rest (RecoverBody kind body) = rest ≡ []
MayStandBehind rest _ = Unit {0}

-- a message that was read from the bytes after a tag
record IsRead (tag : ℕ) (bytes : List ℕ) (x : Msg × List ℕ) : Type 0 where
  taken : Takes (tag ∷ bytes) (message_bytes x.0) x.1
  valid : IsValid x.0
  fits : FitsMessage x.0
  behind : MayStandBehind x.1 x.0

term_takes : (bytes : List ℕ) (x : ℕ × List ℕ) → AreBytes bytes → front_term bytes ≡ Ok x → Takes bytes (u64_bytes x.0) x.1 × IsTerm x.0
unfolding front_term
term_takes bytes x are e =
    let t = number_takes 1 greatest_number bytes x are e in
    (t.0, record { least = t.1; most = t.2 })

index_takes : (bytes : List ℕ) (x : ℕ × List ℕ) → AreBytes bytes → front_index bytes ≡ Ok x → Takes bytes (u64_bytes x.0) x.1 × IsIndex x.0
unfolding front_index
index_takes bytes x are e = let t = number_takes 0 greatest_number bytes x are e in (t.0, t.2)

member_takes : (bytes : List ℕ) (x : ℕ × List ℕ) → AreBytes bytes → front_member bytes ≡ Ok x → Takes bytes (x.0 ∷ []) x.1 × IsMember x.0
unfolding front_member
member_takes bytes x are e = let t = small_takes 0 greatest_member bytes x are e in (t.0, t.2)

vote_request_takes : (bytes : List ℕ) (x : Msg × List ℕ) → AreBytes bytes → front_vote_request bytes ≡ Ok x → IsRead 1 bytes x
unfolding front_vote_request message_bytes
vote_request_takes bytes x are e =
    let a = bind_ok _ _ _ e in
    let b = bind_ok _ _ _ a.2 in
    let c = bind_ok _ _ _ b.2 in
    let d = bind_ok _ _ _ c.2 in
    let term = term_takes bytes a.0 are a.1 in
    let member = member_takes a.0.1 b.0 term.0.rest_are b.1 in
    let index = index_takes b.0.1 c.0 member.0.rest_are c.1 in
    let last = number_takes 0 a.0.0 c.0.1 d.0 index.0.rest_are d.1 in
    subst (λ (y : Msg × List ℕ). IsRead 1 bytes y) (ok_is (VoteReq a.0.0 b.0.0 c.0.0 d.0.0, d.0.1) x d.2) (record {
      taken = Takes-both (Takes-both (Takes-behind 1 term.0) (Takes-both member.0 index.0)) last.0;
      valid = (term.1, member.1, index.1, last.2);
      fits = tt;
      behind = tt;
    })

vote_takes : (bytes : List ℕ) (x : Msg × List ℕ) → AreBytes bytes → front_vote bytes ≡ Ok x → IsRead 2 bytes x
unfolding front_vote message_bytes
vote_takes bytes x are e =
    let a = bind_ok _ _ _ e in
    let b = bind_ok _ _ _ a.2 in
    let c = bind_ok _ _ _ b.2 in
    let term = term_takes bytes a.0 are a.1 in
    let member = member_takes a.0.1 b.0 term.0.rest_are b.1 in
    let granted = flag_takes b.0.1 c.0 member.0.rest_are c.1 in
    subst (λ (y : Msg × List ℕ). IsRead 2 bytes y) (ok_is (Vote a.0.0 b.0.0 c.0.0, c.0.1) x c.2) (record {
      taken = Takes-both (Takes-behind 2 term.0) (Takes-both member.0 granted);
      valid = (term.1, member.1);
      fits = tt;
      behind = tt;
    })

-- a count that is let through has room after the previous index
counted : (prev_index count n : ℕ) → prev_index ≤ greatest_number → count ≤ min most_entries (greatest_number - prev_index) → n ≡ count → (n ≤ most_entries) × (prev_index + n ≤ greatest_number)
counted prev_index count n low high same = (omega arith, omega arith)

-- the fields of an Order, one after the other
order_parts : {bytes r1 r2 r3 r4 r5 r6 r7 r8 r9 : List ℕ} (term leader prev_index prev_term start commit : ℕ) (via : Bool) {count : ℕ} (es : List Entry) → Takes bytes (u64_bytes term) r1 → Takes r1 (leader ∷ []) r2 → Takes r2 (u64_bytes prev_index) r3 → Takes r3 (u64_bytes prev_term) r4 → Takes r4 (u64_bytes start) r5 → Takes r5 (u64_bytes commit) r6 → Takes r6 (flag_number via ∷ []) r7 → Takes r7 (count ∷ []) r8 → Takes r8 (flat_map narrow_entry_bytes es) r9 → length es ≡ count → Takes (3 ∷ bytes) (message_bytes (Order term leader prev_index prev_term start commit via es)) r9
unfolding message_bytes
order_parts {r6 = r6} {r9 = r9} term leader prev_index prev_term start commit via es term_is leader_is prev_index_is prev_term_is start_is commit_is via_is count_is entries_are same =
    let tail : Takes r6 (flag_number via ∷ length es ∷ flat_map narrow_entry_bytes es) r9 = rw same (Takes-both via_is (Takes-both count_is entries_are)) in
    Takes-both (Takes-both (Takes-both (Takes-both (Takes-both (Takes-behind 3 term_is) (Takes-both leader_is prev_index_is)) prev_term_is) start_is) commit_is) tail

-- what comes before the entries of an Order
record IsHead (bytes : List ℕ) (h : OrderHead) (rest : List ℕ) : Type 0 where
  ordering : IsOrdering h.term h.leader h.prev_index h.prev_term h.term_start h.commit
  counted : h.count ≤ min most_entries (greatest_number - h.prev_index)
  rest_are : AreBytes rest
  whole : (es : List Entry) (behind : List ℕ) → Takes rest (flat_map narrow_entry_bytes es) behind → length es ≡ h.count → Takes (3 ∷ bytes) (message_bytes (order_of h es)) behind

head_takes : (bytes : List ℕ) (x : OrderHead × List ℕ) → AreBytes bytes → front_order_head bytes ≡ Ok x → IsHead bytes x.0 x.1
unfolding front_order_head
head_takes bytes x are e =
    bind_then _ _ _ e (λ term is_term e1. bind_then _ _ _ e1 (λ leader is_leader e2. bind_then _ _ _ e2 (λ prev_index is_prev_index e3. bind_then _ _ _ e3 (λ prev_term is_prev_term e4. bind_then _ _ _ e4 (λ start is_start e5. bind_then _ _ _ e5 (λ commit is_commit e6. bind_then _ _ _ e6 (λ via is_via e7. bind_then _ _ _ e7 (λ count is_count e8.
    let t1 = term_takes bytes term are is_term in
    let t2 = member_takes term.1 leader t1.0.rest_are is_leader in
    let t3 = index_takes leader.1 prev_index t2.0.rest_are is_prev_index in
    let t4 = number_takes 0 term.0 prev_index.1 prev_term t3.0.rest_are is_prev_term in
    let t5 = term_takes prev_term.1 start t4.0.rest_are is_start in
    let t6 = index_takes start.1 commit t5.0.rest_are is_commit in
    let t7 = flag_takes commit.1 via t6.0.rest_are is_via in
    let t8 = small_takes 0 (min most_entries (greatest_number - prev_index.0)) via.1 count t7.rest_are is_count in
    let made : OrderHead × List ℕ = (record { term = term.0; leader = leader.0; prev_index = prev_index.0; prev_term = prev_term.0; term_start = start.0; commit = commit.0; via = via.0; count = count.0 }, count.1) in
    subst (λ (y : OrderHead × List ℕ). IsHead bytes y.0 y.1) (ok_is made x e8) (record {
      ordering = record { own = t1.1; sender = t2.1; behind = t3.1; least = t4.2; start = t5.1; agreed = t6.1 };
      counted = t8.2;
      rest_are = t8.0.rest_are;
      whole = λ es behind entries_are same. order_parts term.0 leader.0 prev_index.0 prev_term.0 start.0 commit.0 via.0 es t1.0 t2.0 t3.0 t4.0 t5.0 t6.0 t7 t8.0 entries_are same;
    })))))))))

order_takes : (bytes : List ℕ) (x : Msg × List ℕ) → AreBytes bytes → front_order bytes ≡ Ok x → IsRead 3 bytes x
unfolding front_order
order_takes bytes x are e =
    bind_then _ _ _ e (λ head is_head e1. bind_then _ _ _ e1 (λ entries are_entries e2.
    let h = head_takes bytes head are is_head in
    let t = entries_take head.0.count (max 1 head.0.prev_term) head.0.term head.1 entries h.rest_are are_entries in
    let room = counted head.0.prev_index head.0.count (length entries.0) h.ordering.behind h.counted t.1 in
    let ordered = ordered_chained head.0.prev_index head.0.prev_term head.0.term entries.0 room.0 room.1 h.ordering.own.most t.2 in
    subst (λ (y : Msg × List ℕ). IsRead 3 bytes y) (ok_is (order_of head.0 entries.0, entries.1) x e2) (record {
      taken = h.whole entries.0 entries.1 t.0 t.1;
      valid = (h.ordering, ordered.0);
      fits = ordered.1;
      behind = tt;
    })))

ack_takes : (bytes : List ℕ) (x : Msg × List ℕ) → AreBytes bytes → front_ack bytes ≡ Ok x → IsRead 4 bytes x
unfolding front_ack message_bytes
ack_takes bytes x are e =
    let a = bind_ok _ _ _ e in
    let b = bind_ok _ _ _ a.2 in
    let c = bind_ok _ _ _ b.2 in
    let d = bind_ok _ _ _ c.2 in
    let term = term_takes bytes a.0 are a.1 in
    let member = member_takes a.0.1 b.0 term.0.rest_are b.1 in
    let index = index_takes b.0.1 c.0 member.0.rest_are c.1 in
    let applied = index_takes c.0.1 d.0 index.0.rest_are d.1 in
    subst (λ (y : Msg × List ℕ). IsRead 4 bytes y) (ok_is (Ack a.0.0 b.0.0 c.0.0 d.0.0, d.0.1) x d.2) (record {
      taken = Takes-both (Takes-both (Takes-behind 4 term.0) (Takes-both member.0 index.0)) applied.0;
      valid = (term.1, member.1, index.1, applied.1);
      fits = tt;
      behind = tt;
    })

nack_takes : (bytes : List ℕ) (x : Msg × List ℕ) → AreBytes bytes → front_nack bytes ≡ Ok x → IsRead 5 bytes x
unfolding front_nack message_bytes
nack_takes bytes x are e =
    let a = bind_ok _ _ _ e in
    let b = bind_ok _ _ _ a.2 in
    let c = bind_ok _ _ _ b.2 in
    let term = term_takes bytes a.0 are a.1 in
    let member = member_takes a.0.1 b.0 term.0.rest_are b.1 in
    let hint = index_takes b.0.1 c.0 member.0.rest_are c.1 in
    subst (λ (y : Msg × List ℕ). IsRead 5 bytes y) (ok_is (Nack a.0.0 b.0.0 c.0.0, c.0.1) x c.2) (record {
      taken = Takes-both (Takes-behind 5 term.0) (Takes-both member.0 hint.0);
      valid = (term.1, member.1, hint.1);
      fits = tt;
      behind = tt;
    })

commit_takes : (bytes : List ℕ) (x : Msg × List ℕ) → AreBytes bytes → front_commit bytes ≡ Ok x → IsRead 6 bytes x
unfolding front_commit message_bytes
commit_takes bytes x are e =
    let a = bind_ok _ _ _ e in
    let b = bind_ok _ _ _ a.2 in
    let term = term_takes bytes a.0 are a.1 in
    let index = index_takes a.0.1 b.0 term.0.rest_are b.1 in
    subst (λ (y : Msg × List ℕ). IsRead 6 bytes y) (ok_is (AggCommit a.0.0 b.0.0, b.0.1) x b.2) (record {
      taken = Takes-both (Takes-behind 6 term.0) index.0;
      valid = (term.1, index.1);
      fits = tt;
      behind = tt;
    })

ask_takes : (bytes : List ℕ) (x : Msg × List ℕ) → AreBytes bytes → front_ask bytes ≡ Ok x → IsRead 7 bytes x
unfolding front_ask message_bytes
ask_takes bytes x are e =
    let a = bind_ok _ _ _ e in
    let member = member_takes bytes a.0 are a.1 in
    subst (λ (y : Msg × List ℕ). IsRead 7 bytes y) (ok_is (RecoverAsk a.0.0, a.0.1) x a.2) (record {
      taken = Takes-behind 7 member.0;
      valid = member.1;
      fits = tt;
      behind = tt;
    })

-- nothing follows what goes to the end
Takes-all : (bytes : List ℕ) → AreBytes bytes → Takes bytes bytes []
Takes-all bytes are = record { parts = sym (append-nil bytes); rest_are = λ i. omega arith }

body_takes : (bytes : List ℕ) (x : Msg × List ℕ) → AreBytes bytes → front_body bytes ≡ Ok x → IsRead 8 bytes x
unfolding front_body message_bytes
body_takes bytes x are e =
    let a = bind_ok _ _ _ e in
    let kind = kind_takes 1 bytes a.0 are a.1 in
    let g = test_ok (leb (length a.0.1) most_body) field.Range (RecoverBody a.0.0 a.0.1, []) x a.2 in
    subst (λ (y : Msg × List ℕ). IsRead 8 bytes y) g.1 (record {
      taken = Takes-behind 8 (Takes-both kind.0 (Takes-all a.0.1 kind.0.rest_are));
      valid = (kind.1, leb-true _ _ g.0);
      fits = tt;
      behind = refl;
    })

-- fields that were read without a fault
fields_ok : {A : Type 0} (r : Result A FieldFault) (x : A) → of_fields msg_fault_of r ≡ Ok x → r ≡ Ok x
fields_ok (Ok y) x e = cc
fields_ok (Err field.Short) x e = absurd cc
fields_ok (Err field.Range) x e = absurd cc

-- which way a test went
pub chosen : {A : Type 0} (b : Bool) (x y z : A) → cond b x y ≡ z → ((b ≡ true) × (x ≡ z)) ⊎ ((b ≡ false) × (y ≡ z))
chosen true x y z e = inl (refl, e)
chosen false x y z e = inr (refl, e)

by_tag : (tag k : ℕ) (bytes : List ℕ) (x : Msg × List ℕ) → (tag == k) ≡ true → IsRead k bytes x → IsRead tag bytes x
by_tag tag k bytes x e read = subst (λ (n : ℕ). IsRead n bytes x) (sym (eqb-true tag k e)) read

-- the fields of a message are taken by its tag
fields_take : (tag : ℕ) (bytes : List ℕ) (x : Msg × List ℕ) → AreBytes bytes → front_fields tag bytes ≡ Ok x → IsRead tag bytes x
unfolding front_fields
fields_take tag bytes x are e =
    elim (chosen (tag == 1) _ _ _ e) [
      | inl h1 ↦ by_tag tag 1 bytes x h1.0 (vote_request_takes bytes x are (fields_ok _ _ h1.1))
      | inr h1 ↦
          elim (chosen (tag == 2) _ _ _ h1.1) [
            | inl h2 ↦ by_tag tag 2 bytes x h2.0 (vote_takes bytes x are (fields_ok _ _ h2.1))
            | inr h2 ↦
                elim (chosen (tag == 3) _ _ _ h2.1) [
                  | inl h3 ↦ by_tag tag 3 bytes x h3.0 (order_takes bytes x are (fields_ok _ _ h3.1))
                  | inr h3 ↦
                      elim (chosen (tag == 4) _ _ _ h3.1) [
                        | inl h4 ↦ by_tag tag 4 bytes x h4.0 (ack_takes bytes x are (fields_ok _ _ h4.1))
                        | inr h4 ↦
                            elim (chosen (tag == 5) _ _ _ h4.1) [
                              | inl h5 ↦ by_tag tag 5 bytes x h5.0 (nack_takes bytes x are (fields_ok _ _ h5.1))
                              | inr h5 ↦
                                  elim (chosen (tag == 6) _ _ _ h5.1) [
                                    | inl h6 ↦ by_tag tag 6 bytes x h6.0 (commit_takes bytes x are (fields_ok _ _ h6.1))
                                    | inr h6 ↦
                                        elim (chosen (tag == 7) _ _ _ h6.1) [
                                          | inl h7 ↦ by_tag tag 7 bytes x h7.0 (ask_takes bytes x are (fields_ok _ _ h7.1))
                                          | inr h7 ↦
                                              elim (chosen (tag == 8) _ _ _ h7.1) [
                                                | inl h8 ↦ by_tag tag 8 bytes x h8.0 (body_takes bytes x are (fields_ok _ _ h8.1))
                                                | inr h8 ↦
                                                    absurd cc
                                              ]
                                        ]
                                  ]
                            ]
                      ]
                ]
          ]
    ]

-- a message that came to its end
pub ended_ok : (r : Result (Msg × List ℕ) MsgFault) (m : Msg) → ended r ≡ Ok m → r ≡ Ok (m, [])
ended_ok (Ok (n, [])) m e = cc
ended_ok (Ok (n, b ∷ rest)) m e = absurd cc
ended_ok (Err fault) m e = absurd cc

-- what reads as a message is that message's bytes
pub what_is_read_is_spelled : WhatIsReadIsSpelled
unfolding decode_message
what_is_read_is_spelled m [] are e = absurd cc
what_is_read_is_spelled m (tag ∷ bytes) are e =
    let read = fields_take tag bytes (m, []) (AreBytes-behind tag bytes are) (ended_ok (front_fields tag bytes) m e) in
    record {
      fits = read.fits;
      spells = record { valid = read.valid; same = read.taken.parts ∙ append-nil (message_bytes m) };
    }

fields_not_extra : {A : Type 0} (r : Result A FieldFault) → of_fields msg_fault_of r ≡ Err Extra → ⊥
fields_not_extra (Ok y) e = cc
fields_not_extra (Err field.Short) e = cc
fields_not_extra (Err field.Range) e = cc

either : {A : Type 0} (b : Bool) (x y : A) (P : A → Type 0) → P x → P y → P (cond b x y)
either true x y P p q = p
either false x y P p q = q

-- what holds of any fields, and where there is no such tag, holds of the fields after any tag
each_tag : (P : Result (Msg × List ℕ) MsgFault → Type 0) → ((r : Result (Msg × List ℕ) FieldFault) → P (of_fields msg_fault_of r)) → P (Err Tag) → (tag : ℕ) (bytes : List ℕ) → P (front_fields tag bytes)
unfolding front_fields
each_tag P each none tag bytes =
    either (tag == 1) _ _ P (each (front_vote_request bytes)) (either (tag == 2) _ _ P (each (front_vote bytes)) (either (tag == 3) _ _ P (each (front_order bytes)) (either (tag == 4) _ _ P (each (front_ack bytes)) (either (tag == 5) _ _ P (each (front_nack bytes)) (either (tag == 6) _ _ P (each (front_commit bytes)) (either (tag == 7) _ _ P (each (front_ask bytes)) (either (tag == 8) _ _ P (each (front_body bytes)) none)))))))

no_fields_are_extra : (tag : ℕ) (bytes : List ℕ) → front_fields tag bytes ≡ Err Extra → ⊥
no_fields_are_extra = each_tag (λ r. r ≡ Err Extra → ⊥) fields_not_extra (λ e. cc)

-- what reads as Extra: a message with a byte after it
record IsBehind (r : Result (Msg × List ℕ) MsgFault) : Type 0 where
  message : Msg
  byte : ℕ
  rest : List ℕ
  read : r ≡ Ok (message, byte ∷ rest)

ended_extra : (r : Result (Msg × List ℕ) MsgFault) → (r ≡ Err Extra → ⊥) → ended r ≡ Err Extra → IsBehind r
ended_extra (Ok (m, [])) not e = absurd cc
ended_extra (Ok (m, b ∷ rest)) not e = record { message = m; byte = b; rest = rest; read = refl }
ended_extra (Err fault) not e = absurd (not cc)

-- a message with something after it says itself where it ends
has_end : (m : Msg) (b : ℕ) (rest : List ℕ) → MayStandBehind (b ∷ rest) m → HasEnd m
has_end (VoteReq term member last_index last_term) b rest may = tt
has_end (Vote term member granted) b rest may = tt
has_end (Order term leader prev_index prev_term term_start commit via es) b rest may = tt
has_end (Ack term member index applied) b rest may = tt
has_end (Nack term member hint) b rest may = tt
has_end (AggCommit term index) b rest may = tt
has_end (RecoverAsk member) b rest may = tt
has_end (RecoverBody kind body) b rest may = cc

pub extra_is_behind_a_message : ExtraIsBehindAMessage
unfolding decode_message
extra_is_behind_a_message [] are e = absurd cc
extra_is_behind_a_message (tag ∷ bytes) are e =
    let behind = ended_extra (front_fields tag bytes) (no_fields_are_extra tag bytes) e in
    let read = fields_take tag bytes (behind.message, behind.byte ∷ behind.rest) (AreBytes-behind tag bytes are) behind.read in
    record {
      message = behind.message;
      fits = read.fits;
      valid = read.valid;
      ends = has_end behind.message behind.byte behind.rest read.behind;
      byte = behind.byte;
      rest = behind.rest;
      same = read.taken.parts;
    }

fields_want_no_memory : {A : Type 0} (r : Result A FieldFault) → of_fields msg_fault_of r ≡ Err Memory → ⊥
fields_want_no_memory (Ok y) e = cc
fields_want_no_memory (Err field.Short) e = cc
fields_want_no_memory (Err field.Range) e = cc

no_fields_want_memory : (tag : ℕ) (bytes : List ℕ) → front_fields tag bytes ≡ Err Memory → ⊥
no_fields_want_memory = each_tag (λ r. r ≡ Err Memory → ⊥) fields_want_no_memory (λ e. cc)

ended_memory : (r : Result (Msg × List ℕ) MsgFault) → ended r ≡ Err Memory → r ≡ Err Memory
ended_memory (Ok (n, [])) e = absurd cc
ended_memory (Ok (n, b ∷ rest)) e = absurd cc
ended_memory (Err fault) e = cc

-- no bytes read as the fault Memory
pub no_bytes_want_memory : NoBytesWantMemory
unfolding decode_message
no_bytes_want_memory [] e = cc
no_bytes_want_memory (tag ∷ bytes) e = no_fields_want_memory tag bytes (ended_memory (front_fields tag bytes) e)
