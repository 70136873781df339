-- A message about a body that was read is valid, whatever the bytes are.
use Rattle.std.proofs.Common.{◌≡◌, ℕ, zero, suc, ◌≤◌, ◌==◌, leb, max, List, [], ◌∷◌, length, Result, Ok, Err, inl, inr, subst, arith}
use Rattle.std.proofs.lemmas.Bool.{leb-true}
use Rattle.r2_base.specs.Limits.{greatest_member, most_body}
use Rattle.r2_base.specs.declared.entry.Kind.{Kind}
use Rattle.hc_message.specs.declared.field_fault.FieldFault.{FieldFault}
use Rattle.hc_message.specs.declared.field_fault.FieldFault.TheVariants as field
use Rattle.hc_message.specs.declared.msg.Msg.{Msg}
use Rattle.hc_message.specs.declared.msg.Msg.TheVariants.{VoteReq, Vote, Ack, Nack, AggCommit, RecoverAsk, RecoverBody}
use Rattle.hc_message.specs.Entry.{kind_number}
use Rattle.hc_message.specs.Faults.{msg_fault_of}
use Rattle.hc_message.specs.Fields.{of_fields, kind_of, front_byte, front_flag, front_kind, front_number, front_small}
use Rattle.hc_message.specs.Message.{IsValid}
use Rattle.hc_message.specs.Reading.{decode_message, front_ack, front_ask, front_body, front_commit, front_fields, front_entries, front_index, front_member, front_nack, front_order, front_order_head, front_term, front_vote, front_vote_request, order_of}
use Rattle.hc_message.proofs.Takes.{bind_ok, ok_is, test_ok}
use Rattle.hc_message.proofs.FieldLaws.{within_ok}
use Rattle.hc_message.proofs.Taken.{chosen, ended_ok}

-- a message about a body is valid; of another nothing is said
abbrev pub IsValidRecovery : Msg → Type 0
IsValidRecovery (RecoverAsk member) = IsValid (RecoverAsk member)
IsValidRecovery (RecoverBody kind body) = IsValid (RecoverBody kind body)
IsValidRecovery _ = Unit {0}

vote_request_read : (bytes : List ℕ) (x : Msg × List ℕ) → front_vote_request bytes ≡ Ok x → IsValidRecovery x.0
unfolding front_vote_request
vote_request_read bytes x e =
    let a = bind_ok (front_term bytes) _ _ e in
    let b = bind_ok (front_member a.0.1) _ _ a.2 in
    let c = bind_ok (front_index b.0.1) _ _ b.2 in
    let d = bind_ok (front_number 0 a.0.0 c.0.1) _ _ c.2 in
    subst (λ (y : Msg × List ℕ). IsValidRecovery y.0) (ok_is (VoteReq a.0.0 b.0.0 c.0.0 d.0.0, d.0.1) x d.2) tt

vote_read : (bytes : List ℕ) (x : Msg × List ℕ) → front_vote bytes ≡ Ok x → IsValidRecovery x.0
unfolding front_vote
vote_read bytes x e =
    let a = bind_ok (front_term bytes) _ _ e in
    let b = bind_ok (front_member a.0.1) _ _ a.2 in
    let c = bind_ok (front_flag b.0.1) _ _ b.2 in
    subst (λ (y : Msg × List ℕ). IsValidRecovery y.0) (ok_is (Vote a.0.0 b.0.0 c.0.0, c.0.1) x c.2) tt

order_read : (bytes : List ℕ) (x : Msg × List ℕ) → front_order bytes ≡ Ok x → IsValidRecovery x.0
unfolding front_order
order_read bytes x e =
    let a = bind_ok (front_order_head bytes) _ _ e in
    let b = bind_ok (front_entries a.0.0.count (max 1 a.0.0.prev_term) a.0.0.term a.0.1) _ _ a.2 in
    subst (λ (y : Msg × List ℕ). IsValidRecovery y.0) (ok_is (order_of a.0.0 b.0.0, b.0.1) x b.2) tt

ack_read : (bytes : List ℕ) (x : Msg × List ℕ) → front_ack bytes ≡ Ok x → IsValidRecovery x.0
unfolding front_ack
ack_read bytes x e =
    let a = bind_ok (front_term bytes) _ _ e in
    let b = bind_ok (front_member a.0.1) _ _ a.2 in
    let c = bind_ok (front_index b.0.1) _ _ b.2 in
    let d = bind_ok (front_index c.0.1) _ _ c.2 in
    subst (λ (y : Msg × List ℕ). IsValidRecovery y.0) (ok_is (Ack a.0.0 b.0.0 c.0.0 d.0.0, d.0.1) x d.2) tt

nack_read : (bytes : List ℕ) (x : Msg × List ℕ) → front_nack bytes ≡ Ok x → IsValidRecovery x.0
unfolding front_nack
nack_read bytes x e =
    let a = bind_ok (front_term bytes) _ _ e in
    let b = bind_ok (front_member a.0.1) _ _ a.2 in
    let c = bind_ok (front_index b.0.1) _ _ b.2 in
    subst (λ (y : Msg × List ℕ). IsValidRecovery y.0) (ok_is (Nack a.0.0 b.0.0 c.0.0, c.0.1) x c.2) tt

commit_read : (bytes : List ℕ) (x : Msg × List ℕ) → front_commit bytes ≡ Ok x → IsValidRecovery x.0
unfolding front_commit
commit_read bytes x e =
    let a = bind_ok (front_term bytes) _ _ e in
    let b = bind_ok (front_index a.0.1) _ _ a.2 in
    subst (λ (y : Msg × List ℕ). IsValidRecovery y.0) (ok_is (AggCommit a.0.0 b.0.0, b.0.1) x b.2) tt

-- a number in one byte is in its range
small_read : (least most : ℕ) (bytes : List ℕ) (x : ℕ × List ℕ) → front_small least most bytes ≡ Ok x → (least ≤ x.0) × (x.0 ≤ most)
unfolding front_small
small_read least most bytes x e =
    let a = bind_ok (front_byte bytes) _ _ e in
    let within = within_ok least most a.0 x a.2 in
    (within.low, within.high)

ask_read : (bytes : List ℕ) (x : Msg × List ℕ) → front_ask bytes ≡ Ok x → IsValidRecovery x.0
unfolding front_ask front_member
ask_read bytes x e =
    let a = bind_ok (front_small 0 greatest_member bytes) _ _ e in
    let range = small_read 0 greatest_member bytes a.0 a.1 in
    subst (λ (y : Msg × List ℕ). IsValidRecovery y.0) (ok_is (RecoverAsk a.0.0, a.0.1) x a.2) range.1

kind_low : (n : ℕ) → 1 ≤ n → n ≤ 2 → 1 ≤ kind_number (kind_of n)
kind_low zero low high = absurd (omega (arith, low))
kind_low (suc zero) low high = omega arith
kind_low (suc (suc zero)) low high = omega arith
kind_low (suc (suc (suc n))) low high = absurd (omega (arith, high))

body_read : (bytes : List ℕ) (x : Msg × List ℕ) → front_body bytes ≡ Ok x → IsValidRecovery x.0
unfolding front_body front_kind
body_read bytes x e =
    let a = bind_ok (front_kind 1 bytes) _ _ e in
    let n = bind_ok (front_small 1 2 bytes) _ _ a.1 in
    let range = small_read 1 2 bytes n.0 n.1 in
    let kind = ok_is (kind_of n.0.0, n.0.1) a.0 n.2 in
    let passed = test_ok (leb (length a.0.1) most_body) field.Range (RecoverBody a.0.0 a.0.1, []) x a.2 in
    let low : 1 ≤ kind_number a.0.0 = subst (λ (y : Kind × List ℕ). 1 ≤ kind_number y.0) kind (kind_low n.0.0 range.0 range.1) in
    subst (λ (y : Msg × List ℕ). IsValidRecovery y.0) passed.1 (low, leb-true _ _ passed.0)

-- fields that were read without a fault
fields_ok : {A : Type 0} (r : Result A FieldFault) (x : A) → of_fields msg_fault_of r ≡ Ok x → r ≡ Ok x
fields_ok (Ok y) x e = cc
fields_ok (Err field.Short) x e = absurd cc
fields_ok (Err field.Range) x e = absurd cc

fields_read : (tag : ℕ) (bytes : List ℕ) (x : Msg × List ℕ) → front_fields tag bytes ≡ Ok x → IsValidRecovery x.0
unfolding front_fields
fields_read tag bytes x e =
    elim (chosen (tag == 1) _ _ _ e) [
      | inl h ↦ vote_request_read bytes x (fields_ok _ _ h.1)
      | inr h1 ↦
          elim (chosen (tag == 2) _ _ _ h1.1) [
            | inl h ↦ vote_read bytes x (fields_ok _ _ h.1)
            | inr h2 ↦
                elim (chosen (tag == 3) _ _ _ h2.1) [
                  | inl h ↦ order_read bytes x (fields_ok _ _ h.1)
                  | inr h3 ↦
                      elim (chosen (tag == 4) _ _ _ h3.1) [
                        | inl h ↦ ack_read bytes x (fields_ok _ _ h.1)
                        | inr h4 ↦
                            elim (chosen (tag == 5) _ _ _ h4.1) [
                              | inl h ↦ nack_read bytes x (fields_ok _ _ h.1)
                              | inr h5 ↦
                                  elim (chosen (tag == 6) _ _ _ h5.1) [
                                    | inl h ↦ commit_read bytes x (fields_ok _ _ h.1)
                                    | inr h6 ↦
                                        elim (chosen (tag == 7) _ _ _ h6.1) [
                                          | inl h ↦ ask_read bytes x (fields_ok _ _ h.1)
                                          | inr h7 ↦
                                              elim (chosen (tag == 8) _ _ _ h7.1) [
                                                | inl h ↦ body_read bytes x (fields_ok _ _ h.1)
                                                | inr h8 ↦ absurd cc
                                              ]
                                        ]
                                  ]
                            ]
                      ]
                ]
          ]
    ]

pub recovery_is_valid : (bytes : List ℕ) (m : Msg) → decode_message bytes ≡ Ok m → IsValidRecovery m
unfolding decode_message
recovery_is_valid [] m e = absurd cc
recovery_is_valid (tag ∷ bytes) m e = fields_read tag bytes (m, []) (ended_ok (front_fields tag bytes) m e)
