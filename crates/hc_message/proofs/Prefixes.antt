-- Prefixes of a message's bytes, and bytes with others after them.
use Rattle.std.proofs.Common.{◌≡◌, ℕ, zero, suc, ◌<◌, ◌⊎◌, inl, inr, max, Bool, true, false, cond, leb, List, [], ◌∷◌, ◌++◌, length, Result, Ok, Err, refl, sym, ap, subst, length-append, arith}
use Rattle.std.specs.Prelude.{◌==◌}
use Rattle.std.proofs.lemmas.Bool.{cases_Bool, leb-false, lt-leb}
use Rattle.std.proofs.lemmas.Bool.Decides.{nat_tests}
use Rattle.r2_base.specs.declared.entry.Kind.{Kind}
use Rattle.r2_base.specs.Limits.{most_body}
use Rattle.hc_message.specs.declared.field_fault.FieldFault.{FieldFault}
use Rattle.hc_message.specs.declared.field_fault.FieldFault.TheVariants as field
use Rattle.hc_message.specs.declared.msg.Msg.{Msg}
use Rattle.hc_message.specs.declared.msg.Msg.TheVariants.{VoteReq, Vote, Order, Ack, Nack, AggCommit, RecoverAsk, RecoverBody}
use Rattle.hc_message.specs.declared.msg_fault.MsgFault.{MsgFault}
use Rattle.hc_message.specs.declared.msg_fault.MsgFault.TheVariants.{Short, Tag, Range}
use Rattle.hc_message.specs.Faults.{msg_fault_of}
use Rattle.hc_message.specs.Fields.{◌>>=◌, front_kind, front_small, of_fields}
use Rattle.hc_message.specs.Laws.{FitsMessage, HasEnd, PrefixesAreShort, RangeStays, TagIsTheFirstByte}
use Rattle.hc_message.specs.Message.{IsValid, message_bytes}
use Rattle.hc_message.specs.Reading.{decode_message, ended, front_ack, front_ask, front_body, front_commit, front_entries, front_fields, front_index, front_member, front_nack, front_order, front_order_head, front_term, front_vote, front_vote_request}
use Rattle.hc_message.proofs.Again.{spelling_is_read}
use Rattle.hc_message.proofs.Stays.{IsSteady, Stays, entry_stays, flag_stays, kind_stays, number_stays, small_stays, stays_then}
use Rattle.hc_message.proofs.Taken.{chosen, ended_ok}

-- ---- the fields of each message stay

term_stays : IsSteady front_term
unfolding front_term
term_stays = number_stays 1 _

index_stays : IsSteady front_index
unfolding front_index
index_stays = number_stays 0 _

member_stays : IsSteady front_member
unfolding front_member
member_stays = small_stays 0 _

entries_stay : (count least most : ℕ) → IsSteady (front_entries count least most)
unfolding front_entries
entries_stay zero least most bytes rest = refl
entries_stay (suc count) least most bytes rest =
    stays_then _ _ _ rest (entry_stays least most bytes rest) (λ first. stays_then _ _ _ rest (entries_stay count first.0.term most first.1 rest) (λ others. refl))

vote_request_stays : IsSteady front_vote_request
unfolding front_vote_request
vote_request_stays bytes rest =
    stays_then _ _ _ rest (term_stays bytes rest) (λ term. stays_then _ _ _ rest (member_stays term.1 rest) (λ member. stays_then _ _ _ rest (index_stays member.1 rest) (λ last. stays_then _ _ _ rest (number_stays 0 term.0 last.1 rest) (λ last_term. refl))))

vote_stays : IsSteady front_vote
unfolding front_vote
vote_stays bytes rest =
    stays_then _ _ _ rest (term_stays bytes rest) (λ term. stays_then _ _ _ rest (member_stays term.1 rest) (λ member. stays_then _ _ _ rest (flag_stays member.1 rest) (λ granted. refl)))

head_stays : IsSteady front_order_head
unfolding front_order_head
head_stays bytes rest =
    stays_then _ _ _ rest (term_stays bytes rest) (λ term. stays_then _ _ _ rest (member_stays term.1 rest) (λ leader. stays_then _ _ _ rest (index_stays leader.1 rest) (λ prev_index. stays_then _ _ _ rest (number_stays 0 term.0 prev_index.1 rest) (λ prev_term. stays_then _ _ _ rest (term_stays prev_term.1 rest) (λ start. stays_then _ _ _ rest (index_stays start.1 rest) (λ commit. stays_then _ _ _ rest (flag_stays commit.1 rest) (λ via. stays_then _ _ _ rest (small_stays 0 _ via.1 rest) (λ count. refl))))))))

order_stays : IsSteady front_order
unfolding front_order
order_stays bytes rest =
    stays_then _ _ _ rest (head_stays bytes rest) (λ head. stays_then _ _ _ rest (entries_stay head.0.count (max 1 head.0.prev_term) head.0.term head.1 rest) (λ entries. refl))

ack_stays : IsSteady front_ack
unfolding front_ack
ack_stays bytes rest =
    stays_then _ _ _ rest (term_stays bytes rest) (λ term. stays_then _ _ _ rest (member_stays term.1 rest) (λ member. stays_then _ _ _ rest (index_stays member.1 rest) (λ index. stays_then _ _ _ rest (index_stays index.1 rest) (λ applied. refl))))

nack_stays : IsSteady front_nack
unfolding front_nack
nack_stays bytes rest =
    stays_then _ _ _ rest (term_stays bytes rest) (λ term. stays_then _ _ _ rest (member_stays term.1 rest) (λ member. stays_then _ _ _ rest (index_stays member.1 rest) (λ hint. refl)))

commit_stays : IsSteady front_commit
unfolding front_commit
commit_stays bytes rest =
    stays_then _ _ _ rest (term_stays bytes rest) (λ term. stays_then _ _ _ rest (index_stays term.1 rest) (λ index. refl))

ask_stays : IsSteady front_ask
unfolding front_ask
ask_stays bytes rest = stays_then _ _ _ rest (member_stays bytes rest) (λ member. refl)

-- ---- the fields after a tag, of bytes and of longer ones

abbrev Fields : Type 0
Fields = Result (Msg × List ℕ) MsgFault

abbrev Read : Type 0
Read = Result (Msg × List ℕ) FieldFault

abbrev of : Read → Fields
of read = of_fields msg_fault_of read

both : {A : Type 0} (b : Bool) (x y x' y' : A) (P : A → A → Type 0) → P x x' → P y y' → P (cond b x y) (cond b x' y')
both true x y x' y' P p q = p
both false x y x' y' P p q = q

-- what holds of the fields of each message holds of those after any tag
by_tag : (P : Fields → Fields → Type 0) (bytes longer : List ℕ) → P (of (front_vote_request bytes)) (of (front_vote_request longer)) → P (of (front_vote bytes)) (of (front_vote longer))
    → P (of (front_order bytes)) (of (front_order longer)) → P (of (front_ack bytes)) (of (front_ack longer)) → P (of (front_nack bytes)) (of (front_nack longer))
    → P (of (front_commit bytes)) (of (front_commit longer)) → P (of (front_ask bytes)) (of (front_ask longer)) → P (of (front_body bytes)) (of (front_body longer))
    → P (Err Tag) (Err Tag) → (tag : ℕ) → P (front_fields tag bytes) (front_fields tag longer)
unfolding front_fields
by_tag P bytes longer p1 p2 p3 p4 p5 p6 p7 p8 none tag =
    both (tag == 1) _ _ _ _ P p1 (both (tag == 2) _ _ _ _ P p2 (both (tag == 3) _ _ _ _ P p3 (both (tag == 4) _ _ _ _ P p4 (both (tag == 5) _ _ _ _ P p5 (both (tag == 6) _ _ _ _ P p6 (both (tag == 7) _ _ _ _ P p7 (both (tag == 8) _ _ _ _ P p8 none)))))))

-- ---- what is out of range stays so

abbrev KeepsRange : Fields → Fields → Type 0
KeepsRange r longer = r ≡ Err Range → longer ≡ Err Range

range_kept : (r longer : Read) (rest : List ℕ) → Stays r rest longer → KeepsRange (of r) (of longer)
range_kept (Ok x) longer rest same e = absurd cc
range_kept (Err field.Range) longer rest same e = rw same refl
range_kept (Err field.Short) longer rest same e = absurd cc

-- a body that is too long stays so
abbrev sized : Kind × List ℕ → Read
sized x = cond (leb (length x.1) most_body) (Ok (RecoverBody x.0 x.1, [])) (Err field.Range)

sized_range : (x : Kind × List ℕ) (rest : List ℕ) → of (sized x) ≡ Err Range → of (sized (x.0, x.1 ++ rest)) ≡ Err Range
sized_range x rest e =
    elim (cases_Bool (leb (length x.1) most_body)) [
      | inl short ↦ (let some = rw short at e in absurd cc)
      | inr long ↦
          let over : most_body < length x.1 = leb-false _ _ long in
          let longer : leb (length (x.1 ++ rest)) most_body ≡ false = lt-leb _ _ (omega (arith, length-append x.1 rest)) in
          rw longer refl
    ]

body_range : (kind longer : Result (Kind × List ℕ) FieldFault) (rest : List ℕ) → Stays kind rest longer → KeepsRange (of (kind >>= sized)) (of (longer >>= sized))
body_range (Ok x) longer rest same e = rw same (sized_range x rest e)
body_range (Err field.Range) longer rest same e = rw same refl
body_range (Err field.Short) longer rest same e = absurd cc

body_keeps_range : (bytes rest : List ℕ) → KeepsRange (of (front_body bytes)) (of (front_body (bytes ++ rest)))
unfolding front_body
body_keeps_range bytes rest = body_range (front_kind 1 bytes) (front_kind 1 (bytes ++ rest)) rest (kind_stays 1 bytes rest)

fields_keep_range : (tag : ℕ) (bytes rest : List ℕ) → KeepsRange (front_fields tag bytes) (front_fields tag (bytes ++ rest))
fields_keep_range tag bytes rest =
    by_tag KeepsRange bytes (bytes ++ rest) (range_kept _ _ rest (vote_request_stays bytes rest)) (range_kept _ _ rest (vote_stays bytes rest)) (range_kept _ _ rest (order_stays bytes rest)) (range_kept _ _ rest (ack_stays bytes rest)) (range_kept _ _ rest (nack_stays bytes rest)) (range_kept _ _ rest (commit_stays bytes rest)) (range_kept _ _ rest (ask_stays bytes rest)) (body_keeps_range bytes rest) (λ e. absurd cc) tag

ended_range : (r : Fields) → ended r ≡ Err Range → r ≡ Err Range
ended_range (Ok (m, [])) e = absurd cc
ended_range (Ok (m, b ∷ rest)) e = absurd cc
ended_range (Err fault) e = cc

pub range_stays : RangeStays
unfolding decode_message
range_stays [] rest e = absurd cc
range_stays (tag ∷ bytes) rest e =
    ap ended (fields_keep_range tag bytes rest (ended_range (front_fields tag bytes) e))

-- ---- each proper prefix is short

-- the fields end too early, where longer bytes are exactly a message's
abbrev EndsShort : Msg → List ℕ → Fields → Fields → Type 0
EndsShort m rest r longer = longer ≡ Ok (m, []) → (r ≡ Err Short) ⊎ (rest ≡ [])

pair_is : (x y : Msg × List ℕ) → of (Ok x) ≡ of (Ok y) → x ≡ y
pair_is x y e = cc

front_empty : (front rest : List ℕ) → front ++ rest ≡ [] → rest ≡ []
front_empty [] rest e = e
front_empty (b ∷ front) rest e = absurd cc

nothing_after : (x : Msg × List ℕ) (m : Msg) (rest : List ℕ) → of (Ok (x.0, x.1 ++ rest)) ≡ of (Ok (m, [])) → rest ≡ []
nothing_after x m rest e = front_empty x.1 rest (ap (λ (p : Msg × List ℕ). p.1) (pair_is (x.0, x.1 ++ rest) (m, []) e))

ends_short : (m : Msg) (rest : List ℕ) (r longer : Read) → Stays r rest longer → EndsShort m rest (of r) (of longer)
ends_short m rest (Ok x) longer same e = inr (nothing_after x m rest (rw same at e))
ends_short m rest (Err field.Range) longer same e = (let none = rw same at e in absurd cc)
ends_short m rest (Err field.Short) longer same e = inl refl

-- a body isn't read as another message
sized_is : (b : Bool) (kind : Kind) (body : List ℕ) (m : Msg) → HasEnd m → of (cond b (Ok (RecoverBody kind body, [])) (Err field.Range)) ≡ Ok (m, []) → ⊥
sized_is true kind body m has e =
    let same : RecoverBody kind body ≡ m = ap (λ (p : Msg × List ℕ). p.0) (pair_is (RecoverBody kind body, []) (m, []) e) in
    subst HasEnd (sym same) has
sized_is false kind body m has e = cc

body_is : (kind : Result (Kind × List ℕ) FieldFault) (m : Msg) → HasEnd m → of (kind >>= sized) ≡ Ok (m, []) → ⊥
body_is (Ok x) m has e = sized_is (leb (length x.1) most_body) x.0 x.1 m has e
body_is (Err field.Short) m has e = cc
body_is (Err field.Range) m has e = cc

no_body : (m : Msg) (bytes : List ℕ) → HasEnd m → of (front_body bytes) ≡ Ok (m, []) → ⊥
unfolding front_body
no_body m bytes has e = body_is (front_kind 1 bytes) m has e

fields_end_short : (m : Msg) → HasEnd m → (tag : ℕ) (bytes rest : List ℕ) → EndsShort m rest (front_fields tag bytes) (front_fields tag (bytes ++ rest))
fields_end_short m has tag bytes rest =
    by_tag (EndsShort m rest) bytes (bytes ++ rest) (ends_short m rest _ _ (vote_request_stays bytes rest)) (ends_short m rest _ _ (vote_stays bytes rest)) (ends_short m rest _ _ (order_stays bytes rest)) (ends_short m rest _ _ (ack_stays bytes rest)) (ends_short m rest _ _ (nack_stays bytes rest)) (ends_short m rest _ _ (commit_stays bytes rest)) (ends_short m rest _ _ (ask_stays bytes rest)) (λ e. absurd (no_body m (bytes ++ rest) has e)) (λ e. absurd cc) tag

-- a message that says itself where it ends
prefix_short : (m : Msg) (prefix rest : List ℕ) → HasEnd m → decode_message (prefix ++ rest) ≡ Ok m → (decode_message prefix ≡ Err Short) ⊎ (rest ≡ [])
unfolding decode_message
prefix_short m [] rest has read = inl refl
prefix_short m (tag ∷ bytes) rest has read =
    elim (fields_end_short m has tag bytes rest (ended_ok (front_fields tag (bytes ++ rest)) m read)) [
      | inl short ↦ inl (ap ended short)
      | inr none ↦ inr none
    ]

-- where a prefix is shorter than the whole, something follows it
prefix_is_short : (m : Msg) (prefix rest : List ℕ) → HasEnd m → FitsMessage m → IsValid m → message_bytes m ≡ prefix ++ rest → length prefix < length (message_bytes m) → decode_message prefix ≡ Err Short
prefix_is_short m prefix rest has fits valid same shorter =
    let read : decode_message (prefix ++ rest) ≡ Ok m = spelling_is_read m (prefix ++ rest) fits (record { valid = valid; same = sym same }) in
    elim (prefix_short m prefix rest has read) [
      | inl short ↦ short
      | inr none ↦
          let joined = length-append prefix rest in
          let whole = ap length same in
          let nothing : length rest ≡ 0 = ap length none in
          absurd (omega (arith, joined, whole, nothing, shorter))
    ]

-- a body's bytes before its kind
before_kind : (kind : Kind) (body prefix rest : List ℕ) → message_bytes (RecoverBody kind body) ≡ prefix ++ rest → length prefix < 2 → decode_message prefix ≡ Err Short
unfolding decode_message front_fields front_body front_kind front_small message_bytes
before_kind kind body [] rest same shorter = refl
before_kind kind body (tag ∷ []) rest same shorter =
    let is : 8 ≡ tag = cc in
    rw (← is) refl
before_kind kind body (tag ∷ b ∷ bytes) rest same shorter = absurd (omega arith)

pub prefixes_are_short : PrefixesAreShort
prefixes_are_short (VoteReq term member last_index last_term) prefix rest fits valid same shorter = prefix_is_short (VoteReq term member last_index last_term) prefix rest tt fits valid same shorter
prefixes_are_short (Vote term member granted) prefix rest fits valid same shorter = prefix_is_short (Vote term member granted) prefix rest tt fits valid same shorter
prefixes_are_short (Order term leader prev_index prev_term term_start commit via es) prefix rest fits valid same shorter = prefix_is_short (Order term leader prev_index prev_term term_start commit via es) prefix rest tt fits valid same shorter
prefixes_are_short (Ack term member index applied) prefix rest fits valid same shorter = prefix_is_short (Ack term member index applied) prefix rest tt fits valid same shorter
prefixes_are_short (Nack term member hint) prefix rest fits valid same shorter = prefix_is_short (Nack term member hint) prefix rest tt fits valid same shorter
prefixes_are_short (AggCommit term index) prefix rest fits valid same shorter = prefix_is_short (AggCommit term index) prefix rest tt fits valid same shorter
prefixes_are_short (RecoverAsk member) prefix rest fits valid same shorter = prefix_is_short (RecoverAsk member) prefix rest tt fits valid same shorter
prefixes_are_short (RecoverBody kind body) prefix rest fits valid same shorter = before_kind kind body prefix rest same shorter

-- ---- the tag

ended_tag : (r : Fields) → ended r ≡ Err Tag → r ≡ Err Tag
ended_tag (Ok (m, [])) e = absurd cc
ended_tag (Ok (m, b ∷ rest)) e = absurd cc
ended_tag (Err fault) e = cc

not_tag : (r : Read) → of r ≡ Err Tag → ⊥
not_tag (Ok x) e = cc
not_tag (Err field.Short) e = cc
not_tag (Err field.Range) e = cc

outside : (tag : ℕ) → (tag == 1) ≡ false → (tag == 2) ≡ false → (tag == 3) ≡ false → (tag == 4) ≡ false → (tag == 5) ≡ false → (tag == 6) ≡ false → (tag == 7) ≡ false → (tag == 8) ≡ false → (tag < 1) ⊎ (8 < tag)
outside zero h1 h2 h3 h4 h5 h6 h7 h8 = inl (omega arith)
outside (suc zero) h1 h2 h3 h4 h5 h6 h7 h8 = absurd cc
outside (suc (suc zero)) h1 h2 h3 h4 h5 h6 h7 h8 = absurd cc
outside (suc (suc (suc zero))) h1 h2 h3 h4 h5 h6 h7 h8 = absurd cc
outside (suc (suc (suc (suc zero)))) h1 h2 h3 h4 h5 h6 h7 h8 = absurd cc
outside (suc (suc (suc (suc (suc zero))))) h1 h2 h3 h4 h5 h6 h7 h8 = absurd cc
outside (suc (suc (suc (suc (suc (suc zero)))))) h1 h2 h3 h4 h5 h6 h7 h8 = absurd cc
outside (suc (suc (suc (suc (suc (suc (suc zero))))))) h1 h2 h3 h4 h5 h6 h7 h8 = absurd cc
outside (suc (suc (suc (suc (suc (suc (suc (suc zero)))))))) h1 h2 h3 h4 h5 h6 h7 h8 = absurd cc
outside (suc (suc (suc (suc (suc (suc (suc (suc (suc n))))))))) h1 h2 h3 h4 h5 h6 h7 h8 = inr (omega arith)

tag_is_other : (tag : ℕ) (bytes : List ℕ) → front_fields tag bytes ≡ Err Tag → (tag < 1) ⊎ (8 < tag)
unfolding front_fields
tag_is_other tag bytes e =
    elim (chosen (tag == 1) _ _ _ e) [
      | inl h1 ↦ absurd (not_tag _ h1.1)
      | inr h1 ↦
          elim (chosen (tag == 2) _ _ _ h1.1) [
            | inl h2 ↦ absurd (not_tag _ h2.1)
            | inr h2 ↦
                elim (chosen (tag == 3) _ _ _ h2.1) [
                  | inl h3 ↦ absurd (not_tag _ h3.1)
                  | inr h3 ↦
                      elim (chosen (tag == 4) _ _ _ h3.1) [
                        | inl h4 ↦ absurd (not_tag _ h4.1)
                        | inr h4 ↦
                            elim (chosen (tag == 5) _ _ _ h4.1) [
                              | inl h5 ↦ absurd (not_tag _ h5.1)
                              | inr h5 ↦
                                  elim (chosen (tag == 6) _ _ _ h5.1) [
                                    | inl h6 ↦ absurd (not_tag _ h6.1)
                                    | inr h6 ↦
                                        elim (chosen (tag == 7) _ _ _ h6.1) [
                                          | inl h7 ↦ absurd (not_tag _ h7.1)
                                          | inr h7 ↦
                                              elim (chosen (tag == 8) _ _ _ h7.1) [
                                                | inl h8 ↦ absurd (not_tag _ h8.1)
                                                | inr h8 ↦ outside tag h1.0 h2.0 h3.0 h4.0 h5.0 h6.0 h7.0 h8.0
                                              ]
                                        ]
                                  ]
                            ]
                      ]
                ]
          ]
    ]

above : (n k : ℕ) → k < n → (n == k) ≡ false
above n k h = grind (arith, nat_tests)

other_is_tag : (tag : ℕ) (bytes : List ℕ) → (tag < 1) ⊎ (8 < tag) → front_fields tag bytes ≡ Err Tag
unfolding front_fields
other_is_tag zero bytes other = refl
other_is_tag (suc n) bytes (inl low) = absurd (omega arith)
other_is_tag (suc n) bytes (inr high) =
    rw (above (suc n) 1 (omega arith), above (suc n) 2 (omega arith), above (suc n) 3 (omega arith), above (suc n) 4 (omega arith), above (suc n) 5 (omega arith), above (suc n) 6 (omega arith), above (suc n) 7 (omega arith), above (suc n) 8 (omega arith)) refl

pub tag_is_the_first_byte : TagIsTheFirstByte
unfolding decode_message
tag_is_the_first_byte [] = ((λ e. cc), (λ none. absurd none))
tag_is_the_first_byte (tag ∷ bytes) = (
  (λ e. tag_is_other tag bytes (ended_tag (front_fields tag bytes) e)),
  (λ other. ap ended (other_is_tag tag bytes other)),
)
