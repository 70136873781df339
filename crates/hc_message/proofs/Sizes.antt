-- How many bytes messages have.
use Rattle.std.proofs.Common.{◌≡◌, ◌+◌, ◌*◌, List, [], ◌∷◌, length, refl, ap, ◌∙◌, arith, length-append}
use Rattle.std.specs.List.{flat_map}
use Rattle.std.proofs.lemmas.List.Concat.{flat_map-cons}
use Rattle.r2_base.specs.declared.rid.Rid.{Rid}
use Rattle.r2_base.specs.declared.entry.Entry.{Entry}
use Rattle.r2_base.proofs.NumberBytes.{length-u16_bytes, length-u32_bytes, length-u64_bytes}
use Rattle.hc_message.specs.declared.msg.Msg.TheVariants.{VoteReq, Vote, Order, Ack, Nack, AggCommit, RecoverAsk, RecoverBody}
use Rattle.hc_message.specs.Entry.{narrow_entry_bytes, narrow_entry_size, narrow_rid_bytes}
use Rattle.hc_message.specs.Laws.{SpellingsAreShort}
use Rattle.hc_message.specs.Message.{message_bytes}

length-rid_bytes : (r : Rid) → length (narrow_rid_bytes r) ≡ 8
unfolding narrow_rid_bytes
length-rid_bytes r =
    simp length-append (omega (arith, length-u32_bytes r.client.ip, length-u16_bytes r.client.port, length-u16_bytes r.id))

pub length-entry_bytes : (e : Entry) → length (narrow_entry_bytes e) ≡ narrow_entry_size
unfolding narrow_entry_bytes
length-entry_bytes e =
    simp length-append (omega (arith, length-u64_bytes e.term, length-rid_bytes e.rid))

length-entries : (es : List Entry) → length (flat_map narrow_entry_bytes es) ≡ length es * narrow_entry_size
length-entries [] = refl
length-entries (e ∷ es) =
    let joined : length (flat_map narrow_entry_bytes (e ∷ es)) ≡ length (narrow_entry_bytes e) + length (flat_map narrow_entry_bytes es) = ap length (flat_map-cons narrow_entry_bytes e es) ∙ length-append (narrow_entry_bytes e) (flat_map narrow_entry_bytes es) in
    omega (arith, joined, length-entry_bytes e, length-entries es)

pub spellings_are_short : SpellingsAreShort
unfolding message_bytes
spellings_are_short (VoteReq term member last_index last_term) v =
    simp length-append (omega (arith, length-u64_bytes term, length-u64_bytes last_index, length-u64_bytes last_term))
spellings_are_short (Vote term member granted) v = simp length-append (omega (arith, length-u64_bytes term))
spellings_are_short (Order term leader prev_index prev_term term_start commit via es) v =
    let count = v.1.count in
    simp length-append (omega (arith, length-u64_bytes term, length-u64_bytes prev_index, length-u64_bytes prev_term, length-u64_bytes term_start, length-u64_bytes commit, length-entries es))
spellings_are_short (Ack term member index applied) v =
    simp length-append (omega (arith, length-u64_bytes term, length-u64_bytes index, length-u64_bytes applied))
spellings_are_short (Nack term member hint) v =
    simp length-append (omega (arith, length-u64_bytes term, length-u64_bytes hint))
spellings_are_short (AggCommit term index) v =
    simp length-append (omega (arith, length-u64_bytes term, length-u64_bytes index))
spellings_are_short (RecoverAsk member) v = omega arith
spellings_are_short (RecoverBody kind body) v = let short = v.1 in omega arith
