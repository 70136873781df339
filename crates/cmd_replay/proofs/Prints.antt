-- The lines of several datagrams, one after the other.
use Rattle.std.proofs.Common.{◌≡◌, ℕ, ◌+◌, ◌<◌, List, [], ◌∷◌, ◌++◌, length, get_or, take, drop, Option, sym, ap, subst, ◌∙◌, take-append-drop, append-nil}
use Rattle.std.specs.Io.KnownBytes.{Appends}
use Rattle.std.specs.List.{flat_map}
use Rattle.std.proofs.lemmas.Grind.{flat_map-append}
use Rattle.std.proofs.lemmas.List.{take_more}
use Rattle.r2_base.specs.declared.datagram.Datagram.{Datagram}
use Rattle.r2_link.specs.Streams.{AppendsPrefix}
use Rattle.r2_link.proofs.Streams.{Appends-trans, AppendsPrefix-longer, AppendsPrefix-then}
use Rattle.cmd_script.specs.Printed.{out_text}

one_more : (sends : List Datagram) (i : ℕ) (d : Datagram) → i < length sends → d ≡ get_or sends i d → flat_map out_text (take (i + 1) sends) ≡ flat_map out_text (take i sends) ++ out_text d
one_more sends i d inside is =
    ap (flat_map out_text) (take_more sends i d inside ∙ ap (λ x. take i sends ++ x ∷ []) (sym is)) ∙ flat_map-append out_text (take i sends) (d ∷ []) ∙ ap (λ text. flat_map out_text (take i sends) ++ text) (append-nil (out_text d))

-- the lines so far, and the line of the next datagram
pub sent_one_more : (a b c : Option (List ℕ)) (sends : List Datagram) (i : ℕ) (d : Datagram) → i < length sends → d ≡ get_or sends i d → Appends a b (flat_map out_text (take i sends)) → Appends b c (out_text d) → Appends a c (flat_map out_text (take (i + 1) sends))
sent_one_more a b c sends i d inside is before now =
    rw (one_more sends i d inside is) (Appends-trans a b c (flat_map out_text (take i sends)) (out_text d) before now)

-- the lines so far, and a prefix of the line of the next datagram
pub sent_in_part : (a b c : Option (List ℕ)) (sends : List Datagram) (i : ℕ) (d : Datagram) → i < length sends → d ≡ get_or sends i d → Appends a b (flat_map out_text (take i sends)) → AppendsPrefix b c (out_text d) → AppendsPrefix a c (flat_map out_text sends)
sent_in_part a b c sends i d inside is before cut =
    let so_far : AppendsPrefix a c (flat_map out_text (take (i + 1) sends)) = rw (one_more sends i d inside is) (AppendsPrefix-then a b c (flat_map out_text (take i sends)) (out_text d) cut before) in
    let parts = ap (flat_map out_text) (sym (take-append-drop (i + 1) sends)) ∙ flat_map-append out_text (take (i + 1) sends) (drop (i + 1) sends) in
    subst (AppendsPrefix a c) (sym parts) (AppendsPrefix-longer a c (flat_map out_text (take (i + 1) sends)) (flat_map out_text (drop (i + 1) sends)) so_far)
