-- A few requests in their order.
use Rattle.std.proofs.Common.{◌≡◌, ℕ, [], ◌∷◌, length, take, cond, refl, ap, ◌∙◌, if◌then◌else◌}
use Rattle.std.specs.Prelude.{nat_le, not, Some, None}
use Rattle.std.specs.List.{filter, flat_map}
use Rattle.std.specs.Ordering.{eq_by_cmp, is_le}
use Rattle.std.specs.FinMap as map
use Rattle.std.specs.FinMap.Entries.{where_key}
use Rattle.r2_base.specs.declared.entry.Kind.TheVariants.{Write, Read}
use Rattle.r2_base.specs.Numbers.{u16_bytes, u64_bytes}
use Rattle.hc_store.specs.Command.{command_of}
use Rattle.hc_store.specs.Service.{Served, answered, written, looked_up, taken_out, exchanged, pair_bytes, pairs_from, fitting, scanned, most_bytes, most_scanned, serve}
use Rattle.hc_store.specs.Examples.{with_a, four_entries, RequestsInOrder, RepliesInLog}
use Rattle.hc_store.specs.Replies.{after_all, payload_of, reply_of, reply_at}
use Rattle.hc_store.proofs.Maps.{R}
use Rattle.hc_store.proofs.Sizes.{entries-remove}
use Rattle.hc_store.proofs.OnePair.{entries-one, get-one, insert-one, size-one}

put : serve map.empty Write (0x50 ∷ 0 ∷ 1 ∷ 0x61 ∷ 1 ∷ []) ≡ answered (with_a 1) 0 []
unfolding serve command_of
put = ap (λ n. if nat_le n most_bytes then answered (with_a 1) 0 [] else answered map.empty 5 []) (size-one (0x61 ∷ []) (1 ∷ []))

a_has : (n : ℕ) → map.get (with_a n) (0x61 ∷ []) ≡ cond (eq_by_cmp R (0x61 ∷ []) (0x61 ∷ [])) (Some (n ∷ [])) None
a_has n = get-one (0x61 ∷ []) (n ∷ []) (0x61 ∷ [])

exchanged_a : serve (with_a 1) Write (0x43 ∷ 0 ∷ 1 ∷ 0x61 ∷ 0 ∷ 1 ∷ 1 ∷ 2 ∷ []) ≡ answered (with_a 2) 0 []
unfolding serve command_of
exchanged_a =
    ap (exchanged (with_a 1) (0x61 ∷ []) (1 ∷ []) (2 ∷ [])) (a_has 1)
    ∙ ap (written (with_a 1)) (insert-one (0x61 ∷ []) (1 ∷ []) (2 ∷ []) refl)
    ∙ ap (λ n. if nat_le n most_bytes then answered (with_a 2) 0 [] else answered (with_a 1) 5 []) (size-one (0x61 ∷ []) (2 ∷ []))

differs : serve (with_a 2) Write (0x43 ∷ 0 ∷ 1 ∷ 0x61 ∷ 0 ∷ 1 ∷ 1 ∷ 2 ∷ []) ≡ answered (with_a 2) 2 (2 ∷ [])
unfolding serve command_of
differs = ap (exchanged (with_a 2) (0x61 ∷ []) (1 ∷ []) (2 ∷ [])) (a_has 2)

absent : serve (with_a 2) Write (0x44 ∷ 0 ∷ 1 ∷ 0x62 ∷ []) ≡ answered (with_a 2) 1 []
unfolding serve command_of
absent = ap (taken_out (with_a 2) (0x62 ∷ [])) (get-one (0x61 ∷ []) (2 ∷ []) (0x62 ∷ []))

count : serve (with_a 2) Read (0x4E ∷ []) ≡ answered (with_a 2) 0 (0 ∷ 0 ∷ 0 ∷ 0 ∷ 0 ∷ 0 ∷ 0 ∷ 1 ∷ [])
unfolding serve command_of u64_bytes
count = ap (λ n. answered (with_a 2) 0 (u64_bytes n)) (map.len-entries (with_a 2) ∙ ap length (entries-one (0x61 ∷ []) (2 ∷ [])))

pairs : serve (with_a 2) Read (0x53 ∷ 0 ∷ 0 ∷ 0 ∷ 0x0A ∷ []) ≡ answered (with_a 2) 0 (0 ∷ 1 ∷ 0x61 ∷ 0 ∷ 1 ∷ 2 ∷ [])
unfolding serve command_of scanned pairs_from fitting pair_bytes u16_bytes
pairs =
    ap (λ es. answered (with_a 2) 0 (flat_map pair_bytes (fitting most_scanned (take 10 (filter (λ pair. is_le (R [] pair.0)) es)))))
    (entries-one (0x61 ∷ []) (2 ∷ []))

malformed : serve (with_a 2) Read (0x47 ∷ 0 ∷ 1 ∷ 0x61 ∷ 0x62 ∷ []) ≡ answered (with_a 2) 3 []
unfolding serve command_of
malformed = refl

read_only : serve (with_a 2) Read (0x50 ∷ 0 ∷ 1 ∷ 0x61 ∷ 1 ∷ []) ≡ answered (with_a 2) 4 []
unfolding serve command_of
read_only = refl

pub found : (n : ℕ) → serve (with_a n) Read (0x47 ∷ 0 ∷ 1 ∷ 0x61 ∷ []) ≡ answered (with_a n) 0 (n ∷ [])
unfolding serve command_of
found n = ap (looked_up (with_a n)) (a_has n)

nothing_left : map.remove (with_a 2) (0x61 ∷ []) ≡ map.empty
nothing_left =
    map.empty_of_len _ (map.len-entries (map.remove (with_a 2) (0x61 ∷ []))
    ∙ ap length (entries-remove (with_a 2) (0x61 ∷ []) ∙ ap (where_key R (λ x. not (eq_by_cmp R (0x61 ∷ []) x))) (entries-one (0x61 ∷ []) (2 ∷ []))))

taken : serve (with_a 2) Write (0x44 ∷ 0 ∷ 1 ∷ 0x61 ∷ []) ≡ answered map.empty 0 []
unfolding serve command_of
taken = ap (taken_out (with_a 2) (0x61 ∷ [])) (a_has 2) ∙ ap (λ m. answered m 0 []) nothing_left

pub requests_in_order : RequestsInOrder
requests_in_order =
    record {
      put = put;
      exchanged = exchanged_a;
      differs = differs;
      absent = absent;
      count = count;
      pairs = pairs;
      malformed = malformed;
      read_only = read_only;
      found = found 2;
      taken_out = taken;
    }

reply_to_put : reply_at four_entries 2 ≡ Some (0 ∷ 0 ∷ 0 ∷ 0 ∷ 0 ∷ 0 ∷ 0 ∷ 2 ∷ 0 ∷ [])
unfolding reply_at after_all payload_of u64_bytes
reply_to_put = ap (λ s. Some (reply_of 2 s)) put

reply_to_get : reply_at four_entries 3 ≡ Some (0 ∷ 0 ∷ 0 ∷ 0 ∷ 0 ∷ 0 ∷ 0 ∷ 3 ∷ 0 ∷ 1 ∷ [])
unfolding reply_at after_all payload_of u64_bytes
reply_to_get =
    ap (λ (s : Served). Some (reply_of 3 (serve s.contents Read (0x47 ∷ 0 ∷ 1 ∷ 0x61 ∷ [])))) put
    ∙ ap (λ s. Some (reply_of 3 s)) (found 1)

no_reply_to_blank : reply_at four_entries 1 ≡ None
unfolding reply_at
no_reply_to_blank = refl

no_reply_outside : reply_at four_entries 5 ≡ None
unfolding reply_at
no_reply_outside = refl

pub replies_in_a_log : RepliesInLog
replies_in_a_log = record { blank = no_reply_to_blank; put = reply_to_put; found = reply_to_get; outside = no_reply_outside }
