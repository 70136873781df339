-- The values that the service keeps stay short, and its replies with them.
use Rattle.std.proofs.Common.{◌≡◌, ℕ, zero, suc, ◌+◌, ◌≤◌, cond, subst, length-append, Bool, true, false, List, [], ◌∷◌, length, take, drop, Option, None, Some, refl, sym, ap, ◌∙◌, arith, length-drop}
use Rattle.std.specs.Prelude.{◌==◌, if◌then◌else◌, nat_le, IfSome, option_and_then, slice_get}
use Rattle.std.proofs.lemmas.Option.{same_Some}
use Rattle.std.proofs.lemmas.List.Elements.{All-take}
use Rattle.r2_base.specs.Numbers.{u64_bytes}
use Rattle.hc_store.specs.Replies.{Operation, after_all, after_entry, entry_reply, payload_of, reply_at}
use Rattle.std.specs.Ordering.{nat_cmp, eq_by_cmp}
use Rattle.std.specs.Cmp.Lexicographic.{slice_cmp, nat_list_cmp_total}
use Rattle.std.specs.Str.{bytes_eq}
use Rattle.std.specs.FinMap as finite
use Rattle.std.specs.declared.cmp.Ordering.{Ordering}
use Rattle.r2_base.specs.declared.entry.Kind.{Kind}
use Rattle.r2_base.specs.declared.entry.Kind.TheVariants.{Blank, Write, Read}
use Rattle.r2_base.proofs.NumberBytes.{length-u64_bytes}
use Rattle.hc_store.specs.Command.{Command, Get, Put, Del, Cas, Scan, Count, two_bytes, sized_field, get_command, put_command, del_command, exchange, cas_command, scan_command, count_command, command_of, get_tag, put_tag, del_tag, cas_tag, scan_tag, count_tag}
use Rattle.hc_store.specs.Service.{Contents, Served, done, absent, different, malformed, read_only, full, most_bytes, most_scanned, size_of, answered, written, looked_up, taken_out, exchanged, scanned, changing, executed, serve}
use Rattle.hc_store.proofs.Fronts.{a_scan_is_the_longest_front}
use Rattle.hc_store.specs.Short.{AreShort, HasShortBodies, IsShortAnswer}
use Rattle.r2_base.specs.Limits.{most_body, most_reply}

-- a command that sets no value but one that may be kept
abbrev IsShortSet : Option Command → Type 0
IsShortSet None = Unit {0}
IsShortSet (Some (Get key)) = Unit {0}
IsShortSet (Some (Put key value)) = length value ≤ most_body
IsShortSet (Some (Del key)) = Unit {0}
IsShortSet (Some (Cas key old new)) = length new ≤ most_body
IsShortSet (Some (Scan key limit)) = Unit {0}
IsShortSet (Some Count) = Unit {0}

abbrev BackIsShort : Option (List ℕ × List ℕ) → Type 0
BackIsShort fields = IfSome fields (λ f. length f.1 ≤ most_body)

back_by : (b : Bool) (n : ℕ) (rest : List ℕ) → length rest ≤ most_body → BackIsShort (if b then Some (take n rest, drop n rest) else None)
back_by true n rest h = let left = length-drop n rest in omega (arith, left, h)
back_by false n rest h = tt

back_short : (bytes : List ℕ) → length bytes ≤ most_body → BackIsShort (sized_field bytes)
back_short [] h = tt
back_short (a ∷ []) h = tt
back_short (a ∷ b ∷ rest) h = back_by (nat_le (two_bytes a b) (length rest)) (two_bytes a b) rest (omega arith)

get_short : (fields : Option (List ℕ × List ℕ)) → IsShortSet (option_and_then get_command fields)
get_short None = tt
get_short (Some (key, [])) = tt
get_short (Some (key, b ∷ more)) = tt

put_short : (fields : Option (List ℕ × List ℕ)) → BackIsShort fields → IsShortSet (option_and_then put_command fields)
put_short None h = tt
put_short (Some (key, value)) h = h

del_short : (fields : Option (List ℕ × List ℕ)) → IsShortSet (option_and_then del_command fields)
del_short None = tt
del_short (Some (key, [])) = tt
del_short (Some (key, b ∷ more)) = tt

exchange_short : (key : List ℕ) (fields : Option (List ℕ × List ℕ)) → BackIsShort fields → IsShortSet (option_and_then (exchange key) fields)
exchange_short key None h = tt
exchange_short key (Some (old, new)) h = h

cas_short : (fields : Option (List ℕ × List ℕ)) → BackIsShort fields → IsShortSet (option_and_then cas_command fields)
cas_short None h = tt
cas_short (Some (key, rest)) h = exchange_short key (sized_field rest) (back_short rest h)

scan_short : (fields : Option (List ℕ × List ℕ)) → IsShortSet (option_and_then scan_command fields)
scan_short None = tt
scan_short (Some (key, [])) = tt
scan_short (Some (key, a ∷ [])) = tt
scan_short (Some (key, a ∷ b ∷ [])) = tt
scan_short (Some (key, a ∷ b ∷ c ∷ more)) = tt

count_short : (rest : List ℕ) → IsShortSet (count_command rest)
count_short [] = tt
count_short (b ∷ more) = tt

module _ (rest : List ℕ) (h : length rest ≤ most_body) where
  tagged_short : (get put del cas scan count : Bool) → IsShortSet (if get then option_and_then get_command (sized_field rest)
      else (if put then option_and_then put_command (sized_field rest)
      else (if del then option_and_then del_command (sized_field rest)
      else (if cas then option_and_then cas_command (sized_field rest)
      else (if scan then option_and_then scan_command (sized_field rest)
      else (if count then count_command rest else None))))))
  tagged_short true put del cas scan count = get_short (sized_field rest)
  tagged_short false true del cas scan count = put_short (sized_field rest) (back_short rest h)
  tagged_short false false true cas scan count = del_short (sized_field rest)
  tagged_short false false false true scan count = cas_short (sized_field rest) (back_short rest h)
  tagged_short false false false false true count = scan_short (sized_field rest)
  tagged_short false false false false false true = count_short rest
  tagged_short false false false false false false = tt

command_short : (body : List ℕ) → length body ≤ most_body → IsShortSet (command_of body)
unfolding command_of
command_short [] h = tt
command_short (tag ∷ rest) h = tagged_short rest (omega arith) (tag == get_tag) (tag == put_tag) (tag == del_tag) (tag == cas_tag) (tag == scan_tag) (tag == count_tag)

abbrev R : List ℕ → List ℕ → Ordering
R = slice_cmp nat_cmp

insert_by : (contents : Contents) (b : Bool) (q value v : List ℕ) → AreShort contents → length value ≤ most_body
    → cond b (Some value) (finite.get contents q) ≡ Some v → length v ≤ most_body
insert_by contents true q value v all short e = let same : value ≡ v = cc in let size : length value ≡ length v = cc in omega (arith, size, short)
insert_by contents false q value v all short e = all q v e

insert_short : (contents : Contents) (key value : List ℕ) → AreShort contents → length value ≤ most_body → AreShort (finite.insert contents key value)
insert_short contents key value all short = λ q v e.
    insert_by contents (eq_by_cmp R q key) q value v all short (sym (finite.get-insert nat_list_cmp_total contents key value q) ∙ e)

remove_by : (contents : Contents) (b : Bool) (q v : List ℕ) → AreShort contents → cond b None (finite.get contents q) ≡ Some v → length v ≤ most_body
remove_by contents true q v all e = cc
remove_by contents false q v all e = all q v e

remove_short : (contents : Contents) (key : List ℕ) → AreShort contents → AreShort (finite.remove contents key)
remove_short contents key all = λ q v e.
    remove_by contents (eq_by_cmp R q key) q v all (sym (finite.get-remove nat_list_cmp_total contents key q) ∙ e)

answered_short : (contents : Contents) (status : ℕ) (value : List ℕ) → AreShort contents → length value ≤ most_scanned → IsShortAnswer (answered contents status value)
answered_short contents status value all short = record { value = short; contents = all }

written_by : (b : Bool) (contents changed : Contents) → AreShort contents → AreShort changed → IsShortAnswer (if b then answered changed done [] else answered contents full [])
written_by true contents changed all new = answered_short changed done [] new (omega arith)
written_by false contents changed all new = answered_short contents full [] all (omega arith)

written_short : (contents changed : Contents) → AreShort contents → AreShort changed → IsShortAnswer (written contents changed)
written_short contents changed all new = written_by (nat_le (size_of changed) most_bytes) contents changed all new

looked_up_short : (contents : Contents) (key : List ℕ) (found : Option (List ℕ)) → finite.get contents key ≡ found → AreShort contents
    → IsShortAnswer (looked_up contents found)
looked_up_short contents key None e all = answered_short contents absent [] all (omega arith)
looked_up_short contents key (Some value) e all = let short = all key value e in answered_short contents done value all (omega (arith, short))

taken_out_short : (contents : Contents) (key : List ℕ) (found : Option (List ℕ)) → AreShort contents → IsShortAnswer (taken_out contents key found)
taken_out_short contents key None all = answered_short contents absent [] all (omega arith)
taken_out_short contents key (Some value) all = answered_short (finite.remove contents key) done [] (remove_short contents key all) (omega arith)

exchanged_by : (b : Bool) (contents : Contents) (key new present : List ℕ) → AreShort contents → length new ≤ most_body → length present ≤ most_body
    → IsShortAnswer (if b then written contents (finite.insert contents key new) else answered contents different present)
exchanged_by true contents key new present all short had = written_short contents (finite.insert contents key new) all (insert_short contents key new all short)
exchanged_by false contents key new present all short had = answered_short contents different present all (omega (arith, had))

exchanged_short : (contents : Contents) (key old new : List ℕ) (found : Option (List ℕ)) → finite.get contents key ≡ found → AreShort contents → length new ≤ most_body
    → IsShortAnswer (exchanged contents key old new found)
exchanged_short contents key old new None e all short = answered_short contents absent [] all (omega arith)
exchanged_short contents key old new (Some present) e all short = exchanged_by (bytes_eq present old) contents key new present all short (all key present e)

scanned_short : (contents : Contents) (key : List ℕ) (limit : ℕ) → length (scanned contents key limit) ≤ most_scanned
scanned_short contents key limit =
    let scan = a_scan_is_the_longest_front contents key limit in
    let same = ap length scan.2.bytes in
    let size = scan.2.size in
    omega (arith, same, size)

changing_short : (contents : Contents) (kind : Kind) (changed : Served) → AreShort contents → IsShortAnswer changed → IsShortAnswer (changing contents kind changed)
changing_short contents Read changed all short = answered_short contents read_only [] all (omega arith)
changing_short contents Write changed all short = short
changing_short contents Blank changed all short = short

executed_short : (contents : Contents) (kind : Kind) (c : Option Command) → AreShort contents → IsShortSet c → IsShortAnswer (executed contents kind c)
executed_short contents kind None all short = answered_short contents malformed [] all (omega arith)
executed_short contents kind (Some (Get key)) all short = looked_up_short contents key (finite.get contents key) refl all
executed_short contents kind (Some (Put key value)) all short =
    changing_short contents kind _ all (written_short contents (finite.insert contents key value) all (insert_short contents key value all short))
executed_short contents kind (Some (Del key)) all short =
    changing_short contents kind _ all (taken_out_short contents key (finite.get contents key) all)
executed_short contents kind (Some (Cas key old new)) all short =
    changing_short contents kind _ all (exchanged_short contents key old new (finite.get contents key) refl all short)
executed_short contents kind (Some (Scan key limit)) all short = answered_short contents done (scanned contents key limit) all (scanned_short contents key limit)
executed_short contents kind (Some Count) all short =
    let size = length-u64_bytes (finite.len contents) in answered_short contents done _ all (omega (arith, size))

-- a request whose body fits its limit has a short answer, and leaves short values
pub served_short : (contents : Contents) (kind : Kind) (body : List ℕ) → AreShort contents → length body ≤ most_body → IsShortAnswer (serve contents kind body)
unfolding serve
served_short contents kind body all short = executed_short contents kind (command_of body) all (command_short body short)

pub no_values : AreShort finite.empty
no_values key value e = let none = finite.get-empty {K = List ℕ} {X = List ℕ} R key in cc

-- the index and the status come before the value
pub length-payload_of : (index status : ℕ) (value : List ℕ) → length (payload_of index status value) ≡ length value + 9
unfolding payload_of
length-payload_of index status value =
    let long = length-append (u64_bytes index) (status ∷ value) in
    let eight = length-u64_bytes index in
    omega (arith, long, eight)

pub payload_short : (index status : ℕ) (value : List ℕ) → length value ≤ most_scanned → length (payload_of index status value) ≤ most_reply
payload_short index status value short = let long = length-payload_of index status value in omega (arith, long, short)

-- one entry leaves short values
entry_short : (contents : Contents) (kind : Kind) (body : List ℕ) → AreShort contents → length body ≤ most_body → AreShort (after_entry contents kind body)
entry_short contents Blank body all short = all
entry_short contents Write body all short = (served_short contents Write body all short).contents
entry_short contents Read body all short = (served_short contents Read body all short).contents

-- of a log that begins with one entry more
first_short : (o : Operation) (log : List Operation) → HasShortBodies (o ∷ log) → length o.body ≤ most_body
first_short o log h = h 0 o (omega arith)

rest_short : (o : Operation) (log : List Operation) → HasShortBodies (o ∷ log) → HasShortBodies log
rest_short o log h = λ k d l. h (suc k) d (omega (arith, l))

-- so do the entries of a log
pub log_short : (contents : Contents) (log : List Operation) → AreShort contents → HasShortBodies log → AreShort (after_all contents log)
unfolding after_all
log_short contents [] all short = all
log_short contents (o ∷ log) all short = log_short (after_entry contents o.kind o.body) log (entry_short contents o.kind o.body all (first_short o log short)) (rest_short o log short)

-- the reply to one entry is short
reply_short : (contents : Contents) (index : ℕ) (kind : Kind) (body payload : List ℕ) → AreShort contents → length body ≤ most_body
    → entry_reply contents index kind body ≡ Some payload → length payload ≤ most_reply
reply_short contents index Blank body payload all short e = cc
reply_short contents index Write body payload all short e =
    let served = serve contents Write body in
    subst (λ (p : List ℕ). length p ≤ most_reply) (same_Some _ payload e) (payload_short index served.status served.value (served_short contents Write body all short).value)
reply_short contents index Read body payload all short e =
    let served = serve contents Read body in
    subst (λ (p : List ℕ). length p ≤ most_reply) (same_Some _ payload e) (payload_short index served.status served.value (served_short contents Read body all short).value)

short_at : (log : List Operation) (n : ℕ) → HasShortBodies log → IfSome (slice_get log n) (λ (o : Operation). length o.body ≤ most_body)
short_at [] n h = tt
short_at (o ∷ log) zero h = first_short o log h
short_at (o ∷ log) (suc n) h = short_at log n (rest_short o log h)

pub values_stay_short : (log : List Operation) → HasShortBodies log → AreShort (after_all finite.empty log)
values_stay_short log h = log_short finite.empty log no_values h

found_short : (contents : Contents) (index : ℕ) (found : Option Operation) (payload : List ℕ) → AreShort contents → IfSome found (λ (o : Operation). length o.body ≤ most_body)
    → option_and_then (λ (o : Operation). entry_reply contents index o.kind o.body) found ≡ Some payload → length payload ≤ most_reply
found_short contents index None payload all short e = cc
found_short contents index (Some o) payload all short e = reply_short contents index o.kind o.body payload all short e

pub replies_are_short : (log : List Operation) (index : ℕ) (payload : List ℕ) → HasShortBodies log → reply_at log index ≡ Some payload → length payload ≤ most_reply
unfolding reply_at
replies_are_short log zero payload h e = cc
replies_are_short log (suc before) payload h e =
    found_short (after_all finite.empty (take before log)) (suc before) (slice_get log before) payload (values_stay_short (take before log) (All-take (λ (o : Operation). length o.body ≤ most_body) before log h)) (short_at log before h) e
