-- The bytes of all keys and values, where one pair is set or taken out.
use Rattle.std.proofs.Common.{◌≡◌, ℕ, ◌+◌, ◌≤◌, Bool, true, false, cond, List, [], ◌∷◌, length, refl, sym, ap, subst, ◌∙◌, arith}
use Rattle.std.specs.Prelude.{Option, Some, None, T, not, ◌&&◌, sum_by}
use Rattle.std.specs.Ordering.{eq_by_cmp, is_lt, is_eq}
use Rattle.std.specs.Cmp.{alike_right, eq_by_cmp_equiv}
use Rattle.std.specs.Cmp.Lexicographic.{nat_list_cmp_total}
use Rattle.std.specs.FinMap as finite
use Rattle.std.specs.FinMap.Entries.{find, put, by_order, where_key, is_sorted, below_all, is_sorted-where_key, find-where_key}
use Rattle.std.proofs.lemmas.List.Sums.{sum_by-cons}
use Rattle.std.specs.declared.cmp.Ordering.{Ordering}
use Rattle.std.specs.declared.cmp.Ordering.TheVariants.{Less, Equal, Greater}
use Rattle.hc_store.specs.Service.{Contents, pair_size, size_of}
use Rattle.hc_store.specs.Tree.{IsMeasured, found_size}
use Rattle.hc_store.proofs.Maps.{R, R-IsAntisymmetric, entries-from_entries, entries_of_tree, get_is_lookup, insert_is_insert, remove_is_remove}
use Rattle.std.specs.BTreeMap as tree

total-cons : (e : List ℕ × List ℕ) (es : List (List ℕ × List ℕ)) → sum_by pair_size (e ∷ es) ≡ length e.0 + length e.1 + sum_by pair_size es
total-cons e es = sum_by-cons pair_size e es

less : (o : Ordering) → T (is_lt o) → o ≡ Less
less Less p = refl
less Equal p = absurd p
less Greater p = absurd p

both : (a b : Bool) → T a → T b → T (a && b)
both true b p q = q
both false b p q = p

first : (a b : Bool) → T (a && b) → T a
first true b p = tt
first false b p = p

second : (a b : Bool) → T (a && b) → T b
second true b p = p
second false b p = absurd p

-- a key below all keys isn't found
find_below : (q : List ℕ) (es : List (List ℕ × List ℕ)) → T (below_all R q es) → find R q es ≡ None
find_below q [] h = refl
find_below q (e ∷ es) h = ap (λ r. cond (is_eq r) (Some e.1) (find R q es)) (less _ (first _ _ h)) ∙ find_below q es (second _ _ h)

below_more : (x y : List ℕ) (es : List (List ℕ × List ℕ)) → R x y ≡ Less → T (below_all R y es) → T (below_all R x es)
below_more x y [] p h = tt
below_more x y (e ∷ es) p h = both _ _ (subst (λ r. T (is_lt r)) (sym (nat_list_cmp_total.trans x y e.0 p (less _ (first _ _ h)))) tt) (below_more x y es p (second _ _ h))

-- a pair is set in a list in order
size-put : (k v : List ℕ) (es : List (List ℕ × List ℕ)) → T (is_sorted R es)
    → sum_by pair_size (put R k v es) + found_size k (find R k es) ≡ sum_by pair_size es + (length k + length v)
size-put k v [] h = omega (arith, total-cons (k, v) [])
size-put k v (e ∷ es) h = by (R k e.0) refl (size-put k v es (second _ _ h))
  where
    by : (r : Ordering) → R k e.0 ≡ r → sum_by pair_size (put R k v es) + found_size k (find R k es) ≡ sum_by pair_size es + (length k + length v)
        → sum_by pair_size (by_order r ((k, v) ∷ e ∷ es) ((e.0, v) ∷ es) (e ∷ put R k v es)) + found_size k (cond (is_eq r) (Some e.1) (find R k es)) ≡ sum_by pair_size (e ∷ es) + (length k + length v)
    by Less p later = omega (arith, total-cons (k, v) (e ∷ es), ap (found_size k) (find_below k es (below_more k e.0 es p (first _ _ h))))
    by Equal p later = omega (arith, total-cons e es, total-cons (e.0, v) es, ap length (R-IsAntisymmetric k e.0 p))
    by Greater p later = omega (arith, total-cons e es, total-cons e (put R k v es))

-- a key is taken out of a list in order
size-without : (k : List ℕ) (es : List (List ℕ × List ℕ)) → T (is_sorted R es)
    → sum_by pair_size (where_key R (λ x. not (eq_by_cmp R k x)) es) + found_size k (find R k es) ≡ sum_by pair_size es
size-without k [] h = refl
size-without k (e ∷ es) h = by (R k e.0) refl (size-without k es (second _ _ h))
  where
    by : (r : Ordering) → R k e.0 ≡ r → sum_by pair_size (where_key R (λ x. not (eq_by_cmp R k x)) es) + found_size k (find R k es) ≡ sum_by pair_size es
        → sum_by pair_size (cond (not (is_eq r)) (e ∷ where_key R (λ x. not (eq_by_cmp R k x)) es) (where_key R (λ x. not (eq_by_cmp R k x)) es)) + found_size k (cond (is_eq r) (Some e.1) (find R k es)) ≡ sum_by pair_size (e ∷ es)
    by Less p later = omega (arith, total-cons e es, total-cons e (where_key R (λ x. not (eq_by_cmp R k x)) es))
    by Equal p later =
        let key = R-IsAntisymmetric k e.0 p in
        let none : find R k es ≡ None = subst (λ q. find R q es ≡ None) (sym key) (find_below e.0 es (first _ _ h)) in
        omega (arith, total-cons e es, ap length key, ap (found_size k) none)
    by Greater p later = omega (arith, total-cons e es, total-cons e (where_key R (λ x. not (eq_by_cmp R k x)) es))

-- how many bytes there are after a pair was set
pub size-insert : (m : Contents) (k v : List ℕ) → size_of (finite.insert m k v) + found_size k (finite.get m k) ≡ size_of m + (length k + length v)
unfolding size_of
size-insert m k v =
    rw (finite.entries-insert nat_list_cmp_total m k v, finite.get-entries m k) (size-put k v (finite.entries m) (finite.entries_sorted m))

turned : {A : Type 0} (b : Bool) (x y : A) → cond (not b) x y ≡ cond b y x
turned true x y = refl
turned false x y = refl

alike : (k q x : List ℕ) → R q x ≡ Equal → not (eq_by_cmp R k x) ≡ not (eq_by_cmp R k q)
alike k q x t = ap (λ r. not (is_eq r)) (sym (alike_right nat_list_cmp_total q x k t))

-- the entries without one key
pub entries-remove : (m : Contents) (k : List ℕ) → finite.entries (finite.remove m k) ≡ where_key R (λ x. not (eq_by_cmp R k x)) (finite.entries m)
entries-remove m k =
    let left = where_key R (λ x. not (eq_by_cmp R k x)) (finite.entries m) in
    let same : (q : List ℕ) → finite.get (finite.remove m k) q ≡ finite.get (finite.from_entries {R = R} left) q =
    λ q. finite.get-remove nat_list_cmp_total m k q
    ∙ ap (λ b. cond b None (finite.get m q)) ((eq_by_cmp_equiv nat_list_cmp_total).symm q k)
    ∙ ap (cond (eq_by_cmp R k q) None) (finite.get-entries m q)
    ∙ sym (finite.get-from_entries nat_list_cmp_total left q
    ∙ find-where_key R (λ x. not (eq_by_cmp R k x)) q (alike k q) (finite.entries m)
    ∙ turned (eq_by_cmp R k q) (find R q (finite.entries m)) None) in
    ap finite.entries (finite.same_map nat_list_cmp_total R-IsAntisymmetric (finite.remove m k) (finite.from_entries left) same)
    ∙ entries-from_entries left (is_sorted-where_key R (λ x. not (eq_by_cmp R k x)) (finite.entries m) (finite.entries_sorted m))

-- how many bytes there are after a key was taken out
pub size-remove : (m : Contents) (k : List ℕ) → size_of (finite.remove m k) + found_size k (finite.get m k) ≡ size_of m
unfolding size_of
size-remove m k = rw (entries-remove m k, finite.get-entries m k) (size-without k (finite.entries m) (finite.entries_sorted m))

-- nothing is kept, in no bytes
pub IsMeasured-empty : (pairs : tree.BTreeMap (List ℕ) (List ℕ)) → pairs.entries ≡ [] → tree.IsOrdered R pairs → IsMeasured pairs 0
unfolding size_of
IsMeasured-empty pairs none ordered = record {
  ordered = ordered;
  size = sym (ap (sum_by pair_size) (entries_of_tree pairs ordered ∙ none));
}

-- a pair that is found has no more bytes than all
pub found-le : (pairs : tree.BTreeMap (List ℕ) (List ℕ)) (bytes : ℕ) (k : List ℕ) (found : Option (List ℕ)) → IsMeasured pairs bytes → found ≡ tree.get_by (R k) pairs → found_size k found ≤ bytes
found-le pairs bytes k found counted is =
    let m : Contents = finite.from_entries pairs.entries in
    omega (arith, counted.size, size-remove m k, ap (found_size k) (get_is_lookup pairs k), ap (found_size k) is)

-- a pair is set beside others that have so many bytes
pub size-beside : (m : Contents) (others : ℕ) (k v : List ℕ) → others + found_size k (finite.get m k) ≡ size_of m → size_of (finite.insert m k v) ≡ others + (length k + length v)
size-beside m others k v beside = omega (arith, size-insert m k v)

-- a pair was set, in a map whose other pairs had so many bytes
pub IsMeasured-insert : (pairs next : tree.BTreeMap (List ℕ) (List ℕ)) (m : Contents) (others bytes : ℕ) (k v : List ℕ) → finite.from_entries pairs.entries ≡ m
    → others + found_size k (finite.get m k) ≡ size_of m → tree.IsOrdered R next
    → ((q : List ℕ) → tree.get R next q ≡ cond (tree.is_at (R k) q) (Some v) (tree.get R pairs q))
    → bytes ≡ others + (length k + length v) → IsMeasured next bytes
IsMeasured-insert pairs next m others bytes k v view beside ordered updated is =
    let set = insert_is_insert pairs next k v updated in
    record {
      ordered = ordered;
      size = is ∙ sym (size-beside m others k v beside) ∙ ap size_of (sym (set ∙ ap (λ n. finite.insert n k v) view));
    }

-- a key was taken out
pub IsMeasured-remove : (pairs next : tree.BTreeMap (List ℕ) (List ℕ)) (bytes left : ℕ) (k v : List ℕ) → IsMeasured pairs bytes → Some v ≡ tree.get_by (R k) pairs → tree.IsOrdered R next
    → ((q : List ℕ) → tree.get R next q ≡ cond (tree.is_at (R k) q) None (tree.get R pairs q))
    → left + (length k + length v) ≡ bytes → IsMeasured next left
IsMeasured-remove pairs next bytes left k v counted found ordered updated is =
    let m : Contents = finite.from_entries pairs.entries in
    let out = remove_is_remove pairs next k updated in
    let size = size-remove m k in
    let at = ap (found_size k) (found ∙ sym (get_is_lookup pairs k)) in
    record {
      ordered = ordered;
      size = (let sum : left ≡ size_of (finite.remove m k) = omega (arith, counted.size) in sum) ∙ ap size_of (sym out);
    }
