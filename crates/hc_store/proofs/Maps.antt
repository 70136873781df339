-- A map of the standard library, read as the finite map of its entries.
use Rattle.std.proofs.Common.{◌≡◌, ℕ, Bool, true, false, cond, List, [], ◌∷◌, length, refl, sym, ap, subst, ◌∙◌}
use Rattle.std.specs.Prelude.{Some, None, T, ◌&&◌}
use Rattle.std.specs.Ordering.{nat_cmp, eq_by_cmp, is_lt, is_le}
use Rattle.std.specs.Cmp.{eq_by_cmp_equiv}
use Rattle.std.specs.Cmp.Lexicographic.{slice_cmp, nat_list_cmp_total}
use Rattle.std.specs.FinMap as finite
use Rattle.std.specs.FinMap.Entries.{find, is_sorted, below_all}
use Rattle.std.specs.List.{AllByRecursion, filter}
use Rattle.std.specs.List.Sorted.{IsStrictlySortedBy}
use Rattle.std.specs.Map.{lookup, keys_of}
use Rattle.std.specs.BTreeMap as tree
use Rattle.std.specs.BTreeMap.Range.{entries_between}
use Rattle.std.specs.declared.ops.Bound.TheVariants.{Included, Unbounded}
use Rattle.std.specs.declared.cmp.Ordering.{Ordering}
use Rattle.std.specs.declared.cmp.Ordering.TheVariants.{Less}
use Rattle.hc_store.specs.Service.{pairs_from}

-- the order of byte lists
abbrev pub R : List ℕ → List ℕ → Ordering
R = slice_cmp nat_cmp

pub R-IsAntisymmetric : finite.IsAntisymmetric R
R-IsAntisymmetric = finite.slice_cmp-IsAntisymmetric finite.nat_cmp-IsAntisymmetric

find_is_lookup : {X : Type 0} (q : List ℕ) (es : List (List ℕ × X)) → find R q es ≡ lookup (tree.is_at (R q)) es
find_is_lookup q [] = refl
find_is_lookup q (e ∷ es) = ap (cond (eq_by_cmp R q e.0) (Some e.1)) (find_is_lookup q es)

-- what a look-up in the finite map gives
pub get_is_lookup : {X : Type 0} (m : tree.BTreeMap (List ℕ) X) (q : List ℕ) → finite.get (finite.from_entries {R = R} m.entries) q ≡ tree.get_by (R q) m
get_is_lookup m q = finite.get-from_entries nat_list_cmp_total m.entries q ∙ find_is_lookup q m.entries

-- a value put into one map is put into the other
pub insert_is_insert : {X : Type 0} (m n : tree.BTreeMap (List ℕ) X) (k : List ℕ) (v : X) → ((q : List ℕ) → tree.get R n q ≡ cond (tree.is_at (R k) q) (Some v) (tree.get R m q)) → finite.from_entries {R = R} n.entries ≡ finite.insert (finite.from_entries m.entries) k v
insert_is_insert m n k v updated =
    finite.same_map nat_list_cmp_total R-IsAntisymmetric _ _ (λ q.
    get_is_lookup n q ∙ updated q
    ∙ ap (λ b. cond b (Some v) (tree.get R m q)) ((eq_by_cmp_equiv nat_list_cmp_total).symm k q)
    ∙ sym (finite.get-insert nat_list_cmp_total (finite.from_entries m.entries) k v q ∙ ap (cond (eq_by_cmp R q k) (Some v)) (get_is_lookup m q)))

-- a key taken out of one map is taken out of the other
pub remove_is_remove : {X : Type 0} (m n : tree.BTreeMap (List ℕ) X) (k : List ℕ) → ((q : List ℕ) → tree.get R n q ≡ cond (tree.is_at (R k) q) None (tree.get R m q)) → finite.from_entries {R = R} n.entries ≡ finite.remove (finite.from_entries m.entries) k
remove_is_remove m n k updated =
    finite.same_map nat_list_cmp_total R-IsAntisymmetric _ _ (λ q.
    get_is_lookup n q ∙ updated q
    ∙ ap (λ b. cond b None (tree.get R m q)) ((eq_by_cmp_equiv nat_list_cmp_total).symm k q)
    ∙ sym (finite.get-remove nat_list_cmp_total (finite.from_entries m.entries) k q ∙ ap (cond (eq_by_cmp R q k) None) (get_is_lookup m q)))

both : (a b : Bool) → T a → T b → T (a && b)
both true b p q = q
both false b p q = p

below-from_all : {X : Type 0} (k : List ℕ) (es : List (List ℕ × X)) → AllByRecursion (λ y. R k y ≡ Less) (keys_of es) → T (below_all R k es)
below-from_all k [] h = tt
below-from_all k (e ∷ es) h = both _ _ (subst (λ r. T (is_lt r)) (sym h.0) tt) (below-from_all k es h.1)

-- keys in their strict order, as a test
pub is_sorted-from_sorted : {X : Type 0} (es : List (List ℕ × X)) → IsStrictlySortedBy R (keys_of es) → T (is_sorted R es)
unfolding IsStrictlySortedBy
is_sorted-from_sorted [] h = tt
is_sorted-from_sorted (e ∷ es) h = both _ _ (below-from_all e.0 es h.0) (is_sorted-from_sorted es h.1)

-- the map of entries in order has those entries
pub entries-from_entries : {X : Type 0} (es : List (List ℕ × X)) → T (is_sorted R es) → finite.entries (finite.from_entries {R = R} es) ≡ es
entries-from_entries es sorted =
    ap finite.entries (finite.same_map nat_list_cmp_total R-IsAntisymmetric (finite.from_entries es) (finite.from_sorted es)
    (λ q. finite.get-from_entries nat_list_cmp_total es q ∙ sym (finite.get-from_sorted R es q sorted)))
    ∙ finite.entries-from_sorted R es sorted

-- the finite map of a map of the standard library has the same entries
pub entries_of_tree : {X : Type 0} (m : tree.BTreeMap (List ℕ) X) → tree.IsOrdered R m → finite.entries (finite.from_entries {R = R} m.entries) ≡ m.entries
entries_of_tree m ordered = entries-from_entries m.entries (is_sorted-from_sorted m.entries ordered)

-- and as many
pub len_of_tree : {X : Type 0} (m : tree.BTreeMap (List ℕ) X) → tree.IsOrdered R m → finite.len (finite.from_entries {R = R} m.entries) ≡ length m.entries
len_of_tree m ordered = finite.len-entries (finite.from_entries m.entries) ∙ ap length (entries_of_tree m ordered)

and-true : (b : Bool) → (b && true) ≡ b
and-true true = refl
and-true false = refl

filter-same : {X : Type 0} (p q : X → Bool) → ((x : X) → p x ≡ q x) → (xs : List X) → filter p xs ≡ filter q xs
filter-same p q same [] = refl
filter-same p q same (x ∷ xs) = λ i. cond (same x i) (x ∷ filter-same p q same xs i) (filter-same p q same xs i)

-- what a range from a key on gives
pub pairs_of_range : (m : tree.BTreeMap (List ℕ) (List ℕ)) (k : List ℕ) → tree.IsOrdered R m
    → entries_between R (Included k) Unbounded m.entries ≡ pairs_from (finite.from_entries m.entries) k
unfolding pairs_from
pairs_of_range m k ordered =
    filter-same _ _ (λ e. and-true (is_le (R k e.0))) m.entries
    ∙ ap (filter (λ e. is_le (R k e.0))) (sym (entries_of_tree m ordered))
