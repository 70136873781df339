-- Which ids are answered, after further datagrams.
use Rattle.std.proofs.Common.{◌≡◌, ℕ, suc, ◌||◌, Bool, true, false, List, [], ◌∷◌, ◌++◌, length, map, refl, sym, ap, ◌∙◌, arith}
use Rattle.std.specs.List.{range_with_len}
use Rattle.std.proofs.lemmas.List.Folds.{list_any-append}
use Rattle.std.proofs.lemmas.List.FromFn.{length-map-range_with_len}
use Rattle.r2_base.specs.declared.datagram.Datagram.{Datagram}
use Rattle.r2_base.specs.Limits.{id_limit}
use Rattle.hc_world.specs.Notes.{answered_in, is_answered, replies_to}
use Rattle.hc_world.specs.Steps.{either}

pub or_false : (a : Bool) → (a || false) ≡ a
or_false true = refl
or_false false = refl

or_assoc : (a b c : Bool) → ((a || b) || c) ≡ (a || (b || c))
or_assoc true b c = refl
or_assoc false b c = refl

-- the same item is in both
either-map : (f g : ℕ → Bool) (ids : List ℕ) → either (map f ids) (map g ids) ≡ map (λ id. f id || g id) ids
either-map f g [] = refl
either-map f g (id ∷ more) = ap (λ (rest : List Bool). (f id || g id) ∷ rest) (either-map f g more)

pub map-same : (f g : ℕ → Bool) (ids : List ℕ) → ((id : ℕ) → f id ≡ g id) → map f ids ≡ map g ids
map-same f g [] same = refl
map-same f g (id ∷ more) same =
    ap (λ (b : Bool). b ∷ map f more) (same id) ∙ ap (λ (rest : List Bool). g id ∷ rest) (map-same f g more same)

-- more datagrams
pub answered-append : (xs ys : List Datagram) → answered_in (xs ++ ys) ≡ either (answered_in xs) (answered_in ys)
unfolding answered_in
answered-append xs ys =
    let ids = range_with_len 0 id_limit in
    map-same (is_answered (xs ++ ys)) (λ id. is_answered xs id || is_answered ys id) ids (λ id. list_any-append (replies_to id) xs ys)
    ∙ sym (either-map (is_answered xs) (is_answered ys) ids)

pub either-assoc : (xs ys zs : List Bool) → length ys ≡ length xs → either (either xs ys) zs ≡ either xs (either ys zs)
either-assoc [] ys zs same = refl
either-assoc (x ∷ xs) [] zs same = absurd cc
either-assoc (x ∷ xs) (y ∷ ys) [] same = refl
either-assoc (x ∷ xs) (y ∷ ys) (z ∷ zs) same =
    ap (λ (w : Bool). w ∷ either (either xs ys) zs) (or_assoc x y z)
    ∙ ap (λ (rest : List Bool). (x || (y || z)) ∷ rest) (either-assoc xs ys zs (omega (arith, same)))

pub either-length : (xs ys : List Bool) → length (either xs ys) ≡ length xs
either-length [] ys = refl
either-length (x ∷ xs) [] = refl
either-length (x ∷ xs) (y ∷ ys) = ap (λ (n : ℕ). suc n) (either-length xs ys)

pub answered-length : (datagrams : List Datagram) → length (answered_in datagrams) ≡ id_limit
unfolding answered_in
answered-length datagrams = length-map-range_with_len (is_answered datagrams) 0 id_limit
