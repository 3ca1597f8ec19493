-- Values of the first names, before those of the others; and the values of a map of pairs.
use Rattle.std.proofs.Common.{◌≡◌, ℕ, suc, ◌+◌, ◌<◌, Bool, true, false, cond, List, [], ◌∷◌, ◌++◌, length, get_or, drop, drop-cons, append_assoc, Option, Some, None, Result, Ok, Err, refl, sym, ap, ◌∙◌, subst, arith}
use Rattle.std.specs.Prelude.{OnOk, bytes_eq, is_err}
use Rattle.std.specs.Borrow.{Bor}
use Rattle.std.specs.BTreeMap.{BTreeMap, UpdatesBy}
use Rattle.std.specs.Cmp.Lexicographic.{slice_cmp}
use Rattle.std.specs.Option.{option_copied}
use Rattle.std.specs.Ordering.{nat_cmp}
use Rattle.std.proofs.lemmas.Map.Text.{btree_map_updates_str}
use Rattle.my_value.specs.declared.value.Value.{Value}
use Rattle.my_params.specs.declared.params.ParamsError.{ParamsError}
use Rattle.my_params.specs.declared.params.ParamsError.TheVariants.{Missing, Kind, NoMemory}
use Rattle.my_params.specs.ParamValues.{FillsTo, MissesOrFails, first_of, last_value, value_in, with_value}

abbrev pub after_values : List Value → Result (List Value) (List ℕ) → Result (List Value) (List ℕ)
after_values front (Ok vs) = Ok (front ++ vs)
after_values front (Err name) = Err name

-- the item at a place, before those after it
pub at_front : {X : Type 0} (xs : List X) (i : ℕ) (x : X) → i < length xs → x ≡ get_or xs i x → x ∷ drop (i + 1) xs ≡ drop i xs
at_front xs i x within is =
    let next : suc i ≡ i + 1 = omega arith in
    ap (λ y. y ∷ drop (i + 1) xs) is ∙ subst (λ n. get_or xs i x ∷ drop n xs ≡ drop i xs) next (sym (drop-cons xs i x within))

first_of-first_of : (a b c : Option Value) → first_of (first_of a b) c ≡ first_of a (first_of b c)
first_of-first_of None b c = refl
first_of-first_of (Some x) b c = refl

-- whether the pair has this name or not
either : (here : Bool) (v : Bor Value) (o : Option (Bor Value)) → option_copied (cond here (Some v) o) ≡ first_of (cond here (Some v.now) None) (option_copied o)
either true v o = refl
either false v o = refl

-- a pair goes from the front of those that come into the map
pub noted : (rest : List (List ℕ × Value)) (k : Bor (List ℕ)) (v : Bor Value) (m n : BTreeMap (Bor (List ℕ)) (Bor Value))
    → UpdatesBy (λ x y. slice_cmp nat_cmp x.now y.now) (λ x. slice_cmp nat_cmp k.now x.now) m n (Some v)
    → (q : List ℕ) → first_of (last_value q rest) (option_copied (value_in q n)) ≡ first_of (last_value q ((k.now, v.now) ∷ rest)) (option_copied (value_in q m))
noted rest k v m n u q =
    let late = last_value q rest in
    ap (λ o. first_of late (option_copied o)) (btree_map_updates_str k.now m n (Some v) u q)
    ∙ ap (first_of late) (either (bytes_eq k.now q) v (value_in q m))
    ∙ sym (first_of-first_of late (cond (bytes_eq k.now q) (Some v.now) None) (option_copied (value_in q m)))

-- a name has a value, which comes after those of the earlier names
pub more_values : (front : List Value) (name : List ℕ) (o : Option Value) (v : Value) → o ≡ Some v → (more : Result (List Value) (List ℕ))
    → after_values (front ++ v ∷ []) more ≡ after_values front (with_value name o more)
more_values front name o v e (Ok vs) = rw e (ap Ok (append_assoc front (v ∷ []) vs))
more_values front name o v e (Err missing) = rw e refl

-- it has none
pub no_value : (front : List Value) (name : List ℕ) (o : Option Value) → o ≡ None → (more : Result (List Value) (List ℕ))
    → after_values front (with_value name o more) ≡ Err name
no_value front name o e more = rw e refl

pub misses : (A : Type 0) (r : ParamsError) (name : List ℕ) (expected : Result (List Value) (List ℕ)) → MissesOrFails r name → Err name ≡ expected
    → FillsTo {A = A} (Err r) expected
misses A (Missing n) name expected m e = sym e ∙ ap Err (sym m)
misses A Kind name expected m e = m
misses A NoMemory name expected m e = tt

pub holds_at_ok : {T E : Type 0} {P : Type 0} (r : Result T E) → is_err r ≡ false → OnOk r P → P
holds_at_ok (Ok x) e p = p
holds_at_ok (Err x) e p = absurd (cc)
